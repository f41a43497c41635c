-- The run of the example, by computation.
use Rattle.std.proofs.Common.{◌≡◌, ◌==◌, ◌&&◌, Bool, true, false, List, [], ◌∷◌, length, refl, ap, eqb-true}
use Rattle.cpu_8086.specs.Access.{word_then}
use Rattle.cpu_8086.specs.Arithmetic.{sum_of, difference_of}
use Rattle.cpu_8086.specs.Effect.{act}
use Rattle.x86_table.specs.Spelling.{word_bytes, word_modrm, pair_form, pair_body, pair_override}
use Rattle.resident_machine.specs.Cells.{with_lost}
use Rattle.resident_machine.specs.Effect.{effect_of}
use Rattle.resident_machine.specs.Run.{RunsFramed}
use Rattle.resident_machine.specs.State.{Record, ResidentStatus, Running, Ended, Stopped, ResidentState}
use Rattle.overlay_correctness.specs.Held.{start_of}
use Rattle.overlay_example.specs.Turns.{turns_exe, turns, turns_kept, turns_moves}
use Rattle.resident_tries.specs.Tries.{followed, test}
use Rattle.resident_tries.proofs.TryLaws.{followed_runs, tested, both_true}

abbrev is_zero_end : ResidentStatus → Bool
is_zero_end Running = false
is_zero_end (Ended code) = code == 0
is_zero_end (Stopped segment offset why) = false

zero_end_is : (s : ResidentStatus) → is_zero_end s ≡ true → s ≡ Ended 0
zero_end_is Running e = absurd (cc)
zero_end_is (Ended code) e = ap Ended (eqb-true code 0 e)
zero_end_is (Stopped segment offset why) e = absurd (cc)

abbrev is_none_left : List Record → Bool
is_none_left [] = true
is_none_left (x ∷ others) = false

none_left_is : (records : List Record) → is_none_left records ≡ true → records ≡ []
none_left_is [] e = refl
none_left_is (x ∷ others) e = absurd (cc)

abbrev is_over : ResidentState → Bool
is_over t = is_zero_end t.status && is_none_left t.records

turns_end : test is_over (followed turns turns_moves (start_of turns_kept turns_exe [])) ≡ true
unfolding effect_of act sum_of difference_of with_lost word_bytes word_then word_modrm pair_form pair_body pair_override
turns_end = refl

pub turns_runs : (t : ResidentState) × RunsFramed turns (length turns_moves) (start_of turns_kept turns_exe []) t × (t.status ≡ Ended 0) × (t.records ≡ [])
turns_runs =
    let start : ResidentState = start_of turns_kept turns_exe [] in
    let found = tested is_over (followed turns turns_moves start) turns_end in
    let both = both_true (is_zero_end found.0.status) (is_none_left found.0.records) found.2 in
    (found.0, followed_runs turns turns_moves start found.0 found.1, zero_end_is found.0.status both.0, none_left_is found.0.records both.1)
