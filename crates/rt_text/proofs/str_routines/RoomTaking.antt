-- How many blanks and how much of a text have room in a variable.
use Rattle.std.proofs.Common.{◌≡◌, ℕ, ◌+◌, ◌-◌, ◌<◌, inl, inr, List, [], ◌∷◌, Ok, pos, negsuc, refl, ap, ◌∙◌, arith}
use Rattle.std.specs.Prelude.{min}
use Rattle.common_values.specs.integers.Words.{w16, wrapping_sub, cast_signed, is_signed_less}
use Rattle.common_values.specs.Written.{blanks_due}
use Rattle.flat_code.specs.declared.tree.FlatOp.TheVariants as op
use Rattle.flat_code.specs.Tree.{Op, Code, End, ◌then◌}
use Rattle.flat_code.specs.Memory.{Cells, Found, ◌>>=◌}
use Rattle.flat_code.specs.Program.{FlatProgram, Choice}
use Rattle.flat_code.specs.Meaning.{Frame, truth}
use Rattle.runtime_proofs.specs.routine_proofs.Activation.{Shut, Free, Holds, Activation, IsPlaced}
use Rattle.runtime_proofs.specs.routine_proofs.Straight.{Exit, Onward, Came, continued, straight, code_size}
use Rattle.runtime_proofs.specs.routine_proofs.Comes.{Does}
use Rattle.runtime_proofs.proofs.routine_proofs.Replies.{taken-so, other-so}
use Rattle.runtime_proofs.proofs.routine_proofs.Doing.{weaker-does, then-does, straight-does}
use Rattle.runtime_proofs.specs.string_loops.Pieces.{word, limit}
use Rattle.runtime_proofs.proofs.string_loops.Seen.{op-so, set-so}
use Rattle.runtime_proofs.proofs.string_loops.Counts.{limit-so}
use Rattle.rt_text.specs.write_text.Showing.{set_due}
use Rattle.rt_text.specs.str_routines.Routines.{no_blanks, cut_blanks, cut_text, take_room}
use Rattle.rt_text.proofs.str_routines.Widths.{due-decided}

module _ (program : FlatProgram) (choice : Choice) (own : Frame) (sp : ℕ) (is_placed : IsPlaced choice own sp 18) (e : Activation) (ts t0 size w f n : ℕ) (k : Cells) (o : List ℕ) (size_small : size < 256) (n_small : n < 256) (w_small : w < 65536) where
  abbrev Goes : Code → ℕ → ℕ → Activation → Exit → Activation → Type 0
  Goes code turns work a exit b = Does program choice own sp code turns work a exit b

  -- how many blanks are due, and how many bytes of the text are to be moved
  abbrev pub at : ℕ → ℕ → Activation
  at d g = record e { words = Holds ts ∷ Holds t0 ∷ Holds size ∷ Holds 0 ∷ Holds 0 ∷ Holds w ∷ Shut ∷ Shut ∷ Shut ∷ Holds choice.data_segment ∷ Holds f ∷ Holds n ∷ Holds d ∷ Free ∷ Free ∷ Holds g ∷ Free ∷ Free ∷ []; memory = k; out = o }

  abbrev pub due : ℕ
  due = blanks_due (cast_signed w16 w) n

  abbrev pub blanks : ℕ
  blanks = min due size

  abbrev pub moved : ℕ
  moved = min (size - blanks) n

  due-does : (g : ℕ) → Goes set_due 0 12 (at 0 g) Onward (at due g)
  due-does g =
      let a = at 0 g in
      let b = at due g in
      let v = truth (is_signed_less w16 n w) in
      let test = op-so choice own 18 op.Less (word (negsuc 5)) (word (pos 6)) a n w refl refl in
      let off = op-so choice own 18 op.Sub (word (pos 6)) (word (negsuc 5)) a w n refl refl in
      weaker-does program choice own sp set_due 0 (code_size set_due) 0 12 a Onward b (omega arith) (omega arith)
      (straight-does program choice own sp 18 is_placed set_due a Onward b
      (elim (due-decided n w n_small w_small) [
        | inl h ↦ taken-so choice own 18 set_due a v (record { exit = Onward; there = b }) test (λ z. omega (arith, z, h.0))
            (ap (λ (x : Found _). x >>= λ c. continue c) (set-so choice own 18 (negsuc 7) (Op op.Sub (word (pos 6)) (word (negsuc 5))) End a b (wrapping_sub w16 w n) off
            (ap (λ d. let r : Found Activation = Ok (at d g) in r) h.1)))
        | inr h ↦ other-so choice own 18 set_due a v (record { exit = Onward; there = b }) test h.0 (ap (λ d. let r : Found Came = Ok (record { exit = Onward; there = at d g }) in r) h.1)
      ]))
    where
      continue : Came → Found Came
      continue c = continued c.exit c.there (straight choice own 18 End)

  blanks-so : (g : ℕ) → straight choice own 18 cut_blanks (at due g) ≡ Ok (record { exit = Onward; there = at blanks g })
  blanks-so g = limit-so choice own 18 (negsuc 7) (λ d. at d g) (record { word_is = λ v. refl; with_word = λ v w. refl }) (pos 12) End due size (λ v. refl)

  text-so : (g : ℕ) → straight choice own 18 cut_text (at blanks g) ≡ Ok (record { exit = Onward; there = at blanks moved })
  text-so g =
      let left : wrapping_sub w16 size blanks ≡ size - blanks = subtracted size due size_small in
      let value = op-so choice own 18 op.Sub (word (pos 12)) (word (negsuc 7)) (at blanks g) size blanks refl refl ∙ ap (λ v. let r : Found ℕ = Ok v in r) left in
      set-so choice own 18 (negsuc 13) (Op op.Sub (word (pos 12)) (word (negsuc 7))) (limit (negsuc 13) (negsuc 5) End) (at blanks g) (at blanks (size - blanks)) (size - blanks) value refl
      ∙ limit-so choice own 18 (negsuc 13) (λ v. at blanks v) (record { word_is = λ v. refl; with_word = λ v w. refl }) (negsuc 5) End (size - blanks) n (λ v. refl)
    where
      subtracted : (size due : ℕ) → size < 256 → wrapping_sub w16 size (min due size) ≡ size - min due size
      subtracted size due h = omega (arith, h)

  pub room-taken : (y g : ℕ) → Goes take_room 0 64 (at y g) Onward (at blanks moved)
  room-taken y g =
      let a0 = at y g in
      let a1 = at 0 g in
      let a2 = at due g in
      let a3 = at blanks g in
      let a4 = at blanks moved in
      let first = straight-does program choice own sp 18 is_placed no_blanks a0 Onward a1 refl in
      let third = straight-does program choice own sp 18 is_placed cut_blanks a2 Onward a3 (blanks-so g) in
      let fourth = straight-does program choice own sp 18 is_placed cut_text a3 Onward a4 (text-so g) in
      let cut = then-does program choice own sp cut_blanks cut_text 0 (code_size cut_blanks) 0 (code_size cut_text) a2 a3 Onward a4 third fourth in
      let rest = then-does program choice own sp set_due (cut_blanks then cut_text) 0 12 (0 + 0) (code_size cut_blanks + code_size cut_text) a1 a2 Onward a4 (due-does g) cut in
      weaker-does program choice own sp take_room (0 + (0 + (0 + 0))) (code_size no_blanks + (12 + (code_size cut_blanks + code_size cut_text))) 0 64 a0 Onward a4 (omega arith) (omega arith)
      (then-does program choice own sp no_blanks (set_due then (cut_blanks then cut_text)) 0 (code_size no_blanks) (0 + (0 + 0)) (12 + (code_size cut_blanks + code_size cut_text)) a0 a1 Onward a4 first rest)
