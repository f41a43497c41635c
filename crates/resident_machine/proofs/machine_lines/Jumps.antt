-- Jumps land on their lines: near ones, short ones in their place, and those over a few instructions.
use Rattle.std.proofs.Common.{◌≡◌, ℕ, ◌+◌, ◌%◌, ◌<◌, ◌≤◌, Bool, true, false, List, length, arith, refl, sym, ap, subst, ◌∙◌, ⊎_elim}
use Rattle.std.specs.Prelude.{if◌then◌else◌}
use Rattle.std.proofs.Math.Nat.{mod-eq_of_lt}
use Rattle.std.proofs.lemmas.Bool.{lt-ltb, le-ltb, cases_lt}
use Rattle.x86_table.specs.declared.instr.Cond.{Cond}
use Rattle.x86_table.specs.declared.instr.Cond.TheVariants as cond
use Rattle.x86_table.specs.declared.instr.Instr.{Instr}
use Rattle.x86_table.specs.declared.instr.Instr.TheVariants as instr
use Rattle.x86_table.specs.declared.line.Line.TheVariants.{JumpNear, JumpShort}
use Rattle.x86_table.specs.Lines.{byte_distance, word_distance}
use Rattle.x86_table.specs.Spelling.{word_bytes, spelling}
use Rattle.x86_table.specs.Standing.{IsSpelledAt, LineIs, LineStands}
use Rattle.x86_table.proofs.Stand.{near_lands, short_lands_ahead, short_lands_behind}
use Rattle.cpu_8086.specs.declared.registers.Registers.{Registers}
use Rattle.cpu_8086.specs.Access.{Done, at_offset}
use Rattle.cpu_8086.specs.Arithmetic.{sign_extend}
use Rattle.cpu_8086.specs.Effect.{act, holds, jump_by, jump_if}
use Rattle.cpu_8086.specs.Step.{past}
use Rattle.resident_machine.specs.Dos.{plainly}
use Rattle.resident_machine.specs.Effect.{with_memory, on_cells, plain_effect}
use Rattle.resident_machine.specs.Program.{Segment, Program}
use Rattle.resident_machine.specs.State.{ResidentState, NoService}
use Rattle.resident_machine.specs.machine_lines.Steps.{ReadsAbove, Moves}
use Rattle.resident_machine.specs.machine_lines.Straight.{Placed, IsAt, moved_to, Jumps}
use Rattle.resident_machine.proofs.machine_lines.Steps.{nothing_owed}
use Rattle.resident_machine.proofs.machine_lines.Straight.{plain_goes, standing, past_line, same_stack}

-- an instruction whose tree is but its end
pub done_moves : (p : Program) (framed : Bool) (cs : Segment) (code : List ℕ) (at : ℕ → ℕ) (k : ℕ) (i : Instr) (r : ResidentState) (h : Registers) → Placed p cs code at → IsAt cs (at k) r → IsSpelledAt code (at k) i → act (past i r.registers) i ≡ Done h → h.ss ≡ r.registers.ss → Moves p framed r (record r { registers = h })
done_moves p framed cs code at k i r h pl here s tree ss =
    let t = with_memory r h r.cells in
    let effect : plain_effect p r i ≡ plainly t = ap (λ a. on_cells p r a r.cells) tree ∙ same_stack r h (plainly t) ss in
    record {
      service = NoService;
      goes = record { running = here.running; instruction = i; stands = standing p cs code at k i r pl here s; result = plain_goes p r t NoService i here.half effect refl };
      owed = nothing_owed framed p t;
      above = subst (λ a. ReadsAbove r.registers.ss r.registers.sp a r.cells) (sym tree) tt;
    }

-- a jump to a known offset
jump_to : (p : Program) (framed : Bool) (cs : Segment) (code : List ℕ) (at : ℕ → ℕ) (k : ℕ) (i : Instr) (r : ResidentState) (ip : ℕ) → Placed p cs code at → IsAt cs (at k) r → IsSpelledAt code (at k) i → act (past i r.registers) i ≡ Done (at_offset r.registers ip) → Jumps p framed cs ip r
jump_to p framed cs code at k i r ip pl here s tree =
    let m = done_moves p framed cs code at k i r (at_offset r.registers ip) pl here s tree refl in
    record { leads = (moved_to r ip, m, refl); here = record { running = here.running; half = here.half; segment = here.segment; offset = refl } }

short_tree : (g : Registers) (c : Cond) (d : ℕ) → act g (instr.JumpShort c d) ≡ Done (jump_if g c d)
unfolding act
short_tree g c d = refl

near_tree : (g : Registers) (d : ℕ) → act g (instr.JumpNear d) ≡ Done (jump_by g d)
unfolding act
near_tree g d = refl

near_size : (d : ℕ) → length (spelling (instr.JumpNear d)) ≡ 3
unfolding word_bytes
near_size d = refl

-- where a short jump goes on the condition b
abbrev jumped : Bool → Registers → ℕ → Registers
jumped b g d = if b then jump_by g (sign_extend d) else g

module _ (p : Program) (framed : Bool) (cs : Segment) (code : List ℕ) (at labels : ℕ → ℕ) (pl : Placed p cs code at) where
  short_to : (k : ℕ) (c : Cond) (d ip : ℕ) (b : Bool) (r : ResidentState) → IsAt cs (at k) r → IsSpelledAt code (at k) (instr.JumpShort c d) → at (k + 1) ≡ at k + 2 → holds r.registers c ≡ b → jumped b (at_offset r.registers (at (k + 1))) d ≡ at_offset r.registers ip → Jumps p framed cs ip r
  short_to k c d ip b r here s e flag lands =
      let i = instr.JumpShort c d in
      let next = past_line cs at k i r here e (pl.fits (k + 1)) in
      jump_to p framed cs code at k i r ip pl here s
      (ap (λ g. act g i) next ∙ short_tree (at_offset r.registers (at (k + 1))) c d ∙ ap (λ x. Done (jumped x (at_offset r.registers (at (k + 1))) d)) flag ∙ ap Done lands)

  -- over a few instructions, on its condition
  pub skips : (k j : ℕ) (c : Cond) (d : ℕ) (r : ResidentState) → IsAt cs (at k) r → IsSpelledAt code (at k) (instr.JumpShort c d) → at (k + 1) ≡ at k + 2 → holds r.registers c ≡ true → d < 128 → at (k + 1) + d ≡ at j → Jumps p framed cs (at j) r
  skips k j c d r here s e flag small there =
      let ahead : sign_extend d ≡ d = ap (λ b. if b then d else d + 65280) (lt-ltb d 128 small) in
      let lands : (at (k + 1) + sign_extend d) % 65536 ≡ at j = ap (λ n. (at (k + 1) + n) % 65536) ahead ∙ ap (λ n. n % 65536) there ∙ mod-eq_of_lt (pl.fits j) in
      short_to k c d (at j) true r here s e flag (ap (λ n. at_offset r.registers n) lands)

  -- and on to the next line
  pub falls : (k : ℕ) (c : Cond) (d : ℕ) (r : ResidentState) → IsAt cs (at k) r → IsSpelledAt code (at k) (instr.JumpShort c d) → at (k + 1) ≡ at k + 2 → holds r.registers c ≡ false → Jumps p framed cs (at (k + 1)) r
  falls k c d r here s e flag = short_to k c d (at (k + 1)) false r here s e flag refl

  -- where the distance of a short jump to a label leads
  short_lands : (k l : ℕ) (c : Cond) (r : ResidentState) → LineIs (IsSpelledAt code) at labels k (JumpShort c l) → jumped true (at_offset r.registers (at (k + 1))) (byte_distance (at (k + 1)) (at (labels l))) ≡ at_offset r.registers (at (labels l))
  short_lands k l c r h =
      let to = at (labels l) in
      let d = byte_distance (at (k + 1)) to in
      let f : at (k + 1) ≤ 65536 = (let f = pl.fits (k + 1) in omega arith) in
      let lands : (at (k + 1) + sign_extend d) % 65536 ≡ to = ⊎_elim
      (λ (lt : d < 128). ap (λ b. (at (k + 1) + (if b then d else d + 65280)) % 65536) (lt-ltb d 128 lt) ∙ short_lands_ahead (at (k + 1)) to h.1 f (pl.fits (labels l)) lt)
      (λ (le : 128 ≤ d). ap (λ b. (at (k + 1) + (if b then d else d + 65280)) % 65536) (le-ltb d 128 le) ∙ short_lands_behind (at (k + 1)) to h.1 f (pl.fits (labels l)) le)
      (cases_lt d 128) in
      ap (λ n. at_offset r.registers n) lands

  -- to a label on a condition, or on to the next line
  pub branches : (k l : ℕ) (c : Cond) (r : ResidentState) → IsAt cs (at k) r → LineStands (IsSpelledAt code) at labels k (JumpShort c l) → holds r.registers c ≡ true → Jumps p framed cs (at (labels l)) r
  branches k l c r here s flag = short_to k c (byte_distance (at (k + 1)) (at (labels l))) (at (labels l)) true r here s.0 s.2 flag (short_lands k l c r s)

  pub passes : (k l : ℕ) (c : Cond) (r : ResidentState) → IsAt cs (at k) r → LineStands (IsSpelledAt code) at labels k (JumpShort c l) → holds r.registers c ≡ false → Jumps p framed cs (at (k + 1)) r
  passes k l c r here s flag = short_to k c (byte_distance (at (k + 1)) (at (labels l))) (at (k + 1)) false r here s.0 s.2 flag refl

  -- to a label, by a near jump or the short one in its place
  pub jumps : (k l : ℕ) (r : ResidentState) → IsAt cs (at k) r → LineStands (IsSpelledAt code) at labels k (JumpNear l) → Jumps p framed cs (at (labels l)) r
  jumps k l r here s = ⊎_elim near short s
    where
      to : ℕ
      to = at (labels l)

      near : LineIs (IsSpelledAt code) at labels k (JumpNear l) → Jumps p framed cs (at (labels l)) r
      near h =
          let i = instr.JumpNear (word_distance (at (k + 1)) to) in
          let size : at (k + 1) ≡ at k + length (spelling i) = h.1 ∙ ap (λ n. at k + n) (sym (near_size (word_distance (at (k + 1)) to))) in
          let next = past_line cs at k i r here size (pl.fits (k + 1)) in
          let lands = near_lands (at (k + 1)) to (let f = pl.fits (k + 1) in omega arith) (pl.fits (labels l)) in
          jump_to p framed cs code at k i r to pl here h.0
          (ap (λ g. act g i) next ∙ near_tree (at_offset r.registers (at (k + 1))) (word_distance (at (k + 1)) to) ∙ ap (λ n. Done (at_offset r.registers n)) lands)

      short : LineIs (IsSpelledAt code) at labels k (JumpShort cond.Always l) → Jumps p framed cs (at (labels l)) r
      short h = short_to k cond.Always (byte_distance (at (k + 1)) to) to true r here h.0 h.2 refl (short_lands k l cond.Always r h)
