-- A division by a word that isn't 0, of one whose upper half is 0.
use Rattle.std.proofs.Common.{◌≡◌, ℕ, suc, ◌+◌, ◌*◌, ◌/◌, ◌%◌, ◌<◌, ◌==◌, Bool, false, List, length, arith, refl, ap, ◌∙◌}
use Rattle.std.specs.Prelude.{if◌then◌else◌, nat_le}
use Rattle.std.proofs.lemmas.Bool.{lt-leb}
use Rattle.std.proofs.Math.Dec.{eqb-suc-zero}
use Rattle.x86_table.specs.Spelling.{spelling}
use Rattle.x86_table.specs.Standing.{IsSpelledAt}
use Rattle.cpu_8086.specs.declared.registers.Registers.{Registers}
use Rattle.cpu_8086.specs.Access.{Act, Done, DivideFault, at_offset, word_then}
use Rattle.cpu_8086.specs.Effect.{act, target_then}
use Rattle.resident_machine.specs.Program.{Segment, Program}
use Rattle.resident_machine.specs.State.{ResidentState}
use Rattle.resident_machine.specs.machine_lines.Straight.{Placed, IsAt, Carried, div_cx, quotient}
use Rattle.resident_machine.proofs.machine_lines.Straight.{past_line}
use Rattle.resident_machine.proofs.machine_lines.Jumps.{done_moves}

if_false : (b : Bool) (x y : Act) → b ≡ false → (if b then x else y) ≡ y
if_false b x y e = ap (λ c. if c then x else y) e

div_tree : (g : Registers) (n : ℕ) → g.cx ≡ suc n → g.dx ≡ 0 → g.ax < 65536 → act g div_cx ≡ Done (quotient g (suc n))
unfolding act target_then word_then
div_tree g n cx dx ax =
    let whole : g.ax + 65536 * g.dx ≡ g.ax = omega arith in
    let small : g.ax / suc n < 65536 = omega arith in
    ap (λ v. if v == 0 then DivideFault else (if nat_le 65536 ((g.ax + 65536 * g.dx) / v) then DivideFault else Done (record g { ax = (g.ax + 65536 * g.dx) / v; dx = (g.ax + 65536 * g.dx) % v }))) cx
    ∙ if_false (suc n == 0) _ _ (eqb-suc-zero n)
    ∙ ap (λ w. if nat_le 65536 (w / suc n) then DivideFault else Done (record g { ax = w / suc n; dx = w % suc n })) whole
    ∙ if_false (nat_le 65536 (g.ax / suc n)) _ _ (lt-leb 65536 (g.ax / suc n) small)

pub divides : (p : Program) (framed : Bool) (cs : Segment) (code : List ℕ) (at : ℕ → ℕ) (k n : ℕ) (r : ResidentState) → Placed p cs code at → IsAt cs (at k) r → IsSpelledAt code (at k) div_cx → at (k + 1) ≡ at k + length (spelling div_cx) → r.registers.cx ≡ suc n → r.registers.dx ≡ 0 → r.registers.ax < 65536 → Carried p framed cs 1 (at (k + 1)) r (quotient (at_offset r.registers (at (k + 1))) (suc n)) r.cells
divides p framed cs code at k n r pl here s e cx dx ax =
    let g = at_offset r.registers (at (k + 1)) in
    let next = past_line cs at k div_cx r here e (pl.fits (k + 1)) in
    let tree = ap (λ h. act h div_cx) next ∙ div_tree g n cx dx ax in
    record {
      leads = (record r { registers = quotient g (suc n) }, done_moves p framed cs code at k div_cx r (quotient g (suc n)) pl here s tree refl, refl);
      here = record { running = here.running; half = here.half; segment = here.segment; offset = refl };
      ss = refl;
      flag = refl;
      free = λ place h. h;
    }
