-- A byte that flat code can reach is written on both sides.
use Rattle.std.proofs.Common.{◌≡◌, ℕ, ◌+◌, ◌*◌, ◌<◌, ◌≤◌, ◌==◌, Bool, true, false, refl, sym, ap, subst, ◌∙◌, eqb-true}
use Rattle.std.specs.Prelude.{IsTrue, if◌then◌else◌}
use Rattle.flat_code.specs.declared.memory.Cell.{Cell}
use Rattle.flat_code.specs.declared.memory.Cell.TheVariants as flat
use Rattle.flat_code.specs.Memory as flat_memory
use Rattle.flat_code.specs.Program.{Choice}
use Rattle.flat_code.specs.Values.{Frame}
use Rattle.cpu_8086.specs.declared.registers.Registers.{Registers}
use Rattle.resident_machine.specs.Cells.{Cells, Known, with_cell, is_free}
use Rattle.resident_machine.specs.machine_lines.Straight.{MayWrite, StaysFree}
use Rattle.statement_simulation.specs.expressions.Active.{Active}

abbrev number_or_zero : Cell → ℕ
number_or_zero (flat.Known b) = b
number_or_zero flat.Unset = 0
number_or_zero flat.Outside = 0

written_free : (c : Cells) (a b : ℕ) → StaysFree c (with_cell c a (Known b))
written_free c a b place h = by (place == a)
  where
    by : (t : Bool) → IsTrue (is_free (if t then Known b else c place))
    by true = refl
    by false = h

may_written : (c : Cells) (flag a b place : ℕ) → MayWrite c flag place → MayWrite (with_cell c a (Known b)) flag place
may_written c flag a b place h = record { free = written_free c a b place h.free; apart = h.apart }

pub active_byte : (flag : ℕ) (choice : Choice) (f : Frame) (m : flat_memory.Cells) (g : Registers) (c : Cells) (a b : ℕ) → Active flag choice f m g c → b < 256 → (m a ≡ flat.Outside → ⊥) → Active flag choice f (flat_memory.put m a (flat.Known b)) g (with_cell c a (Known b))
active_byte flag choice f m g c a b act small inside = record {
  ss = act.ss;
  ds = act.ds;
  bp = act.bp;
  top = act.top;
  inside = act.inside;
  known = λ place byte. known place byte (place == a);
  small = λ place byte. smalls place byte (place == a);
  reached = λ place. reached place (place == a) refl;
  below = λ place low high. below place low high (place == a) refl;
  spare = λ offset lt. may_written c flag a b (16 * g.ss + offset) (act.spare offset lt);
}
  where
    known : (place byte : ℕ) (t : Bool) → (if t then flat.Known b else m place) ≡ flat.Known byte → (if t then Known b else c place) ≡ Known byte
    known place byte true e = ap (λ x. Known (number_or_zero x)) e
    known place byte false e = act.known place byte e

    smalls : (place byte : ℕ) (t : Bool) → (if t then flat.Known b else m place) ≡ flat.Known byte → byte < 256
    smalls place byte true e = subst (λ n. n < 256) (ap number_or_zero e) small
    smalls place byte false e = act.small place byte e

    reached : (place : ℕ) (t : Bool) → (place == a) ≡ t → ((if t then flat.Known b else m place) ≡ flat.Outside → ⊥) → MayWrite (with_cell c a (Known b)) flag place
    reached place true e h = may_written c flag a b place (subst (λ n. MayWrite c flag n) (sym (eqb-true place a e)) (act.reached a inside))
    reached place false e h = may_written c flag a b place (act.reached place h)

    below : (place : ℕ) → 16 * g.ss ≤ place → place < 16 * g.ss + g.sp → (t : Bool) → (place == a) ≡ t → (if t then flat.Known b else m place) ≡ flat.Outside
    below place low high true e = absurd (inside (ap m (sym (eqb-true place a e)) ∙ act.below place low high))
    below place low high false e = act.below place low high

-- another place holds what it held
pub outside_kept : (m : flat_memory.Cells) (c : Cells) (a b place : ℕ) → (m a ≡ flat.Outside → ⊥) → m place ≡ flat.Outside → with_cell c a (Known b) place ≡ c place
outside_kept m c a b place inside h = by (place == a) refl
  where
    by : (t : Bool) → (place == a) ≡ t → (if t then Known b else c place) ≡ c place
    by true e = absurd (inside (ap m (sym (eqb-true place a e)) ∙ h))
    by false e = refl

-- and is outside still
pub outside_still : (m : flat_memory.Cells) (a b place : ℕ) → (m a ≡ flat.Outside → ⊥) → m place ≡ flat.Outside → flat_memory.put m a (flat.Known b) place ≡ flat.Outside
outside_still m a b place inside h = by (place == a) refl
  where
    by : (t : Bool) → (place == a) ≡ t → (if t then flat.Known b else m place) ≡ flat.Outside
    by true e = absurd (inside (ap m (sym (eqb-true place a e)) ∙ h))
    by false e = h
