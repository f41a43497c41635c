-- Bytes that flat code can reach are moved on both sides, one by one.
use Rattle.std.proofs.Common.{◌≡◌, ℕ, zero, suc, ◌+◌, ◌*◌, ◌%◌, ◌<◌, ◌≤◌, ◌==◌, Bool, true, false, Ok, Err, arith, refl, sym, ap, subst, ◌∙◌, eqb-true, ⊎_elim}
use Rattle.std.specs.Prelude.{IsTrue, if◌then◌else◌}
use Rattle.std.proofs.lemmas.Bool.{cases_lt}
use Rattle.flat_code.specs.declared.memory.Cell.{Cell}
use Rattle.flat_code.specs.declared.memory.Cell.TheVariants as flat
use Rattle.flat_code.specs.declared.memory.Place.{Place}
use Rattle.flat_code.specs.Memory as flat_memory
use Rattle.flat_code.specs.Memory.{Found, ◌>>=◌, address_of, if_inside, copied_cell, copy}
use Rattle.flat_code.specs.Program.{Choice}
use Rattle.flat_code.specs.Values.{Frame}
use Rattle.cpu_8086.specs.declared.registers.Registers.{Registers}
use Rattle.cpu_8086.specs.Access.{Act, Copy}
use Rattle.cpu_8086.specs.Effect.{indices_after, moved_then}
use Rattle.cpu_8086.specs.Memory.{address}
use Rattle.resident_machine.specs.Cells as machine
use Rattle.resident_machine.specs.Cells.{Known, Unknown, Kept, Paired, Cells, with_cell, is_free, free_then}
use Rattle.resident_machine.specs.Effect.{Outcome, on_cells}
use Rattle.resident_machine.specs.Program.{Program}
use Rattle.resident_machine.specs.State.{ResidentState}
use Rattle.resident_machine.specs.machine_lines.Steps.{ReadsAbove}
use Rattle.resident_machine.specs.machine_lines.Straight.{MayWrite, StaysFree}
use Rattle.resident_machine.proofs.machine_lines.Words.{address_above}
use Rattle.statement_simulation.specs.expressions.Active.{Active, IsKept}
use Rattle.statement_simulation.proofs.stores.Written.{active_byte}

-- ## A byte that is moved as it is

moved_free : (c : Cells) (a : ℕ) (y : machine.Cell) → IsTrue (is_free y) → StaysFree c (with_cell c a y)
moved_free c a y free place h = by (place == a)
  where
    by : (t : Bool) → IsTrue (is_free (if t then y else c place))
    by true = free
    by false = h

may_moved : (c : Cells) (flag a place : ℕ) (y : machine.Cell) → IsTrue (is_free y) → MayWrite c flag place → MayWrite (with_cell c a y) flag place
may_moved c flag a place y free h = record { free = moved_free c a y free place h.free; apart = h.apart }

-- an unset byte
active_unset : (flag : ℕ) (choice : Choice) (f : Frame) (m : flat_memory.Cells) (g : Registers) (c : Cells) (a : ℕ) (y : machine.Cell) → Active flag choice f m g c → IsTrue (is_free y) → (m a ≡ flat.Outside → ⊥) → Active flag choice f (flat_memory.put m a flat.Unset) g (with_cell c a y)
active_unset flag choice f m g c a y act free inside = record {
  ss = act.ss;
  ds = act.ds;
  bp = act.bp;
  top = act.top;
  inside = act.inside;
  known = λ place byte. known place byte (place == a);
  small = λ place byte. smalls place byte (place == a);
  reached = λ place. reached place (place == a) refl;
  below = λ place low high. below place low high (place == a) refl;
  spare = λ offset lt. may_moved c flag a (16 * g.ss + offset) y free (act.spare offset lt);
}
  where
    known : (place byte : ℕ) (t : Bool) → (if t then flat.Unset else m place) ≡ flat.Known byte → (if t then y else c place) ≡ Known byte
    known place byte true e = absurd (cc)
    known place byte false e = act.known place byte e

    smalls : (place byte : ℕ) (t : Bool) → (if t then flat.Unset else m place) ≡ flat.Known byte → byte < 256
    smalls place byte true e = absurd (cc)
    smalls place byte false e = act.small place byte e

    reached : (place : ℕ) (t : Bool) → (place == a) ≡ t → ((if t then flat.Unset else m place) ≡ flat.Outside → ⊥) → MayWrite (with_cell c a y) flag place
    reached place true e h = may_moved c flag a place y free (subst (λ n. MayWrite c flag n) (sym (eqb-true place a e)) (act.reached a inside))
    reached place false e h = may_moved c flag a place y free (act.reached place h)

    below : (place : ℕ) → 16 * g.ss ≤ place → place < 16 * g.ss + g.sp → (t : Bool) → (place == a) ≡ t → (if t then flat.Unset else m place) ≡ flat.Outside
    below place low high true e = absurd (inside (ap m (sym (eqb-true place a e)) ∙ act.below place low high))
    below place low high false e = act.below place low high

-- what flat code can reach lies outside the stack below SP
reached_kept : (flag : ℕ) (choice : Choice) (f : Frame) (m : flat_memory.Cells) (g : Registers) (c : Cells) (place : ℕ) → Active flag choice f m g c → (m place ≡ flat.Outside → ⊥) → IsKept g place
reached_kept flag choice f m g c place a h low = ⊎_elim (λ lt. absurd (h (a.below place low lt))) (λ le. le) (cases_lt place (16 * g.ss + g.sp))

-- another place holds what it held
unmoved : (m : flat_memory.Cells) (c : Cells) (a : ℕ) (y : machine.Cell) (place : ℕ) → (m a ≡ flat.Outside → ⊥) → m place ≡ flat.Outside → with_cell c a y place ≡ c place
unmoved m c a y place inside h = by (place == a) refl
  where
    by : (t : Bool) → (place == a) ≡ t → (if t then y else c place) ≡ c place
    by true e = absurd (inside (ap m (sym (eqb-true place a e)) ∙ h))
    by false e = refl

-- and is outside still
outside_put : (m : flat_memory.Cells) (a : ℕ) (x : Cell) (place : ℕ) → (m a ≡ flat.Outside → ⊥) → m place ≡ flat.Outside → flat_memory.put m a x place ≡ flat.Outside
outside_put m a x place inside h = by (place == a) refl
  where
    by : (t : Bool) → (place == a) ≡ t → (if t then x else m place) ≡ flat.Outside
    by true e = absurd (inside (ap m (sym (eqb-true place a e)) ∙ h))
    by false e = h

-- ## So many bytes

free_goes : (cell : machine.Cell) (next : Outcome) → IsTrue (is_free cell) → free_then cell next ≡ next
free_goes (Known v) next h = refl
free_goes Unknown next h = refl
free_goes Kept next h = absurd (cc)
free_goes Paired next h = absurd (cc)

moved_goes : (cell : machine.Cell) (next : machine.Cell → Outcome) → IsTrue (is_free cell) → machine.moved_then cell next ≡ next cell
moved_goes (Known v) next h = refl
moved_goes Unknown next h = refl
moved_goes Kept next h = absurd (cc)
moved_goes Paired next h = absurd (cc)

-- registers that moving bytes leaves as they are
pub record Indices (g h : Registers) : Type 0 where
  pub sp : h.sp ≡ g.sp
  pub bp : h.bp ≡ g.bp
  pub ss : h.ss ≡ g.ss
  pub ds : h.ds ≡ g.ds
  pub es : h.es ≡ g.es
  pub ip : h.ip ≡ g.ip
  pub direction : h.direction ≡ g.direction

-- a tree that moves bytes, before another one: what it comes to
pub record Copied (p : Program) (choice : Choice) (f : Frame) (m m2 : flat_memory.Cells) (g : Registers) (sp : ℕ) (r : ResidentState) (a : Act) (h : Registers) (c : Cells) (next : Registers → Act) : Type 0 where
  pub registers : Registers
  pub cells : Cells
  pub runs : on_cells p r a c ≡ on_cells p r (next registers) cells
  pub above : ReadsAbove g.ss sp (next registers) cells → ReadsAbove g.ss sp a c
  pub active : Active p.installed choice f m2 g cells
  pub indices : Indices h registers
  pub outside : (place : ℕ) → m place ≡ flat.Outside → cells place ≡ c place
  pub shut : (place : ℕ) → m place ≡ flat.Outside → m2 place ≡ flat.Outside
  pub free : StaysFree c cells

-- what goes on where a cell was inside
if_ok : (m m2 : flat_memory.Cells) → ◌≡◌ {A = Found flat_memory.Cells} (Ok m) (Ok m2) → m ≡ m2
if_ok m m2 e = ap (λ found. or_else found) e
  where
    or_else : Found flat_memory.Cells → flat_memory.Cells
    or_else (Ok x) = x
    or_else (Err trap) = m

module _ (p : Program) (choice : Choice) (f : Frame) (g : Registers) (sp : ℕ) (room : 64 ≤ sp) (lower : sp ≤ g.sp) (r : ResidentState) (to from : Place) (next : Registers → Act) where
  -- where the indices stand before byte i
  pub record Stands (i : ℕ) (h : Registers) : Type 0 where
    pub si : h.si ≡ (from.offset + i) % 65536
    pub di : h.di ≡ (to.offset + i) % 65536
    pub es : h.es ≡ to.segment
    pub up : h.direction ≡ false

  stands_on : (i : ℕ) (h : Registers) → Stands i h → Stands (i + 1) (indices_after h)
  stands_on i h s =
      let si = s.si in
      let di = s.di in
      record {
        si = ap (λ b. if b then (h.si + 65535) % 65536 else (h.si + 1) % 65536) s.up ∙ (omega arith);
        di = ap (λ b. if b then (h.di + 65535) % 65536 else (h.di + 1) % 65536) s.up ∙ (omega arith);
        es = s.es;
        up = s.up;
      }

  -- one byte was moved, and the others follow
  one_on : (n i : ℕ) (h : Registers) (c : Cells) (m m2 : flat_memory.Cells) (x : Cell) → Active p.installed choice f m g c → Stands i h → (m (address_of from i) ≡ flat.Outside → ⊥) → (m (address_of to i) ≡ flat.Outside → ⊥) → Copied p choice f (flat_memory.put m (address_of to i) x) m2 g sp r (moved_then from.segment n (indices_after h) next) (indices_after h) (with_cell c (address_of to i) (c (address_of from i))) next → Copied p choice f m m2 g sp r (moved_then from.segment (suc n) h next) h c next
  one_on n i h c m m2 x a s source target z =
      let s0 = address_of from i in
      let t0 = address_of to i in
      let y = c s0 in
      let here : address from.segment h.si ≡ s0 = ap (address from.segment) s.si in
      let there : address h.es h.di ≡ t0 = ap (λ n. address n h.di) s.es ∙ ap (address to.segment) s.di in
      let rest = moved_then from.segment n (indices_after h) next in
      let tree : Copy (address from.segment h.si) (address h.es h.di) rest ≡ Copy s0 t0 rest = ap (λ n. Copy n (address h.es h.di) rest) here ∙ ap (λ n. Copy s0 n rest) there in
      let kept = reached_kept p.installed choice f m g c s0 a source in
      let top = a.top in
      let inside = a.inside in
      let above = address_above g.ss sp s0 room (omega arith) (omega arith) (λ low. let k = kept low in omega arith) in
      record {
        registers = z.registers;
        cells = z.cells;
        runs = ap (λ t. on_cells p r t c) tree ∙ moved_goes y (λ cell. free_then (c t0) (on_cells p r rest (with_cell c t0 cell))) (a.reached s0 source).free ∙ free_goes (c t0) (on_cells p r rest (with_cell c t0 y)) (a.reached t0 target).free ∙ z.runs;
        above = λ end. subst (λ t. ReadsAbove g.ss sp t c) (sym tree) (above, z.above end);
        active = z.active;
        indices = record { sp = z.indices.sp; bp = z.indices.bp; ss = z.indices.ss; ds = z.indices.ds; es = z.indices.es; ip = z.indices.ip; direction = z.indices.direction };
        outside = λ place o. z.outside place (outside_put m t0 x place target o) ∙ unmoved m c t0 y place target o;
        shut = λ place o. z.shut place (outside_put m t0 x place target o);
        free = λ place o. z.free place (moved_free c t0 y (a.reached s0 source).free place o);
      }

  pub copies : (n i : ℕ) (h : Registers) (c : Cells) (m m2 : flat_memory.Cells) → Active p.installed choice f m g c → Stands i h → copy m to from i n ≡ Ok m2 → Copied p choice f m m2 g sp r (moved_then from.segment n h next) h c next
  copies zero i h c m m2 a s e = record {
    registers = h;
    cells = c;
    runs = refl;
    above = λ end. end;
    active = subst (λ x. Active p.installed choice f x g c) (if_ok m m2 e) a;
    indices = record { sp = refl; bp = refl; ss = refl; ds = refl; es = refl; ip = refl; direction = refl };
    outside = λ place o. refl;
    shut = λ place o. ap (λ x. x place) (sym (if_ok m m2 e)) ∙ o;
    free = λ place o. o;
  }
  copies (suc n) i h c m m2 a s e = by (λ d m'. copies n (i + 1) (indices_after h) d m' m2) (m s0) refl e
    where
      Again : Type 0
      Again = (d : Cells) (m' : flat_memory.Cells) → Active p.installed choice f m' g d → Stands (i + 1) (indices_after h) → copy m' to from (i + 1) n ≡ Ok m2 → Copied p choice f m' m2 g sp r (moved_then from.segment n (indices_after h) next) (indices_after h) d next

      s0 : ℕ
      s0 = address_of from i

      t0 : ℕ
      t0 = address_of to i

      known : Again → (b : ℕ) → m s0 ≡ flat.Known b → (m t0 ≡ flat.Outside → ⊥) → copy (flat_memory.put m t0 (flat.Known b)) to from (i + 1) n ≡ Ok m2 → Copied p choice f m m2 g sp r (moved_then from.segment (suc n) h next) h c next
      known again b ex target e =
          let byte = subst (λ y. Active p.installed choice f (flat_memory.put m t0 (flat.Known b)) g (with_cell c t0 y)) (sym (a.known s0 b ex)) (active_byte p.installed choice f m g c t0 b a (a.small s0 b ex) target) in
          one_on n i h c m m2 (flat.Known b) a s (λ o. let z = sym ex ∙ o in absurd (cc)) target
          (again (with_cell c t0 (c s0)) (flat_memory.put m t0 (flat.Known b)) byte (stands_on i h s) e)

      unset : Again → m s0 ≡ flat.Unset → (m t0 ≡ flat.Outside → ⊥) → copy (flat_memory.put m t0 flat.Unset) to from (i + 1) n ≡ Ok m2 → Copied p choice f m m2 g sp r (moved_then from.segment (suc n) h next) h c next
      unset again ex target e =
          let source : m s0 ≡ flat.Outside → ⊥ = λ o. let z = sym ex ∙ o in absurd (cc) in
          let byte = active_unset p.installed choice f m g c t0 (c s0) a (a.reached s0 source).free target in
          one_on n i h c m m2 flat.Unset a s source target
          (again (with_cell c t0 (c s0)) (flat_memory.put m t0 flat.Unset) byte (stands_on i h s) e)

      from_known : Again → (b : ℕ) → m s0 ≡ flat.Known b → (y : Cell) → m t0 ≡ y → (if_inside y (flat_memory.put m t0 (flat.Known b)) >>= λ m'. copy m' to from (i + 1) n) ≡ Ok m2 → Copied p choice f m m2 g sp r (moved_then from.segment (suc n) h next) h c next
      from_known again b ex (flat.Known d) ey e = known again b ex (λ o. let z = sym ey ∙ o in absurd (cc)) e
      from_known again b ex flat.Unset ey e = known again b ex (λ o. let z = sym ey ∙ o in absurd (cc)) e
      from_known again b ex flat.Outside ey e = absurd (cc)

      from_unset : Again → m s0 ≡ flat.Unset → (y : Cell) → m t0 ≡ y → (if_inside y (flat_memory.put m t0 flat.Unset) >>= λ m'. copy m' to from (i + 1) n) ≡ Ok m2 → Copied p choice f m m2 g sp r (moved_then from.segment (suc n) h next) h c next
      from_unset again ex (flat.Known d) ey e = unset again ex (λ o. let z = sym ey ∙ o in absurd (cc)) e
      from_unset again ex flat.Unset ey e = unset again ex (λ o. let z = sym ey ∙ o in absurd (cc)) e
      from_unset again ex flat.Outside ey e = absurd (cc)

      by : Again → (x : Cell) → m s0 ≡ x → (copied_cell m t0 x >>= λ m'. copy m' to from (i + 1) n) ≡ Ok m2 → Copied p choice f m m2 g sp r (moved_then from.segment (suc n) h next) h c next
      by again (flat.Known b) ex e = from_known again b ex (m t0) refl e
      by again flat.Unset ex e = from_unset again ex (m t0) refl e
      by again flat.Outside ex e = absurd (cc)
