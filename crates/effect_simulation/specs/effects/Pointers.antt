-- Where the far pointer lies that a statement stores.
use Rattle.std.specs.Prelude.{◌≡◌, ℕ, ◌+◌, ◌/◌, ◌%◌, ◌<◌, length, Ok, Some}
use Rattle.flat_code.specs.declared.memory.Place.{Place}
use Rattle.flat_code.specs.Values.{routine_pointer}
use Rattle.cpu_8086.specs.Memory.{address, next_offset}
use Rattle.code_templates.specs.code_lines.Addresses.{key_in}
use Rattle.statement_simulation.specs.flow.Sites.{World, Site, Live}

-- A word is among the fixed bytes.
pub record IsFixed (live : Live) (segment offset v : ℕ) : Type 0 where
  pub small : v < 65536
  pub low : live.fixed (address segment offset) ≡ Some (v % 256)
  pub high : live.fixed (address segment (next_offset offset)) ≡ Some (v / 256)

-- the offset of the datum that stands behind the unit's globals with this number, so many bytes further
abbrev pub pointer_offset : Site → ℕ → ℕ → ℕ
pointer_offset site pointer more = (site.context.addresses.datum (key_in site.context 0 (length site.context.unit.globals + pointer)) + 0 + more) % 65536

-- The datum holds the far pointer of the routine, its offset first.
pub record HoldsPointer (w : World) (site : Site) (live : Live) (pointer unit number : ℕ) : Type 0 where
  pub offset : (q : Place) → routine_pointer w.choice live.frame unit number ≡ Ok q → IsFixed live w.choice.data_segment (pointer_offset site pointer 0) q.offset
  pub segment : (q : Place) → routine_pointer w.choice live.frame unit number ≡ Ok q → IsFixed live w.choice.data_segment (pointer_offset site pointer 2) q.segment
