-- Elements and fields of places.
use Rattle.std.specs.Prelude.{ℕ, ◌+◌, ◌==◌, ◌%◌, if◌then◌else◌, ℤ, pos, Bool}
use Rattle.std.specs.Ordering.{int_eq}
use Rattle.flat_code.specs.declared.tree.Address.TheVariants.{Through}
use Rattle.flat_code.specs.declared.tree.FlatOp.TheVariants as op
use Rattle.flat_code.specs.Tree.{Expr, Number, Op, Copy, Code, End, ◌then◌}
use Rattle.lower_places.specs.declared.reach.Reach.{Reach}
use Rattle.lower_places.specs.declared.reach.Reach.TheVariants.{At, Beyond}
use Rattle.lower_places.specs.Reaches.{further}
use Rattle.lower_values.specs.declared.forms.Form.{Form}
use Rattle.lower_values.specs.Nodes.{single, number, word, set}
use Rattle.lower_values.specs.Forms.{slot_at, slot_place, low_word}
use Rattle.lower_values.specs.Conversions.{ranged}

abbrev pub count_from : ℤ → Expr → Expr
count_from low index = if int_eq low (pos 0) then index else Op op.Sub index (number low)

-- how many bytes an element lies behind the first one
abbrev pub distance : Expr → ℤ → ℕ → Expr
distance index low size = if size == 1 then count_from low index else Op op.Mul (count_from low index) (Number (size % 65536))

abbrev pub moved_on : ℕ → Form → ℤ → ℕ → ℕ → Code
moved_on locals index low size slot =
    single (set (slot_at locals slot 4) (Op op.Add (word (slot_at locals slot 4)) (distance (low_word locals index (slot + 4)) low size)))

-- The far pointer in a slot goes on to an element, of so many bytes, whose index lies in the next slot. With `checked`, an
-- index outside the bounds is error 201.
abbrev pub indexed : ℕ → ℤ × ℤ → ℕ → Form → Bool → ℕ → Code
indexed locals bounds size index checked slot =
    if checked then ranged locals index bounds.0 bounds.1 (slot + 4) then moved_on locals index bounds.0 size slot
    else moved_on locals index bounds.0 size slot

-- what lies so many bytes into a place; a far pointer that lies in the record of another activation comes to the slot first
abbrev pub inside : ℕ → Reach → ℕ → ℕ → Code × Reach
inside locals (At at) offset slot = (End, At (further at offset))
inside locals (Beyond pointer) offset slot = (single (Copy (slot_place locals slot 4) pointer 4), At (Through (slot_at locals slot 4) offset))

abbrev pub through : ℕ → ℕ → Reach
through locals slot = At (Through (slot_at locals slot 4) 0)
