-- The limit on what a routine takes of the stack.
use Rattle.std.specs.Prelude.{ℕ, ◌+◌, ◌≤◌, nat_le, List, sum_by}
use Rattle.type_layout.specs.declared.definitions.TypeDef.{TypeDef}
use Rattle.type_layout.specs.declared.texts.Place.{Place}
use Rattle.typed_tree.specs.Slots.{capped}
use Rattle.typed_tree.specs.Needs.{statement_need}
use Rattle.typed_tree.specs.declared.units.Routine.{Routine}
use Rattle.typed_tree.specs.Frames as frames
use Rattle.typed_tree.specs.Frames.{even_size, copy_bytes, result_bytes}
use Rattle.typing_rules.specs.Faults.{too_large}
use Rattle.typing_rules.specs.Judgements.{Judgement, rule}
use Rattle.tp_check_decl.specs.Units.{Finished}

-- the variables of a routine, its copies of arguments, and a result that is no string
abbrev pub local_bytes : List TypeDef → Finished → ℕ
local_bytes types one =
    sum_by (even_size types) one.locals + (sum_by (copy_bytes types) one.header.params + result_bytes types one.header.result)

-- with what its statements take at most; what passes 64 bits is counted as the greatest number of these
unfoldable pub own_bytes : List TypeDef → Finished → ℕ
own_bytes types one = capped (local_bytes types one + statement_need types one.body)

-- A routine whose block begins at a place takes at most 65,000 bytes for itself.
abbrev pub within_limit : List TypeDef → Place → Finished → Judgement (Unit {0})
within_limit types place one = rule (too_large place (own_bytes types one)) (nat_le (own_bytes types one) 65000) (own_bytes types one ≤ 65000) tt

-- a routine of a typed unit that does so
abbrev pub KeepsLimit : List TypeDef → Routine → Type 0
KeepsLimit types one = frames.local_bytes types one + frames.need_of types one ≤ 65000
