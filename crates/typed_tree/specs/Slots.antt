-- The bytes that a value takes on the evaluation stack.
use Rattle.std.specs.Prelude.{ℕ, ◌-◌, ◌^◌, min, Bool, true, false, nat_le, cond, List, Option, Some, None, slice_get}
use Rattle.type_layout.specs.declared.definitions.TypeId.{TypeId}
use Rattle.type_layout.specs.declared.definitions.TypeDef.{TypeDef}
use Rattle.type_layout.specs.declared.definitions.TypeDef.TheVariants as type
use Rattle.type_layout.specs.Storage.{storage_of, width_of}
use Rattle.typed_tree.specs.declared.expressions.Value.{Value}
use Rattle.typed_tree.specs.declared.expressions.Value.TheVariants.{Number, Chars, Nil, Elements}
use Rattle.typed_tree.specs.Expressions as tree
use Rattle.typed_tree.specs.Expressions.{Expression, Place, type_of}

-- a number, or the greatest u64 where it passes that
abbrev pub capped : ℕ → ℕ
capped n = min n (2 ^ 64 - 1)

-- 2 for ordinals of at most two bytes, 256 for strings, 32 for sets, 4 for all else; 0 where there is no such type
abbrev pub slot_of_definition : Option TypeDef → ℕ
slot_of_definition (Some (type.Ordinal host low high)) = cond (nat_le (width_of (storage_of host low high)) 2) 2 4
slot_of_definition (Some (type.Str max)) = 256
slot_of_definition (Some (type.SetOf base)) = 32
slot_of_definition (Some (type.ArrayOf index element)) = 4
slot_of_definition (Some (type.RecordOf fields)) = 4
slot_of_definition (Some (type.PointerTo target)) = 4
slot_of_definition (Some (type.ObjectOf parent dynamic fields methods)) = 4
slot_of_definition (Some (type.Procedural header)) = 4
slot_of_definition None = 0

abbrev pub slot_of_type : List TypeDef → TypeId → ℕ
slot_of_type types id = slot_of_definition (slice_get types id.0)

-- the slot of a result; a procedure has none
abbrev pub slot_of_result : List TypeDef → Option TypeId → ℕ
slot_of_result types None = 0
slot_of_result types (Some id) = slot_of_type types id

-- a string constant is a far pointer to its bytes
abbrev pub slot_of_constant : List TypeDef → TypeId → Value → ℕ
slot_of_constant types ty (Number value) = slot_of_type types ty
slot_of_constant types ty (Chars bytes) = 4
slot_of_constant types ty Nil = slot_of_type types ty
slot_of_constant types ty (Elements bytes) = slot_of_type types ty

-- the slot of an expression's value
abbrev pub slot_of : List TypeDef → Expression → ℕ
slot_of types (tree.Const ty value) = slot_of_constant types ty value
slot_of types (tree.RoutineValue ty routine) = 4
slot_of types (tree.Load ty from) = slot_of_type types ty
slot_of types (tree.Unary ty op operand) = slot_of_type types ty
slot_of types (tree.Binary ty op left right early) = slot_of_type types ty
slot_of types (tree.Convert ty operand) = slot_of_type types ty
slot_of types (tree.Range ty operand low high) = slot_of_type types ty
slot_of types (tree.SetOf ty listed) = slot_of_type types ty
slot_of types (tree.Call ty routine own args) = slot_of_result types ty
slot_of types (tree.CallVirtual ty own slot checked args) = slot_of_result types ty
slot_of types (tree.CallThrough ty through args) = slot_of_result types ty
slot_of types (tree.Std ty number args) = slot_of_result types ty
slot_of types (tree.Make ty routine args) = slot_of_type types ty

-- whether a place is a variable itself
abbrev pub is_var : Place → Bool
is_var (tree.Var variable) = true
is_var (tree.Deref pointer) = false
is_var (tree.Index at index checked) = false
is_var (tree.FieldOf at number) = false
