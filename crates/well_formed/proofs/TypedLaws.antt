-- What follows for a tree that is typed.
use Rattle.std.proofs.Common.{◌≡◌, inl, inr, Bool, true, false, cond, nat_le, List, Option, Some, None, refl, sym, subst}
use Rattle.type_layout.specs.declared.definitions.TypeId.{TypeId}
use Rattle.type_layout.specs.declared.definitions.TypeDef.{TypeDef}
use Rattle.type_layout.specs.declared.definitions.TypeDef.TheVariants as type
use Rattle.type_layout.specs.declared.definitions.Host.{Host}
use Rattle.type_layout.specs.declared.definitions.Host.TheVariants as host
use Rattle.type_layout.specs.Storage.{storage_of, width_of}
use Rattle.typed_tree.specs.declared.expressions.Value.{Value}
use Rattle.typed_tree.specs.declared.expressions.Value.TheVariants.{Number, Chars, Nil, Elements as Listed}
use Rattle.typed_tree.specs.declared.expressions.UnaryOp.{UnaryOp}
use Rattle.typed_tree.specs.declared.expressions.UnaryOp.TheVariants.{Plus, Minus, Not}
use Rattle.typed_tree.specs.declared.expressions.BinaryOp.{BinaryOp}
use Rattle.typed_tree.specs.declared.expressions.BinaryOp.TheVariants.{Add, Subtract, Multiply, Divide, Modulo, ShiftLeft, ShiftRight, And, Or, Xor, Equal, NotEqual, Less, LessOrEqual, Greater, GreaterOrEqual, In}
use Rattle.typed_tree.specs.Expressions.{type_of, Expression, Const, RoutineValue, Load, Unary, Binary, Convert, Range, SetOf, Call, CallVirtual, CallThrough, Std, Make, Var, Deref, Index, FieldOf}
use Rattle.typed_tree.specs.Slots.{slot_of_definition, slot_of_constant, slot_of}
use Rattle.typed_tree.specs.type_fits.Fits.{definition, stored_as, IsSome, IsValue}
use Rattle.typed_tree.specs.type_fits.Operators.{FitsUnary, FitsBinary, IsConversion}
use Rattle.well_formed.specs.Typed.{sort_of}
use Rattle.well_formed.specs.Laws.{IsSlot, HaveTypes, HaveSlots, PlacesHaveTypes}

-- ---- types

value_type : (types : List TypeDef) (value : Value) (one : Option TypeDef) → IsValue types value one → IsSome one
value_type types value (Some one) h = tt
value_type types (Number n) None h = h
value_type types (Chars bytes) None h = h
value_type types Nil None h = h
value_type types (Listed bytes) None h = h

unary_type : (op : UnaryOp) (one operand : Option TypeDef) → FitsUnary op one operand → IsSome one
unary_type op (Some one) operand h = tt
unary_type Plus None operand h = h.0
unary_type Minus None operand h = h.0
unary_type Not None operand (inl h) = h.0
unary_type Not None operand (inr h) = cc

stored_type : (one : Option TypeDef) (host : Host) → stored_as one ≡ Some host → IsSome one
stored_type (Some one) host e = tt
stored_type None host e = let bad : ⊥ = cc in absurd bad

binary_type : (op : BinaryOp) (one left right : Option TypeDef) → FitsBinary op one left right → IsSome one
binary_type op (Some one) left right h = tt
binary_type Add None left right (inl h) = h.0.0
binary_type Add None left right (inr (inl h)) = h.0
binary_type Add None left right (inr (inr h)) = h.0
binary_type Subtract None left right (inl h) = h.0.0
binary_type Subtract None left right (inr h) = h.0
binary_type Multiply None left right (inl h) = h.0.0
binary_type Multiply None left right (inr h) = h.0
binary_type Divide None left right h = h.0.0
binary_type Modulo None left right h = h.0.0
binary_type ShiftLeft None left right h = h.0.0
binary_type ShiftRight None left right h = h.0.0
binary_type And None left right (inl h) = h.0.0
binary_type And None left right (inr h) = stored_type None host.Boolean h.0.0
binary_type Or None left right (inl h) = h.0.0
binary_type Or None left right (inr h) = stored_type None host.Boolean h.0.0
binary_type Xor None left right (inl h) = h.0.0
binary_type Xor None left right (inr h) = stored_type None host.Boolean h.0.0
binary_type Equal None left right h = stored_type None host.Boolean h.0
binary_type NotEqual None left right h = stored_type None host.Boolean h.0
binary_type Less None left right h = stored_type None host.Boolean h.0
binary_type LessOrEqual None left right h = stored_type None host.Boolean h.0
binary_type Greater None left right h = stored_type None host.Boolean h.0
binary_type GreaterOrEqual None left right h = stored_type None host.Boolean h.0
binary_type In None left right h = stored_type None host.Boolean h.0

conversion_type : (one operand : Option TypeDef) → IsConversion one operand → IsSome one
conversion_type (Some one) operand h = tt
conversion_type None operand (inl h) = h.0
conversion_type None operand (inr h) = h.0

ordinal_type : (one : Option TypeDef) → IsSome (stored_as one) → IsSome one
ordinal_type (Some one) h = tt
ordinal_type None h = h

known_type : (one : Option TypeDef) (it : TypeDef) → one ≡ Some it → IsSome one
known_type one it e = subst (λ (x : Option TypeDef). IsSome x) (sym e) tt

pub have_types : HaveTypes
have_types s (Const ty value) h some = value_type s.types value (definition s.types ty) h
have_types s (RoutineValue ty routine) h some = known_type (definition s.types ty) (type.Procedural h.0) h.1
have_types s (Load ty from) h some = h.0
have_types s (Unary ty op operand) h some = unary_type op (definition s.types ty) (sort_of s.types operand) h.1
have_types s (Binary ty op left right early) h some =
    binary_type op (definition s.types ty) (sort_of s.types left) (sort_of s.types right) h.2
have_types s (Convert ty operand) h some = conversion_type (definition s.types ty) (sort_of s.types operand) h.1
have_types s (Range ty operand low high) h some = ordinal_type (definition s.types ty) h.2
have_types s (SetOf ty elements) h some = known_type (definition s.types ty) (type.SetOf h.0) h.1
have_types s (Call (Some ty) routine own args) h some = h.0
have_types s (Call None routine own args) h some = absurd some
have_types s (CallVirtual (Some ty) own slot checked args) h some = h.0
have_types s (CallVirtual None own slot checked args) h some = absurd some
have_types s (CallThrough (Some ty) through args) h some = h.0
have_types s (CallThrough None through args) h some = absurd some
have_types s (Std (Some ty) number args) h some = h.0
have_types s (Std None number args) h some = absurd some
have_types s (Make ty routine args) h some = known_type (definition s.types ty) (type.PointerTo h.0) h.1

pub places_have_types : PlacesHaveTypes
places_have_types s (Var variable) ty h = h.0
places_have_types s (Deref pointer) ty h = h.0
places_have_types s (Index at index checked) ty h = h.0
places_have_types s (FieldOf at number) ty h = h.0

-- ---- slots

two_or_four : (b : Bool) → IsSlot (cond b 2 4)
two_or_four true = inl refl
two_or_four false = inr (inl refl)

definition_slot : (one : Option TypeDef) → IsSome one → IsSlot (slot_of_definition one)
definition_slot None h = absurd h
definition_slot (Some (type.Ordinal host low high)) h = two_or_four (nat_le (width_of (storage_of host low high)) 2)
definition_slot (Some (type.Str max)) h = inr (inr (inr refl))
definition_slot (Some (type.SetOf base)) h = inr (inr (inl refl))
definition_slot (Some (type.ArrayOf index element)) h = inr (inl refl)
definition_slot (Some (type.RecordOf fields)) h = inr (inl refl)
definition_slot (Some (type.PointerTo target)) h = inr (inl refl)
definition_slot (Some (type.ObjectOf parent dynamic fields methods)) h = inr (inl refl)
definition_slot (Some (type.Procedural header)) h = inr (inl refl)

constant_slot : (types : List TypeDef) (ty : TypeId) (value : Value) → IsSome (definition types ty) → IsSlot (slot_of_constant types ty value)
constant_slot types ty (Number n) h = definition_slot (definition types ty) h
constant_slot types ty (Chars bytes) h = inr (inl refl)
constant_slot types ty Nil h = definition_slot (definition types ty) h
constant_slot types ty (Listed bytes) h = definition_slot (definition types ty) h

slot_by : (types : List TypeDef) (e : Expression) → IsSome (type_of e) → IsSome (sort_of types e) → IsSlot (slot_of types e)
slot_by types (Const ty value) some h = constant_slot types ty value h
slot_by types (RoutineValue ty routine) some h = inr (inl refl)
slot_by types (Load ty from) some h = definition_slot (definition types ty) h
slot_by types (Unary ty op operand) some h = definition_slot (definition types ty) h
slot_by types (Binary ty op left right early) some h = definition_slot (definition types ty) h
slot_by types (Convert ty operand) some h = definition_slot (definition types ty) h
slot_by types (Range ty operand low high) some h = definition_slot (definition types ty) h
slot_by types (SetOf ty elements) some h = definition_slot (definition types ty) h
slot_by types (Call (Some ty) routine own args) some h = definition_slot (definition types ty) h
slot_by types (Call None routine own args) some h = absurd some
slot_by types (CallVirtual (Some ty) own slot checked args) some h = definition_slot (definition types ty) h
slot_by types (CallVirtual None own slot checked args) some h = absurd some
slot_by types (CallThrough (Some ty) through args) some h = definition_slot (definition types ty) h
slot_by types (CallThrough None through args) some h = absurd some
slot_by types (Std (Some ty) number args) some h = definition_slot (definition types ty) h
slot_by types (Std None number args) some h = absurd some
slot_by types (Make ty routine args) some h = definition_slot (definition types ty) h

pub have_slots : HaveSlots
have_slots s e h some = slot_by s.types e some (have_types s e h some)
