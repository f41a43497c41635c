-- The type of each typed expression but a procedure's call, and of each place, is in the table.
use Rattle.std.proofs.Common.{◌≡◌, inl, inr, List, Option, Some, None, sym, subst}
use Rattle.program_typing.specs.type_layout.declared.definitions.TypeDef.{TypeDef}
use Rattle.program_typing.specs.type_layout.declared.definitions.TypeDef.TheVariants as type
use Rattle.program_typing.specs.type_layout.declared.definitions.Host.{Host}
use Rattle.program_typing.specs.type_layout.declared.definitions.Host.TheVariants as host
use Rattle.program_typing.specs.typed_tree.declared.expressions.Value.{Value}
use Rattle.program_typing.specs.typed_tree.declared.expressions.Value.TheVariants.{Number, Chars, Nil, Elements as Listed}
use Rattle.program_typing.specs.typed_tree.declared.expressions.UnaryOp.{UnaryOp}
use Rattle.program_typing.specs.typed_tree.declared.expressions.UnaryOp.TheVariants.{Plus, Minus, Not}
use Rattle.program_typing.specs.typed_tree.declared.expressions.BinaryOp.{BinaryOp}
use Rattle.program_typing.specs.typed_tree.declared.expressions.BinaryOp.TheVariants.{Add, Subtract, Multiply, Divide, Modulo, ShiftLeft, ShiftRight, And, Or, Xor, Equal, NotEqual, Less, LessOrEqual, Greater, GreaterOrEqual, In}
use Rattle.program_typing.specs.typed_tree.Expressions.{Const, RoutineValue, Load, Unary, Binary, Convert, Range, SetOf, Call, CallVirtual, CallThrough, Std, Make, Var, Deref, Index, FieldOf}
use Rattle.program_typing.specs.typed_tree.type_fits.Fits.{definition, stored_as, IsSome, IsValue}
use Rattle.program_typing.specs.typed_tree.type_fits.Operators.{FitsUnary, FitsBinary, IsConversion}
use Rattle.program_typing.specs.well_formed.Typed.{sort_of}
use Rattle.program_typing.specs.well_formed.Laws.{HaveTypes, PlacesHaveTypes}

value_type : (types : List TypeDef) (value : Value) (one : Option TypeDef) → IsValue types value one → IsSome one
value_type types value (Some one) h = tt
value_type types (Number n) None h = h
value_type types (Chars bytes) None h = h
value_type types Nil None h = h
value_type types (Listed bytes) None h = h

unary_type : (op : UnaryOp) (one operand : Option TypeDef) → FitsUnary op one operand → IsSome one
unary_type op (Some one) operand h = tt
unary_type Plus None operand h = h.0
unary_type Minus None operand h = h.0
unary_type Not None operand (inl h) = h.0
unary_type Not None operand (inr h) = cc

stored_type : (one : Option TypeDef) (host : Host) → stored_as one ≡ Some host → IsSome one
stored_type (Some one) host e = tt
stored_type None host e = let bad : ⊥ = cc in absurd bad

binary_type : (op : BinaryOp) (one left right : Option TypeDef) → FitsBinary op one left right → IsSome one
binary_type op (Some one) left right h = tt
binary_type Add None left right (inl h) = h.0.0
binary_type Add None left right (inr (inl h)) = h.0
binary_type Add None left right (inr (inr h)) = h.0
binary_type Subtract None left right (inl h) = h.0.0
binary_type Subtract None left right (inr h) = h.0
binary_type Multiply None left right (inl h) = h.0.0
binary_type Multiply None left right (inr h) = h.0
binary_type Divide None left right h = h.0.0
binary_type Modulo None left right h = h.0.0
binary_type ShiftLeft None left right h = h.0.0
binary_type ShiftRight None left right h = h.0.0
binary_type And None left right (inl h) = h.0.0
binary_type And None left right (inr h) = stored_type None host.Boolean h.0.0
binary_type Or None left right (inl h) = h.0.0
binary_type Or None left right (inr h) = stored_type None host.Boolean h.0.0
binary_type Xor None left right (inl h) = h.0.0
binary_type Xor None left right (inr h) = stored_type None host.Boolean h.0.0
binary_type Equal None left right h = stored_type None host.Boolean h.0
binary_type NotEqual None left right h = stored_type None host.Boolean h.0
binary_type Less None left right h = stored_type None host.Boolean h.0
binary_type LessOrEqual None left right h = stored_type None host.Boolean h.0
binary_type Greater None left right h = stored_type None host.Boolean h.0
binary_type GreaterOrEqual None left right h = stored_type None host.Boolean h.0
binary_type In None left right h = stored_type None host.Boolean h.0

conversion_type : (one operand : Option TypeDef) → IsConversion one operand → IsSome one
conversion_type (Some one) operand h = tt
conversion_type None operand (inl h) = h.0
conversion_type None operand (inr h) = h.0

ordinal_type : (one : Option TypeDef) → IsSome (stored_as one) → IsSome one
ordinal_type (Some one) h = tt
ordinal_type None h = h

known_type : (one : Option TypeDef) (it : TypeDef) → one ≡ Some it → IsSome one
known_type one it e = subst (λ (x : Option TypeDef). IsSome x) (sym e) tt

pub have_types : HaveTypes
have_types s (Const ty value) h some = value_type s.types value (definition s.types ty) h
have_types s (RoutineValue ty routine) h some = known_type (definition s.types ty) (type.Procedural h.0) h.1
have_types s (Load ty from) h some = h.0
have_types s (Unary ty op operand) h some = unary_type op (definition s.types ty) (sort_of s.types operand) h.1
have_types s (Binary ty op left right early) h some =
    binary_type op (definition s.types ty) (sort_of s.types left) (sort_of s.types right) h.2
have_types s (Convert ty operand) h some = conversion_type (definition s.types ty) (sort_of s.types operand) h.1
have_types s (Range ty operand low high) h some = ordinal_type (definition s.types ty) h.2
have_types s (SetOf ty elements) h some = known_type (definition s.types ty) (type.SetOf h.0) h.1
have_types s (Call (Some ty) routine own args) h some = h.0
have_types s (Call None routine own args) h some = absurd some
have_types s (CallVirtual (Some ty) own slot checked args) h some = h.0
have_types s (CallVirtual None own slot checked args) h some = absurd some
have_types s (CallThrough (Some ty) through args) h some = h.0
have_types s (CallThrough None through args) h some = absurd some
have_types s (Std (Some ty) number args) h some = h.0
have_types s (Std None number args) h some = absurd some
have_types s (Make ty routine args) h some = known_type (definition s.types ty) (type.PointerTo h.0) h.1

pub places_have_types : PlacesHaveTypes
places_have_types s (Var variable) ty h = h.0
places_have_types s (Deref pointer) ty h = h.0
places_have_types s (Index at index checked) ty h = h.0
places_have_types s (FieldOf at number) ty h = h.0
