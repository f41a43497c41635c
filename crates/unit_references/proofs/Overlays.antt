-- Arguments that parameters of Overlay's routines take are as its slots take them.
use Rattle.std.proofs.Common.{◌≡◌, ◌∙◌, Bool, true, false, cond, List, [], ◌∷◌, Option, Some, None, refl, sym, ap, subst}
use Rattle.std.specs.Prelude.{ℤ, option_and_then}
use Rattle.std.specs.Option.{option_map}
use Rattle.type_soundness.specs.type_layout.declared.definitions.TypeId.{TypeId}
use Rattle.type_soundness.specs.type_layout.declared.definitions.Host.{Host}
use Rattle.type_soundness.specs.type_layout.declared.definitions.Host.TheVariants as host
use Rattle.type_soundness.specs.type_layout.declared.definitions.Param.{Param}
use Rattle.type_soundness.specs.type_layout.declared.definitions.TypeDef.{TypeDef}
use Rattle.type_soundness.specs.type_layout.declared.definitions.TypeDef.TheVariants as type
use Rattle.type_soundness.specs.type_layout.Storage.{holds, integer_storage}
use Rattle.type_soundness.specs.typed_tree.Expressions.{type_of, Arguments, NoArguments, ByValue, ByPlace}
use Rattle.type_soundness.specs.typed_tree.type_fits.Fits.{definition, stored_as, family, family_of, IsSome, IsInteger, IsString, IsPointer, Descends, JoinBy}
use Rattle.type_soundness.specs.typed_tree.type_fits.Standard.{Slot, Integer, Ordinal, Char, Text, Pointer, IntegerVariable, OrdinalVariable, TextVariable, PointerVariable, Variable, FitsValue}
use Rattle.type_soundness.specs.well_formed.Scopes.{Scope}
use Rattle.type_soundness.specs.well_formed.Typed.{TakeEach, FillEach, JoinsSome}
use Rattle.unit_references.specs.Held.{AreSlotsOf}

-- ---- families

integer_family : (low high : ℤ) → family (integer_storage low high) ≡ host.LongInt
integer_family low high = by (holds host.ShortInt low high) (holds host.Byte low high) (holds host.Integer low high) (holds host.Word low high)
  where
    by : (a b c d : Bool) → family (cond a host.ShortInt (cond b host.Byte (cond c host.Integer (cond d host.Word host.LongInt)))) ≡ host.LongInt
    by true b c d = refl
    by false true c d = refl
    by false false true d = refl
    by false false false true = refl
    by false false false false = refl

-- what is stored alike is of one family
stored_family : (one : Option TypeDef) → option_map family (stored_as one) ≡ family_of one
stored_family (Some (type.Ordinal host.ShortInt low high)) = ap (λ (h : Host). Some h) (integer_family low high)
stored_family (Some (type.Ordinal host.Byte low high)) = ap (λ (h : Host). Some h) (integer_family low high)
stored_family (Some (type.Ordinal host.Integer low high)) = ap (λ (h : Host). Some h) (integer_family low high)
stored_family (Some (type.Ordinal host.Word low high)) = ap (λ (h : Host). Some h) (integer_family low high)
stored_family (Some (type.Ordinal host.LongInt low high)) = ap (λ (h : Host). Some h) (integer_family low high)
stored_family (Some (type.Ordinal host.Char low high)) = refl
stored_family (Some (type.Ordinal host.Boolean low high)) = refl
stored_family (Some (type.Ordinal host.Enumeration low high)) = refl
stored_family (Some (type.Str max)) = refl
stored_family (Some (type.SetOf base)) = refl
stored_family (Some (type.ArrayOf index element)) = refl
stored_family (Some (type.RecordOf fields)) = refl
stored_family (Some (type.PointerTo target)) = refl
stored_family (Some (type.ObjectOf parent dynamic fields methods)) = refl
stored_family (Some (type.Procedural header)) = refl
stored_family None = refl

-- ---- values that join a parameter's type

-- what joins an ordinal is stored like it
alike : (types : List TypeDef) (same : Type 0) (one other : Option TypeDef) → JoinBy types same one other → IsSome (stored_as one) → stored_as one ≡ stored_as other
alike types same (Some (type.Ordinal host low high)) other joins some = joins.same
alike types same (Some (type.Str max)) other joins some = absurd some
alike types same (Some (type.SetOf base)) other joins some = absurd some
alike types same (Some (type.ArrayOf index element)) other joins some = absurd some
alike types same (Some (type.RecordOf fields)) other joins some = absurd some
alike types same (Some (type.PointerTo target)) other joins some = absurd some
alike types same (Some (type.ObjectOf parent dynamic fields methods)) other joins some = absurd some
alike types same (Some (type.Procedural header)) other joins some = absurd some
alike types same None other joins some = absurd some

family_stored : (one : Option TypeDef) → IsInteger one → IsSome (stored_as one)
family_stored one h = by (stored_as one) refl
  where
    by : (o : Option Host) → stored_as one ≡ o → IsSome (stored_as one)
    by (Some stored) e = subst IsSome (sym e) tt
    by None e = absurd (no_family (sym h ∙ sym (stored_family one) ∙ ap (option_map family) e))
      where
        no_family : Some host.LongInt ≡ None → ⊥
        no_family f = cc

string_joins : (types : List TypeDef) (same : Type 0) (one other : Option TypeDef) → JoinBy types same one other → IsString one → IsString other
string_joins types same (Some (type.Str max)) other joins is = joins
string_joins types same (Some (type.Ordinal host low high)) other joins is = absurd is
string_joins types same (Some (type.SetOf base)) other joins is = absurd is
string_joins types same (Some (type.ArrayOf index element)) other joins is = absurd is
string_joins types same (Some (type.RecordOf fields)) other joins is = absurd is
string_joins types same (Some (type.PointerTo target)) other joins is = absurd is
string_joins types same (Some (type.ObjectOf parent dynamic fields methods)) other joins is = absurd is
string_joins types same (Some (type.Procedural header)) other joins is = absurd is
string_joins types same None other joins is = absurd is

pointer_pair : (types : List TypeDef) (same : Type 0) (target : TypeId) (other : Option TypeDef) → JoinBy types same (Some (type.PointerTo target)) other → IsPointer other
pointer_pair types same target (Some (type.PointerTo given)) joins = tt
pointer_pair types same target (Some (type.Ordinal host low high)) joins = absurd joins
pointer_pair types same target (Some (type.Str max)) joins = absurd joins
pointer_pair types same target (Some (type.SetOf base)) joins = absurd joins
pointer_pair types same target (Some (type.ArrayOf index element)) joins = absurd joins
pointer_pair types same target (Some (type.RecordOf fields)) joins = absurd joins
pointer_pair types same target (Some (type.ObjectOf parent dynamic fields methods)) joins = absurd joins
pointer_pair types same target (Some (type.Procedural header)) joins = absurd joins
pointer_pair types same target None joins = absurd joins

pointer_joins : (types : List TypeDef) (same : Type 0) (one other : Option TypeDef) → JoinBy types same one other → IsPointer one → IsPointer other
pointer_joins types same (Some (type.PointerTo target)) other joins is = pointer_pair types same target other joins
pointer_joins types same (Some (type.Ordinal host low high)) other joins is = absurd is
pointer_joins types same (Some (type.Str max)) other joins is = absurd is
pointer_joins types same (Some (type.SetOf base)) other joins is = absurd is
pointer_joins types same (Some (type.ArrayOf index element)) other joins is = absurd is
pointer_joins types same (Some (type.RecordOf fields)) other joins is = absurd is
pointer_joins types same (Some (type.ObjectOf parent dynamic fields methods)) other joins is = absurd is
pointer_joins types same (Some (type.Procedural header)) other joins is = absurd is
pointer_joins types same None other joins is = absurd is

-- what a slot takes of one type it takes of what joins it
slot_joins : (types : List TypeDef) (same : Type 0) (slot : Slot) (one other : Option TypeDef) → JoinBy types same one other → FitsValue slot one → FitsValue slot other
slot_joins types same Integer one other joins is =
    sym (stored_family other) ∙ sym (ap (option_map family) (alike types same one other joins (family_stored one is))) ∙ stored_family one ∙ is
slot_joins types same Ordinal one other joins is = subst IsSome (alike types same one other joins is) is
slot_joins types same Char one other joins is = sym (alike types same one other joins (subst IsSome (sym is) tt)) ∙ is
slot_joins types same Text one other joins is = string_joins types same one other joins is
slot_joins types same Pointer one other joins is = pointer_joins types same one other joins is
slot_joins types same IntegerVariable one other joins is = is
slot_joins types same OrdinalVariable one other joins is = is
slot_joins types same TextVariable one other joins is = is
slot_joins types same PointerVariable one other joins is = is
slot_joins types same Variable one other joins is = is

value_fits : (types : List TypeDef) (slot : Slot) (ty : TypeId) (o : Option TypeId) → JoinsSome types ty o → FitsValue slot (definition types ty) → FitsValue slot (option_and_then (definition types) o)
value_fits types slot ty None joins is = absurd joins
value_fits types slot ty (Some given) joins is = slot_joins types (Descends types given ty) slot (definition types ty) (definition types given) joins is

-- ---- all arguments

pub fills_each : (s : Scope) (slots : List Slot) (params : List Param) (args : Arguments) → AreSlotsOf s.types slots params → TakeEach s params args → FillEach s slots args
fills_each s [] [] NoArguments are h = tt
fills_each s [] [] (ByValue value rest) are h = absurd h
fills_each s [] [] (ByPlace at rest) are h = absurd h
fills_each s [] (param ∷ params) args are h = absurd are
fills_each s (slot ∷ slots) [] args are h = absurd are
fills_each s (slot ∷ slots) (param ∷ params) NoArguments are h = absurd h
fills_each s (slot ∷ slots) (param ∷ params) (ByValue value rest) are h =
    (h.1, value_fits s.types slot param.ty (type_of value) h.2 are.1, fills_each s slots params rest are.2 h.3)
fills_each s (slot ∷ slots) (param ∷ params) (ByPlace at rest) are h = absurd (never param.by_ref are.0 h.0)
  where
    never : (b : Bool) → b ≡ false → b ≡ true → ⊥
    never b e f = cc
