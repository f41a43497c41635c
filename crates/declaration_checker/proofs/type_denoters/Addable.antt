-- Whether a table takes a type is told by a test.
use Rattle.std.proofs.Common.{◌≡◌, ◌≤◌, ◌<◌, ◌↔◌, ◌^◌, ◌-◌, min, inl, inr, IsTrue, Result, Ok, Err, ℕ, ℤ, ◌≤ℤ◌, int_le, ◌==◌, nat_le, nat_lt, Bool, true, false, All, List, Option, Some, None, Decides, refl, length, arith}
use Rattle.std.proofs.lemmas.Bool.{leb-true, le-leb, lt-leb}
use Rattle.std.proofs.lemmas.Bool.Decides.{same_from_decides, leb_tells, Decides-like, Decides-and, Decides-eqb, Decides-ltb, Decides-by_and}
use Rattle.std.specs.List.{list_all}
use Rattle.type_layout.specs.declared.definitions.TypeId.{TypeId}
use Rattle.type_layout.specs.declared.definitions.Field.{Field}
use Rattle.type_layout.specs.declared.definitions.Method.{Method}
use Rattle.type_layout.specs.declared.definitions.TypeDef.{TypeDef}
use Rattle.type_layout.specs.declared.definitions.TypeDef.TheVariants.{Ordinal, Str, SetOf, ArrayOf, RecordOf, PointerTo, ObjectOf, Procedural}
use Rattle.type_layout.specs.declared.table.TypeError.{TypeError}
use Rattle.type_layout.specs.declared.table.TypeError.TheVariants.{TooLarge}
use Rattle.type_layout.specs.Table.{Table, IsOrdinal, IsByteRange, IsObject, IsAncestor, IsDefinedOver, HasMethodsOf, IsAddable, place_of}
use Rattle.type_layout.specs.Storage.{least_of, greatest_of}
use Rattle.std.proofs.lemmas.Int.{ints}
use Rattle.std.specs.Prelude.{slice_get, pos}
use Rattle.typing_rules.proofs.PlanLaws.{yes, no}
use Rattle.declaration_checker.specs.type_denoters.Additions.{is_ordinal, is_byte_range, is_object, is_ancestor, are_known, is_defined_over, has_methods_of, is_addable}

pub tells_rising : (m n : ℤ) → Decides (int_le m n) (m ≤ℤ n)
tells_rising m n = (λ e. grind (arith, ints), λ h. grind (arith, ints))

pub tells_within : (n limit : ℕ) → Decides (nat_le n limit) (n ≤ limit)
tells_within n limit = (leb-true n limit, le-leb n limit)

tells_ordinal : (one : Option TypeDef) → Decides (is_ordinal one) (IsOrdinal one)
tells_ordinal (Some (Ordinal host low high)) = yes
tells_ordinal _ = no

tells_byte_range : (one : Option TypeDef) → Decides (is_byte_range one) (IsByteRange one)
tells_byte_range (Some (Ordinal host low high)) = Decides-and _ _ (tells_rising (pos 0) low) (tells_rising high (pos 255))
tells_byte_range _ = no

tells_object : (one : Option TypeDef) → Decides (is_object one) (IsObject one)
tells_object (Some (ObjectOf parent dynamic fields methods)) = yes
tells_object _ = no

tells_ancestor : (types : List TypeDef) (parent : Option TypeId) → Decides (is_ancestor types parent) (IsAncestor types parent)
tells_ancestor types None = yes
tells_ancestor types (Some parent) = tells_object (slice_get types parent.0)

tells_known : (types : List TypeDef) (fields : List Field) → Decides (are_known types fields) (All (λ (field : Field). field.ty.0 < length types) fields)
tells_known types fields =
    Decides-by_and (λ (field : Field). nat_lt field.ty.0 (length types)) (λ (field : Field). field.ty.0 < length types) (list_all (λ (field : Field). nat_lt field.ty.0 (length types)))
    (λ field. Decides-ltb field.ty.0 (length types)) refl (λ x xs. refl) fields

tells_defined : (types : List TypeDef) (one : TypeDef) → Decides (is_defined_over types one) (IsDefinedOver types one)
tells_defined types (Ordinal host low high) =
    let both = Decides-and _ _ (tells_rising (least_of host) low) (Decides-and _ _ (tells_rising low high) (tells_rising high (greatest_of host))) in
    Decides-like _ (λ h. (h.0, h.1.0, h.1.1)) (λ h. (h.0, (h.1, h.2))) both
tells_defined types (Str max) = tells_within 1 max
tells_defined types (SetOf base) = tells_byte_range (slice_get types base.0)
tells_defined types (ArrayOf index element) = Decides-and _ _ (tells_ordinal (slice_get types index.0)) (Decides-ltb element.0 (length types))
tells_defined types (RecordOf fields) = tells_known types fields
tells_defined types (PointerTo target) = yes
tells_defined types (ObjectOf parent dynamic fields methods) = Decides-and _ _ (tells_ancestor types parent) (tells_known types fields)
tells_defined types (Procedural header) = yes

tells_methods : (unit : ℕ) (one : TypeDef) → Decides (has_methods_of unit one) (HasMethodsOf unit one)
tells_methods unit (ObjectOf parent dynamic fields methods) =
    Decides-by_and (λ (method : Method). method.routine.unit == unit) (λ (method : Method). method.routine.unit ≡ unit) (list_all (λ (method : Method). method.routine.unit == unit))
    (λ method. Decides-eqb method.routine.unit unit) refl (λ x xs. refl) methods
tells_methods unit (Ordinal host low high) = yes
tells_methods unit (Str max) = yes
tells_methods unit (SetOf base) = yes
tells_methods unit (ArrayOf index element) = yes
tells_methods unit (RecordOf fields) = yes
tells_methods unit (PointerTo target) = yes
tells_methods unit (Procedural header) = yes

pub tells_addable : (table : Table) (origin : List ℕ) (one : TypeDef) → Decides (is_addable table origin one) (IsAddable table origin one)
unfolding is_addable
tells_addable table origin one =
    let defined = tells_defined table.types one in
    let methods = tells_methods (place_of table.units origin) one in
    let both = Decides-and _ _ defined methods in
    (λ e. let found = both.0 e in record { defined = found.0; methods = found.1 }, λ h. both.1 (h.defined, h.methods))

-- what the table answers is that test
pub taken_is : (table : Table) (origin : List ℕ) (one : TypeDef) (taken : Bool) → (IsTrue taken ↔ IsAddable table origin one) → taken ≡ is_addable table origin one
taken_is table origin one taken told = same_from_decides taken (is_addable table origin one) told (tells_addable table origin one)

-- ---- sizes

-- a type is too large exactly where its size passes the limit
abbrev pub IsSized : ℕ → Result TypeId TypeError → Type 0
IsSized size result = (bytes : ℕ) → (result ≡ Err (TooLarge bytes)) ↔ ((65520 < size) × (bytes ≡ min size (2 ^ 64 - 1)))

pub keeps_limit : (size : ℕ) (ty : TypeId) (result : Result TypeId TypeError) → IsSized size result → result ≡ Ok ty → nat_le (min size (2 ^ 64 - 1)) 65520 ≡ true
keeps_limit size ty result law is = elim (leb_tells (min size (2 ^ 64 - 1)) 65520) [
  | inl h ↦ h.0
  | inr h ↦
      let past : 65520 < size = omega (arith, h.1) in
      let e : result ≡ Err (TooLarge (min size (2 ^ 64 - 1))) = (law (min size (2 ^ 64 - 1))).1 (past, refl) in
      cc
]

pub passes_limit : (size bytes : ℕ) (result : Result TypeId TypeError) → IsSized size result → result ≡ Err (TooLarge bytes)
    → (nat_le (min size (2 ^ 64 - 1)) 65520 ≡ false) × (bytes ≡ min size (2 ^ 64 - 1))
passes_limit size bytes result law is =
    let told = (law bytes).0 is in
    (lt-leb (min size (2 ^ 64 - 1)) 65520 (omega (arith, told.0)), told.1)
