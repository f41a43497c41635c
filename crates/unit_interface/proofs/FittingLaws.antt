-- A type whose parts stand in a table under their new ids can stand there too, and takes there what it took.
use Rattle.std.proofs.Common.{◌≡◌, ℕ, zero, suc, ◌<◌, List, [], ◌∷◌, ◌++◌, length, map, Option, Some, None, get_or, refl, arith, sym, ap, ◌∙◌, subst, length-append}
use Rattle.std.specs.Prelude.{All, slice_get, option_map}
use Rattle.std.proofs.lemmas.List.Sums.{sum_by-cons}
use Rattle.std.proofs.lemmas.List.Elements.{All-head, All-tail, All-cons, All-map}
use Rattle.std.proofs.lemmas.Option.{slice_get_within}
use Rattle.type_layout.specs.declared.definitions.TypeId.{TypeId}
use Rattle.type_layout.specs.declared.definitions.Field.{Field}
use Rattle.type_layout.specs.declared.definitions.Method.{Method}
use Rattle.type_layout.specs.declared.definitions.TypeDef.{TypeDef}
use Rattle.type_layout.specs.declared.definitions.TypeDef.TheVariants.{Ordinal, Str, SetOf, ArrayOf, RecordOf, PointerTo, ObjectOf, Procedural}
use Rattle.type_layout.specs.declared.layout.Layout.{Layout}
use Rattle.type_layout.specs.Layouts.{bounds_of, bounds_at, size_in, layout_at, fields_size, inherited, layout_by, layouts_of}
use Rattle.type_layout.specs.Table.{IsOrdinal, IsByteRange, IsObject, IsAncestor, IsDefinedOver, HasMethodsOf}
use Rattle.type_layout.proofs.Local.{slice_get-append}
use Rattle.type_layout.proofs.Measured.{Round}
use Rattle.unit_interface.specs.Merge.{new_id, renumbered, renumbered_field, renumbered_method}
use Rattle.unit_interface.specs.Exports.{in_fields, in_methods, in_type}
use Rattle.unit_interface.proofs.OrderLaws.{IsIn, in_left, in_right, in_one}

-- a type of the unit's table stands in a table under another id
pub record IsAt (ids : List TypeId) (types : List TypeDef) (id : TypeId) (one : TypeDef) : Type 0 where
  pub unit : ℕ
  pub at : slice_get types id.0 ≡ Some (renumbered ids unit one)

-- The type with this id stands in a table under its new one, and takes as much there.
pub record IsSame (own types : List TypeDef) (ids : List TypeId) (id : TypeId) : Type 0 where
  pub one : TypeDef
  pub stands : slice_get own id.0 ≡ Some one
  pub there : IsAt ids types (new_id ids id) one
  pub layout : layout_at types (new_id ids id) ≡ layout_at own id

bounds-renumbered : (ids : List TypeId) (unit : ℕ) (one : TypeDef) → bounds_of (Some (renumbered ids unit one)) ≡ bounds_of (Some one)
bounds-renumbered ids unit (Ordinal host low high) = refl
bounds-renumbered ids unit (Str max) = refl
bounds-renumbered ids unit (SetOf base) = refl
bounds-renumbered ids unit (ArrayOf index element) = refl
bounds-renumbered ids unit (RecordOf fields) = refl
bounds-renumbered ids unit (PointerTo target) = refl
bounds-renumbered ids unit (ObjectOf parent dynamic fields methods) = refl
bounds-renumbered ids unit (Procedural header) = refl

ordinal-renumbered : (ids : List TypeId) (unit : ℕ) (one : TypeDef) → IsOrdinal (Some one) → IsOrdinal (Some (renumbered ids unit one))
ordinal-renumbered ids unit (Ordinal host low high) is = is
ordinal-renumbered ids unit (Str max) is = absurd is
ordinal-renumbered ids unit (SetOf base) is = absurd is
ordinal-renumbered ids unit (ArrayOf index element) is = absurd is
ordinal-renumbered ids unit (RecordOf fields) is = absurd is
ordinal-renumbered ids unit (PointerTo target) is = absurd is
ordinal-renumbered ids unit (ObjectOf parent dynamic fields methods) is = absurd is
ordinal-renumbered ids unit (Procedural header) is = absurd is

bytes-renumbered : (ids : List TypeId) (unit : ℕ) (one : TypeDef) → IsByteRange (Some one) → IsByteRange (Some (renumbered ids unit one))
bytes-renumbered ids unit (Ordinal host low high) is = is
bytes-renumbered ids unit (Str max) is = absurd is
bytes-renumbered ids unit (SetOf base) is = absurd is
bytes-renumbered ids unit (ArrayOf index element) is = absurd is
bytes-renumbered ids unit (RecordOf fields) is = absurd is
bytes-renumbered ids unit (PointerTo target) is = absurd is
bytes-renumbered ids unit (ObjectOf parent dynamic fields methods) is = absurd is
bytes-renumbered ids unit (Procedural header) is = absurd is

object-renumbered : (ids : List TypeId) (unit : ℕ) (one : TypeDef) → IsObject (Some one) → IsObject (Some (renumbered ids unit one))
object-renumbered ids unit (Ordinal host low high) is = absurd is
object-renumbered ids unit (Str max) is = absurd is
object-renumbered ids unit (SetOf base) is = absurd is
object-renumbered ids unit (ArrayOf index element) is = absurd is
object-renumbered ids unit (RecordOf fields) is = absurd is
object-renumbered ids unit (PointerTo target) is = absurd is
object-renumbered ids unit (ObjectOf parent dynamic fields methods) is = is
object-renumbered ids unit (Procedural header) is = absurd is

module _ (own types : List TypeDef) (ids : List TypeId) where
  bounds-same : (id : TypeId) → IsSame own types ids id → bounds_at types (new_id ids id) ≡ bounds_at own id
  bounds-same id s = ap bounds_of s.there.at ∙ bounds-renumbered ids s.there.unit s.one ∙ sym (ap bounds_of s.stands)

  size-same : (id : TypeId) → IsSame own types ids id → size_in (layouts_of types) (new_id ids id) ≡ size_in (layouts_of own) id
  size-same id s = ap (λ (l : Layout). l.size) s.layout

  within : (id : TypeId) → IsSame own types ids id → (new_id ids id).0 < length types
  within id s = slice_get_within types (new_id ids id).0 (renumbered ids s.there.unit s.one) s.there.at

  kind-same : (Q : Option TypeDef → Type 0) → ((unit : ℕ) (one : TypeDef) → Q (Some one) → Q (Some (renumbered ids unit one)))
      → (id : TypeId) → IsSame own types ids id → Q (slice_get own id.0) → Q (slice_get types (new_id ids id).0)
  kind-same Q keeps id s is =
      let one : Q (Some s.one) = subst Q s.stands is in
      subst Q (sym s.there.at) (keeps s.there.unit s.one one)

  fields-same : (fields : List Field) → All (λ field. IsSame own types ids field.ty) fields
      → fields_size (layouts_of types) (map (renumbered_field ids) fields) ≡ fields_size (layouts_of own) fields
  fields-same [] all = refl
  fields-same (field ∷ fields) all =
      let rec = fields-same fields (All-tail (λ (f : Field). IsSame own types ids f.ty) field fields all) in
      let here = size-same field.ty (All-head (λ (f : Field). IsSame own types ids f.ty) field fields all) in
      sum_by-cons (λ (f : Field). size_in (layouts_of types) f.ty) (renumbered_field ids field) (map (renumbered_field ids) fields)
      ∙ omega (arith, rec, here)
      ∙ sym (sum_by-cons (λ (f : Field). size_in (layouts_of own) f.ty) field fields)

  fields-within : (fields : List Field) → All (λ field. IsSame own types ids field.ty) fields
      → All (λ field. field.ty.0 < length types) (map (renumbered_field ids) fields)
  fields-within fields all =
      All-map (λ (f : Field). f.ty.0 < length types) (renumbered_field ids) fields (λ k d below. within (get_or fields k d).ty (all k d below))

  inherited-same : (parent : Option TypeId) → ((id : TypeId) → parent ≡ Some id → IsSame own types ids id)
      → inherited (layouts_of types) (option_map (new_id ids) parent) ≡ inherited (layouts_of own) parent
  inherited-same None same = refl
  inherited-same (Some id) same = (same id refl).layout

  ancestor-same : (parent : Option TypeId) → ((id : TypeId) → parent ≡ Some id → IsSame own types ids id) → IsAncestor own parent
      → IsAncestor types (option_map (new_id ids) parent)
  ancestor-same None same is = tt
  ancestor-same (Some id) same is = kind-same IsObject (λ unit one. object-renumbered ids unit one) id (same id refl) is

methods-of : (ids : List TypeId) (unit : ℕ) (methods : List Method) → All (λ method. method.routine.unit ≡ unit) (map (renumbered_method ids unit) methods)
methods-of ids unit methods =
    All-map (λ (m : Method). m.routine.unit ≡ unit) (renumbered_method ids unit) methods (λ k d below. refl)

-- the methods of a renumbered type are of the unit that it was renumbered for
pub has_methods : (ids : List TypeId) (unit : ℕ) (one : TypeDef) → HasMethodsOf unit (renumbered ids unit one)
has_methods ids unit (Ordinal host low high) = tt
has_methods ids unit (Str max) = tt
has_methods ids unit (SetOf base) = tt
has_methods ids unit (ArrayOf index element) = tt
has_methods ids unit (RecordOf fields) = tt
has_methods ids unit (PointerTo target) = tt
has_methods ids unit (ObjectOf parent dynamic fields methods) = methods-of ids unit methods
has_methods ids unit (Procedural header) = tt

-- the parts by value of a type stand in the table
abbrev pub HasParts : List TypeDef → List TypeDef → List TypeId → TypeDef → Type 0
HasParts own types ids (Ordinal host low high) = Unit {0}
HasParts own types ids (Str max) = Unit {0}
HasParts own types ids (SetOf base) = IsSame own types ids base
HasParts own types ids (ArrayOf index element) = IsSame own types ids index × IsSame own types ids element
HasParts own types ids (RecordOf fields) = All (λ field. IsSame own types ids field.ty) fields
HasParts own types ids (PointerTo target) = Unit {0}
HasParts own types ids (ObjectOf parent dynamic fields methods) =
    ((id : TypeId) → parent ≡ Some id → IsSame own types ids id) × All (λ field. IsSame own types ids field.ty) fields
HasParts own types ids (Procedural header) = Unit {0}

pub defined_there : (own types : List TypeDef) (ids : List TypeId) (unit : ℕ) (one : TypeDef) → IsDefinedOver own one → HasParts own types ids one
    → IsDefinedOver types (renumbered ids unit one)
defined_there own types ids unit (Ordinal host low high) is parts = is
defined_there own types ids unit (Str max) is parts = is
defined_there own types ids unit (SetOf base) is parts =
    kind-same own types ids IsByteRange (λ u one. bytes-renumbered ids u one) base parts is
defined_there own types ids unit (ArrayOf index element) is parts = (
  kind-same own types ids IsOrdinal (λ u one. ordinal-renumbered ids u one) index parts.0 is.0,
  within own types ids element parts.1,
)
defined_there own types ids unit (RecordOf fields) is parts = fields-within own types ids fields parts
defined_there own types ids unit (PointerTo target) is parts = tt
defined_there own types ids unit (ObjectOf parent dynamic fields methods) is parts =
    (ancestor-same own types ids parent parts.0 is.0, fields-within own types ids fields parts.1)
defined_there own types ids unit (Procedural header) is parts = tt

pub layout_there : (own types : List TypeDef) (ids : List TypeId) (unit : ℕ) (one : TypeDef) → HasParts own types ids one
    → layout_by types (layouts_of types) (renumbered ids unit one) ≡ layout_by own (layouts_of own) one
layout_there own types ids unit (Ordinal host low high) parts = refl
layout_there own types ids unit (Str max) parts = refl
layout_there own types ids unit (SetOf base) parts = rw (bounds-same own types ids base parts) refl
layout_there own types ids unit (ArrayOf index element) parts =
    rw (bounds-same own types ids index parts.0, size-same own types ids element parts.1) refl
layout_there own types ids unit (RecordOf fields) parts = rw (fields-same own types ids fields parts) refl
layout_there own types ids unit (PointerTo target) parts = refl
layout_there own types ids unit (ObjectOf parent dynamic fields methods) parts =
    rw (fields-same own types ids fields parts.1, inherited-same own types ids parent parts.0) refl
layout_there own types ids unit (Procedural header) parts = refl

-- ---- a type of the unit's table, whose parts by value stand before it

found_within : (Q : Option TypeDef → Type 0) → (Q None → ⊥) → (types : List TypeDef) (k : ℕ) → Q (slice_get types k) → k < length types
found_within Q none [] k is = absurd (none is)
found_within Q none (one ∷ types) zero is = omega arith
found_within Q none (one ∷ types) (suc k) is = let rec = found_within Q none types k is in omega arith

bytes_within : (types : List TypeDef) (k : ℕ) → IsByteRange (slice_get types k) → k < length types
bytes_within types k is = found_within IsByteRange (λ no. no) types k is

ordinal_within : (types : List TypeDef) (k : ℕ) → IsOrdinal (slice_get types k) → k < length types
ordinal_within types k is = found_within IsOrdinal (λ no. no) types k is

object_within : (types : List TypeDef) (k : ℕ) → IsObject (slice_get types k) → k < length types
object_within types k is = found_within IsObject (λ no. no) types k is

-- what a test says of a type stays, whatever types follow
kind-front : (Q : Option TypeDef → Type 0) (front back : List TypeDef) (k : ℕ) → k < length front → Q (slice_get front k) → Q (slice_get (front ++ back) k)
kind-front Q front back k below is = subst Q (sym (slice_get-append front back k below)) is

fields-longer : (front back : List TypeDef) (fields : List Field) → All (λ field. field.ty.0 < length front) fields
    → All (λ field. field.ty.0 < length (front ++ back)) fields
fields-longer front back fields all k d below = omega (arith, all k d below, length-append front back)

defined-longer : (front back : List TypeDef) (one : TypeDef) → IsDefinedOver front one → IsDefinedOver (front ++ back) one
defined-longer front back (Ordinal host low high) is = is
defined-longer front back (Str max) is = is
defined-longer front back (SetOf base) is = kind-front IsByteRange front back base.0 (bytes_within front base.0 is) is
defined-longer front back (ArrayOf index element) is = (
  kind-front IsOrdinal front back index.0 (ordinal_within front index.0 is.0) is.0,
  omega (arith, is.1, length-append front back),
)
defined-longer front back (RecordOf fields) is = fields-longer front back fields is
defined-longer front back (PointerTo target) is = tt
defined-longer front back (ObjectOf None dynamic fields methods) is = (tt, fields-longer front back fields is.1)
defined-longer front back (ObjectOf (Some parent) dynamic fields methods) is =
    (kind-front IsObject front back parent.0 (object_within front parent.0 is.0) is.0, fields-longer front back fields is.1)
defined-longer front back (Procedural header) is = tt

fields-parts : (Good : TypeId → Type 0) (count : ℕ) (fields : List Field) → ((id : TypeId) → id.0 < count → IsIn id.0 (in_fields fields) → Good id)
    → All (λ field. field.ty.0 < count) fields → All (λ field. Good field.ty) fields
fields-parts Good count [] good below = λ k d within. absurd (omega (arith, within))
fields-parts Good count (field ∷ fields) good below =
    All-cons (λ (f : Field). Good f.ty) field fields
    (good field.ty (All-head (λ (f : Field). f.ty.0 < count) field fields below) (in_left field.ty.0 (field.ty.0 ∷ []) (in_fields fields) (in_one field.ty.0)))
    (fields-parts Good count fields (λ id under named. good id under (in_right id.0 (field.ty.0 ∷ []) (in_fields fields) named))
    (All-tail (λ (f : Field). f.ty.0 < count) field fields below))

-- the parts by value are among the types that a type names
parts_from : (own types : List TypeDef) (ids : List TypeId) (front : List TypeDef) (one : TypeDef)
    → ((id : TypeId) → id.0 < length front → IsIn id.0 (in_type one) → IsSame own types ids id) → IsDefinedOver front one → HasParts own types ids one
parts_from own types ids front (Ordinal host low high) good is = tt
parts_from own types ids front (Str max) good is = tt
parts_from own types ids front (SetOf base) good is = good base (bytes_within front base.0 is) (in_one base.0)
parts_from own types ids front (ArrayOf index element) good is = (
  good index (ordinal_within front index.0 is.0) (in_left index.0 (index.0 ∷ []) (element.0 ∷ []) (in_one index.0)),
  good element is.1 (in_right element.0 (index.0 ∷ []) (element.0 ∷ []) (in_one element.0)),
)
parts_from own types ids front (RecordOf fields) good is = fields-parts (λ id. IsSame own types ids id) (length front) fields good is
parts_from own types ids front (PointerTo target) good is = tt
parts_from own types ids front (ObjectOf None dynamic fields methods) good is = (
  λ id no. absurd (cc),
  fields-parts (λ id. IsSame own types ids id) (length front) fields
      (λ id below named. good id below (in_left id.0 (in_fields fields) (in_methods methods) named)) is.1,
)
parts_from own types ids front (ObjectOf (Some parent) dynamic fields methods) good is = (
  λ id at.
      let same : parent ≡ id = cc in
      subst (λ (p : TypeId). IsSame own types ids p) same
      (good parent (object_within front parent.0 is.0)
      (in_left parent.0 (parent.0 ∷ []) (in_fields fields ++ in_methods methods) (in_one parent.0))),
  fields-parts (λ id. IsSame own types ids id) (length front) fields
      (λ id below named. good id below
      (in_right id.0 (parent.0 ∷ []) (in_fields fields ++ in_methods methods) (in_left id.0 (in_fields fields) (in_methods methods) named)))
      is.1,
)
parts_from own types ids front (Procedural header) good is = tt

-- A type of the unit's table of which all types that it names and that stand before it stand in a table: it can stand
-- there too, and takes there what it took.
pub record IsFitting (own types : List TypeDef) (ids : List TypeId) (one : TypeDef) : Type 0 where
  pub defined : (unit : ℕ) → IsDefinedOver types (renumbered ids unit one)
  pub layout : (unit : ℕ) → layout_by types (layouts_of types) (renumbered ids unit one) ≡ layout_by own (layouts_of own) one

pub fitting : (own types : List TypeDef) (ids : List TypeId) (number : ℕ) (one : TypeDef) → Round own number one
    → ((id : TypeId) → id.0 < number → IsIn id.0 (in_type one) → IsSame own types ids id) → IsFitting own types ids one
fitting own types ids number one r good =
    let parts = parts_from own types ids r.front one (λ id below named. good id (omega (arith, below, r.at)) named) r.defined in
    let longer : IsDefinedOver own one = subst (λ (all : List TypeDef). IsDefinedOver all one) (sym r.is) (defined-longer r.front (one ∷ r.back) one r.defined) in
    record {
      defined = λ unit. defined_there own types ids unit one longer parts;
      layout = λ unit. layout_there own types ids unit one parts;
    }
