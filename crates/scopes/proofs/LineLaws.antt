-- In a well-formed table a line ends within as many types as there are.
use Rattle.std.proofs.Common.{◌≡◌, ℕ, zero, suc, ◌+◌, ◌<◌, ◌≤◌, List, [], ◌∷◌, ◌++◌, length, Option, Some, None, refl, arith, ap, ◌∙◌, length-append}
use Rattle.std.specs.Prelude.{slice_get}
use Rattle.type_layout.specs.declared.definitions.TypeId.{TypeId}
use Rattle.type_layout.specs.declared.definitions.TypeDef.{TypeDef}
use Rattle.type_layout.specs.declared.definitions.TypeDef.TheVariants.{Ordinal, Str, SetOf, ArrayOf, RecordOf, PointerTo, ObjectOf, Procedural}
use Rattle.type_layout.specs.Table.{Table, IsWellFormed, IsObject, IsDefinedOver, AllDefined}
use Rattle.scopes.specs.declared.members.Member.{Member}
use Rattle.scopes.specs.Members.{first_of, parent_of, own_fields, own_member, fields_within, member_within}
use Rattle.scopes.specs.Lines.{IsLineSearch}

object-below : (types : List TypeDef) (place : ℕ) → IsObject (slice_get types place) → place < length types
object-below [] zero object = absurd object
object-below [] (suc place) object = absurd object
object-below (t ∷ types) zero object = omega arith
object-below (t ∷ types) (suc place) object = let rest = object-below types place object in omega arith

ancestor-below : (before : List TypeDef) (one : TypeDef) (parent : TypeId) → IsDefinedOver before one → parent_of (Some one) ≡ Some parent → parent.0 < length before
ancestor-below before (Ordinal host low high) parent defined is = cc
ancestor-below before (Str max) parent defined is = cc
ancestor-below before (SetOf base) parent defined is = cc
ancestor-below before (ArrayOf index element) parent defined is = cc
ancestor-below before (RecordOf fields) parent defined is = cc
ancestor-below before (PointerTo target) parent defined is = cc
ancestor-below before (ObjectOf None dynamic fields methods) parent defined is = cc
ancestor-below before (ObjectOf (Some other) dynamic fields methods) parent defined is =
    let same : other ≡ parent = cc in
    rw (← same) (object-below before other.0 defined.0)
ancestor-below before (Procedural header) parent defined is = cc

parent-below : (before types : List TypeDef) (place : ℕ) (one : TypeDef) (parent : TypeId) → AllDefined before types
    → slice_get types place ≡ Some one → parent_of (Some one) ≡ Some parent → parent.0 < length before + place
parent-below before [] zero one parent all at is = cc
parent-below before [] (suc place) one parent all at is = cc
parent-below before (t ∷ types) zero one parent all at is =
    let same : t ≡ one = cc in
    let below = ancestor-below before t parent all.0 (rw same is) in
    omega arith
parent-below before (t ∷ types) (suc place) one parent all at is =
    let rest = parent-below (before ++ t ∷ []) types place one parent all.1 at is in
    omega (arith, length-append before (t ∷ []))

-- what is below the place of a type that has a parent
abbrev Falls : List TypeDef → Type 0
Falls types = (place : ℕ) (one : TypeDef) (parent : TypeId) → slice_get types place ≡ Some one → parent_of (Some one) ≡ Some parent → parent.0 < place

falls : (table : Table) → IsWellFormed table → (place : ℕ) (one : TypeDef) (parent : TypeId) → slice_get table.types place ≡ Some one
    → parent_of (Some one) ≡ Some parent → parent.0 < place
falls table well place one parent at is = let below = parent-below [] table.types place one parent well.defined at is in omega arith

-- ---- more room changes nothing

abbrev IsBelow : ℕ → Option TypeId → Type 0
IsBelow room None = Unit {0}
IsBelow room (Some ty) = ty.0 < room

parent-within : (types : List TypeDef) → Falls types → (ty : TypeId) (one : TypeDef) (room : ℕ) → slice_get types ty.0 ≡ Some one → ty.0 ≤ room
    → IsBelow room (parent_of (Some one))
parent-within types h ty one room at below = by (parent_of (Some one)) refl
  where
    by : (o : Option TypeId) → parent_of (Some one) ≡ o → IsBelow room o
    by None e = tt
    by (Some parent) e = let less = h ty.0 one parent at e in omega arith

no-fields : (types : List TypeDef) (room : ℕ) → fields_within room types None ≡ 0
no-fields types zero = refl
no-fields types (suc room) = refl

no-member : (types : List TypeDef) (name : List ℕ) (room : ℕ) → member_within room types None name ≡ None
no-member types name zero = refl
no-member types name (suc room) = refl

fields-by : (types : List TypeDef) → Falls types → (r s : ℕ) (ty : TypeId) → ty.0 ≤ r → ty.0 ≤ s
    → ((other : Option TypeId) → IsBelow r other → IsBelow s other → fields_within r types other ≡ fields_within s types other)
    → (o : Option TypeDef) → slice_get types ty.0 ≡ o → fields_within (suc r) types (Some ty) ≡ fields_within (suc s) types (Some ty)
fields-by types h r s ty below within rest None e = rw (e, no-fields types r, no-fields types s) refl
fields-by types h r s ty below within rest (Some one) e =
    rw e (ap (λ (n : ℕ). own_fields (Some one) + n) (rest (parent_of (Some one)) (parent-within types h ty one r e below) (parent-within types h ty one s e within)))

fields-stable : (types : List TypeDef) → Falls types → (r s : ℕ) (ty : Option TypeId) → IsBelow r ty → IsBelow s ty
    → fields_within r types ty ≡ fields_within s types ty
fields-stable types h zero zero ty below within = refl
fields-stable types h zero (suc s) None below within = refl
fields-stable types h zero (suc s) (Some ty) below within = absurd (omega arith)
fields-stable types h (suc r) zero None below within = refl
fields-stable types h (suc r) zero (Some ty) below within = absurd (omega arith)
fields-stable types h (suc r) (suc s) None below within = refl
fields-stable types h (suc r) (suc s) (Some ty) below within =
    fields-by types h r s ty (omega arith) (omega arith) (λ other b w. fields-stable types h r s other b w) (slice_get types ty.0) refl

member-parts : (types : List TypeDef) (name : List ℕ) (r s : ℕ) (ty : TypeId) (one : TypeDef)
    → fields_within r types (parent_of (Some one)) ≡ fields_within s types (parent_of (Some one))
    → member_within r types (parent_of (Some one)) name ≡ member_within s types (parent_of (Some one)) name
    → first_of (own_member (fields_within r types (parent_of (Some one))) ty (Some one) name) (member_within r types (parent_of (Some one)) name)
    ≡ first_of (own_member (fields_within s types (parent_of (Some one))) ty (Some one) name) (member_within s types (parent_of (Some one)) name)
member-parts types name r s ty one fields member =
    ap (λ (n : ℕ). first_of (own_member n ty (Some one) name) (member_within r types (parent_of (Some one)) name)) fields
    ∙ ap (λ (o : Option Member). first_of (own_member (fields_within s types (parent_of (Some one))) ty (Some one) name) o) member

member-by : (types : List TypeDef) (name : List ℕ) → Falls types → (r s : ℕ) (ty : TypeId) → ty.0 ≤ r → ty.0 ≤ s
    → ((other : Option TypeId) → IsBelow r other → IsBelow s other → member_within r types other name ≡ member_within s types other name)
    → (o : Option TypeDef) → slice_get types ty.0 ≡ o → member_within (suc r) types (Some ty) name ≡ member_within (suc s) types (Some ty) name
member-by types name h r s ty below within rest None e = rw (e, no-member types name r, no-member types name s) refl
member-by types name h r s ty below within rest (Some one) e =
    let b = parent-within types h ty one r e below in
    let w = parent-within types h ty one s e within in
    rw e (member-parts types name r s ty one (fields-stable types h r s (parent_of (Some one)) b w) (rest (parent_of (Some one)) b w))

member-stable : (types : List TypeDef) (name : List ℕ) → Falls types → (r s : ℕ) (ty : Option TypeId) → IsBelow r ty → IsBelow s ty
    → member_within r types ty name ≡ member_within s types ty name
member-stable types name h zero zero ty below within = refl
member-stable types name h zero (suc s) None below within = refl
member-stable types name h zero (suc s) (Some ty) below within = absurd (omega arith)
member-stable types name h (suc r) zero None below within = refl
member-stable types name h (suc r) zero (Some ty) below within = absurd (omega arith)
member-stable types name h (suc r) (suc s) None below within = refl
member-stable types name h (suc r) (suc s) (Some ty) below within =
    member-by types name h r s ty (omega arith) (omega arith) (λ other b w. member-stable types name h r s other b w) (slice_get types ty.0) refl

-- ---- the law

place-below : (types : List TypeDef) (place : ℕ) (one : TypeDef) → slice_get types place ≡ Some one → place < length types
place-below [] zero one at = cc
place-below [] (suc place) one at = cc
place-below (t ∷ types) zero one at = omega arith
place-below (t ∷ types) (suc place) one at = let rest = place-below types place one at in omega arith

fields-next : (types : List TypeDef) → Falls types → (room : ℕ) (ty : TypeId) (one : TypeDef) → slice_get types ty.0 ≡ Some one → ty.0 < room
    → fields_within room types (Some ty) ≡ own_fields (Some one) + fields_within room types (parent_of (Some one))
fields-next types h zero ty one at below = absurd (omega arith)
fields-next types h (suc room) ty one at below =
    rw at (ap (λ (n : ℕ). own_fields (Some one) + n)
    (fields-stable types h room (suc room) (parent_of (Some one)) (parent-within types h ty one room at (omega arith)) (parent-within types h ty one (suc room) at (omega arith))))

member-next : (types : List TypeDef) (name : List ℕ) → Falls types → (room : ℕ) (ty : TypeId) (one : TypeDef) → slice_get types ty.0 ≡ Some one → ty.0 < room
    → member_within room types (Some ty) name
    ≡ first_of (own_member (fields_within room types (parent_of (Some one))) ty (Some one) name) (member_within room types (parent_of (Some one)) name)
member-next types name h zero ty one at below = absurd (omega arith)
member-next types name h (suc room) ty one at below =
    let b = parent-within types h ty one room at (omega arith) in
    let w = parent-within types h ty one (suc room) at (omega arith) in
    rw at (member-parts types name room (suc room) ty one (fields-stable types h room (suc room) (parent_of (Some one)) b w)
    (member-stable types name h room (suc room) (parent_of (Some one)) b w))

pub line_search : (table : Table) → IsWellFormed table → IsLineSearch table.types
line_search table well =
    let types = table.types in
    let h = falls table well in
    record {
      nothing = λ name. no-member types name (length types);
      no_fields = no-fields types (length types);
      member = λ ty one name at. member-next types name h (length types) ty one at (place-below types ty.0 one at);
      fields = λ ty one at. fields-next types h (length types) ty one at (place-below types ty.0 one at);
    }
