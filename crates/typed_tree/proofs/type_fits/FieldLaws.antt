-- The types of a type's fields are as many as their offsets.
use Rattle.std.proofs.Common.{◌≡◌, ℕ, zero, suc, ◌+◌, ◌<◌, List, [], ◌∷◌, ◌++◌, length, map, get_or, Option, Some, None, refl, ap, subst, length-append, arith}
use Rattle.std.proofs.lemmas.Option.{slice_get_within}
use Rattle.type_layout.specs.declared.definitions.TypeId.{TypeId}
use Rattle.type_layout.specs.declared.definitions.Field.{Field}
use Rattle.type_layout.specs.declared.definitions.TypeDef.{TypeDef}
use Rattle.type_layout.specs.declared.definitions.TypeDef.TheVariants as type
use Rattle.type_layout.specs.declared.layout.Layout.{Layout}
use Rattle.type_layout.specs.Layouts.{given_by, offsets_by, offsets_in, offsets_of, placed_from, layouts_of, size_in, inherited}
use Rattle.typed_tree.specs.type_fits.Fits.{types_in, fields_by, field_types_of}
use Rattle.typed_tree.specs.type_fits.Laws.{FieldsHaveOffsets}

-- lists of lists that are as long, one by one
abbrev AreAsLong : List (List TypeId) → List (List ℕ) → Type 0
AreAsLong [] [] = Unit {0}
AreAsLong (xs ∷ xss) (ys ∷ yss) = (length xs ≡ length ys) × AreAsLong xss yss
AreAsLong _ _ = ⊥

as_long-append : (xss : List (List TypeId)) (yss : List (List ℕ)) (xs : List TypeId) (ys : List ℕ)
    → AreAsLong xss yss → length xs ≡ length ys → AreAsLong (xss ++ xs ∷ []) (yss ++ ys ∷ [])
as_long-append [] [] xs ys h e = (e, tt)
as_long-append (x ∷ xss) (y ∷ yss) xs ys h e = (h.0, as_long-append xss yss xs ys h.1 e)
as_long-append [] (y ∷ yss) xs ys h e = absurd h
as_long-append (x ∷ xss) [] xs ys h e = absurd h

as_long-get : (xss : List (List TypeId)) (yss : List (List ℕ)) (k : ℕ) → AreAsLong xss yss → length (get_or xss k []) ≡ length (get_or yss k [])
as_long-get [] [] zero h = refl
as_long-get [] [] (suc k) h = refl
as_long-get (x ∷ xss) (y ∷ yss) zero h = h.0
as_long-get (x ∷ xss) (y ∷ yss) (suc k) h = as_long-get xss yss k h.1
as_long-get [] (y ∷ yss) k h = absurd h
as_long-get (x ∷ xss) [] k h = absurd h

length-placed : (layouts : List Layout) (at : ℕ) (fields : List Field) → length (map (λ (field : Field). field.ty) fields) ≡ length (placed_from layouts at fields)
length-placed layouts at [] = refl
length-placed layouts at (field ∷ fields) = ap suc (length-placed layouts (at + size_in layouts field.ty) fields)

length-inherited : (xss : List (List TypeId)) (yss : List (List ℕ)) (parent : Option TypeId) → AreAsLong xss yss → length (types_in xss parent) ≡ length (offsets_in yss parent)
length-inherited xss yss None h = refl
length-inherited xss yss (Some id) h = as_long-get xss yss id.0 h

one_as_long : (before : List TypeDef) (xss : List (List TypeId)) (yss : List (List ℕ)) (one : TypeDef) → AreAsLong xss yss
    → length (fields_by before xss one) ≡ length (offsets_by before yss one)
one_as_long before xss yss (type.RecordOf fields) h = length-placed (layouts_of before) 0 fields
one_as_long before xss yss (type.ObjectOf parent dynamic fields methods) h =
    let a = length-append (types_in xss parent) (map (λ (field : Field). field.ty) fields) in
    let b = length-append (offsets_in yss parent) (placed_from (layouts_of before) (inherited (layouts_of before) parent).size fields) in
    let c = length-inherited xss yss parent h in
    let d = length-placed (layouts_of before) (inherited (layouts_of before) parent).size fields in
    omega (arith, a, b, c, d)
one_as_long before xss yss (type.Ordinal host low high) h = refl
one_as_long before xss yss (type.Str max) h = refl
one_as_long before xss yss (type.SetOf base) h = refl
one_as_long before xss yss (type.ArrayOf index element) h = refl
one_as_long before xss yss (type.PointerTo target) h = refl
one_as_long before xss yss (type.Procedural header) h = refl

all_as_long : (before : List TypeDef) (xss : List (List TypeId)) (yss : List (List ℕ)) (types : List TypeDef) → AreAsLong xss yss
    → AreAsLong (given_by fields_by before xss types) (given_by offsets_by before yss types)
all_as_long before xss yss [] h = h
all_as_long before xss yss (one ∷ rest) h =
    all_as_long (before ++ one ∷ []) (xss ++ fields_by before xss one ∷ []) (yss ++ offsets_by before yss one ∷ []) rest
    (as_long-append xss yss (fields_by before xss one) (offsets_by before yss one) h (one_as_long before xss yss one h))

pub fields_have_offsets : FieldsHaveOffsets
fields_have_offsets types of ty number e =
    subst (λ (n : ℕ). number < n) (length-inherited (field_types_of types) (offsets_of types) (Some of) (all_as_long [] [] [] types tt))
    (slice_get_within (types_in (field_types_of types) (Some of)) number ty e)
