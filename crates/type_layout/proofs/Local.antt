-- What a type takes depends on the types before it alone.
use Rattle.std.proofs.Common.{◌≡◌, ℕ, zero, suc, ◌+◌, ◌<◌, List, [], ◌∷◌, ◌++◌, length, Option, Some, None, refl, arith, sym, ap, ◌∙◌}
use Rattle.std.specs.List.{All, slice_get}
use Rattle.std.proofs.lemmas.List.Sums.{sum_by-cons}
use Rattle.std.proofs.lemmas.List.Elements.{All-head, All-tail}
use Rattle.type_layout.specs.declared.definitions.TypeId.{TypeId}
use Rattle.type_layout.specs.declared.definitions.Field.{Field}
use Rattle.type_layout.specs.declared.definitions.TypeDef.{TypeDef}
use Rattle.type_layout.specs.declared.definitions.TypeDef.TheVariants.{Ordinal, Str, SetOf, ArrayOf, RecordOf, PointerTo, ObjectOf, Procedural}
use Rattle.type_layout.specs.declared.layout.Layout.{Layout}
use Rattle.type_layout.specs.Layouts.{bounds_at, bounds_of, plain, layout_in, size_in, fields_size, inherited, layout_by, layouts_of, placed_from, offsets_in, offsets_by, offsets_of}
use Rattle.type_layout.specs.Table.{IsOrdinal, IsByteRange, IsObject, IsAncestor, IsDefinedOver}
use Rattle.type_layout.proofs.Given.{get_or-given_by-front}

pub slice_get-append : {X : Type 0} (xs ys : List X) (k : ℕ) → k < length xs → slice_get (xs ++ ys) k ≡ slice_get xs k
slice_get-append [] ys k within = absurd (omega arith)
slice_get-append (x ∷ xs) ys zero within = refl
slice_get-append (x ∷ xs) ys (suc k) within = slice_get-append xs ys k (omega arith)

-- an ordinal type is in the list
within_if_ordinal : (types : List TypeDef) (k : ℕ) → IsOrdinal (slice_get types k) → k < length types
within_if_ordinal [] k is = absurd is
within_if_ordinal (one ∷ types) zero is = omega arith
within_if_ordinal (one ∷ types) (suc k) is = let rec = within_if_ordinal types k is in omega arith

within_if_bytes : (types : List TypeDef) (k : ℕ) → IsByteRange (slice_get types k) → k < length types
within_if_bytes [] k is = absurd is
within_if_bytes (one ∷ types) zero is = omega arith
within_if_bytes (one ∷ types) (suc k) is = let rec = within_if_bytes types k is in omega arith

pub within_if_object : (types : List TypeDef) (k : ℕ) → IsObject (slice_get types k) → k < length types
within_if_object [] k is = absurd is
within_if_object (one ∷ types) zero is = omega arith
within_if_object (one ∷ types) (suc k) is = let rec = within_if_object types k is in omega arith

-- fields of which each has the same size by two lists of layouts
fields_size-same : (old new : List Layout) (n : ℕ) (fields : List Field)
    → ((id : TypeId) → id.0 < n → size_in new id ≡ size_in old id)
    → All (λ field. field.ty.0 < n) fields → fields_size new fields ≡ fields_size old fields
fields_size-same old new n [] same within = refl
fields_size-same old new n (field ∷ fields) same within =
    let rec = fields_size-same old new n fields same (All-tail (λ (f : Field). f.ty.0 < n) field fields within) in
    let here = same field.ty (All-head (λ (f : Field). f.ty.0 < n) field fields within) in
    sum_by-cons (λ (f : Field). size_in new f.ty) field fields
    ∙ omega (arith, rec, here)
    ∙ sym (sum_by-cons (λ (f : Field). size_in old f.ty) field fields)

placed_from-same : (old new : List Layout) (n at : ℕ) (fields : List Field)
    → ((id : TypeId) → id.0 < n → size_in new id ≡ size_in old id)
    → All (λ field. field.ty.0 < n) fields → placed_from new at fields ≡ placed_from old at fields
placed_from-same old new n at [] same within = refl
placed_from-same old new n at (field ∷ fields) same within =
    let here = same field.ty (All-head (λ (f : Field). f.ty.0 < n) field fields within) in
    let rec = placed_from-same old new n (at + size_in old field.ty) fields same (All-tail (λ (f : Field). f.ty.0 < n) field fields within) in
    rw here (ap (λ (rest : List ℕ). at ∷ rest) rec)

module _ (front back : List TypeDef) where
  layout-front : (id : TypeId) → id.0 < length front → layout_in (layouts_of (front ++ back)) id ≡ layout_in (layouts_of front) id
  layout-front id within = get_or-given_by-front layout_by front back id.0 (plain 0) within

  size-front : (id : TypeId) → id.0 < length front → size_in (layouts_of (front ++ back)) id ≡ size_in (layouts_of front) id
  size-front id within = ap (λ (l : Layout). l.size) (layout-front id within)

  bounds-front : (id : TypeId) → id.0 < length front → bounds_at (front ++ back) id ≡ bounds_at front id
  bounds-front id within = ap bounds_of (slice_get-append front back id.0 within)

  inherited-front : (parent : Option TypeId) → IsAncestor front parent → inherited (layouts_of (front ++ back)) parent ≡ inherited (layouts_of front) parent
  inherited-front None is = refl
  inherited-front (Some parent) is = layout-front parent (within_if_object front parent.0 is)

  offsets-front : (parent : Option TypeId) → IsAncestor front parent → offsets_in (offsets_of (front ++ back)) parent ≡ offsets_in (offsets_of front) parent
  offsets-front None is = refl
  offsets-front (Some parent) is = get_or-given_by-front offsets_by front back parent.0 [] (within_if_object front parent.0 is)

  -- the layout over a longer table
  pub layout_by-front : (one : TypeDef) → IsDefinedOver front one
      → layout_by (front ++ back) (layouts_of (front ++ back)) one ≡ layout_by front (layouts_of front) one
  layout_by-front (Ordinal host low high) is = refl
  layout_by-front (Str max) is = refl
  layout_by-front (SetOf base) is = rw (bounds-front base (within_if_bytes front base.0 is)) refl
  layout_by-front (ArrayOf index element) is =
      rw (bounds-front index (within_if_ordinal front index.0 is.0), size-front element is.1) refl
  layout_by-front (RecordOf fields) is =
      rw (fields_size-same (layouts_of front) (layouts_of (front ++ back)) (length front) fields size-front is) refl
  layout_by-front (PointerTo target) is = refl
  layout_by-front (ObjectOf parent dynamic fields methods) is =
      rw (fields_size-same (layouts_of front) (layouts_of (front ++ back)) (length front) fields size-front is.1, inherited-front parent is.0) refl
  layout_by-front (Procedural header) is = refl

  -- the offsets over a longer table
  pub offsets_by-front : (one : TypeDef) → IsDefinedOver front one
      → offsets_by (front ++ back) (offsets_of (front ++ back)) one ≡ offsets_by front (offsets_of front) one
  offsets_by-front (Ordinal host low high) is = refl
  offsets_by-front (Str max) is = refl
  offsets_by-front (SetOf base) is = refl
  offsets_by-front (ArrayOf index element) is = refl
  offsets_by-front (RecordOf fields) is =
      placed_from-same (layouts_of front) (layouts_of (front ++ back)) (length front) 0 fields size-front is
  offsets_by-front (PointerTo target) is = refl
  offsets_by-front (ObjectOf parent dynamic fields methods) is =
      rw (
        offsets-front parent is.0,
        inherited-front parent is.0,
        placed_from-same (layouts_of front) (layouts_of (front ++ back)) (length front) (inherited (layouts_of front) parent).size fields size-front is.1,
      ) refl
  offsets_by-front (Procedural header) is = refl
