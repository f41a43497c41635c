-- What reads a type is made of what reads its parts.
use Rattle.std.proofs.Common.{◌≡◌, ℕ, zero, suc, ◌<◌, List, [], ◌∷◌, ◌++◌, length, map, Some, refl, ap, sym, ◌∙◌, arith}
use Rattle.std.proofs.Math.IntN.{ℤ}
use Rattle.std.specs.List.{All, slice_get}
use Rattle.std.proofs.lemmas.List.Elements.{All-head, All-tail}
use Rattle.type_layout.specs.declared.definitions.TypeId.{TypeId}
use Rattle.type_layout.specs.declared.definitions.Field.{Field}
use Rattle.type_layout.specs.declared.definitions.TypeDef.{TypeDef}
use Rattle.type_layout.specs.declared.definitions.TypeDef.TheVariants as type
use Rattle.type_layout.specs.Storage.{count_between}
use Rattle.type_layout.specs.Layouts.{bounds_of, bounds_at}
use Rattle.type_layout.specs.Table.{IsOrdinal, IsByteRange, IsDefinedOver, AllDefined}
use Rattle.type_layout.proofs.Given.{get_or-given_by-front, get_or-given_by-middle}
use Rattle.type_layout.proofs.Local.{slice_get-append}
use Rattle.type_layout.proofs.Measured.{Round, round}
use Rattle.tp_meaning.specs.Shapes.{Reader, read_many, read_chain, read_set, read_nothing, reader_in, reader_by, readers_of}

within_if_ordinal : (types : List TypeDef) (k : ℕ) → IsOrdinal (slice_get types k) → k < length types
within_if_ordinal [] k is = absurd is
within_if_ordinal (one ∷ types) zero is = omega arith
within_if_ordinal (one ∷ types) (suc k) is = let rec = within_if_ordinal types k is in omega (arith, rec)

within_if_bytes : (types : List TypeDef) (k : ℕ) → IsByteRange (slice_get types k) → k < length types
within_if_bytes [] k is = absurd is
within_if_bytes (one ∷ types) zero is = omega arith
within_if_bytes (one ∷ types) (suc k) is = let rec = within_if_bytes types k is in omega (arith, rec)

module _ (front back : List TypeDef) where
  bounds-front : (id : TypeId) → id.0 < length front → bounds_at (front ++ back) id ≡ bounds_at front id
  bounds-front id within = ap bounds_of (slice_get-append front back id.0 within)

  reader-front : (id : TypeId) → id.0 < length front → reader_in (readers_of (front ++ back)) id ≡ reader_in (readers_of front) id
  reader-front id within = get_or-given_by-front reader_by front back id.0 read_nothing within

  fields-front : (fields : List Field) → All (λ field. field.ty.0 < length front) fields
      → map (λ (field : Field). reader_in (readers_of (front ++ back)) field.ty) fields ≡ map (λ (field : Field). reader_in (readers_of front) field.ty) fields
  fields-front [] all = refl
  fields-front (field ∷ fields) all =
      let here = reader-front field.ty (All-head (λ (f : Field). f.ty.0 < length front) field fields all) in
      let rest = fields-front fields (All-tail (λ (f : Field). f.ty.0 < length front) field fields all) in
      ap (λ (read : Reader). read ∷ map (λ (f : Field). reader_in (readers_of (front ++ back)) f.ty) fields) here
      ∙ ap (λ (reads : List Reader). reader_in (readers_of front) field.ty ∷ reads) rest

  reader_by-front : (one : TypeDef) → IsDefinedOver front one
      → reader_by (front ++ back) (readers_of (front ++ back)) one ≡ reader_by front (readers_of front) one
  reader_by-front (type.Ordinal host low high) d = refl
  reader_by-front (type.Str max) d = refl
  reader_by-front (type.SetOf base) d = ap (λ (b : ℤ × ℤ). read_set b.0 b.1) (bounds-front base (within_if_bytes front base.0 d))
  reader_by-front (type.ArrayOf index element) d =
      ap (λ (b : ℤ × ℤ). read_many (count_between b.0 b.1) (reader_in (readers_of (front ++ back)) element)) (bounds-front index (within_if_ordinal front index.0 d.0))
      ∙ ap (λ (read : Reader). read_many (count_between (bounds_at front index).0 (bounds_at front index).1) read) (reader-front element d.1)
  reader_by-front (type.RecordOf fields) d = ap read_chain (fields-front fields d)
  reader_by-front (type.PointerTo target) d = refl
  reader_by-front (type.ObjectOf parent dynamic fields methods) d = refl
  reader_by-front (type.Procedural header) d = refl

reader-round : (types : List TypeDef) (id : TypeId) (one : TypeDef) → Round types id.0 one → reader_in (readers_of types) id ≡ reader_by types (readers_of types) one
reader-round types id one r =
    rw (r.is, ← r.at) (get_or-given_by-middle reader_by r.front one r.back read_nothing ∙ sym (reader_by-front r.front (one ∷ r.back) one r.defined))

pub reader_is : (types : List TypeDef) (id : TypeId) (one : TypeDef) → AllDefined [] types → slice_get types id.0 ≡ Some one
    → reader_in (readers_of types) id ≡ reader_by types (readers_of types) one
reader_is types id one all found = reader-round types id one (round types id.0 one all found)

-- what a type is defined over
pub defined_over : (types : List TypeDef) (id : TypeId) (one : TypeDef) → AllDefined [] types → slice_get types id.0 ≡ Some one → Round types id.0 one
defined_over types id one all found = round types id.0 one all found
