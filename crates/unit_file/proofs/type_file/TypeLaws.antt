-- Types: what is read is spelled so, and what is spelled so is read again.
use Rattle.std.proofs.Common.{◌≡◌, ℕ, zero, suc, ◌<◌, ◌≤◌, ℤ, pos, Bool, List, ◌∷◌, length, Option, Some, None, refl, arith}
use Rattle.std.specs.Prelude.{IsTrue, int_le, nat_lt, slice_get, option_map}
use Rattle.std.proofs.lemmas.Bool.Decides.{nat_tests}
use Rattle.std.proofs.lemmas.Int.{ints}
use Rattle.type_layout.specs.declared.definitions.Host.{Host}
use Rattle.type_layout.specs.declared.definitions.TypeId.{TypeId}
use Rattle.type_layout.specs.declared.definitions.Field.{Field}
use Rattle.type_layout.specs.declared.definitions.Method.{Method}
use Rattle.type_layout.specs.declared.definitions.TypeDef.{TypeDef}
use Rattle.type_layout.specs.declared.definitions.TypeDef.TheVariants.{Ordinal, Str, SetOf, ArrayOf, RecordOf, PointerTo, ObjectOf, Procedural}
use Rattle.type_layout.specs.Storage.{least_of, greatest_of}
use Rattle.type_layout.specs.Table.{IsOrdinal, IsByteRange, IsObject, IsAncestor}
use Rattle.object_file.specs.file_parts.Spelling.{IsLong, IsLongOption, IsSigned}
use Rattle.object_file.proofs.file_parts.Laws.{Meets, MadeOf, ruled_meets, followed_meets, then_meets, made_meets}
use Rattle.object_file.proofs.file_parts.PartLaws.{IsByte, byte_meets, tagged_meets}
use Rattle.object_file.proofs.file_parts.ValueLaws.{both, and, signed_meets, truth_meets}
use Rattle.unit_file.specs.type_file.Text.{id_number, type_tag, type_parts, IsId, IsHeader, AreFields, AreMethods, IsType}
use Rattle.unit_file.specs.type_file.Reading.{passes, is_ordinal, is_byte_range, is_object, is_low, is_high, ordinal_of, ordinal_at, array_of, object_of, unread, type_parts_at, type_at}
use Rattle.unit_file.proofs.type_file.HeaderLaws.{host_meets, id_meets, id_below_meets, id_option_meets, fields_meets, header_meets, methods_meets}

-- the parts of a type with this tag
abbrev Fits : ℕ → List TypeDef → ℕ → ℕ → TypeDef → Type 0
Fits count types place tag one = (type_tag one ≡ tag) × IsType count types place one

abbrev MeetsParts : ℕ → List TypeDef → ℕ → ℕ → Type 0
MeetsParts count types place tag = Meets (type_parts_at count types place tag) type_parts (Fits count types place tag)

-- ordinal types
abbrev FitsOrdinal : Host × (ℤ × ℤ) → Type 0
FitsOrdinal parts = Unit {0} × ((IsSigned parts.1.0 × IsTrue (is_low parts.0 parts.1.0)) × (IsSigned parts.1.1 × IsTrue (is_high parts.0 parts.1.0 parts.1.1)))

ordinal_to : (count : ℕ) (types : List TypeDef) (place : ℕ) (parts : Host × (ℤ × ℤ)) → FitsOrdinal parts → Fits count types place 0 (ordinal_of parts)
ordinal_to count types place parts fits =
    let low = both (int_le (least_of parts.0) parts.1.0) (int_le parts.1.0 (greatest_of parts.0)) fits.1.0.1 in
    let high = both (int_le parts.1.0 parts.1.1) (int_le parts.1.1 (greatest_of parts.0)) fits.1.1.1 in
    (refl, (grind (arith, ints, low.0), grind (arith, ints, high.0), grind (arith, ints, high.1), fits.1.0.0, fits.1.1.0))

ordinal_from : (count : ℕ) (types : List TypeDef) (place : ℕ) (one : TypeDef) → Fits count types place 0 one → MadeOf ordinal_of FitsOrdinal one
ordinal_from count types place (Ordinal host low high) fits =
    let above : IsTrue (int_le (least_of host) low) = grind (arith, ints, fits.1.0) in
    let below : IsTrue (int_le low (greatest_of host)) = grind (arith, ints, fits.1.1, fits.1.2) in
    let rising : IsTrue (int_le low high) = grind (arith, ints, fits.1.1) in
    let within : IsTrue (int_le high (greatest_of host)) = grind (arith, ints, fits.1.2) in
    record {
      parts = (host, (low, high));
      is_made = refl;
      fits = (tt, ((fits.1.3, and (int_le (least_of host) low) (int_le low (greatest_of host)) above below), (fits.1.4, and (int_le low high) (int_le high (greatest_of host)) rising within)));
    }
ordinal_from count types place _ fits = absurd (omega (arith, fits.0))

ordinal_meets : (count : ℕ) (types : List TypeDef) (place : ℕ) → MeetsParts count types place 0
unfolding ordinal_at
ordinal_meets count types place =
    made_meets ordinal_of type_parts (Fits count types place 0)
    (followed_meets host_meets (λ host. followed_meets (ruled_meets (is_low host) signed_meets) (λ low. ruled_meets (is_high host low) signed_meets)))
    (λ parts fits. (refl, ordinal_to count types place parts fits)) (ordinal_from count types place)

-- strings
str_from : (count : ℕ) (types : List TypeDef) (place : ℕ) (one : TypeDef) → Fits count types place 1 one → MadeOf Str (λ max. IsByte max × IsTrue (nat_lt 0 max)) one
str_from count types place (Str max) fits = record { parts = max; is_made = refl; fits = (fits.1.1, grind (arith, nat_tests, fits.1.0)) }
str_from count types place _ fits = absurd (omega (arith, fits.0))

str_meets : (count : ℕ) (types : List TypeDef) (place : ℕ) → MeetsParts count types place 1
str_meets count types place =
    made_meets Str type_parts (Fits count types place 1) (ruled_meets (λ (max : ℕ). nat_lt 0 max) byte_meets)
    (λ max fits. (refl, (refl, (grind (arith, nat_tests, fits.1), fits.0)))) (str_from count types place)

-- sets
byte_range_to : (one : Option TypeDef) → IsTrue (is_byte_range one) → IsByteRange one
byte_range_to (Some (Ordinal host low high)) holds = let parts = both (int_le (pos 0) low) (int_le high (pos 255)) holds in (grind (arith, ints, parts.0), grind (arith, ints, parts.1))
byte_range_to _ holds = absurd cc

byte_range_from : (one : Option TypeDef) → IsByteRange one → IsTrue (is_byte_range one)
byte_range_from (Some (Ordinal host low high)) fits = and (int_le (pos 0) low) (int_le high (pos 255)) (grind (arith, ints, fits.0)) (grind (arith, ints, fits.1))
byte_range_from _ fits = absurd fits

set_from : (count : ℕ) (types : List TypeDef) (place : ℕ) (one : TypeDef) → Fits count types place 2 one → MadeOf SetOf (λ base. IsLong base.0 × IsTrue (is_byte_range (slice_get types base.0))) one
set_from count types place (SetOf base) fits = record { parts = base; is_made = refl; fits = (fits.1.1, byte_range_from (slice_get types base.0) fits.1.0) }
set_from count types place _ fits = absurd (omega (arith, fits.0))

set_meets : (count : ℕ) (types : List TypeDef) (place : ℕ) → MeetsParts count types place 2
set_meets count types place =
    made_meets SetOf type_parts (Fits count types place 2) (id_meets (λ number. is_byte_range (slice_get types number)))
    (λ base fits. (refl, (refl, (byte_range_to (slice_get types base.0) fits.1, fits.0)))) (set_from count types place)

-- arrays
ordinal_is : (one : Option TypeDef) → IsTrue (is_ordinal one) → IsOrdinal one
ordinal_is (Some (Ordinal host low high)) holds = tt
ordinal_is _ holds = absurd cc

is_ordinal_from : (one : Option TypeDef) → IsOrdinal one → IsTrue (is_ordinal one)
is_ordinal_from (Some (Ordinal host low high)) fits = refl
is_ordinal_from _ fits = absurd fits

array_from : (count : ℕ) (types : List TypeDef) (place : ℕ) (one : TypeDef) → Fits count types place 3 one → MadeOf array_of (λ parts. (IsLong parts.0.0 × IsTrue (is_ordinal (slice_get types parts.0.0))) × IsId (length types) parts.1) one
array_from count types place (ArrayOf index element) fits = record { parts = (index, element); is_made = refl; fits = ((fits.1.1, is_ordinal_from (slice_get types index.0) fits.1.0), fits.1.2) }
array_from count types place _ fits = absurd (omega (arith, fits.0))

array_meets : (count : ℕ) (types : List TypeDef) (place : ℕ) → MeetsParts count types place 3
array_meets count types place =
    made_meets array_of type_parts (Fits count types place 3) (then_meets (id_meets (λ number. is_ordinal (slice_get types number))) (id_below_meets (length types)))
    (λ parts fits. (refl, (refl, (ordinal_is (slice_get types parts.0.0) fits.0.1, fits.0.0, fits.1)))) (array_from count types place)

-- records
record_from : (count : ℕ) (types : List TypeDef) (place : ℕ) (one : TypeDef) → Fits count types place 4 one → MadeOf RecordOf (AreFields (length types)) one
record_from count types place (RecordOf fields) fits = record { parts = fields; is_made = refl; fits = fits.1 }
record_from count types place _ fits = absurd (omega (arith, fits.0))

records_meet : (count : ℕ) (types : List TypeDef) (place : ℕ) → MeetsParts count types place 4
records_meet count types place = made_meets RecordOf type_parts (Fits count types place 4) (fields_meets (length types)) (λ fields fits. (refl, (refl, fits))) (record_from count types place)

-- pointers
pointer_from : (count : ℕ) (types : List TypeDef) (place : ℕ) (one : TypeDef) → Fits count types place 5 one → MadeOf PointerTo (IsId count) one
pointer_from count types place (PointerTo target) fits = record { parts = target; is_made = refl; fits = fits.1 }
pointer_from count types place _ fits = absurd (omega (arith, fits.0))

pointer_meets : (count : ℕ) (types : List TypeDef) (place : ℕ) → MeetsParts count types place 5
pointer_meets count types place = made_meets PointerTo type_parts (Fits count types place 5) (id_below_meets count) (λ target fits. (refl, (refl, fits))) (pointer_from count types place)

-- objects
object_is : (one : Option TypeDef) → IsTrue (is_object one) → IsObject one
object_is (Some (ObjectOf parent dynamic fields methods)) holds = tt
object_is _ holds = absurd cc

is_object_from : (one : Option TypeDef) → IsObject one → IsTrue (is_object one)
is_object_from (Some (ObjectOf parent dynamic fields methods)) fits = refl
is_object_from _ fits = absurd fits

abbrev is_parent : List TypeDef → Option ℕ → Bool
is_parent types number = passes (λ number. is_object (slice_get types number)) number

ancestor_to : (types : List TypeDef) (parent : Option TypeId) → IsTrue (is_parent types (option_map id_number parent)) → IsAncestor types parent
ancestor_to types None holds = tt
ancestor_to types (Some parent) holds = object_is (slice_get types parent.0) holds

ancestor_from : (types : List TypeDef) (parent : Option TypeId) → IsAncestor types parent → IsTrue (is_parent types (option_map id_number parent))
ancestor_from types None fits = refl
ancestor_from types (Some parent) fits = is_object_from (slice_get types parent.0) fits

abbrev FitsObject : ℕ → List TypeDef → ℕ → Option TypeId × (Bool × (List Field × List Method)) → Type 0
FitsObject count types place parts =
    (IsLongOption (option_map id_number parts.0) × IsTrue (is_parent types (option_map id_number parts.0))) × (Unit {0} × (AreFields (length types) parts.1.1.0 × AreMethods count place parts.1.1.1))

object_from : (count : ℕ) (types : List TypeDef) (place : ℕ) (one : TypeDef) → Fits count types place 6 one → MadeOf object_of (FitsObject count types place) one
object_from count types place (ObjectOf parent dynamic fields methods) fits =
    record { parts = (parent, (dynamic, (fields, methods))); is_made = refl; fits = ((fits.1.1, ancestor_from types parent fits.1.0), (tt, (fits.1.2, fits.1.3))) }
object_from count types place _ fits = absurd (omega (arith, fits.0))

objects_meet : (count : ℕ) (types : List TypeDef) (place : ℕ) → MeetsParts count types place 6
objects_meet count types place =
    made_meets object_of type_parts (Fits count types place 6)
    (then_meets (id_option_meets (λ number. is_object (slice_get types number))) (then_meets truth_meets (then_meets (fields_meets (length types)) (methods_meets count place))))
    (λ parts fits. (refl, (refl, (ancestor_to types parts.0 fits.0.1, fits.0.0, fits.1.1.0, fits.1.1.1)))) (object_from count types place)

-- procedural types
procedural_from : (count : ℕ) (types : List TypeDef) (place : ℕ) (one : TypeDef) → Fits count types place 7 one → MadeOf Procedural (IsHeader count) one
procedural_from count types place (Procedural header) fits = record { parts = header; is_made = refl; fits = fits.1 }
procedural_from count types place _ fits = absurd (omega (arith, fits.0))

procedural_meets : (count : ℕ) (types : List TypeDef) (place : ℕ) → MeetsParts count types place 7
procedural_meets count types place = made_meets Procedural type_parts (Fits count types place 7) (header_meets count) (λ header fits. (refl, (refl, fits))) (procedural_from count types place)

-- any type
tag_below : (one : TypeDef) → type_tag one < 8
tag_below (Ordinal host low high) = omega arith
tag_below (Str max) = omega arith
tag_below (SetOf base) = omega arith
tag_below (ArrayOf index element) = omega arith
tag_below (RecordOf fields) = omega arith
tag_below (PointerTo target) = omega arith
tag_below (ObjectOf parent dynamic fields methods) = omega arith
tag_below (Procedural header) = omega arith

no_type_meets : (count : ℕ) (types : List TypeDef) (place tag : ℕ) → 8 ≤ tag → Meets unread type_parts (Fits count types place tag)
no_type_meets count types place tag large = record {
  takes = λ bytes x fits e. absurd cc;
  again = λ one rest fits. absurd (let below = tag_below one in omega (arith, below, fits.0, large));
}

parts_meet : (count : ℕ) (types : List TypeDef) (place tag : ℕ) → MeetsParts count types place tag
parts_meet count types place zero = ordinal_meets count types place
parts_meet count types place (suc zero) = str_meets count types place
parts_meet count types place (suc (suc zero)) = set_meets count types place
parts_meet count types place (suc (suc (suc zero))) = array_meets count types place
parts_meet count types place (suc (suc (suc (suc zero)))) = records_meet count types place
parts_meet count types place (suc (suc (suc (suc (suc zero))))) = pointer_meets count types place
parts_meet count types place (suc (suc (suc (suc (suc (suc zero)))))) = objects_meet count types place
parts_meet count types place (suc (suc (suc (suc (suc (suc (suc zero))))))) = procedural_meets count types place
parts_meet count types place (suc (suc (suc (suc (suc (suc (suc (suc tag)))))))) = no_type_meets count types place (suc (suc (suc (suc (suc (suc (suc (suc tag)))))))) (omega arith)

pub type_meets : (count : ℕ) (types : List TypeDef) (place : ℕ) → Meets (type_at count types place) (λ one. type_tag one ∷ type_parts one) (IsType count types place)
unfolding type_at
type_meets count types place = tagged_meets 8 type_tag (omega arith) tag_below (parts_meet count types place)
