-- When a first value fits its type, which bytes the variable then begins with, and when a fault is in it.
use Rattle.std.specs.Prelude.{◌≡◌, ℕ, ◌≤◌, ◌==◌, nat_le, ℤ, pos, unsigned_abs, ◌≤ℤ◌, int_le, Bool, true, false, ◌&&◌, cond, List, [], ◌∷◌, ◌++◌, Option, Some, None, length, get_or}
use Rattle.std.specs.List.{list_all}
use Rattle.std.specs.Ordering.{int_eq}
use Rattle.type_layout.specs.declared.definitions.TypeId.{TypeId}
use Rattle.type_layout.specs.declared.definitions.Field.{Field}
use Rattle.type_layout.specs.declared.definitions.Host.TheVariants as host
use Rattle.type_layout.specs.declared.definitions.TypeDef.{TypeDef}
use Rattle.type_layout.specs.declared.definitions.TypeDef.TheVariants as type
use Rattle.type_layout.specs.declared.texts.Place.{Place}
use Rattle.type_layout.specs.Words.{same_bytes}
use Rattle.type_layout.specs.Storage.{storage_of, count_between}
use Rattle.type_layout.specs.Layouts.{bounds_at}
use Rattle.typed_tree.specs.type_fits.Fits.{definition}
use Rattle.tp_lexer.specs.declared.token.Feature.TheVariants as feature
use Rattle.scopes.specs.Environment.{Environment}
use Rattle.common_values.specs.Sets.{set_bytes}
use Rattle.typing_rules.specs.declared.faults.Fault.{Fault}
use Rattle.typing_rules.specs.declared.faults.Rule.TheVariants as rules
use Rattle.typing_rules.specs.declared.sorts.Sort.{Sort}
use Rattle.typing_rules.specs.Faults.{broken, left_out}
use Rattle.typing_rules.specs.Judgements.{Judgement, makes, refuses, rule, either, part}
use Rattle.typing_rules.specs.Sorts.{sort_of_type}
use Rattle.typing_rules.specs.Plans.{AreOfOneHost, are_of_one_host, IsText, is_text, AreSets, are_sets}
use Rattle.constant_checker.specs.constant_expressions.Values.{number_of, bytes_of, elements_of}
use Rattle.constant_checker.specs.declared.typed_constants.written.Written.{Written}
use Rattle.constant_checker.specs.typed_constants.Trees.{Initial, Initials, Named, value, list, group, no_initials, and_initial, no_named, and_named, count}
use Rattle.syntax_tree.specs.expression_tree.Places.{first_place}
use Rattle.constant_checker.specs.stored_values.Stored.{ordinal_bytes, string_bytes}
use Rattle.constant_checker.specs.typed_constants.Written.{written_as}

-- ---- types that typed constants have

-- By whether those before it are: neither an object, a pointer nor a routine, nor with one as a part.
abbrev pub plain_by : List Bool → TypeDef → Bool
plain_by given (type.Ordinal host low high) = true
plain_by given (type.Str max) = true
plain_by given (type.SetOf base) = true
plain_by given (type.ArrayOf index element) = get_or given element.0 false
plain_by given (type.RecordOf fields) = list_all (λ (field : Field). get_or given field.ty.0 false) fields
plain_by given (type.PointerTo target) = false
plain_by given (type.ObjectOf parent dynamic fields methods) = false
plain_by given (type.Procedural header) = false

-- types behind those that are told
abbrev pub plain_behind : List Bool → List TypeDef → List Bool
plain_behind given [] = given
plain_behind given (one ∷ rest) = plain_behind (given ++ plain_by given one ∷ []) rest

-- which types of a table are
abbrev pub plain_types : List TypeDef → List Bool
plain_types types = plain_behind [] types

abbrev pub is_plain : List TypeDef → TypeId → Bool
is_plain types ty = get_or (plain_types types) ty.0 false

-- ---- single values

-- an ordinal of the host within the bounds
abbrev pub FitsOrdinal : Sort → ℤ → ℤ → Written → Type 0
FitsOrdinal s low high w = AreOfOneHost s w.sort × ((low ≤ℤ number_of w.value) × (number_of w.value ≤ℤ high))

abbrev pub fits_ordinal : Sort → ℤ → ℤ → Written → Bool
fits_ordinal s low high w = are_of_one_host s w.sort && (int_le low (number_of w.value) && int_le (number_of w.value) high)

-- a string, or a Char that stands as one, that is not longer than the type
abbrev pub FitsString : ℕ → Written → Type 0
FitsString max w = IsText w.sort × (length (bytes_of w.value) ≤ max)

abbrev pub fits_string : ℕ → Written → Bool
fits_string max w = is_text w.sort && nat_le (length (bytes_of w.value)) max

-- the bounds of what a set is over, where they lie in 0..255
abbrev pub byte_bounds : ℤ → ℤ → Option (ℕ × ℕ)
byte_bounds low high = cond (int_le (pos 0) low && (int_le low high && int_le high (pos 255))) (Some (unsigned_abs low, unsigned_abs high)) None

-- all of these ordinals lie between the bounds
abbrev pub are_within : ℕ → ℕ → List ℕ → Bool
are_within low high elements = list_all (λ e. nat_le low e && nat_le e high) elements

-- a set of the host, whose elements lie within the bounds
abbrev pub FitsSet : Sort → ℕ → ℕ → Written → Type 0
FitsSet s low high w = AreSets s w.sort × (are_within low high (elements_of w.value) ≡ true)

abbrev pub fits_set : Sort → ℕ → ℕ → Written → Bool
fits_set s low high w = are_sets s w.sort && are_within low high (elements_of w.value)

abbrev pub set_fitted : Place → Sort → Option (ℕ × ℕ) → List ℕ → Written → Judgement (List ℕ)
set_fitted place s None before w = refuses (broken place rules.FirstValue)
set_fitted place s (Some bounds) before w =
    rule (broken place rules.FirstValue) (fits_set s bounds.0 bounds.1 w) (FitsSet s bounds.0 bounds.1 w)
    (before ++ set_bytes bounds.0 bounds.1 (elements_of w.value))

-- every Char may be an element
abbrev pub has_every_char : Option TypeDef → Bool
has_every_char (Some (type.Ordinal host.Char low high)) = int_eq low (pos 0) && int_eq high (pos 255)
has_every_char _ = false

-- a text of as many bytes as an array of Char has elements
abbrev pub FitsChars : List TypeDef → TypeId → TypeId → Written → Type 0
FitsChars types index element w =
    IsText w.sort × ((has_every_char (definition types element) ≡ true) × (length (bytes_of w.value) ≡ count_between (bounds_at types index).0 (bounds_at types index).1))

abbrev pub fits_chars : List TypeDef → TypeId → TypeId → Written → Bool
fits_chars types index element w =
    is_text w.sort && (has_every_char (definition types element) && length (bytes_of w.value) == count_between (bounds_at types index).0 (bounds_at types index).1)

abbrev pub fitted_by : List TypeDef → Place → TypeId → Option TypeDef → List ℕ → Written → Judgement (List ℕ)
fitted_by types place ty (Some (type.Ordinal host low high)) before w =
    rule (broken place rules.FirstValue) (fits_ordinal (sort_of_type types ty) low high w) (FitsOrdinal (sort_of_type types ty) low high w)
    (before ++ ordinal_bytes (storage_of host low high) (number_of w.value))
fitted_by types place ty (Some (type.Str max)) before w =
    rule (broken place rules.FirstValue) (fits_string max w) (FitsString max w) (before ++ string_bytes max (bytes_of w.value))
fitted_by types place ty (Some (type.SetOf base)) before w =
    set_fitted place (sort_of_type types ty) (byte_bounds (bounds_at types base).0 (bounds_at types base).1) before w
fitted_by types place ty (Some (type.ArrayOf index element)) before w =
    rule (broken place rules.FirstValue) (fits_chars types index element w) (FitsChars types index element w) (before ++ bytes_of w.value)
fitted_by types place ty _ before w = refuses (broken place rules.FirstValue)

-- The bytes of a value at a place, behind those before it. Where nothing is due there are none.
unfoldable pub fitted : List TypeDef → Place → Option TypeId → List ℕ → Written → Judgement (List ℕ)
fitted types place None before w = makes before
fitted types place (Some ty) before w = fitted_by types place ty (definition types ty) before w

-- ---- lists

abbrev pub due_type : List TypeDef → Option TypeId → Option TypeDef
due_type types None = None
due_type types (Some ty) = definition types ty

-- what is due as an element
abbrev pub element_of : Option TypeDef → Option TypeId
element_of (Some (type.ArrayOf index element)) = Some element
element_of _ = None

abbrev pub counted_by : List TypeDef → Place → Option TypeDef → ℕ → List ℕ → Judgement (List ℕ)
counted_by types place (Some (type.ArrayOf index element)) n bytes =
    rule (broken place rules.FirstValue) (n == count_between (bounds_at types index).0 (bounds_at types index).1) (n ≡ count_between (bounds_at types index).0 (bounds_at types index).1) bytes
counted_by types place _ n bytes = refuses (broken place rules.FirstValue)

-- where an array is due, a list has as many values as it has elements
unfoldable pub counted : List TypeDef → Place → Option TypeId → ℕ → List ℕ → Judgement (List ℕ)
counted types place None n bytes = makes bytes
counted types place (Some ty) n bytes = counted_by types place (definition types ty) n bytes

-- ---- fields

-- the fields that are due, where a record is
abbrev pub fields_in : Option TypeDef → Option (List Field)
fields_in (Some (type.RecordOf fields)) = Some fields
fields_in _ = None

abbrev pub is_next : List Field → List ℕ → Bool
is_next [] name = false
is_next (field ∷ fields) name = same_bytes name field.name

abbrev pub behind_first : List Field → List Field
behind_first [] = []
behind_first (field ∷ fields) = fields

abbrev pub behind_next : Option (List Field) → Option (List Field)
behind_next None = None
behind_next (Some fields) = Some (behind_first fields)

abbrev pub first_type : List Field → List ℕ → Option TypeId
first_type [] name = None
first_type (field ∷ fields) name = cond (same_bytes name field.name) (Some field.ty) None

-- what is due for a field: nothing where another one is next
abbrev pub due_for : Option (List Field) → List ℕ → Option TypeId
due_for None name = None
due_for (Some fields) name = first_type fields name

-- a field at a place is the next one
abbrev pub placed : Place → Option (List Field) → List ℕ → List ℕ → Judgement (List ℕ)
placed place None name bytes = makes bytes
placed place (Some fields) name bytes = rule (broken place rules.FirstValue) (is_next fields name) (is_next fields name ≡ true) bytes

-- at the end no field is due any more
abbrev pub ended : Place → Option (List Field) → List ℕ → Judgement (List ℕ)
ended place None bytes = makes bytes
ended place (Some []) bytes = makes bytes
ended place (Some (field ∷ fields)) bytes = refuses (broken place rules.FirstValue)

abbrev pub grouped_by : Place → Option (List Field) → List ℕ → Judgement (List ℕ)
grouped_by place None bytes = refuses (broken place rules.FirstValue)
grouped_by place (Some fields) bytes = makes bytes

-- fields stand where a record is due
unfoldable pub grouped : List TypeDef → Place → Option TypeId → List ℕ → Judgement (List ℕ)
grouped types place None bytes = makes bytes
grouped types place (Some ty) bytes = grouped_by place (fields_in (definition types ty)) bytes

-- ---- first values

-- What a checker answers for a value where a type is due, the bytes up to its end, and which faults are in it: from the
-- judgements of its parts. Where a value has no shape of its type, its parts are judged as values of no type, so that what
-- fails inside them is told and not the whole.
abbrev mutual
  pub judged : Environment → Option TypeId → List ℕ → Initial → Judgement (List ℕ)
  judged g due before (value tree) = part (written_as g tree) (λ w. fitted g.types.types (first_place tree) due before w)
  judged g due before (list place items) =
      part (items_judged g (element_of (due_type g.types.types due)) before items) (λ bytes. counted g.types.types place due (count items) bytes)
  judged g due before (group place fields) =
      part (fields_judged g place (fields_in (due_type g.types.types due)) before fields) (λ bytes. grouped g.types.types place due bytes)

  pub items_judged : Environment → Option TypeId → List ℕ → Initials → Judgement (List ℕ)
  items_judged g due before no_initials = makes before
  items_judged g due before (and_initial one rest) = part (judged g due before one) (λ bytes. items_judged g due bytes rest)

  -- the fields of a group that begins at a place
  pub fields_judged : Environment → Place → Option (List Field) → List ℕ → Named → Judgement (List ℕ)
  fields_judged g place due before no_named = ended place due before
  fields_judged g place due before (and_named one x rest) =
      part (part (judged g (due_for due one.name) before x) (λ bytes. placed one.position.place due one.name bytes)) (λ bytes. fields_judged g place (behind_next due) bytes rest)

-- the initializer of a typed constant that stands at a place
abbrev pub first_value : Environment → Place → TypeId → Initial → Judgement (List ℕ)
first_value g place ty tree = either (is_plain g.types.types ty) (judged g (Some ty) [] tree) (refuses (left_out place feature.TypedConstants))

-- the variable begins with these bytes: every rule holds in its first value
abbrev pub IsFirst : Environment → Place → TypeId → Initial → List ℕ → Type 0
IsFirst g place ty tree bytes = (first_value g place ty tree).holds bytes

-- a rule fails at a place in the first value, while all hold in the parts of the construct that stands there
abbrev pub FailsAt : Environment → Place → TypeId → Initial → Fault → Type 0
FailsAt g place ty tree fault = (first_value g place ty tree).fails fault
