-- Set constructors of constants.
use Rattle.std.specs.Prelude.{◌≡◌, ℤ, pos, unsigned_abs, ◌%◌, Bool, true, ◌&&◌, List, [], ◌∷◌, ℕ, Option, Some, None}
use Rattle.type_layout.specs.declared.definitions.Host.TheVariants as host
use Rattle.type_layout.specs.declared.definitions.TypeId.{TypeId}
use Rattle.type_layout.specs.declared.definitions.TypeDef.{TypeDef}
use Rattle.type_layout.specs.declared.definitions.TypeDef.TheVariants as type
use Rattle.type_layout.specs.declared.texts.Place.{Place}
use Rattle.type_layout.specs.Layouts.{bounds_at}
use Rattle.type_layout.specs.Storage.{holds}
use Rattle.common_values.specs.Sets.{with_range}
use Rattle.typed_tree.specs.type_fits.Fits.{definition}
use Rattle.typing_rules.specs.declared.faults.Rule.TheVariants as rules
use Rattle.typing_rules.specs.declared.sorts.Sort.{Sort}
use Rattle.typing_rules.specs.Faults.{broken}
use Rattle.typing_rules.specs.Judgements.{Judgement, makes, refuses, rule}
use Rattle.typing_rules.specs.Selectors.{asking}
use Rattle.typing_rules.specs.Sorts.{sort_of_type}
use Rattle.typing_rules.specs.Plans.{AreOfOneHost, are_of_one_host}
use Rattle.call_rules.specs.set_rules.Bases.{set_of_byte, set_over}
use Rattle.constant_checker.specs.declared.constant_expressions.constants.Constant.{Constant}
use Rattle.constant_checker.specs.declared.constant_expressions.constructors.Ordinal.{Ordinal}
use Rattle.constant_checker.specs.declared.constant_expressions.constructors.Span.{Span}
use Rattle.constant_checker.specs.constant_expressions.Values.{set_constant, number_of, IsWithin, is_within}

-- ---- what a constructor lists

abbrev pub ordinal_of : List TypeDef → Constant → Ordinal
ordinal_of types c = record { sort = sort_of_type types c.ty; number = number_of c.value }

-- one element is a span of its own
abbrev pub span_of : Ordinal → Ordinal → Span
span_of low high = record { low = low; high = high }

-- ---- what is asked

-- an ordinal of a host that lies in 0..255, and within the bounds of what the set is over
abbrev pub IsElement : Sort → ℤ × ℤ → Ordinal → Type 0
IsElement s bounds one = AreOfOneHost s one.sort × ((holds host.Byte one.number one.number ≡ true) × IsWithin bounds one.number)

abbrev pub is_element : Sort → ℤ × ℤ → Ordinal → Bool
is_element s bounds one = are_of_one_host s one.sort && (holds host.Byte one.number one.number && is_within bounds one.number)

abbrev pub IsSpan : Sort → ℤ × ℤ → Span → Type 0
IsSpan s bounds one = IsElement s bounds one.low × IsElement s bounds one.high

abbrev pub is_span : Sort → ℤ × ℤ → Span → Bool
is_span s bounds one = is_element s bounds one.low && is_element s bounds one.high

abbrev pub AreSpans : Sort → ℤ × ℤ → List Span → Type 0
AreSpans s bounds [] = Unit {0}
AreSpans s bounds (one ∷ rest) = IsSpan s bounds one × AreSpans s bounds rest

abbrev pub are_spans : Sort → ℤ × ℤ → List Span → Bool
are_spans s bounds [] = true
are_spans s bounds (one ∷ rest) = is_span s bounds one && are_spans s bounds rest

-- ---- the set

-- what the first one is, by which the others go
abbrev pub first_sort : List Span → Option Sort
first_sort [] = None
first_sort (one ∷ rest) = Some one.low.sort

-- the byte of an ordinal in 0..255
abbrev pub byte_of : ℤ → ℕ
byte_of n = unsigned_abs n % 256

-- The elements of spans with those that are there. Nothing lies between two bounds of which the first is above the last.
abbrev pub elements_with : List ℕ → List Span → List ℕ
elements_with before [] = before
elements_with before (one ∷ rest) = elements_with (with_range before (byte_of one.low.number) (byte_of one.high.number)) rest

-- the declaration of an enumeration adds the set over it, so that this is never told
abbrev pub typed_set : Place → Option TypeId → List Span → Judgement Constant
typed_set place None spans = refuses (broken place rules.Listed)
typed_set place (Some ty) spans = makes (set_constant ty (elements_with [] spans))

-- the bounds of what a set is over
abbrev pub bounds_by : List TypeDef → Option TypeDef → ℤ × ℤ
bounds_by types (Some (type.SetOf base)) = bounds_at types base
bounds_by types _ = (pos 0, pos 255)

abbrev pub base_bounds : List TypeDef → Option TypeId → ℤ × ℤ
base_bounds types None = (pos 0, pos 255)
base_bounds types (Some ty) = bounds_by types (definition types ty)

abbrev pub set_of_type : List TypeDef → Place → Sort → Option TypeId → List Span → Judgement Constant
set_of_type types place s ty spans =
    asking (rule (broken place rules.Listed) (are_spans s (base_bounds types ty) spans) (AreSpans s (base_bounds types ty) spans) tt) (typed_set place ty spans)

abbrev pub set_by : List TypeDef → Place → Option Sort → List Span → Judgement Constant
set_by types place None spans = makes (set_constant set_of_byte [])
set_by types place (Some s) spans = set_of_type types place s (set_over types s) spans

-- A set constructor at a place: ordinals of one host in 0..255, and the set over all of that host.
unfoldable pub set_of : List TypeDef → Place → List Span → Judgement Constant
set_of types place spans = set_by types place (first_sort spans) spans
