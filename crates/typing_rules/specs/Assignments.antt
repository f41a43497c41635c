-- Values that are assigned, or handed over by value.
use Rattle.std.specs.Prelude.{◌⊎◌, ℤ, Bool, true, false, ◌&&◌, ◌||◌, cond, List, Option, Some, None}
use Rattle.type_layout.specs.declared.definitions.TypeId.{TypeId}
use Rattle.type_layout.specs.declared.definitions.Host.{Host}
use Rattle.type_layout.specs.declared.definitions.TypeDef.{TypeDef}
use Rattle.type_layout.specs.declared.definitions.TypeDef.TheVariants as type
use Rattle.type_layout.specs.declared.texts.Place.{Place}
use Rattle.type_layout.specs.Storage.{storage_of, holds}
use Rattle.typed_tree.specs.declared.expressions.Value.TheVariants as value
use Rattle.typed_tree.specs.Expressions.{Expression, Const, Range, type_of}
use Rattle.typed_tree.specs.type_fits.Fits.{definition}
use Rattle.typing_rules.specs.declared.faults.Rule.TheVariants as rules
use Rattle.typing_rules.specs.declared.sorts.Sort.{Sort}
use Rattle.typing_rules.specs.declared.sorts.Sort.TheVariants as sort
use Rattle.typing_rules.specs.Faults.{broken}
use Rattle.typing_rules.specs.Judgements.{Judgement, rule}
use Rattle.typing_rules.specs.Sorts.{sort_of_type, sort_of}
use Rattle.typing_rules.specs.Wanted.{stored_of, converted, as_text, as_pointer}
use Rattle.typing_rules.specs.Plans.{AreOfOneHost, are_of_one_host, IsText, is_text, AreSets, are_sets}
use Rattle.typing_rules.specs.Joins.{IsOfType, is_of_type, IsBelow, is_below, IsNilFor, is_nil_for}

-- ---- what is asked

abbrev pub IsString : Sort → Type 0
IsString sort.Text = Unit {0}
IsString _ = ⊥

abbrev pub is_string : Sort → Bool
is_string sort.Text = true
is_string _ = false

-- an ordinal of the target's host, a Char or string to a string, a set of its host, or nil to a pointer
abbrev pub IsLike : Sort → Sort → Type 0
IsLike target s = AreOfOneHost target s ⊎ ((IsString target × IsText s) ⊎ (AreSets target s ⊎ IsNilFor target s))

abbrev pub is_like : Sort → Sort → Bool
is_like target s = are_of_one_host target s || ((is_string target && is_text s) || (are_sets target s || is_nil_for target s))

-- one of these, a value of the same type, or a descendant or a pointer to one
abbrev pub IsAssignable : List TypeDef → Sort → Sort → TypeId → Option TypeId → Type 0
IsAssignable types target s ty own = IsLike target s ⊎ (IsOfType ty own ⊎ IsBelow types ty own)

abbrev pub is_assignable : List TypeDef → Sort → Sort → TypeId → Option TypeId → Bool
is_assignable types target s ty own = is_like target s || (is_of_type ty own || is_below types ty own)

-- variables of such a type hold routines
abbrev pub is_procedural : Option TypeDef → Bool
is_procedural (Some (type.Procedural header)) = true
is_procedural _ = false

-- ---- the node

abbrev pub ranged_as : Option TypeId → ℤ → ℤ → Expression → Expression
ranged_as None low high e = e
ranged_as (Some own) low high e = Range own e low high

-- a value that is tested against bounds, where tests are asked for
abbrev pub ranged : Bool → ℤ → ℤ → Expression → Expression
ranged checked low high e = cond checked (ranged_as (type_of e) low high e) e

-- a constant of a type, tested
unfoldable pub constant_in : TypeId → ℤ → ℤ → Bool → ℤ → Expression
constant_in ty low high checked n = ranged checked low high (Const ty (value.Number n))

-- a test stands inside a conversion
unfoldable pub tested : TypeId → Host → ℤ → ℤ → Option Host → Bool → Expression → Expression
tested ty wanted low high stored checked e = converted ty wanted stored (ranged checked low high e)

abbrev pub stored_in : TypeId → Host → ℤ → ℤ → Option Host → Bool → Expression → Expression
stored_in ty wanted low high stored checked (Const own (value.Number n)) =
    cond (holds wanted n n) (constant_in ty low high checked n)
    (tested ty wanted low high stored checked (Const own (value.Number n)))
stored_in ty wanted low high stored checked e = tested ty wanted low high stored checked e

abbrev pub assigned_by : TypeId → Option TypeDef → Option Host → Bool → Expression → Expression
assigned_by ty (Some (type.Ordinal host low high)) stored checked e = stored_in ty (storage_of host low high) low high stored checked e
assigned_by ty (Some (type.Str max)) stored checked e = as_text stored e
assigned_by ty (Some (type.PointerTo target)) stored checked e = as_pointer ty e
assigned_by ty _ stored checked e = e

abbrev pub assigned_to : List TypeDef → Place → TypeId → Bool → Sort → Sort → Expression → Judgement Expression
assigned_to types place ty checked target s e =
    rule (broken place rules.Assigned) (is_assignable types target s ty (type_of e)) (IsAssignable types target s ty (type_of e))
    (assigned_by ty (definition types ty) (stored_of types e) checked e)

-- A value of an assignment at a place, to a target of a type. With `checked` it must lie within the bounds of an ordinal type.
unfoldable pub assigned : List TypeDef → Place → TypeId → Bool → Expression → Judgement Expression
assigned types place ty checked e = assigned_to types place ty checked (sort_of_type types ty) (sort_of types e) e
