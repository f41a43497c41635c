-- Calls of standard procedures.
use Rattle.std.specs.Prelude.{ℕ, Bool, true, false, cond, List, [], ◌∷◌, ◌++◌, length, Option, Some, None}
use Rattle.type_layout.specs.declared.definitions.TypeDef.{TypeDef}
use Rattle.type_layout.specs.declared.texts.Place.{Place}
use Rattle.typed_tree.specs.Expressions.{Expression, Load, Std}
use Rattle.typed_tree.specs.Statements.{Written}
use Rattle.typed_tree.specs.Standard as routine
use Rattle.typing_rules.specs.declared.faults.Fault.{Fault}
use Rattle.typing_rules.specs.declared.faults.Rule.TheVariants as rules
use Rattle.typing_rules.specs.declared.sorts.Sort.{Sort}
use Rattle.typing_rules.specs.declared.sorts.Sort.TheVariants as sort
use Rattle.typing_rules.specs.Faults.{broken}
use Rattle.call_rules.specs.declared.standard_rules.signatures.Want.TheVariants.{Integer}
use Rattle.typing_rules.specs.Judgements.{Judgement, makes, refuses, rule, part, parts}
use Rattle.typing_rules.specs.Sorts.{sort_of_type, sort_of}
use Rattle.typing_rules.specs.Plans.{IsInteger, is_integer}
use Rattle.typing_rules.specs.Assignments.{IsString, is_string}
use Rattle.call_rules.specs.Casts.{IsOrdinal, is_ordinal}
use Rattle.call_rules.specs.Given.{Handed, value, place_of, arguments_of}
use Rattle.call_rules.specs.standard_rules.Standard.{Fits, fits, is_for_text, handed}
use Rattle.call_rules.specs.declared.procedure_rules.rows.Slot.{Slot}
use Rattle.call_rules.specs.declared.procedure_rules.rows.Slot.TheVariants.{Value, Pointer, Ordinal, Whole, Line, Link}
use Rattle.call_rules.specs.declared.procedure_rules.rows.Slots.{Slots}
use Rattle.call_rules.specs.procedure_rules.Rows.{listed, slots_of, is_procedure}

-- ---- one argument

abbrev pub IsPointer : Sort → Type 0
IsPointer sort.Pointer = Unit {0}
IsPointer _ = ⊥

abbrev pub is_pointer : Sort → Bool
is_pointer sort.Pointer = true
is_pointer _ = false

-- what a variable holds that is taken: an ordinal, an integer, a string or a pointer
abbrev pub Holds : Slot → Sort → Type 0
Holds Ordinal s = IsOrdinal s
Holds Whole s = IsInteger s
Holds Line s = IsString s
Holds Link s = IsPointer s
Holds _ s = ⊥

abbrev pub holds : Slot → Sort → Bool
holds Ordinal s = is_ordinal s
holds Whole s = is_integer s
holds Line s = is_string s
holds Link s = is_pointer s
holds _ s = false

-- a variable, as a place
abbrev pub variable : List TypeDef → Place → Slot → Expression → Judgement Handed
variable types place slot (Load ty at) = rule (broken place rules.Called) (holds slot (sort_of_type types ty)) (Holds slot (sort_of_type types ty)) (place_of at)
variable types place slot e = refuses (broken place rules.Called)

-- an argument by what is asked of it
unfoldable pub taken : List TypeDef → Place → Slot → Expression → Judgement Handed
taken types place (Value want) e = rule (broken place rules.Called) (fits want (sort_of types e)) (Fits want (sort_of types e)) (handed types (is_for_text want) e)
taken types place Pointer e = rule (broken place rules.Called) (is_pointer (sort_of types e)) (IsPointer (sort_of types e)) (value e)
taken types place slot e = variable types place slot e

-- ---- all arguments

abbrev pub by_slots : List TypeDef → Place → List Slot → List Expression → Judgement (List Handed)
by_slots types place [] [] = makes []
by_slots types place (slot ∷ slots) (e ∷ es) = parts (taken types place slot e) (by_slots types place slots es) (λ one rest. makes (one ∷ rest))
by_slots types place _ _ = refuses (broken place rules.Called)

-- ---- calls

-- What is told where no row has so many arguments: a procedure is called with others, and a function stands for a value alone.
abbrev pub unlisted : Place → ℕ → Fault
unlisted place number = broken place (cond (is_procedure number) rules.Called rules.Stands)

abbrev pub performed_by : List TypeDef → Place → ℕ → Option Slots → List Expression → Judgement Expression
performed_by types place number None es = refuses (unlisted place number)
performed_by types place number (Some slots) es = part (by_slots types place (listed slots) es) (λ all. makes (Std None number (arguments_of all)))

-- the call of a standard procedure at a place
unfoldable pub standard_performed : List TypeDef → Place → ℕ → List Expression → Judgement Expression
standard_performed types place number es = performed_by types place number (slots_of number (length es)) es

-- ---- Str

abbrev pub whole : List TypeDef → Place → Expression → Judgement Handed
whole types place e = taken types place (Value Integer) e

-- an integer, and its width if one is given
abbrev pub told_number : List TypeDef → Place → Expression → Option Expression → Judgement (List Handed)
told_number types place e None = part (whole types place e) (λ x. makes (x ∷ []))
told_number types place e (Some width) = parts (whole types place e) (whole types place width) (λ x w. makes (x ∷ w ∷ []))

abbrev pub told_into : List TypeDef → Place → Expression → Option Expression → Expression → Judgement Expression
told_into types place e width to = parts (told_number types place e width) (variable types place Line to) (λ xs s. makes (Std None routine.str (arguments_of (xs ++ s ∷ []))))

-- the variable has no width
abbrev pub told_by : List TypeDef → Place → Written → Expression → Option Expression → Judgement Expression
told_by types place one to None = told_into types place one.value one.width to
told_by types place one to (Some width) = refuses (broken place rules.Called)

-- The call of Str at a place: the text of an integer, in a field of a width if one is given, goes into a string.
unfoldable pub told : List TypeDef → Place → Written → Written → Judgement Expression
told types place one to = told_by types place one to.value to.width
