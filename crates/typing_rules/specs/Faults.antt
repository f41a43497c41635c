-- What users are told of a fault.
use Rattle.std.specs.Prelude.{◌≡◌, ◌⊎◌, ℕ, Option, Some, None, Result, Ok, Err}
use Rattle.type_layout.specs.declared.texts.Place.{Place}
use Rattle.tp_lexer.specs.declared.token.Feature.{Feature}
use Rattle.typing_rules.specs.declared.faults.Rule.{Rule}
use Rattle.typing_rules.specs.declared.faults.Rule.TheVariants as rule
use Rattle.typing_rules.specs.declared.faults.Cause.{Cause}
use Rattle.typing_rules.specs.declared.faults.Cause.TheVariants as cause
use Rattle.typing_rules.specs.declared.faults.Fault.{Fault}
use Rattle.typing_rules.specs.declared.faults.Refusal.{Refusal}
use Rattle.typing_rules.specs.declared.faults.Refusal.TheVariants as refusal
use Rattle.typing_rules.specs.declared.faults.CheckError.{CheckError}
use Rattle.typing_rules.specs.declared.faults.CheckError.TheVariants.{NoMemory, UnknownName, DuplicateName, TypeMismatch, NotAVariable, BadConstant, MissingBody, BadCall, NotInProfile, TooLarge}

-- the numbers of the rules
abbrev pub number_of : Rule → ℕ
number_of rule.Declared = 1
number_of rule.Duplicate = 2
number_of rule.Constant = 3
number_of rule.SetBase = 4
number_of rule.IndexType = 5
number_of rule.StringSize = 6
number_of rule.FirstValue = 7
number_of rule.ObjectPlace = 8
number_of rule.SourceName = 9
number_of rule.Arithmetic = 10
number_of rule.Logic = 11
number_of rule.Joined = 12
number_of rule.Compared = 13
number_of rule.Membership = 14
number_of rule.Listed = 15
number_of rule.Indexed = 16
number_of rule.Selected = 17
number_of rule.Dereferenced = 18
number_of rule.Called = 19
number_of rule.Stands = 20
number_of rule.Assigned = 21
number_of rule.Conditional = 22
number_of rule.Counted = 23
number_of rule.Labelled = 24
number_of rule.Opened = 25
number_of rule.Written = 26
number_of rule.Read = 27
number_of rule.Target = 28
number_of rule.Bodies = 29
number_of rule.UnitUsed = 31
number_of rule.UnitNamed = 31
number_of rule.RoutineValue = 32
number_of rule.ResultType = 33
number_of rule.Allocating = 34

abbrev pub broken_error : Place → Rule → CheckError
broken_error place rule.Declared = UnknownName place (number_of rule.Declared)
broken_error place rule.Selected = UnknownName place (number_of rule.Selected)
broken_error place rule.ObjectPlace = UnknownName place (number_of rule.ObjectPlace)
broken_error place rule.SourceName = UnknownName place (number_of rule.SourceName)
broken_error place rule.UnitNamed = UnknownName place (number_of rule.UnitNamed)
broken_error place rule.Duplicate = DuplicateName place (number_of rule.Duplicate)
broken_error place rule.UnitUsed = DuplicateName place (number_of rule.UnitUsed)
broken_error place rule.Constant = BadConstant place (number_of rule.Constant)
broken_error place rule.Labelled = BadConstant place (number_of rule.Labelled)
broken_error place rule.SetBase = BadConstant place (number_of rule.SetBase)
broken_error place rule.StringSize = BadConstant place (number_of rule.StringSize)
broken_error place rule.Bodies = MissingBody place (number_of rule.Bodies)
broken_error place rule.Counted = NotAVariable place (number_of rule.Counted)
broken_error place rule.Read = NotAVariable place (number_of rule.Read)
broken_error place rule.Target = NotAVariable place (number_of rule.Target)
broken_error place rule.Called = BadCall place (number_of rule.Called)
broken_error place rule.Stands = BadCall place (number_of rule.Stands)
broken_error place rule.RoutineValue = BadCall place (number_of rule.RoutineValue)
broken_error place rule.Allocating = BadCall place (number_of rule.Allocating)
broken_error place broken = TypeMismatch place (number_of broken)

abbrev pub error_by : Place → Cause → CheckError
error_by place (cause.Breaks broken) = broken_error place broken
error_by place (cause.LeftOut feature) = NotInProfile place feature
error_by place (cause.TooLarge bytes) = TooLarge place bytes

abbrev pub error_of : Fault → CheckError
error_of fault = error_by fault.place fault.cause

-- what users are told in place of a refusal
abbrev pub error_for : Refusal → CheckError
error_for refusal.NoMemory = NoMemory
error_for (refusal.Because fault) = error_of fault

abbrev pub answer_of : {X : Type 0} → Result X Refusal → Result X CheckError
answer_of (Ok x) = Ok x
answer_of (Err r) = Err (error_for r)

-- this is what was answered, without where it lies in memory; unless memory runs out
abbrev pub IsAnswered : {X C : Type 0} → (X → C) → C → Result X CheckError → Type 0
IsAnswered view c (Ok x) = view x ≡ c
IsAnswered view c (Err NoMemory) = Unit {0}
IsAnswered view c (Err _) = ⊥

-- a construct that breaks a rule; one of a feature that is left out; one of too many bytes
abbrev pub broken : Place → Rule → Fault
broken place rule = record { place = place; cause = cause.Breaks rule }

abbrev pub left_out : Place → Feature → Fault
left_out place one = record { place = place; cause = cause.LeftOut one }

abbrev pub too_large : Place → ℕ → Fault
too_large place bytes = record { place = place; cause = cause.TooLarge bytes }

-- what a name is told as that isn't declared: unknown, or of a feature that is left out
abbrev pub undeclared : Place → Option Feature → Fault
undeclared place None = broken place rule.Declared
undeclared place (Some one) = left_out place one

-- an error tells of a fault that is there, or of out of memory
abbrev pub Tells : (Fault → Type 0) → CheckError → Type 0
Tells IsThere error = (error ≡ NoMemory) ⊎ ((fault : Fault) × (error ≡ error_of fault) × IsThere fault)
