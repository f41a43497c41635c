-- The outcome by the error of a phase.
use Rattle.std.specs.Prelude.{ℕ, List}
use Rattle.type_layout.specs.declared.texts.Place.{Place}
use Rattle.tp_lexer.specs.declared.token.Text.{Text}
use Rattle.source_graph.specs.declared.error.GatherError.{GatherError}
use Rattle.source_graph.specs.declared.error.GatherError.TheVariants as gather
use Rattle.source_graph.specs.Texts.{at}
use Rattle.unit_interface.specs.declared.order.OrderError.{OrderError}
use Rattle.unit_interface.specs.declared.order.OrderError.TheVariants as order
use Rattle.typing_rules.specs.declared.faults.CheckError.{CheckError}
use Rattle.typing_rules.specs.declared.faults.CheckError.TheVariants as check
use Rattle.object_vmt.specs.declared.faults.ClassError.{ClassError}
use Rattle.object_vmt.specs.declared.faults.ClassError.TheVariants as class
use Rattle.front_end.specs.declared.outcomes.outcome.Outcome.{Outcome}
use Rattle.front_end.specs.declared.outcomes.outcome.Outcome.TheVariants as outcome
use Rattle.front_end.specs.declared.outcomes.refusal.Refusal.TheVariants as refusal
use Rattle.front_end.specs.declared.outcomes.refusal.What.TheVariants as what
use Rattle.front_end.specs.declared.outcomes.refusal.CheckKind.{CheckKind}
use Rattle.front_end.specs.declared.outcomes.refusal.CheckKind.TheVariants as kind
use Rattle.front_end.specs.declared.outcomes.refusal.ClassKind.{ClassKind}
use Rattle.front_end.specs.declared.outcomes.refusal.ClassKind.TheVariants as wrong

abbrev pub gather_outcome : GatherError → Outcome
gather_outcome (gather.MissingFile name) = outcome.Refused (refusal.MissingFile name)
gather_outcome (gather.TooLarge bytes) = outcome.Refused (refusal.TooLarge what.Source bytes)
gather_outcome (gather.BadToken at cause) = outcome.Refused (refusal.BadToken at cause)
gather_outcome (gather.Syntax at) = outcome.Refused (refusal.Syntax at)
gather_outcome (gather.NotInProfile at feature) = outcome.Refused (refusal.NotInProfile at feature)
gather_outcome (gather.TooDeep at) = outcome.Refused (refusal.TooDeep at)
gather_outcome gather.FilesFault = outcome.FilesFault
gather_outcome gather.NoMemory = outcome.NoMemory

abbrev pub order_outcome : OrderError → Outcome
order_outcome (order.Circular name) = outcome.Refused (refusal.Circular name)
order_outcome order.NoMemory = outcome.NoMemory

-- a rule of this number is broken at a place
abbrev pub broken : List Text → CheckKind → Place → ℕ → Outcome
broken texts k place rule = outcome.Refused (refusal.CheckRefused (at texts place) k rule)

abbrev pub check_outcome : List Text → CheckError → Outcome
check_outcome texts (check.UnknownName place rule) = broken texts kind.UnknownName place rule
check_outcome texts (check.DuplicateName place rule) = broken texts kind.DuplicateName place rule
check_outcome texts (check.TypeMismatch place rule) = broken texts kind.TypeMismatch place rule
check_outcome texts (check.NotAVariable place rule) = broken texts kind.NotAVariable place rule
check_outcome texts (check.BadConstant place rule) = broken texts kind.BadConstant place rule
check_outcome texts (check.MissingBody place rule) = broken texts kind.MissingBody place rule
check_outcome texts (check.BadCall place rule) = broken texts kind.BadCall place rule
check_outcome texts (check.NotInProfile place feature) = outcome.Refused (refusal.NotInProfile (at texts place) feature)
check_outcome texts (check.TooLarge place bytes) = outcome.Refused (refusal.TooLarge what.Declaration bytes)
check_outcome texts check.NoMemory = outcome.NoMemory

abbrev pub class_refused : ClassKind → List ℕ → Outcome
class_refused k name = outcome.Refused (refusal.ClassRefused k name)

abbrev pub class_outcome : ClassError → Outcome
class_outcome (class.BadOverride method) = class_refused wrong.BadOverride method
class_outcome (class.MissingVirtual method) = class_refused wrong.MissingVirtual method
class_outcome (class.DuplicateField name) = class_refused wrong.DuplicateField name
class_outcome class.NoMemory = outcome.NoMemory
