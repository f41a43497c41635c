-- What is answered for a name, where the folder is told; and that sources which are no program are no fault of the files.
use Rattle.std.proofs.Common.{◌≡◌, ℕ, List, Option, Some, None, IfSome, inl, inr, sym, subst}
use Rattle.tp_outside.specs.Folder.{Folder}
use Rattle.tp_lexer.specs.declared.token.Text.{Text}
use Rattle.object_vmt.specs.declared.faults.ClassError.{ClassError}
use Rattle.object_vmt.specs.declared.faults.ClassError.TheVariants as class
use Rattle.syntax_tree.specs.declared.identifier.Identifier.{Identifier}
use Rattle.source_graph.specs.declared.error.GatherError.{GatherError}
use Rattle.source_graph.specs.declared.sources.Source.{Source}
use Rattle.source_graph.specs.Walk.{IsRefused, Unless}
use Rattle.typing_rules.specs.declared.faults.CheckError.{CheckError}
use Rattle.typing_rules.specs.declared.faults.CheckError.TheVariants as check
use Rattle.typing_rules.specs.Faults.{error_of}
use Rattle.unit_interface.specs.declared.interfaces.Interface.{Interface}
use Rattle.unit_interface.specs.declared.order.OrderError.{OrderError}
use Rattle.unit_interface.specs.declared.order.OrderError.TheVariants as order
use Rattle.source_graph.specs.source_order.Orders.{names_of}
use Rattle.front_end.specs.declared.outcomes.outcome.Outcome.{Outcome}
use Rattle.front_end.specs.declared.outcomes.outcome.Outcome.TheVariants as outcome
use Rattle.front_end.specs.declared.outcomes.refusal.Refusal.TheVariants as refusal
use Rattle.front_end.specs.refusals.Outcomes.{gather_outcome, order_outcome, check_outcome, class_outcome}
use Rattle.syntax_tree.specs.source_tree.Sources.{used}
use Rattle.front_end.specs.source_interfaces.Scopes.{outer_units, IsUnresolved, KnowsNothing}
use Rattle.front_end.specs.Untyped.{AreUntyped, IsNoProgram, IsRefusing, IsDeclining}

order_refuses : (error : OrderError) → IsRefusing (order_outcome error)
order_refuses (order.Circular name) = tt
order_refuses order.NoMemory = tt

check_refuses : (texts : List Text) (error : CheckError) → IsRefusing (check_outcome texts error)
check_refuses texts (check.UnknownName place rule) = tt
check_refuses texts (check.DuplicateName place rule) = tt
check_refuses texts (check.TypeMismatch place rule) = tt
check_refuses texts (check.NotAVariable place rule) = tt
check_refuses texts (check.BadConstant place rule) = tt
check_refuses texts (check.MissingBody place rule) = tt
check_refuses texts (check.BadCall place rule) = tt
check_refuses texts (check.NotInProfile place feature) = tt
check_refuses texts (check.TooLarge place bytes) = tt
check_refuses texts check.NoMemory = tt

class_refuses : (error : ClassError) → IsRefusing (class_outcome error)
class_refuses (class.BadOverride method) = tt
class_refuses (class.MissingVirtual method) = tt
class_refuses (class.DuplicateField name) = tt
class_refuses class.NoMemory = tt

unresolved_refuses : (have : List Interface) (name : List ℕ) (uses : List (List ℕ)) (result : Outcome) → IsUnresolved have name uses result → IsRefusing result
unresolved_refuses have name uses (outcome.Refused (refusal.MissingFile file)) why = tt
unresolved_refuses have name uses (outcome.Refused (refusal.VersionMismatch unit import)) why = tt
unresolved_refuses have name uses (outcome.Refused other) why = absurd why
unresolved_refuses have name uses outcome.NoMemory why = tt
unresolved_refuses have name uses other why = absurd why

knows_refuses : (texts : List Text) (have : List Interface) (name : List ℕ) (uses : List Identifier) (result : Outcome) → KnowsNothing texts have name uses result → IsRefusing result
knows_refuses texts have name uses result (inl twice) = subst IsRefusing (sym twice.is) (check_refuses texts (error_of twice.fault))
knows_refuses texts have name uses result (inr why) = unresolved_refuses have name (names_of uses) result why

pub untyped_refuses : (texts : List Text) (sources : List Source) (result : Outcome) → AreUntyped texts sources result → IsRefusing result
untyped_refuses texts sources result (inl n) = subst IsRefusing (sym n.is) (order_refuses n.error)
untyped_refuses texts sources result (inr (inl w)) = subst IsRefusing (sym w.is) (check_refuses texts (error_of w.fault))
untyped_refuses texts sources result (inr (inr (inl i))) = elim i.lacks.cause [
  | inl knows ↦ knows_refuses texts i.lacks.have i.lacks.source.name (outer_units i.lacks.source) result knows
  | inr fails ↦ subst IsRefusing (sym fails.is) (check_refuses texts fails.error)
]
untyped_refuses texts sources result (inr (inr (inr (inl u)))) = elim u.lacks.cause [
  | inl (inl knows) ↦ knows_refuses texts u.have u.lacks.source.name (used u.lacks.source.tree) result knows
  | inl (inr knows) ↦ knows_refuses texts u.have u.lacks.source.name (outer_units u.lacks.source) result knows
  | inr fails ↦ subst IsRefusing (sym fails.is) (check_refuses texts fails.error)
]
untyped_refuses texts sources result (inr (inr (inr (inr (inl c))))) = subst IsRefusing (sym c.wrong.is) (class_refuses c.wrong.error)
untyped_refuses texts sources result (inr (inr (inr (inr (inr (inl many)))))) = subst IsRefusing (sym many.is) tt
untyped_refuses texts sources result (inr (inr (inr (inr (inr (inr none)))))) = subst IsRefusing (sym none) tt

refuses_declines : (result : Outcome) → IsRefusing result → IsDeclining result
refuses_declines (outcome.Refused r) is = is
refuses_declines outcome.NoMemory is = tt
refuses_declines other is = absurd is

pub untyped_declines : (texts : List Text) (sources : List Source) (result : Outcome) → AreUntyped texts sources result → IsDeclining result
untyped_declines texts sources result why = refuses_declines result (untyped_refuses texts sources result why)

pub untyped_not : {A : Type 0} (texts : List Text) (sources : List Source) (result : Outcome) → AreUntyped texts sources result → result ≡ outcome.FilesFault → A
untyped_not texts sources result why is = absurd (subst IsRefusing is (untyped_refuses texts sources result why))

pub ungathered : (known : Option Folder) (name : List ℕ) (error : GatherError) (result : Outcome) → IfSome known (λ held. Unless error (IsRefused held name error)) → result ≡ gather_outcome error
    → IfSome known (λ held. IsNoProgram held name result)
ungathered None name error result cause is = tt
ungathered (Some held) name error result cause is = inl (record { error = error; cause = cause; is = is })
