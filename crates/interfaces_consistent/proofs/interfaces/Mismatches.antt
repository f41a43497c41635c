-- No interface of sources that were gathered is told of as one that doesn't fit.
use Rattle.std.proofs.Common.{◌≡◌, ℕ, true, false, List, take, refl, sym, subst, ◌∙◌, inl, inr}
use Rattle.interface_soundness.specs.tp_outside.Folder.{Folder}
use Rattle.interface_soundness.specs.tp_lexer.declared.token.Text.{Text}
use Rattle.interface_soundness.specs.object_vmt.declared.faults.ClassError.{ClassError}
use Rattle.interface_soundness.specs.object_vmt.declared.faults.ClassError.TheVariants as class
use Rattle.interface_soundness.specs.syntax_tree.declared.identifier.Identifier.{Identifier}
use Rattle.interface_soundness.specs.syntax_tree.source_tree.Sources.{used}
use Rattle.interface_soundness.specs.source_graph.declared.error.GatherError.{GatherError}
use Rattle.interface_soundness.specs.source_graph.declared.error.GatherError.TheVariants as gather
use Rattle.interface_soundness.specs.source_graph.declared.sources.Source.{Source}
use Rattle.interface_soundness.specs.source_graph.Walk.{Gathers}
use Rattle.interface_soundness.specs.typing_rules.declared.faults.CheckError.{CheckError}
use Rattle.interface_soundness.specs.typing_rules.declared.faults.CheckError.TheVariants as check
use Rattle.interface_soundness.specs.typing_rules.Faults.{error_of}
use Rattle.interface_soundness.specs.unit_interface.declared.interfaces.Interface.{Interface}
use Rattle.interface_soundness.specs.unit_interface.declared.order.OrderError.{OrderError}
use Rattle.interface_soundness.specs.unit_interface.declared.order.OrderError.TheVariants as order
use Rattle.interface_soundness.specs.unit_interface.Merge.{ids_in}
use Rattle.interface_soundness.specs.unit_interface.Resolve.{resolved, IsMismatched}
use Rattle.interface_soundness.specs.unit_interface.Fitting.{types_fit}
use Rattle.interface_soundness.proofs.unit_interface_proofs.FitLaws.{misfitting_fails}
use Rattle.interface_soundness.specs.source_graph.source_order.Orders.{names_of}
use Rattle.interface_soundness.specs.front_end.declared.outcomes.outcome.Outcome.{Outcome}
use Rattle.interface_soundness.specs.front_end.declared.outcomes.outcome.Outcome.TheVariants as outcome
use Rattle.interface_soundness.specs.front_end.declared.outcomes.refusal.Refusal.TheVariants as refusal
use Rattle.interface_soundness.specs.front_end.refusals.Outcomes.{gather_outcome, order_outcome, check_outcome, class_outcome}
use Rattle.interface_soundness.specs.front_end.source_interfaces.Scopes.{outer_units, IsUnresolved, KnowsNothing}
use Rattle.interface_soundness.specs.front_end.source_interfaces.Interfaces.{AreShown, IsAcyclic}
use Rattle.interface_soundness.specs.front_end.Untyped.{AreUntyped}
use Rattle.interface_soundness.specs.programs.Laws.{IsFree}
use Rattle.interface_soundness.specs.programs.Closing.{AreInOrder}
use Rattle.interface_soundness.proofs.programs.Programs.{complete}
use Rattle.interface_soundness.proofs.imported_types_agree_proofs.compatible_types.Uses.{types_told}
use Rattle.interfaces_consistent.specs.interfaces.Laws.{NoneMisfits, NeverMismatched, OnlyMemory}
use Rattle.interfaces_consistent.proofs.interfaces.Inherited.{homes, each_told, scopes_told}

abbrev Mismatch : List ℕ → List ℕ → Outcome
Mismatch unit import = outcome.Refused (refusal.VersionMismatch unit import)

-- ---- what else is told of is told otherwise

gather_not : (unit import : List ℕ) (error : GatherError) → Mismatch unit import ≡ gather_outcome error → ⊥
gather_not unit import (gather.MissingFile name) is = cc
gather_not unit import (gather.TooLarge bytes) is = cc
gather_not unit import (gather.BadToken at cause) is = cc
gather_not unit import (gather.Syntax at) is = cc
gather_not unit import (gather.NotInProfile at feature) is = cc
gather_not unit import (gather.TooDeep at) is = cc
gather_not unit import gather.FilesFault is = cc
gather_not unit import gather.NoMemory is = cc

order_not : (unit import : List ℕ) (error : OrderError) → Mismatch unit import ≡ order_outcome error → ⊥
order_not unit import (order.Circular name) is = cc
order_not unit import order.NoMemory is = cc

check_not : (unit import : List ℕ) (texts : List Text) (error : CheckError) → Mismatch unit import ≡ check_outcome texts error → ⊥
check_not unit import texts (check.UnknownName place rule) is = cc
check_not unit import texts (check.DuplicateName place rule) is = cc
check_not unit import texts (check.TypeMismatch place rule) is = cc
check_not unit import texts (check.NotAVariable place rule) is = cc
check_not unit import texts (check.BadConstant place rule) is = cc
check_not unit import texts (check.MissingBody place rule) is = cc
check_not unit import texts (check.BadCall place rule) is = cc
check_not unit import texts (check.NotInProfile place feature) is = cc
check_not unit import texts (check.TooLarge place bytes) is = cc
check_not unit import texts check.NoMemory is = cc

class_not : (unit import : List ℕ) (error : ClassError) → Mismatch unit import ≡ class_outcome error → ⊥
class_not unit import (class.BadOverride name) is = cc
class_not unit import (class.MissingVirtual name) is = cc
class_not unit import (class.DuplicateField name) is = cc
class_not unit import class.NoMemory is = cc

-- ---- used units

-- a told interface doesn't misfit a told scope
fits_there : (sources : List Source) (have : List Interface) → AreInOrder sources have → (name : List ℕ) (uses : List (List ℕ)) (import : List ℕ) → IsMismatched have name uses import → ⊥
fits_there sources have o name uses import m =
    let before = take m.place uses in
    let u = m.misfitting in
    let g = resolved have name before in
    let fits : types_fit g.types u.interface.types ≡ true =
    types_told have (homes sources have o) g u.interface (scopes_told sources have o name before) (each_told sources have o import u.other u.interface u.named) in
    contrary (sym fits ∙ misfitting_fails (ids_in g.types u.interface.types) g.types u.interface.types u.misfitting)
  where
    contrary : true ≡ false → ⊥
    contrary is = cc

unresolved_not : (sources : List Source) (have : List Interface) → AreInOrder sources have → (name : List ℕ) (uses : List (List ℕ)) (unit import : List ℕ) → IsUnresolved have name uses (Mismatch unit import) → ⊥
unresolved_not sources have o name uses unit import (once, same, mismatched) = fits_there sources have o name uses import mismatched

knows_not : (texts : List Text) (sources : List Source) (have : List Interface) → AreInOrder sources have → (name : List ℕ) (uses : List Identifier) (unit import : List ℕ)
    → KnowsNothing texts have name uses (Mismatch unit import) → ⊥
knows_not texts sources have o name uses unit import (inl twice) = check_not unit import texts (error_of twice.fault) twice.is
knows_not texts sources have o name uses unit import (inr why) = unresolved_not sources have o name (names_of uses) unit import why

-- ---- sources

module _ (held : Folder) (name : List ℕ) (texts : List Text) (sources : List Source) (gathers : Gathers held name texts sources) where
  in_order : (have : List Interface) → IsAcyclic sources → AreShown sources have → AreInOrder sources have
  in_order have acyclic shown = record { held = held; name = name; texts = texts; gathers = gathers; acyclic = acyclic; shown = shown }

  none : (unit import : List ℕ) → AreUntyped texts sources (Mismatch unit import) → ⊥
  none unit import (inl n) = order_not unit import n.error n.is
  none unit import (inr (inl w)) = check_not unit import texts (error_of w.fault) w.is
  none unit import (inr (inr (inl i))) =
      let l = i.lacks in
      elim l.cause [
        | inl knows ↦ knows_not texts sources l.have (in_order l.have i.acyclic l.shown) l.source.name (outer_units l.source) unit import knows
        | inr fails ↦ check_not unit import texts fails.error fails.is
      ]
  none unit import (inr (inr (inr (inl n)))) =
      let l = n.lacks in
      let o = in_order n.have n.acyclic n.interfaces.shown in
      elim l.cause [
        | inl (inl knows) ↦ knows_not texts sources n.have o l.source.name (used l.source.tree) unit import knows
        | inl (inr knows) ↦ knows_not texts sources n.have o l.source.name (outer_units l.source) unit import knows
        | inr fails ↦ check_not unit import texts fails.error fails.is
      ]
  none unit import (inr (inr (inr (inr (inl c))))) = class_not unit import c.wrong.error c.wrong.is
  none unit import (inr (inr (inr (inr (inr (inl many)))))) = let is = many.is in absurd (cc)
  none unit import (inr (inr (inr (inr (inr (inr memory)))))) = absurd (cc)

pub none_misfits : NoneMisfits
none_misfits held name texts sources gathers unit import why = none held name texts sources gathers unit import why

pub never_mismatched : NeverMismatched
never_mismatched held name unit import (inl ungathered) = gather_not unit import ungathered.error ungathered.is
never_mismatched held name unit import (inr untyped) = none_misfits held name untyped.texts untyped.sources untyped.gathers unit import untyped.why

-- what is free is out of memory, or interfaces that do not fit
memory_else : (result : Outcome) → IsFree result → ((unit import : List ℕ) → result ≡ Mismatch unit import → ⊥) → result ≡ outcome.NoMemory
memory_else outcome.NoMemory free other = refl
memory_else (outcome.Refused (refusal.VersionMismatch unit import)) free other = absurd (other unit import refl)
memory_else (outcome.Refused refused) free other = absurd free
memory_else result free other = absurd free

pub only_memory : OnlyMemory
only_memory held name texts sources gathers program is result why =
    memory_else result (complete held name texts sources gathers program is result why)
    (λ unit import same. none_misfits held name texts sources gathers unit import (subst (λ (o : Outcome). AreUntyped texts sources o) same why))
