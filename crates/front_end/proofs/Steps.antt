-- What each step answers, over plain variables.
use Rattle.std.proofs.Common.{◌≡◌, ◌⊎◌, ℕ, ◌+◌, ◌<◌, ◌≤◌, List, Result, Ok, Err, IfOk, IfErr, Some, Contains, length, sym, ap, ◌∙◌, subst, inl, inr}
use Rattle.std.specs.Prelude.{slice_get}
use Rattle.std.specs.List.{AllZip}
use Rattle.std.proofs.lemmas.Option.{slice_get_within, get_or_from_slice_get}
use Rattle.tp_lexer.specs.declared.token.Text.{Text}
use Rattle.typed_tree.specs.declared.units.Unit.{Unit}
use Rattle.typed_tree.specs.declared.units.Program.{Program}
use Rattle.syntax_tree.specs.source_tree.Sources.{used}
use Rattle.source_graph.specs.declared.sources.Source.{Source}
use Rattle.scopes.specs.Environment.{Environment}
use Rattle.unit_interface.specs.declared.interfaces.Interface.{Interface}
use Rattle.unit_interface.specs.Order.{start_order}
use Rattle.source_graph.specs.source_order.Orders.{all_uses}
use Rattle.tp_check_decl.specs.Units.{view_unit}
use Rattle.tp_check_decl.specs.Checked.{IsTypedAs}
use Rattle.front_end.specs.declared.outcomes.outcome.Outcome.{Outcome}
use Rattle.front_end.specs.declared.outcomes.outcome.Outcome.TheVariants as outcome
use Rattle.front_end.specs.declared.outcomes.refusal.Refusal.TheVariants as refusal
use Rattle.front_end.specs.declared.outcomes.refusal.What.TheVariants as what
use Rattle.front_end.specs.source_interfaces.Scopes.{outer_units, outer_scope, AreThere, AreFitting}
use Rattle.front_end.specs.source_interfaces.Kinds.{AreOfKinds}
use Rattle.front_end.specs.source_interfaces.Interfaces.{AreInterfaces, IsAcyclic}
use Rattle.front_end.proofs.source_interfaces.Steps.{no_memory_known}
use Rattle.front_end.specs.Typed.{sources_at, IsUnitOf, AreUnits, AreLawful, IsProgram}
use Rattle.front_end.specs.Untyped.{IsNoUnit, LacksUnit, AreUntyped}

-- ---- the typed unit of a source

pub unit_by : (have : List Interface) (source : Source) (scope : Environment) (unit : Unit) → scope ≡ outer_scope have source → AreThere have (used source.tree)
    → AreFitting have source.name (outer_units source) → IsTypedAs source.name source.says scope have source.tree (view_unit unit) → IsUnitOf have source unit
unit_by have source scope unit is there fits typed = record {
  there = there;
  fits = fits;
  typed = subst (λ (g : Environment). IsTypedAs source.name source.says g have source.tree (view_unit unit)) is typed;
}

contains_at : (sources : List Source) (place : ℕ) (source : Source) → slice_get sources place ≡ Some source → Contains sources source
contains_at sources place source at = (place, slice_get_within sources place source at, get_or_from_slice_get sources place source source at)

pub lacks_unit : (texts : List Text) (sources : List Source) (have : List Interface) (place : ℕ) (source : Source) (result : Outcome) → slice_get sources place ≡ Some source → IsNoUnit texts have source result → LacksUnit texts sources have result
lacks_unit texts sources have place source result at why = record { source = source; one = contains_at sources place source at; cause = why }

pub lacks_unit_memory : (texts : List Text) (sources : List Source) (have : List Interface) (place : ℕ) (source : Source) (result : Outcome) → slice_get sources place ≡ Some source → result ≡ outcome.NoMemory → LacksUnit texts sources have result
lacks_unit_memory texts sources have place source result at memory = lacks_unit texts sources have place source result at (inl (inl (no_memory_known texts have source.name (used source.tree) result memory)))

-- ---- the whole

pub are_units : (sources : List Source) (have : List Interface) (order : List ℕ) (units : List Unit) → IsAcyclic sources → AreOfKinds sources → AreInterfaces sources have → order ≡ start_order (all_uses sources) 0
    → AllZip (IsUnitOf have) (sources_at sources order) units → AreUnits sources units
are_units sources have order units acyclic kinds interfaces is typed = record {
  acyclic = acyclic;
  kinds = kinds;
  have = have;
  interfaces = interfaces;
  typed = subst (λ (places : List ℕ). AllZip (IsUnitOf have) (sources_at sources places) units) is typed;
}

pub program_by : (sources : List Source) (have : List Interface) (order : List ℕ) (units : List Unit) (result : Result Program Outcome) → IsAcyclic sources → AreOfKinds sources → AreInterfaces sources have
    → order ≡ start_order (all_uses sources) 0 → AllZip (IsUnitOf have) (sources_at sources order) units → AreLawful units
    → IfOk result (λ program. (program.units ≡ units) × (program.start + 1 ≡ length units)) → IfOk result (λ program. length units ≤ 256) → IfOk result (IsProgram sources)
program_by sources have order units (Err error) acyclic kinds interfaces is typed lawful last few = tt
program_by sources have order units (Ok program) acyclic kinds interfaces is typed lawful last few = record {
  units = subst (AreUnits sources) (sym last.0) (are_units sources have order units acyclic kinds interfaces is typed);
  lawful = subst AreLawful (sym last.0) lawful;
  few = subst (λ (all : List Unit). length all ≤ 256) (sym last.0) few;
  last = last.1 ∙ ap (λ (all : List Unit). length all) (sym last.0);
}

pub untyped_by : (texts : List Text) (sources : List Source) (have : List Interface) (order : List ℕ) (units : List Unit) (result : Result Program Outcome) → IsAcyclic sources → AreOfKinds sources → AreInterfaces sources have
    → order ≡ start_order (all_uses sources) 0 → AllZip (IsUnitOf have) (sources_at sources order) units → AreLawful units
    → IfErr result (λ error. ((256 < length units) × (error ≡ outcome.Refused (refusal.TooLarge what.Units (length units)))) ⊎ (error ≡ outcome.NoMemory)) → IfErr result (AreUntyped texts sources)
untyped_by texts sources have order units (Ok program) acyclic kinds interfaces is typed lawful why = tt
untyped_by texts sources have order units (Err error) acyclic kinds interfaces is typed lawful (inl many) =
    inr (inr (inr (inr (inr (inl (record { units = units; are = are_units sources have order units acyclic kinds interfaces is typed; lawful = lawful; many = many.0; is = many.1 }))))))
untyped_by texts sources have order units (Err error) acyclic kinds interfaces is typed lawful (inr memory) = inr (inr (inr (inr (inr (inr memory)))))
