-- The source of each unit of a program, with what is known of the scopes that it is read over.
use Rattle.std.proofs.Common.{ℕ, List}
use Rattle.interfaces_consistent.specs.source_graph.declared.sources.Source.{Source}
use Rattle.interfaces_consistent.specs.source_graph.Walk.{Gathers}
use Rattle.interfaces_consistent.specs.tp_outside.Folder.{Folder}
use Rattle.units_well_formed.specs.tp_lexer.declared.token.Text.{Text}
use Rattle.unit_references.specs.typed_tree.declared.units.Unit as typed
use Rattle.unit_references.specs.typed_tree.declared.units.Program.{Program}
use Rattle.unit_references.specs.store_typing.types.Agreement.{IsUnit}
use Rattle.units_well_formed.specs.unit_interface.declared.interfaces.Interface.{Interface}
use Rattle.units_well_formed.specs.unit_interface.Order.{start_order}
use Rattle.interfaces_consistent.specs.source_graph.source_order.Orders.{all_uses}
use Rattle.interfaces_consistent.specs.front_end.source_interfaces.Scopes.{outer_scope}
use Rattle.interfaces_consistent.specs.front_end.source_interfaces.Interfaces.{IsShownIn}
use Rattle.units_well_formed.specs.tp_check_decl.Units.{view_unit}
use Rattle.units_well_formed.specs.tp_check_decl.Checked.{IsTypedAs}
use Rattle.interfaces_consistent.specs.front_end.Typed.{IsProgram}
use Rattle.interfaces_consistent.specs.interface_soundness.programs.Closing.{AreInOrder}
use Rattle.interfaces_consistent.proofs.interface_soundness_proofs.programs.Sources.{named_by, shown_some}
use Rattle.interfaces_consistent.proofs.interface_soundness_proofs.programs.Depth.{of_source}
use Rattle.interfaces_consistent.proofs.interface_soundness_proofs.programs.Closing.{new_of}
use Rattle.interfaces_consistent.proofs.interfaces.Inherited.{told_within}
use Rattle.shared_types_agree.proofs.programs.Units as units
use Rattle.shared_types_agree.proofs.programs.Units.{IsConsistentTable, IsFirstScope, AreUsedSo}
use Rattle.shared_types_agree.proofs.programs.Whole.{not_system, listed, typed_at}

-- the unit is that of a source, by the rules alone
pub record IsOfSource (have : List Interface) (unit : typed.Unit) : Type 0 where
  pub source : Source
  pub typed : IsTypedAs source.name source.says (outer_scope have source) have source.tree (view_unit unit)
  pub first : IsFirstScope source.name (outer_scope have source)
  pub used : AreUsedSo have source.name source.says (outer_scope have source) source.tree (view_unit unit) typed
  pub told : IsConsistentTable have source.name unit.types

pub source_of : (held : Folder) (name : List ℕ) (texts : List Text) (sources : List Source) → Gathers held name texts sources
    → (program : Program) (is : IsProgram sources program) (unit : typed.Unit) → IsUnit program unit → IsOfSource is.units.have unit
source_of held name texts sources gathers program is unit there =
    let u = is.units in
    let have = u.have in
    let o : AreInOrder sources have = record { held = held; name = name; texts = texts; gathers = gathers; acyclic = u.acyclic; shown = u.interfaces.shown } in
    let l = listed program.units unit.name unit there in
    let t = typed_at sources have (start_order (all_uses sources) 0) program.units l.number unit u.typed l.at in
    let s : Source = t.source in
    let n = named_by (IsShownIn sources have) have s.name o.shown (shown_some have s.name (u.interfaces.all t.place s t.at)) in
    let no_system = not_system sources t.place s (u.kinds t.place s t.at) in
    let of = of_source sources (new_of sources have o) have o.shown t.place s n.interface t.at n.found in
    let within = told_within sources have o t.place s n.interface t.at no_system n.found of in
    record {
      source = s;
      typed = t.is.typed;
      first = units.first_so sources have o t.place s t.at no_system;
      used = units.used_so sources have o t.place s t.at no_system n.interface n.found s.tree (view_unit unit) t.is.typed of.shows within;
      told = units.of_source sources have o t.place s t.at no_system n.interface n.found s.tree (view_unit unit) t.is.typed of.shows within;
    }
