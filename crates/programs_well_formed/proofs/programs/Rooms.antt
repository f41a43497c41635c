-- What a typed unit keeps within bounds.
use Rattle.std.proofs.Common.{ℕ, List, subst}
use Rattle.units_well_formed.specs.type_layout.declared.definitions.TypeDef.{TypeDef}
use Rattle.units_well_formed.specs.type_layout.Table.{Table}
use Rattle.units_well_formed.specs.tp_lexer.declared.source_directives.collected.Directives.{Directives}
use Rattle.units_well_formed.specs.syntax_tree.declared.source_tree.source.Tree.{Tree}
use Rattle.units_well_formed.specs.syntax_tree.declared.source_tree.source.Tree.TheVariants as t
use Rattle.units_well_formed.specs.typed_tree.declared.units.Unit as typed
use Rattle.units_well_formed.specs.scopes.Environment.{Environment}
use Rattle.units_well_formed.specs.unit_interface.declared.interfaces.Interface.{Interface}
use Rattle.units_well_formed.specs.tp_check_decl.routines.Trees.{view_declarations}
use Rattle.units_well_formed.specs.declarations_well_formed.tables.Laws.{IsFit}
use Rattle.units_well_formed.proofs.declarations_well_formed_proofs.tables.Fits.{fit_front}
use Rattle.programs_well_formed.specs.imported_interfaces.Below.{view_unit, IsTypedAs, IsRoomy}
use Rattle.programs_well_formed.proofs.imported_interfaces.Below.{program_room, unit_room}
use Rattle.interfaces_consistent.specs.interface_soundness.interfaces.Declared.{Declares}
use Rattle.interfaces_consistent.proofs.interface_soundness_proofs.interfaces.AgreementLaws.{interface_grows, read_grows}
use Rattle.programs_well_formed.proofs.programs.Tables.{declares_more}

-- a table whose types are fit, with what a unit declares, was so before
front_fit : (unit : List ℕ) (table after : Table) → Declares unit table after → IsFit after.types → IsFit table.types
front_fit unit table after d fit = fit_front table.types d.types (subst (λ (l : List TypeDef). IsFit l) (declares_more unit table after d) fit)

-- so the types of the scope that a source begins with are fit
pub typed_fit : (name : List ℕ) (says : Directives) (g : Environment) (have : List Interface) (tree : Tree) (unit : typed.Unit) → IsTypedAs name says g have tree (view_unit unit) → IsRoomy unit → IsFit g.types.types
typed_fit name says g have (t.Program heading uses all body) unit h room =
    let works = view_declarations all.items in
    let d = h.made.made.part in
    front_fit name g.types d.scope.types (read_grows name g works d h.made.made.holds).declares (program_room name g unit room says uses.items works body h).types
typed_fit name says g have (t.Unit here own uses outer interface all body) unit h room =
    let d = h.made.part in
    front_fit name g.types d.scope.types (interface_grows name g interface.items d h.made.holds).declares
    (unit_room name g unit room says have own uses.items outer interface.items (view_declarations all.items) body h).types
