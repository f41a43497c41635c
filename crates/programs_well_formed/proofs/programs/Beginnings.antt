-- What a typed unit tells of what it declares first: a program of nothing, a unit of its interface part.
use Rattle.std.proofs.Common.{ℕ, List, [], None, refl}
use Rattle.units_well_formed.specs.type_layout.Table.{Table}
use Rattle.units_well_formed.specs.tp_lexer.declared.source_directives.collected.Directives.{Directives}
use Rattle.units_well_formed.specs.syntax_tree.declared.source_tree.source.Tree.{Tree}
use Rattle.units_well_formed.specs.syntax_tree.declared.source_tree.source.Tree.TheVariants as t
use Rattle.units_well_formed.specs.typed_tree.declared.units.Unit as typed
use Rattle.units_well_formed.specs.scopes.Environment.{Environment}
use Rattle.units_well_formed.specs.scopes.Predeclared.{type_table}
use Rattle.units_well_formed.specs.unit_interface.declared.interfaces.Interface.{Interface}
use Rattle.units_well_formed.specs.unit_interface.Keyed.{IsKeyed}
use Rattle.units_well_formed.specs.tp_check_decl.routines.Trees.{view_declarations}
use Rattle.units_well_formed.specs.tp_check_decl.routines.Drafts.{Drafted}
use Rattle.programs_well_formed.proofs.imported_interfaces.Below.{known_closed, interface_left, unit_room}
use Rattle.units_well_formed.specs.imported_types_agree.well_scoped.Scopes.{IsCompleteScope}
use Rattle.interfaces_consistent.specs.interface_soundness.interfaces.Declared.{Declares}
use Rattle.interfaces_consistent.proofs.interface_soundness_proofs.interfaces.AgreementLaws.{interface_grows}
use Rattle.units_well_formed.specs.imported_types_agree.consistent_types.Consistency.{IsWellScopedTable, IsConsistentWithOthers}
use Rattle.interfaces_consistent.proofs.interfaces.Declaring.{paired_of, keys_stay}
use Rattle.units_well_formed.specs.imported_types_agree.compatible_types.Fits.{IsConsistentScope}
use Rattle.units_well_formed.proofs.imported_types_agree_proofs.compatible_types.Uses.{closed_table}
use Rattle.programs_well_formed.specs.imported_interfaces.Below.{Whole, whole, view_unit, items_of, outlined, IsTypedAs, scope_of, IsRead, PartsKeep, IsBegun, IsSource, IsRoomy, AreOwnConstants}
use Rattle.programs_well_formed.proofs.programs.Faithful.{HasSystem}
use Rattle.programs_well_formed.proofs.programs.Constants.{values_shown}
use Rattle.programs_well_formed.proofs.programs.Tables.{stay_on}

-- what was read over a scope is complete
pub read_complete : (d : Drafted) → IsRead d [] → IsCompleteScope d.scope
read_complete d r = record { ordered = r.table.ordered; closed = known_closed d.scope (scope_of d []) r.known r.table }

-- the unit that is shown: its table is closed and begins with SYSTEM's types, and the constants are values of its types
pub record IsBeginning (name : List ℕ) (says : Directives) (g : Environment) (tree : Tree) : Type 0 where
  pub unit : Whole
  pub holds : (outlined name says g tree).holds unit
  pub keyed : IsKeyed unit.types
  pub closed : IsWellScopedTable unit.types
  pub system : HasSystem unit.types
  pub constants : AreOwnConstants unit.types.types unit.items

module _ (name : List ℕ) (parts : PartsKeep name) (says : Directives) (have : List Interface) (g : Environment) (begun : IsBegun name g) (scope : IsConsistentScope have g) (system : HasSystem g.types)
    (behind : (after : Table) → Declares name g.types after → IsConsistentWithOthers have name after) where
  pub begins : (tree : Tree) (unit : typed.Unit) → IsTypedAs name says g have tree (view_unit unit) → IsSource tree → IsRoomy unit → IsBeginning name says g tree
  begins (t.Program heading uses all body) unit h source room =
      let front = h.made.part in
      record {
        unit = whole name front g [] [] [] None;
        holds = record { part = front; holds = h.made.holds; made = refl };
        keyed = scope.told.keyed;
        closed = closed_table g scope.complete;
        system = system;
        constants = tt;
      }
  begins (t.Unit here own uses outer interface all body) unit h source room =
      let front = h.part in
      let d : Drafted = h.made.part in
      let left = interface_left name parts g d interface.items begun source.0 (unit_room name g unit room says have own uses.items outer interface.items (view_declarations all.items) body h) h.made.holds in
      let declares = (interface_grows name g interface.items d h.made.holds).declares in
      let told = behind d.scope.types declares in
      record {
        unit = whole name front d.scope (items_of d.scope) d.globals [] None;
        holds = record { part = front; holds = h.holds; made = record { part = d; holds = h.made.holds; made = refl } };
        keyed = told.keyed;
        closed = closed_table d.scope (read_complete d left.read);
        system = stay_on type_table g.types d.scope.types system (keys_stay name g.types d.scope.types (paired_of g.types scope.told.keyed) declares);
        constants = values_shown d left.read;
      }
