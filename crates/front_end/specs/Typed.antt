-- The typed program that sources are.
use Rattle.std.specs.Prelude.{◌≡◌, ◌≤◌, ℕ, ◌+◌, List, [], ◌∷◌, ◌++◌, length, slice_get}
use Rattle.std.specs.List.{All, AllZip}
use Rattle.std.specs.Option.{option_to_list}
use Rattle.tp_outside.specs.Folder.{Folder}
use Rattle.tp_lexer.specs.declared.token.Text.{Text}
use Rattle.typed_tree.specs.declared.units.Unit.{Unit}
use Rattle.typed_tree.specs.declared.units.Program.{Program}
use Rattle.object_vmt.specs.Dispatch.{IsLawful}
use Rattle.syntax_tree.specs.source_tree.Sources.{used}
use Rattle.source_graph.specs.declared.sources.Source.{Source}
use Rattle.source_graph.specs.Walk.{Gathers}
use Rattle.unit_interface.specs.declared.interfaces.Interface.{Interface}
use Rattle.unit_interface.specs.Order.{start_order}
use Rattle.source_graph.specs.source_order.Orders.{all_uses}
use Rattle.tp_check_decl.specs.Units.{view_unit}
use Rattle.tp_check_decl.specs.Checked.{IsTypedAs}
use Rattle.front_end.specs.source_interfaces.Scopes.{outer_units, outer_scope, AreThere, AreFitting}
use Rattle.front_end.specs.source_interfaces.Kinds.{AreOfKinds}
use Rattle.front_end.specs.source_interfaces.Interfaces.{AreInterfaces, IsAcyclic}

-- the sources at these places
abbrev pub sources_at : List Source → List ℕ → List Source
sources_at sources [] = []
sources_at sources (place ∷ places) = option_to_list (slice_get sources place) ++ sources_at sources places

-- the sources in order of initialisation, the program last
abbrev pub in_order : List Source → List Source
in_order sources = sources_at sources (start_order (all_uses sources) 0)

-- The typed unit is that of a source: every rule holds in it, over what is known to its interface part by the interfaces, and what
-- they show of the units that its implementation part uses.
pub record IsUnitOf (have : List Interface) (source : Source) (unit : Unit) : Type 0 where
  pub there : AreThere have (used source.tree)
  pub fits : AreFitting have source.name (outer_units source)
  pub typed : IsTypedAs source.name source.says (outer_scope have source) have source.tree (view_unit unit)

-- the units of all sources, in order of initialisation
pub record AreUnits (sources : List Source) (units : List Unit) : Type 0 where
  pub acyclic : IsAcyclic sources
  pub kinds : AreOfKinds sources
  pub have : List Interface
  pub interfaces : AreInterfaces sources have
  pub typed : AllZip (IsUnitOf have) (in_order sources) units

-- fields and methods of object types keep the rules on lines
abbrev pub AreLawful : List Unit → Type 0
AreLawful units = All (λ unit. IsLawful unit.types.types) units

-- The typed program that the sources are: their units in order of initialisation, at most 256, the program itself last.
pub record IsProgram (sources : List Source) (program : Program) : Type 0 where
  pub units : AreUnits sources program.units
  pub lawful : AreLawful program.units
  pub few : length program.units ≤ 256
  pub last : program.start + 1 ≡ length program.units

-- The program of this name, by the files of a folder.
pub record IsProgramIn (held : Folder) (name : List ℕ) (program : Program) : Type 0 where
  pub texts : List Text
  pub sources : List Source
  pub gathers : Gathers held name texts sources
  pub is : IsProgram sources program
