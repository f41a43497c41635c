-- Units of programs are well formed.
use Rattle.std.specs.Prelude.{◌≡◌, ℕ, true, false, List, [], ◌∷◌, Some, slice_get}
use Rattle.std.specs.List.{All}
use Rattle.interfaces_consistent.specs.tp_outside.Folder.{Folder}
use Rattle.units_well_formed.specs.tp_lexer.declared.token.Text.{Text}
use Rattle.units_well_formed.specs.syntax_tree.declared.identifier.Identifier.{Identifier}
use Rattle.units_well_formed.specs.typed_tree.declared.units.Unit as typed
use Rattle.units_well_formed.specs.typed_tree.declared.units.Program.{Program}
use Rattle.units_well_formed.specs.well_formed.WellFormed.{IsWellFormed}
use Rattle.units_well_formed.specs.syntax_tree.source_tree.Sources.{used}
use Rattle.interfaces_consistent.specs.source_graph.declared.sources.Source.{Source}
use Rattle.interfaces_consistent.specs.source_graph.Walk.{Gathers}
use Rattle.units_well_formed.specs.unit_interface.declared.interfaces.Interface.{Interface}
use Rattle.units_well_formed.specs.scopes.Predeclared.{first}
use Rattle.units_well_formed.specs.scopes.Environment.{Environment}
use Rattle.units_well_formed.specs.unit_interface.Merge.{with_interface}
use Rattle.units_well_formed.specs.unit_interface.Resolve.{overlay, is_overlay, interface_named, with_use}
use Rattle.interfaces_consistent.specs.source_graph.source_order.Orders.{names_of}
use Rattle.interfaces_consistent.specs.front_end.source_interfaces.Scopes.{outer_units, outer_scope}
use Rattle.units_well_formed.specs.imported_types_agree.well_scoped.Scopes.{IsWellScopedUse}
use Rattle.units_well_formed.specs.declarations_well_formed.tables.Laws.{IsFit}
use Rattle.interfaces_consistent.specs.front_end.Typed.{IsUnitOf, IsProgram}
use Rattle.programs_well_formed.specs.imported_interfaces.Below.{view_unit, EachUse, further_uses, IsSource, IsRoomy, IsFormedIn, end_scope}
use Rattle.programs_well_formed.specs.imported_interfaces.Faithful.{IsFaithful}

-- The source uses no unit but OVERLAY, and hasn't its name; what the lexer gives is in it, and not too much.
pub record IsAlone (source : Source) : Type 0 where
  pub uses : EachUse (λ (one : Identifier). is_overlay one.name ≡ true) (used source.tree)
  pub named : source.name ≡ overlay → ⊥
  pub written : IsSource source.tree

-- The typed unit of such a source is well formed, if 32 bits hold its numbers.
abbrev pub UnitLaw : Type 0
UnitLaw = (have : List Interface) (source : Source) (unit : typed.Unit) → IsUnitOf have source unit → IsAlone source → IsRoomy unit → IsWellFormed unit

-- What each unit that is used tells is known alike in the scope that it comes into, which stays within bounds.
abbrev pub IsFaithfulUse : List Interface → List ℕ → Environment → List ℕ → Type 0
IsFaithfulUse have name g word = is_overlay word ≡ false → (i : Interface) → interface_named have word ≡ Some i → IsFaithful name g i × IsFit (with_interface g i).types.types

abbrev pub AreFaithful : List Interface → List ℕ → Environment → List (List ℕ) → Type 0
AreFaithful have name g [] = Unit {0}
AreFaithful have name g (word ∷ words) = IsFaithfulUse have name g word × AreFaithful have name (with_use have g word) words

-- The interface part uses units whose interfaces are closed and faithful, the implementation part no unit but OVERLAY.
pub record IsFaithfulSource (have : List Interface) (source : Source) : Type 0 where
  pub closed : (word : List ℕ) → IsWellScopedUse have word
  pub faithful : AreFaithful have source.name (first source.name) (names_of (outer_units source))
  pub further : EachUse (λ (one : Identifier). is_overlay one.name ≡ true) (further_uses source.tree)
  pub named : source.name ≡ overlay → ⊥
  pub written : IsSource source.tree

-- The typed unit of such a source, as of each program whose used units are faithful, is well formed.
abbrev pub UsingLaw : Type 0
UsingLaw = (have : List Interface) (source : Source) (unit : typed.Unit) → IsUnitOf have source unit → IsFaithfulSource have source → IsRoomy unit → IsWellFormed unit

-- So are the units of a program of sources that use no unit but OVERLAY.
abbrev pub ProgramLaw : Type 0
ProgramLaw = (sources : List Source) (program : Program) → IsProgram sources program → All IsAlone sources → All IsRoomy program.units → All IsWellFormed program.units

-- The typed unit of each source is well formed where other units have what the scope at the source's end tells of them.
abbrev pub AreFormed : List Interface → List Source → Type 0
AreFormed have sources = (place : ℕ) (source : Source) → slice_get sources place ≡ Some source → (unit : typed.Unit) → (is : IsUnitOf have source unit) → IsRoomy unit
    → IsFormedIn (end_scope source.name source.says (outer_scope have source) have source.tree (view_unit unit) is.typed) unit

-- The units of each program are well formed, where what the lexer gives is in its sources, and not too much, and if 32 bits hold their
-- numbers; and each is so by what its scope tells of the others.
abbrev pub WholeLaw : Type 0
WholeLaw = (held : Folder) (name : List ℕ) (texts : List Text) (sources : List Source) → Gathers held name texts sources
    → (program : Program) → (is : IsProgram sources program) → All (λ (source : Source). IsSource source.tree) sources → All IsRoomy program.units
    → All IsWellFormed program.units × AreFormed is.units.have sources
