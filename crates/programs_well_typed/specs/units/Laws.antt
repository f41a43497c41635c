-- Checked units have sound parts.
use Rattle.std.specs.Prelude.{◌≡◌, ℕ, false, All, List}
use Rattle.shared_types_agree.specs.tp_lexer.declared.source_directives.collected.Directives.{Directives}
use Rattle.shared_types_agree.specs.syntax_tree.declared.source_tree.source.Tree.{Tree}
use Rattle.shared_types_agree.specs.source_graph.declared.sources.Source.{Source}
use Rattle.shared_types_agree.specs.typed_tree.declared.units.Unit as typed
use Rattle.shared_types_agree.specs.typed_tree.declared.units.Program.{Program}
use Rattle.shared_types_agree.specs.scopes.Environment.{Environment}
use Rattle.shared_types_agree.specs.unit_interface.declared.interfaces.Interface.{Interface}
use Rattle.shared_types_agree.specs.tp_meaning.Programs.{is_overlay}
use Rattle.shared_types_agree.specs.units_well_formed.units.Below.{view_unit, IsTypedAs}
use Rattle.shared_types_agree.specs.front_end.Typed.{IsProgram}
use Rattle.shared_types_agree.specs.unit_references.Units.{HasSoundParts}
use Rattle.programs_well_typed.specs.units.Sound.{IsHeld}

-- The typed unit of a source, over whatever scope and interfaces, where its file has not the name of the unit Overlay.
abbrev pub UnitLaw : Type 0
UnitLaw = (name : List ℕ) (says : Directives) (g : Environment) (have : List Interface) (tree : Tree) (unit : typed.Unit) → is_overlay name ≡ false → IsTypedAs name says g have tree (view_unit unit) → IsHeld unit
    → HasSoundParts unit

-- All units of a program.
abbrev pub ProgramLaw : Type 0
ProgramLaw = (sources : List Source) (program : Program) → IsProgram sources program → All IsHeld program.units → All HasSoundParts program.units
