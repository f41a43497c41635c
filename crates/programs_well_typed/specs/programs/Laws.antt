-- Programs that sources give are well-typed.
use Rattle.std.specs.Prelude.{ℕ, All, List}
use Rattle.shared_types_agree.specs.tp_outside.Folder.{Folder}
use Rattle.shared_types_agree.specs.tp_lexer.declared.token.Text.{Text}
use Rattle.shared_types_agree.specs.source_graph.declared.sources.Source.{Source}
use Rattle.shared_types_agree.specs.source_graph.Walk.{Gathers}
use Rattle.shared_types_agree.specs.typed_tree.declared.units.Unit.{Unit as TypedUnit}
use Rattle.shared_types_agree.specs.typed_tree.declared.units.Program.{Program}
use Rattle.shared_types_agree.specs.program_typing.programs.WellTyped.{IsWellTyped}
use Rattle.programs_well_typed.specs.units.Sound.{IsHeld}
use Rattle.programs_well_typed.specs.suppositions.Below.{IsKeptTable, IsSource, IsRoomy, IsProgram}

-- Each unit of the program that sources are is well-formed, and what it says of the others is so, where what the lexer gives is in the
-- sources, and not too much, 32 bits hold the units' numbers, and the tables of types and the first values are such as all are.
abbrev pub WellTypedLaw : Type 0
WellTypedLaw = (held : Folder) (name : List ℕ) (texts : List Text) (sources : List Source) → Gathers held name texts sources
    → (program : Program) → IsProgram sources program → All (λ (source : Source). IsSource source.tree) sources → All IsRoomy program.units → All IsHeld program.units
    → All (λ (unit : TypedUnit). IsKeptTable unit.types) program.units → IsWellTyped program
