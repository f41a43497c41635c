-- What the units of a program suppose of one another is so.
use Rattle.std.specs.Prelude.{ℕ, All, List}
use Rattle.shared_types_agree.specs.tp_outside.Folder.{Folder}
use Rattle.shared_types_agree.specs.tp_lexer.declared.token.Text.{Text}
use Rattle.shared_types_agree.specs.source_graph.declared.sources.Source.{Source}
use Rattle.shared_types_agree.specs.source_graph.Walk.{Gathers}
use Rattle.shared_types_agree.specs.typed_tree.declared.units.Unit.{Unit as TypedUnit}
use Rattle.shared_types_agree.specs.typed_tree.declared.units.Program.{Program}
use Rattle.shared_types_agree.specs.store_typing.types.Agreement.{IsUnit}
use Rattle.shared_types_agree.specs.unit_references.Units.{HasSoundParts, IsSupported}
use Rattle.shared_types_agree.specs.methods.Below.{IsKeptTable, IsSource, IsRoomy, IsProgram}

-- Each unit of a program that sources give is well formed by what the units that it uses have in the program, where what the lexer gives is
-- in the sources, and not too much, 32 bits hold the units' numbers, and the units have sound parts.
abbrev pub SupportedLaw : Type 0
SupportedLaw = (held : Folder) (name : List ℕ) (texts : List Text) (sources : List Source) → Gathers held name texts sources
    → (program : Program) → IsProgram sources program → All (λ (source : Source). IsSource source.tree) sources → All IsRoomy program.units
    → All (λ (unit : TypedUnit). IsKeptTable unit.types) program.units → All HasSoundParts program.units
    → (unit : TypedUnit) → IsUnit program unit → IsSupported program unit
