-- Object types of programs have methods as their declarations make them.
use Rattle.std.specs.Prelude.{◌≡◌, ℕ, All, List, Some, slice_get}
use Rattle.unit_references.specs.type_layout.declared.definitions.TypeDef.{TypeDef}
use Rattle.interfaces_consistent.specs.tp_outside.Folder.{Folder}
use Rattle.units_well_formed.specs.tp_lexer.declared.token.Text.{Text}
use Rattle.interfaces_consistent.specs.source_graph.declared.sources.Source.{Source}
use Rattle.interfaces_consistent.specs.source_graph.Walk.{Gathers}
use Rattle.unit_references.specs.typed_tree.declared.units.Unit.{Unit as TypedUnit}
use Rattle.unit_references.specs.typed_tree.declared.units.Program.{Program}
use Rattle.shared_types_agree.specs.programs.Below.{IsProgram}
use Rattle.shared_types_agree.specs.programs.Methods.{HasDeclaredMethods}

-- each type of a table: no two of its methods have one name, and an object type is dynamic where its methods say so
abbrev pub HaveDeclaredMethods : List TypeDef → Type 0
HaveDeclaredMethods types = (number : ℕ) (one : TypeDef) → slice_get types number ≡ Some one → HasDeclaredMethods one

-- In the table of each unit of a program they do, whatever unit declares a type.
abbrev pub MethodsLaw : Type 0
MethodsLaw = (held : Folder) (name : List ℕ) (texts : List Text) (sources : List Source) → Gathers held name texts sources
    → (program : Program) → IsProgram sources program → All (λ (unit : TypedUnit). HaveDeclaredMethods unit.types.types) program.units
