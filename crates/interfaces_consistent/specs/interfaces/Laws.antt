-- What follows for the interfaces of the sources of every program.
use Rattle.std.specs.Prelude.{◌≡◌, ℕ, true, List}
use Rattle.interface_soundness.specs.tp_outside.Folder.{Folder}
use Rattle.interface_soundness.specs.tp_lexer.declared.token.Text.{Text}
use Rattle.interface_soundness.specs.typed_tree.declared.units.Program.{Program}
use Rattle.interface_soundness.specs.source_graph.declared.sources.Source.{Source}
use Rattle.interface_soundness.specs.source_graph.Walk.{Gathers}
use Rattle.interface_soundness.specs.scopes.Predeclared.{first}
use Rattle.interface_soundness.specs.unit_interface.declared.interfaces.Interface.{Interface}
use Rattle.interface_soundness.specs.unit_interface.Resolve.{resolved}
use Rattle.interface_soundness.specs.unit_interface.Fitting.{uses_fit}
use Rattle.interface_soundness.specs.front_end.declared.outcomes.outcome.Outcome.{Outcome}
use Rattle.interface_soundness.specs.front_end.declared.outcomes.outcome.Outcome.TheVariants as outcome
use Rattle.interface_soundness.specs.front_end.declared.outcomes.refusal.Refusal.TheVariants as refusal
use Rattle.interface_soundness.specs.front_end.Typed.{IsProgram}
use Rattle.interface_soundness.specs.front_end.Untyped.{AreUntyped, IsNoProgram}
use Rattle.interface_soundness.specs.programs.Closing.{AreInOrder}
use Rattle.interface_soundness.specs.imported_types_agree.consistent_types.Consistency.{AreAtHome}
use Rattle.interface_soundness.specs.imported_types_agree.compatible_types.Fits.{IsConsistentScope, IsConsistentUse}

-- Of sources that were gathered, none of which lies on a circle of uses in interface parts, and of interfaces that they show:
pub record AreTold : Type 0 where
  -- what a unit shows tells of the types of others what these tell
  pub uses : (sources : List Source) (have : List Interface) → AreInOrder sources have → (name : List ℕ) → IsConsistentUse have name
  -- so does the scope of a source that uses them, and each of its types stands where it is declared
  pub scopes : (sources : List Source) (have : List Interface) → AreInOrder sources have → (name : List ℕ) (names : List (List ℕ)) → IsConsistentScope have (resolved have name names)
  pub home : (sources : List Source) (have : List Interface) → AreInOrder sources have → (name : List ℕ) (names : List (List ℕ)) → AreAtHome have (resolved have name names).types
  -- so the types of used units fit, each unit's those of the units before it
  pub fit : (sources : List Source) (have : List Interface) → AreInOrder sources have → (name : List ℕ) (names : List (List ℕ)) → uses_fit have (first name) names ≡ true

-- Interfaces of sources that were gathered fit, so none is told of as one that doesn't.
abbrev pub NoneMisfits : Type 0
NoneMisfits = (held : Folder) (name : List ℕ) (texts : List Text) (sources : List Source) → Gathers held name texts sources
    → (unit import : List ℕ) → AreUntyped texts sources (outcome.Refused (refusal.VersionMismatch unit import)) → ⊥

-- Where sources are a program, nothing is told of in its place but out of memory.
abbrev pub OnlyMemory : Type 0
OnlyMemory = (held : Folder) (name : List ℕ) (texts : List Text) (sources : List Source) → Gathers held name texts sources
    → (program : Program) → IsProgram sources program → (result : Outcome) → AreUntyped texts sources result → result ≡ outcome.NoMemory

-- So it is whatever the files of a folder are: none is refused for interfaces that don't fit.
abbrev pub NeverMismatched : Type 0
NeverMismatched = (held : Folder) (name : List ℕ) (unit import : List ℕ) → IsNoProgram held name (outcome.Refused (refusal.VersionMismatch unit import)) → ⊥
