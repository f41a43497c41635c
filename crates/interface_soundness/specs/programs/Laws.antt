-- What follows for the sources of every program.
use Rattle.std.specs.Prelude.{ℕ, List}
use Rattle.front_end.specs.tp_outside.Folder.{Folder}
use Rattle.front_end.specs.tp_lexer.declared.token.Text.{Text}
use Rattle.front_end.specs.typed_tree.declared.units.Program.{Program}
use Rattle.front_end.specs.source_graph.declared.sources.Source.{Source}
use Rattle.front_end.specs.source_graph.Walk.{Gathers}
use Rattle.address_independence.specs.congruence.Laws.{IsSame}
use Rattle.front_end.specs.declared.outcomes.outcome.Outcome.{Outcome}
use Rattle.front_end.specs.declared.outcomes.outcome.Outcome.TheVariants as outcome
use Rattle.front_end.specs.declared.outcomes.refusal.Refusal.TheVariants as refusal
use Rattle.front_end.specs.Typed.{IsProgram}
use Rattle.front_end.specs.Untyped.{AreUntyped}

-- Sources are one program at most.
abbrev pub OneProgram : Type 0
OneProgram = (held : Folder) (name : List ℕ) (texts : List Text) (sources : List Source) → Gathers held name texts sources
    → (one other : Program) → IsProgram sources one → IsProgram sources other → IsSame one other

-- what is told of no rule: out of memory, and interfaces that do not fit
abbrev pub IsFree : Outcome → Type 0
IsFree outcome.NoMemory = Unit {0}
IsFree (outcome.Refused (refusal.VersionMismatch unit import)) = Unit {0}
IsFree other = ⊥

-- Where sources are a program, no rule is told of.
abbrev pub IsComplete : Type 0
IsComplete = (held : Folder) (name : List ℕ) (texts : List Text) (sources : List Source) → Gathers held name texts sources
    → (program : Program) → IsProgram sources program → (result : Outcome) → AreUntyped texts sources result → IsFree result

-- All that sources use was gathered with them, so no file is missing.
abbrev pub NoneIsMissing : Type 0
NoneIsMissing = (held : Folder) (name : List ℕ) (texts : List Text) (sources : List Source) → Gathers held name texts sources
    → (file : List ℕ) → AreUntyped texts sources (outcome.Refused (refusal.MissingFile file)) → ⊥
