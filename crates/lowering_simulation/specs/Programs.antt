-- What whole programs show, where each initialisation part is followed.
use Rattle.std.specs.Prelude.{◌≡◌, ℕ, ◌+◌, ◌*◌, ◌≤◌, All, List, ◌++◌, length, map, None}
use Rattle.common_values.specs.behaviour.Seen.{Stopped, Seen, Shows, IsUndefined}
use Rattle.typed_tree.specs.declared.units.Unit.{Unit as TypedUnit}
use Rattle.typed_tree.specs.declared.units.Program.{Program}
use Rattle.tp_meaning.specs.Outcomes as source
use Rattle.tp_meaning.specs.Meaning as meaning
use Rattle.tp_meaning.specs.Meaning.{mean}
use Rattle.flat_code.specs.Program.{Name, FlatProgram, Choice}
use Rattle.flat_code.specs.Calls as flat
use Rattle.flat_code.specs.Meaning.{run, start_state, started, initial_of, FlatSeen, flat_run}
use Rattle.lowering_simulation.specs.Meets.{SourceMemory, FlatMemory, source_memory, flat_memory, SameTexts, falls_through, Meets}

-- what holds of the memory of both sides between the starts of two units
abbrev pub Between : Type 1
Between = SourceMemory → FlatMemory → Type 0

-- The start of a unit is followed by that of the flat unit of its name.
abbrev pub PartFollows : ℕ → ℕ → Program → FlatProgram → Choice → Between → TypedUnit → Type 0
PartFollows few weight program target choice R unit =
    (s : source.State) (t : flat.State) → SameTexts s t → R (source_memory s) (flat_memory t) →
    Meets few weight s.turns (started target choice (run target choice) unit.name (initial_of (target.unit unit.name))) t falls_through (λ v m n. R m n)
    (meaning.started program (meaning.run program) unit unit.initial s)

abbrev pub HasNoStart : FlatProgram → Name → Type 0
HasNoStart target name = initial_of (target.unit name) ≡ None

-- Some units without a start, such as those of the runtime, and then the units of the sources in their order.
pub record PartsFollow (few weight : ℕ) (program : Program) (target : FlatProgram) (choice : Choice) (R : Between) : Type 0 where
  pub front : List Name
  pub silent : All (HasNoStart target) front
  pub order : target.order ≡ front ++ map (λ (unit : TypedUnit). unit.name) program.units
  pub parts : All (PartFollows few weight program target choice R) program.units

-- Each run of the source is shown by a run of flat code. Its work is at most so much for each turn of the source, for each byte that it read, and
-- for the start, but where the source came to an undefined act.
abbrev pub FollowsAtRate : ℕ → (ℕ → Seen) → (ℕ → FlatSeen) → Type 0
FollowsAtRate rate origin target =
    (turns : ℕ) → (m : ℕ) × Shows turns m (origin turns) (target m).seen × ((IsUndefined (origin turns).end → ⊥) → (target m).work ≤ rate * (turns + (target m).read + 1))

-- A program that comes to no step that a typed program never takes, and whose parts are followed from the start on.
abbrev pub ProgramFollows : Between → Type 0
ProgramFollows R =
    (few weight : ℕ) (program : Program) (target : FlatProgram) (choice : Choice) (input : List ℕ) →
    PartsFollow few weight program target choice R →
    R (source_memory (meaning.start_state program input 0)) (flat_memory (start_state target choice input 0)) →
    ((turns : ℕ) → (mean program input turns).end ≡ Stopped → ⊥) →
    FollowsAtRate (few + length program.units * weight) (mean program input) (flat_run target choice input)
