-- What `mean` does before its last line.
use Rattle.std.specs.Prelude.{◌≡◌, ◌⊎◌, ℕ, List, Option, unwrap_or, IfSome}
use Rattle.tp_outside.specs.Faults.{HasRisen}
use Rattle.dos_runner.specs.Outside.{Outside}
use Rattle.typed_tree.specs.declared.units.Program.{Program}
use Rattle.front_end.specs.declared.outcomes.outcome.Outcome.{Outcome}
use Rattle.front_end.specs.declared.outcomes.outcome.Outcome.TheVariants as outcome
use Rattle.commands.specs.mean_program.Shown.{Sinks, streams, Shows}
use Rattle.front_end.specs.Typed.{IsProgramIn}
use Rattle.front_end.specs.Untyped.{IsDeclining}
use Rattle.checked_front_end.specs.Formed.{AreFormed}
use Rattle.checked_front_end.specs.interfaces_consistent.determinism.Folder.{FoundNone}
use Rattle.commands.specs.World.{World, IsUntouched}

-- how many turns a program may take
abbrev pub turns_of : Option ℕ → ℕ
turns_of turns = unwrap_or turns 1000000

abbrev pub sinks_of : Outside → Sinks
sinks_of o = streams o.output o.errors o.output_faults o.errors_faults

-- No program of this name was found.
pub record GaveNoProgram (result : Outcome) (name : List ℕ) (old new : World) : Type 0 where
  pub reason : IfSome old.folder (λ held. FoundNone held name result)
  pub declines : IsDeclining result
  pub counted : result ≡ outcome.FilesFault → HasRisen old.files_faults new.files_faults
  pub untouched : IsUntouched old new

-- The meaning of one, of well-formed units, on the whole input and within so many turns, was shown, or it was not, for want of an input or of
-- memory, or by a fault.
pub record ShowedMeaning (result : Outcome) (name : List ℕ) (turns : Option ℕ) (old new : World) : Type 0 where
  pub program : Program
  pub is : IfSome old.folder (λ held. IsProgramIn held name program)
  pub formed : AreFormed program
  pub shows : Shows program (turns_of turns) result old.streams.input new.streams.input old.streams.input_faults new.streams.input_faults (sinks_of old.streams) (sinks_of new.streams)
  pub folder : new.folder ≡ old.folder

abbrev pub MeanDid : Outcome → List ℕ → Option ℕ → World → World → Type 0
MeanDid result name turns old new = GaveNoProgram result name old new ⊎ ShowedMeaning result name turns old new
