-- What is shown of a program's meaning.
use Rattle.std.specs.Prelude.{◌≡◌, ◌⊎◌, ℕ, List, Option}
use Rattle.std.specs.Io.KnownBytes.{append_known}
use Rattle.tp_outside.specs.Faults.{HasRisen}
use Rattle.tp_outside.specs.Streams.{TakesPrefix}
use Rattle.common_values.specs.behaviour.Seen.{Seen, Standing, Ended, Going, Undefined, Stopped}
use Rattle.typed_tree.specs.declared.units.Program.{Program}
use Rattle.tp_meaning.specs.Meaning.{mean}
use Rattle.tp_outside.specs.whole_input.Input.{IsWhole, HasMore}
use Rattle.front_end.specs.declared.outcomes.outcome.Outcome.{Outcome}
use Rattle.front_end.specs.declared.outcomes.outcome.Outcome.TheVariants as outcome
use Rattle.front_end.specs.declared.outcomes.refusal.Refusal.TheVariants as refusal
use Rattle.front_end.specs.declared.outcomes.refusal.What.TheVariants as what

-- The outcome is how the meaning stands: it has ended, goes on, or has come to an act that the language leaves open.
abbrev pub Stands : Standing → Outcome → Type 0
Stands (Ended code) result = result ≡ outcome.Program code
Stands Going result = result ≡ outcome.TurnLimit
Stands (Undefined act) result = result ≡ outcome.Undefined act
Stands Stopped result = ⊥

-- what the two sinks took, where they tell it, and their counts of faults
pub record Sinks : Type 0 where
  pub output : Option (List ℕ)
  pub errors : Option (List ℕ)
  pub output_faults : ℕ
  pub errors_faults : ℕ

abbrev pub streams : Option (List ℕ) → Option (List ℕ) → ℕ → ℕ → Sinks
streams output errors output_faults errors_faults = record { output = output; errors = errors; output_faults = output_faults; errors_faults = errors_faults }

-- Both took all that is written, and the outcome is how it stands.
pub record WritesAll (seen : Seen) (result : Outcome) (old new : Sinks) : Type 0 where
  pub output : new.output ≡ append_known old.output seen.out
  pub errors : new.errors ≡ append_known old.errors seen.err
  pub stands : Stands seen.end result

-- The output took the first of it and failed, and the errors took nothing.
pub record StopsAtOutput (seen : Seen) (result : Outcome) (old new : Sinks) : Type 0 where
  pub output : TakesPrefix old.output new.output seen.out
  pub errors : new.errors ≡ old.errors
  pub is : result ≡ outcome.OutputFault
  pub rose : HasRisen old.output_faults new.output_faults

-- The output took all, and the errors took the first of what is theirs and failed.
pub record StopsAtErrors (seen : Seen) (result : Outcome) (old new : Sinks) : Type 0 where
  pub output : new.output ≡ append_known old.output seen.out
  pub errors : TakesPrefix old.errors new.errors seen.err
  pub is : result ≡ outcome.ErrorsFault
  pub rose : HasRisen old.errors_faults new.errors_faults

abbrev pub Writes : Seen → Outcome → Sinks → Sinks → Type 0
Writes seen result old new = WritesAll seen result old new ⊎ (StopsAtOutput seen result old new ⊎ StopsAtErrors seen result old new)

-- Why the input was not read as a whole.
abbrev pub IsUnread : Option (List ℕ) → Option (List ℕ) → ℕ → ℕ → Outcome → Type 0
IsUnread old new old_faults new_faults (outcome.Refused (refusal.TooLarge what.Input number)) = HasMore old new number
IsUnread old new old_faults new_faults outcome.InputFault = HasRisen old_faults new_faults
IsUnread old new old_faults new_faults outcome.NoMemory = Unit {0}
IsUnread old new old_faults new_faults other = ⊥

-- The input was read to its end, and what the program means on it was written.
pub record Means (program : Program) (turns : ℕ) (result : Outcome) (input input' : Option (List ℕ)) (old new : Sinks) : Type 0 where
  pub bytes : List ℕ
  pub whole : IsWhole input input' bytes
  pub writes : Writes (mean program bytes turns) result old new

-- Nothing was written, since the input was not read, or there was no memory.
pub record Declines (result : Outcome) (input input' : Option (List ℕ)) (faults faults' : ℕ) (old new : Sinks) : Type 0 where
  pub cause : IsUnread input input' faults faults' result
  pub output : new.output ≡ old.output
  pub errors : new.errors ≡ old.errors

abbrev pub Shows : Program → ℕ → Outcome → Option (List ℕ) → Option (List ℕ) → ℕ → ℕ → Sinks → Sinks → Type 0
Shows program turns result input input' faults faults' old new =
    Means program turns result input input' old new ⊎ Declines result input input' faults faults' old new
