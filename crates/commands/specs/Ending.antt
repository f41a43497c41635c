-- From the end of a run to the outcome of a command.
use Rattle.dos_runner.specs.declared.runner.RunEnd.{RunEnd}
use Rattle.dos_runner.specs.declared.runner.RunEnd.TheVariants as ends
use Rattle.front_end.specs.declared.outcomes.outcome.Outcome.{Outcome}
use Rattle.front_end.specs.declared.outcomes.outcome.Outcome.TheVariants as outcome

-- The outcome of a run that ended so.
abbrev pub outcome_of : RunEnd → Outcome
outcome_of (ends.Ended code) = outcome.Program code
outcome_of (ends.Limit taken) = outcome.InstructionLimit taken
outcome_of (ends.Stopped cs ip why) = outcome.Stopped cs ip why
outcome_of ends.InputFault = outcome.InputFault
outcome_of ends.OutputFault = outcome.OutputFault
outcome_of ends.ErrorsFault = outcome.ErrorsFault
outcome_of ends.FilesFault = outcome.FilesFault
