-- The tasks of a typed program, by the turns that are left.
use Rattle.std.proofs.Common.{ℕ, zero, suc}
use Rattle.program_typing.specs.typed_tree.declared.units.Program.{Program}
use Rattle.program_typing.specs.tp_meaning.Meaning.{run_by, run}
use Rattle.program_typing.specs.programs.WellTyped.{IsWellTyped}
use Rattle.program_typing.specs.programs.Tasks.{AreSound}
use Rattle.type_soundness.proofs.activations.Whole.{sound_calls}
use Rattle.type_soundness.proofs.statements.Statements.{task_ends}
use Rattle.type_soundness.proofs.starts.Started.{mean_sound}
use Rattle.program_typing.proofs.programs.Counting.{can_be_met}
use Rattle.program_typing.specs.programs.Example.{counting_program}
use Rattle.type_soundness.specs.programs.Laws.{TypedProgramsNeverStop, CountingNeverStops}

-- with fuel, which may run out
fuel_sound : (program : Program) → IsWellTyped program → (fuel : ℕ) → AreSound program (run_by program fuel)
fuel_sound program well zero made f number withs one s k is typed = tt
fuel_sound program well (suc fuel) made f number withs one s k is typed =
    let below = fuel_sound program well fuel in
    task_ends program well (run_by program fuel) (sound_calls program (run_by program fuel) well below) below made f number withs one s k is typed

run_sound : (program : Program) → IsWellTyped program → AreSound program (run program)
unfolding run
run_sound program well made f number withs one s k is typed = fuel_sound program well (suc s.turns) made f number withs one s k is typed

pub never_stop : TypedProgramsNeverStop
never_stop program well = mean_sound program well (run_sound program well)

pub counting_never_stops : CountingNeverStops
counting_never_stops b = never_stop (counting_program b) (can_be_met b)
