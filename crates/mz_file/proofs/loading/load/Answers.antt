use Rattle.std.proofs.Common.{ap, ◌∙◌, List, ℕ}
use Rattle.cpu_8086.specs.State.{State}
use Rattle.mz_file.specs.Load.{loaded_segment, start_registers}
use Rattle.mz_file.proofs.LoadLaws.{held_is_loaded}
use Rattle.mz_file.proofs.loading.load.Goals as goal

pub returns-clause-loaded : goal.returns-clause-loaded
returns-clause-loaded c =
    let exe = c.args.exe.now in
    let state : List ℕ → State = λ memory. record { registers = start_registers exe; cs = loaded_segment exe.entry.segment; memory = memory } in
    c.set_registers.ensures ∙ ap state (held_is_loaded exe c.relocate_all.new.machine.memory c.relocate_all.ensures)
