use Rattle.overlay_manager.proofs.ClearLaws.{clears-told}
use Rattle.overlay_manager.proofs.ovr.clear_buffer.Goals as goal

pub returns-clause-clears : goal.returns-clause-clears
returns-clause-clears c = clears-told c.args.ovr.now c.args.machine.now c.send_out.new.machine c.send_out.result c.send_out.ensures.machine c.send_out.ensures.sound
