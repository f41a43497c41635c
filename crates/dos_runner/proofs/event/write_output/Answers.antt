use Rattle.std.proofs.Common.{◌≡◌, ◌<◌, length, refl, arith}
use Rattle.std.specs.Prelude.{false}
use Rattle.cpu_8086.specs.Process.{answered, written_bytes}
use Rattle.dos_runner.specs.Outside.{Outside}
use Rattle.dos_runner.specs.Run.{IsService}
use Rattle.dos_runner.proofs.Answered.{outside, goes_writing, fails_writing}
use Rattle.dos_runner.proofs.BytesAt.{length-bytes_at}
use Rattle.dos_runner.proofs.Services.{writes_output}
use Rattle.dos_runner.proofs.event.write_output.Goals as goal

pub returns-in-Ok-clause-served : goal.returns-in-Ok-clause-served
returns-in-Ok-clause-served g c before over rest =
    let t = c.args.machine.now in
    let o : Outside = outside rest.input (g.K.Sink.contents c.args.output.now) rest.errors rest.input_faults (g.K.Sink.faults c.args.output.now) rest.errors_faults in
    let o' : Outside = outside rest.input (g.K.Sink.contents c.write_to.new.sink) rest.errors rest.input_faults (g.K.Sink.faults c.write_to.new.sink) rest.errors_faults in
    goes_writing (IsService before t 33 over) c.write_to.new.machine (answered t t.registers.cx false) (written_bytes t) over o o' c.in-Ok.ensures.answered
    (writes_output before t over c.requires.function c.requires.handle) refl c.in-Ok.ensures.written refl

pub returns-in-Err-clause-served : goal.returns-in-Err-clause-served
returns-in-Err-clause-served g c before over rest =
    let t = c.args.machine.now in
    let o : Outside = outside rest.input (g.K.Sink.contents c.args.output.now) rest.errors rest.input_faults (g.K.Sink.faults c.args.output.now) rest.errors_faults in
    let o' : Outside = outside rest.input (g.K.Sink.contents c.write_to.new.sink) rest.errors rest.input_faults (g.K.Sink.faults c.write_to.new.sink) rest.errors_faults in
    let long : length (written_bytes t) ≡ t.registers.cx = length-bytes_at t.memory t.registers.ds t.registers.dx t.registers.cx in
    let some : 0 < length (written_bytes t) = omega (arith, long, c.in-Err.ensures.some) in
    fails_writing (IsService before t 33 over) c.write_to.new.machine (answered t t.registers.cx false) (written_bytes t) over o o'
    (writes_output before t over c.requires.function c.requires.handle) refl some c.write_to.ensures.prefix refl c.in-Err.ensures.failed
