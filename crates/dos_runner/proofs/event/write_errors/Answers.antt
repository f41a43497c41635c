use Rattle.std.proofs.Common.{◌≡◌, ◌<◌, length, refl, arith}
use Rattle.std.specs.Prelude.{false}
use Rattle.cpu_8086.specs.Process.{answered, written_bytes}
use Rattle.dos_runner.specs.Outside.{Outside}
use Rattle.dos_runner.specs.Run.{IsService}
use Rattle.dos_runner.proofs.Answered.{outside, goes_telling, fails_telling}
use Rattle.dos_runner.proofs.BytesAt.{length-bytes_at}
use Rattle.dos_runner.proofs.Services.{writes_errors}
use Rattle.dos_runner.proofs.event.write_errors.Goals as goal

pub returns-in-Ok-clause-served : goal.returns-in-Ok-clause-served
returns-in-Ok-clause-served g c before over rest =
    let t = c.args.machine.now in
    let o : Outside = outside rest.input rest.output (g.E.Sink.contents c.args.errors.now) rest.input_faults rest.output_faults (g.E.Sink.faults c.args.errors.now) in
    let o' : Outside = outside rest.input rest.output (g.E.Sink.contents c.write_to.new.sink) rest.input_faults rest.output_faults (g.E.Sink.faults c.write_to.new.sink) in
    goes_telling (IsService before t 33 over) c.write_to.new.machine (answered t t.registers.cx false) (written_bytes t) over o o' c.in-Ok.ensures.answered
    (writes_errors before t over c.requires.function c.requires.handle) refl refl c.in-Ok.ensures.written

pub returns-in-Err-clause-served : goal.returns-in-Err-clause-served
returns-in-Err-clause-served g c before over rest =
    let t = c.args.machine.now in
    let o : Outside = outside rest.input rest.output (g.E.Sink.contents c.args.errors.now) rest.input_faults rest.output_faults (g.E.Sink.faults c.args.errors.now) in
    let o' : Outside = outside rest.input rest.output (g.E.Sink.contents c.write_to.new.sink) rest.input_faults rest.output_faults (g.E.Sink.faults c.write_to.new.sink) in
    let long : length (written_bytes t) ≡ t.registers.cx = length-bytes_at t.memory t.registers.ds t.registers.dx t.registers.cx in
    let some : 0 < length (written_bytes t) = omega (arith, long, c.in-Err.ensures.some) in
    fails_telling (IsService before t 33 over) c.write_to.new.machine (answered t t.registers.cx false) (written_bytes t) over o o'
    (writes_errors before t over c.requires.function c.requires.handle) refl refl some c.write_to.ensures.prefix c.in-Err.ensures.failed
