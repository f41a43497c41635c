use Rattle.std.proofs.Common.{◌≡◌, ◌<◌, length, arith, ◌∙◌, sym}
use Rattle.std.proofs.lemmas.Grind.{same_number_lists}
use Rattle.cpu_8086.specs.Process.{bytes_at}
use Rattle.dos_runner.proofs.BytesAt.{length-bytes_at, get_or-bytes_at}
use Rattle.dos_runner.proofs.transfer.gather.Goals as goal

pub returns : goal.returns
returns c =
    let row = bytes_at c.args.machine.now.memory c.args.segment c.args.offset (length c.args.into.now) in
    let long : length row ≡ length c.args.into.now = length-bytes_at c.args.machine.now.memory c.args.segment c.args.offset (length c.args.into.now) in
    same_number_lists c.loop-byte.into row (omega (arith, long, c.loop-byte.auto.into))
    (λ k h.
    let in_row : k < length c.args.into.now = omega (arith, c.loop-byte.auto.into) in
    c.loop-byte.invariant.so_far k (omega (arith, c.loop-byte-test.false, c.loop-byte.auto.into))
    ∙ sym (get_or-bytes_at c.args.machine.now.memory c.args.segment c.args.offset (length c.args.into.now) k in_row c.ranges.offset.fits))
