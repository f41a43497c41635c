use Rattle.std.proofs.Common.{arith, ◌≡◌, ◌+◌, ◌*◌, ◌∙◌}
use Rattle.common_values.specs.Sets.{contains, weight_if, low_bits}
use Rattle.common_values.proofs.SetLemmas.{bits-next, bits-none, bits-fit}
use Rattle.common_values.proofs.sets.set_byte.Goals as goal

pub loop-i-init : goal.loop-i-init
loop-i-init c = bits-none _ _

pub overflow_add-bits : goal.overflow_add-bits
overflow_add-bits c =
    let fit = bits-fit c.args.set.now c.args.byte c.loop-i.i c.loop-i-test.true in
    let e : c.loop-i.bits + c.weight_if-bits.result ≡ low_bits c.args.set.now c.args.byte c.loop-i.i + weight_if (contains c.args.set.now (8 * c.args.byte + c.loop-i.i)) c.loop-i.i = cc (c.loop-i.invariant, c.weight_if-bits.ensures, c.contains.ensures) in
    omega arith

pub loop-i-preserved : goal.loop-i-preserved
loop-i-preserved c =
    let e : c.loop-i.bits + c.weight_if-bits.result ≡ low_bits c.args.set.now c.args.byte c.loop-i.i + weight_if (contains c.args.set.now (8 * c.args.byte + c.loop-i.i)) c.loop-i.i = cc (c.loop-i.invariant, c.weight_if-bits.ensures, c.contains.ensures) in
    e ∙ bits-next c.args.set.now c.args.byte c.loop-i.i
