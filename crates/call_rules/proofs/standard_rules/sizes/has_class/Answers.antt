use Rattle.std.proofs.Common.{arith, ◌≤◌, length, sym}
use Rattle.call_rules.proofs.standard_rules.SizeLaws.{no_class}
use Rattle.call_rules.proofs.standard_rules.sizes.has_class.Goals as goal

pub returns-else-ty-count : goal.returns-else-ty-count
returns-else-ty-count c =
    let types = c.args.types.now.types in
    let past : length types ≤ c.args.ty.0 = omega (arith, c.if-ty-count.false, c.count.ensures.value) in
    sym (no_class types c.args.ty past)
