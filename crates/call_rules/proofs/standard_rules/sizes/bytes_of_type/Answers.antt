use Rattle.std.proofs.Common.{arith, ◌≤◌, length, sym}
use Rattle.call_rules.proofs.standard_rules.SizeLaws.{no_size}
use Rattle.call_rules.proofs.standard_rules.sizes.bytes_of_type.Goals as goal

pub returns-else-ty-count : goal.returns-else-ty-count
returns-else-ty-count c =
    let types = c.args.types.now.types in
    let past : length types ≤ c.args.ty.0 = omega (arith, c.if-ty-count.false, c.count.ensures.value) in
    sym (no_size types c.args.ty past)
