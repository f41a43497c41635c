use Rattle.std.proofs.Common.{arith, sym, ◌≡◌, ◌≤◌, length, take, length-take-le, take_all}
use Rattle.type_layout.proofs.words.counted.Goals as goal

pub slice_bounds-result-end : goal.slice_bounds-result-end
slice_bounds-result-end c = sym (length-take-le 63 c.args.word.now (omega arith))

pub returns-then-word-le-NAME_LEN-clause-value : goal.returns-then-word-le-NAME_LEN-clause-value
returns-then-word-le-NAME_LEN-clause-value c = sym (take_all 63 c.args.word.now c.if-word-le-NAME_LEN.true)

pub returns-else-word-le-NAME_LEN-clause-short : goal.returns-else-word-le-NAME_LEN-clause-short
returns-else-word-le-NAME_LEN-clause-short c =
    let long : 63 ≤ length c.args.word.now = omega arith in
    let len : length (take 63 c.args.word.now) ≡ 63 = length-take-le 63 c.args.word.now long in
    omega arith
