use Rattle.std.proofs.Common.{◌∙◌, codes, map, sym}
use Rattle.std.specs.Prelude.{string_bytes}
use Rattle.command_line.proofs.LineLaws.{one_word, is_one, same_word, single_asks, single_unfit}
use Rattle.command_line.proofs.line.single_of.Goals as goal

pub returns-then-words-ne1-clause-help : goal.returns-then-words-ne1-clause-help
returns-then-words-ne1-clause-help c = λ is. let one = is_one string_bytes c.args.words.now (codes "--help") is in absurd (c.if-words-ne1.true one)

pub returns-then-words-ne1-clause-version : goal.returns-then-words-ne1-clause-version
returns-then-words-ne1-clause-version c = λ is. let one = is_one string_bytes c.args.words.now (codes "--version") is in absurd (c.if-words-ne1.true one)

pub returns-clause-found : goal.returns-clause-found
returns-clause-found c =
    let whole = one_word string_bytes c.args.words.now c.index-words-0.result c.as_str.result.now c.if-words-ne1.false c.index-words-0.is c.as_str.ensures.value in
    single_asks c.single.result (map string_bytes c.args.words.now) c.as_str.result.now whole c.single.ensures.found

pub returns-clause-help : goal.returns-clause-help
returns-clause-help c = λ is.
    let whole = one_word string_bytes c.args.words.now c.index-words-0.result c.as_str.result.now c.if-words-ne1.false c.index-words-0.is c.as_str.ensures.value in
    c.single.ensures.help (same_word c.as_str.result.now (codes "--help") (sym whole ∙ is))

pub returns-clause-version : goal.returns-clause-version
returns-clause-version c = λ is.
    let whole = one_word string_bytes c.args.words.now c.index-words-0.result c.as_str.result.now c.if-words-ne1.false c.index-words-0.is c.as_str.ensures.value in
    c.single.ensures.version (same_word c.as_str.result.now (codes "--version") (sym whole ∙ is))

pub returns-clause-not_fit : goal.returns-clause-not_fit
returns-clause-not_fit c = λ fits.
    let whole = one_word string_bytes c.args.words.now c.index-words-0.result c.as_str.result.now c.if-words-ne1.false c.index-words-0.is c.as_str.ensures.value in
    single_unfit c.single.result (map string_bytes c.args.words.now) c.as_str.result.now whole c.single.ensures.found fits
