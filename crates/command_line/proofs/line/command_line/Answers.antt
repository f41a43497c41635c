use Rattle.std.proofs.Common.{◌≡◌, ◌∙◌, ap₂, codes, rules}
use Rattle.std.proofs.lemmas.Result.{IfOk-weaker}
use Rattle.clap.specs.Words.{rule_of, with_rule}
use Rattle.command_line.specs.Line.{word_rule, option_rule}
use Rattle.command_line.proofs.line.command_line.Goals as goal

pub returns : goal.returns
returns c =
    let command : rule_of c.word.result ≡ word_rule (codes "command") = search rules in
    let name : rule_of c.word-2.result ≡ word_rule (codes "name") = search rules in
    let buffer : rule_of c.option.result ≡ option_rule (codes "buffer") = search rules in
    let limit : rule_of c.option-2.result ≡ option_rule (codes "limit") = search rules in
    let retry : rule_of c.option-3.result ≡ option_rule (codes "retry") = search rules in
    let turns : rule_of c.option-4.result ≡ option_rule (codes "turns") = search rules in
    let one = c.in_ok-arg.ensures.shape c.word.ensures.own ∙ ap₂ with_rule c.bare.ensures command in
    let two = c.in_ok-arg-2.ensures.shape c.word-2.ensures.own ∙ ap₂ with_rule one name in
    let three = c.in_ok-arg-3.ensures.shape c.option.ensures.own ∙ ap₂ with_rule two buffer in
    let four = c.in_ok-arg-4.ensures.shape c.option-2.ensures.own ∙ ap₂ with_rule three limit in
    let five = c.in_ok-arg-5.ensures.shape c.option-3.ensures.own ∙ ap₂ with_rule four retry in
    IfOk-weaker c.arg-6.result _ _ (λ line adds. adds.shape c.option-4.ensures.own ∙ ap₂ with_rule five turns) c.arg-6.ensures
