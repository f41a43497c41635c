use Rattle.std.proofs.Common.{◌≡◌, ◌∙◌, sym, ap, ℕ, Bool, nat_eq, drop, arith}
use Rattle.std.specs.List.{position_from}
use Rattle.std.specs.Cmp.Lexicographic.{pointwise}
use Rattle.std.proofs.lemmas.Iterator.Adapters.{position_from-zero}
use Rattle.tp_lexer.specs.declared.token.Text.{Text}
use Rattle.tp_lexer.proofs.numbers.numbers_of.Goals as goal

pub returns : goal.returns
returns c = λ name.
    let test : Text → Bool = λ text. pointwise nat_eq text.name name in
    let none : c.loop-number.number ≡ 0 = omega arith in
    c.loop-number.invariant.numbers name ∙ ap (λ (i : ℕ). position_from test i (drop i c.args.texts.now)) none ∙ sym (position_from-zero test c.args.texts.now)
