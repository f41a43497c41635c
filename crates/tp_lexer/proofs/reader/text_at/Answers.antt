use Rattle.std.proofs.Common.{ℕ, eqb, [], sym, ap, ◌∙◌}
use Rattle.std.specs.List.{before_first}
use Rattle.std.proofs.lemmas.List.{get_or-map}
use Rattle.tp_lexer.specs.declared.token.Text.{Text}
use Rattle.tp_lexer.proofs.reader.text_at.Goals as goal

pub returns : goal.returns
returns c = c.before_end.ensures.exact ∙ ap (before_first (λ (b : ℕ). eqb b 26)) (c.as_slice.ensures ∙ sym (get_or-map (λ (text : Text). text.bytes) c.args.texts.now c.args.number c.index-texts-number.result [] c.requires.number))
