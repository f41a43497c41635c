use Rattle.std.proofs.Common.{◌≡◌, ap, ◌∙◌}
use Rattle.pascal_grammar.specs.declared.kind.Kind.TheVariants as k
use Rattle.pascal_grammar.specs.lexeme_list.Words.{reserved_kinds, kind_at}
use Rattle.pascal_grammar.proofs.lexeme_list.Indexes.{same_index}
use Rattle.pascal_grammar.proofs.lexeme_list.word.reserved_kind.Goals as goal

pub returns-in-Some : goal.returns-in-Some
returns-in-Some c = same_index reserved_kinds c.in-Some.place _ k.Stray c.in-Some.ensures.within ∙ ap kind_at c.in-Some.ensures.value
