use Rattle.std.proofs.Common.{◌≡◌, ◌∙◌, ap, ℕ, List, [], get_or, nat_eq, arith}
use Rattle.std.proofs.lemmas.Grind.{common_steps}
use Rattle.std.proofs.Math.Path.{fun_ext}
use Rattle.std.specs.List.{list_any}
use Rattle.std.specs.Cmp.Lexicographic.{pointwise}
use Rattle.std.proofs.lemmas.List.{take_all}
use Rattle.tp_lexer.specs.Acting.{has_name}
use Rattle.tp_lexer.proofs.Names.{one_more_name}
use Rattle.tp_lexer.proofs.lexer.set_of.Goals as goal

pub loop-name-preserved : goal.loop-name-preserved
loop-name-preserved c = λ other.
    let same : c.copied.result ≡ get_or c.args.names.now c.loop-name.name-index [] = grind (arith, common_steps) in
    one_more_name c.args.names.now c.loop-name.name-index c.copied.result other (has_name c.loop-name.set) (has_name c.define.new.defined) c.loop-name-test.true same c.in_ok-define.ensures
    (c.loop-name.invariant other)

pub returns : goal.returns
returns c = fun_ext (λ other.
    c.loop-name.invariant other ∙ ap (λ (names : List (List ℕ)). list_any (λ name. pointwise nat_eq name other) names) (take_all c.loop-name.name-index c.args.names.now c.loop-name-test.false))
