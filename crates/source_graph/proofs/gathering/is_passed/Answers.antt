use Rattle.std.proofs.Common.{◌≡◌, ◌∙◌, Bool, ◌||◌, subst}
use Rattle.source_graph.specs.Walk.{names_of, is_predeclared, is_passed}
use Rattle.source_graph.proofs.WalkLaws.{passed_by}
use Rattle.source_graph.proofs.gathering.is_passed.Goals as goal

pub returns-then-is_met : goal.returns-then-is_met
returns-then-is_met c =
    let wanted = c.args.wanted.now in
    let sources = c.args.sources.now in
    c.if-is_met.true
    ∙ subst (λ (met : Bool). (met || is_predeclared wanted.place wanted.name) ≡ is_passed (names_of sources) wanted) c.if-is_met.true (passed_by wanted sources c.is_met.result c.is_met.ensures)

pub returns-else-is_met : goal.returns-else-is_met
returns-else-is_met c =
    let wanted = c.args.wanted.now in
    let sources = c.args.sources.now in
    c.is_predeclared.ensures
    ∙ subst (λ (met : Bool). (met || is_predeclared wanted.place wanted.name) ≡ is_passed (names_of sources) wanted) c.if-is_met.false (passed_by wanted sources c.is_met.result c.is_met.ensures)
