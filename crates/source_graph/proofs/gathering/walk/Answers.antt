use Rattle.std.proofs.Common.{◌≡◌, ◌∙◌, ◌∷◌, List, Option, IfSome, subst, arith, rules}
use Rattle.std.proofs.lemmas.Result.{err_from_is_err_and}
use Rattle.tp_outside.specs.Folder.{Folder}
use Rattle.source_graph.specs.declared.sources.Source.{Source}
use Rattle.source_graph.specs.Walk.{names_of, due, IsMet, Unless}
use Rattle.source_graph.proofs.AnswerLaws.{IsRefusedAt, on_met, on_refused}
use Rattle.source_graph.proofs.FolderLaws.{some_start, some_met, some_end}
use Rattle.source_graph.proofs.gathering.walk.Goals as goal

pub loop-next-init : goal.loop-next-init
loop-next-init g c = (search rules, search rules, search rules, search rules, some_start _ _ _ _ (search rules) (search rules) (search rules))

pub returns-clause-some : goal.returns-clause-some
returns-clause-some g c = rw c.into_vec.ensures (some_end _ _ _ _ c.loop-next.invariant.4 (search rules))

pub loop-next-preserved : goal.loop-next-preserved
loop-next-preserved g c =
    let before = c.loop-next.invariant in
    let known = g.F.Files.folder c.args.files.now in
    let texts = c.loop-next.texts in
    let sources = c.loop-next.sources.items in
    let wanted = c.loop-next.wanted.items in
    let next = c.in-Some.next in
    let others = c.next_due.new.wanted.items in
    let after = c.meet.new.texts in
    let more = c.meet.new.sources.items in
    let now = c.meet.new.wanted.items in
    let is : due (names_of sources) wanted ≡ next ∷ others = subst (λ (s : List Source). due (names_of s) wanted ≡ next ∷ others) c.as_slice.ensures.value c.in-Some.ensures in
    let met : IfSome known (λ held. IsMet held texts next sources others after more now) = subst (λ (k : Option Folder). IfSome k (λ held. IsMet held texts next sources others after more now)) before.1 c.in_ok-meet.ensures.told in (
      on_met known c.args.name.now texts after sources more wanted others now next before.0 is met,
      c.in_ok-meet.ensures.unchanged ∙ before.1,
      omega (arith, before.2, c.in_ok-meet.ensures.counted),
      c.in_ok-meet.ensures.few,
      some_met c.args.name.now texts after sources more wanted others now next before.4 is c.in_ok-meet.ensures.some,
    )

pub returns-in_err-meet-clause-told : goal.returns-in_err-meet-clause-told
returns-in_err-meet-clause-told g c =
    let before = c.loop-next.invariant in
    let known = g.F.Files.folder c.args.files.now in
    let texts = c.loop-next.texts in
    let sources = c.loop-next.sources.items in
    let wanted = c.loop-next.wanted.items in
    let next = c.in-Some.next in
    let others = c.next_due.new.wanted.items in
    let error = c.in_err-meet.field-0.0 in
    let is : due (names_of sources) wanted ≡ next ∷ others = subst (λ (s : List Source). due (names_of s) wanted ≡ next ∷ others) c.as_slice.ensures.value c.in-Some.ensures in
    let refused : IfSome known (λ held. Unless error (IsRefusedAt held error texts next)) = subst (λ (k : Option Folder). IfSome k (λ held. Unless error (IsRefusedAt held error texts next))) before.1 c.in_err-meet.ensures.told in
    let gives = err_from_is_err_and c.from_residual-in_err-meet.result c.from_residual-in_err-meet.ensures.1 in
    rw (gives.1, gives.2) (on_refused known c.args.name.now texts sources wanted others next error before.0 is refused)
