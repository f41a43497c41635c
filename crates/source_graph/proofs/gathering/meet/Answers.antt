use Rattle.std.proofs.lemmas.Result.{err_from_is_err_and}
use Rattle.source_graph.proofs.AnswerLaws.{is_met}
use Rattle.source_graph.proofs.FolderLaws.{some_is_met}
use Rattle.source_graph.proofs.Told.{told_all}
use Rattle.source_graph.proofs.gathering.meet.Goals as goal

pub returns-clause-told : goal.returns-clause-told
returns-clause-told g c =
    is_met (g.F.Files.folder c.args.files.now) c.args.texts.now c.read.new.texts c.args.next.now c.args.sources.now.items c.push.new.self.items c.args.wanted.now.items c.want.new.wanted.items c.uses_of.result.now c.in_ok-source.source
    c.in_ok-source.ensures.told c.in_ok-push.ensures.items c.uses_of.ensures c.in_ok-want.ensures

pub returns-clause-some : goal.returns-clause-some
returns-clause-some g c =
    some_is_met c.args.texts.now c.read.new.texts c.args.next.now c.args.sources.now.items c.push.new.self.items c.args.wanted.now.items c.want.new.wanted.items c.uses_of.result.now c.in_ok-source.source
    c.in_ok-source.ensures.some c.in_ok-push.ensures.items c.uses_of.ensures c.in_ok-want.ensures

pub returns-in_err-want-clause-told : goal.returns-in_err-want-clause-told
returns-in_err-want-clause-told g c =
    let is = err_from_is_err_and c.from_residual-in_err-want.result c.from_residual-in_err-want.ensures.1 in
    rw (is.1, is.2) (told_all (g.F.Files.folder c.args.files.now) (λ held. Unit {0}) (λ held. tt))

pub returns-in_err-push-clause-told : goal.returns-in_err-push-clause-told
returns-in_err-push-clause-told g c =
    let is = err_from_is_err_and c.from_residual-in_err-push.result c.from_residual-in_err-push.ensures.1 in
    rw (is.1, is.2) (told_all (g.F.Files.folder c.args.files.now) (λ held. Unit {0}) (λ held. tt))
