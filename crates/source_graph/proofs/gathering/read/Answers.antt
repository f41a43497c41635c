use Rattle.std.proofs.Common.{Option, IfSome, subst, rules}
use Rattle.tp_outside.specs.Folder.{Folder}
use Rattle.source_graph.specs.Files.{ComesTo}
use Rattle.source_graph.specs.declared.sources.Source.{Source}
use Rattle.source_graph.proofs.AnswerLaws.{misspelled}
use Rattle.source_graph.proofs.FolderLaws.{some_read}
use Rattle.source_graph.proofs.gathering.read.Goals as goal

pub returns-clause-told : goal.returns-clause-told
returns-clause-told g c =
    let known = g.F.Files.folder c.args.files.now in
    let main = c.in_ok-text.text in
    let first = c.open.new.texts in
    let after = c.tokens_of.new.texts in
    let tokens = c.in_ok-tokens.tokens in
    let comes : IfSome known (λ held. ComesTo held main first after tokens) = subst (λ (k : Option Folder). IfSome k (λ held. ComesTo held main first after tokens)) c.in_ok-text.ensures.unchanged c.in_ok-tokens.ensures.told in
    misspelled known c.args.texts.now first after c.args.wanted.now main tokens c.as_slice-list.result.now c.in-Err.fault c.fault_refusal.result
    c.in_ok-text.ensures.told comes c.as_slice-list.ensures c.in-Err.ensures.fault c.in-Err.ensures.only c.fault_refusal.ensures.exact

pub returns-in-Ok-clause-some : goal.returns-in-Ok-clause-some
returns-in-Ok-clause-some g c =
    let source : Source = record { name = c.copied.result; text = c.in_ok-text.text; says = c.in_ok-says.says; tree = c.in-Ok.tree } in
    some_read c.args.texts.now c.open.new.texts c.tokens_of.new.texts c.args.wanted.now c.in_ok-tokens.tokens c.as_slice-list.result.now source
    c.in_ok-text.ensures.some c.in_ok-tokens.ensures.some c.as_slice-list.ensures (search rules) (search rules) c.in-Ok.ensures.found
