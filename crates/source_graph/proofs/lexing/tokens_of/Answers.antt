use Rattle.std.proofs.Common.{◌∙◌, ℕ, List, Option, IfSome, refl, subst, arith, rules}
use Rattle.std.proofs.lemmas.Result.{err_from_is_err_and}
use Rattle.tp_outside.specs.Folder.{Folder}
use Rattle.tp_lexer.specs.Acting as lexer
use Rattle.tp_lexer.specs.declared.token.Text.{Text}
use Rattle.tp_lexer.specs.Tokens.{Tokens, Breaks}
use Rattle.source_graph.specs.Texts.{defined}
use Rattle.source_graph.specs.Files.{IsMended, IsCause}
use Rattle.source_graph.specs.Walk.{Unless}
use Rattle.source_graph.proofs.AnswerLaws.{breaks_at, mended, fails}
use Rattle.source_graph.proofs.FolderLaws.{none_included, some_mended, some_comes}
use Rattle.source_graph.proofs.lexing.tokens_of.Goals as goal

pub includes-init : goal.includes-init
includes-init g c = (search rules, refl, omega arith, omega arith, none_included c.args.main c.args.texts.now)

pub returns-in-Ok-clause-some : goal.returns-in-Ok-clause-some
returns-in-Ok-clause-some g c =
    let now = c.includes.texts in
    let list = c.in-Ok.list in
    let seen : Tokens now c.args.main c.defined-defined.result list = subst (λ (t : List Text). Tokens t c.args.main c.defined-defined.result list) c.as_slice.ensures.texts c.in-Ok.ensures.found in
    let lexed : Tokens now c.args.main defined list = subst (λ (names : List (List ℕ)). Tokens now c.args.main names list) c.defined-defined.ensures seen in
    some_comes c.args.main c.args.texts.now now list c.includes.invariant.4 lexed

pub includes-preserved : goal.includes-preserved
includes-preserved g c =
    let before = c.includes.invariant in
    let rule = c.in-Err.rule in
    let now = c.includes.texts in
    let more = c.mend.new.texts in
    let known = g.F.Files.folder c.args.files.now in
    let breaks : lexer.Unless rule (Breaks now c.args.main defined rule) = breaks_at rule c.as_slice.result.now now c.args.main c.defined-defined.result c.as_slice.ensures.texts c.defined-defined.ensures c.in-Err.ensures.fault in
    let mends : IfSome known (λ held. IsMended held now rule more) = subst (λ (k : Option Folder). IfSome k (λ held. IsMended held now rule more)) before.1 c.in_ok-mend-in-Err.ensures.told in
    let grows = c.in_ok-mend-in-Err.ensures.grows in (
      mended known c.args.main c.args.texts.now now more rule before.0 breaks mends,
      c.in_ok-mend-in-Err.ensures.unchanged ∙ before.1,
      omega (arith, before.2, c.in_ok-mend-in-Err.ensures.counted),
      omega (arith, before.3, grows),
      some_mended c.args.main c.args.texts.now now more rule before.4 breaks c.in_ok-mend-in-Err.ensures.some,
    )

pub returns-in_err-mend-in-Err-clause-told : goal.returns-in_err-mend-in-Err-clause-told
returns-in_err-mend-in-Err-clause-told g c =
    let before = c.includes.invariant in
    let rule = c.in-Err.rule in
    let now = c.includes.texts in
    let error = c.in_err-mend-in-Err.field-0.0 in
    let known = g.F.Files.folder c.args.files.now in
    let breaks : lexer.Unless rule (Breaks now c.args.main defined rule) = breaks_at rule c.as_slice.result.now now c.args.main c.defined-defined.result c.as_slice.ensures.texts c.defined-defined.ensures c.in-Err.ensures.fault in
    let cause : IfSome known (λ held. Unless error (IsCause held now rule error)) = subst (λ (k : Option Folder). IfSome k (λ held. Unless error (IsCause held now rule error))) before.1 c.in_err-mend-in-Err.ensures.told in
    let is = err_from_is_err_and c.from_residual.result c.from_residual.ensures.1 in
    rw (is.1, is.2) (fails known c.args.main c.args.texts.now now rule error before.0 breaks cause)
