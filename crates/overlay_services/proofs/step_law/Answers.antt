use Rattle.overlay_services.proofs.StepLaws.{plain_comes, call_comes, return_comes, clear_comes, step_comes}
use Rattle.overlay_services.proofs.step_law.Goals as goal

pub returns-clause-plain : goal.returns-clause-plain
returns-clause-plain c = λ p kept bytes r t q here whole m tables goes. plain_comes p kept bytes r t q here whole m tables goes

pub returns-clause-call : goal.returns-clause-call
returns-clause-call c = λ p kept bytes r t q here whole m tables goes framed. call_comes p kept bytes r t q here whole m tables goes framed

pub returns-clause-back : goal.returns-clause-back
returns-clause-back c = λ p kept bytes r t q here whole m tables goes framed. return_comes p kept bytes r t q here whole m tables goes framed

pub returns-clause-clear : goal.returns-clause-clear
returns-clause-clear c = λ p kept bytes r t q here whole m tables goes framed. clear_comes p kept bytes r t q here whole m tables goes framed

pub returns-clause-each : goal.returns-clause-each
returns-clause-each c = λ p kept bytes r t q here whole m tables service goes framed. step_comes p kept bytes r t q here whole m tables service goes framed
