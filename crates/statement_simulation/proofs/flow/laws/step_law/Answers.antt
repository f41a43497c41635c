use Rattle.statement_simulation.proofs.flow.Steps.{byte_flows, word_flows, leave_flows, return_flows, fail_flows}
use Rattle.statement_simulation.proofs.flow.laws.step_law.Goals as goal

pub returns-clause-byte : goal.returns-clause-byte
returns-clause-byte c = λ w site live bound pointer fits ends. byte_flows w site live fits bound pointer ends

pub returns-clause-word : goal.returns-clause-word
returns-clause-word c = λ w site live bound pointer fits ends. word_flows w site live fits bound pointer ends

pub returns-clause-leave : goal.returns-clause-leave
returns-clause-leave c = λ w site live bound pointer loops fits. leave_flows w site live fits bound pointer loops

pub returns-clause-home : goal.returns-clause-home
returns-clause-home c = λ w site live bound pointer fits. return_flows w site live fits bound pointer

pub returns-clause-error : goal.returns-clause-error
returns-clause-error c = λ w site live bound pointer code fits ends. fail_flows w site live fits bound pointer code ends
