use Rattle.call_rules.proofs.procedure_rules.ProcedureLaws.{lawful_performed, lawful_told}
use Rattle.call_rules.proofs.procedure_rules.laws.procedure_laws.Goals as goal

pub returns : goal.returns
returns c = record {
  standard_performed = λ types place number es. lawful_performed types place number es;
  told = λ types place one to. lawful_told types place one to;
}
