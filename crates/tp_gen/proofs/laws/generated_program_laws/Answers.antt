use Rattle.tp_gen.proofs.UnitLaws.{numbered, call_others, calls_unit}
use Rattle.tp_gen.proofs.laws.generated_program_laws.Goals as goal

pub returns-clause-numbered : goal.returns-clause-numbered
returns-clause-numbered c = numbered

pub returns-clause-others : goal.returns-clause-others
returns-clause-others c = call_others

pub returns-clause-call : goal.returns-clause-call
returns-clause-call c = calls_unit
