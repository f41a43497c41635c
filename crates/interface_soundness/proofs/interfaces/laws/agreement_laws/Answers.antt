use Rattle.interface_soundness.proofs.interfaces.AgreementLaws.{agree, keep_names, declare}
use Rattle.interface_soundness.proofs.interfaces.laws.agreement_laws.Goals as goal

pub returns-clause-agree : goal.returns-clause-agree
returns-clause-agree c = agree

pub returns-clause-names : goal.returns-clause-names
returns-clause-names c = keep_names

pub returns-clause-declare : goal.returns-clause-declare
returns-clause-declare c = declare
