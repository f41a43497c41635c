use Rattle.std.specs.Prelude.{IsTrue}
use Rattle.runtime_units.proofs.Together.{holds, places, works, starts}
use Rattle.runtime_units.proofs.Chains.{shallow}
use Rattle.runtime_units.proofs.First.{small, first}
use Rattle.runtime_units.proofs.PlainCode.{all-plain, plain}
use Rattle.runtime_units.proofs.runtime_laws.Goals as goal

pub returns-clause-holds : goal.returns-clause-holds
returns-clause-holds c = holds

pub returns-clause-places : goal.returns-clause-places
returns-clause-places c = λ program choice reached. places program choice (λ mention. IsTrue (reached mention))

pub returns-clause-works : goal.returns-clause-works
returns-clause-works c = works

pub returns-clause-starts : goal.returns-clause-starts
returns-clause-starts c = λ program choice reached. starts program choice (λ mention. IsTrue (reached mention))

pub returns-clause-chains : goal.returns-clause-chains
returns-clause-chains c = shallow

pub returns-clause-data : goal.returns-clause-data
returns-clause-data c = small

pub returns-clause-first : goal.returns-clause-first
returns-clause-first c = first

pub returns-clause-all_plain : goal.returns-clause-all_plain
returns-clause-all_plain c = all-plain

pub returns-clause-plain : goal.returns-clause-plain
returns-clause-plain c = plain
