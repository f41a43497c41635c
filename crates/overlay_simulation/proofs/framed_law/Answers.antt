use Rattle.overlay_simulation.proofs.OrderLaws.{chain_is, places_are, order}
use Rattle.overlay_simulation.proofs.ReadyLaws.{matches_ready}
use Rattle.overlay_simulation.proofs.framed_law.Goals as goal

pub returns-clause-ready : goal.returns-clause-ready
returns-clause-ready c = matches_ready

pub returns-clause-chain : goal.returns-clause-chain
returns-clause-chain c = λ p m met kept t s pending ready f. chain_is p m met kept t s pending ready f

pub returns-clause-places : goal.returns-clause-places
returns-clause-places c = λ p m met kept t s pending ready f. places_are p m met kept t s pending ready f

pub returns-clause-order : goal.returns-clause-order
returns-clause-order c = λ p m met kept t s pending ready f. order p m met kept t s pending ready f
