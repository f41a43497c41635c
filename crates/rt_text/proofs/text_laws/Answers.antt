use Rattle.std.specs.Prelude.{IsTrue}
use Rattle.rt_text.proofs.Works.{text-works}
use Rattle.rt_text.proofs.Places.{has-text}
use Rattle.rt_text.proofs.Leaves.{leaves}
use Rattle.rt_text.proofs.Starting.{starts}
use Rattle.rt_text.proofs.text_laws.Goals as goal

pub returns-clause-works : goal.returns-clause-works
returns-clause-works c = text-works

pub returns-clause-places : goal.returns-clause-places
returns-clause-places c = λ program choice reached legal holds first second. has-text program choice (λ mention. IsTrue (reached mention)) legal holds first second

pub returns-clause-leaves : goal.returns-clause-leaves
returns-clause-leaves c = leaves

pub returns-clause-starts : goal.returns-clause-starts
returns-clause-starts c = λ program choice reached item ahead legal firsts fits holds listed there. starts program choice (λ mention. IsTrue (reached mention)) item ahead legal firsts fits holds listed there
