use Rattle.call_simulation.proofs.frames.Entry.{linked_in, entry_run, entry_fails, inner_fits}
use Rattle.call_simulation.proofs.frames.laws.entry_law.Goals as goal

pub returns-clause-begins : goal.returns-clause-begins
returns-clause-begins c = λ w caller site placed live fits name unit r back vs s r0 t a e handed room. entry_run w caller site placed live fits name unit r back vs s r0 t a e handed (linked_in r live room) room

pub returns-clause-refuses : goal.returns-clause-refuses
returns-clause-refuses c = λ w caller site placed live fits name unit r back vs s r0 t a e handed linked. entry_fails w caller site placed live fits name unit r back vs s r0 t a e handed linked

pub returns-clause-fits : goal.returns-clause-fits
returns-clause-fits c = λ w caller site placed live fits name unit r back vs s r0 t a e handed room. inner_fits w caller site placed live fits name unit r back vs s r0 t a e handed (linked_in r live room) room
