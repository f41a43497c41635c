use Rattle.cpu_8086.proofs.StackLaws.{push_pop, push_pop-sp}
use Rattle.cpu_8086.proofs.laws.stack_law.Goals as goal

pub returns-clause-word : goal.returns-clause-word
returns-clause-word c = push_pop

pub returns-clause-pointer : goal.returns-clause-pointer
returns-clause-pointer c = push_pop-sp
