use Rattle.command_line.proofs.said.name_in.Goals as goal

pub returns-clause-only : goal.returns-clause-only
returns-clause-only c = λ name is. c.name_of.ensures.only name (rw c.in_ok-said.was at is)
