use Rattle.std.proofs.Common.{List, subst, sym}
use Rattle.clap.specs.Words.{Row}
use Rattle.command_line.specs.Words.{IsGoIn, IsRunIn, IsMeanIn}
use Rattle.command_line.proofs.line.command_of.Goals as goal

pub returns-in-Ok-clause-go : goal.returns-in-Ok-clause-go
returns-in-Ok-clause-go c = λ name options is. c.command_in.ensures.go name options (subst (λ (rows : List Row). IsGoIn rows name options) (sym c.in-Ok.ensures.matches) is.says)

pub returns-in-Ok-clause-run : goal.returns-in-Ok-clause-run
returns-in-Ok-clause-run c = λ name options is. c.command_in.ensures.run name options (subst (λ (rows : List Row). IsRunIn rows name options) (sym c.in-Ok.ensures.matches) is.says)

pub returns-in-Ok-clause-mean : goal.returns-in-Ok-clause-mean
returns-in-Ok-clause-mean c = λ name turns is. c.command_in.ensures.mean name turns (subst (λ (rows : List Row). IsMeanIn rows name turns) (sym c.in-Ok.ensures.matches) is.says)
