use Rattle.address_independence.proofs.yields.Expressions.{expression_alike}
use Rattle.address_independence.proofs.yields.Statements.{statement_alike}
use Rattle.address_independence.proofs.yields.Declarations.{source_read, source_alike}
use Rattle.address_independence.proofs.yields.laws.read_back_laws.Goals as goal

pub returns-clause-expressions : goal.returns-clause-expressions
returns-clause-expressions c = expression_alike

pub returns-clause-statements : goal.returns-clause-statements
returns-clause-statements c = statement_alike

pub returns-clause-sources : goal.returns-clause-sources
returns-clause-sources c = source_alike

pub returns-clause-read : goal.returns-clause-read
returns-clause-read c = source_read
