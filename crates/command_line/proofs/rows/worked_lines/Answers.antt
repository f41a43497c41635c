use Rattle.command_line.proofs.LineLaws as laws
use Rattle.command_line.proofs.rows.worked_lines.Goals as goal

pub returns-clause-plain : goal.returns-clause-plain
returns-clause-plain c = laws.plain

pub returns-clause-equals : goal.returns-clause-equals
returns-clause-equals c = laws.equals

pub returns-clause-before : goal.returns-clause-before
returns-clause-before c = laws.before

pub returns-clause-twice : goal.returns-clause-twice
returns-clause-twice c = laws.twice

pub returns-clause-valueless : goal.returns-clause-valueless
returns-clause-valueless c = laws.valueless

pub returns-clause-nameless : goal.returns-clause-nameless
returns-clause-nameless c = laws.nameless

pub returns-clause-unknown : goal.returns-clause-unknown
returns-clause-unknown c = laws.unknown
