use Rattle.resident_machine.proofs.AstrayLaws.{traps, clears, leaves_half, takes_code_segment, returns_elsewhere, leads_nowhere, reads_unknown, touches_kept, touches_return, moves_stack, uninstalls}
use Rattle.resident_machine.proofs.laws.astray_law.Goals as goal

pub returns-clause-traps : goal.returns-clause-traps
returns-clause-traps c = traps

pub returns-clause-clears : goal.returns-clause-clears
returns-clause-clears c = clears

pub returns-clause-half : goal.returns-clause-half
returns-clause-half c = leaves_half

pub returns-clause-segment : goal.returns-clause-segment
returns-clause-segment c = takes_code_segment

pub returns-clause-returns : goal.returns-clause-returns
returns-clause-returns c = returns_elsewhere

pub returns-clause-nowhere : goal.returns-clause-nowhere
returns-clause-nowhere c = leads_nowhere

pub returns-clause-unknown : goal.returns-clause-unknown
returns-clause-unknown c = reads_unknown

pub returns-clause-kept : goal.returns-clause-kept
returns-clause-kept c = touches_kept

pub returns-clause-pair : goal.returns-clause-pair
returns-clause-pair c = touches_return

pub returns-clause-stack : goal.returns-clause-stack
returns-clause-stack c = moves_stack

pub returns-clause-flag : goal.returns-clause-flag
returns-clause-flag c = uninstalls
