use Rattle.std.proofs.Common.{◌∙◌}
use Rattle.tp_parser.proofs.Faults.{found_at, only_at, fault_at, none_at}
use Rattle.tp_parser.proofs.tree.parse.Goals as goal

pub returns-in-Ok-clause-found : goal.returns-in-Ok-clause-found
returns-in-Ok-clause-found c = found_at c.args.tokens.now c.as_slice.result.now c.in-Ok.tree (c.as_slice.ensures ∙ c.in_ok-lexemes.ensures) c.in-Ok.ensures

pub returns-in-Ok-clause-only : goal.returns-in-Ok-clause-only
returns-in-Ok-clause-only c = only_at c.args.tokens.now c.as_slice.result.now c.in-Ok.tree (c.as_slice.ensures ∙ c.in_ok-lexemes.ensures) c.in-Ok.ensures

pub returns-clause-only : goal.returns-clause-only
returns-clause-only c = none_at c.args.tokens.now c.as_slice.result.now c.as_slice-in-Err.result.now c.in-Err.error c.placed.result (c.as_slice.ensures ∙ c.in_ok-lexemes.ensures) (c.as_slice-in-Err.ensures ∙ c.in_ok-lexemes.ensures) c.in-Err.ensures c.placed.ensures

pub returns-clause-fault : goal.returns-clause-fault
returns-clause-fault c = fault_at c.args.tokens.now c.as_slice.result.now c.as_slice-in-Err.result.now c.in-Err.error c.placed.result (c.as_slice.ensures ∙ c.in_ok-lexemes.ensures) (c.as_slice-in-Err.ensures ∙ c.in_ok-lexemes.ensures) c.in-Err.ensures c.placed.ensures
