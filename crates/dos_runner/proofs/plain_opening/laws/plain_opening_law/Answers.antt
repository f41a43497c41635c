use Rattle.dos_runner.proofs.plain_opening.Openings.{plain_opening, large_refusal, plain_refusal}
use Rattle.dos_runner.proofs.plain_opening.laws.plain_opening_law.Goals as goal

pub returns : goal.returns
returns c = record { opened = plain_opening; large = large_refusal; refused = plain_refusal }
