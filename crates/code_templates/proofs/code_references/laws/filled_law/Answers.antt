use Rattle.std.proofs.Common.{map}
use Rattle.code_templates.specs.code_references.Marks.{placed_line, lines_of}
use Rattle.code_templates.proofs.code_references.Filled.{lines_filled, jumps_reached, once_kept}
use Rattle.code_templates.proofs.code_references.laws.filled_law.Goals as goal

pub returns-clause-reach : goal.returns-clause-reach
returns-clause-reach c = λ x lines h. jumps_reached (lines_of lines) (map (placed_line x) lines) (lines_filled x lines) h

pub returns-clause-once : goal.returns-clause-once
returns-clause-once c = λ x lines h. once_kept (lines_of lines) (map (placed_line x) lines) (lines_filled x lines) h
