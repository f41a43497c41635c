use Rattle.code_templates.proofs.code_labels.Labels.{routine_once, routine_range}
use Rattle.code_templates.proofs.code_labels.laws.label_law.Goals as goal

pub returns-clause-once : goal.returns-clause-once
returns-clause-once c = routine_once

pub returns-clause-range : goal.returns-clause-range
returns-clause-range c = routine_range
