use Rattle.typed_tree.proofs.FrameParts.{stays_within_need}
use Rattle.typed_tree.proofs.frames.need_of.Goals as goal

pub returns-clause-enough : goal.returns-clause-enough
returns-clause-enough c = λ one. stays_within_need c.args.unit.now.types.types one
