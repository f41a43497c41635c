use Rattle.typed_tree.proofs.FrameParts.{holds_its_parts}
use Rattle.typed_tree.proofs.frames.frame_of.Goals as goal

pub returns-clause-parts : goal.returns-clause-parts
returns-clause-parts c = λ one. holds_its_parts c.args.unit.now.types.types one
