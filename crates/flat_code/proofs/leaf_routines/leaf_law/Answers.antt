use Rattle.flat_code.proofs.leaf_routines.Leaves.{leaf-is}
use Rattle.flat_code.proofs.leaf_routines.leaf_law.Goals as goal

pub returns : goal.returns
returns c = leaf-is
