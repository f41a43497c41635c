use Rattle.compiler_correctness.proofs.Slices.{slice_follows}
use Rattle.compiler_correctness.proofs.SlicePlaces.{slice_stands}
use Rattle.compiler_correctness.proofs.laws.slice_law.Goals as goal

pub returns-clause-follows : goal.returns-clause-follows
returns-clause-follows c = slice_follows

pub returns-clause-stands : goal.returns-clause-stands
returns-clause-stands c = slice_stands
