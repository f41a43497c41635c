use Rattle.codegen_8086.proofs.object_sizes.Sizes.{at_most, at_least, too_large}
use Rattle.codegen_8086.proofs.object_sizes.laws.size_law.Goals as goal

pub returns-clause-most : goal.returns-clause-most
returns-clause-most c = at_most

pub returns-clause-least : goal.returns-clause-least
returns-clause-least c = at_least

pub returns-clause-too_large : goal.returns-clause-too_large
returns-clause-too_large c = too_large
