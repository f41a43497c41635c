use Rattle.constant_checker.proofs.stored_values.Sizes.{whole}
use Rattle.constant_checker.proofs.stored_values.laws.stored_laws.Goals as goal

pub returns : goal.returns
returns c = whole
