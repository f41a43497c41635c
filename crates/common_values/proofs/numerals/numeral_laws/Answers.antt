use Rattle.common_values.proofs.NumeralLemmas.{reading_laws}
use Rattle.common_values.proofs.ValLemmas.{val_laws}
use Rattle.common_values.proofs.numerals.numeral_laws.Goals as goal

pub returns-clause-reading : goal.returns-clause-reading
returns-clause-reading c = reading_laws

pub returns-clause-val : goal.returns-clause-val
returns-clause-val c = val_laws
