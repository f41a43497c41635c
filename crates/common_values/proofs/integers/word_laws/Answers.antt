use Rattle.common_values.proofs.integers.WordLaws.{wrap_laws, signed_laws, arithmetic_laws, division_laws, byte_laws, shift_laws}
use Rattle.common_values.proofs.integers.word_laws.Goals as goal

pub returns-clause-wrap : goal.returns-clause-wrap
returns-clause-wrap c = wrap_laws

pub returns-clause-signed : goal.returns-clause-signed
returns-clause-signed c = signed_laws

pub returns-clause-arithmetic : goal.returns-clause-arithmetic
returns-clause-arithmetic c = arithmetic_laws

pub returns-clause-division : goal.returns-clause-division
returns-clause-division c = division_laws

pub returns-clause-bytes : goal.returns-clause-bytes
returns-clause-bytes c = byte_laws

pub returns-clause-shifts : goal.returns-clause-shifts
returns-clause-shifts c = shift_laws
