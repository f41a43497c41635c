use Rattle.common_values.proofs.BitLemmas.{bit_laws, byte_laws}
use Rattle.common_values.proofs.bits.bit_laws.Goals as goal

pub returns-clause-bits : goal.returns-clause-bits
returns-clause-bits c = bit_laws

pub returns-clause-bytes : goal.returns-clause-bytes
returns-clause-bytes c = byte_laws
