use Rattle.initializer_meaning.proofs.stored_value_laws.Ordinals.{ordinals}
use Rattle.initializer_meaning.proofs.stored_value_laws.Strings.{bytes_read, strings}
use Rattle.initializer_meaning.proofs.stored_value_laws.Sets.{sets}
use Rattle.initializer_meaning.proofs.stored_value_laws.laws.stored_value_laws.Goals as goal

pub returns : goal.returns
returns c = record { ordinals = ordinals; strings = strings; chars = bytes_read; sets = sets }
