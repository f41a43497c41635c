use Rattle.rt_text.proofs.read_numbers.NumberReading.{reads-number}
use Rattle.rt_text.proofs.read_numbers.number_reading_laws.Goals as goal

pub returns : goal.returns
returns c = record { number = reads-number }
