use Rattle.rt_text.proofs.write_numbers.IntegerWriting.{writes-integer}
use Rattle.rt_text.proofs.write_numbers.number_writing_laws.Goals as goal

pub returns : goal.returns
returns c = record { integer = writes-integer }
