use Rattle.rt_text.proofs.read_strings.StringReading.{reads-string}
use Rattle.rt_text.proofs.read_strings.string_reading_laws.Goals as goal

pub returns : goal.returns
returns c = record { string = reads-string }
