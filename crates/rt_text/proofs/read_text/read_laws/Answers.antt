use Rattle.rt_text.proofs.read_text.InputReading.{tells-eof, tells-eoln, reads-char}
use Rattle.rt_text.proofs.read_text.LineReading.{reads-line}
use Rattle.rt_text.proofs.read_text.read_laws.Goals as goal

pub returns-clause-eof : goal.returns-clause-eof
returns-clause-eof c = tells-eof

pub returns-clause-eoln : goal.returns-clause-eoln
returns-clause-eoln c = tells-eoln

pub returns-clause-char : goal.returns-clause-char
returns-clause-char c = reads-char

pub returns-clause-line : goal.returns-clause-line
returns-clause-line c = reads-line
