use Rattle.rt_text.proofs.write_text.StringWriting.{writes-string}
use Rattle.rt_text.proofs.write_text.MadeWriting.{writes-char, writes-boolean}
use Rattle.rt_text.proofs.write_text.LineWriting.{writes-line}
use Rattle.rt_text.proofs.write_text.write_laws.Goals as goal

pub returns-clause-string : goal.returns-clause-string
returns-clause-string c = writes-string

pub returns-clause-char : goal.returns-clause-char
returns-clause-char c = writes-char

pub returns-clause-boolean : goal.returns-clause-boolean
returns-clause-boolean c = writes-boolean

pub returns-clause-line : goal.returns-clause-line
returns-clause-line c = writes-line
