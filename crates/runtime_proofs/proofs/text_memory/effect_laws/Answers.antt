use Rattle.runtime_proofs.proofs.text_memory.Effects.{seen-evaluates, print-does, byte-does, end-does}
use Rattle.runtime_proofs.proofs.text_memory.effect_laws.Goals as goal

pub returns-clause-print : goal.returns-clause-print
returns-clause-print c program choice own sp above placed a segment offset count s o bytes first second third has =
    print-does program choice own sp above placed a segment offset count s o bytes (seen-evaluates program choice own sp above placed a segment s first) (seen-evaluates program choice own sp above placed a offset o second) (seen-evaluates program choice own sp above placed a count _ third) has

pub returns-clause-fetch : goal.returns-clause-fetch
returns-clause-fetch c = byte-does

pub returns-clause-ends : goal.returns-clause-ends
returns-clause-ends c = end-does
