use Rattle.rt_strings.proofs.memory.Loading.{loads-byte, loads-short, loads-word}
use Rattle.rt_strings.proofs.memory.Moving.{moves-bytes}
use Rattle.rt_strings.proofs.memory.memory_laws.Goals as goal

pub returns-clause-byte : goal.returns-clause-byte
returns-clause-byte c = loads-byte

pub returns-clause-short : goal.returns-clause-short
returns-clause-short c = loads-short

pub returns-clause-word : goal.returns-clause-word
returns-clause-word c = loads-word

pub returns-clause-moves : goal.returns-clause-moves
returns-clause-moves c = moves-bytes
