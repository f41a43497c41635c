use Rattle.cpu_8086.proofs.MemoryLaws.{load_word-store_word_same, load_byte-store_word_other}
use Rattle.cpu_8086.proofs.laws.memory_law.Goals as goal

pub returns-clause-back : goal.returns-clause-back
returns-clause-back c = load_word-store_word_same

pub returns-clause-stays : goal.returns-clause-stays
returns-clause-stays c = load_byte-store_word_other
