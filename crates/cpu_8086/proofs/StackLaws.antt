-- What is pushed is popped.
use Rattle.std.proofs.Common.{◌≡◌, ◌≢◌, ℕ, ◌+◌, ◌%◌, ◌<◌, length, ◌∙◌, arith}
use Rattle.x86_table.specs.declared.operand.WordReg.{WordReg}
use Rattle.x86_table.specs.declared.operand.WordReg.TheVariants as word
use Rattle.x86_table.specs.declared.instr.Instr.TheVariants as instr
use Rattle.cpu_8086.specs.declared.registers.Registers.{Registers}
use Rattle.cpu_8086.specs.State.{State}
use Rattle.x86_table.specs.Spelling.{spelling}
use Rattle.cpu_8086.specs.Memory.{load_byte, store_byte, load_word, store_word}
use Rattle.cpu_8086.specs.Operand.{word_reg, with_word_reg}
use Rattle.cpu_8086.specs.Access.{lowered, at_offset}
use Rattle.cpu_8086.specs.Effect.{act}
use Rattle.cpu_8086.specs.Step.{effect, past}
use Rattle.cpu_8086.proofs.MemoryLaws.{load_word-store_word_same}

pub word_reg-with_same : (g : Registers) (r : WordReg) (v : ℕ) → word_reg (with_word_reg g r v) r ≡ v
word_reg-with_same g r v = grind arith

pub word_reg-with_other : (g : Registers) (r q : WordReg) (v : ℕ) → q ≢ r → word_reg (with_word_reg g r v) q ≡ word_reg g q
word_reg-with_other g r q v apart = grind arith

-- IP is no word register
word_reg-at_offset : (g : Registers) (r : WordReg) (offset : ℕ) → word_reg (lowered (at_offset g offset)) r ≡ word_reg (lowered g) r
word_reg-at_offset g r offset = grind arith

-- a register's word, for SP that after the decrement, comes back by POP into any register
pub push_pop : (s : State) (r q : WordReg) → length s.memory ≡ 1048576 → word_reg (effect (effect s (instr.Push r)).0 (instr.Pop q)).0.registers q ≡ word_reg (lowered s.registers) r
unfolding effect act store_word store_byte load_word load_byte
push_pop s r q size =
    let sp = (s.registers.sp + 65534) % 65536 in
    let v = word_reg (lowered (past (instr.Push r) s.registers)) r in
    word_reg-with_same _ q _ ∙ load_word-store_word_same s.memory s.registers.ss sp v size (omega arith) ∙ word_reg-at_offset s.registers r ((s.registers.ip + length (spelling (instr.Push r))) % 65536)

-- and SP is where it was, unless it was popped itself
pub push_pop-sp : (s : State) (r q : WordReg) → s.registers.sp < 65536 → word.Sp ≢ q → (effect (effect s (instr.Push r)).0 (instr.Pop q)).0.registers.sp ≡ s.registers.sp
unfolding effect act
push_pop-sp s r q lt apart = word_reg-with_other _ q word.Sp _ apart ∙ omega arith
