-- What the registers hold, and the effective address of a memory operand.
use Rattle.std.specs.Prelude.{ℕ, ◌+◌, ◌*◌, ◌/◌, ◌%◌}
use Rattle.x86_table.specs.declared.operand.WordReg.{WordReg}
use Rattle.x86_table.specs.declared.operand.WordReg.TheVariants as word
use Rattle.x86_table.specs.declared.operand.ByteReg.{ByteReg}
use Rattle.x86_table.specs.declared.operand.ByteReg.TheVariants as byte
use Rattle.x86_table.specs.declared.operand.DataSeg.{DataSeg}
use Rattle.x86_table.specs.declared.operand.DataSeg.TheVariants as seg
use Rattle.x86_table.specs.declared.operand.Base.{Base}
use Rattle.x86_table.specs.declared.operand.Base.TheVariants as base
use Rattle.x86_table.specs.declared.operand.IndirectBase.{IndirectBase}
use Rattle.x86_table.specs.declared.operand.IndirectBase.TheVariants as indirect
use Rattle.x86_table.specs.declared.operand.Place.{Place}
use Rattle.x86_table.specs.declared.operand.Place.TheVariants.{Direct, Indirect, ByteDisplacement, WordDisplacement}
use Rattle.cpu_8086.specs.declared.registers.Registers.{Registers}
use Rattle.cpu_8086.specs.Arithmetic.{sign_extend}

abbrev pub word_reg : Registers → WordReg → ℕ
word_reg g word.Ax = g.ax
word_reg g word.Cx = g.cx
word_reg g word.Dx = g.dx
word_reg g word.Bx = g.bx
word_reg g word.Sp = g.sp
word_reg g word.Bp = g.bp
word_reg g word.Si = g.si
word_reg g word.Di = g.di

abbrev pub with_word_reg : Registers → WordReg → ℕ → Registers
with_word_reg g word.Ax v = record g { ax = v }
with_word_reg g word.Cx v = record g { cx = v }
with_word_reg g word.Dx v = record g { dx = v }
with_word_reg g word.Bx v = record g { bx = v }
with_word_reg g word.Sp v = record g { sp = v }
with_word_reg g word.Bp v = record g { bp = v }
with_word_reg g word.Si v = record g { si = v }
with_word_reg g word.Di v = record g { di = v }

-- the low or the high byte of a word register
abbrev pub byte_reg : Registers → ByteReg → ℕ
byte_reg g byte.Al = g.ax % 256
byte_reg g byte.Cl = g.cx % 256
byte_reg g byte.Dl = g.dx % 256
byte_reg g byte.Bl = g.bx % 256
byte_reg g byte.Ah = g.ax / 256
byte_reg g byte.Ch = g.cx / 256
byte_reg g byte.Dh = g.dx / 256
byte_reg g byte.Bh = g.bx / 256

abbrev pub with_low : ℕ → ℕ → ℕ
with_low word v = 256 * (word / 256) + v

abbrev pub with_high : ℕ → ℕ → ℕ
with_high word v = 256 * v + word % 256

abbrev pub with_byte_reg : Registers → ByteReg → ℕ → Registers
with_byte_reg g byte.Al v = record g { ax = with_low g.ax v }
with_byte_reg g byte.Cl v = record g { cx = with_low g.cx v }
with_byte_reg g byte.Dl v = record g { dx = with_low g.dx v }
with_byte_reg g byte.Bl v = record g { bx = with_low g.bx v }
with_byte_reg g byte.Ah v = record g { ax = with_high g.ax v }
with_byte_reg g byte.Ch v = record g { cx = with_high g.cx v }
with_byte_reg g byte.Dh v = record g { dx = with_high g.dx v }
with_byte_reg g byte.Bh v = record g { bx = with_high g.bx v }

abbrev pub with_data_seg : Registers → DataSeg → ℕ → Registers
with_data_seg g seg.Es v = record g { es = v }
with_data_seg g seg.Ss v = record g { ss = v }
with_data_seg g seg.Ds v = record g { ds = v }

abbrev pub base_sum : Registers → Base → ℕ
base_sum g base.BxSi = g.bx + g.si
base_sum g base.BxDi = g.bx + g.di
base_sum g base.BpSi = g.bp + g.si
base_sum g base.BpDi = g.bp + g.di
base_sum g base.Si = g.si
base_sum g base.Di = g.di
base_sum g base.Bp = g.bp
base_sum g base.Bx = g.bx

-- SS where BP takes part, else DS
abbrev pub base_segment : Registers → Base → ℕ
base_segment g base.BxSi = g.ds
base_segment g base.BxDi = g.ds
base_segment g base.BpSi = g.ss
base_segment g base.BpDi = g.ss
base_segment g base.Si = g.ds
base_segment g base.Di = g.ds
base_segment g base.Bp = g.ss
base_segment g base.Bx = g.ds

abbrev pub plain_base : IndirectBase → Base
plain_base indirect.BxSi = base.BxSi
plain_base indirect.BxDi = base.BxDi
plain_base indirect.BpSi = base.BpSi
plain_base indirect.BpDi = base.BpDi
plain_base indirect.Si = base.Si
plain_base indirect.Di = base.Di
plain_base indirect.Bx = base.Bx

-- the effective address
unfoldable pub offset_of : Registers → Place → ℕ
offset_of g (Direct offset) = offset
offset_of g (Indirect b) = base_sum g (plain_base b) % 65536
offset_of g (ByteDisplacement b d) = (base_sum g b + sign_extend d) % 65536
offset_of g (WordDisplacement b d) = (base_sum g b + d) % 65536

-- the segment that serves where there is no override
unfoldable pub usual_segment : Registers → Place → ℕ
usual_segment g (Direct offset) = g.ds
usual_segment g (Indirect b) = base_segment g (plain_base b)
usual_segment g (ByteDisplacement b d) = base_segment g b
usual_segment g (WordDisplacement b d) = base_segment g b
