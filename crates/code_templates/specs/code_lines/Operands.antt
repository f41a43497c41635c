-- The places of flat code as operands of instructions: what has to be loaded before, and the memory operand. Loading takes BX and ES alone.
use Rattle.std.specs.Prelude.{ℕ, zero, suc, ◌+◌, ◌%◌, if◌then◌else◌, nat_lt, List, [], ◌∷◌, Some, None}
use Rattle.common_values.specs.integers.Words.{w16, word_of}
use Rattle.x86_table.specs.declared.instr.Instr.{Instr}
use Rattle.x86_table.specs.declared.instr.Instr.TheVariants as instr
use Rattle.x86_table.specs.declared.instr.Pair.TheVariants as pair
use Rattle.x86_table.specs.declared.operand.Base.{Base}
use Rattle.x86_table.specs.declared.operand.Base.TheVariants as base
use Rattle.x86_table.specs.declared.operand.IndirectBase.TheVariants as indirect
use Rattle.x86_table.specs.declared.operand.Memory.{Memory}
use Rattle.x86_table.specs.declared.operand.Place.{Place}
use Rattle.x86_table.specs.declared.operand.Place.TheVariants.{Direct, Indirect, ByteDisplacement, WordDisplacement}
use Rattle.x86_table.specs.declared.operand.SegReg.TheVariants as seg
use Rattle.x86_table.specs.declared.operand.WordOperand.TheVariants as word_rm
use Rattle.x86_table.specs.declared.operand.WordReg.{WordReg}
use Rattle.x86_table.specs.declared.operand.WordReg.TheVariants as word
use Rattle.flat_code.specs.declared.tree.Address.{Address}
use Rattle.flat_code.specs.declared.tree.Address.TheVariants.{Global, Local, Outer, Through}
use Rattle.flat_code.specs.Calls.{link_bytes}
use Rattle.code_templates.specs.code_lines.Addresses.{Context, key_in}

-- so far from a register, a word with its sign: by one byte from -128 to 127, else by two
unfoldable pub displaced : Base → ℕ → Place
displaced b d =
    if nat_lt d 128 then ByteDisplacement b d
    else (if nat_lt d 65408 then WordDisplacement b d else ByteDisplacement b (d % 256))

abbrev pub memory_at : Place → Memory
memory_at place = record { segment = None; place = place }

-- bytes of the routine's own frame, so far from BP
abbrev pub frame_memory : ℕ → Memory
frame_memory d = memory_at (displaced base.Bp d)

-- MOV of a word from memory
abbrev pub load : WordReg → Memory → Instr
load r m = instr.Mov (pair.WordRm r (word_rm.Mem m))

-- MOV BX,SS:[BX], a static link up
abbrev pub hop : Instr
hop = load word.Bx (record { segment = Some seg.Ss; place = Indirect indirect.Bx })

abbrev pub hops : ℕ → List Instr
hops zero = []
hops (suc n) = hop ∷ hops n

-- BX leads to the link word that so many links lead to from the routine's own one
abbrev pub links : Context → ℕ → List Instr
links x zero = []
links x (suc n) = load word.Bx (frame_memory (link_bytes x.far)) ∷ hops n

-- what is loaded before an operand
abbrev pub loads : Context → Address → List Instr
loads x (Global unit number plus) = []
loads x (Local at) = []
loads x (Outer levels at) = links x levels
loads x (Through slot plus) = instr.Les word.Bx (frame_memory (word_of w16 slot)) ∷ []

abbrev pub outer_place : Context → ℕ → ℕ → Place
outer_place x zero d = displaced base.Bp ((link_bytes x.far + d) % 65536)
outer_place x (suc n) d = displaced base.Bx d

-- where the bytes lie that stand so many behind the place
abbrev pub operand_place : Context → Address → ℕ → Place
operand_place x (Global unit number plus) more = Direct ((x.addresses.datum (key_in x unit number) + plus + more) % 65536)
operand_place x (Local at) more = displaced base.Bp ((word_of w16 at + more) % 65536)
operand_place x (Outer levels at) more = outer_place x levels ((word_of w16 at + more) % 65536)
operand_place x (Through slot plus) more = displaced base.Bx ((plus + more) % 65536)

abbrev pub operand : Context → Address → ℕ → Memory
operand x (Global unit number plus) more = memory_at (operand_place x (Global unit number plus) more)
operand x (Local at) more = memory_at (operand_place x (Local at) more)
operand x (Outer zero at) more = memory_at (operand_place x (Outer zero at) more)
operand x (Outer (suc n) at) more = record { segment = Some seg.Ss; place = operand_place x (Outer (suc n) at) more }
operand x (Through slot plus) more = record { segment = Some seg.Es; place = operand_place x (Through slot plus) more }
