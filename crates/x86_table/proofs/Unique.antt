-- Bytes spell one operand.
use Rattle.std.proofs.Common.{◌≡◌, ◌≢◌, ℕ, ◌+◌, ◌*◌, ◌<◌, ◌/◌, ◌%◌, List, [], ◌++◌, Option, arith, ap}
use Rattle.std.specs.Prelude.{None, Some}
use Rattle.std.proofs.lemmas.Grind.{common_steps}
use Rattle.x86_table.specs.declared.operand.SegReg.{SegReg}
use Rattle.x86_table.specs.declared.operand.WordReg.{WordReg}
use Rattle.x86_table.specs.declared.operand.ByteReg.{ByteReg}
use Rattle.x86_table.specs.declared.operand.Base.{Base}
use Rattle.x86_table.specs.declared.operand.IndirectBase.{IndirectBase}
use Rattle.x86_table.specs.declared.operand.Place.{Place}
use Rattle.x86_table.specs.declared.operand.Place.TheVariants.{Direct, Indirect, ByteDisplacement, WordDisplacement}
use Rattle.x86_table.specs.declared.operand.Memory.{Memory}
use Rattle.x86_table.specs.declared.operand.ByteOperand.{ByteOperand}
use Rattle.x86_table.specs.declared.operand.ByteOperand.TheVariants as byte
use Rattle.x86_table.specs.declared.operand.WordOperand.{WordOperand}
use Rattle.x86_table.specs.declared.operand.WordOperand.TheVariants as word
use Rattle.x86_table.specs.Codes.{word_reg_code, byte_reg_code, base_code, indirect_base_code}
use Rattle.x86_table.specs.Spelling.{word_bytes, place_code, displacement, memory_modrm, byte_modrm, word_modrm, byte_override, word_override}

pub base_code-injective : (b c : Base) → base_code b ≡ base_code c → b ≡ c
base_code-injective b c e = grind arith

pub indirect_base_code-injective : (b c : IndirectBase) → indirect_base_code b ≡ indirect_base_code c → b ≡ c
indirect_base_code-injective b c e = grind arith

pub word_reg_code-injective : (b c : WordReg) → word_reg_code b ≡ word_reg_code c → b ≡ c
word_reg_code-injective b c e = grind arith

pub byte_reg_code-injective : (b c : ByteReg) → byte_reg_code b ≡ byte_reg_code c → b ≡ c
byte_reg_code-injective b c e = grind arith

pub base_code-lt : (b : Base) → base_code b < 8
base_code-lt b = grind arith

pub indirect_base_code-lt : (b : IndirectBase) → indirect_base_code b < 8
indirect_base_code-lt b = grind arith

pub word_reg_code_lt : (b : WordReg) → word_reg_code b < 8
word_reg_code_lt b = grind arith

pub byte_reg_code_lt : (b : ByteReg) → byte_reg_code b < 8
byte_reg_code_lt b = grind arith

pub place_code-lt : (p : Place) → place_code p < 136
place_code-lt (Direct o) = omega arith
place_code-lt (Indirect b) = omega (arith, indirect_base_code-lt b)
place_code-lt (ByteDisplacement b d) = omega (arith, base_code-lt b)
place_code-lt (WordDisplacement b d) = omega (arith, base_code-lt b)

pub word_bytes-injective : (v w : ℕ) (x y : List ℕ) → word_bytes v ++ x ≡ word_bytes w ++ y → (v ≡ w) × (x ≡ y)
unfolding word_bytes
word_bytes-injective v w x y e = grind arith

pub place_unique : (p q : Place) (f g : ℕ) (x y : List ℕ) → f < 8 → g < 8 → place_code p + 8 * f ≡ place_code q + 8 * g → displacement p ++ x ≡ displacement q ++ y → (p ≡ q) × (f ≡ g) × (x ≡ y)
unfolding word_bytes
place_unique p q f g x y hf hg e1 e2 = grind (arith, base_code-injective, indirect_base_code-injective, base_code-lt, indirect_base_code-lt, word_bytes-injective)

pub memory_unique : (m n : Memory) (f g : ℕ) (x y : List ℕ) → f < 8 → g < 8 → m.segment ≡ n.segment → memory_modrm f m ++ x ≡ memory_modrm g n ++ y → (m ≡ n) × (f ≡ g) × (x ≡ y)
unfolding memory_modrm
memory_unique m n f g x y hf hg es e = grind (arith, place_unique)

word_regs : (r s : WordReg) (f g : ℕ) → f < 8 → g < 8 → 192 + word_reg_code r + 8 * f ≡ 192 + word_reg_code s + 8 * g → (r ≡ s) × (f ≡ g)
word_regs r s f g hf hg e =
    let a = word_reg_code_lt r in
    let b = word_reg_code_lt s in
    let d : word_reg_code r ≡ word_reg_code s = omega arith in
    (word_reg_code-injective r s d, omega arith)

pub word_unique : (o p : WordOperand) (f g : ℕ) (x y : List ℕ) → f < 8 → g < 8 → word_override o ≡ word_override p → word_modrm f o ++ x ≡ word_modrm g p ++ y → (o ≡ p) × (f ≡ g) × (x ≡ y)
unfolding word_modrm memory_modrm
word_unique (word.Reg r) (word.Reg s) f g x y hf hg es e = grind (arith, word_regs)
word_unique (word.Reg r) (word.Mem n) f g x y hf hg es e = grind (arith, place_code-lt n.place)
word_unique (word.Mem m) (word.Reg s) f g x y hf hg es e = grind (arith, place_code-lt m.place)
word_unique (word.Mem m) (word.Mem n) f g x y hf hg es e = grind (arith, memory_unique)

byte_regs : (r s : ByteReg) (f g : ℕ) → f < 8 → g < 8 → 192 + byte_reg_code r + 8 * f ≡ 192 + byte_reg_code s + 8 * g → (r ≡ s) × (f ≡ g)
byte_regs r s f g hf hg e =
    let a = byte_reg_code_lt r in
    let b = byte_reg_code_lt s in
    let d : byte_reg_code r ≡ byte_reg_code s = omega arith in
    (byte_reg_code-injective r s d, omega arith)

pub byte_unique : (o p : ByteOperand) (f g : ℕ) (x y : List ℕ) → f < 8 → g < 8 → byte_override o ≡ byte_override p → byte_modrm f o ++ x ≡ byte_modrm g p ++ y → (o ≡ p) × (f ≡ g) × (x ≡ y)
unfolding byte_modrm memory_modrm
byte_unique (byte.Reg r) (byte.Reg s) f g x y hf hg es e = grind (arith, byte_regs)
byte_unique (byte.Reg r) (byte.Mem n) f g x y hf hg es e = grind (arith, place_code-lt n.place)
byte_unique (byte.Mem m) (byte.Reg s) f g x y hf hg es e = grind (arith, place_code-lt m.place)
byte_unique (byte.Mem m) (byte.Mem n) f g x y hf hg es e = grind (arith, memory_unique)
