-- Nodes of flat code from their parts.
use Rattle.std.specs.Prelude.{ℕ, ◌/◌, ℤ, pos, int_lt, Bool, if◌then◌else◌, List, [], ◌∷◌, Some, None}
use Rattle.type_layout.specs.declared.definitions.Host.{Host}
use Rattle.type_layout.specs.declared.definitions.Host.TheVariants as host
use Rattle.type_layout.specs.Storage.{least_of}
use Rattle.common_values.specs.integers.Words.{w16, w32, word_of}
use Rattle.flat_code.specs.declared.tree.Address.TheVariants.{Local}
use Rattle.flat_code.specs.declared.tree.FlatOp.TheVariants as op
use Rattle.flat_code.specs.Tree.{Expr, Number, Word, AddressOf, SegmentOf, Op, StoreWord, Runtime, Step, Code, End, Do, If}
use Rattle.runtime_units.specs.declared.numbers.numbers.RuntimeRoutine.{RuntimeRoutine}
use Rattle.runtime_units.specs.declared.numbers.numbers.RuntimeRoutine.TheVariants as routine
use Rattle.runtime_units.specs.numbers.Named.{number_of}

abbrev pub single : Step → Code
single step = Do step End

abbrev pub pair : Step → Step → Code
pair first second = Do first (Do second End)

-- the two words of a number
abbrev pub number : ℤ → Expr
number z = Number (word_of w16 z)

abbrev pub high_number : ℤ → Expr
high_number z = Number (word_of w32 z / 65536)

-- 1 where a word is 0, else 0; and the other way round
abbrev pub contrary : Expr → Expr
contrary word = Op op.Equal word (Number 0)

abbrev pub truth : Expr → Expr
truth word = Op op.Below (Number 0) word

-- a byte with its sign, as a word
abbrev pub signed_byte : Expr → Expr
signed_byte byte = Op op.Sub (Op op.Xor byte (Number 128)) (Number 128)

abbrev pub low_byte : Expr → Expr
low_byte word = Op op.And word (Number 255)

-- what is left of a word in the bytes of a host, as a word of its own
abbrev pub kept : Host → Expr → Expr
kept host.Integer word = word
kept host.Word word = word
kept host.LongInt word = word
kept host.ShortInt word = signed_byte (low_byte word)
kept host.Byte word = low_byte word
kept host.Char word = low_byte word
kept host.Boolean word = low_byte word
kept host.Enumeration word = low_byte word

abbrev pub is_signed : Host → Bool
is_signed host = int_lt (least_of host) (pos 0)

-- the word above one that is a number of a host: its sign, or 0
abbrev pub extension : Host → Expr → Expr
extension host word = if is_signed host then Op op.Sub (Number 0) (Op op.Less word (Number 0)) else Number 0

-- ---- routines of the runtime

abbrev pub runtime : RuntimeRoutine → List Expr → Step
runtime routine args = Runtime (number_of routine) args None

-- with a result of so many bytes, so far from BP
abbrev pub with_result : RuntimeRoutine → List Expr → ℤ → ℕ → Step
with_result routine args at bytes = Runtime (number_of routine) args (Some (record { at = Local at; bytes = bytes }))

-- so many bytes from a place on become zeros
abbrev pub clear_at : Expr → Expr → ℕ → Step
clear_at segment offset count = runtime routine.Clear (segment ∷ offset ∷ Number count ∷ [])

abbrev pub clear : ℤ → ℕ → Step
clear at count = clear_at (SegmentOf (Local at)) (AddressOf (Local at)) count

-- a word so far from BP
abbrev pub word : ℤ → Expr
word at = Word (Local at)

abbrev pub set : ℤ → Expr → Step
set at value = StoreWord (Local at) value

-- code in the one case, or in the other
abbrev pub when : Expr → Code → Code → Code
when test taken other = If test taken other End
