-- Operators on ordinals of at most 2 bytes.
use Rattle.std.specs.Prelude.{ℕ, ◌+◌, ◌==◌, if◌then◌else◌, Bool, true, false, Option, Some, None}
use Rattle.type_layout.specs.declared.definitions.Host.{Host}
use Rattle.type_layout.specs.declared.definitions.Host.TheVariants as host
use Rattle.type_layout.specs.Storage.{width_of}
use Rattle.typed_tree.specs.declared.expressions.BinaryOp.{BinaryOp}
use Rattle.typed_tree.specs.declared.expressions.BinaryOp.TheVariants as binary
use Rattle.typed_tree.specs.declared.expressions.UnaryOp.{UnaryOp}
use Rattle.typed_tree.specs.declared.expressions.UnaryOp.TheVariants as unary
use Rattle.flat_code.specs.declared.tree.FlatOp.{FlatOp}
use Rattle.flat_code.specs.declared.tree.FlatOp.TheVariants as op
use Rattle.flat_code.specs.Tree.{Expr, Number, Op, Code, End, ◌then◌}
use Rattle.lower_values.specs.declared.forms.Form.{Form}
use Rattle.lower_values.specs.Nodes.{single, contrary, truth, low_byte, kept, is_signed, set, when}
use Rattle.lower_values.specs.Forms.{slot_at, word_in, low_word}

-- a relation of two words that are compared so
abbrev pub related : BinaryOp → FlatOp → Expr → Expr → Expr
related binary.Equal compare a b = Op op.Equal a b
related binary.NotEqual compare a b = contrary (Op op.Equal a b)
related binary.Less compare a b = Op compare a b
related binary.LessOrEqual compare a b = contrary (Op compare b a)
related binary.Greater compare a b = Op compare b a
related binary.GreaterOrEqual compare a b = contrary (Op compare a b)
related _ compare a b = Number 0

abbrev pub is_relation : BinaryOp → Bool
is_relation binary.Equal = true
is_relation binary.NotEqual = true
is_relation binary.Less = true
is_relation binary.LessOrEqual = true
is_relation binary.Greater = true
is_relation binary.GreaterOrEqual = true
is_relation _ = false

abbrev pub is_shift : BinaryOp → Bool
is_shift binary.ShiftLeft = true
is_shift binary.ShiftRight = true
is_shift _ = false

-- the bits of a host's number, with zeros above them
abbrev pub bits : Host → Expr → Expr
bits host word = if width_of host == 1 then low_byte word else word

abbrev pub word_op : BinaryOp → Bool → Option FlatOp
word_op binary.Add signed = Some op.Add
word_op binary.Subtract signed = Some op.Sub
word_op binary.Multiply signed = Some op.Mul
word_op binary.Divide signed = Some (if signed then op.Div else op.DivUnsigned)
word_op binary.Modulo signed = Some (if signed then op.Mod else op.ModUnsigned)
word_op binary.ShiftLeft signed = Some op.Shl
word_op binary.ShiftRight signed = Some op.Shr
word_op binary.And signed = Some op.And
word_op binary.Or signed = Some op.Or
word_op binary.Xor signed = Some op.Xor
word_op _ signed = None

-- zeros come in from the left of a number's own bits
abbrev pub shifted_operand : BinaryOp → Host → Expr → Expr
shifted_operand binary.ShiftRight host a = bits host a
shifted_operand _ host a = a

abbrev pub computed_by : Option FlatOp → Host → Expr → Expr → Expr
computed_by None host a b = Number 0
computed_by (Some one) host a b = kept host (Op one a b)

-- an operator that computes a number of a host
abbrev pub computed : BinaryOp → Host → Expr → Expr → Expr
computed operator host a b = computed_by (word_op operator (is_signed host)) host (shifted_operand operator host a) b

-- an operator on truth values
abbrev pub decided : BinaryOp → Expr → Expr → Expr
decided binary.And a b = Op op.And (truth a) (truth b)
decided binary.Or a b = Op op.Or (truth a) (truth b)
decided binary.Xor a b = Op op.Xor (truth a) (truth b)
decided _ a b = Number 0

-- how two words of a host are compared
abbrev pub less_of : Host → FlatOp
less_of host.Word = op.Below
less_of _ = op.Less

abbrev pub stored_value : BinaryOp → Host → Expr → Expr → Expr
stored_value operator host.Boolean a b = decided operator a b
stored_value operator host a b = computed operator host a b

-- an operator on a word that is a number of a host and another value, whose result is stored as a host
abbrev pub word_value : BinaryOp → Host → Host → Expr → Expr → Expr
word_value operator host stored a b = if is_relation operator then related operator (less_of host) a b else stored_value operator stored a b

abbrev pub word_binary : ℕ → BinaryOp → Host → Form → Host → ℕ → Code
word_binary locals operator host right stored slot =
    single (set (slot_at locals slot 2) (word_value operator host stored (word_in locals slot) (low_word locals right (slot + 2))))

abbrev pub complement : Host → Expr → Expr
complement host.Boolean word = contrary word
complement host word = kept host (Op op.Xor word (Number 65535))

abbrev pub word_unary : ℕ → UnaryOp → Host → ℕ → Code
word_unary locals unary.Plus stored slot = End
word_unary locals unary.Minus stored slot = single (set (slot_at locals slot 2) (kept stored (Op op.Sub (Number 0) (word_in locals slot))))
word_unary locals unary.Not stored slot = single (set (slot_at locals slot 2) (complement stored (word_in locals slot)))

-- the right side, as a truth value
abbrev pub told_right : ℕ → Code → ℕ → Code
told_right locals right slot = right then single (set (slot_at locals slot 2) (truth (word_in locals slot)))

abbrev pub chosen : ℕ → BinaryOp → Code → ℕ → Code
chosen locals binary.And right slot = when (word_in locals slot) (told_right locals right slot) End
chosen locals binary.Or right slot = when (word_in locals slot) (single (set (slot_at locals slot 2) (Number 1))) (told_right locals right slot)
chosen locals _ right slot = End

-- `and` or `or` that leaves its right side out where the left one decides
abbrev pub early : ℕ → BinaryOp → Code → Code → ℕ → Code
early locals operator left right slot = left then chosen locals operator right slot
