-- Operators on LongInts.
use Rattle.std.specs.Prelude.{ℕ, ◌+◌, Bool, true, false, if◌then◌else◌, List, [], ◌∷◌}
use Rattle.typed_tree.specs.declared.expressions.BinaryOp.{BinaryOp}
use Rattle.typed_tree.specs.declared.expressions.BinaryOp.TheVariants as binary
use Rattle.typed_tree.specs.declared.expressions.UnaryOp.{UnaryOp}
use Rattle.typed_tree.specs.declared.expressions.UnaryOp.TheVariants as unary
use Rattle.flat_code.specs.declared.tree.FlatOp.{FlatOp}
use Rattle.flat_code.specs.declared.tree.FlatOp.TheVariants as op
use Rattle.flat_code.specs.Tree.{Expr, Number, Op, Code, End}
use Rattle.runtime_units.specs.declared.numbers.numbers.RuntimeRoutine.{RuntimeRoutine}
use Rattle.runtime_units.specs.declared.numbers.numbers.RuntimeRoutine.TheVariants as routine
use Rattle.lower_values.specs.declared.forms.Form.{Form}
use Rattle.lower_values.specs.Nodes.{single, pair, contrary, with_result, set}
use Rattle.lower_values.specs.Forms.{slot_at, word_in, low_in, low_word, two_longs}

-- a routine of the runtime gives a LongInt to a slot, or a truth value, or what is contrary to that
abbrev pub long_result : ℕ → RuntimeRoutine → List Expr → ℕ → Code
long_result locals routine args slot = single (with_result routine args (slot_at locals slot 4) 4)

abbrev pub told : ℕ → RuntimeRoutine → List Expr → Bool → ℕ → Code
told locals routine args is_contrary slot =
    if is_contrary
    then pair (with_result routine args (slot_at locals slot 2) 2) (set (slot_at locals slot 2) (contrary (word_in locals slot)))
    else single (with_result routine args (slot_at locals slot 2) 2)

-- an operator on bits, of the words of both
abbrev pub on_bits : ℕ → FlatOp → ℕ → Code
on_bits locals one slot =
    pair (set (slot_at locals slot 4) (Op one (low_in locals slot) (low_in locals (slot + 4))))
    (set (slot_at locals slot 2) (Op one (word_in locals slot) (word_in locals (slot + 4))))

abbrev pub shift_words : ℕ → Form → ℕ → List Expr
shift_words locals right slot = low_in locals slot ∷ word_in locals slot ∷ low_word locals right (slot + 4) ∷ []

abbrev pub long_shift : ℕ → BinaryOp → Form → ℕ → Code
long_shift locals binary.ShiftLeft right slot = long_result locals routine.LeftShift (shift_words locals right slot) slot
long_shift locals binary.ShiftRight right slot = long_result locals routine.RightShift (shift_words locals right slot) slot
long_shift locals _ right slot = End

-- in the order of the operands, or the other way round
abbrev pub onward : ℕ → ℕ → List Expr
onward locals slot = two_longs locals slot (slot + 4)

abbrev pub backward : ℕ → ℕ → List Expr
backward locals slot = two_longs locals (slot + 4) slot

abbrev pub long_binary : ℕ → BinaryOp → ℕ → Code
long_binary locals binary.Add slot = long_result locals routine.Sum (onward locals slot) slot
long_binary locals binary.Subtract slot = long_result locals routine.Difference (onward locals slot) slot
long_binary locals binary.Multiply slot = long_result locals routine.Product (onward locals slot) slot
long_binary locals binary.Divide slot = long_result locals routine.Quotient (onward locals slot) slot
long_binary locals binary.Modulo slot = long_result locals routine.Remainder (onward locals slot) slot
long_binary locals binary.And slot = on_bits locals op.And slot
long_binary locals binary.Or slot = on_bits locals op.Or slot
long_binary locals binary.Xor slot = on_bits locals op.Xor slot
long_binary locals binary.Equal slot = told locals routine.Equal (onward locals slot) false slot
long_binary locals binary.NotEqual slot = told locals routine.Equal (onward locals slot) true slot
long_binary locals binary.Less slot = told locals routine.Less (onward locals slot) false slot
long_binary locals binary.LessOrEqual slot = told locals routine.Less (backward locals slot) true slot
long_binary locals binary.Greater slot = told locals routine.Less (backward locals slot) false slot
long_binary locals binary.GreaterOrEqual slot = told locals routine.Less (onward locals slot) true slot
long_binary locals _ slot = End

abbrev pub long_negation : ℕ → ℕ → Code
long_negation locals slot = long_result locals routine.Negation (low_in locals slot ∷ word_in locals slot ∷ []) slot

abbrev pub long_unary : ℕ → UnaryOp → ℕ → Code
long_unary locals unary.Plus slot = End
long_unary locals unary.Minus slot = long_negation locals slot
long_unary locals unary.Not slot =
    pair (set (slot_at locals slot 4) (Op op.Xor (low_in locals slot) (Number 65535)))
    (set (slot_at locals slot 2) (Op op.Xor (word_in locals slot) (Number 65535)))
