-- Operators on strings, and on pointers.
use Rattle.std.specs.Prelude.{ℕ, ◌+◌, List, [], ◌∷◌}
use Rattle.typed_tree.specs.declared.expressions.BinaryOp.{BinaryOp}
use Rattle.typed_tree.specs.declared.expressions.BinaryOp.TheVariants as binary
use Rattle.flat_code.specs.declared.tree.Address.{Address}
use Rattle.flat_code.specs.declared.tree.FlatOp.TheVariants as op
use Rattle.flat_code.specs.Tree.{Expr, Number, AddressOf, SegmentOf, Op, Code, End}
use Rattle.runtime_units.specs.declared.numbers.numbers.RuntimeRoutine.TheVariants as routine
use Rattle.lower_values.specs.declared.forms.Form.{Form}
use Rattle.lower_values.specs.Nodes.{single, pair, contrary, runtime, with_result, set}
use Rattle.lower_values.specs.Forms.{form_bytes, slot_at, slot_place, word_in, low_in, text_words}
use Rattle.lower_values.specs.WordOperators.{related}

-- a string goes to a place behind another one
abbrev pub joined : Address → Expr × Expr → Expr × Expr → Code
joined to first second = single (runtime routine.Concat (SegmentOf to ∷ AddressOf to ∷ first.0 ∷ first.1 ∷ second.0 ∷ second.1 ∷ []))

abbrev pub second_text : ℕ → Form → Form → ℕ → Expr × Expr
second_text locals left right slot = text_words locals right (slot + form_bytes left)

abbrev pub both : ℕ → Form → Form → ℕ → List Expr
both locals left right slot =
    (text_words locals left slot).0 ∷ (text_words locals left slot).1 ∷ (second_text locals left right slot).0 ∷ (second_text locals left right slot).1 ∷ []

-- how two strings are ordered, and then the order against 0
abbrev pub compared : ℕ → BinaryOp → List Expr → ℕ → Code
compared locals operator args slot =
    pair (with_result routine.Compare args (slot_at locals slot 2) 2) (set (slot_at locals slot 2) (related operator op.Less (word_in locals slot) (Number 0)))

abbrev pub text_binary : ℕ → BinaryOp → Form → Form → ℕ → Code
text_binary locals binary.Add left right slot = joined (slot_place locals slot 256) (text_words locals left slot) (second_text locals left right slot)
text_binary locals operator left right slot = compared locals operator (both locals left right slot) slot

abbrev pub same_pointer : ℕ → ℕ → Expr
same_pointer locals slot =
    Op op.And (Op op.Equal (low_in locals slot) (low_in locals (slot + 4))) (Op op.Equal (word_in locals slot) (word_in locals (slot + 4)))

abbrev pub pointer_binary : ℕ → BinaryOp → ℕ → Code
pointer_binary locals binary.Equal slot = single (set (slot_at locals slot 2) (same_pointer locals slot))
pointer_binary locals binary.NotEqual slot = single (set (slot_at locals slot 2) (contrary (same_pointer locals slot)))
pointer_binary locals _ slot = End
