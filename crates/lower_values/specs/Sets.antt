-- Operators on sets, and sets that are made of elements.
use Rattle.std.specs.Prelude.{ℕ, ◌+◌, Bool, true, false, if◌then◌else◌, List, [], ◌∷◌, Option, Some, None}
use Rattle.typed_tree.specs.declared.expressions.BinaryOp.{BinaryOp}
use Rattle.typed_tree.specs.declared.expressions.BinaryOp.TheVariants as binary
use Rattle.flat_code.specs.declared.tree.Address.{Address}
use Rattle.flat_code.specs.declared.tree.FlatOp.{FlatOp}
use Rattle.flat_code.specs.declared.tree.FlatOp.TheVariants as op
use Rattle.flat_code.specs.Tree.{Expr, Number, AddressOf, SegmentOf, Op, Code, End}
use Rattle.runtime_units.specs.declared.numbers.numbers.RuntimeRoutine.{RuntimeRoutine}
use Rattle.runtime_units.specs.declared.numbers.numbers.RuntimeRoutine.TheVariants as routine
use Rattle.lower_values.specs.declared.forms.Form.{Form}
use Rattle.lower_values.specs.declared.forms.Form.TheVariants as form
use Rattle.lower_values.specs.Nodes.{single, is_signed, runtime, clear, when}
use Rattle.lower_values.specs.Forms.{form_bytes, slot_at, slot_place, word_in, low_word, long_words}
use Rattle.lower_values.specs.LongOperators.{told}

-- the segments and the offsets of places
abbrev pub places : List Address → List Expr
places [] = []
places (at ∷ rest) = SegmentOf at ∷ AddressOf at ∷ places rest

abbrev pub left_set : ℕ → ℕ → Address
left_set locals slot = slot_place locals slot 32

abbrev pub right_set : ℕ → ℕ → Address
right_set locals slot = slot_place locals (slot + 32) 32

abbrev pub combined : ℕ → RuntimeRoutine → ℕ → Code
combined locals routine slot = single (runtime routine (places (left_set locals slot ∷ left_set locals slot ∷ right_set locals slot ∷ [])))

abbrev pub compared_words : ℕ → Bool → ℕ → List Expr
compared_words locals onward slot =
    if onward then places (left_set locals slot ∷ right_set locals slot ∷ []) else places (right_set locals slot ∷ left_set locals slot ∷ [])

abbrev pub compared : ℕ → RuntimeRoutine → Bool → Bool → ℕ → Code
compared locals routine onward contrary slot = told locals routine (compared_words locals onward slot) contrary slot

abbrev pub set_binary : ℕ → BinaryOp → ℕ → Code
set_binary locals binary.Add slot = combined locals routine.Union slot
set_binary locals binary.Subtract slot = combined locals routine.SetDifference slot
set_binary locals binary.Multiply slot = combined locals routine.Intersection slot
set_binary locals binary.Equal slot = compared locals routine.SameSet true false slot
set_binary locals binary.NotEqual slot = compared locals routine.SameSet true true slot
set_binary locals binary.LessOrEqual slot = compared locals routine.Subset true false slot
set_binary locals binary.GreaterOrEqual slot = compared locals routine.Subset false false slot
set_binary locals _ slot = End

-- whether an ordinal is an element of the set in the next slot
abbrev pub membership : ℕ → Form → ℕ → Code
membership locals left slot =
    told locals routine.Member
    ((long_words locals left slot).0 ∷ (long_words locals left slot).1 ∷ SegmentOf (slot_place locals (slot + form_bytes left) 32) ∷ AddressOf (slot_place locals (slot + form_bytes left) 32) ∷ []) false slot

abbrev pub emptied : ℕ → ℕ → Code
emptied locals slot = single (clear (slot_at locals slot 32) 32)

-- the set in a slot gets the ordinals from one word to another
abbrev pub included : ℕ → ℕ → Expr → Expr → Code
included locals set low high = single (runtime routine.Include (SegmentOf (slot_place locals set 32) ∷ AddressOf (slot_place locals set 32) ∷ low ∷ high ∷ []))

abbrev pub with_element : ℕ → ℕ → Form → ℕ → Code
with_element locals set form slot = included locals set (low_word locals form slot) (low_word locals form slot)

-- a word that is 0 where an ordinal lies in 0..65535
abbrev pub outside : ℕ → Form → ℕ → Expr
outside locals (form.Word host) slot = if is_signed host then Op op.Less (word_in locals slot) (Number 0) else Number 0
outside locals _ slot = word_in locals slot

abbrev pub same_sign : Bool → Bool → Option FlatOp
same_sign true true = Some op.Less
same_sign false false = Some op.Below
same_sign _ _ = None

-- how words of one sign are compared
abbrev pub compare_of : Form → Form → Option FlatOp
compare_of (form.Word one) (form.Word other) = same_sign (is_signed one) (is_signed other)
compare_of _ _ = None

abbrev pub is_empty_by : ℕ → Option FlatOp → Form → Form → ℕ → Expr
is_empty_by locals (Some less) low high slot = Op less (low_word locals high (slot + form_bytes low)) (low_word locals low slot)
is_empty_by locals None low high slot =
    Op op.Or (Op op.Or (outside locals low slot) (outside locals high (slot + form_bytes low)))
    (Op op.Below (low_word locals high (slot + form_bytes low)) (low_word locals low slot))

-- not 0 where a range adds no elements, or is out of all bounds
abbrev pub is_empty : ℕ → Form → Form → ℕ → Expr
is_empty locals low high slot = is_empty_by locals (compare_of low high) low high slot

abbrev pub with_span : ℕ → ℕ → Form → Form → ℕ → Code
with_span locals set low high slot =
    when (is_empty locals low high slot) End (included locals set (low_word locals low slot) (low_word locals high (slot + form_bytes low)))
