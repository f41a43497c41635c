-- The labels of a `case`, tried on the number in a slot.
use Rattle.std.specs.Prelude.{ℕ, ◌||◌, if◌then◌else◌, ℤ, ◌-ℤ◌, int_lt, List, [], ◌∷◌}
use Rattle.std.specs.Int.{int_max, int_min}
use Rattle.std.specs.Ordering.{int_eq}
use Rattle.type_layout.specs.declared.definitions.Host.{Host}
use Rattle.typed_tree.specs.declared.statements.LabelRange.{LabelRange}
use Rattle.flat_code.specs.declared.tree.Address.{Address}
use Rattle.flat_code.specs.declared.tree.FlatOp.TheVariants as op
use Rattle.flat_code.specs.Tree.{Expr, Number, Word, Op, Code, End, ◌then◌}
use Rattle.runtime_units.specs.declared.numbers.numbers.RuntimeRoutine.TheVariants as routine
use Rattle.lower_values.specs.declared.forms.Form.{Form}
use Rattle.lower_values.specs.declared.forms.Form.TheVariants as form
use Rattle.lower_values.specs.Nodes.{single, contrary, number, high_number, is_signed, when}
use Rattle.lower_values.specs.Forms.{word_in, low_in}
use Rattle.lower_values.specs.Conversions.{least_word, greatest_word}
use Rattle.lower_stmt.specs.Words.{computed}

-- ---- words

-- Not 0 where a word lies from one word to another: how far it lies above the first one, on the circle of words, is not more than how
-- far the other does.
abbrev pub within : ℕ → ℤ → ℤ → ℕ → Expr
within locals low high slot =
    if int_eq low high then Op op.Equal (word_in locals slot) (number low)
    else contrary (Op op.Below (number (high -ℤ low)) (Op op.Sub (word_in locals slot) (number low)))

-- not 0 where a label covers it
abbrev pub covers : ℕ → Host → LabelRange → ℕ → Expr
covers locals host label slot =
    if int_lt label.high label.low || (int_lt (greatest_word (is_signed host)) label.low || int_lt label.high (least_word (is_signed host))) then Number 0
    else within locals (int_max label.low (least_word (is_signed host))) (int_min label.high (greatest_word (is_signed host))) slot

-- or one of some further labels does
abbrev pub covers_further : ℕ → Host → Expr → List LabelRange → ℕ → Expr
covers_further locals host test [] slot = test
covers_further locals host test (label ∷ labels) slot = covers_further locals host (Op op.Or test (covers locals host label slot)) labels slot

abbrev pub covers_any : ℕ → Host → List LabelRange → ℕ → Expr
covers_any locals host [] slot = Number 0
covers_any locals host (label ∷ labels) slot = covers_further locals host (covers locals host label slot) labels slot

-- ---- LongInts: the word goes to the scratch

abbrev pub between : ℕ → LabelRange → ℕ → Address → Code
between locals label slot scratch =
    single (computed routine.Between (low_in locals slot ∷ word_in locals slot ∷ number label.low ∷ high_number label.low ∷ number label.high ∷ high_number label.high ∷ []) scratch 2)

-- none is tried behind one that covers it
abbrev pub between_further : ℕ → List LabelRange → ℕ → Address → Code
between_further locals [] slot scratch = End
between_further locals (label ∷ labels) slot scratch = when (Word scratch) End (between locals label slot scratch) then between_further locals labels slot scratch

abbrev pub between_any : ℕ → List LabelRange → ℕ → Address → Code
between_any locals [] slot scratch = End
between_any locals (label ∷ labels) slot scratch = between locals label slot scratch then between_further locals labels slot scratch

abbrev pub found_word : List LabelRange → Address → Expr
found_word [] scratch = Number 0
found_word (label ∷ labels) scratch = Word scratch

-- ---- code behind which a word is not 0 where one of some labels covers the number, and that word

abbrev pub tested_code : ℕ → Form → List LabelRange → ℕ → Address → Code
tested_code locals (form.Word host) labels slot scratch = End
tested_code locals _ labels slot scratch = between_any locals labels slot scratch

abbrev pub tested_word : ℕ → Form → List LabelRange → ℕ → Address → Expr
tested_word locals (form.Word host) labels slot scratch = covers_any locals host labels slot
tested_word locals _ labels slot scratch = found_word labels scratch

-- a branch by its labels, and what comes where none covers the number
abbrev pub branch : ℕ → Form → List LabelRange → ℕ → Address → Code → Code → Code
branch locals form labels slot scratch taken other = tested_code locals form labels slot scratch then when (tested_word locals form labels slot scratch) taken other
