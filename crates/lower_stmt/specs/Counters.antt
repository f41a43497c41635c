-- The variable of a `for`: how it is compared, tested and stepped.
use Rattle.std.specs.Prelude.{ℕ, nat_le, ◌==◌, ◌&&◌, Bool, if◌then◌else◌, ℤ, pos, negsuc, int_le, [], ◌∷◌}
use Rattle.type_layout.specs.declared.definitions.Host.{Host}
use Rattle.type_layout.specs.Storage.{width_of, least_of, greatest_of}
use Rattle.flat_code.specs.declared.tree.Address.{Address}
use Rattle.flat_code.specs.declared.tree.FlatOp.{FlatOp}
use Rattle.flat_code.specs.declared.tree.FlatOp.TheVariants as op
use Rattle.flat_code.specs.Tree.{Expr, Byte, Word, Op, Step, StoreByte, StoreWord, Error, Code, End, ◌then◌}
use Rattle.runtime_units.specs.declared.numbers.numbers.RuntimeRoutine.TheVariants as routine
use Rattle.lower_places.specs.Reaches.{further}
use Rattle.lower_values.specs.declared.forms.Form.{Form}
use Rattle.lower_values.specs.declared.forms.Form.TheVariants as form
use Rattle.lower_values.specs.Nodes.{single, number, high_number, is_signed, runtime, when}
use Rattle.lower_values.specs.Forms.{slot_place, word_in, low_in, two_longs}
use Rattle.lower_stmt.specs.Words.{computed}

-- how a value lies in a slot
abbrev pub form_of_host : Host → Form
form_of_host host = if nat_le (width_of host) 2 then form.Word host else form.Long

-- how words of a host are compared
abbrev pub less_of : Host → FlatOp
less_of host = if is_signed host then op.Less else op.Below

-- Code behind which a word is not 0 where the number in one slot is less than that in another one, and that word; a LongInt's goes
-- to the scratch.
abbrev pub less_code : ℕ → Form → ℕ → ℕ → Address → Code
less_code locals (form.Word host) one other scratch = End
less_code locals _ one other scratch = single (computed routine.Less (two_longs locals one other) scratch 2)

abbrev pub less_word : ℕ → Form → ℕ → ℕ → Address → Expr
less_word locals (form.Word host) one other scratch = Op (less_of host) (word_in locals one) (word_in locals other)
less_word locals _ one other scratch = Word scratch

-- ---- the bounds of its type

-- bounds leave out no value of a host
abbrev pub is_open : Host → ℤ → ℤ → Bool
is_open host low high = int_le low (least_of host) && int_le (greatest_of host) high

abbrev pub long_tested : ℕ → ℤ → ℤ → ℕ → Step
long_tested locals low high slot = runtime routine.Range (low_in locals slot ∷ word_in locals slot ∷ number low ∷ high_number low ∷ number high ∷ high_number high ∷ [])

abbrev pub words_tested : ℕ → Host → ℤ → ℤ → ℕ → ℕ → Code
words_tested locals host low high least greatest =
    when (Op op.Or (Op (less_of host) (word_in locals least) (number low)) (Op (less_of host) (number high) (word_in locals greatest))) (single (Error 201)) End

-- error 201 where the number in one slot lies below bounds, or that in another one, which isn't less, above them
abbrev pub bounds_tested : ℕ → Host → ℤ → ℤ → ℕ → ℕ → Code
bounds_tested locals host low high least greatest =
    if is_open host low high then End
    else (if width_of host == 4 then single (long_tested locals low high least) then single (long_tested locals low high greatest)
    else words_tested locals host low high least greatest)

-- ---- turns

-- code behind which a word is not 0 where the variable has the value in a slot, and that word
abbrev pub last_code : ℕ → Host → Address → ℕ → Address → Code
last_code locals host at slot scratch =
    if width_of host == 4 then single (computed routine.Equal (Word at ∷ Word (further at 2) ∷ low_in locals slot ∷ word_in locals slot ∷ []) scratch 2) else End

abbrev pub last_word : ℕ → Host → Address → ℕ → Address → Expr
last_word locals host at slot scratch =
    if width_of host == 4 then Word scratch
    else (if width_of host == 1 then Op op.Equal (Byte at) (Byte (slot_place locals slot 2)) else Op op.Equal (Word at) (Word (slot_place locals slot 2)))

abbrev pub step_of : Bool → ℤ
step_of down = if down then negsuc 0 else pos 1

abbrev pub step_op : Bool → FlatOp
step_op down = if down then op.Sub else op.Add

abbrev pub long_stepped : Address → Bool → Step
long_stepped at down = computed routine.Sum (Word at ∷ Word (further at 2) ∷ number (step_of down) ∷ high_number (step_of down) ∷ []) at 4

-- the variable goes one step on
abbrev pub stepped : Host → Address → Bool → Step
stepped host at down =
    if width_of host == 4 then long_stepped at down
    else (if width_of host == 1 then StoreByte at (Op (step_op down) (Byte at) (number (pos 1))) else StoreWord at (Op (step_op down) (Word at) (number (pos 1))))
