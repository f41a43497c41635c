-- Ordinals that are converted, and tests of their bounds.
use Rattle.std.specs.Prelude.{ℕ, ◌+◌, ◌==◌, ◌||◌, if◌then◌else◌, ℤ, pos, negsuc, ◌+ℤ◌, int_lt, [], ◌∷◌, Bool}
use Rattle.std.specs.Int.{int_max, int_min}
use Rattle.type_layout.specs.declared.definitions.Host.{Host}
use Rattle.type_layout.specs.Storage.{width_of}
use Rattle.flat_code.specs.declared.tree.Address.TheVariants.{Local}
use Rattle.flat_code.specs.declared.tree.FlatOp.{FlatOp}
use Rattle.flat_code.specs.declared.tree.FlatOp.TheVariants as op
use Rattle.flat_code.specs.Tree.{Number, Op, StoreByte, Error, Code, End, ◌then◌}
use Rattle.runtime_units.specs.declared.numbers.numbers.RuntimeRoutine.TheVariants as routine
use Rattle.lower_values.specs.declared.forms.Form.{Form}
use Rattle.lower_values.specs.declared.forms.Form.TheVariants as form
use Rattle.lower_values.specs.Nodes.{single, pair, number, high_number, kept, is_signed, extension, with_result, set, when}
use Rattle.lower_values.specs.Forms.{slot_at, word_in, low_in}

-- a word becomes a LongInt
abbrev pub widened : ℕ → Host → ℕ → Code
widened locals host slot = pair (set (slot_at locals slot 4) (word_in locals slot)) (set (slot_at locals slot 2) (extension host (word_in locals slot)))

-- a character becomes a string
abbrev pub spelled : ℕ → ℕ → Code
spelled locals slot =
    pair (StoreByte (Local (slot_at locals slot 256)) (Number 1)) (StoreByte (Local (slot_at locals slot 256 +ℤ pos 1)) (word_in locals slot))

-- an ordinal by the low bytes of what stores another type, or a Char as a string
abbrev pub converted : ℕ → Form → Form → ℕ → Code
converted locals (form.Word from) (form.Word host) slot =
    if width_of host == 2 then End else single (set (slot_at locals slot 2) (kept host (word_in locals slot)))
converted locals (form.Word from) form.Long slot = widened locals from slot
converted locals form.Long (form.Word host) slot = single (set (slot_at locals slot 2) (kept host (low_in locals slot)))
converted locals (form.Word from) form.Text slot = spelled locals slot
converted locals _ _ slot = End

-- an ordinal in a slot of another width
abbrev pub fitted : ℕ → Form → Form → ℕ → Code
fitted locals (form.Word from) (form.Word host) slot = End
fitted locals from to slot = converted locals from to slot

abbrev pub error : ℕ → Code
error code = single (Error code)

-- error 201 unless a word lies within bounds
abbrev pub tested_word : ℕ → FlatOp → ℤ → ℤ → ℕ → Code
tested_word locals less low high slot =
    when (Op op.Or (Op less (word_in locals slot) (number low)) (Op less (number high) (word_in locals slot))) (error 201) End

-- what a word stands for by its sign
abbrev pub least_word : Bool → ℤ
least_word signed = if signed then negsuc 32767 else pos 0

abbrev pub greatest_word : Bool → ℤ
greatest_word signed = if signed then pos 32767 else pos 65535

abbrev pub less_word : Bool → FlatOp
less_word signed = if signed then op.Less else op.Below

abbrev pub ranged_by : ℕ → Bool → ℤ → ℤ → ℕ → Code
ranged_by locals signed low high slot =
    if int_lt (greatest_word signed) low || int_lt high (least_word signed) then error 201
    else tested_word locals (less_word signed) (int_max low (least_word signed)) (int_min high (greatest_word signed)) slot

abbrev pub ranged_word : ℕ → Host → ℤ → ℤ → ℕ → Code
ranged_word locals host low high slot = ranged_by locals (is_signed host) low high slot

abbrev pub ranged_long : ℕ → ℤ → ℤ → ℕ → Code
ranged_long locals low high slot =
    single (with_result routine.Range (low_in locals slot ∷ word_in locals slot ∷ number low ∷ high_number low ∷ number high ∷ high_number high ∷ []) (slot_at locals slot 4) 4)

-- error 201 unless an ordinal lies within bounds
abbrev pub ranged : ℕ → Form → ℤ → ℤ → ℕ → Code
ranged locals (form.Word host) low high slot = ranged_word locals host low high slot
ranged locals _ low high slot = ranged_long locals low high slot
