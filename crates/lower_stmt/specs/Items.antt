-- Write and Read, behind what their items ask for.
use Rattle.std.specs.Prelude.{ℕ, Bool, true, false, ◌==◌, if◌then◌else◌, ℤ, List, [], ◌∷◌, Option, Some, None}
use Rattle.type_layout.specs.declared.definitions.Host.{Host}
use Rattle.type_layout.specs.declared.definitions.Host.TheVariants as host
use Rattle.type_layout.specs.Storage.{width_of}
use Rattle.flat_code.specs.declared.tree.Address.{Address}
use Rattle.flat_code.specs.Tree.{Expr, Number, Byte, Word, AddressOf, SegmentOf, Step, StoreByte, StoreWord, Copy, Code, End, ◌then◌}
use Rattle.runtime_units.specs.declared.numbers.numbers.RuntimeRoutine.{RuntimeRoutine}
use Rattle.runtime_units.specs.declared.numbers.numbers.RuntimeRoutine.TheVariants as routine
use Rattle.lower_values.specs.declared.forms.Form.{Form}
use Rattle.lower_values.specs.declared.forms.Form.TheVariants as form
use Rattle.lower_values.specs.Nodes.{single, pair, number, high_number, runtime}
use Rattle.lower_values.specs.Forms.{word_in, long_words, text_words}
use Rattle.lower_places.specs.declared.sorts.Shape.{Shape}
use Rattle.lower_places.specs.declared.sorts.Shape.TheVariants as shape
use Rattle.lower_stmt.specs.Words.{computed}

-- ---- Write

abbrev pub number_written : ℕ → Form → Expr → ℕ → Step
number_written locals form width slot = runtime routine.WriteInteger ((long_words locals form slot).0 ∷ (long_words locals form slot).1 ∷ width ∷ [])

abbrev pub word_written : ℕ → Host → Expr → ℕ → Step
word_written locals host.Char width slot = runtime routine.WriteChar (word_in locals slot ∷ width ∷ [])
word_written locals host.Boolean width slot = runtime routine.WriteBoolean (word_in locals slot ∷ width ∷ [])
word_written locals host.ShortInt width slot = number_written locals (form.Word host.ShortInt) width slot
word_written locals host.Byte width slot = number_written locals (form.Word host.Byte) width slot
word_written locals host.Integer width slot = number_written locals (form.Word host.Integer) width slot
word_written locals host.Word width slot = number_written locals (form.Word host.Word) width slot
word_written locals host.LongInt width slot = number_written locals (form.Word host.LongInt) width slot
word_written locals host.Enumeration width slot = number_written locals (form.Word host.Enumeration) width slot

abbrev pub text_written : ℕ → Form → Expr → ℕ → Step
text_written locals form width slot = runtime routine.WriteString ((text_words locals form slot).0 ∷ (text_words locals form slot).1 ∷ width ∷ [])

-- what lies in a slot is written in a field of a width
abbrev pub written : ℕ → Form → Expr → ℕ → Step
written locals (form.Word host) width slot = word_written locals host width slot
written locals form.Long width slot = number_written locals form.Long width slot
written locals form.Text width slot = text_written locals form.Text width slot
written locals form.Literal width slot = text_written locals form.Literal width slot
written locals form.Set width slot = text_written locals form.Set width slot
written locals form.Far width slot = text_written locals form.Far width slot

-- a routine of the runtime on the end of a line, where there is one
abbrev pub line_end : RuntimeRoutine → Bool → Code
line_end routine line = if line then single (runtime routine []) else End

-- ---- Read

-- the low bytes of what the scratch holds, to a place that has as many
abbrev pub kept_scratch : ℕ → Address → Address → Step
kept_scratch width scratch to =
    if width == 1 then StoreByte to (Byte scratch) else (if width == 2 then StoreWord to (Word scratch) else Copy to scratch 4)

-- error 201 where the LongInt in the scratch lies outside of bounds
abbrev pub scratch_tested : Address → Address → Option (ℤ × ℤ) → Code
scratch_tested scratch above None = End
scratch_tested scratch above (Some bounds) =
    single (runtime routine.Range (Word scratch ∷ Word above ∷ number bounds.0 ∷ high_number bounds.0 ∷ number bounds.1 ∷ high_number bounds.1 ∷ []))

abbrev pub number_read : Host → Option (ℤ × ℤ) → Address → Address → Address → Code
number_read host bounds scratch above to =
    single (computed routine.ReadNumber [] scratch 4) then (scratch_tested scratch above bounds then single (kept_scratch (width_of host) scratch to))

abbrev pub char_read : Address → Address → Code
char_read scratch to = pair (computed routine.ReadChar [] scratch 2) (kept_scratch 1 scratch to)

abbrev pub text_read : ℕ → Address → Code
text_read max to = single (runtime routine.ReadString (SegmentOf to ∷ AddressOf to ∷ Number max ∷ []))

abbrev pub bounds_if : Bool → ℤ → ℤ → Option (ℤ × ℤ)
bounds_if checked low high = if checked then Some (low, high) else None

abbrev pub ordinal_read : Host → Option (ℤ × ℤ) → Address → Address → Address → Code
ordinal_read host.Char bounds scratch above to = char_read scratch to
ordinal_read host.ShortInt bounds scratch above to = number_read host.ShortInt bounds scratch above to
ordinal_read host.Byte bounds scratch above to = number_read host.Byte bounds scratch above to
ordinal_read host.Integer bounds scratch above to = number_read host.Integer bounds scratch above to
ordinal_read host.Word bounds scratch above to = number_read host.Word bounds scratch above to
ordinal_read host.LongInt bounds scratch above to = number_read host.LongInt bounds scratch above to
ordinal_read host.Boolean bounds scratch above to = number_read host.Boolean bounds scratch above to
ordinal_read host.Enumeration bounds scratch above to = number_read host.Enumeration bounds scratch above to

-- a place is filled by its type
abbrev pub filled : Shape → Bool → Address → Address → Address → Code
filled (shape.Number host low high) checked scratch above to = ordinal_read host (bounds_if checked low high) scratch above to
filled (shape.Text max) checked scratch above to = text_read max to
filled _ checked scratch above to = End
