-- The routines on text, as they stand in the unit.
use Rattle.std.proofs.Common.{ℕ, refl, sym}
use Rattle.flat_code.specs.Program.{FlatProgram, Choice}
use Rattle.flat_code.specs.Legal.{StackFits}
use Rattle.runtime_proofs.specs.text_memory.Data.{HasText}
use Rattle.rt_text.proofs.write_text.StringWriting.{writes-string}
use Rattle.rt_text.proofs.write_text.MadeWriting.{writes-char, writes-boolean}
use Rattle.rt_text.proofs.write_text.LineWriting.{writes-line}
use Rattle.rt_text.proofs.read_text.InputReading.{tells-eof, tells-eoln, reads-char}
use Rattle.rt_text.proofs.read_text.LineReading.{reads-line}
use Rattle.rt_text.proofs.write_numbers.IntegerWriting.{writes-integer}
use Rattle.rt_text.proofs.read_strings.StringReading.{reads-string}
use Rattle.rt_text.proofs.val_routines.Giving.{gives-value, gives-place}
use Rattle.rt_text.proofs.read_numbers.NumberReading.{reads-number}
use Rattle.rt_text.proofs.str_routines.TextMaking.{makes-text}
use Rattle.rt_text.specs.Unit.{text_code, HoldsTextUnit}
use Rattle.rt_text.specs.Specifications.{TextWorks}

pub text-works : (program : FlatProgram) (choice : Choice) (item ahead : ℕ) → StackFits program choice → HoldsTextUnit program → HasText program choice item ahead → TextWorks program choice item ahead
text-works program choice item ahead fits holds there = record {
  write_string = writes-string program choice item ahead text_code fits there (record { unit_is = sym holds.is_there; routine_is = refl; resident = holds.resident; untested = refl; far = refl; locals = refl });
  write_char = writes-char program choice item ahead text_code fits there (record { unit_is = sym holds.is_there; routine_is = refl; resident = holds.resident; untested = refl; far = refl; locals = refl });
  write_boolean = writes-boolean program choice item ahead text_code fits there (record { unit_is = sym holds.is_there; routine_is = refl; resident = holds.resident; untested = refl; far = refl; locals = refl });
  write_line = writes-line program choice item ahead text_code fits there (record { unit_is = sym holds.is_there; routine_is = refl; resident = holds.resident; untested = refl; far = refl; locals = refl });
  eof = tells-eof program choice item ahead text_code fits there (record { unit_is = sym holds.is_there; routine_is = refl; resident = holds.resident; untested = refl; far = refl; locals = refl });
  eoln = tells-eoln program choice item ahead text_code fits there (record { unit_is = sym holds.is_there; routine_is = refl; resident = holds.resident; untested = refl; far = refl; locals = refl });
  read_char = reads-char program choice item ahead text_code fits there (record { unit_is = sym holds.is_there; routine_is = refl; resident = holds.resident; untested = refl; far = refl; locals = refl });
  read_line = reads-line program choice item ahead text_code fits there (record { unit_is = sym holds.is_there; routine_is = refl; resident = holds.resident; untested = refl; far = refl; locals = refl });
  write_integer = writes-integer program choice item ahead text_code fits there (record { unit_is = sym holds.is_there; routine_is = refl; resident = holds.resident; untested = refl; far = refl; locals = refl });
  read_string = reads-string program choice item ahead text_code fits there (record { unit_is = sym holds.is_there; routine_is = refl; resident = holds.resident; untested = refl; far = refl; locals = refl });
  val_value = gives-value program choice text_code fits (record { unit_is = sym holds.is_there; routine_is = refl; resident = holds.resident; untested = refl; far = refl; locals = refl });
  val_place = gives-place program choice text_code fits (record { unit_is = sym holds.is_there; routine_is = refl; resident = holds.resident; untested = refl; far = refl; locals = refl });
  read_number = reads-number program choice item ahead text_code fits there (record { unit_is = sym holds.is_there; routine_is = refl; resident = holds.resident; untested = refl; far = refl; locals = refl });
  str_integer = makes-text program choice item ahead text_code fits there (record { unit_is = sym holds.is_there; routine_is = refl; resident = holds.resident; untested = refl; far = refl; locals = refl });
}
