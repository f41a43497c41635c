-- What the runtime promises of its routines on text, all of them.
use Rattle.std.specs.Prelude.{ℕ, List}
use Rattle.flat_code.specs.Program.{FlatProgram, Choice}
use Rattle.flat_code.specs.Meaning.{start_cells}
use Rattle.runtime_proofs.specs.text_memory.Data.{HasItem}
use Rattle.rt_text.specs.write_text.Specifications.{WritesString, WritesChar, WritesBoolean, WritesLine}
use Rattle.rt_text.specs.read_text.Specifications.{AreBytes, HasInput, TellsEof, TellsEoln, ReadsChar, ReadsLine}
use Rattle.rt_text.specs.write_numbers.Specifications.{WritesInteger}
use Rattle.rt_text.specs.read_strings.Specifications.{ReadsString}
use Rattle.rt_text.specs.val_routines.Specifications.{GivesValue, GivesPlace}
use Rattle.rt_text.specs.read_numbers.Specifications.{ReadsNumber}
use Rattle.rt_text.specs.str_routines.Specifications.{MakesText}

pub record TextWorks (program : FlatProgram) (choice : Choice) (item ahead : ℕ) : Type 0 where
  pub write_string : WritesString program choice item
  pub write_char : WritesChar program choice item
  pub write_boolean : WritesBoolean program choice item
  pub write_line : WritesLine program choice item
  pub eof : TellsEof program choice ahead
  pub eoln : TellsEoln program choice ahead
  pub read_char : ReadsChar program choice ahead
  pub read_line : ReadsLine program choice ahead
  pub write_integer : WritesInteger program choice item
  pub read_string : ReadsString program choice ahead
  pub val_value : GivesValue program choice
  pub val_place : GivesPlace program choice
  pub read_number : ReadsNumber program choice ahead
  pub str_integer : MakesText program choice item

-- As a program starts its item buffer is as the routines want it, and nothing of its input was read.
pub record StartsText (program : FlatProgram) (choice : Choice) (item ahead : ℕ) : Type 0 where
  pub buffer : HasItem choice item (start_cells program choice)
  pub input : (input : List ℕ) → AreBytes input → HasInput choice ahead (start_cells program choice) input input
