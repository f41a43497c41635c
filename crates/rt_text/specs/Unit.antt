-- The unit of the runtime's routines on text.
use Rattle.std.specs.Prelude.{◌≡◌, false, List, [], ◌∷◌, ◌++◌, Some, None, codes}
use Rattle.flat_code.specs.Program.{Routine, UnitCode, FlatProgram, text_unit}
use Rattle.runtime_proofs.specs.text_memory.Data.{item_datum, ahead_datum}
use Rattle.rt_text.specs.write_text.Routines.{write_string_routine, write_char_routine, write_boolean_routine, write_line_routine}
use Rattle.rt_text.specs.read_text.Routines.{eof_routine, eoln_routine, read_char_routine, read_line_routine}
use Rattle.rt_text.specs.write_numbers.Routines.{write_integer_routine}
use Rattle.rt_text.specs.read_strings.Routines.{read_string_routine}
use Rattle.rt_text.specs.val_routines.Routines.{val_value_routine, val_place_routine}
use Rattle.rt_text.specs.read_numbers.Routines.{read_number_routine}
use Rattle.rt_text.specs.str_routines.Routines.{str_routine}

-- in the order of their numbers
abbrev pub character_codes : List Routine
character_codes =
    write_string_routine ∷ write_char_routine ∷ write_boolean_routine ∷ write_line_routine ∷ eof_routine ∷ eoln_routine ∷ read_char_routine ∷ read_line_routine ∷ []

abbrev pub item_codes : List Routine
item_codes = write_integer_routine ∷ read_string_routine ∷ val_value_routine ∷ val_place_routine ∷ read_number_routine ∷ str_routine ∷ []

abbrev pub text_code : UnitCode
text_code = record {
  names = codes "TEXT" ∷ [];
  routines = character_codes ++ item_codes;
  globals = item_datum ∷ ahead_datum ∷ [];
  vmts = [];
  initial = None;
}

-- a program that holds the unit, not overlaid
pub record HoldsTextUnit (program : FlatProgram) : Type 0 where
  pub is_there : program.unit text_unit ≡ Some text_code
  pub resident : program.overlaid text_unit ≡ false
