-- What the routines of OVERLAY find in memory: the variable OvrResult, and the name of the program's overlay file.
use Rattle.std.specs.Prelude.{◌≡◌, ℕ, ◌+◌, ◌≤◌, ◌<◌, [], length, Some}
use Rattle.flat_code.specs.Memory.{Cells}
use Rattle.flat_code.specs.Program.{Key, Datum, FlatProgram, Choice, overlay_unit, ovr_name_key}
use Rattle.flat_code.specs.Meaning.{stack_top}
use Rattle.runtime_proofs.specs.strings_in_memory.Strings.{HasString, IsReached, IsOffStack, place}

abbrev pub ovr_result_key : Key
ovr_result_key = record { unit = overlay_unit; number = 0 }

-- first 0
abbrev pub ovr_result_datum : Datum
ovr_result_datum = record { size = 2; first = [] }

-- a string of at most 80 bytes, which a program gets as it starts
abbrev pub ovr_name_datum : Datum
ovr_name_datum = record { size = 81; first = [] }

-- both lie at these offsets of the data segment, apart from the stack
pub record HasOverlay (program : FlatProgram) (choice : Choice) (result name : ℕ) : Type 0 where
  pub result_is : choice.datum ovr_result_key ≡ Some result
  pub name_is : choice.datum ovr_name_key ≡ Some name
  pub result_small : result + 2 ≤ 65520
  pub name_small : name + 81 ≤ 65520
  pub segment : choice.data_segment < 65536
  pub result_off : IsOffStack choice (stack_top program) (place choice.data_segment result) 2
  pub name_off : IsOffStack choice (stack_top program) (place choice.data_segment name) 81

-- the variable can be reached
abbrev pub HasResult : Choice → ℕ → Cells → Type 0
HasResult choice result m = IsReached m (place choice.data_segment result) 2

-- and the name stands there
pub record HasName (program : FlatProgram) (choice : Choice) (result name : ℕ) (m : Cells) : Type 0 where
  pub fits : length program.ovr_name ≤ 80
  pub result_there : HasResult choice result m
  pub name_there : HasString m (place choice.data_segment name) program.ovr_name
