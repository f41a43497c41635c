-- What the runtime promises of each routine on LongInts: with how much of the stack, of turns and of work.
use Rattle.flat_code.specs.Program.{FlatProgram, Choice, runtime_key}
use Rattle.flat_code.specs.Gives.{Computes}
use Rattle.flat_code.specs.Runtime.{negation_number, product_number, less_number, quotient_number, remainder_number, negation_of, product_of, less_of, quotient_of, remainder_of}
use Rattle.rt_strings.specs.long_integers.Numbers.{sum_number, difference_number, equal_number, left_shift_number, right_shift_number, range_number, between_number, sum_of, difference_of, equal_of, left_shift_of, right_shift_of, range_of, between_of}

abbrev pub Negates : FlatProgram → Choice → Type 0
Negates program choice = Computes program choice (runtime_key negation_number) 32 2 negation_of 0 64

abbrev pub Multiplies : FlatProgram → Choice → Type 0
Multiplies program choice = Computes program choice (runtime_key product_number) 64 4 product_of 0 64

abbrev pub Compares : FlatProgram → Choice → Type 0
Compares program choice = Computes program choice (runtime_key less_number) 64 4 less_of 0 64

abbrev pub Divides : FlatProgram → Choice → Type 0
Divides program choice = Computes program choice (runtime_key quotient_number) 64 4 quotient_of 64 4096

abbrev pub TakesRemainder : FlatProgram → Choice → Type 0
TakesRemainder program choice = Computes program choice (runtime_key remainder_number) 64 4 remainder_of 64 4096

abbrev pub Adds : FlatProgram → Choice → Type 0
Adds program choice = Computes program choice (runtime_key sum_number) 64 4 sum_of 0 64

abbrev pub Subtracts : FlatProgram → Choice → Type 0
Subtracts program choice = Computes program choice (runtime_key difference_number) 64 4 difference_of 0 64

abbrev pub TestsEqual : FlatProgram → Choice → Type 0
TestsEqual program choice = Computes program choice (runtime_key equal_number) 64 4 equal_of 0 64

abbrev pub ShiftsLeft : FlatProgram → Choice → Type 0
ShiftsLeft program choice = Computes program choice (runtime_key left_shift_number) 64 3 left_shift_of 0 128

abbrev pub ShiftsRight : FlatProgram → Choice → Type 0
ShiftsRight program choice = Computes program choice (runtime_key right_shift_number) 64 3 right_shift_of 0 128

abbrev pub TestsRange : FlatProgram → Choice → Type 0
TestsRange program choice = Computes program choice (runtime_key range_number) 64 6 range_of 0 128

abbrev pub TestsBetween : FlatProgram → Choice → Type 0
TestsBetween program choice = Computes program choice (runtime_key between_number) 64 6 between_of 0 64

-- all of them
pub record NumbersWork (program : FlatProgram) (choice : Choice) : Type 0 where
  pub negation : Negates program choice
  pub product : Multiplies program choice
  pub less : Compares program choice
  pub quotient : Divides program choice
  pub remainder : TakesRemainder program choice
  pub sum : Adds program choice
  pub difference : Subtracts program choice
  pub equal : TestsEqual program choice
  pub left_shift : ShiftsLeft program choice
  pub right_shift : ShiftsRight program choice
  pub range : TestsRange program choice
  pub between : TestsBetween program choice
