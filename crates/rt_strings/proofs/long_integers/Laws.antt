-- The laws of the routines, as lemmas.
use Rattle.std.proofs.Common.{refl, arith}
use Rattle.flat_code.specs.Program.{FlatProgram, Choice, UnitCode, runtime_key}
use Rattle.flat_code.specs.Legal.{StackFits}
use Rattle.runtime_proofs.specs.routine_proofs.Specifications.{IsHeld}
use Rattle.flat_code.specs.Runtime.{negation_number, product_number, less_number, quotient_number, remainder_number, negation_of, product_of, less_of, quotient_of, remainder_of, negation_routine}
use Rattle.runtime_proofs.proofs.routine_proofs.Calls.{computes-so}
use Rattle.rt_strings.specs.long_integers.Routines.{product_routine, less_routine, sum_routine, difference_routine, equal_routine, left_shift_routine, right_shift_routine, range_routine, between_routine}
use Rattle.rt_strings.specs.long_integers.Division.{quotient_routine, remainder_routine}
use Rattle.rt_strings.specs.long_integers.Numbers.{sum_number, difference_number, equal_number, left_shift_number, right_shift_number, range_number, between_number, sum_of, difference_of, equal_of, left_shift_of, right_shift_of, range_of, between_of}
use Rattle.rt_strings.proofs.long_integers.WordReplies.{negation-replies, product-replies, less-replies, sum-replies, difference-replies, equal-replies}
use Rattle.rt_strings.proofs.long_integers.ShiftReplies.{left-replies, right-replies}
use Rattle.rt_strings.proofs.long_integers.RangeReplies.{range-replies, between-replies}
use Rattle.rt_strings.proofs.long_integers.DivisionReplies.{quotient-replies, remainder-replies}
use Rattle.rt_strings.specs.long_integers.Specifications.{Negates, Multiplies, Compares, Divides, TakesRemainder, Adds, Subtracts, TestsEqual, ShiftsLeft, ShiftsRight, TestsRange, TestsBetween}

pub negation : (program : FlatProgram) (choice : Choice) (unit : UnitCode) → StackFits program choice → IsHeld program (runtime_key negation_number) unit negation_routine → Negates program choice
negation program choice unit fits held_so = computes-so program choice (runtime_key negation_number) unit negation_routine 32 2 0 64 negation_of held_so fits refl (omega arith) (λ args own sp s are placed. negation-replies program choice own sp s placed args are)

pub product : (program : FlatProgram) (choice : Choice) (unit : UnitCode) → StackFits program choice → IsHeld program (runtime_key product_number) unit product_routine → Multiplies program choice
product program choice unit fits held_so = computes-so program choice (runtime_key product_number) unit product_routine 64 4 0 64 product_of held_so fits refl (omega arith) (λ args own sp s are placed. product-replies program choice own sp s placed args are)

pub less : (program : FlatProgram) (choice : Choice) (unit : UnitCode) → StackFits program choice → IsHeld program (runtime_key less_number) unit less_routine → Compares program choice
less program choice unit fits held_so = computes-so program choice (runtime_key less_number) unit less_routine 64 4 0 64 less_of held_so fits refl (omega arith) (λ args own sp s are placed. less-replies program choice own sp s placed args are)

pub quotient : (program : FlatProgram) (choice : Choice) (unit : UnitCode) → StackFits program choice → IsHeld program (runtime_key quotient_number) unit quotient_routine → Divides program choice
quotient program choice unit fits held_so = computes-so program choice (runtime_key quotient_number) unit quotient_routine 64 4 64 4096 quotient_of held_so fits refl (omega arith) (λ args own sp s are placed. quotient-replies program choice own sp s placed args are)

pub remainder : (program : FlatProgram) (choice : Choice) (unit : UnitCode) → StackFits program choice → IsHeld program (runtime_key remainder_number) unit remainder_routine → TakesRemainder program choice
remainder program choice unit fits held_so = computes-so program choice (runtime_key remainder_number) unit remainder_routine 64 4 64 4096 remainder_of held_so fits refl (omega arith) (λ args own sp s are placed. remainder-replies program choice own sp s placed args are)

pub sum : (program : FlatProgram) (choice : Choice) (unit : UnitCode) → StackFits program choice → IsHeld program (runtime_key sum_number) unit sum_routine → Adds program choice
sum program choice unit fits held_so = computes-so program choice (runtime_key sum_number) unit sum_routine 64 4 0 64 sum_of held_so fits refl (omega arith) (λ args own sp s are placed. sum-replies program choice own sp s placed args are)

pub difference : (program : FlatProgram) (choice : Choice) (unit : UnitCode) → StackFits program choice → IsHeld program (runtime_key difference_number) unit difference_routine → Subtracts program choice
difference program choice unit fits held_so = computes-so program choice (runtime_key difference_number) unit difference_routine 64 4 0 64 difference_of held_so fits refl (omega arith) (λ args own sp s are placed. difference-replies program choice own sp s placed args are)

pub equal : (program : FlatProgram) (choice : Choice) (unit : UnitCode) → StackFits program choice → IsHeld program (runtime_key equal_number) unit equal_routine → TestsEqual program choice
equal program choice unit fits held_so = computes-so program choice (runtime_key equal_number) unit equal_routine 64 4 0 64 equal_of held_so fits refl (omega arith) (λ args own sp s are placed. equal-replies program choice own sp s placed args are)

pub left_shift : (program : FlatProgram) (choice : Choice) (unit : UnitCode) → StackFits program choice → IsHeld program (runtime_key left_shift_number) unit left_shift_routine → ShiftsLeft program choice
left_shift program choice unit fits held_so = computes-so program choice (runtime_key left_shift_number) unit left_shift_routine 64 3 0 128 left_shift_of held_so fits refl (omega arith) (λ args own sp s are placed. left-replies program choice own sp s placed args are)

pub right_shift : (program : FlatProgram) (choice : Choice) (unit : UnitCode) → StackFits program choice → IsHeld program (runtime_key right_shift_number) unit right_shift_routine → ShiftsRight program choice
right_shift program choice unit fits held_so = computes-so program choice (runtime_key right_shift_number) unit right_shift_routine 64 3 0 128 right_shift_of held_so fits refl (omega arith) (λ args own sp s are placed. right-replies program choice own sp s placed args are)

pub range : (program : FlatProgram) (choice : Choice) (unit : UnitCode) → StackFits program choice → IsHeld program (runtime_key range_number) unit range_routine → TestsRange program choice
range program choice unit fits held_so = computes-so program choice (runtime_key range_number) unit range_routine 64 6 0 128 range_of held_so fits refl (omega arith) (λ args own sp s are placed. range-replies program choice own sp s placed args are)

pub between : (program : FlatProgram) (choice : Choice) (unit : UnitCode) → StackFits program choice → IsHeld program (runtime_key between_number) unit between_routine → TestsBetween program choice
between program choice unit fits held_so = computes-so program choice (runtime_key between_number) unit between_routine 64 6 0 64 between_of held_so fits refl (omega arith) (λ args own sp s are placed. between-replies program choice own sp s placed args are)
