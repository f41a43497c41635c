-- The unit of the runtime's routines on LongInts, strings and sets.
use Rattle.std.specs.Prelude.{◌≡◌, List, [], ◌∷◌, ◌++◌, Some, None, false, codes}
use Rattle.flat_code.specs.Program.{Routine, UnitCode, FlatProgram, strings_unit}
use Rattle.flat_code.specs.Runtime.{negation_routine}
use Rattle.rt_strings.specs.long_integers.Routines.{product_routine, less_routine, sum_routine, difference_routine, equal_routine, left_shift_routine, right_shift_routine, range_routine, between_routine}
use Rattle.rt_strings.specs.long_integers.Division.{quotient_routine, remainder_routine}
use Rattle.rt_strings.specs.short_strings.Routines.{assign_routine}
use Rattle.rt_strings.specs.string_joins.Routines.{concat_routine, insert_routine}
use Rattle.rt_strings.specs.string_parts.Routines.{copy_routine, delete_routine, upper_routine}
use Rattle.rt_strings.specs.string_compare.Routines.{compare_routine}
use Rattle.rt_strings.specs.string_search.Routines.{position_routine}
use Rattle.rt_strings.specs.sets.Routines.{combine_routine, union_byte, difference_byte, intersection_byte}
use Rattle.rt_strings.specs.set_relations.Routines.{relation_routine, same_test, subset_test, member_routine}
use Rattle.rt_strings.specs.set_constructors.Routines.{include_routine}
use Rattle.rt_strings.specs.memory.Routines.{load_byte_routine, load_short_routine, load_word_routine, move_routine}
use Rattle.rt_strings.specs.objects.Routines.{method_routine, class_size_routine}

-- in the order of their numbers
abbrev pub number_codes : List Routine
number_codes =
    negation_routine ∷ product_routine ∷ less_routine ∷ quotient_routine ∷ remainder_routine ∷ sum_routine ∷ difference_routine ∷ equal_routine ∷ left_shift_routine ∷ right_shift_routine ∷ range_routine ∷ []

abbrev pub text_codes : List Routine
text_codes = assign_routine ∷ concat_routine ∷ insert_routine ∷ copy_routine ∷ delete_routine ∷ upper_routine ∷ compare_routine ∷ position_routine ∷ []

abbrev pub set_codes : List Routine
set_codes = combine_routine union_byte ∷ combine_routine difference_byte ∷ combine_routine intersection_byte ∷ relation_routine same_test ∷ relation_routine subset_test ∷ member_routine ∷ include_routine ∷ []

abbrev pub access_codes : List Routine
access_codes = load_byte_routine ∷ load_short_routine ∷ load_word_routine ∷ move_routine ∷ between_routine ∷ method_routine ∷ class_size_routine ∷ []

abbrev pub strings_code : UnitCode
strings_code = record {
  names = codes "STRINGS" ∷ [];
  routines = number_codes ++ text_codes ++ set_codes ++ access_codes;
  globals = [];
  vmts = [];
  initial = None;
}

-- a program that holds the unit, not overlaid
pub record HoldsStrings (program : FlatProgram) : Type 0 where
  pub is_there : program.unit strings_unit ≡ Some strings_code
  pub resident : program.overlaid strings_unit ≡ false
