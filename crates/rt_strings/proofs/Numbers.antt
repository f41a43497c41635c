-- The routines on LongInts, as they stand in the unit.
use Rattle.std.proofs.Common.{refl, sym}
use Rattle.flat_code.specs.Program.{FlatProgram, Choice}
use Rattle.flat_code.specs.Legal.{StackFits}
use Rattle.flat_code.specs.Runtime.{IsRuntime}
use Rattle.rt_strings.specs.long_integers.Specifications.{NumbersWork}
use Rattle.rt_strings.proofs.long_integers.Laws as law
use Rattle.rt_strings.specs.Unit.{strings_code, HoldsStrings}

module _ (program : FlatProgram) (choice : Choice) (fits : StackFits program choice) (holds : HoldsStrings program) where
  pub numbers-work : NumbersWork program choice
  numbers-work = record {
    negation = law.negation program choice strings_code fits (record { unit_is = sym holds.is_there; routine_is = refl; resident = holds.resident; untested = refl; far = refl; locals = refl });
    product = law.product program choice strings_code fits (record { unit_is = sym holds.is_there; routine_is = refl; resident = holds.resident; untested = refl; far = refl; locals = refl });
    less = law.less program choice strings_code fits (record { unit_is = sym holds.is_there; routine_is = refl; resident = holds.resident; untested = refl; far = refl; locals = refl });
    quotient = law.quotient program choice strings_code fits (record { unit_is = sym holds.is_there; routine_is = refl; resident = holds.resident; untested = refl; far = refl; locals = refl });
    remainder = law.remainder program choice strings_code fits (record { unit_is = sym holds.is_there; routine_is = refl; resident = holds.resident; untested = refl; far = refl; locals = refl });
    sum = law.sum program choice strings_code fits (record { unit_is = sym holds.is_there; routine_is = refl; resident = holds.resident; untested = refl; far = refl; locals = refl });
    difference = law.difference program choice strings_code fits (record { unit_is = sym holds.is_there; routine_is = refl; resident = holds.resident; untested = refl; far = refl; locals = refl });
    equal = law.equal program choice strings_code fits (record { unit_is = sym holds.is_there; routine_is = refl; resident = holds.resident; untested = refl; far = refl; locals = refl });
    left_shift = law.left_shift program choice strings_code fits (record { unit_is = sym holds.is_there; routine_is = refl; resident = holds.resident; untested = refl; far = refl; locals = refl });
    right_shift = law.right_shift program choice strings_code fits (record { unit_is = sym holds.is_there; routine_is = refl; resident = holds.resident; untested = refl; far = refl; locals = refl });
    range = law.range program choice strings_code fits (record { unit_is = sym holds.is_there; routine_is = refl; resident = holds.resident; untested = refl; far = refl; locals = refl });
    between = law.between program choice strings_code fits (record { unit_is = sym holds.is_there; routine_is = refl; resident = holds.resident; untested = refl; far = refl; locals = refl });
  }

  pub is-runtime : IsRuntime program choice
  is-runtime = record { negation = numbers-work.negation; product = numbers-work.product; less = numbers-work.less; quotient = numbers-work.quotient; remainder = numbers-work.remainder }
