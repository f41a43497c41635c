-- The examples, by computation.
use Rattle.std.proofs.Common.{refl}
use Rattle.std.specs.Fmt.{digits}
use Rattle.common_values.specs.Numerals.{numeral_of}
use Rattle.tp_meaning.specs.Meaning.{run}
use Rattle.tp_meaning.specs.ShownStatements.{StatementExamples}
use Rattle.tp_meaning.specs.ShownParts.{PartExamples}
use Rattle.tp_meaning.specs.ShownCalls.{Boxed, CallExamples}

pub statement_examples : StatementExamples
unfolding run digits
statement_examples = record {
  division = refl;
  wrapping = refl;
  common = refl;
  bits = refl;
  by_zero = refl;
  early = refl;
  late = refl;
  byte_two = refl;
  past_range = refl;
  unset_read = refl;
  counted = refl;
  counting = refl;
  after_loop = refl;
  no_turn = refl;
  counted_checked = refl;
  bound_outside = refl;
  bound_of_no_turn = refl;
  to_the_end = refl;
  whiled = refl;
  whiling = refl;
  repeated = refl;
  repeating = refl;
  branching = refl;
  halting = refl;
  exiting = refl;
  ill_typed = refl;
}

pub part_examples : PartExamples
unfolding run digits numeral_of
part_examples = record {
  cutting = refl;
  behind = refl;
  too_long = refl;
  measured = refl;
  measured_past = refl;
  measuring_unset = refl;
  comparing = refl;
  editing = refl;
  valuing = refl;
  members = refl;
  empty_span = refl;
  past_span = refl;
  no_element = refl;
  arrays = refl;
  outside = refl;
  checked = refl;
  records = refl;
  pointing = refl;
  filling = refl;
  reusing = refl;
  disposing_nil = refl;
  following_nil = refl;
  disposed = refl;
  twice = refl;
  reading = refl;
  no_numeral = refl;
  read_outside = refl;
  read_unchecked = refl;
  at_eof = refl;
  lines = refl;
}

pub call_examples : (b : Boxed) → CallExamples b
unfolding run digits
call_examples b = record {
  called = refl;
  calling = refl;
  by_reference = refl;
  no_result = refl;
  through = refl;
  room = refl;
  no_room = refl;
  dispatching = refl;
  classless = refl;
  classless_checked = refl;
  assigning = refl;
  making = refl;
  unmade = refl;
  unmaking = refl;
  freeing_nil = refl;
  freeing_gone = refl;
  arguments = refl;
  nested = refl;
  not_started = refl;
  starting = refl;
  installed = refl;
  not_installed = refl;
}
