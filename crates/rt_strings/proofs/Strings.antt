-- The routines on strings and sets, those that load and move, and those on classes, as they stand in the unit.
use Rattle.std.proofs.Common.{refl, sym}
use Rattle.flat_code.specs.Program.{FlatProgram, Choice}
use Rattle.flat_code.specs.Legal.{StackFits}
use Rattle.rt_strings.proofs.short_strings.Assigning.{assigns}
use Rattle.rt_strings.proofs.string_joins.Joining.{joins}
use Rattle.rt_strings.proofs.string_joins.Inserting.{inserts}
use Rattle.rt_strings.proofs.string_parts.Copying.{copies}
use Rattle.rt_strings.proofs.string_parts.Deleting.{deletes}
use Rattle.rt_strings.proofs.string_parts.Letters.{makes-upper}
use Rattle.rt_strings.proofs.string_compare.Comparing.{compares}
use Rattle.rt_strings.proofs.string_search.Searching.{searches}
use Rattle.rt_strings.proofs.sets.Combining.{unites, takes-away, intersects}
use Rattle.rt_strings.proofs.set_relations.Relating.{tells-same, tells-subset}
use Rattle.rt_strings.proofs.set_relations.Members.{tells-member}
use Rattle.rt_strings.proofs.set_constructors.Including.{includes}
use Rattle.rt_strings.proofs.memory.Loading.{loads-byte, loads-short, loads-word}
use Rattle.rt_strings.proofs.memory.Moving.{moves-bytes}
use Rattle.rt_strings.proofs.objects.Finding.{finds-method}
use Rattle.rt_strings.proofs.objects.Classes.{tells-size}
use Rattle.rt_strings.specs.Unit.{strings_code, HoldsStrings}
use Rattle.rt_strings.specs.Specifications.{StringsWork, SetsWork, AccessWorks}

module _ (program : FlatProgram) (choice : Choice) (fits : StackFits program choice) (holds : HoldsStrings program) where
  pub strings-work : StringsWork program choice
  strings-work = record {
    assign = assigns program choice strings_code fits (record { unit_is = sym holds.is_there; routine_is = refl; resident = holds.resident; untested = refl; far = refl; locals = refl });
    concat = joins program choice strings_code fits (record { unit_is = sym holds.is_there; routine_is = refl; resident = holds.resident; untested = refl; far = refl; locals = refl });
    insert = inserts program choice strings_code fits (record { unit_is = sym holds.is_there; routine_is = refl; resident = holds.resident; untested = refl; far = refl; locals = refl });
    copy = copies program choice strings_code fits (record { unit_is = sym holds.is_there; routine_is = refl; resident = holds.resident; untested = refl; far = refl; locals = refl });
    delete = deletes program choice strings_code fits (record { unit_is = sym holds.is_there; routine_is = refl; resident = holds.resident; untested = refl; far = refl; locals = refl });
    upper = makes-upper program choice strings_code fits (record { unit_is = sym holds.is_there; routine_is = refl; resident = holds.resident; untested = refl; far = refl; locals = refl });
    compare = compares program choice strings_code fits (record { unit_is = sym holds.is_there; routine_is = refl; resident = holds.resident; untested = refl; far = refl; locals = refl });
    position = searches program choice strings_code fits (record { unit_is = sym holds.is_there; routine_is = refl; resident = holds.resident; untested = refl; far = refl; locals = refl });
  }

  pub sets-work : SetsWork program choice
  sets-work = record {
    union = unites program choice strings_code fits (record { unit_is = sym holds.is_there; routine_is = refl; resident = holds.resident; untested = refl; far = refl; locals = refl });
    difference = takes-away program choice strings_code fits (record { unit_is = sym holds.is_there; routine_is = refl; resident = holds.resident; untested = refl; far = refl; locals = refl });
    intersection = intersects program choice strings_code fits (record { unit_is = sym holds.is_there; routine_is = refl; resident = holds.resident; untested = refl; far = refl; locals = refl });
    same = tells-same program choice strings_code fits (record { unit_is = sym holds.is_there; routine_is = refl; resident = holds.resident; untested = refl; far = refl; locals = refl });
    subset = tells-subset program choice strings_code fits (record { unit_is = sym holds.is_there; routine_is = refl; resident = holds.resident; untested = refl; far = refl; locals = refl });
    member = tells-member program choice strings_code fits (record { unit_is = sym holds.is_there; routine_is = refl; resident = holds.resident; untested = refl; far = refl; locals = refl });
    include = includes program choice strings_code fits (record { unit_is = sym holds.is_there; routine_is = refl; resident = holds.resident; untested = refl; far = refl; locals = refl });
  }

  pub access-works : AccessWorks program choice
  access-works = record {
    byte = loads-byte program choice strings_code fits (record { unit_is = sym holds.is_there; routine_is = refl; resident = holds.resident; untested = refl; far = refl; locals = refl });
    short = loads-short program choice strings_code fits (record { unit_is = sym holds.is_there; routine_is = refl; resident = holds.resident; untested = refl; far = refl; locals = refl });
    word = loads-word program choice strings_code fits (record { unit_is = sym holds.is_there; routine_is = refl; resident = holds.resident; untested = refl; far = refl; locals = refl });
    moves = moves-bytes program choice strings_code fits (record { unit_is = sym holds.is_there; routine_is = refl; resident = holds.resident; untested = refl; far = refl; locals = refl });
    method = finds-method program choice strings_code fits (record { unit_is = sym holds.is_there; routine_is = refl; resident = holds.resident; untested = refl; far = refl; locals = refl });
    size = tells-size program choice strings_code fits (record { unit_is = sym holds.is_there; routine_is = refl; resident = holds.resident; untested = refl; far = refl; locals = refl });
  }
