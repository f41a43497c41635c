-- What the runtime promises of its routines on strings, sets, memory and classes.
use Rattle.flat_code.specs.Program.{FlatProgram, Choice}
use Rattle.rt_strings.specs.short_strings.Specifications.{Assigns}
use Rattle.rt_strings.specs.string_joins.Specifications.{Joins, Inserts}
use Rattle.rt_strings.specs.string_parts.Specifications.{Copies, Deletes, MakesUpper}
use Rattle.rt_strings.specs.string_compare.Specifications.{ComparesStrings}
use Rattle.rt_strings.specs.string_search.Specifications.{Searches}
use Rattle.rt_strings.specs.sets.Specifications.{Unites, TakesAway, Intersects}
use Rattle.rt_strings.specs.set_relations.Specifications.{TellsSame, TellsSubset, TellsMember}
use Rattle.rt_strings.specs.set_constructors.Specifications.{Includes}
use Rattle.rt_strings.specs.memory.Specifications.{LoadsByte, LoadsShort, LoadsWord, MovesBytes}
use Rattle.rt_strings.specs.objects.Specifications.{FindsMethod, TellsClassSize}

-- all on strings
pub record StringsWork (program : FlatProgram) (choice : Choice) : Type 0 where
  pub assign : Assigns program choice
  pub concat : Joins program choice
  pub insert : Inserts program choice
  pub copy : Copies program choice
  pub delete : Deletes program choice
  pub upper : MakesUpper program choice
  pub compare : ComparesStrings program choice
  pub position : Searches program choice

-- those on sets
pub record SetsWork (program : FlatProgram) (choice : Choice) : Type 0 where
  pub union : Unites program choice
  pub difference : TakesAway program choice
  pub intersection : Intersects program choice
  pub same : TellsSame program choice
  pub subset : TellsSubset program choice
  pub member : TellsMember program choice
  pub include : Includes program choice

-- those that load and move through pointers, and those that find what the class of an instance has
pub record AccessWorks (program : FlatProgram) (choice : Choice) : Type 0 where
  pub byte : LoadsByte program choice
  pub short : LoadsShort program choice
  pub word : LoadsWord program choice
  pub moves : MovesBytes program choice
  pub method : FindsMethod program choice
  pub size : TellsClassSize program choice
