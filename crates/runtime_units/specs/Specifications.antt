-- What the runtime promises, whole: of each routine, and as a program starts.
use Rattle.flat_code.specs.Program.{FlatProgram, Choice}
use Rattle.flat_code.specs.Meaning.{start_cells}
use Rattle.flat_code.specs.Runtime.{IsRuntime}
use Rattle.rt_strings.specs.long_integers.Specifications.{NumbersWork}
use Rattle.rt_strings.specs.Specifications.{StringsWork, SetsWork, AccessWorks}
use Rattle.rt_text.specs.Specifications.{TextWorks, StartsText}
use Rattle.heap_runtime.specs.Specifications.{HeapWorks, StartsHeap}
use Rattle.heap_runtime.specs.scratch.Data.{ScratchReached}
use Rattle.runtime_units.specs.Units.{RuntimePlaces}

pub record RuntimeWorks (program : FlatProgram) (choice : Choice) (places : RuntimePlaces program choice) : Type 0 where
  pub integers : IsRuntime program choice
  pub numbers : NumbersWork program choice
  pub strings : StringsWork program choice
  pub sets : SetsWork program choice
  pub access : AccessWorks program choice
  pub text : TextWorks program choice places.item places.ahead
  pub heap : HeapWorks program choice places.result places.name

pub record StartsRuntime (program : FlatProgram) (choice : Choice) (places : RuntimePlaces program choice) : Type 0 where
  pub text : StartsText program choice places.item places.ahead
  pub heap : StartsHeap program choice places.heap places.result places.name
  pub scratch : ScratchReached choice places.scratch (start_cells program choice)
