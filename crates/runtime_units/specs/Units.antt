-- The three units of the runtime together, and where their data lie.
use Rattle.std.specs.Prelude.{◌≡◌, ℕ, ◌<◌, ◌⊎◌, List, [], ◌∷◌, Contains}
use Rattle.flat_code.specs.Program.{Name, UnitCode, FlatProgram, Choice, text_unit, strings_unit, overlay_unit}
use Rattle.flat_code.specs.Legal.{Mention, ToDatum}
use Rattle.runtime_proofs.specs.text_memory.Data.{item_key, ahead_key, HasText}
use Rattle.runtime_proofs.specs.start_data.Start.{FirstsFit}
use Rattle.heap_runtime.specs.overlay.Data.{HasOverlay}
use Rattle.heap_runtime.specs.heap.HeapMemory.{HeapPlaces, ReachesHeapData}
use Rattle.rt_text.specs.Unit.{text_code, HoldsTextUnit}
use Rattle.rt_strings.specs.Unit.{strings_code, HoldsStrings}
use Rattle.heap_runtime.specs.scratch.Data.{scratch_key, HasScratch}
use Rattle.heap_runtime.specs.Unit.{heap_code, HoldsHeapUnit}
use Rattle.heap_runtime.specs.Specifications.{ReachesOverlay, IsFileName}

-- they stand first in each list of units that makes a program
abbrev pub runtime_codes : List UnitCode
runtime_codes = text_code ∷ strings_code ∷ heap_code ∷ []

abbrev pub IsRuntimeUnit : Name → Type 0
IsRuntimeUnit name = (name ≡ text_unit) ⊎ ((name ≡ strings_unit) ⊎ (name ≡ overlay_unit))

-- a program that holds the three units, none of them overlaid
pub record HoldsRuntime (program : FlatProgram) : Type 0 where
  pub text : HoldsTextUnit program
  pub strings : HoldsStrings program
  pub heap : HoldsHeapUnit program

-- all data of the runtime
pub record ReachesRuntimeData (R : Mention → Type 0) : Type 0 where
  pub item : R (ToDatum item_key)
  pub ahead : R (ToDatum ahead_key)
  pub overlay : ReachesOverlay R
  pub heap : ReachesHeapData R
  pub scratch : R (ToDatum scratch_key)

-- where they lie
pub record RuntimePlaces (program : FlatProgram) (choice : Choice) : Type 0 where
  pub item : ℕ
  pub ahead : ℕ
  pub result : ℕ
  pub name : ℕ
  pub text : HasText program choice item ahead
  pub overlay : HasOverlay program choice result name
  pub heap : HeapPlaces program choice
  pub scratch : ℕ
  pub scratch_there : HasScratch program choice scratch

-- the units with data stand in the program's order, and what the runtime is given has room
pub record CanStart (program : FlatProgram) (choice : Choice) : Type 0 where
  pub firsts : FirstsFit program
  pub text_listed : Contains program.order text_unit
  pub heap_listed : Contains program.order overlay_unit
  pub file : IsFileName program.ovr_name
  pub segment : choice.heap_segment < 65536
