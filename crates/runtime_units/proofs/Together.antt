-- The laws of the three units, put together.
use Rattle.std.proofs.Common.{◌≡◌, ℕ, ◌≤◌, List, ◌++◌, false, refl}
use Rattle.flat_code.specs.Program.{Name, UnitCode, FlatProgram, Choice, text_unit, strings_unit, overlay_unit}
use Rattle.flat_code.specs.Legal.{Mention, StackFits, IsLegal}
use Rattle.flat_code.specs.Plain.{program_of}
use Rattle.rt_text.proofs.Works.{text-works}
use Rattle.rt_text.proofs.Places.{has-text}
use Rattle.rt_text.proofs.Starting as text_start
use Rattle.rt_strings.proofs.Numbers.{numbers-work, is-runtime}
use Rattle.rt_strings.proofs.Strings.{strings-work, sets-work, access-works}
use Rattle.heap_runtime.proofs.Works.{heap-works}
use Rattle.heap_runtime.proofs.Places.{has-overlay, has-scratch, heap-places}
use Rattle.heap_runtime.proofs.Starting as heap_start
use Rattle.runtime_units.specs.Units.{runtime_codes, HoldsRuntime, ReachesRuntimeData, RuntimePlaces, CanStart}
use Rattle.runtime_units.specs.Specifications.{RuntimeWorks, StartsRuntime}

pub holds : (units : List UnitCode) (overlaid : List Name) (stack heap : ℕ) → let program = program_of (runtime_codes ++ units) overlaid stack heap in program.overlaid text_unit ≡ false → program.overlaid strings_unit ≡ false → program.overlaid overlay_unit ≡ false → HoldsRuntime program
holds units overlaid stack heap p q r = record {
  text = record { is_there = refl; resident = p };
  strings = record { is_there = refl; resident = q };
  heap = record { is_there = refl; resident = r };
}

pub places : (program : FlatProgram) (choice : Choice) (R : Mention → Type 0) → IsLegal program choice R → HoldsRuntime program → ReachesRuntimeData R → program.heap ≤ 196608 → RuntimePlaces program choice
places program choice R legal held reaches small =
    let one = has-text program choice R legal held.text reaches.item reaches.ahead in
    let two = has-overlay program choice R legal held.heap reaches.overlay in
    let three = has-scratch program choice R legal held.heap reaches.scratch in
    record { item = one.0; ahead = one.1; result = two.0; name = two.1; text = one.2; overlay = two.2; scratch = three.0; scratch_there = three.1; heap = heap-places program choice R legal held.heap reaches.heap small }

pub works : (program : FlatProgram) (choice : Choice) (places : RuntimePlaces program choice) → StackFits program choice → HoldsRuntime program → RuntimeWorks program choice places
works program choice places fits held = record {
  integers = is-runtime program choice fits held.strings;
  numbers = numbers-work program choice fits held.strings;
  strings = strings-work program choice fits held.strings;
  sets = sets-work program choice fits held.strings;
  access = access-works program choice fits held.strings;
  text = text-works program choice places.item places.ahead fits held.text places.text;
  heap = heap-works program choice places.result places.name fits held.heap places.overlay;
}

pub starts : (program : FlatProgram) (choice : Choice) (R : Mention → Type 0) (places : RuntimePlaces program choice) → IsLegal program choice R → HoldsRuntime program → CanStart program choice → StartsRuntime program choice places
starts program choice R places legal held can =
    let file = can.file in
    record {
      text = text_start.starts program choice R places.item places.ahead legal can.firsts (heap_start.fits-runtime program choice held.heap file.fits) held.text can.text_listed places.text;
      heap = heap_start.starts program choice R places.heap places.result places.name legal can.firsts held.heap can.heap_listed file can.segment places.overlay;
      scratch = heap_start.scratch-starts program choice R places.scratch legal can.firsts held.heap can.heap_listed file.fits places.scratch_there;
    }
