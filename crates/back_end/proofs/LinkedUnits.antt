-- What is linked of the units of a program.
use Rattle.std.proofs.Common.{◌≡◌, ◌<◌, ◌≤◌, ℕ, List, Option, Some, None, length, sym, ap, ◌∙◌, subst, arith}
use Rattle.mz_file.specs.Spelling.{IsWritable}
use Rattle.overlay_file.specs.Format.{AreOverlays}
use Rattle.typed_tree.specs.declared.units.Unit.{Unit as TypedUnit}
use Rattle.typed_tree.specs.declared.units.Program.{Program}
use Rattle.tp_meaning.specs.Programs.{main_unit, overlaid, overlaid_by, stack_by, heap_by}
use Rattle.smart_linker.specs.declared.unit.LinkUnit.{LinkUnit}
use Rattle.smart_linker.specs.declared.linking.Linked.{Linked}
use Rattle.smart_linker.specs.Given.{IsGiven}
use Rattle.smart_linker.specs.Names.{overlaid_names as linked_names, names_of}
use Rattle.smart_linker.specs.Overlaid.{is_unfit, is_unmarked, first_where}
use Rattle.back_end.specs.declared.error.BuildError.{BuildError}
use Rattle.back_end.specs.declared.error.BuildError.TheVariants.{CodeTooLarge, NotOverlayable, DataTooLarge, ImageTooLarge, TooManyRelocations, NoMemory}
use Rattle.back_end.specs.Files.{IsLinkedOf}
use Rattle.back_end.specs.Given.{setting_of, IsGivenTo}
use Rattle.back_end.specs.Overlaid.{names_among, first_unfit_among, first_unfit, overlaid_names}
use Rattle.back_end.specs.Refused.{IsRefused, IsRefusedFor, IsCodeCause}
use Rattle.back_end.specs.Told.{AreUnitsOf}
use Rattle.back_end.proofs.Told.{linked-names, linked-unfit, linked-marked}

module _ (program : Program) (main : TypedUnit) (main-is : main_unit program ≡ Some main) (units : List LinkUnit) (are : AreUnitsOf main.overlaid program.units units) where
  names-so : linked_names units ≡ overlaid_names program
  names-so = linked-names main.overlaid program.units units are ∙ sym (ap (λ (found : Option TypedUnit). names_among (overlaid_by found) program.units) main-is)

  unfit-so : first_where is_unfit units ≡ first_unfit program
  unfit-so = linked-unfit main.overlaid program.units units are ∙ sym (ap (λ (found : Option TypedUnit). first_unfit_among (overlaid_by found) program.units) main-is)

  pub marked_so : first_where is_unmarked units ≡ None
  marked_so = linked-marked main.overlaid program.units units are

  pub refused_so : (error : BuildError) → IsRefusedFor (first_where is_unfit units) error → IsRefused program error
  refused_so error refused = subst (λ (unfit : Option (List ℕ)). IsRefusedFor unfit error) unfit-so refused

  pub linked_so : (linked : Linked) → main.stack ≤ 65520 → first_where is_unfit units ≡ None → IsGiven (setting_of main) linked.exe → names_of linked.overlays ≡ linked_names units → IsWritable linked.exe → (0 < length linked.overlays → AreOverlays linked.overlays) → IsLinkedOf program linked
  linked_so linked few fit given names writable overlays = record {
    overlayable = sym unfit-so ∙ fit;
    given = record {
      main = main;
      main_is = main-is;
      marked = given.marked;
      stack = given.stack;
      top = given.top (omega (arith, few)) ∙ sym (ap stack_by main-is);
      heap = given.heap ∙ sym (ap heap_by main-is);
      flag = given.flag;
    };
    names = names ∙ names-so;
    writable = writable;
    overlays = overlays;
  }

-- a cause that shows as a unit is compiled is one of the program
pub code_refused : (program : Program) (error : BuildError) → IsCodeCause error → IsRefused program error
code_refused program (CodeTooLarge bytes) cause = cause
code_refused program (NotOverlayable unit) cause = absurd cause
code_refused program (DataTooLarge bytes) cause = absurd cause
code_refused program (ImageTooLarge paragraphs) cause = absurd cause
code_refused program (TooManyRelocations count) cause = absurd cause
code_refused program NoMemory cause = cause
