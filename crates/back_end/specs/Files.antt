-- What the files of a program hold.
use Rattle.std.specs.Prelude.{◌≡◌, ◌<◌, ℕ, List, [], ◌∷◌, length, Option, Some, None}
use Rattle.mz_file.specs.Format.{Denotes}
use Rattle.mz_file.specs.Spelling.{IsWritable, spelling}
use Rattle.overlay_file.specs.declared.overlay.OverlayCode8086.{OverlayCode8086}
use Rattle.overlay_file.specs.Format.{AreOverlays, spelling as overlay_spelling}
use Rattle.smart_linker.specs.declared.linking.Linked.{Linked}
use Rattle.smart_linker.specs.Names.{names_of}
use Rattle.typed_tree.specs.declared.units.Program.{Program}
use Rattle.back_end.specs.declared.files.ProgramFiles.{ProgramFiles}
use Rattle.back_end.specs.Given.{IsGivenTo}
use Rattle.back_end.specs.Overlaid.{overlaid_names, AreOverlayable}

-- the bytes of an overlay file, which a program without overlays doesn't have
abbrev pub overlay_bytes : List OverlayCode8086 → Option (List ℕ)
overlay_bytes [] = None
overlay_bytes (overlay ∷ overlays) = Some (overlay_spelling (overlay ∷ overlays))

-- What is linked of a program can be written, gives the program what its meaning gives it, and has one overlay for each of its overlaid units.
pub record IsLinkedOf (program : Program) (linked : Linked) : Type 0 where
  pub overlayable : AreOverlayable program
  pub given : IsGivenTo program linked.exe
  pub names : names_of linked.overlays ≡ overlaid_names program
  pub writable : IsWritable linked.exe
  pub overlays : 0 < length linked.overlays → AreOverlays linked.overlays

-- They hold what is linked of the program.
pub record AreFilesOf (program : Program) (files : ProgramFiles) : Type 0 where
  pub linked : Linked
  pub is_linked : IsLinkedOf program linked
  pub executable : files.executable ≡ spelling linked.exe
  pub denotes : Denotes files.executable linked.exe
  pub overlays : files.overlays ≡ overlay_bytes linked.overlays
