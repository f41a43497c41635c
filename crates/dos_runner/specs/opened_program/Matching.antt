-- Whether a program's stubs and the overlays of its file belong together.
use Rattle.std.specs.Prelude.{◌≡◌, ◌⊎◌, ℕ, ◌<◌, max, List, [], ◌∷◌, length, slice_index, slice_get, IfSome}
use Rattle.overlay_file.specs.declared.overlay.OvrEntry.{OvrEntry}
use Rattle.overlay_manager.specs.Manager.{paragraphs_of}
use Rattle.dos_runner.specs.opened_program.Stubs.{IsStubOf}

-- the size of the largest overlay in paragraphs, or 0 where there is none
abbrev pub largest : List OvrEntry → ℕ
largest [] = 0
largest (overlay ∷ overlays) = max (paragraphs_of overlay) (largest overlays)

-- The stub with this number is that of the overlay with this number; both are there.
pub record IsMatch (image stubs : List ℕ) (overlays : List OvrEntry) (v : ℕ) : Type 0 where
  pub stub_there : v < length stubs
  pub overlay_there : v < length overlays
  pub belongs : IfSome (slice_get overlays v) (IsStubOf image (slice_index stubs v))

-- There are as many stubs as overlays, and each stub is that of its overlay.
pub record BelongTogether (image stubs : List ℕ) (overlays : List OvrEntry) : Type 0 where
  pub same : length overlays ≡ length stubs
  pub each : (v : ℕ) → v < length stubs → IsMatch image stubs overlays v

-- The first number with a stub or an overlay for which they don't belong together.
pub record IsFirstMismatch (image stubs : List ℕ) (overlays : List OvrEntry) (v : ℕ) : Type 0 where
  pub there : (v < length stubs) ⊎ (v < length overlays)
  pub differs : ¬ IsMatch image stubs overlays v
  pub before : (u : ℕ) → u < v → IsMatch image stubs overlays u
