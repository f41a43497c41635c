-- What stays as overlays move: where a program's parts lie, and what its overlay file holds.
use Rattle.std.specs.Prelude.{◌≡◌, ◌≢◌, ℕ, ◌<◌, ◌≤◌, Bool, List, length, map, slice_get, Some}
use Rattle.cpu_8086.specs.Memory.{address}
use Rattle.overlay_file.specs.declared.overlay.OvrEntry.{OvrEntry}
use Rattle.overlay_manager.specs.Code.{code_of}
use Rattle.overlay_manager.specs.Loading.{IsWhole}
use Rattle.overlay_manager.specs.Manager.{Manager, paragraphs_of}
use Rattle.overlay_manager.specs.Orderly.{IsOffBuffer}
use Rattle.overlay_manager.specs.Serves.{HaveSizes}
use Rattle.resident_machine.specs.Program.{OverlayCode, Program}
use Rattle.overlay_simulation.specs.Layout.{LieApart}
use Rattle.overlay_simulation.specs.Managing.{Manages}
use Rattle.overlay_simulation.specs.Matching.{size_of}
use Rattle.overlay_simulation.specs.Segments.{HasSegments}

-- Code of the image shares no byte with a stub or with the buffer.
pub record IsImageApart (p : Program) (m : Manager) (number : ℕ) (code : List ℕ) : Type 0 where
  pub off_stubs : (v : ℕ) (o : OverlayCode) → slice_get p.overlays v ≡ Some o → (j k : ℕ) → j < length code → k < size_of o → address number j ≢ address o.stub k
  pub off_buffer : (j : ℕ) → j < length code → IsOffBuffer m.ring.room (address number j)

-- The overlay file has the code of an overlay of the program, which is what it becomes as its fixups are made.
pub record IsFiled (m : Manager) (bytes : List ℕ) (v : ℕ) (o : OverlayCode) : Type 0 where
  pub entry : OvrEntry
  pub found : slice_get m.entries v ≡ Some entry
  pub code : o.code ≡ code_of bytes entry

-- The manager has the stubs, the places and the file of the program's overlays. Stubs, code of the image and the buffer lie
-- apart. The buffer is of a size that can be asked for, and the file has each overlay whole.
pub record IsSound (p : Program) (kept : ℕ → Bool) (bytes : List ℕ) (m : Manager) : Type 0 where
  pub manages : Manages p m
  pub segments : HasSegments p m
  pub apart : LieApart p m kept
  pub image : (number : ℕ) (code : List ℕ) → p.image number ≡ Some code → IsImageApart p m number code
  pub words : (v : ℕ) (o : OverlayCode) → slice_get p.overlays v ≡ Some o → o.stub < 65536
  pub room : m.ring.room ≤ 40848
  pub sizes : map paragraphs_of m.entries ≡ m.ring.sizes
  pub count : length m.entries ≡ length m.stubs
  pub code_sizes : HaveSizes m.entries
  pub whole : (v : ℕ) (entry : OvrEntry) → slice_get m.entries v ≡ Some entry → IsWhole bytes entry
  pub filed : (v : ℕ) (o : OverlayCode) → slice_get p.overlays v ≡ Some o → IsFiled m bytes v o
