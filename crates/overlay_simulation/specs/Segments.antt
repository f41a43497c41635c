-- Which segments a program and its buffer take, whatever is loaded.
use Rattle.std.specs.Prelude.{◌≡◌, ◌≢◌, ◌⊎◌, ℕ, ◌<◌, ◌≤◌, slice_index, slice_get, Some}
use Rattle.overlay_manager.specs.Manager.{Manager, buffer_segment}
use Rattle.resident_machine.specs.Program.{Image, OverlayCode, Program}
use Rattle.resident_machine.specs.Whole.{IsNamed}

-- a segment outside the buffer
abbrev pub LiesOutside : ℕ → ℕ → Type 0
LiesOutside room segment = (segment < buffer_segment room) ⊎ (0xA000 ≤ segment)

-- Overlays are not empty. Stubs have different segments, and neither a stub nor code of the image begins in the buffer or where the
-- other does.
pub record HasSegments (p : Program) (m : Manager) : Type 0 where
  pub room : m.ring.room ≤ 0xA000
  pub sizes : (v : ℕ) (o : OverlayCode) → slice_get p.overlays v ≡ Some o → 0 < slice_index m.ring.sizes v
  pub stubs : (v w : ℕ) (a b : OverlayCode) → slice_get p.overlays v ≡ Some a → slice_get p.overlays w ≡ Some b → a.stub ≡ b.stub → v ≡ w
  pub positive : (v : ℕ) (o : OverlayCode) → slice_get p.overlays v ≡ Some o → 0 < o.stub
  pub stub_outside : (v : ℕ) (o : OverlayCode) → slice_get p.overlays v ≡ Some o → LiesOutside m.ring.room o.stub
  pub image_outside : (n : ℕ) → IsNamed p (Image n) → LiesOutside m.ring.room n
  pub image_stubs : (v : ℕ) (o : OverlayCode) (n : ℕ) → slice_get p.overlays v ≡ Some o → IsNamed p (Image n) → o.stub ≢ n
