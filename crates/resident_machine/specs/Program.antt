-- A program of which all code is present: each code segment is a list of bytes of its own, which CS names.
use Rattle.std.specs.Prelude.{ℕ, Bool, ◌-◌, ◌/◌, ◌%◌, ◌==◌, ◌&&◌, nat_le, if◌then◌else◌, List, Option, Some, None, option_map, position, slice_get}
use Rattle.cpu_8086.specs.declared.registers.Far.{Far}

-- What CS names: the code of the image that begins at a segment, or the code of an overlay.
pub data Segment : Type 0 where
  Image : (number : ℕ) → Segment
  Overlay : (number : ℕ) → Segment

-- An overlay: the segment of its stub, for each entry the offset of its routine, and the code, fixups made.
pub record OverlayCode : Type 0 where
  pub stub : ℕ
  pub entries : List ℕ
  pub code : List ℕ

-- The bytes that a segment of the image names, if it names any; the overlays by number; the linear address of the
-- installed flag; the error routine; and whether frames are marked. Segments are those of the loaded image.
pub record Program : Type 0 where
  pub image : ℕ → Option (List ℕ)
  pub overlays : List OverlayCode
  pub installed : ℕ
  pub error_routine : Far
  pub marked : Bool

-- the bytes of code that a segment names
abbrev pub code_of : Program → Segment → Option (List ℕ)
code_of p (Image number) = p.image number
code_of p (Overlay number) = option_map (λ (o : OverlayCode). o.code) (slice_get p.overlays number)

-- the number of the overlay whose stub stands at a segment
abbrev pub stub_owner : Program → ℕ → Option ℕ
stub_owner p segment = position (λ (o : OverlayCode). o.stub == segment) p.overlays

-- The entries of a stub stand from offset 32 on, five bytes each.
abbrev pub entry_number : ℕ → Option ℕ
entry_number offset = if nat_le 32 offset && ((offset - 32) % 5 == 0) then Some ((offset - 32) / 5) else None

abbrev pub entry_of : Option ℕ → List ℕ → Option ℕ
entry_of None entries = None
entry_of (Some number) entries = slice_get entries number

-- the offset of the routine of the entry that stands at an offset of an overlay's stub
abbrev pub routine_at : Option OverlayCode → ℕ → Option ℕ
routine_at None offset = None
routine_at (Some o) offset = entry_of (entry_number offset) o.entries

-- Where a far pointer leads: into code of the image, through an entry to a routine of an overlay, or nowhere.
pub data Target : Type 0 where
  Into : (segment offset : ℕ) → Target
  Through : (overlay offset : ℕ) → Target
  Nowhere : Target

abbrev pub image_target : Option (List ℕ) → ℕ → ℕ → Target
image_target None segment offset = Nowhere
image_target (Some code) segment offset = Into segment offset

abbrev pub entry_target : ℕ → Option ℕ → Target
entry_target overlay None = Nowhere
entry_target overlay (Some offset) = Through overlay offset

abbrev pub target_by : Program → ℕ → ℕ → Option ℕ → Target
target_by p segment offset None = image_target (p.image segment) segment offset
target_by p segment offset (Some overlay) = entry_target overlay (routine_at (slice_get p.overlays overlay) offset)

abbrev pub far_target : Program → ℕ → ℕ → Target
far_target p segment offset = target_by p segment offset (stub_owner p segment)
