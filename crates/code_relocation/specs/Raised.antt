-- Code is resolved for addresses in the image of an executable, whose segments count from the image's start, and the words of segments
-- become loaded ones where the image, or an overlay, comes to stand.
use Rattle.std.specs.Prelude.{◌≡◌, ◌⊎◌, ℕ, ◌+◌, ◌≤◌, List, [], ◌∷◌, ◌++◌, length, All}
use Rattle.object_file.specs.declared.object_unit.object.Ref.{Ref}
use Rattle.object_file.specs.declared.object_unit.object.RefKind.{RefKind}
use Rattle.object_file.specs.declared.object_unit.object.RefKind.TheVariants as kind
use Rattle.flat_code.specs.declared.memory.Place.{Place}
use Rattle.flat_code.specs.Program.{Name}
use Rattle.code_templates.specs.code_lines.Addresses.{Addresses}
use Rattle.codegen_8086.specs.object_code.Resolved.{resolved}
use Rattle.mz_file.specs.Load.{loaded_segment, with_loaded_segment}

-- ## Addresses

abbrev pub loaded_place : Place → Place
loaded_place p = record p { segment = loaded_segment p.segment }

-- the same, with each segment a loaded one
abbrev pub loaded_addresses : Addresses → Addresses
loaded_addresses a = record {
  data_segment = loaded_segment a.data_segment;
  datum = a.datum;
  vmt = a.vmt;
  near = a.near;
  far = λ key. loaded_place (a.far key);
  error_routine = loaded_place a.error_routine;
  clear_routine = loaded_place a.clear_routine;
  flag_routine = loaded_place a.flag_routine;
}

-- ## References

-- how many bytes a reference fills
abbrev pub width_of : RefKind → ℕ
width_of kind.FarRoutine = 4
width_of kind.NearRoutine = 2
width_of kind.DataOffset = 2
width_of kind.DataSegment = 2
width_of kind.Vmt = 2
width_of kind.Runtime = 4

-- where the word of a segment stands, if there is one
abbrev pub segment_by : RefKind → ℕ → List ℕ
segment_by kind.FarRoutine offset = (offset + 2) ∷ []
segment_by kind.NearRoutine offset = []
segment_by kind.DataOffset offset = []
segment_by kind.DataSegment offset = offset ∷ []
segment_by kind.Vmt offset = []
segment_by kind.Runtime offset = (offset + 2) ∷ []

-- the relocations, or fixups, of code: one for each word of a segment
abbrev pub segment_places : List Ref → List ℕ
segment_places [] = []
segment_places (one ∷ refs) = segment_by one.kind one.offset ++ segment_places refs

-- no byte is filled by both
abbrev pub AreApart : Ref → Ref → Type 0
AreApart one other = (one.offset + width_of one.kind ≤ other.offset) ⊎ (other.offset + width_of other.kind ≤ one.offset)

-- Each fills bytes of its own, among so many.
abbrev pub AreSeparate : ℕ → List Ref → Type 0
AreSeparate size [] = Unit {0}
AreSeparate size (one ∷ refs) = (one.offset + width_of one.kind ≤ size) × All (AreApart one) refs × AreSeparate size refs

-- ## The law

-- at each of these places the word becomes a loaded segment
abbrev pub with_loaded : List ℕ → List ℕ → List ℕ
with_loaded bytes [] = bytes
with_loaded bytes (place ∷ places) = with_loaded (with_loaded_segment bytes place) places

-- Filling in addresses in the image and relocating is filling in the loaded addresses.
abbrev pub RaisingLaw : Type 0
RaisingLaw =
    (a : Addresses) (own : Name) (names : List Name) (p : ℕ) (bytes : List ℕ) (refs : List Ref) → AreSeparate (length bytes) refs
    → with_loaded (resolved a own names p bytes refs) (segment_places refs) ≡ resolved (loaded_addresses a) own names p bytes refs
