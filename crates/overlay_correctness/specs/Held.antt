-- The program of the resident machine that an executable file and an overlay file hold.
use Rattle.std.specs.Prelude.{◌≡◌, ◌≢◌, ℕ, zero, suc, ◌+◌, ◌*◌, ◌<◌, ◌≤◌, Bool, IsTrue, if◌then◌else◌, List, [], ◌∷◌, length, slice_index, slice_get, Some}
use Rattle.cpu_8086.specs.Memory.{address}
use Rattle.cpu_8086.specs.State.{State}
use Rattle.mz_file.specs.declared.executable.Exe.{Exe}
use Rattle.mz_file.specs.Load.{loaded, loaded_byte, loaded_segment, paragraphs_taken, relocated}
use Rattle.mz_file.specs.Words.{word_at}
use Rattle.overlay_file.specs.declared.overlay.OvrEntry.{OvrEntry}
use Rattle.overlay_manager.specs.Code.{code_of}
use Rattle.overlay_manager.specs.Manager.{Manager, loaded_far}
use Rattle.overlay_manager.specs.overlay_run.Managed.{Managed}
use Rattle.resident_machine.specs.Cells.{Known, Kept, Cells}
use Rattle.resident_machine.specs.Program.{Image, OverlayCode, Program}
use Rattle.resident_machine.specs.Start.{resident_start}
use Rattle.resident_machine.specs.State.{ResidentState}
use Rattle.resident_machine.specs.Whole.{IsNamed}
use Rattle.dos_runner.specs.Run.{process_of}

-- ## Overlays

-- the offsets of the routines of so many entries of a stub, from a place of an image on
abbrev pub routines_at : List ℕ → ℕ → ℕ → List ℕ
routines_at image place zero = []
routines_at image place (suc entries) = word_at image (place + 2) ∷ routines_at image (place + 5) entries

-- how many entries the stub at a segment of an image has, and how many bytes
abbrev pub entry_count : List ℕ → ℕ → ℕ
entry_count image segment = word_at image (16 * segment + 12)

abbrev pub stub_bytes : List ℕ → ℕ → ℕ
stub_bytes image segment = 32 + 5 * entry_count image segment

-- the overlay of the stub at a segment of an image, with its code in the overlay file
abbrev pub overlay_in : List ℕ → List ℕ → ℕ → OvrEntry → OverlayCode
overlay_in image bytes segment entry = record {
  stub = loaded_segment segment;
  entries = routines_at image (16 * segment + 32) (entry_count image segment);
  code = code_of bytes entry;
}

abbrev pub overlays_in : List ℕ → List ℕ → List ℕ → List OvrEntry → List OverlayCode
overlays_in image bytes [] entries = []
overlays_in image bytes (segment ∷ segments) [] = []
overlays_in image bytes (segment ∷ segments) (entry ∷ entries) = overlay_in image bytes segment entry ∷ overlays_in image bytes segments entries

-- ## The image

-- Code that begins at a segment stands in the loaded image, off the stubs. Its bytes are kept.
pub record IsCodeOf (exe : Exe) (kept : ℕ → Bool) (number : ℕ) (code : List ℕ) : Type 0 where
  pub size : length code ≤ 65536
  pub begins : number < paragraphs_taken exe
  pub ends : 16 * number + length code ≤ 16 * paragraphs_taken exe
  pub bytes : (k : ℕ) → k < length code → loaded_byte exe (16 * number + k) ≡ slice_index code k
  pub stays : (k : ℕ) → k < length code → IsTrue (kept (16 * number + k))
  pub no_stub : (v segment : ℕ) → slice_get exe.block.stubs v ≡ Some segment → loaded_segment segment ≢ number
  pub off_stubs : (v segment : ℕ) → slice_get exe.block.stubs v ≡ Some segment → (j k : ℕ) → j < length code → k < stub_bytes exe.image segment → 16 * number + j ≢ 16 * loaded_segment segment + k

-- No two stubs share a byte, and relocating leaves each as it is. Their bytes are kept.
pub record HasStubs (exe : Exe) (kept : ℕ → Bool) : Type 0 where
  pub apart : (v w a b : ℕ) → slice_get exe.block.stubs v ≡ Some a → slice_get exe.block.stubs w ≡ Some b → v < w → (j k : ℕ) → j < stub_bytes exe.image a → k < stub_bytes exe.image b → 16 * b + k ≢ 16 * a + j
  pub left : (v segment : ℕ) → slice_get exe.block.stubs v ≡ Some segment → (k : ℕ) → k < stub_bytes exe.image segment → slice_index (relocated exe.image exe.relocations) (16 * segment + k) ≡ slice_index exe.image (16 * segment + k)
  pub bytes : (v segment : ℕ) → slice_get exe.block.stubs v ≡ Some segment → (k : ℕ) → k < stub_bytes exe.image segment → slice_index exe.image (16 * segment + k) < 256
  pub stays : (v segment : ℕ) → slice_get exe.block.stubs v ≡ Some segment → (k : ℕ) → k < stub_bytes exe.image segment → IsTrue (kept (16 * loaded_segment segment + k))

-- The files hold the program, and these bytes of memory are kept: those of code and stubs, and all behind the extra memory.
pub record IsHeldBy (p : Program) (kept : ℕ → Bool) (exe : Exe) (entries : List OvrEntry) (bytes : List ℕ) : Type 0 where
  pub overlays : p.overlays ≡ overlays_in exe.image bytes exe.block.stubs entries
  pub installed : p.installed ≡ address (loaded_far exe.block.installed).segment (loaded_far exe.block.installed).offset
  pub error_routine : p.error_routine ≡ loaded_far exe.block.error_routine
  pub marked : p.marked ≡ exe.block.marked
  pub code : (number : ℕ) (code : List ℕ) → p.image number ≡ Some code → IsCodeOf exe kept number code
  pub stubs : HasStubs exe kept
  pub behind : (at : ℕ) → 16 * paragraphs_taken exe ≤ at → IsTrue (kept at)
  pub entry : IsNamed p (Image (loaded_segment exe.entry.segment))

-- what is known of memory as it starts: each byte of the image, and zeros besides, but for those that are kept
abbrev pub start_cells : (ℕ → Bool) → Exe → Cells
start_cells kept exe place = if kept place then Kept else Known (loaded_byte exe place)

-- the resident state from which it starts, with an input
abbrev pub start_of : (ℕ → Bool) → Exe → List ℕ → ResidentState
start_of kept exe input = record (resident_start kept (Image (loaded_segment exe.entry.segment)) (process_of (loaded exe) input)) { cells = start_cells kept exe }

-- an opened program with an input, before its first event
abbrev pub begun : State → Manager → List ℕ → Managed
begun machine manager input = record { process = process_of machine input; manager = manager; traps = 0 }
