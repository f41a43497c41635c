-- When a process whose overlays are managed matches a state of the resident machine.
use Rattle.std.specs.Prelude.{◌≡◌, ◌≢◌, ℕ, ◌<◌, Bool, true, false, List, [], length, map, slice_index, slice_get, Some}
use Rattle.cpu_8086.specs.Memory.{address, load_byte, load_word}
use Rattle.overlay_file.specs.Stubs.{IsStub, entry_offset}
use Rattle.overlay_manager.specs.Manager.{Manager, next_stub}
use Rattle.overlay_manager.specs.Serves.{table_before}
use Rattle.overlay_manager.specs.Stubbing.{routine_at}
use Rattle.overlay_manager.specs.overlay_run.Managed.{Managed}
use Rattle.resident_machine.specs.Cells.{Known, Kept, Cells}
use Rattle.resident_machine.specs.Program.{Segment, OverlayCode, Program}
use Rattle.resident_machine.specs.Standing.{HoldsCode}
use Rattle.resident_machine.specs.State.{Record, ResidentState}
use Rattle.resident_machine.specs.Whole.{IsNamed}
use Rattle.return_repair.specs.declared.table.Loaded.{Loaded}
use Rattle.return_repair.specs.Follows.{overlay_at, none_met, topmost_into}
use Rattle.return_repair.specs.Pairs.{is_out, saved_at}
use Rattle.overlay_simulation.specs.Laid.{StandsBy}
use Rattle.overlay_simulation.specs.Shown.{number_by, IsIn, items_of, pairs_by}

-- how many bytes the stub of an overlay has
abbrev pub size_of : OverlayCode → ℕ
size_of o = entry_offset (length o.entries)

-- The stub of an overlay stands in memory, in bytes that are kept: it says where the overlay is loaded, if it is, and which stub is the
-- next one, and its entries lead to the overlay's routines. Of the two that save an offset only the word is known.
pub record StubStands (cells : Cells) (memory : List ℕ) (o : OverlayCode) (load next : ℕ) : Type 0 where
  pub kept : (k : ℕ) → k < size_of o → cells (address o.stub k) ≡ Kept
  pub small : (k : ℕ) → k < size_of o → k ≢ 2 → k ≢ 3 → load_byte memory o.stub k < 256
  pub is_stub : IsStub memory o.stub
  pub count : load_word memory o.stub 12 ≡ length o.entries
  pub loaded : load_word memory o.stub 14 ≡ load
  pub linked : load_word memory o.stub 16 ≡ next
  pub routines : (e : ℕ) → e < length o.entries → routine_at memory o.stub load (entry_offset e) ≡ slice_index o.entries e

-- Memory holds the overlays as the manager has them: the code of each that is loaded and each stub, all kept. The stub of one
-- that is out saves the offset of the topmost return into it, unless that return was taken.
pub record HoldsOverlays (p : Program) (m : Manager) (met : ℕ → Bool) (cells : Cells) (records : List Record) (memory : List ℕ) : Type 0 where
  pub code : (v : ℕ) (o : OverlayCode) → slice_get p.overlays v ≡ Some o → is_out (overlay_at (table_before m) v) ≡ false
      → HoldsCode cells memory (overlay_at (table_before m) v).load o.code
  pub stubs : (v : ℕ) (o : OverlayCode) → slice_get p.overlays v ≡ Some o
      → StubStands cells memory o (overlay_at (table_before m) v).load (next_stub m.stubs m.ring.seats v)
  pub saved : (v : ℕ) (o : OverlayCode) (offset : ℕ) → slice_get p.overlays v ≡ Some o → is_out (overlay_at (table_before m) v) ≡ true → met o.stub ≡ false
      → topmost_into (table_before m) o.stub (items_of records) ≡ Some offset → saved_at memory o.stub ≡ offset

-- The process stands for the state, by the table of the manager: what CS names is loaded, and return pairs stand as the table
-- shows them. As long as the installed flag is 0, no overlay is loaded.
pub record Matches (p : Program) (r : ResidentState) (q : Managed) : Type 0 where
  pub stands : StandsBy (number_by (table_before q.manager)) (pairs_by (table_before q.manager) none_met) p r q.process
  pub here : IsIn (table_before q.manager) r.cs
  pub overlays : HoldsOverlays p q.manager none_met r.cells r.records q.process.machine.memory
  pub flag : r.cells p.installed ≡ Known 0 → q.manager.ring.seats ≡ []

-- By its number each segment tells what stands there: code of the image, the code of one overlay, or one stub. The table has
-- the stubs of the program's overlays.
pub record TellsApart (p : Program) (table : List Loaded) : Type 0 where
  pub same : map (λ (l : Loaded). l.stub) table ≡ map (λ (o : OverlayCode). o.stub) p.overlays
  pub codes : (x y : Segment) → IsNamed p x → IsNamed p y → IsIn table x → IsIn table y → number_by table x ≡ number_by table y → x ≡ y
  pub stubs : (v w : ℕ) (a b : OverlayCode) → slice_get p.overlays v ≡ Some a → slice_get p.overlays w ≡ Some b → a.stub ≡ b.stub → v ≡ w
  pub others : (v : ℕ) (o : OverlayCode) (x : Segment) → slice_get p.overlays v ≡ Some o → IsNamed p x → IsIn table x → o.stub ≢ number_by table x
  pub positive : (v : ℕ) (o : OverlayCode) → slice_get p.overlays v ≡ Some o → 0 < o.stub
