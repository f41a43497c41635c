-- Where a process stands for a state seen from a stub, a service may begin; and where memory is as it leaves it, the process stands for the
-- state by the new table.
use Rattle.std.proofs.Common.{◌≡◌, ℕ, ◌<◌, ◌==◌, Bool, true, false, List, ◌∷◌, length, Some, refl, sym, ap, ◌∙◌, subst, eqb-true}
use Rattle.std.specs.Prelude.{if◌then◌else◌, slice_index, slice_get}
use Rattle.cpu_8086.specs.declared.registers.Far.{Far}
use Rattle.cpu_8086.specs.declared.registers.Registers.{Registers}
use Rattle.cpu_8086.specs.Access.{at_offset}
use Rattle.cpu_8086.specs.Process.{Process}
use Rattle.cpu_8086.specs.State.{State}
use Rattle.overlay_manager.specs.Manager.{Manager}
use Rattle.overlay_manager.specs.Serves.{table_before}
use Rattle.resident_machine.specs.Framed.{IsFramed}
use Rattle.resident_machine.specs.Program.{OverlayCode, Program}
use Rattle.resident_machine.specs.Cells.{Cells}
use Rattle.resident_machine.specs.Standing.{PairWord, words_of, with_half, HoldsMemory, StandsFor, status_of}
use Rattle.resident_machine.specs.State.{ResidentStatus, ResidentState, Running}
use Rattle.resident_machine.specs.Whole.{IsWhole}
use Rattle.return_repair.specs.declared.table.Loaded.{Loaded}
use Rattle.return_repair.specs.Follows.{Denoted, Into, overlay_at, none_met, met_too, topmost_into}
use Rattle.return_repair.specs.Pairs.{is_out, saved_at}
use Rattle.overlay_simulation.specs.Laid.{with_pairs, status_by}
use Rattle.overlay_simulation.specs.Matching.{HoldsOverlays, TellsApart}
use Rattle.overlay_simulation.specs.Shown.{at_pair, number_by, items_of, pairs_by, shown_state}
use Rattle.overlay_simulation.proofs.ReturnLaws.{topmost_below}
use Rattle.overlay_simulation.proofs.TableLaws.{stub_is, inside_known}
use Rattle.overlay_services.specs.Sound.{IsSound}
use Rattle.overlay_services.proofs.WrittenLaws.{Begins}

-- ## Without half a pair

whole_words : (p : Program) (ss sp n : ℕ) (half : Bool) (cells : Cells) (memory : List ℕ) (ws : List PairWord) → half ≡ false → HoldsMemory p ss cells memory (with_half half sp n ws) → HoldsMemory p ss cells memory ws
whole_words p ss sp n true cells memory ws whole h = absurd (cc)
whole_words p ss sp n false cells memory ws whole h = h

halved_words : (p : Program) (ss sp n : ℕ) (half : Bool) (cells : Cells) (memory : List ℕ) (ws : List PairWord) → half ≡ false → HoldsMemory p ss cells memory ws → HoldsMemory p ss cells memory (with_half half sp n ws)
halved_words p ss sp n true cells memory ws whole h = absurd (cc)
halved_words p ss sp n false cells memory ws whole h = h

-- ## What is saved

module _ (p : Program) (m : Manager) (told : TellsApart p (table_before m)) (t : ResidentState) (memory : List ℕ) where
  abbrev table : List Loaded
  table = table_before m

  saved_there : (met : ℕ → Bool) → HoldsOverlays p m met t.cells t.records memory → (v offset : ℕ) → v < length table → is_out (overlay_at table v) ≡ true → met (overlay_at table v).stub ≡ false → topmost_into table (overlay_at table v).stub (items_of t.records) ≡ Some offset
      → saved_at memory (overlay_at table v).stub ≡ offset
  saved_there met h v offset lt out unmet topmost =
      let o = inside_known p table told v lt in
      let stub : (overlay_at table v).stub ≡ o.0.stub = stub_is p table told v o.0 o.1 in
      ap (saved_at memory) stub ∙ h.saved v o.0 offset o.1 out (ap met (sym stub) ∙ unmet) (ap (λ (z : ℕ). topmost_into table z (items_of t.records)) (sym stub) ∙ topmost)

  -- a return was taken into an overlay that is out, whose stub saves where it goes on
  saved_taken : (v : ℕ) (o : OverlayCode) (ip : ℕ) → (overlay_at table v).stub ≡ o.stub → saved_at memory o.stub ≡ ip → HoldsOverlays p m (met_too o.stub none_met) t.cells t.records memory
      → (w offset : ℕ) → w < length table → is_out (overlay_at table w) ≡ true → topmost_into table (overlay_at table w).stub (Into v ip ∷ items_of t.records) ≡ Some offset → saved_at memory (overlay_at table w).stub ≡ offset
  saved_taken v o ip stub saved h w offset lt out topmost = by ((overlay_at table w).stub == (overlay_at table v).stub) refl topmost
    where
      by : (b : Bool) → ((overlay_at table w).stub == (overlay_at table v).stub) ≡ b → (if b then Some ip else topmost_into table (overlay_at table w).stub (items_of t.records)) ≡ Some offset → saved_at memory (overlay_at table w).stub ≡ offset
      by true is e =
          let same : ip ≡ offset = cc in
          ap (saved_at memory) (eqb-true (overlay_at table w).stub (overlay_at table v).stub is ∙ stub) ∙ saved ∙ same
      by false is e =
          let unmet : met_too o.stub none_met (overlay_at table w).stub ≡ false = ap (λ (z : ℕ). if (overlay_at table w).stub == z then true else false) (sym stub) ∙ ap (λ (b : Bool). if b then true else false) is in
          saved_there (met_too o.stub none_met) h w offset lt out unmet e

-- ## A service may begin

-- the machine has the stack and the memory of the process
pub record HasStackOf (u : Process) (s : State) : Type 0 where
  pub ss : s.registers.ss ≡ u.machine.registers.ss
  pub sp : s.registers.sp ≡ u.machine.registers.sp
  pub bp : s.registers.bp ≡ u.machine.registers.bp
  pub memory : s.memory ≡ u.machine.memory

module _ (p : Program) (kept : ℕ → Bool) (bytes : List ℕ) (m : Manager) (sound : IsSound p kept bytes m) (told : TellsApart p (table_before m)) (t : ResidentState) (whole : IsWhole p kept t) (half : t.half ≡ false)
    (pending : Bool) (framed : IsFramed p pending t) (met : ℕ → Bool) (from : Far) (u : Process) (stands : StandsFor p (at_pair from (shown_state (table_before m) met t)) u) (overlays : HoldsOverlays p m met t.cells t.records u.machine.memory) where
  holds : HoldsMemory p t.registers.ss t.cells u.machine.memory (words_of (with_pairs t.records (pairs_by (table_before m) met t.records)))
  holds = whole_words p t.registers.ss t.registers.sp from.segment t.half t.cells u.machine.memory (words_of (with_pairs t.records (pairs_by (table_before m) met t.records))) half stands.memory

  abbrev Saves : List Denoted → Type 0
  Saves denoted = (v offset : ℕ) → v < length (table_before m) → is_out (overlay_at (table_before m) v) ≡ true → topmost_into (table_before m) (overlay_at (table_before m) v).stub denoted ≡ Some offset → saved_at u.machine.memory (overlay_at (table_before m) v).stub ≡ offset

  abbrev ToCome : List Denoted → Type 0
  ToCome denoted =
      (v : ℕ) → v < length (table_before m) → met (overlay_at (table_before m) v).stub ≡ false
      → topmost_into (table_before m) (overlay_at (table_before m) v).stub (items_of t.records) ≡ topmost_into (table_before m) (overlay_at (table_before m) v).stub denoted

  pub begins_so : (s : State) → HasStackOf u s → (denoted : List Denoted) → Saves denoted → ToCome denoted → Begins p kept bytes m met t s pending denoted
  begins_so s is denoted saves to_come =
      let ss : s.registers.ss ≡ t.registers.ss = is.ss ∙ ap (λ (g : Registers). g.ss) stands.registers in
      record {
        sound = sound;
        ready = record {
          manages = sound.manages;
          told = told;
          apart = sound.apart;
          whole = whole;
          stack = record {
            ss = ss;
            sp = is.sp ∙ ap (λ (g : Registers). g.sp) stands.registers;
            bp = is.bp ∙ ap (λ (g : Registers). g.bp) stands.registers;
            size = ap length is.memory ∙ stands.memory.size;
            known = λ place value known. ap (λ (memory : List ℕ). slice_index memory place) is.memory ∙ stands.memory.known place value known;
          };
          overlays = subst (HoldsOverlays p m met t.cells t.records) (sym is.memory) overlays;
        };
        framed = framed;
        memory = subst (λ (memory : List ℕ). HoldsMemory p s.registers.ss t.cells memory (words_of (with_pairs t.records (pairs_by (table_before m) met t.records)))) (sym is.memory)
            (subst (λ (n : ℕ). HoldsMemory p n t.cells u.machine.memory (words_of (with_pairs t.records (pairs_by (table_before m) met t.records)))) (sym ss) holds);
        saves = subst (λ (memory : List ℕ). (v offset : ℕ) → v < length (table_before m) → is_out (overlay_at (table_before m) v) ≡ true → topmost_into (table_before m) (overlay_at (table_before m) v).stub denoted ≡ Some offset → saved_at memory (overlay_at (table_before m) v).stub ≡ offset)
            (sym is.memory) saves;
        to_come = to_come;
      }

-- where no return was taken
pub begins_whole : (p : Program) (kept : ℕ → Bool) (bytes : List ℕ) (m : Manager) → IsSound p kept bytes m → TellsApart p (table_before m) → (t : ResidentState) → IsWhole p kept t → t.half ≡ false → (pending : Bool) → IsFramed p pending t → (from : Far) (u : Process)
    → StandsFor p (at_pair from (shown_state (table_before m) none_met t)) u → HoldsOverlays p m none_met t.cells t.records u.machine.memory → (s : State) → HasStackOf u s → Begins p kept bytes m none_met t s pending (items_of t.records)
begins_whole p kept bytes m sound told t whole half pending framed from u stands overlays s is =
    begins_so p kept bytes m sound told t whole half pending framed none_met from u stands overlays s is (items_of t.records)
    (λ v offset lt out topmost. saved_there p m told t u.machine.memory none_met overlays v offset lt out refl topmost) (λ v lt unmet. refl)

-- where a return into an overlay that is out was taken
pub begins_taken : (p : Program) (kept : ℕ → Bool) (bytes : List ℕ) (m : Manager) → IsSound p kept bytes m → TellsApart p (table_before m) → (t : ResidentState) → IsWhole p kept t → t.half ≡ false → IsFramed p false t → (v : ℕ) (o : OverlayCode) → slice_get p.overlays v ≡ Some o
    → (from : Far) (u : Process) → StandsFor p (at_pair from (shown_state (table_before m) (met_too o.stub none_met) t)) u → saved_at u.machine.memory o.stub ≡ t.registers.ip → HoldsOverlays p m (met_too o.stub none_met) t.cells t.records u.machine.memory → (s : State) → HasStackOf u s
    → Begins p kept bytes m (met_too o.stub none_met) t s false (Into v t.registers.ip ∷ items_of t.records)
begins_taken p kept bytes m sound told t whole half framed v o found from u stands saved overlays s is =
    let stub = stub_is p (table_before m) told v o found in
    begins_so p kept bytes m sound told t whole half false framed (met_too o.stub none_met) from u stands overlays s is (Into v t.registers.ip ∷ items_of t.records) (saved_taken p m told t u.machine.memory v o t.registers.ip stub saved overlays)
    (λ w lt unmet. topmost_below (table_before m) v w t.registers.ip t.records 0 (ap (λ (z : ℕ). met_too z none_met (overlay_at (table_before m) w).stub) stub ∙ unmet))

-- ## The process afterwards

pub stands_after : (p : Program) (old new : List Loaded) (met : ℕ → Bool) (t : ResidentState) (from to : Far) (u : Process) (g : Registers) (cs : ℕ) (after : List ℕ) → t.half ≡ false → t.status ≡ Running → StandsFor p (at_pair from (shown_state old met t)) u
    → g ≡ at_offset t.registers to.offset → cs ≡ to.segment → HoldsMemory p t.registers.ss t.cells after (words_of (with_pairs t.records (pairs_by new none_met t.records))) → StandsFor p (at_pair to (shown_state new none_met t)) (record u { machine = record { registers = g; cs = cs; memory = after } })
stands_after p old new met t from to u g cs after half running stands registers segment memory = record {
  registers = registers;
  cs = segment;
  memory = halved_words p t.registers.ss t.registers.sp to.segment t.half t.cells after (words_of (with_pairs t.records (pairs_by new none_met t.records))) half memory;
  input = stands.input;
  taken = stands.taken;
  out = stands.out;
  err = stands.err;
  status = stands.status ∙ ap (λ (status : ResidentStatus). status_of (status_by (number_by old) status)) running ∙ sym (ap (λ (status : ResidentStatus). status_of (status_by (number_by new) status)) running);
}
