-- Where code and return pairs stand as they are named, nothing differs from the relation without overlays.
use Rattle.std.proofs.Common.{◌≡◌, ℕ, ◌+◌, ◌%◌, Bool, List, [], ◌∷◌, refl, sym, ap, ◌∙◌, subst}
use Rattle.std.specs.List.{AllByRecursion}
use Rattle.std.specs.Prelude.{slice_get, Some}
use Rattle.cpu_8086.specs.Process as process
use Rattle.cpu_8086.specs.Process.{Process}
use Rattle.overlay_manager.specs.Manager.{table_by}
use Rattle.overlay_manager.specs.Serves.{table_before}
use Rattle.overlay_manager.specs.overlay_run.Managed.{Managed}
use Rattle.resident_machine.specs.Program.{Segment, Image, Overlay, OverlayCode, Program}
use Rattle.resident_machine.specs.Standing.{number_of, PairWord, low_of, high_of, words_of, with_half, HoldsMemory, StandsFor, status_of}
use Rattle.resident_machine.specs.State.{Record, ResidentStatus, Running, Ended, Stopped, ResidentState}
use Rattle.resident_machine.specs.Whole.{IsImage, IsOutside}
use Rattle.return_repair.specs.declared.table.Loaded.{Loaded}
use Rattle.return_repair.specs.Follows.{none_met}
use Rattle.overlay_simulation.specs.Laid.{with_pairs, status_by, StandsBy, named_pairs}
use Rattle.overlay_simulation.specs.Matching.{HoldsOverlays, Matches}
use Rattle.overlay_simulation.specs.Shown.{number_by, IsIn, pairs_by}
use Rattle.overlay_simulation.proofs.ShownLaws.{pair_by, met_past, laid_record, laid_first}

-- ## From one state to another with the same words

-- of two states that differ in names alone, each process that stands for one stands for the other
renamed : (p : Program) (r : ResidentState) (q : Process) (cs other : Segment) (records others : List Record) (status later : ResidentStatus) → number_of cs ≡ number_of other → words_of records ≡ words_of others → status_of status ≡ status_of later
    → StandsFor p (record r { cs = cs; records = records; status = status }) q → StandsFor p (record r { cs = other; records = others; status = later }) q
renamed p r q cs other records others status later number words stands h = record {
  registers = h.registers;
  cs = h.cs ∙ number;
  memory = subst (λ (n : ℕ). HoldsMemory p r.registers.ss r.cells q.machine.memory (with_half r.half r.registers.sp n (words_of others))) number
      (subst (λ (ws : List PairWord). HoldsMemory p r.registers.ss r.cells q.machine.memory (with_half r.half r.registers.sp (number_of cs) ws)) words h.memory);
  input = h.input;
  taken = h.taken;
  out = h.out;
  err = h.err;
  status = h.status ∙ stands;
}

-- ## By their names

words_named : (records : List Record) → words_of (with_pairs records (named_pairs records)) ≡ words_of records
words_named [] = refl
words_named (x ∷ records) = ap (λ (ws : List PairWord). low_of x ∷ high_of x ∷ ws) (words_named records)

status_named : (status : ResidentStatus) → status_of (status_by number_of status) ≡ status_of status
status_named Running = refl
status_named (Ended code) = refl
status_named (Stopped segment offset why) = refl

pub named_stands : (p : Program) (r : ResidentState) (q : Process) → StandsFor p r q → StandsBy number_of named_pairs p r q
named_stands p r q h = renamed p r q r.cs (Image (number_of r.cs)) r.records (with_pairs r.records (named_pairs r.records)) r.status (status_by number_of r.status) refl (sym (words_named r.records)) (sym (status_named r.status)) h

pub stands_named : (p : Program) (r : ResidentState) (q : Process) → StandsBy number_of named_pairs p r q → StandsFor p r q
stands_named p r q h = renamed p r q (Image (number_of r.cs)) r.cs (with_pairs r.records (named_pairs r.records)) r.records (status_by number_of r.status) r.status refl (words_named r.records) (status_named r.status) h

-- ## Without overlays

number_none : (segment : Segment) → number_by [] segment ≡ number_of segment
number_none (Image number) = refl
number_none (Overlay v) = refl

status_none : (status : ResidentStatus) → status_of (status_by (number_by []) status) ≡ status_of status
status_none Running = refl
status_none (Ended code) = refl
status_none (Stopped segment offset why) = ap (λ (n : ℕ). process.Stopped n offset why) (number_none segment)

-- a pair that leads into the image
pair_words : (table : List Loaded) (met : ℕ → Bool) (place offset : ℕ) (segment : Segment) (ws : List PairWord) → IsImage segment
    → low_of (laid_record place (pair_by table met segment offset)) ∷ high_of (laid_record place (pair_by table met segment offset)) ∷ ws
    ≡ record { offset = place; value = offset } ∷ record { offset = (place + 2) % 65536; value = number_of segment } ∷ ws
pair_words table met place offset (Image number) ws image = refl
pair_words table met place offset (Overlay v) ws image = absurd image

words_none : (table : List Loaded) (met : ℕ → Bool) (records : List Record) → AllByRecursion (λ (x : Record). IsImage x.segment) records → words_of (with_pairs records (pairs_by table met records)) ≡ words_of records
words_none table met [] images = refl
words_none table met (x ∷ records) images =
    let past : ℕ → Bool = met_past table met x.segment in
    ap words_of (laid_first table met x records)
    ∙ pair_words table met x.place x.offset x.segment (words_of (with_pairs records (pairs_by table past records))) images.0
    ∙ ap (λ (ws : List PairWord). low_of x ∷ high_of x ∷ ws) (words_none table past records images.1)

-- no overlay was entered, and there is none
module _ (p : Program) (r : ResidentState) (q : Managed) (none : p.overlays ≡ []) (stubs : q.manager.stubs ≡ []) (outside : IsOutside r) where
  table_none : table_before q.manager ≡ []
  table_none = ap (λ (xs : List ℕ). table_by (record q.manager { stubs = xs }) q.manager.ring.seats) stubs

  shown_none : words_of (with_pairs r.records (pairs_by [] none_met r.records)) ≡ words_of r.records
  shown_none = words_none [] none_met r.records outside.records

  pub matches_stands : Matches p r q → StandsFor p r q.process
  matches_stands m =
      let h = subst (λ (table : List Loaded). StandsBy (number_by table) (pairs_by table none_met) p r q.process) table_none m.stands in
      renamed p r q.process (Image (number_by [] r.cs)) r.cs (with_pairs r.records (pairs_by [] none_met r.records)) r.records (status_by (number_by []) r.status) r.status (number_none r.cs) shown_none (status_none r.status) h

  in_image : (table : List Loaded) (cs : Segment) → IsImage cs → IsIn table cs
  in_image table (Image number) image = tt
  in_image table (Overlay v) image = absurd image

  no_overlays : HoldsOverlays p q.manager none_met r.cells r.records q.process.machine.memory
  no_overlays = record {
    code = λ v o found loaded. absurd (nothing v o found);
    stubs = λ v o found. absurd (nothing v o found);
    saved = λ v o offset found out unmet topmost. absurd (nothing v o found);
  }
    where
      nothing : (v : ℕ) (o : OverlayCode) → slice_get p.overlays v ≡ Some o → ⊥
      nothing v o found = let e = sym (ap (λ (xs : List OverlayCode). slice_get xs v) none) ∙ found in absurd (cc)

  pub stands_matches : q.manager.ring.seats ≡ [] → StandsFor p r q.process → Matches p r q
  stands_matches seats h = record {
    stands = subst (λ (table : List Loaded). StandsBy (number_by table) (pairs_by table none_met) p r q.process) (sym table_none)
        (renamed p r q.process r.cs (Image (number_by [] r.cs)) r.records (with_pairs r.records (pairs_by [] none_met r.records)) r.status (status_by (number_by []) r.status) (sym (number_none r.cs)) (sym shown_none) (sym (status_none r.status)) h);
    here = in_image (table_before q.manager) r.cs outside.cs;
    overlays = no_overlays;
    flag = λ unset. seats;
  }
