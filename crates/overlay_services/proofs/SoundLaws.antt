-- What stays as overlays move holds of the manager with other seats; and the table of its seats tells apart what stands in memory.
use Rattle.std.proofs.Common.{◌≡◌, ℕ, ◌<◌, Bool, List, length, ap, ◌∙◌, subst, arith}
use Rattle.overlay_manager.specs.declared.tally.Tally.{Tally}
use Rattle.overlay_manager.specs.Manager.{Manager}
use Rattle.overlay_manager.specs.Serves.{table_before}
use Rattle.overlay_manager.proofs.StandLaws.{length-code_of}
use Rattle.overlay_ring.specs.declared.seat.Seat.{Seat}
use Rattle.resident_machine.specs.Program.{Program}
use Rattle.resident_machine.specs.Whole.{HasSmallOverlays}
use Rattle.overlay_simulation.specs.Matching.{TellsApart}
use Rattle.overlay_simulation.proofs.LegalLaws.{told}
use Rattle.overlay_simulation.proofs.TableLaws.{overlay_code}
use Rattle.overlay_services.specs.Sound.{IsSound}
use Rattle.overlay_services.specs.Seated.{IsSeated}

-- the manager with other seats and another tally
abbrev pub reseated : Manager → List Seat → Tally → Manager
reseated m seats tally = record m { ring = record m.ring { seats = seats }; tally = tally }

pub sound_with : (p : Program) (kept : ℕ → Bool) (bytes : List ℕ) (m : Manager) (seats : List Seat) (tally : Tally) → IsSound p kept bytes m → IsSound p kept bytes (reseated m seats tally)
sound_with p kept bytes m seats tally h = record {
  manages = record { stubs = h.manages.stubs; installed = h.manages.installed; error_routine = h.manages.error_routine; marked = h.manages.marked };
  segments = record {
    room = h.segments.room;
    sizes = h.segments.sizes;
    stubs = h.segments.stubs;
    positive = h.segments.positive;
    stub_outside = h.segments.stub_outside;
    image_outside = h.segments.image_outside;
    image_stubs = h.segments.image_stubs;
  };
  apart = record { stubs = h.apart.stubs; off_buffer = h.apart.off_buffer; buffer = h.apart.buffer };
  image = λ number code named. record { off_stubs = (h.image number code named).off_stubs; off_buffer = (h.image number code named).off_buffer };
  words = h.words;
  room = h.room;
  sizes = h.sizes;
  count = h.count;
  code_sizes = h.code_sizes;
  whole = h.whole;
  filed = λ v o found. record { entry = (h.filed v o found).entry; found = (h.filed v o found).found; code = (h.filed v o found).code };
}

pub seated_told : (p : Program) (kept : ℕ → Bool) (bytes : List ℕ) (m : Manager) → IsSeated p kept bytes m → TellsApart p (table_before m)
seated_told p kept bytes m h = told p m m.ring.seats h.sound.manages h.sound.segments h.table

-- overlays are smaller than a segment
pub sound_small : (p : Program) (kept : ℕ → Bool) (bytes : List ℕ) (m : Manager) → IsSound p kept bytes m → HasSmallOverlays p
sound_small p kept bytes m h v code named =
    let o = overlay_code p.overlays v code named in
    let f = h.filed v o.0 o.1 in
    let sizes = h.code_sizes v f.entry f.found in
    let size : length o.0.code ≡ f.entry.size = ap length f.code ∙ length-code_of bytes f.entry sizes.0 (h.whole v f.entry f.found) in
    let small : length o.0.code < 65536 = omega arith in
    subst (λ (xs : List ℕ). length xs < 65536) o.2 small
