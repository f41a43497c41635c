-- Cells in which bytes are kept and words of return pairs stand apart, as they change.
use Rattle.std.proofs.Common.{◌≡◌, ◌≢◌, ℕ, ◌<◌, Bool, List, [], ◌∷◌, sym, ap, ◌∙◌}
use Rattle.std.specs.Prelude.{IsTrue, Ok}
use Rattle.std.specs.List.{AllByRecursion}
use Rattle.cpu_8086.specs.Memory.{address, next_offset}
use Rattle.resident_machine.specs.Cells.{Cell, Known, Unknown, Kept, Paired, Cells, with_cell, with_word, is_free, with_lost, with_bytes}
use Rattle.resident_machine.specs.Whole.{MissesOffset, ArePaired}
use Rattle.resident_machine.proofs.CellLaws.{with_cell-other, free_ok, free_not_kept, free_not_paired, ok_same, with_lost-kept, with_lost-paired}
use Rattle.resident_machine.proofs.HoldLaws.{IsPushed, with_word-other}

pub record Firm (kept : ℕ → Bool) (ss : ℕ) (c : Cells) (offsets : List ℕ) : Type 0 where
  pub stays : (place : ℕ) → IsTrue (kept place) → c place ≡ Kept
  pub paired : ArePaired ss c offsets

-- cells of which kept and paired ones stay so
pub firm_kept : (kept : ℕ → Bool) (ss : ℕ) (c d : Cells) (os : List ℕ) → ((place : ℕ) → c place ≡ Kept → d place ≡ Kept) → ((place : ℕ) → c place ≡ Paired → d place ≡ Paired) → Firm kept ss c os → Firm kept ss d os
firm_kept kept ss c d os keeps pairs f = record { stays = λ place e. keeps place (f.stays place e); paired = on os f.paired }
  where
    on : (os : List ℕ) → ArePaired ss c os → ArePaired ss d os
    on [] h = tt
    on (o ∷ os) h = (record { fits = h.0.fits; low = pairs (address ss o) h.0.low; high = pairs (address ss (next_offset o)) h.0.high }, h.1, on os h.2)

pub firm_written : (kept : ℕ → Bool) (ss : ℕ) (c : Cells) (os : List ℕ) (place : ℕ) (x : Cell) → IsTrue (is_free (c place)) → Firm kept ss c os → Firm kept ss (with_cell c place x) os
firm_written kept ss c os place x free f =
    firm_kept kept ss c (with_cell c place x) os
    (λ other e. with_cell-other c place x other (free_not_kept c place other free e) ∙ e)
    (λ other e. with_cell-other c place x other (free_not_paired c place other free e) ∙ e) f

pub firm_lost : (kept : ℕ → Bool) (ss : ℕ) (c : Cells) (os : List ℕ) (segment offset : ℕ) → Firm kept ss c os → Firm kept ss (with_lost segment offset c) os
firm_lost kept ss c os segment offset f = firm_kept kept ss c (with_lost segment offset c) os (with_lost-kept segment offset c) (with_lost-paired segment offset c) f

misses_free : (ss offset : ℕ) (c : Cells) (os : List ℕ) → IsTrue (is_free (c (address ss offset))) → IsTrue (is_free (c (address ss (next_offset offset)))) → ArePaired ss c os → AllByRecursion (MissesOffset ss offset) os
misses_free ss offset c [] low high h = tt
misses_free ss offset c (o ∷ os) low high h = (
  record {
    low = record { low = free_not_paired c (address ss offset) (address ss o) low h.0.low; high = free_not_paired c (address ss (next_offset offset)) (address ss o) high h.0.low };
    high = record { low = free_not_paired c (address ss offset) (address ss (next_offset o)) low h.0.high; high = free_not_paired c (address ss (next_offset offset)) (address ss (next_offset o)) high h.0.high };
  },
  misses_free ss offset c os low high h.2,
)

pub firm_pushed : (kept : ℕ → Bool) (ss : ℕ) (c d : Cells) (os : List ℕ) (offset : ℕ) → offset < 65536 → IsTrue (is_free (c (address ss offset))) → IsTrue (is_free (c (address ss (next_offset offset)))) → IsPushed ss offset c d → Firm kept ss c os → Firm kept ss d (offset ∷ os)
firm_pushed kept ss c d os offset lt low high pushed f =
    let after = firm_kept kept ss c d os
    (λ place e. pushed.others place (free_not_kept c (address ss offset) place low e) (free_not_kept c (address ss (next_offset offset)) place high e) ∙ e)
    (λ place e. pushed.others place (free_not_paired c (address ss offset) place low e) (free_not_paired c (address ss (next_offset offset)) place high e) ∙ e) f in
    record { stays = after.stays; paired = (record { fits = lt; low = pushed.low; high = pushed.high }, misses_free ss offset c os low high f.paired, after.paired) }

pub firm_taken : (kept : ℕ → Bool) (ss : ℕ) (c : Cells) (offset : ℕ) (os : List ℕ) → Firm kept ss c (offset ∷ os) → Firm kept ss (with_word c ss offset Unknown) os
firm_taken kept ss c offset os f = record {
  stays = λ place e. stays place (f.stays place e);
  paired = on os f.paired.1 f.paired.2;
}
  where
    differ : (place other : ℕ) → c place ≡ Kept → c other ≡ Paired → place ≢ other
    differ place other kept paired same = let z : c place ≡ c other = ap c same in absurd (cc)

    stays : (place : ℕ) → c place ≡ Kept → with_word c ss offset Unknown place ≡ Kept
    stays place e = with_word-other c ss offset Unknown place (differ place _ e f.paired.0.low) (differ place _ e f.paired.0.high) ∙ e

    on : (os : List ℕ) → AllByRecursion (MissesOffset ss offset) os → ArePaired ss c os → ArePaired ss (with_word c ss offset Unknown) os
    on [] apart h = tt
    on (o ∷ os) apart h = (
      record {
        fits = h.0.fits;
        low = with_word-other c ss offset Unknown (address ss o) apart.0.low.low apart.0.low.high ∙ h.0.low;
        high = with_word-other c ss offset Unknown (address ss (next_offset o)) apart.0.high.low apart.0.high.high ∙ h.0.high;
      },
      h.1,
      on os apart.1 h.2,
    )

pub firm_bytes : (kept : ℕ → Bool) (ss : ℕ) (os : List ℕ) (segment : ℕ) (bytes : List ℕ) (offset : ℕ) (c d : Cells) → with_bytes c segment offset bytes ≡ Ok d → Firm kept ss c os → Firm kept ss d os
firm_bytes kept ss os segment [] offset c d e f = firm_kept kept ss c d os (λ place k. ap (λ (z : Cells). z place) (sym (ok_same c d e)) ∙ k) (λ place k. ap (λ (z : Cells). z place) (sym (ok_same c d e)) ∙ k) f
firm_bytes kept ss os segment (b ∷ bs) offset c d e f =
    let place : ℕ = address segment offset in
    let first = free_ok (c place) (with_bytes (with_cell c place (Known b)) segment (next_offset offset) bs) d e in
    firm_bytes kept ss os segment bs (next_offset offset) (with_cell c place (Known b)) d first.1 (firm_written kept ss c os place (Known b) first.0 f)
