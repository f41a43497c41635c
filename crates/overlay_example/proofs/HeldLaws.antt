-- The files of the example hold its program, and what they start is seated, whole and matched.
use Rattle.std.proofs.Common.{◌≡◌, ◌≢◌, ℕ, zero, suc, ◌+◌, ◌*◌, ◌<◌, ◌≤◌, ◌==◌, ◌||◌, Bool, true, false, List, [], ◌∷◌, None, Some, refl, sym, subst, arith, eqb-true}
use Rattle.std.specs.Prelude.{if◌then◌else◌, nat_le, nat_lt, IsTrue, slice_get, slice_index}
use Rattle.std.proofs.lemmas.Bool.{ltb-true, leb-true}
use Rattle.std.proofs.lemmas.Bool.Decides.{nat_tests}
use Rattle.mz_file.specs.Load.{loaded_byte, loaded_segment, FitsWithBuffer}
use Rattle.mz_file.specs.Words.{word_at}
use Rattle.dos_runner.specs.opened_program.Matching.{largest, BelongTogether, IsMatch}
use Rattle.dos_runner.specs.opened_program.Stubs.{IsStubOf}
use Rattle.overlay_file.specs.declared.overlay.OvrEntry.{OvrEntry}
use Rattle.overlay_manager.specs.Loading.{IsWhole}
use Rattle.overlay_manager.specs.Serves.{HaveSizes}
use Rattle.overlay_correctness.specs.Held.{stub_bytes, IsCodeOf, HasStubs, IsHeldBy}
use Rattle.overlay_example.specs.Turns.{main_code, clear_code, turns_image, turns_exe, turns_bytes, a_entry, b_entry, turns_entries, turns, turns_kept}
use Rattle.resident_tries.specs.Tries.{each_below}
use Rattle.resident_tries.proofs.TryLaws.{below_each}

-- the two stubs, by number
by_stub : (P : ℕ → ℕ → Type 0) → P 0 2 → P 1 5 → (v segment : ℕ) → slice_get (2 ∷ 5 ∷ []) v ≡ Some segment → P v segment
by_stub P first second zero segment found = let is : 2 ≡ segment = cc in subst (P 0) is first
by_stub P first second (suc zero) segment found = let is : 5 ≡ segment = cc in subst (P 1) is second
by_stub P first second (suc (suc v)) segment found = absurd (cc)

-- ## Code of the image

code_of_main : IsCodeOf turns_exe turns_kept 0x70 main_code
code_of_main = record {
  size = leb-true 10 65536 refl;
  begins = ltb-true 112 169 refl;
  ends = leb-true 1802 2704 refl;
  bytes = λ k lt. eqb-true (loaded_byte turns_exe (0x700 + k)) (slice_index main_code k) (below_each 10 (λ k. loaded_byte turns_exe (0x700 + k) == slice_index main_code k) refl k lt);
  stays = λ k lt. below_each 10 (λ k. turns_kept (0x700 + k)) refl k lt;
  no_stub = by_stub (λ v segment. loaded_segment segment ≢ 0x70) (λ same. absurd (omega arith)) (λ same. absurd (omega arith));
  off_stubs = by_stub (λ v segment. (j k : ℕ) → j < 10 → k < stub_bytes turns_image segment → 0x700 + j ≢ 16 * loaded_segment segment + k) (λ j k lj lk same. absurd (omega arith)) (λ j k lj lk same. absurd (omega arith));
}

code_of_clear : IsCodeOf turns_exe turns_kept 0x71 clear_code
code_of_clear = record {
  size = leb-true 3 65536 refl;
  begins = ltb-true 113 169 refl;
  ends = leb-true 1811 2704 refl;
  bytes = λ k lt. eqb-true (loaded_byte turns_exe (0x710 + k)) (slice_index clear_code k) (below_each 3 (λ k. loaded_byte turns_exe (0x710 + k) == slice_index clear_code k) refl k lt);
  stays = λ k lt. below_each 3 (λ k. turns_kept (0x710 + k)) refl k lt;
  no_stub = by_stub (λ v segment. loaded_segment segment ≢ 0x71) (λ same. absurd (omega arith)) (λ same. absurd (omega arith));
  off_stubs = by_stub (λ v segment. (j k : ℕ) → j < 3 → k < stub_bytes turns_image segment → 0x710 + j ≢ 16 * loaded_segment segment + k) (λ j k lj lk same. absurd (omega arith)) (λ j k lj lk same. absurd (omega arith));
}

code_by : (number : ℕ) (a b : Bool) → (number == 0x70) ≡ a → (number == 0x71) ≡ b → (code : List ℕ) → (if a then Some main_code else (if b then Some clear_code else None)) ≡ Some code → IsCodeOf turns_exe turns_kept number code
code_by number true b is other code named =
    let same : main_code ≡ code = cc in
    subst (λ (n : ℕ). IsCodeOf turns_exe turns_kept n code) (sym (eqb-true number 0x70 is)) (subst (IsCodeOf turns_exe turns_kept 0x70) same code_of_main)
code_by number false true apart is code named =
    let same : clear_code ≡ code = cc in
    subst (λ (n : ℕ). IsCodeOf turns_exe turns_kept n code) (sym (eqb-true number 0x71 is)) (subst (IsCodeOf turns_exe turns_kept 0x71) same code_of_clear)
code_by number false false apart other code named = absurd (cc)

-- ## Stubs

abbrev size_at : ℕ → ℕ
size_at segment = stub_bytes turns_image segment

stubs_apart : (v w a b : ℕ) → slice_get (2 ∷ 5 ∷ []) v ≡ Some a → slice_get (2 ∷ 5 ∷ []) w ≡ Some b → v < w → (j k : ℕ) → j < size_at a → k < size_at b → 16 * b + k ≢ 16 * a + j
stubs_apart v w a b fa fb = by_stub (λ v a. v < w → (j k : ℕ) → j < size_at a → k < size_at b → 16 * b + k ≢ 16 * a + j) (by_stub (λ w b. 0 < w → (j k : ℕ) → j < size_at 2 → k < size_at b → 16 * b + k ≢ 32 + j) (λ lt. absurd (omega arith)) (λ lt j k lj lk same. (let below : j < 42 = lj in absurd (omega arith))) w b fb)
    (by_stub (λ w b. 1 < w → (j k : ℕ) → j < size_at 5 → k < size_at b → 16 * b + k ≢ 80 + j) (λ lt. absurd (omega arith)) (λ lt. absurd (omega arith)) w b fb) v a fa

stubs : HasStubs turns_exe turns_kept
stubs = record {
  apart = stubs_apart;
  left = λ v segment found k lt. refl;
  bytes = by_stub (λ v segment. (k : ℕ) → k < size_at segment → slice_index turns_image (16 * segment + k) < 256) (small 42 32 refl) (small 37 80 refl);
  stays = by_stub (λ v segment. (k : ℕ) → k < size_at segment → IsTrue (turns_kept (16 * loaded_segment segment + k))) (below_each 42 (λ k. turns_kept (0x720 + k)) refl) (below_each 37 (λ k. turns_kept (0x750 + k)) refl);
}
  where
    small : (n place : ℕ) → each_below n (λ k. nat_lt (slice_index turns_image (place + k)) 256) ≡ true → (k : ℕ) → k < n → slice_index turns_image (place + k) < 256
    small n place e k lt = ltb-true (slice_index turns_image (place + k)) 256 (below_each n (λ k. nat_lt (slice_index turns_image (place + k)) 256) e k lt)

pub turns_held : IsHeldBy turns turns_kept turns_exe turns_entries turns_bytes
turns_held = record {
  overlays = refl;
  installed = refl;
  error_routine = refl;
  marked = refl;
  code = λ number code named. code_by number (number == 0x70) (number == 0x71) refl refl code named;
  stubs = stubs;
  behind = λ at le. behind at le;
  entry = (main_code, refl);
}
  where
    behind : (at : ℕ) → 0xA90 ≤ at → turns_kept at ≡ true
    behind at le = either (nat_lt at 0x780) (nat_le 0xA90 at) (grind (arith, nat_tests))
      where
        either : (a b : Bool) → b ≡ true → (a || b) ≡ true
        either true b e = refl
        either false b e = e

-- ## The files belong together

stub_a : IsStubOf turns_image 2 a_entry
stub_a = record {
  inside = leb-true 74 144 refl;
  room = leb-true 42 65536 refl;
  interrupt = refl;
  saved = refl;
  place = refl;
  size = refl;
  fixups = refl;
  zeros = λ k lt. eqb-true (slice_index turns_image (46 + k)) 0 (below_each 18 (λ k. slice_index turns_image (46 + k) == 0) refl k lt);
  traps = λ e lt. record {
    interrupt = eqb-true (word_at turns_image (64 + 5 * e)) 0x3FCD (below_each 2 (λ e. word_at turns_image (64 + 5 * e) == 0x3FCD) refl e lt);
    filled = eqb-true (slice_index turns_image (64 + 5 * e + 4)) 0 (below_each 2 (λ e. slice_index turns_image (64 + 5 * e + 4) == 0) refl e lt);
  };
}

stub_b : IsStubOf turns_image 5 b_entry
stub_b = record {
  inside = leb-true 117 144 refl;
  room = leb-true 37 65536 refl;
  interrupt = refl;
  saved = refl;
  place = refl;
  size = refl;
  fixups = refl;
  zeros = λ k lt. eqb-true (slice_index turns_image (94 + k)) 0 (below_each 18 (λ k. slice_index turns_image (94 + k) == 0) refl k lt);
  traps = λ e lt. record {
    interrupt = eqb-true (word_at turns_image (112 + 5 * e)) 0x3FCD (below_each 1 (λ e. word_at turns_image (112 + 5 * e) == 0x3FCD) refl e lt);
    filled = eqb-true (slice_index turns_image (112 + 5 * e + 4)) 0 (below_each 1 (λ e. slice_index turns_image (112 + 5 * e + 4) == 0) refl e lt);
  };
}

pub turns_together : BelongTogether turns_image (2 ∷ 5 ∷ []) turns_entries
turns_together = record { same = refl; each = by }
  where
    by : (v : ℕ) → v < 2 → IsMatch turns_image (2 ∷ 5 ∷ []) turns_entries v
    by zero lt = record { stub_there = ltb-true 0 2 refl; overlay_there = ltb-true 0 2 refl; belongs = stub_a }
    by (suc zero) lt = record { stub_there = ltb-true 1 2 refl; overlay_there = ltb-true 1 2 refl; belongs = stub_b }
    by (suc (suc v)) lt = absurd (omega arith)

pub turns_sizes : HaveSizes turns_entries
turns_sizes zero entry found = (let is : a_entry ≡ entry = cc in subst (λ (e : OvrEntry). (0 < e.size) × (e.size < 65536)) is (ltb-true 0 24 refl, ltb-true 24 65536 refl))
turns_sizes (suc zero) entry found = (let is : b_entry ≡ entry = cc in subst (λ (e : OvrEntry). (0 < e.size) × (e.size < 65536)) is (ltb-true 0 12 refl, ltb-true 12 65536 refl))
turns_sizes (suc (suc v)) entry found = absurd (cc)

pub turns_whole : (v : ℕ) (entry : OvrEntry) → slice_get turns_entries v ≡ Some entry → IsWhole turns_bytes entry
turns_whole zero entry found = (let is : a_entry ≡ entry = cc in subst (IsWhole turns_bytes) is (leb-true 24 36 refl))
turns_whole (suc zero) entry found = (let is : b_entry ≡ entry = cc in subst (IsWhole turns_bytes) is (leb-true 36 36 refl))
turns_whole (suc (suc v)) entry found = absurd (cc)

pub turns_fit : FitsWithBuffer turns_exe 2
turns_fit = leb-true 171 40960 refl

pub turns_enough : largest turns_entries ≤ 2
turns_enough = leb-true 2 2 refl
