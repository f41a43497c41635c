-- Where stores leave memory as it was.
use Rattle.std.proofs.Common.{◌≡◌, ◌≢◌, ◌⊎◌, inl, inr, ℕ, ◌+◌, ◌*◌, ◌<◌, ◌≤◌, Bool, true, false, cond, List, [], ◌∷◌, length, refl, sym, ap, subst, ◌∙◌, arith}
use Rattle.std.specs.Prelude.{nat_le}
use Rattle.std.proofs.lemmas.List.{get_or-set_other}
use Rattle.std.proofs.lemmas.Bool.Decides.{nat_tests}
use Rattle.std.proofs.Math.ListN.{length-set}
use Rattle.cpu_8086.specs.Memory.{address, next_offset, load_word, store_byte, store_word, low_byte, high_byte}
use Rattle.cpu_8086.specs.Process.{with_bytes}
use Rattle.cpu_8086.specs.State.{State}
use Rattle.mz_file.specs.Load.{loaded_segment}
use Rattle.overlay_manager.specs.Code.{with_fixup, with_fixups}
use Rattle.overlay_manager.specs.Loading.{OnlyWithin, LiesWithin}

pub within-same : (low high : ℕ) (memory : List ℕ) → OnlyWithin low high memory memory
within-same low high memory = record { size = refl; others = λ at outside. refl }

pub within-then : (low high : ℕ) (memory between after : List ℕ) → OnlyWithin low high memory between → OnlyWithin low high between after → OnlyWithin low high memory after
within-then low high memory between after first second =
    record { size = second.size ∙ first.size; others = λ at outside. second.others at outside ∙ first.others at outside }

-- a byte within these addresses
pub store_byte-within : (low high : ℕ) (memory : List ℕ) (segment offset v : ℕ) → low ≤ 16 * segment + offset → 16 * segment + offset < high → high ≤ 1048576 → OnlyWithin low high memory (store_byte memory segment offset v)
unfolding store_byte
store_byte-within low high memory segment offset v above below inside =
    let place : address segment offset ≡ 16 * segment + offset = omega arith in
    record {
      size = length-set memory (address segment offset) v;
      others = λ at outside. get_or-set_other memory (address segment offset) at v 0 (elsewhere at place outside);
    }
  where
    elsewhere : (at : ℕ) → address segment offset ≡ 16 * segment + offset → (at < low) ⊎ (high ≤ at) → at ≢ address segment offset
    elsewhere at place (inl less) same = omega arith
    elsewhere at place (inr more) same = omega arith

pub store_word-within : (low high : ℕ) (memory : List ℕ) (segment offset v : ℕ) → low ≤ 16 * segment + offset → 16 * segment + offset + 2 ≤ high → high ≤ 1048576 → offset + 2 ≤ 65536 → OnlyWithin low high memory (store_word memory segment offset v)
unfolding store_word
store_word-within low high memory segment offset v above below inside fits =
    let next : next_offset offset ≡ offset + 1 = omega arith in
    let first : List ℕ = store_byte memory segment offset (low_byte v) in
    within-then low high memory first (store_byte first segment (next_offset offset) (high_byte v))
    (store_byte-within low high memory segment offset (low_byte v) above (omega arith) inside)
    (store_byte-within low high first segment (next_offset offset) (high_byte v) (omega arith) (omega arith) inside)

pub with_bytes-within : (low high : ℕ) (memory : List ℕ) (segment offset : ℕ) (bytes : List ℕ) → low ≤ 16 * segment + offset → 16 * segment + offset + length bytes ≤ high → high ≤ 1048576 → offset + length bytes ≤ 65536 → OnlyWithin low high memory (with_bytes memory segment offset bytes)
with_bytes-within low high memory segment offset [] above below inside fits = within-same low high memory
with_bytes-within low high memory segment offset (b ∷ []) above below inside fits =
    store_byte-within low high memory segment offset b above (omega arith) inside
with_bytes-within low high memory segment offset (b ∷ c ∷ bytes) above below inside fits =
    let next : next_offset offset ≡ offset + 1 = omega arith in
    within-then low high memory (store_byte memory segment offset b) (with_bytes (store_byte memory segment offset b) segment (next_offset offset) (c ∷ bytes))
    (store_byte-within low high memory segment offset b above (omega arith) inside)
    (with_bytes-within low high (store_byte memory segment offset b) segment (next_offset offset) (c ∷ bytes) (omega arith) (omega arith) inside (omega arith))

pub with_fixup-within : (low high size segment : ℕ) (memory : List ℕ) (fixup : ℕ) → LiesWithin low high segment size → size < 65536 → OnlyWithin low high memory (with_fixup size segment memory fixup)
with_fixup-within low high size segment memory fixup lies small = by (nat_le (fixup + 2) size) refl
  where
    by : (fits : Bool) → nat_le (fixup + 2) size ≡ fits → OnlyWithin low high memory (cond fits (store_word memory segment fixup (loaded_segment (load_word memory segment fixup))) memory)
    by true fits =
        let is : fixup + 2 ≤ size = grind (arith, nat_tests) in
        let above : low ≤ 16 * segment = lies.above in
        let below : 16 * segment + size ≤ high = lies.below in
        store_word-within low high memory segment fixup (loaded_segment (load_word memory segment fixup)) (omega arith) (omega arith) lies.inside (omega arith)
    by false fits = within-same low high memory

pub with_fixups-within : (low high size segment : ℕ) (memory fixups : List ℕ) → LiesWithin low high segment size → size < 65536 → OnlyWithin low high memory (with_fixups size segment memory fixups)
with_fixups-within low high size segment memory [] lies small = within-same low high memory
with_fixups-within low high size segment memory (fixup ∷ fixups) lies small =
    within-then low high memory (with_fixup size segment memory fixup) (with_fixups size segment (with_fixup size segment memory fixup) fixups)
    (with_fixup-within low high size segment memory fixup lies small)
    (with_fixups-within low high size segment (with_fixup size segment memory fixup) fixups lies small)

-- the same of machines
pub put-within : (low high : ℕ) (before after : State) (segment done size : ℕ) (filled : List ℕ) → LiesWithin low high segment size → after ≡ record before { memory = with_bytes before.memory segment done filled } → done + length filled ≤ size → size < 65536 → OnlyWithin low high before.memory after.memory
put-within low high before after segment done size filled lies put inside small =
    let above : low ≤ 16 * segment = lies.above in
    let below : 16 * segment + size ≤ high = lies.below in
    subst (λ after. OnlyWithin low high before.memory after) (sym (ap (λ (s : State). s.memory) put))
    (with_bytes-within low high before.memory segment done filled (omega arith) (omega arith) lies.inside (omega arith))

pub fixed-within : (low high : ℕ) (before after : State) (segment size : ℕ) (fixups : List ℕ) → LiesWithin low high segment size → after ≡ record before { memory = with_fixups size segment before.memory fixups } → size < 65536 → OnlyWithin low high before.memory after.memory
fixed-within low high before after segment size fixups lies made small =
    subst (λ after. OnlyWithin low high before.memory after) (sym (ap (λ (s : State). s.memory) made))
    (with_fixups-within low high size segment before.memory fixups lies small)

-- a machine of which only memory became another, twice
pub others-next : (first before after : State) (memory : List ℕ) → after ≡ record before { memory = memory } → before ≡ record first { memory = before.memory } → after ≡ record first { memory = after.memory }
others-next first before after memory made so_far =
    made ∙ ap (λ memory. let s : State = record before { memory = memory } in s) (sym (ap (λ (s : State). s.memory) made))
    ∙ ap (λ (s : State). let t : State = record s { memory = after.memory } in t) so_far
