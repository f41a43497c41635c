-- Loading overlays writes to the buffer alone.
use Rattle.std.proofs.Common.{◌≡◌, ◌⊎◌, inl, inr, ℕ, zero, suc, ◌+◌, ◌*◌, ◌<◌, ◌≤◌, Bool, true, false, cond, List, [], ◌∷◌, refl, arith}
use Rattle.overlay_file.specs.declared.overlay.OvrEntry.{OvrEntry}
use Rattle.return_repair.specs.declared.table.Loaded.{Loaded}
use Rattle.overlay_manager.specs.Code.{with_code}
use Rattle.overlay_manager.specs.Loading.{is_moved, with_load, with_loads, LiesWithin, OnlyWithin}
use Rattle.overlay_manager.specs.Serves.{HaveSizes}
use Rattle.overlay_manager.specs.Stops.{LieWithin}
use Rattle.overlay_manager.proofs.StandLaws.{code-within}
use Rattle.overlay_manager.proofs.WithinLaws.{within-same, within-then}

wider : (low high a b : ℕ) (memory after : List ℕ) → low ≤ a → b ≤ high → OnlyWithin a b memory after → OnlyWithin low high memory after
wider low high a b memory after below above h = record { size = h.size; others = λ at outside. h.others at (on at outside) }
  where
    on : (at : ℕ) → (at < low) ⊎ (high ≤ at) → (at < a) ⊎ (b ≤ at)
    on at (inl less) = inl (omega arith)
    on at (inr more) = inr (omega arith)

load_within : (low high : ℕ) (bytes : List ℕ) (entry : OvrEntry) (was now : Loaded) (memory : List ℕ) → entry.size < 65536 → (is_moved was now ≡ true → LiesWithin low high now.load entry.size) → OnlyWithin low high memory (with_load bytes entry was now memory)
load_within low high bytes entry was now memory small lies = by (is_moved was now) refl
  where
    by : (moved : Bool) → is_moved was now ≡ moved → OnlyWithin low high memory (cond moved (with_code memory now.load entry bytes) memory)
    by true moved =
        let there = lies moved in
        let above = there.above in
        let below = there.below in
        let inside = there.inside in
        wider low high (16 * now.load) (16 * now.load + entry.size) memory (with_code memory now.load entry bytes) above below (code-within memory now.load entry bytes (omega arith) small)
    by false moved = within-same low high memory

pub loads_within : (low high : ℕ) (bytes : List ℕ) (entries : List OvrEntry) (old new : List Loaded) (memory : List ℕ) → HaveSizes entries → LieWithin low high entries old new → OnlyWithin low high memory (with_loads bytes entries old new memory)
loads_within low high bytes [] old new memory sizes lies = within-same low high memory
loads_within low high bytes (entry ∷ entries) [] new memory sizes lies = within-same low high memory
loads_within low high bytes (entry ∷ entries) (was ∷ old) [] memory sizes lies = within-same low high memory
loads_within low high bytes (entry ∷ entries) (was ∷ old) (now ∷ new) memory sizes lies =
    within-then low high memory (with_load bytes entry was now memory) (with_loads bytes entries old new (with_load bytes entry was now memory))
    (load_within low high bytes entry was now memory (sizes zero entry refl).1 (λ moved. lies zero moved))
    (loads_within low high bytes entries old new (with_load bytes entry was now memory) (λ v other found. sizes (suc v) other found) (λ v moved. lies (suc v) moved))
