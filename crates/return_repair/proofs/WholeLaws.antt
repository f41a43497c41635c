-- The whole repair, from its parts.
use Rattle.std.proofs.Common.{◌≡◌, ℕ, ◌+◌, ◌<◌, ◌≤◌, Bool, true, false, cond, List, [], ◌∷◌, ◌++◌, map, Option, None, Result, Ok, refl, sym, ap, ap₂, subst, ◌∙◌, arith}
use Rattle.std.specs.Prelude.{IsOk, IsTrue, ◌&&◌, ◌||◌, not, nat_le}
use Rattle.cpu_8086.specs.State.{State}
use Rattle.frame_links.specs.Links.{Link, place_if, pair_places}
use Rattle.return_repair.specs.declared.table.Loaded.{Loaded}
use Rattle.return_repair.specs.Chain.{chain, chain_of, links_of, pending_places, live_places, are_spaced, misses_links, are_clear}
use Rattle.return_repair.specs.Repair.{Work, work, at_start, repaired_places, repaired_at, with_saved}
use Rattle.return_repair.proofs.ChainLaws.{ok_links, chain-kept}
use Rattle.return_repair.proofs.LinkLaws.{both, at_most, Kept, kept-at_first, kept-missed, counted_places, places-append}

-- the pending pair touches no link, where the state is clear
pub pending_kept : (s : State) (pending : Bool) (old new : List Loaded) (topmost : ℕ → Option ℕ) (links : List Link) → IsTrue (are_clear s.registers pending links)
    → Kept (repaired_places s.registers.ss old new (work s.memory topmost) (pending_places s.registers pending)).memory s.memory s.registers.ss links
pending_kept s false old new topmost links clear = kept-at_first s.memory s.registers.ss links
pending_kept s true old new topmost links clear =
    let parts = both (are_spaced links) (nat_le (s.registers.sp + 4) 65536 && misses_links s.registers.sp links) clear in
    let top = both (nat_le (s.registers.sp + 4) 65536) (misses_links s.registers.sp links) parts.1 in
    kept-missed s.registers.ss old new (work s.memory topmost) links s.registers.sp (at_most (s.registers.sp + 4) 65536 top.0) parts.0 top.1

-- so the chain is the same after it
pub chain_after : (marked : Bool) (s after : State) (pending : Bool) (old new : List Loaded) (topmost : ℕ → Option ℕ) → s.registers.bp < 65536 → IsOk (chain_of marked s) → IsTrue (are_clear s.registers pending (links_of (chain_of marked s)))
    → after ≡ record s { memory = (repaired_places s.registers.ss old new (work s.memory topmost) (pending_places s.registers pending)).memory } → chain_of marked after ≡ Ok (links_of (chain_of marked s))
chain_after marked s after pending old new topmost small sound clear is =
    let w = repaired_places s.registers.ss old new (work s.memory topmost) (pending_places s.registers pending) in
    ap (chain_of marked) is
    ∙ chain-kept marked w.memory s.memory s.registers.ss s.registers.bp (links_of (chain_of marked s)) small (ok_links (chain_of marked s) sound) (pending_kept s pending old new topmost (links_of (chain_of marked s)) clear)

-- the pending pair, and then the others
pub record InTurn (marked : Bool) (s first second : State) (pending : Bool) (old new : List Loaded) (topmost_0 topmost_1 topmost_2 : ℕ → Option ℕ) (changed_1 changed_2 : ℕ) : Type 0 where
  pub none : topmost_0 ≡ (λ _. None)
  pub first_is : first ≡ record s { memory = (repaired_places s.registers.ss old new (work s.memory topmost_0) (pending_places s.registers pending)).memory }
  pub first_topmost : topmost_1 ≡ (repaired_places s.registers.ss old new (work s.memory topmost_0) (pending_places s.registers pending)).topmost
  pub first_changed : changed_1 ≡ (repaired_places s.registers.ss old new (work s.memory topmost_0) (pending_places s.registers pending)).changed
  pub second_is : second ≡ record first { memory = (repaired_places first.registers.ss old new (work first.memory topmost_1) (pair_places (links_of (chain_of marked first)))).memory }
  pub second_topmost : topmost_2 ≡ (repaired_places first.registers.ss old new (work first.memory topmost_1) (pair_places (links_of (chain_of marked first)))).topmost
  pub second_changed : changed_2 ≡ (repaired_places first.registers.ss old new (work first.memory topmost_1) (pair_places (links_of (chain_of marked first)))).changed
  pub chain_is : chain_of marked first ≡ Ok (links_of (chain_of marked s))

pub in_turn : (marked : Bool) (s first second : State) (pending : Bool) (old new : List Loaded) (topmost_0 topmost_1 topmost_2 : ℕ → Option ℕ) (changed_1 changed_2 : ℕ) → InTurn marked s first second pending old new topmost_0 topmost_1 topmost_2 changed_1 changed_2
    → ◌≡◌ {A = Work} (record { memory = second.memory; topmost = topmost_2; changed = changed_1 + changed_2 }) (repaired_at s pending old new (links_of (chain_of marked s)))
in_turn marked s first second pending old new topmost_0 topmost_1 topmost_2 changed_1 changed_2 parts =
    let ss = s.registers.ss in
    let links = links_of (chain_of marked s) in
    let pendings = pending_places s.registers pending in
    let w = repaired_places ss old new (at_start s.memory) pendings in
    let w_is : repaired_places ss old new (work s.memory topmost_0) pendings ≡ w = ap (λ (topmost : ℕ → Option ℕ). repaired_places ss old new (work s.memory topmost) pendings) parts.none in
    let memory : first.memory ≡ w.memory = ap (λ (s : State). s.memory) parts.first_is ∙ ap (λ (w : Work). w.memory) w_is in
    let topmost : topmost_1 ≡ w.topmost = parts.first_topmost ∙ ap (λ (w : Work). w.topmost) w_is in
    let changed : changed_1 ≡ w.changed = parts.first_changed ∙ ap (λ (w : Work). w.changed) w_is in
    let segment : first.registers.ss ≡ ss = ap (λ (s : State). s.registers.ss) parts.first_is in
    let links_are : links_of (chain_of marked first) ≡ links = ap links_of parts.chain_is in
    let rest = λ (ss : ℕ) (memory : List ℕ) (topmost : ℕ → Option ℕ) (links : List Link). repaired_places ss old new (work memory topmost) (pair_places links) in
    let others : rest first.registers.ss first.memory topmost_1 (links_of (chain_of marked first)) ≡ rest ss w.memory w.topmost links = λ i. rest (segment i) (memory i) (topmost i) (links_are i) in
    let after = rest ss w.memory w.topmost links in
    let second_memory : second.memory ≡ after.memory = ap (λ (s : State). s.memory) parts.second_is ∙ ap (λ (w : Work). w.memory) others in
    let second_topmost : topmost_2 ≡ after.topmost = parts.second_topmost ∙ ap (λ (w : Work). w.topmost) others in
    let second_changed : changed_2 ≡ after.changed = parts.second_changed ∙ ap (λ (w : Work). w.changed) others in
    (λ i. record { memory = second_memory i; topmost = second_topmost i; changed = changed i + second_changed i })
    ∙ sym (counted_places ss old new w.memory w.topmost w.changed (pair_places links))
    ∙ sym (places-append ss old new (at_start s.memory) pendings (pair_places links))
