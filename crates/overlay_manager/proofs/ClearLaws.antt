-- Sending all overlays out, in the words of its subject.
use Rattle.std.proofs.Common.{◌≡◌, ℕ, ◌*◌, ◌<◌, true, List, [], length, Result, Ok, Err, refl, sym, ap, subst, ◌∙◌}
use Rattle.std.specs.Prelude.{slice_index, IsOk, OnOk}
use Rattle.cpu_8086.specs.State.{State}
use Rattle.return_repair.specs.declared.table.BadChain.{BadChain}
use Rattle.return_repair.specs.Chain.{chain_of, links_of}
use Rattle.return_repair.specs.Follows.{Follow}
use Rattle.overlay_manager.specs.Clears.{Clears}
use Rattle.overlay_manager.specs.Manager.{Manager, buffer_segment, sent_out, sent_count, table_by, with_stubs}
use Rattle.overlay_manager.specs.Orderly.{places_of, IsOrderlyFor}
use Rattle.overlay_manager.specs.Reads.{StubsRead}
use Rattle.overlay_manager.specs.Serves.{table_before}
use Rattle.overlay_manager.specs.Service.{followed_count}
use Rattle.overlay_manager.proofs.ServiceLaws.{Steps, loaded_of, chain-loaded, followed-is, followed-count-is}
use Rattle.overlay_manager.proofs.StubsLaws.{stubs-written}
use Rattle.overlay_manager.proofs.WholeLaws.{written_of, follow-written, followed-off}
use Rattle.overlay_manager.proofs.WithinLaws.{within-same}

-- It is a service that loads nothing, with no seats afterwards.
pub clears-sent : (m : Manager) (s : State) → IsOk (chain_of m.marked s) → IsOrderlyFor m s true → (let after : State = record s { memory = sent_out m s } in Clears m s after)
clears-sent m s sound orderly =
    let old = table_before m in
    let new = table_by m [] in
    let links = links_of (chain_of m.marked s) in
    let steps : Steps m s true [] s.memory = record { orderly = orderly; sound = sound; within = within-same (16 * buffer_segment m.ring.room) 0xA0000 s.memory } in
    let chain_is = chain-loaded m s true [] s.memory steps in
    let memory : written_of m s true [] s.memory ≡ sent_out m s = ap (with_stubs m.stubs [] 0 old new) (followed-is m.marked (loaded_of s s.memory) true old new links chain_is) in
    let count : followed_count m.marked (loaded_of s s.memory) true old new ≡ sent_count m s = followed-count-is m.marked (loaded_of s s.memory) true old new links chain_is in
    record {
      pairs = subst (λ (count : ℕ). Follow s.memory (sent_out m s) s.registers.ss (places_of m.marked s true) old new count) count
          (subst (λ (after : List ℕ). Follow s.memory after s.registers.ss (places_of m.marked s true) old new (followed_count m.marked (loaded_of s s.memory) true old new)) memory
          (follow-written m s true [] s.memory steps));
      stubs = subst (λ (after : List ℕ). StubsRead m s.memory after []) memory (stubs-written m s true [] s.memory steps);
      machine = refl;
      others = λ at off_pairs off_stubs. ap (λ (memory : List ℕ). slice_index memory at) (sym memory) ∙ followed-off m s true [] s.memory steps at off_pairs off_stubs;
    }

-- and so it is told
pub clears-told : (m : Manager) (s u : State) (result : Result (Unit {0}) BadChain) → OnOk result (u ≡ record s { memory = sent_out m s }) → OnOk result (IsOk (chain_of m.marked s))
    → OnOk result (0 < length m.stubs → IsOrderlyFor m s true → Clears m s u)
clears-told m s u (Ok done) told sound = λ some orderly. subst (λ (u : State). Clears m s u) (sym told) (clears-sent m s sound orderly)
clears-told m s u (Err bad) told sound = tt
