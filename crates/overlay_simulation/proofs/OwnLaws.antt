-- An instruction that no service follows makes no trap and no clear.
use Rattle.std.proofs.Common.{◌≡◌, ◌≢◌, ℕ, Bool, true, false, Ok, refl, sym, ap, ◌∙◌, subst}
use Rattle.std.specs.Prelude.{if◌then◌else◌}
use Rattle.x86_table.specs.declared.instr.Instr.{Instr}
use Rattle.cpu_8086.specs.declared.registers.Registers.{Registers}
use Rattle.cpu_8086.specs.Access.{on_memory}
use Rattle.cpu_8086.specs.Effect.{act}
use Rattle.cpu_8086.specs.Process.{Process}
use Rattle.cpu_8086.specs.Step.{past, effect}
use Rattle.resident_machine.specs.Program.{Program}
use Rattle.resident_machine.specs.Astray.{LeavesHalf, and_then}
use Rattle.resident_machine.specs.Cells.{Cells}
use Rattle.resident_machine.specs.Effect.{is_near_call, completed, plain_effect, made_whole, effect_of}
use Rattle.resident_machine.specs.Standing.{pair_words, HoldsMemory, StandsFor}
use Rattle.resident_machine.specs.State.{ResidentState, Service, NoService}
use Rattle.resident_machine.proofs.CellLaws.{and_then_ok, unless_ok, ok_same}
use Rattle.overlay_simulation.proofs.EffectLaws.{performed, effect_parts, near_service}
use Rattle.overlay_simulation.proofs.EventLaws.{IsOwnBut, own_but, tree_own}

-- a pair that is made whole asks for no service
made_none : (r : ResidentState) (ip : ℕ) (v : ResidentState × Service) (t : ResidentState) (service : Service) → made_whole r ip v ≡ Ok (t, service) → service ≡ NoService
made_none r ip v t service e = sym (ap (λ (z : ResidentState × Service). z.1) (ok_same _ (t, service) e))

-- where a service may follow there was no half of a pair
pub unhalved : (p : Program) (r t : ResidentState) (service : Service) (i : Instr) → performed p r i ≡ Ok (t, service) → service ≢ NoService → r.half ≡ false
unhalved p r t service i e some = by r.half refl e
  where
    by : (b : Bool) → r.half ≡ b → (if b then completed p r i else plain_effect p r i) ≡ Ok (t, service) → r.half ≡ false
    by false half e = half
    by true half e =
        let near = unless_ok (is_near_call i) (and_then (plain_effect p r i) (made_whole r (past i r.registers).ip)) LeavesHalf (t, service) e in
        let parts = and_then_ok (plain_effect p r i) (made_whole r (past i r.registers).ip) (t, service) near.1 in
        absurd (some (made_none r (past i r.registers).ip parts.0 t service parts.2))

-- memory holds what is known in a state with the cells of r
pub effect_own : (p : Program) (r t x : ResidentState) (service : Service) (q : Process) (i : Instr) → StandsFor p x q → x.registers ≡ r.registers → x.cells ≡ r.cells → effect_of p r i ≡ Ok (t, service) → IsOwnBut service (effect q.machine i).1
unfolding effect
effect_own p r t x service q i s same cells e =
    let held : HoldsMemory p x.registers.ss r.cells q.machine.memory (pair_words x) = subst (λ (c : Cells). HoldsMemory p x.registers.ss c q.machine.memory (pair_words x)) cells s.memory in
    subst (λ (g : Registers). IsOwnBut service (on_memory q.machine (act (past i g) i) q.machine.memory).1) (sym (s.registers ∙ same)) (by held r.half (effect_parts p r i (t, service) e).0)
  where
    by : HoldsMemory p x.registers.ss r.cells q.machine.memory (pair_words x) → (b : Bool) → (if b then completed p r i else plain_effect p r i) ≡ Ok (t, service) → IsOwnBut service (on_memory q.machine (act (past i r.registers) i) q.machine.memory).1
    by held false e = tree_own p r q.machine p x.registers.ss (pair_words x) (act (past i r.registers) i) r.cells q.machine.memory (t, service) held e
    by held true e =
        let near = unless_ok (is_near_call i) (and_then (plain_effect p r i) (made_whole r (past i r.registers).ip)) LeavesHalf (t, service) e in
        let parts = and_then_ok (plain_effect p r i) (made_whole r (past i r.registers).ip) (t, service) near.1 in
        let own = tree_own p r q.machine p x.registers.ss (pair_words x) (act (past i r.registers) i) r.cells q.machine.memory parts.0 held parts.1 in
        let none = subst (λ (z : Service). IsOwnBut z (on_memory q.machine (act (past i r.registers) i) q.machine.memory).1) (near_service p r (past i r.registers) i r.cells parts.0 near.0 parts.1) own in
        own_but service (on_memory q.machine (act (past i r.registers) i) q.machine.memory).1 none
