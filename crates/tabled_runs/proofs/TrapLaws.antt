-- An overlay that a trap asks for is one of the manager's.
use Rattle.std.proofs.Common.{◌≡◌, ℕ, ◌==◌, ◌<◌, Bool, true, false, List, length, Option, None, Some, refl, sym, ap, ◌∙◌, arith}
use Rattle.std.specs.Prelude.{if◌then◌else◌, position}
use Rattle.std.proofs.lemmas.List.Quantifiers.{position-Some}
use Rattle.cpu_8086.specs.Memory.{load_word}
use Rattle.cpu_8086.specs.State.{State}
use Rattle.overlay_manager.specs.declared.traps.Trap.{Trap}
use Rattle.overlay_manager.specs.Traps.{is_entry_place, trap_place, trap_by, trap_of}

abbrev overlay_or : ℕ → Option Trap → ℕ
overlay_or other None = other
overlay_or other (Some trap) = trap.overlay

trap_known : (v : ℕ) (a b : Bool) (trap : Trap) → (if a then Some (record { overlay = v; call = false }) else (if b then Some (record { overlay = v; call = true }) else None)) ≡ Some trap → trap.overlay ≡ v
trap_known v true b trap e = sym (ap (overlay_or v) e)
trap_known v false true trap e = sym (ap (overlay_or v) e)
trap_known v false false trap e = absurd cc

pub trap_inside : (stubs : List ℕ) (t : State) (trap : Trap) → trap_of stubs t ≡ Some trap → trap.overlay < length stubs
trap_inside stubs t trap found = by (position (λ stub. stub == t.cs) stubs) refl
  where
    none : (e : Option Trap) → e ≡ None → e ≡ Some trap → ⊥
    none e is so = cc

    by : (v : Option ℕ) → position (λ stub. stub == t.cs) stubs ≡ v → trap.overlay < length stubs
    by None is = absurd (none (trap_of stubs t) (ap (trap_by t) is) found)
    by (Some v) is =
        let inside = (position-Some (λ stub. stub == t.cs) stubs v 0 is).0 in
        let same : trap.overlay ≡ v = trap_known v (trap_place t == 0) (is_entry_place (load_word t.memory t.cs 12) (trap_place t)) trap (sym (ap (trap_by t) is) ∙ found) in
        omega (arith, inside, same)
