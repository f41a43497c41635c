-- What is fixed in an activation that was called: the caller's BP, a near return address, and all that is fixed in the caller.
use Rattle.std.proofs.Common.{◌≡◌, ℕ, ◌+◌, ◌-◌, ◌*◌, ◌/◌, ◌%◌, ◌<◌, ◌≤◌, ◌==◌, Bool, true, false, List, [], ◌∷◌, length, Option, Some, None, arith, refl, ap, subst, ◌∙◌, eqb-true}
use Rattle.std.specs.Prelude.{if◌then◌else◌}
use Rattle.std.proofs.lemmas.Bool.{eq-eqb, ne_eqb}
use Rattle.cpu_8086.specs.Memory.{address, next_offset}
use Rattle.resident_machine.specs.Cells.{Known, Cells}
use Rattle.resident_machine.specs.machine_lines.Words.{HoldsWord}
use Rattle.effect_simulation.specs.effects.Pushed.{HoldsWords}
use Rattle.call_simulation.specs.frames.Callee.{with_fixed}

some_of : Option ℕ → ℕ
some_of None = 0
some_of (Some v) = v

-- a fixed byte is one of the word's, or was fixed before
pub with_fixed_cases : {P : Type 0} (fixed : ℕ → Option ℕ) (a v place byte : ℕ) → with_fixed fixed a v place ≡ Some byte → (place ≡ a → v % 256 ≡ byte → P) → (place ≡ a + 1 → v / 256 ≡ byte → P) → (fixed place ≡ Some byte → P) → P
unfolding some_of
with_fixed_cases {P} fixed a v place byte e low high other = by (place == a) refl (place == a + 1) refl e
  where
    by : (x : Bool) → (place == a) ≡ x → (y : Bool) → (place == a + 1) ≡ y → (if x then Some (v % 256) else (if y then Some (v / 256) else fixed place)) ≡ Some byte → P
    by true ex y ey h = low (eqb-true place a ex) (ap some_of h)
    by false ex true ey h = high (eqb-true place (a + 1) ey) (ap some_of h)
    by false ex false ey h = other h

-- what was fixed elsewhere is fixed still
pub with_fixed_other : (fixed : ℕ → Option ℕ) (a v place : ℕ) → (place ≡ a → ⊥) → (place ≡ a + 1 → ⊥) → with_fixed fixed a v place ≡ fixed place
with_fixed_other fixed a v place low high =
    ap (λ b. if b then Some (v % 256) else (if place == a + 1 then Some (v / 256) else fixed place)) (ne_eqb place a low)
    ∙ ap (λ b. if b then Some (v / 256) else fixed place) (ne_eqb place (a + 1) high)

pub with_fixed_low : (fixed : ℕ → Option ℕ) (a v : ℕ) → with_fixed fixed a v a ≡ Some (v % 256)
with_fixed_low fixed a v = ap (λ b. if b then Some (v % 256) else (if a == a + 1 then Some (v / 256) else fixed a)) (eq-eqb a a refl)

pub with_fixed_high : (fixed : ℕ → Option ℕ) (a v : ℕ) → with_fixed fixed a v (a + 1) ≡ Some (v / 256)
with_fixed_high fixed a v =
    ap (λ b. if b then Some (v % 256) else (if a + 1 == a + 1 then Some (v / 256) else fixed (a + 1))) (ne_eqb (a + 1) a (λ e. absurd (omega (arith, e))))
    ∙ ap (λ b. if b then Some (v / 256) else fixed (a + 1)) (eq-eqb (a + 1) (a + 1) refl)

-- words that are kept still stand there
pub words_still : (c d : Cells) (segment sp : ℕ) (vs : List ℕ) → 2 * length vs ≤ sp → sp < 65536 → ((offset : ℕ) → sp - 2 * length vs ≤ offset → offset < sp → d (address segment offset) ≡ c (address segment offset)) → HoldsWords c segment sp vs → HoldsWords d segment sp vs
words_still c d segment sp [] room top same h = tt
words_still c d segment sp (v ∷ vs) room top same h =
    let next : sp - 1 ≡ next_offset (sp - 2) = omega arith in
    let low = same (sp - 2) (omega arith) (omega arith) in
    let high = subst (λ o. d (address segment o) ≡ c (address segment o)) next (same (sp - 1) (omega arith) (omega arith)) in (
      record { low = low ∙ h.0.low; high = high ∙ h.0.high },
      h.1,
      words_still c d segment (sp - 2) vs (omega arith) (omega arith) (λ offset more less. same offset (omega arith) (omega arith)) h.2,
    )

-- a word that stands at an offset that does not wrap
pub low_there : (c : Cells) (segment offset v : ℕ) → 16 * segment + offset < 1048576 → HoldsWord c segment offset v → c (16 * segment + offset) ≡ Known (v % 256)
low_there c segment offset v inside h = let e : address segment offset ≡ 16 * segment + offset = omega arith in subst (λ place. c place ≡ Known (v % 256)) e h.low

pub high_there : (c : Cells) (segment offset v : ℕ) → offset < 65535 → 16 * segment + offset + 1 < 1048576 → HoldsWord c segment offset v → c (16 * segment + offset + 1) ≡ Known (v / 256)
high_there c segment offset v small inside h = let e : address segment (next_offset offset) ≡ 16 * segment + offset + 1 = omega arith in subst (λ place. c place ≡ Known (v / 256)) e h.high

pub holds_there : (c : Cells) (segment offset v : ℕ) → offset < 65535 → 16 * segment + offset + 1 < 1048576 → c (16 * segment + offset) ≡ Known (v % 256) → c (16 * segment + offset + 1) ≡ Known (v / 256) → HoldsWord c segment offset v
holds_there c segment offset v small inside low high =
    let e : 16 * segment + offset ≡ address segment offset = omega arith in
    let f : 16 * segment + offset + 1 ≡ address segment (next_offset offset) = omega arith in
    record { low = subst (λ place. c place ≡ Known (v % 256)) e low; high = subst (λ place. c place ≡ Known (v / 256)) f high }
