-- What the code computes of limits.
use Rattle.std.proofs.Common.{◌≡◌, ℕ, suc, ◌+◌, ◌-◌, ◌≤◌, ◌<◌, ◌⊎◌, inl, inr, Bool, true, false, cond, ◌&&◌, List, Some, is_some, sym, ap, ◌∙◌, arith}
use Rattle.std.specs.Prelude.{nat_le, slice_get}
use Rattle.std.specs.Option.{option_map_or}
use Rattle.std.proofs.lemmas.Bool.Decides.{nat_tests}
use Rattle.type_layout.specs.declared.definitions.TypeDef.{TypeDef}
use Rattle.typed_tree.specs.declared.units.Routine.{Routine}
use Rattle.typed_tree.specs.Slots.{capped}
use Rattle.typed_tree.specs.Frames.{argument_bytes, local_bytes, need_of, frame_of, link_bytes}
use Rattle.lowerable.specs.Limits.{fits, nests}

-- one round less
pub nests_more : (routines : List Routine) (most number : ℕ) → 0 < most → nests routines most (Some number) ≡ option_map_or (λ (routine : Routine). nests routines (most - 1) routine.outer) (slice_get routines number) false
nests_more routines most number h =
    let e : most ≡ suc (most - 1) = omega (arith, h) in
    ap (λ n. nests routines n (Some number)) e

-- ---- by the frame that the tree counts

is-at-most : (m n : ℕ) → m ≤ n → nat_le m n ≡ true
is-at-most m n h = grind (arith, nat_tests)

is-more : (m n : ℕ) → n < m → nat_le m n ≡ false
is-more m n h = grind (arith, nat_tests)

decided : (m n : ℕ) → (m ≤ n) ⊎ (n < m)
decided m n = grind arith

-- where what a routine takes for itself keeps its limit, the frame tells of the arguments
arguments-so : (arguments links own frame : ℕ) → links ≤ 8 → own ≤ 65000 → frame ≡ arguments + (links + own) → nat_le (capped frame) (256 + links + capped own) ≡ nat_le arguments 256
arguments-so arguments links own frame few fits e = elim (decided arguments 256) [
  | inl h ↦ is-at-most (capped frame) (256 + links + capped own) (omega (arith, few, fits, e, h)) ∙ sym (is-at-most arguments 256 h)
  | inr h ↦ is-more (capped frame) (256 + links + capped own) (omega (arith, few, fits, e, h)) ∙ sym (is-more arguments 256 h)
]

sizes-so : (arguments links own frame : ℕ) → links ≤ 8 → frame ≡ arguments + (links + own) → (nat_le (capped own) 65000 && nat_le (capped frame) (256 + links + capped own)) ≡ (nat_le own 65000 && nat_le arguments 256)
sizes-so arguments links own frame few e = elim (decided own 65000) [
  | inl h ↦
      ap (λ (t : Bool). t && nat_le (capped frame) (256 + links + capped own)) (is-at-most (capped own) 65000 (omega (arith, h)))
      ∙ arguments-so arguments links own frame few h e
      ∙ sym (ap (λ (t : Bool). t && nat_le arguments 256) (is-at-most own 65000 h))
  | inr h ↦
      ap (λ (t : Bool). t && nat_le (capped frame) (256 + links + capped own)) (is-more (capped own) 65000 (omega (arith, h)))
      ∙ sym (ap (λ (t : Bool). t && nat_le arguments 256) (is-more own 65000 h))
]

links-few : (routine : Routine) → link_bytes routine ≤ 8
links-few routine = by (is_some routine.outer) routine.far
  where
    by : (t u : Bool) → cond t 2 0 + (cond u 4 2 + 2) ≤ 8
    by true true = omega arith
    by true false = omega arith
    by false true = omega arith
    by false false = omega arith

pub fits_so : (types : List TypeDef) (routine : Routine) → (nat_le (capped (local_bytes types routine + need_of types routine)) 65000 && nat_le (capped (frame_of types routine)) (256 + link_bytes routine + capped (local_bytes types routine + need_of types routine))) ≡ fits types routine
fits_so types routine = sizes-so (argument_bytes types routine) (link_bytes routine) (local_bytes types routine + need_of types routine) (frame_of types routine) (links-few routine) (omega arith)
