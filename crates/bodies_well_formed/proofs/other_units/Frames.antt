-- Routines by their levels.
use Rattle.std.proofs.Common.{◌≡◌, ◌⊎◌, inl, inr, ℕ, zero, suc, ◌+◌, ◌-◌, ◌<◌, ◌≤◌, ◌==◌, Bool, true, false, cond, List, [], ◌∷◌, ◌++◌, length, get_or, Option, Some, None, refl, sym, subst, ap, ◌∙◌, arith}
use Rattle.std.specs.Prelude.{slice_get}
use Rattle.std.proofs.lemmas.Bool.Decides.{Decides-eqb}
use Rattle.std.proofs.lemmas.List.Sums.{sum_by-cons}
use Rattle.tp_check_stmt.specs.typed_tree.declared.units.Routine.{Routine}
use Rattle.tp_check_stmt.specs.scopes.declared.entries.BlockKind.{BlockKind}
use Rattle.tp_check_stmt.specs.scopes.declared.entries.BlockKind.TheVariants as block
use Rattle.tp_check_stmt.specs.scopes.declared.searches.OpenBlock.{OpenBlock}
use Rattle.tp_check_stmt.specs.tp_check_expr.Names.{is_of_routine, is_routine, routine_depth}
use Rattle.bodies_well_formed.specs.other_units.Known.{opening, open_from, at_level, first_in, AreNested, IsDeep, variables_at, levels_in}

-- ---- levels

same_level : (level n : ℕ) → (level == n) ≡ true → level ≡ n
same_level level n e = (Decides-eqb level n).0 e

other_level : (level n : ℕ) → level < n → (b : Bool) → (level == n) ≡ b → b ≡ false
other_level level n h false e = refl
other_level level n h true e =
    let same = same_level level n e in
    absurd (omega (arith, h, same))

-- no level is beyond the innermost one
pub level_below : (around : List ℕ) (level number : ℕ) → at_level around level ≡ Some number → level ≤ length around
level_below [] level number e = let bad : ⊥ = cc in absurd bad
level_below (one ∷ around) level number e = by (λ k. level_below around level number k) (level == length around + 1) refl e
  where
    by : (at_level around level ≡ Some number → level ≤ length around) → (b : Bool) → (level == length around + 1) ≡ b → cond b (Some one) (at_level around level) ≡ Some number → level ≤ length (one ∷ around)
    by rec true is k = let same = same_level level (length around + 1) is in omega (arith, same)
    by rec false is k = let low = rec k in omega (arith, low)

-- those that are open stay open
abbrev pub Keeps : List ℕ → List ℕ → Type 0
Keeps around more = (level number : ℕ) → at_level around level ≡ Some number → at_level more level ≡ Some number

pub keeps_one : (one : ℕ) (around : List ℕ) → Keeps around (one ∷ around)
keeps_one one around level number e =
    let low = level_below around level number e in
    let below : level < length around + 1 = omega (arith, low) in
    ap (λ (b : Bool). cond b (Some one) (at_level around level)) (other_level level (length around + 1) below (level == length around + 1) refl) ∙ e

pub keeps_kind : (kind : BlockKind) (around : List ℕ) → Keeps around (opening kind around)
keeps_kind (block.Routine number owner) around level n e = keeps_one number around level n e
keeps_kind block.Part around level n e = e
keeps_kind (block.With ty) around level n e = e

pub keeps_from : (blocks : List OpenBlock) (around : List ℕ) → Keeps around (open_from around blocks)
keeps_from [] around level number e = e
keeps_from (one ∷ blocks) around level number e = keeps_from blocks (opening one.kind around) level number (keeps_kind one.kind around level number e)

-- ---- how many are open

kind_count : (kind : BlockKind) (around : List ℕ) → length (opening kind around) ≡ length around + cond (is_of_routine kind) 1 0
kind_count (block.Routine number owner) around = (let n : suc (length around) ≡ length around + 1 = omega arith in n)
kind_count block.Part around = (let n : length around ≡ length around + 0 = omega arith in n)
kind_count (block.With ty) around = (let n : length around ≡ length around + 0 = omega arith in n)

pub open_count : (blocks : List OpenBlock) (around : List ℕ) → length (open_from around blocks) ≡ length around + routine_depth blocks
open_count [] around = (let n : length around ≡ length around + 0 = omega arith in n)
open_count (one ∷ blocks) around =
    let k : ℕ = cond (is_of_routine one.kind) 1 0 in
    let here : length (opening one.kind around) ≡ length around + k = kind_count one.kind around in
    let rest : length (open_from (opening one.kind around) blocks) ≡ length (opening one.kind around) + routine_depth blocks = open_count blocks (opening one.kind around) in
    let split : routine_depth (one ∷ blocks) ≡ k + routine_depth blocks = sum_by-cons (λ (x : OpenBlock). cond (is_routine x) 1 0) one blocks in
    add_up (length around) k (routine_depth blocks) (length (opening one.kind around)) (length (open_from (opening one.kind around) blocks)) (routine_depth (one ∷ blocks)) here rest split
  where
    add_up : (o k d m n t : ℕ) → m ≡ o + k → n ≡ m + d → t ≡ k + d → n ≡ o + t
    add_up o k d m n t h i j = omega (arith, h, i, j)

pub open_end : (blocks : List OpenBlock) (one : OpenBlock) (around : List ℕ) → open_from around (blocks ++ one ∷ []) ≡ opening one.kind (open_from around blocks)
open_end [] one around = refl
open_end (first ∷ blocks) one around = open_end blocks one (opening first.kind around)

-- ---- the variables of a level

pub level_variables : (routines : List Routine) (around : List ℕ) (level number : ℕ) (one : Routine) → at_level around level ≡ Some number → slice_get routines number ≡ Some one
    → get_or (levels_in routines around) (length around - level) [] ≡ variables_at (Some one)
level_variables routines [] level number one e is = let bad : ⊥ = cc in absurd bad
level_variables routines (first ∷ around) level number one e is = by (λ k. level_variables routines around level number one k is) (level == length around + 1) refl e
  where
    by : (at_level around level ≡ Some number → get_or (levels_in routines around) (length around - level) [] ≡ variables_at (Some one))
        → (b : Bool) → (level == length around + 1) ≡ b → cond b (Some first) (at_level around level) ≡ Some number
        → get_or (levels_in routines (first ∷ around)) (length (first ∷ around) - level) [] ≡ variables_at (Some one)
    by rec true e k =
        let same = same_level level (length around + 1) e in
        let none : length (first ∷ around) - level ≡ 0 = omega (arith, same) in
        let it : first ≡ number = cc in
        ap (λ (n : ℕ). get_or (levels_in routines (first ∷ around)) n []) none
        ∙ ap (λ (o : Option Routine). variables_at o) (ap (λ (n : ℕ). slice_get routines n) it ∙ is)
    by rec false e k =
        let low = level_below around level number k in
        let next : length (first ∷ around) - level ≡ suc (length around - level) = omega (arith, low) in
        ap (λ (n : ℕ). get_or (levels_in routines (first ∷ around)) n []) next ∙ rec k

-- ---- depths

-- a routine of the list
abbrev pub IsOpen : List ℕ → ℕ → Type 0
IsOpen [] number = ⊥
IsOpen (one ∷ around) number = (one ≡ number) ⊎ IsOpen around number

pub nested_deep : (routines : List Routine) (around : List ℕ) → AreNested routines around → IsDeep routines (length around) (first_in around)
nested_deep routines [] h = tt
nested_deep routines (number ∷ around) h =
    (h.0.0, h.0.1, subst (λ (o : Option ℕ). IsDeep routines (length around) o) (sym h.0.2) (nested_deep routines around h.1))

-- where an open routine stands
pub record Stands (routines : List Routine) (around : List ℕ) (number : ℕ) : Type 0 where
  pub level : ℕ
  pub at : at_level around (level + 1) ≡ Some number
  pub one : Routine
  pub is : slice_get routines number ≡ Some one
  pub deep : IsDeep routines level one.outer

pub stands : (routines : List Routine) (around : List ℕ) (number : ℕ) → AreNested routines around → IsOpen around number → Stands routines around number
stands routines [] number h k = absurd k
stands routines (first ∷ around) number h (inl same) =
    let yes : (length around + 1 == length around + 1) ≡ true = (Decides-eqb (length around + 1) (length around + 1)).1 refl in
    let at : at_level (first ∷ around) (length around + 1) ≡ Some number =
    ap (λ (b : Bool). cond b (Some first) (at_level around (length around + 1))) yes ∙ ap (λ (n : ℕ). Some n) same in
    record {
      level = length around;
      at = at;
      one = h.0.0;
      is = subst (λ (n : ℕ). slice_get routines n ≡ Some h.0.0) same h.0.1;
      deep = subst (λ (o : Option ℕ). IsDeep routines (length around) o) (sym h.0.2) (nested_deep routines around h.1);
    }
stands routines (first ∷ around) number h (inr k) =
    let it = stands routines around number h.1 k in
    record { level = it.level; at = keeps_one first around (it.level + 1) number it.at; one = it.one; is = it.is; deep = it.deep }

-- a routine has one depth
pub one_depth : (routines : List Routine) (level other : ℕ) (outer : Option ℕ) → IsDeep routines level outer → IsDeep routines other outer → level ≡ other
one_depth routines zero zero outer h k = refl
one_depth routines zero (suc other) None h k = absurd k
one_depth routines zero (suc other) (Some number) h k = absurd h
one_depth routines (suc level) zero None h k = absurd h
one_depth routines (suc level) zero (Some number) h k = absurd k
one_depth routines (suc level) (suc other) None h k = absurd h
one_depth routines (suc level) (suc other) (Some number) h k =
    let same : h.0 ≡ k.0 = (let e = h.1 in let f = k.1 in cc) in
    ap (λ (n : ℕ). suc n) (one_depth routines level other h.0.outer h.2 (subst (λ (r : Routine). IsDeep routines other r.outer) (sym same) k.2))
