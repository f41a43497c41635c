-- The routines of a unit are those of its draft, each with its block.
use Rattle.std.proofs.Common.{◌≡◌, ℕ, zero, suc, List, [], ◌∷◌, length, map, Option, Some, None, refl, sym, subst, ap, ◌∙◌}
use Rattle.std.specs.Prelude.{slice_get}
use Rattle.std.specs.Option.{option_map}
use Rattle.std.proofs.lemmas.Option.{slice_get-map}
use Rattle.declarations_well_formed.specs.type_layout.declared.definitions.TypeDef.{TypeDef}
use Rattle.declarations_well_formed.specs.typed_tree.declared.units.Routine.{Routine}
use Rattle.declarations_well_formed.specs.tp_check_decl.declared.routines.drafts.Announced.{Announced}
use Rattle.declarations_well_formed.specs.tp_check_decl.routines.Drafts.{Done, Numbered}
use Rattle.declarations_well_formed.specs.tp_check_decl.Units.{Finished, view_routine, finished}
use Rattle.declarations_well_formed.specs.tp_check_decl.Endings.{finished_by, all_finished}

-- a routine with its block, by its number in the draft
pub record IsFinished (routines : List Numbered) (number : ℕ) (one : Finished) : Type 0 where
  pub slot : Numbered
  pub is : slice_get routines number ≡ Some slot
  pub done : Done
  pub has : slot.done ≡ Some done
  pub made : one ≡ finished slot.first done

done_by : (types : List TypeDef) (first : Announced) (o : Option Done) (one : Finished) → (finished_by types first o).holds one → (done : Done) × (o ≡ Some done) × (one ≡ finished first done)
done_by types first None one h = absurd h
done_by types first (Some done) one h = (done, refl, h.made)

-- each is there, and no other
pub finished_at : (types : List TypeDef) (routines : List Numbered) (all : List Finished) (number : ℕ) (one : Finished) → (all_finished types routines).holds all → slice_get all number ≡ Some one → IsFinished routines number one
finished_at types [] all zero one h e = let is : all ≡ [] = h in let bad : ⊥ = cc in absurd bad
finished_at types [] all (suc number) one h e = let is : all ≡ [] = h in let bad : ⊥ = cc in absurd bad
finished_at types (slot ∷ rest) all zero one h e =
    let it = done_by types slot.first slot.done h.left h.left_holds in
    let is : all ≡ h.left ∷ h.right = h.made in
    let same : h.left ≡ one = cc in
    record { slot = slot; is = refl; done = it.0; has = it.1; made = sym same ∙ it.2 }
finished_at types (slot ∷ rest) all (suc number) one h e =
    let is : all ≡ h.left ∷ h.right = h.made in
    let behind : slice_get (h.left ∷ h.right) (suc number) ≡ Some one = subst (λ (xs : List Finished). slice_get xs (suc number) ≡ Some one) is e in
    let it = finished_at types rest h.right number one h.right_holds behind in
    record { slot = it.slot; is = it.is; done = it.done; has = it.has; made = it.made }

pub slot_at : (types : List TypeDef) (routines : List Numbered) (all : List Finished) (number : ℕ) (slot : Numbered) → (all_finished types routines).holds all → slice_get routines number ≡ Some slot
    → (done : Done) × (slot.done ≡ Some done) × (slice_get all number ≡ Some (finished slot.first done))
slot_at types [] all zero slot h e = let bad : ⊥ = cc in absurd bad
slot_at types [] all (suc number) slot h e = let bad : ⊥ = cc in absurd bad
slot_at types (first ∷ rest) all zero slot h e =
    let it = done_by types first.first first.done h.left h.left_holds in
    let same : first ≡ slot = cc in
    let here : slice_get all 0 ≡ Some (finished first.first it.0) = ap (λ (xs : List Finished). slice_get xs 0) h.made ∙ ap (λ (f : Finished). Some f) it.2 in
    (it.0, ap (λ (s : Numbered). s.done) (sym same) ∙ it.1, subst (λ (s : Numbered). slice_get all 0 ≡ Some (finished s.first it.0)) same here)
slot_at types (first ∷ rest) all (suc number) slot h e =
    let it = slot_at types rest h.right number slot h.right_holds e in
    (it.0, it.1, ap (λ (xs : List Finished). slice_get xs (suc number)) h.made ∙ it.2)

pub count_all : (types : List TypeDef) (routines : List Numbered) (all : List Finished) → (all_finished types routines).holds all → length all ≡ length routines
count_all types [] all h = ap (λ (xs : List Finished). length xs) h
count_all types (slot ∷ rest) all h = ap (λ (xs : List Finished). length xs) h.made ∙ ap (λ (n : ℕ). suc n) (count_all types rest h.right h.right_holds)

-- ---- routines and their views

pub viewed_at : (routines : List Routine) (number : ℕ) (routine : Routine) → slice_get routines number ≡ Some routine → slice_get (map view_routine routines) number ≡ Some (view_routine routine)
viewed_at routines number routine e = slice_get-map view_routine routines number ∙ ap (λ (o : Option Routine). option_map view_routine o) e

pub view_back : (routines : List Routine) (number : ℕ) (one : Finished) → slice_get (map view_routine routines) number ≡ Some one → (routine : Routine) × (slice_get routines number ≡ Some routine) × (view_routine routine ≡ one)
view_back [] zero one e = let bad : ⊥ = cc in absurd bad
view_back [] (suc number) one e = let bad : ⊥ = cc in absurd bad
view_back (routine ∷ rest) zero one e =
    let same : view_routine routine ≡ one = cc in
    (routine, refl, same)
view_back (routine ∷ rest) (suc number) one e = view_back rest number one e
