-- Whole runs of two programs whose units are seen alike.
use Rattle.std.proofs.Common.{◌≡◌, ℕ, zero, suc, false, pos, List, [], ◌∷◌, ◌++◌, map, Option, Some, None, refl, ◌∙◌}
use Rattle.std.specs.List.{flat_map}
use Rattle.tp_check_decl.specs.typed_tree.declared.units.Unit.{Unit as TypedUnit}
use Rattle.tp_check_decl.specs.typed_tree.declared.units.Program.{Program}
use Rattle.tp_check_decl.specs.Units.{Whole, view_unit}
use Rattle.tp_meaning.specs.Trees.{Ordinal, holding}
use Rattle.tp_meaning.specs.Outcomes.{◌>>◌}
use Rattle.tp_meaning.specs.Activations.{variable_object}
use Rattle.tp_meaning.specs.Calls.{entered}
use Rattle.tp_meaning.specs.Meaning.{run_by, run, unit_objects, start_store, start_state, start_activation, started, all_started, seen_of, mean}
use Rattle.address_independence.specs.congruence.Laws.{MeansAlike}
use Rattle.address_independence.proofs.congruence.Units.{AreUnits, unit_as}
use Rattle.address_independence.proofs.congruence.Activations.{IsAlike, RunAlike, entered_alike}
use Rattle.address_independence.proofs.congruence.Forms.{task_alike}

first_unit : (u v : Whole) (us vs : List Whole) → (u ∷ us) ≡ (v ∷ vs) → u ≡ v
first_unit u v us vs same = cc

other_units : (u v : Whole) (us vs : List Whole) → (u ∷ us) ≡ (v ∷ vs) → us ≡ vs
other_units u v us vs same = cc

objects_alike : (us vs : List TypedUnit) → map view_unit us ≡ map view_unit vs → flat_map unit_objects us ≡ flat_map unit_objects vs
objects_alike [] [] same = refl
objects_alike [] (v ∷ vs) same = absurd (cc)
objects_alike (u ∷ us) [] same = absurd (cc)
objects_alike (u ∷ us) (v ∷ vs) same =
    let one = first_unit (view_unit u) (view_unit v) (map view_unit us) (map view_unit vs) same in
    let rest = objects_alike us vs (other_units (view_unit u) (view_unit v) (map view_unit us) (map view_unit vs) same) in
    λ i. unit_objects (unit_as (one i) u.routines) ++ rest i

module _ (p q : Program) (units : map view_unit p.units ≡ map view_unit q.units) (start : p.start ≡ q.start) where
  run_by_alike : (fuel : ℕ) → RunAlike (run_by p fuel) (run_by q fuel)
  run_by_alike zero t f g a = refl
  run_by_alike (suc fuel) t f g a = task_alike p q units start (run_by p fuel) (run_by q fuel) (run_by_alike fuel) t f g a

  run_alike : RunAlike (run p) (run q)
  unfolding run
  run_alike t f g a i s = run_by_alike (suc s.turns) t f g a i s

  started_alike : (u v : TypedUnit) → AreUnits u v → (initial : Option ℕ) → started p (run p) u initial ≡ started q (run q) v initial
  started_alike u v same None = refl
  started_alike u v same (Some number) =
      let a : IsAlike (start_activation u) (start_activation v) = record { unit = same; levels = refl; withs = refl; sum = refl } in
      entered_alike p q units start (start_activation u) (start_activation v) a (run p) (run q) run_alike (record { unit = u.name; number = number }) None None []
      ∙ (λ i. entered q (run q) (start_activation v) (record { unit = (same i).name; number = number }) None None [])

  unit_started : (u v : TypedUnit) → AreUnits u v → started p (run p) u u.initial ≡ started q (run q) v v.initial
  unit_started u v same = started_alike u v same u.initial ∙ (λ i. started q (run q) v (same i).initial)

  all_started_alike : (us vs : List TypedUnit) → map view_unit us ≡ map view_unit vs → all_started p (run p) us ≡ all_started q (run q) vs
  all_started_alike [] [] same = refl
  all_started_alike [] (v ∷ vs) same = absurd (cc)
  all_started_alike (u ∷ us) [] same = absurd (cc)
  all_started_alike (u ∷ us) (v ∷ vs) same =
      let one = first_unit (view_unit u) (view_unit v) (map view_unit us) (map view_unit vs) same in
      let rest = all_started_alike us vs (other_units (view_unit u) (view_unit v) (map view_unit us) (map view_unit vs) same) in
      λ i s. (unit_started u v one i >> rest i) s

  store_alike : start_store p ≡ start_store q
  store_alike i = record { objects = variable_object (holding (Ordinal (pos 0))) ∷ objects_alike p.units q.units units i; rows = [] }

  state_alike : (input : List ℕ) (turns : ℕ) → start_state p input turns ≡ start_state q input turns
  state_alike input turns i = record { turns = turns; store = store_alike i; installed = false; input = input; out = []; err = [] }

  pub mean_alike : (input : List ℕ) (turns : ℕ) → mean p input turns ≡ mean q input turns
  mean_alike input turns i = seen_of (all_started_alike p.units q.units units i (state_alike input turns i))

pub means_alike : MeansAlike
means_alike one other same input turns = mean_alike one other same.units same.start input turns
