-- The numbers of a routine's variables, and the activations round a routine.
use Rattle.std.proofs.Common.{◌≡◌, ℕ, zero, suc, ◌+◌, ◌<◌, ◌^◌, Bool, true, false, List, [], ◌∷◌, ◌++◌, length, map, Some, None, refl, sym, ap, subst, ◌∙◌, arith}
use Rattle.std.specs.Prelude.{Option, Ok, is_some, slice_get, ◌==◌, ◌&&◌, if◌then◌else◌}
use Rattle.std.specs.Option.{option_map, option_map_or}
use Rattle.std.proofs.lemmas.Option.{same_Some}
use Rattle.std.proofs.lemmas.Bool.Decides.{nat_tests}
use Rattle.well_formed.specs.type_layout.declared.definitions.TypeId.{TypeId}
use Rattle.well_formed.specs.type_layout.declared.definitions.Param.{Param}
use Rattle.well_formed.specs.typed_tree.declared.units.Routine.{Routine}
use Rattle.well_formed.specs.typed_tree.declared.units.Unit.{Unit as TypedUnit}
use Rattle.well_formed.specs.typed_tree.type_fits.Routines.{listed, variables_of}
use Rattle.store_typing.specs.tp_meaning.Store.{Store, next_serial}
use Rattle.store_typing.specs.tp_meaning.Programs.{sort_in}
use Rattle.store_typing.specs.tp_meaning.Activations.{Level, Callee, is_alias, around}
use Rattle.store_typing.specs.stores.Worlds.{Made, Own, Alias, World}
use Rattle.store_typing.specs.stores.Stores.{IsTypedStore}
use Rattle.program_typing.specs.lvalues.Frames.{made_as, IsLevel, AreLevels}
use Rattle.program_typing.specs.calls.Callees.{HasTypes, params_made, self_made, own_made, variables_made}
use Rattle.program_typing.specs.calls.Laws.{IsRound, Here, Outside, called_world, OuterLevels, LevelLaws}

same_test : (m n : ℕ) → (suc m == suc n) ≡ (m == n)
same_test m n = grind (arith, nat_tests)

not_first : (n : ℕ) → (suc n == 0) ≡ false
not_first n = grind (arith, nat_tests)

module _ (unit : TypedUnit) where
  -- variables that stand for nothing
  own_numbered : (tys : List TypeId) (n : ℕ) (ty : TypeId) → slice_get tys n ≡ Some ty → slice_get (own_made unit tys) n ≡ Some (Own (sort_in unit ty))
  own_numbered [] n ty e = absurd cc
  own_numbered (t ∷ tys) zero ty e = ap (option_map (λ (x : TypeId). Own (sort_in unit x))) e
  own_numbered (t ∷ tys) (suc n) ty e = own_numbered tys n ty e

  own_both : (xs ys : List TypeId) (n : ℕ) (ty : TypeId) → slice_get (xs ++ ys) n ≡ Some ty → slice_get (own_made unit xs ++ own_made unit ys) n ≡ Some (Own (sort_in unit ty))
  own_both [] ys n ty e = own_numbered ys n ty e
  own_both (x ∷ xs) ys zero ty e = ap (option_map (λ (t : TypeId). Own (sort_in unit t))) e
  own_both (x ∷ xs) ys (suc n) ty e = own_both xs ys n ty e

  -- Self, and what follows it
  behind_params : (owner result : Option TypeId) (locals : List TypeId) (n : ℕ) (ty : TypeId) → slice_get (listed owner ++ (listed result ++ locals)) n ≡ Some ty
      → slice_get (self_made unit owner ++ (own_made unit (listed result) ++ own_made unit locals)) n ≡ Some (made_as (is_some owner && n == 0) (sort_in unit ty))
  behind_params None result locals n ty e = own_both (listed result) locals n ty e
  behind_params (Some owner) result locals zero ty e = ap (option_map (λ (t : TypeId). Alias (sort_in unit t))) e
  behind_params (Some owner) result locals (suc n) ty e =
      subst (λ (b : Bool). slice_get (own_made unit (listed result) ++ own_made unit locals) n ≡ Some (made_as b (sort_in unit ty))) (sym (not_first n)) (own_both (listed result) locals n ty e)

  numbered : (owner result : Option TypeId) (locals : List TypeId) (params : List Param) (n : ℕ) (ty : TypeId)
      → slice_get (map (λ (param : Param). param.ty) params ++ (listed owner ++ (listed result ++ locals))) n ≡ Some ty
      → slice_get (params_made unit params ++ (self_made unit owner ++ (own_made unit (listed result) ++ own_made unit locals))) n
      ≡ Some (made_as (option_map_or (λ (param : Param). param.by_ref) (slice_get params n) (is_some owner && n == length params)) (sort_in unit ty))
  numbered owner result locals [] n ty e = behind_params owner result locals n ty e
  numbered owner result locals (param ∷ params) zero ty e = ap (option_map (λ (t : TypeId). made_as param.by_ref (sort_in unit t))) e
  numbered owner result locals (param ∷ params) (suc n) ty e =
      let next : suc (length params) ≡ length (param ∷ params) = omega arith in
      let same : (is_some owner && n == length params) ≡ (is_some owner && suc n == length (param ∷ params)) =
      ap (λ b. is_some owner && b) (sym (same_test n (length params)) ∙ ap (λ m. suc n == m) next) in
      subst (λ (b : Bool). slice_get (params_made unit params ++ (self_made unit owner ++ (own_made unit (listed result) ++ own_made unit locals))) n
      ≡ Some (made_as (option_map_or (λ (p : Param). p.by_ref) (slice_get params n) b) (sort_in unit ty))) same (numbered owner result locals params n ty e)

-- behind so many elements
get_behind : {X : Type 0} (xs ys : List X) (n : ℕ) (x : X) → slice_get ys n ≡ Some x → slice_get (xs ++ ys) (length xs + n) ≡ Some x
get_behind [] ys n x e = subst (λ k. slice_get ys k ≡ Some x) next e where
  next : n ≡ 0 + n
  next = omega arith
get_behind (y ∷ xs) ys n x e = subst (λ k. slice_get (y ∷ (xs ++ ys)) k ≡ Some x) next (get_behind xs ys n x e) where
  next : suc (length xs + n) ≡ length (y ∷ xs) + n
  next = omega arith

-- the variables of a called routine lie behind all objects that were made before
pub called_level : (w : World) (store : Store) → IsTypedStore w store → (callee : Callee) → HasTypes w callee → length (variables_of callee.routine) < 2 ^ 31
    → IsLevel (called_world w callee) callee.unit (record { number = callee.number; routine = callee.routine; first = next_serial store })
called_level w store typed callee has few =
    let routine : Routine = callee.routine in
    let made : List Made = variables_made callee.unit routine in
    record {
      few = few;
      variables = λ n ty e. (
        has.known n ty e,
        subst (λ k. slice_get (w.made ++ made) (k + n) ≡ Some (made_as (is_alias routine n) (sort_in callee.unit ty))) (sym typed.count)
            (get_behind w.made made n (made_as (is_alias routine n) (sort_in callee.unit ty)) (numbered callee.unit routine.owner routine.header.result routine.locals routine.header.params n ty e)),
      );
    }

-- ---- the activations round a routine

module _ (w : World) (unit : TypedUnit) (outer : ℕ) where
  here_or_on : (n : ℕ) (level : Level) (levels : List Level) (t : Bool) → (level.number == outer) ≡ t → AreLevels w unit (Some n) (level ∷ levels)
      → ((level.number == outer) ≡ false → OuterLevels w unit outer levels) → OuterLevels w unit outer (level ∷ levels)
  here_or_on n level levels true e are more =
      let same : n ≡ outer = equal n level.number outer are.0 e in
      record {
        rest = level ∷ levels;
        found = ap (λ (b : Bool). if b then Ok (level ∷ levels) else around outer levels) e;
        are = subst (λ (k : ℕ). AreLevels w unit (Some k) (level ∷ levels)) same are;
      } where
        equal : (n m k : ℕ) → m ≡ n → (m == k) ≡ true → n ≡ k
        equal n m k p q = grind (arith, nat_tests)
  here_or_on n level levels false e are more =
      let rest = more e in
      record { rest = rest.rest; found = ap (λ (b : Bool). if b then Ok (level ∷ levels) else around outer levels) e ∙ rest.found; are = rest.are }

  differ : {A : Type 0} (n m : ℕ) → m ≡ n → (m == n) ≡ false → A
  differ n m p q = absurd (grind (arith, nat_tests))

  pub outer_levels : (n : ℕ) (levels : List Level) → AreLevels w unit (Some n) levels → IsRound unit.routines outer n → OuterLevels w unit outer levels
  outer_levels n [] are round = absurd are
  outer_levels _ (level ∷ levels) are Here = here_or_on outer level levels (level.number == outer) refl are (λ e. differ outer level.number are.0 e)
  outer_levels n (level ∷ levels) are (Outside _ m routine at up round) =
      let same : routine ≡ level.routine = same_Some routine level.routine (sym at ∙ are.1) in
      let inner : AreLevels w unit (Some m) levels = subst (λ (o : Option ℕ). AreLevels w unit o levels) (ap (λ (r : Routine). r.outer) (sym same) ∙ up) are.3 in
      here_or_on n level levels (level.number == outer) refl are (λ e. outer_levels m levels inner round)

pub level_laws : (w : World) → LevelLaws w
level_laws w = record { outer = λ unit number outer levels are round. outer_levels w unit outer number levels are round }
