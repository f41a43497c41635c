-- Variables of activations, what `with`s hold, and globals.
use Rattle.std.proofs.Common.{◌≡◌, ℕ, zero, suc, ◌+◌, ◌-◌, ◌<◌, ◌≤◌, ◌^◌, Bool, true, false, List, [], ◌∷◌, get_or, Some, None, refl, sym, subst, arith}
use Rattle.std.proofs.Common.{inl, inr}
use Rattle.std.specs.Prelude.{◌⊎◌, nat_lt, Option, Ok, slice_get, if◌then◌else◌}
use Rattle.std.specs.Option.{option_flatten}
use Rattle.std.proofs.lemmas.Option.{same_Some}
use Rattle.std.proofs.lemmas.Bool.Decides.{nat_tests}
use Rattle.well_formed.specs.type_layout.declared.definitions.TypeId.{TypeId}
use Rattle.well_formed.specs.typed_tree.declared.expressions.Variable.{Variable}
use Rattle.well_formed.specs.typed_tree.declared.units.Routine.{Routine}
use Rattle.well_formed.specs.typed_tree.declared.units.Unit.{Unit as TypedUnit}
use Rattle.well_formed.specs.typed_tree.type_fits.Routines.{variables_of}
use Rattle.well_formed.specs.Scopes.{Others, levels_of, levels_from, HasVariable, IsVariableOf, IsHeld, IsVariableAt}
use Rattle.well_formed.specs.WellFormed.{scope_in}
use Rattle.store_typing.specs.tp_meaning.Trees.{Key, Tree, part_at}
use Rattle.store_typing.specs.tp_meaning.Found.{Found, ◌>>=◌, known}
use Rattle.store_typing.specs.tp_meaning.Store.{Object, Store, tree_in, value_in, value_at, spot_of}
use Rattle.store_typing.specs.tp_meaning.Programs.{Sort, sort_in, global_serial, key_of}
use Rattle.store_typing.specs.tp_meaning.Activations.{Reached, Level, Activation, whole, is_alias, spot_through, variable_in, global_at, first_held, held_or, variable_by, variable_at}
use Rattle.store_typing.specs.types.Agreement.{AreConsistent}
use Rattle.store_typing.specs.types.Forms.{form_at}
use Rattle.store_typing.proofs.types.Agreed.{get_within}
use Rattle.store_typing.specs.stores.Worlds.{Own, Alias, World}
use Rattle.store_typing.specs.stores.Places.{Same, IsPlaceOf, Shared, IsAt}
use Rattle.store_typing.specs.stores.Stores.{StandsFor, IsTypedStore, Finds}
use Rattle.store_typing.proofs.stores.Paths.{finds_bind}
use Rattle.program_typing.specs.lvalues.Frames.{made_as, IsLevel, AreLevels, AreHeld, IsActive, IsGlobalOf, NamesGlobal}

-- ---- levels

-- the activation on a level, where the scope says that it has a variable
record OnLevel (w : World) (unit : TypedUnit) (levels : List Level) (k number : ℕ) (ty : TypeId) : Type 0 where
  level : Level
  is : slice_get levels k ≡ Some level
  has : slice_get (variables_of level.routine) number ≡ Some ty
  fits : IsLevel w unit level

on_level : (w : World) (unit : TypedUnit) (most : ℕ) (routine : Option ℕ) (levels : List Level) (k number : ℕ) (ty : TypeId) → AreLevels w unit routine levels
    → slice_get (get_or (levels_from unit.routines most routine) k []) number ≡ Some ty → OnLevel w unit levels k number ty
on_level w unit zero routine levels k number ty are e = absurd cc
on_level w unit (suc most) None [] k number ty are e = absurd cc
on_level w unit (suc most) None (level ∷ levels) k number ty are e = absurd are
on_level w unit (suc most) (Some n) [] k number ty are e = absurd are
on_level w unit (suc most) (Some n) (level ∷ levels) zero number ty are e =
    let here : slice_get (get_or (levels_of (levels_from unit.routines most) (Some level.routine)) 0 []) number ≡ Some ty =
    subst (λ (o : Option Routine). slice_get (get_or (levels_of (levels_from unit.routines most) o) 0 []) number ≡ Some ty) are.1 e in
    record { level = level; is = refl; has = here; fits = are.2 }
on_level w unit (suc most) (Some n) (level ∷ levels) (suc k) number ty are e =
    let there : slice_get (get_or (levels_of (levels_from unit.routines most) (Some level.routine)) (suc k) []) number ≡ Some ty =
    subst (λ (o : Option Routine). slice_get (get_or (levels_of (levels_from unit.routines most) o) (suc k) []) number ≡ Some ty) are.1 e in
    let rest = on_level w unit most level.routine.outer levels k number ty are.3 there in
    record { level = rest.level; is = rest.is; has = rest.has; fits = rest.fits }

-- what a `with` holds
held_at : (w : World) (unit : TypedUnit) (tys : List TypeId) (ats : List Reached) (k : ℕ) (ty : TypeId) → AreHeld w unit tys ats → slice_get tys k ≡ Some ty
    → (at : Reached) × (slice_get ats k ≡ Some at) × IsAt w at (sort_in unit ty)
held_at w unit [] ats k ty are e = absurd cc
held_at w unit (t ∷ tys) [] k ty are e = absurd are
held_at w unit (t ∷ tys) (a ∷ ats) zero ty are e = (a, refl, subst (λ (x : TypeId). IsAt w a (sort_in unit x)) (same_Some t ty e) are.0)
held_at w unit (t ∷ tys) (a ∷ ats) (suc k) ty are e = held_at w unit tys ats k ty are.1 e

module _ (w : World) (agreed : AreConsistent w.program) (store : Store) (typed : IsTypedStore w store) where
  -- a whole object is a place of the type that it was made with
  whole_place : (serial : ℕ) (sort : Sort) → slice_get w.made serial ≡ Some (Own sort) → IsPlaceOf w (whole serial) sort
  whole_place serial sort e = record { form = form_at sort; lies = record { whole = sort; made = e; leads = refl }; covers = Same refl }

  -- what a variable parameter stands for
  stands : (serial : ℕ) (sort : Sort) → slice_get w.made serial ≡ Some (Alias sort) → Finds (λ spot. IsPlaceOf w spot sort) (value_at store (whole serial) >>= spot_of)
  stands serial sort e = by (slice_get store.objects serial) refl where
    held : (object : Object) → StandsFor w sort object → Finds (λ spot. IsPlaceOf w spot sort) ((known (part_at object.tree []) >>= value_in) >>= spot_of)
    held object s = subst (λ (t : Tree). Finds (λ spot. IsPlaceOf w spot sort) (value_in t >>= spot_of)) (sym s.held) s.place

    by : (slot : Option (Option Object)) → slice_get store.objects serial ≡ slot → Finds (λ spot. IsPlaceOf w spot sort) ((tree_in (option_flatten slot) [] >>= value_in) >>= spot_of)
    by None is = tt
    by (Some None) is = tt
    by (Some (Some object)) is = held object (typed.objects serial (Alias sort) (Some object) e is)

  -- the place of a variable of an activation
  level_variable : (unit : TypedUnit) (level : Level) (number : ℕ) (ty : TypeId) → IsLevel w unit level → slice_get (variables_of level.routine) number ≡ Some ty
      → Finds (λ at. IsAt w at (sort_in unit ty)) (variable_in unit number store level)
  level_variable unit level number ty fits has =
      let made = fits.variables number ty has in
      let sort : Sort = sort_in unit ty in
      let rest : TypeId → Found Reached = λ ty. spot_through (is_alias level.routine number) (whole (level.first + number)) store >>= λ spot. Ok (record { spot = spot; sort = sort_in unit ty }) in
      subst (λ (o : Option TypeId). Finds (λ at. IsAt w at sort) (known o >>= rest)) (sym has)
      (finds_bind (λ spot. IsPlaceOf w spot sort) (λ at. IsAt w at sort) (spot_through (is_alias level.routine number) (whole (level.first + number)) store) (λ spot. Ok (record { spot = spot; sort = sort }))
      (through (is_alias level.routine number) (level.first + number) sort made.1) (λ spot place. record { place = place; same = Shared made.0 made.0 refl })) where
        through : (alias : Bool) (serial : ℕ) (sort : Sort) → slice_get w.made serial ≡ Some (made_as alias sort) → Finds (λ spot. IsPlaceOf w spot sort) (spot_through alias (whole serial) store)
        through true serial sort e = stands serial sort e
        through false serial sort e = whole_place serial sort e

  module _ (others : Others) (f : Activation) (number : ℕ) (withs : List TypeId) (active : IsActive w f number withs) where
    abbrev IsThe : TypeId → Reached → Type 0
    IsThe ty at = IsAt w at (sort_in f.unit ty)

    on_level_variable : (k n : ℕ) (ty : TypeId) → IsVariableOf (scope_in others f.unit number) k n ty → Finds (IsThe ty) (known (slice_get f.levels k) >>= variable_in f.unit n store)
    on_level_variable k n ty is =
        let on = on_level w f.unit (suc number) (Some number) f.levels k n ty active.levels is in
        subst (λ (o : Option Level). Finds (IsThe ty) (known o >>= variable_in f.unit n store)) (sym on.is) (level_variable f.unit on.level n ty on.fits on.has)

    -- variables of a routine are numbered below what `with`s hold
    own_number : (n : ℕ) (ty : TypeId) → IsVariableOf (scope_in others f.unit number) 0 n ty → nat_lt n first_held ≡ true
    own_number n ty is =
        let on = on_level w f.unit (suc number) (Some number) f.levels 0 n ty active.levels is in
        let fits = on.fits in
        let less : n < 2 ^ 31 = omega (arith, get_within (variables_of on.level.routine) n ty on.has, fits.few) in
        grind (arith, nat_tests)

    held_number : (n : ℕ) → 2 ^ 31 ≤ n → nat_lt n first_held ≡ false
    held_number n h = grind (arith, nat_tests)

    near_variable : (n : ℕ) (ty : TypeId) → IsVariableOf (scope_in others f.unit number) 0 n ty ⊎ IsHeld (record (scope_in others f.unit number) { withs = withs }) n ty
        → Finds (IsThe ty) (held_or f n (known (slice_get f.levels 0) >>= variable_in f.unit n store))
    near_variable n ty (inl is) =
        let own : Found Reached = known (slice_get f.levels 0) >>= variable_in f.unit n store in
        subst (λ (b : Bool). Finds (IsThe ty) (if b then own else known (slice_get f.withs (n - first_held)))) (sym (own_number n ty is)) (on_level_variable 0 n ty is)
    near_variable n ty (inr is) =
        let own : Found Reached = known (slice_get f.levels 0) >>= variable_in f.unit n store in
        let held = held_at w f.unit withs f.withs (n - 2 ^ 31) ty active.held is.held in
        subst (λ (b : Bool). Finds (IsThe ty) (if b then own else known (slice_get f.withs (n - first_held)))) (sym (held_number n is.high))
        (subst (λ (o : Option Reached). Finds (IsThe ty) (known o)) (sym held.1) held.2)

    global_variable : (place n : ℕ) (ty : TypeId) → IsGlobalOf w.program f.unit place n ty → Finds (IsThe ty) (known (key_of f.unit place n) >>= global_at w.program)
    global_variable place n ty global =
        let globals = active.globals in
        let made = globals.globals global.key global.sort global.is in
        subst (λ (o : Option Key). Finds (IsThe ty) (known o >>= global_at w.program)) (sym global.names)
        (subst (λ (o : Option Sort). Finds (IsThe ty) (known o >>= λ sort. Ok (record { spot = whole (global_serial w.program global.key); sort = sort }))) (sym global.is)
        (record { place = whole_place (global_serial w.program global.key) global.sort made; same = global.seen }))

    by_level : (level place n : ℕ) (ty : TypeId) → IsVariableAt (record (scope_in others f.unit number) { withs = withs }) level place n ty → (level ≡ 0 → IsGlobalOf w.program f.unit place n ty)
        → Finds (IsThe ty) (variable_by w.program f level place n store)
    by_level zero place n ty is names = global_variable place n ty (names refl)
    by_level (suc zero) place n ty is names = near_variable n ty is
    by_level (suc (suc links)) place n ty is names = on_level_variable (suc links) n ty is

  -- a variable is a place of the type that its unit says
  pub variable_place : (others : Others) (f : Activation) (number : ℕ) (withs : List TypeId) (variable : Variable) (ty : TypeId) → IsActive w f number withs → HasVariable (record (scope_in others f.unit number) { withs = withs }) variable ty
      → NamesGlobal w.program f.unit variable ty → Finds (λ at. IsAt w at (sort_in f.unit ty)) (variable_at w.program f variable store)
  variable_place others f number withs variable ty active has names = by_level others f number withs active variable.level variable.unit variable.number ty has.1 names
