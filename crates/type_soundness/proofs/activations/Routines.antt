-- The variables of a routine have types of its unit's table.
use Rattle.std.proofs.Common.{◌≡◌, ℕ, zero, suc, List, [], ◌∷◌, ◌++◌, map, Some, None, refl, subst}
use Rattle.std.specs.Prelude.{slice_get, All, Option}
use Rattle.std.proofs.lemmas.Option.{same_Some}
use Rattle.std.proofs.lemmas.List.Elements.{All-head, All-tail}
use Rattle.program_typing.specs.type_layout.declared.definitions.TypeId.{TypeId}
use Rattle.program_typing.specs.type_layout.declared.definitions.Param.{Param}
use Rattle.program_typing.specs.type_layout.declared.definitions.TypeDef.{TypeDef}
use Rattle.program_typing.specs.type_layout.Table.{IsObject}
use Rattle.program_typing.specs.typed_tree.declared.units.Routine.{Routine}
use Rattle.program_typing.specs.typed_tree.declared.units.Unit.{Unit as TypedUnit}
use Rattle.program_typing.specs.typed_tree.declared.units.Program.{Program}
use Rattle.program_typing.specs.typed_tree.type_fits.Fits.{IsSome}
use Rattle.program_typing.specs.typed_tree.type_fits.Routines.{listed, variables_of}
use Rattle.program_typing.specs.well_formed.Scopes.{Others, HasResult}
use Rattle.program_typing.specs.well_formed.WellFormed.{scope_of, IsOwner, IsRoutine}
use Rattle.program_typing.specs.tp_meaning.Programs.{sort_in}
use Rattle.program_typing.specs.store_typing.types.Agreement.{IsUnit, IsKnown}

-- each element of a list that is got
abbrev Gets : (TypeId → Type 0) → List TypeId → Type 0
Gets P tys = (number : ℕ) (ty : TypeId) → slice_get tys number ≡ Some ty → P ty

gets_both : (P : TypeId → Type 0) (xs ys : List TypeId) → Gets P xs → Gets P ys → Gets P (xs ++ ys)
gets_both P [] ys f g n ty e = g n ty e
gets_both P (x ∷ xs) ys f g zero ty e = f zero ty e
gets_both P (x ∷ xs) ys f g (suc n) ty e = gets_both P xs ys (λ m t e'. f (suc m) t e') g n ty e

gets_params : (P : TypeId → Type 0) (params : List Param) → All (λ (param : Param). P param.ty) params → Gets P (map (λ (param : Param). param.ty) params)
gets_params P [] each n ty e = absurd cc
gets_params P (p ∷ params) each zero ty e = subst P (same_Some p.ty ty e) (All-head (λ (param : Param). P param.ty) p params each)
gets_params P (p ∷ params) each (suc n) ty e = gets_params P params (All-tail (λ (param : Param). P param.ty) p params each) n ty e

gets_all : (P : TypeId → Type 0) (tys : List TypeId) → All P tys → Gets P tys
gets_all P [] each n ty e = absurd cc
gets_all P (t ∷ tys) each zero ty e = subst P (same_Some t ty e) (All-head P t tys each)
gets_all P (t ∷ tys) each (suc n) ty e = gets_all P tys (All-tail P t tys each) n ty e

gets_one : (P : TypeId → Type 0) (t : TypeId) → P t → Gets P (t ∷ [])
gets_one P t is zero ty e = subst P (same_Some t ty e) is
gets_one P t is (suc n) ty e = absurd cc

gets_none : (P : TypeId → Type 0) → Gets P []
gets_none P n ty e = absurd cc

pub is_some_object : (o : Option TypeDef) → IsObject o → IsSome o
is_some_object (Some one) is = tt
is_some_object None is = absurd is

module _ (unit : TypedUnit) where
  abbrev Has : TypeId → Type 0
  Has ty = IsSome (slice_get unit.types.types ty.0)

  gets_owner : (owner : Option TypeId) → IsOwner (scope_of unit) owner → Gets Has (listed owner)
  gets_owner None is = gets_none Has
  gets_owner (Some ty) is = gets_one Has ty (is_some_object (slice_get unit.types.types ty.0) is)

  gets_result : (result : Option TypeId) → HasResult (scope_of unit) result → Gets Has (listed result)
  gets_result None is = gets_none Has
  gets_result (Some ty) is = gets_one Has ty is

  gets_variables : {others : Others} → (number : ℕ) (routine : Routine) → IsRoutine others unit number routine → Gets Has (variables_of routine)
  gets_variables number routine is =
      gets_both Has (map (λ (param : Param). param.ty) routine.header.params) (listed routine.owner ++ (listed routine.header.result ++ routine.locals)) (gets_params Has routine.header.params is.params)
      (gets_both Has (listed routine.owner) (listed routine.header.result ++ routine.locals) (gets_owner routine.owner is.owner)
      (gets_both Has (listed routine.header.result) routine.locals (gets_result routine.header.result is.result) (gets_all Has routine.locals is.locals)))

  known_of : (program : Program) → IsUnit program unit → (ty : TypeId) → (o : Option TypeDef) → slice_get unit.types.types ty.0 ≡ o → IsSome o → IsKnown program (sort_in unit ty)
  known_of program listed ty (Some one) e is = record { unit = unit; listed = listed; table = refl; one = one; is = e }
  known_of program listed ty None e is = absurd is

  -- a type of the unit is one of the program
  pub unit_type : (program : Program) → IsUnit program unit → (ty : TypeId) → IsSome (slice_get unit.types.types ty.0) → IsKnown program (sort_in unit ty)
  unit_type program listed ty is = known_of program listed ty (slice_get unit.types.types ty.0) refl is

  -- the types of a routine's variables are types of the program
  pub variable_types : {others : Others} → (program : Program) → IsUnit program unit → (number : ℕ) (routine : Routine) → IsRoutine others unit number routine
      → (n : ℕ) (ty : TypeId) → slice_get (variables_of routine) n ≡ Some ty → IsKnown program (sort_in unit ty)
  variable_types program listed number routine is n ty e = unit_type program listed ty (gets_variables number routine is n ty e)
