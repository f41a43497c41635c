-- What a function gives as it ends.
use Rattle.std.proofs.Common.{◌≡◌, ℕ, suc, ◌+◌, Bool, false, List, [], ◌∷◌, ◌++◌, length, map, Some, None, refl, ap, subst, ◌∙◌, arith}
use Rattle.std.specs.Prelude.{slice_get, Option, is_some, ◌==◌, ◌&&◌, if◌then◌else◌}
use Rattle.std.specs.Option.{option_map, option_map_or}
use Rattle.std.proofs.lemmas.Bool.Decides.{nat_tests}
use Rattle.program_typing.specs.type_layout.declared.definitions.TypeId.{TypeId}
use Rattle.program_typing.specs.type_layout.declared.definitions.Param.{Param}
use Rattle.program_typing.specs.typed_tree.declared.units.Routine.{Routine}
use Rattle.program_typing.specs.typed_tree.type_fits.Routines.{listed, variables_of}
use Rattle.program_typing.specs.tp_meaning.Store.{Store}
use Rattle.program_typing.specs.tp_meaning.Programs.{Sort, sort_in}
use Rattle.program_typing.specs.tp_meaning.Activations.{Callee, whole, is_alias, is_self_of, result_number, result_in, result_of}
use Rattle.program_typing.specs.store_typing.types.Agreement.{AreConsistent}
use Rattle.program_typing.specs.store_typing.types.Forms.{form_at}
use Rattle.program_typing.specs.store_typing.stores.Worlds.{Own, World}
use Rattle.program_typing.specs.store_typing.stores.Places.{Same, IsPlaceOf}
use Rattle.program_typing.specs.store_typing.stores.Stores.{IsTypedStore, Finds}
use Rattle.program_typing.proofs.store_typing_proofs.stores.Steps.{load_known}
use Rattle.program_typing.specs.store_typing.standard.Operands.{IsResult}
use Rattle.program_typing.specs.lvalues.Frames.{made_as, IsLevel}

-- ---- the number of the result

get_past : {X : Type 0} (xs : List X) (n : ℕ) → slice_get xs (length xs + n) ≡ None
get_past [] n = refl
get_past (x ∷ xs) n = subst (λ k. slice_get (x ∷ xs) k ≡ None) next (get_past xs n) where
  next : suc (length xs + n) ≡ length (x ∷ xs) + n
  next = omega arith

-- behind so many parameters
behind_params : (params : List Param) (tys : List TypeId) (n : ℕ) → slice_get (map (λ (param : Param). param.ty) params ++ tys) (length params + n) ≡ slice_get tys n
behind_params [] tys n = ap (slice_get tys) none where
  none : 0 + n ≡ n
  none = omega arith
behind_params (p ∷ params) tys n = ap (slice_get (map (λ (param : Param). param.ty) (p ∷ params) ++ tys)) next ∙ behind_params params tys n where
  next : length (p ∷ params) + n ≡ suc (length params + n)
  next = omega arith

abbrev owner_count : Option TypeId → ℕ
owner_count owner = if is_some owner then 1 else 0

result_behind : (owner : Option TypeId) (ty : TypeId) (locals : List TypeId) → slice_get (listed owner ++ ((ty ∷ []) ++ locals)) (owner_count owner) ≡ Some ty
result_behind None ty locals = refl
result_behind (Some owner) ty locals = refl

module _ (routine : Routine) where
  result_variable : (ty : TypeId) → routine.header.result ≡ Some ty → slice_get (variables_of routine) (result_number routine) ≡ Some ty
  result_variable ty e =
      behind_params routine.header.params (listed routine.owner ++ (listed routine.header.result ++ routine.locals)) (owner_count routine.owner)
      ∙ ap (λ (o : Option TypeId). slice_get (listed routine.owner ++ (listed o ++ routine.locals)) (owner_count routine.owner)) e
      ∙ result_behind routine.owner ty routine.locals

  not_self_by : (owner : Option TypeId) (n : ℕ) → (is_some owner && (n + owner_count owner == n)) ≡ false
  not_self_by None n = refl
  not_self_by (Some owner) n = grind (arith, nat_tests)

  result_own : is_alias routine (result_number routine) ≡ false
  result_own =
      let n : ℕ = result_number routine in
      ap (λ (o : Option Param). option_map_or (λ (param : Param). param.by_ref) o (is_self_of routine n)) (get_past routine.header.params (owner_count routine.owner))
      ∙ not_self_by routine.owner (length routine.header.params)

-- ---- the result

module _ (w : World) (agreed : AreConsistent w.program) (store : Store) (typed : IsTypedStore w store) where
  result_by : (callee : Callee) (first : ℕ) → IsLevel w callee.unit (record { number = callee.number; routine = callee.routine; first = first }) → (result : Option TypeId) → callee.routine.header.result ≡ result
      → Finds (IsResult w (option_map (sort_in callee.unit) result)) (result_in callee.unit.types.types result (whole (first + result_number callee.routine)) store)
  result_by callee first level None e = tt
  result_by callee first level (Some ty) e =
      let sort : Sort = sort_in callee.unit ty in
      let serial : ℕ = first + result_number callee.routine in
      let one = level.variables (result_number callee.routine) ty (result_variable callee.routine ty e) in
      let made : slice_get w.made serial ≡ Some (Own sort) = subst (λ (b : Bool). slice_get w.made serial ≡ Some (made_as b sort)) (result_own callee.routine) one.1 in
      let place : IsPlaceOf w (whole serial) sort = record { form = form_at sort; lies = record { whole = sort; made = made; leads = refl }; covers = Same refl } in
      load_known w agreed store typed (whole serial) sort one.0 place

  -- the result of a function that ends is a value of its type
  pub result_found : (callee : Callee) (first : ℕ) → IsLevel w callee.unit (record { number = callee.number; routine = callee.routine; first = first })
      → Finds (IsResult w (option_map (sort_in callee.unit) callee.routine.header.result)) (result_of callee first store)
  result_found callee first level = result_by callee first level callee.routine.header.result refl
