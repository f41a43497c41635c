-- The variables of a routine that is called.
use Rattle.std.proofs.Common.{◌≡◌, ℕ, zero, suc, ◌+◌, Bool, true, false, List, [], ◌∷◌, ◌++◌, map, Some, None, refl, sym, ap, subst, ◌∙◌}
use Rattle.std.specs.Prelude.{Option, Ok, slice_get, if◌then◌else◌}
use Rattle.std.specs.Option.{option_map}
use Rattle.well_formed.specs.type_layout.declared.definitions.TypeId.{TypeId}
use Rattle.well_formed.specs.type_layout.declared.definitions.Param.{Param}
use Rattle.well_formed.specs.typed_tree.declared.units.Routine.{Routine}
use Rattle.well_formed.specs.typed_tree.declared.units.Unit.{Unit as TypedUnit}
use Rattle.well_formed.specs.typed_tree.type_fits.Routines.{listed}
use Rattle.store_typing.specs.tp_meaning.Trees.{Spot, Value, At, Tree, holding}
use Rattle.store_typing.specs.tp_meaning.Found.{◌>>=◌}
use Rattle.store_typing.specs.tp_meaning.Shapes.{new_tree}
use Rattle.store_typing.specs.tp_meaning.Store.{Object, Store, with_new, spot_of}
use Rattle.store_typing.specs.tp_meaning.Programs.{Sort, sort_in}
use Rattle.store_typing.specs.tp_meaning.Activations.{Callee, passed, argument_tree, argument_trees, self_trees, result_trees, variable_object, opened}
use Rattle.store_typing.specs.types.Agreement.{IsKnown, AreConsistent}
use Rattle.store_typing.specs.types.Forms.{form_at}
use Rattle.store_typing.specs.stores.Worlds.{Made, Alias, World, Grows, HasForm}
use Rattle.store_typing.specs.stores.Stores.{IsMadeOrGone, AreMade, IsTypedStore, Finds}
use Rattle.store_typing.proofs.stores.Paths.{finds_bind, finds_more}
use Rattle.store_typing.proofs.stores.Grown.{grown, grows_by, form_grows, place_grows}
use Rattle.store_typing.proofs.stores.NewTrees.{new_has}
use Rattle.store_typing.proofs.stores.Kept.{with_new_keeps}
use Rattle.store_typing.proofs.stores.Steps.{passes}
use Rattle.program_typing.specs.lvalues.Frames.{made_as}
use Rattle.program_typing.specs.calls.Callees.{IsTaken, AreTaken, IsSelf, HasTypes, params_made, self_made, own_made, variables_made}

are_append : (w : World) (xs ys : List Made) (rs bs : List (Option Object)) → AreMade w xs rs → AreMade w ys bs → AreMade w (xs ++ ys) (rs ++ bs)
are_append w [] ys [] bs p q = q
are_append w [] ys (a ∷ rs) bs p q = absurd p
are_append w (x ∷ xs) ys [] bs p q = absurd p
are_append w (x ∷ xs) ys (a ∷ rs) bs p q = (p.0, are_append w xs ys rs bs p.1 q)

objects_append : (xs ys : List Tree) → map variable_object (xs ++ ys) ≡ map variable_object xs ++ map variable_object ys
objects_append [] ys = refl
objects_append (x ∷ xs) ys = ap (λ (l : List (Option Object)). variable_object x ∷ l) (objects_append xs ys)

-- new variables
own_are : (w : World) (unit : TypedUnit) (tys : List TypeId) → AreMade w (own_made unit tys) (map variable_object (map (new_tree unit.types.types) tys))
own_are w unit [] = tt
own_are w unit (ty ∷ tys) = (new_has w unit.types ty, own_are w unit tys)

result_are : (w : World) (unit : TypedUnit) (result : Option TypeId) → AreMade w (own_made unit (listed result)) (map variable_object (result_trees unit.types.types result))
result_are w unit None = tt
result_are w unit (Some ty) = (new_has w unit.types ty, tt)

module _ (w : World) (agreed : AreConsistent w.program) (store : Store) (typed : IsTypedStore w store) (v : World) (grows : Grows w v) (unit : TypedUnit) where
  -- Self
  self_are : (owner : Option TypeId) (own : Option Spot) → IsSelf w unit owner own → Finds (λ trees. AreMade v (self_made unit owner) (map variable_object trees)) (self_trees owner own)
  self_are None None is = tt
  self_are (Some owner) (Some spot) is = (record { spot = spot; held = refl; place = place_grows w v grows spot (sort_in unit owner) is }, tt)
  self_are None (Some spot) is = absurd is
  self_are (Some owner) None is = absurd is

  -- an argument
  argument_is : (by_ref : Bool) (sort : Sort) (x : Value) → IsKnown w.program sort → IsTaken w sort by_ref x
      → Finds (λ tree. IsMadeOrGone v (made_as by_ref sort) (variable_object tree)) (if by_ref then (spot_of x >>= λ spot. Ok (holding (At spot))) else passed sort.table.types sort.ty x store)
  argument_is false sort x ks is =
      finds_more (HasForm w (form_at sort)) (HasForm v (form_at sort)) (passed sort.table.types sort.ty x store) (λ tree has. form_grows w v grows (form_at sort) tree has) (passes w agreed store typed sort ks x is)
  argument_is true sort x ks is =
      subst (λ (y : Value). Finds (λ tree. IsMadeOrGone v (Alias sort) (variable_object tree)) (spot_of y >>= λ spot. Ok (holding (At spot)))) (sym is.1)
      (record { spot = is.0; held = refl; place = place_grows w v grows is.0 sort is.2 })

  arguments_are : (params : List Param) (args : List Value) → ((param : Param) (number : ℕ) → slice_get params number ≡ Some param → IsKnown w.program (sort_in unit param.ty)) → AreTaken w unit params args
      → Finds (λ trees. AreMade v (params_made unit params) (map variable_object trees)) (argument_trees unit.types.types params args store)
  arguments_are [] [] known are = tt
  arguments_are [] (x ∷ args) known are = absurd are
  arguments_are (param ∷ params) [] known are = absurd are
  arguments_are (param ∷ params) (x ∷ args) known are =
      let sort : Sort = sort_in unit param.ty in
      finds_bind (λ tree. IsMadeOrGone v (made_as param.by_ref sort) (variable_object tree)) (λ trees. AreMade v (params_made unit (param ∷ params)) (map variable_object trees)) (argument_tree unit.types.types param x store)
      (λ tree. argument_trees unit.types.types params args store >>= λ trees. Ok (tree ∷ trees)) (argument_is param.by_ref sort x (known param 0 refl) are.0) (λ tree is.
      finds_bind (λ trees. AreMade v (params_made unit params) (map variable_object trees)) (λ trees. AreMade v (params_made unit (param ∷ params)) (map variable_object trees)) (argument_trees unit.types.types params args store)
      (λ trees. Ok (tree ∷ trees)) (arguments_are params args (λ p n e. known p (suc n) e) are.1) (λ trees rest. (is, rest)))

param_known : (routine : Routine) (params : List Param) (rest : List TypeId) (P : TypeId → Type 0) → ((number : ℕ) (ty : TypeId) → slice_get (map (λ (param : Param). param.ty) params ++ rest) number ≡ Some ty → P ty)
    → (param : Param) (number : ℕ) → slice_get params number ≡ Some param → P param.ty
param_known routine [] rest P each param number e = absurd cc
param_known routine (p ∷ params) rest P each param zero e = each 0 param.ty (ap (λ (o : Option Param). option_map (λ (q : Param). q.ty) o) e)
param_known routine (p ∷ params) rest P each param (suc number) e = param_known routine params rest P (λ n ty e'. each (suc n) ty e') param number e

module _ (w : World) (agreed : AreConsistent w.program) (store : Store) (typed : IsTypedStore w store) where
  -- the variables of a routine are made with their types
  pub opens : (callee : Callee) (own : Option Spot) (args : List Value) → HasTypes w callee → AreTaken w callee.unit callee.routine.header.params args → IsSelf w callee.unit callee.routine.owner own
      → Finds (IsTypedStore (grown w (variables_made callee.unit callee.routine))) (opened callee own args store)
  opens callee own args has are self =
      let unit : TypedUnit = callee.unit in
      let routine : Routine = callee.routine in
      let types = unit.types.types in
      let more : List Made = variables_made unit routine in
      let v : World = grown w more in
      let grows = grows_by w more in
      let known = param_known routine routine.header.params (listed routine.owner ++ (listed routine.header.result ++ routine.locals)) (λ ty. IsKnown w.program (sort_in unit ty)) has.known in
      finds_bind (λ trees. AreMade v (params_made unit routine.header.params) (map variable_object trees)) (IsTypedStore v) (argument_trees types routine.header.params args store)
      (λ arguments. self_trees routine.owner own >>= λ self. Ok (with_new store (map variable_object (arguments ++ (self ++ (result_trees types routine.header.result ++ map (new_tree types) routine.locals))))))
      (arguments_are w agreed store typed v grows unit routine.header.params args known are) (λ arguments first.
      finds_bind (λ trees. AreMade v (self_made unit routine.owner) (map variable_object trees)) (IsTypedStore v) (self_trees routine.owner own)
      (λ self. Ok (with_new store (map variable_object (arguments ++ (self ++ (result_trees types routine.header.result ++ map (new_tree types) routine.locals))))))
      (self_are w agreed store typed v grows unit routine.owner own self) (λ selves second.
      let results = result_trees types routine.header.result in
      let locals = map (new_tree types) routine.locals in
      let third = are_append v (own_made unit (listed routine.header.result)) (own_made unit routine.locals) (map variable_object results) (map variable_object locals) (result_are v unit routine.header.result) (own_are v unit routine.locals) in
      let whole = are_append v (params_made unit routine.header.params) (self_made unit routine.owner ++ (own_made unit (listed routine.header.result) ++ own_made unit routine.locals)) (map variable_object arguments)
      (map variable_object selves ++ (map variable_object results ++ map variable_object locals)) first
      (are_append v (self_made unit routine.owner) (own_made unit (listed routine.header.result) ++ own_made unit routine.locals) (map variable_object selves) (map variable_object results ++ map variable_object locals) second third) in
      let slots : map variable_object (arguments ++ (selves ++ (results ++ locals))) ≡ map variable_object arguments ++ (map variable_object selves ++ (map variable_object results ++ map variable_object locals)) =
      objects_append arguments (selves ++ (results ++ locals))
      ∙ ap (λ (l : List (Option Object)). map variable_object arguments ++ l) (objects_append selves (results ++ locals) ∙ ap (λ (l : List (Option Object)). map variable_object selves ++ l) (objects_append results locals)) in
      with_new_keeps w store typed more (map variable_object (arguments ++ (selves ++ (results ++ locals)))) (subst (AreMade v more) (sym slots) whole)))
