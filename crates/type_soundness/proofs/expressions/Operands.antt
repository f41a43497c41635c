-- Arguments, one behind another.
use Rattle.std.proofs.Common.{◌≡◌, Bool, true, false, List, ◌∷◌, ◌++◌, map, Some, refl, sym, ap, subst}
use Rattle.std.specs.Prelude.{Option}
use Rattle.program_typing.specs.type_layout.declared.definitions.TypeId.{TypeId}
use Rattle.program_typing.specs.type_layout.declared.definitions.Param.{Param}
use Rattle.program_typing.specs.typed_tree.declared.units.Unit.{Unit as TypedUnit}
use Rattle.program_typing.specs.typed_tree.declared.units.Program.{Program}
use Rattle.program_typing.specs.typed_tree.Expressions.{Expression, Const, Arguments, NoArguments, ByValue, ByPlace, type_of}
use Rattle.program_typing.specs.typed_tree.type_fits.Fits.{Descends, Joins}
use Rattle.program_typing.specs.typed_tree.type_fits.Standard.{Slot}
use Rattle.program_typing.specs.tp_meaning.Trees.{Value, At}
use Rattle.program_typing.specs.tp_meaning.Programs.{Sort, sort_in}
use Rattle.program_typing.specs.tp_meaning.Outcomes.{State, Outcome, Done, Does, and_then, ◌>>=◌, give, known}
use Rattle.program_typing.specs.tp_meaning.Activations.{Reached, Activation}
use Rattle.program_typing.specs.tp_meaning.Standard.{Operand, Given, Named, handed}
use Rattle.program_typing.specs.tp_meaning.Expressions.{constant_value, sort_of}
use Rattle.program_typing.specs.store_typing.types.Agreement.{IsKnown, AreConsistent}
use Rattle.program_typing.specs.store_typing.stores.Worlds.{Made, World}
use Rattle.program_typing.specs.store_typing.stores.Places.{IsPlaceOf, IsAt, IsValueOf}
use Rattle.program_typing.proofs.store_typing_proofs.stores.Grown.{grows_by, at_grows}
use Rattle.program_typing.proofs.store_typing_proofs.stores.Seen.{place_seen, place_above, reached_known, value_joins}
use Rattle.program_typing.specs.store_typing.standard.Operands.{AreOperands}
use Rattle.program_typing.specs.calls.Callees.{IsTaken, AreTaken}
use Rattle.program_typing.specs.programs.Outcomes.{IsTypedState, world, Ends}
use Rattle.program_typing.proofs.programs.Ends.{ends_done}
use Rattle.type_soundness.proofs.expressions.Chains.{Kept, chain}
use Rattle.type_soundness.proofs.expressions.Places.{PlaceAt}

-- the type of an expression is found
pub sort_found : (f : Activation) (e : Expression) (ty : TypeId) → type_of e ≡ Some ty → (t : State) → sort_of f e t ≡ Done (sort_in f.unit ty) t
sort_found f e ty is t = ap (λ (o : Option TypeId). (known o >>= λ ty. give (sort_in f.unit ty)) t) is

-- ---- one argument, and then the rest

module _ (program : Program) (kept : Kept) (P Q : World → List Operand → Type 0) (rest : Does (List Operand)) where
  pub value_given : (F : World → Value → Type 0) → ((made more : List Made) (v : Value) → F (world program made) v → F (world program (made ++ more)) v)
      → (made : List Made) (sort : Sort) (find : Does Sort) (go : Does Value) (s : State) → find s ≡ Done sort s → kept.holds made → Ends (world program made) F (go s)
      → ((made' : List Made) (t : State) → kept.holds made' → IsTypedState (world program made') t → Ends (world program made') P (rest t))
      → ((made' : List Made) (v : Value) (xs : List Operand) → F (world program made') v → P (world program made') xs → Q (world program made') (Given sort v ∷ xs))
      → Ends (world program made) Q ((find >>= λ sort. go >>= λ v. rest >>= λ xs. give (Given sort v ∷ xs)) s)
  value_given F keep made sort find go s finds k h next join =
      let held : Value → Kept = λ v. record { holds = λ (made : List Made). F (world program made) v; keep = λ made more h. keep made more v h } in
      subst (λ (o : Outcome Sort). Ends (world program made) Q (and_then o (λ sort. go >>= λ v. rest >>= λ xs. give (Given sort v ∷ xs)))) (sym finds)
      (chain program kept F Q made (go s) (λ v. rest >>= λ xs. give (Given sort v ∷ xs)) k h (λ made' v t k' typed is.
      chain program (held v) P Q made' (rest t) (λ xs. give (Given sort v ∷ xs)) is (next made' t k' typed) (λ made'' xs t' is' typed' are.
      ends_done Q (world program made'') (Given sort v ∷ xs) t' typed' (join made'' v xs is' are))))

  pub place_named : (made : List Made) (seen : Sort) (o : Outcome Reached) → kept.holds made → Ends (world program made) (PlaceAt seen) o
      → ((made' : List Made) (t : State) → kept.holds made' → IsTypedState (world program made') t → Ends (world program made') P (rest t))
      → ((made' : List Made) (at : Reached) (xs : List Operand) → IsAt (world program made') at seen → P (world program made') xs → Q (world program made') (Named at ∷ xs))
      → Ends (world program made) Q (and_then o (λ at. rest >>= λ xs. give (Named at ∷ xs)))
  place_named made seen o k h next join =
      let held : Reached → Kept = λ at. record {
        holds = λ (made : List Made). IsAt (world program made) at seen;
        keep = λ made more h. at_grows (world program made) (world program (made ++ more)) (grows_by (world program made) more) at seen h;
      } in
      chain program kept (PlaceAt seen) Q made o (λ at. rest >>= λ xs. give (Named at ∷ xs)) k h (λ made' at t k' typed is.
      chain program (held at) P Q made' (rest t) (λ xs. give (Named at ∷ xs)) is (next made' t k' typed) (λ made'' xs t' is' typed' are.
      ends_done Q (world program made'') (Named at ∷ xs) t' typed' (join made'' at xs is' are)))

-- ---- arguments of routines of the sources

-- as many as the parameters, and as they take them
abbrev pub TakenBy : TypedUnit → List Param → World → List Operand → Type 0
TakenBy unit params w xs = AreTaken w unit params (map handed xs)

module _ (w : World) (agreed : AreConsistent w.program) (unit : TypedUnit) (param : Param) where
  pub value_taken : (given : TypeId) (v : Value) → param.by_ref ≡ false → IsKnown w.program (sort_in unit given) → IsKnown w.program (sort_in unit param.ty) → Joins unit.types.types param.ty given
      → IsValueOf w (sort_in unit given) v → IsTaken w (sort_in unit param.ty) param.by_ref v
  value_taken given v by_ref kg kt joins is =
      subst (λ (b : Bool). IsTaken w (sort_in unit param.ty) b v) (sym by_ref) (value_joins w agreed (sort_in unit given) param.ty given kt kg v joins is)

  seen_place : (at : Reached) (seen : Sort) → IsAt w at seen → IsPlaceOf w at.spot seen
  seen_place at seen is = place_seen w agreed at.spot at.sort seen is.same is.place

  pub place_taken : (given : TypeId) (at : Reached) → param.by_ref ≡ true → IsKnown w.program (sort_in unit given) → Descends unit.types.types given param.ty
      → IsAt w at (sort_in unit given) → IsTaken w (sort_in unit param.ty) param.by_ref (At at.spot)
  place_taken given at by_ref kg down is =
      let kt : IsKnown w.program (sort_in unit param.ty) = reached_known w.program agreed (sort_in unit given) _ kg (record { steps = down.0; ty = param.ty; reached = down.1; same = refl }) in
      subst (λ (b : Bool). IsTaken w (sort_in unit param.ty) b (At at.spot)) (sym by_ref)
      (at.spot, refl, place_above w agreed at.spot (sort_in unit given) param.ty kg kt down (seen_place at (sort_in unit given) is))

-- ---- arguments of standard routines

-- a constant has its own value
abbrev pub IsItself : Expression → Value → Type 0
IsItself (Const ty v) x = x ≡ constant_value v
IsItself _ x = Unit {0}

-- the first argument, if it is a value
pub record IsFirst (w : World) (unit : TypedUnit) (e : Expression) (xs : List Operand) : Type 0 where
  pub ty : TypeId
  pub typed : type_of e ≡ Some ty
  pub v : Value
  pub more : List Operand
  pub is : xs ≡ Given (sort_in unit ty) v ∷ more
  pub value : IsValueOf w (sort_in unit ty) v
  pub itself : IsItself e v

abbrev pub HasFirst : World → TypedUnit → Arguments → List Operand → Type 0
HasFirst w unit NoArguments xs = Unit {0}
HasFirst w unit (ByValue e rest) xs = IsFirst w unit e xs
HasFirst w unit (ByPlace at rest) xs = Unit {0}

abbrev pub FilledBy : TypedUnit → List Slot → Arguments → World → List Operand → Type 0
FilledBy unit slots args w xs = AreOperands w slots xs × HasFirst w unit args xs
