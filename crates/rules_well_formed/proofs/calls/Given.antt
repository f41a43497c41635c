-- Arguments are as their parameters take them.
use Rattle.std.proofs.Common.{◌≡◌, inl, inr, Bool, true, false, All, List, [], ◌∷◌, map, Some, refl, sym, subst, ap, ◌∙◌}
use Rattle.std.proofs.lemmas.List.Elements.{All-head, All-tail}
use Rattle.well_formed.specs.type_layout.declared.definitions.TypeId.{TypeId}
use Rattle.well_formed.specs.type_layout.declared.definitions.Param.{Param}
use Rattle.well_formed.specs.type_layout.declared.texts.Place.{Place}
use Rattle.well_formed.specs.typed_tree.Expressions.{Expression, Arguments, NoArguments, ByValue, ByPlace, Load}
use Rattle.well_formed.specs.typed_tree.type_fits.Fits.{Descends, shape_of}
use Rattle.well_formed.specs.Scopes.{Scope}
use Rattle.well_formed.specs.Typed.{IsTyped, HasPlace, Takes, TakeEach}
use Rattle.call_rules.specs.Given.{Handed, value, place_of, onto, arguments_of, IsVariableFor, by_kind, handed, given}
use Rattle.rules_well_formed.specs.nodes.Tables.{IsInTable, IsSound}
use Rattle.rules_well_formed.specs.nodes.Laws.{IsOperand}
use Rattle.rules_well_formed.proofs.nodes.Assigned.{line_of, same_id}
use Rattle.rules_well_formed.proofs.nodes.Joined.{value_joined}
use Rattle.rules_well_formed.proofs.nodes.Indexed.{loaded_from}
use Rattle.rules_well_formed.specs.calls.Laws.{AreOperands}

-- ---- arguments that are taken

-- only how and of which type each is taken matters
pub taken_alike : (s : Scope) (params others : List Param) (args : Arguments) → map shape_of params ≡ map shape_of others → TakeEach s params args → TakeEach s others args
taken_alike s [] [] args e h = h
taken_alike s [] (other ∷ others) args e h = let bad : ⊥ = cc in absurd bad
taken_alike s (param ∷ params) [] args e h = let bad : ⊥ = cc in absurd bad
taken_alike s (param ∷ params) (other ∷ others) NoArguments e h = absurd h
taken_alike s (param ∷ params) (other ∷ others) (ByValue v rest) e h =
    let first : shape_of param ≡ shape_of other = cc in
    let tail : map shape_of params ≡ map shape_of others = cc in
    let how : param.by_ref ≡ other.by_ref = ap (λ (p : Bool × TypeId). p.0) first in
    let of : param.ty ≡ other.ty = ap (λ (p : Bool × TypeId). p.1) first in
    (sym how ∙ h.0, h.1, subst (λ (t : TypeId). Takes s.types t v) of h.2, taken_alike s params others rest tail h.3)
taken_alike s (param ∷ params) (other ∷ others) (ByPlace at rest) e h =
    let first : shape_of param ≡ shape_of other = cc in
    let tail : map shape_of params ≡ map shape_of others = cc in
    let how : param.by_ref ≡ other.by_ref = ap (λ (p : Bool × TypeId). p.0) first in
    let of : param.ty ≡ other.ty = ap (λ (p : Bool × TypeId). p.1) first in
    (sym how ∙ h.0, (h.1.0, h.1.1, subst (λ (t : TypeId). Descends s.types h.1.0 t) of h.1.2), taken_alike s params others rest tail h.2)

-- ---- one argument

abbrev IsTakenAs : Scope → Param → Handed → Type 0
IsTakenAs s param (value v) = (param.by_ref ≡ false) × IsTyped s v × Takes s.types param.ty v
IsTakenAs s param (place_of at) = (param.by_ref ≡ true) × ((ty : TypeId) × HasPlace s at ty × Descends s.types ty param.ty)

take_onto : (s : Scope) (param : Param) (params : List Param) (one : Handed) (rest : Arguments) → IsTakenAs s param one → TakeEach s params rest → TakeEach s (param ∷ params) (onto one rest)
take_onto s param params (value v) rest h k = (h.0, h.1, h.2, k)
take_onto s param params (place_of at) rest h k = (h.0, h.1, k)

variable_line : (s : Scope) (ty own : TypeId) → IsVariableFor s.types ty own → Descends s.types own ty
variable_line s ty own (inl h) = (0, ap (λ (t : TypeId). Some t) (same_id own ty h))
variable_line s ty own (inr h) = line_of s.types own ty h.1

module _ (s : Scope) (sound : IsSound s.types) (place : Place) (checked : Bool) where
  one_by : (param : Param) (e : Expression) (one : Handed) → IsInTable s.types param.ty → IsOperand s e → (b : Bool) → param.by_ref ≡ b
      → (by_kind s.types place checked param.ty b e).holds one → IsTakenAs s param one
  one_by param e one there oe false is h =
      let it = value_joined s sound param.ty there checked e oe h.asked in
      subst (λ (x : Handed). IsTakenAs s param x) (sym h.made) (is, it.0, it.1)
  one_by param (Load own at) one there oe true is h =
      subst (λ (x : Handed). IsTakenAs s param x) (sym h.made) (is, (own, (loaded_from s own at oe).1, variable_line s param.ty own h.asked))
  one_by param e one there oe true is h = absurd h

  one_taken : (param : Param) (e : Expression) (one : Handed) → IsInTable s.types param.ty → IsOperand s e → (handed s.types place checked param e).holds one → IsTakenAs s param one
  unfolding handed
  one_taken param e one there oe h = one_by param e one there oe param.by_ref refl h

  pub given_taken : (params : List Param) (es : List Expression) (all : List Handed) → All (λ (param : Param). IsInTable s.types param.ty) params
      → AreOperands s es → (given s.types place checked params es).holds all → TakeEach s params (arguments_of all)
  given_taken [] [] all there oes h = subst (λ (x : List Handed). TakeEach s [] (arguments_of x)) (sym h) tt
  given_taken [] (e ∷ es) all there oes h = absurd h
  given_taken (param ∷ params) [] all there oes h = absurd h
  given_taken (param ∷ params) (e ∷ es) all there oes h =
      let P : Param → Type 0 = λ (p : Param). IsInTable s.types p.ty in
      let first = one_taken param e h.left (All-head P param params there) oes.0 h.left_holds in
      let rest = given_taken params es h.right (All-tail P param params there) oes.1 h.right_holds in
      subst (λ (x : List Handed). TakeEach s (param ∷ params) (arguments_of x)) (sym h.made) (take_onto s param params h.left (arguments_of h.right) first rest)
