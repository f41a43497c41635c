use Rattle.std.proofs.Common.{◌≡◌, ℕ, ◌+◌, Bool, true, false, List, ◌∷◌, Option, Some, drop, drop-cons, add-one, cond, refl, sym, ap, ◌∙◌}
use Rattle.std.proofs.lemmas.Option.{slice_get_within, get_or_from_slice_get}
use Rattle.std.specs.List.{slice_get}
use Rattle.type_layout.specs.declared.definitions.TypeId.{TypeId}
use Rattle.type_layout.specs.declared.definitions.TypeDef.{TypeDef}
use Rattle.scopes.specs.Predeclared.{type_id}
use Rattle.call_rules.specs.set_rules.Bases.{is_set_of, set_in}
use Rattle.call_rules.proofs.set_rules.bases.set_in.Goals as goal

module _ (ty : TypeId) (types : List TypeDef) (n : ℕ) (one : TypeDef) (e : slice_get types n ≡ Some one) where
  front : drop n types ≡ one ∷ drop (n + 1) types
  front = drop-cons types n one (slice_get_within types n one e) ∙ rw (← add-one n) (ap (λ (x : TypeDef). x ∷ drop (n + 1) types) (get_or_from_slice_get types n one one e))

  hit : is_set_of ty one ≡ true → Some (type_id n) ≡ set_in ty n (drop n types)
  hit h = rw (front, h) refl

  miss : is_set_of ty one ≡ false → set_in ty (n + 1) (drop (n + 1) types) ≡ set_in ty n (drop n types)
  miss h = sym (ap (λ (l : List TypeDef). set_in ty n l) front ∙ rw h refl)

pub returns-then-is_set_of : goal.returns-then-is_set_of
returns-then-is_set_of c =
    hit c.args.ty c.args.types.now.types c.loop-number.number c.get.result.now c.get.ensures (sym c.is_set_of.ensures ∙ c.if-is_set_of.true) ∙ c.loop-number.invariant

pub loop-number-preserved : goal.loop-number-preserved
loop-number-preserved c =
    miss c.args.ty c.args.types.now.types c.loop-number.number c.get.result.now c.get.ensures (sym c.is_set_of.ensures ∙ c.if-is_set_of.false) ∙ c.loop-number.invariant
