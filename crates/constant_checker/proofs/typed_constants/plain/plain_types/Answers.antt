use Rattle.std.proofs.Common.{◌≡◌, ℕ, ◌+◌, Bool, List, [], ◌∷◌, ◌++◌, Some, drop, drop-cons, add-one, ap, sym, ◌∙◌}
use Rattle.std.proofs.lemmas.Option.{slice_get_within, get_or_from_slice_get}
use Rattle.std.specs.List.{slice_get}
use Rattle.type_layout.specs.declared.definitions.TypeDef.{TypeDef}
use Rattle.constant_checker.specs.typed_constants.Initializers.{plain_by, plain_behind}
use Rattle.constant_checker.proofs.typed_constants.plain.plain_types.Goals as goal

module _ (given : List Bool) (types : List TypeDef) (n : ℕ) (one : TypeDef) (e : slice_get types n ≡ Some one) where
  front : drop n types ≡ one ∷ drop (n + 1) types
  front = drop-cons types n one (slice_get_within types n one e) ∙ rw (← add-one n) (ap (λ (x : TypeDef). x ∷ drop (n + 1) types) (get_or_from_slice_get types n one one e))

  more : plain_behind (given ++ plain_by given one ∷ []) (drop (n + 1) types) ≡ plain_behind given (drop n types)
  more = sym (ap (λ (rest : List TypeDef). plain_behind given rest) front)

pub loop-number-preserved : goal.loop-number-preserved
loop-number-preserved c =
    let told : c.plain_by-plain.result ≡ plain_by c.loop-number.given.items c.get.result.now = rw c.as_slice.ensures.value at c.plain_by-plain.ensures in
    rw (c.in_ok-push.ensures.items, told) (more c.loop-number.given.items c.args.types.now.types c.loop-number.number c.get.result.now c.get.ensures ∙ c.loop-number.invariant)
