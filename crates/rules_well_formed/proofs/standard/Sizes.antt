-- SizeOf is typed.
use Rattle.std.proofs.Common.{◌≡◌, ℕ, zero, suc, ◌≤◌, All, Bool, true, false, cond, List, [], ◌∷◌, get_or, Some, inl, sym, subst, arith}
use Rattle.std.proofs.Math.IntN.{pos}
use Rattle.std.proofs.lemmas.Int.{ints}
use Rattle.std.proofs.lemmas.List.Elements.{All-head, All-tail}
use Rattle.well_formed.specs.type_layout.declared.definitions.TypeId.{TypeId}
use Rattle.well_formed.specs.type_layout.declared.definitions.Host.TheVariants as host
use Rattle.well_formed.specs.type_layout.declared.texts.Place.{Place}
use Rattle.well_formed.specs.type_layout.declared.layout.Layout.{Layout}
use Rattle.well_formed.specs.type_layout.Layouts.{plain, layouts_of, size_of}
use Rattle.well_formed.specs.type_layout.Storage.{holds}
use Rattle.well_formed.specs.typed_tree.Expressions as tree
use Rattle.well_formed.specs.typed_tree.Expressions.{Expression, Load, Std, NoArguments, ByPlace}
use Rattle.well_formed.specs.typed_tree.Standard as routine
use Rattle.well_formed.specs.typed_tree.type_fits.Fits.{definition, stored_as}
use Rattle.well_formed.specs.Scopes.{Scope, HasType}
use Rattle.well_formed.specs.Typed.{IsTyped, HasPlace}
use Rattle.well_formed.specs.typed_tree.type_fits.Standard.{Variable, Size, size}
use Rattle.call_rules.specs.typing_rules.Sorts.{word, only, number_type}
use Rattle.call_rules.specs.standard_rules.Sizes.{has_class, sized, variable_sized}
use Rattle.rules_well_formed.specs.nodes.Tables.{IsSound}
use Rattle.rules_well_formed.specs.nodes.Laws.{IsOperand}
use Rattle.rules_well_formed.proofs.nodes.Ordinals.{holding, holding_wide, stored_word}
use Rattle.rules_well_formed.proofs.nodes.Wanting.{some_of}
use Rattle.rules_well_formed.proofs.nodes.Combined.{number_value}
use Rattle.rules_well_formed.proofs.nodes.Indexed.{type_some, loaded_from}

abbrev IsSmall : Layout → Type 0
IsSmall layout = layout.size ≤ 65520

get_small : (layouts : List Layout) (k : ℕ) → All IsSmall layouts → (get_or layouts k (plain 0)).size ≤ 65520
get_small [] zero all = omega arith
get_small [] (suc k) all = omega arith
get_small (layout ∷ layouts) zero all = All-head IsSmall layout layouts all
get_small (layout ∷ layouts) (suc k) all = get_small layouts k (All-tail IsSmall layout layouts all)

module _ (s : Scope) (sound : IsSound s.types) where
  size_within : (n : ℕ) → n ≤ 65520 → holds host.LongInt (pos n) (pos n) ≡ true
  size_within n small = holding host.LongInt (pos n) (omega (arith, ints)) (omega (arith, ints, small))

  pub sized_typed : (ty : TypeId) → IsTyped s (sized s.types ty)
  sized_typed ty =
      let n = pos (size_of s.types ty) in
      let wide = holding_wide s.types sound (only n) in
      let to = stored_as (definition s.types word) in
      let from = stored_as (definition s.types (number_type n)) in (
        number_value s sound n (size_within (size_of s.types ty) (get_small (layouts_of s.types) ty.0 sound.fits)),
        inl (some_of to host.Word (stored_word s.types sound), some_of from wide.0 wide.1),
      )

  node_by : (ty : TypeId) (at : tree.Place) → HasType s ty → HasPlace s at ty → (b : Bool) → IsTyped s (cond b (Std (Some word) routine.size_of (ByPlace at NoArguments)) (sized s.types ty))
  node_by ty at there has true =
      let stored = stored_word s.types sound in
      (type_some (definition s.types word) host.Word stored, (Variable ∷ [], Size, size, ((ty, has, there), tt), stored))
  node_by ty at there has false = sized_typed ty

  by_operand : (place : Place) (a e : Expression) → IsOperand s a → (variable_sized s.types place a).holds e → IsTyped s e
  unfolding variable_sized
  by_operand place (Load ty at) e oa h =
      let from = loaded_from s ty at oa in
      subst (λ (x : Expression). IsTyped s x) (sym h) (node_by ty at from.0 from.1 (has_class s.types ty))
  by_operand place a e oa h = absurd h

  pub variable_typed : (place : Place) (a e : Expression) → IsOperand s a → (variable_sized s.types place a).holds e → IsTyped s e
  variable_typed place a e oa h = by_operand place a e oa h
