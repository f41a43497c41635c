-- Conversions have one operand.
use Rattle.std.proofs.Common.{◌≡◌, List, [], ◌∷◌, ◌++◌, length, map, refl, arith}
use Rattle.std.proofs.lemmas.List.{length-append}
use Rattle.type_layout.specs.declared.definitions.TypeId.{TypeId}
use Rattle.type_layout.specs.declared.definitions.TypeDef.{TypeDef}
use Rattle.type_layout.specs.declared.texts.Place.{Place}
use Rattle.typed_tree.specs.declared.expressions.Expr.{Expr}
use Rattle.typed_tree.specs.Expressions.{view_expr}
use Rattle.typed_tree.specs.type_fits.Fits.{definition}
use Rattle.typing_rules.specs.Sorts.{sort_of}
use Rattle.call_rules.specs.Casts.{cast_one, cast}

module _ (types : List TypeDef) (place : Place) (ty : TypeId) where
  pub single : (all before : List Expr) (e : Expr) → all ≡ before ++ (e ∷ []) → length all ≡ 1 → (cast types place ty (map view_expr all)).run ≡ (cast_one place ty (definition types ty) (sort_of types (view_expr e)) (view_expr e)).run
  unfolding cast
  single all [] e p h = rw p refl
  single all (f ∷ before) e p h = let q : length ((f ∷ before) ++ (e ∷ [])) ≡ 1 = rw p at h in absurd (omega (arith, length-append before (e ∷ [])))
