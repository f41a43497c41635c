-- Rows of words.
use Rattle.std.proofs.Common.{◌≡◌, List, [], ◌∷◌, ◌++◌, refl, ap}
use Rattle.flat_code.specs.declared.tree.FlatExpr.{FlatExpr}
use Rattle.flat_code.specs.View.{view_expr, view_exprs}

pub view_exprs_append : (xs ys : List FlatExpr) → view_exprs (xs ++ ys) ≡ view_exprs xs ++ view_exprs ys
view_exprs_append [] ys = refl
view_exprs_append (x ∷ xs) ys = ap (λ z. view_expr x ∷ z) (view_exprs_append xs ys)
