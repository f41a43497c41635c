-- The weight of a list is the sum of the weights of its statements.
use Rattle.std.proofs.Common.{◌≡◌, ℕ, suc, ◌+◌, ◌<◌, List, ◌∷◌, length, get_or, drop, sym, ap, ◌∙◌, arith}
use Rattle.std.proofs.Math.Seq.{drop-cons}
use Rattle.flat_code.specs.declared.tree.FlatStmt.{FlatStmt}
use Rattle.flat_code.specs.Tree.{Code, End, Do, If, Loop, ◌then◌}
use Rattle.flat_code.specs.View.{view_stmt, view_list}
use Rattle.flat_code.specs.Weights.{code_weight}
use Rattle.flat_code.proofs.Rows.{view_stmt-then}

pub weight-then : (first after : Code) → code_weight (first then after) ≡ code_weight first + code_weight after
weight-then End after = omega arith
weight-then (Do step next) after = omega (arith, weight-then next after)
weight-then (If test taken other next) after = omega (arith, weight-then next after)
weight-then (Loop body next) after = omega (arith, weight-then next after)

pub weight-at : (list : List FlatStmt) (i : ℕ) (x : FlatStmt) → i < length list → x ≡ get_or list i x → code_weight (view_list (drop i list)) ≡ code_weight (view_stmt x End) + code_weight (view_list (drop (i + 1) list))
weight-at list i x h e =
    let rest = view_list (drop (i + 1) list) in
    let next : suc i ≡ i + 1 = omega arith in
    let cut : drop i list ≡ x ∷ drop (i + 1) list = drop-cons list i x h ∙ ap (λ (y : FlatStmt). y ∷ drop (suc i) list) (sym e) ∙ ap (λ k. x ∷ drop k list) next in
    ap (λ (l : List FlatStmt). code_weight (view_list l)) cut ∙ ap code_weight (view_stmt-then x rest) ∙ weight-then (view_stmt x End) rest
