-- Lists of statements, and the statements that hold lists.
use Rattle.std.proofs.Common.{◌≡◌, List, [], ◌∷◌, ◌++◌, refl, sym, ap, ◌∙◌, Vec, Global}
use Rattle.flat_code.specs.declared.tree.FlatExpr.{FlatExpr}
use Rattle.flat_code.specs.declared.tree.FlatStmt.{FlatStmt}
use Rattle.flat_code.specs.declared.tree.FlatStmt.TheVariants as st
use Rattle.flat_code.specs.Tree.{Code, End, Do, If, Loop, ◌then◌}
use Rattle.flat_code.specs.View.{view_expr, view_stmt, view_list}
use Rattle.flat_code.proofs.Rows.{view_stmt-then, view_loop, view_if}

then-then : (first next last : Code) → (first then next) then last ≡ first then (next then last)
then-then End next last = refl
then-then (Do step rest) next last = ap (Do step) (then-then rest next last)
then-then (If test taken other rest) next last = ap (If test taken other) (then-then rest next last)
then-then (Loop body rest) next last = ap (Loop body) (then-then rest next last)

pub view_list-append : (first next : List FlatStmt) → view_list (first ++ next) ≡ view_list first then view_list next
view_list-append [] next = refl
view_list-append (x ∷ first) next =
    ap (view_stmt x) (view_list-append first next)
    ∙ view_stmt-then x (view_list first then view_list next)
    ∙ sym (then-then (view_stmt x End) (view_list first) (view_list next))
    ∙ ap (λ code. code then view_list next) (sym (view_stmt-then x (view_list first)))

pub view_loop-next : (body : Vec FlatStmt Global) (next : Code) → view_stmt (st.Loop body) next ≡ Loop (view_list body.items) next
view_loop-next body next = view_stmt-then (st.Loop body) next ∙ ap (λ code. code then next) (view_loop body)

pub view_if-next : (test : FlatExpr) (a b : Vec FlatStmt Global) (next : Code) → view_stmt (st.If test a b) next ≡ If (view_expr test) (view_list a.items) (view_list b.items) next
view_if-next test a b next = view_stmt-then (st.If test a b) next ∙ ap (λ code. code then next) (view_if test a b)
