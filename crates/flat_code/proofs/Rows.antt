-- Lists of statements inside a statement, as the vectors that hold them.
use Rattle.std.proofs.Common.{◌≡◌, refl, ap, ◌∙◌, Vec, Global}
use Rattle.flat_code.specs.declared.tree.FlatExpr.{FlatExpr}
use Rattle.flat_code.specs.declared.tree.FlatStmt.{FlatStmt, Row_of-FlatStmt, end_of-FlatStmt, more_of-FlatStmt, items-the_row-FlatStmt, items_hidden-the_row-FlatStmt-0}
use Rattle.flat_code.specs.declared.tree.FlatStmt.TheVariants as st
use Rattle.flat_code.specs.Tree.{Code, End, If, Loop, ◌then◌}
use Rattle.flat_code.specs.View.{view_expr, view_stmt, view_row, view_list}

row_is : (n : _) (row : Row_of-FlatStmt n) → view_row row ≡ view_list (items-the_row-FlatStmt n row)
row_is n end_of-FlatStmt = refl
row_is n (more_of-FlatStmt s rest) = ap (view_stmt s) (row_is _ rest)

-- a statement before others is the statement, and then the others
pub view_stmt-then : (s : FlatStmt) (next : Code) → view_stmt s next ≡ view_stmt s End then next
view_stmt-then (st.StoreByte to value) next = refl
view_stmt-then (st.StoreWord to value) next = refl
view_stmt-then (st.Copy to from bytes) next = refl
view_stmt-then (st.If' test p taken q other) next = refl
view_stmt-then (st.Loop' p body) next = refl
view_stmt-then (st.Leave loops) next = refl
view_stmt-then (st.Call routine args res) next = refl
view_stmt-then (st.CallThrough pointer args res) next = refl
view_stmt-then (st.Runtime number args res) next = refl
view_stmt-then (st.StoreRoutine to routine) next = refl
view_stmt-then st.Return next = refl
view_stmt-then (st.Error code) next = refl

abbrev body_of : FlatStmt → (n : _) × Row_of-FlatStmt n
body_of (st.Loop' _ row) = (_, row)
body_of _ = (_, end_of-FlatStmt)

pub view_loop : (body : Vec FlatStmt Global) → view_stmt (st.Loop body) End ≡ Loop (view_list body.items) End
view_loop body =
    let row = body_of (st.Loop body) in
    ap (λ (code : Code). Loop code End) (row_is row.0 row.1 ∙ ap view_list (items_hidden-the_row-FlatStmt-0 body))

abbrev yes_of : FlatStmt → (n : _) × Row_of-FlatStmt n
yes_of (st.If' _ _ row _ _) = (_, row)
yes_of _ = (_, end_of-FlatStmt)

abbrev no_of : FlatStmt → (n : _) × Row_of-FlatStmt n
no_of (st.If' _ _ _ _ row) = (_, row)
no_of _ = (_, end_of-FlatStmt)

pub view_if : (test : FlatExpr) (a b : Vec FlatStmt Global) → view_stmt (st.If test a b) End ≡ If (view_expr test) (view_list a.items) (view_list b.items) End
view_if test a b =
    let first = yes_of (st.If test a b) in
    let second = no_of (st.If test a b) in
    let p : view_row first.1 ≡ view_list a.items = row_is first.0 first.1 ∙ ap view_list (items_hidden-the_row-FlatStmt-0 a) in
    let q : view_row second.1 ≡ view_list b.items = row_is second.0 second.1 ∙ ap view_list (items_hidden-the_row-FlatStmt-0 b) in
    ap (λ (code : Code). If (view_expr test) code (view_row second.1) End) p ∙ ap (λ (code : Code). If (view_expr test) (view_list a.items) code End) q
