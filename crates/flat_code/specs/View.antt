-- The units of src/ as values: without boxes, rows and allocators.
use Rattle.std.specs.Prelude.{List, [], ◌∷◌}
use Rattle.flat_code.specs.declared.tree.FlatExpr.{FlatExpr}
use Rattle.flat_code.specs.declared.tree.FlatExpr.TheVariants as e
use Rattle.flat_code.specs.declared.tree.FlatStmt.{FlatStmt, Row_of-FlatStmt, end_of-FlatStmt, more_of-FlatStmt}
use Rattle.flat_code.specs.declared.tree.FlatStmt.TheVariants as st
use Rattle.flat_code.specs.Tree.{Expr, Number, Byte, Word, AddressOf, SegmentOf, VmtOf, Op, StoreByte, StoreWord, Copy, Leave, Call, CallThrough, Runtime, StoreRoutine, Return, Error, Code, End, Do, If, Loop}

abbrev pub view_expr : FlatExpr → Expr
view_expr (e.Number n) = Number n
view_expr (e.Byte at) = Byte at
view_expr (e.Word at) = Word at
view_expr (e.AddressOf at) = AddressOf at
view_expr (e.SegmentOf at) = SegmentOf at
view_expr (e.VmtOf unit number) = VmtOf unit number
view_expr (e.Op' op p a q b) = Op op (view_expr a) (view_expr b)

abbrev pub view_exprs : List FlatExpr → List Expr
view_exprs [] = []
view_exprs (x ∷ xs) = view_expr x ∷ view_exprs xs

-- a statement before others
abbrev mutual
  pub view_stmt : FlatStmt → Code → Code
  view_stmt (st.StoreByte to value) next = Do (StoreByte to (view_expr value)) next
  view_stmt (st.StoreWord to value) next = Do (StoreWord to (view_expr value)) next
  view_stmt (st.Copy to from bytes) next = Do (Copy to from bytes) next
  view_stmt (st.If' test p taken q other) next = If (view_expr test) (view_row taken) (view_row other) next
  view_stmt (st.Loop' p body) next = Loop (view_row body) next
  view_stmt (st.Leave loops) next = Do (Leave loops) next
  view_stmt (st.Call routine args result) next = Do (Call routine.unit routine.number (view_exprs args.items) result) next
  view_stmt (st.CallThrough pointer args result) next = Do (CallThrough pointer (view_exprs args.items) result) next
  view_stmt (st.Runtime number args result) next = Do (Runtime number (view_exprs args.items) result) next
  view_stmt (st.StoreRoutine to routine) next = Do (StoreRoutine to routine.unit routine.number) next
  view_stmt st.Return next = Do Return next
  view_stmt (st.Error code) next = Do (Error code) next

  pub view_row : {n : _} → Row_of-FlatStmt n → Code
  view_row end_of-FlatStmt = End
  view_row (more_of-FlatStmt s rest) = view_stmt s (view_row rest)

abbrev pub view_list : List FlatStmt → Code
view_list [] = End
view_list (s ∷ rest) = view_stmt s (view_list rest)
