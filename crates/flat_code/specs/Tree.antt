-- Flat code as a tree of values: what the nodes of src/tree.rt are without their boxes and rows.
use Rattle.std.specs.Prelude.{ℕ, ◌+◌, List, [], ◌∷◌, Option}
use Rattle.flat_code.specs.declared.tree.Address.{Address}
use Rattle.flat_code.specs.declared.tree.FlatOp.{FlatOp}
use Rattle.flat_code.specs.declared.tree.FlatResult.{FlatResult}

-- an expression, whose value is a word
pub data Expr : Type 0 where
  Number : (n : ℕ) → Expr
  Byte : (at : Address) → Expr
  Word : (at : Address) → Expr
  AddressOf : (at : Address) → Expr
  SegmentOf : (at : Address) → Expr
  VmtOf : (unit number : ℕ) → Expr
  Op : (op : FlatOp) (a b : Expr) → Expr

-- a statement that holds no other statements
pub data Step : Type 0 where
  StoreByte : (to : Address) (value : Expr) → Step
  StoreWord : (to : Address) (value : Expr) → Step
  Copy : (to from : Address) (bytes : ℕ) → Step
  Leave : (loops : ℕ) → Step
  Call : (unit number : ℕ) (args : List Expr) (result : Option FlatResult) → Step
  CallThrough : (pointer : Address) (args : List Expr) (result : Option FlatResult) → Step
  Runtime : (number : ℕ) (args : List Expr) (result : Option FlatResult) → Step
  StoreRoutine : (to : Address) (unit number : ℕ) → Step
  Return : Step
  Error : (code : ℕ) → Step

-- a list of statements
pub data Code : Type 0 where
  End : Code
  Do : (step : Step) (next : Code) → Code
  If : (test : Expr) (taken other next : Code) → Code
  Loop : (body next : Code) → Code

-- one list after another
infixr 30 ◌then◌
abbrev pub ◌then◌ : Code → Code → Code
End then after = after
(Do step next) then after = Do step (next then after)
(If test taken other next) then after = If test taken other (next then after)
(Loop body next) then after = Loop body (next then after)

-- ---- how many nodes begin

abbrev pub expr_size : Expr → ℕ
expr_size (Number n) = 1
expr_size (Byte at) = 1
expr_size (Word at) = 1
expr_size (AddressOf at) = 1
expr_size (SegmentOf at) = 1
expr_size (VmtOf unit number) = 1
expr_size (Op op a b) = 1 + expr_size a + expr_size b

abbrev pub exprs_size : List Expr → ℕ
exprs_size [] = 0
exprs_size (e ∷ es) = expr_size e + exprs_size es

abbrev pub step_size : Step → ℕ
step_size (StoreByte to value) = 1 + expr_size value
step_size (StoreWord to value) = 1 + expr_size value
step_size (Copy to from bytes) = 1
step_size (Leave loops) = 1
step_size (Call unit number args result) = 1 + exprs_size args
step_size (CallThrough pointer args result) = 1 + exprs_size args
step_size (Runtime number args result) = 1 + exprs_size args
step_size (StoreRoutine to unit number) = 1
step_size Return = 1
step_size (Error code) = 1
