-- Within its need a tree fits: no part of it ends above the need of the whole.
use Rattle.std.proofs.Common.{◌≡◌, ℕ, ◌+◌, ◌≤◌, List, [], ◌∷◌, Option, Some, None, arith, refl}
use Rattle.type_layout.specs.declared.definitions.TypeDef.{TypeDef}
use Rattle.typed_tree.specs.Expressions.{Expression, Place, Receiver, Elements, Arguments, Const, RoutineValue, Load, Unary, Binary, Convert, Range, SetOf, Call, CallVirtual, CallThrough, Std, Make, Var, Deref, Index, FieldOf, NoReceiver, Own, NoElements, One, Span, NoArguments, ByValue, ByPlace}
use Rattle.typed_tree.specs.Statements.{Statement, Statements, Arms, Written, Taken, Assign, CopyAll, Run, If, While, Repeat, Block, Case, For, With, WriteItems, ReadItems, Halt, Exit, Unmake, NoStatements, Then, NoArms, Branch}
use Rattle.typed_tree.specs.Slots.{slot_of_type, slot_of, slot_of_result}
use Rattle.typed_tree.specs.Needs.{need, place_need, receiver_need, receiver_slot, elements_need, arguments_need, width_need, written_need, taken_need, statement_need, statements_need, arms_need}
use Rattle.typed_tree.specs.Stacks.{FitsExpression, FitsPlace, FitsReceiver, FitElements, FitArguments, FitsWidth, FitWritten, FitTaken, FitsStatement, FitStatements, FitArms}

mutual
  pub fits_expression : (types : List TypeDef) (room below : ℕ) (e : Expression) → below + need types e ≤ room → FitsExpression types room below e
  fits_expression types room below (Const ty value) h = h
  fits_expression types room below (RoutineValue ty routine) h = h
  fits_expression types room below (Load ty (Var variable)) h = (omega arith, h)
  fits_expression types room below (Load ty (Deref pointer)) h = (fits_place types room below 0 (Deref pointer) (omega arith) (omega arith), omega arith)
  fits_expression types room below (Load ty (Index at index checked)) h = (fits_place types room below 0 (Index at index checked) (omega arith) (omega arith), omega arith)
  fits_expression types room below (Load ty (FieldOf at number)) h = (fits_place types room below 0 (FieldOf at number) (omega arith) (omega arith), omega arith)
  fits_expression types room below (Unary ty op operand) h = (fits_expression types room below operand (omega arith), omega arith)
  fits_expression types room below (Binary ty op left right early) h =
      (fits_expression types room below left (omega arith), fits_expression types room (below + slot_of types left) right (omega arith), omega arith)
  fits_expression types room below (Convert ty operand) h = (fits_expression types room below operand (omega arith), omega arith)
  fits_expression types room below (Range ty operand low high) h = fits_expression types room below operand h
  fits_expression types room below (SetOf ty elements) h = (omega arith, fit_elements types room (below + 32) elements (omega arith))
  fits_expression types room below (Call ty routine own args) h =
      (fits_receiver types room below own (omega arith), fit_arguments types room below (receiver_slot own) (below + receiver_slot own) (slot_of_result types ty) args refl (omega arith))
  fits_expression types room below (CallVirtual ty own slot checked args) h =
      (fits_place types room below 4 own (omega arith) (omega arith), fit_arguments types room below 4 (below + 4) (slot_of_result types ty) args refl (omega arith))
  fits_expression types room below (CallThrough ty through args) h =
      (fits_place types room below 4 through (omega arith) (omega arith), fit_arguments types room below 4 (below + 4) (slot_of_result types ty) args refl (omega arith))
  fits_expression types room below (Std ty number args) h = fit_arguments types room below 0 below (slot_of_result types ty) args (omega arith) h
  fits_expression types room below (Make ty routine args) h = fit_arguments types room below 4 (below + 4) 0 args refl h

  pub fits_place : (types : List TypeDef) (room below bytes : ℕ) (at : Place) → bytes ≤ 4 → below + place_need types at ≤ room → FitsPlace types room below bytes at
  fits_place types room below bytes (Var variable) few h = omega arith
  fits_place types room below bytes (Deref pointer) few h = (fits_expression types room below pointer (omega arith), omega arith)
  fits_place types room below bytes (Index at index checked) few h =
      (fits_place types room below 4 at (omega arith) (omega arith), fits_expression types room (below + 4) index (omega arith))
  fits_place types room below bytes (FieldOf at number) few h = fits_place types room below 4 at (omega arith) h

  fits_receiver : (types : List TypeDef) (room below : ℕ) (own : Receiver) → below + receiver_need types own ≤ room → FitsReceiver types room below own
  fits_receiver types room below NoReceiver h = tt
  fits_receiver types room below (Own own) h = fits_place types room below 4 own (omega arith) h

  fit_elements : (types : List TypeDef) (room below : ℕ) (elements : Elements) → below + elements_need types elements ≤ room → FitElements types room below elements
  fit_elements types room below NoElements h = tt
  fit_elements types room below (One one rest) h = (fits_expression types room below one (omega arith), fit_elements types room below rest (omega arith))
  fit_elements types room below (Span low high rest) h =
      (fits_expression types room below low (omega arith), fits_expression types room (below + slot_of types low) high (omega arith), fit_elements types room below rest (omega arith))

  -- `before` bytes of the call lie above `below`, and the arguments begin there
  fit_arguments : (types : List TypeDef) (room below before at result : ℕ) (args : Arguments) → at ≡ below + before
      → below + arguments_need types before result args ≤ room → FitArguments types room at result args
  fit_arguments types room below before at result NoArguments is h = omega arith
  fit_arguments types room below before at result (ByValue value rest) is h =
      (fits_expression types room at value (omega arith), fit_arguments types room below (before + slot_of types value) (at + slot_of types value) result rest (omega arith) (omega arith))
  fit_arguments types room below before at result (ByPlace place rest) is h =
      (fits_place types room at 4 place (omega arith) (omega arith), fit_arguments types room below (before + 4) (at + 4) result rest (omega arith) (omega arith))

fits_width : (types : List TypeDef) (room below at slot : ℕ) (width : Option Expression) → at ≡ below + slot
    → below + width_need types slot width ≤ room → FitsWidth types room at width
fits_width types room below at slot None is h = tt
fits_width types room below at slot (Some width) is h = fits_expression types room at width (omega arith)

fit_written : (types : List TypeDef) (room below : ℕ) (items : List Written) → below + written_need types items ≤ room → FitWritten types room below items
fit_written types room below [] h = tt
fit_written types room below (item ∷ rest) h = (
  fits_expression types room below item.value (omega arith),
  fits_width types room below (below + slot_of types item.value) (slot_of types item.value) item.width refl (omega arith),
  fit_written types room below rest (omega arith),
)

fit_taken : (types : List TypeDef) (room below : ℕ) (items : List Taken) → below + taken_need types items ≤ room → FitTaken types room below items
fit_taken types room below [] h = h
fit_taken types room below (item ∷ rest) h = (fits_place types room below 4 item.at (omega arith) (omega arith), fit_taken types room below rest (omega arith))

mutual
  pub fits_statement : (types : List TypeDef) (room below : ℕ) (s : Statement) → below + statement_need types s ≤ room → FitsStatement types room below s
  fits_statement types room below (Assign (Var variable) value) h = (omega arith, fits_expression types room (below + 0) value (omega arith))
  fits_statement types room below (Assign (Deref pointer) value) h =
      (fits_place types room below 0 (Deref pointer) (omega arith) (omega arith), fits_expression types room (below + 4) value (omega arith))
  fits_statement types room below (Assign (Index at index checked) value) h =
      (fits_place types room below 0 (Index at index checked) (omega arith) (omega arith), fits_expression types room (below + 4) value (omega arith))
  fits_statement types room below (Assign (FieldOf at number) value) h =
      (fits_place types room below 0 (FieldOf at number) (omega arith) (omega arith), fits_expression types room (below + 4) value (omega arith))
  fits_statement types room below (CopyAll to from) h =
      (fits_place types room below 4 to (omega arith) (omega arith), fits_place types room (below + 4) 4 from (omega arith) (omega arith))
  fits_statement types room below (Run call) h = fits_expression types room below call h
  fits_statement types room below (If condition taken otherwise) h =
      (fits_expression types room below condition (omega arith), fits_statement types room below taken (omega arith), fits_statement types room below otherwise (omega arith))
  fits_statement types room below (While condition body) h =
      (fits_expression types room below condition (omega arith), fits_statement types room below body (omega arith))
  fits_statement types room below (Repeat body condition) h =
      (fits_statement types room below body (omega arith), fits_expression types room below condition (omega arith))
  fits_statement types room below (Block statements) h = fit_statements types room below statements h
  fits_statement types room below (Case selector arms other) h = (
    fits_expression types room below selector (omega arith),
    fit_arms types room (below + slot_of types selector) arms (omega arith),
    fits_statement types room (below + slot_of types selector) other (omega arith),
  )
  fits_statement types room below (For variable ty from to down checked body) h = (
    fits_expression types room below from (omega arith),
    fits_expression types room (below + slot_of_type types ty) to (omega arith),
    fits_statement types room (below + slot_of_type types ty) body (omega arith),
  )
  fits_statement types room below (With at body) h =
      (fits_place types room below 4 at (omega arith) (omega arith), fits_statement types room (below + 4) body (omega arith))
  fits_statement types room below (WriteItems items line) h = fit_written types room below items h
  fits_statement types room below (ReadItems items line) h = fit_taken types room below items h
  fits_statement types room below (Halt code) h = fits_expression types room below code h
  fits_statement types room below Exit h = tt
  fits_statement types room below (Unmake pointer destructor args) h =
      (fits_expression types room below pointer (omega arith), fit_arguments types room below 4 (below + 4) 0 args refl (omega arith))

  fit_statements : (types : List TypeDef) (room below : ℕ) (s : Statements) → below + statements_need types s ≤ room → FitStatements types room below s
  fit_statements types room below NoStatements h = tt
  fit_statements types room below (Then one rest) h = (fits_statement types room below one (omega arith), fit_statements types room below rest (omega arith))

  fit_arms : (types : List TypeDef) (room below : ℕ) (arms : Arms) → below + arms_need types arms ≤ room → FitArms types room below arms
  fit_arms types room below NoArms h = tt
  fit_arms types room below (Branch labels body rest) h = (fits_statement types room below body (omega arith), fit_arms types room below rest (omega arith))
