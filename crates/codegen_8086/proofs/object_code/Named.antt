-- What the code of a routine refers to is what the routine names.
use Rattle.std.proofs.Common.{◌≡◌, ℕ, zero, suc, ◌+◌, ◌↔◌, Bool, true, false, ◌&&◌, List, [], ◌∷◌, ◌++◌, length, Option, Some, None, refl}
use Rattle.std.specs.Prelude.{slice_get, MatchOption}
use Rattle.type_layout.specs.declared.definitions.RoutineId.{RoutineId}
use Rattle.x86_table.specs.declared.instr.Instr.{Instr}
use Rattle.x86_table.specs.declared.instr.Instr.TheVariants as instr
use Rattle.x86_table.specs.declared.line.Line.{Line}
use Rattle.x86_table.specs.declared.line.Line.TheVariants.{One, Label, JumpNear}
use Rattle.x86_table.specs.declared.operand.ByteReg.TheVariants as byte
use Rattle.x86_table.specs.declared.operand.DataSeg.TheVariants as data_seg
use Rattle.x86_table.specs.declared.operand.SegReg.{SegReg}
use Rattle.x86_table.specs.declared.operand.SegReg.TheVariants as seg
use Rattle.x86_table.specs.declared.operand.WordReg.TheVariants as word
use Rattle.flat_code.specs.declared.tree.Address.{Address}
use Rattle.flat_code.specs.declared.tree.Address.TheVariants.{Global, Local, Outer, Through}
use Rattle.flat_code.specs.declared.tree.FlatOp.{FlatOp}
use Rattle.flat_code.specs.declared.tree.FlatOp.TheVariants as op
use Rattle.flat_code.specs.declared.tree.FlatResult.{FlatResult}
use Rattle.flat_code.specs.Tree.{Expr, Number, Byte, Word, AddressOf, SegmentOf, VmtOf, Op, Step, StoreByte, StoreWord, Copy, Leave, Call, CallThrough, Runtime, StoreRoutine, Return, Error, Code, End, Do, If, Loop}
use Rattle.flat_code.specs.Program.{Name, Routine, UnitCode}
use Rattle.flat_code.specs.Legal.{Mention, ToRoutine, Names, AddressNames, ExprNames, ExprsName, ResultNames, RuntimeNames, StepNames, CodeNames}
use Rattle.code_templates.specs.code_lines.Operands.{loads, operand}
use Rattle.code_templates.specs.code_lines.Expressions.{move, op_code, segment_code}
use Rattle.code_templates.specs.code_lines.Lines.{Around, move_bytes, step_pointers, pointers, labels, leave, tested, in_loop, enter_frame, leave_frame, make_room, return_code}
use Rattle.code_templates.specs.code_references.Unplaced.{in_frame}
use Rattle.code_templates.specs.code_references.Marks.{bare, plain}
use Rattle.code_templates.specs.code_references.Marked.{at_place, byte_load, word_load, address_load, byte_put, word_put, marked_loads, marked_op, marked_expr, marked_args, destination_in, marked_destination, moved_by, marked_moved, marked_store_byte, marked_store_word, marked_taken_by, marked_taken, marked_given_by, marked_given, marked_own, marked_own_if, marked_call, marked_runtime, marked_step, marked_code, marked_stack_test, marked_prologue, marked_body, marked_epilogue, at_body, stored, step_stored}
use Rattle.code_templates.specs.declared.code_references.marks.MarkedLine.{MarkedLine}
use Rattle.code_templates.specs.declared.code_references.marks.Target.{Target}
use Rattle.code_templates.specs.declared.code_references.marks.Target.TheVariants as to
use Rattle.codegen_8086.specs.object_code.Named.{TargetNames, LinesName, StoredName, ExprSegments, ExprsSegments, StepSegments, CodeSegments, StepPointers, CodePointers, NamesExactly, ReferenceLaw}

-- ---- lines that refer to nothing in a unit

abbrev is_silent : Option Target → Bool
is_silent None = true
is_silent (Some to.ErrorRoutine) = true
is_silent (Some to.ClearRoutine) = true
is_silent (Some to.FlagRoutine) = true
is_silent (Some target) = false

abbrev all_silent : List MarkedLine → Bool
all_silent [] = true
all_silent (m ∷ ms) = is_silent m.target && all_silent ms

module _ (R : Mention → Type 0) (own : Name) (unit : UnitCode) where
  abbrev L : List MarkedLine → Type 0
  L ms = LinesName R own unit.names ms

  abbrev A : Address → Type 0
  A at = AddressNames R own unit.names at

  -- ---- lists

  join : (xs ys : List MarkedLine) → L xs → L ys → L (xs ++ ys)
  join [] ys p q = q
  join (x ∷ xs) ys p q = (p.0, join xs ys p.1 q)

  front : (xs ys : List MarkedLine) → L (xs ++ ys) → L xs
  front [] ys p = tt
  front (x ∷ xs) ys p = (p.0, front xs ys p.1)

  back : (xs ys : List MarkedLine) → L (xs ++ ys) → L ys
  back [] ys p = p
  back (x ∷ xs) ys p = back xs ys p.1

  plain_named : (is : List Instr) → L (plain is)
  plain_named [] = tt
  plain_named (i ∷ is) = (tt, plain_named is)

  bare_named : (ls : List Line) → L (bare ls)
  bare_named [] = tt
  bare_named (l ∷ ls) = (tt, bare_named ls)

  silent_target : (t : Option Target) → is_silent t ≡ true → MatchOption t (Unit {0}) (TargetNames R own unit.names)
  silent_target None h = tt
  silent_target (Some to.ErrorRoutine) h = tt
  silent_target (Some to.ClearRoutine) h = tt
  silent_target (Some to.FlagRoutine) h = tt
  silent_target (Some target) h = absurd cc

  silent : (ms : List MarkedLine) → all_silent ms ≡ true → L ms
  silent [] h = tt
  silent (m ∷ ms) h = let b = parts (is_silent m.target) (all_silent ms) h in (silent_target m.target b.0, silent ms b.1) where
    parts : (p q : Bool) → (p && q) ≡ true → (p ≡ true) × (q ≡ true)
    parts true q h = (refl, h)
    parts false q h = absurd cc

  stored_join : (xs ys : List RoutineId) → StoredName R own unit.names xs → StoredName R own unit.names ys → StoredName R own unit.names (xs ++ ys)
  stored_join [] ys p q = q
  stored_join (x ∷ xs) ys p q = (p.0, stored_join xs ys p.1 q)

  stored_front : (xs ys : List RoutineId) → StoredName R own unit.names (xs ++ ys) → StoredName R own unit.names xs
  stored_front [] ys p = tt
  stored_front (x ∷ xs) ys p = (p.0, stored_front xs ys p.1)

  stored_back : (xs ys : List RoutineId) → StoredName R own unit.names (xs ++ ys) → StoredName R own unit.names ys
  stored_back [] ys p = p
  stored_back (x ∷ xs) ys p = stored_back xs ys p.1

  -- ---- places

  at_named : (at : Address) (i : Instr) (ms : List MarkedLine) → L ms → L (at_place at i ∷ ms) ↔ A at
  at_named (Global u number plus) i ms p = (λ h. h.0, λ h. (h, p))
  at_named (Local at) i ms p = (λ h. tt, λ h. (tt, p))
  at_named (Outer levels at) i ms p = (λ h. tt, λ h. (tt, p))
  at_named (Through slot plus) i ms p = (λ h. tt, λ h. (tt, p))

  -- an address is loaded, and then one instruction has it
  loaded : (far : Bool) (at : Address) (i : Instr) (ms : List MarkedLine) → L ms → L (marked_loads far at ++ (at_place at i ∷ ms)) ↔ A at
  loaded far at i ms p =
      let f = at_named at i ms p in
      let ls = marked_loads far at in
      let rest = at_place at i ∷ ms in
      (λ h. f.0 (back ls rest h), λ h. join ls rest (plain_named (loads (in_frame far) at)) (f.1 h))

  -- or two have it
  loaded_twice : (far : Bool) (at : Address) (i j : Instr) → L (marked_loads far at ++ (at_place at i ∷ at_place at j ∷ [])) ↔ A at
  loaded_twice far at i j =
      let f = at_named at j [] tt in
      let ls = marked_loads far at in
      let one = at_place at i ∷ [] in
      let other = at_place at j ∷ [] in
      (λ h. f.0 (back one other (back ls (one ++ other) h)), λ h. join ls (one ++ other) (plain_named (loads (in_frame far) at)) (join one other ((at_named at i [] tt).1 h) (f.1 h)))

  -- ---- expressions

  op_named : (o : FlatOp) → L (marked_op o)
  op_named op.Add = plain_named (op_code (in_frame false) op.Add)
  op_named op.Sub = plain_named (op_code (in_frame false) op.Sub)
  op_named op.Mul = plain_named (op_code (in_frame false) op.Mul)
  op_named op.MulHigh = plain_named (op_code (in_frame false) op.MulHigh)
  op_named op.Div = silent (marked_op op.Div) refl
  op_named op.Mod = silent (marked_op op.Mod) refl
  op_named op.DivUnsigned = silent (marked_op op.DivUnsigned) refl
  op_named op.ModUnsigned = silent (marked_op op.ModUnsigned) refl
  op_named op.And = plain_named (op_code (in_frame false) op.And)
  op_named op.Or = plain_named (op_code (in_frame false) op.Or)
  op_named op.Xor = plain_named (op_code (in_frame false) op.Xor)
  op_named op.Shl = plain_named (op_code (in_frame false) op.Shl)
  op_named op.Shr = plain_named (op_code (in_frame false) op.Shr)
  op_named op.Equal = plain_named (op_code (in_frame false) op.Equal)
  op_named op.Less = plain_named (op_code (in_frame false) op.Less)
  op_named op.Below = plain_named (op_code (in_frame false) op.Below)

  -- what an expression's lines name, and the data whose segment it takes
  abbrev ExprSays : Bool → Expr → Type 0
  ExprSays far e = (L (marked_expr far e) × ExprSegments R own unit.names e) ↔ ExprNames R own unit.names e

  alone : (ms : List MarkedLine) (P : Type 0) → L ms ↔ P → (L ms × Unit {0}) ↔ P
  alone ms P f = (λ h. f.0 h.0, λ h. (f.1 h, tt))

  abbrev pushed : List MarkedLine
  pushed = plain (instr.Push word.Ax ∷ [])

  expr_named : (far : Bool) (e : Expr) → ExprSays far e
  expr_named far (Number n) = (λ h. tt, λ h. ((tt, tt), tt))
  expr_named far (Byte at) = alone (marked_expr far (Byte at)) (A at) (loaded far at (byte_load far at) (plain (instr.MovByte byte.Ah 0 ∷ [])) (tt, tt))
  expr_named far (Word at) = alone (marked_expr far (Word at)) (A at) (loaded far at (word_load word.Ax far at 0) [] tt)
  expr_named far (AddressOf at) = alone (marked_expr far (AddressOf at)) (A at) (loaded far at (address_load word.Ax far at) [] tt)
  expr_named far (SegmentOf at) =
      (λ h. h.1, λ h. (join (marked_loads far at) (plain (segment_code at)) (plain_named (loads (in_frame far) at)) (plain_named (segment_code at)), h))
  expr_named far (VmtOf u number) = (λ h. (h.0).0, λ h. ((h, tt), tt))
  expr_named far (Op o a b) =
      let f = expr_named far a in
      let g = expr_named far b in
      let xs = marked_expr far a in
      let ys = marked_expr far b in
      let end = plain (move word.Cx word.Ax ∷ instr.Pop word.Ax ∷ []) in
      let rest = ys ++ (end ++ marked_op o) in (
        λ h.
            let second = back pushed rest (back xs (pushed ++ rest) h.0) in
            (f.0 (front xs (pushed ++ rest) h.0, (h.1).0), g.0 (front ys (end ++ marked_op o) second, (h.1).1)),
        λ h.
            let x = f.1 h.0 in
            let y = g.1 h.1 in
            (join xs (pushed ++ rest) x.0 (join pushed rest (tt, tt) (join ys (end ++ marked_op o) y.0 (join end (marked_op o) (tt, (tt, tt)) (op_named o)))), (x.1, y.1)),
      )

  args_named : (far : Bool) (es : List Expr) → (L (marked_args far es) × ExprsSegments R own unit.names es) ↔ ExprsName R own unit.names es
  args_named far [] = (λ h. tt, λ h. (tt, tt))
  args_named far (e ∷ es) =
      let f = expr_named far e in
      let g = args_named far es in
      let xs = marked_expr far e in
      let rest = marked_args far es in (
        λ h. (f.0 (front xs (pushed ++ rest) h.0, (h.1).0), g.0 (back pushed rest (back xs (pushed ++ rest) h.0), (h.1).1)),
        λ h.
            let x = f.1 h.0 in
            let y = g.1 h.1 in
            (join xs (pushed ++ rest) x.0 (join pushed rest (tt, tt) y.0), (x.1, y.1)),
      )

  -- ---- stores, copies and results

  to_named : (s : SegReg) (far : Bool) (at : Address) → L (destination_in s far at) ↔ A at
  to_named s far at = loaded far at (address_load word.Di far at) (plain (instr.PushSeg s ∷ instr.PopSeg data_seg.Es ∷ [])) (tt, (tt, tt))

  destination_named : (far : Bool) (at : Address) → L (marked_destination far at) ↔ A at
  destination_named far (Global u number plus) = to_named seg.Ds far (Global u number plus)
  destination_named far (Local at) = to_named seg.Ss far (Local at)
  destination_named far (Outer levels at) = to_named seg.Ss far (Outer levels at)
  destination_named far (Through slot plus) = (λ h. tt, λ h. (tt, (tt, tt)))

  from_named : (override : Option SegReg) (far : Bool) (at : Address) (bytes : ℕ) → L (moved_by override far at bytes) ↔ A at
  from_named override far at bytes = loaded far at (address_load word.Si far at) (plain (move_bytes override bytes)) (plain_named (move_bytes override bytes))

  moved_named : (far : Bool) (at : Address) (bytes : ℕ) → L (marked_moved far at bytes) ↔ A at
  moved_named far (Global u number plus) bytes = from_named None far (Global u number plus) bytes
  moved_named far (Local at) bytes = from_named (Some seg.Ss) far (Local at) bytes
  moved_named far (Outer levels at) bytes = from_named (Some seg.Ss) far (Outer levels at) bytes
  moved_named far (Through slot plus) bytes =
      (λ h. tt, λ h. (tt, (tt, (tt, plain_named (move_bytes None bytes ++ (instr.PopSeg data_seg.Ds ∷ []))))))

  taken_named : (far : Bool) (result : Option FlatResult) → L (marked_taken far result) ↔ ResultNames R own unit.names result
  taken_named far None = (λ h. tt, λ h. tt)
  taken_named far (Some result) = by_bytes result.bytes result.at where
    by_bytes : (bytes : ℕ) (at : Address) → L (marked_taken_by bytes far at) ↔ A at
    by_bytes zero at = loaded_twice far at (word_put far at 0 word.Ax) (word_put far at 2 word.Dx)
    by_bytes (suc zero) at = loaded far at (byte_put far at) [] tt
    by_bytes (suc (suc zero)) at = loaded far at (word_put far at 0 word.Ax) [] tt
    by_bytes (suc (suc (suc n))) at = loaded_twice far at (word_put far at 0 word.Ax) (word_put far at 2 word.Dx)

  given_named : (far : Bool) (result : Option FlatResult) → L (marked_given far result) ↔ ResultNames R own unit.names result
  given_named far None = (λ h. tt, λ h. tt)
  given_named far (Some result) = by_bytes result.bytes result.at where
    by_bytes : (bytes : ℕ) (at : Address) → L (marked_given_by bytes far at) ↔ A at
    by_bytes zero at = loaded_twice far at (word_load word.Ax far at 0) (word_load word.Dx far at 2)
    by_bytes (suc zero) at = loaded far at (byte_load far at) [] tt
    by_bytes (suc (suc zero)) at = loaded far at (word_load word.Ax far at 0) [] tt
    by_bytes (suc (suc (suc n))) at = loaded_twice far at (word_load word.Ax far at 0) (word_load word.Dx far at 2)

  -- ---- calls

  call_named : (other number : ℕ) → L (marked_call unit other number) ↔ Names R ToRoutine own unit.names other number
  call_named zero number = by (slice_get unit.routines number) where
    own_named : (far : Bool) → L (marked_own far number) ↔ Names R ToRoutine own unit.names 0 number
    own_named true = (λ h. (h.1).0, λ h. (tt, (h, tt)))
    own_named false = (λ h. h.0, λ h. (h, tt))

    by : (o : Option Routine) → L (marked_own_if number o) ↔ Names R ToRoutine own unit.names 0 number
    by None = (λ h. h.0, λ h. (h, tt))
    by (Some r) = own_named r.far
  call_named (suc k) number = (λ h. h.0, λ h. (h, tt))

  runtime_named : (number : ℕ) → L (marked_runtime number) ↔ RuntimeNames R number
  runtime_named zero = (λ h. tt, λ h. silent (marked_runtime 0) refl)
  runtime_named (suc zero) = (λ h. tt, λ h. silent (marked_runtime 1) refl)
  runtime_named (suc (suc zero)) = (λ h. tt, λ h. silent (marked_runtime 2) refl)
  runtime_named (suc (suc (suc zero))) = (λ h. tt, λ h. (tt, tt))
  runtime_named (suc (suc (suc (suc zero)))) = (λ h. tt, λ h. (tt, tt))
  runtime_named (suc (suc (suc (suc (suc n))))) = (λ h. h.0, λ h. (h, tt))

  -- arguments, the call, and where its result goes
  called : (far : Bool) (args : List Expr) (call : List MarkedLine) (P : Type 0) (result : Option FlatResult) → L call ↔ P
      → ((L (marked_args far args ++ (call ++ marked_taken far result)) × (Unit {0} × ExprsSegments R own unit.names args))
      ↔ ((P × ExprsName R own unit.names args × ResultNames R own unit.names result) × Unit {0}))
  called far args call P result f =
      let g = args_named far args in
      let t = taken_named far result in
      let xs = marked_args far args in
      let ys = marked_taken far result in (
        λ h.
            let rest = back xs (call ++ ys) h.0 in
            ((f.0 (front call ys rest), g.0 (front xs (call ++ ys) h.0, (h.1).1), t.0 (back call ys rest)), tt),
        λ h.
            let x = g.1 (h.0).1 in
            (join xs (call ++ ys) x.0 (join call ys (f.1 (h.0).0) (t.1 (h.0).2)), (tt, x.1)),
      )

  -- ---- statements

  abbrev StepSays : Bool → Around → ℕ → Step → Type 0
  StepSays far around pointer step =
      (L (marked_step unit far around pointer step) × (StoredName R own unit.names (step_stored step) × StepSegments R own unit.names step))
      ↔ (StepNames R own unit.names step × StepPointers R own unit pointer step)

  kept : (far : Bool) (value : Expr) (store : List MarkedLine) (to : Address) → L store ↔ A to
      → ((L (marked_expr far value ++ store) × (Unit {0} × ExprSegments R own unit.names value)) ↔ ((A to × ExprNames R own unit.names value) × Unit {0}))
  kept far value store to f =
      let g = expr_named far value in
      let xs = marked_expr far value in (
        λ h. ((f.0 (back xs store h.0), g.0 (front xs store h.0, (h.1).1)), tt),
        λ h. let x = g.1 (h.0).1 in (join xs store x.0 (f.1 (h.0).0), (tt, x.1)),
      )

  through_named : (far : Bool) (at : Address) → L (marked_loads far at ++ (at_place at (instr.CallFarIndirect (operand (in_frame far) at 0)) ∷ [])) ↔ A at
  through_named far at = loaded far at (instr.CallFarIndirect (operand (in_frame far) at 0)) [] tt

  step_named : (far : Bool) (around : Around) (pointer : ℕ) (step : Step) → StepSays far around pointer step
  step_named far around pointer (StoreByte to value) = kept far value (marked_store_byte far to) to (loaded far to (byte_put far to) [] tt)
  step_named far around pointer (StoreWord to value) = kept far value (marked_store_word far to) to (loaded far to (word_put far to 0 word.Ax) [] tt)
  step_named far around pointer (Copy to from bytes) =
      let f = destination_named far to in
      let g = moved_named far from bytes in
      let xs = marked_destination far to in
      let ys = marked_moved far from bytes in
      (λ h. ((f.0 (front xs ys h.0), g.0 (back xs ys h.0)), tt), λ h. (join xs ys (f.1 (h.0).0) (g.1 (h.0).1), (tt, tt)))
  step_named far around pointer (Leave loops) = (λ h. (tt, tt), λ h. (bare_named (leave around loops), (tt, tt)))
  step_named far around pointer (Call other number args result) =
      called far args (marked_call unit other number) (Names R ToRoutine own unit.names other number) result (call_named other number)
  step_named far around pointer (CallThrough at args result) =
      let g = args_named far args in
      let t = taken_named far result in
      let f = at_named at (instr.CallFarIndirect (operand (in_frame far) at 0)) [] tt in
      let xs = marked_args far args in
      let ls = marked_loads far at in
      let call = at_place at (instr.CallFarIndirect (operand (in_frame far) at 0)) ∷ [] in
      let ys = marked_taken far result in (
        λ h.
            let rest = back ls (call ++ ys) (back xs (ls ++ (call ++ ys)) h.0) in
            ((f.0 (front call ys rest), g.0 (front xs (ls ++ (call ++ ys)) h.0, (h.1).1), t.0 (back call ys rest)), tt),
        λ h.
            let x = g.1 (h.0).1 in
            (join xs (ls ++ (call ++ ys)) x.0 (join ls (call ++ ys) (plain_named (loads (in_frame far) at)) (join call ys (f.1 (h.0).0) (t.1 (h.0).2))), (tt, x.1)),
      )
  step_named far around pointer (Runtime number args result) = called far args (marked_runtime number) (RuntimeNames R number) result (runtime_named number)
  step_named far around pointer (StoreRoutine to other number) =
      let f = loaded_twice far to (word_put far to 0 word.Ax) (word_put far to 2 word.Dx) in
      (λ h. ((f.0 ((h.0).1).1, ((h.1).0).0), (h.0).0), λ h. ((h.1, (h.1, f.1 (h.0).0)), (((h.0).1, tt), tt)))
  step_named far around pointer Return = (λ h. (tt, tt), λ h. ((tt, tt), (tt, tt)))
  step_named far around pointer (Error code) = (λ h. (tt, tt), λ h. ((tt, (tt, tt)), (tt, tt)))

  abbrev CodeSays : Bool → Around → ℕ → ℕ → Code → Type 0
  CodeSays far around label pointer c =
      (L (marked_code unit far around label pointer c) × (StoredName R own unit.names (stored c) × CodeSegments R own unit.names c))
      ↔ (CodeNames R own unit.names c × CodePointers R own unit pointer c)

  code_named : (far : Bool) (around : Around) (label pointer : ℕ) (c : Code) → CodeSays far around label pointer c
  code_named far around label pointer End = (λ h. (tt, tt), λ h. (tt, (tt, tt)))
  code_named far around label pointer (Do step next) =
      let xs = marked_step unit far around pointer step in
      let ys = marked_code unit far around label (pointer + step_pointers step) next in
      let ids = step_stored step in
      let f = step_named far around pointer step in
      let g = code_named far around label (pointer + step_pointers step) next in (
        λ h.
            let x = f.0 (front xs ys h.0, (stored_front ids (stored next) (h.1).0, ((h.1).1).0)) in
            let y = g.0 (back xs ys h.0, (stored_back ids (stored next) (h.1).0, ((h.1).1).1)) in
            ((x.0, y.0), (x.1, y.1)),
        λ h.
            let x = f.1 ((h.0).0, (h.1).0) in
            let y = g.1 ((h.0).1, (h.1).1) in
            (join xs ys x.0 y.0, (stored_join ids (stored next) (x.1).0 (y.1).0, ((x.1).1, (y.1).1))),
      )
  code_named far around label pointer (If test taken other next) =
      let e = marked_expr far test in
      let t = marked_code unit far around (label + 3) pointer taken in
      let o = marked_code unit far around (label + 3 + labels taken) (pointer + pointers taken) other in
      let z = marked_code unit far around (label + 3 + labels taken + labels other) (pointer + pointers taken + pointers other) next in
      let l1 : List Line = tested label ++ (JumpNear (label + 1) ∷ Label label ∷ []) in
      let l2 : List Line = JumpNear (label + 2) ∷ Label (label + 1) ∷ [] in
      let l3 : List Line = Label (label + 2) ∷ [] in
      let after_other = bare l3 ++ z in
      let after_taken = bare l2 ++ (o ++ after_other) in
      let after_test = bare l1 ++ (t ++ after_taken) in
      let f = expr_named far test in
      let g = code_named far around (label + 3) pointer taken in
      let k = code_named far around (label + 3 + labels taken) (pointer + pointers taken) other in
      let n = code_named far around (label + 3 + labels taken + labels other) (pointer + pointers taken + pointers other) next in
      let so = stored other ++ stored next in (
        λ h.
            let ids = stored_back (stored taken) so (h.1).0 in
            let segments = (h.1).1 in
            let behind_test = back (bare l1) (t ++ after_taken) (back e after_test h.0) in
            let behind_taken = back (bare l2) (o ++ after_other) (back t after_taken behind_test) in
            let behind_other = back (bare l3) z (back o after_other behind_taken) in
            let w = f.0 (front e after_test h.0, segments.0) in
            let x = g.0 (front t after_taken behind_test, (stored_front (stored taken) so (h.1).0, segments.1)) in
            let y = k.0 (front o after_other behind_taken, (stored_front (stored other) (stored next) ids, segments.2)) in
            let v = n.0 (behind_other, (stored_back (stored other) (stored next) ids, segments.3)) in
            ((w, x.0, y.0, v.0), (x.1, y.1, v.1)),
        λ h.
            let named = h.0 in
            let w = f.1 named.0 in
            let x = g.1 (named.1, (h.1).0) in
            let y = k.1 (named.2, (h.1).1) in
            let v = n.1 (named.3, (h.1).2) in (
              join e after_test w.0 (join (bare l1) (t ++ after_taken) (bare_named l1) (join t after_taken x.0 (join (bare l2) (o ++ after_other) (bare_named l2) (join o after_other y.0 (join (bare l3) z (bare_named l3) v.0))))),
              (stored_join (stored taken) so (x.1).0 (stored_join (stored other) (stored next) (y.1).0 (v.1).0), (w.1, (x.1).1, (y.1).1, (v.1).1)),
            ),
      )
  code_named far around label pointer (Loop body next) =
      let b = marked_code unit far (in_loop around (label + 1)) (label + 2) pointer body in
      let z = marked_code unit far around (label + 2 + labels body) (pointer + pointers body) next in
      let l1 : List Line = Label label ∷ One instr.Cld ∷ [] in
      let l2 : List Line = JumpNear label ∷ Label (label + 1) ∷ [] in
      let after = bare l2 ++ z in
      let f = code_named far (in_loop around (label + 1)) (label + 2) pointer body in
      let g = code_named far around (label + 2 + labels body) (pointer + pointers body) next in (
        λ h.
            let inside = back (bare l1) (b ++ after) h.0 in
            let x = f.0 (front b after inside, (stored_front (stored body) (stored next) (h.1).0, ((h.1).1).0)) in
            let y = g.0 (back (bare l2) z (back b after inside), (stored_back (stored body) (stored next) (h.1).0, ((h.1).1).1)) in
            ((x.0, y.0), (x.1, y.1)),
        λ h.
            let x = f.1 ((h.0).0, (h.1).0) in
            let y = g.1 ((h.0).1, (h.1).1) in
            (join (bare l1) (b ++ after) (bare_named l1) (join b after x.0 (join (bare l2) z (bare_named l2) y.0)), (stored_join (stored body) (stored next) (x.1).0 (y.1).0, ((x.1).1, (y.1).1))),
      )

  -- ---- routines

  test_named : (r : Routine) (frame : ℕ) → L (marked_stack_test r frame)
  test_named r zero = tt
  test_named r (suc frame) = (tt, (tt, (tt, (tt, tt))))

  routine_named : (pointer : ℕ) (r : Routine) → NamesExactly R own unit pointer r
  routine_named pointer r =
      let prologue = marked_prologue r in
      let room = plain (make_room r ∷ []) in
      let starts : L prologue = join (plain (enter_frame r.far)) (marked_stack_test r r.frame ++ room) (plain_named (enter_frame r.far)) (join (marked_stack_test r r.frame) room (test_named r r.frame) (tt, tt)) in
      let label = length unit.routines + 1 in
      let code = marked_code unit r.far (at_body unit) label pointer r.body in
      let end : List Line = Label (length unit.routines) ∷ [] in
      let f = code_named r.far (at_body unit) label pointer r.body in
      let g = given_named r.far r.result in
      let body = marked_body unit pointer r in
      let given = marked_given r.far r.result in
      let left : List Instr = leave_frame r.far ++ (return_code r.far r.arguments ∷ []) in
      let epilogue = marked_epilogue r in (
        λ h.
            let rest = back prologue (body ++ epilogue) h.0 in
            let x = f.0 (front code (bare end) (front body epilogue rest), (h.1, h.2)) in
            (x.0, g.0 (front given (plain left) (back body epilogue rest)), x.1),
        λ h.
            let x = f.1 (h.0, h.2) in
            (join prologue (body ++ epilogue) starts (join body epilogue (join code (bare end) x.0 (bare_named end)) (join given (plain left) (g.1 h.1) (plain_named left))), (x.1).0, (x.1).1),
      )

pub reference_law : ReferenceLaw
reference_law reached own unit pointer r = routine_named (λ mention. reached mention ≡ true) own unit pointer r
