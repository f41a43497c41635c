-- Lines with their addresses filled in are the lines that are made for these addresses.
use Rattle.std.proofs.Common.{arith, ◌≡◌, ℕ, zero, suc, ◌+◌, ◌%◌, Bool, true, false, List, [], ◌∷◌, ◌++◌, length, map, Option, Some, None, slice_get, refl, sym, ap, subst, ◌∙◌, append_assoc}
use Rattle.std.proofs.lemmas.List.{map-append}
use Rattle.x86_table.specs.declared.instr.Instr.{Instr}
use Rattle.x86_table.specs.declared.instr.Instr.TheVariants as instr
use Rattle.x86_table.specs.declared.instr.Pair.TheVariants as pair
use Rattle.x86_table.specs.declared.line.Line.{Line}
use Rattle.x86_table.specs.declared.line.Line.TheVariants.{One, Label, JumpNear}
use Rattle.x86_table.specs.declared.operand.ByteOperand.TheVariants as byte_rm
use Rattle.x86_table.specs.declared.operand.ByteReg.TheVariants as byte
use Rattle.x86_table.specs.declared.operand.Memory.{Memory}
use Rattle.x86_table.specs.declared.operand.Place.TheVariants.{Direct}
use Rattle.x86_table.specs.declared.operand.DataSeg.TheVariants as data_seg
use Rattle.x86_table.specs.declared.operand.SegReg.TheVariants as seg
use Rattle.x86_table.specs.declared.operand.WordOperand.TheVariants as word_rm
use Rattle.x86_table.specs.declared.operand.WordReg.{WordReg}
use Rattle.x86_table.specs.declared.operand.WordReg.TheVariants as word
use Rattle.flat_code.specs.declared.tree.Address.{Address}
use Rattle.flat_code.specs.declared.tree.Address.TheVariants.{Global, Local, Outer, Through}
use Rattle.flat_code.specs.declared.tree.FlatOp.{FlatOp}
use Rattle.flat_code.specs.declared.tree.FlatOp.TheVariants as op
use Rattle.flat_code.specs.declared.tree.FlatResult.{FlatResult}
use Rattle.flat_code.specs.Tree.{Expr, Number, Byte, Word, AddressOf, SegmentOf, VmtOf, Op, Step, StoreByte, StoreWord, Copy, Leave, Call, CallThrough, Runtime, StoreRoutine, Return, Error, Code, End, Do, If, Loop}
use Rattle.flat_code.specs.Program.{Routine}
use Rattle.resident_machine.specs.machine_lines.Straight.{ones}
use Rattle.code_templates.specs.code_lines.Addresses.{Addresses, Context, key_in}
use Rattle.code_templates.specs.code_lines.Operands.{memory_at, load, links, loads, operand_place, operand}
use Rattle.code_templates.specs.code_lines.Expressions.{move, op_code, segment_code, expr_code, args_code}
use Rattle.code_templates.specs.code_lines.Lines.{Around, destination, moved_from, store_byte, put, store_word, store_two, taken_by, taken, given_by, given, call_own, call_own_if, call_code, runtime_code, leave, pointer_at, step_lines, step_pointers, pointers, labels, tested, in_loop, code_lines, enter_frame, leave_frame, make_room, return_code, move_bytes, stack_test_if, prologue, epilogue, framed_lines, routine_lines, within}
use Rattle.code_templates.specs.declared.code_references.marks.MarkedLine.{MarkedLine}
use Rattle.code_templates.specs.code_references.Marks.{bare, plain, moved, with_datum, placed_line}
use Rattle.code_templates.specs.code_references.Unplaced.{in_frame}
use Rattle.code_templates.specs.code_references.Marked.{at_place, marked_loads, address_load, marked_op, marked_expr, marked_args, marked_destination, marked_moved, marked_store_byte, marked_store_word, marked_store_two, marked_taken_by, marked_taken, marked_given_by, marked_given, marked_own, marked_own_if, marked_call, marked_runtime, marked_step, marked_code, marked_stack_test, marked_prologue, marked_epilogue, marked_body, marked_routine, at_body}

abbrev placed : Addresses → Context → Context
placed a x = record x { addresses = a }

ones-append : (is js : List Instr) → ones (is ++ js) ≡ ones is ++ ones js
ones-append [] js = refl
ones-append (i ∷ is) js = ap (λ ls. One i ∷ ls) (ones-append is js)

-- instructions that these come to, lines that they make, and one that a line comes to
record Comes (y : Context) (ms : List MarkedLine) (is : List Instr) : Type 0 where
  pub comes : map (placed_line y) ms ≡ ones is

record Makes (y : Context) (ms : List MarkedLine) (ls : List Line) : Type 0 where
  pub makes : map (placed_line y) ms ≡ ls

record Fills (y : Context) (m : MarkedLine) (i : Instr) : Type 0 where
  pub fills : placed_line y m ≡ One i

plain-comes : (y : Context) (is : List Instr) → Comes y (plain is) is
plain-comes y [] = record { comes = refl }
plain-comes y (i ∷ is) = record { comes = ap (λ z. One i ∷ z) (plain-comes y is).comes }

both : {y : Context} {ms ns : List MarkedLine} {is js : List Instr} → Comes y ms is → Comes y ns js → Comes y (ms ++ ns) (is ++ js)
both {y} {ms} {ns} {is} {js} e f = record { comes = map-append (placed_line y) ms ns ∙ ap (λ z. z ++ map (placed_line y) ns) e.comes ∙ ap (λ z. ones is ++ z) f.comes ∙ sym (ones-append is js) }

first : {y : Context} {m : MarkedLine} {i : Instr} {ms : List MarkedLine} {is : List Instr} → Fills y m i → Comes y ms is → Comes y (m ∷ ms) (i ∷ is)
first {y} {m} {i} {ms} {is} e f = record { comes = ap (λ l. l ∷ map (placed_line y) ms) e.fills ∙ ap (λ z. One i ∷ z) f.comes }

none-come : (y : Context) → Comes y [] []
none-come y = record { comes = refl }

bare-makes : (y : Context) (ls : List Line) → Makes y (bare ls) ls
bare-makes y [] = record { makes = refl }
bare-makes y (l ∷ ls) = record { makes = ap (λ z. l ∷ z) (bare-makes y ls).makes }

beside : {y : Context} {ms ns : List MarkedLine} {ls ks : List Line} → Makes y ms ls → Makes y ns ks → Makes y (ms ++ ns) (ls ++ ks)
beside {y} {ms} {ns} {ls} {ks} e f = record { makes = map-append (placed_line y) ms ns ∙ ap (λ z. z ++ map (placed_line y) ns) e.makes ∙ ap (λ z. ls ++ z) f.makes }

made : {y : Context} {ms : List MarkedLine} {is : List Instr} → Comes y ms is → Makes y ms (ones is)
made e = record { makes = e.comes }

-- ---- operands

links-same : (a : Addresses) (x : Context) (levels : ℕ) → links (in_frame x.far) levels ≡ links (placed a x) levels
links-same a x zero = refl
links-same a x (suc n) = refl

loads-same : (a : Addresses) (x : Context) (at : Address) → loads (in_frame x.far) at ≡ loads (placed a x) at
loads-same a x (Global unit number plus) = refl
loads-same a x (Local at) = refl
loads-same a x (Outer levels at) = links-same a x levels
loads-same a x (Through slot plus) = refl

loads-come : (a : Addresses) (x : Context) (at : Address) → Comes (placed a x) (plain (loads (in_frame x.far) at)) (loads (placed a x) at)
loads-come a x at = record { comes = (plain-comes (placed a x) (loads (in_frame x.far) at)).comes ∙ ap ones (loads-same a x at) }

moved_on : (d plus more : ℕ) → (d + (0 + plus + more) % 65536) % 65536 ≡ (d + plus + more) % 65536
moved_on d plus more = omega arith

place-comes : (a : Addresses) (x : Context) (at : Address) (more : ℕ) (f : Memory → Instr) → ((v : ℕ) (m : Memory) → with_datum v (f m) ≡ f (moved v m)) → Fills (placed a x) (at_place at (f (operand (in_frame x.far) at more))) (f (operand (placed a x) at more))
place-comes a x (Global unit number plus) more f h =
    record {
      fills = ap One (h (a.datum (key_in x unit number)) (memory_at (Direct ((0 + plus + more) % 65536))))
          ∙ ap (λ w. One (f (memory_at (Direct w)))) (moved_on (a.datum (key_in x unit number)) plus more);
    }
place-comes a x (Local at) more f h = record { fills = refl }
place-comes a x (Outer zero at) more f h = record { fills = refl }
place-comes a x (Outer (suc n) at) more f h = record { fills = refl }
place-comes a x (Through slot plus) more f h = record { fills = refl }

address-comes : (a : Addresses) (x : Context) (r : WordReg) (at : Address) → Fills (placed a x) (at_place at (instr.Lea r (memory_at (operand_place (in_frame x.far) at 0)))) (instr.Lea r (memory_at (operand_place (placed a x) at 0)))
address-comes a x r (Global unit number plus) = record { fills = ap (λ w. One (instr.Lea r (memory_at (Direct w)))) (moved_on (a.datum (key_in x unit number)) plus 0) }
address-comes a x r (Local at) = record { fills = refl }
address-comes a x r (Outer zero at) = record { fills = refl }
address-comes a x r (Outer (suc n) at) = record { fills = refl }
address-comes a x r (Through slot plus) = record { fills = refl }

load-comes : (a : Addresses) (x : Context) (r : WordReg) (at : Address) (more : ℕ) → Fills (placed a x) (at_place at (load r (operand (in_frame x.far) at more))) (load r (operand (placed a x) at more))
load-comes a x r at more = place-comes a x at more (load r) (λ v m. refl)

put-comes : (a : Addresses) (x : Context) (r : WordReg) (at : Address) (more : ℕ) → Fills (placed a x) (at_place at (put (in_frame x.far) at more r)) (put (placed a x) at more r)
put-comes a x r at more = place-comes a x at more (λ m. instr.Mov (pair.RmWord (word_rm.Mem m) r)) (λ v m. refl)

byte-comes : (a : Addresses) (x : Context) (at : Address) → Fills (placed a x) (at_place at (instr.Mov (pair.ByteRm byte.Al (byte_rm.Mem (operand (in_frame x.far) at 0))))) (instr.Mov (pair.ByteRm byte.Al (byte_rm.Mem (operand (placed a x) at 0))))
byte-comes a x at = place-comes a x at 0 (λ m. instr.Mov (pair.ByteRm byte.Al (byte_rm.Mem m))) (λ v m. refl)

-- what is loaded, and then one instruction at the place, or two
at-comes : (a : Addresses) (x : Context) (at : Address) {m : MarkedLine} {i : Instr} {ms : List MarkedLine} {is : List Instr} → Fills (placed a x) m i → Comes (placed a x) ms is → Comes (placed a x) (plain (loads (in_frame x.far) at) ++ (m ∷ ms)) (loads (placed a x) at ++ (i ∷ is))
at-comes a x at e f = both (loads-come a x at) (first e f)

-- the address of a place, and what comes behind
lea-comes : (a : Addresses) (x : Context) (r : WordReg) (at : Address) (is : List Instr) → Comes (placed a x) (marked_loads x.far at ++ (at_place at (address_load r x.far at) ∷ plain is)) (loads (placed a x) at ++ (instr.Lea r (memory_at (operand_place (placed a x) at 0)) ∷ is))
lea-comes a x r at is = at-comes a x at (address-comes a x r at) (plain-comes (placed a x) is)

-- ---- expressions

op-comes : (a : Addresses) (x : Context) (o : FlatOp) → Comes (placed a x) (marked_op o) (op_code (placed a x) o)
op-comes a x op.Add = record { comes = refl }
op-comes a x op.Sub = record { comes = refl }
op-comes a x op.Mul = record { comes = refl }
op-comes a x op.MulHigh = record { comes = refl }
op-comes a x op.Div = record { comes = refl }
op-comes a x op.Mod = record { comes = refl }
op-comes a x op.DivUnsigned = record { comes = refl }
op-comes a x op.ModUnsigned = record { comes = refl }
op-comes a x op.And = record { comes = refl }
op-comes a x op.Or = record { comes = refl }
op-comes a x op.Xor = record { comes = refl }
op-comes a x op.Shl = record { comes = refl }
op-comes a x op.Shr = record { comes = refl }
op-comes a x op.Equal = record { comes = refl }
op-comes a x op.Less = record { comes = refl }
op-comes a x op.Below = record { comes = refl }

segment-comes : (a : Addresses) (x : Context) (at : Address) → Comes (placed a x) (plain (segment_code at)) (segment_code at)
segment-comes a x at = plain-comes (placed a x) (segment_code at)

expr-comes : (a : Addresses) (x : Context) (e : Expr) → Comes (placed a x) (marked_expr x.far e) (expr_code (placed a x) e)
expr-comes a x (Number n) = record { comes = refl }
expr-comes a x (Byte at) = at-comes a x at (byte-comes a x at) (plain-comes (placed a x) (instr.MovByte byte.Ah 0 ∷ []))
expr-comes a x (Word at) = at-comes a x at (load-comes a x word.Ax at 0) (none-come (placed a x))
expr-comes a x (AddressOf at) = at-comes a x at (address-comes a x word.Ax at) (none-come (placed a x))
expr-comes a x (SegmentOf at) = both (loads-come a x at) (segment-comes a x at)
expr-comes a x (VmtOf unit number) = record { comes = refl }
expr-comes a x (Op o l r) =
    both (expr-comes a x l)
    (both (plain-comes (placed a x) (instr.Push word.Ax ∷ []))
    (both (expr-comes a x r)
    (both (plain-comes (placed a x) (move word.Cx word.Ax ∷ instr.Pop word.Ax ∷ [])) (op-comes a x o))))

args-come : (a : Addresses) (x : Context) (es : List Expr) → Comes (placed a x) (marked_args x.far es) (args_code (placed a x) es)
args-come a x [] = none-come (placed a x)
args-come a x (e ∷ es) = both (expr-comes a x e) (both (plain-comes (placed a x) (instr.Push word.Ax ∷ [])) (args-come a x es))

-- ---- copies, stores and results

destination-comes : (a : Addresses) (x : Context) (to : Address) → Comes (placed a x) (marked_destination x.far to) (destination (placed a x) to)
destination-comes a x (Global unit number plus) = lea-comes a x word.Di (Global unit number plus) (instr.PushSeg seg.Ds ∷ instr.PopSeg data_seg.Es ∷ [])
destination-comes a x (Local at) = lea-comes a x word.Di (Local at) (instr.PushSeg seg.Ss ∷ instr.PopSeg data_seg.Es ∷ [])
destination-comes a x (Outer levels at) = lea-comes a x word.Di (Outer levels at) (instr.PushSeg seg.Ss ∷ instr.PopSeg data_seg.Es ∷ [])
destination-comes a x (Through slot plus) = record { comes = refl }

moved-comes : (a : Addresses) (x : Context) (from : Address) (bytes : ℕ) → Comes (placed a x) (marked_moved x.far from bytes) (moved_from (placed a x) from bytes)
moved-comes a x (Global unit number plus) bytes = lea-comes a x word.Si (Global unit number plus) (move_bytes None bytes)
moved-comes a x (Local at) bytes = lea-comes a x word.Si (Local at) (move_bytes (Some seg.Ss) bytes)
moved-comes a x (Outer levels at) bytes = lea-comes a x word.Si (Outer levels at) (move_bytes (Some seg.Ss) bytes)
moved-comes a x (Through slot plus) bytes = record { comes = refl }

store_byte-comes : (a : Addresses) (x : Context) (to : Address) → Comes (placed a x) (marked_store_byte x.far to) (store_byte (placed a x) to)
store_byte-comes a x to = at-comes a x to (place-comes a x to 0 (λ m. instr.Mov (pair.RmByte (byte_rm.Mem m) byte.Al)) (λ v m. refl)) (none-come (placed a x))

store_word-comes : (a : Addresses) (x : Context) (to : Address) → Comes (placed a x) (marked_store_word x.far to) (store_word (placed a x) to)
store_word-comes a x to = at-comes a x to (put-comes a x word.Ax to 0) (none-come (placed a x))

store_two-comes : (a : Addresses) (x : Context) (to : Address) → Comes (placed a x) (marked_store_two x.far to) (store_two (placed a x) to)
store_two-comes a x to = at-comes a x to (put-comes a x word.Ax to 0) (first (put-comes a x word.Dx to 2) (none-come (placed a x)))

taken_by-comes : (a : Addresses) (x : Context) (bytes : ℕ) (to : Address) → Comes (placed a x) (marked_taken_by bytes x.far to) (taken_by bytes (placed a x) to)
taken_by-comes a x zero to = store_two-comes a x to
taken_by-comes a x (suc zero) to = store_byte-comes a x to
taken_by-comes a x (suc (suc zero)) to = store_word-comes a x to
taken_by-comes a x (suc (suc (suc n))) to = store_two-comes a x to

taken-comes : (a : Addresses) (x : Context) (result : Option FlatResult) → Comes (placed a x) (marked_taken x.far result) (taken (placed a x) result)
taken-comes a x None = none-come (placed a x)
taken-comes a x (Some result) = taken_by-comes a x result.bytes result.at

two_given-comes : (a : Addresses) (x : Context) (at : Address) → Comes (placed a x) (plain (loads (in_frame x.far) at) ++ (at_place at (load word.Ax (operand (in_frame x.far) at 0)) ∷ at_place at (load word.Dx (operand (in_frame x.far) at 2)) ∷ [])) (loads (placed a x) at ++ (load word.Ax (operand (placed a x) at 0) ∷ load word.Dx (operand (placed a x) at 2) ∷ []))
two_given-comes a x at = at-comes a x at (load-comes a x word.Ax at 0) (first (load-comes a x word.Dx at 2) (none-come (placed a x)))

given_by-comes : (a : Addresses) (x : Context) (bytes : ℕ) (at : Address) → Comes (placed a x) (marked_given_by bytes x.far at) (given_by bytes (placed a x) at)
given_by-comes a x zero at = two_given-comes a x at
given_by-comes a x (suc zero) at = at-comes a x at (byte-comes a x at) (none-come (placed a x))
given_by-comes a x (suc (suc zero)) at = at-comes a x at (load-comes a x word.Ax at 0) (none-come (placed a x))
given_by-comes a x (suc (suc (suc n))) at = two_given-comes a x at

given-comes : (a : Addresses) (x : Context) (result : Option FlatResult) → Comes (placed a x) (marked_given x.far result) (given (placed a x) result)
given-comes a x None = none-come (placed a x)
given-comes a x (Some result) = given_by-comes a x result.bytes result.at

-- ---- calls

own-makes : (y : Context) (far : Bool) (number : ℕ) → Makes y (marked_own far number) (call_own far number)
own-makes y true number = record { makes = refl }
own-makes y false number = record { makes = refl }

own_if-makes : (a : Addresses) (x : Context) (number : ℕ) (r : Option Routine) → Makes (placed a x) (marked_own_if number r) (call_own_if (placed a x) number r)
own_if-makes a x number None = record { makes = refl }
own_if-makes a x number (Some r) = own-makes (placed a x) r.far number

call-makes : (a : Addresses) (x : Context) (unit number : ℕ) → Makes (placed a x) (marked_call x.unit unit number) (call_code (placed a x) unit number)
call-makes a x zero number = own_if-makes a x number (slice_get x.unit.routines number)
call-makes a x (suc k) number = record { makes = refl }

runtime-makes : (a : Addresses) (x : Context) (number : ℕ) → Makes (placed a x) (marked_runtime number) (runtime_code (placed a x) number)
runtime-makes a x zero = record { makes = refl }
runtime-makes a x (suc zero) = record { makes = refl }
runtime-makes a x (suc (suc zero)) = record { makes = refl }
runtime-makes a x (suc (suc (suc zero))) = record { makes = refl }
runtime-makes a x (suc (suc (suc (suc zero)))) = record { makes = refl }
runtime-makes a x (suc (suc (suc (suc (suc n))))) = record { makes = refl }

-- ---- statements

step-makes : (a : Addresses) (x : Context) (around : Around) (pointer : ℕ) (s : Step) → Makes (placed a x) (marked_step x.unit x.far around pointer s) (step_lines (placed a x) around pointer s)
step-makes a x around pointer (StoreByte to value) = made (both (expr-comes a x value) (store_byte-comes a x to))
step-makes a x around pointer (StoreWord to value) = made (both (expr-comes a x value) (store_word-comes a x to))
step-makes a x around pointer (Copy to from bytes) = made (both (destination-comes a x to) (moved-comes a x from bytes))
step-makes a x around pointer (Leave loops) = bare-makes (placed a x) (leave around loops)
step-makes a x around pointer (Call unit number args result) = beside (made (args-come a x args)) (beside (call-makes a x unit number) (made (taken-comes a x result)))
step-makes a x around pointer (CallThrough at args result) =
    beside (made (args-come a x args)) (made (at-comes a x at (place-comes a x at 0 (λ m. instr.CallFarIndirect m) (λ v m. refl)) (taken-comes a x result)))
step-makes a x around pointer (Runtime number args result) = beside (made (args-come a x args)) (beside (runtime-makes a x number) (made (taken-comes a x result)))
step-makes a x around pointer (StoreRoutine to unit number) =
    made (first (load-comes a x word.Ax (pointer_at x pointer) 0) (first (load-comes a x word.Dx (pointer_at x pointer) 2) (store_two-comes a x to)))
step-makes a x around pointer Return = record { makes = refl }
step-makes a x around pointer (Error code) = record { makes = refl }

code-makes : (a : Addresses) (x : Context) (around : Around) (label pointer : ℕ) (c : Code) → Makes (placed a x) (marked_code x.unit x.far around label pointer c) (code_lines (placed a x) around label pointer c)
code-makes a x around label pointer End = record { makes = refl }
code-makes a x around label pointer (Do step next) = beside (step-makes a x around pointer step) (code-makes a x around label (pointer + step_pointers step) next)
code-makes a x around label pointer (If test one other next) =
    beside (made (expr-comes a x test))
    (beside (bare-makes (placed a x) (tested label ++ (JumpNear (label + 1) ∷ Label label ∷ [])))
    (beside (code-makes a x around (label + 3) pointer one)
    (beside (bare-makes (placed a x) (JumpNear (label + 2) ∷ Label (label + 1) ∷ []))
    (beside (code-makes a x around (label + 3 + labels one) (pointer + pointers one) other)
    (beside (bare-makes (placed a x) (Label (label + 2) ∷ [])) (code-makes a x around (label + 3 + labels one + labels other) (pointer + pointers one + pointers other) next))))))
code-makes a x around label pointer (Loop body next) =
    beside (bare-makes (placed a x) (Label label ∷ One instr.Cld ∷ []))
    (beside (code-makes a x (in_loop around (label + 1)) (label + 2) pointer body)
    (beside (bare-makes (placed a x) (JumpNear label ∷ Label (label + 1) ∷ [])) (code-makes a x around (label + 2 + labels body) (pointer + pointers body) next)))

-- ---- routines

stack_test-comes : (a : Addresses) (x : Context) (r : Routine) (frame : ℕ) → Comes (placed a x) (marked_stack_test r frame) (stack_test_if (placed a x) r frame)
stack_test-comes a x r zero = none-come (placed a x)
stack_test-comes a x r (suc n) = record { comes = refl }

prologue-comes : (a : Addresses) (x : Context) (r : Routine) → Comes (placed a x) (marked_prologue r) (prologue (placed a x) r)
prologue-comes a x r = both (plain-comes (placed a x) (enter_frame r.far)) (both (stack_test-comes a x r r.frame) (plain-comes (placed a x) (make_room r ∷ [])))

epilogue-comes : (a : Addresses) (x : Context) (r : Routine) → x.far ≡ r.far → Comes (placed a x) (marked_epilogue r) (epilogue (placed a x) r)
epilogue-comes a x r same =
    let one : Comes (placed a x) (marked_given r.far r.result) (given (placed a x) r.result) = subst (λ far. Comes (placed a x) (marked_given far r.result) (given (placed a x) r.result)) same (given-comes a x r.result) in
    both one (plain-comes (placed a x) (leave_frame r.far ++ (return_code r.far r.arguments ∷ [])))

body-makes : (a : Addresses) (x : Context) (pointer : ℕ) (r : Routine) → x.far ≡ r.far → Makes (placed a x) (marked_body x.unit pointer r) (code_lines (placed a x) (at_body x.unit) (length x.unit.routines + 1) pointer r.body ++ (Label (length x.unit.routines) ∷ []))
body-makes a x pointer r same =
    let here = at_body x.unit in
    let label = length x.unit.routines + 1 in
    let lines = code_lines (placed a x) here label pointer r.body in
    let one : Makes (placed a x) (marked_code x.unit r.far here label pointer r.body) lines = subst (λ far. Makes (placed a x) (marked_code x.unit far here label pointer r.body) lines) same (code-makes a x here label pointer r.body) in
    beside one (bare-makes (placed a x) (Label (length x.unit.routines) ∷ []))

framed-makes : (a : Addresses) (x : Context) (pointer : ℕ) (r : Routine) → x.far ≡ r.far → map (placed_line (placed a x)) (marked_routine x.unit pointer r) ≡ framed_lines (placed a x) pointer r
framed-makes a x pointer r same =
    let code = code_lines (placed a x) (at_body x.unit) (length x.unit.routines + 1) pointer r.body in
    (beside (made (prologue-comes a x r)) (beside (body-makes a x pointer r same) (made (epilogue-comes a x r same)))).makes
    ∙ ap (λ z. ones (prologue (placed a x) r) ++ z) (append_assoc code (Label (length x.unit.routines) ∷ []) (ones (epilogue (placed a x) r)))

pub routine-makes : (a : Addresses) (x : Context) (pointer : ℕ) (r : Routine) → map (placed_line (within (record x { addresses = a }) r)) (marked_routine x.unit pointer r) ≡ routine_lines (record x { addresses = a }) pointer r
routine-makes a x pointer r = framed-makes a (within x r) pointer r refl
