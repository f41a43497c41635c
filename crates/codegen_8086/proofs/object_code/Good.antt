-- The lines of a routine that refer to something have the instructions that go with it, and its labels lie above those of the unit's routines.
use Rattle.std.proofs.Common.{arith, ◌≡◌, ℕ, zero, suc, ◌+◌, ◌%◌, ◌<◌, ◌≤◌, Bool, true, false, List, [], ◌∷◌, ◌++◌, length, Option, Some, None, slice_get, refl}
use Rattle.std.specs.Prelude.{slice_index_or}
use Rattle.std.proofs.lemmas.Option.{slice_get_within}
use Rattle.x86_table.specs.declared.instr.Cond.TheVariants as cond
use Rattle.x86_table.specs.declared.instr.Instr.{Instr}
use Rattle.x86_table.specs.declared.instr.Instr.TheVariants as instr
use Rattle.x86_table.specs.declared.instr.Pair.TheVariants as pair
use Rattle.x86_table.specs.declared.instr.UnaryOp.TheVariants as unary
use Rattle.x86_table.specs.declared.line.Line.{Line}
use Rattle.x86_table.specs.declared.line.Line.TheVariants.{One, Label, JumpShort, JumpNear, CallNear}
use Rattle.x86_table.specs.declared.operand.ByteOperand.TheVariants as byte_rm
use Rattle.x86_table.specs.declared.operand.ByteReg.{ByteReg}
use Rattle.x86_table.specs.declared.operand.ByteReg.TheVariants as byte
use Rattle.x86_table.specs.declared.operand.DataSeg.TheVariants as data_seg
use Rattle.x86_table.specs.declared.operand.Memory.{Memory}
use Rattle.x86_table.specs.declared.operand.Place.TheVariants.{Direct}
use Rattle.x86_table.specs.declared.operand.SegReg.{SegReg}
use Rattle.x86_table.specs.declared.operand.SegReg.TheVariants as seg
use Rattle.x86_table.specs.declared.operand.WordOperand.TheVariants as word_rm
use Rattle.x86_table.specs.declared.operand.WordReg.{WordReg}
use Rattle.x86_table.specs.declared.operand.WordReg.TheVariants as word
use Rattle.flat_code.specs.declared.tree.Address.{Address}
use Rattle.flat_code.specs.declared.tree.Address.TheVariants.{Global, Local, Outer, Through}
use Rattle.flat_code.specs.declared.tree.FlatOp.{FlatOp}
use Rattle.flat_code.specs.declared.tree.FlatOp.TheVariants as op
use Rattle.flat_code.specs.declared.tree.FlatResult.{FlatResult}
use Rattle.flat_code.specs.Program.{Routine, UnitCode}
use Rattle.flat_code.specs.Tree.{Expr, Number, Byte, Word, AddressOf, SegmentOf, VmtOf, Op, Step, StoreByte, StoreWord, Copy, Leave, Call, CallThrough, Runtime, StoreRoutine, Return, Error, Code, End, Do, If, Loop}
use Rattle.code_templates.specs.code_lines.Operands.{memory_at, loads, operand}
use Rattle.code_templates.specs.code_lines.Expressions.{move, on_word, negative, magnitudes, signed_by, segment_code, op_code}
use Rattle.code_templates.specs.code_lines.Lines.{Around, move_bytes, write_code, read_code, end_code, leave, step_pointers, pointers, labels, tested, in_loop, enter_frame, leave_frame, make_room, return_code}
use Rattle.code_templates.specs.declared.code_references.marks.MarkedLine.{MarkedLine}
use Rattle.code_templates.specs.declared.code_references.marks.Target.{Target}
use Rattle.code_templates.specs.declared.code_references.marks.Target.TheVariants as to
use Rattle.code_templates.specs.code_references.Marks.{bare, plain}
use Rattle.code_templates.specs.code_references.Marked.{at_place, address_load, divided, compare_sp, marked_fail, marked_tested, marked_op, marked_expr, marked_args, destination_in, marked_destination, moved_by, marked_moved, marked_store_byte, marked_store_word, marked_store_two, marked_taken_by, marked_taken, marked_given_by, marked_given, marked_own, marked_own_if, marked_call, marked_runtime, marked_through, pointer_datum, marked_step, marked_code, at_body, marked_stack_test, marked_prologue, marked_epilogue, marked_body, marked_routine, marked_loads}
use Rattle.code_templates.specs.code_references.Unplaced.{in_frame}

-- the instructions that have an operand at a place
pub data Form : Type 0 where
  ByteStored : (r : ByteReg) → Form
  WordStored : (r : WordReg) → Form
  ByteLoaded : (r : ByteReg) → Form
  WordLoaded : (r : WordReg) → Form
  AddressLoaded : (r : WordReg) → Form
  Called : Form

abbrev pub formed : Form → Memory → Instr
formed (ByteStored r) m = instr.Mov (pair.RmByte (byte_rm.Mem m) r)
formed (WordStored r) m = instr.Mov (pair.RmWord (word_rm.Mem m) r)
formed (ByteLoaded r) m = instr.Mov (pair.ByteRm r (byte_rm.Mem m))
formed (WordLoaded r) m = instr.Mov (pair.WordRm r (word_rm.Mem m))
formed (AddressLoaded r) m = instr.Lea r m
formed Called m = instr.CallFarIndirect m

-- the instruction goes with what it refers to, in a unit with so many routines
abbrev pub Refers : ℕ → Target → Instr → Type 0
Refers k (to.Datum unit number) i = (f : Form) × (d : ℕ) × (i ≡ formed f (memory_at (Direct d)))
Refers k (to.Table unit number) i = (r : WordReg) × (v : ℕ) × (i ≡ instr.MovWord r v)
Refers k (to.Routine unit number) i = i ≡ instr.CallFar 0 0
Refers k (to.OwnRoutine number) i = (number < k) × (i ≡ instr.CallNear 0)
Refers k (to.Runtime number) i = (n : ℕ) × (number ≡ 5 + n) × (i ≡ instr.CallFar 0 0)
Refers k to.ErrorRoutine i = i ≡ instr.JumpFar 0 0
Refers k to.ClearRoutine i = i ≡ instr.CallFar 0 0
Refers k to.FlagRoutine i = i ≡ instr.CallFar 0 0

abbrev pub IsGood : ℕ → Option Target → Line → Type 0
IsGood k None (One i) = Unit {0}
IsGood k None (Label l) = k ≤ l
IsGood k None (JumpShort c l) = k ≤ l
IsGood k None (JumpNear l) = k ≤ l
IsGood k None (CallNear l) = ⊥
IsGood k (Some t) (One i) = Refers k t i
IsGood k (Some t) (Label l) = ⊥
IsGood k (Some t) (JumpShort c l) = ⊥
IsGood k (Some t) (JumpNear l) = ⊥
IsGood k (Some t) (CallNear l) = ⊥

abbrev pub AllGood : ℕ → List MarkedLine → Type 0
AllGood k [] = Unit {0}
AllGood k (m ∷ ms) = IsGood k m.target m.line × AllGood k ms

-- lines, and one line, that are good
pub record AreGood (k : ℕ) (ms : List MarkedLine) : Type 0 where
  pub all : AllGood k ms

record GoodLine (k : ℕ) (m : MarkedLine) : Type 0 where
  good : IsGood k m.target m.line

append-good : (k : ℕ) (ms ns : List MarkedLine) → AllGood k ms → AllGood k ns → AllGood k (ms ++ ns)
append-good k [] ns g h = h
append-good k (m ∷ ms) ns g h = (g.0, append-good k ms ns g.1 h)

both : {k : ℕ} {ms ns : List MarkedLine} → AreGood k ms → AreGood k ns → AreGood k (ms ++ ns)
both {k} {ms} {ns} g h = record { all = append-good k ms ns g.all h.all }

first : {k : ℕ} {m : MarkedLine} {ms : List MarkedLine} → GoodLine k m → AreGood k ms → AreGood k (m ∷ ms)
first g h = record { all = (g.good, h.all) }

none-good : (k : ℕ) → AreGood k []
none-good k = record { all = tt }

plain-all : (k : ℕ) (is : List Instr) → AllGood k (plain is)
plain-all k [] = tt
plain-all k (i ∷ is) = (tt, plain-all k is)

plain-good : (k : ℕ) (is : List Instr) → AreGood k (plain is)
plain-good k is = record { all = plain-all k is }

place-good : (k : ℕ) (far : Bool) (at : Address) (f : Form) (more : ℕ) → GoodLine k (at_place at (formed f (operand (in_frame far) at more)))
place-good k far (Global unit number plus) f more = record { good = (f, (0 + plus + more) % 65536, refl) }
place-good k far (Local at) f more = record { good = tt }
place-good k far (Outer levels at) f more = record { good = tt }
place-good k far (Through slot plus) f more = record { good = tt }

address-good : (k : ℕ) (far : Bool) (at : Address) (r : WordReg) → GoodLine k (at_place at (address_load r far at))
address-good k far (Global unit number plus) r = record { good = (AddressLoaded r, (0 + plus + 0) % 65536, refl) }
address-good k far (Local at) r = record { good = tt }
address-good k far (Outer levels at) r = record { good = tt }
address-good k far (Through slot plus) r = record { good = tt }

loads-good : (k : ℕ) (far : Bool) (at : Address) → AreGood k (marked_loads far at)
loads-good k far at = plain-good k (loads (in_frame far) at)

-- ---- expressions

fail-good : (k code : ℕ) → AreGood k (marked_fail code)
fail-good k code = record { all = (tt, (refl, tt)) }

tested-good : (k : ℕ) → AreGood k marked_tested
tested-good k = record { all = (tt, (tt, (tt, (refl, tt)))) }

op-good : (k : ℕ) (o : FlatOp) → AreGood k (marked_op o)
op-good k op.Add = plain-good k (op_code (in_frame false) op.Add)
op-good k op.Sub = plain-good k (op_code (in_frame false) op.Sub)
op-good k op.Mul = plain-good k (op_code (in_frame false) op.Mul)
op-good k op.MulHigh = plain-good k (op_code (in_frame false) op.MulHigh)
op-good k op.Div =
    both (plain-good k (move word.Bx word.Ax ∷ []))
    (both (tested-good k) (plain-good k (instr.JumpShort cond.NoSign 4 ∷ on_word unary.Neg word.Cx ∷ on_word unary.Not word.Bx ∷ (magnitudes ++ signed_by))))
op-good k op.Mod = both (plain-good k (move word.Bx word.Ax ∷ [])) (both (tested-good k) (plain-good k (negative word.Cx ++ (magnitudes ++ (move word.Ax word.Dx ∷ signed_by)))))
op-good k op.DivUnsigned = both (tested-good k) (plain-good k divided)
op-good k op.ModUnsigned = both (tested-good k) (plain-good k (divided ++ (move word.Ax word.Dx ∷ [])))
op-good k op.And = plain-good k (op_code (in_frame false) op.And)
op-good k op.Or = plain-good k (op_code (in_frame false) op.Or)
op-good k op.Xor = plain-good k (op_code (in_frame false) op.Xor)
op-good k op.Shl = plain-good k (op_code (in_frame false) op.Shl)
op-good k op.Shr = plain-good k (op_code (in_frame false) op.Shr)
op-good k op.Equal = plain-good k (op_code (in_frame false) op.Equal)
op-good k op.Less = plain-good k (op_code (in_frame false) op.Less)
op-good k op.Below = plain-good k (op_code (in_frame false) op.Below)

abbrev pushed : List Instr
pushed = instr.Push word.Ax ∷ []

expr-good : (k : ℕ) (far : Bool) (e : Expr) → AreGood k (marked_expr far e)
expr-good k far (Number n) = plain-good k (instr.MovWord word.Ax n ∷ [])
expr-good k far (Byte at) = both (loads-good k far at) (first (place-good k far at (ByteLoaded byte.Al) 0) (plain-good k (instr.MovByte byte.Ah 0 ∷ [])))
expr-good k far (Word at) = both (loads-good k far at) (first (place-good k far at (WordLoaded word.Ax) 0) (none-good k))
expr-good k far (AddressOf at) = both (loads-good k far at) (first (address-good k far at word.Ax) (none-good k))
expr-good k far (SegmentOf at) = both (loads-good k far at) (plain-good k (segment_code at))
expr-good k far (VmtOf unit number) = record { all = ((word.Ax, 0, refl), tt) }
expr-good k far (Op o a b) =
    both (expr-good k far a) (both (plain-good k pushed) (both (expr-good k far b) (both (plain-good k (move word.Cx word.Ax ∷ instr.Pop word.Ax ∷ [])) (op-good k o))))

args-good : (k : ℕ) (far : Bool) (es : List Expr) → AreGood k (marked_args far es)
args-good k far [] = none-good k
args-good k far (e ∷ es) = both (expr-good k far e) (both (plain-good k pushed) (args-good k far es))

-- ---- copies, stores and results

destination_in-good : (k : ℕ) (s : SegReg) (far : Bool) (at : Address) → AreGood k (destination_in s far at)
destination_in-good k s far at = both (loads-good k far at) (first (address-good k far at word.Di) (plain-good k (instr.PushSeg s ∷ instr.PopSeg data_seg.Es ∷ [])))

destination-good : (k : ℕ) (far : Bool) (at : Address) → AreGood k (marked_destination far at)
destination-good k far (Global unit number plus) = destination_in-good k seg.Ds far (Global unit number plus)
destination-good k far (Local at) = destination_in-good k seg.Ss far (Local at)
destination-good k far (Outer levels at) = destination_in-good k seg.Ss far (Outer levels at)
destination-good k far (Through slot plus) = record { all = (tt, (tt, tt)) }

moved_by-good : (k : ℕ) (s : Option SegReg) (far : Bool) (at : Address) (bytes : ℕ) → AreGood k (moved_by s far at bytes)
moved_by-good k s far at bytes = both (loads-good k far at) (first (address-good k far at word.Si) (plain-good k (move_bytes s bytes)))

moved-good : (k : ℕ) (far : Bool) (at : Address) (bytes : ℕ) → AreGood k (marked_moved far at bytes)
moved-good k far (Global unit number plus) bytes = moved_by-good k None far (Global unit number plus) bytes
moved-good k far (Local at) bytes = moved_by-good k (Some seg.Ss) far (Local at) bytes
moved-good k far (Outer levels at) bytes = moved_by-good k (Some seg.Ss) far (Outer levels at) bytes
moved-good k far (Through slot plus) bytes = record { all = (tt, (tt, (tt, (tt, (tt, (tt, tt)))))) }

store_byte-good : (k : ℕ) (far : Bool) (at : Address) → AreGood k (marked_store_byte far at)
store_byte-good k far at = both (loads-good k far at) (first (place-good k far at (ByteStored byte.Al) 0) (none-good k))

store_word-good : (k : ℕ) (far : Bool) (at : Address) → AreGood k (marked_store_word far at)
store_word-good k far at = both (loads-good k far at) (first (place-good k far at (WordStored word.Ax) 0) (none-good k))

store_two-good : (k : ℕ) (far : Bool) (at : Address) → AreGood k (marked_store_two far at)
store_two-good k far at = both (loads-good k far at) (first (place-good k far at (WordStored word.Ax) 0) (first (place-good k far at (WordStored word.Dx) 2) (none-good k)))

taken_by-good : (k bytes : ℕ) (far : Bool) (at : Address) → AreGood k (marked_taken_by bytes far at)
taken_by-good k zero far at = store_two-good k far at
taken_by-good k (suc zero) far at = store_byte-good k far at
taken_by-good k (suc (suc zero)) far at = store_word-good k far at
taken_by-good k (suc (suc (suc n))) far at = store_two-good k far at

taken-good : (k : ℕ) (far : Bool) (result : Option FlatResult) → AreGood k (marked_taken far result)
taken-good k far None = none-good k
taken-good k far (Some result) = taken_by-good k result.bytes far result.at

two_given-good : (k : ℕ) (far : Bool) (at : Address) → AreGood k (marked_given_by 4 far at)
two_given-good k far at = both (loads-good k far at) (first (place-good k far at (WordLoaded word.Ax) 0) (first (place-good k far at (WordLoaded word.Dx) 2) (none-good k)))

given_by-good : (k bytes : ℕ) (far : Bool) (at : Address) → AreGood k (marked_given_by bytes far at)
given_by-good k zero far at = two_given-good k far at
given_by-good k (suc zero) far at = both (loads-good k far at) (first (place-good k far at (ByteLoaded byte.Al) 0) (none-good k))
given_by-good k (suc (suc zero)) far at = both (loads-good k far at) (first (place-good k far at (WordLoaded word.Ax) 0) (none-good k))
given_by-good k (suc (suc (suc n))) far at = two_given-good k far at

given-good : (k : ℕ) (far : Bool) (result : Option FlatResult) → AreGood k (marked_given far result)
given-good k far None = none-good k
given-good k far (Some result) = given_by-good k result.bytes far result.at

-- ---- calls

own-good : (k : ℕ) (far : Bool) (number : ℕ) → number < k → AreGood k (marked_own far number)
own-good k true number h = record { all = (tt, ((h, refl), tt)) }
own-good k false number h = record { all = ((h, refl), tt) }

own_if-good : (k number : ℕ) (o : Option Routine) → ((r : Routine) → o ≡ Some r → number < k) → AreGood k (marked_own_if number o)
own_if-good k number None h = record { all = (refl, tt) }
own_if-good k number (Some r) h = own-good k r.far number (h r refl)

call-good : (unit : UnitCode) (place number : ℕ) → AreGood (length unit.routines) (marked_call unit place number)
call-good unit zero number = own_if-good (length unit.routines) number (slice_get unit.routines number) (λ r e. slice_get_within unit.routines number r e)
call-good unit (suc n) number = record { all = (refl, tt) }

runtime-good : (k number : ℕ) → AreGood k (marked_runtime number)
runtime-good k zero = plain-good k write_code
runtime-good k (suc zero) = plain-good k read_code
runtime-good k (suc (suc zero)) = plain-good k end_code
runtime-good k (suc (suc (suc zero))) = record { all = (refl, tt) }
runtime-good k (suc (suc (suc (suc zero)))) = record { all = (refl, tt) }
runtime-good k (suc (suc (suc (suc (suc n))))) = record { all = ((n, refl, refl), tt) }

-- ---- statements

abbrev AllAbove : ℕ → List ℕ → Type 0
AllAbove k [] = Unit {0}
AllAbove k (l ∷ ls) = (k ≤ l) × AllAbove k ls

-- the labels around lie above those of the routines
record IsAbove (k : ℕ) (around : Around) : Type 0 where
  home : k ≤ around.home
  ends : AllAbove k around.ends

end-above : (k : ℕ) (ends : List ℕ) (n home : ℕ) → AllAbove k ends → k ≤ home → k ≤ slice_index_or ends n home
end-above k [] n home h g = g
end-above k (l ∷ ls) zero home h g = h.0
end-above k (l ∷ ls) (suc n) home h g = end-above k ls n home h.1 g

leave-good : (k : ℕ) (around : Around) (n : ℕ) → IsAbove k around → AreGood k (bare (leave around n))
leave-good k around zero h = none-good k
leave-good k around (suc n) h = record { all = (end-above k around.ends n around.home h.ends h.home, tt) }

through-good : (k : ℕ) (far : Bool) (at : Address) (result : Option FlatResult) → AreGood k (marked_through far at result)
through-good k far at result = both (loads-good k far at) (first (place-good k far at Called 0) (taken-good k far result))

step-good : (unit : UnitCode) (far : Bool) (around : Around) (pointer : ℕ) (s : Step) → IsAbove (length unit.routines) around → AreGood (length unit.routines) (marked_step unit far around pointer s)
step-good unit far around pointer (StoreByte at value) h = both (expr-good (length unit.routines) far value) (store_byte-good (length unit.routines) far at)
step-good unit far around pointer (StoreWord at value) h = both (expr-good (length unit.routines) far value) (store_word-good (length unit.routines) far at)
step-good unit far around pointer (Copy at from bytes) h = both (destination-good (length unit.routines) far at) (moved-good (length unit.routines) far from bytes)
step-good unit far around pointer (Leave loops) h = leave-good (length unit.routines) around loops h
step-good unit far around pointer (Call place number args result) h =
    both (args-good (length unit.routines) far args) (both (call-good unit place number) (taken-good (length unit.routines) far result))
step-good unit far around pointer (CallThrough at args result) h = both (args-good (length unit.routines) far args) (through-good (length unit.routines) far at result)
step-good unit far around pointer (Runtime number args result) h =
    both (args-good (length unit.routines) far args) (both (runtime-good (length unit.routines) number) (taken-good (length unit.routines) far result))
step-good unit far around pointer (StoreRoutine at place number) h =
    let k = length unit.routines in
    let datum = Global 0 (pointer_datum unit pointer) 0 in
    first (place-good k far datum (WordLoaded word.Ax) 0) (first (place-good k far datum (WordLoaded word.Dx) 2) (store_two-good k far at))
step-good unit far around pointer Return h = record { all = (h.home, tt) }
step-good unit far around pointer (Error code) h = fail-good (length unit.routines) code

code-good : (unit : UnitCode) (far : Bool) (around : Around) (label pointer : ℕ) (c : Code) → IsAbove (length unit.routines) around → length unit.routines ≤ label → AreGood (length unit.routines) (marked_code unit far around label pointer c)
code-good unit far around label pointer End h g = none-good (length unit.routines)
code-good unit far around label pointer (Do step next) h g =
    both (step-good unit far around pointer step h) (code-good unit far around label (pointer + step_pointers step) next h g)
code-good unit far around label pointer (If test taken other next) h g =
    let k = length unit.routines in
    let head : AreGood k (bare (tested label ++ (JumpNear (label + 1) ∷ Label label ∷ []))) = record { all = (tt, (g, (omega (arith, g), (g, tt)))) } in
    let middle : AreGood k (bare (JumpNear (label + 2) ∷ Label (label + 1) ∷ [])) = record { all = (omega (arith, g), (omega (arith, g), tt)) } in
    let last : AreGood k (bare (Label (label + 2) ∷ [])) = record { all = (omega (arith, g), tt) } in
    both (expr-good k far test)
    (both head
    (both (code-good unit far around (label + 3) pointer taken h (omega (arith, g)))
    (both middle
    (both (code-good unit far around (label + 3 + labels taken) (pointer + pointers taken) other h (omega (arith, g)))
    (both last (code-good unit far around (label + 3 + labels taken + labels other) (pointer + pointers taken + pointers other) next h (omega (arith, g))))))))
code-good unit far around label pointer (Loop body next) h g =
    let k = length unit.routines in
    let head : AreGood k (bare (Label label ∷ One instr.Cld ∷ [])) = record { all = (g, (tt, tt)) } in
    let last : AreGood k (bare (JumpNear label ∷ Label (label + 1) ∷ [])) = record { all = (g, (omega (arith, g), tt)) } in
    let inner : IsAbove k (in_loop around (label + 1)) = record { home = h.home; ends = (omega (arith, g), h.ends) } in
    both head
    (both (code-good unit far (in_loop around (label + 1)) (label + 2) pointer body inner (omega (arith, g)))
    (both last (code-good unit far around (label + 2 + labels body) (pointer + pointers body) next h (omega (arith, g)))))

-- ---- routines

stack_test-good : (k : ℕ) (r : Routine) (frame : ℕ) → AreGood k (marked_stack_test r frame)
stack_test-good k r zero = none-good k
stack_test-good k r (suc n) = both (plain-good k (compare_sp r ∷ instr.JumpShort cond.AboveOrEqual 8 ∷ [])) (fail-good k 202)

pub routine-good : (unit : UnitCode) (pointer : ℕ) (r : Routine) → AreGood (length unit.routines) (marked_routine unit pointer r)
routine-good unit pointer r =
    let k = length unit.routines in
    let around : IsAbove k (at_body unit) = record { home = omega arith; ends = tt } in
    let prologue : AreGood k (marked_prologue r) = both (plain-good k (enter_frame r.far)) (both (stack_test-good k r r.frame) (plain-good k (make_room r ∷ []))) in
    let last : AreGood k (bare (Label k ∷ [])) = record { all = (omega arith, tt) } in
    let body : AreGood k (marked_body unit pointer r) = both (code-good unit r.far (at_body unit) (k + 1) pointer r.body around (omega arith)) last in
    let epilogue : AreGood k (marked_epilogue r) = both (given-good k r.far r.result) (plain-good k (leave_frame r.far ++ (return_code r.far r.arguments ∷ []))) in
    both prologue (both body epilogue)
