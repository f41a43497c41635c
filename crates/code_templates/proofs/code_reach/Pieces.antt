-- The short jumps of statements and routines.
use Rattle.std.proofs.Common.{ℕ, zero, suc, ◌+◌, Bool, true, false, List, [], ◌∷◌, ◌++◌, length, Option, Some, None, refl}
use Rattle.std.specs.Prelude.{slice_get}
use Rattle.x86_table.specs.declared.instr.Instr.TheVariants as instr
use Rattle.x86_table.specs.declared.line.Line.{Line}
use Rattle.x86_table.specs.declared.line.Line.TheVariants.{One, Label, JumpNear}
use Rattle.x86_table.specs.Lines.{ShortJumpsReach}
use Rattle.flat_code.specs.Program.{Routine}
use Rattle.flat_code.specs.Tree.{Step, StoreByte, StoreWord, Copy, Leave, Call, CallThrough, Runtime, StoreRoutine, Return, Error, Code, End, Do, If, Loop}
use Rattle.resident_machine.specs.machine_lines.Straight.{ones}
use Rattle.code_templates.specs.code_lines.Addresses.{Context}
use Rattle.code_templates.specs.code_lines.Expressions.{expr_code, args_code, fail}
use Rattle.code_templates.specs.code_lines.Lines.{destination, moved_from, store_byte, store_word, taken, call_own, call_own_if, call_code, write_code, read_code, end_code, runtime_code, Around, leave, store_routine, step_lines, step_pointers, pointers, labels, tested, in_loop, code_lines, prologue, epilogue, within, routine_lines}
use Rattle.code_templates.specs.code_lines.Operands.{loads, operand}
use Rattle.code_templates.proofs.code_labels.Labels.{routine_once}
use Rattle.code_templates.proofs.code_reach.Followed.{IsFollowed, followed_ones, followed_append, followed_reach}

own_followed : (far : Bool) (number : ℕ) → IsFollowed (call_own far number)
unfolding IsFollowed
own_followed true number = tt
own_followed false number = tt

own_if_followed : (x : Context) (number : ℕ) (r : Option Routine) → IsFollowed (call_own_if x number r)
unfolding IsFollowed
own_if_followed x number None = tt
own_if_followed x number (Some r) = own_followed r.far number

call_followed : (x : Context) (unit number : ℕ) → IsFollowed (call_code x unit number)
unfolding IsFollowed
call_followed x zero number = own_if_followed x number (slice_get x.unit.routines number)
call_followed x (suc unit) number = tt

runtime_followed : (x : Context) (number : ℕ) → IsFollowed (runtime_code x number)
unfolding IsFollowed
runtime_followed x zero = followed_ones write_code
runtime_followed x (suc zero) = followed_ones read_code
runtime_followed x (suc (suc zero)) = followed_ones end_code
runtime_followed x (suc (suc (suc zero))) = tt
runtime_followed x (suc (suc (suc (suc zero)))) = tt
runtime_followed x (suc (suc (suc (suc (suc n))))) = tt

leave_followed : (around : Around) (loops : ℕ) → IsFollowed (leave around loops)
unfolding IsFollowed
leave_followed around zero = tt
leave_followed around (suc loops) = tt

jump_followed : (home : ℕ) → IsFollowed (JumpNear home ∷ [])
unfolding IsFollowed
jump_followed home = tt

step_followed : (x : Context) (around : Around) (pointer : ℕ) (step : Step) → IsFollowed (step_lines x around pointer step)
step_followed x around pointer (StoreByte to value) = followed_ones (expr_code x value ++ store_byte x to)
step_followed x around pointer (StoreWord to value) = followed_ones (expr_code x value ++ store_word x to)
step_followed x around pointer (Copy to from bytes) = followed_ones (destination x to ++ moved_from x from bytes)
step_followed x around pointer (Leave loops) = leave_followed around loops
step_followed x around pointer (Call unit number args result) =
    followed_append (ones (args_code x args)) (call_code x unit number ++ ones (taken x result)) (followed_ones (args_code x args))
    (followed_append (call_code x unit number) (ones (taken x result)) (call_followed x unit number) (followed_ones (taken x result)))
step_followed x around pointer (CallThrough at args result) =
    followed_append (ones (args_code x args)) (ones (loads x at ++ (instr.CallFarIndirect (operand x at 0) ∷ taken x result))) (followed_ones (args_code x args))
    (followed_ones (loads x at ++ (instr.CallFarIndirect (operand x at 0) ∷ taken x result)))
step_followed x around pointer (Runtime number args result) =
    followed_append (ones (args_code x args)) (runtime_code x number ++ ones (taken x result)) (followed_ones (args_code x args))
    (followed_append (runtime_code x number) (ones (taken x result)) (runtime_followed x number) (followed_ones (taken x result)))
step_followed x around pointer (StoreRoutine to unit number) = followed_ones (store_routine x pointer to)
step_followed x around pointer Return = jump_followed around.home
step_followed x around pointer (Error code) = followed_ones (fail x code)

-- the test of an If, and what follows
tested_followed : (label to : ℕ) (rest : List Line) → IsFollowed rest → IsFollowed (tested label ++ (JumpNear to ∷ Label label ∷ rest))
unfolding IsFollowed
tested_followed label to rest f = (record { to = to; rest = rest; is = refl }, f)

jump_label_followed : (to label : ℕ) (rest : List Line) → IsFollowed rest → IsFollowed (JumpNear to ∷ Label label ∷ rest)
unfolding IsFollowed
jump_label_followed to label rest f = f

label_followed : (label : ℕ) (rest : List Line) → IsFollowed rest → IsFollowed (Label label ∷ rest)
unfolding IsFollowed
label_followed label rest f = f

head_followed : (label : ℕ) (rest : List Line) → IsFollowed rest → IsFollowed (Label label ∷ One instr.Cld ∷ rest)
unfolding IsFollowed
head_followed label rest f = f

empty_followed : IsFollowed []
unfolding IsFollowed
empty_followed = tt

code_followed : (x : Context) (around : Around) (label pointer : ℕ) (code : Code) → IsFollowed (code_lines x around label pointer code)
code_followed x around label pointer End = empty_followed
code_followed x around label pointer (Do step next) =
    followed_append (step_lines x around pointer step) (code_lines x around label (pointer + step_pointers step) next) (step_followed x around pointer step)
    (code_followed x around label (pointer + step_pointers step) next)
code_followed x around label pointer (If test taken other next) =
    let p2 = pointer + pointers taken in
    let p3 = pointer + pointers taken + pointers other in
    let n2 = label + 3 + labels taken in
    let n3 = label + 3 + labels taken + labels other in
    let ls = code_lines x around (label + 3) pointer taken in
    let bs = code_lines x around n2 p2 other in
    let cs = code_lines x around n3 p3 next in
    let tail = Label (label + 2) ∷ cs in
    let second = JumpNear (label + 2) ∷ Label (label + 1) ∷ (bs ++ tail) in
    let third = label_followed (label + 2) cs (code_followed x around n3 p3 next) in
    let f2 = jump_label_followed (label + 2) (label + 1) (bs ++ tail) (followed_append bs tail (code_followed x around n2 p2 other) third) in
    let f1 = tested_followed label (label + 1) (ls ++ second) (followed_append ls second (code_followed x around (label + 3) pointer taken) f2) in
    followed_append (ones (expr_code x test)) (tested label ++ (JumpNear (label + 1) ∷ Label label ∷ (ls ++ second))) (followed_ones (expr_code x test)) f1
code_followed x around label pointer (Loop body next) =
    let p2 = pointer + pointers body in
    let n2 = label + 2 + labels body in
    let ls = code_lines x (in_loop around (label + 1)) (label + 2) pointer body in
    let cs = code_lines x around n2 p2 next in
    let tail = JumpNear label ∷ Label (label + 1) ∷ cs in
    let f2 = jump_label_followed label (label + 1) cs (code_followed x around n2 p2 next) in
    head_followed label (ls ++ tail) (followed_append ls tail (code_followed x (in_loop around (label + 1)) (label + 2) pointer body) f2)

routine_followed : (x : Context) (pointer : ℕ) (r : Routine) → IsFollowed (routine_lines x pointer r)
routine_followed x pointer r =
    let y = within x r in
    let home = length x.unit.routines in
    let around : Around = record { home = home; ends = [] } in
    let body = code_lines y around (home + 1) pointer r.body in
    let end = Label home ∷ ones (epilogue y r) in
    followed_append (ones (prologue y r)) (body ++ end) (followed_ones (prologue y r))
    (followed_append body end (code_followed y around (home + 1) pointer r.body) (label_followed home (ones (epilogue y r)) (followed_ones (epilogue y r))))

pub routine_reaches : (x : Context) (pointer : ℕ) (r : Routine) → ShortJumpsReach (routine_lines x pointer r)
routine_reaches x pointer r = followed_reach [] (routine_lines x pointer r) (routine_followed x pointer r) (routine_once x pointer r)
