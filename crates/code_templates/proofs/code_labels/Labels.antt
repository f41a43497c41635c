-- The labels of statements and routines.
use Rattle.std.proofs.Common.{◌≡◌, ℕ, zero, suc, ◌+◌, ◌<◌, ◌≤◌, Bool, true, false, List, [], ◌∷◌, ◌++◌, ⊎_elim, length, Option, Some, None, arith}
use Rattle.std.specs.Prelude.{slice_get}
use Rattle.x86_table.specs.declared.instr.Instr.{Instr}
use Rattle.x86_table.specs.declared.instr.Instr.TheVariants as instr
use Rattle.x86_table.specs.declared.line.Line.{Line}
use Rattle.x86_table.specs.declared.line.Line.TheVariants.{One, Label, JumpNear}
use Rattle.x86_table.specs.Standing.{HasLabel, LabelsAreOnce}
use Rattle.flat_code.specs.Program.{Routine}
use Rattle.flat_code.specs.Tree.{Step, StoreByte, StoreWord, Copy, Leave, Call, CallThrough, Runtime, StoreRoutine, Return, Error, Code, End, Do, If, Loop}
use Rattle.resident_machine.specs.machine_lines.Straight.{ones}
use Rattle.code_templates.specs.code_lines.Addresses.{Context}
use Rattle.code_templates.specs.code_lines.Expressions.{expr_code, args_code, fail}
use Rattle.code_templates.specs.code_lines.Lines.{destination, moved_from, store_byte, store_word, taken, call_own, call_own_if, call_code, write_code, read_code, end_code, runtime_code, Around, leave, store_routine, step_lines, step_pointers, pointers, labels, tested, in_loop, code_lines, prologue, epilogue, framed_lines, within, routine_lines}
use Rattle.code_templates.specs.code_lines.Operands.{loads, operand}
use Rattle.code_templates.proofs.code_labels.Lists.{Within, NoLabels, none_ones, none_append, within_none, within_append, within_label, within_more, has_append, once_none, once_apart, once_behind, once_label}

-- ## Steps have none

own_none : (far : Bool) (number : ℕ) → NoLabels (call_own far number)
unfolding NoLabels
own_none true number l h = h
own_none false number l h = h

own_if_none : (x : Context) (number : ℕ) (r : Option Routine) → NoLabels (call_own_if x number r)
unfolding NoLabels
own_if_none x number None l h = h
own_if_none x number (Some r) l h = own_none r.far number l h

call_none : (x : Context) (unit number : ℕ) → NoLabels (call_code x unit number)
unfolding NoLabels
call_none x zero number l h = own_if_none x number (slice_get x.unit.routines number) l h
call_none x (suc unit) number l h = h

runtime_none : (x : Context) (number : ℕ) → NoLabels (runtime_code x number)
unfolding NoLabels
runtime_none x zero l h = none_ones write_code l h
runtime_none x (suc zero) l h = none_ones read_code l h
runtime_none x (suc (suc zero)) l h = none_ones end_code l h
runtime_none x (suc (suc (suc zero))) l h = h
runtime_none x (suc (suc (suc (suc zero)))) l h = h
runtime_none x (suc (suc (suc (suc (suc n))))) l h = h

leave_none : (around : Around) (loops : ℕ) → NoLabels (leave around loops)
unfolding NoLabels
leave_none around zero l h = h
leave_none around (suc loops) l h = h

jump_none : (home : ℕ) → NoLabels (JumpNear home ∷ [])
unfolding NoLabels
jump_none home l h = h

step_none : (x : Context) (around : Around) (pointer : ℕ) (step : Step) → NoLabels (step_lines x around pointer step)
step_none x around pointer (StoreByte to value) = none_ones (expr_code x value ++ store_byte x to)
step_none x around pointer (StoreWord to value) = none_ones (expr_code x value ++ store_word x to)
step_none x around pointer (Copy to from bytes) = none_ones (destination x to ++ moved_from x from bytes)
step_none x around pointer (Leave loops) = leave_none around loops
step_none x around pointer (Call unit number args result) =
    none_append (ones (args_code x args)) (call_code x unit number ++ ones (taken x result)) (none_ones (args_code x args))
    (none_append (call_code x unit number) (ones (taken x result)) (call_none x unit number) (none_ones (taken x result)))
step_none x around pointer (CallThrough at args result) =
    none_append (ones (args_code x args)) (ones (loads x at ++ (instr.CallFarIndirect (operand x at 0) ∷ taken x result))) (none_ones (args_code x args))
    (none_ones (loads x at ++ (instr.CallFarIndirect (operand x at 0) ∷ taken x result)))
step_none x around pointer (Runtime number args result) =
    none_append (ones (args_code x args)) (runtime_code x number ++ ones (taken x result)) (none_ones (args_code x args))
    (none_append (runtime_code x number) (ones (taken x result)) (runtime_none x number) (none_ones (taken x result)))
step_none x around pointer (StoreRoutine to unit number) = none_ones (store_routine x pointer to)
step_none x around pointer Return = jump_none around.home
step_none x around pointer (Error code) = none_ones (fail x code)

-- ## Lists

jump_within : (low high k : ℕ) (xs : List Line) → Within low high xs → Within low high (JumpNear k ∷ xs)
unfolding Within
jump_within low high k xs w l h = w l h

clear_within : (low high : ℕ) (xs : List Line) → Within low high xs → Within low high (One instr.Cld ∷ xs)
unfolding Within
clear_within low high xs w l h = w l h

empty_within : (low high : ℕ) → Within low high []
unfolding Within
empty_within low high l h = absurd h

tested_none : (label : ℕ) → NoLabels (tested label)
unfolding NoLabels
tested_none label l h = h

pub code_within : (x : Context) (around : Around) (label pointer : ℕ) (code : Code) → Within label (label + labels code) (code_lines x around label pointer code)
code_within x around label pointer End = empty_within label (label + 0)
code_within x around label pointer (Do step next) =
    within_append label (label + labels next) (step_lines x around pointer step) (code_lines x around label (pointer + step_pointers step) next)
    (within_none label (label + labels next) (step_lines x around pointer step) (step_none x around pointer step))
    (code_within x around label (pointer + step_pointers step) next)
code_within x around label pointer (If test taken other next) =
    let high = label + (3 + labels taken + labels other + labels next) in
    let p2 = pointer + pointers taken in
    let p3 = pointer + pointers taken + pointers other in
    let n2 = label + 3 + labels taken in
    let n3 = label + 3 + labels taken + labels other in
    let ls = code_lines x around (label + 3) pointer taken in
    let bs = code_lines x around n2 p2 other in
    let cs = code_lines x around n3 p3 next in
    let wa = within_more (label + 3) (label + 3 + labels taken) label high ls (omega arith) (omega arith) (code_within x around (label + 3) pointer taken) in
    let wb = within_more n2 (n2 + labels other) label high bs (omega arith) (omega arith) (code_within x around n2 p2 other) in
    let wc = within_more n3 (n3 + labels next) label high cs (omega arith) (omega arith) (code_within x around n3 p3 next) in
    let tail = Label (label + 2) ∷ cs in
    let second = JumpNear (label + 2) ∷ Label (label + 1) ∷ (bs ++ tail) in
    let first = JumpNear (label + 1) ∷ Label label ∷ (ls ++ second) in
    let w3 = within_label label high (label + 2) cs (omega arith) (omega arith) wc in
    let w2 = jump_within label high (label + 2) (Label (label + 1) ∷ (bs ++ tail)) (within_label label high (label + 1) (bs ++ tail) (omega arith) (omega arith) (within_append label high bs tail wb w3)) in
    let w1 = jump_within label high (label + 1) (Label label ∷ (ls ++ second)) (within_label label high label (ls ++ second) (omega arith) (omega arith) (within_append label high ls second wa w2)) in
    within_append label high (ones (expr_code x test)) (tested label ++ first) (within_none label high (ones (expr_code x test)) (none_ones (expr_code x test)))
    (within_append label high (tested label) first (within_none label high (tested label) (tested_none label)) w1)
code_within x around label pointer (Loop body next) =
    let high = label + (2 + labels body + labels next) in
    let p2 = pointer + pointers body in
    let n2 = label + 2 + labels body in
    let ls = code_lines x (in_loop around (label + 1)) (label + 2) pointer body in
    let cs = code_lines x around n2 p2 next in
    let wa = within_more (label + 2) (label + 2 + labels body) label high ls (omega arith) (omega arith) (code_within x (in_loop around (label + 1)) (label + 2) pointer body) in
    let wc = within_more n2 (n2 + labels next) label high cs (omega arith) (omega arith) (code_within x around n2 p2 next) in
    let tail = JumpNear label ∷ Label (label + 1) ∷ cs in
    let w2 = jump_within label high label (Label (label + 1) ∷ cs) (within_label label high (label + 1) cs (omega arith) (omega arith) wc) in
    within_label label high label (One instr.Cld ∷ (ls ++ tail)) (omega arith) (omega arith) (clear_within label high (ls ++ tail) (within_append label high ls tail wa w2))

apart_within : (k low high : ℕ) (xs : List Line) → Within low high xs → k < low → HasLabel k xs → ⊥
unfolding Within
apart_within k low high xs w less h = let z = (w k h).0 in absurd (omega arith)

-- a number can't be of both lists where one's are all below the other's
both : (l a b c d : ℕ) (xs ys : List Line) → Within a b xs → Within c d ys → b ≤ c → HasLabel l xs → HasLabel l ys → ⊥
unfolding Within
both l a b c d xs ys v w less g h = let y = (v l g).1 in let z = (w l h).0 in absurd (omega arith)

ones_have : (l : ℕ) (is : List Instr) → HasLabel l (ones is) → ⊥
unfolding NoLabels
ones_have l is h = none_ones is l h

code_once : (x : Context) (around : Around) (label pointer : ℕ) (code : Code) → LabelsAreOnce (code_lines x around label pointer code)
code_once x around label pointer End = tt
code_once x around label pointer (Do step next) =
    once_behind (step_lines x around pointer step) (code_lines x around label (pointer + step_pointers step) next) (step_none x around pointer step)
    (code_once x around label (pointer + step_pointers step) next)
code_once x around label pointer (If test taken other next) =
    let p2 = pointer + pointers taken in
    let p3 = pointer + pointers taken + pointers other in
    let n2 = label + 3 + labels taken in
    let n3 = label + 3 + labels taken + labels other in
    let ls = code_lines x around (label + 3) pointer taken in
    let bs = code_lines x around n2 p2 other in
    let cs = code_lines x around n3 p3 next in
    let wa = code_within x around (label + 3) pointer taken in
    let wb = code_within x around n2 p2 other in
    let wc = code_within x around n3 p3 next in
    let oa = code_once x around (label + 3) pointer taken in
    let ob = code_once x around n2 p2 other in
    let oc = code_once x around n3 p3 next in
    let tail = Label (label + 2) ∷ cs in
    let second = JumpNear (label + 2) ∷ Label (label + 1) ∷ (bs ++ tail) in
    let first = JumpNear (label + 1) ∷ Label label ∷ (ls ++ second) in
    let o3 = once_label (label + 2) n3 (n3 + labels next) cs (omega arith) wc oc in
    let o2 = once_apart bs tail ob o3 (λ l g h. ⊎_elim (λ (e : label + 2 ≡ l). apart_within l n2 (n2 + labels other) bs wb (omega arith) g) (λ z. both l n2 (n2 + labels other) n3 (n3 + labels next) bs cs wb wc (omega arith) g z) h) in
    let w2 = within_append (label + 2) (n3 + labels next) bs tail (within_more n2 (n2 + labels other) (label + 2) (n3 + labels next) bs (omega arith) (omega arith) wb) (within_label (label + 2) (n3 + labels next) (label + 2) cs (omega arith) (omega arith) (within_more n3 (n3 + labels next) (label + 2) (n3 + labels next) cs (omega arith) (omega arith) wc)) in
    let o1 = once_label (label + 1) (label + 2) (n3 + labels next) (bs ++ tail) (omega arith) w2 o2 in
    let o0 = once_apart ls second oa o1 (λ l g h. ⊎_elim (λ (e : label + 1 ≡ l). apart_within l (label + 3) (label + 3 + labels taken) ls wa (omega arith) g)
    (λ z. ⊎_elim (λ y. both l (label + 3) (label + 3 + labels taken) n2 (n2 + labels other) ls bs wa wb (omega arith) g y)
    (λ y. ⊎_elim (λ (e : label + 2 ≡ l). apart_within l (label + 3) (label + 3 + labels taken) ls wa (omega arith) g) (λ v. both l (label + 3) (label + 3 + labels taken) n3 (n3 + labels next) ls cs wa wc (omega arith) g v) y) (has_append l bs tail z)) h) in
    let w1 = within_append (label + 1) (n3 + labels next) ls second (within_more (label + 3) (label + 3 + labels taken) (label + 1) (n3 + labels next) ls (omega arith) (omega arith) wa)
    (jump_within (label + 1) (n3 + labels next) (label + 2) (Label (label + 1) ∷ (bs ++ tail)) (within_label (label + 1) (n3 + labels next) (label + 1) (bs ++ tail) (omega arith) (omega arith) (within_more (label + 2) (n3 + labels next) (label + 1) (n3 + labels next) (bs ++ tail) (omega arith) (omega arith) w2))) in
    let whole = once_label label (label + 1) (n3 + labels next) (ls ++ second) (omega arith) w1 o0 in
    once_behind (ones (expr_code x test)) (tested label ++ first) (none_ones (expr_code x test)) (once_behind (tested label) first (tested_none label) whole)
code_once x around label pointer (Loop body next) =
    let p2 = pointer + pointers body in
    let n2 = label + 2 + labels body in
    let ls = code_lines x (in_loop around (label + 1)) (label + 2) pointer body in
    let cs = code_lines x around n2 p2 next in
    let wa = code_within x (in_loop around (label + 1)) (label + 2) pointer body in
    let wc = code_within x around n2 p2 next in
    let oa = code_once x (in_loop around (label + 1)) (label + 2) pointer body in
    let oc = code_once x around n2 p2 next in
    let tail = JumpNear label ∷ Label (label + 1) ∷ cs in
    let o1 = once_label (label + 1) n2 (n2 + labels next) cs (omega arith) wc oc in
    let o0 = once_apart ls tail oa o1 (λ l g h. ⊎_elim (λ (e : label + 1 ≡ l). apart_within l (label + 2) (label + 2 + labels body) ls wa (omega arith) g) (λ z. both l (label + 2) (label + 2 + labels body) n2 (n2 + labels next) ls cs wa wc (omega arith) g z) h) in
    let w1 = within_append (label + 1) (n2 + labels next) ls tail (within_more (label + 2) (label + 2 + labels body) (label + 1) (n2 + labels next) ls (omega arith) (omega arith) wa)
    (jump_within (label + 1) (n2 + labels next) label (Label (label + 1) ∷ cs) (within_label (label + 1) (n2 + labels next) (label + 1) cs (omega arith) (omega arith) (within_more n2 (n2 + labels next) (label + 1) (n2 + labels next) cs (omega arith) (omega arith) wc))) in
    once_label label (label + 1) (n2 + labels next) (ls ++ tail) (omega arith) w1 o0

-- ## Routines

home_once : (home : ℕ) (is : List Instr) → LabelsAreOnce (Label home ∷ ones is)
unfolding NoLabels
home_once home is = (λ h. none_ones is home h, once_none (ones is) (none_ones is))

framed_once : (x : Context) (pointer : ℕ) (r : Routine) → LabelsAreOnce (framed_lines x pointer r)
framed_once x pointer r =
    let home = length x.unit.routines in
    let around : Around = record { home = home; ends = [] } in
    let body = code_lines x around (home + 1) pointer r.body in
    let end = Label home ∷ ones (epilogue x r) in
    let w = code_within x around (home + 1) pointer r.body in
    once_behind (ones (prologue x r)) (body ++ end) (none_ones (prologue x r))
    (once_apart body end (code_once x around (home + 1) pointer r.body) (home_once home (epilogue x r))
    (λ l g h. ⊎_elim (λ (e : home ≡ l). apart_within l (home + 1) (home + 1 + labels r.body) body w (omega arith) g) (λ z. absurd (ones_have l (epilogue x r) z)) h))

pub routine_once : (x : Context) (pointer : ℕ) (r : Routine) → LabelsAreOnce (routine_lines x pointer r)
routine_once x pointer r = framed_once (within x r) pointer r

pub routine_range : (x : Context) (pointer : ℕ) (r : Routine) (l : ℕ) → HasLabel l (routine_lines x pointer r) → (length x.unit.routines ≤ l) × (l < length x.unit.routines + 1 + labels r.body)
unfolding Within
routine_range x pointer r l h =
    let y = within x r in
    let home = length x.unit.routines in
    let around : Around = record { home = home; ends = [] } in
    let body = code_lines y around (home + 1) pointer r.body in
    let high = home + 1 + labels r.body in
    let wb = within_more (home + 1) high home high body (omega arith) (omega arith) (code_within y around (home + 1) pointer r.body) in
    let we = within_label home high home (ones (epilogue y r)) (omega arith) (omega arith) (within_none home high (ones (epilogue y r)) (none_ones (epilogue y r))) in
    let wp = within_none home high (ones (prologue y r)) (none_ones (prologue y r)) in
    within_append home high (ones (prologue y r)) (body ++ (Label home ∷ ones (epilogue y r))) wp (within_append home high body (Label home ∷ ones (epilogue y r)) wb we) l h
