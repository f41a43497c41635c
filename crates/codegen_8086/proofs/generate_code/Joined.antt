-- The lines of statements one after another, put together from the front.
use Rattle.std.proofs.Common.{arith, ◌≡◌, ℕ, suc, ◌+◌, ◌<◌, ◌≤◌, Bool, List, [], ◌∷◌, ◌++◌, length, get_or, drop, refl, sym, ap, ◌∙◌, append_assoc, length-append}
use Rattle.std.proofs.lemmas.List.{at_drop_all, append-nil}
use Rattle.std.proofs.Math.Seq.{drop-cons}
use Rattle.type_layout.specs.declared.definitions.RoutineId.{RoutineId}
use Rattle.x86_table.specs.declared.instr.Instr.TheVariants as instr
use Rattle.x86_table.specs.declared.line.Line.TheVariants.{One, Label, JumpNear}
use Rattle.flat_code.specs.declared.tree.FlatStmt.{FlatStmt}
use Rattle.flat_code.specs.Program.{UnitCode}
use Rattle.flat_code.specs.Tree.{Expr, Step, StoreByte, StoreWord, Copy, Leave, Call, CallThrough, Runtime, StoreRoutine, Return, Error, Code, End, Do, If, Loop, ◌then◌}
use Rattle.flat_code.specs.View.{view_stmt, view_list}
use Rattle.flat_code.proofs.Rows.{view_stmt-then}
use Rattle.code_templates.specs.code_lines.Lines.{Around, step_pointers, pointers, labels, tested, in_loop}
use Rattle.code_templates.specs.declared.code_references.marks.MarkedLine.{MarkedLine}
use Rattle.code_templates.specs.code_references.Marks.{bare}
use Rattle.code_templates.specs.code_references.Marked.{marked_expr, marked_step, marked_code, step_stored, stored}
use Rattle.codegen_8086.specs.generate_code.Numbering.{Numbering, past, inside, behind_first, outside}

-- the pieces of a statement with two branches, and those of a loop
abbrev test_head : ℕ → List MarkedLine
test_head l = bare (tested l ++ (JumpNear (l + 1) ∷ Label l ∷ []))

abbrev between : ℕ → List MarkedLine
between l = bare (JumpNear (l + 2) ∷ Label (l + 1) ∷ [])

abbrev if_end : ℕ → List MarkedLine
if_end l = bare (Label (l + 2) ∷ [])

abbrev loop_head : ℕ → List MarkedLine
loop_head l = bare (Label l ∷ One instr.Cld ∷ [])

abbrev loop_end : ℕ → List MarkedLine
loop_end l = bare (JumpNear l ∷ Label (l + 1) ∷ [])

seven : (a b c d e f g : List MarkedLine) → (a ++ (b ++ (c ++ (d ++ (e ++ f))))) ++ g ≡ a ++ (b ++ (c ++ (d ++ (e ++ (f ++ g)))))
seven a b c d e f g =
    append_assoc a (b ++ (c ++ (d ++ (e ++ f)))) g
    ∙ ap (λ z. a ++ z) (append_assoc b (c ++ (d ++ (e ++ f))) g
    ∙ ap (λ z. b ++ z) (append_assoc c (d ++ (e ++ f)) g
    ∙ ap (λ z. c ++ z) (append_assoc d (e ++ f) g ∙ ap (λ z. d ++ z) (append_assoc e f g))))

-- ---- one list after another

joined : (unit : UnitCode) (far : Bool) (a : Around) (l p : ℕ) (c d : Code) → marked_code unit far a l p (c then d) ≡ marked_code unit far a l p c ++ marked_code unit far a (l + labels c) (p + pointers c) d
joined unit far a l p End d =
    let e : l ≡ l + 0 = omega arith in
    let f : p ≡ p + 0 = omega arith in
    ap (λ m. marked_code unit far a m p d) e ∙ ap (λ q. marked_code unit far a (l + 0) q d) f
joined unit far a l p (Do step next) d =
    let k = step_pointers step in
    let s = marked_step unit far a p step in
    let n = marked_code unit far a l (p + k) next in
    let e : p + k + pointers next ≡ p + (k + pointers next) = omega arith in
    ap (λ z. s ++ z) (joined unit far a l (p + k) next d)
    ∙ sym (append_assoc s n (marked_code unit far a (l + labels next) (p + k + pointers next) d))
    ∙ ap (λ q. (s ++ n) ++ marked_code unit far a (l + labels next) q d) e
joined unit far a l p (If test taken other next) d =
    let t = marked_expr far test in
    let m = l + 3 + labels taken in
    let n = m + labels other in
    let q = p + pointers taken + pointers other in
    let one = marked_code unit far a (l + 3) p taken in
    let two = marked_code unit far a m (p + pointers taken) other in
    let rest = marked_code unit far a n q next in
    let e : n + labels next ≡ l + (3 + labels taken + labels other + labels next) = omega arith in
    let f : q + pointers next ≡ p + (pointers taken + pointers other + pointers next) = omega arith in
    let whole = t ++ (test_head l ++ (one ++ (between l ++ (two ++ (if_end l ++ rest))))) in
    ap (λ z. t ++ (test_head l ++ (one ++ (between l ++ (two ++ (if_end l ++ z)))))) (joined unit far a n q next d)
    ∙ sym (seven t (test_head l) one (between l) two (if_end l ++ rest) (marked_code unit far a (n + labels next) (q + pointers next) d))
    ∙ ap (λ i. whole ++ marked_code unit far a i (q + pointers next) d) e
    ∙ ap (λ j. whole ++ marked_code unit far a (l + (3 + labels taken + labels other + labels next)) j d) f
joined unit far a l p (Loop body next) d =
    let b = in_loop a (l + 1) in
    let m = l + 2 + labels body in
    let q = p + pointers body in
    let one = marked_code unit far b (l + 2) p body in
    let rest = marked_code unit far a m q next in
    let more = marked_code unit far a (m + labels next) (q + pointers next) d in
    let e : m + labels next ≡ l + (2 + labels body + labels next) = omega arith in
    let f : q + pointers next ≡ p + (pointers body + pointers next) = omega arith in
    let whole = loop_head l ++ (one ++ (loop_end l ++ rest)) in
    ap (λ z. loop_head l ++ (one ++ (loop_end l ++ z))) (joined unit far a m q next d)
    ∙ ap (λ z. loop_head l ++ z) (sym (append_assoc one (loop_end l ++ rest) more))
    ∙ ap (λ i. whole ++ marked_code unit far a i (q + pointers next) d) e
    ∙ ap (λ j. whole ++ marked_code unit far a (l + (2 + labels body + labels next)) j d) f

labels-then : (c d : Code) → labels (c then d) ≡ labels c + labels d
labels-then End d = omega arith
labels-then (Do step next) d = omega (arith, labels-then next d)
labels-then (If test taken other next) d = omega (arith, labels-then next d)
labels-then (Loop body next) d = omega (arith, labels-then next d)

stored-then : (c d : Code) → stored (c then d) ≡ stored c ++ stored d
stored-then End d = refl
stored-then (Do step next) d = ap (λ z. step_stored step ++ z) (stored-then next d) ∙ sym (append_assoc (step_stored step) (stored next) (stored d))
stored-then (If test taken other next) d =
    ap (λ z. stored taken ++ (stored other ++ z)) (stored-then next d)
    ∙ ap (λ z. stored taken ++ z) (sym (append_assoc (stored other) (stored next) (stored d)))
    ∙ sym (append_assoc (stored taken) (stored other ++ stored next) (stored d))
stored-then (Loop body next) d = ap (λ z. stored body ++ z) (stored-then next d) ∙ sym (append_assoc (stored body) (stored next) (stored d))

-- each of these data is one
step_counted : (s : Step) → length (step_stored s) ≡ step_pointers s
step_counted (StoreByte to value) = refl
step_counted (StoreWord to value) = refl
step_counted (Copy to from bytes) = refl
step_counted (Leave loops) = refl
step_counted (Call unit number args result) = refl
step_counted (CallThrough at args result) = refl
step_counted (Runtime number args result) = refl
step_counted (StoreRoutine to unit number) = refl
step_counted Return = refl
step_counted (Error code) = refl

pub counted : (c : Code) → length (stored c) ≡ pointers c
counted End = refl
counted (Do step next) = omega (arith, length-append (step_stored step) (stored next), step_counted step, counted next)
counted (If test taken other next) =
    omega (arith, length-append (stored taken) (stored other ++ stored next), length-append (stored other) (stored next), counted taken, counted other, counted next)
counted (Loop body next) = omega (arith, length-append (stored body) (stored next), counted body, counted next)

-- with what was stored before
passed : (before after : List RoutineId) (c : Code) → after ≡ before ++ stored c → length after ≡ length before + pointers c
passed before after c is = ap length is ∙ omega (arith, length-append before (stored c), counted c)

-- ---- a list of statements from one of them on

cut : (list : List FlatStmt) (i : ℕ) (s : FlatStmt) → i < length list → s ≡ get_or list i s → view_list (drop i list) ≡ view_stmt s End then view_list (drop (i + 1) list)
cut list i s h e =
    let next : suc i ≡ i + 1 = omega arith in
    let whole : drop i list ≡ s ∷ drop (i + 1) list = drop-cons list i s h ∙ ap (λ (y : FlatStmt). y ∷ drop (suc i) list) (sym e) ∙ ap (λ k. s ∷ drop k list) next in
    ap view_list whole ∙ view_stmt-then s (view_list (drop (i + 1) list))

pub labels-at : (list : List FlatStmt) (i : ℕ) (s : FlatStmt) → i < length list → s ≡ get_or list i s → labels (view_list (drop i list)) ≡ labels (view_stmt s End) + labels (view_list (drop (i + 1) list))
labels-at list i s h e = ap labels (cut list i s h e) ∙ labels-then (view_stmt s End) (view_list (drop (i + 1) list))

pub stored-next : (whole old new : List RoutineId) (list : List FlatStmt) (i : ℕ) (s : FlatStmt) → i < length list → s ≡ get_or list i s → whole ≡ old ++ stored (view_list (drop i list)) → new ≡ old ++ stored (view_stmt s End) → whole ≡ new ++ stored (view_list (drop (i + 1) list))
stored-next whole old new list i s h e before step =
    let c = view_stmt s End in
    let d = view_list (drop (i + 1) list) in
    before
    ∙ ap (λ z. old ++ z) (ap stored (cut list i s h e) ∙ stored-then c d)
    ∙ sym (append_assoc old (stored c) (stored d))
    ∙ ap (λ z. z ++ stored d) (sym step)

-- one statement more
pub list-next : (unit : UnitCode) (far : Bool) (a : Around) (whole old new : List MarkedLine) (n m : Numbering) (list : List FlatStmt) (i : ℕ) (s : FlatStmt) → i < length list → s ≡ get_or list i s → n.around ≡ a → whole ≡ old ++ marked_code unit far a n.label (length n.stored) (view_list (drop i list)) → new ≡ old ++ marked_code unit far n.around n.label (length n.stored) (view_stmt s End) → m.label ≡ n.label + labels (view_stmt s End) → m.stored ≡ n.stored ++ stored (view_stmt s End) → whole ≡ new ++ marked_code unit far a m.label (length m.stored) (view_list (drop (i + 1) list))
list-next unit far a whole old new n m list i s h e same before step labelled kept =
    let c = view_stmt s End in
    let p = length n.stored in
    let one = marked_code unit far a n.label p c in
    let rest = view_list (drop (i + 1) list) in
    let two = marked_code unit far a (n.label + labels c) (p + pointers c) rest in
    before
    ∙ ap (λ z. old ++ z) (ap (marked_code unit far a n.label p) (cut list i s h e) ∙ joined unit far a n.label p c rest)
    ∙ sym (append_assoc old one two)
    ∙ ap (λ z. z ++ two) (sym (step ∙ ap (λ b. old ++ marked_code unit far b n.label p c) same))
    ∙ ap (λ l. new ++ marked_code unit far a l (p + pointers c) rest) (sym labelled)
    ∙ ap (λ q. new ++ marked_code unit far a m.label q rest) (sym (passed n.stored m.stored c kept))

-- ---- statements that hold others

six : (s a b c d e f : List MarkedLine) → ((((s ++ (a ++ b)) ++ c) ++ d) ++ e) ++ f ≡ s ++ (a ++ (b ++ (c ++ (d ++ (e ++ f)))))
six s a b c d e f =
    append_assoc (((s ++ (a ++ b)) ++ c) ++ d) e f ∙ append_assoc ((s ++ (a ++ b)) ++ c) d (e ++ f) ∙ append_assoc (s ++ (a ++ b)) c (d ++ (e ++ f))
    ∙ append_assoc s (a ++ b) (c ++ (d ++ (e ++ f))) ∙ ap (λ z. s ++ z) (append_assoc a b (c ++ (d ++ (e ++ f))))

pub if-joined : (unit : UnitCode) (far : Bool) (n m k : Numbering) (first : ℕ) (test : Expr) (taken other : Code) (l0 l2 l3 l4 l5 l6 : List MarkedLine)
    → first ≡ n.label → m ≡ past n 3 → k.around ≡ m.around → k.label ≡ m.label + labels taken → k.stored ≡ m.stored ++ stored taken
    → l2 ≡ l0 ++ (marked_expr far test ++ test_head first)
    → l3 ≡ l2 ++ marked_code unit far m.around m.label (length m.stored) taken
    → l4 ≡ l3 ++ between first
    → l5 ≡ l4 ++ marked_code unit far k.around k.label (length k.stored) other
    → l6 ≡ l5 ++ if_end first
    → l6 ≡ l0 ++ marked_code unit far n.around n.label (length n.stored) (If test taken other End)
if-joined unit far n m k first test taken other l0 l2 l3 l4 l5 l6 is from around label kept e2 e3 e4 e5 e6 =
    let a = n.around in
    let l = n.label in
    let p = length n.stored in
    let t = marked_expr far test in
    let one = marked_code unit far a (l + 3) p taken in
    let two = marked_code unit far a (l + 3 + labels taken) (p + pointers taken) other in
    let f2 : l2 ≡ l0 ++ (t ++ test_head l) = e2 ∙ ap (λ f. l0 ++ (t ++ test_head f)) is in
    let f3 : l3 ≡ l2 ++ one = e3 ∙ ap (λ (v : Numbering). l2 ++ marked_code unit far v.around v.label (length v.stored) taken) from in
    let f4 : l4 ≡ l3 ++ between l = e4 ∙ ap (λ f. l3 ++ between f) is in
    let same : k.around ≡ a = around ∙ ap (λ (v : Numbering). v.around) from in
    let free : k.label ≡ l + 3 + labels taken = label ∙ ap (λ (v : Numbering). v.label + labels taken) from in
    let next : length k.stored ≡ p + pointers taken = passed m.stored k.stored taken kept ∙ ap (λ (v : Numbering). length v.stored + pointers taken) from in
    let f5 : l5 ≡ l4 ++ two = e5 ∙ ap (λ b. l4 ++ marked_code unit far b k.label (length k.stored) other) same ∙ ap (λ q. l4 ++ marked_code unit far a q (length k.stored) other) free ∙ ap (λ q. l4 ++ marked_code unit far a (l + 3 + labels taken) q other) next in
    let f6 : l6 ≡ l5 ++ if_end l = e6 ∙ ap (λ f. l5 ++ if_end f) is in
    f6
    ∙ ap (λ z. z ++ if_end l) (f5 ∙ ap (λ z. z ++ two) (f4 ∙ ap (λ z. z ++ between l) (f3 ∙ ap (λ z. z ++ one) f2)))
    ∙ six l0 t (test_head l) one (between l) two (if_end l)

pub if-labels : (n m k q : Numbering) (test : Expr) (taken other : Code) → m ≡ past n 3 → k.label ≡ m.label + labels taken → q.label ≡ k.label + labels other → q.label ≡ n.label + labels (If test taken other End)
if-labels n m k q test taken other from e f =
    let d : m.label ≡ n.label + 3 = ap (λ (p : Numbering). p.label) from in
    omega (arith, d, e, f)

pub if-stored : (n m k q : Numbering) (test : Expr) (taken other : Code) → m ≡ past n 3 → k.stored ≡ m.stored ++ stored taken → q.stored ≡ k.stored ++ stored other → q.stored ≡ n.stored ++ stored (If test taken other End)
if-stored n m k q test taken other from e f =
    let d : m.stored ≡ n.stored = ap (λ (p : Numbering). p.stored) from in
    f ∙ ap (λ z. z ++ stored other) (e ∙ ap (λ z. z ++ stored taken) d)
    ∙ append_assoc n.stored (stored taken) (stored other)
    ∙ ap (λ z. n.stored ++ (stored taken ++ z)) (sym (append-nil (stored other)))

pub loop-joined : (unit : UnitCode) (far : Bool) (n m k : Numbering) (first : ℕ) (body : Code) (l0 l1 l2 l3 : List MarkedLine)
    → first ≡ n.label → m ≡ past n 2 → k ≡ inside m (first + 1)
    → l1 ≡ l0 ++ loop_head first
    → l2 ≡ l1 ++ marked_code unit far k.around k.label (length k.stored) body
    → l3 ≡ l2 ++ loop_end first
    → l3 ≡ l0 ++ marked_code unit far n.around n.label (length n.stored) (Loop body End)
loop-joined unit far n m k first body l0 l1 l2 l3 is from in_it e1 e2 e3 =
    let l = n.label in
    let one = marked_code unit far (in_loop n.around (l + 1)) (l + 2) (length n.stored) body in
    let f1 : l1 ≡ l0 ++ loop_head l = e1 ∙ ap (λ f. l0 ++ loop_head f) is in
    let at : k ≡ inside (past n 2) (l + 1) = in_it ∙ ap (λ (p : Numbering). inside p (first + 1)) from ∙ ap (λ f. inside (past n 2) (f + 1)) is in
    let f2 : l2 ≡ l1 ++ one = e2 ∙ ap (λ (p : Numbering). l1 ++ marked_code unit far p.around p.label (length p.stored) body) at in
    let f3 : l3 ≡ l2 ++ loop_end l = e3 ∙ ap (λ f. l2 ++ loop_end f) is in
    f3
    ∙ ap (λ z. z ++ loop_end l) (f2 ∙ ap (λ z. z ++ one) f1)
    ∙ append_assoc (l0 ++ loop_head l) one (loop_end l) ∙ append_assoc l0 (loop_head l) (one ++ loop_end l)

-- behind a loop the labels around are those before it
pub loop-around : (n m k q : Numbering) (end : ℕ) → m ≡ past n 2 → k ≡ inside m end → q.around ≡ k.around → (outside q).around ≡ n.around
loop-around n m k q end from in_it same =
    let at : q.around ≡ in_loop n.around end = same ∙ ap (λ (p : Numbering). p.around) in_it ∙ ap (λ (p : Numbering). in_loop p.around end) from in
    ap (λ (b : Around). record b { ends = behind_first b.ends }) at

pub loop-labels : (n m k q : Numbering) (end : ℕ) (body : Code) → m ≡ past n 2 → k ≡ inside m end → q.label ≡ k.label + labels body → (outside q).label ≡ n.label + labels (Loop body End)
loop-labels n m k q end body from in_it e =
    let d : m.label ≡ n.label + 2 = ap (λ (p : Numbering). p.label) from in
    let f : k.label ≡ m.label = ap (λ (p : Numbering). p.label) in_it in
    omega (arith, d, e, f)

pub loop-stored : (n m k q : Numbering) (end : ℕ) (body : Code) → m ≡ past n 2 → k ≡ inside m end → q.stored ≡ k.stored ++ stored body → (outside q).stored ≡ n.stored ++ stored (Loop body End)
loop-stored n m k q end body from in_it e =
    let d : m.stored ≡ n.stored = ap (λ (p : Numbering). p.stored) from in
    let f : k.stored ≡ m.stored = ap (λ (p : Numbering). p.stored) in_it in
    e ∙ ap (λ z. z ++ stored body) (f ∙ d) ∙ ap (λ z. n.stored ++ z) (sym (append-nil (stored body)))

-- ---- the end of a list

pub list-end : (unit : UnitCode) (far : Bool) (a : Around) (l p : ℕ) (whole lines : List MarkedLine) (list : List FlatStmt) (i : ℕ) → length list ≤ i → whole ≡ lines ++ marked_code unit far a l p (view_list (drop i list)) → lines ≡ whole
list-end unit far a l p whole lines list i past_it e =
    sym (e ∙ ap (λ z. lines ++ z) (at_drop_all (λ (d : List FlatStmt). marked_code unit far a l p (view_list d)) list i past_it) ∙ append-nil lines)

pub labels-end : (list : List FlatStmt) (i : ℕ) → length list ≤ i → labels (view_list (drop i list)) ≡ 0
labels-end list i past_it = at_drop_all (λ (d : List FlatStmt). labels (view_list d)) list i past_it

pub stored-end : (whole kept : List RoutineId) (list : List FlatStmt) (i : ℕ) → length list ≤ i → whole ≡ kept ++ stored (view_list (drop i list)) → kept ≡ whole
stored-end whole kept list i past_it e =
    sym (e ∙ ap (λ z. kept ++ z) (at_drop_all (λ (d : List FlatStmt). stored (view_list d)) list i past_it) ∙ append-nil kept)
