-- The meaning of each node in terms of that of its parts.
use Rattle.std.proofs.Common.{◌≡◌, ℕ, zero, suc, ◌+◌, refl, sym, ap, ◌∙◌, arith}
use Rattle.flat_code.specs.Tree.{Expr, expr_size, Step, step_size, Code, End, Do, If, Loop, ◌then◌}
use Rattle.flat_code.specs.Memory.{Found}
use Rattle.flat_code.specs.declared.memory.Trap.TheVariants.{ByZero, Bad}
use Rattle.std.specs.Prelude.{Ok, Err}
use Rattle.flat_code.specs.Program.{FlatProgram, Choice}
use Rattle.flat_code.specs.Meaning.{Frame, State, Outcome, Next, Left, Returned, Over, and_then, spent, spend, with_found, begun, looped, chosen, value_of, step_of, Does, runs, run}
use Rattle.flat_code.specs.Laws.{NodeLaws}
use Rattle.flat_code.proofs.More.{run-runs}

and_then-same : (o : Outcome) (g h : State → Outcome) → ((s : State) → g s ≡ h s) → and_then o g ≡ and_then o h
and_then-same (Next s) g h e = e s
and_then-same (Left loops s) g h e = refl
and_then-same (Returned s) g h e = refl
and_then-same (Over standing s) g h e = refl

looped-same : (x y : Outcome) (g : State → Outcome) → x ≡ y → looped x g ≡ looped y g
looped-same x y g e = ap (λ o. looped o g) e

spent-same : (turns : ℕ) (s : State) (g h : State → Outcome) → ((t : State) → g t ≡ h t) → spent turns s g ≡ spent turns s h
spent-same zero s g h e = refl
spent-same (suc turns) s g h e = e (record s { turns = turns })

found-same : {A : Type 0} (x : Found A) (s : State) (g h : A → Outcome) → ((v : A) → g v ≡ h v) → with_found x s g ≡ with_found x s h
found-same (Ok v) s g h e = e v
found-same (Err ByZero) s g h e = refl
found-same (Err (Bad act)) s g h e = refl

chosen-same : (v : ℕ) (x y z w : Outcome) → x ≡ z → y ≡ w → chosen v x y ≡ chosen v z w
chosen-same zero x y z w p q = q
chosen-same (suc v) x y z w p q = p

pub run-step : (program : FlatProgram) (choice : Choice) (step : Step) (next : Code) (f : Frame) (s : State) → run program choice (Do step next) f s ≡ and_then (step_of program choice (run program choice) step f (begun (step_size step) s)) (run program choice next f)
run-step program choice step next f s =
    run-runs program choice (Do step next) f s
    ∙ and_then-same (step_of program choice (run program choice) step f (begun (step_size step) s)) (runs program choice (run program choice) next f) (run program choice next f) (λ t. sym (run-runs program choice next f t))

pub run-test : (program : FlatProgram) (choice : Choice) (test : Expr) (taken other next : Code) (f : Frame) (s : State) → run program choice (If test taken other next) f s ≡ and_then (with_found (value_of choice f s.cells test) (begun (1 + expr_size test) s) (λ v. chosen v (run program choice taken f (begun (1 + expr_size test) s)) (run program choice other f (begun (1 + expr_size test) s)))) (run program choice next f)
run-test program choice test taken other next f s =
    let t = begun (1 + expr_size test) s in
    let does : Does = run program choice in
    let x = runs program choice does taken f t in
    let y = runs program choice does other f t in
    let value = value_of choice f s.cells test in
    run-runs program choice (If test taken other next) f s
    ∙ and_then-same (with_found value t (λ v. chosen v x y)) (runs program choice does next f) (does next f) (λ t. sym (run-runs program choice next f t))
    ∙ ap (λ o. and_then o (does next f)) (found-same value t (λ v. chosen v x y) (λ v. chosen v (does taken f t) (does other f t))
    (λ v. chosen-same v x y (does taken f t) (does other f t) (sym (run-runs program choice taken f t)) (sym (run-runs program choice other f t))))

pub run-loop : (program : FlatProgram) (choice : Choice) (body next : Code) (f : Frame) (s : State) → run program choice (Loop body next) f s ≡ and_then (spend (begun 1 s) (λ s. looped (run program choice body f (begun 1 s)) (run program choice (Loop body End) f))) (run program choice next f)
run-loop program choice body next f s =
    let does : Does = run program choice in
    let a : State → Outcome = λ s. looped (runs program choice does body f (begun 1 s)) (does (Loop body End) f) in
    let b : State → Outcome = λ s. looped (does body f (begun 1 s)) (does (Loop body End) f) in
    run-runs program choice (Loop body next) f s
    ∙ and_then-same (spend (begun 1 s) a) (runs program choice does next f) (does next f) (λ t. sym (run-runs program choice next f t))
    ∙ ap (λ o. and_then o (does next f)) (spent-same s.turns (begun 1 s) a b (λ t. looped-same (runs program choice does body f (begun 1 t)) (does body f (begun 1 t)) (does (Loop body End) f) (sym (run-runs program choice body f (begun 1 t)))))

-- ---- one node alone

pub and_then-next : (program : FlatProgram) (choice : Choice) (f : Frame) (o : Outcome) → and_then o (run program choice End f) ≡ o
unfolding run
and_then-next program choice f (Next s) = refl
and_then-next program choice f (Left loops s) = refl
and_then-next program choice f (Returned s) = refl
and_then-next program choice f (Over standing s) = refl

pub run-end : (program : FlatProgram) (choice : Choice) (f : Frame) (s : State) → run program choice End f s ≡ Next s
unfolding run
run-end program choice f s = refl

pub run-alone : (program : FlatProgram) (choice : Choice) (step : Step) (f : Frame) (s t : State) → t ≡ begun (step_size step) s → run program choice (Do step End) f s ≡ step_of program choice (run program choice) step f t
run-alone program choice step f s t e =
    let o = step_of program choice (run program choice) step f (begun (step_size step) s) in
    run-step program choice step End f s ∙ and_then-next program choice f o ∙ ap (step_of program choice (run program choice) step f) (sym e)

-- nodes that were counted in two goes
pub begun-twice : (m n : ℕ) (s t u : State) → t ≡ begun m s → u ≡ begun n t → u ≡ begun (m + n) s
begun-twice m n s t u p q =
    let sum : s.work + m + n ≡ s.work + (m + n) = omega arith in
    q ∙ ap (begun n) p ∙ ap (λ work. record s { work = work }) sum

and_then-twice : (o : Outcome) (g h : State → Outcome) → and_then (and_then o g) h ≡ and_then o (λ s. and_then (g s) h)
and_then-twice (Next s) g h = refl
and_then-twice (Left loops s) g h = refl
and_then-twice (Returned s) g h = refl
and_then-twice (Over standing s) g h = refl

runs-then : (program : FlatProgram) (choice : Choice) (again : Does) (first after : Code) (f : Frame) (s : State) → runs program choice again (first then after) f s ≡ and_then (runs program choice again first f s) (runs program choice again after f)
runs-then program choice again End after f s = refl
runs-then program choice again (Do step next) after f s =
    let o = step_of program choice again step f (begun (step_size step) s) in
    and_then-same o (runs program choice again (next then after) f) (λ t. and_then (runs program choice again next f t) (runs program choice again after f)) (λ t. runs-then program choice again next after f t)
    ∙ sym (and_then-twice o (runs program choice again next f) (runs program choice again after f))
runs-then program choice again (If test taken other next) after f s =
    let t = begun (1 + expr_size test) s in
    let o = with_found (value_of choice f s.cells test) t (λ v. chosen v (runs program choice again taken f t) (runs program choice again other f t)) in
    and_then-same o (runs program choice again (next then after) f) (λ t. and_then (runs program choice again next f t) (runs program choice again after f)) (λ t. runs-then program choice again next after f t)
    ∙ sym (and_then-twice o (runs program choice again next f) (runs program choice again after f))
runs-then program choice again (Loop body next) after f s =
    let o = spend (begun 1 s) (λ s. looped (runs program choice again body f (begun 1 s)) (again (Loop body End) f)) in
    and_then-same o (runs program choice again (next then after) f) (λ t. and_then (runs program choice again next f t) (runs program choice again after f)) (λ t. runs-then program choice again next after f t)
    ∙ sym (and_then-twice o (runs program choice again next f) (runs program choice again after f))

pub run-then : (program : FlatProgram) (choice : Choice) (first after : Code) (f : Frame) (s : State) → run program choice (first then after) f s ≡ and_then (run program choice first f s) (run program choice after f)
run-then program choice first after f s =
    let does : Does = run program choice in
    run-runs program choice (first then after) f s
    ∙ runs-then program choice does first after f s
    ∙ ap (λ o. and_then o (runs program choice does after f)) (sym (run-runs program choice first f s))
    ∙ and_then-same (does first f s) (runs program choice does after f) (does after f) (λ t. sym (run-runs program choice after f t))

pub node_laws : (program : FlatProgram) (choice : Choice) → NodeLaws program choice
unfolding run
node_laws program choice = record {
  nothing = λ f s. refl;
  step = run-step program choice;
  test = run-test program choice;
  loop = run-loop program choice;
  sequence = run-then program choice;
}
