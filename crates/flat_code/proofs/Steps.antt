-- Single steps of lists, tests, loops and calls.
use Rattle.std.proofs.Common.{◌≡◌, ℕ, zero, suc, ◌+◌, ◌≤◌, ◌<◌, List, ◌∷◌, length, get_or, drop, Option, Some, slice_get, refl, sym, ap, ◌∙◌, arith}
use Rattle.std.proofs.Math.Seq.{drop-cons}
use Rattle.flat_code.specs.declared.tree.FlatStmt.{FlatStmt}
use Rattle.flat_code.specs.declared.tree.FlatResult.{FlatResult}
use Rattle.flat_code.specs.Tree.{Expr, expr_size, Code, End, If, Loop}
use Rattle.flat_code.specs.View.{view_stmt, view_list}
use Rattle.flat_code.specs.Program.{Key, Routine, UnitCode, FlatProgram, Choice, runtime_key}
use Rattle.flat_code.specs.Meaning.{Frame, State, Outcome, and_then, spend, with_found, begun, looped, chosen, value_of, Does, with_some, entered, entered_at, called, runtime_of, run}
use Rattle.flat_code.proofs.Nodes.{and_then-next, run-test, run-loop, run-then}
use Rattle.flat_code.proofs.Rows.{view_stmt-then}

-- ---- lists

pub list-step : (program : FlatProgram) (choice : Choice) (list : List FlatStmt) (i : ℕ) (x : FlatStmt) (f : Frame) (s : State) → i < length list → x ≡ get_or list i x → run program choice (view_list (drop i list)) f s ≡ and_then (run program choice (view_stmt x End) f s) (run program choice (view_list (drop (i + 1) list)) f)
list-step program choice list i x f s h e =
    let rest = view_list (drop (i + 1) list) in
    let next : suc i ≡ i + 1 = omega arith in
    let cut : drop i list ≡ x ∷ drop (i + 1) list = drop-cons list i x h ∙ ap (λ (y : FlatStmt). y ∷ drop (suc i) list) (sym e) ∙ ap (λ k. x ∷ drop k list) next in
    ap (λ (l : List FlatStmt). run program choice (view_list l) f s) cut
    ∙ ap (λ (code : Code). run program choice code f s) (view_stmt-then x rest)
    ∙ run-then program choice (view_stmt x End) rest f s

-- ---- tests

pub test-alone : (program : FlatProgram) (choice : Choice) (test : Expr) (taken other : Code) (f : Frame) (s t : State) → t ≡ begun (1 + expr_size test) s → run program choice (If test taken other End) f s ≡ with_found (value_of choice f t.cells test) t (λ v. chosen v (run program choice taken f t) (run program choice other f t))
test-alone program choice test taken other f s t e =
    let g : State → Outcome = λ t. with_found (value_of choice f t.cells test) t (λ v. chosen v (run program choice taken f t) (run program choice other f t)) in
    run-test program choice test taken other End f s ∙ and_then-next program choice f (g (begun (1 + expr_size test) s)) ∙ ap g (sym e)

pub chosen-zero : (v : ℕ) (x y : Outcome) → v ≡ 0 → chosen v x y ≡ y
chosen-zero zero x y e = refl
chosen-zero (suc v) x y e = absurd (omega (arith, e))

pub chosen-other : (v : ℕ) (x y : Outcome) → (v ≡ 0 → ⊥) → chosen v x y ≡ x
chosen-other zero x y h = absurd (h refl)
chosen-other (suc v) x y h = refl

-- ---- loops

pub loop-alone : (program : FlatProgram) (choice : Choice) (body : Code) (f : Frame) (s s1 : State) → s1 ≡ begun 1 s → run program choice (Loop body End) f s ≡ spend s1 (λ s. looped (run program choice body f (begun 1 s)) (run program choice (Loop body End) f))
loop-alone program choice body f s s1 e =
    let go : State → Outcome = λ s. looped (run program choice body f (begun 1 s)) (run program choice (Loop body End) f) in
    run-loop program choice body End f s ∙ and_then-next program choice f (spend (begun 1 s) go) ∙ ap (λ t. spend t go) (sym e)

-- a run of the body
pub round-some : (program : FlatProgram) (choice : Choice) (body : Code) (f : Frame) (s s1 s2 s3 : State) → s1 ≡ begun 1 s → s1 ≡ record s2 { turns = suc s2.turns } → s3 ≡ begun 1 s2 → run program choice (Loop body End) f s ≡ looped (run program choice body f s3) (run program choice (Loop body End) f)
round-some program choice body f s s1 s2 s3 e p q =
    let go : State → Outcome = λ s. looped (run program choice body f (begun 1 s)) (run program choice (Loop body End) f) in
    loop-alone program choice body f s s1 e ∙ ap (λ t. spend t go) p ∙ ap (λ t. looped (run program choice body f t) (run program choice (Loop body End) f)) (sym q)

-- ---- calls

pub runtime-routine : (program : FlatProgram) (choice : Choice) (again : Does) (number : ℕ) (args : List ℕ) (wanted : Option FlatResult) (f : Frame) (s : State) → 5 ≤ number → runtime_of program choice again number args wanted f s ≡ called program choice again args wanted f s (runtime_key number)
runtime-routine program choice again zero args wanted f s h = absurd (omega (arith, h))
runtime-routine program choice again (suc zero) args wanted f s h = absurd (omega (arith, h))
runtime-routine program choice again (suc (suc zero)) args wanted f s h = absurd (omega (arith, h))
runtime-routine program choice again (suc (suc (suc zero))) args wanted f s h = absurd (omega (arith, h))
runtime-routine program choice again (suc (suc (suc (suc zero)))) args wanted f s h = absurd (omega (arith, h))
runtime-routine program choice again (suc (suc (suc (suc (suc n))))) args wanted f s h =
    let same : 5 + n ≡ suc (suc (suc (suc (suc n)))) = omega arith in
    ap (λ k. called program choice again args wanted f s (runtime_key k)) same

pub called-entered : (program : FlatProgram) (choice : Choice) (again : Does) (args : List ℕ) (wanted : Option FlatResult) (f : Frame) (s : State) (key : Key) (unit : UnitCode) (r : Routine) → Some unit ≡ program.unit key.unit → Some r ≡ slice_get unit.routines key.number → called program choice again args wanted f s key ≡ entered program choice again key.unit unit args wanted f s r
called-entered program choice again args wanted f s key unit r p q =
    ap (λ (found : Option UnitCode). with_some found s (entered_at program choice again key args wanted f s)) (sym p)
    ∙ ap (λ (found : Option Routine). with_some found s (entered program choice again key.unit unit args wanted f s)) (sym q)
