-- Lists, conditions and the end of a run.
use Rattle.std.proofs.Common.{◌≡◌, ℕ, zero, suc, ◌+◌, ◌≤◌, List, [], ◌∷◌, refl, sym, ap, ◌∙◌, arith}
use Rattle.std.specs.Prelude.{Ok}
use Rattle.common_values.specs.behaviour.Seen.{Ended}
use Rattle.tp_meaning.specs.Outcomes as source
use Rattle.flat_code.specs.Tree.{Expr, expr_size, Runtime, step_size, Code, End, If, ◌then◌}
use Rattle.flat_code.specs.Memory.{Found, ◌>>=◌}
use Rattle.flat_code.specs.Program.{FlatProgram, Choice}
use Rattle.flat_code.specs.Gives.{with_turns}
use Rattle.flat_code.specs.Calls as flat
use Rattle.flat_code.specs.Meaning.{Frame, value_of, values_of, with_found, spend, runtime_of, chosen, begun, run}
use Rattle.flat_code.proofs.Nodes.{run-step, run-then}
use Rattle.flat_code.proofs.Steps.{test-alone}
use Rattle.lowering_simulation.specs.Meets.{Relation, Landing, IsCharged, charge, Meets}
use Rattle.lowering_simulation.specs.Nodes.{Sequencing, Testing, Halting, Undefining, NodeLaws}
use Rattle.lowering_simulation.proofs.Waits.{still_as, run_still, around_and_then}
use Rattle.lowering_simulation.proofs.Meets.{charged_at, none_left, charged, at_once, alike, bind, before}

ended_charged : (a b c n m : ℕ) → a ≤ b + n → b ≤ c → n ≡ m → a ≤ c + m
ended_charged a b c n m p q e = omega (arith, p, q, e)

-- nodes that were begun
pub begun_charged : (few nodes : ℕ) (t : flat.State) → IsCharged few nodes t (begun nodes t)
begun_charged few nodes t = charged few nodes t (begun nodes t) refl (omega arith)

module _ (few : ℕ) (program : FlatProgram) (choice : Choice) (f : Frame) where
  pub sequence : {A B : Type 0} (P : Relation A) (Q : Relation B) → Sequencing few program choice f P Q
  sequence P Q first rest turns code after t lands ends r next h q =
      alike few Q (first + rest) turns (run program choice (code then after) f) (λ u. flat.and_then (run program choice code f u) (run program choice after f)) t ends (source.and_then r next)
      (λ left. run-then program choice code after f (with_turns t left))
      (bind few P Q first rest turns (run program choice code f) (λ o. flat.and_then o (run program choice after f)) t lands ends r next
      (around_and_then (run program choice after f) (run_still program choice after f)) h q)

  -- the branch that is taken, in any state with these cells
  pub decided : (value : Expr) (taken other : Code) (v : ℕ) (u : flat.State) → value_of choice f u.cells value ≡ Ok v →
      run program choice (If value taken other End) f u ≡ chosen v (run program choice taken f (begun (1 + expr_size value) u)) (run program choice other f (begun (1 + expr_size value) u))
  decided value taken other v u is =
      let t = begun (1 + expr_size value) u in
      test-alone program choice value taken other f u t refl
      ∙ ap (λ (found : Found ℕ). with_found found t (λ v. chosen v (run program choice taken f t) (run program choice other f t))) is

  -- a side of a condition, by what its value decides
  side : {A : Type 0} (P : Relation A) (weight turns : ℕ) (value : Expr) (taken other code : Code) (t : flat.State) (lands : Landing A) (r : source.Outcome A) →
      ((left : ℕ) → run program choice (If value taken other End) f (with_turns t left) ≡ run program choice code f (with_turns (begun (1 + expr_size value) t) left)) →
      Meets few weight turns (run program choice code f) (begun (1 + expr_size value) t) lands P r → Meets few (1 + expr_size value + weight) turns (run program choice (If value taken other End) f) t lands P r
  side P weight turns value taken other code t lands r e h =
      let u = begun (1 + expr_size value) t in
      before few P 0 (1 + expr_size value) weight turns (run program choice (If value taken other End) f) (run program choice code f) t u lands r
      (at_once (run program choice (If value taken other End) f) (run program choice code f) t u e) (begun_charged few (1 + expr_size value) t) h

  pub test : {A : Type 0} (P : Relation A) → Testing few program choice f P
  test P weight turns zero value taken other t lands r is holds fails = side P weight turns value taken other other t lands r (λ left. decided value taken other 0 (with_turns t left) is) (fails refl)
  test P weight turns (suc v) value taken other t lands r is holds fails =
      side P weight turns value taken other taken t lands r (λ left. decided value taken other (suc v) (with_turns t left) is) (holds (λ e. absurd (omega (arith, e))))

  pub halts : {A : Type 0} (P : Relation A) → Halting few program choice f P
  halts P turns v code value result next t lands s is x c =
      let step = Runtime 2 (value ∷ []) result in
      let n = step_size step in
      let begins : flat.State = begun n (with_turns t 1) in
      let end : flat.State = begun n (with_turns t 0) in
      let go : List ℕ → flat.Outcome = λ vs. spend begins (runtime_of program choice (run program choice) 2 vs result f) in
      let after : flat.Outcome → flat.Outcome = λ o. flat.and_then o (run program choice next f) in
      let values : values_of choice f t.cells (value ∷ []) ≡ Ok (v ∷ []) = ap (λ (found : Found ℕ). found >>= λ v. Ok (v ∷ [])) is in
      record {
        spent = 1;
        end = end;
        runs = run-step program choice step next f (with_turns t 1)
            ∙ ap (λ (found : Found (List ℕ)). after (with_found found begins go)) values
            ∙ ap (λ n. flat.Over (Ended n) end) (sym c);
        enough = λ z. absurd cc;
        texts = x;
        paid = ended_charged (charge few 0 end) (charge few 0 t) (charge few turns t) n (1 + expr_size value) (charged_at few n 0 t (begun n t) (begun_charged few n t)) (none_left few turns t) (omega arith);
      }

  pub undefined : {A : Type 0} (P : Relation A) → Undefining few program choice f P
  undefined P weight turns act code t lands s x =
      record { spent = 0; still = still_as s.out s.err (with_turns t 0) (run program choice code f (with_turns t 0)) x (run_still program choice code f (with_turns t 0) refl) }

  pub node_laws : {A B : Type 0} (P : Relation A) (Q : Relation B) → NodeLaws few program choice f P Q
  node_laws P Q = record {
    sequencing = sequence P Q;
    testing = test P;
    halting = halts P;
    undefining = undefined P;
  }
