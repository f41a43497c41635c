-- A `while`: the condition, a turn on both sides, the body, and the loop again.
use Rattle.std.proofs.Common.{◌≡◌, ℕ, zero, suc, ◌+◌, ◌≤◌, ◌<◌, Bool, true, false, refl, ap, ◌∙◌, arith}
use Rattle.std.specs.Prelude.{Ok}
use Rattle.typed_tree.specs.declared.units.Program.{Program}
use Rattle.typed_tree.specs.Expressions.{Expression}
use Rattle.typed_tree.specs.Statements.{Statement, While}
use Rattle.tp_meaning.specs.Outcomes as source
use Rattle.tp_meaning.specs.Outcomes.{Does}
use Rattle.tp_meaning.specs.Activations.{Activation}
use Rattle.tp_meaning.specs.Calls as calls
use Rattle.tp_meaning.specs.Calls.{Flow, Do, Runs}
use Rattle.tp_meaning.specs.Statements.{then_next, condition, statement}
use Rattle.tp_meaning.specs.Statements as pascal
use Rattle.flat_code.specs.Tree as tree
use Rattle.flat_code.specs.Tree.{Expr, expr_size, Code, ◌then◌}
use Rattle.flat_code.specs.Program.{FlatProgram, Choice}
use Rattle.flat_code.specs.Gives.{with_turns}
use Rattle.flat_code.specs.Calls as flat
use Rattle.flat_code.specs.Meaning.{Frame, value_of, spent, spend, looped, begun, run}
use Rattle.flat_code.proofs.Nodes.{run-alone, run-then}
use Rattle.flat_code.proofs.Steps.{chosen-zero, chosen-other, loop-alone}
use Rattle.lowering_simulation.specs.Meets.{SourceMemory, FlatMemory, source_memory, flat_memory, Relation, SameTexts, IsCharged, falls_through, lands_by, Meets, Context}
use Rattle.lowering_simulation.specs.Loops.{taken_code, round_code, while_code, while_weight, WhileParts, WhileFollows}
use Rattle.lowering_simulation.proofs.Waits.{run_still, around_and_then, around_looped, around_both}
use Rattle.lowering_simulation.proofs.Meets.{charged, at_once, alike, bind, before, arrives, turn}
use Rattle.lowering_simulation.proofs.Nodes.{decided}

-- a turn that is due inside a context is due before it
over_spend : (k : flat.Outcome → flat.Outcome) → Context k → (s : flat.State) (go : flat.State → flat.Outcome) → k (spend s go) ≡ spend s (λ u. k (go u))
over_spend k c s go = by_turns s.turns
  where
    by_turns : (turns : ℕ) → k (spent turns s go) ≡ spent turns s (λ u. k (go u))
    by_turns zero = c.over _ s
    by_turns (suc turns) = refl

module _ (few : ℕ) (program : Program) (again : Runs) (g : Activation) (test : Expression) (body : Statement) (target : FlatProgram) (choice : Choice) (f : Frame) (first : Code) (value : Expr) (code : Code) where
  abbrev loop : Code
  loop = while_code first value code

  abbrev leave : Code
  leave = tree.Do (tree.Leave 1) tree.End

  abbrev branches : Code
  branches = tree.If value (taken_code code) leave tree.End

  abbrev nodes : ℕ
  nodes = 1 + expr_size value

  -- a state behind the condition, as a side of it is taken and its first node begins
  abbrev behind : flat.State → flat.State
  behind u = begun 1 (begun nodes u)

  left_so : (u : flat.State) → run target choice leave f u ≡ flat.Left 0 (begun 1 u)
  left_so u = run-alone target choice (tree.Leave 1) f u (begun 1 u) refl

  -- what is done with the outcome of a round, and of its inner loop
  abbrev in_loop : flat.Outcome → flat.Outcome
  in_loop o = looped o (run target choice loop f)

  abbrev in_round : flat.Outcome → flat.Outcome
  in_round o = in_loop (flat.and_then o (run target choice branches f))

  abbrev in_body : flat.Outcome → flat.Outcome
  in_body o = in_loop (looped (flat.and_then o (run target choice leave f)) (run target choice (taken_code code) f))

  around_loop : Context in_loop
  around_loop = around_looped (run target choice loop f) (run_still target choice loop f)

  around_round : Context in_round
  around_round = around_both in_loop (λ o. flat.and_then o (run target choice branches f)) around_loop (around_and_then (run target choice branches f) (run_still target choice branches f))

  around_body : Context in_body
  around_body =
      around_both in_loop (λ o. looped (flat.and_then o (run target choice leave f)) (run target choice (taken_code code) f)) around_loop
      (around_both (λ o. looped o (run target choice (taken_code code) f)) (λ o. flat.and_then o (run target choice leave f))
      (around_looped (run target choice (taken_code code) f) (run_still target choice (taken_code code) f)) (around_and_then (run target choice leave f) (run_still target choice leave f)))

  -- a round of the inner loop, behind its turn
  abbrev inner_round : flat.State → flat.Outcome
  inner_round w = in_loop (looped (run target choice (code then leave) f (begun 1 w)) (run target choice (taken_code code) f))

  -- the outer loop comes to the condition by a turn of its own
  comes_round : (t : flat.State) (left : ℕ) → run target choice loop f (with_turns t (1 + left)) ≡ in_loop (run target choice (round_code first value code) f (with_turns (begun 1 (begun 1 t)) left))
  comes_round t left =
      ap (λ n. run target choice loop f (with_turns t n)) (let sum : 1 + left ≡ suc left = omega arith in sum)
      ∙ loop-alone target choice (round_code first value code) f (with_turns t (suc left)) (begun 1 (with_turns t (suc left))) refl

  -- where the condition holds, a turn is due before the body
  comes_in : (v : ℕ) (u : flat.State) → value_of choice f u.cells value ≡ Ok v → (v ≡ 0 → ⊥) →
      in_loop (run target choice branches f u) ≡ spend (behind u) inner_round
  comes_in v u is holds =
      let go : flat.State → flat.Outcome = λ w. looped (run target choice (code then leave) f (begun 1 w)) (run target choice (taken_code code) f) in
      let x = run target choice (taken_code code) f (begun nodes u) in
      let y = run target choice leave f (begun nodes u) in
      ap in_loop (decided few target choice f value (taken_code code) leave v u is ∙ chosen-other v x y holds ∙ loop-alone target choice (code then leave) f (begun nodes u) (behind u) refl)
      ∙ over_spend in_loop around_loop (behind u) go

  -- where it does not, both loops are left
  comes_out : (v : ℕ) (u : flat.State) → value_of choice f u.cells value ≡ Ok v → v ≡ 0 → in_loop (run target choice branches f u) ≡ flat.Next (behind u)
  comes_out v u is none =
      let x = run target choice (taken_code code) f (begun nodes u) in
      let y = run target choice leave f (begun nodes u) in
      ap in_loop (decided few target choice f value (taken_code code) leave v u is ∙ chosen-zero v x y none ∙ left_so (begun nodes u))

  behind_charged : (t : flat.State) → IsCharged few (2 + expr_size value) t (behind t)
  behind_charged t = charged few (2 + expr_size value) t (behind t) refl (omega arith)

  begun_once : (t : flat.State) → IsCharged few 1 t (begun 1 t)
  begun_once t = charged few 1 t (begun 1 t) refl (omega arith)

  abbrev weight : ℕ → ℕ
  weight cost = while_weight cost value

  abbrev next_round : Flow → Does Flow
  next_round flow = then_next flow (again (Do (While test body)) g)

  module _ (turns cost second : ℕ) (R : SourceMemory → FlatMemory → Type 0) (B : Relation Bool) (S Q : Relation Flow) (parts : WhileParts few program again g test body target choice f first value code turns cost second R B S Q) where
    -- behind the body
    after_body : (flow : Flow) (s : source.State) (t : flat.State) → s.turns < turns → SameTexts s t → S flow (source_memory s) (flat_memory t) →
        Meets few (1 + weight cost) s.turns (λ u. in_body (lands_by flow u)) t lands_by Q (next_round flow s)
    after_body calls.Next s t less x holds =
        before few Q 0 1 (weight cost) s.turns (λ u. in_body (flat.Next u)) (run target choice loop f) t (begun 1 t) lands_by (again (Do (While test body)) g s)
        (at_once (λ u. in_body (flat.Next u)) (run target choice loop f) t (begun 1 t) (λ left. ap (λ o. in_loop (looped o (run target choice (taken_code code) f))) (left_so (with_turns t left)))) (begun_once t)
        (parts.rounds s (begun 1 t) less x holds)
    after_body calls.Left s t less x holds =
        arrives few Q 0 (1 + weight cost) s.turns (λ u. in_body (flat.Returned u)) t t lands_by calls.Left s
        (at_once (λ u. in_body (flat.Returned u)) (lands_by calls.Left) t t (λ left. refl)) (charged few (1 + weight cost) t t refl (omega arith)) x refl (parts.left (source_memory s) (flat_memory t) holds)

    -- behind the turn that both spend
    body_follows : (s : source.State) (t : flat.State) → s.turns < turns → SameTexts s t → B true (source_memory s) (flat_memory t) →
        Meets few (1 + (second + (1 + weight cost))) s.turns inner_round t lands_by Q
        (source.and_then (statement program again g body s) next_round)
    body_follows s t less x holds =
        before few Q 0 1 (second + (1 + weight cost)) s.turns inner_round (λ u. in_body (run target choice code f u)) t (begun 1 t)
        lands_by (source.and_then (statement program again g body s) next_round)
        (at_once inner_round (λ u. in_body (run target choice code f u)) t (begun 1 t)
        (λ left. ap (λ o. in_loop (looped o (run target choice (taken_code code) f))) (run-then target choice code leave f (begun 1 (with_turns t left))))) (begun_once t)
        (bind few S Q second (1 + weight cost) s.turns (run target choice code f) in_body (begun 1 t) lands_by lands_by (statement program again g body s) next_round around_body (parts.bodies s (begun 1 t) less x holds)
        (λ flow s' t' fewer x' holds'. after_body flow s' t' (omega arith) x' holds'))

    -- behind the condition
    decides : (b : Bool) (s : source.State) (t : flat.State) → s.turns ≤ turns → SameTexts s t → B b (source_memory s) (flat_memory t) →
        Meets few (2 + expr_size value) s.turns (λ u. in_loop (run target choice branches f u)) t lands_by Q
        (pascal.chosen b (source.spending (λ s. source.and_then (statement program again g body s) next_round)) (source.give calls.Next) s)
    decides true s t least x holds =
        let told = parts.tells true (source_memory s) (flat_memory t) holds in
        turn few Q (2 + expr_size value) (1 + (second + (1 + weight cost))) (λ u. in_loop (run target choice branches f u)) inner_round
        t (behind t) lands_by (λ s. source.and_then (statement program again g body s) next_round) s
        (λ left. comes_in told.0 (with_turns t left) told.1 told.2) (behind_charged t) x (let p = parts.pays in omega arith)
        (λ n e. body_follows (record s { turns = n }) (behind t) (omega arith) x holds)
    decides false s t least x holds =
        let told = parts.tells false (source_memory s) (flat_memory t) holds in
        arrives few Q 0 (2 + expr_size value) s.turns (λ u. in_loop (run target choice branches f u)) t (behind t) lands_by calls.Next s
        (at_once (λ u. in_loop (run target choice branches f u)) (lands_by calls.Next) t (behind t) (λ left. comes_out told.0 (with_turns t left) told.1 told.2)) (behind_charged t) x refl (parts.ends (source_memory s) (flat_memory t) holds)

    while_so : (s : source.State) (t : flat.State) → s.turns ≤ turns → SameTexts s t → R (source_memory s) (flat_memory t) →
        Meets few (weight cost) s.turns (run target choice loop f) t lands_by Q (statement program again g (While test body) s)
    while_so s t least x holds =
        let u = begun 1 (begun 1 t) in
        let r = statement program again g (While test body) s in
        before few Q 1 2 (cost + (2 + expr_size value)) s.turns (run target choice loop f) (λ u. in_loop (run target choice (round_code first value code) f u)) t u lands_by r
        (comes_round t) (charged few 2 t u refl (omega arith))
        (alike few Q (cost + (2 + expr_size value)) s.turns (λ u. in_loop (run target choice (round_code first value code) f u)) (λ u. in_round (run target choice first f u)) u lands_by r
        (λ left. ap in_loop (run-then target choice first branches f (with_turns u left)))
        (bind few B Q cost (2 + expr_size value) s.turns (run target choice first f) in_round u falls_through lands_by (condition program again g test s)
        (λ b. pascal.chosen b (source.spending (λ s. source.and_then (statement program again g body s) next_round)) (source.give calls.Next))
        around_round (parts.conditions s u least x holds) (λ b s' t' fewer x' holds'. decides b s' t' (omega arith) x' holds')))

pub while_follows : (R : SourceMemory → FlatMemory → Type 0) (B : Relation Bool) (S Q : Relation Flow) → WhileFollows R B S Q
while_follows R B S Q few program again g test body target choice f first value code cost second s t parts x holds =
    while_so few program again g test body target choice f first value code s.turns cost second R B S Q parts s t (omega arith) x holds
