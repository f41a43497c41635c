-- How what statements come to is put together.
use Rattle.std.proofs.Common.{◌≡◌, ℕ, zero, suc, ◌+◌, ◌≤◌, ◌<◌, ◌%◌, ◌⊎◌, inl, inr, ◌++◌, Ok, refl, sym, ap, ◌∙◌, arith}
use Rattle.common_values.specs.behaviour.Seen.{Ended}
use Rattle.flat_code.specs.Tree.{expr_size, Expr, Code, End, If, Loop, ◌then◌}
use Rattle.flat_code.specs.Memory.{Found}
use Rattle.flat_code.specs.Program.{FlatProgram, Choice}
use Rattle.flat_code.specs.Meaning.{Frame, State, Outcome, Over, and_then, spent, error_text, with_found, begun, looped, chosen, value_of, run}
use Rattle.flat_code.specs.Gives.{with_turns}
use Rattle.flat_code.proofs.Nodes.{run-then}
use Rattle.flat_code.proofs.Steps.{loop-alone, test-alone, chosen-zero, chosen-other}
use Rattle.flat_code.proofs.Turns.{spend-none}
use Rattle.runtime_proofs.specs.routine_proofs.Activation.{Activation}
use Rattle.runtime_proofs.specs.routine_proofs.Straight.{Exit, Onward, Leaving, Returning, Failing}
use Rattle.runtime_proofs.specs.routine_proofs.Comes.{outcome_of, WantsTurn, Comes, Does}

-- ---- errors end what goes on after them

raised-then : (turns code : ℕ) (s : State) (go : State → Outcome) → s.turns ≡ turns → and_then (spent turns s (λ s. Over (Ended (code % 256)) (record s { err = s.err ++ error_text code }))) go ≡ spent turns s (λ s. Over (Ended (code % 256)) (record s { err = s.err ++ error_text code }))
raised-then zero code s go e = refl
raised-then (suc turns) code s go e = refl

raised-looped : (turns code : ℕ) (s : State) (go : State → Outcome) → s.turns ≡ turns → looped (spent turns s (λ s. Over (Ended (code % 256)) (record s { err = s.err ++ error_text code }))) go ≡ spent turns s (λ s. Over (Ended (code % 256)) (record s { err = s.err ++ error_text code }))
raised-looped zero code s go e = refl
raised-looped (suc turns) code s go e = refl

-- an exit that skips what follows
abbrev pub Skips : Exit → Type 0
Skips Onward = ⊥
Skips (Leaving loops) = Unit {0}
Skips Returning = Unit {0}
Skips (Failing code) = Unit {0}

skipped : (exit : Exit) (s : State) (go : State → Outcome) → Skips exit → and_then (outcome_of exit s) go ≡ outcome_of exit s
skipped Onward s go h = absurd h
skipped (Leaving loops) s go h = refl
skipped Returning s go h = refl
skipped (Failing code) s go h = raised-then s.turns code s go refl

-- what a loop makes of the exit of its body
abbrev pub AfterLoop : Exit → Exit → Type 0
AfterLoop Onward exit = ⊥
AfterLoop (Leaving zero) exit = exit ≡ Onward
AfterLoop (Leaving (suc loops)) exit = exit ≡ Leaving loops
AfterLoop Returning exit = exit ≡ Returning
AfterLoop (Failing code) exit = exit ≡ Failing code

left_so : (inner exit : Exit) (s : State) (go : State → Outcome) → AfterLoop inner exit → looped (outcome_of inner s) go ≡ outcome_of exit s
left_so Onward exit s go h = absurd h
left_so (Leaving zero) exit s go h = ap (λ x. outcome_of x s) (sym h)
left_so (Leaving (suc loops)) exit s go h = ap (λ x. outcome_of x s) (sym h)
left_so Returning exit s go h = ap (λ x. outcome_of x s) (sym h)
left_so (Failing code) exit s go h = raised-looped s.turns code s go refl ∙ ap (λ x. outcome_of x s) (sym h)

going-then : (o : Outcome) (go : State → Outcome) (s : State) → WantsTurn o s → WantsTurn (and_then o go) s
going-then o go s w = (w.0, ap (λ o. and_then o go) w.1, w.2, w.3)

module _ (program : FlatProgram) (choice : Choice) (own : Frame) (sp : ℕ) where
  abbrev runs : Code → State → Outcome
  runs code s = run program choice code own s

  turns-same : (code : Code) (s : State) (m n : ℕ) → m ≡ n → runs code (with_turns s m) ≡ runs code (with_turns s n)
  turns-same code s m n e = ap (λ k. runs code (with_turns s k)) e

  -- ---- more turns and work than are needed

  pub weaker : (code : Code) (turns work turns' work' : ℕ) (exit : Exit) (b : Activation) (s : State) → turns ≤ turns' → work ≤ work' → Comes program choice own sp code turns work exit b s → Comes program choice own sp code turns' work' exit b s
  weaker code turns work turns' work' exit b s p q c = record {
    spent = c.spent;
    few = omega (arith, p, c.few);
    after = c.after;
    seen = c.seen;
    worked = omega (arith, q, c.worked);
    ends = c.ends;
    quiet = c.quiet;
    silent = c.silent;
  }

  -- ---- one after the other

  pub in-turn : (first next : Code) (t1 w1 t2 w2 : ℕ) (exit : Exit) (b c : Activation) (s : State) → Comes program choice own sp first t1 w1 Onward b s → Does program choice own sp next t2 w2 b exit c → Comes program choice own sp (first then next) (t1 + t2) (w1 + w2) exit c s
  in-turn first next t1 w1 t2 w2 exit b c s x does =
      let y = does x.after x.seen in
      record {
        spent = x.spent + y.spent;
        few = omega (arith, x.few, y.few);
        after = y.after;
        seen = y.seen;
        worked = omega (arith, x.worked, y.worked);
        ends = λ t.
            let sum : x.spent + y.spent + t ≡ x.spent + (y.spent + t) = omega arith in
            turns-same (first then next) s (x.spent + y.spent + t) (x.spent + (y.spent + t)) sum
            ∙ run-then program choice first next own (with_turns s (x.spent + (y.spent + t)))
            ∙ ap (λ o. and_then o (runs next)) (x.ends (y.spent + t))
            ∙ y.ends t;
        quiet = λ some. first-quiet x y x.spent refl some;
        silent = λ none.
            let p : x.spent ≡ 0 = omega (arith, none) in
            let q : y.spent ≡ 0 = omega (arith, none) in
            ((y.silent q).0 ∙ (x.silent p).0, (y.silent q).1 ∙ (x.silent p).1);
      }
    where
      first-quiet : (x : Comes program choice own sp first t1 w1 Onward b s) (y : Comes program choice own sp next t2 w2 exit c x.after) (n : ℕ) → x.spent ≡ n → 0 < x.spent + y.spent → WantsTurn (runs (first then next) (with_turns s 0)) s
      first-quiet x y zero e some =
          let w = y.quiet (omega (arith, some, e)) in
          let still = x.silent e in
          let none : 0 ≡ x.spent + 0 = omega (arith, e) in
          (w.0, run-then program choice first next own (with_turns s 0) ∙ ap (λ o. and_then o (runs next)) (turns-same first s 0 (x.spent + 0) none ∙ x.ends 0) ∙ w.1, w.2 ∙ still.0, w.3 ∙ still.1)
      first-quiet x y (suc n) e some =
          let w = going-then (runs first (with_turns s 0)) (runs next) s (x.quiet (omega (arith, e))) in
          (w.0, run-then program choice first next own (with_turns s 0) ∙ w.1, w.2, w.3)

  -- what follows is skipped
  pub skipping : (first next : Code) (turns work : ℕ) (exit : Exit) (b : Activation) (s : State) → Skips exit → Comes program choice own sp first turns work exit b s → Comes program choice own sp (first then next) turns work exit b s
  skipping first next turns work exit b s skips x = record {
    spent = x.spent;
    few = x.few;
    after = x.after;
    seen = x.seen;
    worked = x.worked;
    ends = λ t. run-then program choice first next own (with_turns s (x.spent + t)) ∙ ap (λ o. and_then o (runs next)) (x.ends t) ∙ skipped exit (with_turns x.after t) (runs next) skips;
    quiet = λ some.
        let w = going-then (runs first (with_turns s 0)) (runs next) s (x.quiet some) in
        (w.0, run-then program choice first next own (with_turns s 0) ∙ w.1, w.2, w.3);
    silent = x.silent;
  }

  -- ---- tests

  pub tested-so : (test : Expr) (taken other : Code) (v : ℕ) (turns work : ℕ) (exit : Exit) (b : Activation) (s : State) → value_of choice own s.cells test ≡ Ok v →
      ((v ≡ 0) × Comes program choice own sp other turns work exit b (begun (1 + expr_size test) s)) ⊎ ((v ≡ 0 → ⊥) × Comes program choice own sp taken turns work exit b (begun (1 + expr_size test) s)) →
      Comes program choice own sp (If test taken other End) turns (1 + expr_size test + work) exit b s
  tested-so test taken other v turns work exit b s e way = elim way [ inl h ↦ by other h.1 (λ t. start t ∙ chosen-zero v (runs taken (with_turns (begun (1 + expr_size test) s) t)) (runs other (with_turns (begun (1 + expr_size test) s) t)) h.0) | inr h ↦ by taken h.1 (λ t. start t ∙ chosen-other v (runs taken (with_turns (begun (1 + expr_size test) s) t)) (runs other (with_turns (begun (1 + expr_size test) s) t)) h.0) ]
    where
      start : (t : ℕ) → runs (If test taken other End) (with_turns s t) ≡ chosen v (runs taken (with_turns (begun (1 + expr_size test) s) t)) (runs other (with_turns (begun (1 + expr_size test) s) t))
      start t =
          let u = with_turns (begun (1 + expr_size test) s) t in
          test-alone program choice test taken other own (with_turns s t) u refl
          ∙ ap (λ (found : Found ℕ). with_found found u (λ v. chosen v (runs taken u) (runs other u))) e

      by : (code : Code) → Comes program choice own sp code turns work exit b (begun (1 + expr_size test) s) → ((t : ℕ) → runs (If test taken other End) (with_turns s t) ≡ runs code (with_turns (begun (1 + expr_size test) s) t)) → Comes program choice own sp (If test taken other End) turns (1 + expr_size test + work) exit b s
      by code c p = record {
        spent = c.spent;
        few = c.few;
        after = c.after;
        seen = c.seen;
        worked = omega (arith, c.worked);
        ends = λ t. p (c.spent + t) ∙ c.ends t;
        quiet = λ some. let w = c.quiet some in (w.0, p 0 ∙ w.1, w.2, w.3);
        silent = c.silent;
      }

  -- ---- loops

  -- a run of the body, before which a turn is due
  abbrev round : State → State
  round s = begun 1 (begun 1 s)

  loop-turn : (body : Code) (s : State) (t : ℕ) → runs (Loop body End) (with_turns s (suc t)) ≡ looped (runs body (with_turns (round s) t)) (runs (Loop body End))
  loop-turn body s t = loop-alone program choice body own (with_turns s (suc t)) (begun 1 (with_turns s (suc t))) refl

  loop-waits : (body : Code) (s : State) → WantsTurn (runs (Loop body End) (with_turns s 0)) s
  loop-waits body s =
      let u = begun 1 (with_turns s 0) in
      (u, loop-alone program choice body own (with_turns s 0) u refl ∙ spend-none u (λ s. looped (runs body (begun 1 s)) (runs (Loop body End))) refl, refl, refl)

  -- the body comes to its end, and the loop begins again
  pub goes-round : (body : Code) (t1 w1 t2 w2 : ℕ) (exit : Exit) (b c : Activation) (s : State) → Comes program choice own sp body t1 w1 Onward b (round s) → Does program choice own sp (Loop body End) t2 w2 b exit c → Comes program choice own sp (Loop body End) (1 + t1 + t2) (2 + w1 + w2) exit c s
  goes-round body t1 w1 t2 w2 exit b c s x does =
      let y = does x.after x.seen in
      record {
        spent = 1 + x.spent + y.spent;
        few = omega (arith, x.few, y.few);
        after = y.after;
        seen = y.seen;
        worked = omega (arith, x.worked, y.worked);
        ends = λ t.
            let sum : 1 + x.spent + y.spent + t ≡ suc (x.spent + (y.spent + t)) = omega arith in
            turns-same (Loop body End) s (1 + x.spent + y.spent + t) (suc (x.spent + (y.spent + t))) sum
            ∙ loop-turn body s (x.spent + (y.spent + t))
            ∙ ap (λ o. looped o (runs (Loop body End))) (x.ends (y.spent + t))
            ∙ y.ends t;
        quiet = λ some. loop-waits body s;
        silent = λ none. absurd (omega (arith, none));
      }

  -- the body leaves the loop, or more
  pub leaves-loop : (body : Code) (turns work : ℕ) (inner exit : Exit) (b : Activation) (s : State) → AfterLoop inner exit → Comes program choice own sp body turns work inner b (round s) → Comes program choice own sp (Loop body End) (1 + turns) (2 + work) exit b s
  leaves-loop body turns work inner exit b s h x = record {
    spent = 1 + x.spent;
    few = omega (arith, x.few);
    after = x.after;
    seen = x.seen;
    worked = omega (arith, x.worked);
    ends = λ t.
        let sum : 1 + x.spent + t ≡ suc (x.spent + t) = omega arith in
        turns-same (Loop body End) s (1 + x.spent + t) (suc (x.spent + t)) sum
        ∙ loop-turn body s (x.spent + t)
        ∙ ap (λ o. looped o (runs (Loop body End))) (x.ends t)
        ∙ left_so inner exit (with_turns x.after t) (runs (Loop body End)) h;
    quiet = λ some. loop-waits body s;
    silent = λ none. absurd (omega (arith, none));
  }
