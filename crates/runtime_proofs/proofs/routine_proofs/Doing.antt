-- The rules once more, for all states in which an activation is seen.
use Rattle.std.proofs.Common.{◌≡◌, ℕ, suc, ◌+◌, ◌≤◌, true, [], None, Ok, refl, ap, ◌∙◌, arith}
use Rattle.flat_code.specs.Tree.{Runtime, Code, End, Do, Loop, ◌then◌}
use Rattle.flat_code.specs.Program.{FlatProgram, Choice}
use Rattle.flat_code.specs.Meaning.{Frame, State, begun, run}
use Rattle.flat_code.specs.Gives.{with_turns}
use Rattle.flat_code.proofs.Nodes.{run-alone}
use Rattle.runtime_proofs.specs.routine_proofs.Activation.{Activation, IsSeen, IsPlaced}
use Rattle.runtime_proofs.specs.routine_proofs.Straight.{Exit, Onward, straight, code_size}
use Rattle.runtime_proofs.specs.routine_proofs.Comes.{Does}
use Rattle.runtime_proofs.proofs.routine_proofs.Rules.{Skips, AfterLoop, weaker, in-turn, skipping, goes-round, leaves-loop}
use Rattle.runtime_proofs.proofs.routine_proofs.Steps.{straight-comes}

module _ (program : FlatProgram) (choice : Choice) (own : Frame) (sp : ℕ) where
  seen-round : (a : Activation) (s : State) → IsSeen choice sp a s → IsSeen choice sp a (begun 1 (begun 1 s))
  seen-round a s seen = record { cells = seen.cells; flag = seen.flag; input = seen.input; out = seen.out; err = seen.err }

  pub weaker-does : (code : Code) (turns work turns' work' : ℕ) (a : Activation) (exit : Exit) (b : Activation) → turns ≤ turns' → work ≤ work' → Does program choice own sp code turns work a exit b → Does program choice own sp code turns' work' a exit b
  weaker-does code turns work turns' work' a exit b p q does s seen = weaker program choice own sp code turns work turns' work' exit b s p q (does s seen)

  pub then-does : (first next : Code) (t1 w1 t2 w2 : ℕ) (a b : Activation) (exit : Exit) (c : Activation) → Does program choice own sp first t1 w1 a Onward b → Does program choice own sp next t2 w2 b exit c → Does program choice own sp (first then next) (t1 + t2) (w1 + w2) a exit c
  then-does first next t1 w1 t2 w2 a b exit c x y s seen = in-turn program choice own sp first next t1 w1 t2 w2 exit b c s (x s seen) y

  pub skip-does : (first next : Code) (turns work : ℕ) (a : Activation) (exit : Exit) (b : Activation) → Skips exit → Does program choice own sp first turns work a exit b → Does program choice own sp (first then next) turns work a exit b
  skip-does first next turns work a exit b skips does s seen = skipping program choice own sp first next turns work exit b s skips (does s seen)

  pub round-does : (body : Code) (t1 w1 t2 w2 : ℕ) (a b : Activation) (exit : Exit) (c : Activation) → Does program choice own sp body t1 w1 a Onward b → Does program choice own sp (Loop body End) t2 w2 b exit c → Does program choice own sp (Loop body End) (1 + t1 + t2) (2 + w1 + w2) a exit c
  round-does body t1 w1 t2 w2 a b exit c x y s seen = goes-round program choice own sp body t1 w1 t2 w2 exit b c s (x (begun 1 (begun 1 s)) (seen-round a s seen)) y

  pub leave-does : (body : Code) (turns work : ℕ) (a : Activation) (inner exit : Exit) (b : Activation) → AfterLoop inner exit → Does program choice own sp body turns work a inner b → Does program choice own sp (Loop body End) (1 + turns) (2 + work) a exit b
  leave-does body turns work a inner exit b h x s seen = leaves-loop program choice own sp body turns work inner exit b s h (x (begun 1 (begun 1 s)) (seen-round a s seen))

  pub straight-does : (above : ℕ) → IsPlaced choice own sp above → (code : Code) (a : Activation) (exit : Exit) (b : Activation) → straight choice own above code a ≡ Ok (record { exit = exit; there = b }) → Does program choice own sp code 0 (code_size code) a exit b
  straight-does above placed code a exit b e s seen = straight-comes program choice own sp above placed code a (record { exit = exit; there = b }) e s seen

  -- ---- effects of the machine that ask nothing but a turn

  -- the overlay buffer is emptied, which flat code doesn't see
  pub clear-does : (a : Activation) → Does program choice own sp (Do (Runtime 3 [] None) End) 1 1 a Onward a
  clear-does a s seen = record {
    spent = 1;
    few = omega arith;
    after = begun 1 s;
    seen = record { cells = seen.cells; flag = seen.flag; input = seen.input; out = seen.out; err = seen.err };
    worked = omega arith;
    ends = λ t.
        let same : 1 + t ≡ suc t = omega arith in
        ap (λ k. run program choice (Do (Runtime 3 [] None) End) own (with_turns s k)) same
        ∙ run-alone program choice (Runtime 3 [] None) own (with_turns s (suc t)) (begun 1 (with_turns s (suc t))) refl;
    quiet = λ some. (begun 1 (with_turns s 0), run-alone program choice (Runtime 3 [] None) own (with_turns s 0) (begun 1 (with_turns s 0)) refl, refl, refl);
    silent = λ none. absurd (omega (arith, none));
  }

  -- the overlays are installed
  pub flag-does : (a : Activation) → Does program choice own sp (Do (Runtime 4 [] None) End) 1 1 a Onward (record a { flag = true })
  flag-does a s seen = record {
    spent = 1;
    few = omega arith;
    after = record (begun 1 s) { flag = true };
    seen = record {
      cells = record { fits = seen.cells.fits; words = seen.cells.words; outside = seen.cells.outside; below = seen.cells.below };
      flag = refl;
      input = seen.input;
      out = seen.out;
      err = seen.err;
    };
    worked = omega arith;
    ends = λ t.
        let same : 1 + t ≡ suc t = omega arith in
        ap (λ k. run program choice (Do (Runtime 4 [] None) End) own (with_turns s k)) same
        ∙ run-alone program choice (Runtime 4 [] None) own (with_turns s (suc t)) (begun 1 (with_turns s (suc t))) refl;
    quiet = λ some. (begun 1 (with_turns s 0), run-alone program choice (Runtime 4 [] None) own (with_turns s 0) (begun 1 (with_turns s 0)) refl, refl, refl);
    silent = λ none. absurd (omega (arith, none));
  }
