-- Straight code comes to what it is seen to do.
use Rattle.std.proofs.Common.{◌≡◌, ℕ, zero, suc, ◌+◌, List, [], ◌∷◌, set, Ok, ◌⊎◌, inl, inr, refl, ap, subst, ◌∙◌, arith}
use Rattle.common_values.specs.integers.Words.{low_byte}
use Rattle.flat_code.specs.declared.tree.Address.{Address}
use Rattle.flat_code.specs.declared.tree.Address.TheVariants.{Global, Local, Outer, Through}
use Rattle.flat_code.specs.declared.memory.Trap.TheVariants.{Bad}
use Rattle.flat_code.specs.Tree.{◌then◌, Expr, expr_size, Step, StoreByte, StoreWord, Copy, Leave, Call, CallThrough, Runtime, StoreRoutine, Return, Error, step_size, Code, End, Do, If, Loop}
use Rattle.flat_code.specs.Memory.{Cells, Found, ◌>>=◌, store_bytes, word_bytes}
use Rattle.flat_code.specs.Program.{FlatProgram, Choice}
use Rattle.flat_code.specs.Meaning.{Frame, State, Outcome, with_found, set_cells, with_cells, begun, stored, step_of, run}
use Rattle.flat_code.specs.Gives.{with_turns}
use Rattle.flat_code.proofs.Nodes.{run-alone, run-end}
use Rattle.runtime_proofs.specs.routine_proofs.Activation.{Slot, Shut, Free, Holds, Activation, slot_no, index_of, is_index, Shows, IsSeen, IsPlaced}
use Rattle.runtime_proofs.specs.routine_proofs.Straight.{seen_value, outer_place, with_slot, with_outer, with_word_at, Exit, Onward, Leaving, Returning, Failing, Came, onward, step_seen, continued, chosen_way, straight, code_size}
use Rattle.runtime_proofs.specs.routine_proofs.Comes.{outcome_of, Comes}
use Rattle.runtime_proofs.proofs.routine_proofs.Sight.{bind-ok, if-ok, ok-same, value-seen}
use Rattle.runtime_proofs.proofs.routine_proofs.Stores.{outer-seen, word-seen}
use Rattle.runtime_proofs.proofs.routine_proofs.Rules.{Skips, weaker, in-turn, skipping, tested-so}

module _ (program : FlatProgram) (choice : Choice) (own : Frame) (sp above : ℕ) (placed : IsPlaced choice own sp above) where
  -- ---- single steps

  -- a step that spends no turn, after which these cells are there
  stepped : (step : Step) (exit : Exit) (b : Activation) (s : State) (n : Cells) → IsSeen choice sp b (with_cells s n) →
      ((t : ℕ) → step_of program choice (run program choice) step own (begun (step_size step) (with_turns s t)) ≡ outcome_of exit (with_cells (begun (step_size step) (with_turns s t)) n)) →
      Comes program choice own sp (Do step End) 0 (step_size step) exit b s
  stepped step exit b s n seen steps = record {
    spent = 0;
    few = omega arith;
    after = with_cells (begun (step_size step) s) n;
    seen = record { cells = seen.cells; flag = seen.flag; input = seen.input; out = seen.out; err = seen.err };
    worked = omega arith;
    ends = λ t.
        let same : 0 + t ≡ t = omega arith in
        ap (λ k. run program choice (Do step End) own (with_turns s k)) same ∙ run-alone program choice step own (with_turns s t) (begun (step_size step) (with_turns s t)) refl ∙ steps t;
    quiet = λ some. absurd (omega (arith, some));
    silent = λ none. (refl, refl);
  }

  -- what a store leaves as it was
  abbrev SameRest : Activation → Activation → Type 0
  SameRest a b = (a.flag ≡ b.flag) × (a.input ≡ b.input) × (a.out ≡ b.out) × (a.err ≡ b.err)

  slot-rest : (slot : Slot) (a b : Activation) (i v : ℕ) → with_slot slot a i v ≡ Ok b → SameRest a b
  slot-rest Shut a b i v e = absurd (cc)
  slot-rest Free a b i v e = subst (SameRest a) (ok-same (record a { words = set a.words i (Holds v) }) b e) (refl, refl, refl, refl)
  slot-rest (Holds old) a b i v e = subst (SameRest a) (ok-same (record a { words = set a.words i (Holds v) }) b e) (refl, refl, refl, refl)

  outer-rest : (a b : Activation) (at : Address) (bytes : List ℕ) → with_outer choice own above a at bytes ≡ Ok b → SameRest a b
  outer-rest a b at bytes e =
      let found = bind-ok (outer_place choice own above a at) (λ p. store_bytes a.memory p 0 bytes >>= λ m. Ok (record a { memory = m })) b e in
      let stored = bind-ok (store_bytes a.memory found.0 0 bytes) (λ m. Ok (record a { memory = m })) b found.2 in
      subst (SameRest a) (ok-same (record a { memory = stored.0 }) b stored.2) (refl, refl, refl, refl)

  word-rest : (a b : Activation) (at : Address) (v : ℕ) → with_word_at choice own above a at v ≡ Ok b → SameRest a b
  word-rest a b (Local d) v e =
      let test = if-ok (is_index above d) (with_slot (slot_no a (index_of above d)) a (index_of above d) v) (Bad 2) b e in
      slot-rest (slot_no a (index_of above d)) a b (index_of above d) v test.1
  word-rest a b (Global unit number plus) v e = outer-rest a b (Global unit number plus) (word_bytes v) e
  word-rest a b (Outer levels at) v e = outer-rest a b (Outer levels at) (word_bytes v) e
  word-rest a b (Through slot plus) v e = outer-rest a b (Through slot plus) (word_bytes v) e

  seen-after : (a b : Activation) (s : State) (n : Cells) → IsSeen choice sp a s → Shows choice sp b n → SameRest a b → IsSeen choice sp b (with_cells s n)
  seen-after a b s n seen shows rest = record { cells = shows; flag = seen.flag ∙ rest.0; input = seen.input ∙ rest.1; out = seen.out ∙ rest.2; err = seen.err ∙ rest.3 }

  came-so : (step : Step) (exit : Exit) (b : Activation) (came : Came) (s : State) → (let r : Found Came = Ok (record { exit = exit; there = b }) in r ≡ Ok came) → Comes program choice own sp (Do step End) 0 (step_size step) exit b s → Comes program choice own sp (Do step End) 0 (step_size step) came.exit came.there s
  came-so step exit b came s e c = subst (λ (x : Came). Comes program choice own sp (Do step End) 0 (step_size step) x.exit x.there s) (ok-same (record { exit = exit; there = b }) came e) c

  step-comes : (step : Step) (a : Activation) (came : Came) (s : State) → step_seen choice own above step a ≡ Ok came → IsSeen choice sp a s → Comes program choice own sp (Do step End) 0 (step_size step) came.exit came.there s
  step-comes (StoreByte to value) a came s e seen =
      let found = bind-ok (seen_value choice own above a value) (λ v. with_outer choice own above a to (low_byte v ∷ []) >>= λ b. onward b) came e in
      let stored = bind-ok (with_outer choice own above a to (low_byte found.0 ∷ [])) (λ b. onward b) came found.2 in
      let v = value-seen choice own sp above placed a s.cells seen.cells value found.0 found.1 in
      let now = outer-seen choice own sp above placed a stored.0 s.cells to (low_byte found.0 ∷ []) seen.cells stored.1 in
      came-so (StoreByte to value) Onward stored.0 came s stored.2
      (stepped (StoreByte to value) Onward stored.0 s now.0 (seen-after a stored.0 s now.0 seen now.2 (outer-rest a stored.0 to (low_byte found.0 ∷ []) stored.1))
      (λ t. let u = begun (1 + expr_size value) (with_turns s t) in
      ap (λ (x : Found ℕ). with_found x u (λ v. stored_in to (low_byte v ∷ []) u)) v.0 ∙ ap (λ (x : Found Cells). with_found x u (set_cells u)) now.1))
    where
      stored_in : Address → List ℕ → State → Outcome
      stored_in to bytes s = stored choice own to bytes s
  step-comes (StoreWord to value) a came s e seen =
      let found = bind-ok (seen_value choice own above a value) (λ v. with_word_at choice own above a to v >>= λ b. onward b) came e in
      let put = bind-ok (with_word_at choice own above a to found.0) (λ b. onward b) came found.2 in
      let v = value-seen choice own sp above placed a s.cells seen.cells value found.0 found.1 in
      let now = word-seen choice own sp above placed a put.0 s.cells to found.0 v.1 seen.cells put.1 in
      came-so (StoreWord to value) Onward put.0 came s put.2
      (stepped (StoreWord to value) Onward put.0 s now.0 (seen-after a put.0 s now.0 seen now.2 (word-rest a put.0 to found.0 put.1))
      (λ t. let u = begun (1 + expr_size value) (with_turns s t) in
      ap (λ (x : Found ℕ). with_found x u (λ v. stored choice own to (word_bytes v) u)) v.0 ∙ ap (λ (x : Found Cells). with_found x u (set_cells u)) now.1))
  step-comes (Copy to from bytes) a came s e seen = absurd (cc)
  step-comes (Leave zero) a came s e seen = came-so (Leave zero) Onward a came s e (stepped (Leave zero) Onward a s s.cells seen (λ t. refl))
  step-comes (Leave (suc loops)) a came s e seen = came-so (Leave (suc loops)) (Leaving loops) a came s e (stepped (Leave (suc loops)) (Leaving loops) a s s.cells seen (λ t. refl))
  step-comes (Call unit number args result) a came s e seen = absurd (cc)
  step-comes (CallThrough pointer args result) a came s e seen = absurd (cc)
  step-comes (Runtime number args result) a came s e seen = absurd (cc)
  step-comes (StoreRoutine to unit number) a came s e seen = absurd (cc)
  step-comes Return a came s e seen = came-so Return Returning a came s e (stepped Return Returning a s s.cells seen (λ t. refl))
  step-comes (Error code) a came s e seen = came-so (Error code) (Failing code) a came s e (stepped (Error code) (Failing code) a s s.cells seen (λ t. refl))

  -- ---- straight code

  nothing-comes : (a : Activation) (s : State) → IsSeen choice sp a s → Comes program choice own sp End 0 0 Onward a s
  nothing-comes a s seen = record {
    spent = 0;
    few = omega arith;
    after = s;
    seen = seen;
    worked = omega arith;
    ends = λ t. let same : 0 + t ≡ t = omega arith in ap (λ k. run program choice End own (with_turns s k)) same ∙ run-end program choice own (with_turns s t);
    quiet = λ some. absurd (omega (arith, some));
    silent = λ none. (refl, refl);
  }

  -- what follows a piece of code
  skipped-so : (first next : Code) (w1 w2 : ℕ) (exit : Exit) (b : Activation) (came : Came) (s : State) → Skips exit → Comes program choice own sp first 0 w1 exit b s → (let r : Found Came = Ok (record { exit = exit; there = b }) in r ≡ Ok came) → Comes program choice own sp (first then next) 0 (w1 + w2) came.exit came.there s
  skipped-so first next w1 w2 exit b came s h x e =
      weaker program choice own sp (first then next) 0 w1 0 (w1 + w2) came.exit came.there s (omega arith) (omega arith)
      (subst (λ (c : Came). Comes program choice own sp (first then next) 0 w1 c.exit c.there s) (ok-same (record { exit = exit; there = b }) came e) (skipping program choice own sp first next 0 w1 exit b s h x))

  followed : (first next : Code) (w1 w2 : ℕ) (exit : Exit) (b : Activation) (came : Came) (s : State) → Comes program choice own sp first 0 w1 exit b s → continued exit b (straight choice own above next) ≡ Ok came →
      ((u : State) → IsSeen choice sp b u → straight choice own above next b ≡ Ok came → Comes program choice own sp next 0 w2 came.exit came.there u) → Comes program choice own sp (first then next) 0 (w1 + w2) came.exit came.there s
  followed first next w1 w2 Onward b came s x e rest = in-turn program choice own sp first next 0 w1 0 w2 came.exit b came.there s x (λ u seen. rest u seen e)
  followed first next w1 w2 (Leaving loops) b came s x e rest = skipped-so first next w1 w2 (Leaving loops) b came s tt x e
  followed first next w1 w2 Returning b came s x e rest = skipped-so first next w1 w2 Returning b came s tt x e
  followed first next w1 w2 (Failing code) b came s x e rest = skipped-so first next w1 w2 (Failing code) b came s tt x e

  seen-begun : (a : Activation) (s : State) (n : ℕ) → IsSeen choice sp a s → IsSeen choice sp a (begun n s)
  seen-begun a s n seen = record { cells = seen.cells; flag = seen.flag; input = seen.input; out = seen.out; err = seen.err }

  pub straight-comes : (code : Code) (a : Activation) (came : Came) → straight choice own above code a ≡ Ok came → (s : State) → IsSeen choice sp a s → Comes program choice own sp code 0 (code_size code) came.exit came.there s
  straight-comes End a came e s seen = subst (λ (c : Came). Comes program choice own sp End 0 0 c.exit c.there s) (ok-same (record { exit = Onward; there = a }) came e) (nothing-comes a s seen)
  straight-comes (Do step next) a came e s seen =
      let first = bind-ok (step_seen choice own above step a) (λ c. continued c.exit c.there (straight choice own above next)) came e in
      followed (Do step End) next (step_size step) (code_size next) first.0.exit first.0.there came s (step-comes step a first.0 s first.1 seen) first.2 (λ u sees f. straight-comes next first.0.there came f u sees)
  straight-comes (If test taken other next) a came e s seen =
      let value = bind-ok (seen_value choice own above a test) (λ v. chosen_way v (straight choice own above taken a) (straight choice own above other a) >>= λ c. continued c.exit c.there (straight choice own above next)) came e in
      let way = bind-ok (chosen_way value.0 (straight choice own above taken a) (straight choice own above other a)) (λ c. continued c.exit c.there (straight choice own above next)) came value.2 in
      let v = value-seen choice own sp above placed a s.cells seen.cells test value.0 value.1 in
      let u = begun (1 + expr_size test) s in
      let sees = seen-begun a s (1 + expr_size test) seen in
      followed (If test taken other End) next (1 + expr_size test + (code_size taken + code_size other)) (code_size next) way.0.exit way.0.there came s
      (tested-so program choice own sp test taken other value.0 0 (code_size taken + code_size other) way.0.exit way.0.there s v.0
      (either-way test taken other value.0 way.0 u way.1
      (λ f. straight-comes taken a way.0 f u sees) (λ f. straight-comes other a way.0 f u sees)))
      way.2 (λ u sees f. straight-comes next way.0.there came f u sees)
    where
      either-way : (test : Expr) (taken other : Code) (v : ℕ) (c : Came) (u : State) → chosen_way v (straight choice own above taken a) (straight choice own above other a) ≡ Ok c →
          (straight choice own above taken a ≡ Ok c → Comes program choice own sp taken 0 (code_size taken) c.exit c.there u) → (straight choice own above other a ≡ Ok c → Comes program choice own sp other 0 (code_size other) c.exit c.there u) →
          ((v ≡ 0) × Comes program choice own sp other 0 (code_size taken + code_size other) c.exit c.there u) ⊎ ((v ≡ 0 → ⊥) × Comes program choice own sp taken 0 (code_size taken + code_size other) c.exit c.there u)
      either-way test taken other zero c u f first second = inl (refl, weaker program choice own sp other 0 (code_size other) 0 (code_size taken + code_size other) c.exit c.there u (omega arith) (omega arith) (second f))
      either-way test taken other (suc v) c u f first second = inr (λ z. omega (arith, z), weaker program choice own sp taken 0 (code_size taken) 0 (code_size taken + code_size other) c.exit c.there u (omega arith) (omega arith) (first f))
  straight-comes (Loop body next) a came e s seen = absurd (cc)
