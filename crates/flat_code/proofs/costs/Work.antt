-- A run that begins with more work: each part of the meaning passes it on.
use Rattle.std.proofs.Common.{◌≡◌, ℕ, zero, suc, ◌+◌, ◌*◌, Bool, true, false, List, [], ◌∷◌, ◌++◌, length, Option, Some, None, refl, ap, ◌∙◌, arith}
use Rattle.std.specs.Prelude.{if◌then◌else◌, ◌%◌, ◌==◌, ◌&&◌, not, nat_lt, slice_get, Ok, Err}
use Rattle.common_values.specs.behaviour.Seen.{Ended, Undefined}
use Rattle.common_values.specs.integers.Words.{low_byte}
use Rattle.flat_code.specs.declared.memory.Trap.TheVariants.{ByZero, Bad}
use Rattle.flat_code.specs.declared.tree.Address.{Address}
use Rattle.flat_code.specs.declared.tree.FlatResult.{FlatResult}
use Rattle.flat_code.specs.Meaning.{routine_pointer, Frame, State, Outcome, Next, Left, Returned, Over, and_then, spent, spend, error_text, raised, with_found, begun, with_cells, set_cells, stored_at, copied_at, pointer_at, activation_bytes, is_too_deep, tested, admitted, entered_at, result_bytes, give, frame_of, opened, closed, ended, finished, Does, activated, entered, with_some, called, written, write_act, read_act, end_act, clear_act, flag_act, runtime_of, stored, left, step_of, looped, chosen, runs, run_by, run, value_of, values_of, key_of}
use Rattle.flat_code.specs.Memory.{Found, bytes_at, word_bytes, far_bytes}
use Rattle.flat_code.specs.Program.{Name, Key, Routine, UnitCode, FlatProgram, Choice, runtime_key}
use Rattle.flat_code.specs.Tree.{Step, StoreByte, StoreWord, Copy, Leave, Call, CallThrough, Runtime, StoreRoutine, Return, Error, step_size, expr_size, Code, End, Do, If, Loop}
use Rattle.flat_code.specs.costs.Worked.{worked, all_worked}

module _ (more : ℕ) where
  -- one outcome is another with more work
  abbrev Works : Outcome → Outcome → Type 0
  Works x y = y ≡ all_worked more x

  -- what follows passes the work on
  abbrev Passes : (State → Outcome) → Type 0
  Passes g = (s : State) → Works (g s) (g (worked more s))

  works_then : (x y : Outcome) (g : State → Outcome) → Works x y → Passes g → Works (and_then x g) (and_then y g)
  works_then (Next s) y g e h = ap (λ o. and_then o g) e ∙ h s
  works_then (Left loops s) y g e h = ap (λ o. and_then o g) e
  works_then (Returned s) y g e h = ap (λ o. and_then o g) e
  works_then (Over standing s) y g e h = ap (λ o. and_then o g) e

  works_finished : (x y : Outcome) (g : State → Outcome) → Works x y → Passes g → Works (finished x g) (finished y g)
  works_finished (Next s) y g e h = ap (λ o. finished o g) e ∙ h s
  works_finished (Left loops s) y g e h = ap (λ o. finished o g) e ∙ h s
  works_finished (Returned s) y g e h = ap (λ o. finished o g) e ∙ h s
  works_finished (Over standing s) y g e h = ap (λ o. finished o g) e

  works_looped : (x y : Outcome) (g : State → Outcome) → Works x y → Passes g → Works (looped x g) (looped y g)
  works_looped (Next s) y g e h = ap (λ o. looped o g) e ∙ h s
  works_looped (Left zero s) y g e h = ap (λ o. looped o g) e
  works_looped (Left (suc loops) s) y g e h = ap (λ o. looped o g) e
  works_looped (Returned s) y g e h = ap (λ o. looped o g) e
  works_looped (Over standing s) y g e h = ap (λ o. looped o g) e

  works_spent : (turns : ℕ) (s : State) (g : State → Outcome) → Passes g → Works (spent turns s g) (spent turns (worked more s) g)
  works_spent zero s g h = refl
  works_spent (suc turns) s g h = h (record s { turns = turns })

  works_spend : (s : State) (g : State → Outcome) → Passes g → Works (spend s g) (spend (worked more s) g)
  works_spend s g h = works_spent s.turns s g h

  works_raised : (code : ℕ) (s : State) → Works (raised code s) (raised code (worked more s))
  works_raised code s = works_spend s (λ t. Over (Ended (code % 256)) (record t { err = t.err ++ error_text code })) (λ t. refl)

  works_found : {A : Type 0} (x : Found A) (s : State) (g h : A → Outcome) → ((v : A) → Works (g v) (h v)) → Works (with_found x s g) (with_found x (worked more s) h)
  works_found (Ok v) s g h q = q v
  works_found (Err ByZero) s g h q = works_raised 200 s
  works_found (Err (Bad act)) s g h q = refl

  works_some : {A : Type 0} (x : Option A) (s : State) (g h : A → Outcome) → ((v : A) → Works (g v) (h v)) → Works (with_some x s g) (with_some x (worked more s) h)
  works_some (Some v) s g h q = q v
  works_some None s g h q = refl

  works_if : (b : Bool) (x y z w : Outcome) → Works x z → Works y w → Works (if b then x else y) (if b then z else w)
  works_if true x y z w p q = p
  works_if false x y z w p q = q

  -- a count that begins later counts the same
  begun_worked : (nodes : ℕ) (s : State) → begun nodes (worked more s) ≡ worked more (begun nodes s)
  begun_worked nodes s = let e : s.work + more + nodes ≡ s.work + nodes + more = omega arith in ap (λ n. record s { work = n }) e

  -- ## Calls

  works_give : (choice : Choice) (f : Frame) (result : Option FlatResult) (bytes : List ℕ) (s : State) → Works (give choice f result bytes s) (give choice f result bytes (worked more s))
  works_give choice f None bytes s = refl
  works_give choice f (Some result) bytes s =
      let x = stored_at choice f s.cells result.at bytes in
      works_if (length bytes == result.bytes) (with_found x s (set_cells s)) (Over (Undefined 1) s) (with_found x (worked more s) (set_cells (worked more s))) (Over (Undefined 1) (worked more s))
      (works_found x s (set_cells s) (set_cells (worked more s)) (λ m. refl)) refl

  works_ended : (choice : Choice) (r : Routine) (g f : Frame) (result : Option FlatResult) (s : State) → Works (ended choice r g f result s) (ended choice r g f result (worked more s))
  works_ended choice r g f result s =
      let t = with_cells s (closed choice r f s.cells) in
      works_found (result_bytes choice g s.cells r.result) s (λ bytes. give choice f result bytes t) (λ bytes. give choice f result bytes (worked more t)) (λ bytes. works_give choice f result bytes t)

  -- ## Acts

  next_if : (b : Bool) (s t : State) → (if b then worked more s else worked more t) ≡ worked more (if b then s else t)
  next_if true s t = refl
  next_if false s t = refl

  works_written : (handle : ℕ) (bytes : List ℕ) (s : State) → written handle bytes (worked more s) ≡ worked more (written handle bytes s)
  works_written handle bytes s =
      let out = record s { out = s.out ++ bytes } in
      let err = record s { err = s.err ++ bytes } in
      ap (λ t. if handle == 1 then worked more out else t) (next_if (handle == 2) err s) ∙ next_if (handle == 1) out (if handle == 2 then err else s)

  works_write : (args : List ℕ) (s : State) → Works (write_act args s) (write_act args (worked more s))
  works_write (handle ∷ segment ∷ offset ∷ count ∷ []) s =
      works_found (bytes_at s.cells (record { segment = segment; offset = offset }) 0 count) s (λ bytes. Next (written handle bytes s)) (λ bytes. Next (written handle bytes (worked more s)))
      (λ bytes. ap Next (works_written handle bytes s))
  works_write [] s = refl
  works_write (a ∷ []) s = refl
  works_write (a ∷ b ∷ []) s = refl
  works_write (a ∷ b ∷ c ∷ []) s = refl
  works_write (a ∷ b ∷ c ∷ d ∷ e ∷ rest) s = refl

  works_read : (choice : Choice) (f : Frame) (args : List ℕ) (result : Option FlatResult) (input : List ℕ) (s : State) → Works (read_act choice f args result input s) (read_act choice f args result input (worked more s))
  works_read choice f [] result [] s = works_give choice f result (word_bytes 65535) s
  works_read choice f [] result (byte ∷ input) s = works_give choice f result (word_bytes byte) (record s { input = input })
  works_read choice f (arg ∷ args) result input s = refl

  works_end : (args : List ℕ) (s : State) → Works (end_act args s) (end_act args (worked more s))
  works_end [] s = refl
  works_end (a ∷ []) s = refl
  works_end (a ∷ b ∷ rest) s = refl

  works_clear : (args : List ℕ) (s : State) → Works (clear_act args s) (clear_act args (worked more s))
  works_clear [] s = refl
  works_clear (a ∷ rest) s = refl

  works_flag : (args : List ℕ) (s : State) → Works (flag_act args s) (flag_act args (worked more s))
  works_flag [] s = refl
  works_flag (a ∷ rest) s = refl

  -- ## Statements

  works_stored : (choice : Choice) (f : Frame) (to : Address) (bytes : List ℕ) (s : State) → Works (stored choice f to bytes s) (stored choice f to bytes (worked more s))
  works_stored choice f to bytes s = works_found (stored_at choice f s.cells to bytes) s (set_cells s) (set_cells (worked more s)) (λ m. refl)

  works_left : (loops : ℕ) (s : State) → Works (left loops s) (left loops (worked more s))
  works_left zero s = refl
  works_left (suc loops) s = refl

  works_chosen : (v : ℕ) (x y z w : Outcome) → Works x z → Works y w → Works (chosen v x y) (chosen v z w)
  works_chosen zero x y z w p q = q
  works_chosen (suc v) x y z w p q = p

  module _ (program : FlatProgram) (choice : Choice) (again : Does) (like : (code : Code) (f : Frame) → Passes (again code f)) where
    works_activated : (name : Name) (unit : UnitCode) (r : Routine) (args : List ℕ) (result : Option FlatResult) (f : Frame) (s : State) → Works (activated choice again name unit r args result f s) (activated choice again name unit r args result f (worked more s))
    works_activated name unit r args result f s =
        let t = with_cells s (opened choice r f args s.cells) in
        let g = frame_of name unit r f in
        let go = ended choice r g f result in
        works_if (nat_lt f.sp (activation_bytes r)) (Over (Undefined 2) s) (finished (again r.body g t) go) (Over (Undefined 2) (worked more s)) (finished (again r.body g (worked more t)) go) refl
        (works_finished (again r.body g t) (again r.body g (worked more t)) go (like r.body g t) (λ u. works_ended choice r g f result u))

    works_entered : (name : Name) (unit : UnitCode) (args : List ℕ) (result : Option FlatResult) (f : Frame) (s : State) (r : Routine) → Works (entered program choice again name unit args result f s r) (entered program choice again name unit args result f (worked more s) r)
    works_entered name unit args result f s r =
        let t = worked more s in
        works_if (2 * length args == r.arguments) (admitted program choice again name unit r args result f s) (Over (Undefined 1) s) (admitted program choice again name unit r args result f t) (Over (Undefined 1) t)
        (works_if (program.overlaid name && not s.flag) (raised 208 s) (tested program choice again name unit r args result f s) (raised 208 t) (tested program choice again name unit r args result f t) (works_raised 208 s)
        (works_if (is_too_deep program r f.sum) (raised 202 s) (activated choice again name unit r args result f s) (raised 202 t) (activated choice again name unit r args result f t) (works_raised 202 s)
        (works_activated name unit r args result f s)))
        refl

    pub works_called : (args : List ℕ) (result : Option FlatResult) (f : Frame) (s : State) (key : Key) → Works (called program choice again args result f s key) (called program choice again args result f (worked more s) key)
    works_called args result f s key =
        works_some (program.unit key.unit) s (entered_at program choice again key args result f s) (entered_at program choice again key args result f (worked more s)) (λ unit.
        works_some (slice_get unit.routines key.number) s (entered program choice again key.unit unit args result f s) (entered program choice again key.unit unit args result f (worked more s))
        (λ r. works_entered key.unit unit args result f s r))

    works_runtime : (number : ℕ) (args : List ℕ) (result : Option FlatResult) (f : Frame) (s : State) → Works (runtime_of program choice again number args result f s) (runtime_of program choice again number args result f (worked more s))
    works_runtime zero args result f s = works_write args s
    works_runtime (suc zero) args result f s = works_read choice f args result s.input s
    works_runtime (suc (suc zero)) args result f s = works_end args s
    works_runtime (suc (suc (suc zero))) args result f s = works_clear args s
    works_runtime (suc (suc (suc (suc zero)))) args result f s = works_flag args s
    works_runtime (suc (suc (suc (suc (suc n))))) args result f s = works_called args result f s (runtime_key (5 + n))

    works_step : (step : Step) (f : Frame) (s : State) → Works (step_of program choice again step f s) (step_of program choice again step f (worked more s))
    works_step (StoreByte to value) f s =
        works_found (value_of choice f s.cells value) s (λ v. stored choice f to (low_byte v ∷ []) s) (λ v. stored choice f to (low_byte v ∷ []) (worked more s)) (λ v. works_stored choice f to (low_byte v ∷ []) s)
    works_step (StoreWord to value) f s =
        works_found (value_of choice f s.cells value) s (λ v. stored choice f to (word_bytes v) s) (λ v. stored choice f to (word_bytes v) (worked more s)) (λ v. works_stored choice f to (word_bytes v) s)
    works_step (Copy to from bytes) f s = works_found (copied_at choice f s.cells to from bytes) s (set_cells s) (set_cells (worked more s)) (λ m. refl)
    works_step (Leave loops) f s = works_left loops s
    works_step (Call unit number args result) f s =
        let a : List ℕ → State → Outcome = λ vs t. with_found (key_of f unit number) t (called program choice again vs result f t) in
        works_found (values_of choice f s.cells args) s (λ vs. spend s (a vs)) (λ vs. spend (worked more s) (a vs)) (λ vs. works_spend s (a vs) (λ t.
        works_found (key_of f unit number) t (called program choice again vs result f t) (called program choice again vs result f (worked more t)) (λ key. works_called vs result f t key)))
    works_step (CallThrough pointer args result) f s =
        let a : List ℕ → State → Outcome = λ vs t. with_found (pointer_at choice f t.cells pointer) t (λ p. with_some (choice.callee p) t (called program choice again vs result f t)) in
        works_found (values_of choice f s.cells args) s (λ vs. spend s (a vs)) (λ vs. spend (worked more s) (a vs)) (λ vs. works_spend s (a vs) (λ t.
        works_found (pointer_at choice f t.cells pointer) t (λ p. with_some (choice.callee p) t (called program choice again vs result f t)) (λ p. with_some (choice.callee p) (worked more t) (called program choice again vs result f (worked more t))) (λ pointee.
        works_some (choice.callee pointee) t (called program choice again vs result f t) (called program choice again vs result f (worked more t)) (λ key. works_called vs result f t key))))
    works_step (Runtime number args result) f s =
        works_found (values_of choice f s.cells args) s (λ vs. spend s (runtime_of program choice again number vs result f)) (λ vs. spend (worked more s) (runtime_of program choice again number vs result f)) (λ vs.
        works_spend s (runtime_of program choice again number vs result f) (λ t. works_runtime number vs result f t))
    works_step (StoreRoutine to unit number) f s =
        works_found (routine_pointer choice f unit number) s (λ p. stored choice f to (far_bytes p) s) (λ p. stored choice f to (far_bytes p) (worked more s)) (λ p. works_stored choice f to (far_bytes p) s)
    works_step Return f s = refl
    works_step (Error code) f s = works_raised code s

    works_runs : (code : Code) (f : Frame) (s : State) → Works (runs program choice again code f s) (runs program choice again code f (worked more s))
    works_runs End f s = refl
    works_runs (Do step next) f s =
        let t = begun (step_size step) s in
        let first = works_then (step_of program choice again step f t) (step_of program choice again step f (worked more t)) (runs program choice again next f) (works_step step f t) (λ u. works_runs next f u) in
        ap (λ u. and_then (step_of program choice again step f u) (runs program choice again next f)) (begun_worked (step_size step) s) ∙ first
    works_runs (If test taken other next) f s =
        let t = begun (1 + expr_size test) s in
        let value = value_of choice f s.cells test in
        let x = runs program choice again taken f t in
        let y = runs program choice again other f t in
        let z = runs program choice again taken f (worked more t) in
        let w = runs program choice again other f (worked more t) in
        let both = works_then (with_found value t (λ v. chosen v x y)) (with_found value (worked more t) (λ v. chosen v z w)) (runs program choice again next f)
        (works_found value t (λ v. chosen v x y) (λ v. chosen v z w) (λ v. works_chosen v x y z w (works_runs taken f t) (works_runs other f t))) (λ u. works_runs next f u) in
        ap (λ u. and_then (with_found value u (λ v. chosen v (runs program choice again taken f u) (runs program choice again other f u))) (runs program choice again next f)) (begun_worked (1 + expr_size test) s) ∙ both
    works_runs (Loop body next) f s =
        let t = begun 1 s in
        let a : State → Outcome = λ s. looped (runs program choice again body f (begun 1 s)) (again (Loop body End) f) in
        let passes : Passes a = λ u.
        let v = begun 1 u in
        ap (λ z. looped (runs program choice again body f z) (again (Loop body End) f)) (begun_worked 1 u) ∙ works_looped (runs program choice again body f v) (runs program choice again body f (worked more v)) (again (Loop body End) f) (works_runs body f v) (like (Loop body End) f) in
        let both = works_then (spend t a) (spend (worked more t) a) (runs program choice again next f) (works_spend t a passes) (λ u. works_runs next f u) in
        ap (λ u. and_then (spend u a) (runs program choice again next f)) (begun_worked 1 s) ∙ both

pub by_worked : (program : FlatProgram) (choice : Choice) (more fuel : ℕ) (code : Code) (f : Frame) (s : State) → run_by program choice fuel code f (worked more s) ≡ all_worked more (run_by program choice fuel code f s)
by_worked program choice more zero code f s = refl
by_worked program choice more (suc fuel) code f s = works_runs more program choice (run_by program choice fuel) (λ c g t. by_worked program choice more fuel c g t) code f s

pub run_worked : (program : FlatProgram) (choice : Choice) (more : ℕ) (code : Code) (f : Frame) (s : State) → run program choice code f (worked more s) ≡ all_worked more (run program choice code f s)
unfolding run
run_worked program choice more code f s = by_worked program choice more (suc s.turns) code f s

pub called_worked : (program : FlatProgram) (choice : Choice) (more : ℕ) (args : List ℕ) (result : Option FlatResult) (f : Frame) (s : State) (key : Key) → called program choice (run program choice) args result f (worked more s) key ≡ all_worked more (called program choice (run program choice) args result f s key)
called_worked program choice more = works_called more program choice (run program choice) (λ code f s. run_worked program choice more code f s)
