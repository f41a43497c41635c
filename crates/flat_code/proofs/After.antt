-- What each part of a run keeps: a relation between the states before and after, proved once for all such relations.
use Rattle.std.proofs.Common.{◌≡◌, ℕ, zero, suc, ◌+◌, ◌*◌, Bool, true, false, List, [], ◌∷◌, ◌++◌, length, Option, Some, None, refl}
use Rattle.std.specs.Prelude.{if◌then◌else◌, ◌%◌, ◌==◌, ◌&&◌, not, nat_lt, slice_get}
use Rattle.common_values.specs.integers.Words.{low_byte}
use Rattle.common_values.specs.behaviour.Seen.{Ended, Undefined}
use Rattle.flat_code.specs.declared.tree.Address.{Address}
use Rattle.flat_code.specs.declared.tree.FlatResult.{FlatResult}
use Rattle.flat_code.specs.Tree.{Step, StoreByte, StoreWord, Copy, Leave, Call, CallThrough, Runtime, StoreRoutine, Return, Error, step_size, expr_size, Code, End, Do, If, Loop}
use Rattle.flat_code.specs.Memory.{Cells, Found, bytes_at, word_bytes, far_bytes}
use Rattle.flat_code.specs.declared.memory.Trap.TheVariants.{ByZero, Bad}
use Rattle.std.specs.Prelude.{Ok, Err}
use Rattle.flat_code.specs.Program.{Name, Key, Routine, UnitCode, FlatProgram, Choice, runtime_key}
use Rattle.flat_code.specs.Meaning.{routine_pointer, Frame, State, Outcome, Next, Left, Returned, Over, and_then, spent, spend, error_text, raised, with_found, begun, with_cells, set_cells, stored_at, copied_at, pointer_at, activation_bytes, is_too_deep, tested, admitted, entered_at, result_bytes, give, frame_of, opened, closed, ended, finished, Does, activated, entered, with_some, called, written, write_act, read_act, end_act, clear_act, flag_act, runtime_of, stored, left, step_of, looped, chosen, runs, run_by, run, value_of, values_of, key_of}

-- the relation holds of the state from which an outcome goes on
abbrev pub After : (State → State → Type 0) → State → Outcome → Type 0
After Q r (Next s) = Q r s
After Q r (Left loops s) = Q r s
After Q r (Returned s) = Q r s
After Q r (Over standing s) = Q r s

-- each change that a run makes to its state is in the relation
pub record Steps (Q : State → State → Type 0) : Type 0 where
  pub itself : (s : State) → Q s s
  pub twice : (r s t : State) → Q r s → Q s t → Q r t
  pub turn : (turns : ℕ) (s : State) → s.turns ≡ suc turns → Q s (record s { turns = turns })
  pub work : (nodes : ℕ) (s : State) → Q s (begun nodes s)
  pub cells : (m : Cells) (s : State) → Q s (record s { cells = m })
  pub out : (bytes : List ℕ) (s : State) → Q s (record s { out = s.out ++ bytes })
  pub err : (bytes : List ℕ) (s : State) → Q s (record s { err = s.err ++ bytes })
  pub input : (byte : ℕ) (input : List ℕ) (s : State) → s.input ≡ byte ∷ input → Q s (record s { input = input })
  pub flag : (s : State) → Q s (record s { flag = true })

pub after_from : {Q : State → State → Type 0} → Steps Q → (r s : State) (o : Outcome) → Q r s → After Q s o → After Q r o
after_from steps r s (Next t) p q = steps.twice r s t p q
after_from steps r s (Left loops t) p q = steps.twice r s t p q
after_from steps r s (Returned t) p q = steps.twice r s t p q
after_from steps r s (Over standing t) p q = steps.twice r s t p q

pub after_if : (Q : State → State → Type 0) (r : State) (b : Bool) (x y : Outcome) → After Q r x → After Q r y → After Q r (if b then x else y)
after_if Q r true x y p q = p
after_if Q r false x y p q = q

pub after_and_then : {Q : State → State → Type 0} → Steps Q → (r : State) (o : Outcome) (go : State → Outcome) → After Q r o → ((s : State) → Q r s → After Q s (go s)) → After Q r (and_then o go)
after_and_then steps r (Next s) go p q = after_from steps r s (go s) p (q s p)
after_and_then steps r (Left loops s) go p q = p
after_and_then steps r (Returned s) go p q = p
after_and_then steps r (Over standing s) go p q = p

pub after_finished : {Q : State → State → Type 0} → Steps Q → (r : State) (o : Outcome) (go : State → Outcome) → After Q r o → ((s : State) → Q r s → After Q s (go s)) → After Q r (finished o go)
after_finished steps r (Next s) go p q = after_from steps r s (go s) p (q s p)
after_finished steps r (Left loops s) go p q = after_from steps r s (go s) p (q s p)
after_finished steps r (Returned s) go p q = after_from steps r s (go s) p (q s p)
after_finished steps r (Over standing s) go p q = p

pub after_looped : {Q : State → State → Type 0} → Steps Q → (r : State) (o : Outcome) (go : State → Outcome) → After Q r o → ((s : State) → Q r s → After Q s (go s)) → After Q r (looped o go)
after_looped steps r (Next s) go p q = after_from steps r s (go s) p (q s p)
after_looped steps r (Left zero s) go p q = p
after_looped steps r (Left (suc loops) s) go p q = p
after_looped steps r (Returned s) go p q = p
after_looped steps r (Over standing s) go p q = p

pub after_spent : {Q : State → State → Type 0} → Steps Q → (turns : ℕ) (s : State) (go : State → Outcome) → s.turns ≡ turns → ((t : State) → Q s t → After Q t (go t)) → After Q s (spent turns s go)
after_spent steps zero s go e q = steps.itself s
after_spent steps (suc turns) s go e q = let p = steps.turn turns s e in after_from steps s (record s { turns = turns }) (go (record s { turns = turns })) p (q (record s { turns = turns }) p)

pub after_spend : {Q : State → State → Type 0} → Steps Q → (s : State) (go : State → Outcome) → ((t : State) → Q s t → After Q t (go t)) → After Q s (spend s go)
after_spend steps s go q = after_spent steps s.turns s go refl q

pub after_raised : {Q : State → State → Type 0} → Steps Q → (code : ℕ) (s : State) → After Q s (raised code s)
after_raised steps code s = after_spend steps s (λ s. Over (Ended (code % 256)) (record s { err = s.err ++ error_text code })) (λ t p. steps.err (error_text code) t)

pub after_found : {Q : State → State → Type 0} {A : Type 0} → Steps Q → (x : Found A) (s : State) (go : A → Outcome) → ((v : A) → After Q s (go v)) → After Q s (with_found x s go)
after_found steps (Ok v) s go q = q v
after_found steps (Err ByZero) s go q = after_raised steps 200 s
after_found steps (Err (Bad act)) s go q = steps.itself s

pub after_some : {Q : State → State → Type 0} {A : Type 0} → Steps Q → (x : Option A) (s : State) (go : A → Outcome) → ((v : A) → After Q s (go v)) → After Q s (with_some x s go)
after_some steps (Some v) s go q = q v
after_some steps None s go q = steps.itself s

-- ---- calls

pub after_give : {Q : State → State → Type 0} → Steps Q → (choice : Choice) (f : Frame) (result : Option FlatResult) (bytes : List ℕ) (s : State) → After Q s (give choice f result bytes s)
after_give steps choice f None bytes s = steps.itself s
after_give {Q} steps choice f (Some result) bytes s =
    after_if Q s (length bytes == result.bytes) (with_found (stored_at choice f s.cells result.at bytes) s (set_cells s)) (Over (Undefined 1) s)
    (after_found steps (stored_at choice f s.cells result.at bytes) s (set_cells s) (λ m. steps.cells m s)) (steps.itself s)

pub after_ended : {Q : State → State → Type 0} → Steps Q → (choice : Choice) (r : Routine) (g f : Frame) (result : Option FlatResult) (s : State) → After Q s (ended choice r g f result s)
after_ended steps choice r g f result s =
    let t = with_cells s (closed choice r f s.cells) in
    after_found steps (result_bytes choice g s.cells r.result) s (λ bytes. give choice f result bytes t)
    (λ bytes. after_from steps s t (give choice f result bytes t) (steps.cells (closed choice r f s.cells) s) (after_give steps choice f result bytes t))

-- what the code run by `again` keeps
abbrev pub Keeps : (State → State → Type 0) → Does → Type 0
Keeps Q again = (code : Code) (f : Frame) (s : State) → After Q s (again code f s)

pub after_activated : {Q : State → State → Type 0} → Steps Q → (choice : Choice) (again : Does) → Keeps Q again → (name : Name) (unit : UnitCode) (r : Routine) (args : List ℕ) (result : Option FlatResult) (f : Frame) (s : State) → After Q s (activated choice again name unit r args result f s)
after_activated {Q} steps choice again keeps name unit r args result f s =
    let m = opened choice r f args s.cells in
    let t = with_cells s m in
    let g = frame_of name unit r f in
    let o = finished (again r.body g t) (ended choice r g f result) in
    after_if Q s (nat_lt f.sp (activation_bytes r)) (Over (Undefined 2) s) o (steps.itself s)
    (after_from steps s t o (steps.cells m s) (after_finished steps t (again r.body g t) (ended choice r g f result) (keeps r.body g t) (λ u p. after_ended steps choice r g f result u)))

pub after_entered : {Q : State → State → Type 0} → Steps Q → (program : FlatProgram) (choice : Choice) (again : Does) → Keeps Q again → (name : Name) (unit : UnitCode) (args : List ℕ) (result : Option FlatResult) (f : Frame) (s : State) (r : Routine) → After Q s (entered program choice again name unit args result f s r)
after_entered {Q} steps program choice again keeps name unit args result f s r =
    after_if Q s (2 * length args == r.arguments) (admitted program choice again name unit r args result f s) (Over (Undefined 1) s)
    (after_if Q s (program.overlaid name && not s.flag) (raised 208 s) (tested program choice again name unit r args result f s) (after_raised steps 208 s)
    (after_if Q s (is_too_deep program r f.sum) (raised 202 s) (activated choice again name unit r args result f s) (after_raised steps 202 s)
    (after_activated steps choice again keeps name unit r args result f s)))
    (steps.itself s)

pub after_called : {Q : State → State → Type 0} → Steps Q → (program : FlatProgram) (choice : Choice) (again : Does) → Keeps Q again → (args : List ℕ) (result : Option FlatResult) (f : Frame) (s : State) (key : Key) → After Q s (called program choice again args result f s key)
after_called steps program choice again keeps args result f s key =
    after_some steps (program.unit key.unit) s (entered_at program choice again key args result f s) (λ unit.
    after_some steps (slice_get unit.routines key.number) s (entered program choice again key.unit unit args result f s) (after_entered steps program choice again keeps key.unit unit args result f s))

-- ---- acts

pub after_written : {Q : State → State → Type 0} → Steps Q → (handle : ℕ) (bytes : List ℕ) (s : State) → Q s (written handle bytes s)
after_written {Q} steps handle bytes s =
    let err = record s { err = s.err ++ bytes } in
    state_if Q s (handle == 1) (record s { out = s.out ++ bytes }) (if handle == 2 then err else s) (steps.out bytes s) (state_if Q s (handle == 2) err s (steps.err bytes s) (steps.itself s))
  where
    state_if : (Q : State → State → Type 0) (r : State) (b : Bool) (x y : State) → Q r x → Q r y → Q r (if b then x else y)
    state_if Q r true x y p q = p
    state_if Q r false x y p q = q

pub after_write : {Q : State → State → Type 0} → Steps Q → (args : List ℕ) (s : State) → After Q s (write_act args s)
after_write steps (handle ∷ segment ∷ offset ∷ count ∷ []) s = after_found steps (bytes_at s.cells (record { segment = segment; offset = offset }) 0 count) s (λ bytes. Next (written handle bytes s)) (λ bytes. after_written steps handle bytes s)
after_write steps [] s = steps.itself s
after_write steps (a ∷ []) s = steps.itself s
after_write steps (a ∷ b ∷ []) s = steps.itself s
after_write steps (a ∷ b ∷ c ∷ []) s = steps.itself s
after_write steps (a ∷ b ∷ c ∷ d ∷ e ∷ rest) s = steps.itself s

pub after_read : {Q : State → State → Type 0} → Steps Q → (choice : Choice) (f : Frame) (args : List ℕ) (result : Option FlatResult) (input : List ℕ) (s : State) → s.input ≡ input → After Q s (read_act choice f args result input s)
after_read steps choice f [] result [] s e = after_give steps choice f result (word_bytes 65535) s
after_read steps choice f [] result (byte ∷ input) s e =
    let t = record s { input = input } in after_from steps s t (give choice f result (word_bytes byte) t) (steps.input byte input s e) (after_give steps choice f result (word_bytes byte) t)
after_read steps choice f (arg ∷ args) result input s e = steps.itself s

pub after_end : {Q : State → State → Type 0} → Steps Q → (args : List ℕ) (s : State) → After Q s (end_act args s)
after_end steps [] s = steps.itself s
after_end steps (a ∷ []) s = steps.itself s
after_end steps (a ∷ b ∷ rest) s = steps.itself s

pub after_clear : {Q : State → State → Type 0} → Steps Q → (args : List ℕ) (s : State) → After Q s (clear_act args s)
after_clear steps [] s = steps.itself s
after_clear steps (a ∷ rest) s = steps.itself s

pub after_flag : {Q : State → State → Type 0} → Steps Q → (args : List ℕ) (s : State) → After Q s (flag_act args s)
after_flag steps [] s = steps.flag s
after_flag steps (a ∷ rest) s = steps.itself s

pub after_runtime : {Q : State → State → Type 0} → Steps Q → (program : FlatProgram) (choice : Choice) (again : Does) → Keeps Q again → (number : ℕ) (args : List ℕ) (result : Option FlatResult) (f : Frame) (s : State) → After Q s (runtime_of program choice again number args result f s)
after_runtime steps program choice again keeps zero args result f s = after_write steps args s
after_runtime steps program choice again keeps (suc zero) args result f s = after_read steps choice f args result s.input s refl
after_runtime steps program choice again keeps (suc (suc zero)) args result f s = after_end steps args s
after_runtime steps program choice again keeps (suc (suc (suc zero))) args result f s = after_clear steps args s
after_runtime steps program choice again keeps (suc (suc (suc (suc zero)))) args result f s = after_flag steps args s
after_runtime steps program choice again keeps (suc (suc (suc (suc (suc n))))) args result f s = after_called steps program choice again keeps args result f s (runtime_key (5 + n))

-- ---- statements

pub after_stored : {Q : State → State → Type 0} → Steps Q → (choice : Choice) (f : Frame) (to : Address) (bytes : List ℕ) (s : State) → After Q s (stored choice f to bytes s)
after_stored steps choice f to bytes s = after_found steps (stored_at choice f s.cells to bytes) s (set_cells s) (λ m. steps.cells m s)

pub after_left : {Q : State → State → Type 0} → Steps Q → (loops : ℕ) (s : State) → After Q s (left loops s)
after_left steps zero s = steps.itself s
after_left steps (suc loops) s = steps.itself s

pub after_step : {Q : State → State → Type 0} → Steps Q → (program : FlatProgram) (choice : Choice) (again : Does) → Keeps Q again → (step : Step) (f : Frame) (s : State) → After Q s (step_of program choice again step f s)
after_step steps program choice again keeps (StoreByte to value) f s =
    after_found steps (value_of choice f s.cells value) s (λ v. stored choice f to (low_byte v ∷ []) s) (λ v. after_stored steps choice f to (low_byte v ∷ []) s)
after_step steps program choice again keeps (StoreWord to value) f s =
    after_found steps (value_of choice f s.cells value) s (λ v. stored choice f to (word_bytes v) s) (λ v. after_stored steps choice f to (word_bytes v) s)
after_step steps program choice again keeps (Copy to from bytes) f s = after_found steps (copied_at choice f s.cells to from bytes) s (set_cells s) (λ m. steps.cells m s)
after_step steps program choice again keeps (Leave loops) f s = after_left steps loops s
after_step steps program choice again keeps (Call unit number args result) f s =
    after_found steps (values_of choice f s.cells args) s (λ vs. spend s (λ s. with_found (key_of f unit number) s (called program choice again vs result f s))) (λ vs.
    after_spend steps s (λ s. with_found (key_of f unit number) s (called program choice again vs result f s)) (λ t p.
    after_found steps (key_of f unit number) t (called program choice again vs result f t) (after_called steps program choice again keeps vs result f t)))
after_step steps program choice again keeps (CallThrough pointer args result) f s =
    after_found steps (values_of choice f s.cells args) s
    (λ vs. spend s (λ s. with_found (pointer_at choice f s.cells pointer) s (λ p. with_some (choice.callee p) s (called program choice again vs result f s)))) (λ vs.
    after_spend steps s (λ s. with_found (pointer_at choice f s.cells pointer) s (λ p. with_some (choice.callee p) s (called program choice again vs result f s))) (λ t q.
    after_found steps (pointer_at choice f t.cells pointer) t (λ p. with_some (choice.callee p) t (called program choice again vs result f t)) (λ p.
    after_some steps (choice.callee p) t (called program choice again vs result f t) (after_called steps program choice again keeps vs result f t))))
after_step steps program choice again keeps (Runtime number args result) f s =
    after_found steps (values_of choice f s.cells args) s (λ vs. spend s (runtime_of program choice again number vs result f)) (λ vs.
    after_spend steps s (runtime_of program choice again number vs result f) (λ t p. after_runtime steps program choice again keeps number vs result f t))
after_step steps program choice again keeps (StoreRoutine to unit number) f s =
    after_found steps (routine_pointer choice f unit number) s (λ p. stored choice f to (far_bytes p) s) (λ p. after_stored steps choice f to (far_bytes p) s)
after_step steps program choice again keeps Return f s = steps.itself s
after_step steps program choice again keeps (Error code) f s = after_raised steps code s

pub after_chosen : (Q : State → State → Type 0) (r : State) (v : ℕ) (x y : Outcome) → After Q r x → After Q r y → After Q r (chosen v x y)
after_chosen Q r zero x y p q = q
after_chosen Q r (suc v) x y p q = p

pub after_runs : {Q : State → State → Type 0} → Steps Q → (program : FlatProgram) (choice : Choice) (again : Does) → Keeps Q again → (code : Code) (f : Frame) (s : State) → After Q s (runs program choice again code f s)
after_runs steps program choice again keeps End f s = steps.itself s
after_runs steps program choice again keeps (Do step next) f s =
    let t = begun (step_size step) s in
    let o = step_of program choice again step f t in
    after_and_then steps s o (runs program choice again next f) (after_from steps s t o (steps.work (step_size step) s) (after_step steps program choice again keeps step f t))
    (λ u p. after_runs steps program choice again keeps next f u)
after_runs {Q} steps program choice again keeps (If test taken other next) f s =
    let t = begun (1 + expr_size test) s in
    let x = runs program choice again taken f t in
    let y = runs program choice again other f t in
    let o = with_found (value_of choice f s.cells test) t (λ v. chosen v x y) in
    after_and_then steps s o (runs program choice again next f)
    (after_from steps s t o (steps.work (1 + expr_size test) s)
    (after_found steps (value_of choice f s.cells test) t (λ v. chosen v x y)
    (λ v. after_chosen Q t v x y (after_runs steps program choice again keeps taken f t) (after_runs steps program choice again keeps other f t))))
    (λ u p. after_runs steps program choice again keeps next f u)
after_runs steps program choice again keeps (Loop body next) f s =
    let t = begun 1 s in
    let go : State → Outcome = λ s. looped (runs program choice again body f (begun 1 s)) (again (Loop body End) f) in
    after_and_then steps s (spend t go) (runs program choice again next f)
    (after_from steps s t (spend t go) (steps.work 1 s)
    (after_spend steps t go (λ u p. let w = begun 1 u in
    after_from steps u w (go u) (steps.work 1 u)
    (after_looped steps w (runs program choice again body f w) (again (Loop body End) f) (after_runs steps program choice again keeps body f w) (λ x q. keeps (Loop body End) f x)))))
    (λ u p. after_runs steps program choice again keeps next f u)

pub after_run_by : {Q : State → State → Type 0} → Steps Q → (program : FlatProgram) (choice : Choice) (fuel : ℕ) → Keeps Q (run_by program choice fuel)
after_run_by steps program choice zero code f s = steps.itself s
after_run_by steps program choice (suc fuel) code f s = after_runs steps program choice (run_by program choice fuel) (after_run_by steps program choice fuel) code f s

pub after_run : {Q : State → State → Type 0} → Steps Q → (program : FlatProgram) (choice : Choice) → Keeps Q (run program choice)
unfolding run
after_run steps program choice code f s = after_run_by steps program choice (suc s.turns) code f s
