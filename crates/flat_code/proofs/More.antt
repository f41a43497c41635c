-- More turns never change what an ended run did, and a longer run goes on from what a shorter one wrote.
use Rattle.std.proofs.Common.{◌≡◌, ℕ, zero, suc, ◌+◌, ◌*◌, ◌<◌, ◌≤◌, Bool, true, false, List, [], ◌∷◌, ◌++◌, length, Option, Some, None, refl, sym, ap, subst, ◌∙◌, arith}
use Rattle.std.proofs.lemmas.List.{append-nil, append_assoc}
use Rattle.std.specs.Prelude.{if◌then◌else◌, ◌%◌, ◌==◌, ◌&&◌, not, nat_lt, slice_get}
use Rattle.common_values.specs.behaviour.Seen.{Standing, Ended, Going, Undefined, Stopped, Begins}
use Rattle.common_values.specs.integers.Words.{low_byte}
use Rattle.flat_code.specs.declared.tree.Address.{Address}
use Rattle.flat_code.specs.declared.tree.FlatResult.{FlatResult}
use Rattle.flat_code.specs.Tree.{Step, StoreByte, StoreWord, Copy, Leave, Call, CallThrough, Runtime, StoreRoutine, Return, Error, step_size, expr_size, Code, End, Do, If, Loop}
use Rattle.flat_code.specs.Memory.{Found, bytes_at, word_bytes, far_bytes}
use Rattle.flat_code.specs.declared.memory.Trap.TheVariants.{ByZero, Bad}
use Rattle.std.specs.Prelude.{Ok, Err}
use Rattle.flat_code.specs.Program.{Name, Key, Routine, UnitCode, FlatProgram, Choice, runtime_key}
use Rattle.flat_code.specs.Meaning.{routine_pointer, Frame, State, Outcome, Next, Left, Returned, Over, and_then, spent, spend, error_text, raised, with_found, begun, with_cells, set_cells, stored_at, copied_at, pointer_at, activation_bytes, is_too_deep, tested, admitted, entered_at, result_bytes, give, frame_of, opened, closed, ended, finished, Does, activated, entered, with_some, called, written, write_act, read_act, end_act, clear_act, flag_act, runtime_of, stored, left, step_of, looped, chosen, runs, run_by, run, value_of, values_of, key_of}
use Rattle.flat_code.proofs.After.{After, Steps, Keeps, after_and_then, after_spend, after_runs, after_run_by, after_run, after_step, after_called, after_found, after_runtime, after_finished, after_looped, after_ended, after_some, after_chosen}

-- ---- two relations that runs keep

abbrev pub Falls : State → State → Type 0
Falls r s = s.turns ≤ r.turns

pub falls : Steps Falls
falls = record {
  itself = λ s. omega arith;
  twice = λ r s t p q. omega arith;
  turn = λ turns s e. omega arith;
  work = λ nodes s. omega arith;
  cells = λ m s. omega arith;
  out = λ bytes s. omega arith;
  err = λ bytes s. omega arith;
  input = λ byte input s e. omega arith;
  flag = λ s. omega arith;
}

abbrev pub Grows : State → State → Type 0
Grows r s = Begins r.out s.out × Begins r.err s.err

begins_itself : (xs : List ℕ) → Begins xs xs
begins_itself xs = ([], sym (append-nil xs))

begins_twice : (xs ys zs : List ℕ) → Begins xs ys → Begins ys zs → Begins xs zs
begins_twice xs ys zs p q = (p.0 ++ q.0, q.1 ∙ ap (λ v. v ++ q.0) p.1 ∙ append_assoc xs p.0 q.0)

pub grows : Steps Grows
grows = record {
  itself = λ s. (begins_itself s.out, begins_itself s.err);
  twice = λ r s t p q. (begins_twice r.out s.out t.out p.0 q.0, begins_twice r.err s.err t.err p.1 q.1);
  turn = λ turns s e. (begins_itself s.out, begins_itself s.err);
  work = λ nodes s. (begins_itself s.out, begins_itself s.err);
  cells = λ m s. (begins_itself s.out, begins_itself s.err);
  out = λ bytes s. ((bytes, refl), begins_itself s.err);
  err = λ bytes s. (begins_itself s.out, (bytes, refl));
  input = λ byte input s e. (begins_itself s.out, begins_itself s.err);
  flag = λ s. (begins_itself s.out, begins_itself s.err);
}

-- ---- the same with more turns

abbrev pub more : ℕ → State → State
more k s = record s { turns = s.turns + k }

-- what a run that stands so becomes with k more turns: where it went on, something that begins with it, and itself where k is 0
abbrev pub MoreOver : ℕ → Standing → State → Outcome → Type 0
MoreOver k (Ended code) s o = o ≡ Over (Ended code) (more k s)
MoreOver k Going s o = (k ≡ 0 → o ≡ Over Going s) × After Grows s o
MoreOver k (Undefined act) s o = o ≡ Over (Undefined act) (more k s)
MoreOver k Stopped s o = o ≡ Over Stopped (more k s)

abbrev pub More : ℕ → Outcome → Outcome → Type 0
More k (Next s) o = o ≡ Next (more k s)
More k (Left loops s) o = o ≡ Left loops (more k s)
More k (Returned s) o = o ≡ Returned (more k s)
More k (Over standing s) o = MoreOver k standing s o

pub more_zero : (s : State) → more 0 s ≡ s
more_zero s = let e : s.turns + 0 ≡ s.turns = omega arith in ap (λ t. record s { turns = t }) e

-- with no more turns it is the same outcome
pub more_same : (x y : Outcome) → More 0 x y → y ≡ x
more_same (Next s) y p = p ∙ ap Next (more_zero s)
more_same (Left loops s) y p = p ∙ ap (Left loops) (more_zero s)
more_same (Returned s) y p = p ∙ ap Returned (more_zero s)
more_same (Over (Ended code) s) y p = p ∙ ap (Over (Ended code)) (more_zero s)
more_same (Over Going s) y p = p.0 refl
more_same (Over (Undefined act) s) y p = p ∙ ap (Over (Undefined act)) (more_zero s)
more_same (Over Stopped s) y p = p ∙ ap (Over Stopped) (more_zero s)

-- what goes on with h begins with what was written before
abbrev pub Goes : (State → Outcome) → Type 0
Goes h = (s : State) → After Grows s (h s)

pub more_and_then : (k : ℕ) (r : State) (x y : Outcome) (g h : State → Outcome) → More k x y → After Falls r x → ((s : State) → s.turns ≤ r.turns → More k (g s) (h (more k s))) → Goes h → More k (and_then x g) (and_then y h)
more_and_then k r (Next s) y g h p f q w = subst (λ o. More k (g s) (and_then o h)) (sym p) (q s f)
more_and_then k r (Left loops s) y g h p f q w = ap (λ o. and_then o h) p
more_and_then k r (Returned s) y g h p f q w = ap (λ o. and_then o h) p
more_and_then k r (Over (Ended code) s) y g h p f q w = ap (λ o. and_then o h) p
more_and_then k r (Over Going s) y g h p f q w = (λ e. ap (λ o. and_then o h) (p.0 e), after_and_then grows s y h p.1 (λ t u. w t))
more_and_then k r (Over (Undefined act) s) y g h p f q w = ap (λ o. and_then o h) p
more_and_then k r (Over Stopped s) y g h p f q w = ap (λ o. and_then o h) p

pub more_finished : (k : ℕ) (r : State) (x y : Outcome) (g h : State → Outcome) → More k x y → After Falls r x → ((s : State) → s.turns ≤ r.turns → More k (g s) (h (more k s))) → Goes h → More k (finished x g) (finished y h)
more_finished k r (Next s) y g h p f q w = subst (λ o. More k (g s) (finished o h)) (sym p) (q s f)
more_finished k r (Left loops s) y g h p f q w = subst (λ o. More k (g s) (finished o h)) (sym p) (q s f)
more_finished k r (Returned s) y g h p f q w = subst (λ o. More k (g s) (finished o h)) (sym p) (q s f)
more_finished k r (Over (Ended code) s) y g h p f q w = ap (λ o. finished o h) p
more_finished k r (Over Going s) y g h p f q w = (λ e. ap (λ o. finished o h) (p.0 e), after_finished grows s y h p.1 (λ t u. w t))
more_finished k r (Over (Undefined act) s) y g h p f q w = ap (λ o. finished o h) p
more_finished k r (Over Stopped s) y g h p f q w = ap (λ o. finished o h) p

pub more_looped : (k : ℕ) (r : State) (x y : Outcome) (g h : State → Outcome) → More k x y → After Falls r x → ((s : State) → s.turns ≤ r.turns → More k (g s) (h (more k s))) → Goes h → More k (looped x g) (looped y h)
more_looped k r (Next s) y g h p f q w = subst (λ o. More k (g s) (looped o h)) (sym p) (q s f)
more_looped k r (Left zero s) y g h p f q w = ap (λ o. looped o h) p
more_looped k r (Left (suc loops) s) y g h p f q w = ap (λ o. looped o h) p
more_looped k r (Returned s) y g h p f q w = ap (λ o. looped o h) p
more_looped k r (Over (Ended code) s) y g h p f q w = ap (λ o. looped o h) p
more_looped k r (Over Going s) y g h p f q w = (λ e. ap (λ o. looped o h) (p.0 e), after_looped grows s y h p.1 (λ t u. w t))
more_looped k r (Over (Undefined act) s) y g h p f q w = ap (λ o. looped o h) p
more_looped k r (Over Stopped s) y g h p f q w = ap (λ o. looped o h) p

pub more_spent : (k turns : ℕ) (s : State) (g h : State → Outcome) → s.turns ≡ turns → ((t : State) → t.turns < s.turns → More k (g t) (h (more k t))) → Goes h → More k (spent turns s g) (spent (turns + k) (more k s) h)
more_spent zero zero s g h e q w = (λ z. ap (Over Going) (more_zero s), grows.itself s)
more_spent (suc j) zero s g h e q w =
    let sum : 0 + suc j ≡ suc j = omega arith in
    subst (λ n. More (suc j) (Over Going s) (spent n (more (suc j) s) h)) (sym sum) (λ z. absurd (omega (arith, z)), w (record s { turns = j }))
more_spent k (suc turns) s g h e q w =
    let sum : suc turns + k ≡ suc (turns + k) = omega arith in
    subst (λ n. More k (g (record s { turns = turns })) (spent n (more k s) h)) (sym sum) (q (record s { turns = turns }) (omega arith))

pub more_spend : (k : ℕ) (s : State) (g h : State → Outcome) → ((t : State) → t.turns < s.turns → More k (g t) (h (more k t))) → Goes h → More k (spend s g) (spend (more k s) h)
more_spend k s g h q w = more_spent k s.turns s g h refl q w

abbrev over_error : ℕ → State → Outcome
over_error code s = Over (Ended (code % 256)) (record s { err = s.err ++ error_text code })

pub more_raised : (k code : ℕ) (s : State) → More k (raised code s) (raised code (more k s))
more_raised k code s = more_spend k s (over_error code) (over_error code) (λ t p. refl) (λ t. grows.err (error_text code) t)

pub more_found : {A : Type 0} (k : ℕ) (x : Found A) (s : State) (g h : A → Outcome) → ((v : A) → More k (g v) (h v)) → More k (with_found x s g) (with_found x (more k s) h)
more_found k (Ok v) s g h q = q v
more_found k (Err ByZero) s g h q = more_raised k 200 s
more_found k (Err (Bad act)) s g h q = refl

pub more_some : {A : Type 0} (k : ℕ) (x : Option A) (s : State) (g h : A → Outcome) → ((v : A) → More k (g v) (h v)) → More k (with_some x s g) (with_some x (more k s) h)
more_some k (Some v) s g h q = q v
more_some k None s g h q = refl

pub more_if : (k : ℕ) (b : Bool) (x y z w : Outcome) → More k x z → More k y w → More k (if b then x else y) (if b then z else w)
more_if k true x y z w p q = p
more_if k false x y z w p q = q

-- ---- calls

pub more_give : (k : ℕ) (choice : Choice) (f : Frame) (result : Option FlatResult) (bytes : List ℕ) (s : State) → More k (give choice f result bytes s) (give choice f result bytes (more k s))
more_give k choice f None bytes s = refl
more_give k choice f (Some result) bytes s =
    let x = stored_at choice f s.cells result.at bytes in
    more_if k (length bytes == result.bytes) (with_found x s (set_cells s)) (Over (Undefined 1) s) (with_found x (more k s) (set_cells (more k s))) (Over (Undefined 1) (more k s))
    (more_found k x s (set_cells s) (set_cells (more k s)) (λ m. refl)) refl

pub more_ended : (k : ℕ) (choice : Choice) (r : Routine) (g f : Frame) (result : Option FlatResult) (s : State) → More k (ended choice r g f result s) (ended choice r g f result (more k s))
more_ended k choice r g f result s =
    let t = with_cells s (closed choice r f s.cells) in
    more_found k (result_bytes choice g s.cells r.result) s (λ bytes. give choice f result bytes t) (λ bytes. give choice f result bytes (more k t)) (λ bytes. more_give k choice f result bytes t)

-- two ways to run statements, of which the second is given k more turns, up to a number of turns
pub record Alike (A B : Does) (k bound : ℕ) : Type 0 where
  pub falling : Keeps Falls A
  pub growing : Keeps Grows B
  pub like : (code : Code) (f : Frame) (s : State) → s.turns < bound → More k (A code f s) (B code f (more k s))

pub more_activated : (choice : Choice) (A B : Does) (k bound : ℕ) → Alike A B k bound → (name : Name) (unit : UnitCode) (r : Routine) (args : List ℕ) (result : Option FlatResult) (f : Frame) (s : State) → s.turns < bound → More k (activated choice A name unit r args result f s) (activated choice B name unit r args result f (more k s))
more_activated choice A B k bound alike name unit r args result f s p =
    let t = with_cells s (opened choice r f args s.cells) in
    let g = frame_of name unit r f in
    let go = ended choice r g f result in
    more_if k (nat_lt f.sp (activation_bytes r)) (Over (Undefined 2) s) (finished (A r.body g t) go) (Over (Undefined 2) (more k s)) (finished (B r.body g (more k t)) go) refl
    (more_finished k t (A r.body g t) (B r.body g (more k t)) go go (alike.like r.body g t p) (alike.falling r.body g t) (λ u q. more_ended k choice r g f result u) (λ u. after_ended grows choice r g f result u))

pub more_entered : (program : FlatProgram) (choice : Choice) (A B : Does) (k bound : ℕ) → Alike A B k bound → (name : Name) (unit : UnitCode) (args : List ℕ) (result : Option FlatResult) (f : Frame) (s : State) (r : Routine) → s.turns < bound → More k (entered program choice A name unit args result f s r) (entered program choice B name unit args result f (more k s) r)
more_entered program choice A B k bound alike name unit args result f s r p =
    let s' = more k s in
    more_if k (2 * length args == r.arguments) (admitted program choice A name unit r args result f s) (Over (Undefined 1) s) (admitted program choice B name unit r args result f s') (Over (Undefined 1) s')
    (more_if k (program.overlaid name && not s.flag) (raised 208 s) (tested program choice A name unit r args result f s) (raised 208 s') (tested program choice B name unit r args result f s') (more_raised k 208 s)
    (more_if k (is_too_deep program r f.sum) (raised 202 s) (activated choice A name unit r args result f s) (raised 202 s') (activated choice B name unit r args result f s') (more_raised k 202 s)
    (more_activated choice A B k bound alike name unit r args result f s p)))
    refl

pub more_called : (program : FlatProgram) (choice : Choice) (A B : Does) (k bound : ℕ) → Alike A B k bound → (args : List ℕ) (result : Option FlatResult) (f : Frame) (s : State) (key : Key) → s.turns < bound → More k (called program choice A args result f s key) (called program choice B args result f (more k s) key)
more_called program choice A B k bound alike args result f s key p =
    more_some k (program.unit key.unit) s (entered_at program choice A key args result f s) (entered_at program choice B key args result f (more k s)) (λ unit.
    more_some k (slice_get unit.routines key.number) s (entered program choice A key.unit unit args result f s) (entered program choice B key.unit unit args result f (more k s))
    (λ r. more_entered program choice A B k bound alike key.unit unit args result f s r p))

-- ---- acts

next_if : (k : ℕ) (b : Bool) (s t : State) → (if b then more k s else more k t) ≡ more k (if b then s else t)
next_if k true s t = refl
next_if k false s t = refl

pub more_written : (k handle : ℕ) (bytes : List ℕ) (s : State) → written handle bytes (more k s) ≡ more k (written handle bytes s)
more_written k handle bytes s =
    let out = record s { out = s.out ++ bytes } in
    let err = record s { err = s.err ++ bytes } in
    ap (λ t. if handle == 1 then more k out else t) (next_if k (handle == 2) err s) ∙ next_if k (handle == 1) out (if handle == 2 then err else s)

pub more_write : (k : ℕ) (args : List ℕ) (s : State) → More k (write_act args s) (write_act args (more k s))
more_write k (handle ∷ segment ∷ offset ∷ count ∷ []) s =
    more_found k (bytes_at s.cells (record { segment = segment; offset = offset }) 0 count) s (λ bytes. Next (written handle bytes s)) (λ bytes. Next (written handle bytes (more k s)))
    (λ bytes. ap Next (more_written k handle bytes s))
more_write k [] s = refl
more_write k (a ∷ []) s = refl
more_write k (a ∷ b ∷ []) s = refl
more_write k (a ∷ b ∷ c ∷ []) s = refl
more_write k (a ∷ b ∷ c ∷ d ∷ e ∷ rest) s = refl

pub more_read : (k : ℕ) (choice : Choice) (f : Frame) (args : List ℕ) (result : Option FlatResult) (input : List ℕ) (s : State) → More k (read_act choice f args result input s) (read_act choice f args result input (more k s))
more_read k choice f [] result [] s = more_give k choice f result (word_bytes 65535) s
more_read k choice f [] result (byte ∷ input) s = more_give k choice f result (word_bytes byte) (record s { input = input })
more_read k choice f (arg ∷ args) result input s = refl

pub more_end : (k : ℕ) (args : List ℕ) (s : State) → More k (end_act args s) (end_act args (more k s))
more_end k [] s = refl
more_end k (a ∷ []) s = refl
more_end k (a ∷ b ∷ rest) s = refl

pub more_clear : (k : ℕ) (args : List ℕ) (s : State) → More k (clear_act args s) (clear_act args (more k s))
more_clear k [] s = refl
more_clear k (a ∷ rest) s = refl

pub more_flag : (k : ℕ) (args : List ℕ) (s : State) → More k (flag_act args s) (flag_act args (more k s))
more_flag k [] s = refl
more_flag k (a ∷ rest) s = refl

pub more_runtime : (program : FlatProgram) (choice : Choice) (A B : Does) (k bound : ℕ) → Alike A B k bound → (number : ℕ) (args : List ℕ) (result : Option FlatResult) (f : Frame) (s : State) → s.turns < bound → More k (runtime_of program choice A number args result f s) (runtime_of program choice B number args result f (more k s))
more_runtime program choice A B k bound alike zero args result f s p = more_write k args s
more_runtime program choice A B k bound alike (suc zero) args result f s p = more_read k choice f args result s.input s
more_runtime program choice A B k bound alike (suc (suc zero)) args result f s p = more_end k args s
more_runtime program choice A B k bound alike (suc (suc (suc zero))) args result f s p = more_clear k args s
more_runtime program choice A B k bound alike (suc (suc (suc (suc zero)))) args result f s p = more_flag k args s
more_runtime program choice A B k bound alike (suc (suc (suc (suc (suc n))))) args result f s p = more_called program choice A B k bound alike args result f s (runtime_key (5 + n)) p

-- ---- statements

pub more_stored : (k : ℕ) (choice : Choice) (f : Frame) (to : Address) (bytes : List ℕ) (s : State) → More k (stored choice f to bytes s) (stored choice f to bytes (more k s))
more_stored k choice f to bytes s = more_found k (stored_at choice f s.cells to bytes) s (set_cells s) (set_cells (more k s)) (λ m. refl)

pub more_left : (k loops : ℕ) (s : State) → More k (left loops s) (left loops (more k s))
more_left k zero s = refl
more_left k (suc loops) s = refl

pub more_step : (program : FlatProgram) (choice : Choice) (A B : Does) (k bound : ℕ) → Alike A B k bound → (step : Step) (f : Frame) (s : State) → s.turns ≤ bound → More k (step_of program choice A step f s) (step_of program choice B step f (more k s))
more_step program choice A B k bound alike (StoreByte to value) f s p =
    more_found k (value_of choice f s.cells value) s (λ v. stored choice f to (low_byte v ∷ []) s) (λ v. stored choice f to (low_byte v ∷ []) (more k s)) (λ v. more_stored k choice f to (low_byte v ∷ []) s)
more_step program choice A B k bound alike (StoreWord to value) f s p =
    more_found k (value_of choice f s.cells value) s (λ v. stored choice f to (word_bytes v) s) (λ v. stored choice f to (word_bytes v) (more k s)) (λ v. more_stored k choice f to (word_bytes v) s)
more_step program choice A B k bound alike (Copy to from bytes) f s p = more_found k (copied_at choice f s.cells to from bytes) s (set_cells s) (set_cells (more k s)) (λ m. refl)
more_step program choice A B k bound alike (Leave loops) f s p = more_left k loops s
more_step program choice A B k bound alike (Call unit number args result) f s p =
    let a : List ℕ → State → Outcome = λ vs t. with_found (key_of f unit number) t (called program choice A vs result f t) in
    let b : List ℕ → State → Outcome = λ vs t. with_found (key_of f unit number) t (called program choice B vs result f t) in
    more_found k (values_of choice f s.cells args) s (λ vs. spend s (a vs)) (λ vs. spend (more k s) (b vs)) (λ vs.
    more_spend k s (a vs) (b vs)
    (λ t q. more_found k (key_of f unit number) t (called program choice A vs result f t) (called program choice B vs result f (more k t)) (λ key. more_called program choice A B k bound alike vs result f t key (omega arith)))
    (λ t. after_found grows (key_of f unit number) t (called program choice B vs result f t) (after_called grows program choice B alike.growing vs result f t)))
more_step program choice A B k bound alike (CallThrough pointer args result) f s p =
    let a : List ℕ → State → Outcome = λ vs t. with_found (pointer_at choice f t.cells pointer) t (λ p. with_some (choice.callee p) t (called program choice A vs result f t)) in
    let b : List ℕ → State → Outcome = λ vs t. with_found (pointer_at choice f t.cells pointer) t (λ p. with_some (choice.callee p) t (called program choice B vs result f t)) in
    more_found k (values_of choice f s.cells args) s (λ vs. spend s (a vs)) (λ vs. spend (more k s) (b vs)) (λ vs.
    more_spend k s (a vs) (b vs)
    (λ t q.
    more_found k (pointer_at choice f t.cells pointer) t (λ p. with_some (choice.callee p) t (called program choice A vs result f t)) (λ p. with_some (choice.callee p) (more k t) (called program choice B vs result f (more k t))) (λ pointee.
    more_some k (choice.callee pointee) t (called program choice A vs result f t) (called program choice B vs result f (more k t)) (λ key. more_called program choice A B k bound alike vs result f t key (omega arith))))
    (λ t. after_found grows (pointer_at choice f t.cells pointer) t (λ p. with_some (choice.callee p) t (called program choice B vs result f t)) (λ p.
    after_some grows (choice.callee p) t (called program choice B vs result f t) (after_called grows program choice B alike.growing vs result f t))))
more_step program choice A B k bound alike (Runtime number args result) f s p =
    more_found k (values_of choice f s.cells args) s (λ vs. spend s (runtime_of program choice A number vs result f)) (λ vs. spend (more k s) (runtime_of program choice B number vs result f)) (λ vs.
    more_spend k s (runtime_of program choice A number vs result f) (runtime_of program choice B number vs result f)
    (λ t q. more_runtime program choice A B k bound alike number vs result f t (omega arith))
    (λ t. after_runtime grows program choice B alike.growing number vs result f t))
more_step program choice A B k bound alike (StoreRoutine to unit number) f s p =
    more_found k (routine_pointer choice f unit number) s (λ p. stored choice f to (far_bytes p) s) (λ p. stored choice f to (far_bytes p) (more k s)) (λ p. more_stored k choice f to (far_bytes p) s)
more_step program choice A B k bound alike Return f s p = refl
more_step program choice A B k bound alike (Error code) f s p = more_raised k code s

pub more_chosen : (k v : ℕ) (x y z w : Outcome) → More k x z → More k y w → More k (chosen v x y) (chosen v z w)
more_chosen k zero x y z w p q = q
more_chosen k (suc v) x y z w p q = p

pub more_runs : (program : FlatProgram) (choice : Choice) (A B : Does) (k bound : ℕ) → Alike A B k bound → (code : Code) (f : Frame) (s : State) → s.turns ≤ bound → More k (runs program choice A code f s) (runs program choice B code f (more k s))
more_runs program choice A B k bound alike End f s p = refl
more_runs program choice A B k bound alike (Do step next) f s p =
    let t = begun (step_size step) s in
    more_and_then k t (step_of program choice A step f t) (step_of program choice B step f (more k t)) (runs program choice A next f) (runs program choice B next f)
    (more_step program choice A B k bound alike step f t p) (after_step falls program choice A alike.falling step f t)
    (λ u q. more_runs program choice A B k bound alike next f u (omega arith)) (λ u. after_runs grows program choice B alike.growing next f u)
more_runs program choice A B k bound alike (If test taken other next) f s p =
    let t = begun (1 + expr_size test) s in
    let x = runs program choice A taken f t in
    let y = runs program choice A other f t in
    let z = runs program choice B taken f (more k t) in
    let w = runs program choice B other f (more k t) in
    let value = value_of choice f s.cells test in
    more_and_then k t (with_found value t (λ v. chosen v x y)) (with_found value (more k t) (λ v. chosen v z w)) (runs program choice A next f) (runs program choice B next f)
    (more_found k value t (λ v. chosen v x y) (λ v. chosen v z w) (λ v. more_chosen k v x y z w (more_runs program choice A B k bound alike taken f t p) (more_runs program choice A B k bound alike other f t p)))
    (after_found falls value t (λ v. chosen v x y) (λ v. after_chosen Falls t v x y (after_runs falls program choice A alike.falling taken f t) (after_runs falls program choice A alike.falling other f t)))
    (λ u q. more_runs program choice A B k bound alike next f u (omega arith)) (λ u. after_runs grows program choice B alike.growing next f u)
more_runs program choice A B k bound alike (Loop body next) f s p =
    let t = begun 1 s in
    let a : State → Outcome = λ s. looped (runs program choice A body f (begun 1 s)) (A (Loop body End) f) in
    let b : State → Outcome = λ s. looped (runs program choice B body f (begun 1 s)) (B (Loop body End) f) in
    let a_falls : (u : State) → After Falls u (a u) = λ u. let w = begun 1 u in
    after_looped falls w (runs program choice A body f w) (A (Loop body End) f) (after_runs falls program choice A alike.falling body f w) (λ x q. alike.falling (Loop body End) f x) in
    let b_grows : (u : State) → After Grows u (b u) = λ u. let w = begun 1 u in
    after_looped grows w (runs program choice B body f w) (B (Loop body End) f) (after_runs grows program choice B alike.growing body f w) (λ x q. alike.growing (Loop body End) f x) in
    more_and_then k t (spend t a) (spend (more k t) b) (runs program choice A next f) (runs program choice B next f)
    (more_spend k t a b
    (λ u q. let w = begun 1 u in
    more_looped k w (runs program choice A body f w) (runs program choice B body f (more k w)) (A (Loop body End) f) (B (Loop body End) f)
    (more_runs program choice A B k bound alike body f w (omega arith)) (after_runs falls program choice A alike.falling body f w)
    (λ x r. alike.like (Loop body End) f x (omega arith)) (λ x. alike.growing (Loop body End) f x))
    b_grows)
    (after_spend falls t a (λ u q. a_falls u))
    (λ u q. more_runs program choice A B k bound alike next f u (omega arith)) (λ u. after_runs grows program choice B alike.growing next f u)

-- ---- fuel

pub more_by : (program : FlatProgram) (choice : Choice) (k m n : ℕ) (code : Code) (f : Frame) (s : State) → s.turns < m → s.turns + k < n → More k (run_by program choice m code f s) (run_by program choice n code f (more k s))
more_by program choice k zero n code f s p q = absurd (omega arith)
more_by program choice k (suc m) zero code f s p q = absurd (omega arith)
more_by program choice k (suc m) (suc n) code f s p q =
    more_runs program choice (run_by program choice m) (run_by program choice n) k s.turns
    (record {
      falling = after_run_by falls program choice m;
      growing = after_run_by grows program choice n;
      like = λ code f t r. more_by program choice k m n code f t (omega arith) (omega arith);
    })
    code f s (omega arith)

-- more turns
pub more_run : (program : FlatProgram) (choice : Choice) (k : ℕ) (code : Code) (f : Frame) (s : State) → More k (run program choice code f s) (run program choice code f (more k s))
unfolding run
more_run program choice k code f s = more_by program choice k (suc s.turns) (suc (s.turns + k)) code f s (omega arith) (omega arith)

-- the equation that the meaning solves: what statements do with fewer turns is their meaning too
pub run-runs : (program : FlatProgram) (choice : Choice) (code : Code) (f : Frame) (s : State) → run program choice code f s ≡ runs program choice (run program choice) code f s
unfolding run
run-runs program choice code f s =
    let alike : Alike (run_by program choice s.turns) (run program choice) 0 s.turns = record {
      falling = after_run_by falls program choice s.turns;
      growing = after_run grows program choice;
      like = λ code f t r. more_by program choice 0 s.turns (suc (t.turns + 0)) code f t r (omega arith);
    } in
    let e : runs program choice (run program choice) code f (more 0 s) ≡ run program choice code f s =
    more_same (run program choice code f s) (runs program choice (run program choice) code f (more 0 s)) (more_runs program choice (run_by program choice s.turns) (run program choice) 0 s.turns alike code f s (omega arith)) in
    sym e ∙ ap (runs program choice (run program choice) code f) (more_zero s)
