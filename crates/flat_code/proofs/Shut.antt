-- What can't be reached as statements begin can't be reached after them.
use Rattle.std.proofs.Common.{◌≡◌, ℕ, zero, suc, ◌+◌, ◌-◌, ◌*◌, ◌<◌, ◌≤◌, Bool, true, false, List, [], ◌∷◌, ◌++◌, length, Option, Some, None, refl, sym, ap, ◌∙◌, ⊎_elim, arith}
use Rattle.std.proofs.lemmas.Bool.{cases_lt, cases_eq}
use borrow.Author.Tests.{ltb-false, eqb-true}
use Rattle.std.proofs.lemmas.Bool.Decides.{nat_tests}
use Rattle.std.specs.Prelude.{if◌then◌else◌, ◌%◌, ◌==◌, ◌&&◌, not, nat_lt, slice_get, Ok, Err}
use Rattle.common_values.specs.integers.Words.{low_byte, high_byte}
use Rattle.flat_code.specs.declared.tree.Address.{Address}
use Rattle.flat_code.specs.declared.tree.FlatResult.{FlatResult}
use Rattle.flat_code.specs.declared.memory.Cell.{Cell}
use Rattle.flat_code.specs.declared.memory.Cell.TheVariants.{Known, Unset, Outside}
use Rattle.flat_code.specs.declared.memory.Place.{Place}
use Rattle.flat_code.specs.declared.memory.Trap.TheVariants.{ByZero, Bad}
use Rattle.common_values.specs.behaviour.Seen.{Ended, Undefined}
use Rattle.flat_code.specs.Tree.{Step, StoreByte, StoreWord, Copy, Leave, Call, CallThrough, Runtime, StoreRoutine, Return, Error, step_size, expr_size, Code, End, Do, If, Loop}
use Rattle.flat_code.specs.Program.{Name, Key, Routine, UnitCode, FlatProgram, Choice, runtime_key}
use Rattle.flat_code.specs.Meaning.{routine_pointer, Frame, State, Outcome, Next, Left, Returned, Over, and_then, spent, spend, error_text, raised, with_found, begun, with_cells, set_cells, stored_at, copied_at, pointer_at, activation_bytes, is_too_deep, tested, admitted, entered_at, result_bytes, give, frame_of, opened, closed, ended, finished, Does, activated, entered, with_some, called, written, write_act, read_act, end_act, clear_act, flag_act, runtime_of, stored, left, step_of, looped, chosen, runs, run_by, run, place_of, value_of, values_of, key_of}
use Rattle.flat_code.specs.Memory.{bytes_at, word_bytes, far_bytes, Cells, Found, ◌>>=◌, address_of, put, if_inside, write, store_bytes, copied_cell, copy, region, pushed}
use Rattle.flat_code.specs.Laws.{IsShutIn, StaysShut}

-- ---- writing

pub put_other : (m : Cells) (a : ℕ) (c : Cell) (x : ℕ) → (x ≡ a → ⊥) → put m a c x ≡ m x
put_other m a c x h = grind (arith, nat_tests)

bind-ok : {A B : Type 0} (x : Found A) (f : A → Found B) (b : B) → (x >>= f) ≡ Ok b → (a : A) × (x ≡ Ok a) × (f a ≡ Ok b)
bind-ok (Ok a) f b e = (a, refl, e)
bind-ok (Err trap) f b e = absurd (cc)

-- a cell that could be reached is written
put-shut : (m m' : Cells) (a : ℕ) (c : Cell) → (m a ≡ Outside → ⊥) → put m a c ≡ m' → IsShutIn m m'
put-shut m m' a c inside e x h =
    ap (λ (n : Cells). n x) (sym e)
    ∙ ⊎_elim (λ (same : x ≡ a). absurd (inside (ap m (sym same) ∙ h))) (λ other. put_other m a c x other ∙ h) (cases_eq x a)

ok-same : (m m' : Cells) → (let x : Found Cells = Ok m in x ≡ Ok m') → m ≡ m'
ok-same m m' e = cc

inside-shut : (cell : Cell) (m m' : Cells) (a : ℕ) (c : Cell) → m a ≡ cell → if_inside cell (put m a c) ≡ Ok m' → IsShutIn m m'
inside-shut (Known byte) m m' a c p e = put-shut m m' a c (λ h. cc) (ok-same (put m a c) m' e)
inside-shut Unset m m' a c p e = put-shut m m' a c (λ h. cc) (ok-same (put m a c) m' e)
inside-shut Outside m m' a c p e = absurd (cc)

write-shut : (m m' : Cells) (a : ℕ) (c : Cell) → write m a c ≡ Ok m' → IsShutIn m m'
write-shut m m' a c e = inside-shut (m a) m m' a c refl e

same-shut : (m m' : Cells) → (let x : Found Cells = Ok m in x ≡ Ok m') → IsShutIn m m'
same-shut m m' e x h = ap (λ (n : Cells). n x) (sym (ok-same m m' e)) ∙ h

pub store-shut : (m m' : Cells) (p : Place) (i : ℕ) (bytes : List ℕ) → store_bytes m p i bytes ≡ Ok m' → IsShutIn m m'
store-shut m m' p i [] e = same-shut m m' e
store-shut m m' p i (byte ∷ bytes) e = λ x h.
    let step = bind-ok (write m (address_of p i) (Known byte)) (λ n. store_bytes n p (i + 1) bytes) m' e in
    store-shut step.0 m' p (i + 1) bytes step.2 x (write-shut m step.0 (address_of p i) (Known byte) step.1 x h)

cell-shut : (cell : Cell) (m m' : Cells) (a : ℕ) → copied_cell m a cell ≡ Ok m' → IsShutIn m m'
cell-shut (Known byte) m m' a e = write-shut m m' a (Known byte) e
cell-shut Unset m m' a e = write-shut m m' a Unset e
cell-shut Outside m m' a e = absurd (cc)

pub copy-shut : (m m' : Cells) (to from : Place) (i n : ℕ) → copy m to from i n ≡ Ok m' → IsShutIn m m'
copy-shut m m' to from i zero e = same-shut m m' e
copy-shut m m' to from i (suc n) e = λ x h.
    let step = bind-ok (copied_cell m (address_of to i) (m (address_of from i))) (λ k. copy k to from (i + 1) n) m' e in
    copy-shut step.0 m' to from (i + 1) n step.2 x (cell-shut (m (address_of from i)) m step.0 (address_of to i) step.1 x h)

-- ---- the stack

pub region_in : (m : Cells) (segment low n : ℕ) (c : Cell) (x : ℕ) → 16 * segment + low ≤ x → x < 16 * segment + low + n → region m segment low n c x ≡ c
region_in m segment low n c x p q = grind (arith, nat_tests)

pub region_below : (m : Cells) (segment low n : ℕ) (c : Cell) (x : ℕ) → x < 16 * segment + low → region m segment low n c x ≡ m x
region_below m segment low n c x p = grind (arith, nat_tests)

pub region_above : (m : Cells) (segment low n : ℕ) (c : Cell) (x : ℕ) → 16 * segment + low + n ≤ x → region m segment low n c x ≡ m x
region_above m segment low n c x p = grind (arith, nat_tests)

pub pushed_below : (m : Cells) (segment sp : ℕ) (args : List ℕ) (x : ℕ) → 2 * length args ≤ sp → x < 16 * segment + (sp - 2 * length args) → pushed m segment sp args x ≡ m x
pushed_below m segment sp [] x p q = refl
pushed_below m segment sp (v ∷ vs) x p q =
    let n = put m (16 * segment + (sp - 2)) (Known (low_byte v)) in
    let ne : x ≡ 16 * segment + (sp - 1) → ⊥ = λ e. omega arith in
    let ne' : x ≡ 16 * segment + (sp - 2) → ⊥ = λ e. omega arith in
    pushed_below (put n (16 * segment + (sp - 1)) (Known (high_byte v))) segment (sp - 2) vs x (omega arith) (omega arith)
    ∙ put_other n (16 * segment + (sp - 1)) (Known (high_byte v)) x ne
    ∙ put_other m (16 * segment + (sp - 2)) (Known (low_byte v)) x ne'

pub pushed_above : (m : Cells) (segment sp : ℕ) (args : List ℕ) (x : ℕ) → 2 * length args ≤ sp → 16 * segment + sp ≤ x → pushed m segment sp args x ≡ m x
pushed_above m segment sp [] x p q = refl
pushed_above m segment sp (v ∷ vs) x p q =
    let n = put m (16 * segment + (sp - 2)) (Known (low_byte v)) in
    let ne : x ≡ 16 * segment + (sp - 1) → ⊥ = λ e. omega arith in
    let ne' : x ≡ 16 * segment + (sp - 2) → ⊥ = λ e. omega arith in
    pushed_above (put n (16 * segment + (sp - 1)) (Known (high_byte v))) segment (sp - 2) vs x (omega arith) (omega arith)
    ∙ put_other n (16 * segment + (sp - 1)) (Known (high_byte v)) x ne
    ∙ put_other m (16 * segment + (sp - 2)) (Known (low_byte v)) x ne'

-- ---- outcomes

shut_from : (r s : State) (o : Outcome) → IsShutIn r.cells s.cells → StaysShut s o → StaysShut r o
shut_from r s (Next t) p q = λ x h. q x (p x h)
shut_from r s (Left loops t) p q = λ x h. q x (p x h)
shut_from r s (Returned t) p q = λ x h. q x (p x h)
shut_from r s (Over standing t) p q = tt

shut_and_then : (r : State) (o : Outcome) (go : State → Outcome) → StaysShut r o → ((s : State) → StaysShut s (go s)) → StaysShut r (and_then o go)
shut_and_then r (Next s) go p q = shut_from r s (go s) p (q s)
shut_and_then r (Left loops s) go p q = p
shut_and_then r (Returned s) go p q = p
shut_and_then r (Over standing s) go p q = tt

shut_looped : (r : State) (o : Outcome) (go : State → Outcome) → StaysShut r o → ((s : State) → StaysShut s (go s)) → StaysShut r (looped o go)
shut_looped r (Next s) go p q = shut_from r s (go s) p (q s)
shut_looped r (Left zero s) go p q = p
shut_looped r (Left (suc loops) s) go p q = p
shut_looped r (Returned s) go p q = p
shut_looped r (Over standing s) go p q = tt

-- the end of an activation, whatever the way to it
shut_finished : (r t : State) (o : Outcome) (go : State → Outcome) → StaysShut t o → ((s : State) → IsShutIn t.cells s.cells → StaysShut r (go s)) → StaysShut r (finished o go)
shut_finished r t (Next s) go p q = q s p
shut_finished r t (Left loops s) go p q = q s p
shut_finished r t (Returned s) go p q = q s p
shut_finished r t (Over standing s) go p q = tt

shut_spent : (turns : ℕ) (s : State) (go : State → Outcome) → ((t : State) → StaysShut t (go t)) → StaysShut s (spent turns s go)
shut_spent zero s go q = tt
shut_spent (suc turns) s go q = q (record s { turns = turns })

shut_raised_by : (turns code : ℕ) (s : State) → StaysShut s (spent turns s (λ s. Over (Ended (code % 256)) (record s { err = s.err ++ error_text code })))
shut_raised_by zero code s = tt
shut_raised_by (suc turns) code s = tt

shut_raised : (code : ℕ) (s : State) → StaysShut s (raised code s)
shut_raised code s = shut_raised_by s.turns code s

shut_found : {A : Type 0} (x : Found A) (s : State) (go : A → Outcome) → ((v : A) → x ≡ Ok v → StaysShut s (go v)) → StaysShut s (with_found x s go)
shut_found (Ok v) s go q = q v refl
shut_found (Err ByZero) s go q = shut_raised 200 s
shut_found (Err (Bad act)) s go q = tt

shut_some : {A : Type 0} (x : Option A) (s : State) (go : A → Outcome) → ((v : A) → StaysShut s (go v)) → StaysShut s (with_some x s go)
shut_some (Some v) s go q = q v
shut_some None s go q = tt

shut_if : (s : State) (b : Bool) (x y : Outcome) → (b ≡ true → StaysShut s x) → (b ≡ false → StaysShut s y) → StaysShut s (if b then x else y)
shut_if s true x y p q = p refl
shut_if s false x y p q = q refl

itself : (m : Cells) → IsShutIn m m
itself m x h = h

stored-shut : (choice : Choice) (f : Frame) (m m' : Cells) (to : Address) (bytes : List ℕ) → stored_at choice f m to bytes ≡ Ok m' → IsShutIn m m'
stored-shut choice f m m' to bytes e =
    let step = bind-ok (place_of choice f m to) (λ p. store_bytes m p 0 bytes) m' e in store-shut m m' step.0 0 bytes step.2

copied-shut : (choice : Choice) (f : Frame) (m m' : Cells) (to from : Address) (n : ℕ) → copied_at choice f m to from n ≡ Ok m' → IsShutIn m m'
copied-shut choice f m m' to from n e =
    let first = bind-ok (place_of choice f m to) (λ p. place_of choice f m from >>= λ q. copy m p q 0 n) m' e in
    let second = bind-ok (place_of choice f m from) (λ q. copy m first.0 q 0 n) m' first.2 in
    copy-shut m m' first.0 second.0 0 n second.2

-- ---- calls

shut_give : (choice : Choice) (f : Frame) (result : Option FlatResult) (bytes : List ℕ) (s : State) → StaysShut s (give choice f result bytes s)
shut_give choice f None bytes s = itself s.cells
shut_give choice f (Some result) bytes s =
    let x = stored_at choice f s.cells result.at bytes in
    shut_if s (length bytes == result.bytes) (with_found x s (set_cells s)) (Over (Undefined 1) s)
    (λ e. shut_found x s (set_cells s) (λ m p. stored-shut choice f s.cells m result.at bytes p)) (λ e. tt)

-- an activation that opens, runs and closes leaves shut what was shut
closed-shut : (choice : Choice) (r : Routine) (f : Frame) (args : List ℕ) (m n : Cells) → 2 * length args ≡ r.arguments → activation_bytes r ≤ f.sp → IsShutIn (opened choice r f args m) n → IsShutIn m (closed choice r f n)
closed-shut choice r f args m n e room p x h =
    let seg = choice.stack_segment in
    let low = f.sp - activation_bytes r in
    let k = pushed m seg f.sp args in
    let fits : 2 * length args ≤ f.sp = omega arith in
    ⊎_elim
    (λ (below : x < 16 * seg + low).
    region_below n seg low (activation_bytes r) Outside x below
    ∙ p x (region_below k seg low r.locals Unset x below ∙ pushed_below m seg f.sp args x fits (omega arith) ∙ h))
    (λ (above : 16 * seg + low ≤ x).
    ⊎_elim
    (λ (within : x < 16 * seg + low + activation_bytes r). region_in n seg low (activation_bytes r) Outside x above within)
    (λ (past : 16 * seg + low + activation_bytes r ≤ x).
    region_above n seg low (activation_bytes r) Outside x past
    ∙ p x (region_above k seg low r.locals Unset x (omega arith) ∙ pushed_above m seg f.sp args x fits (omega arith) ∙ h))
    (cases_lt x (16 * seg + low + activation_bytes r)))
    (cases_lt x (16 * seg + low))

-- what the statements run by `again` keep
abbrev pub KeepsShut : Does → Type 0
KeepsShut again = (code : Code) (f : Frame) (s : State) → StaysShut s (again code f s)

shut_ended : (choice : Choice) (r : Routine) (g f : Frame) (result : Option FlatResult) (q s : State) → IsShutIn q.cells (closed choice r f s.cells) → StaysShut q (ended choice r g f result s)
shut_ended choice r g f result q s p =
    let t = with_cells s (closed choice r f s.cells) in
    found_from q (result_bytes choice g s.cells r.result) s (λ bytes. give choice f result bytes t) (λ bytes. shut_from q t (give choice f result bytes t) p (shut_give choice f result bytes t))
  where
    raised_from : (turns code : ℕ) (q s : State) → StaysShut q (spent turns s (λ s. Over (Ended (code % 256)) (record s { err = s.err ++ error_text code })))
    raised_from zero code q s = tt
    raised_from (suc turns) code q s = tt

    found_from : (q : State) (x : Found (List ℕ)) (s : State) (go : List ℕ → Outcome) → ((v : List ℕ) → StaysShut q (go v)) → StaysShut q (with_found x s go)
    found_from q (Ok v) s go h = h v
    found_from q (Err ByZero) s go h = raised_from s.turns 200 q s
    found_from q (Err (Bad act)) s go h = tt

shut_activated : (choice : Choice) (again : Does) → KeepsShut again → (name : Name) (unit : UnitCode) (r : Routine) (args : List ℕ) (result : Option FlatResult) (f : Frame) (s : State) → 2 * length args ≡ r.arguments → StaysShut s (activated choice again name unit r args result f s)
shut_activated choice again keeps name unit r args result f s e =
    let t = with_cells s (opened choice r f args s.cells) in
    let g = frame_of name unit r f in
    shut_if s (nat_lt f.sp (activation_bytes r)) (Over (Undefined 2) s) (finished (again r.body g t) (ended choice r g f result)) (λ b. tt)
    (λ b. let room : activation_bytes r ≤ f.sp = omega (arith, ltb-false f.sp (activation_bytes r) b) in
    shut_finished s t (again r.body g t) (ended choice r g f result) (keeps r.body g t)
    (λ u p. shut_ended choice r g f result s u (closed-shut choice r f args s.cells u.cells e room p)))

shut_entered : (program : FlatProgram) (choice : Choice) (again : Does) → KeepsShut again → (name : Name) (unit : UnitCode) (args : List ℕ) (result : Option FlatResult) (f : Frame) (s : State) (r : Routine) → StaysShut s (entered program choice again name unit args result f s r)
shut_entered program choice again keeps name unit args result f s r =
    shut_if s (2 * length args == r.arguments) (admitted program choice again name unit r args result f s) (Over (Undefined 1) s)
    (λ e. shut_if s (program.overlaid name && not s.flag) (raised 208 s) (tested program choice again name unit r args result f s) (λ b. shut_raised 208 s)
    (λ b. shut_if s (is_too_deep program r f.sum) (raised 202 s) (activated choice again name unit r args result f s) (λ d. shut_raised 202 s)
    (λ d. shut_activated choice again keeps name unit r args result f s (eqb-true (2 * length args) r.arguments e))))
    (λ e. tt)

shut_called : (program : FlatProgram) (choice : Choice) (again : Does) → KeepsShut again → (args : List ℕ) (result : Option FlatResult) (f : Frame) (s : State) (key : Key) → StaysShut s (called program choice again args result f s key)
shut_called program choice again keeps args result f s key =
    shut_some (program.unit key.unit) s (entered_at program choice again key args result f s) (λ unit.
    shut_some (slice_get unit.routines key.number) s (entered program choice again key.unit unit args result f s) (shut_entered program choice again keeps key.unit unit args result f s))

-- ---- acts

next_shut : (handle : ℕ) (bytes : List ℕ) (s : State) → IsShutIn s.cells (written handle bytes s).cells
next_shut handle bytes s = either s (handle == 1) (record s { out = s.out ++ bytes }) (if handle == 2 then err else s) (itself s.cells) (either s (handle == 2) err s (itself s.cells) (itself s.cells))
  where
    err : State
    err = record s { err = s.err ++ bytes }

    either : (r : State) (b : Bool) (x y : State) → IsShutIn r.cells x.cells → IsShutIn r.cells y.cells → IsShutIn r.cells (if b then x else y).cells
    either r true x y p q = p
    either r false x y p q = q

shut_write : (args : List ℕ) (s : State) → StaysShut s (write_act args s)
shut_write (handle ∷ segment ∷ offset ∷ count ∷ []) s =
    shut_found (bytes_at s.cells (record { segment = segment; offset = offset }) 0 count) s (λ bytes. Next (written handle bytes s)) (λ bytes p. next_shut handle bytes s)
shut_write [] s = tt
shut_write (a ∷ []) s = tt
shut_write (a ∷ b ∷ []) s = tt
shut_write (a ∷ b ∷ c ∷ []) s = tt
shut_write (a ∷ b ∷ c ∷ d ∷ e ∷ rest) s = tt

shut_read : (choice : Choice) (f : Frame) (args : List ℕ) (result : Option FlatResult) (input : List ℕ) (s : State) → StaysShut s (read_act choice f args result input s)
shut_read choice f [] result [] s = shut_give choice f result (word_bytes 65535) s
shut_read choice f [] result (byte ∷ input) s = shut_from s (record s { input = input }) (give choice f result (word_bytes byte) (record s { input = input })) (itself s.cells) (shut_give choice f result (word_bytes byte) (record s { input = input }))
shut_read choice f (arg ∷ args) result input s = tt

shut_end : (args : List ℕ) (s : State) → StaysShut s (end_act args s)
shut_end [] s = tt
shut_end (a ∷ []) s = tt
shut_end (a ∷ b ∷ rest) s = tt

shut_clear : (args : List ℕ) (s : State) → StaysShut s (clear_act args s)
shut_clear [] s = itself s.cells
shut_clear (a ∷ rest) s = tt

shut_flag : (args : List ℕ) (s : State) → StaysShut s (flag_act args s)
shut_flag [] s = itself s.cells
shut_flag (a ∷ rest) s = tt

shut_runtime : (program : FlatProgram) (choice : Choice) (again : Does) → KeepsShut again → (number : ℕ) (args : List ℕ) (result : Option FlatResult) (f : Frame) (s : State) → StaysShut s (runtime_of program choice again number args result f s)
shut_runtime program choice again keeps zero args result f s = shut_write args s
shut_runtime program choice again keeps (suc zero) args result f s = shut_read choice f args result s.input s
shut_runtime program choice again keeps (suc (suc zero)) args result f s = shut_end args s
shut_runtime program choice again keeps (suc (suc (suc zero))) args result f s = shut_clear args s
shut_runtime program choice again keeps (suc (suc (suc (suc zero)))) args result f s = shut_flag args s
shut_runtime program choice again keeps (suc (suc (suc (suc (suc n))))) args result f s = shut_called program choice again keeps args result f s (runtime_key (5 + n))

-- ---- statements

shut_stored : (choice : Choice) (f : Frame) (to : Address) (bytes : List ℕ) (s : State) → StaysShut s (stored choice f to bytes s)
shut_stored choice f to bytes s = shut_found (stored_at choice f s.cells to bytes) s (set_cells s) (λ m p. stored-shut choice f s.cells m to bytes p)

shut_left : (loops : ℕ) (s : State) → StaysShut s (left loops s)
shut_left zero s = itself s.cells
shut_left (suc loops) s = itself s.cells

shut_spend : (s : State) (go : State → Outcome) → ((t : State) → StaysShut t (go t)) → StaysShut s (spend s go)
shut_spend s go q = shut_spent s.turns s go q

shut_step : (program : FlatProgram) (choice : Choice) (again : Does) → KeepsShut again → (step : Step) (f : Frame) (s : State) → StaysShut s (step_of program choice again step f s)
shut_step program choice again keeps (StoreByte to value) f s =
    shut_found (value_of choice f s.cells value) s (λ v. stored choice f to (low_byte v ∷ []) s) (λ v e. shut_stored choice f to (low_byte v ∷ []) s)
shut_step program choice again keeps (StoreWord to value) f s =
    shut_found (value_of choice f s.cells value) s (λ v. stored choice f to (word_bytes v) s) (λ v e. shut_stored choice f to (word_bytes v) s)
shut_step program choice again keeps (Copy to from bytes) f s =
    shut_found (copied_at choice f s.cells to from bytes) s (set_cells s) (λ m p. copied-shut choice f s.cells m to from bytes p)
shut_step program choice again keeps (Leave loops) f s = shut_left loops s
shut_step program choice again keeps (Call unit number args result) f s =
    shut_found (values_of choice f s.cells args) s (λ vs. spend s (λ s. with_found (key_of f unit number) s (called program choice again vs result f s))) (λ vs e.
    shut_spend s (λ s. with_found (key_of f unit number) s (called program choice again vs result f s)) (λ t.
    shut_found (key_of f unit number) t (called program choice again vs result f t) (λ key p. shut_called program choice again keeps vs result f t key)))
shut_step program choice again keeps (CallThrough pointer args result) f s =
    shut_found (values_of choice f s.cells args) s
    (λ vs. spend s (λ s. with_found (pointer_at choice f s.cells pointer) s (λ p. with_some (choice.callee p) s (called program choice again vs result f s)))) (λ vs e.
    shut_spend s (λ s. with_found (pointer_at choice f s.cells pointer) s (λ p. with_some (choice.callee p) s (called program choice again vs result f s))) (λ t.
    shut_found (pointer_at choice f t.cells pointer) t (λ p. with_some (choice.callee p) t (called program choice again vs result f t)) (λ p h.
    shut_some (choice.callee p) t (called program choice again vs result f t) (shut_called program choice again keeps vs result f t))))
shut_step program choice again keeps (Runtime number args result) f s =
    shut_found (values_of choice f s.cells args) s (λ vs. spend s (runtime_of program choice again number vs result f)) (λ vs e.
    shut_spend s (runtime_of program choice again number vs result f) (λ t. shut_runtime program choice again keeps number vs result f t))
shut_step program choice again keeps (StoreRoutine to unit number) f s =
    shut_found (routine_pointer choice f unit number) s (λ p. stored choice f to (far_bytes p) s) (λ p e. shut_stored choice f to (far_bytes p) s)
shut_step program choice again keeps Return f s = itself s.cells
shut_step program choice again keeps (Error code) f s = shut_raised code s

shut_chosen : (s : State) (v : ℕ) (x y : Outcome) → StaysShut s x → StaysShut s y → StaysShut s (chosen v x y)
shut_chosen s zero x y p q = q
shut_chosen s (suc v) x y p q = p

shut_runs : (program : FlatProgram) (choice : Choice) (again : Does) → KeepsShut again → (code : Code) (f : Frame) (s : State) → StaysShut s (runs program choice again code f s)
shut_runs program choice again keeps End f s = itself s.cells
shut_runs program choice again keeps (Do step next) f s =
    let t = begun (step_size step) s in
    let o = step_of program choice again step f t in
    shut_and_then s o (runs program choice again next f) (shut_from s t o (itself s.cells) (shut_step program choice again keeps step f t)) (λ u. shut_runs program choice again keeps next f u)
shut_runs program choice again keeps (If test taken other next) f s =
    let t = begun (1 + expr_size test) s in
    let x = runs program choice again taken f t in
    let y = runs program choice again other f t in
    let o = with_found (value_of choice f s.cells test) t (λ v. chosen v x y) in
    shut_and_then s o (runs program choice again next f)
    (shut_from s t o (itself s.cells)
    (shut_found (value_of choice f s.cells test) t (λ v. chosen v x y) (λ v e. shut_chosen t v x y (shut_runs program choice again keeps taken f t) (shut_runs program choice again keeps other f t))))
    (λ u. shut_runs program choice again keeps next f u)
shut_runs program choice again keeps (Loop body next) f s =
    let t = begun 1 s in
    let go : State → Outcome = λ s. looped (runs program choice again body f (begun 1 s)) (again (Loop body End) f) in
    shut_and_then s (spend t go) (runs program choice again next f)
    (shut_from s t (spend t go) (itself s.cells)
    (shut_spend t go (λ u. let w = begun 1 u in
    shut_from u w (go u) (itself u.cells) (shut_looped w (runs program choice again body f w) (again (Loop body End) f) (shut_runs program choice again keeps body f w) (λ x. keeps (Loop body End) f x)))))
    (λ u. shut_runs program choice again keeps next f u)

shut_run_by : (program : FlatProgram) (choice : Choice) (fuel : ℕ) → KeepsShut (run_by program choice fuel)
shut_run_by program choice zero code f s = tt
shut_run_by program choice (suc fuel) code f s = shut_runs program choice (run_by program choice fuel) (shut_run_by program choice fuel) code f s

pub run-shut : (program : FlatProgram) (choice : Choice) (code : Code) (f : Frame) (s : State) → StaysShut s (run program choice code f s)
unfolding run
run-shut program choice code f s = shut_run_by program choice (suc s.turns) code f s
