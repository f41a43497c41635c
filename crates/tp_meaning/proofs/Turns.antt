-- More turns change nothing of what is done: what two ways of doing a thing have in common where the second one is given more turns.
use Rattle.std.proofs.Common.{◌≡◌, ℕ, zero, suc, ◌+◌, ◌<◌, ◌≤◌, Bool, true, false, List, [], ◌++◌, Option, Some, None, refl, sym, ap, subst, ◌∙◌, arith}
use Rattle.std.specs.Prelude.{if◌then◌else◌}
use Rattle.std.proofs.lemmas.List.{append-nil, append_assoc}
use Rattle.std.specs.Prelude.{Ok, Err}
use Rattle.common_values.specs.behaviour.Seen.{Standing, Ended, Going, Undefined, Stopped, Begins}
use Rattle.common_values.specs.Written.{error_text}
use Rattle.tp_meaning.specs.Found.{Act, Error, IllTyped, Found}
use Rattle.tp_meaning.specs.Store.{Store}
use Rattle.tp_meaning.specs.Outcomes.{State, Outcome, Done, Over, Does, and_then, ◌>>=◌, ◌>>◌, give, raised, undefined, stuck, found, known, raised_if, spent, spending, looked, with_store, changed, printed, taking, ahead, is_installed, install}

-- ---- two relations that are kept: turns fall, and what was written stays

abbrev pub After : {A : Type 0} → (State → State → Type 0) → State → Outcome A → Type 0
After Q r (Done a s) = Q r s
After Q r (Over standing s) = Q r s

abbrev pub Falls : State → State → Type 0
Falls r s = s.turns ≤ r.turns

abbrev pub Grows : State → State → Type 0
Grows r s = Begins r.out s.out × Begins r.err s.err

pub begins_itself : (xs : List ℕ) → Begins xs xs
begins_itself xs = ([], sym (append-nil xs))

begins_twice : (xs ys zs : List ℕ) → Begins xs ys → Begins ys zs → Begins xs zs
begins_twice xs ys zs p q = (p.0 ++ q.0, q.1 ∙ ap (λ v. v ++ q.0) p.1 ∙ append_assoc xs p.0 q.0)

grows_itself : (s : State) → Grows s s
grows_itself s = (begins_itself s.out, begins_itself s.err)

grows_twice : (r s t : State) → Grows r s → Grows s t → Grows r t
grows_twice r s t p q = (begins_twice r.out s.out t.out p.0 q.0, begins_twice r.err s.err t.err p.1 q.1)

falls_from : {A : Type 0} (r s : State) (o : Outcome A) → Falls r s → After Falls s o → After Falls r o
falls_from r s (Done a t) p q = omega arith
falls_from r s (Over standing t) p q = omega arith

grows_from : {A : Type 0} (r s : State) (o : Outcome A) → Grows r s → After Grows s o → After Grows r o
grows_from r s (Done a t) p q = grows_twice r s t p q
grows_from r s (Over standing t) p q = grows_twice r s t p q

falls_bind : {A B : Type 0} (r : State) (x : Outcome A) (g : A → Does B) → After Falls r x → ((a : A) (s : State) → After Falls s (g a s)) → After Falls r (and_then x g)
falls_bind r (Done a s) g p q = falls_from r s (g a s) p (q a s)
falls_bind r (Over standing s) g p q = p

grows_bind : {A B : Type 0} (r : State) (x : Outcome A) (g : A → Does B) → After Grows r x → ((a : A) (s : State) → After Grows s (g a s)) → After Grows r (and_then x g)
grows_bind r (Done a s) g p q = grows_from r s (g a s) p (q a s)
grows_bind r (Over standing s) g p q = p

-- ---- the same with more turns

abbrev pub more : ℕ → State → State
more k s = record s { turns = s.turns + k }

-- what a run that stands so becomes with k more turns: where it went on, something that begins with it, and itself where k is 0
abbrev pub MoreOver : {A : Type 0} → ℕ → Standing → State → Outcome A → Type 0
MoreOver k (Ended code) s o = o ≡ Over (Ended code) (more k s)
MoreOver k Going s o = (k ≡ 0 → o ≡ Over Going s) × After Grows s o
MoreOver k (Undefined act) s o = o ≡ Over (Undefined act) (more k s)
MoreOver k Stopped s o = o ≡ Over Stopped (more k s)

abbrev pub More : {A : Type 0} → ℕ → Outcome A → Outcome A → Type 0
More k (Done a s) o = o ≡ Done a (more k s)
More k (Over standing s) o = MoreOver k standing s o

pub more_zero : (s : State) → more 0 s ≡ s
more_zero s = let e : s.turns + 0 ≡ s.turns = omega arith in ap (λ t. record s { turns = t }) e

more_bind : {A B : Type 0} (k : ℕ) (r : State) (x y : Outcome A) (g h : A → Does B) → More k x y → After Falls r x → ((a : A) (s : State) → s.turns ≤ r.turns → More k (g a s) (h a (more k s))) → ((a : A) (s : State) → After Grows s (h a s)) → More k (and_then x g) (and_then y h)
more_bind k r (Done a s) y g h p f q w = subst (λ o. More k (g a s) (and_then o h)) (sym p) (q a s f)
more_bind k r (Over (Ended code) s) y g h p f q w = ap (λ o. and_then o h) p
more_bind k r (Over Going s) y g h p f q w = (λ e. ap (λ o. and_then o h) (p.0 e), grows_bind s y h p.1 w)
more_bind k r (Over (Undefined act) s) y g h p f q w = ap (λ o. and_then o h) p
more_bind k r (Over Stopped s) y g h p f q w = ap (λ o. and_then o h) p

-- Two ways of doing a thing: the first has fewer than m turns, and the second, which has fewer than n, k more.
pub record Like {A : Type 0} (k m n : ℕ) (a b : Does A) : Type 0 where
  pub falls : (s : State) → After Falls s (a s)
  pub grows : (s : State) → After Grows s (b s)
  pub alike : (s : State) → s.turns < m → s.turns + k < n → More k (a s) (b (more k s))

pub like_weaker : {A : Type 0} {k m n : ℕ} {a b : Does A} → Like k (suc m) (suc n) a b → Like k m n a b
like_weaker p = record { falls = p.falls; grows = p.grows; alike = λ s l l'. p.alike s (omega arith) (omega arith) }

pub like_bind : {A B : Type 0} {k m n : ℕ} {a b : Does A} {g h : A → Does B} → Like k m n a b → ((x : A) → Like k m n (g x) (h x)) → Like k m n (a >>= g) (b >>= h)
like_bind {k = k} {a = a} {b = b} {g = g} {h = h} p q = record {
  falls = λ s. falls_bind s (a s) g (p.falls s) (λ x t. (q x).falls t);
  grows = λ s. grows_bind s (b s) h (p.grows s) (λ x t. (q x).grows t);
  alike = λ s l l'. more_bind k s (a s) (b (more k s)) g h (p.alike s l l') (p.falls s) (λ x t e. (q x).alike t (omega arith) (omega arith)) (λ x t. (q x).grows t);
}

pub like_then : {A B : Type 0} {k m n : ℕ} {a b : Does A} {c d : Does B} → Like k m n a b → Like k m n c d → Like k m n (a >> c) (b >> d)
like_then p q = like_bind p (λ x. q)

-- ---- turns

falls_spent : {A : Type 0} (turns : ℕ) (a : Does A) (s : State) → s.turns ≡ turns → ((t : State) → After Falls t (a t)) → After Falls s (spent turns a s)
falls_spent zero a s e q = omega arith
falls_spent (suc turns) a s e q = falls_from s (record s { turns = turns }) (a (record s { turns = turns })) (omega arith) (q (record s { turns = turns }))

grows_spent : {A : Type 0} (turns : ℕ) (a : Does A) (s : State) → ((t : State) → After Grows t (a t)) → After Grows s (spent turns a s)
grows_spent zero a s q = grows_itself s
grows_spent (suc turns) a s q = q (record s { turns = turns })

more_spent : {A : Type 0} (k turns : ℕ) (a b : Does A) (s : State) → s.turns ≡ turns → ((t : State) → t.turns < s.turns → More k (a t) (b (more k t))) → ((t : State) → After Grows t (b t)) → More k (spent turns a s) (spent (turns + k) b (more k s))
more_spent zero zero a b s e q w = (λ z. ap (Over Going) (more_zero s), grows_itself s)
more_spent (suc j) zero a b s e q w =
    let sum : 0 + suc j ≡ suc j = omega arith in
    subst (λ n. More (suc j) (spent 0 a s) (spent n b (more (suc j) s))) (sym sum) (λ z. absurd (omega (arith, z)), w (record s { turns = j }))
more_spent k (suc turns) a b s e q w =
    let sum : suc turns + k ≡ suc (turns + k) = omega arith in
    subst (λ n. More k (a (record s { turns = turns })) (spent n b (more k s))) (sym sum) (q (record s { turns = turns }) (omega arith))

pub like_spending : {A : Type 0} {k m n : ℕ} {a b : Does A} → Like k m n a b → Like k (suc m) (suc n) (spending a) (spending b)
like_spending {k = k} {a = a} {b = b} p = record {
  falls = λ s. falls_spent s.turns a s refl p.falls;
  grows = λ s. grows_spent s.turns b s p.grows;
  alike = λ s l l'. more_spent k s.turns a b s refl (λ t e. p.alike t (omega arith) (omega arith)) p.grows;
}

-- ---- what never looks at the turns

pub like_give : {A : Type 0} {k m n : ℕ} (a : A) → Like k m n (give a) (give a)
like_give a = record { falls = λ s. omega arith; grows = grows_itself; alike = λ s l l'. refl }

pub like_stuck : {A : Type 0} {k m n : ℕ} → Like {A = A} k m n stuck stuck
like_stuck = record { falls = λ s. omega arith; grows = grows_itself; alike = λ s l l'. refl }

pub like_undefined : {A : Type 0} {k m n : ℕ} (act : ℕ) → Like {A = A} k m n (undefined act) (undefined act)
like_undefined act = record { falls = λ s. omega arith; grows = grows_itself; alike = λ s l l'. refl }

pub like_raised : {A : Type 0} {k m n : ℕ} (code : ℕ) → Like {A = A} k m n (raised code) (raised code)
like_raised code = record { falls = λ s. omega arith; grows = λ s. (begins_itself s.out, (error_text code, refl)); alike = λ s l l'. refl }

pub like_found : {A : Type 0} {k m n : ℕ} (x : Found A) → Like k m n (found x) (found x)
like_found (Ok a) = record { falls = λ s. omega arith; grows = grows_itself; alike = λ s l l'. refl }
like_found (Err (Act act)) = record { falls = λ s. omega arith; grows = grows_itself; alike = λ s l l'. refl }
like_found (Err (Error code)) = record { falls = λ s. omega arith; grows = λ s. (begins_itself s.out, (error_text code, refl)); alike = λ s l l'. refl }
like_found (Err IllTyped) = record { falls = λ s. omega arith; grows = grows_itself; alike = λ s l l'. refl }

pub like_known : {A : Type 0} {k m n : ℕ} (x : Option A) → Like k m n (known x) (known x)
like_known (Some a) = record { falls = λ s. omega arith; grows = grows_itself; alike = λ s l l'. refl }
like_known None = record { falls = λ s. omega arith; grows = grows_itself; alike = λ s l l'. refl }

pub like_raised_if : {k m n : ℕ} (b : Bool) (code : ℕ) → Like k m n (raised_if b code) (raised_if b code)
like_raised_if true code = record { falls = λ s. omega arith; grows = λ s. (begins_itself s.out, (error_text code, refl)); alike = λ s l l'. refl }
like_raised_if false code = record { falls = λ s. omega arith; grows = grows_itself; alike = λ s l l'. refl }

falls_found : {A : Type 0} (x : Found A) (s : State) → After Falls s (found x s)
falls_found x = (like_found {k = 0} {m = 0} {n = 0} x).falls

grows_found : {A : Type 0} (x : Found A) (s : State) → After Grows s (found x s)
grows_found x = (like_found {k = 0} {m = 0} {n = 0} x).grows

more_found : {A : Type 0} (k : ℕ) (x : Found A) (s : State) → More k (found x s) (found x (more k s))
more_found k (Ok a) s = refl
more_found k (Err (Act act)) s = refl
more_found k (Err (Error code)) s = refl
more_found k (Err IllTyped) s = refl

pub like_looked : {A : Type 0} {k m n : ℕ} (look : Store → Found A) → Like k m n (looked look) (looked look)
like_looked {k = k} look = record { falls = λ s. falls_found (look s.store) s; grows = λ s. grows_found (look s.store) s; alike = λ s l l'. more_found k (look s.store) s }

like_store : {k m n : ℕ} (store : Store) → Like k m n (with_store store) (with_store store)
like_store store = record { falls = λ s. omega arith; grows = grows_itself; alike = λ s l l'. refl }

pub like_changed : {k m n : ℕ} (change : Store → Found Store) → Like k m n (changed change) (changed change)
like_changed change = like_bind (like_looked change) (λ store. like_store store)

pub like_printed : {k m n : ℕ} (bytes : List ℕ) → Like k m n (printed bytes) (printed bytes)
like_printed bytes = record { falls = λ s. omega arith; grows = λ s. ((bytes, refl), begins_itself s.err); alike = λ s l l'. refl }

pub like_taking : {A : Type 0} {k m n : ℕ} (take : List ℕ → A × List ℕ) → Like k m n (taking take) (taking take)
like_taking take = record { falls = λ s. omega arith; grows = grows_itself; alike = λ s l l'. refl }

pub like_ahead : {A : Type 0} {k m n : ℕ} (look : List ℕ → A) → Like k m n (ahead look) (ahead look)
like_ahead look = record { falls = λ s. omega arith; grows = grows_itself; alike = λ s l l'. refl }

pub like_is_installed : {k m n : ℕ} → Like k m n is_installed is_installed
like_is_installed = record { falls = λ s. omega arith; grows = grows_itself; alike = λ s l l'. refl }

pub like_install : {k m n : ℕ} → Like k m n install install
like_install = record { falls = λ s. omega arith; grows = grows_itself; alike = λ s l l'. refl }

pub like_if : {A : Type 0} {k m n : ℕ} {a b c d : Does A} (test : Bool) → Like k m n a b → Like k m n c d → Like k m n (if test then a else c) (if test then b else d)
like_if true p q = p
like_if false p q = q
