-- What is read is what holds, and what is refused is what fails.
use Rattle.std.proofs.Common.{◌≡◌, inl, inr, Bool, true, false, Result, Ok, Err, Decides, refl, subst, IfOk, IfErr}
use Rattle.typing_rules.specs.declared.faults.Fault.{Fault}
use Rattle.typing_rules.specs.declared.faults.Refusal.{Refusal}
use Rattle.typing_rules.specs.declared.faults.Refusal.TheVariants as refusal
use Rattle.typing_rules.specs.Judgements.{◌>>=◌, Judgement, makes, refuses, rule, either, part, parts, Both, FailsBoth, on_left, on_right, joint, Through, FailsThrough, inside, here, Gives}
use Rattle.typing_rules.specs.Faults.{Tells, answer_of, IsAnswered}
use Rattle.typing_rules.specs.Laws.{Found, Agrees, Lawful, IsExact}

pub lawful_makes : {C : Type 0} (c : C) → Lawful (makes c)
lawful_makes c = record { holds = refl; only = λ o h. h; fine = λ f h. h }

pub lawful_refuses : {C : Type 0} (fault : Fault) → Lawful (refuses {C = C} fault)
lawful_refuses fault = record { fails = refl; none = λ o h. h }

module _ {C : Type 0} (fault : Fault) (Asked : Type 0) (c : C) where
  rule_at : (test : Bool) → Decides test Asked → Lawful (rule fault test Asked c)
  rule_at true d = record {
    holds = record { asked = d.0 refl; made = refl };
    only = λ o h. h.made;
    fine = λ f h. h.none (d.0 refl);
  }
  rule_at false d = record {
    fails = record { none = λ h. let e = d.1 h in cc; which = refl };
    none = λ o h. let e = d.1 h.asked in cc;
  }

pub lawful_rule : {C : Type 0} (fault : Fault) (test : Bool) (Asked : Type 0) (c : C) → Decides test Asked → Lawful (rule fault test Asked c)
lawful_rule fault test Asked c d = rule_at fault Asked c test d

pub lawful_either : {C : Type 0} (b : Bool) (j k : Judgement C) → Lawful j → Lawful k → Lawful (either b j k)
lawful_either true j k m n = m
lawful_either false j k m n = n

-- ---- two parts

module _ {A B C : Type 0} (P : A → Type 0) (Q : B → Type 0) (R : A → B → C → Type 0) (FP FQ : Fault → Type 0) (FR : A → B → Fault → Type 0) where
  made : (a : A) (b : B) (o : C) → ((x : A) → P x → x ≡ a) → ((y : B) → Q y → y ≡ b) → Both P Q R o → R a b o
  made a b o ua ub h =
      let S : A → Type 0 = λ x. R x b o in
      let T : B → Type 0 = λ y. R h.left y o in
      subst S (ua h.left h.left_holds) (subst T (ub h.right h.right_holds) h.made)

  failed : (a : A) (b : B) (f : Fault) → Found P FP a → Found Q FQ b → FailsBoth P Q FP FQ FR f → FR a b f
  failed a b f m n (on_left h) = absurd (m.fine f h)
  failed a b f m n (on_right h) = absurd (n.fine f h)
  failed a b f m n (joint x y p q h) =
      let S : A → Type 0 = λ z. FR z b f in
      let T : B → Type 0 = λ z. FR x z f in
      subst S (m.only x p) (subst T (n.only y q) h)

  finish : (a : A) (b : B) (z : Result C Fault) → Found P FP a → Found Q FQ b → Agrees z (R a b) (FR a b) → Agrees z (Both P Q R) (FailsBoth P Q FP FQ FR)
  finish a b (Ok c) m n h = record {
    holds = record { left = a; right = b; left_holds = m.holds; right_holds = n.holds; made = h.holds };
    only = λ o k. h.only o (made a b o m.only n.only k);
    fine = λ f k. h.fine f (failed a b f m n k);
  }
  finish a b (Err f) m n h = record {
    fails = joint a b m.holds n.holds h.fails;
    none = λ o k. h.none o (made a b o m.only n.only k);
  }

  both : (r : Result A Fault) (s : Result B Fault) (k : A → B → Result C Fault) → Agrees r P FP → Agrees s Q FQ → ((a : A) (b : B) → P a → Q b → Agrees (k a b) (R a b) (FR a b)) → Agrees (r >>= λ a. s >>= λ b. k a b) (Both P Q R) (FailsBoth P Q FP FQ FR)
  both (Err f) s k m n h = record { fails = on_left m.fails; none = λ o z. m.none z.left z.left_holds }
  both (Ok a) (Err f) k m n h = record { fails = on_right n.fails; none = λ o z. n.none z.right z.right_holds }
  both (Ok a) (Ok b) k m n h = finish a b (k a b) m n (h a b m.holds n.holds)

pub lawful_parts : {A B C : Type 0} (j : Judgement A) (k : Judgement B) (l : A → B → Judgement C) → Lawful j → Lawful k → ((a : A) (b : B) → Lawful (l a b)) → Lawful (parts j k l)
lawful_parts j k l m n o = both _ _ _ _ _ _ j.run k.run _ m n (λ a b h i. o a b)

-- ---- one part

module _ {A C : Type 0} (P : A → Type 0) (R : A → C → Type 0) (FP : Fault → Type 0) (FR : A → Fault → Type 0) where
  made_one : (a : A) (o : C) → ((x : A) → P x → x ≡ a) → Through P R o → R a o
  made_one a o ua h = let S : A → Type 0 = λ x. R x o in subst S (ua h.part h.holds) h.made

  failed_one : (a : A) (f : Fault) → Found P FP a → FailsThrough P FP FR f → FR a f
  failed_one a f m (inside h) = absurd (m.fine f h)
  failed_one a f m (here x p h) = let S : A → Type 0 = λ z. FR z f in subst S (m.only x p) h

  finish_one : (a : A) (z : Result C Fault) → Found P FP a → Agrees z (R a) (FR a) → Agrees z (Through P R) (FailsThrough P FP FR)
  finish_one a (Ok c) m h = record {
    holds = record { part = a; holds = m.holds; made = h.holds };
    only = λ o k. h.only o (made_one a o m.only k);
    fine = λ f k. h.fine f (failed_one a f m k);
  }
  finish_one a (Err f) m h = record { fails = here a m.holds h.fails; none = λ o k. h.none o (made_one a o m.only k) }

  through : (r : Result A Fault) (k : A → Result C Fault) → Agrees r P FP → ((a : A) → P a → Agrees (k a) (R a) (FR a)) → Agrees (r >>= k) (Through P R) (FailsThrough P FP FR)
  through (Err f) k m h = record { fails = inside m.fails; none = λ o z. m.none z.part z.holds }
  through (Ok a) k m h = finish_one a (k a) m (h a m.holds)

pub lawful_part : {A C : Type 0} (j : Judgement A) (l : A → Judgement C) → Lawful j → ((a : A) → Lawful (l a)) → Lawful (part j l)
lawful_part j l m o = through _ _ _ _ j.run _ m (λ a h. o a)

-- ---- what follows for what code answers

module _ {X C : Type 0} (view : X → C) (P : C → Type 0) (F : Fault → Type 0) where
  holding : (z : Result C Fault) (c : C) → z ≡ Ok c → Agrees z P F → P c
  holding (Ok a) c e m = let s : a ≡ c = cc in subst P s m.holds
  holding (Err f) c e m = cc

  failing : (z : Result C Fault) (f : Fault) → z ≡ Err f → Agrees z P F → F f
  failing (Ok a) f e m = cc
  failing (Err g) f e m = let s : g ≡ f = cc in subst F s m.fails

  sole : (z : Result C Fault) (c : C) → P c → Agrees z P F → z ≡ Ok c
  sole (Ok a) c p m = let s : c ≡ a = m.only c p in cc
  sole (Err f) c p m = absurd (m.none c p)

  -- what is answered holds
  pub is_typed : (r : Result X Refusal) (z : Result C Fault) → Gives view r z → Agrees z P F → IfOk r (λ x. P (view x))
  is_typed (Ok x) z g m = holding z (view x) g m
  is_typed (Err e) z g m = tt

  -- a fault that is answered is there
  pub is_fault : (z : Result C Fault) (f : Fault) → z ≡ Err f → Agrees z P F → F f
  is_fault = failing

  -- where something holds it is answered, unless memory runs out
  pub is_only : (r : Result X Refusal) (z : Result C Fault) → Gives view r z → Agrees z P F → (c : C) → P c → Gives view r (Ok c)
  is_only r z g m c p = subst (λ (s : Result C Fault). Gives view r s) (sole z c p m) g

module _ {C : Type 0} (P : C → Type 0) (F : Fault → Type 0) where
  -- where something holds there is no fault
  pub excluded : (z : Result C Fault) → Agrees z P F → (c : C) (f : Fault) → P c → F f → ⊥
  excluded (Ok a) m c f p h = m.fine f h
  excluded (Err g) m c f p h = m.none c p

  -- where there is no fault something holds
  pub found : (z : Result C Fault) → Agrees z P F → ((f : Fault) → F f → ⊥) → (c : C) × P c
  found (Ok a) m n = (a, m.holds)
  found (Err f) m n = absurd (n f m.fails)

  -- at most one thing holds
  pub one_alone : (z : Result C Fault) → Agrees z P F → (c d : C) → P c → P d → c ≡ d
  one_alone (Ok a) m c d p q = let e : c ≡ a = m.only c p in let h : d ≡ a = m.only d q in cc
  one_alone (Err f) m c d p q = absurd (m.none c p)

-- ---- what follows of judgements of trees, and for what users are told

pub exact : {T C : Type 0} (j : T → Judgement C) → ((t : T) → Lawful (j t)) → IsExact j
exact j m = record {
  one = λ t c d p q. one_alone _ _ (j t).run (m t) c d p q;
  excludes = λ t c f p q. excluded _ _ (j t).run (m t) c f p q;
  suffices = λ t n. found _ _ (j t).run (m t) n;
}

module _ {X C : Type 0} (view : X → C) (j : Judgement C) (m : Lawful j) where
  there : (fault : Fault) → j.run ≡ Err fault → j.fails fault
  there fault e = is_fault view _ _ j.run fault e m

  never : (fault : Fault) → j.run ≡ Err fault → (c : C) → j.holds c → ⊥
  never fault r c h = excluded _ _ j.run m c fault h (there fault r)

  pub typed_answer : (answer : Result X Refusal) → Gives view answer j.run → IfOk (answer_of answer) (λ x. j.holds (view x))
  typed_answer (Ok x) gives = is_typed view _ _ (Ok x) j.run gives m
  typed_answer (Err r) gives = tt

  pub complete_answer : (answer : Result X Refusal) → Gives view answer j.run → (c : C) → j.holds c → IsAnswered view c (answer_of answer)
  complete_answer (Ok x) gives c h = let only : Ok c ≡ Ok (view x) = is_only view _ _ (Ok x) j.run gives m c h in cc
  complete_answer (Err refusal.NoMemory) gives c h = tt
  complete_answer (Err (refusal.Because fault)) gives c h = absurd (never fault gives c h)

  pub fails_answer : (answer : Result X Refusal) → Gives view answer j.run → IfErr (answer_of answer) (λ error. Tells j.fails error)
  fails_answer (Ok x) gives = tt
  fails_answer (Err refusal.NoMemory) gives = inl refl
  fails_answer (Err (refusal.Because fault)) gives = inr (fault, refl, there fault gives)
