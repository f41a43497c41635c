-- Rules of a construct and of its parts. A judgement says in one term what a checker answers for a construct, what a node of
-- it is, and which faults are in it; so that a construct's rules are stated once.
use Rattle.std.specs.Prelude.{◌≡◌, Bool, cond, Result, Ok, Err}
use Rattle.typing_rules.specs.declared.faults.Fault.{Fault}
use Rattle.typing_rules.specs.declared.faults.Refusal.{Refusal}
use Rattle.typing_rules.specs.declared.faults.Refusal.TheVariants as refusal

infixl 10 ◌>>=◌
abbrev pub ◌>>=◌ : {A B : Type 0} → Result A Fault → (A → Result B Fault) → Result B Fault
(Ok a) >>= f = f a
(Err fault) >>= f = Err fault

-- ---- two parts, and what is made of them

pub record Both {A B C : Type 0} (P : A → Type 0) (Q : B → Type 0) (R : A → B → C → Type 0) (c : C) : Type 0 where
  pub left : A
  pub right : B
  pub left_holds : P left
  pub right_holds : Q right
  pub made : R left right c

-- a fault is in one of the parts, or, where both have nodes, in what is made of them
pub data FailsBoth {A B : Type 0} (P : A → Type 0) (Q : B → Type 0) (FP FQ : Fault → Type 0) (FR : A → B → Fault → Type 0) (f : Fault) : Type 0 where
  on_left : FP f → FailsBoth P Q FP FQ FR f
  on_right : FQ f → FailsBoth P Q FP FQ FR f
  joint : (a : A) (b : B) → P a → Q b → FR a b f → FailsBoth P Q FP FQ FR f

-- ---- one part, and what is made of it

pub record Through {A C : Type 0} (P : A → Type 0) (R : A → C → Type 0) (c : C) : Type 0 where
  pub part : A
  pub holds : P part
  pub made : R part c

pub data FailsThrough {A : Type 0} (P : A → Type 0) (FP : Fault → Type 0) (FR : A → Fault → Type 0) (f : Fault) : Type 0 where
  inside : FP f → FailsThrough P FP FR f
  here : (a : A) → P a → FR a f → FailsThrough P FP FR f

-- ---- judgements

-- what is answered, what a node is, and which faults there are
pub record Judgement (C : Type 0) : Type 1 where
  pub run : Result C Fault
  pub holds : C → Type 0
  pub fails : Fault → Type 0

-- this node, whatever the rules
abbrev pub makes : {C : Type 0} → C → Judgement C
makes c = record { run = Ok c; holds = λ o. o ≡ c; fails = λ f. ⊥ }

-- no node, for this fault
abbrev pub refuses : {C : Type 0} → Fault → Judgement C
refuses fault = record { run = Err fault; holds = λ o. ⊥; fails = λ f. f ≡ fault }

-- A rule: what it asks, and a test that tells it. Where it holds there is this node, else this fault.
pub record Meets {C : Type 0} (Asked : Type 0) (c o : C) : Type 0 where
  pub asked : Asked
  pub made : o ≡ c

pub record Breaks (Asked : Type 0) (fault f : Fault) : Type 0 where
  pub none : Asked → ⊥
  pub which : f ≡ fault

abbrev pub rule : {C : Type 0} → Fault → Bool → Type 0 → C → Judgement C
rule fault test Asked c = record { run = cond test (Ok c) (Err fault); holds = Meets Asked c; fails = Breaks Asked fault }

-- one of two
abbrev pub either : {C : Type 0} → Bool → Judgement C → Judgement C → Judgement C
either b j k = record {
  run = cond b j.run k.run;
  holds = λ o. cond b (j.holds o) (k.holds o);
  fails = λ f. cond b (j.fails f) (k.fails f);
}

abbrev pub part : {A C : Type 0} → Judgement A → (A → Judgement C) → Judgement C
part j l = record {
  run = j.run >>= λ a. (l a).run;
  holds = Through j.holds (λ a. (l a).holds);
  fails = FailsThrough j.holds j.fails (λ a. (l a).fails);
}

abbrev pub parts : {A B C : Type 0} → Judgement A → Judgement B → (A → B → Judgement C) → Judgement C
parts j k l = record {
  run = j.run >>= λ a. k.run >>= λ b. (l a b).run;
  holds = Both j.holds k.holds (λ a b. (l a b).holds);
  fails = FailsBoth j.holds k.holds j.fails k.fails (λ a b. (l a b).fails);
}

-- ---- what code answers

abbrev pub FailsAs : {C : Type 0} → Refusal → Result C Fault → Type 0
FailsAs refusal.NoMemory read = Unit {0}
FailsAs (refusal.Because fault) read = read ≡ Err fault

-- What code answered, without where it lies in memory, is what is read; unless memory runs out.
abbrev pub Gives : {X C : Type 0} → (X → C) → Result X Refusal → Result C Fault → Type 0
Gives view (Ok x) read = read ≡ Ok (view x)
Gives view (Err e) read = FailsAs e read
