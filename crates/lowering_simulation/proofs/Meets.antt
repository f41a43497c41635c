-- How parts of a run are put together.
use Rattle.std.proofs.Common.{◌≡◌, ℕ, zero, suc, ◌+◌, ◌*◌, ◌≤◌, List, ◌++◌, refl, sym, ap, ◌∙◌, subst, arith}
use Rattle.std.specs.Prelude.{length, Ok, Err}
use Rattle.std.proofs.Math.Nat.{mod-eq_of_lt, mul-suc, mul-zero}
use Rattle.common_values.specs.behaviour.Seen.{Standing, Ended, Going, Undefined, Stopped}
use Rattle.tp_meaning.specs.Found as found
use Rattle.tp_meaning.specs.Outcomes as source
use Rattle.flat_code.specs.Calls as flat
use Rattle.flat_code.specs.Gives.{with_turns}
use Rattle.lowering_simulation.specs.Meets.{FlatRun, source_memory, flat_memory, Relation, Landing, charge, IsCharged, IsStill, StandsSo, Meets, Context}
use Rattle.lowering_simulation.specs.Laws.{GoesTo, Weakening, Binding, Preceding, Arriving, Turning, Raising, Looking, FollowingLaws}

-- ---- charges

charged_less : (a b x y : ℕ) → x ≤ y → b ≤ a + x → b ≤ a + y
charged_less a b x y p q = omega arith

charged_and : (a b x y : ℕ) → b ≤ a + x → b + y ≤ a + (x + y)
charged_and a b x y p = omega arith

-- one charge after another
charged_twice : (a b c x y : ℕ) → b ≤ a + x → c ≤ b + y → c ≤ a + (x + y)
charged_twice a b c x y p q = omega arith

charged_through : (a b c x y : ℕ) → c ≤ b + x → b + x ≤ a + y → c ≤ a + y
charged_through a b c x y p q = omega arith

-- whatever the turns that are left
pub charged_at : (few weight turns : ℕ) (t u : flat.State) → IsCharged few weight t u → charge few turns u ≤ charge few turns t + weight
charged_at few weight turns t u p = more (t.work + few * length t.input) (u.work + few * length u.input) weight (few * turns) p
  where
    more : (a b w x : ℕ) → b ≤ a + w → b + x ≤ a + x + w
    more a b w x p = omega arith

-- turns that are left are charged
pub none_left : (few turns : ℕ) (t : flat.State) → charge few 0 t ≤ charge few turns t
none_left few turns t = more (t.work + few * length t.input) (few * 0) (few * turns) (mul-zero few)
  where
    more : (a x y : ℕ) → x ≡ 0 → a + x ≤ a + y
    more a x y e = omega (arith, e)

-- as many bytes are left, and there is so much more work
pub charged : (few weight : ℕ) (t u : flat.State) → u.input ≡ t.input → u.work ≤ t.work + weight → IsCharged few weight t u
charged few weight t u e p = more t.work u.work (few * length t.input) (few * length u.input) weight p (ap (λ (input : List ℕ). few * length input) e)
  where
    more : (a b x y w : ℕ) → b ≤ a + w → y ≡ x → b + y ≤ a + x + w
    more a b x y w p e = omega (arith, p, e)

-- no turn of its own is spent
pub at_once : (f g : FlatRun) (t u : flat.State) → ((left : ℕ) → f (with_turns t left) ≡ g (with_turns u left)) → GoesTo 0 f t g u
at_once f g t u e left = ap (λ n. f (with_turns t n)) (let none : 0 + left ≡ left = omega arith in none) ∙ e left

-- ---- less asked

stands_weaker : (few weight more turns : ℕ) (f : FlatRun) (t : flat.State) (standing : Standing) (s : source.State) → weight ≤ more → StandsSo few weight turns f t standing s → StandsSo few more turns f t standing s
stands_weaker few weight more turns f t standing s p h = record {
  spent = h.spent;
  end = h.end;
  runs = h.runs;
  enough = h.enough;
  texts = h.texts;
  paid = charged_less (charge few turns t) (charge few 0 h.end) weight more p h.paid;
}

pub weaker : {A : Type 0} (few : ℕ) (P wider : Relation A) → Weakening few P wider
weaker few P wider weight more turns f t lands (source.Done a s) p q h = record {
  spent = h.spent;
  end = h.end;
  runs = h.runs;
  enough = h.enough;
  fewer = h.fewer;
  texts = h.texts;
  paid = charged_less (charge few turns t) (charge few s.turns h.end) weight more p h.paid;
  related = q a (source_memory s) (flat_memory h.end) h.related;
}
weaker few P wider weight more turns f t lands (source.Over (Ended code) s) p q h = stands_weaker few weight more turns f t (Ended code) s p h
weaker few P wider weight more turns f t lands (source.Over Going s) p q h = stands_weaker few weight more turns f t Going s p h
weaker few P wider weight more turns f t lands (source.Over (Undefined act) s) p q h = h
weaker few P wider weight more turns f t lands (source.Over Stopped s) p q h = tt

-- ---- flat code alone, and then what follows the source

stands_before : (few spent rest whole turns more : ℕ) (f g : FlatRun) (t u : flat.State) (standing : Standing) (s : source.State) → GoesTo spent f t g u → more ≤ spent + turns → charge few turns u + rest ≤ charge few more t + whole →
    StandsSo few rest turns g u standing s → StandsSo few whole more f t standing s
stands_before few spent rest whole turns more f g t u standing s e n p h = record {
  spent = spent + h.spent;
  end = h.end;
  runs = e h.spent ∙ h.runs;
  enough = λ z. (let q = h.enough z in omega arith);
  texts = h.texts;
  paid = charged_through (charge few more t) (charge few turns u) (charge few 0 h.end) rest whole h.paid p;
}

-- flat code may spend turns that the source has spent before
before_turns : {A : Type 0} (few : ℕ) (P : Relation A) (spent rest whole turns more : ℕ) (f g : FlatRun) (t u : flat.State) (lands : Landing A) (r : source.Outcome A) →
    GoesTo spent f t g u → turns ≤ more → more ≤ spent + turns → charge few turns u + rest ≤ charge few more t + whole → Meets few rest turns g u lands P r → Meets few whole more f t lands P r
before_turns few P spent rest whole turns more f g t u lands (source.Done a s) e m n p h = record {
  spent = spent + h.spent;
  end = h.end;
  runs = λ left. ap (λ n. f (with_turns t n)) (let sum : spent + h.spent + left ≡ spent + (h.spent + left) = omega arith in sum) ∙ e (h.spent + left) ∙ h.runs left;
  enough = (let q = h.enough in omega arith);
  fewer = (let q = h.fewer in omega arith);
  texts = h.texts;
  paid = charged_through (charge few more t) (charge few turns u) (charge few s.turns h.end) rest whole h.paid p;
  related = h.related;
}
before_turns few P spent rest whole turns more f g t u lands (source.Over (Ended code) s) e m n p h = stands_before few spent rest whole turns more f g t u (Ended code) s e n p h
before_turns few P spent rest whole turns more f g t u lands (source.Over Going s) e m n p h = stands_before few spent rest whole turns more f g t u Going s e n p h
before_turns few P spent rest whole turns more f g t u lands (source.Over (Undefined act) s) e m n p h = record { spent = spent + h.spent; still = subst (λ o. IsStill s.out s.err o) (sym (e h.spent)) h.still }
before_turns few P spent rest whole turns more f g t u lands (source.Over Stopped s) e m n p h = tt

pub before : {A : Type 0} (few : ℕ) (P : Relation A) → Preceding few P
before few P spent first rest turns f g t u lands r e p h =
    before_turns few P spent rest (first + rest) turns turns f g t u lands r e (omega arith) (omega arith) (charged_and (charge few turns t) (charge few turns u) first rest (charged_at few first turns t u p)) h

-- flat code that does the same from this state
pub alike : {A : Type 0} (few : ℕ) (P : Relation A) (weight turns : ℕ) (f g : FlatRun) (t : flat.State) (lands : Landing A) (r : source.Outcome A) →
    ((left : ℕ) → f (with_turns t left) ≡ g (with_turns t left)) → Meets few weight turns g t lands P r → Meets few weight turns f t lands P r
alike few P weight turns f g t lands r e h = before_turns few P 0 weight weight turns turns f g t t lands r (at_once f g t t e) (omega arith) (omega arith) (omega arith) h

pub arrives : {A : Type 0} (few : ℕ) (P : Relation A) → Arriving few P
arrives few P spent weight turns f t u lands a s e p x n q = record {
  spent = spent;
  end = u;
  runs = e;
  enough = omega (arith, n);
  fewer = omega (arith, n);
  texts = x;
  paid = subst (λ k. charge few k u ≤ charge few turns t + weight) n (charged_at few weight turns t u p);
  related = q;
}

-- ---- one part of the source, and what follows it

stands_in : (few first rest turns : ℕ) (f : FlatRun) (k : flat.Outcome → flat.Outcome) (t : flat.State) (standing : Standing) (s : source.State) → Context k → StandsSo few first turns f t standing s → StandsSo few (first + rest) turns (λ u. k (f u)) t standing s
stands_in few first rest turns f k t standing s c h = record {
  spent = h.spent;
  end = h.end;
  runs = ap k h.runs ∙ c.over standing h.end;
  enough = h.enough;
  texts = h.texts;
  paid = charged_less (charge few turns t) (charge few 0 h.end) first (first + rest) (omega arith) h.paid;
}

pub bind : {A B : Type 0} (few : ℕ) (P : Relation A) (Q : Relation B) → Binding few P Q
bind {B = B} few P Q first rest turns f k t lands ends (source.Done a s) next c h q = after (next a s) (q a s h.end h.fewer h.texts h.related)
  where
    goes : (left : ℕ) → k (f (with_turns t (h.spent + left))) ≡ k (lands a (with_turns h.end left))
    goes left = ap k (h.runs left)

    after_stands : (standing : Standing) (s' : source.State) → StandsSo few rest s.turns (λ u. k (lands a u)) h.end standing s' → StandsSo few (first + rest) turns (λ u. k (f u)) t standing s'
    after_stands standing s' w = record {
      spent = h.spent + w.spent;
      end = w.end;
      runs = goes w.spent ∙ w.runs;
      enough = λ z. (let x = h.enough in let y = w.enough z in omega arith);
      texts = w.texts;
      paid = charged_twice (charge few turns t) (charge few s.turns h.end) (charge few 0 w.end) first rest h.paid w.paid;
    }

    after : (o : source.Outcome B) → Meets few rest s.turns (λ u. k (lands a u)) h.end ends Q o → Meets few (first + rest) turns (λ u. k (f u)) t ends Q o
    after (source.Done b s') w = record {
      spent = h.spent + w.spent;
      end = w.end;
      runs = λ left. ap (λ n. k (f (with_turns t n))) (let sum : h.spent + w.spent + left ≡ h.spent + (w.spent + left) = omega arith in sum) ∙ goes (w.spent + left) ∙ w.runs left;
      enough = (let x = h.enough in let y = w.enough in omega arith);
      fewer = (let x = h.fewer in let y = w.fewer in omega arith);
      texts = w.texts;
      paid = charged_twice (charge few turns t) (charge few s.turns h.end) (charge few s'.turns w.end) first rest h.paid w.paid;
      related = w.related;
    }
    after (source.Over (Ended code) s') w = after_stands (Ended code) s' w
    after (source.Over Going s') w = after_stands Going s' w
    after (source.Over (Undefined act) s') w = record { spent = h.spent + w.spent; still = subst (λ o. IsStill s'.out s'.err o) (sym (goes w.spent)) w.still }
    after (source.Over Stopped s') w = tt
bind few P Q first rest turns f k t lands ends (source.Over (Ended code) s) next c h q = stands_in few first rest turns f k t (Ended code) s c h
bind few P Q first rest turns f k t lands ends (source.Over Going s) next c h q = stands_in few first rest turns f k t Going s c h
bind few P Q first rest turns f k t lands ends (source.Over (Undefined act) s) next c h q = record { spent = h.spent; still = c.still s.out s.err (f (with_turns t h.spent)) h.still }
bind few P Q first rest turns f k t lands ends (source.Over Stopped s) next c h q = tt

-- ---- turns

-- a turn pays so much
charged_turn : (few n a b weight paid x : ℕ) → b ≤ a + weight → x ≡ few * n + few → paid ≤ few → b + few * n + paid ≤ a + x + weight
charged_turn few n a b weight paid x p q small = summed few (few * n) a b weight paid x p q small
  where
    summed : (few y a b weight paid x : ℕ) → b ≤ a + weight → x ≡ y + few → paid ≤ few → b + y + paid ≤ a + x + weight
    summed few y a b weight paid x p q small = omega (arith, p, q, small)

pub turn : {A : Type 0} (few : ℕ) (P : Relation A) → Turning few P
turn few P weight paid f g t u lands go s e p x small next = by_turns s.turns refl
  where
    some : (left : ℕ) → f (with_turns t (1 + left)) ≡ g (with_turns u left)
    some left = ap (λ n. f (with_turns t n)) (let sum : 1 + left ≡ suc left = omega arith in sum) ∙ e (suc left)

    by_turns : (n : ℕ) → s.turns ≡ n → Meets few weight n f t lands P (source.spent n go s)
    by_turns zero is = record { spent = 0; end = with_turns u 0; runs = e 0; enough = λ z. omega arith; texts = x; paid = charged_at few weight 0 t u p }
    by_turns (suc n) is =
        before_turns few P 1 paid weight n (suc n) f g t u lands (go (record s { turns = n })) some (omega arith) (omega arith)
        (charged_turn few n (t.work + few * length t.input) (u.work + few * length u.input) weight paid (few * suc n) p (mul-suc few n) small) (next n is)

-- ---- errors, and what is looked for

pub raised : {A : Type 0} (few : ℕ) (P : Relation A) → Raising few P
raised few P spent weight turns code f t u lands s e p x small =
    let end : flat.State = record u { turns = 0; err = u.err ++ flat.error_text code } in
    record {
      spent = spent + 1;
      end = end;
      runs = e 1 ∙ ap (λ n. flat.Over (Ended n) end) (mod-eq_of_lt small);
      enough = λ z. absurd cc;
      texts = (x.0, ap (λ (bytes : List ℕ). bytes ++ flat.error_text code) x.1);
      paid = both (charge few 0 u) (charge few turns u) (charge few turns t + weight) (none_left few turns u) (charged_at few weight turns t u p);
    }
  where
    both : (a b c : ℕ) → a ≤ b → b ≤ c → a ≤ c
    both a b c p q = omega arith

pub looks : (A : Type 0) {B : Type 0} (few : ℕ) (Q : Relation B) → Looking A few Q
looks A few Q weight turns f t lands (Ok a) next s still there error = there a refl
looks A few Q weight turns f t lands (Err (found.Act act)) next s still there error = record { spent = 0; still = still }
looks A few Q weight turns f t lands (Err (found.Error code)) next s still there error = error code refl
looks A few Q weight turns f t lands (Err found.IllTyped) next s still there error = tt

pub following_laws : {A B : Type 0} (few : ℕ) (P wider : Relation A) (Q : Relation B) → FollowingLaws few P wider Q
following_laws {A = A} few P wider Q = record {
  weakening = weaker few P wider;
  binding = bind few P Q;
  preceding = before few P;
  arriving = arrives few P;
  turning = turn few P;
  raising = raised few P;
  looking = looks A few Q;
}
