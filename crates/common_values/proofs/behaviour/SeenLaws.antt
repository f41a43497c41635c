-- Following composes, and holds backwards.
use Rattle.std.proofs.Common.{◌≡◌, ℕ, ◌≤◌, List, [], sym, ap, subst, ◌∙◌, refl, inl, inr, ⊎_elim, arith}
use Rattle.std.specs.Prelude.{◌⊎◌}
use Rattle.std.proofs.lemmas.Bool.{cases_lt}
use Rattle.std.proofs.lemmas.List.{append-nil}
use Rattle.common_values.specs.behaviour.Seen.{Standing, Ended, Going, Undefined, Stopped, Seen, Stands, Shows, Follows, IsRun, IsOver, IsUndefined, Begins}
use Rattle.common_values.specs.behaviour.Laws.{ShowsLaws, FollowsLaws, BackwardLaws}

stands_itself : (n : ℕ) (e : Standing) → Stands n n e e
stands_itself n (Ended code) = refl
stands_itself n Going = (omega arith, refl)
stands_itself n (Undefined act) = tt
stands_itself n Stopped = refl

pub shows_itself : (n : ℕ) (x : Seen) → Shows n n x x
shows_itself n x = record { out = refl; err = refl; stands = stands_itself n x.end }

stands_twice : (n k m : ℕ) (x y z : Standing) → Stands n k x y → Stands k m y z → Stands n m x z
stands_twice n k m (Ended code) y z p q = subst (λ s. Stands k m s z) p q
stands_twice n k m Going y z p q = let r : (k ≤ m) × (z ≡ Going) = subst (λ s. Stands k m s z) p.1 q in (omega arith, r.1)
stands_twice n k m (Undefined act) y z p q = tt
stands_twice n k m Stopped y z p q = subst (λ s. Stands k m s z) p q

pub shows_twice : (n k m : ℕ) (x y z : Seen) → Shows n k x y → Shows k m y z → Shows n m x z
shows_twice n k m x y z p q = record { out = q.out ∙ p.out; err = q.err ∙ p.err; stands = stands_twice n k m x.end y.end z.end p.stands q.stands }

stands_fewer : (n n' m : ℕ) (x y : Standing) → n' ≤ n → Stands n m x y → Stands n' m x y
stands_fewer n n' m (Ended code) y h p = p
stands_fewer n n' m Going y h p = (omega arith, p.1)
stands_fewer n n' m (Undefined act) y h p = tt
stands_fewer n n' m Stopped y h p = p

pub shows_fewer : (n n' m : ℕ) (x y : Seen) → n' ≤ n → Shows n m x y → Shows n' m x y
shows_fewer n n' m x y h p = record { out = p.out; err = p.err; stands = stands_fewer n n' m x.end y.end h p.stands }

pub shows_laws : ShowsLaws
shows_laws = record { itself = shows_itself; twice = shows_twice; fewer = shows_fewer }

pub follows_twice : (first second third : ℕ → Seen) → Follows first second → Follows second third → Follows first third
follows_twice first second third p q n =
    let a = p n in
    let b = q a.0 in
    (b.0, shows_twice n a.0 b.0 (first n) (second a.0) (third b.0) a.1 b.1)

pub follows_laws : FollowsLaws
follows_laws = record { itself = λ run n. (n, shows_itself n (run n)); twice = follows_twice }

-- ---- backwards

seen : List ℕ → List ℕ → Standing → Seen
seen out err end = record { out = out; err = err; end = end }

seen_parts : (a b : List ℕ) (c d : List ℕ) (e f : Standing) → a ≡ b → c ≡ d → e ≡ f → seen a c e ≡ seen b d f
seen_parts a b c d e f p q r = cc

seen_same : (x y : Seen) → x.out ≡ y.out → x.err ≡ y.err → x.end ≡ y.end → x ≡ y
unfolding seen
seen_same x y p q r = seen_parts x.out y.out x.err y.err x.end y.end p q r

-- two bounds at which a run is over show the same
pub over_same : (run : ℕ → Seen) → IsRun run → (m k : ℕ) → IsOver (run m).end → IsOver (run k).end → run m ≡ run k
over_same run r m k p q = ⊎_elim (λ h. sym (r.over m k (omega arith) p)) (λ h. r.over k m h q) (cases_lt m k)

over_back : (target : ℕ → Seen) → IsRun target → (m k : ℕ) (x : Seen) (e : Standing) → x.end ≡ e → Shows m k x (target k) → IsOver (target m).end → (x ≡ target m) ⊎ IsUndefined e
over_back target r m k x (Ended code) h p q =
    let s : (target k).end ≡ Ended code = subst (λ s. Stands m k s (target k).end) h p.stands in
    let over : IsOver (target k).end = subst IsOver (sym s) tt in
    inl (seen_same x (target k) (sym p.out) (sym p.err) (h ∙ sym s) ∙ over_same target r k m over q)
over_back target r m k x Going h p q =
    let s : (m ≤ k) × ((target k).end ≡ Going) = subst (λ s. Stands m k s (target k).end) h p.stands in
    let e : target k ≡ target m = r.over m k s.0 q in
    let over : IsOver Going = subst IsOver (sym (ap (λ (y : Seen). y.end) e) ∙ s.1) q in
    absurd over
over_back target r m k x (Undefined act) h p q = inr tt
over_back target r m k x Stopped h p q =
    let s : (target k).end ≡ Stopped = subst (λ s. Stands m k s (target k).end) h p.stands in
    let over : IsOver (target k).end = subst IsOver (sym s) tt in
    inl (seen_same x (target k) (sym p.out) (sym p.err) (h ∙ sym s) ∙ over_same target r k m over q)

-- what is written of a run by one bound, where by another it is over
written_by : (run : ℕ → Seen) (written : Seen → List ℕ) → ((n m : ℕ) → n ≤ m → Begins (written (run n)) (written (run m))) → IsRun run → (m k : ℕ) → IsOver (run k).end → Begins (written (run m)) (written (run k))
written_by run written grows r m k q =
    ⊎_elim (λ h. grows m k (omega arith)) (λ h. ([], ap written (sym (r.over k m h q)) ∙ sym (append-nil (written (run m))))) (cases_lt m k)

written_back : (target : ℕ → Seen) (written : Seen → List ℕ) → ((n m : ℕ) → n ≤ m → Begins (written (target n)) (written (target m))) → IsRun target → (m k : ℕ) (e : Standing) → Stands m k e (target k).end → Begins (written (target m)) (written (target k)) ⊎ IsUndefined e
written_back target written grows r m k (Ended code) s = inl (written_by target written grows r m k (subst IsOver (sym s) tt))
written_back target written grows r m k Going s = inl (grows m k s.0)
written_back target written grows r m k (Undefined act) s = inr tt
written_back target written grows r m k Stopped s = inl (written_by target written grows r m k (subst IsOver (sym s) tt))

moved : (xs ys zs : List ℕ) (P : Type 0) → ys ≡ zs → Begins xs ys ⊎ P → Begins xs zs ⊎ P
moved xs ys zs P e p = subst (λ v. Begins xs v ⊎ P) e p

pub backward_laws : (source target : ℕ → Seen) → Follows source target → IsRun target → BackwardLaws source target
backward_laws source target f r = record {
  over = λ m q. over_back target r m (f m).0 (source m) (source m).end refl (f m).1 q;
  out = λ m. let p = f m in moved (target m).out (target p.0).out (source m).out (IsUndefined (source m).end) p.1.out (written_back target (λ y. y.out) r.out r m p.0 (source m).end p.1.stands);
  err = λ m. let p = f m in moved (target m).err (target p.0).err (source m).err (IsUndefined (source m).end) p.1.err (written_back target (λ y. y.err) r.err r m p.0 (source m).end p.1.stands);
}
