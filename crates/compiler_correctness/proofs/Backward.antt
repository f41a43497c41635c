-- The way back: what a run shows, by one that shows what was meant.
use Rattle.std.proofs.Common.{◌≡◌, ℕ, ◌<◌, ◌≤◌, List, [], ◌∷◌, refl, sym, ap, ◌∙◌, subst, inl, inr, arith}
use Rattle.std.specs.Prelude.{◌⊎◌, All}
use Rattle.std.proofs.lemmas.List.Elements.{All-nil, All-cons}
use Rattle.common_values.specs.behaviour.Seen.{Standing, Ended, Going, Undefined, Stopped, Seen, Stands, Shows, IsOver, IsUndefined, IsRun, Begins}
use Rattle.common_values.proofs.behaviour.SeenLaws.{over_same}
use Rattle.statement_simulation.specs.flow.Sites.{AreBytes}

-- Of two states of one run, y after m events and z after k: behind a state that is over nothing follows, and after as many events they are the same.
pub record AreOfOneRun (m k : ℕ) (y z : Seen) : Type 0 where
  pub first : IsOver y.end → k ≤ m
  pub second : IsOver z.end → m ≤ k
  pub same : k ≡ m → y ≡ z

make : List ℕ → List ℕ → Standing → Seen
make out err end = record { out = out; err = err; end = end }

make_same : (a b : List ℕ) (c d : List ℕ) (e f : Standing) → a ≡ b → c ≡ d → e ≡ f → make a c e ≡ make b d f
make_same a b c d e f p q r = cc

pub seen_same : (x y : Seen) → x.out ≡ y.out → x.err ≡ y.err → x.end ≡ y.end → x ≡ y
unfolding make
seen_same x y p q r = make_same x.out y.out x.err y.err x.end y.end p q r

-- the two are over, and so the same
both_ended : (m k : ℕ) (x y z : Seen) → Shows m k x z → AreOfOneRun m k y z → IsOver y.end → IsOver z.end → z.end ≡ x.end → x ≡ y
both_ended m k x y z s run over ended e =
    let below : k ≤ m = run.first over in
    let above : m ≤ k = run.second ended in
    seen_same x z (sym s.out) (sym s.err) (sym e) ∙ sym (run.same (omega (arith, below, above)))

pub over_back : (m k : ℕ) (x y z : Seen) (e : Standing) → x.end ≡ e → Shows m k x z → AreOfOneRun m k y z → IsOver y.end → (x ≡ y) ⊎ IsUndefined e
over_back m k x y z (Ended code) h s run over =
    let so : z.end ≡ Ended code = subst (λ (e : Standing). Stands m k e z.end) h s.stands in
    inl (both_ended m k x y z s run over (subst IsOver (sym so) tt) (so ∙ sym h))
over_back m k x y z Going h s run over =
    let so : (m ≤ k) × (z.end ≡ Going) = subst (λ (e : Standing). Stands m k e z.end) h s.stands in
    let below : k ≤ m = run.first over in
    let above : m ≤ k = so.0 in
    let same : y ≡ z = run.same (omega (arith, below, above)) in
    let going : IsOver Going = subst IsOver (ap (λ (v : Seen). v.end) same ∙ so.1) over in
    absurd going
over_back m k x y z (Undefined act) h s run over = inr tt
over_back m k x y z Stopped h s run over =
    let so : z.end ≡ Stopped = subst (λ (e : Standing). Stands m k e z.end) h s.stands in
    inl (both_ended m k x y z s run over (subst IsOver (sym so) tt) (so ∙ sym h))

-- what was written by then
pub written_back : (m k : ℕ) (z : Seen) (ys zs : List ℕ) (e : Standing) → Stands m k e z.end → (IsOver z.end → m ≤ k) → (m ≤ k → Begins ys zs) → Begins ys zs ⊎ IsUndefined e
written_back m k z ys zs (Ended code) s second grows = inl (grows (second (subst IsOver (sym s) tt)))
written_back m k z ys zs Going s second grows = inl (grows s.0)
written_back m k z ys zs (Undefined act) s second grows = inr tt
written_back m k z ys zs Stopped s second grows = inl (grows (second (subst IsOver (sym s) tt)))

-- ---- what follows of a state that is over

pub stopped_back : (x y : Seen) → (x ≡ y) ⊎ IsUndefined x.end → (x.end ≡ Stopped → ⊥) → y.end ≡ Stopped → IsUndefined x.end
stopped_back x y (inl same) never e = absurd (never (ap (λ (v : Seen). v.end) same ∙ e))
stopped_back x y (inr undefined) never e = undefined

pub ended_back : (x y : Seen) (code : ℕ) → (x ≡ y) ⊎ IsUndefined x.end → (IsUndefined x.end → ⊥) → y.end ≡ Ended code → x.end ≡ Ended code
ended_back x y code (inl same) defined e = ap (λ (v : Seen). v.end) same ∙ e
ended_back x y code (inr undefined) defined e = absurd (defined undefined)

-- two runs that are over show the same, where the meaning has no undefined act
pub one_back : (run : ℕ → Seen) → IsRun run → (m k : ℕ) (y z : Seen) → (run m ≡ y) ⊎ IsUndefined (run m).end → (run k ≡ z) ⊎ IsUndefined (run k).end → ((n : ℕ) → IsUndefined (run n).end → ⊥)
    → IsOver y.end → IsOver z.end → y ≡ z
one_back run r m k y z (inl first) (inl second) defined p q =
    sym first ∙ over_same run r m k (subst (λ (v : Seen). IsOver v.end) (sym first) p) (subst (λ (v : Seen). IsOver v.end) (sym second) q) ∙ second
one_back run r m k y z (inl first) (inr undefined) defined p q = absurd (defined k undefined)
one_back run r m k y z (inr undefined) second defined p q = absurd (defined m undefined)

undefined_over : (end : Standing) → IsUndefined end → IsOver end
undefined_over (Ended code) u = absurd u
undefined_over Going u = absurd u
undefined_over (Undefined act) u = tt
undefined_over Stopped u = tt

-- a run that is over after no more events than the meaning had turns when it went on: there is none
pub going_back : (run : ℕ → Seen) → IsRun run → (turns m : ℕ) (y : Seen) → m ≤ turns → (run turns).end ≡ Going → (run m ≡ y) ⊎ IsUndefined (run m).end → IsOver y.end → ⊥
going_back run r turns m y few going (inl same) over =
    let ended : IsOver (run m).end = subst (λ (v : Seen). IsOver v.end) (sym same) over in
    subst IsOver (ap (λ (v : Seen). v.end) (sym (r.over m turns few ended)) ∙ going) ended
going_back run r turns m y few going (inr undefined) over =
    let ended : IsOver (run m).end = undefined_over (run m).end undefined in
    subst IsOver (ap (λ (v : Seen). v.end) (sym (r.over m turns few ended)) ∙ going) ended

-- what is not over goes on
pub going_or_over : (end : Standing) → (IsOver end → ⊥) → end ≡ Going
going_or_over (Ended code) never = absurd (never tt)
going_or_over Going never = refl
going_or_over (Undefined act) never = absurd (never tt)
going_or_over Stopped never = absurd (never tt)

-- the two ways to say that an input has bytes
pub all_bytes : (input : List ℕ) → AreBytes input → All (λ byte. byte < 256) input
all_bytes [] are = All-nil (λ byte. byte < 256)
all_bytes (byte ∷ input) are = All-cons (λ byte. byte < 256) byte input are.0 (all_bytes input are.1)
