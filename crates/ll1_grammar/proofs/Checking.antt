-- Tests of tables, which compute: what the tables say of each production, and of each kind of lexeme.
use Rattle.std.proofs.Common.{◌≡◌, Bool, true, false, List, [], ◌∷◌, Option, Some, None, refl, ap}
use Rattle.ll1_grammar.specs.Grammar.{Symbol, token, part, Grammar}
use Rattle.ll1_grammar.proofs.Predicting.{begins, vanish, Knows, IsAccepted, Chooses, FollowsAt, AllFollow}

abbrev pub implies : Bool → Bool → Bool
implies true b = b
implies false b = true

abbrev pub and : Bool → Bool → Bool
and true b = b
and false b = false

abbrev pub all_in : {K : Type 0} → (K → Bool) → List K → Bool
all_in f [] = true
all_in f (k ∷ l) = and (f k) (all_in f l)

implied : (a b : Bool) → implies a b ≡ true → a ≡ true → b ≡ true
implied true b e h = e
implied false b e h = absurd cc

pub first_of : (a b : Bool) → and a b ≡ true → a ≡ true
first_of true b e = refl
first_of false b e = absurd cc

pub second_of : (a b : Bool) → and a b ≡ true → b ≡ true
second_of true b e = e
second_of false b e = absurd cc

both_of : (a b : Bool) → a ≡ true → b ≡ true → and a b ≡ true
both_of true b e h = h
both_of false b e h = absurd cc

module _ {X K S V N P : Type 0} (G : Grammar X K S V N P) (accepts : S → K → Bool) (starts : N → K → Bool) (vanishes : N → Bool) (follows : N → Option K → Bool) (choose : N → Option K → Option P) (kinds : List K) (same : P → P → Bool) where
  abbrev pub Follow : N → Option K → Type 0
  Follow n h = follows n h ≡ true

  abbrev pub starts_well : P → Bool
  starts_well p = and (all_in (λ k. implies (begins G accepts starts vanishes (G.body p) k) (starts (G.owner p) k)) kinds) (implies (vanish G accepts starts vanishes (G.body p)) (vanishes (G.owner p)))

  abbrev pub is_it : P → Option P → Bool
  is_it p None = false
  is_it p (Some q) = same q p

  abbrev pub may_vanish : P → Option K → Bool
  may_vanish p h = implies (and (follows (G.owner p) h) (G.allows p h)) (is_it p (choose (G.owner p) h))

  abbrev pub chosen_well : P → Bool
  chosen_well p = and (all_in (λ k. implies (begins G accepts starts vanishes (G.body p) k) (is_it p (choose (G.owner p) (Some k)))) kinds)
      (implies (vanish G accepts starts vanishes (G.body p)) (and (may_vanish p None) (all_in (λ k. may_vanish p (Some k)) kinds)))

  abbrev pub followed_at : Symbol S N → List (Symbol S N) → N → Bool
  followed_at (token s) ys m = true
  followed_at (part n) ys m = and (all_in (λ k. implies (begins G accepts starts vanishes ys k) (follows n (Some k))) kinds)
      (implies (vanish G accepts starts vanishes ys) (and (implies (follows m None) (follows n None)) (all_in (λ k. implies (follows m (Some k)) (follows n (Some k))) kinds)))

  abbrev pub followed_well : List (Symbol S N) → N → Bool
  followed_well [] m = true
  followed_well (y ∷ ys) m = and (followed_at y ys m) (followed_well ys m)

  -- all kinds are listed, and only the same productions are the same
  pub record IsComplete : Type 0 where
    pub kind : (f : K → Bool) → all_in f kinds ≡ true → (k : K) → f k ≡ true
    pub production : (p q : P) → same p q ≡ true → p ≡ q

  module _ (complete : IsComplete) where
    pub knows : (p : P) → starts_well p ≡ true → Knows G accepts starts vanishes p
    knows p e =
        let a = first_of (all_in (λ k. implies (begins G accepts starts vanishes (G.body p) k) (starts (G.owner p) k)) kinds) _ e in
        let b = second_of (all_in (λ k. implies (begins G accepts starts vanishes (G.body p) k) (starts (G.owner p) k)) kinds) _ e in
        record {
          first = λ k h. implied _ _ (complete.kind (λ k. implies (begins G accepts starts vanishes (G.body p) k) (starts (G.owner p) k)) a k) h;
          empty = λ h. implied _ _ b h;
        }

    is_it_is : (p : P) (o : Option P) → is_it p o ≡ true → o ≡ Some p
    is_it_is p None e = absurd cc
    is_it_is p (Some q) e = ap (λ (x : P). Some x) (complete.production q p e)

    module _ (accepted : IsAccepted G accepts starts vanishes) (known : (p : P) → Knows G accepts starts vanishes p) where
      next_by : (p : P) → and (may_vanish p None) (all_in (λ k. may_vanish p (Some k)) kinds) ≡ true → (h : Option K) → follows (G.owner p) h ≡ true → G.allows p h ≡ true → choose (G.owner p) h ≡ Some p
      next_by p e None f a = is_it_is p _ (implied _ _ (first_of (may_vanish p None) _ e) (both_of _ _ f a))
      next_by p e (Some k) f a = is_it_is p _ (implied _ _ (complete.kind (λ k. may_vanish p (Some k)) (second_of (may_vanish p None) _ e) k) (both_of _ _ f a))

      pub chooses : (p : P) → chosen_well p ≡ true → Chooses G accepts starts vanishes accepted known Follow choose p
      chooses p e =
          let a = first_of (all_in (λ k. implies (begins G accepts starts vanishes (G.body p) k) (is_it p (choose (G.owner p) (Some k)))) kinds) _ e in
          let b = second_of (all_in (λ k. implies (begins G accepts starts vanishes (G.body p) k) (is_it p (choose (G.owner p) (Some k)))) kinds) _ e in
          record {
            by_first = λ k h. is_it_is p _ (implied _ _ (complete.kind (λ k. implies (begins G accepts starts vanishes (G.body p) k) (is_it p (choose (G.owner p) (Some k)))) a k) h);
            by_next = λ v h f w. next_by p (implied _ _ b v) h f w;
          }

      follow_by : (n m : N) → and (implies (follows m None) (follows n None)) (all_in (λ k. implies (follows m (Some k)) (follows n (Some k))) kinds) ≡ true → (h : Option K) → follows m h ≡ true → follows n h ≡ true
      follow_by n m e None f = implied _ _ (first_of (implies (follows m None) (follows n None)) _ e) f
      follow_by n m e (Some k) f = implied _ _ (complete.kind (λ k. implies (follows m (Some k)) (follows n (Some k))) (second_of (implies (follows m None) (follows n None)) _ e) k) f

      follows_at : (y : Symbol S N) (ys : List (Symbol S N)) (m : N) → followed_at y ys m ≡ true → FollowsAt G accepts starts vanishes accepted known Follow y ys m
      follows_at (token s) ys m e = tt
      follows_at (part n) ys m e =
          let a = first_of (all_in (λ k. implies (begins G accepts starts vanishes ys k) (follows n (Some k))) kinds) _ e in
          let b = second_of (all_in (λ k. implies (begins G accepts starts vanishes ys k) (follows n (Some k))) kinds) _ e in
          (λ k h. implied _ _ (complete.kind (λ k. implies (begins G accepts starts vanishes ys k) (follows n (Some k))) a k) h, λ v h f. follow_by n m (implied _ _ b v) h f)

      pub all_follow : (ys : List (Symbol S N)) (m : N) → followed_well ys m ≡ true → AllFollow G accepts starts vanishes accepted known Follow ys m
      all_follow [] m e = tt
      all_follow (y ∷ ys) m e = (follows_at y ys m (first_of _ _ e), all_follow ys m (second_of (followed_at y ys m) _ e))
