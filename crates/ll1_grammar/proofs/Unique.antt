-- Where the lexeme in front chooses the production, lexemes spell one tree at most.
use Rattle.std.proofs.Common.{◌≡◌, List, [], ◌∷◌, ◌++◌, Option, Some, None, refl, sym, ap, subst, ◌∙◌, append_assoc}
use Rattle.std.proofs.lemmas.List.{append_cancel_left}
use Rattle.ll1_grammar.specs.Grammar.{Symbol, token, part, Grammar, Tree, nil, pair, leaf, node, front, head, One, Fit, Fits}
use Rattle.ll1_grammar.proofs.Meeting.{MayFollow, AllJoin, front_append, regroup}

module _ {X K S V N P : Type 0} (G : Grammar X K S V N P) (Follow : N → Option K → Type 0) (choose : N → Option K → Option P) (predict : (n : N) (q : P) (u : Tree V P) (l : List X) (h : Option K) → Fit G (part n) (node q u) l h → Follow n h → choose n (front G l h) ≡ Some q) (joins : (p : P) → AllJoin G Follow (G.body p) (Follow (G.owner p))) where
  -- the same trees, spelled by the same lexemes
  abbrev Same : Tree V P → Tree V P → List X → List X → Type 0
  Same t u l k = (t ≡ u) × (l ≡ k)

  one_same : (s : S) (v w : V) (l k r m : List X) → One G s v l → One G s w k → l ++ r ≡ k ++ m → Same (leaf v) (leaf w) l k
  one_same s v w l k r m a b e =
      let both : (a.lexeme ∷ []) ++ r ≡ (b.lexeme ∷ []) ++ m = ap (λ (z : List X). z ++ r) (sym a.alone) ∙ e ∙ ap (λ (z : List X). z ++ m) b.alone in
      let is : a.lexeme ≡ b.lexeme = cc in
      let kept : v ≡ w = (let x = a.keeps in let y = b.keeps in let z = ap (G.value s) is in cc) in
      (ap (λ (z : V). leaf z) kept, a.alone ∙ ap (λ (z : X). z ∷ []) is ∙ sym b.alone)

  -- the production of both
  same_choice : (n : N) (p q : P) (t u : Tree V P) (l k r m : List X) → Fit G (part n) (node p t) l (head G r) → Fit G (part n) (node q u) k (head G m) → Follow n (head G r) → Follow n (head G m) → l ++ r ≡ k ++ m → p ≡ q
  same_choice n p q t u l k r m a b f g e =
      let x : choose n (front G l (head G r)) ≡ Some p = predict n p t l (head G r) a f in
      let y : choose n (front G k (head G m)) ≡ Some q = predict n q u k (head G m) b g in
      let z : front G l (head G r) ≡ front G k (head G m) = sym (front_append G Follow l r None) ∙ ap (head G) e ∙ front_append G Follow k m None in
      let w : choose n (front G l (head G r)) ≡ choose n (front G k (head G m)) = ap (choose n) z in
      cc

  no_nil : (y : Symbol S N) (l : List X) (h : Option K) → Fit G y nil l h → ⊥
  no_nil (token s) l h a = a
  no_nil (part n) l h a = a

  no_pair : (y : Symbol S N) (t u : Tree V P) (l : List X) (h : Option K) → Fit G y (pair t u) l h → ⊥
  no_pair (token s) t u l h a = a
  no_pair (part n) t u l h a = a

  empty_same : (u : Tree V P) (l k : List X) (h : Option K) → l ≡ [] → Fits G [] u k h → Same nil u l k
  empty_same nil l k h a b = (refl, a ∙ sym b)
  empty_same (pair t u) l k h a b = absurd b
  empty_same (leaf v) l k h a b = absurd b
  empty_same (node p t) l k h a b = absurd b

  mutual
    fit_same : (t u : Tree V P) (y : Symbol S N) (l k r m : List X) → Fit G y t l (head G r) → Fit G y u k (head G m) → MayFollow G Follow y (head G r) → MayFollow G Follow y (head G m) → l ++ r ≡ k ++ m → Same t u l k
    fit_same nil u y l k r m a b f g e = absurd (no_nil y l (head G r) a)
    fit_same (pair t t') u y l k r m a b f g e = absurd (no_pair y t t' l (head G r) a)
    fit_same (leaf v) nil y l k r m a b f g e = absurd (no_nil y k (head G m) b)
    fit_same (leaf v) (pair u u') y l k r m a b f g e = absurd (no_pair y u u' k (head G m) b)
    fit_same (leaf v) (leaf w) (token s) l k r m a b f g e = one_same s v w l k r m a b e
    fit_same (leaf v) (leaf w) (part n) l k r m a b f g e = absurd a
    fit_same (leaf v) (node q u) (token s) l k r m a b f g e = absurd b
    fit_same (leaf v) (node q u) (part n) l k r m a b f g e = absurd a
    fit_same (node p t) nil y l k r m a b f g e = absurd (no_nil y k (head G m) b)
    fit_same (node p t) (pair u u') y l k r m a b f g e = absurd (no_pair y u u' k (head G m) b)
    fit_same (node p t) (leaf w) (token s) l k r m a b f g e = absurd a
    fit_same (node p t) (leaf w) (part n) l k r m a b f g e = absurd b
    fit_same (node p t) (node q u) (token s) l k r m a b f g e = absurd a
    fit_same (node p t) (node q u) (part n) l k r m a b f g e =
        let is : p ≡ q = same_choice n p q t u l k r m a b f g e in
        let f' : Follow (G.owner p) (head G r) = subst (λ (x : N). Follow x (head G r)) (sym a.0) f in
        let g' : Follow (G.owner p) (head G m) = subst (λ (x : N). Follow x (head G m)) (sym a.0) g in
        let b' : Fits G (G.body p) u k (head G m) = subst (λ (x : P). Fits G (G.body x) u k (head G m)) (sym is) b.2 in
        let same = fits_same t u (G.body p) (G.owner p) (joins p) l k r m a.2 b' f' g' e in
        (ap (λ (x : P). node x t) is ∙ ap (λ (z : Tree V P). node q z) same.0, same.1)

    fits_same : (t u : Tree V P) (ys : List (Symbol S N)) (n : N) → AllJoin G Follow ys (Follow n) → (l k r m : List X) → Fits G ys t l (head G r) → Fits G ys u k (head G m) → Follow n (head G r) → Follow n (head G m) → l ++ r ≡ k ++ m → Same t u l k
    fits_same nil u [] n j l k r m a b f g e = empty_same u l k (head G m) a b
    fits_same nil u (y ∷ ys) n j l k r m a b f g e = absurd a
    fits_same (leaf v) u [] n j l k r m a b f g e = absurd a
    fits_same (leaf v) u (y ∷ ys) n j l k r m a b f g e = absurd a
    fits_same (node p t) u [] n j l k r m a b f g e = absurd a
    fits_same (node p t) u (y ∷ ys) n j l k r m a b f g e = absurd a
    fits_same (pair t t') u [] n j l k r m a b f g e = absurd a
    fits_same (pair t t') nil (y ∷ ys) n j l k r m a b f g e = absurd b
    fits_same (pair t t') (leaf w) (y ∷ ys) n j l k r m a b f g e = absurd b
    fits_same (pair t t') (node q u) (y ∷ ys) n j l k r m a b f g e = absurd b
    fits_same (pair t t') (pair u u') (y ∷ ys) n j l k r m a b f g e =
        let a1 : Fit G y t a.left (head G (a.right ++ r)) = subst (λ (h : Option K). Fit G y t a.left h) (sym (front_append G Follow a.right r None)) a.first in
        let b1 : Fit G y u b.left (head G (b.right ++ m)) = subst (λ (h : Option K). Fit G y u b.left h) (sym (front_append G Follow b.right m None)) b.first in
        let f1 : MayFollow G Follow y (head G (a.right ++ r)) = subst (λ (h : Option K). MayFollow G Follow y h) (sym (front_append G Follow a.right r None)) (j.0.follows t' a.right (head G r) a.second f) in
        let g1 : MayFollow G Follow y (head G (b.right ++ m)) = subst (λ (h : Option K). MayFollow G Follow y h) (sym (front_append G Follow b.right m None)) (j.0.follows u' b.right (head G m) b.second g) in
        let whole : a.left ++ (a.right ++ r) ≡ b.left ++ (b.right ++ m) = regroup G Follow l a.left a.right r (k ++ m) a.joined e ∙ ap (λ (z : List X). z ++ m) b.joined ∙ append_assoc b.left b.right m in
        let first = fit_same t u y a.left b.left (a.right ++ r) (b.right ++ m) a1 b1 f1 g1 whole in
        let cut : a.right ++ r ≡ b.right ++ m = append_cancel_left a.left _ _ (whole ∙ ap (λ (z : List X). z ++ (b.right ++ m)) (sym first.1)) in
        let rest = fits_same t' u' ys n j.1 a.right b.right r m a.second b.second f g cut in
        (ap (λ (z : Tree V P). pair z t') first.0 ∙ ap (λ (z : Tree V P). pair u z) rest.0, a.joined ∙ ap (λ (z : List X). z ++ a.right) first.1 ∙ ap (λ (z : List X). b.left ++ z) rest.1 ∙ sym b.joined)

  -- At most one tree is spelled.
  pub at_most_one : (start : N) → Follow start None → (t u : Tree V P) (l : List X) → Fit G (part start) t l None → Fit G (part start) u l None → t ≡ u
  at_most_one start last t u l a b = (fit_same t u (part start) l l [] [] a b last last refl).0
