-- All of the lexemes: what a reader that meets the grammar says of a whole source.
use Rattle.std.proofs.Common.{◌≡◌, inr, ℕ, suc, ◌+◌, ◌-◌, ◌≤◌, List, [], ◌∷◌, ◌++◌, length, take, Option, None, Result, Ok, Err, refl, sym, ap, subst, ◌∙◌, append_assoc, arith, length-append}
use Rattle.std.proofs.lemmas.List.{append_cancel_left, append-nil}
use Rattle.std.proofs.Math.Seq.{take-append_seam, take-append-add}
use Rattle.ll1_grammar.specs.Grammar.{part, Grammar, Tree, Has, head, deep, deep_in, Belongs, BelongsOr}
use Rattle.ll1_grammar.specs.Readers.{Fault, Syntax, LeftOut, TooDeep, left_of, ◌>>=◌}
use Rattle.ll1_grammar.specs.Sources.{place, Spells, Begins, GoesOn, IsSyntax, IsLeftOut, IsTooDeep, IsFault, ended}
use Rattle.ll1_grammar.proofs.Meeting.{one, Begun, Found, Stopped, Meets, Welcome, Denies, deep_in_most}

-- ---- lists

front_is : {X : Type 0} (p rest : List X) → take (place (p ++ rest) (length rest)) (p ++ rest) ≡ p
front_is p rest = let e : length (p ++ rest) - length rest ≡ length p = omega (arith, length-append p rest) in rw e (take-append_seam p rest)

front_more : {X : Type 0} (p : List X) (x : X) (rest : List X) → take (suc (place (p ++ (x ∷ rest)) (length (x ∷ rest)))) (p ++ (x ∷ rest)) ≡ p ++ (x ∷ [])
front_more p x rest = let e : suc (length (p ++ (x ∷ rest)) - length (x ∷ rest)) ≡ length p + 1 = omega (arith, length-append p (x ∷ rest)) in rw e (take-append-add p (x ∷ rest) 1)

front_all : {X : Type 0} (p : List X) → take (suc (place (p ++ []) 0)) (p ++ []) ≡ p
front_all {X} p = let a = append-nil p in rw a (let e : suc (length p - 0) ≡ length p + 1 = omega arith in rw e (ap (λ (l : List X). take (length p + 1) l) (sym a) ∙ take-append-add p [] 1 ∙ a))

module _ {X K S V N P : Type 0} (G : Grammar X K S V N P) (Follow : N → Option K → Type 0) (start : N) (last : Follow start None) (welcome : Welcome G Follow None) where
  begins : (A : P → Type 0) (d : ℕ) (p : List X) → Begun G Follow (one G Follow (part start)) A d p → Begins G start A d p
  begins A d p b = record { tree = b.tree; more = b.more; spells = b.fits None welcome last; has = b.has; deep = b.deep }

  -- a tree goes on with the lexeme at the place
  goes : (p rest : List X) (t : Tree V P) → GoesOn G start (p ++ rest) (length rest) t → (l : List X) × (m : List X) × Spells G start t l × (l ++ [] ≡ p ++ m) × (head G m ≡ head G rest)
  goes p [] t g = (p, [], subst (λ (l : List X). Spells G start t l) (ap (λ (l : List X). l ++ g.more) (front_all p) ∙ ap (λ (l : List X). p ++ l) (g.end refl) ∙ append-nil p) g.spells, refl, refl)
  goes p (x ∷ rest) t g = (p ++ (x ∷ g.more), x ∷ g.more, subst (λ (l : List X). Spells G start t l) (ap (λ (l : List X). l ++ g.more) (front_more p x rest) ∙ append_assoc p (x ∷ []) g.more) g.spells, append-nil _, refl)

  module _ (d : ℕ) (p rest : List X) (f : Fault P) (s : Stopped G Follow (one G Follow (part start)) d (p ++ rest) p rest f) where
    denied : (t : Tree V P) → GoesOn G start (p ++ rest) (length rest) t → Denies G Follow f d (length p) t
    denied t g = let k = goes p rest t g in s.never t k.0 [] k.1 k.2 last k.3 k.4

    before : Begins G start (Belongs G) d (take (place (p ++ rest) (length rest)) (p ++ rest))
    before = subst (λ (l : List X). Begins G start (Belongs G) d l) (sym (front_is p rest)) (begins (Belongs G) d p s.starts)

    with_it : (A : P → Type 0) (e : ℕ) (x : X) (others : List X) → rest ≡ x ∷ others → Begun G Follow (one G Follow (part start)) A e (p ++ (x ∷ [])) → Begins G start A e (take (suc (place (p ++ rest) (length rest))) (p ++ rest))
    with_it A e x others is b =
        subst (λ (r : List X). Begins G start A e (take (suc (place (p ++ r) (length r))) (p ++ r))) (sym is)
        (subst (λ (l : List X). Begins G start A e l) (sym (front_more p x others)) (begins A e _ b))

  stopped_here : (d : ℕ) (p rest : List X) (f : Fault P) → left_of f ≡ length rest → Stopped G Follow (one G Follow (part start)) d (p ++ rest) p rest f → IsFault G start d (p ++ rest) f
  stopped_here d p rest (Syntax n) e s = subst (λ (k : ℕ). IsSyntax G start d (p ++ rest) k) (sym e) (record {
    within = omega (arith, length-append p rest);
    before = before d p rest (Syntax n) s;
    there = λ t g. denied d p rest (Syntax n) s t g;
  })
  stopped_here d p rest (LeftOut q n) e s =
      let g = s.goes in
      let some : length rest ≡ suc (length g.1) = ap length g.3 in
      subst (λ (k : ℕ). IsLeftOut G start d (p ++ rest) q k) (sym e) (record {
        within = omega (arith, length-append p rest);
        some = omega arith;
        before = before d p rest (LeftOut q n) s;
        there = λ t g. denied d p rest (LeftOut q n) s t g;
        left_out = g.4;
        full = (g.2, with_it d p rest (LeftOut q n) s (BelongsOr G q) g.2 g.0 g.1 g.3 g.5);
      })
  stopped_here d p rest (TooDeep n) e s =
      let g = s.goes in
      let some : length rest ≡ suc (length g.1) = ap length g.3 in
      subst (λ (k : ℕ). IsTooDeep G start d (p ++ rest) k) (sym e) (record {
        within = omega (arith, length-append p rest);
        some = omega arith;
        before = before d p rest (TooDeep n) s;
        there = (g.2, with_it d p rest (TooDeep n) s (Belongs G) g.2 g.0 g.1 g.3 g.4);
        deeper = λ t g. let k : suc d ≤ deep_in G (suc (length p)) t = denied d p rest (TooDeep n) s t g in let e : place (p ++ rest) (length rest) ≡ length p = omega (arith, length-append p rest) in rw e (omega arith);
      })

  stopped : (d : ℕ) (ts p rest : List X) (f : Fault P) → ts ≡ p ++ rest → Stopped G Follow (one G Follow (part start)) d ts p rest f → IsFault G start d ts f
  stopped d ts p rest f e s =
      let here : Stopped G Follow (one G Follow (part start)) d (p ++ rest) p rest f = subst (λ (l : List X). Stopped G Follow (one G Follow (part start)) d l p rest f) e s in
      subst (λ (l : List X). IsFault G start d l f) (sym e) (stopped_here d p rest f s.left here)

  -- lexemes after a tree
  left_over : (d : ℕ) (t : Tree V P) (text : List X) (x : X) (rest : List X) → Found G Follow (one G Follow (part start)) d (text ++ (x ∷ rest)) t text (x ∷ rest) → IsSyntax G start d (text ++ (x ∷ rest)) (length (x ∷ rest))
  left_over d t text x rest f = record {
    within = omega (arith, length-append text (x ∷ rest));
    before = subst (λ (l : List X). Begins G start (Belongs G) d l) (sym (front_is text (x ∷ rest)))
        (record { tree = t; more = []; spells = subst (λ (l : List X). Spells G start t l) (sym (append-nil text)) (f.fits None (inr welcome)); has = f.has; deep = most (length text) });
    there = λ u g.
        let k = goes text (x ∷ rest) u g in
        let same = f.only u k.0 [] k.1 k.2 last k.3 k.4 in
        let nothing : [] ≡ k.1 = append_cancel_left text [] k.1 (ap (λ (l : List X). l ++ []) (sym same.1) ∙ k.3) in
        let h = ap (head G) nothing in
        let i = k.4 in
        cc;
  }
    where
      most : (n : ℕ) → deep_in G n t ≤ d
      most n = let a = deep_in_most G Follow n t in let b = f.deep in omega arith

  abbrev pub AllMeets : ℕ → List X → Result (Tree V P) (Fault P) → Type 0
  AllMeets d ts (Ok t) = Spells G start t ts × Has (Belongs G) t × (deep G t ≤ d)
  AllMeets d ts (Err f) = IsFault G start d ts f

  -- What is read is a tree that the lexemes spell, and a fault is the first one.
  pub all_meets : (d : ℕ) (ts : List X) (r : Result (Tree V P × List X) (Fault P)) → Meets G Follow (one G Follow (part start)) d ts r → AllMeets d ts (r >>= ended G start)
  all_meets d ts (Err f) s = stopped d ts s.0 s.1 f s.2.parts s.2
  all_meets d ts (Ok (t, [])) s =
      let f = s.1 in
      (subst (λ (l : List X). Spells G start t l) (sym (f.parts ∙ append-nil s.0)) (f.fits None (inr welcome)), f.has, f.deep)
  all_meets d ts (Ok (t, x ∷ rest)) s =
      let f = s.1 in
      let here : Found G Follow (one G Follow (part start)) d (s.0 ++ (x ∷ rest)) t s.0 (x ∷ rest) = subst (λ (l : List X). Found G Follow (one G Follow (part start)) d l t s.0 (x ∷ rest)) f.parts f in
      subst (λ (l : List X). IsSyntax G start d l (length (x ∷ rest))) (sym f.parts) (left_over d t s.0 x rest here)

  -- What is spelled is read.
  pub all_only : (d : ℕ) (ts : List X) (r : Result (Tree V P × List X) (Fault P)) → Meets G Follow (one G Follow (part start)) d ts r → (t : Tree V P) → Spells G start t ts → Has (Belongs G) t → deep G t ≤ d → (r >>= ended G start) ≡ Ok t
  all_only d ts (Ok (u, rest)) m t s b h =
      let f = m.1 in
      let same = f.only t ts [] rest s last (append-nil ts ∙ f.parts) refl in
      let nothing : [] ≡ rest = append_cancel_left m.0 [] rest (append-nil m.0 ∙ sym same.1 ∙ f.parts) in
      ap (λ (l : List X). ended G start (u, l)) (sym nothing) ∙ ap (λ (z : Tree V P). Ok z) (sym same.0)
  all_only d ts (Err (Syntax n)) m t s b h = let f = m.2 in absurd (f.never t ts [] m.1 s last (append-nil ts ∙ f.parts) refl)
  all_only d ts (Err (LeftOut q n)) m t s b h = let f = m.2 in absurd (f.never t ts [] m.1 s last (append-nil ts ∙ f.parts) refl b)
  all_only d ts (Err (TooDeep n)) m t s b h = let f = m.2 in let k : suc d ≤ deep_in G (suc (length m.0)) t = f.never t ts [] m.1 s last (append-nil ts ∙ f.parts) refl in let most = deep_in_most G Follow (suc (length m.0)) t in absurd (omega arith)
