-- A source has one fault at most, and none where a tree of the language is spelled within the limit.
use Rattle.std.proofs.Common.{◌≡◌, ℕ, zero, suc, ◌-◌, ◌≤◌, ◌<◌, List, [], ◌∷◌, ◌++◌, length, take, refl, sym, ap, subst, ◌∙◌, append_assoc, arith}
use Rattle.std.proofs.lemmas.List.{append-nil, length-take-le, take_all}
use Rattle.ll1_grammar.specs.Grammar.{Grammar, Tree, nil, pair, leaf, node, size, Has, deep, deep_in, Belongs, BelongsOr}
use Rattle.ll1_grammar.specs.Readers.{Fault, Syntax, LeftOut, TooDeep, left_of}
use Rattle.ll1_grammar.specs.Sources.{place, Spells, Begins, GoesOn, IsSyntax, IsLeftOut, IsTooDeep, IsFault, SameFault}
use Rattle.ll1_grammar.proofs.Meeting.{deep_in_most}

-- the shorter prefix of a list begins the longer one
fronts : {X : Type 0} (m k : ℕ) (l : List X) → m ≤ k → (q : List X) × (take k l ≡ take m l ++ q)
fronts zero k l h = (take k l, refl)
fronts (suc m) zero l h = absurd (omega arith)
fronts (suc m) (suc k) [] h = ([], refl)
fronts {X} (suc m) (suc k) (x ∷ l) h = let e = fronts m k l (omega arith) in (e.0, ap (λ (z : List X). x ∷ z) e.1)

module _ {X K S V N P : Type 0} (G : Grammar X K S V N P) (start : N) where
  -- more lexemes open no fewer constructs
  deep_in_grows : (m n : ℕ) (t : Tree V P) → m ≤ n → deep_in G m t ≤ deep_in G n t
  deep_in_grows zero n t h = omega arith
  deep_in_grows (suc m) zero t h = absurd (omega arith)
  deep_in_grows (suc m) (suc n) nil h = omega arith
  deep_in_grows (suc m) (suc n) (pair t u) h = let a = deep_in_grows (suc m) (suc n) t h in let b = deep_in_grows (suc m - size t) (suc n - size t) u (omega arith) in omega arith
  deep_in_grows (suc m) (suc n) (leaf v) h = omega arith
  deep_in_grows (suc m) (suc n) (node p t) h = let a = deep_in_grows (suc m) (suc n) t h in omega arith

  -- a source that begins with more of the lexemes goes on at the place
  on : (ts : List X) (left k : ℕ) (t : Tree V P) (more : List X) → 0 < left → suc (place ts left) ≤ k → Spells G start t (take k ts ++ more) → GoesOn G start ts left t
  on ts left k t more some h s =
      let e = fronts (suc (place ts left)) k ts h in
      record {
        more = e.0 ++ more;
        end = λ z. absurd (omega arith);
        spells = subst (λ (l : List X). Spells G start t l) (ap (λ (l : List X). l ++ more) e.1 ∙ append_assoc (take (suc (place ts left)) ts) e.0 more) s;
      }

  -- what is said of a place at which no source goes on within the limit
  record Bars (limit : ℕ) (ts : List X) (left : ℕ) : Type 0 where
    within : left ≤ length ts
    bars : (t : Tree V P) → GoesOn G start ts left t → Has (Belongs G) t → deep_in G (suc (place ts left)) t ≤ limit → ⊥

  barred : (limit : ℕ) (ts : List X) (f : Fault P) → IsFault G start limit ts f → Bars limit ts (left_of f)
  barred limit ts (Syntax n) i = record { within = i.within; bars = λ t g h d. i.there t g }
  barred limit ts (LeftOut q n) i = record { within = i.within; bars = λ t g h d. i.there t g h }
  barred limit ts (TooDeep n) i = record { within = i.within; bars = λ t g h d. let k = i.deeper t g in omega arith }

  -- the lexemes before a fault
  record Leads (limit : ℕ) (ts : List X) (left : ℕ) : Type 0 where
    within : left ≤ length ts
    before : Begins G start (Belongs G) limit (take (place ts left) ts)

  leads : (limit : ℕ) (ts : List X) (f : Fault P) → IsFault G start limit ts f → Leads limit ts (left_of f)
  leads limit ts (Syntax n) i = record { within = i.within; before = i.before }
  leads limit ts (LeftOut q n) i = record { within = i.within; before = i.before }
  leads limit ts (TooDeep n) i = record { within = i.within; before = i.before }

  -- none lies behind another
  not_behind : (limit : ℕ) (ts : List X) (a b : ℕ) → Bars limit ts a → Leads limit ts b → b < a → ⊥
  not_behind limit ts a b bar lead h =
      let w = lead.within in
      let v = bar.within in
      let begun = lead.before in
      let long : length (take (place ts b) ts) ≡ place ts b = length-take-le (place ts b) ts (omega arith) in
      let goes = on ts a (place ts b) begun.tree begun.more (omega arith) (omega arith) begun.spells in
      let grows = deep_in_grows (suc (place ts a)) (place ts b) begun.tree (omega arith) in
      let deep : deep_in G (place ts b) begun.tree ≤ limit = subst (λ (n : ℕ). deep_in G n begun.tree ≤ limit) long begun.deep in
      bar.bars begun.tree goes begun.has (omega arith)

  pub same_place : (limit : ℕ) (ts : List X) (f g : Fault P) → IsFault G start limit ts f → IsFault G start limit ts g → left_of f ≡ left_of g
  same_place limit ts f g i j =
      let a = not_behind limit ts (left_of f) (left_of g) (barred limit ts f i) (leads limit ts g j) in
      let b = not_behind limit ts (left_of g) (left_of f) (barred limit ts g j) (leads limit ts f i) in
      equal (left_of f) (left_of g) a b
    where
      equal : (m n : ℕ) → (n < m → ⊥) → (m < n → ⊥) → m ≡ n
      equal m n a b = omega arith

  -- ---- the kind

  -- with the lexeme there a source begins
  goes_there : (A : P → Type 0) (limit : ℕ) (ts : List X) (left : ℕ) → 0 < left → (b : Begins G start A limit (take (suc (place ts left)) ts)) → GoesOn G start ts left b.tree
  goes_there A limit ts left some b = on ts left (suc (place ts left)) b.tree b.more some (omega arith) b.spells

  syntax_or_left_out : (limit : ℕ) (ts : List X) (q : P) (left : ℕ) → IsSyntax G start limit ts left → IsLeftOut G start limit ts q left → ⊥
  syntax_or_left_out limit ts q left i j = let b = j.full.1 in i.there b.tree (goes_there (BelongsOr G q) j.full.0 ts left j.some b)

  syntax_or_too_deep : (limit : ℕ) (ts : List X) (left : ℕ) → IsSyntax G start limit ts left → IsTooDeep G start limit ts left → ⊥
  syntax_or_too_deep limit ts left i j = let b = j.there.1 in i.there b.tree (goes_there (Belongs G) j.there.0 ts left j.some b)

  left_out_or_too_deep : (limit : ℕ) (ts : List X) (q : P) (left : ℕ) → IsLeftOut G start limit ts q left → IsTooDeep G start limit ts left → ⊥
  left_out_or_too_deep limit ts q left i j = let b = j.there.1 in i.there b.tree (goes_there (Belongs G) j.there.0 ts left j.some b) b.has

  same_kind : (limit : ℕ) (ts : List X) (f g : Fault P) → IsFault G start limit ts f → IsFault G start limit ts g → left_of f ≡ left_of g → SameFault f g
  same_kind limit ts (Syntax m) (Syntax n) i j e = e
  same_kind limit ts (Syntax m) (LeftOut q n) i j e = syntax_or_left_out limit ts q n (subst (λ (k : ℕ). IsSyntax G start limit ts k) e i) j
  same_kind limit ts (Syntax m) (TooDeep n) i j e = syntax_or_too_deep limit ts n (subst (λ (k : ℕ). IsSyntax G start limit ts k) e i) j
  same_kind limit ts (LeftOut q m) (Syntax n) i j e = syntax_or_left_out limit ts q m (subst (λ (k : ℕ). IsSyntax G start limit ts k) (sym e) j) i
  same_kind limit ts (LeftOut p m) (LeftOut q n) i j e = e
  same_kind limit ts (LeftOut q m) (TooDeep n) i j e = left_out_or_too_deep limit ts q n (subst (λ (k : ℕ). IsLeftOut G start limit ts q k) e i) j
  same_kind limit ts (TooDeep m) (Syntax n) i j e = syntax_or_too_deep limit ts m (subst (λ (k : ℕ). IsSyntax G start limit ts k) (sym e) j) i
  same_kind limit ts (TooDeep m) (LeftOut q n) i j e = left_out_or_too_deep limit ts q m (subst (λ (k : ℕ). IsLeftOut G start limit ts q k) (sym e) j) i
  same_kind limit ts (TooDeep m) (TooDeep n) i j e = e

  -- The lexemes have one fault at most.
  pub one_fault : (limit : ℕ) (ts : List X) (f g : Fault P) → IsFault G start limit ts f → IsFault G start limit ts g → SameFault f g
  one_fault limit ts f g i j = same_kind limit ts f g i j (same_place limit ts f g i j)

  -- ---- and no tree

  -- a whole source goes on at each place, or ends there
  whole_goes : (ts : List X) (left : ℕ) (t : Tree V P) → left ≤ length ts → Spells G start t ts → GoesOn G start ts left t
  whole_goes ts zero t h s =
      let all : take (suc (place ts 0)) ts ≡ ts = take_all (suc (place ts 0)) ts (omega arith) in
      record { more = []; end = λ z. refl; spells = subst (λ (l : List X). Spells G start t l) (sym (append-nil (take (suc (place ts 0)) ts) ∙ all)) s }
  whole_goes ts (suc n) t h s = on ts (suc n) (length ts) t [] (omega arith) (omega arith) (subst (λ (l : List X). Spells G start t l) (sym (append-nil (take (length ts) ts) ∙ take_all (length ts) ts (omega arith))) s)

  -- Where lexemes have a fault they spell no tree of the language within the limit.
  pub no_tree : (limit : ℕ) (ts : List X) (f : Fault P) → IsFault G start limit ts f → (t : Tree V P) → Spells G start t ts → Has (Belongs G) t → deep G t ≤ limit → ⊥
  no_tree limit ts f i t s h d =
      let bar = barred limit ts f i in
      let most = deep_in_most G (λ n k. Unit {0}) (suc (place ts (left_of f))) t in
      bar.bars t (whole_goes ts (left_of f) t bar.within s) h (omega arith)
