-- Productions of which the last reader meets its part only where fewer lexemes are left.
use Rattle.std.proofs.Common.{◌≡◌, ℕ, ◌+◌, ◌≤◌, ◌<◌, Bool, true, false, cond, List, [], ◌∷◌, length, Option, Some, None, Ok, Err, refl, sym, ap, subst, ◌∙◌, arith, length-append}
use Rattle.pascal_grammar.specs.declared.kind.Kind.{Kind}
use Rattle.pascal_grammar.specs.declared.lexeme.Lexeme.{Lexeme}
use Rattle.pascal_grammar.specs.Parts.{Part}
use Rattle.pascal_grammar.specs.Productions.{Production, counts, left_out}
use Rattle.pascal_grammar.specs.Asked.{Asked, accepts}
use Rattle.pascal_grammar.specs.Asked as q
use Rattle.pascal_grammar.specs.Lexemes.{Kept, kind_of, front_kind, kept, value}
use Rattle.pascal_grammar.specs.Rules.{grammar}
use Rattle.pascal_grammar.specs.Choices.{choose}
use Rattle.pascal_grammar.proofs.Tables.{Follow, predict}
use Rattle.pascal_grammar.proofs.Samples.{always, allowed}
use Rattle.pascal_grammar.proofs.Reading.{Reads, front_is}
use Rattle.ll1_grammar.specs.Grammar.{Symbol, token, part, pair, leaf, node, size, one_if}
use Rattle.ll1_grammar.specs.Readers.{◌>>=◌, Reader, through, made, opened, kept_by, token_at}
use Rattle.ll1_grammar.proofs.Meeting.{one, all, Meets, AllJoin, then_within, rest_read, token_found}
use Rattle.ll1_grammar.proofs.Choosing.{node_meets}
use Rattle.syntax_tree.specs.Expressions.{Parsed}
use Rattle.expression_parser.specs.Gives.{Inside}
use Rattle.type_parser.proofs.parameter_parser.Behind.{Outcome, last_part, then_read}

abbrev pub End : Type 0
End = Parsed × List Lexeme

no_more : (x : Production) (d : ℕ) (ts : List Lexeme) (r : Outcome) → counts x ≡ false → Meets grammar Follow (one grammar Follow (part (grammar.owner x))) (one_if (counts x) + d) ts r → Reads (grammar.owner x) d ts r
no_more x d ts r c m = let e : one_if (counts x) + d ≡ d = rw c (omega arith) in subst (λ (n : ℕ). Reads (grammar.owner x) n ts r) e m

-- what is left behind a part that is not empty
pub past : (m : Part) (d : ℕ) (ts : List Lexeme) (x : End) → Reads m d ts (Ok x) → 1 ≤ size x.0 → length x.1 < length ts
past m d ts x (text, f) s = let p = ap length f.parts in let k = f.size in omega (arith, p, k, length-append text x.1)

-- An item that is not empty, and what stands behind it.
pub item_past : (x : Production) (m t : Part) → grammar.body x ≡ part m ∷ part t ∷ [] → AllJoin grammar Follow (part m ∷ part t ∷ []) (Follow (grammar.owner x)) → always x ≡ true → left_out x ≡ false → counts x ≡ false
    → (d : ℕ) (ts : List Lexeme) → choose (grammar.owner x) (front_kind ts) ≡ Some x
    → (item rest : Reader Lexeme Kept Production) → Reads m d ts (item ts) → ((y : End) → item ts ≡ Ok y → 1 ≤ size y.0) → ((us : List Lexeme) → length us < length ts → Reads t d us (rest us))
    → Reads (grammar.owner x) d ts (made x (item ∷ rest ∷ []) ts)
item_past x m t is j a i c d ts chosen item rest im some rm =
    let F = Follow (grammar.owner x) in
    let e = ap (choose (grammar.owner x)) (front_is ts) ∙ chosen in
    let behind : (y : End) → item ts ≡ Ok y → Meets grammar Follow (all grammar Follow (part t ∷ []) F) d y.1 (through (rest ∷ []) y.1) = λ y h. last_part t F j.1 d y.1 rest (rm y.1 (past m d ts y (subst (λ (r : Outcome). Reads m d ts r) h im) (some y h))) in
    let whole : Meets grammar Follow (all grammar Follow (part m ∷ part t ∷ []) F) d ts (through (item ∷ rest ∷ []) ts) = then_read (part m) (part t ∷ []) F j.0 d ts (item ts) (through (rest ∷ [])) im behind in
    let u = subst (λ (zs : List (Symbol Asked Part)). Meets grammar Follow (all grammar Follow zs F) d ts (through (item ∷ rest ∷ []) ts)) (sym is) whole in
    no_more x d ts (made x (item ∷ rest ∷ []) ts) c (node_meets grammar Follow choose predict x ts e (allowed x a) i d (through (item ∷ rest ∷ []) ts) u)

-- A word, an item, those behind it, and what stands behind them.
pub words_past : (x : Production) (want : Kind) (m o t : Part) → grammar.body x ≡ token (q.mark want) ∷ part m ∷ part o ∷ part t ∷ [] → AllJoin grammar Follow (token (q.mark want) ∷ part m ∷ part o ∷ part t ∷ []) (Follow (grammar.owner x)) → always x ≡ true → left_out x ≡ false → counts x ≡ false
    → (d : ℕ) (l : Lexeme) (ts : List Lexeme) → choose (grammar.owner x) (Some (kind_of l)) ≡ Some x → accepts (q.mark want) (kind_of l) ≡ true
    → (item more rest : Reader Lexeme Kept Production) → ((us : List Lexeme) → Reads m d us (item us)) → ((us : List Lexeme) → Reads o d us (more us)) → ((us : List Lexeme) → length us ≤ length ts → Reads t d us (rest us))
    → Reads (grammar.owner x) d (l ∷ ts) (made x (token_at grammar (q.mark want) ∷ item ∷ more ∷ rest ∷ []) (l ∷ ts))
words_past x want m o t is j a i c d l ts chosen e item more rest im om rm =
    let s = q.mark want in
    let F = Follow (grammar.owner x) in
    let v : value s l ≡ Some (kept s l) = ap (λ (z : Bool). cond z (Some (kept s l)) None) e in
    let last : (us : List Lexeme) → length us ≤ length ts → Meets grammar Follow (all grammar Follow (part t ∷ []) F) d us (through (rest ∷ []) us) = λ us h. last_part t F j.1.1.1 d us rest (rm us h) in
    let behind : (us : List Lexeme) → length us ≤ length ts → Meets grammar Follow (all grammar Follow (part o ∷ part t ∷ []) F) d us (through (more ∷ rest ∷ []) us) = λ us h. then_within grammar Follow (part o) (part t ∷ []) F j.1.1.0 d us (more us) (through (rest ∷ [])) (om us) (λ vs k. last vs (omega (arith, h, k))) in
    let items : Meets grammar Follow (all grammar Follow (part m ∷ part o ∷ part t ∷ []) F) d ts (through (item ∷ more ∷ rest ∷ []) ts) = then_within grammar Follow (part m) (part o ∷ part t ∷ []) F j.1.0 d ts (item ts) (through (more ∷ rest ∷ [])) (im ts) behind in
    let known = rest_read grammar Follow (token s) (part m ∷ part o ∷ part t ∷ []) F j.0 d (l ∷ ts) (leaf (kept s l)) (l ∷ []) ts (token_found grammar Follow s l (kept s l) v d ts) (through (item ∷ more ∷ rest ∷ []) ts) items in
    let whole : Meets grammar Follow (all grammar Follow (token s ∷ part m ∷ part o ∷ part t ∷ []) F) d (l ∷ ts) (through (token_at grammar s ∷ item ∷ more ∷ rest ∷ []) (l ∷ ts)) = subst (λ (z : Option Kept). Meets grammar Follow (all grammar Follow (token s ∷ part m ∷ part o ∷ part t ∷ []) F) d (l ∷ ts) (kept_by z l ts >>= λ y. through (item ∷ more ∷ rest ∷ []) y.1 >>= λ w. Ok (pair y.0 w.0, w.1))) (sym v) known in
    let u = subst (λ (zs : List (Symbol Asked Part)). Meets grammar Follow (all grammar Follow zs F) d (l ∷ ts) (through (token_at grammar s ∷ item ∷ more ∷ rest ∷ []) (l ∷ ts))) (sym is) whole in
    no_more x d (l ∷ ts) (made x (token_at grammar s ∷ item ∷ more ∷ rest ∷ []) (l ∷ ts)) c (node_meets grammar Follow choose predict x (l ∷ ts) chosen (allowed x a) i d (through (token_at grammar s ∷ item ∷ more ∷ rest ∷ []) (l ∷ ts)) u)

-- ---- what begins with one lexeme is not empty

abbrev pair_with : Parsed → End → Outcome
pair_with a u = Ok (pair a u.0, u.1)

abbrev with_leaf : Kept → End → Outcome
with_leaf v u = Ok (pair (leaf v) u.0, u.1)

abbrev made_of : Production → End → Outcome
made_of x u = Ok (node x u.0, u.1)

by_rest : (x : Production) (v : Kept) (r : Outcome) (y : End) → ((r >>= with_leaf v) >>= made_of x) ≡ Ok y → 1 ≤ size y.0
by_rest x v (Err f) y e = absurd cc
by_rest x v (Ok u) y e =
    let same : (node x (pair (leaf v) u.0), u.1) ≡ y = cc in
    subst (λ (z : End). 1 ≤ size z.0) same (omega arith)

by_front : (x : Production) (o : Option Kept) (l : Lexeme) (ts : List Lexeme) (rs : List (Reader Lexeme Kept Production)) (y : End) → ((kept_by o l ts >>= λ z. through rs z.1 >>= λ u. Ok (pair z.0 u.0, u.1)) >>= made_of x) ≡ Ok y → 1 ≤ size y.0
by_front x None l ts rs y e = absurd cc
by_front x (Some v) l ts rs y e = by_rest x v (through rs ts) y e

pub some_lexeme : (x : Production) (s : Asked) (rs : List (Reader Lexeme Kept Production)) (ts : List Lexeme) (y : End) → made x (token_at grammar s ∷ rs) ts ≡ Ok y → 1 ≤ size y.0
some_lexeme x s rs [] y e = absurd cc
some_lexeme x s rs (l ∷ ts) y e = by_front x (value s l) l ts rs y e

-- ---- what begins with a part that is not empty

by_others : (x : Production) (a : Parsed) (r : Outcome) (y : End) → 1 ≤ size a → ((r >>= pair_with a) >>= made_of x) ≡ Ok y → 1 ≤ size y.0
by_others x a (Err f) y s e = absurd cc
by_others x a (Ok u) y s e =
    let same : (node x (pair a u.0), u.1) ≡ y = cc in
    subst (λ (z : End). 1 ≤ size z.0) same (omega (arith, s))

by_part : (x : Production) (rs : List (Reader Lexeme Kept Production)) (r : Outcome) (y : End) → ((z : End) → r ≡ Ok z → 1 ≤ size z.0) → ((r >>= λ z. through rs z.1 >>= pair_with z.0) >>= made_of x) ≡ Ok y → 1 ≤ size y.0
by_part x rs (Err f) y s e = absurd cc
by_part x rs (Ok z) y s e = by_others x z.0 (through rs z.1) y (s z refl) e

pub some_part : (x : Production) (r : Reader Lexeme Kept Production) (rs : List (Reader Lexeme Kept Production)) (ts : List Lexeme) (y : End) → ((z : End) → r ts ≡ Ok z → 1 ≤ size z.0) → made x (r ∷ rs) ts ≡ Ok y → 1 ≤ size y.0
some_part x r rs ts y s e = by_part x rs (r ts) y s e

-- a construct that begins with one lexeme
pub some_construct : (x : Production) (s : Asked) (rs : ℕ → (Part → Reader Lexeme Kept Production) → List (Reader Lexeme Kept Production)) (b : Inside) (ts : List Lexeme) (y : End) → opened x (λ e l. token_at grammar s ∷ rs e l) b ts ≡ Ok y → 1 ≤ size y.0
some_construct x s rs None ts y e = absurd cc
some_construct x s rs (Some l) ts y e = some_lexeme x s (rs l.0 l.1) ts y e
