-- Productions of which the last reader meets its part only for the lexemes that are left.
use Rattle.std.proofs.Common.{◌≡◌, ℕ, ◌+◌, ◌≤◌, Bool, true, false, cond, List, [], ◌∷◌, length, Option, Some, None, Result, Ok, Err, refl, sym, ap, subst, ◌∙◌, arith}
use Rattle.pascal_grammar.specs.declared.kind.Kind.{Kind}
use Rattle.pascal_grammar.specs.declared.lexeme.Lexeme.{Lexeme}
use Rattle.pascal_grammar.specs.Parts.{Part}
use Rattle.pascal_grammar.specs.Productions.{Production, counts, left_out}
use Rattle.pascal_grammar.specs.Productions as p
use Rattle.pascal_grammar.specs.Asked.{Asked, accepts}
use Rattle.pascal_grammar.specs.Asked as q
use Rattle.pascal_grammar.specs.Lexemes.{Kept, kind_of, front_kind, kept, value}
use Rattle.pascal_grammar.specs.Rules.{grammar}
use Rattle.pascal_grammar.specs.Choices.{choose}
use Rattle.pascal_grammar.proofs.Tables.{Follow, predict}
use Rattle.pascal_grammar.proofs.Samples.{always, allowed}
use Rattle.pascal_grammar.proofs.Reading.{Reads, front_is}
use Rattle.ll1_grammar.specs.Grammar.{Symbol, token, part, nil, pair, leaf, node, one_if}
use Rattle.ll1_grammar.specs.Readers.{Fault, ◌>>=◌, Reader, through, made, kept_by, token_at}
use Rattle.ll1_grammar.proofs.Meeting.{one, all, Meets, AllJoin, then, then_within, rest_read, token_found, token_known, none_meets}
use Rattle.ll1_grammar.proofs.Choosing.{node_meets}
use Rattle.syntax_tree.specs.Expressions.{Parsed, of}

abbrev pub Outcome : Type 0
Outcome = Result (Parsed × List Lexeme) (Fault Production)

abbrev pub End : Type 0
End = Parsed × List Lexeme

-- ---- readers in the code's shape

abbrev pub alone : End → Outcome
alone u = Ok (pair u.0 nil, u.1)

abbrev pub behind : Parsed → End → Outcome
behind a u = Ok (pair a u.0, u.1)

abbrev pub made_of : Production → End → Outcome
made_of x u = Ok (node x u.0, u.1)

abbrev both : Parsed → End → Result ((Parsed × Parsed) × List Lexeme) (Fault Production)
both i u = Ok ((i, u.0), u.1)

abbrev pair_of : Production → (Parsed × Parsed) × List Lexeme → Outcome
pair_of x u = Ok (of x (u.0.0 ∷ u.0.1 ∷ []), u.1)

abbrev arm_of : Parsed → Parsed → End → Outcome
arm_of a y u = Ok (of p.semicolon_arms (a ∷ of p.next_arm (y ∷ u.0 ∷ []) ∷ []), u.1)

-- two symbols read as a pair
two_by : (x : Production) (i : Parsed) (r : Outcome) → ((r >>= both i) >>= pair_of x) ≡ ((r >>= alone) >>= behind i) >>= made_of x
two_by x i (Ok u) = refl
two_by x i (Err f) = refl

two_from : (x : Production) (r2 : Reader Lexeme Kept Production) (r : Outcome) → ((r >>= λ i. r2 i.1 >>= both i.0) >>= pair_of x) ≡ (r >>= λ i. (r2 i.1 >>= alone) >>= behind i.0) >>= made_of x
two_from x r2 (Ok i) = two_by x i.0 (r2 i.1)
two_from x r2 (Err f) = refl

pub two_read : (x : Production) (r1 r2 : Reader Lexeme Kept Production) (ts : List Lexeme) → ((r1 ts >>= λ i. r2 i.1 >>= both i.0) >>= pair_of x) ≡ made x (r1 ∷ r2 ∷ []) ts
two_read x r1 r2 ts = two_from x r2 (r1 ts)

-- one more arm behind a semicolon
rest_by : (a y : Parsed) (r : Outcome) → (r >>= arm_of a y) ≡ (((((r >>= alone) >>= behind y) >>= made_of p.next_arm) >>= alone) >>= behind a) >>= made_of p.semicolon_arms
rest_by a y (Ok z) = refl
rest_by a y (Err f) = refl

arm_by : (a : Parsed) (rest : Reader Lexeme Kept Production) (r : Outcome) → (r >>= λ y. rest y.1 >>= arm_of a y.0) ≡ ((((r >>= λ y. (rest y.1 >>= alone) >>= behind y.0) >>= made_of p.next_arm) >>= alone) >>= behind a) >>= made_of p.semicolon_arms
arm_by a rest (Ok y) = rest_by a y.0 (rest y.1)
arm_by a rest (Err f) = refl

pub arm_shape : (asks item rest : Reader Lexeme Kept Production) (a : Parsed) (ts us : List Lexeme) → asks ts ≡ Ok (a, us)
    → (item us >>= λ y. rest y.1 >>= arm_of a y.0) ≡ made p.semicolon_arms (asks ∷ made p.next_arm (item ∷ rest ∷ []) ∷ []) ts
arm_shape asks item rest a ts us e = rw e (arm_by a rest (item us))

-- ---- productions

no_more : (x : Production) (d : ℕ) (ts : List Lexeme) (r : Outcome) → counts x ≡ false → Meets grammar Follow (one grammar Follow (part (grammar.owner x))) (one_if (counts x) + d) ts r → Reads (grammar.owner x) d ts r
no_more x d ts r c m = let e : one_if (counts x) + d ≡ d = rw c (omega arith) in subst (λ (n : ℕ). Reads (grammar.owner x) n ts r) e m

-- one part alone
last_part : (t : Part) (F : Option Kind → Type 0) → AllJoin grammar Follow (part t ∷ []) F → (d : ℕ) (ts : List Lexeme) (r : Reader Lexeme Kept Production) → Reads t d ts (r ts) → Meets grammar Follow (all grammar Follow (part t ∷ []) F) d ts (through (r ∷ []) ts)
last_part t F j d ts r m = then grammar Follow (part t) [] F j.0 d ts (r ts) (through []) m (λ us. none_meets grammar Follow F d us)

-- An item, and what stands behind it.
pub item_step : (x : Production) (m t : Part) → grammar.body x ≡ part m ∷ part t ∷ [] → AllJoin grammar Follow (part m ∷ part t ∷ []) (Follow (grammar.owner x)) → always x ≡ true → left_out x ≡ false → counts x ≡ false
    → (d : ℕ) (ts : List Lexeme) → choose (grammar.owner x) (front_kind ts) ≡ Some x
    → (item rest : Reader Lexeme Kept Production) → Reads m d ts (item ts) → ((us : List Lexeme) → length us ≤ length ts → Reads t d us (rest us))
    → Reads (grammar.owner x) d ts (made x (item ∷ rest ∷ []) ts)
item_step x m t is j a i c d ts chosen item rest im rm =
    let F = Follow (grammar.owner x) in
    let e = ap (choose (grammar.owner x)) (front_is ts) ∙ chosen in
    let whole : Meets grammar Follow (all grammar Follow (part m ∷ part t ∷ []) F) d ts (through (item ∷ rest ∷ []) ts) = then_within grammar Follow (part m) (part t ∷ []) F j.0 d ts (item ts) (through (rest ∷ [])) im (λ us l. last_part t F j.1 d us rest (rm us l)) in
    let u = subst (λ (zs : List (Symbol Asked Part)). Meets grammar Follow (all grammar Follow zs F) d ts (through (item ∷ rest ∷ []) ts)) (sym is) whole in
    no_more x d ts (made x (item ∷ rest ∷ []) ts) c (node_meets grammar Follow choose predict x ts e (allowed x a) i d (through (item ∷ rest ∷ []) ts) u)

-- A word, and what stands behind it.
pub word_step : (x : Production) (want : Kind) (t : Part) → grammar.body x ≡ token (q.word want) ∷ part t ∷ [] → AllJoin grammar Follow (token (q.word want) ∷ part t ∷ []) (Follow (grammar.owner x)) → always x ≡ true → left_out x ≡ false → counts x ≡ false
    → (d : ℕ) (l : Lexeme) (ts : List Lexeme) → choose (grammar.owner x) (Some (kind_of l)) ≡ Some x → accepts (q.word want) (kind_of l) ≡ true
    → (rest : Reader Lexeme Kept Production) → Reads t d ts (rest ts)
    → Reads (grammar.owner x) d (l ∷ ts) (made x (token_at grammar (q.word want) ∷ rest ∷ []) (l ∷ ts))
word_step x want t is j a i c d l ts chosen e rest rm =
    let s = q.word want in
    let F = Follow (grammar.owner x) in
    let v : value s l ≡ Some (kept s l) = ap (λ (z : Bool). cond z (Some (kept s l)) None) e in
    let known = rest_read grammar Follow (token s) (part t ∷ []) F j.0 d (l ∷ ts) (leaf (kept s l)) (l ∷ []) ts (token_found grammar Follow s l (kept s l) v d ts) (through (rest ∷ []) ts) (last_part t F j.1 d ts rest rm) in
    let whole : Meets grammar Follow (all grammar Follow (token s ∷ part t ∷ []) F) d (l ∷ ts) (through (token_at grammar s ∷ rest ∷ []) (l ∷ ts)) = subst (λ (o : Option Kept). Meets grammar Follow (all grammar Follow (token s ∷ part t ∷ []) F) d (l ∷ ts) (kept_by o l ts >>= λ y. through (rest ∷ []) y.1 >>= λ z. Ok (pair y.0 z.0, z.1))) (sym v) known in
    let u = subst (λ (zs : List (Symbol Asked Part)). Meets grammar Follow (all grammar Follow zs F) d (l ∷ ts) (through (token_at grammar s ∷ rest ∷ []) (l ∷ ts))) (sym is) whole in
    no_more x d (l ∷ ts) (made x (token_at grammar s ∷ rest ∷ []) (l ∷ ts)) c (node_meets grammar Follow choose predict x (l ∷ ts) chosen (allowed x a) i d (through (token_at grammar s ∷ rest ∷ []) (l ∷ ts)) u)

-- A word that is known to stand there.
pub word_known : (want : Kind) (x : Lexeme) (ts : List Lexeme) (d : ℕ) → accepts (q.word want) (kind_of x) ≡ true → Meets grammar Follow (one grammar Follow (token (q.word want))) d (x ∷ ts) (token_at grammar (q.word want) (x ∷ ts))
word_known want x ts d e = token_known grammar Follow (q.word want) x (kept (q.word want) x) (ap (λ (z : Bool). cond z (Some (kept (q.word want) x)) None) e) d ts
