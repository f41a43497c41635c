-- Readers of productions meet the grammar.
use Rattle.std.proofs.Common.{◌≡◌, ℕ, ◌+◌, ◌≤◌, Bool, true, false, cond, List, [], ◌∷◌, length, Option, Some, None, Result, Ok, Err, refl, sym, ap, subst, ◌∙◌, arith}
use Rattle.pascal_grammar.specs.declared.kind.Kind.{Kind}
use Rattle.pascal_grammar.specs.declared.lexeme.Lexeme.{Lexeme}
use Rattle.pascal_grammar.specs.Parts.{Part}
use Rattle.pascal_grammar.specs.Productions.{Production, counts, left_out, allows}
use Rattle.pascal_grammar.specs.Asked.{Asked, accepts}
use Rattle.pascal_grammar.specs.Asked as q
use Rattle.pascal_grammar.specs.Lexemes.{Kept, kind_of, front_kind, kept, value}
use Rattle.pascal_grammar.specs.Rules.{grammar}
use Rattle.pascal_grammar.specs.Choices.{choose}
use Rattle.pascal_grammar.proofs.Tables.{Follow, predict}
use Rattle.pascal_grammar.proofs.Samples.{has_sample, of_asked, always, allowed, by_kind}
use Rattle.pascal_grammar.proofs.Somes.{some, joins}
use Rattle.ll1_grammar.specs.Grammar.{Symbol, token, part, Tree, pair, leaf, head, one_if}
use Rattle.ll1_grammar.specs.Readers.{Fault, Syntax, LeftOut, ◌>>=◌, Reader, through, made, kept_by, token_at, Below, opened}
use Rattle.ll1_grammar.proofs.Meeting.{one, all, Meets, AllMeet, AllJoin, token_meets, then, then_within, rest_read, token_found, none_meets, through_meets}
use Rattle.ll1_grammar.proofs.Choosing.{AreBelow, IsBelow, node_meets, empty_meets, none_chosen, opened_meets, is_left_out}

abbrev pub Reads : Part → ℕ → List Lexeme → Result (Tree Kept Production × List Lexeme) (Fault Production) → Type 0
Reads n = Meets grammar Follow (one grammar Follow (part n))

abbrev pub AllRead : ℕ → List (Symbol Asked Part) → List (Reader Lexeme Kept Production) → Type 0
AllRead = AllMeet grammar Follow

-- the readers of fewer constructs meet the parts that are held
abbrev pub AreRead : (Part → Type 0) → ℕ → Below Lexeme Kept Part Production → Type 0
AreRead = AreBelow grammar Follow choose predict

pub front_is : (ts : List Lexeme) → head grammar ts ≡ front_kind ts
front_is [] = refl
front_is (x ∷ ts) = refl

-- one lexeme
pub asked : (s : Asked) → has_sample s ≡ true → (d : ℕ) (ts : List Lexeme) → Meets grammar Follow (one grammar Follow (token s)) d ts (token_at grammar s ts)
asked s e d ts = token_meets grammar Follow by_kind s (of_asked s e) d ts

no_more : (x : Production) (d : ℕ) (ts : List Lexeme) (r : Result (Tree Kept Production × List Lexeme) (Fault Production)) → counts x ≡ false → Meets grammar Follow (one grammar Follow (part (grammar.owner x))) (one_if (counts x) + d) ts r → Reads (grammar.owner x) d ts r
no_more x d ts r c m = let e : one_if (counts x) + d ≡ d = rw c (omega arith) in subst (λ (n : ℕ). Reads (grammar.owner x) n ts r) e m

-- A production that opens no construct.
pub plain : (x : Production) (d : ℕ) (ts : List Lexeme) → choose (grammar.owner x) (front_kind ts) ≡ Some x → always x ≡ true → left_out x ≡ false → counts x ≡ false → (rs : List (Reader Lexeme Kept Production)) → AllRead d (grammar.body x) rs → Reads (grammar.owner x) d ts (made x rs ts)
plain x d ts chosen a i c rs m =
    let e = ap (choose (grammar.owner x)) (front_is ts) ∙ chosen in
    let t = through_meets grammar Follow (grammar.body x) (Follow (grammar.owner x)) (joins x) d rs m ts in
    let n = node_meets grammar Follow choose predict x ts e (allowed x a) i d (through rs ts) t in
    no_more x d ts (made x rs ts) c n

-- The same, of which the first reader is known to meet its symbol.
pub begun : (x : Production) (d : ℕ) (ts : List Lexeme) → choose (grammar.owner x) (front_kind ts) ≡ Some x → always x ≡ true → left_out x ≡ false → counts x ≡ false → (y : Symbol Asked Part) (ys : List (Symbol Asked Part)) → grammar.body x ≡ y ∷ ys → AllJoin grammar Follow (y ∷ ys) (Follow (grammar.owner x)) → (r : Reader Lexeme Kept Production) (rs : List (Reader Lexeme Kept Production)) → Meets grammar Follow (one grammar Follow y) d ts (r ts) → AllRead d ys rs → Reads (grammar.owner x) d ts (made x (r ∷ rs) ts)
begun x d ts chosen a i c y ys is j r rs f m =
    let e = ap (choose (grammar.owner x)) (front_is ts) ∙ chosen in
    let t = then grammar Follow y ys (Follow (grammar.owner x)) j.0 d ts (r ts) (through rs) f (λ l. through_meets grammar Follow ys (Follow (grammar.owner x)) j.1 d rs m l) in
    let u = subst (λ (zs : List (Symbol Asked Part)). Meets grammar Follow (all grammar Follow zs (Follow (grammar.owner x))) d ts (through (r ∷ rs) ts)) (sym is) t in
    let n = node_meets grammar Follow choose predict x ts e (allowed x a) i d (through (r ∷ rs) ts) u in
    no_more x d ts (made x (r ∷ rs) ts) c n

-- A production of no symbols.
pub empty : (x : Production) (d : ℕ) (ts : List Lexeme) → choose (grammar.owner x) (front_kind ts) ≡ Some x → grammar.body x ≡ [] → left_out x ≡ false → counts x ≡ false → allows x (front_kind ts) ≡ true → Reads (grammar.owner x) d ts (made x [] ts)
empty x d ts chosen b i c a = empty_meets grammar Follow choose predict x ts (ap (choose (grammar.owner x)) (front_is ts) ∙ chosen) b c i (ap (allows x) (front_is ts) ∙ a) d

-- No production begins so.
pub none : (n : Part) (d : ℕ) (ts : List Lexeme) → choose n (front_kind ts) ≡ None → Reads n d ts (Err (Syntax (length ts)))
none n d ts chosen = none_chosen grammar Follow choose predict n d ts (ap (choose n) (front_is ts) ∙ chosen) (some n)

-- What is left out there.
pub left : (x : Production) (d : ℕ) (l : Lexeme) (ts : List Lexeme) → choose (grammar.owner x) (Some (kind_of l)) ≡ Some x → always x ≡ true → left_out x ≡ true → (s : Asked) → grammar.body x ≡ token s ∷ [] → accepts s (kind_of l) ≡ true → Reads (grammar.owner x) d (l ∷ ts) (Err (LeftOut x (length (l ∷ ts))))
left x d l ts chosen a i s b e =
    let v : value s l ≡ Some (kept s l) = ap (λ (z : Bool). cond z (Some (kept s l)) None) e in
    is_left_out grammar Follow choose predict x l ts chosen (allowed x a) s (kept s l) v [] b (some (grammar.owner x)) i refl d

-- A production that opens a construct.
pub opens : (Held : Part → Type 0) (x : Production) (l : Lexeme) (ts : List Lexeme) → choose (grammar.owner x) (Some (kind_of l)) ≡ Some x → always x ≡ true → left_out x ≡ false → counts x ≡ true → (s : Asked) (ys : List (Symbol Asked Part)) → grammar.body x ≡ token s ∷ ys → AllJoin grammar Follow (token s ∷ ys) (Follow (grammar.owner x)) → accepts s (kind_of l) ≡ true
    → (rs : ℕ → (Part → Reader Lexeme Kept Production) → List (Reader Lexeme Kept Production)) → (d : ℕ) (b : Below Lexeme Kept Part Production) → AreRead Held d b
    → ((e : ℕ) (below : Part → Reader Lexeme Kept Production) → IsBelow grammar Follow choose predict Held e (e, below) → AllRead e ys (rs e below))
    → Reads (grammar.owner x) d (l ∷ ts) (opened x (λ e below. token_at grammar s ∷ rs e below) b (l ∷ ts))
opens Held x l ts chosen a i c s ys is j e rs d b h m =
    let v : value s l ≡ Some (kept s l) = ap (λ (z : Bool). cond z (Some (kept s l)) None) e in
    opened_meets grammar Follow choose predict Held x l ts chosen (allowed x a) s (kept s l) v ys is (some (grammar.owner x)) c i j rs d b h m

-- A production of a word, an item and the list behind it, where the list's reader meets no more lexemes than are left.
pub list_step : (x : Production) (want : Kind) (m t : Part) → grammar.body x ≡ token (q.word want) ∷ part m ∷ part t ∷ [] → AllJoin grammar Follow (token (q.word want) ∷ part m ∷ part t ∷ []) (Follow (grammar.owner x)) → always x ≡ true → left_out x ≡ false → counts x ≡ false
    → (d : ℕ) (l : Lexeme) (ts : List Lexeme) → choose (grammar.owner x) (Some (kind_of l)) ≡ Some x → accepts (q.word want) (kind_of l) ≡ true
    → (item rest : Reader Lexeme Kept Production) → ((us : List Lexeme) → Reads m d us (item us)) → ((us : List Lexeme) → length us ≤ length ts → Reads t d us (rest us))
    → Reads (grammar.owner x) d (l ∷ ts) (made x (token_at grammar (q.word want) ∷ item ∷ rest ∷ []) (l ∷ ts))
list_step x want m t is j a i c d l ts chosen e item rest im rm =
    let s = q.word want in
    let F = Follow (grammar.owner x) in
    let v : value s l ≡ Some (kept s l) = ap (λ (z : Bool). cond z (Some (kept s l)) None) e in
    let behind : (us : List Lexeme) → length us ≤ length ts → Meets grammar Follow (all grammar Follow (part t ∷ []) F) d us (through (rest ∷ []) us) = λ us h. then grammar Follow (part t) [] F j.1.1.0 d us (rest us) (through []) (rm us h) (λ vs. none_meets grammar Follow F d vs) in
    let items : Meets grammar Follow (all grammar Follow (part m ∷ part t ∷ []) F) d ts (through (item ∷ rest ∷ []) ts) = then_within grammar Follow (part m) (part t ∷ []) F j.1.0 d ts (item ts) (through (rest ∷ [])) (im ts) behind in
    let known = rest_read grammar Follow (token s) (part m ∷ part t ∷ []) F j.0 d (l ∷ ts) (leaf (kept s l)) (l ∷ []) ts (token_found grammar Follow s l (kept s l) v d ts) (through (item ∷ rest ∷ []) ts) items in
    let whole : Meets grammar Follow (all grammar Follow (token s ∷ part m ∷ part t ∷ []) F) d (l ∷ ts) (through (token_at grammar s ∷ item ∷ rest ∷ []) (l ∷ ts)) = subst (λ (o : Option Kept). Meets grammar Follow (all grammar Follow (token s ∷ part m ∷ part t ∷ []) F) d (l ∷ ts) (kept_by o l ts >>= λ y. through (item ∷ rest ∷ []) y.1 >>= λ z. Ok (pair y.0 z.0, z.1))) (sym v) known in
    let u = subst (λ (zs : List (Symbol Asked Part)). Meets grammar Follow (all grammar Follow zs F) d (l ∷ ts) (through (token_at grammar s ∷ item ∷ rest ∷ []) (l ∷ ts))) (sym is) whole in
    no_more x d (l ∷ ts) (made x (token_at grammar s ∷ item ∷ rest ∷ []) (l ∷ ts)) c (node_meets grammar Follow choose predict x (l ∷ ts) chosen (allowed x a) i d (through (token_at grammar s ∷ item ∷ rest ∷ []) (l ∷ ts)) u)
