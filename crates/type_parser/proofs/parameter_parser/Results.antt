-- What an answer says of the readers that it came from.
use Rattle.std.proofs.Common.{◌≡◌, ◌≤◌, ◌<◌, List, [], ◌∷◌, length, Option, Some, None, Result, Ok, Err, refl, arith}
use Rattle.pascal_grammar.specs.declared.lexeme.Lexeme.{Lexeme}
use Rattle.pascal_grammar.specs.Asked.{Asked}
use Rattle.pascal_grammar.specs.Lexemes.{Kept, value}
use Rattle.pascal_grammar.specs.Productions.{Production}
use Rattle.ll1_grammar.specs.Grammar.{nil, pair, node}
use Rattle.ll1_grammar.specs.Readers.{Fault, ◌>>=◌, through, made, kept_by}
use Rattle.syntax_tree.specs.Expressions.{Parsed}
use Rattle.expression_parser.specs.Gives.{Reads, ask}
use Rattle.expression_parser.proofs.Shorter.{IsShort}

pub bind_ok : {A B : Type 0} (r : Result A (Fault Production)) (f : A → Result B (Fault Production)) (y : B) → (r >>= f) ≡ Ok y → (x : A) × (r ≡ Ok x) × (f x ≡ Ok y)
bind_ok (Ok x) f y e = (x, refl, e)
bind_ok (Err z) f y e = absurd cc

abbrev the_answer : Parsed × List Lexeme → Result (Parsed × List Lexeme) (Fault Production)
the_answer x = Ok x

same_tree : (a : Parsed) (l : List Lexeme) (x : Parsed × List Lexeme) → the_answer (a, l) ≡ Ok x → x.0 ≡ a
same_tree a l x e = cc

same_rest : (a : Parsed) (l : List Lexeme) (x : Parsed × List Lexeme) → the_answer (a, l) ≡ Ok x → x.1 ≡ l
same_rest a l x e = cc

no_node : (w : Production) (t u : Parsed) → u ≡ node w t → u ≡ nil → ⊥
no_node w t u e f = absurd cc

-- a production makes a node
pub made_node : (w : Production) (rs : List Reads) (ts : List Lexeme) (x : Parsed × List Lexeme) → made w rs ts ≡ Ok x → x.0 ≡ nil → ⊥
made_node w rs ts x e i =
    let a = bind_ok (through rs ts) (λ y. Ok (node w y.0, y.1)) x e in
    no_node w a.0.0 x.0 (same_tree (node w a.0.0) a.0.1 x a.2) i

-- ---- what is left is less than there was

abbrev pub AllShort : List Reads → Type 0
AllShort [] = Unit {0}
AllShort (r ∷ rs) = IsShort r × AllShort rs

through_short : (rs : List Reads) → AllShort rs → (ts : List Lexeme) (x : Parsed × List Lexeme) → through rs ts ≡ Ok x → length x.1 ≤ length ts
through_short [] h ts x e = rw (same_rest nil ts x e) (omega arith)
through_short (r ∷ rs) h ts x e =
    let a = bind_ok (r ts) (λ y. through rs y.1 >>= λ z. Ok (pair y.0 z.0, z.1)) x e in
    let b = bind_ok (through rs a.0.1) (λ z. Ok (pair a.0.0 z.0, z.1)) x a.2 in
    let first = h.0 ts a.0 a.1 in
    let others = through_short rs h.1 a.0.1 b.0 b.1 in
    rw (same_rest (pair a.0.0 b.0.0) b.0.1 x b.2) (omega arith)

kept_tail : (o : Option Kept) (t : Lexeme) (ts : List Lexeme) (y : Parsed × List Lexeme) → kept_by {P = Production} o t ts ≡ Ok y → length y.1 ≤ length ts
kept_tail None t ts y e = absurd cc
kept_tail (Some v) t ts y e = rw (same_rest _ ts y e) (omega arith)

-- behind the lexeme that a production begins with
pub behind_first : (s : Asked) (rs : List Reads) → AllShort rs → (w : Production) (ts : List Lexeme) (x : Parsed × List Lexeme) → made w (ask s ∷ rs) ts ≡ Ok x → length x.1 < length ts
behind_first s rs h w [] x e = absurd cc
behind_first s rs h w (t ∷ ts) x e =
    let a = bind_ok (through (ask s ∷ rs) (t ∷ ts)) (λ y. Ok (node w y.0, y.1)) x e in
    let b = bind_ok (ask s (t ∷ ts)) (λ y. through rs y.1 >>= λ z. Ok (pair y.0 z.0, z.1)) a.0 a.1 in
    let c = bind_ok (through rs b.0.1) (λ z. Ok (pair b.0.0 z.0, z.1)) a.0 b.2 in
    let l = kept_tail (value s t) t ts b.0 b.1 in
    let m = through_short rs h b.0.1 c.0 c.1 in
    let n = same_rest (pair b.0.0 c.0.0) c.0.1 a.0 c.2 in
    let o = same_rest (node w a.0.0) a.0.1 x a.2 in
    rw (o, n) (omega arith)
