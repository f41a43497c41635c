-- What a reader leaves is no longer than what it was given.
use Rattle.std.proofs.Common.{◌≡◌, ℕ, zero, suc, ◌≤◌, List, [], ◌∷◌, length, Option, Some, None, Result, Ok, Err, IfOk, refl, sym, ap, subst, arith}
use Rattle.pascal_grammar.specs.declared.kind.Kind.TheVariants as k
use Rattle.pascal_grammar.specs.declared.lexeme.Lexeme.{Lexeme}
use Rattle.pascal_grammar.specs.Asked.{Asked}
use Rattle.pascal_grammar.specs.Asked as q
use Rattle.pascal_grammar.specs.Lexemes.{Kept, value}
use Rattle.pascal_grammar.specs.Parts.{Part}
use Rattle.pascal_grammar.specs.Parts as n
use Rattle.pascal_grammar.specs.Productions.{Production}
use Rattle.pascal_grammar.specs.Productions as p
use Rattle.pascal_grammar.proofs.Reading as g
use Rattle.ll1_grammar.specs.Readers.{Fault, ◌>>=◌, through, made, kept_by}
use Rattle.syntax_tree.specs.Expressions.{Parsed}
use Rattle.expression_parser.specs.declared.error.ReadError.{ReadError}
use Rattle.expression_parser.specs.Gives.{Gives, Reads, ask, name_at}
use Rattle.expression_parser.specs.Reading.{inside, selectors_at, named_at, element_at, argument_at, more_arguments_at, arguments_at}
use Rattle.expression_parser.proofs.Sound.{inside_reads, selectors_reads, element_reads, argument_reads, more_arguments_reads}
use Rattle.expression_parser.proofs.Exact.{no_longer}

abbrev pub IsShort : {A : Type 0} → (List Lexeme → Result (A × List Lexeme) (Fault Production)) → Type 0
IsShort {A} read = (ts : List Lexeme) (x : A × List Lexeme) → read ts ≡ Ok x → length x.1 ≤ length ts

abbrev AllShort : List Reads → Type 0
AllShort [] = Unit {0}
AllShort (r ∷ rs) = IsShort r × AllShort rs

bind_ok : {A B : Type 0} (r : Result A (Fault Production)) (f : A → Result B (Fault Production)) (y : B) → (r >>= f) ≡ Ok y → (x : A) × (r ≡ Ok x) × (f x ≡ Ok y)
bind_ok (Ok x) f y e = (x, refl, e)
bind_ok (Err z) f y e = absurd cc

abbrev the_answer : {A : Type 0} → A × List Lexeme → Result (A × List Lexeme) (Fault Production)
the_answer x = Ok x

same_rest : {A : Type 0} (a : A) (l : List Lexeme) (x : A × List Lexeme) (ts : List Lexeme) → the_answer (a, l) ≡ Ok x → length l ≤ length ts → length x.1 ≤ length ts
same_rest a l x ts e h = let s : (a, l) ≡ x = cc in subst (λ (y : _). length y.1 ≤ length ts) s h

kept_rest : (o : Option Kept) (x : Lexeme) (l : List Lexeme) (y : Parsed × List Lexeme) → kept_by {P = Production} o x l ≡ Ok y → length y.1 ≤ length l
kept_rest None x l y e = absurd cc
kept_rest (Some v) x l y e = same_rest _ l y l e (omega arith)

asked_short : (s : Asked) → IsShort (ask s)
asked_short s [] x e = absurd cc
asked_short s (t ∷ ts) x e = let k = kept_rest (value s t) t ts x e in omega arith

through_short : (rs : List Reads) → AllShort rs → IsShort (through rs)
through_short [] h ts x e = same_rest _ ts x ts e (omega arith)
through_short (r ∷ rs) h ts x e =
    let a = bind_ok (r ts) (λ y. through rs y.1 >>= λ z. Ok (_, z.1)) x e in
    let b = bind_ok (through rs a.0.1) (λ z. Ok (_, z.1)) x a.2 in
    let first = h.0 ts a.0 a.1 in
    let others = through_short rs h.1 a.0.1 b.0 b.1 in
    same_rest _ b.0.1 x ts b.2 (omega arith)

made_short : (w : Production) (rs : List Reads) → AllShort rs → IsShort (made w rs)
made_short w rs h ts x e =
    let a = bind_ok (through rs ts) (λ y. Ok (_, y.1)) x e in
    same_rest _ a.0.1 x ts a.2 (through_short rs h ts a.0 a.1)

pub element_short : (d : ℕ) → IsShort (element_at (inside d))
element_short d ts x e = no_longer n.element d ts x (subst (λ (z : _). g.Reads n.element d ts z) e (element_reads d (inside d) (inside_reads d) ts))

pub argument_short : (d : ℕ) → IsShort (argument_at (inside d))
argument_short d ts x e = no_longer n.argument d ts x (subst (λ (z : _). g.Reads n.argument d ts z) e (argument_reads d (inside d) (inside_reads d) ts))

more_arguments_short : (d : ℕ) → IsShort (more_arguments_at (inside d))
more_arguments_short d ts x e = no_longer n.more_arguments d ts x (subst (λ (z : _). g.Reads n.more_arguments d ts z) e (more_arguments_reads d (inside d) (inside_reads d) ts))

pub arguments_short : (d : ℕ) → IsShort (arguments_at (inside d))
unfolding arguments_at inside
arguments_short zero ts x e = absurd cc
arguments_short (suc d) ts x e = made_short p.arguments (ask (q.word k.Open) ∷ argument_at (inside d) ∷ more_arguments_at (inside d) ∷ ask (q.word k.Close) ∷ []) (asked_short (q.word k.Open), (argument_short d, (more_arguments_short d, (asked_short (q.word k.Close), tt)))) ts x e

selectors_short : (d : ℕ) → IsShort (selectors_at (inside d))
selectors_short d ts x e = no_longer n.selectors d ts x (subst (λ (z : _). g.Reads n.selectors d ts z) e (selectors_reads d (inside d) (inside_reads d) ts))

pub named_short : (d : ℕ) → IsShort (named_at (inside d))
unfolding named_at
named_short d ts x e =
    let a = bind_ok (name_at ts) (λ i. selectors_at (inside d) i.1 >>= λ s. Ok ((i.0, s.0), s.1)) x e in
    let b = bind_ok (selectors_at (inside d) a.0.1) (λ s. Ok ((a.0.0, s.0), s.1)) x a.2 in
    let first = asked_short q.name ts a.0 a.1 in
    let others = selectors_short d a.0.1 b.0 b.1 in
    same_rest _ b.0.1 x ts b.2 (omega arith)

-- what a function leaves that gives what such a reader gives
pub left_shorter : {A X : Type 0} (view : X → A × List Lexeme) (r : Result X ReadError) (read : List Lexeme → Result (A × List Lexeme) (Fault Production)) (ts : List Lexeme) → IsShort read → Gives view r (read ts) → IfOk r (λ x. length (view x).1 ≤ length ts)
left_shorter view (Ok x) read ts h g = h ts (view x) g
left_shorter view (Err e) read ts h g = tt
