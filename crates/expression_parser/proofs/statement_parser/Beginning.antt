-- What does not begin with `begin` is no compound statement.
use Rattle.std.proofs.Common.{◌≡◌, ℕ, true, false, List, [], ◌∷◌, ◌++◌, length, Option, Some, None, Err, refl, sym, ap, subst, ◌∙◌}
use Rattle.pascal_grammar.specs.declared.kind.Kind.{Kind}
use Rattle.pascal_grammar.specs.declared.kind.Kind.TheVariants as k
use Rattle.pascal_grammar.specs.declared.lexeme.Lexeme.{Lexeme}
use Rattle.pascal_grammar.specs.Asked.{same}
use Rattle.pascal_grammar.specs.Asked as q
use Rattle.pascal_grammar.specs.Choices.{choose}
use Rattle.pascal_grammar.specs.Lexemes.{kind_of}
use Rattle.pascal_grammar.specs.Parts as n
use Rattle.pascal_grammar.specs.Productions.{Production}
use Rattle.pascal_grammar.specs.Productions as p
use Rattle.pascal_grammar.specs.Rules.{grammar}
use Rattle.pascal_grammar.proofs.Reading.{Reads}
use Rattle.pascal_grammar.proofs.Somes.{some}
use Rattle.pascal_grammar.proofs.Tables.{Follow, accepted, predict}
use Rattle.ll1_grammar.specs.Grammar.{nil, pair, leaf, node, part, head, front, Fit, Fits}
use Rattle.ll1_grammar.specs.Readers.{Syntax}
use Rattle.ll1_grammar.proofs.Meeting.{one, wrong}
use Rattle.syntax_tree.specs.Expressions.{Parsed}
use Rattle.expression_parser.specs.Reading.{begins}

other_kind : (y z : Kind) → same y k.Begin ≡ false → same z k.Begin ≡ true → Some z ≡ Some y → ⊥
other_kind y z a b e =
    let i : z ≡ y = cc in
    let c : same y k.Begin ≡ true = ap (λ (x : Kind). same x k.Begin) (sym i) ∙ b in
    absurd cc

other_front : (ts : List Lexeme) (z : Lexeme) → begins k.Begin ts ≡ false → same (kind_of z) k.Begin ≡ true → Some (kind_of z) ≡ head grammar ts → ⊥
other_front [] z a b e = absurd cc
other_front (x ∷ ts) z a b e = other_kind (kind_of x) (kind_of z) a b e

-- the first lexeme of a compound statement
first_is : (t : Parsed) (l r : List Lexeme) → Fits grammar (grammar.body p.compound) t l (head grammar r) → (z : Lexeme) × (same (kind_of z) k.Begin ≡ true) × (head grammar (l ++ r) ≡ Some (kind_of z))
first_is nil l r sp = absurd sp
first_is (leaf v) l r sp = absurd sp
first_is (node x t) l r sp = absurd sp
first_is (pair nil u) l r sp = absurd sp.first
first_is (pair (pair a b) u) l r sp = absurd sp.first
first_is (pair (node x a) u) l r sp = absurd sp.first
first_is (pair (leaf v) u) l r sp =
    let o = sp.first in
    let e : l ≡ o.lexeme ∷ sp.right = sp.joined ∙ ap (λ (m : List Lexeme). m ++ sp.right) o.alone in
    (o.lexeme, accepted.kind (q.mark k.Begin) o.lexeme v o.keeps, ap (λ (m : List Lexeme). head grammar (m ++ r)) e)

chosen : (h : Option Kind) → choose n.compound h ≡ Some p.compound
chosen None = refl
chosen (Some x) = refl

never : (ts : List Lexeme) → begins k.Begin ts ≡ false → (u : Parsed) (l r : List Lexeme) → Fit grammar (part n.compound) u l (head grammar r) → Follow n.compound (head grammar r) → head grammar (l ++ r) ≡ head grammar ts → ⊥
never ts b nil l r sp w h = sp
never ts b (pair t u) l r sp w h = sp
never ts b (leaf v) l r sp w h = sp
never ts b (node x t) l r sp w h =
    let c : choose n.compound (front grammar l (head grammar r)) ≡ Some x = predict n.compound x t l (head grammar r) sp w in
    let d = chosen (front grammar l (head grammar r)) in
    let is : x ≡ p.compound = cc in
    let f = first_is t l r (subst (λ (y : Production). Fits grammar (grammar.body y) t l (head grammar r)) is sp.2) in
    other_front ts f.0 b f.1 (sym f.2 ∙ h)

pub not_begun : (d : ℕ) (ts : List Lexeme) → begins k.Begin ts ≡ false → Reads n.compound d ts (Err (Syntax (length ts)))
not_begun d ts b = wrong grammar Follow (one grammar Follow (part n.compound)) d ts (some n.compound) (λ u l r sp w h. never ts b u l r sp w h)
