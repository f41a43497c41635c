-- The loops over labels, statements and arms: how each begins, and one step of it.
use Rattle.std.proofs.Common.{◌≡◌, ℕ, true, List, [], ◌∷◌, ◌++◌, Result, Ok, Err, refl, sym, ap, subst, ◌∙◌, arith}
use Rattle.pascal_grammar.specs.declared.kind.Kind.TheVariants as k
use Rattle.pascal_grammar.specs.declared.lexeme.Lexeme.{Lexeme}
use Rattle.pascal_grammar.specs.Parts as n
use Rattle.pascal_grammar.specs.Productions.{Production}
use Rattle.pascal_grammar.specs.Productions as p
use Rattle.ll1_grammar.specs.Readers.{Fault}
use Rattle.syntax_tree.specs.declared.statement.Statement.{Statement}
use Rattle.syntax_tree.specs.declared.statement.CaseArm.{CaseArm}
use Rattle.syntax_tree.specs.declared.statement.CaseLabel.{CaseLabel}
use Rattle.syntax_tree.specs.Expressions.{Parsed, of, word}
use Rattle.syntax_tree.specs.Statements.{of_statement, of_arm, of_label, statements_of, first_of, others_of, first_label, other_labels}
use Rattle.expression_parser.specs.Reading.{begins, tail_of}
use Rattle.expression_parser.proofs.Shapes.{first_read}
use Rattle.expression_parser.specs.statement_parser.Chains.{Chain, chain_from, chain_at}
use Rattle.expression_parser.specs.statement_parser.Reading.{label_at, labels, within, statement_at, more_statements, statements_at, arm_at, arm_follows, more_arms}
use Rattle.expression_parser.proofs.statement_parser.Loop.{with_front, with_same, Goes, starts, next, falls_read, falls_arm_read}
use Rattle.expression_parser.proofs.statement_parser.Rows.{other_labels_pushed, statements_pushed, others_pushed}
use Rattle.expression_parser.proofs.statement_parser.Sound.{label_reads, whole_statement_reads, whole_arm_reads}

abbrev Outcome : Type 0
Outcome = Result (Parsed × List Lexeme) (Fault Production)

same_front : (f g : Parsed → Parsed) → ((z : Parsed) → f z ≡ g z) → (r : Outcome) → with_front f r ≡ with_front g r
same_front f g h (Ok x) = ap (λ (y : Parsed). Ok (y, x.1)) (h x.0)
same_front f g h (Err e) = refl

-- the same by another front that does the same
refront : (c : Chain Parsed) (f g : Parsed → Parsed) (rest : List Lexeme) (total : Outcome) → ((z : Parsed) → f z ≡ g z) → Goes c g rest total → Goes c f rest total
refront c f g rest total h x = record { count = x.count; enough = x.enough; is = same_front f g h (chain_from c x.count rest) ∙ x.is }

-- ---- labels

-- behind the first label
pub labels_start : (d : ℕ) (all : List CaseLabel) (x : CaseLabel) (rest : List Lexeme) → all ≡ x ∷ [] → Goes (labels d) (λ (z : Parsed). other_labels all z) rest (chain_at (labels d) rest)
labels_start d all x rest s =
    subst (λ (l : List CaseLabel). Goes (labels d) (λ (z : Parsed). other_labels l z) rest (chain_at (labels d) rest)) (sym s)
    (starts (labels d) refl (λ (z : Parsed). z) rest (chain_at (labels d) rest) (with_same (chain_at (labels d) rest)))

pub labels_next : (d : ℕ) (rest past : List Lexeme) (total : Outcome) (all more : List CaseLabel) (y : CaseLabel) (others : List CaseLabel) (x : CaseLabel) → begins k.Comma rest ≡ true → label_at d (tail_of rest) ≡ Ok (of_label x, past) → all ≡ y ∷ others → more ≡ all ++ (x ∷ []) → Goes (labels d) (λ (z : Parsed). other_labels all z) rest total → Goes (labels d) (λ (z : Parsed). other_labels more z) past total
labels_next d rest past total all more y others x b e s m g =
    let f = falls_read n.label d (label_at d) (label_reads d) k.Comma rest (of_label x, past) b e in
    let go = next (labels d) refl (λ (z : Parsed). other_labels all z) rest (of_label x, past) total b e f g in
    let pushed : (z : Parsed) → other_labels more z ≡ other_labels all (of p.next_label (word ∷ of_label x ∷ z ∷ [])) = λ z. rw (m, s) (other_labels_pushed (y ∷ others) x z (omega arith)) in
    refront (labels d) (λ (z : Parsed). other_labels more z) (λ (z : Parsed). other_labels all (of p.next_label (word ∷ of_label x ∷ z ∷ []))) past total pushed go

pub labels_first : (all more : List CaseLabel) (y : CaseLabel) (others : List CaseLabel) (x : CaseLabel) (r : Parsed) → all ≡ y ∷ others → more ≡ all ++ (x ∷ []) → first_label all ≡ r → first_label more ≡ r
labels_first all more y others x r s m f =
    let g : of_label y ≡ r = rw s at f in
    rw (m, s) g

-- ---- statements

-- behind the first statement
pub statements_start : (d : ℕ) (all : List Statement) (x : Statement) (ts rest : List Lexeme) → statement_at d (within d) ts ≡ Ok (of_statement x, rest) → all ≡ x ∷ [] → Goes (more_statements d (within d)) (λ (z : Parsed). statements_of all z) rest (statements_at d (within d) ts)
unfolding statements_at
statements_start d all x ts rest e s =
    subst (λ (l : List Statement). Goes (more_statements d (within d)) (λ (z : Parsed). statements_of l z) rest (statements_at d (within d) ts)) (sym s)
    (starts (more_statements d (within d)) refl (λ (z : Parsed). statements_of (x ∷ []) z) rest (statements_at d (within d) ts) (first_read p.statements (statement_at d (within d)) (chain_at (more_statements d (within d))) (of_statement x) ts rest e))

pub statements_next : (d : ℕ) (rest past : List Lexeme) (total : Outcome) (all more : List Statement) (y : Statement) (others : List Statement) (x : Statement) → begins k.Semicolon rest ≡ true → statement_at d (within d) (tail_of rest) ≡ Ok (of_statement x, past) → all ≡ y ∷ others → more ≡ all ++ (x ∷ []) → Goes (more_statements d (within d)) (λ (z : Parsed). statements_of all z) rest total → Goes (more_statements d (within d)) (λ (z : Parsed). statements_of more z) past total
statements_next d rest past total all more y others x b e s m g =
    let f = falls_read n.statement d (statement_at d (within d)) (whole_statement_reads d) k.Semicolon rest (of_statement x, past) b e in
    let go = next (more_statements d (within d)) refl (λ (z : Parsed). statements_of all z) rest (of_statement x, past) total b e f g in
    let pushed : (z : Parsed) → statements_of more z ≡ statements_of all (of p.next_statement (word ∷ of_statement x ∷ z ∷ [])) = λ z. rw (m, s) (statements_pushed (y ∷ others) x z (omega arith)) in
    refront (more_statements d (within d)) (λ (z : Parsed). statements_of more z) (λ (z : Parsed). statements_of all (of p.next_statement (word ∷ of_statement x ∷ z ∷ []))) past total pushed go

-- ---- arms

-- behind the first arm
pub arms_start : (d : ℕ) (all : List CaseArm) (x : CaseArm) (rest : List Lexeme) → all ≡ x ∷ [] → Goes (more_arms d (within d)) (λ (z : Parsed). others_of all z) rest (chain_at (more_arms d (within d)) rest)
arms_start d all x rest s =
    subst (λ (l : List CaseArm). Goes (more_arms d (within d)) (λ (z : Parsed). others_of l z) rest (chain_at (more_arms d (within d)) rest)) (sym s)
    (starts (more_arms d (within d)) refl (λ (z : Parsed). z) rest (chain_at (more_arms d (within d)) rest) (with_same (chain_at (more_arms d (within d)) rest)))

pub arms_next : (d : ℕ) (rest past : List Lexeme) (total : Outcome) (all more : List CaseArm) (y : CaseArm) (others : List CaseArm) (x : CaseArm) → arm_follows rest ≡ true → arm_at d (within d) (tail_of rest) ≡ Ok (of_arm x, past) → all ≡ y ∷ others → more ≡ all ++ (x ∷ []) → Goes (more_arms d (within d)) (λ (z : Parsed). others_of all z) rest total → Goes (more_arms d (within d)) (λ (z : Parsed). others_of more z) past total
arms_next d rest past total all more y others x b e s m g =
    let f = falls_arm_read n.arm d (arm_at d (within d)) (whole_arm_reads d) rest (of_arm x, past) b e in
    let go = next (more_arms d (within d)) refl (λ (z : Parsed). others_of all z) rest (of_arm x, past) total b e f g in
    let pushed : (z : Parsed) → others_of more z ≡ others_of all (of p.semicolon_arms (word ∷ of p.next_arm (of_arm x ∷ z ∷ []) ∷ [])) = λ z. rw (m, s) (others_pushed (y ∷ others) x z (omega arith)) in
    refront (more_arms d (within d)) (λ (z : Parsed). others_of more z) (λ (z : Parsed). others_of all (of p.semicolon_arms (word ∷ of p.next_arm (of_arm x ∷ z ∷ []) ∷ []))) past total pushed go

pub arms_first : (all more : List CaseArm) (y : CaseArm) (others : List CaseArm) (x : CaseArm) (r : Parsed) → all ≡ y ∷ others → more ≡ all ++ (x ∷ []) → first_of all ≡ r → first_of more ≡ r
arms_first all more y others x r s m f =
    let g : of_arm y ≡ r = rw s at f in
    rw (m, s) g
