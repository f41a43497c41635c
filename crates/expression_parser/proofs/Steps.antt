-- The first step of each chain to the left, and one step of the loop over indexes.
use Rattle.std.proofs.Common.{◌≡◌, ℕ, suc, true, false, List, [], ◌∷◌, Option, Some, None, Result, Ok, refl, sym, ap, ◌∙◌}
use Rattle.pascal_grammar.specs.declared.kind.Kind.TheVariants as k
use Rattle.pascal_grammar.specs.declared.lexeme.Position.{Position}
use Rattle.pascal_grammar.specs.declared.lexeme.Lexeme.{Lexeme}
use Rattle.pascal_grammar.specs.Asked as q
use Rattle.pascal_grammar.specs.Productions.{Production}
use Rattle.pascal_grammar.specs.Productions as p
use Rattle.ll1_grammar.specs.Readers.{Fault}
use Rattle.syntax_tree.specs.declared.expression.PlacedSign.{PlacedSign}
use Rattle.syntax_tree.specs.Expressions.{Parsed, of, word, mark_at, selector}
use Rattle.expression_parser.specs.Gives.{ask, name_at}
use Rattle.expression_parser.specs.Reading.{begins, tail_of, sign_found, behind_sign, inside, expression_at, term_at, terms_at, simple_by, simple_at, field_at, index_at, dereference_at, selectors_at, more_indexes_by, more_indexes_at}
use Rattle.expression_parser.specs.Views.{with_front, leading_of}
use Rattle.expression_parser.proofs.Fronts.{same_front, second, third, wrapped_second, wrapped_third}
use Rattle.expression_parser.proofs.Shapes.{first_read}

-- ---- terms

-- the first, with its sign
pub simple_first : (g : Parsed → Parsed) (d : ℕ) (ts us vs : List Lexeme) (s : Option PlacedSign) (t : Parsed) → s ≡ sign_found ts → us ≡ behind_sign s ts → term_at (inside d) us ≡ Ok (t, vs) → ((z : Parsed) → g z ≡ leading_of s t z) → with_front g (terms_at (inside d) vs) ≡ simple_at (inside d) ts
unfolding simple_by
simple_first g d ts us vs None t f b a h =
    let read : term_at (inside d) ts ≡ Ok (t, vs) = rw b at a in
    let whole : with_front (leading_of None t) (terms_at (inside d) vs) ≡ simple_at (inside d) ts = rw (← f) (first_read p.unsigned (term_at (inside d)) (terms_at (inside d)) t ts vs read) in
    same_front g (leading_of None t) h (terms_at (inside d) vs) ∙ whole
simple_first g d ts us vs (Some s) t f b a h =
    let read : term_at (inside d) (tail_of ts) ≡ Ok (t, vs) = rw b at a in
    let whole : with_front (leading_of (Some s) t) (terms_at (inside d) vs) ≡ simple_at (inside d) ts = rw (← f, read) refl in
    same_front g (leading_of (Some s) t) h (terms_at (inside d) vs) ∙ whole

-- ---- selectors

pub field_next : {C : Type 0} (f g : Parsed → C) (d e : ℕ) (ts us vs : List Lexeme) (here : Position) (x : Parsed) → e ≡ suc d → ask (q.mark k.Dot) ts ≡ Ok (mark_at here, us) → name_at us ≡ Ok (x, vs) → ((z : Parsed) → g z ≡ f (selector p.field (mark_at here ∷ x ∷ z ∷ [])))
    → with_front g (selectors_at (inside d) vs) ≡ with_front f (field_at (inside e) ts)
unfolding field_at inside
field_next f g d e ts us vs here x l a b h =
    let step : with_front f (field_at (inside (suc d)) ts) ≡ with_front (λ z. f (selector p.field (mark_at here ∷ x ∷ z ∷ []))) (selectors_at (inside d) vs) = rw (a, b) (wrapped_third f p.more_selectors p.field (mark_at here) x (selectors_at (inside d) vs)) in
    same_front g (λ z. f (selector p.field (mark_at here ∷ x ∷ z ∷ []))) h (selectors_at (inside d) vs) ∙ sym step ∙ ap (λ (n : ℕ). with_front f (field_at (inside n) ts)) (sym l)

pub target_next : {C : Type 0} (f g : Parsed → C) (d e : ℕ) (ts us : List Lexeme) (here : Position) → e ≡ suc d → ask (q.mark k.Caret) ts ≡ Ok (mark_at here, us) → ((z : Parsed) → g z ≡ f (selector p.dereference (mark_at here ∷ z ∷ [])))
    → with_front g (selectors_at (inside d) us) ≡ with_front f (dereference_at (inside e) ts)
unfolding dereference_at inside
target_next f g d e ts us here l a h =
    let step : with_front f (dereference_at (inside (suc d)) ts) ≡ with_front (λ z. f (selector p.dereference (mark_at here ∷ z ∷ []))) (selectors_at (inside d) us) = rw a (wrapped_second f p.more_selectors p.dereference (mark_at here) (selectors_at (inside d) us)) in
    same_front g (λ z. f (selector p.dereference (mark_at here ∷ z ∷ []))) h (selectors_at (inside d) us) ∙ sym step ∙ ap (λ (n : ℕ). with_front f (dereference_at (inside n) ts)) (sym l)

-- ---- indexes

pub index_first : {C : Type 0} (f g : Parsed → C) (d e : ℕ) (ts us vs : List Lexeme) (here : Position) (x : Parsed) → e ≡ suc d → ask (q.mark k.OpenBracket) ts ≡ Ok (mark_at here, us) → expression_at (inside d) us ≡ Ok (x, vs)
    → ((z : Parsed) → g z ≡ f (selector p.index (mark_at here ∷ x ∷ z ∷ []))) → with_front g (more_indexes_at (inside d) vs) ≡ with_front f (index_at (inside e) ts)
unfolding index_at inside
index_first f g d e ts us vs here x l a b h =
    let step : with_front f (index_at (inside (suc d)) ts) ≡ with_front (λ z. f (selector p.index (mark_at here ∷ x ∷ z ∷ []))) (more_indexes_at (inside d) vs) = rw (a, b) (wrapped_third f p.more_selectors p.index (mark_at here) x (more_indexes_at (inside d) vs)) in
    same_front g (λ z. f (selector p.index (mark_at here ∷ x ∷ z ∷ []))) h (more_indexes_at (inside d) vs) ∙ sym step ∙ ap (λ (n : ℕ). with_front f (index_at (inside n) ts)) (sym l)

pub index_next : {C : Type 0} (f g : Parsed → C) (total : Result (C × List Lexeme) (Fault Production)) (d e : ℕ) (ts us vs : List Lexeme) (here : Position) (x : Parsed)
    → with_front f (more_indexes_at (inside e) ts) ≡ total → e ≡ suc d → begins k.Comma ts ≡ true → ask (q.mark k.Comma) ts ≡ Ok (mark_at here, us) → expression_at (inside d) us ≡ Ok (x, vs) → ((z : Parsed) → g z ≡ f (of p.next_index (mark_at here ∷ x ∷ z ∷ [])))
    → with_front g (more_indexes_at (inside d) vs) ≡ total
unfolding more_indexes_by inside
index_next f g total d e ts us vs here x i l a b c h =
    let step : with_front f (more_indexes_at (inside (suc d)) ts) ≡ with_front (λ z. f (of p.next_index (mark_at here ∷ x ∷ z ∷ []))) (more_indexes_at (inside d) vs) = rw (a, b, c) (third f p.next_index (mark_at here) x (more_indexes_at (inside d) vs)) in
    same_front g (λ z. f (of p.next_index (mark_at here ∷ x ∷ z ∷ []))) h (more_indexes_at (inside d) vs) ∙ sym step ∙ ap (λ (n : ℕ). with_front f (more_indexes_at (inside n) ts)) (sym l) ∙ i

pub index_end : {C : Type 0} (f g : Parsed → C) (total : Result (C × List Lexeme) (Fault Production)) (e : ℕ) (ts us : List Lexeme) → with_front f (more_indexes_at (inside e) ts) ≡ total → begins k.Comma ts ≡ false → ask (q.word k.CloseBracket) ts ≡ Ok (word, us) → ((z : Parsed) → f (of p.last_index (word ∷ z ∷ [])) ≡ g z)
    → with_front g (selectors_at (inside e) us) ≡ total
unfolding more_indexes_by
index_end f g total e ts us i a b h =
    let step : with_front f (more_indexes_at (inside e) ts) ≡ with_front (λ z. f (of p.last_index (word ∷ z ∷ []))) (selectors_at (inside e) us) = rw (a, b) (second f p.last_index word (selectors_at (inside e) us)) in
    sym (same_front (λ z. f (of p.last_index (word ∷ z ∷ []))) g h (selectors_at (inside e) us)) ∙ sym step ∙ i
