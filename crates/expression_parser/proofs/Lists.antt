-- One step of each loop over a list behind commas, and the arguments between parentheses.
use Rattle.std.proofs.Common.{◌≡◌, ℕ, suc, true, List, [], ◌∷◌, ◌++◌, Result, Ok, Err, refl, sym, subst, ◌∙◌}
use Rattle.pascal_grammar.specs.declared.kind.Kind.{Kind}
use Rattle.pascal_grammar.specs.declared.kind.Kind.TheVariants as k
use Rattle.pascal_grammar.specs.declared.lexeme.Lexeme.{Lexeme}
use Rattle.pascal_grammar.specs.Asked as q
use Rattle.pascal_grammar.specs.Productions.{Production}
use Rattle.pascal_grammar.specs.Productions as p
use Rattle.ll1_grammar.specs.Readers.{Fault, ◌>>=◌}
use Rattle.syntax_tree.specs.declared.expression.Element.{Element}
use Rattle.syntax_tree.specs.declared.expression.Argument.{Argument}
use Rattle.syntax_tree.specs.Expressions.{Parsed, of, word, of_element, of_argument}
use Rattle.expression_parser.specs.declared.error.ReadError.{ReadError}
use Rattle.expression_parser.specs.Gives.{Fails, Reads, ask}
use Rattle.expression_parser.specs.Reading.{begins, tail_of, list_from, inside, element_at, elements_at, argument_at, more_arguments_at, argument_list_at, arguments_at}
use Rattle.expression_parser.specs.Views.{elements_of, argument_list}
use Rattle.expression_parser.proofs.Commas.{ElementsGo, ArgumentsGo}
use Rattle.expression_parser.proofs.Fronts.{End, Outcome, alone, behind, made_of, same_front, fails_bind}
use Rattle.expression_parser.proofs.Loop.{Goes, next}
use Rattle.expression_parser.proofs.Rows.{elements_pushed, arguments_pushed}
use Rattle.expression_parser.proofs.Shorter.{element_short, argument_short}

-- the same by another front that does the same
refront : {C : Type 0} (sep : Kind) (none after : Production) (item : Reads) (f g : Parsed → C) (rest : List Lexeme) (total : Result (C × List Lexeme) (Fault Production)) → ((z : Parsed) → f z ≡ g z) → Goes sep none after item g rest total → Goes sep none after item f rest total
refront sep none after item f g rest total h x = record { count = x.count; enough = x.enough; is = same_front f g h (list_from sep none after item x.count rest) ∙ x.is }

-- ---- the elements of a set constructor

pub elements_next : (d : ℕ) (ts rest past : List Lexeme) (all more : List Element) (first : Element) (others : List Element) (x : Element) → begins k.Comma rest ≡ true → element_at (inside d) (tail_of rest) ≡ Ok (of_element x, past) → all ≡ first ∷ others → more ≡ all ++ (x ∷ []) → ElementsGo d all rest ts → ElementsGo d more past ts
elements_next d ts rest past all more first others x b e s m g =
    let n = next k.Comma p.no_more_elements p.next_element (element_at (inside d)) (λ (z : Parsed). elements_of all z) rest (of_element x, past) (elements_at (inside d) ts) b e (element_short d (tail_of rest) (of_element x, past) e) g in
    let pushed : (z : Parsed) → elements_of more z ≡ elements_of all (of p.next_element (word ∷ of_element x ∷ z ∷ [])) = λ z. rw (m, s) (elements_pushed first others x z) in
    refront k.Comma p.no_more_elements p.next_element (element_at (inside d)) (λ (z : Parsed). elements_of more z) (λ (z : Parsed). elements_of all (of p.next_element (word ∷ of_element x ∷ z ∷ []))) past (elements_at (inside d) ts) pushed n

-- ---- the arguments of a call

pub arguments_next : (d : ℕ) (ts rest past : List Lexeme) (all more : List Argument) (first : Argument) (others : List Argument) (x : Argument) → begins k.Comma rest ≡ true → argument_at (inside d) (tail_of rest) ≡ Ok (of_argument x, past) → all ≡ first ∷ others → more ≡ all ++ (x ∷ []) → ArgumentsGo d all rest ts → ArgumentsGo d more past ts
arguments_next d ts rest past all more first others x b e s m g =
    let n = next k.Comma p.no_more_arguments p.next_argument (argument_at (inside d)) (λ (z : Parsed). argument_list all z) rest (of_argument x, past) (argument_list_at (inside d) ts) b e (argument_short d (tail_of rest) (of_argument x, past) e) g in
    let pushed : (z : Parsed) → argument_list more z ≡ argument_list all (of p.next_argument (word ∷ of_argument x ∷ z ∷ [])) = λ z. rw (m, s) (arguments_pushed first others x z) in
    refront k.Comma p.no_more_arguments p.next_argument (argument_at (inside d)) (λ (z : Parsed). argument_list more z) (λ (z : Parsed). argument_list all (of p.next_argument (word ∷ of_argument x ∷ z ∷ []))) past (argument_list_at (inside d) ts) pushed n

-- ---- the arguments between parentheses

abbrev both : Parsed → End → Result ((Parsed × Parsed) × List Lexeme) (Fault Production)
both x u = Ok ((x, u.0), u.1)

abbrev ended : Parsed → Parsed → End → Outcome
ended x y u = Ok (of p.arguments (word ∷ x ∷ y ∷ u.0 ∷ []), u.1)

abbrev closes : (Parsed × Parsed) × List Lexeme → Outcome
closes l = ask (q.word k.Close) l.1 >>= ended l.0.0 l.0.1

close_by : (x y : Parsed) (r : Outcome) → ((((r >>= alone) >>= behind y) >>= behind x) >>= behind word) >>= made_of p.arguments ≡ (r >>= ended x y)
close_by x y (Ok u) = refl
close_by x y (Err e) = refl

others_by : (x : Parsed) (r : Outcome) → (((r >>= λ y. (ask (q.word k.Close) y.1 >>= alone) >>= behind y.0) >>= behind x) >>= behind word) >>= made_of p.arguments ≡ ((r >>= both x) >>= closes)
others_by x (Ok y) = close_by x y.0 (ask (q.word k.Close) y.1)
others_by x (Err e) = refl

items_by : (d : ℕ) (r : Outcome) → ((r >>= λ x. (more_arguments_at (inside d) x.1 >>= λ y. (ask (q.word k.Close) y.1 >>= alone) >>= behind y.0) >>= behind x.0) >>= behind word) >>= made_of p.arguments
    ≡ ((r >>= λ x. more_arguments_at (inside d) x.1 >>= both x.0) >>= closes)
items_by d (Ok x) = others_by x.0 (more_arguments_at (inside d) x.1)
items_by d (Err e) = refl

arguments_read : (d e : ℕ) (ts us : List Lexeme) → e ≡ suc d → ask (q.word k.Open) ts ≡ Ok (word, us) → arguments_at (inside e) ts ≡ (argument_list_at (inside d) us >>= closes)
unfolding arguments_at argument_list_at inside
arguments_read d e ts us l a = rw (l, a) (items_by d (argument_at (inside d) us))

pub arguments_stop : (r : ReadError) (d e : ℕ) (ts us : List Lexeme) → e ≡ suc d → ask (q.word k.Open) ts ≡ Ok (word, us) → Fails r (argument_list_at (inside d) us) → Fails r (arguments_at (inside e) ts)
arguments_stop r d e ts us l a h = subst (λ (z : Outcome). Fails r z) (sym (arguments_read d e ts us l a)) (fails_bind r (argument_list_at (inside d) us) closes h)

pub arguments_unclosed : (r : ReadError) (d e : ℕ) (ts us vs : List Lexeme) (x : Parsed × Parsed) → e ≡ suc d → ask (q.word k.Open) ts ≡ Ok (word, us) → argument_list_at (inside d) us ≡ Ok (x, vs) → Fails r (ask (q.word k.Close) vs) → Fails r (arguments_at (inside e) ts)
arguments_unclosed r d e ts us vs x l a b h =
    let ends : Fails r (closes (x, vs)) = fails_bind r (ask (q.word k.Close) vs) (ended x.0 x.1) h in
    let listed : (argument_list_at (inside d) us >>= closes) ≡ closes (x, vs) = rw b refl in
    subst (λ (z : Outcome). Fails r z) (sym (arguments_read d e ts us l a ∙ listed)) ends

pub arguments_end : (d e : ℕ) (ts us vs ws : List Lexeme) (x : Parsed × Parsed) → e ≡ suc d → ask (q.word k.Open) ts ≡ Ok (word, us) → argument_list_at (inside d) us ≡ Ok (x, vs) → ask (q.word k.Close) vs ≡ Ok (word, ws) → arguments_at (inside e) ts ≡ Ok (of p.arguments (word ∷ x.0 ∷ x.1 ∷ word ∷ []), ws)
arguments_end d e ts us vs ws x l a b c =
    let listed : (argument_list_at (inside d) us >>= closes) ≡ closes (x, vs) = rw b refl in
    let ends : closes (x, vs) ≡ Ok (of p.arguments (word ∷ x.0 ∷ x.1 ∷ word ∷ []), ws) = rw c refl in
    arguments_read d e ts us l a ∙ listed ∙ ends
