-- One step of the loops over values and over fields.
use Rattle.std.proofs.Common.{◌≡◌, ℕ, ◌≤◌, ◌<◌, true, List, [], ◌∷◌, ◌++◌, length, Ok, refl, ap, ◌∙◌, arith}
use Rattle.pascal_grammar.specs.declared.kind.Kind.{Kind}
use Rattle.pascal_grammar.specs.declared.kind.Kind.TheVariants as k
use Rattle.pascal_grammar.specs.declared.lexeme.Lexeme.{Lexeme}
use Rattle.pascal_grammar.specs.Productions as p
use Rattle.syntax_tree.specs.Expressions.{Parsed, of, word}
use Rattle.expression_parser.specs.Reading.{begins, tail_of, list_from}
use Rattle.expression_parser.specs.Views.{with_front}
use Rattle.expression_parser.proofs.Fronts.{same_front}
use Rattle.expression_parser.proofs.Loop.{starts}
use Rattle.type_parser.specs.parameter_parser.Chains.{chain_at}
use Rattle.type_parser.proofs.parameter_parser.Listing.{again}
use Rattle.type_parser.proofs.parameter_parser.Loop as chain
use Rattle.syntax_tree.specs.declared.type_tree.initializer.FieldValue.{FieldValue}
use Rattle.syntax_tree.specs.declared.type_tree.initializer.FieldValue.TheVariants as f
use Rattle.syntax_tree.specs.declared.type_tree.initializer.Initializer.{Initializer}
use Rattle.syntax_tree.specs.type_tree.Initializers.{of_initializer, next_initializers, initializer_list, next_field_values, field_list}
use Rattle.type_parser.specs.initializer_parser.Reading.{value_list_at, field_value_at, more_field_values, field_list_at}
use Rattle.type_parser.specs.initializer_parser.Views.{field_of}
use Rattle.type_parser.proofs.initializer_parser.Going.{values, ValuesGo, FieldsGo}

-- ---- values

pushed : (all : List Initializer) (x : Initializer) (z : Parsed) → next_initializers (all ++ (x ∷ [])) z ≡ next_initializers all (of p.next_initializer (word ∷ of_initializer x ∷ z ∷ []))
pushed [] x z = refl
pushed (y ∷ all) x z = ap (λ (w : Parsed). of p.next_initializer (word ∷ of_initializer y ∷ w ∷ [])) (pushed all x z)

values_pushed : (first : Initializer) (others : List Initializer) (x : Initializer) (z : Parsed) → initializer_list ((first ∷ others) ++ (x ∷ [])) z ≡ initializer_list (first ∷ others) (of p.next_initializer (word ∷ of_initializer x ∷ z ∷ []))
values_pushed first others x z = ap (λ (y : Parsed). (of_initializer first, y)) (pushed others x z)

pub values_start : (d : ℕ) (ts rest : List Lexeme) (all : List Initializer) (x : Initializer) → values d ts ≡ Ok (of_initializer x, rest) → all ≡ x ∷ [] → ValuesGo d all rest ts
unfolding value_list_at
values_start d ts rest all x e s =
    let whole : with_front (λ (z : Parsed). (of_initializer x, z)) (list_from k.Comma p.no_initializers p.next_initializer (values d) (length rest) rest) ≡ value_list_at (values d) ts = rw e refl in
    rw s (starts k.Comma p.no_initializers p.next_initializer (values d) (λ (z : Parsed). (of_initializer x, z)) rest (value_list_at (values d) ts) whole)

pub values_next : (d : ℕ) (ts rest past : List Lexeme) (all more : List Initializer) (first : Initializer) (others : List Initializer) (x : Initializer) → begins k.Comma rest ≡ true → values d (tail_of rest) ≡ Ok (of_initializer x, past) → length past ≤ length (tail_of rest) → all ≡ first ∷ others → more ≡ all ++ (x ∷ []) → ValuesGo d all rest ts → ValuesGo d more past ts
values_next d ts rest past all more first others x b e l s m g =
    again k.Comma p.no_initializers p.next_initializer (values d) (λ (z : Parsed). initializer_list all z) (λ (z : Parsed). initializer_list more z) rest past (of_initializer x) (value_list_at (values d) ts) b e l (λ z. rw (m, s) (values_pushed first others x z)) g

-- ---- fields

pub falls : (want : Kind) (rest past : List Lexeme) → begins want rest ≡ true → length past ≤ length (tail_of rest) → length past < length rest
falls want [] past b l = absurd cc
falls want (x ∷ xs) past b l = omega arith

abbrev joined : FieldValue → Parsed → Parsed
joined x z = of p.next_field_value (word ∷ (field_of x).0 ∷ (field_of x).1 ∷ (field_of x).2 ∷ z ∷ [])

next_pushed : (all : List FieldValue) (x : FieldValue) (z : Parsed) → next_field_values (all ++ (x ∷ [])) z ≡ next_field_values all (joined x z)
next_pushed [] (f.Field name v) z = refl
next_pushed (f.Field name v ∷ all) x z = ap (λ (w : Parsed). joined (f.Field name v) w) (next_pushed all x z)

fields_pushed : (first : FieldValue) (others : List FieldValue) (x : FieldValue) (z : Parsed) → field_list ((first ∷ others) ++ (x ∷ [])) z ≡ field_list (first ∷ others) (joined x z)
fields_pushed (f.Field name v) others x z = ap (λ (w : Parsed). (field_of (f.Field name v), w)) (next_pushed others x z)

first_is : (x : FieldValue) (z : Parsed) → field_list (x ∷ []) z ≡ (field_of x, z)
first_is (f.Field name v) z = refl

pub fields_start : (d : ℕ) (ts rest : List Lexeme) (all : List FieldValue) (x : FieldValue) → field_value_at (values d) ts ≡ Ok (field_of x, rest) → all ≡ x ∷ [] → FieldsGo d all rest ts
unfolding field_list_at
fields_start d ts rest all x e s =
    let whole : with_front (λ (z : Parsed). (field_of x, z)) (chain_at (more_field_values (values d)) rest) ≡ field_list_at (values d) ts = rw e refl in
    let same : with_front (λ (z : Parsed). field_list (x ∷ []) z) (chain_at (more_field_values (values d)) rest) ≡ field_list_at (values d) ts = same_front (λ (z : Parsed). field_list (x ∷ []) z) (λ (z : Parsed). (field_of x, z)) (first_is x) (chain_at (more_field_values (values d)) rest) ∙ whole in
    rw s (chain.starts (more_field_values (values d)) refl (λ (z : Parsed). field_list (x ∷ []) z) rest (field_list_at (values d) ts) same)

pub fields_next : (d : ℕ) (ts rest past : List Lexeme) (all more : List FieldValue) (first : FieldValue) (others : List FieldValue) (x : FieldValue) → begins k.Semicolon rest ≡ true → field_value_at (values d) (tail_of rest) ≡ Ok (field_of x, past) → length past ≤ length (tail_of rest) → all ≡ first ∷ others → more ≡ all ++ (x ∷ []) → FieldsGo d all rest ts → FieldsGo d more past ts
fields_next d ts rest past all more first others x b e l s m g =
    chain.next (more_field_values (values d)) refl (λ (z : Parsed). field_list all z) (λ (z : Parsed). field_list more z) rest (field_of x, past) (field_list_at (values d) ts) b e (falls k.Semicolon rest past b l) (λ z. rw (m, s) (fields_pushed first others x z)) g
