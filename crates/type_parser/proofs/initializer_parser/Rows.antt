-- Lists of values inside a first value.
use Rattle.std.proofs.Common.{◌≡◌, List, [], ◌∷◌, refl, ap, ◌∙◌, Vec, Global}
use Rattle.pascal_grammar.specs.declared.lexeme.Position.{Position}
use Rattle.pascal_grammar.specs.Productions as p
use Rattle.syntax_tree.specs.Expressions.{Parsed, of, word, mark_at, name_of}
use Rattle.syntax_tree.specs.declared.type_tree.initializer.FieldValue.{FieldValue}
use Rattle.syntax_tree.specs.declared.type_tree.initializer.FieldValue.TheVariants as f
use Rattle.syntax_tree.specs.declared.type_tree.initializer.Initializer.{Initializer, Row_of-Initializer, end_of-Initializer, more_of-Initializer, items-the_row-Initializer, items_hidden-the_row-Initializer-0, Row_of-FieldValue, end_of-FieldValue, more_of-FieldValue, items-the_row-FieldValue, items_hidden-the_row-FieldValue-1}
use Rattle.syntax_tree.specs.declared.type_tree.initializer.Initializer.TheVariants as i
use Rattle.syntax_tree.specs.type_tree.Regrouped.{first_value}
use Rattle.syntax_tree.specs.type_tree.Initializers.{of_initializer, first_of, more_initializers, field_values, more_field_values, next_initializers, value_list, next_field_values, field_value_list}

more_are : (n : _) (row : Row_of-Initializer n) → more_initializers row ≡ next_initializers (items-the_row-Initializer n row) (of p.no_initializers [])
more_are n end_of-Initializer = refl
more_are n (more_of-Initializer x rest) = ap (λ (z : Parsed). of p.next_initializer (word ∷ of_initializer x ∷ z ∷ [])) (more_are _ rest)

values_are : (n : _) (row : Row_of-Initializer n) → first_of row ≡ value_list (items-the_row-Initializer n row) (of p.no_initializers [])
values_are n end_of-Initializer = refl
values_are n (more_of-Initializer x rest) = ap (λ (z : Parsed). first_value (of_initializer x) z word) (more_are _ rest)

more_fields_are : (n : _) (row : Row_of-FieldValue n) → more_field_values row ≡ next_field_values (items-the_row-FieldValue n row) (of p.no_field_values [])
more_fields_are n end_of-FieldValue = refl
more_fields_are n (more_of-FieldValue (f.Field name x) rest) = ap (λ (z : Parsed). of p.next_field_value (word ∷ name_of name ∷ word ∷ of_initializer x ∷ z ∷ [])) (more_fields_are _ rest)

fields_are : (n : _) (row : Row_of-FieldValue n) → field_values row ≡ field_value_list (items-the_row-FieldValue n row) (of p.no_field_values [])
fields_are n end_of-FieldValue = refl
fields_are n (more_of-FieldValue (f.Field name x) rest) = ap (λ (z : Parsed). of p.begins_with_name (name_of name ∷ of p.field_values (word ∷ of_initializer x ∷ z ∷ word ∷ []) ∷ [])) (more_fields_are _ rest)

abbrev values_row : Initializer → (n : _) × Row_of-Initializer n
values_row (i.List' here shape row) = (_, row)
values_row x = (_, end_of-Initializer)

abbrev fields_row : Initializer → (n : _) × Row_of-FieldValue n
fields_row (i.Record' here shape row) = (_, row)
fields_row x = (_, end_of-FieldValue)

-- a list by its values
pub list_is : (here : Position) (all : Vec Initializer Global) → of_initializer (i.List here all) ≡ of p.list (of p.initializer_list (mark_at here ∷ value_list all.items (of p.no_initializers []) ∷ []) ∷ [])
list_is here all =
    let row = values_row (i.List here all) in
    ap (λ (z : Parsed). of p.list (of p.initializer_list (mark_at here ∷ z ∷ []) ∷ [])) (values_are row.0 row.1 ∙ ap (λ (l : List Initializer). value_list l (of p.no_initializers [])) (items_hidden-the_row-Initializer-0 all))

-- a record by the values of its fields
pub record_is : (here : Position) (all : Vec FieldValue Global) → of_initializer (i.Record here all) ≡ of p.list (of p.initializer_list (mark_at here ∷ field_value_list all.items (of p.no_field_values []) ∷ []) ∷ [])
record_is here all =
    let row = fields_row (i.Record here all) in
    ap (λ (z : Parsed). of p.list (of p.initializer_list (mark_at here ∷ z ∷ []) ∷ [])) (fields_are row.0 row.1 ∙ ap (λ (l : List FieldValue). field_value_list l (of p.no_field_values [])) (items_hidden-the_row-FieldValue-1 all))
