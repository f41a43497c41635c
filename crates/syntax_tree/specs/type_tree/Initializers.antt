-- What the grammar makes of a first value.
use Rattle.std.specs.Prelude.{List, [], ◌∷◌}
use Rattle.pascal_grammar.specs.Productions as p
use Rattle.ll1_grammar.specs.Grammar.{nil}
use Rattle.syntax_tree.specs.Expressions.{Parsed, of, word, mark_at, name_of}
use Rattle.syntax_tree.specs.declared.type_tree.initializer.Initializer.{Initializer, Row_of-Initializer, end_of-Initializer, more_of-Initializer, Row_of-FieldValue, end_of-FieldValue, more_of-FieldValue}
use Rattle.syntax_tree.specs.declared.type_tree.initializer.Initializer.TheVariants as i
use Rattle.syntax_tree.specs.declared.type_tree.initializer.FieldValue.{FieldValue}
use Rattle.syntax_tree.specs.declared.type_tree.initializer.FieldValue.TheVariants as f
use Rattle.syntax_tree.specs.type_tree.Regrouped.{value_of, first_value}
use Rattle.syntax_tree.specs.type_tree.Types.{simple_of}

abbrev mutual
  pub of_initializer : Initializer → Parsed
  of_initializer (i.Value x) = value_of (simple_of x)
  of_initializer (i.List' here shape all) = of p.list (of p.initializer_list (mark_at here ∷ first_of all ∷ []) ∷ [])
  of_initializer (i.Record' here shape all) = of p.list (of p.initializer_list (mark_at here ∷ field_values all ∷ []) ∷ [])

  -- the values in parentheses; none at all are spelled by nothing
  pub first_of : {n : _} → Row_of-Initializer n → Parsed
  first_of end_of-Initializer = nil
  first_of (more_of-Initializer x all) = first_value (of_initializer x) (more_initializers all) word

  pub more_initializers : {n : _} → Row_of-Initializer n → Parsed
  more_initializers end_of-Initializer = of p.no_initializers []
  more_initializers (more_of-Initializer x all) = of p.next_initializer (word ∷ of_initializer x ∷ more_initializers all ∷ [])

  pub field_values : {n : _} → Row_of-FieldValue n → Parsed
  field_values end_of-FieldValue = of p.begins_with_name (nil ∷ of p.field_values (nil ∷ nil ∷ nil ∷ word ∷ []) ∷ [])
  field_values (more_of-FieldValue (f.Field name x) all) = of p.begins_with_name (name_of name ∷ of p.field_values (word ∷ of_initializer x ∷ more_field_values all ∷ word ∷ []) ∷ [])

  pub more_field_values : {n : _} → Row_of-FieldValue n → Parsed
  more_field_values end_of-FieldValue = of p.no_field_values []
  more_field_values (more_of-FieldValue (f.Field name x) all) = of p.next_field_value (word ∷ name_of name ∷ word ∷ of_initializer x ∷ more_field_values all ∷ [])

-- ---- the same over lists, and what comes behind them

abbrev pub next_initializers : List Initializer → Parsed → Parsed
next_initializers [] more = more
next_initializers (x ∷ all) more = of p.next_initializer (word ∷ of_initializer x ∷ next_initializers all more ∷ [])

-- the first value, and those behind it
abbrev pub initializer_list : List Initializer → Parsed → Parsed × Parsed
initializer_list [] more = (nil, nil)
initializer_list (x ∷ all) more = (of_initializer x, next_initializers all more)

-- the values in parentheses, and what comes behind the last
abbrev pub value_list : List Initializer → Parsed → Parsed
value_list all more = first_value (initializer_list all more).0 (initializer_list all more).1 word

abbrev pub next_field_values : List FieldValue → Parsed → Parsed
next_field_values [] more = more
next_field_values (f.Field name x ∷ all) more = of p.next_field_value (word ∷ name_of name ∷ word ∷ of_initializer x ∷ next_field_values all more ∷ [])

-- the first field with its colon and its value, and those behind it
abbrev pub field_list : List FieldValue → Parsed → (Parsed × Parsed × Parsed) × Parsed
field_list [] more = ((nil, nil, nil), nil)
field_list (f.Field name x ∷ all) more = ((name_of name, word, of_initializer x), next_field_values all more)

-- the fields in parentheses, and what comes behind the last
abbrev pub field_value_list : List FieldValue → Parsed → Parsed
field_value_list all more = of p.begins_with_name ((field_list all more).0.0 ∷ of p.field_values ((field_list all more).0.1 ∷ (field_list all more).0.2 ∷ (field_list all more).1 ∷ word ∷ []) ∷ [])
