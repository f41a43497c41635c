-- First values as they are written, without where nodes lie in memory.
use Rattle.std.specs.Prelude.{ℕ, ◌+◌, List, [], ◌∷◌}
use Rattle.type_layout.specs.declared.texts.Place.{Place}
use Rattle.syntax_tree.specs.declared.identifier.Identifier.{Identifier}
use Rattle.syntax_tree.specs.expression_tree.Trees.{Tree, view_simple}
use Rattle.syntax_tree.specs.declared.type_tree.initializer.Initializer.{Initializer, Row_of-Initializer, end_of-Initializer, more_of-Initializer, Row_of-FieldValue, end_of-FieldValue, more_of-FieldValue}
use Rattle.syntax_tree.specs.declared.type_tree.initializer.Initializer.TheVariants as i
use Rattle.syntax_tree.specs.declared.type_tree.initializer.FieldValue.{FieldValue}
use Rattle.syntax_tree.specs.declared.type_tree.initializer.FieldValue.TheVariants as f

mutual
  -- an expression, or what stands in parentheses, with the place of the first one
  pub data Initial : Type 0 where
    value : Tree → Initial
    list : Place → Initials → Initial
    group : Place → Named → Initial

  -- values for the elements of an array
  pub data Initials : Type 0 where
    no_initials : Initials
    and_initial : Initial → Initials → Initials

  -- values for the fields of a record
  pub data Named : Type 0 where
    no_named : Named
    and_named : Identifier → Initial → Named → Named

-- how many values a list has
abbrev pub count : Initials → ℕ
count no_initials = 0
count (and_initial one rest) = count rest + 1

abbrev mutual
  pub view_initializer : Initializer → Initial
  view_initializer (i.Value one) = value (view_simple one)
  view_initializer (i.List' here shape items) = list here.place (view_row items)
  view_initializer (i.Record' here shape fields) = group here.place (view_field_row fields)

  pub view_row : {n : _} → Row_of-Initializer n → Initials
  view_row end_of-Initializer = no_initials
  view_row (more_of-Initializer one rest) = and_initial (view_initializer one) (view_row rest)

  pub view_field_row : {n : _} → Row_of-FieldValue n → Named
  view_field_row end_of-FieldValue = no_named
  view_field_row (more_of-FieldValue (f.Field name one) rest) = and_named name (view_initializer one) (view_field_row rest)

-- the values of a list
abbrev pub view_items : List Initializer → Initials
view_items [] = no_initials
view_items (one ∷ rest) = and_initial (view_initializer one) (view_items rest)

-- the fields of a list
abbrev pub view_fields : List FieldValue → Named
view_fields [] = no_named
view_fields (f.Field name one ∷ rest) = and_named name (view_initializer one) (view_fields rest)
