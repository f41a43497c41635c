-- First values round a list that lies in a vector.
use Rattle.std.proofs.Common.{◌≡◌, List, [], ◌∷◌, length, refl, ap, ◌∙◌, Vec, Global, arith}
use Rattle.pascal_grammar.specs.declared.lexeme.Position.{Position}
use Rattle.syntax_tree.specs.declared.type_tree.initializer.Initializer.{Initializer, Row_of-Initializer, end_of-Initializer, more_of-Initializer, items-the_row-Initializer, items_hidden-the_row-Initializer-0, Row_of-FieldValue, end_of-FieldValue, more_of-FieldValue, items-the_row-FieldValue, items_hidden-the_row-FieldValue-1}
use Rattle.syntax_tree.specs.declared.type_tree.initializer.Initializer.TheVariants as i
use Rattle.syntax_tree.specs.declared.type_tree.initializer.FieldValue.{FieldValue}
use Rattle.syntax_tree.specs.declared.type_tree.initializer.FieldValue.TheVariants as f
use Rattle.constant_checker.specs.typed_constants.Trees.{Initials, Named, list, group, and_initial, and_named, count, view_initializer, view_row, view_items, view_field_row, view_fields}

item_row : (n : _) (row : Row_of-Initializer n) → view_row row ≡ view_items (items-the_row-Initializer n row)
item_row n end_of-Initializer = refl
item_row n (more_of-Initializer one rest) = ap (λ (z : Initials). and_initial (view_initializer one) z) (item_row _ rest)

field_row : (n : _) (row : Row_of-FieldValue n) → view_field_row row ≡ view_fields (items-the_row-FieldValue n row)
field_row n end_of-FieldValue = refl
field_row n (more_of-FieldValue (f.Field name one) rest) = ap (λ (z : Named). and_named name (view_initializer one) z) (field_row _ rest)

abbrev items_of : Initializer → (n : _) × Row_of-Initializer n
items_of (i.List' here shape row) = (_, row)
items_of one = (_, end_of-Initializer)

abbrev fields_of : Initializer → (n : _) × Row_of-FieldValue n
fields_of (i.Record' here shape row) = (_, row)
fields_of one = (_, end_of-FieldValue)

-- a list, by its values
pub view_list : (here : Position) (all : Vec Initializer Global) → view_initializer (i.List here all) ≡ list here.place (view_items all.items)
view_list here all =
    let row = items_of (i.List here all) in
    ap (λ (z : Initials). list here.place z) (item_row row.0 row.1 ∙ ap view_items (items_hidden-the_row-Initializer-0 all))

-- a group, by its fields
pub view_group : (here : Position) (all : Vec FieldValue Global) → view_initializer (i.Record here all) ≡ group here.place (view_fields all.items)
view_group here all =
    let row = fields_of (i.Record here all) in
    ap (λ (z : Named). group here.place z) (field_row row.0 row.1 ∙ ap view_fields (items_hidden-the_row-FieldValue-1 all))

-- a list has as many values as it is long
pub counts : (all : List Initializer) → count (view_items all) ≡ length all
counts [] = refl
counts (one ∷ rest) = omega (arith, counts rest)
