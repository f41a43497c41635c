-- Types round a list that lies in a vector.
use Rattle.std.proofs.Common.{◌≡◌, ap, refl, ◌∙◌, Bool, Option, Vec, Box, Global}
use Rattle.pascal_grammar.specs.declared.lexeme.Position.{Position}
use Rattle.type_layout.specs.declared.texts.Place.{Place}
use Rattle.syntax_tree.specs.declared.type_tree.types.TypeDenoter.{TypeDenoter, Row_of-FieldGroup, end_of-FieldGroup, more_of-FieldGroup, items-the_row-FieldGroup, items_hidden-the_row-FieldGroup-1}
use Rattle.syntax_tree.specs.declared.type_tree.types.TypeDenoter.TheVariants as t
use Rattle.syntax_tree.specs.declared.type_tree.types.StructuredType.{StructuredType, Row_of-TypeDenoter, end_of-TypeDenoter, more_of-TypeDenoter, items-the_row-TypeDenoter, items_hidden-the_row-TypeDenoter-0}
use Rattle.syntax_tree.specs.declared.type_tree.types.StructuredType.TheVariants as s
use Rattle.syntax_tree.specs.declared.type_tree.types.FieldGroup.{FieldGroup}
use Rattle.syntax_tree.specs.declared.type_tree.types.FieldGroup.TheVariants as f
use Rattle.syntax_tree.specs.declared.identifier.Identifier.{Identifier}
use Rattle.syntax_tree.specs.declared.type_tree.parameter.Method.{Method}
use Rattle.declaration_checker.specs.type_denoters.Trees.{Denoters, Fields, object, array, record_of, and_denoter, and_fields, view_denoter, view_structured, view_denoters, view_denoter_row, view_groups, view_field_row}

denoter_row : (n : _) (row : Row_of-TypeDenoter n) → view_denoter_row row ≡ view_denoters (items-the_row-TypeDenoter n row)
denoter_row n end_of-TypeDenoter = refl
denoter_row n (more_of-TypeDenoter one rest) = ap (λ (z : Denoters). and_denoter (view_denoter one) z) (denoter_row _ rest)

field_row : (n : _) (row : Row_of-FieldGroup n) → view_field_row row ≡ view_groups (items-the_row-FieldGroup n row)
field_row n end_of-FieldGroup = refl
field_row n (more_of-FieldGroup (f.Fields names one) rest) = ap (λ (z : Fields). and_fields names.items (view_denoter one) z) (field_row _ rest)

abbrev indexes_row : StructuredType → (n : _) × Row_of-TypeDenoter n
indexes_row (s.Array' here shape row p element) = (_, row)
indexes_row one = (_, end_of-TypeDenoter)

abbrev fields_row : StructuredType → (n : _) × Row_of-FieldGroup n
fields_row (s.Record' here shape row semicolon) = (_, row)
fields_row one = (_, end_of-FieldGroup)

abbrev object_row : TypeDenoter → (n : _) × Row_of-FieldGroup n
object_row (t.Object' here ancestor shape row semicolon methods) = (_, row)
object_row one = (_, end_of-FieldGroup)

-- an array, by the list of the types of its indexes
pub view_array : (place : Place) (here : Position) (all : Vec TypeDenoter Global) (element : Box TypeDenoter Global)
    → view_structured place (s.Array here all element) ≡ array place (view_denoters all.items) (view_denoter element.value)
view_array place here all element =
    let row = indexes_row (s.Array here all element) in
    ap (λ (z : Denoters). array place z (view_denoter element.value)) (denoter_row row.0 row.1 ∙ ap view_denoters (items_hidden-the_row-TypeDenoter-0 all))

-- a record, by the list of its groups of fields
pub view_record : (place : Place) (here : Position) (all : Vec FieldGroup Global) (semicolon : Bool)
    → view_structured place (s.Record here all semicolon) ≡ record_of place (view_groups all.items)
view_record place here all semicolon =
    let row = fields_row (s.Record here all semicolon) in
    ap (λ (z : Fields). record_of place z) (field_row row.0 row.1 ∙ ap view_groups (items_hidden-the_row-FieldGroup-1 all))

-- an object type, likewise
pub view_object : (here : Position) (ancestor : Option Identifier) (all : Vec FieldGroup Global) (semicolon : Bool) (methods : Vec Method Global)
    → view_denoter (t.Object here ancestor all semicolon methods) ≡ object here.place ancestor (view_groups all.items) methods.items
view_object here ancestor all semicolon methods =
    let row = object_row (t.Object here ancestor all semicolon methods) in
    ap (λ (z : Fields). object here.place ancestor z methods.items) (field_row row.0 row.1 ∙ ap view_groups (items_hidden-the_row-FieldGroup-1 all))
