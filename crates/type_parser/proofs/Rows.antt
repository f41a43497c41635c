-- Lists of types and of fields inside a type.
use Rattle.std.proofs.Common.{◌≡◌, Bool, List, [], ◌∷◌, Option, refl, ap, ◌∙◌, Vec, Box, Global}
use Rattle.pascal_grammar.specs.declared.lexeme.Position.{Position}
use Rattle.pascal_grammar.specs.Productions as p
use Rattle.syntax_tree.specs.declared.identifier.Identifier.{Identifier}
use Rattle.syntax_tree.specs.Expressions.{Parsed, of, word, mark_at}
use Rattle.syntax_tree.specs.declared.type_tree.parameter.Method.{Method}
use Rattle.syntax_tree.specs.declared.type_tree.types.FieldGroup.{FieldGroup}
use Rattle.syntax_tree.specs.declared.type_tree.types.FieldGroup.TheVariants as f
use Rattle.syntax_tree.specs.declared.type_tree.types.StructuredType.{StructuredType, Row_of-TypeDenoter, end_of-TypeDenoter, more_of-TypeDenoter, items-the_row-TypeDenoter, items_hidden-the_row-TypeDenoter-0}
use Rattle.syntax_tree.specs.declared.type_tree.types.StructuredType.TheVariants as s
use Rattle.syntax_tree.specs.declared.type_tree.types.TypeDenoter.{TypeDenoter, Row_of-FieldGroup, end_of-FieldGroup, more_of-FieldGroup, items-the_row-FieldGroup, items_hidden-the_row-FieldGroup-1}
use Rattle.syntax_tree.specs.declared.type_tree.types.TypeDenoter.TheVariants as t
use Rattle.syntax_tree.specs.type_tree.Parameters.{identifiers_of}
use Rattle.syntax_tree.specs.type_tree.Types.{of_type, of_structured, of_indexes, more_indexes, of_fields, more_fields, of_object, more_object, next_index_types, last_record_part, last_object_part, ancestor_of}
use Rattle.type_parser.specs.Reading.{more_groups}
use Rattle.type_parser.specs.Views.{indexes_of, groups_of, fields_of, object_part_of}

more_indexes_are : (n : _) (row : Row_of-TypeDenoter n) → more_indexes row ≡ next_index_types (items-the_row-TypeDenoter n row) (of p.no_index_types [])
more_indexes_are n end_of-TypeDenoter = refl
more_indexes_are n (more_of-TypeDenoter x rest) = ap (λ (z : Parsed). of p.next_index_type (word ∷ of_type x ∷ z ∷ [])) (more_indexes_are _ rest)

indexes_are : (n : _) (row : Row_of-TypeDenoter n) → of_indexes row ≡ indexes_of (items-the_row-TypeDenoter n row) (of p.no_index_types [])
indexes_are n end_of-TypeDenoter = refl
indexes_are n (more_of-TypeDenoter x rest) = ap (λ (z : Parsed). of p.index_types (word ∷ of_type x ∷ z ∷ word ∷ [])) (more_indexes_are _ rest)

more_fields_are : (n : _) (row : Row_of-FieldGroup n) (b : Bool) → more_fields row b ≡ more_groups p.fields p.next_fields (groups_of (items-the_row-FieldGroup n row)) (last_record_part b)
more_fields_are n end_of-FieldGroup b = refl
more_fields_are n (more_of-FieldGroup (f.Fields names x) rest) b = ap (λ (z : Parsed). of p.next_fields (word ∷ of p.fields (identifiers_of names.items ∷ word ∷ of_type x ∷ z ∷ []) ∷ [])) (more_fields_are _ rest b)

fields_are : (n : _) (row : Row_of-FieldGroup n) (b : Bool) → of_fields row b ≡ fields_of (items-the_row-FieldGroup n row) b
fields_are n end_of-FieldGroup b = refl
fields_are n (more_of-FieldGroup (f.Fields names x) rest) b = ap (λ (z : Parsed). of p.fields (identifiers_of names.items ∷ word ∷ of_type x ∷ z ∷ [])) (more_fields_are _ rest b)

more_object_is : (n : _) (row : Row_of-FieldGroup n) (b : Bool) (methods : List Method) → more_object row b methods ≡ more_groups p.object_fields p.next_object_part (groups_of (items-the_row-FieldGroup n row)) (last_object_part b methods)
more_object_is n end_of-FieldGroup b methods = refl
more_object_is n (more_of-FieldGroup (f.Fields names x) rest) b methods = ap (λ (z : Parsed). of p.next_object_part (word ∷ of p.object_fields (identifiers_of names.items ∷ word ∷ of_type x ∷ z ∷ []) ∷ [])) (more_object_is _ rest b methods)

object_part_is : (n : _) (row : Row_of-FieldGroup n) (b : Bool) (methods : List Method) → of_object row b methods ≡ object_part_of (items-the_row-FieldGroup n row) b methods
object_part_is n end_of-FieldGroup b methods = refl
object_part_is n (more_of-FieldGroup (f.Fields names x) rest) b methods = ap (λ (z : Parsed). of p.object_fields (identifiers_of names.items ∷ word ∷ of_type x ∷ z ∷ [])) (more_object_is _ rest b methods)

abbrev indexes_row : StructuredType → (n : _) × Row_of-TypeDenoter n
indexes_row (s.Array' here shape row q x) = (_, row)
indexes_row x = (_, end_of-TypeDenoter)

abbrev fields_row : StructuredType → (n : _) × Row_of-FieldGroup n
fields_row (s.Record' here shape row b) = (_, row)
fields_row x = (_, end_of-FieldGroup)

abbrev object_row : TypeDenoter → (n : _) × Row_of-FieldGroup n
object_row (t.Object' here a shape row b methods) = (_, row)
object_row x = (_, end_of-FieldGroup)

-- an array by the list of the types of its indexes
pub array_is : (here : Position) (all : Vec TypeDenoter Global) (x : Box TypeDenoter Global) (y : TypeDenoter) → x.value ≡ y → of_structured (s.Array here all x) ≡ of p.array_type (mark_at here ∷ indexes_of all.items (of p.no_index_types []) ∷ word ∷ of_type y ∷ [])
array_is here all x y e =
    let row = indexes_row (s.Array here all x) in
    ap (λ (z : Parsed). of p.array_type (mark_at here ∷ z ∷ word ∷ of_type x.value ∷ [])) (indexes_are row.0 row.1 ∙ ap (λ (l : List TypeDenoter). indexes_of l (of p.no_index_types [])) (items_hidden-the_row-TypeDenoter-0 all))
    ∙ ap (λ (t : TypeDenoter). of p.array_type (mark_at here ∷ indexes_of all.items (of p.no_index_types []) ∷ word ∷ of_type t ∷ [])) e

-- a record by the list of its fields
pub record_is : (here : Position) (all : Vec FieldGroup Global) (b : Bool) → of_structured (s.Record here all b) ≡ of p.record_type (mark_at here ∷ fields_of all.items b ∷ word ∷ [])
record_is here all b =
    let row = fields_row (s.Record here all b) in
    ap (λ (z : Parsed). of p.record_type (mark_at here ∷ z ∷ word ∷ [])) (fields_are row.0 row.1 b ∙ ap (λ (l : List FieldGroup). fields_of l b) (items_hidden-the_row-FieldGroup-1 all))

-- an object by the list of its fields
pub object_is : (here : Position) (a : Option Identifier) (all : Vec FieldGroup Global) (b : Bool) (methods : Vec Method Global) → of_type (t.Object here a all b methods) ≡ of p.object_type (mark_at here ∷ ancestor_of a ∷ object_part_of all.items b methods.items ∷ [])
object_is here a all b methods =
    let row = object_row (t.Object here a all b methods) in
    ap (λ (z : Parsed). of p.object_type (mark_at here ∷ ancestor_of a ∷ z ∷ [])) (object_part_is row.0 row.1 b methods.items ∙ ap (λ (l : List FieldGroup). object_part_of l b methods.items) (items_hidden-the_row-FieldGroup-1 all))
