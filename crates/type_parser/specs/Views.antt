-- What was read, as the readers give it.
use Rattle.std.specs.Prelude.{Bool, List, [], ◌∷◌}
use Rattle.pascal_grammar.specs.Productions as p
use Rattle.syntax_tree.specs.Expressions.{Parsed, of, word}
use Rattle.syntax_tree.specs.declared.type_tree.parameter.Method.{Method}
use Rattle.syntax_tree.specs.declared.type_tree.types.FieldGroup.{FieldGroup}
use Rattle.syntax_tree.specs.declared.type_tree.types.FieldGroup.TheVariants as f
use Rattle.syntax_tree.specs.type_tree.Parameters.{identifiers_of}
use Rattle.syntax_tree.specs.declared.type_tree.types.TypeDenoter.{TypeDenoter}
use Rattle.syntax_tree.specs.type_tree.Types.{of_type, index_type_list, last_record_part, methods_end, last_object_part}
use Rattle.type_parser.specs.Reading.{Group, with_groups}

abbrev pub group_of : FieldGroup → Group
group_of (f.Fields names x) = (identifiers_of names.items, word, of_type x)

abbrev pub groups_of : List FieldGroup → List Group
groups_of [] = []
groups_of (x ∷ all) = group_of x ∷ groups_of all

-- the types of indexes in brackets
abbrev pub indexes_of : List TypeDenoter → Parsed → Parsed
indexes_of all more = of p.index_types (word ∷ (index_type_list all more).0 ∷ (index_type_list all more).1 ∷ word ∷ [])

-- the groups of a record, and whether a semicolon stands behind the last of them
abbrev pub fields_of : List FieldGroup → Bool → Parsed
fields_of [] b = of p.no_fields []
fields_of (x ∷ all) b = with_groups p.fields p.next_fields (groups_of (x ∷ all)) (last_record_part b)

-- the groups of an object, whether a semicolon stands behind the last of them, and its methods
abbrev pub object_part_of : List FieldGroup → Bool → List Method → Parsed
object_part_of [] b methods = methods_end methods
object_part_of (x ∷ all) b methods = with_groups p.object_fields p.next_object_part (groups_of (x ∷ all)) (last_object_part b methods)
