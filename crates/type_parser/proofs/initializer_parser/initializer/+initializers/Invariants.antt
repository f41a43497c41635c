use Rattle.std.proofs.Common.{◌≡◌, ◌+◌, ◌*◌, ◌≤◌, List, ◌∷◌, length}
use Rattle.syntax_tree.specs.declared.type_tree.initializer.FieldValue.{FieldValue}
use Rattle.syntax_tree.specs.declared.type_tree.initializer.Initializer.{Initializer}
use Rattle.type_parser.proofs.initializer_parser.Going.{ValuesGo, FieldsGo}
use Rattle.type_parser.proofs.initializer_parser.initializer.+initializers.Given as goal

abbrev pub decreases-next_initializer : goal.decreases-next_initializer
decreases-next_initializer l = 16 * l.depth + 2

abbrev pub decreases-next_list : goal.decreases-next_list
decreases-next_list l = 16 * l.depth + 1

abbrev pub decreases-next_values : goal.decreases-next_values
decreases-next_values l = 16 * l.depth + 5

abbrev pub decreases-next_value_list : goal.decreases-next_value_list
decreases-next_value_list l = 16 * l.depth + 4

abbrev pub decreases-next_field_values : goal.decreases-next_field_values
decreases-next_field_values l = 16 * l.depth + 5

abbrev pub decreases-next_field_list : goal.decreases-next_field_list
decreases-next_field_list l = 16 * l.depth + 4

abbrev pub decreases-next_field : goal.decreases-next_field
decreases-next_field l = 16 * l.depth + 3

abbrev pub invariant-next_value_list-commas : goal.invariant-next_value_list-commas
invariant-next_value_list-commas l = record {
  goes : ValuesGo l.depth l.all.items.items l.rest l.lexemes;
  some : (x : Initializer) × (xs : List Initializer) × (l.all.items.items ≡ x ∷ xs);
  shorter : length l.rest ≤ length l.lexemes;
}

abbrev pub decreases-next_value_list-commas : goal.decreases-next_value_list-commas
decreases-next_value_list-commas l = length l.rest

abbrev pub invariant-next_field_list-semicolons : goal.invariant-next_field_list-semicolons
invariant-next_field_list-semicolons l = record {
  goes : FieldsGo l.depth l.all.items.items l.rest l.lexemes;
  some : (x : FieldValue) × (xs : List FieldValue) × (l.all.items.items ≡ x ∷ xs);
  shorter : length l.rest ≤ length l.lexemes;
}

abbrev pub decreases-next_field_list-semicolons : goal.decreases-next_field_list-semicolons
decreases-next_field_list-semicolons l = length l.rest
