use Rattle.std.proofs.Common.{◌≡◌, ◌+◌, ◌*◌, List, ◌∷◌, length}
use Rattle.syntax_tree.specs.declared.type_tree.types.TypeDenoter.{TypeDenoter}
use Rattle.type_parser.proofs.Going.{IndexesGo, GroupsGo}
use Rattle.type_parser.proofs.types.+types.Given as goal

abbrev pub decreases-next_type : goal.decreases-next_type
decreases-next_type l = 16 * l.depth + 4

abbrev pub decreases-next_packed : goal.decreases-next_packed
decreases-next_packed l = 16 * l.depth + 3

abbrev pub decreases-next_structured : goal.decreases-next_structured
decreases-next_structured l = 16 * l.depth + 2

abbrev pub decreases-next_array : goal.decreases-next_array
decreases-next_array l = 16 * l.depth + 1

abbrev pub decreases-next_index_types : goal.decreases-next_index_types
decreases-next_index_types l = 16 * l.depth + 1

abbrev pub decreases-next_index_list : goal.decreases-next_index_list
decreases-next_index_list l = 16 * l.depth + 5

abbrev pub decreases-next_record : goal.decreases-next_record
decreases-next_record l = 16 * l.depth + 1

abbrev pub decreases-next_fields : goal.decreases-next_fields
decreases-next_fields l = 16 * l.depth + 7

abbrev pub decreases-next_groups : goal.decreases-next_groups
decreases-next_groups l = 16 * l.depth + 6

abbrev pub decreases-next_group : goal.decreases-next_group
decreases-next_group l = 16 * l.depth + 5

abbrev pub decreases-next_set : goal.decreases-next_set
decreases-next_set l = 16 * l.depth + 1

abbrev pub decreases-next_object : goal.decreases-next_object
decreases-next_object l = 16 * l.depth + 1

abbrev pub decreases-next_object_part : goal.decreases-next_object_part
decreases-next_object_part l = 16 * l.depth + 7

abbrev pub invariant-next_index_list-commas : goal.invariant-next_index_list-commas
invariant-next_index_list-commas l = record {
  goes : IndexesGo l.depth l.all.items.items l.rest l.lexemes;
  some : (x : TypeDenoter) × (xs : List TypeDenoter) × (l.all.items.items ≡ x ∷ xs);
}

abbrev pub decreases-next_index_list-commas : goal.decreases-next_index_list-commas
decreases-next_index_list-commas l = length l.rest

abbrev pub invariant-next_groups-groups : goal.invariant-next_groups-groups
invariant-next_groups-groups l = record {
  goes : GroupsGo l.depth l.all.items.items l.rest l.lexemes;
}

abbrev pub decreases-next_groups-groups : goal.decreases-next_groups-groups
decreases-next_groups-groups l = length l.rest
