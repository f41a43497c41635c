-- The types before which a type stands get fewer; and the parts so far, and those that are left.
use Rattle.std.proofs.Common.{◌≡◌, ◌+◌, ◌-◌, ◌*◌, map, take, drop}
use Rattle.type_layout.specs.declared.definitions.Field.{Field}
use Rattle.tp_meaning.specs.Shapes.{read_many, read_chain, reader_in, readers_of}
use Rattle.interpreter_store.specs.cell_store.Views.{view_tree}
use Rattle.interpreter_effects.specs.initializers.Reading.{behind}
use Rattle.interpreter_effects.proofs.initializers.readers.+read.Given as goal

abbrev pub decreases-read_before : goal.decreases-read_before
decreases-read_before l = 3 * l.before

abbrev pub decreases-read_by : goal.decreases-read_by
decreases-read_by l = 3 * l.before + 2

abbrev pub decreases-read_elements : goal.decreases-read_elements
decreases-read_elements l = 3 * l.before + 1

abbrev pub decreases-read_fields : goal.decreases-read_fields
decreases-read_fields l = 3 * l.before + 1

abbrev pub invariant-read_elements-parts : goal.invariant-read_elements-parts
invariant-read_elements-parts l =
    let reader = reader_in (readers_of (take l.before l.types.types)) l.element in
    read_many l.count reader l.bytes ≡ behind (map view_tree l.parts.items) (read_many (l.count - l._i) reader l.rest)

abbrev pub invariant-read_fields-fields : goal.invariant-read_fields-fields
invariant-read_fields-fields l =
    let reader = λ (field : Field). reader_in (readers_of (take l.before l.types.types)) field.ty in
    read_chain (map reader l.fields) l.bytes ≡ behind (map view_tree l.parts.items) (read_chain (map reader (drop l.field-index l.fields)) l.rest)
