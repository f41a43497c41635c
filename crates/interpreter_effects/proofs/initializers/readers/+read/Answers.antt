use Rattle.std.proofs.Common.{◌+◌, ◌-◌, List, length, map, refl, take, drop, sym, ap, ◌∙◌, arith}
use Rattle.std.proofs.lemmas.List.{map_push}
use Rattle.std.proofs.lemmas.Option.{slice_get_read}
use Rattle.type_layout.specs.declared.definitions.Field.{Field}
use Rattle.interpreter_store.specs.declared.cell_store.cells.Tree.{Tree}
use Rattle.interpreter_store.specs.cell_store.Views.{view_tree}
use Rattle.tp_meaning.specs.Trees.{Tree as PureTree}
use Rattle.tp_meaning.specs.Shapes.{Reader, read_many, read_chain, reader_in, readers_of}
use Rattle.interpreter_effects.specs.initializers.Reading.{view_read, behind}
use Rattle.interpreter_effects.proofs.initializers.Parts.{many_begins, many_turns, many_ends, chain_turns, chain_ends, whole_read}
use Rattle.interpreter_effects.proofs.initializers.readers.+read.Goals as goal

pub read_elements-parts-init : goal.read_elements-parts-init
read_elements-parts-init t c =
    let reader : Reader = reader_in (readers_of (take c.args.before c.args.types.now.types)) c.args.element in
    let bytes = c.args.bytes.now in
    many_begins c.args.count reader bytes ∙ ap (λ (items : List Tree). behind (map view_tree items) (read_many (c.args.count - 0) reader bytes)) (sym c.new-parts.ensures.items)

pub read_elements-parts-preserved : goal.read_elements-parts-preserved
read_elements-parts-preserved t c =
    let reader : Reader = reader_in (readers_of (take c.args.before c.args.types.now.types)) c.args.element in
    let read = c.in_ok-read.read in
    let parts = c.parts.parts.items in
    c.parts.invariant
    ∙ many_turns (map view_tree parts) c.args.count c.parts._i reader c.parts.rest.now (view_read read) (omega arith) c.in_ok-read.ensures
    ∙ ap (λ (l : List PureTree). behind l (read_many (c.args.count - (c.parts._i + 1)) reader read.rest.now)) (sym (ap (map view_tree) c.in_ok-push.ensures.items ∙ map_push view_tree parts read.tree))

pub read_elements-returns : goal.read_elements-returns
read_elements-returns t c =
    let reader : Reader = reader_in (readers_of (take c.args.before c.args.types.now.types)) c.args.element in
    whole_read _ _ _ _ (c.parts.invariant ∙ many_ends (map view_tree c.parts.parts.items) c.args.count c.parts._i reader c.parts.rest.now (omega arith)) c.of_parts.ensures

pub read_fields-fields-init : goal.read_fields-fields-init
read_fields-fields-init t c =
    let reader : Field → Reader = λ (field : Field). reader_in (readers_of (take c.args.before c.args.types.now.types)) field.ty in
    ap (λ (items : List Tree). behind (map view_tree items) (read_chain (map reader c.args.fields.now) c.args.bytes.now)) (sym c.new-parts.ensures.items)

pub read_fields-fields-preserved : goal.read_fields-fields-preserved
read_fields-fields-preserved t c =
    let reader : Field → Reader = λ (field : Field). reader_in (readers_of (take c.args.before c.args.types.now.types)) field.ty in
    let fields = c.args.fields.now in
    let i = c.fields.field-index in
    let read = c.in_ok-read.read in
    let parts = c.fields.parts.items in
    c.fields.invariant
    ∙ chain_turns (map view_tree parts) reader fields i c.field-item.result c.fields.rest.now (view_read read) (slice_get_read fields (length fields) i c.field-item.result refl (omega arith) c.field-item.is) c.in_ok-read.ensures
    ∙ ap (λ (l : List PureTree). behind l (read_chain (map reader (drop (i + 1) fields)) read.rest.now)) (sym (ap (map view_tree) c.in_ok-push.ensures.items ∙ map_push view_tree parts read.tree))

pub read_fields-returns : goal.read_fields-returns
read_fields-returns t c =
    let reader : Field → Reader = λ (field : Field). reader_in (readers_of (take c.args.before c.args.types.now.types)) field.ty in
    whole_read _ _ _ _ (c.fields.invariant ∙ chain_ends (map view_tree c.fields.parts.items) reader c.args.fields.now c.fields.field-index c.fields.rest.now (omega arith)) c.of_parts.ensures
