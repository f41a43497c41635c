use Rattle.std.proofs.Common.{◌+◌, ◌-◌, List, map, sym, ap, ◌∙◌, arith}
use Rattle.std.proofs.lemmas.List.{map_push}
use Rattle.type_layout.specs.declared.definitions.Host.TheVariants as host
use Rattle.interpreter_store.specs.declared.cell_store.cells.Tree.{Tree}
use Rattle.interpreter_store.specs.cell_store.Views.{view_tree}
use Rattle.tp_meaning.specs.Trees.{Tree as PureTree}
use Rattle.tp_meaning.specs.Shapes.{Reader, read_many, read_ordinal}
use Rattle.interpreter_effects.specs.initializers.Reading.{view_read, behind}
use Rattle.interpreter_effects.proofs.initializers.Parts.{many_begins, many_turns, many_ends, whole_read}
use Rattle.interpreter_effects.proofs.initializers.readers.read_chars.Goals as goal

pub parts-init : goal.parts-init
parts-init c =
    let reader : Reader = read_ordinal host.Char in
    let bytes = c.args.bytes.now in
    many_begins c.args.count reader bytes ∙ ap (λ (items : List Tree). behind (map view_tree items) (read_many (c.args.count - 0) reader bytes)) (sym c.new-parts.ensures.items)

pub parts-preserved : goal.parts-preserved
parts-preserved c =
    let reader : Reader = read_ordinal host.Char in
    let read = c.read_ordinal-read.result in
    let parts = c.parts.parts.items in
    c.parts.invariant
    ∙ many_turns (map view_tree parts) c.args.count c.parts._i reader c.parts.rest.now (view_read read) (omega arith) c.read_ordinal-read.ensures
    ∙ ap (λ (l : List PureTree). behind l (read_many (c.args.count - (c.parts._i + 1)) reader read.rest.now)) (sym (ap (map view_tree) c.in_ok-push.ensures.items ∙ map_push view_tree parts read.tree))

pub returns : goal.returns
returns c = whole_read _ _ _ _ (c.parts.invariant ∙ many_ends (map view_tree c.parts.parts.items) c.args.count c.parts._i (read_ordinal host.Char) c.parts.rest.now (omega arith)) c.of_parts.ensures
