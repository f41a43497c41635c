use Rattle.std.proofs.Common.{◌≡◌, ◌∷◌, subst, sym, ap, ◌∙◌, arith}
use Rattle.tp_meaning.specs.Trees.{Tree as PureTree}
use Rattle.interpreter_store.specs.declared.cell_store.cells.Tree.{Tree}
use Rattle.interpreter_store.specs.declared.cell_store.cells.Tree.TheVariants as tree
use Rattle.interpreter_store.specs.cell_store.Views.{view_tree, view_parts}
use Rattle.interpreter_store.specs.cell_store.Parts.{exchanged}
use Rattle.interpreter_store.proofs.cell_store.Rows.{view_of_parts}
use Rattle.interpreter_store.proofs.cell_store.Exchanges.{Exchanges, exchange_within, exchange_past}
use Rattle.interpreter_store.proofs.cell_store.cells.+exchange.Goals as goal

pub Tree::exchange_under-returns-in-Parts : goal.Tree::exchange_under-returns-in-Parts
Tree::exchange_under-returns-in-Parts t c =
    let whole : view_tree c.args.self.now ≡ view_parts c.in-Parts.parts.items = ap view_tree (sym c.replace.ensures.value ∙ c.in-Parts.is) ∙ view_of_parts c.in-Parts.parts in
    let done = c.exchange_in-done.result in
    let path = c.args.n ∷ c.args.path.now in
    let part = view_tree c.args.part in
    subst (λ (old : PureTree). Exchanges done (view_tree (tree.Parts c.exchange_in-done.new.parts)) (exchanged old path part)) (sym whole)
    (subst (λ (new : PureTree). Exchanges done new (exchanged (view_parts c.in-Parts.parts.items) path part)) (sym (view_of_parts c.exchange_in-done.new.parts)) c.exchange_in-done.ensures)

pub exchange_in-returns-then-n-len : goal.exchange_in-returns-then-n-len
exchange_in-returns-then-n-len t c =
    let part = view_tree c.args.part in
    exchange_within c.exchange.result c.args.parts.now.items c.args.n c.args.path.now c.index_mut.result.now c.exchange.new.self part
    (omega (arith, c.len.ensures, c.if-n-len.true, c.args.parts.now.ok.0))
    (subst (λ (old : Tree). Exchanges c.exchange.result (view_tree c.exchange.new.self) (exchanged (view_tree old) c.args.path.now part)) c.index_mut.ensures.value c.exchange.ensures)

pub exchange_in-returns-else-n-len : goal.exchange_in-returns-else-n-len
exchange_in-returns-else-n-len t c = exchange_past c.args.parts.now.items c.args.n c.args.path.now (view_tree c.args.part) (omega (arith, c.if-n-len.false))
