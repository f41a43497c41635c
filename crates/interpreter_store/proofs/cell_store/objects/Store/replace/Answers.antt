use Rattle.std.proofs.Common.{ℕ, List, Option, subst, arith}
use Rattle.interpreter_store.specs.declared.cell_store.objects.Object.{Object}
use Rattle.interpreter_store.specs.cell_store.Views.{view_spot, view_tree, view_slot}
use Rattle.interpreter_store.specs.cell_store.Parts.{exchanged_in}
use Rattle.interpreter_store.proofs.cell_store.Stores.{Exchanged, replaced_within, replaced_past}
use Rattle.interpreter_store.proofs.cell_store.objects.Store.replace.Goals as goal

pub returns-then-serial-len : goal.returns-then-serial-len
returns-then-serial-len c =
    let store = c.args.self.now in
    let tree = view_tree c.args.tree in
    let done = c.exchange_in.result in
    let new = c.exchange_in.new.slot in
    let by_path = subst (λ (path : List ℕ). Exchanged done (view_slot new) (exchanged_in (view_slot c.index_mut.result.now) path tree)) c.as_slice.ensures c.exchange_in.ensures in
    replaced_within done store.objects.items store.blocks (view_spot c.args.spot.now) c.index_mut.result.now new tree
    (omega (arith, c.len.ensures, c.if-serial-len.true, store.objects.ok.0))
    (subst (λ (slot : Option Object). Exchanged done (view_slot new) (exchanged_in (view_slot slot) c.args.spot.now.path tree)) c.index_mut.ensures.value by_path)

pub returns-else-serial-len : goal.returns-else-serial-len
returns-else-serial-len c =
    let store = c.args.self.now in
    replaced_past store.objects.items store.blocks (view_spot c.args.spot.now) (view_tree c.args.tree) (omega (arith, c.len.ensures, c.if-serial-len.false, store.objects.ok.0))
