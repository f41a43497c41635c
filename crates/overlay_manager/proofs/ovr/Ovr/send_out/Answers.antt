use Rattle.std.proofs.Common.{ℕ, List, [], length, map, sym, ap, ◌∙◌, arith}
use Rattle.return_repair.specs.declared.table.Loaded.{Loaded}
use Rattle.overlay_manager.proofs.TableLaws.{stubs-table_from, length-table_from}
use Rattle.overlay_manager.proofs.ovr.Ovr.send_out.Goals as goal

abbrev stubs : List Loaded → List ℕ
stubs table = map (λ (overlay : Loaded). overlay.stub) table

pub repair-requires : goal.repair-requires
repair-requires c =
    let old = ap stubs (c.deref.ensures.value ∙ c.set_table.ensures.table) ∙ stubs-table_from _ _ 0 _ in
    let new = ap stubs (c.deref-2.ensures.value ∙ c.set_table-2.ensures.table) ∙ stubs-table_from c.self.inside.room [] 0 _ in
    old ∙ sym new

pub set_stubs-requires-clause-same : goal.set_stubs-requires-clause-same
set_stubs-requires-clause-same c =
    let old = ap length (c.deref-3.ensures.value ∙ c.set_table.ensures.table) ∙ length-table_from _ _ 0 _ in
    let new = ap length (c.deref-4.ensures.value ∙ c.set_table-2.ensures.table) ∙ length-table_from c.self.inside.room [] 0 _ in
    old ∙ sym new

pub set_stubs-requires-clause-few : goal.set_stubs-requires-clause-few
set_stubs-requires-clause-few c =
    let old = ap length (c.deref-3.ensures.value ∙ c.set_table.ensures.table) ∙ length-table_from _ _ 0 _ in
    let all = ap length c.as_slice-stubs.ensures.value in
    omega (arith, old, all, c.self.invariant.4)
