use Rattle.std.proofs.Common.{List, map, Option, sym, ap, ◌∙◌, arith}
use Rattle.std.specs.Prelude.{slice_set, Ok}
use Rattle.std.proofs.lemmas.List.{map-set}
use Rattle.common_values.specs.declared.blocks.Row.{Row}
use Rattle.common_values.specs.Blocks.{rounded, without_block}
use Rattle.tp_meaning.specs.Found.{Found, ◌>>=◌}
use Rattle.tp_meaning.specs.Store.{Object as PureObject, with_object, without_row}
use Rattle.interpreter_store.specs.declared.cell_store.objects.Object.{Object}
use Rattle.interpreter_store.specs.cell_store.Views.{view_slot, view_store}
use Rattle.interpreter_store.specs.cell_store.Parts.{freed}
use Rattle.interpreter_store.proofs.cell_store.Stores.{disposed_within, disposed_past}
use Rattle.interpreter_store.proofs.cell_store.objects.Store.dispose.Goals as goal

pub returns-in_ok-free : goal.returns-in_ok-free
returns-in_ok-free c =
    let store = c.args.self.now in
    let slots = store.objects.items in
    let serial = c.args.serial in
    let bytes = c.args.bytes in
    let there = c.index_mut.result.now in
    let new = c.free.new.slot in
    disposed_within slots store.blocks serial bytes there (omega (arith, c.len.ensures, c.if-serial-len.true, store.objects.ok.0))
    ∙ ap (λ (object : Found (Option PureObject)). object >>= λ o. Ok (without_row (with_object (view_store store) serial o) bytes)) (ap (λ (slot : Option Object). freed (view_slot slot) bytes) (sym c.index_mut.ensures.value) ∙ c.in_ok-free.ensures)
    ∙ ap (λ (objects : List (Option PureObject)). Ok (record { objects = objects; rows = without_block (rounded bytes) store.blocks })) (sym (map-set view_slot slots serial new))
    ∙ ap (λ (rows : List Row). Ok (record { objects = map view_slot (slice_set slots serial new); rows = rows })) (sym c.remove.ensures)

pub returns-else-serial-len : goal.returns-else-serial-len
returns-else-serial-len c =
    let store = c.args.self.now in
    disposed_past store.objects.items store.blocks c.args.serial c.args.bytes (omega (arith, c.len.ensures, c.if-serial-len.false, store.objects.ok.0))
