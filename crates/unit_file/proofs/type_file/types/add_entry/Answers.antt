use Rattle.std.proofs.Common.{arith}
use Rattle.unit_file.proofs.type_file.EntryLaws.{addable-from_read}
use Rattle.unit_file.proofs.type_file.types.add_entry.Goals as goal

pub add-requires : goal.add-requires
add-requires c = addable-from_read c.args.count c.args.types.now c.args.bytes.now c.in_ok-entry.entry c.in_ok-entry.rest.now (λ k. omega (arith, c.type_inv.bytes k)) c.in_ok-entry.ensures
