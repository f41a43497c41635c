use Rattle.std.proofs.Common.{sym, subst, arith}
use Rattle.unit_file.specs.interface_file.Text.{IsInterface}
use Rattle.unit_file.proofs.writing.push_each_import.Goals as goal

pub push_interface-requires : goal.push_interface-requires
push_interface-requires c = subst IsInterface (sym c.import-item.is) (c.requires c.loop-import.import-index c.import-item.result (omega (arith, c.loop-import-test.true)))
