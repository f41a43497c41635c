use Rattle.std.proofs.Common.{sym, subst}
use Rattle.std.specs.Prelude.{All}
use Rattle.unit_file.specs.interface_file.Text.{HasOptions}
use Rattle.unit_file.proofs.interface_file.ItemLaws.{options-from_interface}
use Rattle.unit_file.proofs.interface_file.writing.push_interface.Goals as goal

pub push_items-requires : goal.push_items-requires
push_items-requires c = subst (All HasOptions) (sym c.as_slice.ensures) (options-from_interface c.args.interface.now c.requires)
