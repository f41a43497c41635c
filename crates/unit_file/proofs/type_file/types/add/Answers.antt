use Rattle.type_layout.specs.Layouts.{size_over}
use Rattle.unit_file.specs.type_file.Text.{with_entry}
use Rattle.unit_file.proofs.type_file.AddLaws.{limited-taken, limited-refused}
use Rattle.unit_file.proofs.type_file.types.add.Goals as goal

pub returns-in-Ok : goal.returns-in-Ok
returns-in-Ok c = limited-taken (size_over c.args.types.now.types c.args.entry.one) _ c.args.left (with_entry c.args.types.now c.args.entry) c.add.new.self c.in-Ok.field-0 c.add.result c.in-Ok.is c.add.ensures.too_large c.in-Ok.ensures.ok.1

pub returns-in-Err-TooLarge : goal.returns-in-Err-TooLarge
returns-in-Err-TooLarge c = rw c.damaged.ensures (limited-refused (size_over c.args.types.now.types c.args.entry.one) _ c.args.left c.in-Err-TooLarge.field-0-0 (with_entry c.args.types.now c.args.entry) c.in-Err-TooLarge.field-0 c.add.result c.in-Err-TooLarge.is c.in-Err-TooLarge.field-0-is c.add.ensures.too_large)
