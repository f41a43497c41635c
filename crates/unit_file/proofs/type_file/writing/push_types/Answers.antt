use Rattle.std.proofs.Common.{Result, Ok, Err}
use Rattle.std.specs.Prelude.{OnOk}
use Rattle.unit_file.proofs.type_file.OptionLaws.{types-written}
use Rattle.unit_file.proofs.type_file.writing.push_types.Goals as goal

on_ok : {A E : Type 0} {P Q : Type 0} (r : Result A E) → (P → Q) → OnOk r P → OnOk r Q
on_ok (Ok x) to p = to p
on_ok (Err e) to p = tt

pub returns : goal.returns
returns c = on_ok c.push_each_type.result
    (types-written c.args.types.now c.count.result c.args.bytes.now c.push_long.new.bytes c.push_each_type.new.bytes c.requires c.count.ensures.value c.in_ok-push_long.ensures)
    c.push_each_type.ensures
