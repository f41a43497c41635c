use Rattle.std.proofs.Common.{◌≡◌, ◌++◌, drop}
use Rattle.std.specs.List.{flat_map}
use Rattle.unit_file.specs.interface_file.Text.{item_text}
use Rattle.unit_file.proofs.interface_file.writing.push_each_item.Given as goal

-- what is written and what is left are all
abbrev pub invariant-loop-item : goal.invariant-loop-item
invariant-loop-item l = l.bytes ++ flat_map item_text (drop l.item-index l.items) ≡ l.initial.bytes ++ flat_map item_text l.items
