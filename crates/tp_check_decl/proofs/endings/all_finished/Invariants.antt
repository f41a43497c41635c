use Rattle.std.proofs.Common.{◌≡◌, map, length}
use Rattle.std.specs.Vec.Iter.{into_iter_items, into_iter_len}
use Rattle.call_rules.specs.Lists.{behind}
use Rattle.tp_check_decl.specs.routines.Drafts.{view_slot}
use Rattle.tp_check_decl.specs.Units.{view_routine}
use Rattle.tp_check_decl.specs.Endings.{all_finished}
use Rattle.tp_check_decl.proofs.endings.all_finished.Given as goal

-- what was finished and what is left make the whole
abbrev pub invariant-loop-slot : goal.invariant-loop-slot
invariant-loop-slot l = record {
  goes : behind (map view_routine l.all) (all_finished l.types.types (map view_slot (into_iter_items l.slot-iterator))).run
      ≡ (all_finished l.types.types (map view_slot (into_iter_items l.initial.slot-iterator))).run;
  long : into_iter_len l.slot-iterator ≡ length (into_iter_items l.slot-iterator);
}
