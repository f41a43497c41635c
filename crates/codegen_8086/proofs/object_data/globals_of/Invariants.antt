use Rattle.std.proofs.Common.{◌≡◌, ◌++◌, map, drop}
use Rattle.codegen_8086.specs.object_code.Objects.{global_of, pointer_of}
use Rattle.codegen_8086.proofs.object_data.globals_of.Given as goal

abbrev pub invariant-loop-datum : goal.invariant-loop-datum
invariant-loop-datum l = l.made ++ map global_of (drop l.datum-index l.unit.globals) ≡ map global_of l.unit.globals

abbrev pub invariant-loop-routine : goal.invariant-loop-routine
invariant-loop-routine l = l.made ++ map (pointer_of l.unit.names) (drop l.routine-index l.stored) ≡ map global_of l.unit.globals ++ map (pointer_of l.unit.names) l.stored
