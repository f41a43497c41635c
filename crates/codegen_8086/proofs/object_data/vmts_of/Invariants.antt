use Rattle.std.proofs.Common.{◌≡◌, ◌++◌, map, drop}
use Rattle.codegen_8086.specs.object_code.Objects.{vmt_of}
use Rattle.codegen_8086.proofs.object_data.vmts_of.Given as goal

abbrev pub invariant-loop-vmt : goal.invariant-loop-vmt
invariant-loop-vmt l = l.made ++ map (vmt_of l.unit.names) (drop l.vmt-index l.unit.vmts) ≡ map (vmt_of l.unit.names) l.unit.vmts
