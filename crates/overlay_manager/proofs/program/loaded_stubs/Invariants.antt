use Rattle.std.proofs.Common.{◌≡◌, map, take}
use Rattle.mz_file.specs.Load.{loaded_segment}
use Rattle.overlay_manager.proofs.program.loaded_stubs.Given as goal

abbrev pub invariant-loop-stub : goal.invariant-loop-stub
invariant-loop-stub l = l.loaded.items ≡ map loaded_segment (take l.stub-index l.stubs)
