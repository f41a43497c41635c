use Rattle.mz_file.proofs.LoadLaws.{IsUnderWay}
use Rattle.mz_file.proofs.loading.relocate_all.Given as goal

abbrev pub invariant-loop-far : goal.invariant-loop-far
invariant-loop-far l = IsUnderWay l.machine.memory l.exe.image l.exe.relocations l.far-index
