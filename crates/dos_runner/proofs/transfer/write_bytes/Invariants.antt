use Rattle.std.proofs.Common.{◌≡◌, ℕ, ◌≤◌, ◌-◌, Option, List}
use Rattle.std.specs.Io.KnownBytes.{append_known}
use Rattle.cpu_8086.specs.Process.{bytes_at}
use Rattle.dos_runner.proofs.transfer.write_bytes.Given as goal

pub record Written (m : List ℕ) (s o done count : ℕ) (old new : Option (List ℕ)) (faults_old faults_new : ℕ) : Type 0 where
  pub within : done ≤ count
  pub contents : new ≡ append_known old (bytes_at m s o done)
  pub counted : faults_old ≤ faults_new

abbrev pub invariant-loop-done : goal.invariant-loop-done
invariant-loop-done g l = Written l.machine.memory l.segment l.offset l.done l.count (g.K.Sink.contents l.initial.sink) (g.K.Sink.contents l.sink) (g.K.Sink.faults l.initial.sink) (g.K.Sink.faults l.sink)

abbrev pub decreases-loop-done : goal.decreases-loop-done
decreases-loop-done g l = l.count - l.done
