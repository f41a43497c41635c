use Rattle.std.proofs.Common.{◌≡◌, ◌≤◌, ◌-◌, false}
use Rattle.dos_runner.proofs.Reading.{ReadSoFar}
use Rattle.dos_runner.proofs.transfer.read_bytes.Given as goal

abbrev pub invariant-loop-done : goal.invariant-loop-done
invariant-loop-done g l = record {
  read : ReadSoFar l.segment l.offset l.count l.initial.machine l.machine (g.S.Source.remaining l.initial.source) (g.S.Source.remaining l.source) l.done;
  over : l.over ≡ false;
  counted : g.S.Source.faults l.initial.source ≤ g.S.Source.faults l.source;
}

abbrev pub decreases-loop-done : goal.decreases-loop-done
decreases-loop-done g l = l.count - l.done
