use Rattle.tp_outside.proofs.Known.{gave_both, on_err}
use Rattle.tp_outside.proofs.reading.read_source.Goals as goal

-- the bytes that were read are lost
pub returns-in_err-extend_from_slice-clause-lost :
    goal.returns-in_err-extend_from_slice-clause-lost
returns-in_err-extend_from_slice-clause-lost g c = on_err _ (gave_both _ _ _ _ _ c.loop-chunk.invariant.1 c.in_ok-count.ensures.given)
