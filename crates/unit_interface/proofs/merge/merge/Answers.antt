use Rattle.std.proofs.Common.{ap}
use Rattle.scopes.specs.Environment.{Environment}
use Rattle.unit_interface.proofs.ScopeLaws.{merge-step}
use Rattle.unit_interface.proofs.FitLaws.{first-fit}
use Rattle.unit_interface.proofs.merge.merge.Goals as goal

pub loop-number-preserved : goal.loop-number-preserved
loop-number-preserved c =
    let so_far = c.loop-number.invariant in
    record {
      merged = merge-step c.args.scope.now c.loop-number.scope c.merge_type.new.scope c.args.other.now c.args.ids.now c.loop-number.number so_far.merged
          c.in_ok-merge_type.ensures.ok;
      fits = first-fit c.args.ids.now c.args.scope.now.types c.loop-number.scope.types c.args.other.now c.loop-number.number
          (ap (λ (e : Environment). e.types) so_far.merged) so_far.fits c.in_ok-merge_type.ensures.fits;
    }
