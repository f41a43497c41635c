use Rattle.std.proofs.Common.{◌∙◌, ap, sym, subst, take}
use Rattle.scopes.specs.Environment.{Environment}
use Rattle.unit_interface.specs.Resolve.{with_use}
use Rattle.unit_interface.specs.Keyed.{IsKeyed}
use Rattle.unit_interface.proofs.KeyLaws.{is_keyed}
use Rattle.unit_interface.proofs.ResolveLaws.{resolved-next, fit-next}
use Rattle.unit_interface.proofs.resolving.resolve.Goals as goal

pub loop-used-preserved : goal.loop-used-preserved
loop-used-preserved c =
    let so_far = c.loop-used.invariant in
    record {
      resolved = c.in-Ok.ensures.ok ∙ ap (λ (e : Environment). with_use c.args.have.now e c.used-item.result) so_far.resolved
          ∙ sym (resolved-next c.args.have.now c.args.name.now c.args.uses.now c.loop-used.used-index c.used-item.result c.loop-used-test.true c.used-item.is);
      fits = fit-next c.args.have.now c.args.name.now c.args.uses.now c.loop-used.used-index c.used-item.result c.loop-used.scope c.loop-used-test.true c.used-item.is
          so_far.resolved so_far.fits c.in-Ok.ensures.fits;
    }

pub returns-clause-keyed : goal.returns-clause-keyed
returns-clause-keyed c =
    subst (λ (e : Environment). IsKeyed e.types) (sym c.loop-used.invariant.resolved)
    (is_keyed c.args.have.now c.args.name.now (take c.loop-used.used-index c.args.uses.now))
