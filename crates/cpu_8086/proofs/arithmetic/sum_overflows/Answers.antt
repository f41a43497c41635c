use Rattle.cpu_8086.proofs.SignedLaws.{sum_overflow}
use Rattle.cpu_8086.proofs.arithmetic.sum_overflows.Goals as goal

pub returns : goal.returns
returns c = sum_overflow c.args.width c.args.x c.args.y c.args.carry c.signed.result c.signed-2.result c.from.result c.fits.result c.signed.ensures.value c.signed-2.ensures.value c.from.ensures c.signed.ensures.least c.signed.ensures.most c.signed-2.ensures.least c.signed-2.ensures.most c.fits.ensures
