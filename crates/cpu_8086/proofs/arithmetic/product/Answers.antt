use Rattle.std.proofs.Common.{sym, subst, ℤ}
use Rattle.std.specs.Int.RustNames.{FitsSigned}
use Rattle.cpu_8086.specs.Arithmetic.{double}
use Rattle.cpu_8086.proofs.SignedLaws.{product_fits, product_round}
use Rattle.cpu_8086.proofs.arithmetic.product.Goals as goal

pub returns-clause-fits : goal.returns-clause-fits
returns-clause-fits c =
    let w = c.args.width in
    let a = c.signed.result in
    let b = c.signed-2.result in
    let fits = product_fits w a b c.signed.ensures.least c.signed.ensures.most c.signed-2.ensures.least c.signed-2.ensures.most in
    let same = product_round w a b c.signed.ensures.least c.signed.ensures.most c.signed-2.ensures.least c.signed-2.ensures.most in
    subst (λ (z : ℤ). FitsSigned (double w) z) (sym same) fits
