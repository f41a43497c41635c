-- From 16 places on nothing is left.
use Rattle.std.proofs.Common.{sym, arith}
use Rattle.common_values.specs.integers.Words.{w16}
use Rattle.common_values.proofs.integers.WordLaws.{shifted_right-out}
use Rattle.common_values.proofs.integers.shifted_right.Goals as goal

pub returns-else-places-lt16 : goal.returns-else-places-lt16
returns-else-places-lt16 c = sym (shifted_right-out w16 c.args.word c.args.places c.ranges.word.fits (omega arith))
