use Rattle.std.proofs.Common.{ap, subst, ◌∙◌, arith}
use Rattle.unit_file.specs.Reading.{reading, Gives}
use Rattle.unit_file.proofs.UnitLaws.{unit-found, unit-read}
use Rattle.unit_file.proofs.reading.read_unit.Goals as goal

pub returns-clause-found : goal.returns-clause-found
returns-clause-found c = unit-found c.args.bytes.now c.whole.result (λ k. omega (arith, c.type_inv.bytes k)) c.whole.ensures

pub returns-clause-only : goal.returns-clause-only
returns-clause-only c = λ unit fits spelled. subst (Gives c.whole.result) (ap reading spelled ∙ unit-read unit fits) c.whole.ensures
