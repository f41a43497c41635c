use Rattle.rt_strings.proofs.long_integers.Laws as law
use Rattle.rt_strings.proofs.long_integers.number_laws.Goals as goal

pub returns-clause-negation : goal.returns-clause-negation
returns-clause-negation c = law.negation

pub returns-clause-product : goal.returns-clause-product
returns-clause-product c = law.product

pub returns-clause-less : goal.returns-clause-less
returns-clause-less c = law.less

pub returns-clause-quotient : goal.returns-clause-quotient
returns-clause-quotient c = law.quotient

pub returns-clause-remainder : goal.returns-clause-remainder
returns-clause-remainder c = law.remainder

pub returns-clause-sum : goal.returns-clause-sum
returns-clause-sum c = law.sum

pub returns-clause-difference : goal.returns-clause-difference
returns-clause-difference c = law.difference

pub returns-clause-equal : goal.returns-clause-equal
returns-clause-equal c = law.equal

pub returns-clause-left_shift : goal.returns-clause-left_shift
returns-clause-left_shift c = law.left_shift

pub returns-clause-right_shift : goal.returns-clause-right_shift
returns-clause-right_shift c = law.right_shift

pub returns-clause-range : goal.returns-clause-range
returns-clause-range c = law.range

pub returns-clause-between : goal.returns-clause-between
returns-clause-between c = law.between
