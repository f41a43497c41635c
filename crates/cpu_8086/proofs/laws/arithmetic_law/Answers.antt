use Rattle.cpu_8086.proofs.ArithmeticLaws.{add_subtract, multiply_divide, divide_multiply}
use Rattle.cpu_8086.proofs.laws.arithmetic_law.Goals as goal

pub returns-clause-sum : goal.returns-clause-sum
returns-clause-sum c = add_subtract

pub returns-clause-product : goal.returns-clause-product
returns-clause-product c = multiply_divide

pub returns-clause-quotient : goal.returns-clause-quotient
returns-clause-quotient c = divide_multiply
