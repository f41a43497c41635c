use Rattle.rt_strings.proofs.Numbers.{numbers-work, is-runtime}
use Rattle.rt_strings.proofs.Strings.{strings-work, sets-work, access-works}
use Rattle.rt_strings.proofs.Leaves.{leaves}
use Rattle.rt_strings.proofs.routine_laws.Goals as goal

pub returns-clause-numbers : goal.returns-clause-numbers
returns-clause-numbers c = numbers-work

pub returns-clause-runtime : goal.returns-clause-runtime
returns-clause-runtime c = is-runtime

pub returns-clause-strings : goal.returns-clause-strings
returns-clause-strings c = strings-work

pub returns-clause-sets : goal.returns-clause-sets
returns-clause-sets c = sets-work

pub returns-clause-access : goal.returns-clause-access
returns-clause-access c = access-works

pub returns-clause-leaves : goal.returns-clause-leaves
returns-clause-leaves c = leaves
