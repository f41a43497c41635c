use Rattle.rt_strings.proofs.objects.Finding.{finds-method}
use Rattle.rt_strings.proofs.objects.Classes.{tells-size}
use Rattle.rt_strings.proofs.objects.object_laws.Goals as goal

pub returns-clause-method : goal.returns-clause-method
returns-clause-method c = finds-method

pub returns-clause-size : goal.returns-clause-size
returns-clause-size c = tells-size
