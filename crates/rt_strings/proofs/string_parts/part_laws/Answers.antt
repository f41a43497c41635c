use Rattle.rt_strings.proofs.string_parts.Copying.{copies}
use Rattle.rt_strings.proofs.string_parts.Deleting.{deletes}
use Rattle.rt_strings.proofs.string_parts.Letters.{makes-upper}
use Rattle.rt_strings.proofs.string_parts.part_laws.Goals as goal

pub returns-clause-copy : goal.returns-clause-copy
returns-clause-copy c = copies

pub returns-clause-delete : goal.returns-clause-delete
returns-clause-delete c = deletes

pub returns-clause-upper : goal.returns-clause-upper
returns-clause-upper c = makes-upper
