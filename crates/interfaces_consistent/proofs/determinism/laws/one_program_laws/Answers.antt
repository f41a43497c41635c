use Rattle.interfaces_consistent.proofs.determinism.Programs.{sources_alike, one_folder, never_refused}
use Rattle.interfaces_consistent.proofs.determinism.laws.one_program_laws.Goals as goal

pub returns-clause-alike : goal.returns-clause-alike
returns-clause-alike c = sources_alike

pub returns-clause-one : goal.returns-clause-one
returns-clause-one c = one_folder

pub returns-clause-never : goal.returns-clause-never
returns-clause-never c = never_refused
