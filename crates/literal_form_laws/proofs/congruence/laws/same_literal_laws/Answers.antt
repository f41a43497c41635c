use Rattle.literal_form_laws.proofs.congruence.Programs.{says_alike, memory_alike, has_memory_alike}
use Rattle.literal_form_laws.proofs.congruence.laws.same_literal_laws.Goals as goal

pub returns : goal.returns
returns c = record { says = says_alike; memory = memory_alike; executable = has_memory_alike }
