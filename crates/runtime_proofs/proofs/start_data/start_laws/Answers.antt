use Rattle.std.specs.Prelude.{IsTrue}
use Rattle.runtime_proofs.proofs.start_data.Start.{start}
use Rattle.runtime_proofs.proofs.start_data.start_laws.Goals as goal

pub returns : goal.returns
returns c = record { start = λ program choice reached key unit datum offset legal firsts fits is other. start program choice (λ mention. IsTrue (reached mention)) legal firsts key unit datum offset is fits other }
