-- What is shown of a program that is never stopped, over plain variables.
use Rattle.std.proofs.Common.{◌≡◌, ℕ, ◌<◌, List, sym, ap, ◌∙◌}
use Rattle.std.specs.Prelude.{◌≢◌, All}
use Rattle.common_values.specs.behaviour.Seen.{Seen, Stopped}
use Rattle.typed_tree.specs.declared.units.Program.{Program}
use Rattle.tp_meaning.specs.Meaning.{mean, IsNeverStopped}

-- a program that is never stopped is not stopped on this input
pub stands_somewhere : (program : Program) (turns : ℕ) (seen : Seen) (bytes : List ℕ) → IsNeverStopped program → All (λ byte. byte < 256) bytes → seen ≡ mean program bytes turns → seen.end ≢ Stopped
stands_somewhere program turns seen bytes never small is = λ stopped. never bytes small turns (ap (λ (s : Seen). s.end) (sym is) ∙ stopped)
