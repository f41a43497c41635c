use Rattle.type_soundness.proofs.activations.Whole.{sound_calls}
use Rattle.type_soundness.proofs.activations.sound_activation_laws.Goals as goal

pub returns : goal.returns
returns c = λ program again typed sound. sound_calls program again typed sound
