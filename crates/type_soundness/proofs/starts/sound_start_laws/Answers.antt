use Rattle.type_soundness.proofs.starts.FirstStore.{sound_start}
use Rattle.type_soundness.proofs.starts.Started.{mean_sound}
use Rattle.type_soundness.proofs.starts.sound_start_laws.Goals as goal

pub returns : goal.returns
returns c = record {
  store = λ program typed. sound_start program typed;
  whole = λ program typed sound. mean_sound program typed sound;
}
