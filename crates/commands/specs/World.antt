-- What stands outside a command: the files, the input, the output and the errors, where they tell what they hold,
-- and their counts of faults.
use Rattle.std.specs.Prelude.{◌≡◌, ℕ, List, Option, Some, None}
use Rattle.tp_outside.specs.Folder.{Folder}
use Rattle.dos_runner.specs.Outside.{Outside}

pub record World : Type 0 where
  pub folder : Option Folder
  pub files_faults : ℕ
  pub streams : Outside

abbrev pub world : Option Folder → ℕ → Option (List ℕ) → Option (List ℕ) → Option (List ℕ) → ℕ → ℕ → ℕ → World
world folder files_faults input output errors input_faults output_faults errors_faults = record {
  folder = folder;
  files_faults = files_faults;
  streams = record {
    input = input;
    output = output;
    errors = errors;
    input_faults = input_faults;
    output_faults = output_faults;
    errors_faults = errors_faults;
  };
}

-- A folder is told, and the file of this name holds these bytes.
abbrev pub Holds : Option Folder → List ℕ → List ℕ → Type 0
Holds None file bytes = ⊥
Holds (Some folder) file bytes = folder file ≡ Some bytes

-- A folder is told, and there is no file of this name.
abbrev pub Lacks : Option Folder → List ℕ → Type 0
Lacks None file = ⊥
Lacks (Some folder) file = folder file ≡ None

-- No file changed, and the streams are as they were.
pub record IsUntouched (old new : World) : Type 0 where
  pub folder : new.folder ≡ old.folder
  pub streams : new.streams ≡ old.streams
