-- When an executable does what a typed program means.
use Rattle.std.specs.Prelude.{ℕ, List}
use Rattle.typed_tree.specs.declared.units.Program.{Program}
use Rattle.tp_meaning.specs.Meaning.{mean}
use Rattle.mz_file.specs.Format.{IsExecutable, exe_of}
use Rattle.mz_file.specs.Load.{FitsWithBuffer}
use Rattle.literal_programs.specs.literal_code.Ends.{EndsAs}

-- The bytes are an executable that fits below segment A000h; and with any input its run comes to the end that the program
-- means on this input, within whatever number of turns: with the same code, and the same bytes on its output and on its errors.
pub record Agrees (program : Program) (bytes : List ℕ) : Type 0 where
  pub executable : IsExecutable bytes
  pub fits : FitsWithBuffer (exe_of bytes) 0
  pub runs : (input : List ℕ) (turns : ℕ) → EndsAs bytes input (mean program input turns)
