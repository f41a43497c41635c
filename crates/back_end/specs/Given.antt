-- What the executable of a program gives it as it starts.
use Rattle.std.specs.Prelude.{◌≡◌, ◌++◌, ℕ, ◌+◌, min, List, true, codes, Some}
use Rattle.mz_file.specs.declared.executable.Exe.{Exe}
use Rattle.typed_tree.specs.declared.units.Unit.{Unit as TypedUnit}
use Rattle.typed_tree.specs.declared.units.Program.{Program}
use Rattle.tp_meaning.specs.Programs.{main_unit, stack_of, heap_of}
use Rattle.smart_linker.specs.declared.unit.Setting.{Setting}

-- what a program asks for: its stack, a heap of at most 196,608 bytes, and the name of its overlay file
abbrev pub setting_of : TypedUnit → Setting
setting_of main = record { stack = main.stack; heap = min main.heap 196608; file = main.name ++ codes ".OVR" }

-- Its frames are marked, and the program has the stack and the heap that its meaning gives it. The installed flag is one of its data.
pub record IsGivenTo (program : Program) (exe : Exe) : Type 0 where
  pub main : TypedUnit
  pub main_is : main_unit program ≡ Some main
  pub marked : exe.block.marked ≡ true
  pub stack : exe.block.stack ≡ main.stack
  pub top : exe.stack.offset ≡ stack_of program
  pub heap : exe.block.heap ≡ heap_of program
  pub flag : exe.block.installed.segment ≡ exe.block.data_segment
