-- What an executable says of what its program is given.
use Rattle.std.specs.Prelude.{◌≡◌, ◌+◌, ◌%◌, ◌<◌, true}
use Rattle.mz_file.specs.declared.executable.Exe.{Exe}
use Rattle.smart_linker.specs.declared.unit.Setting.{Setting}

-- Its frames are marked, and the program has its stack, an odd number of bytes of which is counted one up, and its heap. The data end the image, and the flag is one of them.
pub record IsGiven (setting : Setting) (exe : Exe) : Type 0 where
  pub marked : exe.block.marked ≡ true
  pub stack : exe.block.stack ≡ setting.stack
  pub top : setting.stack < 65535 → exe.stack.offset ≡ setting.stack + setting.stack % 2
  pub heap : exe.block.heap ≡ setting.heap
  pub flag : exe.block.installed.segment ≡ exe.block.data_segment
