use Rattle.std.proofs.Common.{◌≡◌, ℕ, ◌<◌, List, length, get_or}
use Rattle.mz_file.specs.Load.{image_byte}
use Rattle.mz_file.proofs.loading.place_image.Given as goal

pub record IsFilled (memory image : List ℕ) (end : ℕ) : Type 0 where
  pub size : length memory ≡ 1048576
  pub bytes : (address : ℕ) → address < end → get_or memory address 0 ≡ image_byte image address

abbrev pub invariant-loop-address : goal.invariant-loop-address
invariant-loop-address l = IsFilled l.machine.memory l.image l.address
