-- Regions of memory that are set byte by byte.
use Rattle.std.proofs.Common.{◌≡◌, ℕ, ◌+◌, ◌*◌, arith, sym}
use mathlib.Core.Path.{fun_ext}
use Rattle.std.proofs.lemmas.Bool.Decides.{nat_tests}
use Rattle.flat_code.specs.declared.memory.Cell.{Cell}
use Rattle.flat_code.specs.Memory.{Cells, put, region}

region-none_at : (m : Cells) (segment low : ℕ) (c : Cell) (x : ℕ) → region m segment low 0 c x ≡ m x
region-none_at m segment low c x = grind (arith, nat_tests)

region-more_at : (m : Cells) (segment low n : ℕ) (c : Cell) (x : ℕ) → put (region m segment low n c) (16 * segment + low + n) c x ≡ region m segment low (n + 1) c x
region-more_at m segment low n c x = grind (arith, nat_tests)

pub region-none : (m : Cells) (segment low : ℕ) (c : Cell) → m ≡ region m segment low 0 c
region-none m segment low c = sym (fun_ext (region-none_at m segment low c))

pub region-more : (m : Cells) (segment low n : ℕ) (c : Cell) → put (region m segment low n c) (16 * segment + low + n) c ≡ region m segment low (n + 1) c
region-more m segment low n c = fun_ext (region-more_at m segment low n c)
