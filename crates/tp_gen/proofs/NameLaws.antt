-- The names of files are short.
use Rattle.std.proofs.Common.{ℕ, ◌^◌, ◌≤◌, ◌<◌, ◌++◌, length, codes, decimal, arith, length-append}
use Rattle.std.proofs.lemmas.Fmt.{length-decimal-le}

pub short_name : (number : ℕ) → number < 2 ^ 16 → length (codes "g" ++ (decimal number ++ codes ".pas")) ≤ 80
short_name number small =
    let digits : length (decimal number) ≤ 5 = length-decimal-le 5 number (omega arith) (omega arith) (omega arith) in
    omega (arith, length-append (decimal number) (codes ".pas"))
