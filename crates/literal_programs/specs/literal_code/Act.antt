-- What an act does with the pool of bytes that it lies in.
use Rattle.std.specs.Prelude.{ℕ, ◌+◌, ◌≤◌, ◌<◌, List, map, take, drop}
use Rattle.literal_programs.specs.declared.literal_code.act.Act.{Act}
use Rattle.literal_programs.specs.declared.literal_code.act.Act.TheVariants as act
use Rattle.literal_programs.specs.literal_code.Statement.{Statement, write, halt}

-- the pool up to here is needed by the act
abbrev pub end_of : Act → ℕ
end_of (act.Write from length) = from + length
end_of (act.Halt code) = 0

-- the code with which the act ends the program
abbrev pub end_code : Act → ℕ
end_code (act.Write from length) = 0
end_code (act.Halt code) = code

-- what an act writes lies in the first n bytes of the pool, and a code is a byte
pub record IsWithin (n : ℕ) (a : Act) : Type 0 where
  pub in_pool : end_of a ≤ n
  pub code : end_code a < 256

abbrev pub statement_of : List ℕ → Act → Statement
statement_of pool (act.Write from length) = write (take length (drop from pool))
statement_of pool (act.Halt code) = halt code

abbrev pub statements_in : List ℕ → List Act → List Statement
statements_in pool acts = map (statement_of pool) acts
