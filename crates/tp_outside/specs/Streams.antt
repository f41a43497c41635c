-- What a source gives and what a sink takes, where they tell their bytes.
use Rattle.std.specs.Prelude.{◌≡◌, ℕ, ◌≤◌, List, length, take, Option}
use Rattle.std.specs.Io.KnownBytes.{append_known, prepend_known}

-- A sink that held `old` holds `new`, having taken the first so many of the bytes.
pub record TakesPrefix (old new : Option (List ℕ)) (bytes : List ℕ) : Type 0 where
  pub count : ℕ
  pub within : count ≤ length bytes
  pub taken : new ≡ append_known old (take count bytes)

-- A source gave some bytes, or none.
pub record GaveSome (old new : Option (List ℕ)) : Type 0 where
  pub bytes : List ℕ
  pub given : old ≡ prepend_known bytes new
