-- The calls of an object in memory.
use Rattle.std.specs.Prelude.{ℕ, ◌+◌, ◌-◌, ◌^◌, min, List, Bool, nat_eq, if◌then◌else◌}
use Rattle.std.specs.List.{list_any}

-- Which calls fail, by their numbers from 1 on, how many calls there were, and how many faults.
pub record Calls : Type 0 where
  pub failing : List ℕ
  pub made : ℕ
  pub faults : ℕ

-- One more, up to the greatest u64.
abbrev pub one_more : ℕ → ℕ
one_more count = min (count + 1) (2 ^ 64 - 1)

-- Whether the next call is one of those that fail.
abbrev pub is_next_failing : Calls → Bool
is_next_failing calls = list_any (λ number. nat_eq number (one_more calls.made)) calls.failing

-- After a call more.
abbrev pub called : Calls → Calls
called calls = record calls { made = one_more calls.made }

-- After a fault more.
abbrev pub faulted : Calls → Calls
faulted calls = record calls { faults = one_more calls.faults }

-- After a call that fails exactly where it is one of those that fail.
abbrev pub after_call : Calls → Calls
after_call calls = if is_next_failing calls then faulted (called calls) else called calls
