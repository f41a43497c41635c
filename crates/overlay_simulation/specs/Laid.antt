-- When a process stands for a resident state whose code and return pairs stand elsewhere than they are named.
use Rattle.std.specs.Prelude.{ℕ, List, [], ◌∷◌, map}
use Rattle.cpu_8086.specs.declared.registers.Far.{Far}
use Rattle.cpu_8086.specs.Process.{Process}
use Rattle.resident_machine.specs.Program.{Segment, Image, Program}
use Rattle.resident_machine.specs.Standing.{number_of, StandsFor}
use Rattle.resident_machine.specs.State.{Record, ResidentStatus, Running, Ended, Stopped, ResidentState}

-- the records with these pairs at their places
abbrev pub with_pairs : List Record → List Far → List Record
with_pairs [] pairs = []
with_pairs (x ∷ records) [] = []
with_pairs (x ∷ records) (pair ∷ pairs) =
    record { place = x.place; segment = Image pair.segment; offset = pair.offset } ∷ with_pairs records pairs

abbrev pub status_by : (Segment → ℕ) → ResidentStatus → ResidentStatus
status_by number Running = Running
status_by number (Ended code) = Ended code
status_by number (Stopped segment offset why) = Stopped (Image (number segment)) offset why

-- The state as memory has it: code stands at the segments that the one function gives, and the words of return pairs are
-- those that the other gives, topmost first.
abbrev pub laid : (Segment → ℕ) → (List Record → List Far) → ResidentState → ResidentState
laid number pairs r = record r {
  cs = Image (number r.cs);
  records = with_pairs r.records (pairs r.records);
  status = status_by number r.status;
}

abbrev pub StandsBy : (Segment → ℕ) → (List Record → List Far) → Program → ResidentState → Process → Type 0
StandsBy number pairs p r q = StandsFor p (laid number pairs r) q

-- the pairs by the names of their segments
abbrev pub named_pair : Record → Far
named_pair x = record { offset = x.offset; segment = number_of x.segment }

abbrev pub named_pairs : List Record → List Far
named_pairs records = map named_pair records
