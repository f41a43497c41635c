-- The ways in which a step of the resident machine goes astray: it does what no machine with moving code could follow.
use Rattle.std.specs.Prelude.{Result, Ok, Err}

pub data Astray : Type 0 where
  -- a far call or jump to a segment that names no code, or into a stub where no entry is
  LeadsNowhere : Astray
  -- a byte of a far return pair is read or written
  TouchesReturn : Astray
  -- a byte is read or written that is a stub's, code, the buffer's, one of the first 400h, or behind the extra memory
  TouchesKept : Astray
  -- a byte is read, and not only moved, that is not known
  ReadsUnknown : Astray
  -- CS is taken as a value, but by PUSH CS before a near call
  TakesCodeSegment : Astray
  -- PUSH CS is not followed by a near call
  LeavesHalf : Astray
  -- a far return takes what is not the topmost pair
  ReturnsElsewhere : Astray
  -- INT 3Fh
  Traps : Astray
  -- INT 60h in an overlay, whose code would go out under it
  ClearsItself : Astray
  -- the installed flag becomes 0 and was not
  Uninstalls : Astray
  -- SS changes, where the return pairs have their places
  MovesStack : Astray

-- what follows where nothing went astray
abbrev pub and_then : {A B : Type 0} → Result A Astray → (A → Result B Astray) → Result B Astray
and_then (Ok x) next = next x
and_then (Err way) next = Err way
