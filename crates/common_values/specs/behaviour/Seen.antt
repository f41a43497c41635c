-- What a bounded run shows, and what it is for one bounded run to follow another.
use Rattle.std.specs.Prelude.{◌≡◌, ℕ, ◌≤◌, List, ◌++◌}

-- how a run stands when its bound is reached: it ended with a code, it goes on, it came to an act that the language leaves open, or it could not go on
pub data Standing : Type 0 where
  Ended : (code : ℕ) → Standing
  Going : Standing
  Undefined : (act : ℕ) → Standing
  Stopped : Standing

-- the bytes written to the output and to the errors, and how the run stands
pub record Seen : Type 0 where
  pub out : List ℕ
  pub err : List ℕ
  pub end : Standing

-- what a run that stands so, with bound n, asks of the run that shows it, with bound m
abbrev pub Stands : ℕ → ℕ → Standing → Standing → Type 0
Stands n m (Ended code) end = end ≡ Ended code
Stands n m Going end = (n ≤ m) × (end ≡ Going)
Stands n m (Undefined act) end = Unit {0}
Stands n m Stopped end = end ≡ Stopped

-- y, with bound m, shows what x shows with bound n: it wrote the same, and it ended alike, or goes on alike and was given no less
pub record Shows (n m : ℕ) (x y : Seen) : Type 0 where
  pub out : y.out ≡ x.out
  pub err : y.err ≡ x.err
  pub stands : Stands n m x.end y.end

-- each run of the source is shown by some run of the target
abbrev pub Follows : (ℕ → Seen) → (ℕ → Seen) → Type 0
Follows source target = (n : ℕ) → (m : ℕ) × Shows n m (source n) (target m)

-- the second list begins with the first
abbrev pub Begins : List ℕ → List ℕ → Type 0
Begins xs ys = (rest : List ℕ) × (ys ≡ xs ++ rest)

-- the run is over: a greater bound changes nothing
abbrev pub IsOver : Standing → Type 0
IsOver (Ended code) = Unit {0}
IsOver Going = ⊥
IsOver (Undefined act) = Unit {0}
IsOver Stopped = Unit {0}

abbrev pub IsUndefined : Standing → Type 0
IsUndefined (Ended code) = ⊥
IsUndefined Going = ⊥
IsUndefined (Undefined act) = Unit {0}
IsUndefined Stopped = ⊥

-- a run under growing bounds: once over it stays as it is, and what it wrote stays written
pub record IsRun (run : ℕ → Seen) : Type 0 where
  pub over : (n m : ℕ) → n ≤ m → IsOver (run n).end → run m ≡ run n
  pub out : (n m : ℕ) → n ≤ m → Begins (run n).out (run m).out
  pub err : (n m : ℕ) → n ≤ m → Begins (run n).err (run m).err
