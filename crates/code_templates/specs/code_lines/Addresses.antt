-- Where the things lie that code refers to, and what a routine's code is made for.
use Rattle.std.specs.Prelude.{ℕ, Bool, Option, Some, None}
use Rattle.flat_code.specs.declared.memory.Place.{Place}
use Rattle.flat_code.specs.Program.{Name, Key, UnitCode, named}

-- Offsets of data and virtual method tables in the data segment, offsets of routines in their own segment, and far pointers to routines. The error routine takes its code in AX; two effects of the machine are routines: one clears the overlay buffer, the other sets the installed flag.
pub record Addresses : Type 0 where
  pub data_segment : ℕ
  pub datum : Key → ℕ
  pub vmt : Key → ℕ
  pub near : Key → ℕ
  pub far : Key → Place
  pub error_routine : Place
  pub clear_routine : Place
  pub flag_routine : Place

-- the addresses, the unit with its name, and whether the routine is far whose code is made
pub record Context : Type 0 where
  pub addresses : Addresses
  pub own : Name
  pub unit : UnitCode
  pub far : Bool

abbrev pub name_or_own : Name → Option Name → Name
name_or_own own None = own
name_or_own own (Some name) = name

-- what a node names by a unit's place in the names and a number
abbrev pub key_in : Context → ℕ → ℕ → Key
key_in x unit number = record { unit = name_or_own x.own (named x.own x.unit.names unit); number = number }
