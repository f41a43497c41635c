-- Steps and runs of the resident machine, and those that go astray.
use Rattle.std.specs.Prelude.{◌≡◌, ◌⊎◌, ℕ, zero, suc, List, ◌++◌, drop, Some, Ok, Err}
use Rattle.x86_table.specs.declared.instr.Instr.{Instr}
use Rattle.x86_table.specs.Spelling.{spelling}
use Rattle.resident_machine.specs.Program.{Program, code_of}
use Rattle.resident_machine.specs.Astray.{Astray}
use Rattle.resident_machine.specs.State.{ResidentState, Running, Service}
use Rattle.resident_machine.specs.Effect.{effect_of}
use Rattle.resident_machine.specs.Framed.{FramedAfter}

-- The instruction stands at IP, whole in the list that CS names.
pub record StandsAt (p : Program) (r : ResidentState) (i : Instr) : Type 0 where
  pub code : List ℕ
  pub named : code_of p r.cs ≡ Some code
  pub rest : List ℕ
  pub spelled : drop r.registers.ip code ≡ spelling i ++ rest

-- one event takes r, which runs, to t
pub record Goes (p : Program) (r t : ResidentState) (service : Service) : Type 0 where
  pub running : r.status ≡ Running
  pub instruction : Instr
  pub stands : StandsAt p r instruction
  pub result : effect_of p r instruction ≡ Ok (t, service)

-- no instruction stands at CS:IP
abbrev pub IsOffCode : Program → ResidentState → Type 0
IsOffCode p r = (i : Instr) → StandsAt p r i → ⊥

-- the instruction goes astray in this way
pub record Strays (p : Program) (r : ResidentState) (way : Astray) : Type 0 where
  pub instruction : Instr
  pub stands : StandsAt p r instruction
  pub result : effect_of p r instruction ≡ Err way

-- the next step of r, which runs, is astray
pub record IsAstray (p : Program) (r : ResidentState) : Type 0 where
  pub running : r.status ≡ Running
  pub cause : IsOffCode p r ⊎ ((way : Astray) × Strays p r way)

-- n events, none astray, take r to t
abbrev pub Runs : Program → ℕ → ResidentState → ResidentState → Type 0
Runs p zero r t = r ≡ t
Runs p (suc n) r t = (middle : ResidentState) × (service : Service) × Goes p r middle service × Runs p n middle t

-- and each is framed
abbrev pub RunsFramed : Program → ℕ → ResidentState → ResidentState → Type 0
RunsFramed p zero r t = r ≡ t
RunsFramed p (suc n) r t =
    (middle : ResidentState) × (service : Service) × Goes p r middle service × FramedAfter p service middle × RunsFramed p n middle t
