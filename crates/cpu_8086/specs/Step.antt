-- One step: the instruction that stands at CS:IP.
use Rattle.std.specs.Prelude.{◌≡◌, ◌≢◌, ◌⊎◌, ℕ, ◌+◌, ◌%◌, List, [], ◌∷◌, ◌++◌, length}
use Rattle.x86_table.specs.declared.instr.Instr.{Instr}
use Rattle.x86_table.specs.Spelling.{spelling}
use Rattle.cpu_8086.specs.declared.machine.Event.{Event}
use Rattle.cpu_8086.specs.declared.machine.Event.TheVariants.{Unknown}
use Rattle.cpu_8086.specs.declared.registers.Registers.{Registers}
use Rattle.cpu_8086.specs.State.{State}
use Rattle.cpu_8086.specs.Memory.{load_byte}
use Rattle.cpu_8086.specs.Access.{on_memory, at_offset}
use Rattle.cpu_8086.specs.Effect.{act}

-- the byte so far behind CS:IP
abbrev pub code_byte : State → ℕ → ℕ
code_byte s k = load_byte s.memory s.cs ((s.registers.ip + k) % 65536)

-- the eight bytes from CS:IP on: no instruction is longer
unfoldable pub fetched : State → List ℕ
fetched s = code_byte s 0 ∷ code_byte s 1 ∷ code_byte s 2 ∷ code_byte s 3 ∷ code_byte s 4 ∷ code_byte s 5 ∷ code_byte s 6 ∷ code_byte s 7 ∷ []

-- the registers with IP past an instruction
abbrev pub past : Instr → Registers → Registers
past i g = at_offset g ((g.ip + length (spelling i)) % 65536)

-- what an instruction makes of a state, and the event
unfoldable pub effect : State → Instr → State × Event
effect s i = on_memory s (act (past i s.registers) i) s.memory

-- an instruction is spelled at CS:IP, and its effect is t and the event
pub record Executes (s t : State) (event : Event) : Type 0 where
  pub instruction : Instr
  pub rest : List ℕ
  pub spelled : fetched s ≡ spelling instruction ++ rest
  pub state : t ≡ (effect s instruction).0
  pub reports : event ≡ (effect s instruction).1

-- no instruction is spelled there: nothing changes
pub record MeetsUnknown (s t : State) (event : Event) : Type 0 where
  pub unspelled : (i : Instr) (rest : List ℕ) → fetched s ≢ spelling i ++ rest
  pub state : t ≡ s
  pub reports : event ≡ Unknown s.cs s.registers.ip

-- one step takes s to t, with this event
abbrev pub Steps : State → State → Event → Type 0
Steps s t event = Executes s t event ⊎ MeetsUnknown s t event
