-- One event of a process that stands for a state of a program without overlays, and what it leaves of bytes that are kept.
use Rattle.std.proofs.Common.{◌≡◌, ℕ, ◌==◌, Bool, true, false, List, [], ◌++◌, drop, Some, Ok, refl, sym, ap, ◌∙◌, subst, arith, eq-eqb, eqb-true}
use Rattle.std.specs.Prelude.{if◌then◌else◌}
use Rattle.x86_table.specs.declared.instr.Instr.{Instr}
use Rattle.x86_table.specs.Spelling.{spelling}
use Rattle.cpu_8086.specs.declared.registers.Registers.{Registers}
use Rattle.cpu_8086.specs.Process as process
use Rattle.cpu_8086.specs.Process.{Process, after_step}
use Rattle.cpu_8086.specs.Run as plain
use Rattle.cpu_8086.specs.Step.{effect, fetched}
use Rattle.cpu_8086.proofs.RunLaws.{goes_by, goes_deterministic}
use Rattle.cpu_8086.proofs.StepLaws.{steps_by}
use Rattle.resident_machine.specs.Program.{Image, Program, code_of}
use Rattle.resident_machine.specs.Cells.{Kept, Cells}
use Rattle.resident_machine.specs.Effect.{effect_of}
use Rattle.resident_machine.specs.Run.{Goes}
use Rattle.resident_machine.specs.Standing.{number_of, PairWord, pair_words, HoldsCode, HoldsMemory, StandsFor, status_of}
use Rattle.resident_machine.specs.State.{ResidentState, Running, Service}
use Rattle.resident_machine.proofs.RunLaws.{goes_alike}
use Rattle.overlay_simulation.specs.Plain.{IsOwn, GoesAlone}
use Rattle.overlay_simulation.proofs.EventLaws.{fetched_code}
use Rattle.overlay_simulation.proofs.MirrorLaws.{bare}

-- ## Two blocks of code

-- these bytes at one segment, those at another, and none elsewhere
abbrev pub blocks : ℕ → List ℕ → ℕ → List ℕ → ℕ → List ℕ
blocks a code b other segment = if segment == a then code else (if segment == b then other else [])

no_code : (cells : Cells) (memory : List ℕ) (segment : ℕ) → HoldsCode cells memory segment []
no_code cells memory segment = record { size = omega arith; bytes = λ offset lt. absurd (omega arith) }

held_blocks : (cells : Cells) (memory : List ℕ) (a b : ℕ) (code other : List ℕ) (segment : ℕ) → HoldsCode cells memory a code → HoldsCode cells memory b other → HoldsCode cells memory segment (blocks a code b other segment)
held_blocks cells memory a b code other segment first second = by (segment == a) refl (segment == b) refl
  where
    by : (x : Bool) → (segment == a) ≡ x → (y : Bool) → (segment == b) ≡ y → HoldsCode cells memory segment (if x then code else (if y then other else []))
    by true is y apart = subst (λ (z : ℕ). HoldsCode cells memory z code) (sym (eqb-true segment a is)) first
    by false is true at = subst (λ (z : ℕ). HoldsCode cells memory z other) (sym (eqb-true segment b at)) second
    by false is false at = no_code cells memory segment

first_block : (a b : ℕ) (code other : List ℕ) → blocks a code b other a ≡ code
first_block a b code other = rw (eq-eqb a a refl) refl

second_block : (a b : ℕ) (code other : List ℕ) → (b ≡ a → other ≡ code) → blocks a code b other b ≡ other
second_block a b code other same = by (b == a) refl
  where
    by : (x : Bool) → (b == a) ≡ x → (if x then code else (if b == b then other else [])) ≡ other
    by true is = sym (same (eqb-true b a is))
    by false is = rw (eq-eqb b b refl) refl

-- ## Other code

pub held_by : (p s : Program) (ss : ℕ) (cells : Cells) (memory : List ℕ) (ws : List PairWord) → HoldsMemory p ss cells memory ws → ((segment : ℕ) (code : List ℕ) → s.image segment ≡ Some code → HoldsCode cells memory segment code) → HoldsMemory s ss cells memory ws
held_by p s ss cells memory ws h code = record { size = h.size; outside = h.outside; known = h.known; code = code; words = h.words }

-- what stands for a state in one program stands for it in another whose code stands too
pub stands_by : (p s : Program) (r : ResidentState) (q : Process) → StandsFor p r q → ((segment : ℕ) (code : List ℕ) → s.image segment ≡ Some code → HoldsCode r.cells q.machine.memory segment code) → StandsFor s r q
stands_by p s r q h code = record {
  registers = h.registers;
  cs = h.cs;
  memory = held_by p s r.registers.ss r.cells q.machine.memory (pair_words r) h.memory code;
  input = h.input;
  taken = h.taken;
  out = h.out;
  err = h.err;
  status = h.status;
}

-- no code at all
abbrev pub none : ℕ → List ℕ
none segment = []

pub stands_bare : (p s : Program) (r : ResidentState) (q : Process) → StandsFor s r q → StandsFor (bare p none) r q
stands_bare p s r q h = stands_by s (bare p none) r q h (λ segment code named. (let same : [] ≡ code = cc in subst (λ (xs : List ℕ). HoldsCode r.cells q.machine.memory segment xs) same (no_code r.cells q.machine.memory segment)))

-- ## One event

-- The process stands for the state but for code, and an instruction stands in code at CS that is kept.
pub record IsAt (p : Program) (x : ResidentState) (q : Process) (i : Instr) : Type 0 where
  pub segment : ℕ
  pub cs : x.cs ≡ Image segment
  pub running : x.status ≡ Running
  pub stands : StandsFor (bare p none) x q
  pub code : List ℕ
  pub held : HoldsCode x.cells q.machine.memory segment code
  pub rest : List ℕ
  pub spelled : drop x.registers.ip code ≡ spelling i ++ rest

-- What the instruction leads to in a program of these bytes of code; what is kept there is kept in the cells.
pub record Comes (p : Program) (x : ResidentState) (i : Instr) (cells : Cells) (bytes : ℕ → List ℕ) : Type 0 where
  pub there : ResidentState
  pub follows : Service
  pub result : effect_of (bare p bytes) x i ≡ Ok (there, follows)
  pub keeps : (place : ℕ) → there.cells place ≡ Kept → cells place ≡ Kept

module _ (p : Program) (x : ResidentState) (q : Process) (i : Instr) (at : IsAt p x q i) where
  abbrev pub stepped : Process
  stepped = after_step q (effect q.machine i).0 (effect q.machine i).1

  pub fetched_here : (more : List ℕ) × (fetched q.machine ≡ spelling i ++ more)
  fetched_here =
      let cs : q.machine.cs ≡ at.segment = at.stands.cs ∙ ap number_of at.cs in
      let held = subst (λ (n : ℕ). HoldsCode x.cells q.machine.memory n at.code) (sym cs) at.held in
      let spelled = ap (λ (g : Registers). drop g.ip at.code) at.stands.registers ∙ at.spelled in
      fetched_code q.machine x.cells at.code at.rest i held spelled

  pub running : q.status ≡ process.Running
  running = at.stands.status ∙ ap status_of at.running

  pub goes_here : plain.Goes q stepped
  goes_here = goes_by q i fetched_here.0 running fetched_here.1

  pub alone : IsOwn (effect q.machine i).1 → GoesAlone q stepped
  alone own = record {
    running = running;
    machine = (effect q.machine i).0;
    event = (effect q.machine i).1;
    steps = steps_by q.machine i fetched_here.0 fetched_here.1;
    own = own;
    result = refl;
  }

-- ## What it leaves

module _ (p : Program) (x : ResidentState) (q : Process) (i : Instr) (at : IsAt p x q i) (cells : Cells) (comes : (bytes : ℕ → List ℕ) → Comes p x i cells bytes) where
  abbrev after : Process
  after = stepped p x q i at

  -- in a program of the code at CS and of other bytes that are kept
  stands_after : (b : ℕ) (other : List ℕ) → HoldsCode x.cells q.machine.memory b other → StandsFor (bare p (blocks at.segment at.code b other)) (comes (blocks at.segment at.code b other)).there after
  stands_after b other held =
      let bytes : ℕ → List ℕ = blocks at.segment at.code b other in
      let to = comes bytes in
      let code : (segment : ℕ) (xs : List ℕ) → Some (bytes segment) ≡ Some xs → HoldsCode x.cells q.machine.memory segment xs =
      λ segment xs is. (let same : bytes segment ≡ xs = cc in subst (λ (ys : List ℕ). HoldsCode x.cells q.machine.memory segment ys) same (held_blocks x.cells q.machine.memory at.segment b at.code other segment at.held held)) in
      let stands = stands_by (bare p none) (bare p bytes) x q at.stands code in
      let named : code_of (bare p bytes) x.cs ≡ Some at.code = ap (code_of (bare p bytes)) at.cs ∙ ap Some (first_block at.segment b at.code other) in
      let goes : Goes (bare p bytes) x to.there to.follows = record { running = at.running; instruction = i; stands = record { code = at.code; named = named; rest = at.rest; spelled = at.spelled }; result = to.result } in
      let end = goes_alike (bare p bytes) refl x to.there to.follows q stands goes in
      subst (λ (u : Process). StandsFor (bare p bytes) to.there u) (goes_deterministic q end.0 after end.1 (goes_here p x q i at)) end.2

  -- so these bytes stand as they stood
  pub stays : (b : ℕ) (other : List ℕ) → (b ≡ at.segment → other ≡ at.code) → HoldsCode x.cells q.machine.memory b other → HoldsCode cells after.machine.memory b other
  stays b other same held =
      let h = (stands_after b other held).memory.code b other (ap Some (second_block at.segment b at.code other same)) in
      record {
        size = h.size;
        bytes = λ offset lt. record { value = (h.bytes offset lt).value; kept = (comes (blocks at.segment at.code b other)).keeps _ (h.bytes offset lt).kept };
      }

  abbrev pub end_bytes : ℕ → List ℕ
  end_bytes = blocks at.segment at.code at.segment at.code

  pub stands_there : StandsFor (bare p none) (comes end_bytes).there after
  stands_there = stands_bare p (bare p end_bytes) (comes end_bytes).there after (stands_after at.segment at.code at.held)
