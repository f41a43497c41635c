-- The activation that a call begins, and the state of the machine as its routine is entered and as it is left.
use Rattle.std.specs.Prelude.{◌≡◌, ℕ, ◌+◌, ◌-◌, ◌*◌, ◌/◌, ◌%◌, ◌==◌, ◌<◌, ◌≤◌, Bool, true, false, IsTrue, if◌then◌else◌, List, [], ◌∷◌, length, Option, Some}
use Rattle.flat_code.specs.Program.{Name, Routine, UnitCode}
use Rattle.flat_code.specs.Values.{Frame}
use Rattle.flat_code.specs.Calls.{frame_of, link_bytes}
use Rattle.cpu_8086.specs.declared.registers.Registers.{Registers}
use Rattle.resident_machine.specs.Cells.{is_free}
use Rattle.resident_machine.specs.Program.{Segment}
use Rattle.resident_machine.specs.State.{Record, ResidentState}
use Rattle.resident_machine.specs.machine_lines.Words.{HoldsWord}
use Rattle.statement_simulation.specs.expressions.Active.{IsKept}
use Rattle.effect_simulation.specs.effects.Pushed.{HoldsWords}
use Rattle.statement_simulation.specs.flow.Sites.{World, Live}

-- where a call comes back to
pub record Back : Type 0 where
  pub segment : Segment
  pub offset : ℕ

-- the bytes of the return address
abbrev pub return_bytes : Bool → ℕ
return_bytes far = if far then 4 else 2

-- ## The activation

-- the offset of the word that keeps the caller's BP: BP of the activation
abbrev pub saved_at : Routine → Frame → ℕ
saved_at r f = f.sp - (r.arguments + link_bytes r.far)

-- the word that a frame keeps: the caller's BP, and 1 more in a far routine
abbrev pub kept_bp : Bool → ℕ → ℕ
kept_bp true bp = bp + 1
kept_bp false bp = bp

-- a word more is fixed, at a linear address
abbrev pub with_fixed : (ℕ → Option ℕ) → ℕ → ℕ → ℕ → Option ℕ
with_fixed fixed a v place = if place == a then Some (v % 256) else (if place == a + 1 then Some (v / 256) else fixed place)

-- a near return address is fixed too; a far one is a record
abbrev pub fixed_return : Bool → (ℕ → Option ℕ) → ℕ → ℕ → ℕ → Option ℕ
fixed_return true fixed a v = fixed
fixed_return false fixed a v = with_fixed fixed a v

abbrev pub with_return : Bool → ℕ → Back → List Record → List Record
with_return true place back records = record { place = place; segment = back.segment; offset = back.offset } ∷ records
with_return false place back records = records

-- the activation of a routine that was called from another one
abbrev pub callee : World → Name → UnitCode → Routine → Live → Back → Live
callee w name unit r live back = record {
  frame = frame_of name unit r live.frame;
  fixed = with_fixed (fixed_return r.far live.fixed (16 * w.choice.stack_segment + saved_at r live.frame + 2) back.offset) (16 * w.choice.stack_segment + saved_at r live.frame) (kept_bp r.far live.frame.bp);
  records = with_return r.far (saved_at r live.frame + 2) back live.records;
}

-- ## The machine

-- The return address stands at SP: as a record on top, or as a word in the code's own segment.
abbrev pub Returns : Bool → Back → Segment → ResidentState → ResidentState → Type 0
Returns true back cs r t = t.records ≡ record { place = t.registers.sp; segment = back.segment; offset = back.offset } ∷ r.records
Returns false back cs r t = (t.records ≡ r.records) × HoldsWord t.cells r.registers.ss t.registers.sp back.offset × (back.offset < 65536) × (back.segment ≡ cs)

-- a byte of a far return address that stands at SP
abbrev pub IsPaired : Bool → Registers → ℕ → Type 0
IsPaired true g place = (16 * g.ss + g.sp ≤ place) × (place < 16 * g.ss + g.sp + 4)
IsPaired false g place = ⊥

-- From r, which stands for the caller, the machine came to the routine's first line: the arguments and the return address stand on the stack, and all else is as it was but for the stack below.
pub record Entered (live : Live) (far : Bool) (back : Back) (cs : Segment) (vs : List ℕ) (r t : ResidentState) : Type 0 where
  pub sp : t.registers.sp + return_bytes far + 2 * length vs ≡ live.frame.sp
  pub bp : t.registers.bp ≡ r.registers.bp
  pub ss : t.registers.ss ≡ r.registers.ss
  pub ds : t.registers.ds ≡ r.registers.ds
  pub direction : t.registers.direction ≡ r.registers.direction
  pub bytes : (place : ℕ) → IsKept r.registers place → t.cells place ≡ r.cells place
  pub words : HoldsWords t.cells r.registers.ss r.registers.sp vs
  pub return : Returns far back cs r t
  pub free : (place : ℕ) → IsTrue (is_free (r.cells place)) → (IsPaired far t.registers place → ⊥) → IsTrue (is_free (t.cells place))
  pub input : t.input ≡ r.input
  pub taken : t.taken ≡ r.taken
  pub out : t.out ≡ r.out
  pub err : t.err ≡ r.err

-- the bytes of a result lie in AL, AX or DX:AX
abbrev pub HoldsResult : List ℕ → Registers → Type 0
HoldsResult [] g = Unit {0}
HoldsResult (a ∷ []) g = g.ax % 256 ≡ a
HoldsResult (a ∷ b ∷ []) g = (g.ax ≡ a + 256 * b) × (a < 256) × (b < 256)
HoldsResult (a ∷ b ∷ c ∷ d ∷ []) g = (g.ax ≡ a + 256 * b) × (g.dx ≡ c + 256 * d) × (a < 256) × (b < 256) × (c < 256) × (d < 256)
HoldsResult _ g = ⊥

-- the same by the linear address at which the return address stands
abbrev pub IsPairedAt : Bool → ℕ → ℕ → Type 0
IsPairedAt true a place = (a ≤ place) × (place < a + 4)
IsPairedAt false a place = ⊥
