-- What is asked of a live activation, and what the code of every routine then does.
use Rattle.std.specs.Prelude.{◌≡◌, ℕ, ◌+◌, ◌<◌, ◌≤◌, IsTrue, Some, slice_get}
use Rattle.flat_code.specs.Calls.{activation_bytes, stack_top}
use Rattle.flat_code.specs.Legal.{Mention, ToRoutine}
use Rattle.flat_code.specs.Program.{Key, Routine, UnitCode}
use Rattle.statement_simulation.specs.flow.Sites.{World, Live, Fits}
use Rattle.statement_simulation.specs.flow.Lists.{CodeFlows}
use Rattle.call_simulation.specs.frames.Chain.{IsChained}
use Rattle.code_simulation.specs.bodies.Layouts.{Layout}

-- An activation of a routine: the code fits it, the program's constants are fixed, and the stack has what is left for it. In a routine of the sources SP and the sum of the frames make up the stack; in one of the runtime the chain that it begins, with the bytes given, has room.
pub record Suited (w : World) (x : Layout) (chain : Key → ℕ) (live : Live) (key : Key) (r : Routine) : Type 0 where
  pub fits : Fits w (x.site key) live
  pub chained : IsTrue w.framed → IsChained w live
  pub constants : (place byte : ℕ) → x.constants place ≡ Some byte → live.fixed place ≡ Some byte
  pub tall : 0 < r.frame → 512 ≤ live.frame.sp
  pub sum : 0 < r.frame → live.frame.sp + live.frame.sum ≡ stack_top w.program
  pub deep : r.frame ≡ 0 → 128 + chain key ≤ live.frame.sp + activation_bytes r

-- The body of each routine that is reached is followed by its code in each suited activation, if fewer turns are left than the bound.
abbrev pub Bodies : World → (Mention → Type 0) → Layout → (Key → ℕ) → ℕ → Type 0
Bodies w R x chain bound =
    (key : Key) (unit : UnitCode) (r : Routine) → R (ToRoutine key) → Some unit ≡ w.program.unit key.unit → Some r ≡ slice_get unit.routines key.number →
    (live : Live) → Suited w x chain live key r → CodeFlows w (x.site key) live bound (x.pointer key) r.body
