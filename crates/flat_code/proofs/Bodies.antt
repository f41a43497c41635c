-- What a call comes to, from what the body of its routine comes to.
use Rattle.std.proofs.Common.{◌≡◌, ℕ, ◌+◌, ◌*◌, ◌≤◌, Bool, true, false, List, length, Option, Some, Ok, refl, ap, ◌∙◌}
use Rattle.std.specs.Prelude.{if◌then◌else◌, ◌==◌, ◌&&◌, not, nat_lt, slice_get}
use Rattle.std.proofs.Common.{eq-eqb}
use Rattle.std.proofs.lemmas.Bool.{le-ltb}
use Rattle.flat_code.specs.declared.tree.FlatResult.{FlatResult}
use Rattle.flat_code.specs.Memory.{Found}
use Rattle.flat_code.specs.Program.{Key, Routine, UnitCode, FlatProgram, Choice}
use Rattle.flat_code.specs.Meaning.{Frame, State, Outcome, Next, Returned, with_found, with_cells, activation_bytes, stack_top, is_too_deep, frame_of, opened, closed, result_bytes, give, ended, finished, activated, tested, admitted, called, run}
use Rattle.flat_code.proofs.Steps.{called-entered}

if-true : (b : Bool) (x y : Outcome) → b ≡ true → (if b then x else y) ≡ x
if-true b x y e = ap (λ b. if b then x else y) e

if-false : (b : Bool) (x y : Outcome) → b ≡ false → (if b then x else y) ≡ y
if-false b x y e = ap (λ b. if b then x else y) e

-- the body came to its end in a state
pub record ComesTo (o : Outcome) (s : State) : Type 0 where
  pub finishes : (go : State → Outcome) → finished o go ≡ go s

pub next-comes : (s : State) → ComesTo (Next s) s
next-comes s = record { finishes = λ go. refl }

pub returned-comes : (s : State) → ComesTo (Returned s) s
returned-comes s = record { finishes = λ go. refl }

-- a routine of the runtime stands in its unit, is not overlaid, and takes what is handed over; the stack has room for it
pub record Stands (program : FlatProgram) (key : Key) (unit : UnitCode) (r : Routine) (args : List ℕ) (f : Frame) : Type 0 where
  pub unit_is : Some unit ≡ program.unit key.unit
  pub routine_is : Some r ≡ slice_get unit.routines key.number
  pub resident : program.overlaid key.unit ≡ false
  pub untested : r.frame ≡ 0
  pub fits : 2 * length args ≡ r.arguments
  pub room : activation_bytes r ≤ f.sp

-- the state in which its body begins
abbrev pub inside : Choice → Routine → List ℕ → Frame → State → State
inside choice r args f s = with_cells s (opened choice r f args s.cells)

pub call-comes : (program : FlatProgram) (choice : Choice) (key : Key) (unit : UnitCode) (r : Routine) (args : List ℕ) (wanted : Option FlatResult) (f : Frame) (s u : State) (bytes : List ℕ) → Stands program key unit r args f →
    ComesTo (run program choice r.body (frame_of key.unit unit r f) (inside choice r args f s)) u → result_bytes choice (frame_of key.unit unit r f) u.cells r.result ≡ Ok bytes →
    called program choice (run program choice) args wanted f s key ≡ give choice f wanted bytes (with_cells u (closed choice r f u.cells))
call-comes program choice key unit r args wanted f s u bytes stands comes given =
    let again = run program choice in
    let g = frame_of key.unit unit r f in
    let after : State → Outcome = ended choice r g f wanted in
    let shallow : is_too_deep program r f.sum ≡ false = ap (λ n. nat_lt 0 n && nat_lt (stack_top program) (f.sum + n + 512)) stands.untested in
    called-entered program choice again args wanted f s key unit r stands.unit_is stands.routine_is
    ∙ if-true (2 * length args == r.arguments) (admitted program choice again key.unit unit r args wanted f s) _ (eq-eqb (2 * length args) r.arguments stands.fits)
    ∙ if-false (program.overlaid key.unit && not s.flag) _ (tested program choice again key.unit unit r args wanted f s) (ap (λ b. b && not s.flag) stands.resident)
    ∙ if-false (is_too_deep program r f.sum) _ (activated choice again key.unit unit r args wanted f s) shallow
    ∙ if-false (nat_lt f.sp (activation_bytes r)) _ (finished (again r.body g (inside choice r args f s)) after) (le-ltb f.sp (activation_bytes r) stands.room)
    ∙ comes.finishes after
    ∙ ap (λ (found : Found (List ℕ)). with_found found u (λ bytes. give choice f wanted bytes (with_cells u (closed choice r f u.cells)))) given
