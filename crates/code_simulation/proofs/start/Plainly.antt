-- A call comes to the next statement, or the run is over.
use Rattle.std.proofs.Common.{ℕ, zero, suc, ◌*◌, ◌+◌, Bool, true, false, List, length, Option, Some, None, Ok, Err}
use Rattle.std.specs.Prelude.{if◌then◌else◌, ◌==◌, ◌&&◌, not, nat_lt, slice_get}
use Rattle.flat_code.specs.declared.memory.Trap.TheVariants.{ByZero, Bad}
use Rattle.flat_code.specs.declared.tree.FlatResult.{FlatResult}
use Rattle.flat_code.specs.Meaning.{Frame, State, Outcome, Next, Left, Returned, Over, spent, raised, with_found, with_cells, set_cells, stored_at, activation_bytes, is_too_deep, tested, admitted, entered_at, result_bytes, give, frame_of, opened, closed, ended, finished, Does, activated, entered, with_some, called}
use Rattle.flat_code.specs.Memory.{Found}
use Rattle.flat_code.specs.Program.{Name, Key, Routine, UnitCode, FlatProgram, Choice}
use Rattle.common_values.specs.behaviour.Seen.{Undefined}

abbrev pub IsPlainly : Outcome → Type 0
IsPlainly (Next s) = Unit {0}
IsPlainly (Left loops s) = ⊥
IsPlainly (Returned s) = ⊥
IsPlainly (Over standing s) = Unit {0}

plain_if : (b : Bool) (x y : Outcome) → IsPlainly x → IsPlainly y → IsPlainly (if b then x else y)
plain_if true x y p q = p
plain_if false x y p q = q

plain_spent : (turns : ℕ) (s : State) (go : State → Outcome) → ((t : State) → IsPlainly (go t)) → IsPlainly (spent turns s go)
plain_spent zero s go h = tt
plain_spent (suc turns) s go h = h (record s { turns = turns })

plain_raised : (code : ℕ) (s : State) → IsPlainly (raised code s)
plain_raised code s = plain_spent s.turns s _ (λ t. tt)

plain_found : {A : Type 0} (x : Found A) (s : State) (go : A → Outcome) → ((v : A) → IsPlainly (go v)) → IsPlainly (with_found x s go)
plain_found (Ok v) s go h = h v
plain_found (Err ByZero) s go h = plain_raised 200 s
plain_found (Err (Bad act)) s go h = tt

plain_some : {A : Type 0} (x : Option A) (s : State) (go : A → Outcome) → ((v : A) → IsPlainly (go v)) → IsPlainly (with_some x s go)
plain_some (Some v) s go h = h v
plain_some None s go h = tt

plain_give : (choice : Choice) (f : Frame) (result : Option FlatResult) (bytes : List ℕ) (s : State) → IsPlainly (give choice f result bytes s)
plain_give choice f None bytes s = tt
plain_give choice f (Some result) bytes s =
    let x = stored_at choice f s.cells result.at bytes in
    plain_if (length bytes == result.bytes) (with_found x s (set_cells s)) (Over (Undefined 1) s) (plain_found x s (set_cells s) (λ m. tt)) tt

plain_ended : (choice : Choice) (r : Routine) (g f : Frame) (result : Option FlatResult) (s : State) → IsPlainly (ended choice r g f result s)
plain_ended choice r g f result s =
    let t = with_cells s (closed choice r f s.cells) in
    plain_found (result_bytes choice g s.cells r.result) s (λ bytes. give choice f result bytes t) (λ bytes. plain_give choice f result bytes t)

plain_finished : (x : Outcome) (go : State → Outcome) → ((t : State) → IsPlainly (go t)) → IsPlainly (finished x go)
plain_finished (Next s) go h = h s
plain_finished (Left loops s) go h = h s
plain_finished (Returned s) go h = h s
plain_finished (Over standing s) go h = tt

plain_activated : (choice : Choice) (again : Does) (name : Name) (unit : UnitCode) (r : Routine) (args : List ℕ) (result : Option FlatResult) (f : Frame) (s : State) → IsPlainly (activated choice again name unit r args result f s)
plain_activated choice again name unit r args result f s =
    let t = with_cells s (opened choice r f args s.cells) in
    let g = frame_of name unit r f in
    plain_if (nat_lt f.sp (activation_bytes r)) (Over (Undefined 2) s) (finished (again r.body g t) (ended choice r g f result)) tt
    (plain_finished (again r.body g t) (ended choice r g f result) (λ u. plain_ended choice r g f result u))

plain_entered : (program : FlatProgram) (choice : Choice) (again : Does) (name : Name) (unit : UnitCode) (args : List ℕ) (result : Option FlatResult) (f : Frame) (s : State) (r : Routine) → IsPlainly (entered program choice again name unit args result f s r)
plain_entered program choice again name unit args result f s r =
    plain_if (2 * length args == r.arguments) (admitted program choice again name unit r args result f s) (Over (Undefined 1) s)
    (plain_if (program.overlaid name && not s.flag) (raised 208 s) (tested program choice again name unit r args result f s) (plain_raised 208 s)
    (plain_if (is_too_deep program r f.sum) (raised 202 s) (activated choice again name unit r args result f s) (plain_raised 202 s) (plain_activated choice again name unit r args result f s)))
    tt

pub plain_called : (program : FlatProgram) (choice : Choice) (again : Does) (args : List ℕ) (result : Option FlatResult) (f : Frame) (s : State) (key : Key) → IsPlainly (called program choice again args result f s key)
plain_called program choice again args result f s key =
    plain_some (program.unit key.unit) s (entered_at program choice again key args result f s) (λ unit.
    plain_some (slice_get unit.routines key.number) s (entered program choice again key.unit unit args result f s) (λ r. plain_entered program choice again key.unit unit args result f s r))
