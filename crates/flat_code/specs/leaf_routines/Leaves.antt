-- Routines of the runtime that call no others: what they take of the stack is their own activation.
use Rattle.std.specs.Prelude.{◌≡◌, ℕ, ◌+◌, ◌≤◌, ◌==◌, ◌&&◌, nat_le, nat_lt, Bool, true, false, List, IsTrue}
use Rattle.std.specs.List.{list_all}
use Rattle.flat_code.specs.Tree.{Step, StoreByte, StoreWord, Copy, Leave, Call, CallThrough, Runtime, StoreRoutine, Return, Error, Code, End, Do, If, Loop}
use Rattle.flat_code.specs.Program.{Name, Key, Routine, FlatProgram}
use Rattle.flat_code.specs.Meaning.{activation_bytes}
use Rattle.flat_code.specs.Legal.{IsThere, CodeNames, code_depth, RuntimeCalls}

-- effects of the machine are no calls
abbrev pub is_leaf_step : Step → Bool
is_leaf_step (StoreByte to value) = true
is_leaf_step (StoreWord to value) = true
is_leaf_step (Copy to from bytes) = true
is_leaf_step (Leave loops) = true
is_leaf_step (Call unit number args result) = false
is_leaf_step (CallThrough pointer args result) = false
is_leaf_step (Runtime number args result) = nat_lt number 5
is_leaf_step (StoreRoutine to unit number) = false
is_leaf_step Return = true
is_leaf_step (Error code) = true

abbrev pub is_leaf : Code → Bool
is_leaf End = true
is_leaf (Do step next) = is_leaf_step step && is_leaf next
is_leaf (If test taken other next) = is_leaf taken && (is_leaf other && is_leaf next)
is_leaf (Loop body next) = is_leaf body && is_leaf next

-- one of the runtime, with at most so many bytes of activation
abbrev pub is_leaf_routine : ℕ → Routine → Bool
is_leaf_routine bytes r = (r.frame == 0) && (nat_le r.arguments 256 && (nat_le (code_depth r.body) 24 && (nat_le (activation_bytes r) bytes && is_leaf r.body)))

-- all routines of a unit are
abbrev pub AreLeaves : ℕ → List Routine → Type 0
AreLeaves bytes routines = IsTrue (list_all (is_leaf_routine bytes) routines)

-- what a shallow program asks of such a routine
pub record IsLeaf (program : FlatProgram) (bytes : ℕ) (key : Key) (names : List Name) (r : Routine) : Type 0 where
  pub frame : r.frame ≡ 0
  pub arguments : r.arguments ≤ 256
  pub depth : code_depth r.body ≤ 24
  pub covers : activation_bytes r ≤ bytes
  pub chains : (chain : Key → ℕ) (taken : ℕ) → CodeNames (IsThere program) key.unit names r.body → CodeNames (λ mention. RuntimeCalls program chain taken key mention) key.unit names r.body
