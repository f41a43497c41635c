-- What a routine of the runtime promises to those that call it.
use Rattle.std.specs.Prelude.{◌≡◌, ℕ, zero, suc, ◌+◌, ◌*◌, ◌≤◌, ◌<◌, ◌⊎◌, List, [], ◌∷◌, Option, Result, Ok, Err}
use Rattle.common_values.specs.behaviour.Seen.{Going}
use Rattle.flat_code.specs.declared.tree.FlatResult.{FlatResult}
use Rattle.flat_code.specs.Tree.{Expr, exprs_size}
use Rattle.flat_code.specs.Program.{Key, FlatProgram, Choice}
use Rattle.flat_code.specs.Meaning.{Frame, State, Over, raised, begun, give, called, run, stack_top}

abbrev pub with_turns : State → ℕ → State
with_turns s turns = record s { turns = turns }

-- a byte of the stack below an offset
abbrev pub IsBelow : Choice → ℕ → ℕ → Type 0
IsBelow choice sp address = (16 * choice.stack_segment ≤ address) × (address < 16 * choice.stack_segment + sp)

-- nothing but the bytes that are named and those below SP is changed
abbrev pub KeepsAllBut : Choice → Frame → (ℕ → Type 0) → State → State → Type 0
KeepsAllBut choice f touched s t = (address : ℕ) → (touched address → ⊥) → (IsBelow choice f.sp address → ⊥) → t.cells address ≡ s.cells address

-- where no turn is left for a call that needs one, it goes on and has written nothing
abbrev pub IsQuiet : FlatProgram → Choice → Key → List ℕ → Frame → State → Type 0
IsQuiet program choice key args f s = (wanted : Option FlatResult) → (u : State) × (called program choice (run program choice) args wanted f (with_turns s 0) key ≡ Over Going u) × (u.out ≡ s.out) × (u.err ≡ s.err)

-- a call ended: with so many turns it came to a state and the bytes of a result; where more turns were there, they are left
pub record Ends (program : FlatProgram) (choice : Choice) (key : Key) (touched : ℕ → Type 0) (post : State → List ℕ → Type 0) (turns work : ℕ) (args : List ℕ) (f : Frame) (s : State) : Type 0 where
  pub spent : ℕ
  pub few : spent ≤ turns
  pub after : State
  pub bytes : List ℕ
  pub holds : post after bytes
  pub kept : KeepsAllBut choice f touched s after
  pub worked : after.work ≤ s.work + work
  pub ends : (t : ℕ) (wanted : Option FlatResult) → called program choice (run program choice) args wanted f (with_turns s (spent + t)) key ≡ give choice f wanted bytes (with_turns after t)
  pub quiet : 0 < spent → IsQuiet program choice key args f s

-- a call raised an error, which spends a turn of its own
pub record Raises (program : FlatProgram) (choice : Choice) (key : Key) (post : State → ℕ → Type 0) (turns work : ℕ) (args : List ℕ) (f : Frame) (s : State) : Type 0 where
  pub spent : ℕ
  pub few : spent ≤ turns
  pub after : State
  pub code : ℕ
  pub holds : post after code
  pub worked : after.work ≤ s.work + work
  pub raises : (t : ℕ) (wanted : Option FlatResult) → called program choice (run program choice) args wanted f (with_turns s (spent + t)) key ≡ raised code (with_turns after t)
  pub quiet : 0 < spent → IsQuiet program choice key args f s

-- a call from this frame has so much of the stack below it
pub record HasStack (program : FlatProgram) (stack : ℕ) (f : Frame) : Type 0 where
  pub room : stack ≤ f.sp
  pub inside : f.sp ≤ stack_top program

-- each call with so much stack below it, for which the premise holds, ends as promised or raises a promised error; what it touches, its turns and its work depend on its arguments and the state
abbrev pub Gives : FlatProgram → Choice → Key → ℕ → (List ℕ → State → Type 0) → (List ℕ → State → ℕ → Type 0) → (List ℕ → State → State → List ℕ → Type 0) → (List ℕ → State → State → ℕ → Type 0) → (List ℕ → State → ℕ) → (List ℕ → State → ℕ) → Type 0
Gives program choice key stack pre touched post fails turns work =
    (args : List ℕ) (f : Frame) (s : State) → HasStack program stack f → pre args s →
    Ends program choice key (touched args s) (post args s) (turns args s) (work args s) args f s ⊎ Raises program choice key (fails args s) (turns args s) (work args s) args f s

-- ---- routines that compute words from words

-- so many words
abbrev pub AreWords : ℕ → List ℕ → Type 0
AreWords zero [] = Unit {0}
AreWords zero (v ∷ vs) = ⊥
AreWords (suc n) [] = ⊥
AreWords (suc n) (v ∷ vs) = (v < 65536) × AreWords n vs

-- but for cells, turns and work a state is as it was
pub record KeepsRest (s t : State) : Type 0 where
  pub flag : t.flag ≡ s.flag
  pub input : t.input ≡ s.input
  pub out : t.out ≡ s.out
  pub err : t.err ≡ s.err

-- a routine that changes nothing: from so many words it computes the bytes of its result, or an error
abbrev pub Computes : FlatProgram → Choice → Key → ℕ → ℕ → (List ℕ → Result (List ℕ) ℕ) → ℕ → ℕ → Type 0
Computes program choice key stack words f turns work =
    Gives program choice key stack
    (λ args s. AreWords words args)
    (λ args s address. ⊥)
    (λ args s after bytes. (f args ≡ Ok bytes) × KeepsRest s after)
    (λ args s after code. (f args ≡ Err code) × KeepsRest s after)
    (λ args s. turns)
    (λ args s. work)

-- ---- statements that call the runtime

-- the state in which the routine of a statement begins, where so many turns are left for it
abbrev pub within : List Expr → State → ℕ → State
within exprs s turns = begun (1 + exprs_size exprs) (with_turns s turns)
