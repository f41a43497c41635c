-- The laws of following for the nodes of flat code.
use Rattle.std.specs.Prelude.{◌≡◌, ℕ, ◌+◌, ◌%◌, [], ◌∷◌, Option, Ok}
use Rattle.common_values.specs.behaviour.Seen.{Ended}
use Rattle.tp_meaning.specs.Outcomes as source
use Rattle.tp_meaning.specs.Outcomes.{Does}
use Rattle.flat_code.specs.Tree.{Expr, expr_size, Runtime, Code, End, Do, If, ◌then◌}
use Rattle.flat_code.specs.declared.tree.FlatResult.{FlatResult}
use Rattle.flat_code.specs.Program.{FlatProgram, Choice}
use Rattle.flat_code.specs.Calls as flat
use Rattle.flat_code.specs.Meaning.{Frame, value_of, begun, run}
use Rattle.lowering_simulation.specs.Meets.{Relation, Landing, SameTexts, Meets}
use Rattle.lowering_simulation.specs.Laws.{FollowsNext}

-- a list for a part of the source, and a list for what follows it
abbrev pub Sequencing : {A B : Type 0} → ℕ → FlatProgram → Choice → Frame → Relation A → Relation B → Type 0
Sequencing {A} {B} few program choice f P Q =
    (first rest turns : ℕ) (code after : Code) (t : flat.State) (lands : Landing A) (ends : Landing B) (r : source.Outcome A) (next : A → Does B) →
    Meets few first turns (run program choice code f) t lands P r →
    FollowsNext few rest turns (λ a u. flat.and_then (lands a u) (run program choice after f)) ends P Q next →
    Meets few (first + rest) turns (run program choice (code then after) f) t ends Q (source.and_then r next)

-- a condition, which has a value here: that side follows which is taken
abbrev pub Testing : {A : Type 0} → ℕ → FlatProgram → Choice → Frame → Relation A → Type 0
Testing {A} few program choice f P =
    (weight turns v : ℕ) (value : Expr) (taken other : Code) (t : flat.State) (lands : Landing A) (r : source.Outcome A) → value_of choice f t.cells value ≡ Ok v →
    ((v ≡ 0 → ⊥) → Meets few weight turns (run program choice taken f) (begun (1 + expr_size value) t) lands P r) →
    (v ≡ 0 → Meets few weight turns (run program choice other f) (begun (1 + expr_size value) t) lands P r) →
    Meets few (1 + expr_size value + weight) turns (run program choice (If value taken other End) f) t lands P r

-- the end of a run by the effect of the machine
abbrev pub Halting : {A : Type 0} → ℕ → FlatProgram → Choice → Frame → Relation A → Type 0
Halting {A} few program choice f P =
    (turns v code : ℕ) (value : Expr) (result : Option FlatResult) (next : Code) (t : flat.State) (lands : Landing A) (s : source.State) → value_of choice f t.cells value ≡ Ok v → SameTexts s t → code ≡ v % 256 →
    Meets few (1 + expr_size value) turns (run program choice (Do (Runtime 2 (value ∷ []) result) next) f) t lands P (source.Over (Ended code) s)

-- an act that the source leaves undefined: whatever the code is
abbrev pub Undefining : {A : Type 0} → ℕ → FlatProgram → Choice → Frame → Relation A → Type 0
Undefining {A} few program choice f P =
    (weight turns act : ℕ) (code : Code) (t : flat.State) (lands : Landing A) (s : source.State) → SameTexts s t → Meets few weight turns (run program choice code f) t lands P (source.undefined act s)

pub record NodeLaws {A B : Type 0} (few : ℕ) (program : FlatProgram) (choice : Choice) (f : Frame) (P : Relation A) (Q : Relation B) : Type 0 where
  pub sequencing : Sequencing few program choice f P Q
  pub testing : Testing few program choice f P
  pub halting : Halting few program choice f P
  pub undefining : Undefining few program choice f P
