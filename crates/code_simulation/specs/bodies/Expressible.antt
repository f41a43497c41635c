-- What the code of a routine asks of its nodes beside what well-formed programs have: numbers that are words, and calls that are far where they leave the unit.
use Rattle.std.specs.Prelude.{◌≡◌, ℕ, zero, suc, ◌+◌, ◌≤◌, ◌<◌, true, List, length, MatchOption}
use Rattle.flat_code.specs.Legal.{HasResultSize}
use Rattle.flat_code.specs.Program.{Name, Key, FlatProgram, named, routine_of, runtime_key}
use Rattle.flat_code.specs.Tree.{Step, StoreByte, StoreWord, Copy, Leave, Call, CallThrough, Runtime, StoreRoutine, Return, Error, Code, End, Do, If, Loop}
use Rattle.statement_simulation.specs.expressions.Evaluates.{HasWords}
use Rattle.effect_simulation.specs.effects.Pushed.{AllHaveWords}

-- the routine is a far one
abbrev pub IsFar : FlatProgram → Key → Type 0
IsFar program key = MatchOption (routine_of program key) ⊥ (λ r. r.far ≡ true)

-- a routine that is named by another place in the names than the unit's own
abbrev pub IsFarElsewhere : FlatProgram → Name → List Name → ℕ → ℕ → Type 0
IsFarElsewhere program own names zero number = Unit {0}
IsFarElsewhere program own names (suc k) number = MatchOption (named own names (suc k)) ⊥ (λ name. IsFar program (record { unit = name; number = number }))

abbrev pub RuntimeIsFar : FlatProgram → ℕ → Type 0
RuntimeIsFar program (suc (suc (suc (suc (suc n))))) = IsFar program (runtime_key (5 + n))
RuntimeIsFar program _ = Unit {0}

abbrev pub StepIsExpressible : FlatProgram → Name → List Name → Step → Type 0
StepIsExpressible program own names (StoreByte to value) = HasWords value
StepIsExpressible program own names (StoreWord to value) = HasWords value
StepIsExpressible program own names (Copy to from bytes) = bytes < 65536
StepIsExpressible program own names (Leave loops) = Unit {0}
StepIsExpressible program own names (Call unit number args result) = AllHaveWords args × IsFarElsewhere program own names unit number
StepIsExpressible program own names (CallThrough pointer args result) = AllHaveWords args × (length args ≤ 128) × HasResultSize result
StepIsExpressible program own names (Runtime number args result) = AllHaveWords args × RuntimeIsFar program number
StepIsExpressible program own names (StoreRoutine to unit number) = Unit {0}
StepIsExpressible program own names Return = Unit {0}
StepIsExpressible program own names (Error code) = code < 65536

abbrev pub CodeIsExpressible : FlatProgram → Name → List Name → Code → Type 0
CodeIsExpressible program own names End = Unit {0}
CodeIsExpressible program own names (Do step next) = StepIsExpressible program own names step × CodeIsExpressible program own names next
CodeIsExpressible program own names (If test taken other next) =
    HasWords test × CodeIsExpressible program own names taken × CodeIsExpressible program own names other × CodeIsExpressible program own names next
CodeIsExpressible program own names (Loop body next) = CodeIsExpressible program own names body × CodeIsExpressible program own names next

-- no call goes through a pointer
abbrev pub IsNoThrough : Step → Type 0
IsNoThrough (CallThrough pointer args result) = ⊥
IsNoThrough _ = Unit {0}

abbrev pub HasNoThrough : Code → Type 0
HasNoThrough End = Unit {0}
HasNoThrough (Do step next) = IsNoThrough step × HasNoThrough next
HasNoThrough (If test taken other next) = HasNoThrough taken × HasNoThrough other × HasNoThrough next
HasNoThrough (Loop body next) = HasNoThrough body × HasNoThrough next
