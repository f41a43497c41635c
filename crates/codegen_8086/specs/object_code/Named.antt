-- What the code of a routine refers to, beside what the routine names.
use Rattle.std.specs.Prelude.{ℕ, ◌+◌, ◌↔◌, ◌≡◌, Bool, true, List, [], ◌∷◌, MatchOption}
use Rattle.type_layout.specs.declared.definitions.RoutineId.{RoutineId}
use Rattle.flat_code.specs.Tree.{Expr, SegmentOf, Op, Step, StoreByte, StoreWord, Call, CallThrough, Runtime, StoreRoutine, Code, End, Do, If, Loop}
use Rattle.flat_code.specs.Program.{Name, UnitCode, Routine, runtime_key}
use Rattle.flat_code.specs.Legal.{Mention, ToRoutine, ToDatum, ToVmt, Names, AddressNames, ResultNames, CodeNames}
use Rattle.code_templates.specs.code_lines.Lines.{step_pointers, pointers}
use Rattle.code_templates.specs.declared.code_references.marks.MarkedLine.{MarkedLine}
use Rattle.code_templates.specs.declared.code_references.marks.Target.{Target}
use Rattle.code_templates.specs.declared.code_references.marks.Target.TheVariants as to
use Rattle.code_templates.specs.code_references.Marked.{marked_routine, pointer_datum, stored}

-- ## References

-- What is referred to is in the set. The error routine and those of the acts are in no unit.
abbrev pub TargetNames : (Mention → Type 0) → Name → List Name → Target → Type 0
TargetNames R own names (to.Datum unit number) = Names R ToDatum own names unit number
TargetNames R own names (to.Table unit number) = Names R ToVmt own names unit number
TargetNames R own names (to.Routine unit number) = Names R ToRoutine own names unit number
TargetNames R own names (to.OwnRoutine number) = Names R ToRoutine own names 0 number
TargetNames R own names (to.Runtime number) = R (ToRoutine (runtime_key number))
TargetNames R own names _ = Unit {0}

abbrev pub LinesName : (Mention → Type 0) → Name → List Name → List MarkedLine → Type 0
LinesName R own names [] = Unit {0}
LinesName R own names (m ∷ ms) = MatchOption m.target (Unit {0}) (TargetNames R own names) × LinesName R own names ms

-- ## What no instruction refers to

-- the routines whose far pointers are stored: the data that hold these refer to them
abbrev pub StoredName : (Mention → Type 0) → Name → List Name → List RoutineId → Type 0
StoredName R own names [] = Unit {0}
StoredName R own names (id ∷ ids) = Names R ToRoutine own names id.unit id.number × StoredName R own names ids

-- the data whose segment is taken, which DS holds
abbrev pub ExprSegments : (Mention → Type 0) → Name → List Name → Expr → Type 0
ExprSegments R own names (SegmentOf at) = AddressNames R own names at
ExprSegments R own names (Op op a b) = ExprSegments R own names a × ExprSegments R own names b
ExprSegments R own names _ = Unit {0}

abbrev pub ExprsSegments : (Mention → Type 0) → Name → List Name → List Expr → Type 0
ExprsSegments R own names [] = Unit {0}
ExprsSegments R own names (e ∷ es) = ExprSegments R own names e × ExprsSegments R own names es

abbrev pub StepSegments : (Mention → Type 0) → Name → List Name → Step → Type 0
StepSegments R own names (StoreByte to value) = ExprSegments R own names value
StepSegments R own names (StoreWord to value) = ExprSegments R own names value
StepSegments R own names (Call unit number args result) = ExprsSegments R own names args
StepSegments R own names (CallThrough pointer args result) = ExprsSegments R own names args
StepSegments R own names (Runtime number args result) = ExprsSegments R own names args
StepSegments R own names _ = Unit {0}

abbrev pub CodeSegments : (Mention → Type 0) → Name → List Name → Code → Type 0
CodeSegments R own names End = Unit {0}
CodeSegments R own names (Do step next) = StepSegments R own names step × CodeSegments R own names next
CodeSegments R own names (If test taken other next) =
    ExprSegments R own names test × CodeSegments R own names taken × CodeSegments R own names other × CodeSegments R own names next
CodeSegments R own names (Loop body next) = CodeSegments R own names body × CodeSegments R own names next

-- ## What no node names

-- the data, behind the unit's others, that hold the far pointers which are stored
abbrev pub StepPointers : (Mention → Type 0) → Name → UnitCode → ℕ → Step → Type 0
StepPointers R own unit pointer (StoreRoutine to other number) = R (ToDatum (record { unit = own; number = pointer_datum unit pointer }))
StepPointers R own unit pointer _ = Unit {0}

abbrev pub CodePointers : (Mention → Type 0) → Name → UnitCode → ℕ → Code → Type 0
CodePointers R own unit pointer End = Unit {0}
CodePointers R own unit pointer (Do step next) = StepPointers R own unit pointer step × CodePointers R own unit (pointer + step_pointers step) next
CodePointers R own unit pointer (If test taken other next) =
    CodePointers R own unit pointer taken
    × CodePointers R own unit (pointer + pointers taken) other
    × CodePointers R own unit (pointer + pointers taken + pointers other) next
CodePointers R own unit pointer (Loop body next) = CodePointers R own unit pointer body × CodePointers R own unit (pointer + pointers body) next

-- ## The law

-- A set has all that the code of a routine refers to, the routines that are stored and the data whose segments are taken, just where it has all
-- that the routine names and its far-pointer data.
abbrev pub NamesExactly : (Mention → Type 0) → Name → UnitCode → ℕ → Routine → Type 0
NamesExactly R own unit pointer r =
    (LinesName R own unit.names (marked_routine unit pointer r) × StoredName R own unit.names (stored r.body) × CodeSegments R own unit.names r.body)
    ↔ (CodeNames R own unit.names r.body × ResultNames R own unit.names r.result × CodePointers R own unit pointer r.body)

abbrev pub ReferenceLaw : Type 0
ReferenceLaw =
    (reached : Mention → Bool) (own : Name) (unit : UnitCode) (pointer : ℕ) (r : Routine) → NamesExactly (λ mention. reached mention ≡ true) own unit pointer r
