-- Which programs are well formed, what they reach, and where their parts may lie.
use Rattle.std.specs.Prelude.{◌≡◌, ◌≢◌, ℕ, zero, suc, ◌+◌, ◌*◌, ◌≤◌, ◌<◌, max, ◌⊎◌, ◌↔◌, List, [], ◌∷◌, length, Option, Some, None, true, IsSome, MatchOption, Contains, slice_get}
use Rattle.flat_code.specs.declared.tree.Address.{Address}
use Rattle.flat_code.specs.declared.tree.Address.TheVariants.{Global, Local, Outer, Through}
use Rattle.flat_code.specs.declared.tree.FlatResult.{FlatResult}
use Rattle.flat_code.specs.Tree.{Expr, Number, Byte, Word, AddressOf, SegmentOf, VmtOf, Op, Step, StoreByte, StoreWord, Copy, Leave, Call, CallThrough, Runtime, StoreRoutine, Return, Error, Code, End, Do, If, Loop}
use Rattle.flat_code.specs.declared.memory.Place.{Place}
use Rattle.flat_code.specs.Program.{Name, Key, Routine, Datum, Vmt, UnitCode, FlatProgram, Choice, named, routine_of, runtime_key}
use Rattle.flat_code.specs.Meaning.{activation_bytes, stack_top}

-- what a node can name
pub data Mention : Type 0 where
  ToRoutine : (key : Key) → Mention
  ToDatum : (key : Key) → Mention
  ToVmt : (key : Key) → Mention

-- the unit has that place in its names, and what is named there is in the set
abbrev pub Names : (Mention → Type 0) → (Key → Mention) → Name → List Name → ℕ → ℕ → Type 0
Names R to own names unit number = MatchOption (named own names unit) ⊥ (λ name. R (to (record { unit = name; number = number })))

-- ---- what a routine's body names is in a set

abbrev pub AddressNames : (Mention → Type 0) → Name → List Name → Address → Type 0
AddressNames R own names (Global unit number plus) = Names R ToDatum own names unit number
AddressNames R own names (Local at) = Unit {0}
AddressNames R own names (Outer levels at) = Unit {0}
AddressNames R own names (Through slot plus) = Unit {0}

abbrev pub ExprNames : (Mention → Type 0) → Name → List Name → Expr → Type 0
ExprNames R own names (Number n) = Unit {0}
ExprNames R own names (Byte at) = AddressNames R own names at
ExprNames R own names (Word at) = AddressNames R own names at
ExprNames R own names (AddressOf at) = AddressNames R own names at
ExprNames R own names (SegmentOf at) = AddressNames R own names at
ExprNames R own names (VmtOf unit number) = Names R ToVmt own names unit number
ExprNames R own names (Op op a b) = ExprNames R own names a × ExprNames R own names b

abbrev pub ExprsName : (Mention → Type 0) → Name → List Name → List Expr → Type 0
ExprsName R own names [] = Unit {0}
ExprsName R own names (e ∷ es) = ExprNames R own names e × ExprsName R own names es

abbrev pub ResultNames : (Mention → Type 0) → Name → List Name → Option FlatResult → Type 0
ResultNames R own names None = Unit {0}
ResultNames R own names (Some result) = AddressNames R own names result.at

abbrev pub RuntimeNames : (Mention → Type 0) → ℕ → Type 0
RuntimeNames R zero = Unit {0}
RuntimeNames R (suc zero) = Unit {0}
RuntimeNames R (suc (suc zero)) = Unit {0}
RuntimeNames R (suc (suc (suc zero))) = Unit {0}
RuntimeNames R (suc (suc (suc (suc zero)))) = Unit {0}
RuntimeNames R (suc (suc (suc (suc (suc n))))) = R (ToRoutine (runtime_key (5 + n)))

abbrev pub StepNames : (Mention → Type 0) → Name → List Name → Step → Type 0
StepNames R own names (StoreByte to value) = AddressNames R own names to × ExprNames R own names value
StepNames R own names (StoreWord to value) = AddressNames R own names to × ExprNames R own names value
StepNames R own names (Copy to from bytes) = AddressNames R own names to × AddressNames R own names from
StepNames R own names (Leave loops) = Unit {0}
StepNames R own names (Call unit number args result) = Names R ToRoutine own names unit number × ExprsName R own names args × ResultNames R own names result
StepNames R own names (CallThrough pointer args result) = AddressNames R own names pointer × ExprsName R own names args × ResultNames R own names result
StepNames R own names (Runtime number args result) = RuntimeNames R number × ExprsName R own names args × ResultNames R own names result
StepNames R own names (StoreRoutine to unit number) = AddressNames R own names to × Names R ToRoutine own names unit number
StepNames R own names Return = Unit {0}
StepNames R own names (Error code) = Unit {0}

abbrev pub CodeNames : (Mention → Type 0) → Name → List Name → Code → Type 0
CodeNames R own names End = Unit {0}
CodeNames R own names (Do step next) = StepNames R own names step × CodeNames R own names next
CodeNames R own names (If test taken other next) = ExprNames R own names test × CodeNames R own names taken × CodeNames R own names other × CodeNames R own names next
CodeNames R own names (Loop body next) = CodeNames R own names body × CodeNames R own names next

abbrev pub SlotsName : (Mention → Type 0) → Name → List Name → List (ℕ × ℕ) → Type 0
SlotsName R own names [] = Unit {0}
SlotsName R own names (slot ∷ slots) = Names R ToRoutine own names slot.0 slot.1 × SlotsName R own names slots

-- a set that holds the initial routines, and with a routine what its body and its result name, and with a virtual method table its methods
pub record Reaches (program : FlatProgram) (R : Mention → Type 0) : Type 0 where
  pub initials : (name : Name) (unit : UnitCode) (number : ℕ) → Contains program.order name → program.unit name ≡ Some unit → unit.initial ≡ Some number → R (ToRoutine (record { unit = name; number = number }))
  pub bodies : (key : Key) (unit : UnitCode) (r : Routine) → R (ToRoutine key) → program.unit key.unit ≡ Some unit → routine_of program key ≡ Some r → CodeNames R key.unit unit.names r.body × ResultNames R key.unit unit.names r.result
  pub methods : (key : Key) (unit : UnitCode) (vmt : Vmt) → R (ToVmt key) → program.unit key.unit ≡ Some unit → slice_get unit.vmts key.number ≡ Some vmt → SlotsName R key.unit unit.names vmt.slots

-- ---- legal choices

-- a datum or a virtual method table takes so many bytes at an offset of the data segment
abbrev pub TakesData : FlatProgram → Choice → Mention → ℕ → ℕ → Type 0
TakesData program choice (ToRoutine key) offset size = ⊥
TakesData program choice (ToDatum key) offset size =
    (unit : UnitCode) × (datum : Datum) × (program.unit key.unit ≡ Some unit) × (slice_get unit.globals key.number ≡ Some datum) × (choice.datum key ≡ Some offset) × (size ≡ datum.size)
TakesData program choice (ToVmt key) offset size =
    (unit : UnitCode) × (vmt : Vmt) × (program.unit key.unit ≡ Some unit) × (slice_get unit.vmts key.number ≡ Some vmt) × (choice.vmt key ≡ Some offset) × (size ≡ 4 + 4 * length vmt.slots)

-- two ranges of addresses have none in common
abbrev pub IsApart : ℕ → ℕ → ℕ → ℕ → Type 0
IsApart a m b n = (a + m ≤ b) ⊎ (b + n ≤ a)

-- the stack fits a segment, and ends with memory or before
pub record StackFits (program : FlatProgram) (choice : Choice) : Type 0 where
  pub small : stack_top program ≤ 65520
  pub inside : 16 * choice.stack_segment + stack_top program ≤ 1048576

-- what is reached has its place and nothing else has one; the places keep apart inside their segments, and the segments' bytes from each other
pub record IsLegal (program : FlatProgram) (choice : Choice) (R : Mention → Type 0) : Type 0 where
  pub datum : (key : Key) → IsSome (choice.datum key) ↔ R (ToDatum key)
  pub vmt : (key : Key) → IsSome (choice.vmt key) ↔ R (ToVmt key)
  -- far routines alone have far pointers
  pub far : (key : Key) (r : Routine) → routine_of program key ≡ Some r → r.far ≡ true → R (ToRoutine key) → IsSome (choice.far key)
  pub far_only : (key : Key) → IsSome (choice.far key) → (r : Routine) × (routine_of program key ≡ Some r) × (r.far ≡ true) × R (ToRoutine key)
  pub callee : (key : Key) (p : Place) → (choice.callee p ≡ Some key) ↔ (choice.far key ≡ Some p)
  pub words : (key : Key) (p : Place) → choice.far key ≡ Some p → (p.segment < 65536) × (p.offset < 65536)
  pub data_bytes : ℕ
  pub inside : (mention : Mention) (offset size : ℕ) → TakesData program choice mention offset size → offset + size ≤ data_bytes
  pub apart : (first second : Mention) (a m b n : ℕ) → first ≢ second → TakesData program choice first a m → TakesData program choice second b n → IsApart a m b n
  pub data_small : data_bytes ≤ 65520
  pub heap_first : 0 < choice.heap_segment
  pub data_stack : IsApart (16 * choice.data_segment) data_bytes (16 * choice.stack_segment) (stack_top program)
  pub data_heap : IsApart (16 * choice.data_segment) data_bytes (16 * choice.heap_segment) program.heap
  pub stack_heap : IsApart (16 * choice.stack_segment) (stack_top program) (16 * choice.heap_segment) program.heap
  pub data_end : 16 * choice.data_segment + data_bytes ≤ 1048576
  pub stack_fits : StackFits program choice
  pub heap_end : 16 * choice.heap_segment + program.heap ≤ 1048576

-- ---- well-formed programs

-- the call of a routine hands over what it takes, and wants the result that it has
abbrev pub FitsCall : FlatProgram → Key → ℕ → Option FlatResult → Type 0
FitsCall program key args result =
    MatchOption (routine_of program key) ⊥ (λ r. (r.arguments ≡ 2 * args) × MatchOption result (Unit {0}) (λ wanted. MatchOption r.result ⊥ (λ given. given.bytes ≡ wanted.bytes)))

-- the act takes so many words and has no result, or one of so many bytes
abbrev pub FitsAct : ℕ → Option ℕ → ℕ → Option FlatResult → Type 0
FitsAct takes None args result = (args ≡ takes) × (result ≡ None)
FitsAct takes (Some bytes) args result = (args ≡ takes) × MatchOption result (Unit {0}) (λ wanted. wanted.bytes ≡ bytes)

abbrev pub FitsRuntime : FlatProgram → ℕ → ℕ → Option FlatResult → Type 0
FitsRuntime program zero args result = FitsAct 4 None args result
FitsRuntime program (suc zero) args result = FitsAct 0 (Some 2) args result
FitsRuntime program (suc (suc zero)) args result = FitsAct 1 None args result
FitsRuntime program (suc (suc (suc zero))) args result = FitsAct 0 None args result
FitsRuntime program (suc (suc (suc (suc zero)))) args result = FitsAct 0 None args result
FitsRuntime program (suc (suc (suc (suc (suc n))))) args result = FitsCall program (runtime_key (5 + n)) args result

-- the calls of a body fit, and each Leave leaves at most the loops around it
abbrev pub StepFits : FlatProgram → Name → List Name → ℕ → Step → Type 0
StepFits program own names loops (StoreByte to value) = Unit {0}
StepFits program own names loops (StoreWord to value) = Unit {0}
StepFits program own names loops (Copy to from bytes) = Unit {0}
StepFits program own names loops (Leave count) = count ≤ loops
StepFits program own names loops (Call unit number args result) = MatchOption (named own names unit) ⊥ (λ name. FitsCall program (record { unit = name; number = number }) (length args) result)
StepFits program own names loops (CallThrough pointer args result) = Unit {0}
StepFits program own names loops (Runtime number args result) = FitsRuntime program number (length args) result
StepFits program own names loops (StoreRoutine to unit number) = Unit {0}
StepFits program own names loops Return = Unit {0}
StepFits program own names loops (Error code) = Unit {0}

abbrev pub CodeFits : FlatProgram → Name → List Name → ℕ → Code → Type 0
CodeFits program own names loops End = Unit {0}
CodeFits program own names loops (Do step next) = StepFits program own names loops step × CodeFits program own names loops next
CodeFits program own names loops (If test taken other next) = CodeFits program own names loops taken × CodeFits program own names loops other × CodeFits program own names loops next
CodeFits program own names loops (Loop body next) = CodeFits program own names (loops + 1) body × CodeFits program own names loops next

-- what a program has
abbrev pub IsThere : FlatProgram → Mention → Type 0
IsThere program (ToRoutine key) = IsSome (routine_of program key)
IsThere program (ToDatum key) = (unit : UnitCode) × (datum : Datum) × (program.unit key.unit ≡ Some unit) × (slice_get unit.globals key.number ≡ Some datum)
IsThere program (ToVmt key) = (unit : UnitCode) × (vmt : Vmt) × (program.unit key.unit ≡ Some unit) × (slice_get unit.vmts key.number ≡ Some vmt)

-- a result has 1, 2 or 4 bytes
abbrev pub HasResultSize : Option FlatResult → Type 0
HasResultSize None = Unit {0}
HasResultSize (Some result) = (result.bytes ≡ 1) ⊎ ((result.bytes ≡ 2) ⊎ (result.bytes ≡ 4))

-- each unit, routine, datum, virtual method table and runtime number that is named is there, each body fits, and no datum has more first bytes than bytes
pub record IsWellFormed (program : FlatProgram) : Type 0 where
  pub initials : (name : Name) (unit : UnitCode) (number : ℕ) → program.unit name ≡ Some unit → unit.initial ≡ Some number → IsThere program (ToRoutine (record { unit = name; number = number }))
  pub bodies : (key : Key) (unit : UnitCode) (r : Routine) → program.unit key.unit ≡ Some unit → routine_of program key ≡ Some r → CodeNames (IsThere program) key.unit unit.names r.body × ResultNames (IsThere program) key.unit unit.names r.result × CodeFits program key.unit unit.names 0 r.body × HasResultSize r.result
  pub firsts : (key : Key) (unit : UnitCode) (datum : Datum) → program.unit key.unit ≡ Some unit → slice_get unit.globals key.number ≡ Some datum → length datum.first ≤ datum.size
  pub methods : (key : Key) (unit : UnitCode) (vmt : Vmt) → program.unit key.unit ≡ Some unit → slice_get unit.vmts key.number ≡ Some vmt → SlotsName (IsThere program) key.unit unit.names vmt.slots

-- ---- shallow programs: what the stack's last 512 bytes suffice for

-- how many words an expression keeps aside while it is evaluated
abbrev pub expr_depth : Expr → ℕ
expr_depth (Number n) = 0
expr_depth (Byte at) = 0
expr_depth (Word at) = 0
expr_depth (AddressOf at) = 0
expr_depth (SegmentOf at) = 0
expr_depth (VmtOf unit number) = 0
expr_depth (Op op a b) = max (expr_depth a) (1 + expr_depth b)

abbrev pub exprs_depth : List Expr → ℕ
exprs_depth [] = 0
exprs_depth (e ∷ es) = max (expr_depth e) (exprs_depth es)

abbrev pub step_depth : Step → ℕ
step_depth (StoreByte to value) = expr_depth value
step_depth (StoreWord to value) = expr_depth value
step_depth (Copy to from bytes) = 0
step_depth (Leave loops) = 0
step_depth (Call unit number args result) = exprs_depth args
step_depth (CallThrough pointer args result) = exprs_depth args
step_depth (Runtime number args result) = exprs_depth args
step_depth (StoreRoutine to unit number) = 0
step_depth Return = 0
step_depth (Error code) = 0

abbrev pub code_depth : Code → ℕ
code_depth End = 0
code_depth (Do step next) = max (step_depth step) (code_depth next)
code_depth (If test taken other next) = max (expr_depth test) (max (code_depth taken) (max (code_depth other) (code_depth next)))
code_depth (Loop body next) = max (code_depth body) (code_depth next)

-- a routine of the runtime that takes so many bytes names only routines of the runtime, whose chains are shorter by these
abbrev pub RuntimeCalls : FlatProgram → (Key → ℕ) → ℕ → Key → Mention → Type 0
RuntimeCalls program chain bytes key (ToRoutine callee) = MatchOption (routine_of program callee) ⊥ (λ r. (r.frame ≡ 0) × (bytes + chain callee ≤ chain key))
RuntimeCalls program chain bytes key (ToDatum datum) = Unit {0}
RuntimeCalls program chain bytes key (ToVmt vmt) = Unit {0}

-- routines of the sources count what they take; routines of the runtime call each other alone, in chains of at most 384 bytes; arguments have at most 256 bytes and the static link of a nested routine, and expressions keep at most 24 words aside
pub record IsShallow (program : FlatProgram) : Type 0 where
  -- the bytes of the deepest chain that a routine of the runtime begins
  pub chain : Key → ℕ
  pub frames : (key : Key) (r : Routine) → routine_of program key ≡ Some r → (r.frame ≡ activation_bytes r) ⊎ (r.frame ≡ 0)
  pub arguments : (key : Key) (r : Routine) → routine_of program key ≡ Some r → r.arguments ≤ 258
  pub depth : (key : Key) (r : Routine) → routine_of program key ≡ Some r → code_depth r.body ≤ 24
  pub chains : (key : Key) (unit : UnitCode) (r : Routine) → program.unit key.unit ≡ Some unit → routine_of program key ≡ Some r → r.frame ≡ 0 →
      CodeNames (λ mention. RuntimeCalls program chain (activation_bytes r) key mention) key.unit unit.names r.body
  pub covers : (key : Key) (r : Routine) → routine_of program key ≡ Some r → r.frame ≡ 0 → activation_bytes r ≤ chain key
  pub short : (key : Key) → chain key ≤ 384
