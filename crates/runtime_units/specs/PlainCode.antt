-- A test of code: its numbers are words, and it calls no routine, but for effects of the machine. The runtime passes it.
use Rattle.std.specs.Prelude.{◌≡◌, ◌&&◌, nat_lt, Bool, true, false, List, [], ◌∷◌, Some}
use Rattle.std.specs.List.{list_all}
use Rattle.flat_code.specs.Tree.{Expr, Number, Byte, Word, AddressOf, SegmentOf, VmtOf, Op, Step, StoreByte, StoreWord, Copy, Leave, Call, CallThrough, Runtime, StoreRoutine, Return, Error, Code, End, Do, If, Loop}
use Rattle.flat_code.specs.Program.{Key, Routine, UnitCode, FlatProgram, routine_of}
use Rattle.runtime_units.specs.Units.{runtime_codes, IsRuntimeUnit}

abbrev pub has_words : Expr → Bool
has_words (Number n) = nat_lt n 65536
has_words (Byte at) = true
has_words (Word at) = true
has_words (AddressOf at) = true
has_words (SegmentOf at) = true
has_words (VmtOf unit number) = true
has_words (Op op a b) = has_words a && has_words b

abbrev pub all_have_words : List Expr → Bool
all_have_words [] = true
all_have_words (e ∷ es) = has_words e && all_have_words es

abbrev pub is_plain_step : Step → Bool
is_plain_step (StoreByte to value) = has_words value
is_plain_step (StoreWord to value) = has_words value
is_plain_step (Copy to from bytes) = nat_lt bytes 65536
is_plain_step (Leave loops) = true
is_plain_step (Call unit number args result) = false
is_plain_step (CallThrough pointer args result) = false
is_plain_step (Runtime number args result) = nat_lt number 5 && all_have_words args
is_plain_step (StoreRoutine to unit number) = true
is_plain_step Return = true
is_plain_step (Error code) = nat_lt code 65536

abbrev pub is_plain : Code → Bool
is_plain End = true
is_plain (Do step next) = is_plain_step step && is_plain next
is_plain (If test taken other next) = has_words test && (is_plain taken && (is_plain other && is_plain next))
is_plain (Loop body next) = is_plain body && is_plain next

-- the bodies of a unit's routines
abbrev pub is_plain_unit : UnitCode → Bool
is_plain_unit unit = list_all (λ (r : Routine). is_plain r.body) unit.routines

-- those of the whole runtime
abbrev pub runtime_is_plain : Bool
runtime_is_plain = list_all is_plain_unit runtime_codes

-- those of a program's routines that are the runtime's
abbrev pub IsPlainRuntime : FlatProgram → Type 0
IsPlainRuntime program = (key : Key) (r : Routine) → IsRuntimeUnit key.unit → routine_of program key ≡ Some r → is_plain r.body ≡ true
