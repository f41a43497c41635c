-- Straight code that works on locals alone does the same in each activation that has these locals.
use Rattle.std.specs.Prelude.{◌≡◌, ℕ, ◌*◌, Bool, true, false, ◌&&◌, List, ◌++◌, length, pos, negsuc, Ok}
use Rattle.flat_code.specs.declared.tree.Address.{Address}
use Rattle.flat_code.specs.declared.tree.Address.TheVariants.{Global, Local, Outer, Through}
use Rattle.flat_code.specs.Tree.{Expr, Number, Byte, Word, AddressOf, SegmentOf, VmtOf, Op, Step, StoreByte, StoreWord, Copy, Leave, Call, CallThrough, Runtime, StoreRoutine, Return, Error, Code, End, Do, If, Loop}
use Rattle.flat_code.specs.Program.{Choice}
use Rattle.flat_code.specs.Meaning.{Frame}
use Rattle.runtime_proofs.specs.routine_proofs.Activation.{Slot, Activation}
use Rattle.runtime_proofs.specs.routine_proofs.Straight.{Came, straight}

-- a word below BP
abbrev pub is_local_word : Address → Bool
is_local_word (Global unit number plus) = false
is_local_word (Local (pos d)) = false
is_local_word (Local (negsuc d)) = true
is_local_word (Outer levels at) = false
is_local_word (Through slot plus) = false

abbrev pub is_local_value : Expr → Bool
is_local_value (Number n) = true
is_local_value (Byte at) = false
is_local_value (Word at) = is_local_word at
is_local_value (AddressOf at) = false
is_local_value (SegmentOf at) = false
is_local_value (VmtOf unit number) = false
is_local_value (Op op x y) = is_local_value x && is_local_value y

abbrev pub is_local_step : Step → Bool
is_local_step (StoreByte to value) = false
is_local_step (StoreWord to value) = is_local_word to && is_local_value value
is_local_step (Copy to from bytes) = false
is_local_step (Leave loops) = true
is_local_step (Call unit number args result) = false
is_local_step (CallThrough pointer args result) = false
is_local_step (Runtime number args result) = false
is_local_step (StoreRoutine to unit number) = false
is_local_step Return = true
is_local_step (Error code) = true

abbrev pub is_local : Code → Bool
is_local End = true
is_local (Do step next) = is_local_step step && is_local next
is_local (If test taken other next) = is_local_value test && (is_local taken && (is_local other && is_local next))
is_local (Loop body next) = false

-- an activation with further words before and behind its own
abbrev pub widened : List Slot → List Slot → Activation → Activation
widened front back a = record a { words = front ++ (a.words ++ back) }

abbrev pub Widens : Choice → Frame → List Slot → List Slot → Type 0
Widens choice own front back =
    (code : Code) (a : Activation) (came : Came) → is_local code ≡ true → straight choice own 0 code a ≡ Ok came →
    straight choice own (2 * length front) code (widened front back a) ≡ Ok (record { exit = came.exit; there = widened front back came.there })
