-- What code without loops and calls does in an activation as its routine sees it. Where this has no answer nothing is said.
use Rattle.std.specs.Prelude.{ℕ, zero, suc, ◌+◌, nat_lt, if◌then◌else◌, List, [], ◌∷◌, ℤ, Ok, Err, slice_set}
use Rattle.common_values.specs.integers.Words.{low_byte, word_from_bytes}
use Rattle.flat_code.specs.declared.tree.Address.{Address}
use Rattle.flat_code.specs.declared.tree.Address.TheVariants.{Global, Local, Outer, Through}
use Rattle.flat_code.specs.declared.memory.Place.{Place}
use Rattle.flat_code.specs.declared.memory.Trap.TheVariants.{Bad}
use Rattle.flat_code.specs.Tree.{Expr, Number, Byte, Word, AddressOf, SegmentOf, VmtOf, Op, expr_size, Step, StoreByte, StoreWord, Copy, Leave, Call, CallThrough, Runtime, StoreRoutine, Return, Error, step_size, Code, End, Do, If, Loop}
use Rattle.flat_code.specs.Memory.{Cells, Found, ◌>>=◌, place_after, byte_at, store_bytes, word_bytes}
use Rattle.flat_code.specs.Program.{Choice}
use Rattle.flat_code.specs.Meaning.{Frame, datum_place, op_of}
use Rattle.runtime_proofs.specs.routine_proofs.Activation.{Slot, Shut, Free, Holds, Activation, slot_no, index_of, is_index}

-- ---- values

abbrev pub held : Slot → Found ℕ
held Shut = Err (Bad 2)
held Free = Err (Bad 1)
held (Holds value) = Ok value

abbrev pub local_word : ℕ → Activation → ℤ → Found ℕ
local_word above a d = if is_index above d then held (slot_no a (index_of above d)) else Err (Bad 2)

-- a far pointer from the i-th word on, whose segment stands in the word above
abbrev pub pointer_no : Activation → ℕ → Found Place
pointer_no a zero = Err (Bad 2)
pointer_no a (suc i) = held (slot_no a (suc i)) >>= λ offset. held (slot_no a i) >>= λ segment. Ok (record { segment = segment; offset = offset })

-- a place outside of the activation
abbrev pub outer_place : Choice → Frame → ℕ → Activation → Address → Found Place
outer_place choice own above a (Global unit number plus) = datum_place choice own unit number >>= λ p. Ok (place_after p plus)
outer_place choice own above a (Local at) = Err (Bad 2)
outer_place choice own above a (Outer levels at) = Err (Bad 2)
outer_place choice own above a (Through slot plus) = (if is_index above slot then pointer_no a (index_of above slot) else Err (Bad 2)) >>= λ p. Ok (place_after p plus)

-- a cell that holds no byte is of no use
abbrev pub byte_seen : Cells → Place → ℕ → Found ℕ
byte_seen m p i = byte_at m p i >>= λ byte. if nat_lt byte 256 then Ok byte else Err (Bad 1)

abbrev pub word_seen : Cells → Place → Found ℕ
word_seen m p = byte_seen m p 0 >>= λ low. byte_seen m p 1 >>= λ high. Ok (word_from_bytes low high)

abbrev pub word_value : Choice → Frame → ℕ → Activation → Address → Found ℕ
word_value choice own above a (Local at) = local_word above a at
word_value choice own above a at = outer_place choice own above a at >>= λ p. word_seen a.memory p

-- a segment that no word holds is of no use
abbrev pub segment_seen : Place → Found ℕ
segment_seen p = if nat_lt p.segment 65536 then Ok p.segment else Err (Bad 1)

abbrev pub seen_value : Choice → Frame → ℕ → Activation → Expr → Found ℕ
seen_value choice own above a (Number n) = if nat_lt n 65536 then Ok n else Err (Bad 1)
seen_value choice own above a (Byte at) = outer_place choice own above a at >>= λ p. byte_seen a.memory p 0
seen_value choice own above a (Word at) = word_value choice own above a at
seen_value choice own above a (AddressOf at) = outer_place choice own above a at >>= λ p. Ok p.offset
seen_value choice own above a (SegmentOf at) = outer_place choice own above a at >>= segment_seen
seen_value choice own above a (VmtOf unit number) = Err (Bad 1)
seen_value choice own above a (Op op x y) = seen_value choice own above a x >>= λ v. seen_value choice own above a y >>= λ w. op_of op v w

-- ---- statements

-- how statements end: at their end, out of so many more loops, at the end of the routine, or in a runtime error
pub data Exit : Type 0 where
  Onward : Exit
  Leaving : (loops : ℕ) → Exit
  Returning : Exit
  Failing : (code : ℕ) → Exit

pub record Came : Type 0 where
  pub exit : Exit
  pub there : Activation

abbrev pub onward : Activation → Found Came
onward a = Ok (record { exit = Onward; there = a })

abbrev pub with_slot : Slot → Activation → ℕ → ℕ → Found Activation
with_slot Shut a i value = Err (Bad 2)
with_slot Free a i value = Ok (record a { words = slice_set a.words i (Holds value) })
with_slot (Holds old) a i value = Ok (record a { words = slice_set a.words i (Holds value) })

abbrev pub with_local : ℕ → Activation → ℤ → ℕ → Found Activation
with_local above a d value = if is_index above d then with_slot (slot_no a (index_of above d)) a (index_of above d) value else Err (Bad 2)

abbrev pub with_outer : Choice → Frame → ℕ → Activation → Address → List ℕ → Found Activation
with_outer choice own above a at bytes = outer_place choice own above a at >>= λ p. store_bytes a.memory p 0 bytes >>= λ m. Ok (record a { memory = m })

abbrev pub with_word_at : Choice → Frame → ℕ → Activation → Address → ℕ → Found Activation
with_word_at choice own above a (Local d) value = with_local above a d value
with_word_at choice own above a at value = with_outer choice own above a at (word_bytes value)

abbrev pub leaving : ℕ → Activation → Found Came
leaving zero a = onward a
leaving (suc loops) a = Ok (record { exit = Leaving loops; there = a })

abbrev pub step_seen : Choice → Frame → ℕ → Step → Activation → Found Came
step_seen choice own above (StoreByte to value) a = seen_value choice own above a value >>= λ v. with_outer choice own above a to (low_byte v ∷ []) >>= λ b. onward b
step_seen choice own above (StoreWord to value) a = seen_value choice own above a value >>= λ v. with_word_at choice own above a to v >>= λ b. onward b
step_seen choice own above (Copy to from bytes) a = Err (Bad 1)
step_seen choice own above (Leave loops) a = leaving loops a
step_seen choice own above (Call unit number args result) a = Err (Bad 1)
step_seen choice own above (CallThrough pointer args result) a = Err (Bad 1)
step_seen choice own above (Runtime number args result) a = Err (Bad 1)
step_seen choice own above (StoreRoutine to unit number) a = Err (Bad 1)
step_seen choice own above Return a = Ok (record { exit = Returning; there = a })
step_seen choice own above (Error code) a = Ok (record { exit = Failing code; there = a })

-- what follows is done where the statements before it came to their end
abbrev pub continued : Exit → Activation → (Activation → Found Came) → Found Came
continued Onward a go = go a
continued (Leaving loops) a go = Ok (record { exit = Leaving loops; there = a })
continued Returning a go = Ok (record { exit = Returning; there = a })
continued (Failing code) a go = Ok (record { exit = Failing code; there = a })

abbrev pub chosen_way : ℕ → Found Came → Found Came → Found Came
chosen_way zero taken other = other
chosen_way (suc n) taken other = taken

abbrev pub straight : Choice → Frame → ℕ → Code → Activation → Found Came
straight choice own above End a = onward a
straight choice own above (Do step next) a = step_seen choice own above step a >>= λ c. continued c.exit c.there (straight choice own above next)
straight choice own above (If test taken other next) a =
    seen_value choice own above a test >>= λ v. chosen_way v (straight choice own above taken a) (straight choice own above other a) >>= λ c. continued c.exit c.there (straight choice own above next)
straight choice own above (Loop body next) a = Err (Bad 1)

-- the most nodes that begin in it
abbrev pub code_size : Code → ℕ
code_size End = 0
code_size (Do step next) = step_size step + code_size next
code_size (If test taken other next) = 1 + expr_size test + (code_size taken + code_size other) + code_size next
code_size (Loop body next) = 1 + code_size body + code_size next
