-- Where things lie in an activation of flat code, and what expressions come to.
use Rattle.std.specs.Prelude.{ℕ, zero, suc, ◌/◌, ◌%◌, ◌==◌, Bool, nat_lt, if◌then◌else◌, List, [], ◌∷◌, Option, Some, None, bit_and, bit_or, bit_xor, ℤ}
use Rattle.common_values.specs.integers.Words.{w16, word_of, wrapping_add, wrapping_sub, wrapping_mul, high_product, signed_quotient, signed_remainder, is_signed_less, shifted_left, shifted_right, low_byte}
use Rattle.flat_code.specs.declared.tree.Address.{Address}
use Rattle.flat_code.specs.declared.tree.Address.TheVariants.{Global, Local, Outer, Through}
use Rattle.flat_code.specs.declared.tree.FlatOp.{FlatOp}
use Rattle.flat_code.specs.declared.tree.FlatOp.TheVariants as op
use Rattle.flat_code.specs.Tree.{Expr, Number, Byte, Word, AddressOf, SegmentOf, VmtOf, Op}
use Rattle.flat_code.specs.Memory.{Cells, place_after, Found, ◌>>=◌, byte_at, word_at, far_at}
use Rattle.flat_code.specs.declared.memory.Place.{Place}
use Rattle.flat_code.specs.declared.memory.Trap.TheVariants.{ByZero, Bad}
use Rattle.std.specs.Prelude.{Ok, Err}
use Rattle.flat_code.specs.Program.{Name, Key, Choice, named}

-- ---- places

-- a live activation: its unit, BP, the offset of its link word, SP, and the sum of the frames of all that are live
pub record Frame : Type 0 where
  pub unit : Name
  pub names : List Name
  pub bp : ℕ
  pub link : ℕ
  pub sp : ℕ
  pub sum : ℕ

-- so far from an offset in the stack
abbrev pub stack_place : Choice → ℕ → ℤ → Place
stack_place choice base distance = record { segment = choice.stack_segment; offset = wrapping_add w16 base (word_of w16 distance) }

-- the offset where the link word lies to which so many links lead from another one's
abbrev pub linked : Choice → Cells → ℕ → ℕ → Found ℕ
linked choice m zero at = Ok at
linked choice m (suc levels) at = word_at m (record { segment = choice.stack_segment; offset = at }) >>= λ up. linked choice m levels up

-- what has no place can't be reached
abbrev pub if_placed : {A : Type 0} → Option A → Found A
if_placed None = Err (Bad 2)
if_placed (Some offset) = Ok offset

abbrev pub key_of : Frame → ℕ → ℕ → Found Key
key_of f unit number = if_placed (named f.unit f.names unit) >>= λ name. Ok (record { unit = name; number = number })

abbrev pub datum_place : Choice → Frame → ℕ → ℕ → Found Place
datum_place choice f unit number = do
  key ← key_of f unit number
  offset ← if_placed (choice.datum key)
  Ok (record { segment = choice.data_segment; offset = offset })

abbrev pub vmt_offset : Choice → Frame → ℕ → ℕ → Found ℕ
vmt_offset choice f unit number = key_of f unit number >>= λ key. if_placed (choice.vmt key)

abbrev pub routine_pointer : Choice → Frame → ℕ → ℕ → Found Place
routine_pointer choice f unit number = key_of f unit number >>= λ key. if_placed (choice.far key)

abbrev pub place_of : Choice → Frame → Cells → Address → Found Place
place_of choice f m (Global unit number plus) = datum_place choice f unit number >>= λ p. Ok (place_after p plus)
place_of choice f m (Local at) = Ok (stack_place choice f.bp at)
place_of choice f m (Outer levels at) = linked choice m levels f.link >>= λ link. Ok (stack_place choice link at)
place_of choice f m (Through slot plus) = far_at m (stack_place choice f.bp slot) >>= λ p. Ok (place_after p plus)

-- ---- values

abbrev pub truth : Bool → ℕ
truth b = if b then 1 else 0

-- by cases on the divisor
abbrev pub divided : ℕ → ℕ → Found ℕ
divided zero value = Err ByZero
divided (suc divisor) value = Ok value

abbrev pub op_of : FlatOp → ℕ → ℕ → Found ℕ
op_of op.Add x y = Ok (wrapping_add w16 x y)
op_of op.Sub x y = Ok (wrapping_sub w16 x y)
op_of op.Mul x y = Ok (wrapping_mul w16 x y)
op_of op.MulHigh x y = Ok (high_product w16 x y)
op_of op.Div x y = divided y (signed_quotient w16 x y)
op_of op.Mod x y = divided y (signed_remainder w16 x y)
op_of op.DivUnsigned x y = divided y (x / y)
op_of op.ModUnsigned x y = divided y (x % y)
op_of op.And x y = Ok (bit_and x y)
op_of op.Or x y = Ok (bit_or x y)
op_of op.Xor x y = Ok (bit_xor x y)
op_of op.Shl x y = Ok (shifted_left w16 x (low_byte y))
op_of op.Shr x y = Ok (shifted_right x (low_byte y))
op_of op.Equal x y = Ok (truth (x == y))
op_of op.Less x y = Ok (truth (is_signed_less w16 x y))
op_of op.Below x y = Ok (truth (nat_lt x y))

abbrev pub value_of : Choice → Frame → Cells → Expr → Found ℕ
value_of choice f m (Number n) = Ok n
value_of choice f m (Byte at) = place_of choice f m at >>= λ p. byte_at m p 0
value_of choice f m (Word at) = place_of choice f m at >>= λ p. word_at m p
value_of choice f m (AddressOf at) = place_of choice f m at >>= λ p. Ok p.offset
value_of choice f m (SegmentOf at) = place_of choice f m at >>= λ p. Ok p.segment
value_of choice f m (VmtOf unit number) = vmt_offset choice f unit number
value_of choice f m (Op op a b) = value_of choice f m a >>= λ x. value_of choice f m b >>= λ y. op_of op x y

-- in order
abbrev pub values_of : Choice → Frame → Cells → List Expr → Found (List ℕ)
values_of choice f m [] = Ok []
values_of choice f m (e ∷ es) = value_of choice f m e >>= λ v. values_of choice f m es >>= λ vs. Ok (v ∷ vs)
