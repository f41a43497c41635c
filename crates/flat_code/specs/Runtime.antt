-- What the lowering may rely on in the runtime: a promise for each routine.
use Rattle.std.specs.Prelude.{◌≡◌, ℕ, ◌+◌, ◌*◌, ◌==◌, if◌then◌else◌, List, [], ◌∷◌, Result, Ok, Err, pos, negsuc, Some, true, false, slice_get}
use Rattle.common_values.specs.integers.Words.{w32, wrapping_sub, wrapping_mul, signed_quotient, signed_remainder, is_signed_less}
use Rattle.flat_code.specs.declared.tree.Address.TheVariants.{Local}
use Rattle.flat_code.specs.declared.tree.FlatOp.TheVariants as op
use Rattle.flat_code.specs.Tree.{Number, Word, Op, StoreWord, End, Do}
use Rattle.flat_code.specs.Program.{Routine, UnitCode, FlatProgram, Choice, strings_unit, runtime_key}
use Rattle.flat_code.specs.Memory.{word_bytes}
use Rattle.flat_code.specs.Meaning.{truth, number_bytes}
use Rattle.flat_code.specs.Gives.{Computes}

-- a number of 32 bits from its two words, the lower one first
abbrev pub long_word : ℕ → ℕ → ℕ
long_word low high = low + 65536 * high

-- the bytes of a LongInt
abbrev pub long_bytes : ℕ → List ℕ
long_bytes n = number_bytes 4 n

-- ---- runtime numbers: 512 and more are those of numbers, strings and sets

abbrev pub negation_number : ℕ
negation_number = 512

abbrev pub product_number : ℕ
product_number = 513

abbrev pub less_number : ℕ
less_number = 514

abbrev pub quotient_number : ℕ
quotient_number = 515

abbrev pub remainder_number : ℕ
remainder_number = 516

-- ---- what the routines compute from the words of LongInts, each the lower word first

-- from one LongInt; other words never come
abbrev pub from_one : (ℕ → Result (List ℕ) ℕ) → List ℕ → Result (List ℕ) ℕ
from_one f (low ∷ high ∷ []) = f (long_word low high)
from_one f words = Ok []

-- from two
abbrev pub from_two : (ℕ → ℕ → Result (List ℕ) ℕ) → List ℕ → Result (List ℕ) ℕ
from_two f (low ∷ high ∷ other_low ∷ other_high ∷ []) = f (long_word low high) (long_word other_low other_high)
from_two f words = Ok []

abbrev pub negation_of : List ℕ → Result (List ℕ) ℕ
negation_of = from_one (λ x. Ok (long_bytes (wrapping_sub w32 0 x)))

abbrev pub product_of : List ℕ → Result (List ℕ) ℕ
product_of = from_two (λ x y. Ok (long_bytes (wrapping_mul w32 x y)))

-- a word that is 1 where the first is the less one, else 0
abbrev pub less_of : List ℕ → Result (List ℕ) ℕ
less_of = from_two (λ x y. Ok (word_bytes (truth (is_signed_less w32 x y))))

-- a divisor of 0 is error 200
abbrev pub quotient_of : List ℕ → Result (List ℕ) ℕ
quotient_of = from_two (λ x y. if y == 0 then Err 200 else Ok (long_bytes (signed_quotient w32 x y)))

abbrev pub remainder_of : List ℕ → Result (List ℕ) ℕ
remainder_of = from_two (λ x y. if y == 0 then Err 200 else Ok (long_bytes (signed_remainder w32 x y)))

-- what each routine of the runtime promises, with how much of the stack, of turns and of work it takes at most
pub record IsRuntime (program : FlatProgram) (choice : Choice) : Type 0 where
  pub negation : Computes program choice (runtime_key negation_number) 32 2 negation_of 0 64
  pub product : Computes program choice (runtime_key product_number) 64 4 product_of 0 64
  pub less : Computes program choice (runtime_key less_number) 64 4 less_of 0 64
  pub quotient : Computes program choice (runtime_key quotient_number) 64 4 quotient_of 64 4096
  pub remainder : Computes program choice (runtime_key remainder_number) 64 4 remainder_of 64 4096

-- ---- a routine by hand

-- the words of the argument stand at 8 and 6 above BP, and those of the result at 4 and 2 below it
abbrev pub negation_routine : Routine
negation_routine = record {
  far = true;
  arguments = 4;
  locals = 4;
  frame = 0;
  result = Some (record { at = Local (negsuc 3); bytes = 4 });
  body =
      Do (StoreWord (Local (negsuc 3)) (Op op.Sub (Number 0) (Word (Local (pos 8)))))
      (Do (StoreWord (Local (negsuc 1)) (Op op.Sub (Op op.Sub (Number 0) (Word (Local (pos 6)))) (Op op.Below (Number 0) (Word (Local (pos 8))))))
      End);
}

-- a program whose unit of strings begins with that routine and is not overlaid
pub record HoldsExample (program : FlatProgram) : Type 0 where
  pub unit : UnitCode
  pub is_there : program.unit strings_unit ≡ Some unit
  pub first : slice_get unit.routines 0 ≡ Some negation_routine
  pub resident : program.overlaid strings_unit ≡ false
