-- What is left of an input, byte by byte, and the input of a program where memory changes elsewhere.
use Rattle.std.proofs.Common.{◌≡◌, ℕ, zero, suc, ◌+◌, ◌<◌, ◌≤◌, Bool, true, false, List, [], ◌∷◌, length, Ok, refl, sym, ap, subst, ◌∙◌, arith, ◌⊎◌, inl, inr}
use Rattle.std.specs.Prelude.{◌==◌, ◌||◌, bit_or, cond}
use Rattle.std.proofs.lemmas.Bool.Decides.{nat_tests}
use Rattle.std.proofs.lemmas.Bool.{cases_eq}
use Rattle.flat_code.specs.declared.memory.Place.{Place}
use Rattle.flat_code.specs.Memory.{Cells, address_of, word_bytes}
use Rattle.flat_code.specs.Program.{Choice}
use Rattle.flat_code.specs.Meaning.{truth}
use Rattle.flat_code.specs.Gives.{IsBelow}
use Rattle.runtime_proofs.specs.routine_proofs.Entry.{memory_without}
use Rattle.runtime_proofs.specs.strings_in_memory.Strings.{HasBytes, IsOffStack}
use Rattle.runtime_proofs.proofs.strings_in_memory.Cells.{bytes-kept}
use Rattle.runtime_proofs.proofs.string_loops.Entry.{kept}
use Rattle.common_values.specs.Input.{is_eof, is_eoln, char_read, after_line, after_13}
use Rattle.runtime_proofs.specs.text_memory.Data.{IsLeft, none, byte, ended, ahead_place}
use Rattle.runtime_proofs.proofs.text_memory.Buffer.{off-lower}
use Rattle.rt_text.specs.read_text.Specifications.{HasInput, AreBytes}

-- what is left behind a byte that is ahead is what was not read yet
pub left-rest : (w : ℕ) (input left : List ℕ) → IsLeft w input left → w < 256 → (b : ℕ) (rest : List ℕ) → left ≡ b ∷ rest → input ≡ rest
left-rest w input left (byte c i small) h b rest e = cc
left-rest w input left ended h b rest e = absurd (cc)
left-rest w input left (none i) h b rest e = absurd (omega (arith, h))

-- ---- tests of a byte

pub same-byte : (b c : ℕ) → b ≡ c → (b == c) ≡ true
same-byte b c h = grind (arith, nat_tests, h)

pub other-byte : (b c : ℕ) → (b ≡ c → ⊥) → (b == c) ≡ false
other-byte b c h = grind (arith, nat_tests, h)

pub is-one : (b : Bool) → b ≡ true → truth b ≡ 0 → ⊥
is-one b e z = let one : truth b ≡ 1 = ap truth e in omega (arith, one, z)

pub either-bit : (p q : Bool) → bit_or (truth p) (truth q) ≡ truth (p || q)
either-bit true true = refl
either-bit true false = refl
either-bit false true = refl
either-bit false false = refl

-- ---- the input where memory is the same at the byte ahead

pub input-kept : (choice : Choice) (ahead : ℕ) (m n : Cells) (input left : List ℕ) → ((i : ℕ) → i < 2 → n (address_of (ahead_place choice ahead) i) ≡ m (address_of (ahead_place choice ahead) i)) → HasInput choice ahead m input left → HasInput choice ahead n input left
input-kept choice ahead m n input left same has = record {
  word = has.word;
  ahead_is = bytes-kept m n (ahead_place choice ahead) 0 (word_bytes has.word) (λ k h. let e : 0 + k ≡ k = omega arith in subst (λ j. n (address_of (ahead_place choice ahead) j) ≡ m (address_of (ahead_place choice ahead) j)) (sym e) (same k h)) has.ahead_is;
  left_is = has.left_is;
  bytes = has.bytes;
}

module _ (choice : Choice) (ahead sp top : ℕ) (low : sp ≤ top) (off : IsOffStack choice top (ahead_place choice ahead) 2) where
  pub input-inside : (c : Cells) (input left : List ℕ) → HasInput choice ahead c input left → HasInput choice ahead (memory_without choice sp c) input left
  input-inside c input left has = input-kept choice ahead c (memory_without choice sp c) input left (λ i h. kept choice sp c (address_of (ahead_place choice ahead) i) (off-lower choice sp top (ahead_place choice ahead) 2 low off i h)) has

  pub input-left : (m after : Cells) (input left : List ℕ) → ((x : ℕ) → (IsBelow choice sp x → ⊥) → after x ≡ m x) → HasInput choice ahead m input left → HasInput choice ahead after input left
  input-left m after input left same has = input-kept choice ahead m after input left (λ i h. same (address_of (ahead_place choice ahead) i) (off-lower choice sp top (ahead_place choice ahead) 2 low off i h)) has
