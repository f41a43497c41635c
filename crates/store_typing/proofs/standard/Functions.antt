-- Standard functions of numbers and texts.
use Rattle.std.proofs.Common.{◌≡◌, ℕ, zero, suc, ◌+◌, ◌<◌, ◌≤◌, Bool, true, false, List, [], ◌∷◌, ◌++◌, length, take, Some, refl, sym, subst, arith, IsTrue}
use Rattle.std.proofs.Common.{inl, inr, ⊎_elim}
use Rattle.std.specs.Prelude.{◌⊎◌, ◌^◌, nat_eq, ℤ, pos, ◌+ℤ◌, ◌-ℤ◌, ◌*ℤ◌, ◌==◌, ◌%◌, unsigned_abs, cond, All, Option, Ok}
use Rattle.std.specs.List.{starts_with}
use Rattle.std.proofs.lemmas.Int.{ints}
use Rattle.std.proofs.lemmas.List.Elements.{All-nil, All-head, All-tail, All-append, All-take}
use Rattle.std.proofs.lemmas.Bool.Decides.{nat_tests}
use Rattle.tp_meaning.specs.common_values.integers.Words.{w8, w16, word_of, high_byte, low_byte}
use Rattle.tp_meaning.proofs.common_values_proofs.integers.WordLaws.{word_of-word}
use Rattle.tp_meaning.specs.type_layout.declared.definitions.Host.{Host}
use Rattle.tp_meaning.specs.type_layout.declared.definitions.Host.TheVariants as host
use Rattle.tp_meaning.specs.type_layout.declared.definitions.TypeDef.{TypeDef}
use Rattle.tp_meaning.specs.type_layout.Storage.{holds}
use Rattle.tp_meaning.specs.common_values.Strings.{longest, copied, joined, place_from, position_of, upper}
use Rattle.tp_meaning.specs.common_values.Input.{is_eof, is_eoln}
use Rattle.tp_meaning.specs.typed_tree.Standard as routine
use Rattle.tp_meaning.specs.typed_tree.type_fits.Fits.{stored_as, held_as, IsBoolean, IsChar, IsWide, IsString}
use Rattle.tp_meaning.specs.typed_tree.type_fits.Standard.{Slot, Integer, Ordinal as OrdinalSlot, Char, Text as TextSlot, IsText as IsTextSlot}
use Rattle.tp_meaning.specs.Trees.{Ordinal, Text}
use Rattle.tp_meaning.specs.Shapes.{kept_as}
use Rattle.tp_meaning.specs.Store.{Store}
use Rattle.tp_meaning.specs.Programs.{Sort, definition}
use Rattle.tp_meaning.specs.Operators.{truth_number}
use Rattle.tp_meaning.specs.Standard.{Operand, Given, Abs, Sqr, Odd, Ord, Chr, Succ, Pred, Hi, Lo, Swap, UpCase, Length, Copy, Concat, Pos, Eof, Eoln, of_number, keeping, low_word, swapped, length_of, copy_of, position_in, all_joined}
use Rattle.store_typing.specs.types.Forms.{Number}
use Rattle.store_typing.specs.stores.Worlds.{World, IsHeld}
use Rattle.store_typing.specs.stores.Places.{IsText, IsValueOf}
use Rattle.store_typing.specs.stores.Stores.{Finds}
use Rattle.store_typing.proofs.stores.Paths.{finds_bind}
use Rattle.store_typing.proofs.operators.Ranges.{is_held, kept_held}
use Rattle.store_typing.proofs.operators.OperandKinds.{ordinal_value, truth_held, truth_value, of_text}
use Rattle.store_typing.specs.standard.Operands.{IsOperand, AreOperands, HoldsNumber, IsResult}
use Rattle.store_typing.specs.standard.Laws.{IsSoundCall}
use Rattle.store_typing.proofs.standard.Arguments.{NumberGiven, integer_given, ordinal_given, char_given, text_given, taken_text, dropped_text}

-- ---- the types of results

record Stored (o : Option TypeDef) : Type 0 where
  host : Host
  is : stored_as o ≡ Some host
  itself : (z : ℤ) → IsTrue (holds host z z) → IsTrue (holds (held_as host) z z)

wide_by : (o : Option TypeDef) (s : Option Host) → stored_as o ≡ s → IsWide s → Stored o
wide_by o (Some host.Integer) e is = record { host = host.Integer; is = e; itself = λ z h. h }
wide_by o (Some host.Word) e is = record { host = host.Word; is = e; itself = λ z h. h }
wide_by o (Some host.LongInt) e is = record { host = host.LongInt; is = e; itself = λ z h. h }
wide_by o s e is = absurd is

wide : (o : Option TypeDef) → IsWide (stored_as o) → Stored o
wide o is = wide_by o (stored_as o) refl is

byte_held : (w : World) (n : ℕ) → n < 256 → IsHeld w (Number host.Byte) (Ordinal (pos n))
byte_held w n h = is_held host.Byte (pos n) (omega (arith, ints)) (omega (arith, ints, h))

letter_held : (w : World) (n : ℕ) → n < 256 → IsHeld w (Number host.Char) (Ordinal (pos n))
letter_held w n h = is_held host.Char (pos n) (omega (arith, ints)) (omega (arith, ints, h))

integer_held : (w : World) (n : ℕ) → n < 256 → IsHeld w (Number host.Integer) (Ordinal (pos n))
integer_held w n h = is_held host.Integer (pos n) (omega (arith, ints)) (omega (arith, ints, h))

-- ---- places in texts

place_if : (place rest long : ℕ) (t : Bool) → (rest ≡ 0) ⊎ (rest < place + 1 + long) → (cond t place rest ≡ 0) ⊎ (cond t place rest < place + (1 + long))
place_if place rest long true h = inr (omega arith)
place_if place rest long false h = ⊎_elim inl (λ less. inr (omega (arith, less))) h

place_within : (text : List ℕ) (place : ℕ) (part : List ℕ) → (place_from place part text ≡ 0) ⊎ (place_from place part text < place + length text)
place_within [] place part = inl refl
place_within (byte ∷ text) place part =
    let long : length (byte ∷ text) ≡ 1 + length text = omega arith in
    let rest : ℕ = place_from (place + 1) part text in
    let test : Bool = starts_with nat_eq (byte ∷ text) part in
    subst (λ n. (cond test place rest ≡ 0) ⊎ (cond test place rest < place + n)) (sym long) (place_if place rest (length text) test (place_within text (place + 1) part))

place_small : (part text : List ℕ) → length text ≤ 255 → position_of part text < 256
place_small [] text short = omega arith
place_small (byte ∷ part) text short = ⊎_elim (λ e. omega (arith, e)) (λ h. omega (arith, h, short)) (place_within text 1 (byte ∷ part))

module _ (w : World) (store : Store) (result : Sort) where
  -- ---- functions of a number

  kept_number : (f : ℤ → ℤ) (h : Host) (x : Operand) → stored_as (definition result) ≡ Some h → NumberGiven w x → Finds (IsResult w (Some result)) (keeping f (stored_as (definition result)) (x ∷ []))
  kept_number f h x e n =
      subst (λ (s : Option Host). Finds (IsValueOf w result) (keeping f s (x ∷ []))) (sym e)
      (subst (λ (y : Operand). Finds (IsValueOf w result) (keeping f (Some h) (y ∷ []))) (sym n.is) (ordinal_value w result h (kept_as h (f n.z)) e (kept_held h (f n.z))))

  plain_number : (f : ℤ → ℤ) (h : Host) (x : Operand) → stored_as (definition result) ≡ Some h → (n : NumberGiven w x) → IsHeld w (Number h) (Ordinal (f n.z)) → Finds (IsResult w (Some result)) (of_number f (x ∷ []))
  plain_number f h x e n held = subst (λ (y : Operand). Finds (IsValueOf w result) (of_number f (y ∷ []))) (sym n.is) (ordinal_value w result h (f n.z) e held)

  pub abs_call : (x : Operand) → IsOperand w Integer x → IsWide (stored_as (definition result)) → IsSoundCall w store routine.abs (Some result) (x ∷ [])
  abs_call x is gives = let s = wide (definition result) gives in record { one = Abs; is = refl; sound = kept_number (λ z. pos (unsigned_abs z)) s.host x s.is (integer_given w x is) }

  pub sqr_call : (x : Operand) → IsOperand w Integer x → IsWide (stored_as (definition result)) → IsSoundCall w store routine.sqr (Some result) (x ∷ [])
  sqr_call x is gives = let s = wide (definition result) gives in record { one = Sqr; is = refl; sound = kept_number (λ z. z *ℤ z) s.host x s.is (integer_given w x is) }

  pub swap_call : (x : Operand) → IsOperand w Integer x → IsWide (stored_as (definition result)) → IsSoundCall w store routine.swap (Some result) (x ∷ [])
  swap_call x is gives = let s = wide (definition result) gives in record { one = Swap; is = refl; sound = kept_number (λ z. pos (swapped (low_word z))) s.host x s.is (integer_given w x is) }

  pub odd_call : (x : Operand) → IsOperand w Integer x → IsBoolean (definition result) → IsSoundCall w store routine.odd (Some result) (x ∷ [])
  odd_call x is gives =
      let n = integer_given w x is in
      record { one = Odd; is = refl; sound = plain_number (λ z. truth_number (word_of w8 z % 2 == 1)) host.Boolean x gives n (truth_held w (word_of w8 n.z % 2 == 1)) }

  pub ord_call : (x : Operand) → IsOperand w OrdinalSlot x → IsWide (stored_as (definition result)) → HoldsNumber (stored_as (definition result)) (x ∷ []) → IsSoundCall w store routine.ord (Some result) (x ∷ [])
  ord_call x is gives holds_it =
      let s = wide (definition result) gives in
      let n = ordinal_given w x is in
      let fits : HoldsNumber (Some s.host) (Given n.sort (Ordinal n.z) ∷ []) =
      subst (λ (y : Operand). HoldsNumber (Some s.host) (y ∷ [])) n.is (subst (λ (o : Option Host). HoldsNumber o (x ∷ [])) s.is holds_it) in
      record { one = Ord; is = refl; sound = plain_number (λ z. z) s.host x s.is n (s.itself n.z fits) }

  pub chr_call : (x : Operand) → IsOperand w Integer x → IsChar (definition result) → IsSoundCall w store routine.chr (Some result) (x ∷ [])
  chr_call x is gives =
      let n = integer_given w x is in
      record { one = Chr; is = refl; sound = plain_number (λ z. pos (word_of w8 z)) host.Char x gives n (letter_held w (word_of w8 n.z) (word_of-word w8 n.z)) }

  pub succ_call : (x : Operand) → IsOperand w OrdinalSlot x → (h : Host) → stored_as (definition result) ≡ Some h → IsSoundCall w store routine.succ (Some result) (x ∷ [])
  succ_call x is h e = record { one = Succ; is = refl; sound = kept_number (λ z. z +ℤ pos 1) h x e (ordinal_given w x is) }

  pub pred_call : (x : Operand) → IsOperand w OrdinalSlot x → (h : Host) → stored_as (definition result) ≡ Some h → IsSoundCall w store routine.pred (Some result) (x ∷ [])
  pred_call x is h e = record { one = Pred; is = refl; sound = kept_number (λ z. z -ℤ pos 1) h x e (ordinal_given w x is) }

  pub hi_call : (x : Operand) → IsOperand w Integer x → stored_as (definition result) ≡ Some host.Byte → IsSoundCall w store routine.hi (Some result) (x ∷ [])
  hi_call x is gives =
      let n = integer_given w x is in
      let word : low_word n.z < 2 ^ 16 = word_of-word w16 n.z in
      record { one = Hi; is = refl; sound = plain_number (λ z. pos (high_byte (low_word z))) host.Byte x gives n (byte_held w (high_byte (low_word n.z)) (omega (arith, word))) }

  pub lo_call : (x : Operand) → IsOperand w Integer x → stored_as (definition result) ≡ Some host.Byte → IsSoundCall w store routine.lo (Some result) (x ∷ [])
  lo_call x is gives =
      let n = integer_given w x is in
      record { one = Lo; is = refl; sound = plain_number (λ z. pos (low_byte (low_word z))) host.Byte x gives n (byte_held w (low_byte (low_word n.z)) (omega arith)) }

  upper_small : (n : ℕ) → n < 256 → upper n < 256
  upper_small n h = grind (arith, nat_tests)

  pub up_case_call : (x : Operand) → IsOperand w Char x → IsChar (definition result) → IsSoundCall w store routine.up_case (Some result) (x ∷ [])
  up_case_call x is gives =
      let n = char_given w x is in
      record { one = UpCase; is = refl; sound = plain_number (λ z. pos (upper (word_of w8 z))) host.Char x gives n (letter_held w (upper (word_of w8 n.z)) (upper_small (word_of w8 n.z) (word_of-word w8 n.z))) }

  -- ---- functions of texts

  pub length_call : (x : Operand) → IsOperand w TextSlot x → stored_as (definition result) ≡ Some host.Integer → IsSoundCall w store routine.length (Some result) (x ∷ [])
  length_call x is gives =
      let t = text_given w x is in
      record { one = Length; is = refl; sound = subst (λ (y : Operand). Finds (IsValueOf w result) (length_of (y ∷ []))) (sym t.is) (ordinal_value w result host.Integer (pos (length t.bytes)) gives (integer_held w (length t.bytes) (let s = t.text in omega (arith, s.short)))) }

  pub copy_call : (x y z : Operand) → IsOperand w TextSlot x → IsOperand w Integer y → IsOperand w Integer z → IsString (definition result) → IsSoundCall w store routine.copy (Some result) (x ∷ y ∷ z ∷ [])
  copy_call x y z is_x is_y is_z gives =
      let t = text_given w x is_x in
      let m = integer_given w y is_y in
      let n = integer_given w z is_z in
      let done = of_text w result (copied t.bytes m.z n.z) gives (taken_text _ _ (dropped_text _ t.bytes t.text)) in
      record {
        one = Copy;
        is = refl;
        sound = subst (λ (a : Operand). Finds (IsValueOf w result) (copy_of (a ∷ y ∷ z ∷ []))) (sym t.is)
            (subst (λ (b : Operand). Finds (IsValueOf w result) (copy_of (Given t.sort (Text t.bytes) ∷ b ∷ z ∷ []))) (sym m.is)
            (subst (λ (c : Operand). Finds (IsValueOf w result) (copy_of (Given t.sort (Text t.bytes) ∷ Given m.sort (Ordinal m.z) ∷ c ∷ []))) (sym n.is) done));
      }

  pub position_call : (x y : Operand) → IsOperand w TextSlot x → IsOperand w TextSlot y → stored_as (definition result) ≡ Some host.Byte → IsSoundCall w store routine.pos (Some result) (x ∷ y ∷ [])
  position_call x y is_x is_y gives =
      let s = text_given w x is_x in
      let t = text_given w y is_y in
      let text = t.text in
      let done = ordinal_value w result host.Byte (pos (position_of s.bytes t.bytes)) gives (byte_held w (position_of s.bytes t.bytes) (place_small s.bytes t.bytes text.short)) in
      record {
        one = Pos;
        is = refl;
        sound = subst (λ (a : Operand). Finds (IsValueOf w result) (position_in (a ∷ y ∷ []))) (sym s.is)
            (subst (λ (b : Operand). Finds (IsValueOf w result) (position_in (Given s.sort (Text s.bytes) ∷ b ∷ []))) (sym t.is) done);
      }

  length_taken : (k : ℕ) (bytes : List ℕ) → length (take k bytes) ≤ k
  length_taken zero [] = omega arith
  length_taken zero (byte ∷ bytes) = omega arith
  length_taken (suc k) [] = omega arith
  length_taken (suc k) (byte ∷ bytes) = omega (arith, length_taken k bytes)

  joined_text : (x y : List ℕ) → IsText x → IsText y → IsText (joined x y)
  joined_text x y is_x is_y = record {
    each = All-take (λ b. b < 256) longest (x ++ y) (All-append (λ b. b < 256) x y is_x.each is_y.each);
    short = length_taken longest (x ++ y);
  }

  all_texts : (slots : List Slot) (xs : List Operand) → All IsTextSlot slots → AreOperands w slots xs → Finds IsText (all_joined xs)
  all_texts [] [] each are = record { each = All-nil (λ b. b < 256); short = omega arith }
  all_texts [] (x ∷ xs) each are = absurd are
  all_texts (slot ∷ slots) [] each are = absurd are
  all_texts (slot ∷ slots) (x ∷ xs) each are =
      let t = text_given w x (subst (λ (s : Slot). IsOperand w s x) (All-head IsTextSlot slot slots each) are.0) in
      subst (λ (y : Operand). Finds IsText (all_joined (y ∷ xs))) (sym t.is)
      (finds_bind IsText IsText (all_joined xs) (λ behind. Ok (joined t.bytes behind)) (all_texts slots xs (All-tail IsTextSlot slot slots each) are.1) (λ behind is. joined_text t.bytes behind t.text is))

  pub concat_call : (slots : List Slot) (xs : List Operand) → All IsTextSlot slots → AreOperands w slots xs → IsString (definition result) → IsSoundCall w store routine.concat (Some result) xs
  concat_call slots xs each are gives = record {
    one = Concat;
    is = refl;
    sound = finds_bind IsText (IsValueOf w result) (all_joined xs) (λ text. Ok (Text text)) (all_texts slots xs each are) (λ text is. of_text w result text gives is);
  }

  -- ---- the input

  pub eof_call : IsBoolean (definition result) → IsSoundCall w store routine.eof (Some result) []
  eof_call gives = record { one = Eof; is = refl; sound = λ input. truth_value w result (is_eof input) gives }

  pub eoln_call : IsBoolean (definition result) → IsSoundCall w store routine.eoln (Some result) []
  eoln_call gives = record { one = Eoln; is = refl; sound = λ input. truth_value w result (is_eoln input) gives }
