-- Standard functions of constants give constants.
use Rattle.std.proofs.Common.{◌≡◌, ℕ, ◌-◌, ◌<◌, ◌≤◌, ◌==◌, ltb, min, Bool, true, false, cond, List, [], ◌∷◌, length, Option, Some, None, refl, sym, subst, arith}
use Rattle.std.proofs.Math.IntN.{ℤ, pos, ◌+ℤ◌, ◌-ℤ◌}
use Rattle.std.specs.Prelude.{◌≤ℤ◌, bit_and, unsigned_abs}
use Rattle.std.proofs.lemmas.Bool.{eqb-true}
use Rattle.std.proofs.lemmas.Int.{ints}
use Rattle.std.proofs.lemmas.Nat.{and_le_r}
use Rattle.bodies_well_formed.specs.common_values.integers.Words.{word_from_bytes}
use Rattle.bodies_well_formed.specs.type_layout.declared.definitions.TypeId.{TypeId}
use Rattle.bodies_well_formed.specs.type_layout.declared.definitions.Host.{Host}
use Rattle.bodies_well_formed.specs.type_layout.declared.definitions.Host.TheVariants as host
use Rattle.bodies_well_formed.specs.type_layout.declared.definitions.TypeDef.{TypeDef}
use Rattle.bodies_well_formed.specs.type_layout.declared.definitions.TypeDef.TheVariants as type
use Rattle.bodies_well_formed.specs.type_layout.declared.texts.Place.{Place}
use Rattle.bodies_well_formed.specs.type_layout.Layouts.{bounds_at}
use Rattle.bodies_well_formed.specs.type_layout.Storage.{holds, integer_storage}
use Rattle.bodies_well_formed.specs.tp_lexer.declared.token.Feature.{Feature}
use Rattle.bodies_well_formed.specs.tp_lexer.left_out_names.Names.{feature_of}
use Rattle.bodies_well_formed.specs.typed_tree.declared.expressions.Value.{Value}
use Rattle.bodies_well_formed.specs.typed_tree.declared.expressions.Value.TheVariants as value
use Rattle.bodies_well_formed.specs.typed_tree.Standard as routine
use Rattle.bodies_well_formed.specs.common_values.declared.ordinals.IntegerType.{IntegerType}
use Rattle.bodies_well_formed.specs.common_values.declared.ordinals.IntegerType.TheVariants.{LongInt, Byte}
use Rattle.bodies_well_formed.specs.common_values.Ordinals.{kept}
use Rattle.bodies_well_formed.specs.common_values.Bits.{stored, conjunction, hi, lo, swapped, absolute}
use Rattle.bodies_well_formed.specs.common_values.Strings.{upper}
use Rattle.bodies_well_formed.proofs.common_values_proofs.OrdinalLemmas.{storage_laws}
use Rattle.bodies_well_formed.specs.typed_tree.type_fits.Fits.{definition, IsValue}
use Rattle.bodies_well_formed.specs.scopes.declared.entries.Entry.{Entry}
use Rattle.bodies_well_formed.specs.scopes.declared.entries.Entry.TheVariants as entry
use Rattle.bodies_well_formed.specs.scopes.Environment.{Environment, Meaning, named, member, find}
use Rattle.bodies_well_formed.specs.typing_rules.declared.sorts.Sort.{Sort}
use Rattle.bodies_well_formed.specs.typing_rules.Sorts.{host_in, sort_stored, sort_by, sort_of_type, sort_of_constant}
use Rattle.bodies_well_formed.specs.typing_rules.Judgements.{Judgement, makes}
use Rattle.bodies_well_formed.specs.typing_rules.Plans.{is_integer}
use Rattle.bodies_well_formed.specs.call_rules.Casts.{IsOrdinal}
use Rattle.bodies_well_formed.specs.call_rules.standard_rules.Signatures.{signatures, signature_of}
use Rattle.bodies_well_formed.specs.syntax_tree.expression_tree.Trees as tree
use Rattle.bodies_well_formed.specs.syntax_tree.expression_tree.Trees.{Tree}
use Rattle.bodies_well_formed.specs.constant_checker.declared.constant_expressions.constants.Constant.{Constant}
use Rattle.bodies_well_formed.specs.constant_checker.constant_expressions.Values as values
use Rattle.bodies_well_formed.specs.constant_checker.constant_expressions.Values.{number_of, bytes_of}
use Rattle.bodies_well_formed.specs.constant_checker.constant_expressions.Functions.{functions, function_in, function_of, bounded, stepped, short_type, applied, chosen, function_entry, function_meant, function_at, function_named, IsTaken, called_with}
use Rattle.bodies_well_formed.specs.rules_well_formed.nodes.Tables.{IsSound}
use Rattle.bodies_well_formed.proofs.rules_well_formed_proofs.nodes.Ordinals.{holding, IsIntegerHost, integers}
use Rattle.declarations_well_formed.specs.constants.Whole.{IsWholeSet, IsConstantOf}
use Rattle.declarations_well_formed.proofs.constants.Numbers.{IsLong, kept_long, kept_short, small_long, IsGood, same_good, number_good, kept_good, truth_good, character_good, value_long}

-- what is said of each that a judgement holds
abbrev IsEach : {C : Type 0} → Judgement C → (C → Type 0) → Type 0
IsEach {C} j Q = (c : C) → j.holds c → Q c

made_each : {C : Type 0} (Q : C → Type 0) (one : C) → Q one → IsEach (makes one) Q
made_each Q one h = λ c e. subst Q (sym e) h

-- and of each row of a table with its number
abbrev AllRows : {A : Type 0} → (ℕ → A → Type 0) → List (ℕ × A) → Type 0
AllRows P [] = Unit {0}
AllRows P (row ∷ rows) = P row.0 row.1 × AllRows P rows

-- ---- numbers

lowest_bit : (n : ℤ) (k : ℕ) → k ≤ 1 → n ≡ kept LongInt (pos k) → (pos 0 ≤ℤ n) × (n ≤ℤ pos 1)
lowest_bit n k small e =
    let same = (storage_laws LongInt).same (pos k) (omega (arith, ints), omega (arith, ints, small)) in
    (omega (arith, ints, same, e), omega (arith, ints, same, e, small))

upper_by : (p q : Bool) (byte : ℕ) → byte < 256 → cond p byte (cond q (byte - 32) byte) < 256
upper_by true q byte h = h
upper_by false true byte h = omega (arith, h)
upper_by false false byte h = h

upper_small : (byte : ℕ) → byte < 256 → upper byte < 256
upper_small byte h = upper_by (ltb byte 97) (ltb byte 123) byte h

swapped_long : (t : IntegerType) (n : ℤ) → IsLong (swapped t n)
swapped_long t n = kept_short t (pos (word_from_bytes (hi n) (lo n)))

kept_byte : (n : ℤ) → holds host.Byte (kept Byte n) (kept Byte n) ≡ true
kept_byte n = let b = (storage_laws Byte).within n in holding host.Byte (kept Byte n) b.0 b.1

-- ---- ordinals

whole_integer : (ty : TypeId) (w : Host) → IsIntegerHost w → is_integer (sort_stored ty w) ≡ true
whole_integer ty host.ShortInt h = refl
whole_integer ty host.Byte h = refl
whole_integer ty host.Integer h = refl
whole_integer ty host.Word h = refl
whole_integer ty host.LongInt h = refl
whole_integer ty w h = absurd h

-- another byte of an ordinal that is no integer
step_stored : (types : List TypeDef) (ty : TypeId) (one : Option TypeDef) (k n : ℤ) → IsValue types (value.Number k) one → is_integer (sort_by types ty one) ≡ false → holds host.Byte n n ≡ true
    → IsValue types (value.Number n) one
step_stored types ty (Some (type.Ordinal host.Char low high)) k n h other byte = byte
step_stored types ty (Some (type.Ordinal host.Boolean low high)) k n h other byte = byte
step_stored types ty (Some (type.Ordinal host.Enumeration low high)) k n h other byte = byte
step_stored types ty (Some (type.Ordinal host.ShortInt low high)) k n h other byte = let yes' = whole_integer (host_in types ty) (integer_storage low high) (integers low high) in let bad : ⊥ = cc in absurd bad
step_stored types ty (Some (type.Ordinal host.Byte low high)) k n h other byte = let yes' = whole_integer (host_in types ty) (integer_storage low high) (integers low high) in let bad : ⊥ = cc in absurd bad
step_stored types ty (Some (type.Ordinal host.Integer low high)) k n h other byte = let yes' = whole_integer (host_in types ty) (integer_storage low high) (integers low high) in let bad : ⊥ = cc in absurd bad
step_stored types ty (Some (type.Ordinal host.Word low high)) k n h other byte = let yes' = whole_integer (host_in types ty) (integer_storage low high) (integers low high) in let bad : ⊥ = cc in absurd bad
step_stored types ty (Some (type.Ordinal host.LongInt low high)) k n h other byte = let yes' = whole_integer (host_in types ty) (integer_storage low high) (integers low high) in let bad : ⊥ = cc in absurd bad
step_stored types ty one k n h other byte = absurd h

text_no_ordinal : (types : List TypeDef) (ty : TypeId) (bytes : List ℕ) (one : Option TypeDef) → IsValue types (value.Chars bytes) one → IsOrdinal (sort_by types ty one) → ⊥
text_no_ordinal types ty bytes (Some (type.Str max)) h k = k
text_no_ordinal types ty bytes one h k = h

set_no_ordinal : (types : List TypeDef) (ty : TypeId) → IsWholeSet types ty → IsOrdinal (sort_of_type types ty) → ⊥
set_no_ordinal types ty w k = subst (λ (d : Option TypeDef). IsOrdinal (sort_by types ty d)) w.is k

-- Succ and Pred are asked for an ordinal
of_succ : (s : Sort) → IsTaken (signature_of routine.succ) s → IsOrdinal s
unfolding signatures
of_succ s h = h

of_pred : (s : Sort) → IsTaken (signature_of routine.pred) s → IsOrdinal s
unfolding signatures
of_pred s h = h

asked_succ : (number : ℕ) (s : Sort) → routine.succ ≡ number → IsTaken (signature_of number) s → IsOrdinal s
asked_succ number s is h = of_succ s (subst (λ (n : ℕ). IsTaken (signature_of n) s) (sym is) h)

asked_pred : (number : ℕ) (s : Sort) → routine.pred ≡ number → IsTaken (signature_of number) s → IsOrdinal s
asked_pred number s is h = of_pred s (subst (λ (n : ℕ). IsTaken (signature_of n) s) (sym is) h)

module _ (types : List TypeDef) (sound : IsSound types) where
  -- an ordinal is a number
  step_good : (place : Place) (ty : TypeId) (v : Value) (n : ℤ) (c : Constant) → IsConstantOf types ty v → IsOrdinal (sort_of_constant types ty v) → (q : Bool) → is_integer (sort_of_type types ty) ≡ q
      → cond q (c ≡ values.integer (kept LongInt n)) ((bounded place ty (bounds_at types ty) (kept Byte n)).holds c) → IsGood types c
  step_good place ty v n c h o true is e = same_good types c (values.integer (kept LongInt n)) e (kept_good types sound n)
  step_good place ty (value.Number k) n c h o false is e =
      same_good types c (record { ty = ty; value = value.Number (kept Byte n) }) e.made
      (record { value = step_stored types ty (definition types ty) k (kept Byte n) h.value is (kept_byte n); whole = h.whole })
  step_good place ty (value.Chars bytes) n c h o false is e = absurd (text_no_ordinal types ty bytes (definition types ty) h.value o)
  step_good place ty value.Nil n c h o false is e = absurd o
  step_good place ty (value.Elements []) n c h o false is e = absurd o
  step_good place ty (value.Elements (x ∷ rest)) n c h o false is e = absurd (set_no_ordinal types ty h.whole o)

  -- ---- each function

  stepping : (place : Place) (x c : Constant) (n : ℤ) → IsGood types x → IsOrdinal (sort_of_constant types x.ty x.value)
      → (stepped place x.ty (sort_of_type types x.ty) (bounds_at types x.ty) n).holds c → IsGood types c
  stepping place x c n h o e = step_good place x.ty x.value n c h o (is_integer (sort_of_type types x.ty)) refl e

  odd_good : (n : ℤ) → IsGood types (values.truth (conjunction LongInt n (pos 1)))
  odd_good n =
      let b = lowest_bit (conjunction LongInt n (pos 1)) (bit_and (stored LongInt n) (stored LongInt (pos 1))) (and_le_r (stored LongInt n) 1) refl in
      truth_good types sound (conjunction LongInt n (pos 1)) b.0 b.1

  made_number : (n : ℤ) (c : Constant) → IsLong n → c ≡ values.integer n → IsGood types c
  made_number n c h e = same_good types c (values.integer n) e (number_good types sound n h)

  made_character : (byte : ℕ) (c : Constant) → byte < 256 → c ≡ values.character byte → IsGood types c
  made_character byte c h e = same_good types c (values.character byte) e (character_good types sound byte h)

  -- what a function gives of what its number is asked for
  abbrev Applies : (place : Place) (number : ℕ) → Type 0
  Applies place number =
      IsEach (chosen place number (function_of number))
      (λ f. (place : Place) (x c : Constant) → IsGood types x → IsTaken (signature_of f.number) (sort_of_constant types x.ty x.value)
      → (applied types place f.function x.ty (sort_of_type types x.ty) x.value).holds c → IsGood types c)

  chosen_each : (place : Place) (number : ℕ) (b : Bool) (one : _) (rest : _) (Q : _) → (b ≡ true → IsEach (chosen place number (Some one)) Q) → IsEach (chosen place number rest) Q
      → IsEach (chosen place number (cond b (Some one) rest)) Q
  chosen_each place number true one rest Q h k = h refl
  chosen_each place number false one rest Q h k = k

  rows_each : (place : Place) (number : ℕ) (rows : _) (Q : _) → AllRows (λ at one. at ≡ number → IsEach (chosen place number (Some one)) Q) rows → IsEach (chosen place number (function_in rows number)) Q
  rows_each place number [] Q h = λ f e. absurd e
  rows_each place number (row ∷ rows) Q h =
      chosen_each place number (row.0 == number) row.1 (function_in rows number) Q (λ same. h.0 (eqb-true row.0 number same)) (rows_each place number rows Q h.1)

  applies : (place : Place) (number : ℕ) → Applies place number
  unfolding functions
  applies place number =
      rows_each place number functions _ (
        (λ is. made_each _ _ (λ at x c h asked e. made_number (absolute LongInt (number_of x.value)) c (kept_long (pos (unsigned_abs (number_of x.value)))) e)),
        (
          (λ is. made_each _ _ (λ at x c h asked e. same_good types c (values.truth (conjunction LongInt (number_of x.value) (pos 1))) e (odd_good (number_of x.value)))),
          (
            (λ is. made_each _ _ (λ at x c h asked e. made_number (number_of x.value) c (value_long types sound x.value (definition types x.ty) h.value) e)),
            (
              (λ is. made_each _ _ (λ at x c h asked e. made_character (lo (number_of x.value)) c (omega arith) e)),
              (
                (λ is. made_each _ _ (λ at x c h asked e. stepping at x c (number_of x.value +ℤ pos 1) h (asked_succ number (sort_of_constant types x.ty x.value) is asked) e)),
                (
                  (λ is. made_each _ _ (λ at x c h asked e. stepping at x c (number_of x.value -ℤ pos 1) h (asked_pred number (sort_of_constant types x.ty x.value) is asked) e)),
                  (
                    (λ is. made_each _ _ (λ at x c h asked e. made_number (pos (hi (number_of x.value))) c (small_long (hi (number_of x.value)) (omega arith)) e)),
                    (
                      (λ is. made_each _ _ (λ at x c h asked e. made_number (pos (lo (number_of x.value))) c (small_long (lo (number_of x.value)) (omega arith)) e)),
                      (
                        (λ is. made_each _ _ (λ at x c h asked e. made_number (swapped (short_type (number_of x.value)) (number_of x.value)) c (swapped_long (short_type (number_of x.value)) (number_of x.value)) e)),
                        (
                          (λ is. made_each _ _ (λ at x c h asked e. made_character (upper (lo (number_of x.value))) c (upper_small (lo (number_of x.value)) (omega arith)) e)),
                          ((λ is. made_each _ _ (λ at x c h asked e. made_number (pos (min (length (bytes_of x.value)) 255)) c (small_long (min (length (bytes_of x.value)) 255) (omega arith)) e)), tt),
                        ),
                      ),
                    ),
                  ),
                ),
              ),
            ),
          ),
        ),
      )

  -- ---- which of them is called

  entry_each : (place : Place) (one : Entry) (Q : _) → ((number : ℕ) → IsEach (chosen place number (function_of number)) Q) → IsEach (function_entry place one) Q
  entry_each place (entry.Std number) Q h = h number
  entry_each place one Q h = λ f e. absurd e

  meaning_each : (place : Place) (feature : Option Feature) (one : Option Meaning) (Q : _) → ((number : ℕ) → IsEach (chosen place number (function_of number)) Q)
      → IsEach (function_meant place feature one) Q
  meaning_each place feature None Q h = λ f e. absurd e
  meaning_each place feature (Some (named number one)) Q h = entry_each place one Q h
  meaning_each place feature (Some (member number one)) Q h = λ f e. absurd e

  at_each : (g : Environment) (place : Place) (word : List ℕ) (Q : _) → ((number : ℕ) → IsEach (chosen place number (function_of number)) Q) → IsEach (function_at g place word) Q
  unfolding function_at
  at_each g place word Q h = meaning_each place (feature_of word) (find g word) Q h

  function_each : (g : Environment) (place : Place) (callee : Tree) (Q : _) → ((at : Place) (number : ℕ) → IsEach (chosen at number (function_of number)) Q) → IsEach (function_named g place callee) Q
  function_each g place (tree.name here word) Q h = at_each g here.place word Q (h here.place)
  function_each g place callee Q h = λ f e. absurd e

  abbrev pub AllGood : List Constant → Type 0
  AllGood [] = Unit {0}
  AllGood (c ∷ cs) = IsGood types c × AllGood cs

  pub called_good : (g : Environment) (place : Place) (callee : Tree) (f : _) (xs : List Constant) (c : Constant) → (function_named g place callee).holds f → AllGood xs
      → (called_with types place f xs).holds c → IsGood types c
  called_good g place callee f [] c held h e = absurd e
  called_good g place callee f (x ∷ []) c held h e =
      function_each g place callee
      (λ f. (place : Place) (x c : Constant) → IsGood types x → IsTaken (signature_of f.number) (sort_of_constant types x.ty x.value)
      → (applied types place f.function x.ty (sort_of_type types x.ty) x.value).holds c → IsGood types c)
      applies f held place x c h.0 e.holds.asked e.made
  called_good g place callee f (x ∷ y ∷ rest) c held h e = absurd e
