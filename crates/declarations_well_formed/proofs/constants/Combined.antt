-- Operators on constants give constants.
use Rattle.std.proofs.Common.{◌≡◌, ◌⊎◌, inl, inr, ℕ, ◌<◌, Bool, true, false, cond, List, [], ◌∷◌, ◌++◌, length-take, Option, Some, None, refl, sym, subst, ◌∙◌, arith}
use Rattle.std.proofs.Math.IntN.{ℤ, pos, negsuc, ◌+ℤ◌, ◌-ℤ◌, ◌*ℤ◌}
use Rattle.std.specs.Prelude.{◌^◌, bit_and, bit_or, bit_xor, unsigned_abs}
use Rattle.std.specs.Int.RustNames.{int_div}
use Rattle.std.specs.Ordering.{int_eq}
use Rattle.std.proofs.lemmas.Int.{ints}
use Rattle.std.proofs.lemmas.List.Elements.{All-nil, All-cons, All-append, All-take}
use Rattle.bodies_well_formed.specs.type_layout.declared.definitions.Host.TheVariants as host
use Rattle.bodies_well_formed.specs.type_layout.declared.definitions.TypeDef.{TypeDef}
use Rattle.bodies_well_formed.specs.type_layout.declared.definitions.TypeDef.TheVariants as type
use Rattle.bodies_well_formed.specs.type_layout.declared.texts.Place.{Place}
use Rattle.bodies_well_formed.specs.type_layout.Storage.{holds}
use Rattle.bodies_well_formed.specs.typed_tree.declared.expressions.Value.{Value}
use Rattle.bodies_well_formed.specs.typed_tree.declared.expressions.Value.TheVariants as value
use Rattle.bodies_well_formed.specs.typed_tree.declared.expressions.UnaryOp.{UnaryOp}
use Rattle.bodies_well_formed.specs.typed_tree.declared.expressions.BinaryOp.{BinaryOp}
use Rattle.bodies_well_formed.specs.typed_tree.declared.expressions.BinaryOp.TheVariants as op
use Rattle.bodies_well_formed.specs.common_values.declared.ordinals.IntegerType.TheVariants.{LongInt}
use Rattle.bodies_well_formed.specs.common_values.Ordinals.{kept, quotient, remainder, shift_count, right_shift}
use Rattle.bodies_well_formed.specs.common_values.Bits.{stored, conjunction, disjunction, exclusive_disjunction, complement}
use Rattle.bodies_well_formed.specs.common_values.Strings.{joined}
use Rattle.bodies_well_formed.specs.typed_tree.type_fits.Fits.{definition, IsValue}
use Rattle.bodies_well_formed.specs.typing_rules.declared.faults.Rule.TheVariants as rules
use Rattle.bodies_well_formed.specs.typing_rules.declared.plans.Operation.{Operation}
use Rattle.bodies_well_formed.specs.typing_rules.declared.plans.Operation.TheVariants as operation
use Rattle.bodies_well_formed.specs.typing_rules.declared.sorts.SetBase.{SetBase}
use Rattle.bodies_well_formed.specs.typing_rules.declared.sorts.Sort.{Sort}
use Rattle.bodies_well_formed.specs.typing_rules.declared.sorts.Sort.TheVariants as sort
use Rattle.bodies_well_formed.specs.typing_rules.Judgements.{Judgement, makes, either}
use Rattle.bodies_well_formed.specs.typing_rules.Sorts.{sort_of_type, sort_of_constant}
use Rattle.bodies_well_formed.specs.typing_rules.Operators.{sign_value}
use Rattle.bodies_well_formed.specs.typing_rules.Plans.{operation_of, Asks, IsInteger, IsBoolean, IsText, AreSets, is_integer, is_text}
use Rattle.bodies_well_formed.specs.constant_checker.declared.constant_expressions.constants.Constant.{Constant}
use Rattle.bodies_well_formed.specs.constant_checker.constant_expressions.Values as values
use Rattle.bodies_well_formed.specs.constant_checker.constant_expressions.Values.{number_of, bytes_of, taken, computed, compares, base_in, of_sort, numbered, combined_values, combined, signed, turned, negated}
use Rattle.bodies_well_formed.specs.rules_well_formed.nodes.Tables.{IsSound}
use Rattle.bodies_well_formed.proofs.rules_well_formed_proofs.nodes.Ordinals.{within}
use Rattle.declarations_well_formed.proofs.constants.Numbers.{IsLong, AreBytes, kept_long, shifted_long, sign_long, IsGood, same_good, number_good, truth_good, text_good, value_long}
use Rattle.declarations_well_formed.proofs.constants.Sets.{sets_good}

-- what follows of each of two judgements follows of that which is chosen
pub either_way : {C : Type 0} (b : Bool) (j k : Judgement C) (c : C) (P : Type 0) → (j.holds c → P) → (k.holds c → P) → (either b j k).holds c → P
either_way true j k c P one other h = one h
either_way false j k c P one other h = other h

-- ---- truths

abbrev pub IsBit : ℤ → Type 0
IsBit n = (n ≡ pos 0) ⊎ (n ≡ pos 1)

abbrev bit : Bool → ℤ
bit b = cond b (pos 0) (pos 1)

truth_bit : (b : Bool) → IsBit (cond b (pos 1) (pos 0))
truth_bit true = inr refl
truth_bit false = inl refl

both_bit : (p q : Bool) → IsBit (conjunction LongInt (bit p) (bit q))
both_bit true true = inl refl
both_bit true false = inl refl
both_bit false true = inl refl
both_bit false false = inr refl

either_bit : (p q : Bool) → IsBit (disjunction LongInt (bit p) (bit q))
either_bit true true = inl refl
either_bit true false = inr refl
either_bit false true = inr refl
either_bit false false = inr refl

one_bit : (p q : Bool) → IsBit (exclusive_disjunction LongInt (bit p) (bit q))
one_bit true true = inl refl
one_bit true false = inr refl
one_bit false true = inr refl
one_bit false false = inl refl

-- ---- which operands the rules ask for

-- neither an integer nor a text nor a set
abbrev IsNeither : Sort → Type 0
IsNeither (sort.Integer r) = ⊥
IsNeither sort.Text = ⊥
IsNeither sort.Char = ⊥
IsNeither (sort.Set base) = ⊥
IsNeither _ = Unit {0}

no_integer : (s : Sort) → IsNeither s → IsInteger s → ⊥
no_integer (sort.Integer r) n h = n
no_integer s n h = h

no_text : (s : Sort) → IsNeither s → IsText s → ⊥
no_text sort.Text n h = n
no_text sort.Char n h = n
no_text s n h = h

no_sets : (s t : Sort) → IsNeither s → AreSets s t → ⊥
no_sets (sort.Set a) (sort.Set b) n h = n
no_sets s t n h = h

asks_sum : (s t : Sort) → IsNeither s → Asks operation.Sum s t → ⊥
asks_sum s t n (inl h) = no_integer s n h.0
asks_sum s t n (inr (inl h)) = no_text s n h.0
asks_sum s t n (inr (inr h)) = no_sets s t n h

asks_product : (s t : Sort) → IsNeither s → Asks operation.Product s t → ⊥
asks_product s t n (inl h) = no_integer s n h.0
asks_product s t n (inr h) = no_sets s t n h

asks_logic : (s t : Sort) → IsNeither s → Asks operation.Logic s t → IsBoolean s
asks_logic s t n (inl h) = absurd (no_integer s n h.0)
asks_logic s t n (inr h) = h.0

-- sets go with sets
asks_sets : (o : Operation) (base : SetBase) (t : Sort) → Asks o (sort.Set base) t → AreSets (sort.Set base) t
asks_sets operation.Sum base t (inl h) = absurd h.0
asks_sets operation.Sum base t (inr (inl h)) = absurd h.0
asks_sets operation.Sum base t (inr (inr h)) = h
asks_sets operation.Product base t (inl h) = absurd h.0
asks_sets operation.Product base t (inr h) = h
asks_sets operation.Quotient base t h = absurd h.0
asks_sets operation.Shift base t h = absurd h.0
asks_sets operation.Logic base t (inl h) = absurd h.0
asks_sets operation.Logic base t (inr h) = absurd h.0
asks_sets operation.Equality base t (inl h) = absurd h
asks_sets operation.Equality base t (inr (inl h)) = absurd h.0
asks_sets operation.Equality base t (inr (inr h)) = h
asks_sets operation.Inclusion base t (inl h) = absurd h
asks_sets operation.Inclusion base t (inr (inl h)) = absurd h.0
asks_sets operation.Inclusion base t (inr (inr h)) = h
asks_sets operation.Order base t (inl h) = absurd h
asks_sets operation.Order base t (inr h) = absurd h.0
asks_sets operation.Membership base t h = absurd h

base_set : (s : Sort) (base : SetBase) → base_in s ≡ Some base → s ≡ sort.Set base
base_set (sort.Set own) base e = cc
base_set s base e = let bad : ⊥ = cc in absurd bad

module _ (types : List TypeDef) (sound : IsSound types) (place : Place) where
  -- ---- numbers

  long_good : (s : Sort) (n : ℤ) (c : Constant) → IsLong n → is_integer s ≡ true → c ≡ of_sort s n → IsGood types c
  long_good s n c h i e =
      same_good types c (values.integer n) (subst (λ (b : Bool). c ≡ cond b (values.integer n) (values.truth n)) i e) (number_good types sound n h)

  bit_good : (n : ℤ) → IsBit n → IsGood types (values.truth n)
  bit_good n (inl e) = truth_good types sound n (omega (arith, ints, e)) (omega (arith, ints, e))
  bit_good n (inr e) = truth_good types sound n (omega (arith, ints, e)) (omega (arith, ints, e))

  truth_case : (n : ℤ) (c : Constant) → IsBit n → c ≡ values.truth n → IsGood types c
  truth_case n c h e = same_good types c (values.truth n) e (bit_good n h)

  divided_good : (s : Sort) (b : Bool) (n : ℤ) (c : Constant) → IsLong n → is_integer s ≡ true → (numbered place s (cond b None (Some n))).holds c → IsGood types c
  divided_good s true n c h i e = absurd e
  divided_good s false n c h i e = long_good s n c h i e

  kept_case : (s : Sort) (n : ℤ) (c : Constant) → is_integer s ≡ true → c ≡ of_sort s (kept LongInt n) → IsGood types c
  kept_case s n c i e = long_good s (kept LongInt n) c (kept_long n) i e

  integers_good : (one : BinaryOp) (s : Sort) (x y : ℤ) (c : Constant) → is_integer s ≡ true → (numbered place s (computed one x y)).holds c → IsGood types c
  integers_good op.Add s x y c i e = kept_case s (x +ℤ y) c i e
  integers_good op.Subtract s x y c i e = kept_case s (x -ℤ y) c i e
  integers_good op.Multiply s x y c i e = kept_case s (x *ℤ y) c i e
  integers_good op.Divide s x y c i e = divided_good s (int_eq y (pos 0)) (quotient LongInt x y) c (kept_long (int_div x y)) i e
  integers_good op.Modulo s x y c i e = divided_good s (int_eq y (pos 0)) (remainder LongInt x y) c (kept_long (x -ℤ (quotient LongInt x y *ℤ y))) i e
  integers_good op.ShiftLeft s x y c i e = kept_case s (x *ℤ pos (2 ^ shift_count y)) c i e
  integers_good op.ShiftRight s x y c i e = long_good s (right_shift LongInt x y) c (shifted_long x y) i e
  integers_good op.And s x y c i e = kept_case s (pos (bit_and (stored LongInt x) (stored LongInt y))) c i e
  integers_good op.Or s x y c i e = kept_case s (pos (bit_or (stored LongInt x) (stored LongInt y))) c i e
  integers_good op.Xor s x y c i e = kept_case s (pos (bit_xor (stored LongInt x) (stored LongInt y))) c i e
  integers_good one s x y c i e = absurd e

  -- what is neither is a truth, under a logical operator
  truths_good : (one : BinaryOp) (x y : ℤ) (c : Constant) (t : Sort) → Asks (operation_of one) sort.Boolean t
      → (numbered place sort.Boolean (computed one (taken sort.Boolean x) (taken sort.Boolean y))).holds c → IsGood types c
  truths_good op.And x y c t h e = truth_case (conjunction LongInt (bit (int_eq x (pos 0))) (bit (int_eq y (pos 0)))) c (both_bit (int_eq x (pos 0)) (int_eq y (pos 0))) e
  truths_good op.Or x y c t h e = truth_case (disjunction LongInt (bit (int_eq x (pos 0))) (bit (int_eq y (pos 0)))) c (either_bit (int_eq x (pos 0)) (int_eq y (pos 0))) e
  truths_good op.Xor x y c t h e = truth_case (exclusive_disjunction LongInt (bit (int_eq x (pos 0))) (bit (int_eq y (pos 0)))) c (one_bit (int_eq x (pos 0)) (int_eq y (pos 0))) e
  truths_good op.Add x y c t h e = absurd (asks_sum sort.Boolean t tt h)
  truths_good op.Subtract x y c t h e = absurd (asks_product sort.Boolean t tt h)
  truths_good op.Multiply x y c t h e = absurd (asks_product sort.Boolean t tt h)
  truths_good op.Divide x y c t h e = absurd h.0
  truths_good op.Modulo x y c t h e = absurd h.0
  truths_good op.ShiftLeft x y c t h e = absurd h.0
  truths_good op.ShiftRight x y c t h e = absurd h.0
  truths_good one x y c t h e = absurd e

  others_good : (one : BinaryOp) (s t : Sort) (x y : ℤ) (c : Constant) → IsNeither s → (IsBoolean s → ⊥) → Asks (operation_of one) s t → (numbered place s (computed one x y)).holds c → IsGood types c
  others_good op.And s t x y c n b h e = absurd (b (asks_logic s t n h))
  others_good op.Or s t x y c n b h e = absurd (b (asks_logic s t n h))
  others_good op.Xor s t x y c n b h e = absurd (b (asks_logic s t n h))
  others_good op.Add s t x y c n b h e = absurd (asks_sum s t n h)
  others_good op.Subtract s t x y c n b h e = absurd (asks_product s t n h)
  others_good op.Multiply s t x y c n b h e = absurd (asks_product s t n h)
  others_good op.Divide s t x y c n b h e = absurd (no_integer s n h.0)
  others_good op.Modulo s t x y c n b h e = absurd (no_integer s n h.0)
  others_good op.ShiftLeft s t x y c n b h e = absurd (no_integer s n h.0)
  others_good op.ShiftRight s t x y c n b h e = absurd (no_integer s n h.0)
  others_good one s t x y c n b h e = absurd e

  numbers_good : (one : BinaryOp) (s t : Sort) (x y : ℤ) (c : Constant) → is_text s ≡ false → base_in s ≡ None → Asks (operation_of one) s t
      → (numbered place s (computed one (taken s x) (taken s y))).holds c → IsGood types c
  numbers_good one (sort.Integer r) t x y c text base h e = integers_good one (sort.Integer r) x y c refl e
  numbers_good one sort.Boolean t x y c text base h e = truths_good one x y c t h e
  numbers_good one sort.Text t x y c text base h e = let bad : ⊥ = cc in absurd bad
  numbers_good one sort.Char t x y c text base h e = let bad : ⊥ = cc in absurd bad
  numbers_good one (sort.Set of) t x y c text base h e = let bad : ⊥ = cc in absurd bad
  numbers_good one s t x y c text base h e = others_good one s t (taken s x) (taken s y) c tt (λ b. b) h e

  -- ---- all operands

  joined_good : (a b : List ℕ) → AreBytes a → AreBytes b → IsGood types (values.text (joined a b))
  joined_good a b first second =
      let most = length-take 255 (a ++ b) in
      text_good types sound (joined a b) (omega (arith, most)) (All-take (λ (byte : ℕ). byte < 256) 255 (a ++ b) (All-append (λ (byte : ℕ). byte < 256) a b first second))

  -- a Char is a byte, and a string is of bytes
  character_bytes : (n : ℤ) (b : Bool) → holds host.Char n n ≡ b → AreBytes (cond b (unsigned_abs n ∷ []) [])
  character_bytes n true e =
      let r = within host.Char n e in
      let low = r.0 in
      let high = r.1 in
      All-cons (λ (byte : ℕ). byte < 256) (unsigned_abs n) [] (omega (arith, ints, low, high)) (All-nil (λ (byte : ℕ). byte < 256))
  character_bytes n false e = All-nil (λ (byte : ℕ). byte < 256)

  text_bytes : (bytes : List ℕ) (one : Option TypeDef) → IsValue types (value.Chars bytes) one → AreBytes bytes
  text_bytes bytes (Some (type.Str max)) h = h.1
  text_bytes bytes one h = absurd h

  value_bytes : (v : Value) (one : Option TypeDef) → IsValue types v one → AreBytes (bytes_of v)
  value_bytes (value.Number n) one h = character_bytes n (holds host.Char n n) refl
  value_bytes (value.Chars bytes) one h = text_bytes bytes one h
  value_bytes v one h = All-nil (λ (byte : ℕ). byte < 256)

  by_text : (one : BinaryOp) (s t : Sort) (a b c : Constant) → IsGood types a → IsGood types b → (q : Bool) → is_text s ≡ q → base_in s ≡ None → Asks (operation_of one) s t
      → cond q (c ≡ values.text (joined (bytes_of a.value) (bytes_of b.value))) ((numbered place s (computed one (taken s (number_of a.value)) (taken s (number_of b.value)))).holds c) → IsGood types c
  by_text one s t a b c ga gb true is base h e =
      let first = value_bytes a.value (definition types a.ty) ga.value in
      let second = value_bytes b.value (definition types b.ty) gb.value in
      same_good types c (values.text (joined (bytes_of a.value) (bytes_of b.value))) e (joined_good (bytes_of a.value) (bytes_of b.value) first second)
  by_text one s t a b c ga gb false is base h e = numbers_good one s t (number_of a.value) (number_of b.value) c is base h e

  module _ (a b c : Constant) (ga : IsGood types a) (gb : IsGood types b) where
    by_base : (one : BinaryOp) (s t : Sort) → sort_of_constant types a.ty a.value ≡ s → sort_of_constant types b.ty b.value ≡ t → (base : Option SetBase) → base_in s ≡ base
        → Asks (operation_of one) s t → (combined_values place one s base a b).holds c → IsGood types c
    by_base one s t left right (Some base) is h e =
        let set : s ≡ sort.Set base = base_set s base is in
        let sets : AreSets (sort.Set base) t = asks_sets (operation_of one) base t (subst (λ (x : Sort). Asks (operation_of one) x t) set h) in
        let both : AreSets (sort_of_constant types a.ty a.value) (sort_of_constant types b.ty b.value) =
        subst (λ (y : Sort). AreSets (sort_of_constant types a.ty a.value) y) (sym right) (subst (λ (x : Sort). AreSets x t) (sym (left ∙ set)) sets) in
        same_good types c (values.sets_combined one base a b) e (sets_good types sound one base a b ga gb (left ∙ set) both)
    by_base one s t left right None is h e = by_text one s t a b c ga gb (is_text s) refl is h e

    pub combined_good : (one : BinaryOp) → (combined types place one a b).holds c → IsGood types c
    unfolding combined values.allowed
    combined_good one e =
        let s = sort_of_constant types a.ty a.value in
        let t = sort_of_constant types b.ty b.value in
        let holds = values.related (operation_of one) one s a.value b.value in
        either_way (compares (operation_of one)) (makes (values.truth (cond holds (pos 1) (pos 0)))) (combined_values place one s (base_in s) a b) c
        (IsGood types c) (λ same. truth_case (cond holds (pos 1) (pos 0)) c (truth_bit holds) same) (λ held. by_base one s t refl refl (base_in s) refl e.holds.asked held) e.made

  -- ---- one operand

  pub signed_good : (one : UnaryOp) (a c : Constant) → IsGood types a → (signed types place one a).holds c → IsGood types c
  unfolding signed
  signed_good one a c ga e =
      same_good types c (values.integer (sign_value one (number_of a.value))) e.made
      (number_good types sound (sign_value one (number_of a.value)) (sign_long one (number_of a.value) (value_long types sound a.value (definition types a.ty) ga.value)))

  not_bit : (b : Bool) → IsBit (cond b (pos 1) (pos 0))
  not_bit true = inr refl
  not_bit false = inl refl

  turned_good : (b : Bool) (n : ℤ) → IsGood types (cond b (values.integer (complement LongInt n)) (values.truth (cond (int_eq n (pos 0)) (pos 1) (pos 0))))
  turned_good true n = number_good types sound (complement LongInt n) (kept_long (negsuc 0 -ℤ n))
  turned_good false n = bit_good (cond (int_eq n (pos 0)) (pos 1) (pos 0)) (not_bit (int_eq n (pos 0)))

  pub negated_good : (a c : Constant) → (negated types place a).holds c → IsGood types c
  unfolding negated
  negated_good a c e = same_good types c (turned (sort_of_type types a.ty) (number_of a.value)) e.made (turned_good (is_integer (sort_of_type types a.ty)) (number_of a.value))
