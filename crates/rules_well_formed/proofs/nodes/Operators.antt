-- Operators give typed nodes.
use Rattle.std.proofs.Common.{◌≡◌, ◌⊎◌, inl, inr, Bool, true, false, ◌&&◌, List, Option, Some, None, sym, ◌∙◌, subst}
use Rattle.std.specs.Option.{option_and_then}
use Rattle.well_formed.specs.type_layout.declared.definitions.TypeId.{TypeId}
use Rattle.well_formed.specs.type_layout.declared.definitions.Host.{Host}
use Rattle.well_formed.specs.type_layout.declared.definitions.Host.TheVariants as host
use Rattle.well_formed.specs.type_layout.declared.definitions.TypeDef.{TypeDef}
use Rattle.well_formed.specs.type_layout.declared.definitions.TypeDef.TheVariants as type
use Rattle.well_formed.specs.typed_tree.declared.expressions.BinaryOp.{BinaryOp}
use Rattle.well_formed.specs.typed_tree.declared.expressions.BinaryOp.TheVariants as op
use Rattle.well_formed.specs.typed_tree.Expressions.{Expression, type_of}
use Rattle.well_formed.specs.typed_tree.type_fits.Fits.{definition, stored_as, family_of, IsSome, IsBoolean, IsChar, IsString, IsSet, AreStoredAlike, IsWide}
use Rattle.well_formed.specs.Scopes.{Scope}
use Rattle.well_formed.specs.typed_tree.type_fits.Operators.{IsArithmetic, AreNumbers, AreOrdered, MayBeEarly}
use Rattle.well_formed.specs.Typed.{IsTyped}
use Rattle.well_formed.specs.typed_tree.type_fits.Standard.{sort_of}
use Rattle.call_rules.specs.typing_rules.declared.sorts.Range.{Range}
use Rattle.call_rules.specs.typing_rules.declared.sorts.SetBase.{SetBase}
use Rattle.call_rules.specs.typing_rules.declared.sorts.SetBase.TheVariants as over
use Rattle.call_rules.specs.typing_rules.declared.sorts.Sort.{Sort}
use Rattle.call_rules.specs.typing_rules.declared.sorts.Sort.TheVariants as sort
use Rattle.call_rules.specs.typing_rules.Sorts.{boolean, string, holding_type, common_type}
use Rattle.call_rules.specs.typing_rules.Wanted.{wanted, wanted_in}
use Rattle.call_rules.specs.typing_rules.Plans.{operation_of, AreIntegers, AreBooleans, AreTexts, AreSets, AreOfOneHost, IsMember, Asks, own_or, set_type, compared_in, plan_of, may_be_early}
use Rattle.call_rules.specs.typing_rules.Operators.{planned}
use Rattle.rules_well_formed.specs.nodes.Tables.{IsSound}
use Rattle.rules_well_formed.proofs.nodes.Ordinals.{IsWideType, holding_wide, common_wide, stored_boolean}
use Rattle.rules_well_formed.proofs.nodes.Sorted.{Shows}
use Rattle.rules_well_formed.proofs.nodes.Wanting.{some_of, IsOrdinal, wanted_ordinal, string_type, wanted_text}

-- ---- which sorts are related

integers_only : (P : Sort → Sort → Type 0) → ((r q : Range) → P (sort.Integer r) (sort.Integer q)) → (x y : Sort) → AreIntegers x y → P x y
integers_only P f (sort.Integer r) (sort.Integer q) k = f r q
integers_only P f (sort.Integer r) y k = absurd k.1
integers_only P f x y k = absurd k.0

booleans_only : (P : Sort → Sort → Type 0) → P sort.Boolean sort.Boolean → (x y : Sort) → AreBooleans x y → P x y
booleans_only P f sort.Boolean sort.Boolean k = f
booleans_only P f sort.Boolean y k = absurd k.1
booleans_only P f x y k = absurd k.0

texts_only : (P : Sort → Sort → Type 0) → P sort.Text sort.Text → P sort.Text sort.Char → P sort.Char sort.Text → P sort.Char sort.Char
    → (x y : Sort) → AreTexts x y → P x y
texts_only P both tc ct chars sort.Text sort.Text k = both
texts_only P both tc ct chars sort.Text sort.Char k = tc
texts_only P both tc ct chars sort.Char sort.Text k = ct
texts_only P both tc ct chars sort.Char sort.Char k = chars
texts_only P both tc ct chars sort.Text y k = absurd k.1
texts_only P both tc ct chars sort.Char y k = absurd k.1
texts_only P both tc ct chars x y k = absurd k.0

sets_only : (P : Sort → Sort → Type 0) → ((a b : SetBase) → P (sort.Set a) (sort.Set b)) → (x y : Sort) → AreSets x y → P x y
sets_only P f (sort.Set a) (sort.Set b) k = f a b
sets_only P f x y k = absurd k

hosts_only : (P : Sort → Sort → Type 0) → ((r q : Range) → P (sort.Integer r) (sort.Integer q)) → P sort.Boolean sort.Boolean → P sort.Char sort.Char
    → ((a b : TypeId) → P (sort.Enumeration a) (sort.Enumeration b)) → (x y : Sort) → AreOfOneHost x y → P x y
hosts_only P f g h e (sort.Integer r) (sort.Integer q) k = f r q
hosts_only P f g h e sort.Boolean sort.Boolean k = g
hosts_only P f g h e sort.Char sort.Char k = h
hosts_only P f g h e (sort.Enumeration a) (sort.Enumeration b) k = e a b
hosts_only P f g h e x y k = absurd k

-- ---- what is left out early

not_early : (o : BinaryOp) (early : Bool) (one : Option TypeDef) → MayBeEarly o (early && false) one
not_early o true one = tt
not_early o false one = tt

and_early : (early : Bool) (one : Option TypeDef) → IsBoolean one → MayBeEarly op.And (early && true) one
and_early true one h = h
and_early false one h = tt

or_early : (early : Bool) (one : Option TypeDef) → IsBoolean one → MayBeEarly op.Or (early && true) one
or_early true one h = h
or_early false one h = tt

-- ---- ordinals

family_some : (one : Option TypeDef) → IsSome (stored_as one) → IsSome (family_of one)
family_some (Some (type.Ordinal host low high)) h = tt
family_some one h = absurd h

pub family_by : (one : Option TypeDef) (w : Host) → stored_as one ≡ Some w → IsSome (family_of one)
family_by one w e = family_some one (some_of (stored_as one) w e)

alike : (one other : Option TypeDef) (w : Host) → stored_as one ≡ Some w → stored_as other ≡ Some w → AreStoredAlike one other
alike one other w e f = record { ordinal = some_of (stored_as one) w e; same = e ∙ sym f }

member_parts : (types : List TypeDef) (x y : Sort) (one other : Option TypeDef) → IsMember x y → Shows types x one → Shows types y other
    → IsSome (family_of one) × IsSet other
member_parts types (sort.Integer r) (sort.Set b) one other k i j = (family_some one i.1, j)
member_parts types sort.Boolean (sort.Set b) one other k i j = (family_by one host.Boolean i, j)
member_parts types sort.Char (sort.Set b) one other k i j = (family_by one host.Char i, j)
member_parts types (sort.Enumeration ty) (sort.Set b) one other k i j = (family_by one host.Enumeration i.0, j)
member_parts types x y one other k i j = absurd k

module _ (types : List TypeDef) where
  own_set : (o : Option TypeId) (d : TypeId) → IsSet (option_and_then (definition types) o) → IsSet (definition types (own_or d o))
  own_set None d h = absurd h
  own_set (Some ty) d h = h

  joined_set : (a : SetBase) (o p : Option TypeId) → IsSet (option_and_then (definition types) o) → IsSet (option_and_then (definition types) p)
      → IsSet (definition types (set_type a o p))
  joined_set over.Any o p h k = own_set p (own_or boolean o) k
  joined_set a o p h k = own_set o boolean h

-- ---- two operands

module _ (s : Scope) (sound : IsSound s.types) (a b : Expression) (ta : IsTyped s a) (tb : IsTyped s b) where
  abbrev At : (o : BinaryOp) → Bool → Sort → Sort → Type 0
  At o early x y = Shows s.types x (sort_of s.types a) → Shows s.types y (sort_of s.types b)
      → IsTyped s (planned s.types o (early && may_be_early o x) (plan_of (operation_of o) x y (type_of a) (type_of b)) a b)

  -- an integer in a type that operators give
  number : (ty : TypeId) → IsWideType s.types ty → (e : Expression) → IsTyped s e → IsSome (stored_as (sort_of s.types e))
      → IsTyped s (wanted s.types ty e) × IsArithmetic (definition s.types ty) (sort_of s.types (wanted s.types ty e))
  number ty w e typed some =
      let it = wanted_ordinal s sound ty w.0 w.1 e some typed in
      (it.0, (subst (λ (o : Option Host). IsWide o) (sym w.1) w.2, it.1 ∙ sym w.1))

  truth : (e : Expression) → IsTyped s e → IsBoolean (sort_of s.types e) → IsOrdinal s host.Boolean (wanted s.types boolean e)
  truth e typed h = wanted_ordinal s sound boolean host.Boolean (stored_boolean s.types sound) e (some_of (stored_as (sort_of s.types e)) host.Boolean h) typed

  bool : IsBoolean (definition s.types boolean)
  bool = stored_boolean s.types sound

  -- both in their common type
  sums : (r q : Range) → Shows s.types (sort.Integer r) (sort_of s.types a) → Shows s.types (sort.Integer q) (sort_of s.types b)
      → IsTyped s (wanted s.types (common_type r q) a) × IsTyped s (wanted s.types (common_type r q) b)
      × AreNumbers (definition s.types (common_type r q)) (sort_of s.types (wanted s.types (common_type r q) a)) (sort_of s.types (wanted s.types (common_type r q) b))
  sums r q i j =
      let w = common_wide s.types sound r q in
      let m = number (common_type r q) w a ta i.1 in
      let n = number (common_type r q) w b tb j.1 in
      (m.0, n.0, (m.1, n.1))

  -- compared in their common type
  ordered : (r q : Range) → Shows s.types (sort.Integer r) (sort_of s.types a) → Shows s.types (sort.Integer q) (sort_of s.types b)
      → IsTyped s (wanted s.types (common_type r q) a) × IsTyped s (wanted s.types (common_type r q) b)
      × AreStoredAlike (sort_of s.types (wanted s.types (common_type r q) a)) (sort_of s.types (wanted s.types (common_type r q) b))
  ordered r q i j =
      let w = common_wide s.types sound r q in
      let m = wanted_ordinal s sound (common_type r q) w.0 w.1 a i.1 ta in
      let n = wanted_ordinal s sound (common_type r q) w.0 w.1 b j.1 tb in
      (m.0, n.0, alike (sort_of s.types (wanted s.types (common_type r q) a)) (sort_of s.types (wanted s.types (common_type r q) b)) w.0 m.1 n.1)

  text_left : IsChar (sort_of s.types a) ⊎ IsString (sort_of s.types a) → IsTyped s (wanted s.types string a) × IsString (sort_of s.types (wanted s.types string a))
  text_left h = wanted_text s sound a ta h

  text_right : IsChar (sort_of s.types b) ⊎ IsString (sort_of s.types b) → IsTyped s (wanted s.types string b) × IsString (sort_of s.types (wanted s.types string b))
  text_right h = wanted_text s sound b tb h

  add_texts : (early : Bool) (x y : Sort) → AreTexts x y → At op.Add early x y
  add_texts early x y k = texts_only (λ u v. At op.Add early u v)
      (λ i j. let m = text_left (inr i) in let n = text_right (inr j) in (m.0, n.0, inr (inr (string_type s sound, m.1, n.1)), not_early op.Add early (definition s.types string)))
      (λ i j. let m = text_left (inr i) in let n = text_right (inl j) in (m.0, n.0, inr (inr (string_type s sound, m.1, n.1)), not_early op.Add early (definition s.types string)))
      (λ i j. let m = text_left (inl i) in let n = text_right (inr j) in (m.0, n.0, inr (inr (string_type s sound, m.1, n.1)), not_early op.Add early (definition s.types string)))
      (λ i j. let m = text_left (inl i) in let n = text_right (inl j) in (m.0, n.0, inr (inr (string_type s sound, m.1, n.1)), not_early op.Add early (definition s.types string)))
      x y k

  set_there : (p : SetBase) → IsSet (sort_of s.types a) → IsSet (sort_of s.types b) → IsSet (definition s.types (set_type p (type_of a) (type_of b)))
  set_there p i j = joined_set s.types p (type_of a) (type_of b) i j

  add : (early : Bool) (x y : Sort) → Asks (operation_of op.Add) x y → At op.Add early x y
  add early x y (inl k) = integers_only (λ u v. At op.Add early u v)
      (λ r q i j. let n = sums r q i j in (n.0, n.1, inl n.2, not_early op.Add early (definition s.types (common_type r q)))) x y k
  add early x y (inr (inl k)) = add_texts early x y k
  add early x y (inr (inr k)) = sets_only (λ u v. At op.Add early u v)
      (λ p q i j. (ta, tb, inr (inl (set_there p i j, i, j)), not_early op.Add early (definition s.types (set_type p (type_of a) (type_of b))))) x y k

  subtract : (early : Bool) (x y : Sort) → Asks (operation_of op.Subtract) x y → At op.Subtract early x y
  subtract early x y (inl k) = integers_only (λ u v. At op.Subtract early u v)
      (λ r q i j. let n = sums r q i j in (n.0, n.1, inl n.2, not_early op.Subtract early (definition s.types (common_type r q)))) x y k
  subtract early x y (inr k) = sets_only (λ u v. At op.Subtract early u v)
      (λ p q i j. (ta, tb, inr (set_there p i j, i, j), not_early op.Subtract early (definition s.types (set_type p (type_of a) (type_of b))))) x y k

  multiply : (early : Bool) (x y : Sort) → Asks (operation_of op.Multiply) x y → At op.Multiply early x y
  multiply early x y (inl k) = integers_only (λ u v. At op.Multiply early u v)
      (λ r q i j. let n = sums r q i j in (n.0, n.1, inl n.2, not_early op.Multiply early (definition s.types (common_type r q)))) x y k
  multiply early x y (inr k) = sets_only (λ u v. At op.Multiply early u v)
      (λ p q i j. (ta, tb, inr (set_there p i j, i, j), not_early op.Multiply early (definition s.types (set_type p (type_of a) (type_of b))))) x y k

  divide : (early : Bool) (x y : Sort) → AreIntegers x y → At op.Divide early x y
  divide early x y k = integers_only (λ u v. At op.Divide early u v)
      (λ r q i j. let n = sums r q i j in (n.0, n.1, n.2, not_early op.Divide early (definition s.types (common_type r q)))) x y k

  modulo : (early : Bool) (x y : Sort) → AreIntegers x y → At op.Modulo early x y
  modulo early x y k = integers_only (λ u v. At op.Modulo early u v)
      (λ r q i j. let n = sums r q i j in (n.0, n.1, n.2, not_early op.Modulo early (definition s.types (common_type r q)))) x y k

  shift_left : (early : Bool) (x y : Sort) → AreIntegers x y → At op.ShiftLeft early x y
  shift_left early x y k = integers_only (λ u v. At op.ShiftLeft early u v)
      (λ r q i j. let m = number (holding_type r) (holding_wide s.types sound r) a ta i.1 in (m.0, tb, (m.1, j.0), not_early op.ShiftLeft early (definition s.types (holding_type r)))) x y k

  shift_right : (early : Bool) (x y : Sort) → AreIntegers x y → At op.ShiftRight early x y
  shift_right early x y k = integers_only (λ u v. At op.ShiftRight early u v)
      (λ r q i j. let m = number (holding_type r) (holding_wide s.types sound r) a ta i.1 in (m.0, tb, (m.1, j.0), not_early op.ShiftRight early (definition s.types (holding_type r)))) x y k

  conjunction : (early : Bool) (x y : Sort) → Asks (operation_of op.And) x y → At op.And early x y
  conjunction early x y (inl k) = integers_only (λ u v. At op.And early u v)
      (λ r q i j. let n = sums r q i j in (n.0, n.1, inl n.2, not_early op.And early (definition s.types (common_type r q)))) x y k
  conjunction early x y (inr k) = booleans_only (λ u v. At op.And early u v)
      (λ i j. let m = truth a ta i in let n = truth b tb j in (m.0, n.0, inr ((bool, m.1), (bool, n.1)), and_early early (definition s.types boolean) bool)) x y k

  disjunction : (early : Bool) (x y : Sort) → Asks (operation_of op.Or) x y → At op.Or early x y
  disjunction early x y (inl k) = integers_only (λ u v. At op.Or early u v)
      (λ r q i j. let n = sums r q i j in (n.0, n.1, inl n.2, not_early op.Or early (definition s.types (common_type r q)))) x y k
  disjunction early x y (inr k) = booleans_only (λ u v. At op.Or early u v)
      (λ i j. let m = truth a ta i in let n = truth b tb j in (m.0, n.0, inr ((bool, m.1), (bool, n.1)), or_early early (definition s.types boolean) bool)) x y k

  exclusive : (early : Bool) (x y : Sort) → Asks (operation_of op.Xor) x y → At op.Xor early x y
  exclusive early x y (inl k) = integers_only (λ u v. At op.Xor early u v)
      (λ r q i j. let n = sums r q i j in (n.0, n.1, inl n.2, not_early op.Xor early (definition s.types (common_type r q)))) x y k
  exclusive early x y (inr k) = booleans_only (λ u v. At op.Xor early u v)
      (λ i j. let m = truth a ta i in let n = truth b tb j in (m.0, n.0, inr ((bool, m.1), (bool, n.1)), not_early op.Xor early (definition s.types boolean))) x y k

  -- ---- comparisons

  -- what a comparison of ordinals or texts is, in the types of its plan
  abbrev Compared : Sort → Sort → Type 0
  Compared x y = Shows s.types x (sort_of s.types a) → Shows s.types y (sort_of s.types b)
      → IsTyped s (wanted_in s.types (compared_in x y) a) × IsTyped s (wanted_in s.types (compared_in x y) b)
      × AreOrdered (sort_of s.types (wanted_in s.types (compared_in x y) a)) (sort_of s.types (wanted_in s.types (compared_in x y) b))

  compared_hosts : (x y : Sort) → AreOfOneHost x y → Compared x y
  compared_hosts x y k = hosts_only (λ u v. Compared u v)
      (λ r q i j. let n = ordered r q i j in (n.0, n.1, inl n.2))
      (λ i j. (ta, tb, inl (alike (sort_of s.types a) (sort_of s.types b) host.Boolean i j)))
      (λ i j. (ta, tb, inl (alike (sort_of s.types a) (sort_of s.types b) host.Char i j)))
      (λ t u i j. (ta, tb, inl (alike (sort_of s.types a) (sort_of s.types b) host.Enumeration i.0 j.0)))
      x y k

  compared_texts : (x y : Sort) → AreTexts x y → Compared x y
  compared_texts x y k = texts_only (λ u v. Compared u v)
      (λ i j. let m = text_left (inr i) in let n = text_right (inr j) in (m.0, n.0, inr (m.1, n.1)))
      (λ i j. let m = text_left (inr i) in let n = text_right (inl j) in (m.0, n.0, inr (m.1, n.1)))
      (λ i j. let m = text_left (inl i) in let n = text_right (inr j) in (m.0, n.0, inr (m.1, n.1)))
      (λ i j. (ta, tb, inl (alike (sort_of s.types a) (sort_of s.types b) host.Char i j)))
      x y k

  equal : (early : Bool) (x y : Sort) → Asks (operation_of op.Equal) x y → At op.Equal early x y
  equal early x y (inl k) i j = let n = compared_hosts x y k i j in (n.0, n.1, (bool, inl n.2), not_early op.Equal early (definition s.types boolean))
  equal early x y (inr (inl k)) i j = let n = compared_texts x y k i j in (n.0, n.1, (bool, inl n.2), not_early op.Equal early (definition s.types boolean))
  equal early x y (inr (inr k)) i j = sets_only (λ u v. At op.Equal early u v)
      (λ p q g h. (ta, tb, (bool, inr (inl (g, h))), not_early op.Equal early (definition s.types boolean))) x y k i j

  not_equal : (early : Bool) (x y : Sort) → Asks (operation_of op.NotEqual) x y → At op.NotEqual early x y
  not_equal early x y (inl k) i j = let n = compared_hosts x y k i j in (n.0, n.1, (bool, inl n.2), not_early op.NotEqual early (definition s.types boolean))
  not_equal early x y (inr (inl k)) i j = let n = compared_texts x y k i j in (n.0, n.1, (bool, inl n.2), not_early op.NotEqual early (definition s.types boolean))
  not_equal early x y (inr (inr k)) i j = sets_only (λ u v. At op.NotEqual early u v)
      (λ p q g h. (ta, tb, (bool, inr (inl (g, h))), not_early op.NotEqual early (definition s.types boolean))) x y k i j

  at_most : (early : Bool) (x y : Sort) → Asks (operation_of op.LessOrEqual) x y → At op.LessOrEqual early x y
  at_most early x y (inl k) i j = let n = compared_hosts x y k i j in (n.0, n.1, (bool, inl n.2), not_early op.LessOrEqual early (definition s.types boolean))
  at_most early x y (inr (inl k)) i j = let n = compared_texts x y k i j in (n.0, n.1, (bool, inl n.2), not_early op.LessOrEqual early (definition s.types boolean))
  at_most early x y (inr (inr k)) i j = sets_only (λ u v. At op.LessOrEqual early u v)
      (λ p q g h. (ta, tb, (bool, inr (g, h)), not_early op.LessOrEqual early (definition s.types boolean))) x y k i j

  at_least : (early : Bool) (x y : Sort) → Asks (operation_of op.GreaterOrEqual) x y → At op.GreaterOrEqual early x y
  at_least early x y (inl k) i j = let n = compared_hosts x y k i j in (n.0, n.1, (bool, inl n.2), not_early op.GreaterOrEqual early (definition s.types boolean))
  at_least early x y (inr (inl k)) i j = let n = compared_texts x y k i j in (n.0, n.1, (bool, inl n.2), not_early op.GreaterOrEqual early (definition s.types boolean))
  at_least early x y (inr (inr k)) i j = sets_only (λ u v. At op.GreaterOrEqual early u v)
      (λ p q g h. (ta, tb, (bool, inr (g, h)), not_early op.GreaterOrEqual early (definition s.types boolean))) x y k i j

  less : (early : Bool) (x y : Sort) → Asks (operation_of op.Less) x y → At op.Less early x y
  less early x y (inl k) i j = let n = compared_hosts x y k i j in (n.0, n.1, (bool, n.2), not_early op.Less early (definition s.types boolean))
  less early x y (inr k) i j = let n = compared_texts x y k i j in (n.0, n.1, (bool, n.2), not_early op.Less early (definition s.types boolean))

  greater : (early : Bool) (x y : Sort) → Asks (operation_of op.Greater) x y → At op.Greater early x y
  greater early x y (inl k) i j = let n = compared_hosts x y k i j in (n.0, n.1, (bool, n.2), not_early op.Greater early (definition s.types boolean))
  greater early x y (inr k) i j = let n = compared_texts x y k i j in (n.0, n.1, (bool, n.2), not_early op.Greater early (definition s.types boolean))

  contained : (early : Bool) (x y : Sort) → IsMember x y → At op.In early x y
  contained early x y k i j =
      let m = member_parts s.types x y (sort_of s.types a) (sort_of s.types b) k i j in
      (ta, tb, (bool, m.0, m.1), not_early op.In early (definition s.types boolean))

  pub operated : (o : BinaryOp) (early : Bool) (x y : Sort) → Asks (operation_of o) x y → Shows s.types x (sort_of s.types a) → Shows s.types y (sort_of s.types b)
      → IsTyped s (planned s.types o (early && may_be_early o x) (plan_of (operation_of o) x y (type_of a) (type_of b)) a b)
  operated op.Add early x y k = add early x y k
  operated op.Subtract early x y k = subtract early x y k
  operated op.Multiply early x y k = multiply early x y k
  operated op.Divide early x y k = divide early x y k
  operated op.Modulo early x y k = modulo early x y k
  operated op.ShiftLeft early x y k = shift_left early x y k
  operated op.ShiftRight early x y k = shift_right early x y k
  operated op.And early x y k = conjunction early x y k
  operated op.Or early x y k = disjunction early x y k
  operated op.Xor early x y k = exclusive early x y k
  operated op.Equal early x y k = equal early x y k
  operated op.NotEqual early x y k = not_equal early x y k
  operated op.LessOrEqual early x y k = at_most early x y k
  operated op.GreaterOrEqual early x y k = at_least early x y k
  operated op.Less early x y k = less early x y k
  operated op.Greater early x y k = greater early x y k
  operated op.In early x y k = contained early x y k
