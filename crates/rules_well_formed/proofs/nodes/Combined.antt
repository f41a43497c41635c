-- Operators between operands, of which one may be nil.
use Rattle.std.proofs.Common.{◌≡◌, inl, inr, Bool, true, false, ◌&&◌, cond, List, Option, Some, refl, sym, ◌∙◌, ap, subst, arith}
use Rattle.std.proofs.Math.IntN.{ℤ, pos, negsuc}
use Rattle.std.specs.Prelude.{◌≤ℤ◌, neg_ℤ}
use Rattle.std.specs.Ordering.{int_eq}
use Rattle.std.proofs.lemmas.Int.{ints}
use Rattle.std.proofs.lemmas.Bool.{and_parts}
use Rattle.well_formed.specs.type_layout.declared.definitions.TypeId.{TypeId}
use Rattle.well_formed.specs.type_layout.declared.definitions.Host.{Host}
use Rattle.well_formed.specs.type_layout.declared.definitions.Host.TheVariants as host
use Rattle.well_formed.specs.type_layout.declared.definitions.TypeDef.{TypeDef}
use Rattle.well_formed.specs.type_layout.declared.definitions.TypeDef.TheVariants as type
use Rattle.well_formed.specs.type_layout.declared.texts.Place.{Place}
use Rattle.well_formed.specs.type_layout.Storage.{holds, storage_of}
use Rattle.well_formed.specs.typed_tree.declared.expressions.Value.TheVariants as value
use Rattle.well_formed.specs.typed_tree.declared.expressions.UnaryOp.{UnaryOp}
use Rattle.well_formed.specs.typed_tree.declared.expressions.UnaryOp.TheVariants.{Plus, Minus, Not}
use Rattle.well_formed.specs.typed_tree.declared.expressions.BinaryOp.{BinaryOp}
use Rattle.well_formed.specs.typed_tree.declared.expressions.BinaryOp.TheVariants as op
use Rattle.well_formed.specs.typed_tree.Expressions.{Expression, Const, type_of}
use Rattle.well_formed.specs.typed_tree.type_fits.Fits.{definition, stored_as, held_as, IsPointer, IsWide, IsValue}
use Rattle.well_formed.specs.Scopes.{Scope}
use Rattle.well_formed.specs.typed_tree.type_fits.Operators.{IsArithmetic, FitsUnary}
use Rattle.well_formed.specs.Typed.{IsTyped}
use Rattle.well_formed.specs.typed_tree.type_fits.Standard.{sort_of}
use Rattle.call_rules.specs.typing_rules.declared.sorts.Sort.{Sort}
use Rattle.call_rules.specs.typing_rules.declared.sorts.Sort.TheVariants as sort
use Rattle.call_rules.specs.typing_rules.declared.plans.Operation.{Operation}
use Rattle.call_rules.specs.typing_rules.declared.plans.Operation.TheVariants as operation
use Rattle.call_rules.specs.typing_rules.Sorts as sorts
use Rattle.call_rules.specs.typing_rules.Sorts.{boolean, only, holding_type, number_type, integer, word, long_int, sort_of_type}
use Rattle.call_rules.specs.typing_rules.Wanted.{wanted, nil, constant_type, constant}
use Rattle.call_rules.specs.typing_rules.Joins.{is_address, are_pointers, ArePointersJoined}
use Rattle.call_rules.specs.typing_rules.Plans as plans
use Rattle.call_rules.specs.typing_rules.Plans.{operation_of, Asks, AsksNot, plan_of, turned, may_be_early}
use Rattle.call_rules.specs.typing_rules.Operators.{planned, AsksOfPointers, pointer_plan, pointers, plain, combined, sign_value, turned_node, signed_node, signed, negated}
use Rattle.rules_well_formed.specs.nodes.Tables.{IsSound}
use Rattle.rules_well_formed.specs.nodes.Laws.{IsOperand}
use Rattle.rules_well_formed.proofs.nodes.Ordinals.{within, holding, value_held, holding_wide, stored_integer, stored_word, stored_long, stored_boolean}
use Rattle.rules_well_formed.proofs.nodes.Sorted.{Shows, shows}
use Rattle.rules_well_formed.proofs.nodes.Wanting.{some_of, IsAddress, wanted_ordinal, beside}
use Rattle.rules_well_formed.proofs.nodes.Operators.{operated}

-- ---- what is not nil is typed

abbrev pub IsNone : Sort → Type 0
IsNone sort.Nil = ⊥
IsNone _ = Unit {0}

nil_sort : (types : List TypeDef) (e : Expression) → e ≡ nil → sorts.sort_of types e ≡ sort.Nil
nil_sort types e h = ap (λ (x : Expression). sorts.sort_of types x) h

pub not_nil : (s : Scope) (e : Expression) → IsNone (sorts.sort_of s.types e) → IsOperand s e → IsTyped s e
not_nil s e h (inl typed) = typed
not_nil s e h (inr none) = absurd (subst (λ (x : Sort). IsNone x) (nil_sort s.types e none) h)

-- ---- the rules ask for what is not nil

pub integer_one : (x : Sort) → plans.IsInteger x → IsNone x
integer_one (sort.Integer r) h = tt
integer_one x h = absurd h

boolean_one : (x : Sort) → plans.IsBoolean x → IsNone x
boolean_one sort.Boolean h = tt
boolean_one x h = absurd h

pub text_one : (x : Sort) → plans.IsText x → IsNone x
text_one sort.Text h = tt
text_one sort.Char h = tt
text_one x h = absurd h

pub hosts_left : (x y : Sort) → plans.AreOfOneHost x y → IsNone x
hosts_left sort.Nil y h = absurd h
hosts_left x y h = tt

pub hosts_right : (x y : Sort) → plans.AreOfOneHost x y → IsNone y
hosts_right (sort.Integer r) (sort.Integer q) h = tt
hosts_right sort.Boolean sort.Boolean h = tt
hosts_right sort.Char sort.Char h = tt
hosts_right (sort.Enumeration a) (sort.Enumeration b) h = tt
hosts_right x y h = absurd h

sets_both : (x y : Sort) → plans.AreSets x y → IsNone x × IsNone y
sets_both (sort.Set a) (sort.Set b) h = (tt, tt)
sets_both x y h = absurd h

member_both : (x y : Sort) → plans.IsMember x y → IsNone x × IsNone y
member_both (sort.Integer r) (sort.Set b) h = (tt, tt)
member_both sort.Boolean (sort.Set b) h = (tt, tt)
member_both sort.Char (sort.Set b) h = (tt, tt)
member_both (sort.Enumeration ty) (sort.Set b) h = (tt, tt)
member_both x y h = absurd h

integers_both : (x y : Sort) → plans.AreIntegers x y → IsNone x × IsNone y
integers_both x y h = (integer_one x h.0, integer_one y h.1)

texts_both : (x y : Sort) → plans.AreTexts x y → IsNone x × IsNone y
texts_both x y h = (text_one x h.0, text_one y h.1)

hosts_both : (x y : Sort) → plans.AreOfOneHost x y → IsNone x × IsNone y
hosts_both x y h = (hosts_left x y h, hosts_right x y h)

asked_both : (o : Operation) (x y : Sort) → Asks o x y → IsNone x × IsNone y
asked_both operation.Sum x y (inl h) = integers_both x y h
asked_both operation.Sum x y (inr (inl h)) = texts_both x y h
asked_both operation.Sum x y (inr (inr h)) = sets_both x y h
asked_both operation.Product x y (inl h) = integers_both x y h
asked_both operation.Product x y (inr h) = sets_both x y h
asked_both operation.Quotient x y h = integers_both x y h
asked_both operation.Shift x y h = integers_both x y h
asked_both operation.Logic x y (inl h) = integers_both x y h
asked_both operation.Logic x y (inr h) = (boolean_one x h.0, boolean_one y h.1)
asked_both operation.Equality x y (inl h) = hosts_both x y h
asked_both operation.Equality x y (inr (inl h)) = texts_both x y h
asked_both operation.Equality x y (inr (inr h)) = sets_both x y h
asked_both operation.Inclusion x y (inl h) = hosts_both x y h
asked_both operation.Inclusion x y (inr (inl h)) = texts_both x y h
asked_both operation.Inclusion x y (inr (inr h)) = sets_both x y h
asked_both operation.Order x y (inl h) = hosts_both x y h
asked_both operation.Order x y (inr h) = texts_both x y h
asked_both operation.Membership x y h = member_both x y h

-- ---- pointers

address_shown : (types : List TypeDef) (x : Sort) (one : Option TypeDef) → is_address x ≡ true → Shows types x one → IsPointer one
address_shown types sort.Pointer one e h = h
address_shown types sort.Nil one e h = h
address_shown types x one e h = let bad : ⊥ = cc in absurd bad

not_both : (types : List TypeDef) (x y : Option TypeId) → ArePointersJoined types sort.Nil sort.Nil x y → ⊥
not_both types x y (inl (inl h)) = h
not_both types x y (inl (inr h)) = h
not_both types x y (inr (inl h)) = h
not_both types x y (inr (inr h)) = h

module _ (s : Scope) (sound : IsSound s.types) where
  address_of : (e : Expression) → IsOperand s e → is_address (sorts.sort_of s.types e) ≡ true → IsAddress s e
  address_of e (inl typed) h = inl (typed, address_shown s.types (sorts.sort_of s.types e) (sort_of s.types e) h (shows s e typed))
  address_of e (inr none) h = inr none

  links : (o : BinaryOp) (a b : Expression) → IsOperand s a → IsOperand s b → (x y : Sort) → sorts.sort_of s.types a ≡ x → sorts.sort_of s.types b ≡ y
      → are_pointers x y ≡ true → AsksOfPointers s.types (operation_of o) x y (type_of a) (type_of b)
      → IsTyped s (planned s.types o false (pointer_plan (type_of a) (type_of b)) a b)
  links o a b oa ob x y ex ey are asked =
      let p = and_parts (is_address x) (is_address y) are in
      let la : IsAddress s a = address_of a oa (ap (λ (z : Sort). is_address z) ex ∙ p.0) in
      let lb : IsAddress s b = address_of b ob (ap (λ (z : Sort). is_address z) ey ∙ p.1) in
      by o asked la lb
    where
      no : ArePointersJoined s.types x y (type_of a) (type_of b) → a ≡ nil → b ≡ nil → ⊥
      no j na nb =
          let ax : x ≡ sort.Nil = sym ex ∙ nil_sort s.types a na in
          let by' : y ≡ sort.Nil = sym ey ∙ nil_sort s.types b nb in
          not_both s.types (type_of a) (type_of b) (subst (λ (z : Sort). ArePointersJoined s.types sort.Nil z (type_of a) (type_of b)) by'
          (subst (λ (z : Sort). ArePointersJoined s.types z y (type_of a) (type_of b)) ax j))

      by : (o : BinaryOp) → AsksOfPointers s.types (operation_of o) x y (type_of a) (type_of b) → IsAddress s a → IsAddress s b
          → IsTyped s (planned s.types o false (pointer_plan (type_of a) (type_of b)) a b)
      by op.Equal j la lb =
          let m = beside s sound a b la lb (no j) in
          let n = beside s sound b a lb la (λ nb na. no j na nb) in
          (m.0, n.0, (stored_boolean s.types sound, inr (inr (m.1, n.1))), tt)
      by op.NotEqual j la lb =
          let m = beside s sound a b la lb (no j) in
          let n = beside s sound b a lb la (λ nb na. no j na nb) in
          (m.0, n.0, (stored_boolean s.types sound, inr (inr (m.1, n.1))), tt)
      by o j la lb = absurd j

  ordinary : (o : BinaryOp) (early : Bool) (a b : Expression) → IsOperand s a → IsOperand s b
      → Asks (operation_of o) (sorts.sort_of s.types a) (sorts.sort_of s.types b)
      → IsTyped s (planned s.types o (early && may_be_early o (sorts.sort_of s.types a)) (plan_of (operation_of o) (sorts.sort_of s.types a) (sorts.sort_of s.types b) (type_of a) (type_of b)) a b)
  ordinary o early a b oa ob asked =
      let n = asked_both (operation_of o) (sorts.sort_of s.types a) (sorts.sort_of s.types b) asked in
      let ta = not_nil s a n.0 oa in
      let tb = not_nil s b n.1 ob in
      operated s sound a b ta tb o early (sorts.sort_of s.types a) (sorts.sort_of s.types b) asked (shows s a ta) (shows s b tb)

  by_kind : (place : Place) (o : BinaryOp) (early : Bool) (a b e : Expression) → IsOperand s a → IsOperand s b → (p : Bool)
      → are_pointers (sorts.sort_of s.types a) (sorts.sort_of s.types b) ≡ p
      → cond p ((pointers s.types place o (sorts.sort_of s.types a) (sorts.sort_of s.types b) a b).holds e) ((plain s.types place o early (sorts.sort_of s.types a) (sorts.sort_of s.types b) a b).holds e)
      → IsTyped s e
  by_kind place o early a b e oa ob true is h =
      subst (λ (x : Expression). IsTyped s x) (sym h.made) (links o a b oa ob (sorts.sort_of s.types a) (sorts.sort_of s.types b) refl refl is h.asked)
  by_kind place o early a b e oa ob false is h =
      subst (λ (x : Expression). IsTyped s x) (sym h.made) (ordinary o early a b oa ob h.asked)

  pub combined_typed : (place : Place) (o : BinaryOp) (early : Bool) (a b e : Expression) → IsOperand s a → IsOperand s b
      → (combined s.types place o early a b).holds e → IsTyped s e
  unfolding combined
  combined_typed place o early a b e oa ob h =
      by_kind place o early a b e oa ob (are_pointers (sorts.sort_of s.types a) (sorts.sort_of s.types b)) refl h

  -- ---- one operand

  number_by : (n : ℤ) → holds host.LongInt n n ≡ true → (p q : Bool) → holds host.Integer n n ≡ p → holds host.Word n n ≡ q
      → IsValue s.types (value.Number n) (definition s.types (cond p integer (cond q word long_int)))
  number_by n l true q e f = value_held s.types (definition s.types integer) host.Integer n (stored_integer s.types sound) e
  number_by n l false true e f = value_held s.types (definition s.types word) host.Word n (stored_word s.types sound) f
  number_by n l false false e f = value_held s.types (definition s.types long_int) host.LongInt n (stored_long s.types sound) l

  -- a number of 32 bits is one of the first type that holds it
  pub number_value : (n : ℤ) → holds host.LongInt n n ≡ true → IsValue s.types (value.Number n) (definition s.types (number_type n))
  number_value n l = number_by n l (holds host.Integer n n) (holds host.Word n n) refl refl

  stored_range : (w : Host) (n : ℤ) → holds (held_as w) n n ≡ true → holds host.LongInt n n ≡ true
  stored_range host.ShortInt n h = let b = within host.ShortInt n h in let l = b.0 in let r = b.1 in holding host.LongInt n (omega (arith, ints)) (omega (arith, ints))
  stored_range host.Byte n h = let b = within host.Byte n h in let l = b.0 in let r = b.1 in holding host.LongInt n (omega (arith, ints)) (omega (arith, ints))
  stored_range host.Integer n h = let b = within host.Integer n h in let l = b.0 in let r = b.1 in holding host.LongInt n (omega (arith, ints)) (omega (arith, ints))
  stored_range host.Word n h = let b = within host.Word n h in let l = b.0 in let r = b.1 in holding host.LongInt n (omega (arith, ints)) (omega (arith, ints))
  stored_range host.LongInt n h = h
  stored_range host.Char n h = let b = within host.Char n h in let l = b.0 in let r = b.1 in holding host.LongInt n (omega (arith, ints)) (omega (arith, ints))
  stored_range host.Boolean n h = let b = within host.Byte n h in let l = b.0 in let r = b.1 in holding host.LongInt n (omega (arith, ints)) (omega (arith, ints))
  stored_range host.Enumeration n h = let b = within host.Enumeration n h in let l = b.0 in let r = b.1 in holding host.LongInt n (omega (arith, ints)) (omega (arith, ints))

  pub value_range : (one : Option TypeDef) (n : ℤ) → IsValue s.types (value.Number n) one → holds host.LongInt n n ≡ true
  value_range (Some (type.Ordinal host low high)) n h = stored_range (storage_of host low high) n h
  value_range one n h = absurd h

  constant_by : (ty : TypeId) (n : ℤ) → IsValue s.types (value.Number n) (definition s.types ty) → (x : Sort) → IsValue s.types (value.Number n) (definition s.types (constant_type ty n x))
  constant_by ty n h (sort.Integer r) = number_value n (value_range (definition s.types ty) n h)
  constant_by ty n h x = h

  -- a constant number by itself
  pub constant_value : (ty : TypeId) (n : ℤ) → IsValue s.types (value.Number n) (definition s.types ty) → IsTyped s (constant s.types ty n)
  constant_value ty n h = constant_by ty n h (sort_of_type s.types ty)

  opposite : (n : ℤ) → holds host.LongInt n n ≡ true → (b : Bool) → int_eq n (negsuc 2147483647) ≡ b → holds host.LongInt (cond b n (neg_ℤ n)) (cond b n (neg_ℤ n)) ≡ true
  opposite n h true e = h
  opposite n h false e =
      let b = within host.LongInt n h in
      let l = b.0 in
      let r = b.1 in
      holding host.LongInt (neg_ℤ n) (least n l r e) (greatest n l r e)
    where
      least : (m : ℤ) → negsuc 2147483647 ≤ℤ m → m ≤ℤ pos 2147483647 → int_eq m (negsuc 2147483647) ≡ false → negsuc 2147483647 ≤ℤ neg_ℤ m
      least m l r e = grind (arith, ints)

      greatest : (m : ℤ) → negsuc 2147483647 ≤ℤ m → m ≤ℤ pos 2147483647 → int_eq m (negsuc 2147483647) ≡ false → neg_ℤ m ≤ℤ pos 2147483647
      greatest m l r e = grind (arith, ints)

  sign_range : (o : UnaryOp) (n : ℤ) → holds host.LongInt n n ≡ true → holds host.LongInt (sign_value o n) (sign_value o n) ≡ true
  sign_range Minus n h = opposite n h (int_eq n (negsuc 2147483647)) refl
  sign_range Plus n h = h
  sign_range Not n h = h

  sign_fits : (o : UnaryOp) (one operand : Option TypeDef) → IsArithmetic one operand → FitsUnary o one operand
  sign_fits Plus one operand h = h
  sign_fits Minus one operand h = h
  sign_fits Not one operand h = inl h

  turned_number : (o : UnaryOp) (a : Expression) (x : Sort) → plans.IsInteger x → IsTyped s a → Shows s.types x (sort_of s.types a) → IsTyped s (turned_node s.types o x a)
  turned_number o a (sort.Integer r) k typed i =
      let w = holding_wide s.types sound r in
      let m = wanted_ordinal s sound (holding_type r) w.0 w.1 a i.1 typed in
      (m.0, sign_fits o (definition s.types (holding_type r)) (sort_of s.types (wanted s.types (holding_type r) a)) (subst (λ (h : Option Host). IsWide h) (sym w.1) w.2, m.1 ∙ sym w.1))
  turned_number o a x k typed i = absurd k

  turned_truth : (a : Expression) (x : Sort) → plans.IsBoolean x → IsTyped s a → Shows s.types x (sort_of s.types a) → IsTyped s (turned_node s.types Not x a)
  turned_truth a sort.Boolean k typed i =
      let m = wanted_ordinal s sound boolean host.Boolean (stored_boolean s.types sound) a (some_of (stored_as (sort_of s.types a)) host.Boolean i) typed in
      (m.0, inr (stored_boolean s.types sound, m.1))
  turned_truth a x k typed i = absurd k

  signed_by : (o : UnaryOp) (x : Sort) (a : Expression) → IsTyped s a → IsTyped s (turned_node s.types o x a) → IsTyped s (signed_node s.types o x a)
  signed_by o x (Const ty (value.Number n)) typed h = number_value (sign_value o n) (sign_range o n (value_range (definition s.types ty) n typed))
  signed_by o x a typed h = h

  pub signed_typed : (place : Place) (o : UnaryOp) (a e : Expression) → IsOperand s a → (signed s.types place o a).holds e → IsTyped s e
  unfolding signed
  signed_typed place o a e oa h =
      let x = sorts.sort_of s.types a in
      let typed = not_nil s a (integer_one x h.asked) oa in
      subst (λ (y : Expression). IsTyped s y) (sym h.made) (signed_by o x a typed (turned_number o a x h.asked typed (shows s a typed)))

  negated_by : (a : Expression) → IsOperand s a → AsksNot (sorts.sort_of s.types a) → IsTyped s (turned_node s.types Not (sorts.sort_of s.types a) a)
  negated_by a oa (inl k) =
      let typed = not_nil s a (integer_one (sorts.sort_of s.types a) k) oa in
      turned_number Not a (sorts.sort_of s.types a) k typed (shows s a typed)
  negated_by a oa (inr k) =
      let typed = not_nil s a (boolean_one (sorts.sort_of s.types a) k) oa in
      turned_truth a (sorts.sort_of s.types a) k typed (shows s a typed)

  pub negated_typed : (place : Place) (a e : Expression) → IsOperand s a → (negated s.types place a).holds e → IsTyped s e
  unfolding negated
  negated_typed place a e oa h = subst (λ (y : Expression). IsTyped s y) (sym h.made) (negated_by a oa h.asked)
