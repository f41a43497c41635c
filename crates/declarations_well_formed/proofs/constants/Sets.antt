-- Sets of constants: their elements lie within the bounds of their bases.
use Rattle.std.proofs.Common.{◌≡◌, ◌⊎◌, inl, inr, ℕ, zero, suc, ◌+◌, ◌-◌, ◌≤◌, ◌==◌, leb, Bool, true, false, not, ◌&&◌, ◌||◌, cond, List, [], ◌∷◌, Option, Some, None, refl, sym, subst, ap, ◌∙◌, arith}
use Rattle.std.proofs.Math.IntN.{ℤ, pos, negsuc}
use Rattle.std.specs.Prelude.{◌≤ℤ◌, filter, slice_get}
use Rattle.std.specs.List.{range_with_len}
use Rattle.std.proofs.lemmas.Int.{ints}
use Rattle.std.proofs.lemmas.Bool.{and_parts, eqb-true, leb-true}
use Rattle.std.proofs.lemmas.Bool.Decides.{Decides-eqb}
use Rattle.bodies_well_formed.specs.type_layout.declared.definitions.TypeId.{TypeId}
use Rattle.bodies_well_formed.specs.type_layout.declared.definitions.Host.{Host}
use Rattle.bodies_well_formed.specs.type_layout.declared.definitions.Host.TheVariants as host
use Rattle.bodies_well_formed.specs.type_layout.declared.definitions.TypeDef.{TypeDef}
use Rattle.bodies_well_formed.specs.type_layout.declared.definitions.TypeDef.TheVariants as type
use Rattle.bodies_well_formed.specs.type_layout.declared.texts.Place.{Place}
use Rattle.bodies_well_formed.specs.type_layout.Layouts.{bounds_at}
use Rattle.bodies_well_formed.specs.type_layout.Storage.{holds, storage_of}
use Rattle.bodies_well_formed.specs.typed_tree.declared.expressions.Value.{Value}
use Rattle.bodies_well_formed.specs.typed_tree.declared.expressions.Value.TheVariants as value
use Rattle.bodies_well_formed.specs.typed_tree.declared.expressions.BinaryOp.{BinaryOp}
use Rattle.bodies_well_formed.specs.typed_tree.declared.expressions.BinaryOp.TheVariants as op
use Rattle.bodies_well_formed.specs.common_values.Sets.{contains, union, difference, intersection, ordinals_between}
use Rattle.bodies_well_formed.proofs.common_values_proofs.SetLemmas.{element_laws}
use Rattle.bodies_well_formed.specs.typed_tree.type_fits.Fits.{definition, stored_as, IsValue, AreElements}
use Rattle.bodies_well_formed.specs.scopes.Predeclared.{type_id}
use Rattle.bodies_well_formed.specs.typing_rules.declared.sorts.SetBase.{SetBase}
use Rattle.bodies_well_formed.specs.typing_rules.declared.sorts.SetBase.TheVariants as over
use Rattle.bodies_well_formed.specs.typing_rules.declared.sorts.Sort.{Sort}
use Rattle.bodies_well_formed.specs.typing_rules.declared.sorts.Sort.TheVariants as sort
use Rattle.bodies_well_formed.specs.typing_rules.Sorts.{char, boolean, set_base, is_enumeration, host_by, host_in, sort_stored, base_stored, base_of, sort_by, sort_of_type, known, sort_of_constant}
use Rattle.bodies_well_formed.specs.typing_rules.Plans.{AreOfOneBase, AreSets, set_type}
use Rattle.bodies_well_formed.specs.call_rules.set_rules.Bases.{set_of_byte, is_set_of, set_in, set_over}
use Rattle.bodies_well_formed.specs.constant_checker.declared.constant_expressions.constants.Constant.{Constant}
use Rattle.bodies_well_formed.specs.constant_checker.declared.constant_expressions.constructors.Span.{Span}
use Rattle.bodies_well_formed.specs.constant_checker.constant_expressions.Values.{every_byte, set_constant, elements_of, elements_combined, sets_combined}
use Rattle.bodies_well_formed.specs.constant_checker.constant_expressions.Constructors.{IsSpan, AreSpans, first_sort, byte_of, elements_with, typed_set, bounds_by, base_bounds, set_by, set_of}
use Rattle.bodies_well_formed.specs.rules_well_formed.nodes.Tables.{IsSound}
use Rattle.bodies_well_formed.proofs.rules_well_formed_proofs.nodes.Ordinals.{within, stored_byte, stored_char, stored_boolean, set_types}
use Rattle.bodies_well_formed.proofs.rules_well_formed_proofs.nodes.Assigned.{same_id}
use Rattle.declarations_well_formed.specs.constants.Whole.{IsEnumerated, IsHost, IsWholeSet, IsConstantOf}
use Rattle.declarations_well_formed.proofs.constants.Numbers.{IsGood, same_good}

-- ---- elements that rise

abbrev pub AreWithin : ℤ × ℤ → List ℕ → Type 0
AreWithin bounds elements = (e : ℕ) → contains elements e ≡ true → (bounds.0 ≤ℤ pos e) × (pos e ≤ℤ bounds.1)

abbrev Within : (ℕ → Bool) → ℤ → ℤ → ℕ → Type 0
Within p least most from = (e : ℕ) → from ≤ e → p e ≡ true → (least ≤ℤ pos e) × (pos e ≤ℤ most)

rising_by : (p : ℕ → Bool) (least most : ℤ) (from : ℕ) (rest : List ℕ) (b : Bool) → p from ≡ b → Within p least most from
    → (Within p (pos (suc from)) most (from + 1) → AreElements (pos (suc from)) most rest) → (Within p least most (from + 1) → AreElements least most rest)
    → AreElements least most (cond b (from ∷ rest) rest)
rising_by p least most from rest true is h next same =
    let here = h from (omega arith) is in
    (here.0, here.1, next (λ e low k. (omega (arith, ints, low), (h e (omega (arith, low)) k).1)))
rising_by p least most from rest false is h next same = same (λ e low k. h e (omega (arith, low)) k)

rising : (p : ℕ → Bool) (most : ℤ) (n from : ℕ) (least : ℤ) → Within p least most from → AreElements least most (filter p (range_with_len from n))
rising p most zero from least h = tt
rising p most (suc n) from least h =
    rising_by p least most from (filter p (range_with_len (from + 1) n)) (p from) refl h (λ k. rising p most n (from + 1) (pos (suc from)) k) (λ k. rising p most n (from + 1) least k)

-- the elements of a constant set
pub are_elements : (least most : ℤ) (elements : List ℕ) → AreWithin (least, most) elements → AreElements least most (intersection every_byte elements)
unfolding every_byte
are_elements least most elements h = rising (λ e. contains elements e) most 256 0 least (λ e low k. h e k)

elements_by : (least most : ℤ) (x e : ℕ) (rest : List ℕ) (b : Bool) → (x == e) ≡ b → least ≤ℤ pos x → pos x ≤ℤ most
    → (contains rest e ≡ true → (pos (suc x) ≤ℤ pos e) × (pos e ≤ℤ most)) → (b || contains rest e) ≡ true → (least ≤ℤ pos e) × (pos e ≤ℤ most)
elements_by least most x e rest true is low high next h =
    let same = eqb-true x e is in
    (omega (arith, ints, same, low), omega (arith, ints, same, high))
elements_by least most x e rest false is low high next h =
    let k = next h in
    let more = k.0 in
    (omega (arith, ints, more, low), k.1)

pub elements_within : (elements : List ℕ) (least most : ℤ) → AreElements least most elements → AreWithin (least, most) elements
elements_within [] least most h e k = let bad : ⊥ = cc in absurd bad
elements_within (x ∷ rest) least most h e k = elements_by least most x e rest (x == e) refl h.0 h.1 (λ i. elements_within rest (pos (suc x)) most h.2 e i) k

-- ---- elements together

or_true : (x y : Bool) → (x || y) ≡ true → (x ≡ true) ⊎ (y ≡ true)
or_true true y h = inl refl
or_true false y h = inr h

in_either : (bounds : ℤ × ℤ) (a b : List ℕ) (e : ℕ) → AreWithin bounds a → AreWithin bounds b → (contains a e ≡ true) ⊎ (contains b e ≡ true) → (bounds.0 ≤ℤ pos e) × (pos e ≤ℤ bounds.1)
in_either bounds a b e h k (inl i) = h e i
in_either bounds a b e h k (inr i) = k e i

union_within : (bounds : ℤ × ℤ) (a b : List ℕ) → AreWithin bounds a → AreWithin bounds b → AreWithin bounds (union a b)
union_within bounds a b h k e i =
    in_either bounds a b e h k (or_true (contains a e) (contains b e) (sym (element_laws.union a b e) ∙ i))

combined_within : (one : BinaryOp) (bounds : ℤ × ℤ) (a b : List ℕ) → AreWithin bounds a → AreWithin bounds b → AreWithin bounds (elements_combined one a b)
combined_within op.Add bounds a b h k e i = union_within bounds a b h k e i
combined_within op.Subtract bounds a b h k e i = h e (and_parts (contains a e) (not (contains b e)) (sym (element_laws.difference a b e) ∙ i)).0
combined_within one bounds a b h k e i = h e (and_parts (contains a e) (contains b e) (sym (element_laws.intersection a b e) ∙ i)).0

-- ---- spans

byte_same : (n : ℤ) → holds host.Byte n n ≡ true → pos (byte_of n) ≡ n
byte_same (pos n) h =
    let b = within host.Byte (pos n) h in
    let most = b.1 in
    let small : n ≤ 255 = omega (arith, ints, most) in
    ap pos (omega (arith, small))
byte_same (negsuc n) h =
    let b = within host.Byte (negsuc n) h in
    let least = b.0 in
    absurd (omega (arith, ints, least))

between_ends : (low high e : ℕ) → (leb low e && leb e high) ≡ true → (low ≤ e) × (e ≤ high)
between_ends low high e h = let p = and_parts (leb low e) (leb e high) h in (leb-true low e p.0, leb-true e high p.1)

span_within : (s : Sort) (bounds : ℤ × ℤ) (one : Span) → IsSpan s bounds one → AreWithin bounds (ordinals_between (byte_of one.low.number) (byte_of one.high.number))
span_within s bounds one h e i =
    let low = h.0.1 in
    let high = h.1.1 in
    let first = byte_same one.low.number low.0 in
    let last = byte_same one.high.number high.0 in
    let ends = between_ends (byte_of one.low.number) (byte_of one.high.number) e (sym (element_laws.between (byte_of one.low.number) (byte_of one.high.number) e) ∙ i) in
    let from = low.1.0 in
    let to = high.1.1 in
    let after = ends.0 in
    let before = ends.1 in
    (omega (arith, ints, first, from, after), omega (arith, ints, last, to, before))

spans_within : (s : Sort) (bounds : ℤ × ℤ) (spans : List Span) (before : List ℕ) → AreSpans s bounds spans → AreWithin bounds before → AreWithin bounds (elements_with before spans)
spans_within s bounds [] before h k = k
spans_within s bounds (one ∷ rest) before h k =
    let all = ordinals_between (byte_of one.low.number) (byte_of one.high.number) in
    spans_within s bounds rest (union before all) h.1 (union_within bounds before all k (span_within s bounds one h.0))

-- ---- the first set over a type

pub record Found (of : TypeId) (number : ℕ) (types : List TypeDef) (id : TypeId) : Type 0 where
  pub place : ℕ
  pub is : id.0 ≡ number + place
  pub at : slice_get types place ≡ Some (type.SetOf of)

abbrev id_in : Option TypeId → ℕ
id_in None = 0
id_in (Some ty) = ty.0

found_here : (of : TypeId) (number : ℕ) (types : List TypeDef) (id : TypeId) (one : TypeDef) → is_set_of of one ≡ true → number ≡ id.0 → Found of number (one ∷ types) id
found_here of number types id (type.SetOf base) e is =
    let same : base ≡ of = same_id base of ((Decides-eqb base.0 of.0).0 e) in
    record { place = 0; is = omega (arith, is); at = ap (λ (b : TypeId). Some (type.SetOf b)) same }
found_here of number types id one e is = let bad : ⊥ = cc in absurd bad

found_by : (of : TypeId) (number : ℕ) (one : TypeDef) (types : List TypeDef) (id : TypeId) → (set_in of (number + 1) types ≡ Some id → Found of (number + 1) types id)
    → (b : Bool) → is_set_of of one ≡ b → cond b (Some (type_id number)) (set_in of (number + 1) types) ≡ Some id → Found of number (one ∷ types) id
found_by of number one types id rec true is e = found_here of number types id one is (ap (λ (o : Option TypeId). id_in o) e)
found_by of number one types id rec false is e =
    let r = rec e in
    let at = r.is in
    record { place = suc r.place; is = omega (arith, at); at = r.at }

found : (of : TypeId) (number : ℕ) (types : List TypeDef) (id : TypeId) → set_in of number types ≡ Some id → Found of number types id
found of number [] id e = let bad : ⊥ = cc in absurd bad
found of number (one ∷ types) id e = found_by of number one types id (λ k. found of (number + 1) types id k) (is_set_of of one) refl e

-- ---- hosts

-- what is said of an enumeration by the sort of its values
abbrev pub IsHostSort : List TypeDef → Sort → Type 0
IsHostSort types (sort.Enumeration of) = IsEnumerated types of
IsHostSort types _ = Unit {0}

stored_enumeration : (one : Option TypeDef) → is_enumeration one ≡ true → stored_as one ≡ Some host.Enumeration
stored_enumeration (Some (type.Ordinal host.Enumeration low high)) e = refl
stored_enumeration one e = let bad : ⊥ = cc in absurd bad

pub own_host : (types : List TypeDef) (ty : TypeId) → IsEnumerated types ty → host_in types ty ≡ ty
own_host types ty h =
    ap (λ (d : Option TypeDef). host_by types ty (set_base d)) h.set ∙ ap (λ (b : Bool). cond b ty ty) h.is

same_hosts : (types : List TypeDef) (p q : SetBase) (a b : TypeId) → IsHost types p a → IsHost types q b → AreOfOneBase p q → a ≡ b
same_hosts types over.Any q a b h k one = absurd h
same_hosts types p over.Any a b h k one = absurd k
same_hosts types over.Integers over.Integers a b h k one = h ∙ sym k
same_hosts types over.Chars over.Chars a b h k one = h ∙ sym k
same_hosts types over.Booleans over.Booleans a b h k one = h ∙ sym k
same_hosts types (over.Enumeration c) (over.Enumeration d) a b h k one = h.0 ∙ same_id c d one ∙ sym k.0
same_hosts types p q a b h k one = absurd one

-- a host is that of a set alone
left_type : (types : List TypeDef) (p : SetBase) (a x y : TypeId) → IsHost types p a → set_type p (Some x) (Some y) ≡ x
left_type types over.Any a x y h = absurd h
left_type types p a x y h = refl

module _ (types : List TypeDef) (sound : IsSound types) where
  host_base : (of : SetBase) (base : TypeId) → IsHost types of base → base_of types base ≡ of
  host_base over.Integers base h = subst (λ (b : TypeId). base_of types b ≡ over.Integers) (sym h) (ap (base_stored (host_in types (type_id 1))) (stored_byte types sound))
  host_base over.Chars base h = subst (λ (b : TypeId). base_of types b ≡ over.Chars) (sym h) (ap (base_stored (host_in types char)) (stored_char types sound))
  host_base over.Booleans base h = subst (λ (b : TypeId). base_of types b ≡ over.Booleans) (sym h) (ap (base_stored (host_in types boolean)) (stored_boolean types sound))
  host_base (over.Enumeration of) base h =
      let it = h.1 in
      subst (λ (b : TypeId). base_of types b ≡ over.Enumeration of) (sym h.0)
      (ap (base_stored (host_in types of)) (stored_enumeration (definition types of) it.is) ∙ ap (λ (t : TypeId). over.Enumeration t) (own_host types of it))
  host_base over.Any base h = absurd h

  -- the sort of a whole set
  set_sort : (ty : TypeId) (w : IsWholeSet types ty) → sort_of_type types ty ≡ sort.Set w.host
  set_sort ty w = ap (sort_by types ty) w.is ∙ ap (λ (b : SetBase). sort.Set b) (host_base w.host w.base w.whole)

  -- sets over all of a host
  over_enumeration : (of ty : TypeId) → IsEnumerated types of → set_in of 0 types ≡ Some ty → IsWholeSet types ty
  over_enumeration of ty h e =
      let f = found of 0 types ty e in
      let place = f.is in
      let number : ty.0 ≡ f.place = omega (arith, place) in
      record {
        base = of;
        host = over.Enumeration of;
        is = subst (λ (k : ℕ). slice_get types k ≡ Some (type.SetOf of)) (sym number) f.at;
        whole = (refl, h);
      }

  over_known : (known_id ty base : TypeId) (of : SetBase) → Some known_id ≡ Some ty → definition types known_id ≡ Some (type.SetOf base) → IsHost types of base → IsWholeSet types ty
  over_known known_id ty base of e is h =
      let same : known_id ≡ ty = cc in
      subst (λ (t : TypeId). IsWholeSet types t) same (record { base = base; host = of; is = is; whole = h })

  over_host : (s : Sort) (ty : TypeId) → IsHostSort types s → set_over types s ≡ Some ty → IsWholeSet types ty
  over_host (sort.Integer r) ty h e = over_known set_of_byte ty (type_id 1) over.Integers e (set_types types sound).0 refl
  over_host sort.Char ty h e = over_known (type_id 9) ty char over.Chars e (set_types types sound).1 refl
  over_host sort.Boolean ty h e = over_known (type_id 10) ty boolean over.Booleans e (set_types types sound).2 refl
  over_host (sort.Enumeration of) ty h e = over_enumeration of ty h e
  over_host s ty h e = let bad : ⊥ = cc in absurd bad

  -- ---- set constants

  pub set_good : (ty : TypeId) (w : IsWholeSet types ty) (elements : List ℕ) → AreWithin (bounds_at types w.base) elements → IsGood types (set_constant ty elements)
  set_good ty w elements h = record {
    value = subst (λ (d : Option TypeDef). IsValue types (set_constant ty elements).value d) (sym w.is) (are_elements (bounds_at types w.base).0 (bounds_at types w.base).1 elements h);
    whole = w;
  }

  typed_good : (place : Place) (s : Sort) (spans : List Span) (c : Constant) → IsHostSort types s → (o : Option TypeId) → set_over types s ≡ o → AreSpans s (base_bounds types o) spans
      → (typed_set place o spans).holds c → IsGood types c
  typed_good place s spans c h None is k e = absurd e
  typed_good place s spans c h (Some ty) is k e =
      let w = over_host s ty h is in
      let all : AreSpans s (bounds_at types w.base) spans = subst (λ (d : Option TypeDef). AreSpans s (bounds_by types d) spans) w.is k in
      same_good types c (set_constant ty (elements_with [] spans)) e
      (set_good ty w (elements_with [] spans) (spans_within s (bounds_at types w.base) spans [] all (λ i j. let bad : ⊥ = cc in absurd bad)))

  -- each bound was read from a constant
  abbrev pub AreFromHosts : List Span → Type 0
  AreFromHosts [] = Unit {0}
  AreFromHosts (one ∷ rest) = IsHostSort types one.low.sort × AreFromHosts rest

  by_spans : (place : Place) (spans : List Span) (c : Constant) → AreFromHosts spans → (set_by types place (first_sort spans) spans).holds c → IsGood types c
  by_spans place [] c h e =
      let w : IsWholeSet types set_of_byte = record { base = type_id 1; host = over.Integers; is = (set_types types sound).0; whole = refl } in
      same_good types c (set_constant set_of_byte []) e (set_good set_of_byte w [] (λ i j. let bad : ⊥ = cc in absurd bad))
  by_spans place (one ∷ rest) c h e =
      typed_good place one.low.sort (one ∷ rest) c h.0 (set_over types one.low.sort) refl e.holds.asked e.made

  pub constructed_good : (place : Place) (spans : List Span) (c : Constant) → AreFromHosts spans → (set_of types place spans).holds c → IsGood types c
  unfolding set_of
  constructed_good place spans c h e = by_spans place spans c h e

  -- ---- two sets

  value_within : (ty : TypeId) (w : IsWholeSet types ty) (elements : List ℕ) → IsValue types (value.Elements elements) (definition types ty) → AreWithin (bounds_at types w.base) elements
  value_within ty w elements h =
      elements_within elements (bounds_at types w.base).0 (bounds_at types w.base).1 (subst (λ (d : Option TypeDef). IsValue types (value.Elements elements) d) w.is h)

  none_within : (bounds : ℤ × ℤ) → AreWithin bounds []
  none_within bounds e h = let bad : ⊥ = cc in absurd bad

  -- of the type of the left one, or of the right one where that lists nothing
  listed_good : (one : BinaryOp) (base : SetBase) (x y : TypeId) (a b : List ℕ) → IsConstantOf types x (value.Elements a) → IsConstantOf types y (value.Elements b)
      → sort_of_constant types x (value.Elements a) ≡ sort.Set base → AreSets (sort_of_constant types x (value.Elements a)) (sort_of_constant types y (value.Elements b))
      → IsGood types (set_constant (set_type base (Some x) (Some y)) (elements_combined one a b))
  listed_good one base x y [] b h k is sets =
      let any : over.Any ≡ base = cc in
      subst (λ (o : SetBase). IsGood types (set_constant (set_type o (Some x) (Some y)) (elements_combined one [] b))) any
      (set_good y k.whole (elements_combined one [] b)
      (combined_within one (bounds_at types k.whole.base) [] b (none_within (bounds_at types k.whole.base)) (value_within y k.whole b k.value)))
  listed_good one base x y (m ∷ a) [] h k is sets =
      let same : sort.Set h.whole.host ≡ sort.Set base = sym (set_sort x h.whole) ∙ is in
      let host_is : h.whole.host ≡ base = cc in
      let left : set_type base (Some x) (Some y) ≡ x = subst (λ (o : SetBase). set_type o (Some x) (Some y) ≡ x) host_is (left_type types h.whole.host h.whole.base x y h.whole.whole) in
      subst (λ (t : TypeId). IsGood types (set_constant t (elements_combined one (m ∷ a) []))) (sym left)
      (set_good x h.whole (elements_combined one (m ∷ a) [])
      (combined_within one (bounds_at types h.whole.base) (m ∷ a) [] (value_within x h.whole (m ∷ a) h.value) (none_within (bounds_at types h.whole.base))))
  listed_good one base x y (m ∷ a) (n ∷ b) h k is sets =
      let same : sort.Set h.whole.host ≡ sort.Set base = sym (set_sort x h.whole) ∙ is in
      let host_is : h.whole.host ≡ base = cc in
      let left : set_type base (Some x) (Some y) ≡ x = subst (λ (o : SetBase). set_type o (Some x) (Some y) ≡ x) host_is (left_type types h.whole.host h.whole.base x y h.whole.whole) in
      let alike : AreOfOneBase h.whole.host k.whole.host =
      subst (λ (s : Sort). AreSets (sort.Set h.whole.host) s) (set_sort y k.whole) (subst (λ (s : Sort). AreSets s (sort_of_type types y)) (set_sort x h.whole) sets) in
      let bases : k.whole.base ≡ h.whole.base = sym (same_hosts types h.whole.host k.whole.host h.whole.base k.whole.base h.whole.whole k.whole.whole alike) in
      let right : AreWithin (bounds_at types h.whole.base) (n ∷ b) = subst (λ (t : TypeId). AreWithin (bounds_at types t) (n ∷ b)) bases (value_within y k.whole (n ∷ b) k.value) in
      subst (λ (t : TypeId). IsGood types (set_constant t (elements_combined one (m ∷ a) (n ∷ b)))) (sym left)
      (set_good x h.whole (elements_combined one (m ∷ a) (n ∷ b))
      (combined_within one (bounds_at types h.whole.base) (m ∷ a) (n ∷ b) (value_within x h.whole (m ∷ a) h.value) right))

  -- ---- what a set is

  stored_no_set : (n : ℤ) (ty : TypeId) (w : Host) (base : SetBase) → known n (sort_stored ty w) ≡ sort.Set base → ⊥
  stored_no_set n ty host.Char base e = cc
  stored_no_set n ty host.Boolean base e = cc
  stored_no_set n ty host.Enumeration base e = cc
  stored_no_set n ty host.ShortInt base e = cc
  stored_no_set n ty host.Byte base e = cc
  stored_no_set n ty host.Integer base e = cc
  stored_no_set n ty host.Word base e = cc
  stored_no_set n ty host.LongInt base e = cc

  number_no_set : (n : ℤ) (ty : TypeId) (one : Option TypeDef) (base : SetBase) → IsValue types (value.Number n) one → known n (sort_by types ty one) ≡ sort.Set base → ⊥
  number_no_set n ty (Some (type.Ordinal of low high)) base h e = stored_no_set n (host_in types ty) (storage_of of low high) base e
  number_no_set n ty one base h e = absurd h

  chars_no_set : (bytes : List ℕ) (ty : TypeId) (one : Option TypeDef) (base : SetBase) → IsValue types (value.Chars bytes) one → sort_by types ty one ≡ sort.Set base → ⊥
  chars_no_set bytes ty (Some (type.Str max)) base h e = cc
  chars_no_set bytes ty one base h e = absurd h

  right_good : (one : BinaryOp) (base : SetBase) (x y : TypeId) (a : List ℕ) (v : Value) (t : SetBase) → IsConstantOf types x (value.Elements a) → IsConstantOf types y v
      → sort_of_constant types x (value.Elements a) ≡ sort.Set base → AreSets (sort_of_constant types x (value.Elements a)) (sort_of_constant types y v)
      → sort_of_constant types y v ≡ sort.Set t → IsGood types (set_constant (set_type base (Some x) (Some y)) (elements_combined one a (elements_of v)))
  right_good one base x y a (value.Elements b) t h k is sets set = listed_good one base x y a b h k is sets
  right_good one base x y a (value.Number n) t h k is sets set = absurd (number_no_set n y (definition types y) t k.value set)
  right_good one base x y a (value.Chars bytes) t h k is sets set = absurd (chars_no_set bytes y (definition types y) t k.value set)
  right_good one base x y a value.Nil t h k is sets set = let bad : ⊥ = cc in absurd bad

  right_set : (s t : Sort) → AreSets s t → (b : SetBase) × (t ≡ sort.Set b)
  right_set (sort.Set a) (sort.Set b) h = (b, refl)
  right_set s t h = absurd h

  values_good : (one : BinaryOp) (base : SetBase) (x y : TypeId) (v w : Value) → IsConstantOf types x v → IsConstantOf types y w → sort_of_constant types x v ≡ sort.Set base
      → AreSets (sort_of_constant types x v) (sort_of_constant types y w) → IsGood types (set_constant (set_type base (Some x) (Some y)) (elements_combined one (elements_of v) (elements_of w)))
  values_good one base x y (value.Elements a) w h k is sets =
      let right = right_set (sort_of_constant types x (value.Elements a)) (sort_of_constant types y w) sets in
      right_good one base x y a w right.0 h k is sets right.1
  values_good one base x y (value.Number n) w h k is sets = absurd (number_no_set n x (definition types x) base h.value is)
  values_good one base x y (value.Chars bytes) w h k is sets = absurd (chars_no_set bytes x (definition types x) base h.value is)
  values_good one base x y value.Nil w h k is sets = let bad : ⊥ = cc in absurd bad

  pub sets_good : (one : BinaryOp) (base : SetBase) (a b : Constant) → IsGood types a → IsGood types b → sort_of_constant types a.ty a.value ≡ sort.Set base
      → AreSets (sort_of_constant types a.ty a.value) (sort_of_constant types b.ty b.value) → IsGood types (sets_combined one base a b)
  sets_good one base a b h k is sets = values_good one base a.ty b.ty a.value b.value h k is sets
