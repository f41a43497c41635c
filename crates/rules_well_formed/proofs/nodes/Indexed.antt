-- Elements of arrays and characters of strings are typed places.
use Rattle.std.proofs.Common.{◌≡◌, inl, inr, ℕ, Bool, List, Option, Some, None, refl, sym, subst, ◌∙◌}
use Rattle.std.proofs.Math.IntN.{ℤ}
use Rattle.well_formed.specs.type_layout.declared.definitions.TypeId.{TypeId}
use Rattle.well_formed.specs.type_layout.declared.definitions.Host.{Host}
use Rattle.well_formed.specs.type_layout.declared.definitions.Host.TheVariants as host
use Rattle.well_formed.specs.type_layout.declared.definitions.TypeDef.{TypeDef}
use Rattle.well_formed.specs.type_layout.declared.definitions.TypeDef.TheVariants as type
use Rattle.well_formed.specs.type_layout.declared.texts.Place.{Place}
use Rattle.well_formed.specs.type_layout.Storage.{integer_storage}
use Rattle.well_formed.specs.typed_tree.Expressions as tree
use Rattle.well_formed.specs.typed_tree.Expressions.{Expression, Load, Index}
use Rattle.well_formed.specs.typed_tree.type_fits.Fits.{definition, stored_as, family_of, IsSome, IsInteger, AreOfOneFamily}
use Rattle.well_formed.specs.Scopes.{Scope, HasType}
use Rattle.well_formed.specs.Typed.{IsTyped, HasPlace, IsElement}
use Rattle.well_formed.specs.typed_tree.type_fits.Standard.{sort_of}
use Rattle.call_rules.specs.typing_rules.declared.sorts.Sort.{Sort}
use Rattle.call_rules.specs.typing_rules.declared.sorts.Sort.TheVariants as sort
use Rattle.call_rules.specs.typing_rules.Sorts as sorts
use Rattle.call_rules.specs.typing_rules.Sorts.{char, sort_of_type}
use Rattle.call_rules.specs.typing_rules.Plans as plans
use Rattle.call_rules.specs.typing_rules.Plans.{AreOfOneHost}
use Rattle.call_rules.specs.typing_rules.Selectors.{indexed_by, indexed_of, indexed}
use Rattle.rules_well_formed.specs.nodes.Tables.{IsInTable, IsSound}
use Rattle.rules_well_formed.specs.nodes.Laws.{IsOperand}
use Rattle.rules_well_formed.proofs.nodes.Ordinals.{IsIntegerHost, integers, stored_char}
use Rattle.rules_well_formed.proofs.nodes.Sorted.{Shows, shows, shows_type}
use Rattle.rules_well_formed.proofs.nodes.Wanting.{some_of}
use Rattle.rules_well_formed.proofs.nodes.Combined.{IsNone, not_nil, hosts_right}
use Rattle.rules_well_formed.proofs.nodes.Fields.{element_in}

-- ---- families

stored_integer : (one : Option TypeDef) (low high : ℤ) (w : Host) → Some (integer_storage low high) ≡ Some w → (IsIntegerHost w → ⊥) → family_of one ≡ Some w
stored_integer one low high w e other =
    let same : integer_storage low high ≡ w = cc in
    absurd (other (subst (λ (h : Host). IsIntegerHost h) same (integers low high)))

-- what is stored as no integer is of the family of its host
pub family_stored : (one : Option TypeDef) (w : Host) → stored_as one ≡ Some w → (IsIntegerHost w → ⊥) → family_of one ≡ Some w
family_stored (Some (type.Ordinal host.ShortInt low high)) w e other = stored_integer (Some (type.Ordinal host.ShortInt low high)) low high w e other
family_stored (Some (type.Ordinal host.Byte low high)) w e other = stored_integer (Some (type.Ordinal host.Byte low high)) low high w e other
family_stored (Some (type.Ordinal host.Integer low high)) w e other = stored_integer (Some (type.Ordinal host.Integer low high)) low high w e other
family_stored (Some (type.Ordinal host.Word low high)) w e other = stored_integer (Some (type.Ordinal host.Word low high)) low high w e other
family_stored (Some (type.Ordinal host.LongInt low high)) w e other = stored_integer (Some (type.Ordinal host.LongInt low high)) low high w e other
family_stored (Some (type.Ordinal host.Char low high)) w e other = e
family_stored (Some (type.Ordinal host.Boolean low high)) w e other = e
family_stored (Some (type.Ordinal host.Enumeration low high)) w e other = e
family_stored one w e other = let bad : ⊥ = cc in absurd bad

family : (one other : Option TypeDef) (w : Host) → family_of one ≡ Some w → family_of other ≡ Some w → AreOfOneFamily one other
family one other w e f = record { ordinal = some_of (family_of one) w e; same = e ∙ sym f }

-- ordinals of one host are of one family
pub one_family : (types : List TypeDef) (x y : Sort) (one other : Option TypeDef) → AreOfOneHost x y → Shows types x one → Shows types y other → AreOfOneFamily one other
one_family types (sort.Integer r) (sort.Integer q) one other k h i = family one other host.LongInt h.0 i.0
one_family types sort.Boolean sort.Boolean one other k h i =
    family one other host.Boolean (family_stored one host.Boolean h (λ n. n)) (family_stored other host.Boolean i (λ n. n))
one_family types sort.Char sort.Char one other k h i =
    family one other host.Char (family_stored one host.Char h (λ n. n)) (family_stored other host.Char i (λ n. n))
one_family types (sort.Enumeration a) (sort.Enumeration b) one other k h i = family one other host.Enumeration h.1 i.1
one_family types x y one other k h i = absurd k

pub integer_shown : (types : List TypeDef) (x : Sort) (one : Option TypeDef) → plans.IsInteger x → Shows types x one → IsInteger one
integer_shown types (sort.Integer r) one k h = h.0
integer_shown types x one k h = absurd k

pub integer_some : (x : Sort) → plans.IsInteger x → IsNone x
integer_some (sort.Integer r) h = tt
integer_some x h = absurd h

-- ---- places

abbrev IsLoad : Expression → Type 0
IsLoad (Load ty at) = Unit {0}
IsLoad e = ⊥

-- what is loaded from a place is no nil
pub loaded_from : (s : Scope) (ty : TypeId) (at : tree.Place) → IsOperand s (Load ty at) → HasType s ty × HasPlace s at ty
loaded_from s ty at (inl typed) = typed
loaded_from s ty at (inr none) = absurd (subst (λ (e : Expression). IsLoad e) none tt)

pub type_some : (one : Option TypeDef) (w : Host) → stored_as one ≡ Some w → IsSome one
type_some (Some one) w e = tt
type_some None w e = let bad : ⊥ = cc in absurd bad

module _ (s : Scope) (sound : IsSound s.types) (place : Place) (checked : Bool) (i : Expression) (oi : IsOperand s i) where
  element : (ty index item : TypeId) (at : tree.Place) → definition s.types ty ≡ Some (type.ArrayOf index item) → HasPlace s at ty
      → AreOfOneHost (sort_of_type s.types index) (sorts.sort_of s.types i) → IsTyped s (Load item (Index at i checked))
  element ty index item at is has k =
      let ti = not_nil s i (hosts_right (sort_of_type s.types index) (sorts.sort_of s.types i) k) oi in
      let same = one_family s.types (sort_of_type s.types index) (sorts.sort_of s.types i) (definition s.types index) (sort_of s.types i) k (shows_type s.types index) (shows s i ti) in
      let there = element_in s.types sound ty index item is in
      (there, (there, (ty, has, ti, subst (λ (o : Option TypeDef). IsElement s.types item o (sort_of s.types i)) (sym is) (refl, same))))

  character : (ty : TypeId) (max : ℕ) (at : tree.Place) → definition s.types ty ≡ Some (type.Str max) → HasPlace s at ty
      → plans.IsInteger (sorts.sort_of s.types i) → IsTyped s (Load char (Index at i checked))
  character ty max at is has k =
      let ti = not_nil s i (integer_some (sorts.sort_of s.types i) k) oi in
      let it = integer_shown s.types (sorts.sort_of s.types i) (sort_of s.types i) k (shows s i ti) in
      let stored = stored_char s.types sound in
      let there : IsInTable s.types char = type_some (definition s.types char) host.Char stored in
      (there, (there, (ty, has, ti, subst (λ (o : Option TypeDef). IsElement s.types char o (sort_of s.types i)) (sym is) (stored, it))))

  by_type : (ty : TypeId) (at : tree.Place) (e : Expression) → HasPlace s at ty → (o : Option TypeDef) → definition s.types ty ≡ o
      → (indexed_by s.types place checked at o i).holds e → IsTyped s e
  by_type ty at e has (Some (type.ArrayOf index item)) is h = subst (λ (x : Expression). IsTyped s x) (sym h.made) (element ty index item at is has h.holds.asked)
  by_type ty at e has (Some (type.Str max)) is h = subst (λ (x : Expression). IsTyped s x) (sym h.made) (character ty max at is has h.asked)
  by_type ty at e has o is h = absurd h

  by_operand : (a e : Expression) → IsOperand s a → (indexed_of s.types place checked a i).holds e → IsTyped s e
  by_operand (Load ty at) e oa h = by_type ty at e (loaded_from s ty at oa).1 (definition s.types ty) refl h
  by_operand a e oa h = absurd h

  pub indexed_typed : (a e : Expression) → IsOperand s a → (indexed s.types place checked a i).holds e → IsTyped s e
  unfolding indexed
  indexed_typed a e oa h = by_operand a e oa h
