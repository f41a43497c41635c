-- The routines that await their bodies behind declarations: what is known of them, and of those of two steps, one after the other.
use Rattle.std.proofs.Common.{◌≡◌, ◌⊎◌, inl, inr, ℕ, zero, suc, ◌+◌, ◌<◌, ◌≤◌, List, [], ◌∷◌, ◌++◌, length, Option, Some, sym, subst, ap, ◌∙◌, arith, length-append, append_assoc}
use Rattle.std.specs.Prelude.{slice_get}
use Rattle.std.proofs.lemmas.Option.{slice_get_within}
use Rattle.declarations_well_formed.specs.type_layout.declared.definitions.TypeId.{TypeId}
use Rattle.declarations_well_formed.specs.type_layout.declared.definitions.Method.{Method}
use Rattle.declarations_well_formed.specs.type_layout.declared.definitions.TypeDef.{TypeDef}
use Rattle.declarations_well_formed.specs.type_layout.declared.texts.Place.{Place}
use Rattle.declarations_well_formed.proofs.type_layout_proofs.Local.{slice_get-append}
use Rattle.declarations_well_formed.specs.typed_tree.type_fits.Fits.{definition, IsObject}
use Rattle.declarations_well_formed.specs.scopes.Members.{narrow}
use Rattle.declarations_well_formed.specs.scopes.Environment.{Environment}
use Rattle.declarations_well_formed.specs.call_rules.method_rules.Slots.{methods_of}
use Rattle.declarations_well_formed.specs.tp_check_decl.routines.Drafts.{Numbered}
use Rattle.declarations_well_formed.specs.tp_check_decl.routines.Methods.{method_announced, awaiting}
use Rattle.units_well_formed.proofs.routines.Headed.{IsKindly}
use Rattle.units_well_formed.proofs.parts.Tables.{ArePlain, AddsPlain}

-- ---- what is said of the routines of a part

-- a method of a new type: its routine is the one at this place of those that are awaited
pub record IsAwaitedAt (number : ℕ) (news : List Numbered) (class : TypeId) (method : Method) : Type 0 where
  pub place : ℕ
  pub at : Place
  pub is : slice_get news place ≡ Some (awaiting (method_announced class at method))
  pub number_is : method.routine.number ≡ narrow (number + place)

-- a routine that is awaited is that of a method of a new type
pub record IsMethodAt (types : List TypeDef) (first number : ℕ) (one : Numbered) : Type 0 where
  pub class : TypeId
  pub new : first ≤ class.0
  pub object : IsObject (definition types class)
  pub place : ℕ
  pub method : Method
  pub there : slice_get (methods_of (definition types class)) place ≡ Some method
  pub at : Place
  pub is : one ≡ awaiting (method_announced class at method)
  pub number_is : method.routine.number ≡ narrow number
  pub function : IsKindly method.header
  pub few : length method.header.params ≤ 256

-- Behind declarations: further types and units; each method of a new type is of the unit, and awaits its routine; and no other routine is
-- awaited. The routines are numbered from a number on.
pub record Awaits (unit : List ℕ) (number : ℕ) (g h : Environment) (news : List Numbered) : Type 0 where
  pub types : List TypeDef
  pub has_types : h.types.types ≡ g.types.types ++ types
  pub units : List (List ℕ)
  pub has_units : h.types.units ≡ g.types.units ++ units
  pub each : (class : TypeId) (place : ℕ) (method : Method) → length g.types.types ≤ class.0 → slice_get (methods_of (definition h.types.types class)) place ≡ Some method
      → IsAwaitedAt number news class method × (slice_get h.types.units method.routine.unit ≡ Some unit)
  pub only : (place : ℕ) (one : Numbered) → slice_get news place ≡ Some one → IsMethodAt h.types.types (length g.types.types) (number + place) one

pub nothing_at : {A : Type 0} → (place : ℕ) (one : A) → slice_get [] place ≡ Some one → ⊥
nothing_at zero one e = let bad : ⊥ = cc in bad
nothing_at (suc place) one e = let bad : ⊥ = cc in bad

-- ---- no object types

plain_methods : (front back : List TypeDef) (k place : ℕ) (method : Method) → ArePlain back → length front ≤ k → slice_get (methods_of (slice_get (front ++ back) k)) place ≡ Some method → ⊥
plain_methods [] [] zero place method p h e = nothing_at place method e
plain_methods [] [] (suc k) place method p h e = nothing_at place method e
plain_methods [] (one ∷ back) zero place method p h e = nothing_at place method (ap (λ (ms : List Method). slice_get ms place) (sym p.0) ∙ e)
plain_methods [] (one ∷ back) (suc k) place method p h e = plain_methods [] back k place method p.1 (omega arith) e
plain_methods (one ∷ front) back zero place method p h e = omega (arith, h)
plain_methods (one ∷ front) back (suc k) place method p h e = plain_methods front back k place method p (omega (arith, h)) e

pub plain_awaits : (unit : List ℕ) (number : ℕ) (g h : Environment) → AddsPlain g h → Awaits unit number g h []
plain_awaits unit number g h a = record {
  types = a.types;
  has_types = a.has_types;
  units = a.units;
  has_units = a.has_units;
  each = λ class place method new e. absurd (plain_methods g.types.types a.types class.0 place method a.plain new
      (subst (λ (types : List TypeDef). slice_get (methods_of (definition types class)) place ≡ Some method) a.has_types e));
  only = λ place one e. absurd (nothing_at place one e);
}

-- ---- one after the other

pub joined_at : (xs ys : List Numbered) (place : ℕ) (one : Numbered) → slice_get (xs ++ ys) place ≡ Some one → (slice_get xs place ≡ Some one) ⊎ ((k : ℕ) × (place ≡ length xs + k) × (slice_get ys k ≡ Some one))
joined_at [] ys place one e = inr (place, (let same : place ≡ 0 + place = omega arith in same), e)
joined_at (x ∷ xs) ys zero one e = inl e
joined_at (x ∷ xs) ys (suc place) one e = by (joined_at xs ys place one e)
  where
    by : (slice_get xs place ≡ Some one) ⊎ ((k : ℕ) × (place ≡ length xs + k) × (slice_get ys k ≡ Some one)) → (slice_get xs place ≡ Some one) ⊎ ((k : ℕ) × (suc place ≡ length (x ∷ xs) + k) × (slice_get ys k ≡ Some one))
    by (inl f) = inl f
    by (inr f) = inr (f.0, (let same = f.1 in let next : suc place ≡ length (x ∷ xs) + f.0 = omega (arith, same) in next), f.2)

pub behind_at : (xs ys : List Numbered) (k : ℕ) → slice_get (xs ++ ys) (length xs + k) ≡ slice_get ys k
behind_at [] ys k = let same : 0 + k ≡ k = omega arith in ap (λ (n : ℕ). slice_get ys n) same
behind_at (x ∷ xs) ys k = let same : length (x ∷ xs) + k ≡ suc (length xs + k) = omega arith in ap (λ (n : ℕ). slice_get (x ∷ (xs ++ ys)) n) same ∙ behind_at xs ys k

pub some_object : (types : List TypeDef) (k : ℕ) → IsObject (slice_get types k) → k < length types
some_object [] k h = absurd h
some_object (one ∷ types) zero h = omega arith
some_object (one ∷ types) (suc k) h = let rest = some_object types k h in omega (arith, rest)

units_front : (xs ys : List (List ℕ)) (k : ℕ) (unit : List ℕ) → slice_get xs k ≡ Some unit → slice_get (xs ++ ys) k ≡ Some unit
units_front xs ys k unit e = slice_get-append xs ys k (slice_get_within xs k unit e) ∙ e

module _ (unit : List ℕ) (number : ℕ) (g h k : Environment) (first : List Numbered) (second : List Numbered) (a : Awaits unit number g h first) (b : Awaits unit (number + length first) h k second) where
  grown : length h.types.types ≡ length g.types.types + length a.types
  grown = ap (λ (types : List TypeDef). length types) a.has_types ∙ length-append g.types.types a.types

  -- what a type was, it is
  still : (class : TypeId) → class.0 < length h.types.types → definition k.types.types class ≡ definition h.types.types class
  still class low = ap (λ (types : List TypeDef). definition types class) b.has_types ∙ slice_get-append h.types.types b.types class.0 low

  each_on : (class : TypeId) (place : ℕ) (method : Method) → length g.types.types ≤ class.0 → slice_get (methods_of (definition k.types.types class)) place ≡ Some method
      → IsAwaitedAt number (first ++ second) class method × (slice_get k.types.units method.routine.unit ≡ Some unit)
  each_on class place method new e = by (where_is class.0 (length h.types.types))
    where
      where_is : (n m : ℕ) → (n < m) ⊎ (m ≤ n)
      where_is n zero = inr (omega arith)
      where_is zero (suc m) = inl (omega arith)
      where_is (suc n) (suc m) = next (where_is n m)
        where
          next : (n < m) ⊎ (m ≤ n) → (suc n < suc m) ⊎ (suc m ≤ suc n)
          next (inl f) = inl (omega (arith, f))
          next (inr f) = inr (omega (arith, f))

      by : (class.0 < length h.types.types) ⊎ (length h.types.types ≤ class.0) → IsAwaitedAt number (first ++ second) class method × (slice_get k.types.units method.routine.unit ≡ Some unit)
      by (inl low) =
          let it = a.each class place method new (ap (λ (o : Option TypeDef). slice_get (methods_of o) place) (sym (still class low)) ∙ e) in
          let await = it.0 in (
            record {
              place = await.place;
              at = await.at;
              is = slice_get-append first second await.place (slice_get_within first await.place _ await.is) ∙ await.is;
              number_is = await.number_is;
            },
            ap (λ (us : List (List ℕ)). slice_get us method.routine.unit) b.has_units ∙ units_front h.types.units b.units method.routine.unit unit it.1,
          )
      by (inr high) =
          let it = b.each class place method high e in
          let await = it.0 in
          let further : number + length first + await.place ≡ number + (length first + await.place) = omega arith in (
            record {
              place = length first + await.place;
              at = await.at;
              is = behind_at first second await.place ∙ await.is;
              number_is = await.number_is ∙ ap (λ (n : ℕ). narrow n) further;
            },
            it.1,
          )

  only_on : (place : ℕ) (one : Numbered) → slice_get (first ++ second) place ≡ Some one → IsMethodAt k.types.types (length g.types.types) (number + place) one
  only_on place one e = by (joined_at first second place one e)
    where
      by : (slice_get first place ≡ Some one) ⊎ ((j : ℕ) × (place ≡ length first + j) × (slice_get second j ≡ Some one)) → IsMethodAt k.types.types (length g.types.types) (number + place) one
      by (inl f) =
          let it = a.only place one f in
          let same = still it.class (some_object h.types.types it.class.0 it.object) in
          record {
            class = it.class;
            new = it.new;
            object = subst (λ (o : Option TypeDef). IsObject o) (sym same) it.object;
            place = it.place;
            method = it.method;
            there = ap (λ (o : Option TypeDef). slice_get (methods_of o) it.place) same ∙ it.there;
            at = it.at;
            is = it.is;
            number_is = it.number_is;
            function = it.function;
            few = it.few;
          }
      by (inr f) =
          let it = b.only f.0 one f.2 in
          let there = f.1 in
          let further : number + length first + f.0 ≡ number + place = omega (arith, there) in
          record {
            class = it.class;
            new = (let more = it.new in let count = grown in omega (arith, more, count));
            object = it.object;
            place = it.place;
            method = it.method;
            there = it.there;
            at = it.at;
            is = it.is;
            number_is = it.number_is ∙ ap (λ (n : ℕ). narrow n) further;
            function = it.function;
            few = it.few;
          }

  pub awaits_then : Awaits unit number g k (first ++ second)
  awaits_then = record {
    types = a.types ++ b.types;
    has_types = b.has_types ∙ ap (λ (l : List TypeDef). l ++ b.types) a.has_types ∙ append_assoc g.types.types a.types b.types;
    units = a.units ++ b.units;
    has_units = b.has_units ∙ ap (λ (l : List (List ℕ)). l ++ b.units) a.has_units ∙ append_assoc g.types.units a.units b.units;
    each = each_on;
    only = only_on;
  }

pub awaits_at : (unit : List ℕ) (number : ℕ) (g h k : Environment) (news : List Numbered) → k.types ≡ h.types → Awaits unit number g h news → Awaits unit number g k news
awaits_at unit number g h k news e a = record {
  types = a.types;
  has_types = ap (λ t. t.types) e ∙ a.has_types;
  units = a.units;
  has_units = ap (λ t. t.units) e ∙ a.has_units;
  each = λ class place method new m.
      let it = a.each class place method new (ap (λ t. slice_get (methods_of (definition t.types class)) place) (sym e) ∙ m) in
      (it.0, ap (λ t. slice_get t.units method.routine.unit) e ∙ it.1);
  only = λ place one f. subst (λ (types : List TypeDef). IsMethodAt types (length g.types.types) (number + place) one) (ap (λ t. t.types) (sym e)) (a.only place one f);
}
