-- The methods of a line, walked from its class, are those that the classes of the whole table have.
use Rattle.std.proofs.Common.{◌≡◌, ℕ, zero, suc, ◌<◌, ◌≤◌, List, [], ◌∷◌, ◌++◌, length, Option, Some, None, get_or, refl, arith, ap, sym, ◌∙◌, zero-add}
use Rattle.std.specs.List.{slice_get}
use Rattle.type_layout.specs.declared.definitions.TypeId.{TypeId}
use Rattle.type_layout.specs.declared.definitions.Method.{Method}
use Rattle.type_layout.specs.declared.definitions.TypeDef.{TypeDef}
use Rattle.type_layout.specs.declared.definitions.TypeDef.TheVariants as type
use Rattle.type_layout.specs.Table.{IsDefinedOver, AllDefined}
use Rattle.type_layout.proofs.Given.{length-given_by, get_or-given_by-middle, get_or-given_by-front}
use Rattle.type_layout.proofs.Local.{within_if_object}
use Rattle.type_layout.proofs.Measured.{round}
use Rattle.typed_tree.specs.type_fits.Fits.{parent_of}
use Rattle.object_vmt.specs.Members.{Members, no_members, members_by, members_rule, members_of, members_in}
use Rattle.object_vmt.proofs.Lines.{place_below}
use Rattle.call_rules.specs.method_rules.Slots.{methods_of, methods_within, AreLines}

beyond : {A : Type 0} (l : List A) (k : ℕ) (d : A) → (k < length l → ⊥) → get_or l k d ≡ d
beyond [] zero d n = refl
beyond [] (suc k) d n = refl
beyond (x ∷ xs) zero d n = absurd (n (omega arith))
beyond (x ∷ xs) (suc k) d n = beyond xs k d (λ h. n (omega arith))

not_below : {A : Type 0} (l : List A) (k : ℕ) → slice_get l k ≡ None → k < length l → ⊥
not_below [] k e h = omega arith
not_below (x ∷ xs) zero e h = cc
not_below (x ∷ xs) (suc k) e h = not_below xs k e (omega arith)

module _ (types : List TypeDef) where
  nothing_within : (room : ℕ) → methods_within room types None ≡ []
  nothing_within zero = refl
  nothing_within (suc room) = refl

  no_members_at : (k : ℕ) → slice_get types k ≡ None → get_or (members_of types) k no_members ≡ no_members
  no_members_at k e =
      let none : List Members = [] in
      let len : length (members_of types) ≡ length types = length-given_by members_rule [] none types ∙ zero-add (length types) in
      beyond (members_of types) k no_members (λ h. not_below types k e (omega (arith, len, h)))

  -- the members of a type of the table, over those of the types before it
  members_at : (front back : List TypeDef) (one : TypeDef) (class : TypeId) → types ≡ front ++ one ∷ back → length front ≡ class.0
      → members_in (members_of types) class ≡ members_by (members_of front) one
  members_at front back one class is at = rw (is, ← at) (get_or-given_by-middle members_rule front one back no_members)

  members_before : (front back : List TypeDef) (class : TypeId) → types ≡ front ++ back → class.0 < length front
      → members_in (members_of types) class ≡ members_in (members_of front) class
  members_before front back class is below = rw is (get_or-given_by-front members_rule front back class.0 no_members below)

  -- a line is what such a walk gives, where as many types may be looked at
  abbrev IsWalked : ℕ → Type 0
  IsWalked room = (ty : TypeId) → ty.0 < room → methods_within room types (Some ty) ≡ (members_in (members_of types) ty).methods

  step : (room : ℕ) (class : TypeId) (one : TypeDef) (front back : List TypeDef) → types ≡ front ++ one ∷ back → length front ≡ class.0 → IsDefinedOver front one
      → class.0 ≤ room → IsWalked room → methods_within room types (parent_of (Some one)) ++ methods_of (Some one) ≡ (members_by (members_of front) one).methods
  step room class (type.Ordinal host low high) front back is at defined below rec = rw (nothing_within room) refl
  step room class (type.Str max) front back is at defined below rec = rw (nothing_within room) refl
  step room class (type.SetOf base) front back is at defined below rec = rw (nothing_within room) refl
  step room class (type.ArrayOf index element) front back is at defined below rec = rw (nothing_within room) refl
  step room class (type.RecordOf fields) front back is at defined below rec = rw (nothing_within room) refl
  step room class (type.PointerTo target) front back is at defined below rec = rw (nothing_within room) refl
  step room class (type.ObjectOf None dynamic fields methods) front back is at defined below rec = rw (nothing_within room) refl
  step room class (type.ObjectOf (Some parent) dynamic fields methods) front back is at defined below rec =
      let within : parent.0 < length front = within_if_object front parent.0 defined.0 in
      let above : methods_within room types (Some parent) ≡ (members_in (members_of types) parent).methods = rec parent (omega (arith, within, at, below)) in
      let same : members_in (members_of types) parent ≡ members_in (members_of front) parent =
      members_before front (type.ObjectOf (Some parent) dynamic fields methods ∷ back) parent is within in
      ap (λ (l : List Method). l ++ methods) (above ∙ ap (λ (m : Members). m.methods) same)
  step room class (type.Procedural header) front back is at defined below rec = rw (nothing_within room) refl

  by_definition : (room : ℕ) (class : TypeId) → AllDefined [] types → class.0 ≤ room → IsWalked room → (o : Option TypeDef) → slice_get types class.0 ≡ o
      → methods_within room types (parent_of o) ++ methods_of o ≡ (members_in (members_of types) class).methods
  by_definition room class defined below rec None e =
      rw (nothing_within room) (ap (λ (m : Members). m.methods) (sym (no_members_at class.0 e)))
  by_definition room class defined below rec (Some one) e =
      let r = round types class.0 one defined e in
      step room class one r.front r.back r.is r.at r.defined below rec
      ∙ ap (λ (m : Members). m.methods) (sym (members_at r.front r.back one class r.is r.at))

  walked : AllDefined [] types → (room : ℕ) → IsWalked room
  walked defined zero class below = absurd (omega arith)
  walked defined (suc room) class below =
      by_definition room class defined (omega arith) (λ ty within. walked defined room ty within) (slice_get types class.0) refl

  outside : (room : ℕ) (class : TypeId) → slice_get types class.0 ≡ None → methods_within room types (Some class) ≡ (members_in (members_of types) class).methods
  outside zero class e = ap (λ (m : Members). m.methods) (sym (no_members_at class.0 e))
  outside (suc room) class e = rw (e, nothing_within room) (ap (λ (m : Members). m.methods) (sym (no_members_at class.0 e)))

  line_at : AllDefined [] types → (class : TypeId) (o : Option TypeDef) → slice_get types class.0 ≡ o
      → methods_within (length types) types (Some class) ≡ (members_in (members_of types) class).methods
  line_at defined class None e = outside (length types) class e
  line_at defined class (Some one) e = walked defined (length types) class (place_below types class.0 one e)

  pub are_lines : AllDefined [] types → AreLines types
  are_lines defined class = line_at defined class (slice_get types class.0) refl
