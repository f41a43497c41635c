-- The methods of the types of one table, along their lines.
use Rattle.std.proofs.Common.{◌≡◌, ℕ, zero, suc, ◌+◌, ◌<◌, ◌≤◌, Bool, true, List, [], ◌∷◌, ◌++◌, length, get_or, Some, None, refl, sym, ap, subst, ◌∙◌, arith, append-nil, append_assoc}
use Rattle.std.proofs.Common.{inl, inr}
use Rattle.std.specs.Prelude.{◌⊎◌, Option, slice_get, option_and_then}
use Rattle.std.proofs.lemmas.Option.{same_Some, option_and_then_some}
use Rattle.type_soundness.specs.type_layout.declared.definitions.TypeId.{TypeId}
use Rattle.type_soundness.specs.type_layout.declared.definitions.Field.{Field}
use Rattle.type_soundness.specs.type_layout.declared.definitions.Method.{Method}
use Rattle.type_soundness.specs.type_layout.declared.definitions.TypeDef.{TypeDef}
use Rattle.type_soundness.specs.type_layout.declared.definitions.TypeDef.TheVariants as type
use Rattle.type_soundness.specs.type_layout.Table.{AllDefined, IsDefinedOver}
use Rattle.type_soundness.proofs.type_layout_proofs.Given.{length-given_by, get_or-given_by-middle, get_or-given_by-front}
use Rattle.type_soundness.proofs.type_layout_proofs.Local.{within_if_object}
use Rattle.type_soundness.proofs.type_layout_proofs.Measured.{Round, round}
use Rattle.type_soundness.specs.object_vmt.Members.{Members, no_members, inherited, members_by, members_rule, members_of, members_in, nearest}
use Rattle.type_soundness.specs.object_vmt.Slots.{slots_of, method_at}
use Rattle.type_soundness.specs.object_vmt.Rules.{same_header, first_virtual}
use Rattle.type_soundness.specs.object_vmt.Dispatch.{AnswersAlike}
use Rattle.type_soundness.specs.typed_tree.type_fits.Fits.{ancestor, parent_of, Descends}
use Rattle.type_soundness.proofs.store_typing_proofs.types.Whole.{parent_below}
use Rattle.type_soundness.proofs.store_typing_proofs.types.Lines.{has_parent}
use Rattle.unit_references.proofs.methods.Lists.{slot_kept, slot_virtual, first_stays, StandsIn, nearest_stands, nearest_either}

-- an ancestor stands among these types
abbrev Within : List TypeDef → Option TypeId → Type 0
Within types None = Unit {0}
Within types (Some parent) = parent.0 < length types

members_middle : (front back : List TypeDef) (one : TypeDef) → get_or (members_of (front ++ one ∷ back)) (length front) no_members ≡ members_by (members_of front) one
members_middle front back one = get_or-given_by-middle members_rule front one back no_members

above_front : (front back : List TypeDef) (one : TypeDef) (parent : Option TypeId) → Within front parent → (inherited (members_of front) parent).methods ≡ (inherited (members_of (front ++ one ∷ back)) parent).methods
above_front front back one None within = refl
above_front front back one (Some parent) within =
    ap (λ (m : Members). m.methods) (sym (get_or-given_by-front members_rule front (one ∷ back) parent.0 no_members within))

object_parent : (front : List TypeDef) (parent : Option TypeId) (dynamic : Bool) (fields : List Field) (methods : List Method) → IsDefinedOver front (type.ObjectOf parent dynamic fields methods) → Within front parent
object_parent front None dynamic fields methods defined = tt
object_parent front (Some parent) dynamic fields methods defined = within_if_object front parent.0 defined.0

abbrev pub methods_at : List TypeDef → TypeId → List Method
methods_at types ty = (members_in (members_of types) ty).methods

abbrev pub methods_above : List TypeDef → Option TypeId → List Method
methods_above types parent = (inherited (members_of types) parent).methods

-- the members of a type, by those of the types before it
members_round : (types : List TypeDef) (k : ℕ) (one : TypeDef) (r : Round types k one) → get_or (members_of types) k no_members ≡ members_by (members_of r.front) one
members_round types k one r =
    subst (λ (l : List TypeDef). get_or (members_of l) k no_members ≡ members_by (members_of r.front) one) (sym r.is)
    (subst (λ n. get_or (members_of (r.front ++ one ∷ r.back)) n no_members ≡ members_by (members_of r.front) one) r.at (members_middle r.front r.back one))

past_length : (types : List TypeDef) (k : ℕ) → slice_get types k ≡ None → length types ≤ k
past_length [] k e = omega arith
past_length (one ∷ types) zero e = absurd cc
past_length (one ∷ types) (suc k) e = omega (arith, past_length types k e)

get_past : {X : Type 0} (xs : List X) (k : ℕ) (d : X) → length xs ≤ k → get_or xs k d ≡ d
get_past [] k d h = refl
get_past (x ∷ xs) zero d h = absurd (omega (arith, h))
get_past (x ∷ xs) (suc k) d h = get_past xs k d (omega (arith, h))

past_given : (types : List TypeDef) (k : ℕ) → slice_get types k ≡ None → get_or (members_of types) k no_members ≡ no_members
past_given types k e = get_past (members_of types) k no_members (omega (arith, past_length types k e, length-given_by members_rule [] [] types))

module _ (types : List TypeDef) (all : AllDefined [] types) where
  -- an object type has the methods of its ancestor and its own
  pub object_methods : (ty : TypeId) (parent : Option TypeId) (dynamic : Bool) (fields : List Field) (methods : List Method) → slice_get types ty.0 ≡ Some (type.ObjectOf parent dynamic fields methods)
      → methods_at types ty ≡ methods_above types parent ++ methods
  object_methods ty parent dynamic fields methods e =
      let one : TypeDef = type.ObjectOf parent dynamic fields methods in
      let r = round types ty.0 one all e in
      let above = above_front r.front r.back one parent (object_parent r.front parent dynamic fields methods r.defined) in
      ap (λ (m : Members). m.methods) (members_round types ty.0 one r)
      ∙ ap (λ (ms : List Method). ms ++ methods) (above ∙ ap (λ (l : List TypeDef). methods_above l parent) (sym r.is))

  -- and no other type has any
  pub no_methods : (ty : TypeId) (one : TypeDef) → slice_get types ty.0 ≡ Some one → ((classes : List Members) → members_by classes one ≡ no_members) → methods_at types ty ≡ []
  no_methods ty one e none =
      let r = round types ty.0 one all e in
      ap (λ (m : Members). m.methods) (members_round types ty.0 one r ∙ none (members_of r.front))

  -- ---- along a line

  -- a type begins with the methods of each ancestor
  pub begins_with : (steps : ℕ) (own ty : TypeId) → ancestor types steps own ≡ Some ty → (more : List Method) × (methods_at types own ≡ methods_at types ty ++ more)
  begins_with zero own ty e = ([], sym (append-nil (methods_at types own)) ∙ ap (λ (t : TypeId). methods_at types t ++ []) (same_Some own ty e))
  begins_with (suc steps) own ty e =
      option_and_then_some (ancestor types steps) (parent_of (slice_get types own.0)) ty e (λ parent is rest.
      let has = has_parent types own parent (slice_get types own.0) refl is in
      let rec = begins_with steps parent ty rest in (
        rec.0 ++ has.methods,
        object_methods own (Some parent) has.dynamic has.fields has.methods has.is ∙ ap (λ (ms : List Method). ms ++ has.methods) rec.1 ∙ append_assoc (methods_at types ty) rec.0 has.methods,
      ))

  -- of two types on a line one descends from the other
  pub in_line : (i j : ℕ) (own a b : TypeId) → ancestor types i own ≡ Some a → ancestor types j own ≡ Some b → Descends types a b ⊎ Descends types b a
  in_line zero j own a b e e' = inl (j, subst (λ (t : TypeId). ancestor types j t ≡ Some b) (same_Some own a e) e')
  in_line (suc i) zero own a b e e' = inr (suc i, subst (λ (t : TypeId). ancestor types (suc i) t ≡ Some a) (same_Some own b e') e)
  in_line (suc i) (suc j) own a b e e' =
      option_and_then_some (ancestor types i) (parent_of (slice_get types own.0)) a e (λ parent is rest.
      option_and_then_some (ancestor types j) (parent_of (slice_get types own.0)) b e' (λ parent' is' rest'.
      in_line i j parent a b rest (subst (λ (t : TypeId). ancestor types j t ≡ Some b) (same_Some parent' parent (sym is' ∙ is)) rest')))

  -- the slot of a type is one of its descendants, and it is answered by a method with the same header as the first that took it
  pub record Answered (ty : TypeId) (method : Method) (name : List ℕ) (slot : ℕ) : Type 0 where
    pub taken : slice_get (slots_of (methods_at types ty)) slot ≡ Some name
    pub nearest_is : nearest (methods_at types ty) name ≡ Some method

  pub answered : (ty : TypeId) (slot : ℕ) (method : Method) → method_at (members_in (members_of types) ty) slot ≡ Some method → (name : List ℕ) × Answered ty method name slot
  answered ty slot method e =
      option_and_then_some (nearest (methods_at types ty)) (slice_get (slots_of (methods_at types ty)) slot) method e (λ name found is. (name, record { taken = found; nearest_is = is }))

  pub record AlikeFirst (one other : Method) : Type 0 where
    pub first : Method
    pub same : same_header first.header one.header ≡ true
    pub same_other : same_header first.header other.header ≡ true

  -- the answers of a type and of a descendant
  pub lower_answer : AnswersAlike types → (own ty : TypeId) → Descends types own ty → (slot : ℕ) (low high : Method) → method_at (members_in (members_of types) own) slot ≡ Some low
      → method_at (members_in (members_of types) ty) slot ≡ Some high → AlikeFirst low high
  lower_answer alike own ty by slot low high e e' =
      let below = answered own slot low e in
      let above = answered ty slot high e' in
      let begins = begins_with by.0 own ty by.1 in
      let name : List ℕ = above.0 in
      let kept : slice_get (slots_of (methods_at types own)) slot ≡ Some name =
      subst (λ (ms : List Method). slice_get (slots_of ms) slot ≡ Some name) (sym begins.1) (slot_kept (methods_at types ty) begins.0 slot name above.1.taken) in
      let named : below.0 ≡ name = same_Some below.0 name (sym below.1.taken ∙ kept) in
      let virtual = slot_virtual (methods_at types ty) name slot above.1.taken in
      let first : first_virtual (methods_at types own) name ≡ Some virtual.0 =
      subst (λ (ms : List Method). first_virtual ms name ≡ Some virtual.0) (sym begins.1) (first_stays (methods_at types ty) begins.0 name virtual.0 virtual.1) in
      let one = alike own name virtual.0 low first (subst (λ (n : List ℕ). nearest (methods_at types own) n ≡ Some low) named below.1.nearest_is) in
      let other = alike ty name virtual.0 high virtual.1 above.1.nearest_is in
      record { first = virtual.0; same = one.1; same_other = other.1 }

  -- ---- where a method is declared

  -- the type of a line that declares a method
  pub record DeclaredBy (own : TypeId) (method : Method) : Type 0 where
    pub steps : ℕ
    pub ty : TypeId
    pub reached : ancestor types steps own ≡ Some ty
    pub parent : Option TypeId
    pub dynamic : Bool
    pub fields : List Field
    pub methods : List Method
    pub is : slice_get types ty.0 ≡ Some (type.ObjectOf parent dynamic fields methods)
    pub stands : StandsIn methods method

  here_declared : (own : TypeId) (parent : Option TypeId) (dynamic : Bool) (fields : List Field) (methods : List Method) (method : Method) → slice_get types own.0 ≡ Some (type.ObjectOf parent dynamic fields methods)
      → StandsIn methods method → DeclaredBy own method
  here_declared own parent dynamic fields methods method e stands =
      record { steps = 0; ty = own; reached = refl; parent = parent; dynamic = dynamic; fields = fields; methods = methods; is = e; stands = stands }

  above_declared : (own parent : TypeId) (dynamic : Bool) (fields : List Field) (methods : List Method) (method : Method) → slice_get types own.0 ≡ Some (type.ObjectOf (Some parent) dynamic fields methods)
      → DeclaredBy parent method → DeclaredBy own method
  above_declared own parent dynamic fields methods method e d = record {
    steps = suc d.steps;
    ty = d.ty;
    reached = ap (λ (o : Option TypeDef). option_and_then (ancestor types d.steps) (parent_of o)) e ∙ d.reached;
    parent = d.parent;
    dynamic = d.dynamic;
    fields = d.fields;
    methods = d.methods;
    is = d.is;
    stands = d.stands;
  }

  none_near : (own : TypeId) (name : List ℕ) (method : Method) → methods_at types own ≡ [] → nearest (methods_at types own) name ≡ Some method → DeclaredBy own method
  none_near own name method none e = absurd (never (sym (ap (λ (ms : List Method). nearest ms name) none) ∙ e)) where
    never : None ≡ Some method → ⊥
    never e' = cc

  module _ (n : ℕ) (rec : (own : TypeId) (name : List ℕ) (method : Method) → own.0 < n → nearest (methods_at types own) name ≡ Some method → DeclaredBy own method) (own : TypeId) (name : List ℕ) (method : Method) (h : own.0 < suc n) where
    by_parent : (parent : Option TypeId) (dynamic : Bool) (fields : List Field) (methods : List Method) → slice_get types own.0 ≡ Some (type.ObjectOf parent dynamic fields methods)
        → (nearest methods name ≡ Some method) ⊎ (nearest (methods_above types parent) name ≡ Some method) → DeclaredBy own method
    by_parent parent dynamic fields methods e (inl here) = here_declared own parent dynamic fields methods method e (nearest_stands methods name method here)
    by_parent None dynamic fields methods e (inr there) = absurd cc
    by_parent (Some parent) dynamic fields methods e (inr there) =
        above_declared own parent dynamic fields methods method e (rec parent name method (omega (arith, h, parent_below types all own parent dynamic fields methods e)) there)

    by_definition : (o : Option TypeDef) → slice_get types own.0 ≡ o → nearest (methods_at types own) name ≡ Some method → DeclaredBy own method
    by_definition (Some (type.ObjectOf parent dynamic fields methods)) e is =
        by_parent parent dynamic fields methods e
        (nearest_either (methods_above types parent) methods name method (subst (λ (ms : List Method). nearest ms name ≡ Some method) (object_methods own parent dynamic fields methods e) is))
    by_definition (Some (type.Ordinal host low high)) e is = none_near own name method (no_methods own (type.Ordinal host low high) e (λ classes. refl)) is
    by_definition (Some (type.Str max)) e is = none_near own name method (no_methods own (type.Str max) e (λ classes. refl)) is
    by_definition (Some (type.SetOf base)) e is = none_near own name method (no_methods own (type.SetOf base) e (λ classes. refl)) is
    by_definition (Some (type.ArrayOf i x)) e is = none_near own name method (no_methods own (type.ArrayOf i x) e (λ classes. refl)) is
    by_definition (Some (type.RecordOf fields)) e is = none_near own name method (no_methods own (type.RecordOf fields) e (λ classes. refl)) is
    by_definition (Some (type.PointerTo target)) e is = none_near own name method (no_methods own (type.PointerTo target) e (λ classes. refl)) is
    by_definition (Some (type.Procedural header)) e is = none_near own name method (no_methods own (type.Procedural header) e (λ classes. refl)) is
    by_definition None e is = none_near own name method (outside e) is where
      outside : slice_get types own.0 ≡ None → methods_at types own ≡ []
      outside e' = ap (λ (m : Members). m.methods) (past_given types own.0 e')

  up_to : (n : ℕ) (own : TypeId) (name : List ℕ) (method : Method) → own.0 < n → nearest (methods_at types own) name ≡ Some method → DeclaredBy own method
  up_to zero own name method h is = absurd (omega (arith, h))
  up_to (suc n) own name method h is = by_definition n (up_to n) own name method h (slice_get types own.0) refl is

  -- a type of the line declares the method that is found by a name
  pub declared_by : (own : TypeId) (name : List ℕ) (method : Method) → nearest (methods_at types own) name ≡ Some method → DeclaredBy own method
  declared_by own name method is = up_to (own.0 + 1) own name method (omega arith) is
