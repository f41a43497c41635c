-- Where no rule on overrides fails in a line, a method that overrides another has its header.
use Rattle.std.proofs.Common.{◌≡◌, ◌∙◌, ◌⊎◌, inl, inr, ℕ, zero, suc, ◌+◌, ◌<◌, ◌≤◌, Bool, true, false, ◌&&◌, cond, List, [], ◌∷◌, length, Option, Some, None, get_or, refl, sym, ap, subst, arith}
use Rattle.std.specs.Prelude.{slice_get, take}
use Rattle.unit_references.specs.type_layout.declared.definitions.Header.{Header}
use Rattle.unit_references.specs.type_layout.declared.definitions.Method.{Method}
use Rattle.unit_references.specs.type_layout.declared.definitions.TypeDef.{TypeDef}
use Rattle.unit_references.specs.type_layout.Words.{same_bytes}
use Rattle.unit_references.proofs.type_layout_proofs.Given.{length-given_by}
use Rattle.unit_references.specs.object_vmt.declared.faults.ClassError.TheVariants.{BadOverride, MissingVirtual}
use Rattle.unit_references.specs.object_vmt.Members.{Members, no_members, members_of, members_in, members_rule, later_of, nearest}
use Rattle.unit_references.specs.object_vmt.Rules.{same_header, first_virtual}
use Rattle.unit_references.specs.object_vmt.Dispatch.{IsOverride, IsStaticOverride, IsOtherOverride, IsLawful, AreAnsweredAlike, AnswersAlike}
use Rattle.unit_references.proofs.object_vmt_proofs.Lines.{same_bytes_is}
use Rattle.units_well_formed.proofs.tp_check_decl_proofs.routines.HeaderTests.{tells_header}
use Rattle.shared_types_agree.specs.methods.Laws.{AnswersLaw}

-- a header is itself
same_itself : (header : Header) → same_header header header ≡ true
same_itself header = (tells_header header header).1 (record { kind = refl; params = refl; result = refl })

both_true : (a b : Bool) → (a && b) ≡ true → (a ≡ true) × (b ≡ true)
both_true true b e = (refl, e)
both_true false b e = (let f : false ≡ true = e in absurd (cc))

no_method : (method : Method) → None ≡ Some method → ⊥
no_method method e = cc

one_method : (method other : Method) → Some method ≡ Some other → method ≡ other
one_method method other e = cc

-- ---- one line

-- the nearest method of a name stands in the line
pub record IsNearest (methods : List Method) (name : List ℕ) (last : Method) : Type 0 where
  pub place : ℕ
  pub stands : slice_get methods place ≡ Some last
  pub named : last.name ≡ name

nearest_at : (methods : List Method) (name : List ℕ) (last : Method) → nearest methods name ≡ Some last → IsNearest methods name last
nearest_at [] name last e = absurd (no_method last e)
nearest_at (method ∷ methods) name last e = by (λ later at. nearest_at methods name later at) (nearest methods name) refl (same_bytes name method.name) refl e
  where
    by : ((later : Method) → nearest methods name ≡ Some later → IsNearest methods name later) → (o : Option Method) → nearest methods name ≡ o → (b : Bool) → same_bytes name method.name ≡ b
        → later_of o (cond b (Some method) None) ≡ Some last → IsNearest (method ∷ methods) name last
    by behind (Some later) at b is f =
        let rest = behind later at in
        let same : later ≡ last = one_method later last f in
        record { place = suc rest.place; stands = rest.stands ∙ ap (λ (m : Method). Some m) same; named = ap (λ (m : Method). m.name) (sym same) ∙ rest.named }
    by behind None at true is f =
        let same : method ≡ last = one_method method last f in
        record { place = 0; stands = f; named = ap (λ (m : Method). m.name) (sym same) ∙ sym (same_bytes_is name method.name is) }
    by behind None at false is f = absurd (no_method last f)

-- where no method has a name, no virtual one has it
none_virtual : (methods : List Method) (name : List ℕ) → nearest methods name ≡ None → first_virtual methods name ≡ None
none_virtual [] name e = refl
none_virtual (method ∷ methods) name e = by (λ none. none_virtual methods name none) (nearest methods name) refl (same_bytes name method.name) refl e
  where
    by : (nearest methods name ≡ None → first_virtual methods name ≡ None) → (o : Option Method) → nearest methods name ≡ o → (b : Bool) → same_bytes name method.name ≡ b → later_of o (cond b (Some method) None) ≡ None
        → cond (method.is_virtual && same_bytes name method.name) (Some method) (first_virtual methods name) ≡ None
    by behind (Some later) at b is f = absurd (no_method later (sym f))
    by behind None at true is f = absurd (no_method method (sym f))
    by behind None at false is f =
        ap (λ (c : Bool). cond (method.is_virtual && c) (Some method) (first_virtual methods name)) is ∙ plain method.is_virtual ∙ behind at
      where
        plain : (v : Bool) → cond (v && false) (Some method) (first_virtual methods name) ≡ first_virtual methods name
        plain true = refl
        plain false = refl

-- no override of a name fails
pub record NoneFails (methods : List Method) (name : List ℕ) : Type 0 where
  pub static : IsStaticOverride methods name → ⊥
  pub other : IsOtherOverride methods name → ⊥

module _ (method : Method) (methods : List Method) (name : List ℕ) where
  -- behind a method that isn't virtual, or has another name
  abbrev override_behind : (method.is_virtual && same_bytes name method.name) ≡ false → IsOverride methods name → IsOverride (method ∷ methods) name
  override_behind is o = record {
    place = suc o.place;
    method = o.method;
    above = o.above;
    stands = o.stands;
    named = o.named;
    overrides = ap (λ (b : Bool). cond b (Some method) (first_virtual (take o.place methods) name)) is ∙ o.overrides;
  }

  fails_behind : (method.is_virtual && same_bytes name method.name) ≡ false → NoneFails (method ∷ methods) name → NoneFails methods name
  fails_behind is none = record {
    static = λ s. none.static (record { is = override_behind is s.is; lacks = s.lacks });
    other = λ s. none.other (record { is = override_behind is s.is; differs = s.differs });
  }

  -- behind a virtual one of this name, each is an override
  abbrev override_of : (method.is_virtual && same_bytes name method.name) ≡ true → (last : Method) → IsNearest methods name last → IsOverride (method ∷ methods) name
  override_of is last n = record {
    place = suc n.place;
    method = last;
    above = method;
    stands = n.stands;
    named = n.named;
    overrides = ap (λ (b : Bool). cond b (Some method) (first_virtual (take n.place methods) name)) is;
  }

  overrides : (is : (method.is_virtual && same_bytes name method.name) ≡ true) (last : Method) → IsNearest methods name last → NoneFails (method ∷ methods) name
      → (last.is_virtual ≡ true) × (same_header method.header last.header ≡ true)
  overrides is last n none = (virtual last.is_virtual refl, alike (same_header method.header last.header) refl)
    where
      virtual : (b : Bool) → last.is_virtual ≡ b → last.is_virtual ≡ true
      virtual true e = e
      virtual false e = absurd (none.static (record { is = override_of is last n; lacks = e }))

      alike : (b : Bool) → same_header method.header last.header ≡ b → same_header method.header last.header ≡ true
      alike true e = e
      alike false e = absurd (none.other (record { is = override_of is last n; differs = e }))

answered : (methods : List Method) (name : List ℕ) (first last : Method) → NoneFails methods name → first_virtual methods name ≡ Some first → nearest methods name ≡ Some last
    → (last.is_virtual ≡ true) × (same_header first.header last.header ≡ true)
answered [] name first last none f n = absurd (no_method first f)
answered (method ∷ methods) name first last none f n =
    by (λ fails g k. answered methods name first last fails g k) (method.is_virtual && same_bytes name method.name) refl f (nearest methods name) refl n
  where
    by : (NoneFails methods name → first_virtual methods name ≡ Some first → nearest methods name ≡ Some last → (last.is_virtual ≡ true) × (same_header first.header last.header ≡ true))
        → (b : Bool) → (method.is_virtual && same_bytes name method.name) ≡ b → cond b (Some method) (first_virtual methods name) ≡ Some first
        → (o : Option Method) → nearest methods name ≡ o → later_of o (cond (same_bytes name method.name) (Some method) None) ≡ Some last
        → (last.is_virtual ≡ true) × (same_header first.header last.header ≡ true)
    by behind true is g (Some later) at k =
        let here = overrides method methods name is later (nearest_at methods name later at) none in
        subst (λ (m : Method). (last.is_virtual ≡ true) × (same_header m.header last.header ≡ true)) (one_method method first g)
        (subst (λ (m : Method). (m.is_virtual ≡ true) × (same_header method.header m.header ≡ true)) (one_method later last k) here)
    by behind true is g None at k =
        let both = both_true method.is_virtual (same_bytes name method.name) is in
        let same : method ≡ last = one_method method last (ap (λ (b : Bool). later_of None (cond b (Some method) None)) (sym both.1) ∙ k) in
        let here : (method.is_virtual ≡ true) × (same_header method.header method.header ≡ true) = (both.0, same_itself method.header) in
        subst (λ (m : Method). (last.is_virtual ≡ true) × (same_header m.header last.header ≡ true)) (one_method method first g)
        (subst (λ (m : Method). (m.is_virtual ≡ true) × (same_header method.header m.header ≡ true)) same here)
    by behind false is g (Some later) at k = behind (fails_behind method methods name is none) g (at ∙ k)
    by behind false is g None at k = absurd (no_method first (sym (none_virtual methods name at) ∙ g))

-- ---- a table

beyond : (classes : List Members) (k : ℕ) → length classes ≤ k → get_or classes k no_members ≡ no_members
beyond [] zero h = refl
beyond [] (suc k) h = refl
beyond (one ∷ classes) zero h = absurd (omega (arith, h))
beyond (one ∷ classes) (suc k) h = beyond classes k (omega (arith, h))

pub low_or_not : (n m : ℕ) → (n < m) ⊎ (m ≤ n)
low_or_not n zero = inr (omega arith)
low_or_not zero (suc m) = inl (omega arith)
low_or_not (suc n) (suc m) = next (low_or_not n m)
  where
    next : (n < m) ⊎ (m ≤ n) → (suc n < suc m) ⊎ (suc m ≤ suc n)
    next (inl f) = inl (omega (arith, f))
    next (inr f) = inr (omega (arith, f))

pub answers_alike : (types : List TypeDef) → IsLawful types → AnswersAlike types
answers_alike types lawful class = by (low_or_not class.0 (length types))
  where
    by : (class.0 < length types) ⊎ (length types ≤ class.0) → AreAnsweredAlike (members_in (members_of types) class).methods
    by (inl low) = λ name first last f n.
        answered (members_in (members_of types) class).methods name first last
        (record {
          static = λ s. lawful (MissingVirtual name) (record { class = class; known = low; here = s });
          other = λ s. lawful (BadOverride name) (record { class = class; known = low; here = s });
        }) f n
    by (inr high) =
        let long : length (members_of types) ≡ 0 + length types = length-given_by members_rule [] [] types in
        let none : members_in (members_of types) class ≡ no_members = beyond (members_of types) class.0 (omega (arith, high, long)) in
        λ name first last f n. absurd (no_method first (ap (λ (m : Members). first_virtual m.methods name) (sym none) ∙ f))

pub all_answer : AnswersLaw
all_answer unit lawful = answers_alike unit.types.types lawful
