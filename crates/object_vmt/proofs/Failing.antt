-- Where a fault is found, that rule fails.
use Rattle.std.proofs.Common.{◌≡◌, ℕ, Bool, true, false, ◌||◌, cond, List, [], ◌∷◌, ◌++◌, length, Option, Some, None, refl, sym, ap, ◌∙◌, subst, arith, ◌⊎◌, inl, inr, append_assoc, length-append}
use Rattle.std.specs.Prelude.{Result, Ok, Err, IfErr}
use Rattle.std.proofs.lemmas.List.Folds.{list_any-append}
use Rattle.type_layout.specs.declared.definitions.Field.{Field}
use Rattle.type_layout.specs.declared.definitions.Method.{Method}
use Rattle.type_layout.specs.declared.definitions.TypeDef.{TypeDef}
use Rattle.type_layout.specs.declared.definitions.TypeDef.TheVariants.{Ordinal, Str, SetOf, ArrayOf, RecordOf, PointerTo, ObjectOf, Procedural}
use Rattle.type_layout.specs.Words.{same_bytes}
use Rattle.type_layout.proofs.Given.{given_by-push, get_or-given_by-middle}
use Rattle.object_vmt.specs.declared.faults.ClassError.{ClassError}
use Rattle.object_vmt.specs.declared.faults.ClassError.TheVariants.{BadOverride, MissingVirtual, DuplicateField, NoMemory}
use Rattle.object_vmt.specs.Members.{Members, no_members, with_fields, with_methods, inherited, members_by, members_rule, members_of, has_field, has_method}
use Rattle.object_vmt.specs.Rules.{same_header, first_virtual, is_taken}
use Rattle.object_vmt.specs.Faults.{first_of, field_fault, override_fault, method_fault, fields_fault, methods_fault, type_fault, faults_from, first_fault, IsAnswerTo}
use Rattle.object_vmt.specs.Dispatch.{IsOverride, FailsIn, Fails, IsCause}
use Rattle.object_vmt.proofs.SlotLaws.{same_bytes_refl}
use Rattle.object_vmt.proofs.Lines.{place_below, stays_at, last_at, take_front, take_whole, one_true, or_right}

-- what fails in a line fails in a longer one
has_field-more : (fields more : List Field) (name : List ℕ) → has_field fields name ≡ true → has_field (fields ++ more) name ≡ true
has_field-more fields more name h =
    list_any-append (λ (f : Field). same_bytes name f.name) fields more ∙ ap (λ (b : Bool). b || has_field more name) h

has_method-more : (methods more : List Method) (name : List ℕ) → has_method methods name ≡ true → has_method (methods ++ more) name ≡ true
has_method-more methods more name h =
    list_any-append (λ (m : Method). same_bytes name m.name) methods more ∙ ap (λ (b : Bool). b || has_method more name) h

abbrev override-more : (methods more : List Method) (name : List ℕ) → IsOverride methods name → IsOverride (methods ++ more) name
override-more methods more name o = record {
  place = o.place;
  method = o.method;
  above = o.above;
  stands = stays_at methods more o.place o.method o.stands;
  named = o.named;
  overrides = ap (λ (ms : List Method). first_virtual ms name) (take_front methods more o.place (place_below methods o.place o.method o.stands)) ∙ o.overrides;
}

more_fields : (members : Members) (more : List Field) (e : ClassError) → FailsIn members e → FailsIn (with_fields members more) e
more_fields members more (DuplicateField name) (inl again) = inl (record {
  place = again.place;
  field = again.field;
  stands = stays_at members.fields more again.place again.field again.stands;
  named = again.named;
  before = ap (λ (fs : List Field). has_field fs name) (take_front members.fields more again.place (place_below members.fields again.place again.field again.stands)) ∙ again.before;
})
more_fields members more (DuplicateField name) (inr both) = inr (record { field = has_field-more members.fields more name both.field; method = both.method })
more_fields members more (MissingVirtual name) fails = fails
more_fields members more (BadOverride name) fails = fails
more_fields members more NoMemory fails = fails

more_methods : (members : Members) (more : List Method) (e : ClassError) → FailsIn members e → FailsIn (with_methods members more) e
more_methods members more (DuplicateField name) (inl again) = inl again
more_methods members more (DuplicateField name) (inr both) = inr (record { field = both.field; method = has_method-more members.methods more name both.method })
more_methods members more (MissingVirtual name) fails = record { is = override-more members.methods more name fails.is; lacks = fails.lacks }
more_methods members more (BadOverride name) fails = record { is = override-more members.methods more name fails.is; differs = fails.differs }
more_methods members more NoMemory fails = fails

-- the fault of a test, or what the rest finds
pub record IsFirst (holds : Bool) (fault : ClassError) (e : ClassError) : Type 0 where
  pub test : holds ≡ true
  pub is : fault ≡ e

test_fault : (b : Bool) (fault e : ClassError) (rest : Option ClassError) → cond b (Some fault) rest ≡ Some e
    → IsFirst b fault e ⊎ (rest ≡ Some e)
test_fault true fault e rest h = inl (record { test = refl; is = cc })
test_fault false fault e rest h = inr h

first_some : (one rest : Option ClassError) (e : ClassError) → first_of one rest ≡ Some e → (one ≡ Some e) ⊎ (rest ≡ Some e)
first_some None rest e h = inr h
first_some (Some fault) rest e h = inl h

no_error : (e : ClassError) → None ≡ Some e → ⊥
no_error e h = cc

taken_fails : (members : Members) (field : Field) → is_taken members field.name ≡ true
    → FailsIn (with_fields members (field ∷ [])) (DuplicateField field.name)
taken_fails members field taken =
    elim (one_true (has_field members.fields field.name) (has_method members.methods field.name) taken) [
      | inl before ↦ inl (record {
        place = length members.fields;
        field = field;
        stands = last_at members.fields field;
        named = refl;
        before = ap (λ (fs : List Field). has_field fs field.name) (take_whole members.fields (field ∷ [])) ∙ before;
      })
      | inr method ↦ inr (record {
        field = list_any-append (λ (f : Field). same_bytes field.name f.name) members.fields (field ∷ [])
            ∙ or_right (has_field members.fields field.name) (same_bytes field.name field.name || false)
            (ap (λ (b : Bool). b || false) (same_bytes_refl field.name));
        method = method;
      })
    ]

field_fails : (members : Members) (field : Field) (e : ClassError) → field_fault members field ≡ Some e → FailsIn (with_fields members (field ∷ [])) e
field_fails members field e h =
    elim (test_fault (is_taken members field.name) (DuplicateField field.name) e None h) [
      | inl first ↦ subst (λ (z : ClassError). FailsIn (with_fields members (field ∷ [])) z) first.is (taken_fails members field first.test)
      | inr never ↦ absurd (no_error e never)
    ]

abbrev last_override : (methods : List Method) (method above : Method) → first_virtual methods method.name ≡ Some above
    → IsOverride (methods ++ method ∷ []) method.name
last_override methods method above over = record {
  place = length methods;
  method = method;
  above = above;
  stands = last_at methods method;
  named = refl;
  overrides = ap (λ (ms : List Method). first_virtual ms method.name) (take_whole methods (method ∷ [])) ∙ over;
}

override_tests : (a b : Bool) (bad missing e : ClassError) → cond a (cond b None (Some bad)) (Some missing) ≡ Some e
    → ((a ≡ false) × (missing ≡ e)) ⊎ ((b ≡ false) × (bad ≡ e))
override_tests true true bad missing e h = absurd (no_error e h)
override_tests true false bad missing e h = inr (refl, cc)
override_tests false b bad missing e h = inl (refl, cc)

override_fails : (members : Members) (method : Method) (above : Option Method) (e : ClassError) → first_virtual members.methods method.name ≡ above
    → override_fault above method ≡ Some e → FailsIn (with_methods members (method ∷ [])) e
override_fails members method None e over h = absurd (no_error e h)
override_fails members method (Some above) e over h =
    let is = last_override members.methods method above over in
    elim (override_tests method.is_virtual (same_header above.header method.header) (BadOverride method.name) (MissingVirtual method.name) e h) [
      | inl missing ↦ subst (λ (z : ClassError). FailsIn (with_methods members (method ∷ [])) z) missing.1 (record { is = is; lacks = missing.0 })
      | inr bad ↦ subst (λ (z : ClassError). FailsIn (with_methods members (method ∷ [])) z) bad.1 (record { is = is; differs = bad.0 })
    ]

method_fails : (members : Members) (method : Method) (e : ClassError) → method_fault members method ≡ Some e → FailsIn (with_methods members (method ∷ [])) e
method_fails members method e h =
    elim (test_fault (has_field members.fields method.name) (DuplicateField method.name) e (override_fault (first_virtual members.methods method.name) method) h) [
      | inl first ↦ subst (λ (z : ClassError). FailsIn (with_methods members (method ∷ [])) z) first.is (inr (record {
        field = first.test;
        method = list_any-append (λ (m : Method). same_bytes method.name m.name) members.methods (method ∷ [])
            ∙ or_right (has_method members.methods method.name) (same_bytes method.name method.name || false)
            (ap (λ (b : Bool). b || false) (same_bytes_refl method.name));
      }))
      | inr rest ↦ override_fails members method (first_virtual members.methods method.name) e refl rest
    ]

fields_fail : (members : Members) (fields : List Field) (e : ClassError) → fields_fault members fields ≡ Some e → FailsIn (with_fields members fields) e
fields_fail members [] e h = absurd (no_error e h)
fields_fail members (field ∷ fields) e h =
    subst (λ (fs : List Field). FailsIn (record { fields = fs; methods = members.methods }) e) (append_assoc members.fields (field ∷ []) fields)
    (elim (first_some (field_fault members field) (fields_fault (with_fields members (field ∷ [])) fields) e h) [
      | inl here ↦ more_fields (with_fields members (field ∷ [])) fields e (field_fails members field e here)
      | inr later ↦ fields_fail (with_fields members (field ∷ [])) fields e later
    ])

methods_fail : (members : Members) (methods : List Method) (e : ClassError) → methods_fault members methods ≡ Some e → FailsIn (with_methods members methods) e
methods_fail members [] e h = absurd (no_error e h)
methods_fail members (method ∷ methods) e h =
    subst (λ (ms : List Method). FailsIn (record { fields = members.fields; methods = ms }) e) (append_assoc members.methods (method ∷ []) methods)
    (elim (first_some (method_fault members method) (methods_fault (with_methods members (method ∷ [])) methods) e h) [
      | inl here ↦ more_methods (with_methods members (method ∷ [])) methods e (method_fails members method e here)
      | inr later ↦ methods_fail (with_methods members (method ∷ [])) methods e later
    ])

type_fails : (classes : List Members) (one : TypeDef) (e : ClassError) → type_fault classes one ≡ Some e → FailsIn (members_by classes one) e
type_fails classes (ObjectOf parent dynamic fields methods) e h =
    let above = inherited classes parent in
    elim (first_some (fields_fault above fields) (methods_fault (with_fields above fields) methods) e h) [
      | inl here ↦ more_methods (with_fields above fields) methods e (fields_fail above fields e here)
      | inr later ↦ methods_fail (with_fields above fields) methods e later
    ]
type_fails classes (Ordinal host low high) e h = absurd (no_error e h)
type_fails classes (Str max) e h = absurd (no_error e h)
type_fails classes (SetOf base) e h = absurd (no_error e h)
type_fails classes (ArrayOf index element) e h = absurd (no_error e h)
type_fails classes (RecordOf fields) e h = absurd (no_error e h)
type_fails classes (PointerTo target) e h = absurd (no_error e h)
type_fails classes (Procedural header) e h = absurd (no_error e h)

table_fails : (front types : List TypeDef) (e : ClassError) → faults_from (members_of front) types ≡ Some e → Fails (front ++ types) e
table_fails front [] e h = absurd (no_error e h)
table_fails front (one ∷ types) e h =
    let empty : List Members = [] in
    let pushed : members_of (front ++ one ∷ []) ≡ members_of front ++ members_by (members_of front) one ∷ [] = given_by-push members_rule [] empty front one in
    elim (first_some (type_fault (members_of front) one) (faults_from (members_of front ++ members_by (members_of front) one ∷ []) types) e h) [
      | inl here ↦ record {
        class = record { 0 = length front };
        known = omega (arith, length-append front (one ∷ types));
        here = subst (λ (m : Members). FailsIn m e) (sym (get_or-given_by-middle members_rule front one types no_members)) (type_fails (members_of front) one e here);
      }
      | inr later ↦ subst (λ (ts : List TypeDef). Fails ts e) (append_assoc front (one ∷ []) types)
          (table_fails (front ++ one ∷ []) types e (ap (λ (cs : List Members). faults_from cs types) pushed ∙ later))
    ]

-- an answer has its cause
pub has_cause : (types : List TypeDef) (e : ClassError) → IsAnswerTo (first_fault types) e → IsCause types e
has_cause types (DuplicateField name) h = table_fails [] types (DuplicateField name) h
has_cause types (MissingVirtual name) h = table_fails [] types (MissingVirtual name) h
has_cause types (BadOverride name) h = table_fails [] types (BadOverride name) h
has_cause types NoMemory h = tt

pub have_cause : {A : Type 0} (types : List TypeDef) (r : Result A ClassError) → IfErr r (IsAnswerTo (first_fault types)) → IfErr r (IsCause types)
have_cause types (Ok value) h = tt
have_cause types (Err e) h = has_cause types e h
