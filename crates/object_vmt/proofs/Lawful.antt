-- Where no fault is found, no rule fails.
use Rattle.std.proofs.Common.{◌≡◌, ℕ, zero, suc, Bool, true, false, ◌||◌, cond, List, [], ◌∷◌, ◌++◌, Option, Some, None, get_or, take, refl, sym, ap, ◌∙◌, subst, ◌⊎◌, inl, inr, append-nil, append_assoc}
use Rattle.std.specs.Prelude.{Result, Ok, Err, OnOk}
use Rattle.std.specs.List.{slice_get}
use Rattle.std.proofs.lemmas.List.Folds.{list_any-append}
use Rattle.type_layout.specs.declared.definitions.TypeId.{TypeId}
use Rattle.type_layout.specs.declared.definitions.Field.{Field}
use Rattle.type_layout.specs.declared.definitions.Method.{Method}
use Rattle.type_layout.specs.declared.definitions.TypeDef.{TypeDef}
use Rattle.type_layout.specs.declared.definitions.TypeDef.TheVariants.{Ordinal, Str, SetOf, ArrayOf, RecordOf, PointerTo, ObjectOf, Procedural}
use Rattle.type_layout.specs.Words.{same_bytes}
use Rattle.type_layout.specs.Layouts.{given_by}
use Rattle.object_vmt.specs.declared.faults.ClassError.{ClassError}
use Rattle.object_vmt.specs.declared.faults.ClassError.TheVariants.{BadOverride, MissingVirtual, DuplicateField, NoMemory}
use Rattle.object_vmt.specs.Members.{Members, no_members, with_fields, with_methods, inherited, members_by, members_rule, has_field, has_method}
use Rattle.object_vmt.specs.Rules.{same_header, first_virtual, is_taken}
use Rattle.object_vmt.specs.Faults.{first_of, field_fault, override_fault, method_fault, fields_fault, methods_fault, type_fault, faults_from, first_fault}
use Rattle.object_vmt.specs.Dispatch.{IsFieldAgain, IsFieldAndMethod, IsOverride, FailsIn, IsLawful}
use Rattle.object_vmt.proofs.Lines.{none_at, place_below, place_in, take_front, take_whole, both_false, one_true, true_not_false, same_bytes_is}

abbrev Lawful : Members → Type 0
Lawful members = (error : ClassError) → FailsIn members error → ⊥

none_lawful : Lawful no_members
none_lawful (DuplicateField name) (inl again) = none_at again.place again.field again.stands
none_lawful (DuplicateField name) (inr both) = true_not_false false both.field refl
none_lawful (MissingVirtual name) fails = none_at fails.is.place fails.is.method fails.is.stands
none_lawful (BadOverride name) fails = none_at fails.is.place fails.is.method fails.is.stands
none_lawful NoMemory fails = fails

pub no_fault : (b : Bool) (fault : ClassError) (rest : Option ClassError) → cond b (Some fault) rest ≡ None → (b ≡ false) × (rest ≡ None)
no_fault true fault rest h = absurd (cc)
no_fault false fault rest h = (refl, h)

pub first_none : (one rest : Option ClassError) → first_of one rest ≡ None → (one ≡ None) × (rest ≡ None)
first_none None rest h = (refl, h)
first_none (Some fault) rest h = absurd (cc)

-- a name among names with a further one
has_field-push : (fields : List Field) (field : Field) (name : List ℕ) → has_field (fields ++ field ∷ []) name ≡ true
    → (has_field fields name ≡ true) ⊎ (name ≡ field.name)
has_field-push fields field name h =
    let split : (has_field fields name || (same_bytes name field.name || false)) ≡ true =
    sym (list_any-append (λ (f : Field). same_bytes name f.name) fields (field ∷ [])) ∙ h in
    elim (one_true (has_field fields name) (same_bytes name field.name || false) split) [
      | inl before ↦ inl before
      | inr here ↦ elim (one_true (same_bytes name field.name) false here) [
        | inl same ↦ inr (same_bytes_is name field.name same)
        | inr never ↦ absurd (true_not_false false never refl)
      ]
    ]

has_method-push : (methods : List Method) (method : Method) (name : List ℕ) → has_method (methods ++ method ∷ []) name ≡ true
    → (has_method methods name ≡ true) ⊎ (name ≡ method.name)
has_method-push methods method name h =
    let split : (has_method methods name || (same_bytes name method.name || false)) ≡ true =
    sym (list_any-append (λ (m : Method). same_bytes name m.name) methods (method ∷ [])) ∙ h in
    elim (one_true (has_method methods name) (same_bytes name method.name || false) split) [
      | inl before ↦ inl before
      | inr here ↦ elim (one_true (same_bytes name method.name) false here) [
        | inl same ↦ inr (same_bytes_is name method.name same)
        | inr never ↦ absurd (true_not_false false never refl)
      ]
    ]

field_again : (members : Members) (field : Field) (name : List ℕ) → Lawful members → has_field members.fields field.name ≡ false
    → IsFieldAgain (members.fields ++ field ∷ []) name → ⊥
field_again members field name lawful free again =
    elim (place_in members.fields field again.place again.field again.stands) [
      | inl stood ↦
          let below = place_below members.fields again.place again.field stood in
          let before : has_field (take again.place members.fields) name ≡ true =
          ap (λ (fs : List Field). has_field fs name) (sym (take_front members.fields (field ∷ []) again.place below)) ∙ again.before in
          lawful (DuplicateField name) (inl (record { place = again.place; field = again.field; stands = stood; named = again.named; before = before }))
      | inr here ↦
          let front : take again.place (members.fields ++ field ∷ []) ≡ members.fields =
          ap (λ (n : ℕ). take n (members.fields ++ field ∷ [])) here.0 ∙ take_whole members.fields (field ∷ []) in
          let named : field.name ≡ name = ap (λ (f : Field). f.name) here.1 ∙ again.named in
          let before : has_field members.fields field.name ≡ true =
          ap (λ (n : List ℕ). has_field members.fields n) named ∙ ap (λ (fs : List Field). has_field fs name) (sym front) ∙ again.before in
          true_not_false (has_field members.fields field.name) before free
    ]

field_and_method : (members : Members) (field : Field) (name : List ℕ) → Lawful members → has_method members.methods field.name ≡ false
    → IsFieldAndMethod (with_fields members (field ∷ [])) name → ⊥
field_and_method members field name lawful free both =
    elim (has_field-push members.fields field name both.field) [
      | inl before ↦ lawful (DuplicateField name) (inr (record { field = before; method = both.method }))
      | inr same ↦ true_not_false (has_method members.methods field.name) (ap (λ (n : List ℕ). has_method members.methods n) (sym same) ∙ both.method) free
    ]

field_push : (members : Members) (field : Field) → Lawful members → field_fault members field ≡ None → Lawful (with_fields members (field ∷ []))
field_push members field lawful none (DuplicateField name) fails =
    let free = both_false (has_field members.fields field.name) (has_method members.methods field.name)
    (no_fault (is_taken members field.name) (DuplicateField field.name) None none).0 in
    elim fails [
      | inl again ↦ field_again members field name lawful free.0 again
      | inr both ↦ field_and_method members field name lawful free.1 both
    ]
field_push members field lawful none (MissingVirtual name) fails = lawful (MissingVirtual name) fails
field_push members field lawful none (BadOverride name) fails = lawful (BadOverride name) fails
field_push members field lawful none NoMemory fails = fails

-- an override without fault is virtual and has the same header
pub sound_override : (above method : Method) → override_fault (Some above) method ≡ None
    → (method.is_virtual ≡ true) × (same_header above.header method.header ≡ true)
sound_override above method none =
    sound_tests method.is_virtual (same_header above.header method.header) (BadOverride method.name) (MissingVirtual method.name) none
  where
    sound_tests : (a b : Bool) (bad missing : ClassError) → cond a (cond b None (Some bad)) (Some missing) ≡ None → (a ≡ true) × (b ≡ true)
    sound_tests true true bad missing h = (refl, refl)
    sound_tests true false bad missing h = absurd (cc)
    sound_tests false b bad missing h = absurd (cc)

-- an override among methods with a further one: it is one before, or the further one overrides
pub record IsLastOverride (methods : List Method) (last : Method) (above : Method) (name : List ℕ) : Type 0 where
  pub named : last.name ≡ name
  pub overrides : first_virtual methods name ≡ Some above

override_in : (methods : List Method) (last : Method) (name : List ℕ) (o : IsOverride (methods ++ last ∷ []) name)
    → ((slice_get methods o.place ≡ Some o.method) × (first_virtual (take o.place methods) name ≡ Some o.above))
    ⊎ ((last ≡ o.method) × IsLastOverride methods last o.above name)
override_in methods last name o =
    elim (place_in methods last o.place o.method o.stands) [
      | inl stood ↦
          let below = place_below methods o.place o.method stood in
          inl (stood, ap (λ (ms : List Method). first_virtual ms name) (sym (take_front methods (last ∷ []) o.place below)) ∙ o.overrides)
      | inr here ↦
          let front : take o.place (methods ++ last ∷ []) ≡ methods =
          ap (λ (n : ℕ). take n (methods ++ last ∷ [])) here.0 ∙ take_whole methods (last ∷ []) in
          inr (
            here.1,
            record {
              named = ap (λ (m : Method). m.name) here.1 ∙ o.named;
              overrides = ap (λ (ms : List Method). first_virtual ms name) (sym front) ∙ o.overrides;
            },
          )
    ]

last_is_sound : (methods : List Method) (last above : Method) (name : List ℕ) → override_fault (first_virtual methods last.name) last ≡ None
    → IsLastOverride methods last above name → (last.is_virtual ≡ true) × (same_header above.header last.header ≡ true)
last_is_sound methods last above name none l =
    let over : first_virtual methods last.name ≡ Some above = ap (λ (n : List ℕ). first_virtual methods n) l.named ∙ l.overrides in
    sound_override above last (ap (λ (z : Option Method). override_fault z last) (sym over) ∙ none)

method_push : (members : Members) (method : Method) → Lawful members → method_fault members method ≡ None → Lawful (with_methods members (method ∷ []))
method_push members method lawful none (DuplicateField name) (inl again) = lawful (DuplicateField name) (inl again)
method_push members method lawful none (DuplicateField name) (inr both) =
    let free = (no_fault (has_field members.fields method.name) (DuplicateField method.name) (override_fault (first_virtual members.methods method.name) method) none).0 in
    elim (has_method-push members.methods method name both.method) [
      | inl before ↦ lawful (DuplicateField name) (inr (record { field = both.field; method = before }))
      | inr same ↦ true_not_false (has_field members.fields method.name) (ap (λ (n : List ℕ). has_field members.fields n) (sym same) ∙ both.field) free
    ]
method_push members method lawful none (MissingVirtual name) fails =
    let sound = (no_fault (has_field members.fields method.name) (DuplicateField method.name) (override_fault (first_virtual members.methods method.name) method) none).1 in
    let o = fails.is in
    elim (override_in members.methods method name o) [
      | inl before ↦ lawful (MissingVirtual name) (record {
        is = record { place = o.place; method = o.method; above = o.above; stands = before.0; named = o.named; overrides = before.1 };
        lacks = fails.lacks;
      })
      | inr here ↦ true_not_false o.method.is_virtual
          (ap (λ (m : Method). m.is_virtual) (sym here.0) ∙ (last_is_sound members.methods method o.above name sound here.1).0) fails.lacks
    ]
method_push members method lawful none (BadOverride name) fails =
    let sound = (no_fault (has_field members.fields method.name) (DuplicateField method.name) (override_fault (first_virtual members.methods method.name) method) none).1 in
    let o = fails.is in
    elim (override_in members.methods method name o) [
      | inl before ↦ lawful (BadOverride name) (record {
        is = record { place = o.place; method = o.method; above = o.above; stands = before.0; named = o.named; overrides = before.1 };
        differs = fails.differs;
      })
      | inr here ↦ true_not_false (same_header o.above.header o.method.header)
          (ap (λ (m : Method). same_header o.above.header m.header) (sym here.0) ∙ (last_is_sound members.methods method o.above name sound here.1).1) fails.differs
    ]
method_push members method lawful none NoMemory fails = fails

fields_push : (members : Members) (fields : List Field) → Lawful members → fields_fault members fields ≡ None → Lawful (with_fields members fields)
fields_push members [] lawful none =
    subst (λ (fs : List Field). Lawful (record { fields = fs; methods = members.methods })) (sym (append-nil members.fields)) lawful
fields_push members (field ∷ fields) lawful none =
    let split = first_none (field_fault members field) (fields_fault (with_fields members (field ∷ [])) fields) none in
    subst (λ (fs : List Field). Lawful (record { fields = fs; methods = members.methods })) (append_assoc members.fields (field ∷ []) fields)
    (fields_push (with_fields members (field ∷ [])) fields (field_push members field lawful split.0) split.1)

methods_push : (members : Members) (methods : List Method) → Lawful members → methods_fault members methods ≡ None → Lawful (with_methods members methods)
methods_push members [] lawful none =
    subst (λ (ms : List Method). Lawful (record { fields = members.fields; methods = ms })) (sym (append-nil members.methods)) lawful
methods_push members (method ∷ methods) lawful none =
    let split = first_none (method_fault members method) (methods_fault (with_methods members (method ∷ [])) methods) none in
    subst (λ (ms : List Method). Lawful (record { fields = members.fields; methods = ms })) (append_assoc members.methods (method ∷ []) methods)
    (methods_push (with_methods members (method ∷ [])) methods (method_push members method lawful split.0) split.1)

abbrev AllLawful : List Members → Type 0
AllLawful classes = (k : ℕ) → Lawful (get_or classes k no_members)

empty_lawful : AllLawful []
empty_lawful zero = none_lawful
empty_lawful (suc k) = none_lawful

all_push : (classes : List Members) (one : Members) → AllLawful classes → Lawful one → AllLawful (classes ++ one ∷ [])
all_push [] one all here zero = here
all_push [] one all here (suc k) = empty_lawful k
all_push (first ∷ classes) one all here zero = all zero
all_push (first ∷ classes) one all here (suc k) = all_push classes one (λ j. all (suc j)) here k

inherited_lawful : (classes : List Members) (parent : Option TypeId) → AllLawful classes → Lawful (inherited classes parent)
inherited_lawful classes None all = none_lawful
inherited_lawful classes (Some parent) all = all parent.0

type_lawful : (classes : List Members) (one : TypeDef) → AllLawful classes → type_fault classes one ≡ None → Lawful (members_by classes one)
type_lawful classes (ObjectOf parent dynamic fields methods) all none =
    let above = inherited classes parent in
    let split = first_none (fields_fault above fields) (methods_fault (with_fields above fields) methods) none in
    methods_push (with_fields above fields) methods (fields_push above fields (inherited_lawful classes parent all) split.0) split.1
type_lawful classes (Ordinal host low high) all none = none_lawful
type_lawful classes (Str max) all none = none_lawful
type_lawful classes (SetOf base) all none = none_lawful
type_lawful classes (ArrayOf index element) all none = none_lawful
type_lawful classes (RecordOf fields) all none = none_lawful
type_lawful classes (PointerTo target) all none = none_lawful
type_lawful classes (Procedural header) all none = none_lawful

table_lawful : (before types : List TypeDef) (classes : List Members) → AllLawful classes → faults_from classes types ≡ None
    → AllLawful (given_by members_rule before classes types)
table_lawful before [] classes all none = all
table_lawful before (one ∷ types) classes all none =
    let split = first_none (type_fault classes one) (faults_from (classes ++ members_by classes one ∷ []) types) none in
    table_lawful (before ++ one ∷ []) types (classes ++ members_by classes one ∷ [])
    (all_push classes (members_by classes one) all (type_lawful classes one all split.0)) split.1

pub is_lawful : (types : List TypeDef) → first_fault types ≡ None → IsLawful types
is_lawful types none error fails = table_lawful [] types [] empty_lawful none fails.class.0 error fails.here

pub are_lawful : {A : Type 0} (types : List TypeDef) (r : Result A ClassError) → OnOk r (first_fault types ≡ None) → OnOk r (IsLawful types)
are_lawful types (Ok value) h = is_lawful types h
are_lawful types (Err e) h = tt
