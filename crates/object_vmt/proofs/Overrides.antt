-- Where no fault is found, the method that answers a slot is virtual, and has the header with which the slot was taken.
use Rattle.std.proofs.Common.{◌≡◌, ℕ, zero, suc, Bool, true, false, ◌&&◌, cond, List, [], ◌∷◌, ◌++◌, Option, Some, None, get_or, refl, sym, ap, ◌∙◌, subst, eq-eqb, append-nil, append_assoc, nat_eq}
use Rattle.std.specs.Prelude.{Result, Ok, Err, OnOk}
use Rattle.type_layout.specs.declared.definitions.TypeId.{TypeId}
use Rattle.type_layout.specs.declared.definitions.Param.{Param}
use Rattle.type_layout.specs.declared.definitions.Header.{Header}
use Rattle.type_layout.specs.declared.definitions.Method.{Method}
use Rattle.type_layout.specs.declared.definitions.TypeDef.{TypeDef}
use Rattle.type_layout.specs.declared.definitions.TypeDef.TheVariants.{Ordinal, Str, SetOf, ArrayOf, RecordOf, PointerTo, ObjectOf, Procedural}
use Rattle.type_layout.specs.Words.{same_bytes}
use Rattle.type_layout.specs.Layouts.{given_by}
use Rattle.object_vmt.specs.declared.faults.ClassError.{ClassError}
use Rattle.object_vmt.specs.declared.faults.ClassError.TheVariants.{DuplicateField}
use Rattle.object_vmt.specs.Members.{Members, no_members, with_fields, with_methods, inherited, members_by, members_rule, has_field, nearest, later_of}
use Rattle.object_vmt.specs.Rules.{same_flag, same_param, same_params, same_result, same_header, kind_number, first_virtual}
use Rattle.object_vmt.specs.Faults.{override_fault, method_fault, fields_fault, methods_fault, type_fault, faults_from, first_fault}
use Rattle.object_vmt.specs.Dispatch.{AreAnsweredAlike, AnswersAlike}
use Rattle.object_vmt.proofs.Lines.{same_bytes_is}
use Rattle.object_vmt.proofs.Lawful.{no_fault, first_none, sound_override}

both : (a b : Bool) → a ≡ true → b ≡ true → (a && b) ≡ true
both true b h k = k
both false b h k = absurd (cc)

same_flag_refl : (b : Bool) → same_flag b b ≡ true
same_flag_refl true = refl
same_flag_refl false = refl

same_params_refl : (params : List Param) → same_params params params ≡ true
same_params_refl [] = refl
same_params_refl (param ∷ params) =
    both (same_param param param) (same_params params params)
    (both (same_flag param.by_ref param.by_ref) (nat_eq param.ty.0 param.ty.0) (same_flag_refl param.by_ref) (eq-eqb param.ty.0 param.ty.0 refl))
    (same_params_refl params)

same_result_refl : (one : Option TypeId) → same_result one one ≡ true
same_result_refl None = refl
same_result_refl (Some one) = eq-eqb one.0 one.0 refl

same_header_refl : (header : Header) → same_header header header ≡ true
same_header_refl header =
    both (nat_eq (kind_number header.kind) (kind_number header.kind) && same_params header.params header.params) (same_result header.result header.result)
    (both (nat_eq (kind_number header.kind) (kind_number header.kind)) (same_params header.params header.params)
    (eq-eqb (kind_number header.kind) (kind_number header.kind) refl) (same_params_refl header.params))
    (same_result_refl header.result)

-- the first of two, where there is one
abbrev or_first : Option Method → Option Method → Option Method
or_first (Some one) other = Some one
or_first None other = other

first_virtual-push : (methods : List Method) (method : Method) (name : List ℕ)
    → first_virtual (methods ++ method ∷ []) name
    ≡ or_first (first_virtual methods name) (cond (method.is_virtual && same_bytes name method.name) (Some method) None)
first_virtual-push [] method name = refl
first_virtual-push (first ∷ methods) method name = at_first (first.is_virtual && same_bytes name first.name) (first_virtual-push methods method name)
  where
    at_first : (b : Bool) → first_virtual (methods ++ method ∷ []) name
        ≡ or_first (first_virtual methods name) (cond (method.is_virtual && same_bytes name method.name) (Some method) None)
        → cond b (Some first) (first_virtual (methods ++ method ∷ []) name)
        ≡ or_first (cond b (Some first) (first_virtual methods name)) (cond (method.is_virtual && same_bytes name method.name) (Some method) None)
    at_first true rec = refl
    at_first false rec = rec

later_cond : (b : Bool) (method : Method) (rest first : Option Method)
    → later_of (cond b (Some method) rest) first ≡ cond b (Some method) (later_of rest first)
later_cond true method rest first = refl
later_cond false method rest first = refl

later_none : (b : Bool) (method : Method) → later_of None (cond b (Some method) None) ≡ cond b (Some method) None
later_none true method = refl
later_none false method = refl

nearest-push : (methods : List Method) (method : Method) (name : List ℕ)
    → nearest (methods ++ method ∷ []) name ≡ cond (same_bytes name method.name) (Some method) (nearest methods name)
nearest-push [] method name = later_none (same_bytes name method.name) method
nearest-push (first ∷ methods) method name =
    ap (λ (z : Option Method). later_of z (cond (same_bytes name first.name) (Some first) None)) (nearest-push methods method name)
    ∙ later_cond (same_bytes name method.name) method (nearest methods name) (cond (same_bytes name first.name) (Some first) None)

none_alike : AreAnsweredAlike []
none_alike name first last found answers = absurd (cc)

-- a further method: it answers the slot that it overrides, or the one that it takes, and no other
named_alike : (methods : List Method) (method : Method) (name : List ℕ) (before : Option Method) (first last : Method)
    → override_fault before method ≡ None → or_first before (cond (method.is_virtual && true) (Some method) None) ≡ Some first → method ≡ last
    → (last.is_virtual ≡ true) × (same_header first.header last.header ≡ true)
named_alike methods method name (Some above) first last none found is =
    let sound = sound_override above method none in
    let same : above ≡ first = cc in
    subst (λ (m : Method). (m.is_virtual ≡ true) × (same_header first.header m.header ≡ true)) is
    (sound.0, ap (λ (m : Method). same_header m.header method.header) (sym same) ∙ sound.1)
named_alike methods method name None first last none found is = taken method.is_virtual refl found
  where
    taken : (b : Bool) → method.is_virtual ≡ b → cond (b && true) (Some method) None ≡ Some first
        → (last.is_virtual ≡ true) × (same_header first.header last.header ≡ true)
    taken true virtual found =
        let same : method ≡ first = cc in (
          ap (λ (m : Method). m.is_virtual) (sym is) ∙ virtual,
          subst (λ (m : Method). same_header first.header m.header ≡ true) (sym same ∙ is) (same_header_refl first.header),
        )
    taken false virtual found = absurd (cc)

or_first_none : (before : Option Method) (b : Bool) (method first : Method) → or_first before (cond (b && false) (Some method) None) ≡ Some first
    → before ≡ Some first
or_first_none (Some above) b method first found = found
or_first_none None true method first found = absurd (cc)
or_first_none None false method first found = absurd (cc)

alike_push : (methods : List Method) (method : Method) → AreAnsweredAlike methods → override_fault (first_virtual methods method.name) method ≡ None
    → AreAnsweredAlike (methods ++ method ∷ [])
alike_push methods method alike none name first last found answers =
    by_name (same_bytes name method.name) refl (sym (first_virtual-push methods method name) ∙ found) (sym (nearest-push methods method name) ∙ answers)
  where
    by_name : (b : Bool) → same_bytes name method.name ≡ b
        → or_first (first_virtual methods name) (cond (method.is_virtual && same_bytes name method.name) (Some method) None) ≡ Some first
        → cond (same_bytes name method.name) (Some method) (nearest methods name) ≡ Some last
        → (last.is_virtual ≡ true) × (same_header first.header last.header ≡ true)
    by_name true named first_is last_is =
        let same : name ≡ method.name = same_bytes_is name method.name named in
        let no : override_fault (first_virtual methods name) method ≡ None =
        ap (λ (n : List ℕ). override_fault (first_virtual methods n) method) same ∙ none in
        let first_found : or_first (first_virtual methods name) (cond (method.is_virtual && true) (Some method) None) ≡ Some first =
        ap (λ (b : Bool). or_first (first_virtual methods name) (cond (method.is_virtual && b) (Some method) None)) (sym named) ∙ first_is in
        let here : Some method ≡ Some last = ap (λ (b : Bool). cond b (Some method) (nearest methods name)) (sym named) ∙ last_is in
        let is : method ≡ last = cc in
        named_alike methods method name (first_virtual methods name) first last no first_found is
    by_name false named first_is last_is =
        alike name first last
        (or_first_none (first_virtual methods name) method.is_virtual method first
        (ap (λ (b : Bool). or_first (first_virtual methods name) (cond (method.is_virtual && b) (Some method) None)) (sym named) ∙ first_is))
        (ap (λ (b : Bool). cond b (Some method) (nearest methods name)) (sym named) ∙ last_is)

methods_alike : (members : Members) (methods : List Method) → AreAnsweredAlike members.methods → methods_fault members methods ≡ None
    → AreAnsweredAlike (members.methods ++ methods)
methods_alike members [] alike none = subst (λ (ms : List Method). AreAnsweredAlike ms) (sym (append-nil members.methods)) alike
methods_alike members (method ∷ methods) alike none =
    let split = first_none (method_fault members method) (methods_fault (with_methods members (method ∷ [])) methods) none in
    let sound = (no_fault (has_field members.fields method.name) (DuplicateField method.name) (override_fault (first_virtual members.methods method.name) method) split.0).1 in
    subst (λ (ms : List Method). AreAnsweredAlike ms) (append_assoc members.methods (method ∷ []) methods)
    (methods_alike (with_methods members (method ∷ [])) methods (alike_push members.methods method alike sound) split.1)

abbrev AllAlike : List Members → Type 0
AllAlike classes = (k : ℕ) → AreAnsweredAlike (get_or classes k no_members).methods

empty_alike : AllAlike []
empty_alike zero = none_alike
empty_alike (suc k) = none_alike

all_push : (classes : List Members) (one : Members) → AllAlike classes → AreAnsweredAlike one.methods → AllAlike (classes ++ one ∷ [])
all_push [] one all here zero = here
all_push [] one all here (suc k) = empty_alike k
all_push (first ∷ classes) one all here zero = all zero
all_push (first ∷ classes) one all here (suc k) = all_push classes one (λ j. all (suc j)) here k

inherited_alike : (classes : List Members) (parent : Option TypeId) → AllAlike classes → AreAnsweredAlike (inherited classes parent).methods
inherited_alike classes None all = none_alike
inherited_alike classes (Some parent) all = all parent.0

type_alike : (classes : List Members) (one : TypeDef) → AllAlike classes → type_fault classes one ≡ None → AreAnsweredAlike (members_by classes one).methods
type_alike classes (ObjectOf parent dynamic fields methods) all none =
    let above = inherited classes parent in
    let split = first_none (fields_fault above fields) (methods_fault (with_fields above fields) methods) none in
    methods_alike (with_fields above fields) methods (inherited_alike classes parent all) split.1
type_alike classes (Ordinal host low high) all none = none_alike
type_alike classes (Str max) all none = none_alike
type_alike classes (SetOf base) all none = none_alike
type_alike classes (ArrayOf index element) all none = none_alike
type_alike classes (RecordOf fields) all none = none_alike
type_alike classes (PointerTo target) all none = none_alike
type_alike classes (Procedural header) all none = none_alike

table_alike : (before types : List TypeDef) (classes : List Members) → AllAlike classes → faults_from classes types ≡ None
    → AllAlike (given_by members_rule before classes types)
table_alike before [] classes all none = all
table_alike before (one ∷ types) classes all none =
    let split = first_none (type_fault classes one) (faults_from (classes ++ members_by classes one ∷ []) types) none in
    table_alike (before ++ one ∷ []) types (classes ++ members_by classes one ∷ [])
    (all_push classes (members_by classes one) all (type_alike classes one all split.0)) split.1

pub answer_alike : {A : Type 0} (types : List TypeDef) (r : Result A ClassError) → OnOk r (first_fault types ≡ None) → OnOk r (AnswersAlike types)
answer_alike types (Ok value) h = λ class. table_alike [] types [] empty_alike h class.0
answer_alike types (Err e) h = tt
