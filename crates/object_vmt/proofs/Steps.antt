-- One step of the loops over fields, methods and types.
use Rattle.std.proofs.Common.{◌≡◌, ℕ, zero, suc, ◌+◌, ◌<◌, List, [], ◌∷◌, ◌++◌, length, Option, Some, None, get_or, take, drop, sym, ap, ◌∙◌, arith, append_assoc, add-one, drop-cons}
use Rattle.std.specs.List.{slice_get}
use Rattle.std.proofs.lemmas.List.{take_more}
use Rattle.type_layout.specs.declared.definitions.Field.{Field}
use Rattle.type_layout.specs.declared.definitions.Method.{Method}
use Rattle.type_layout.specs.declared.definitions.TypeDef.{TypeDef}
use Rattle.type_layout.proofs.Given.{given_by-push}
use Rattle.object_vmt.specs.declared.faults.ClassError.{ClassError}
use Rattle.object_vmt.specs.declared.faults.ClassError.TheVariants.{BadOverride, MissingVirtual, DuplicateField, NoMemory}
use Rattle.object_vmt.specs.Members.{Members, with_fields, with_methods, members_by, members_rule, members_of}
use Rattle.object_vmt.specs.Faults.{first_of, field_fault, method_fault, fields_fault, methods_fault, type_fault, faults_from, first_fault, IsAnswerTo}

-- the first of two faults is answered
pub answer_first : (fault rest whole : Option ClassError) (e : ClassError) → whole ≡ first_of fault rest → IsAnswerTo fault e → IsAnswerTo whole e
answer_first fault rest whole NoMemory is answer = tt
answer_first fault rest whole (BadOverride method) is answer = is ∙ ap (λ (z : Option ClassError). first_of z rest) answer
answer_first fault rest whole (MissingVirtual method) is answer = is ∙ ap (λ (z : Option ClassError). first_of z rest) answer
answer_first fault rest whole (DuplicateField name) is answer = is ∙ ap (λ (z : Option ClassError). first_of z rest) answer

pub fields_step : (first now next : Members) (fields : List Field) (i : ℕ) (one : Field) → i < length fields → one ≡ get_or fields i one
    → now ≡ with_fields first (take i fields) → fields_fault first fields ≡ fields_fault now (drop i fields)
    → field_fault now one ≡ None → next ≡ with_fields now (one ∷ [])
    → (next ≡ with_fields first (take (i + 1) fields)) × (fields_fault first fields ≡ fields_fault next (drop (i + 1) fields))
fields_step first now next fields i one within is now_is fault_is none next_is =
    let rest : List Field = drop (i + 1) fields in
    let front : drop i fields ≡ one ∷ rest = drop-cons fields i one within ∙ rw (← add-one i) (ap (λ (x : Field). x ∷ rest) (sym is)) in
    let more : take (i + 1) fields ≡ take i fields ++ one ∷ [] = take_more fields i one within ∙ ap (λ (x : Field). take i fields ++ x ∷ []) (sym is) in
    let with : List Field → Members = λ fs. record { fields = fs; methods = first.methods } in (
      next_is ∙ ap (λ (m : Members). with_fields m (one ∷ [])) now_is ∙ ap with (append_assoc first.fields (take i fields) (one ∷ []))
          ∙ ap (λ (xs : List Field). with_fields first xs) (sym more),
      fault_is ∙ ap (λ (xs : List Field). fields_fault now xs) front
          ∙ ap (λ (z : Option ClassError). first_of z (fields_fault (with_fields now (one ∷ [])) rest)) none
          ∙ ap (λ (m : Members). fields_fault m rest) (sym next_is),
    )

pub fields_stop : (first now : Members) (fields : List Field) (i : ℕ) (one : Field) (e : ClassError) → i < length fields → one ≡ get_or fields i one
    → fields_fault first fields ≡ fields_fault now (drop i fields) → IsAnswerTo (field_fault now one) e → IsAnswerTo (fields_fault first fields) e
fields_stop first now fields i one e within is fault_is answer =
    let rest : List Field = drop (i + 1) fields in
    let front : drop i fields ≡ one ∷ rest = drop-cons fields i one within ∙ rw (← add-one i) (ap (λ (x : Field). x ∷ rest) (sym is)) in
    answer_first (field_fault now one) (fields_fault (with_fields now (one ∷ [])) rest) (fields_fault first fields) e
    (fault_is ∙ ap (λ (xs : List Field). fields_fault now xs) front) answer

pub methods_step : (first now next : Members) (methods : List Method) (i : ℕ) (one : Method) → i < length methods → one ≡ get_or methods i one
    → now ≡ with_methods first (take i methods) → methods_fault first methods ≡ methods_fault now (drop i methods)
    → method_fault now one ≡ None → next ≡ with_methods now (one ∷ [])
    → (next ≡ with_methods first (take (i + 1) methods)) × (methods_fault first methods ≡ methods_fault next (drop (i + 1) methods))
methods_step first now next methods i one within is now_is fault_is none next_is =
    let rest : List Method = drop (i + 1) methods in
    let front : drop i methods ≡ one ∷ rest = drop-cons methods i one within ∙ rw (← add-one i) (ap (λ (x : Method). x ∷ rest) (sym is)) in
    let more : take (i + 1) methods ≡ take i methods ++ one ∷ [] = take_more methods i one within ∙ ap (λ (x : Method). take i methods ++ x ∷ []) (sym is) in
    let with : List Method → Members = λ ms. record { fields = first.fields; methods = ms } in (
      next_is ∙ ap (λ (m : Members). with_methods m (one ∷ [])) now_is ∙ ap with (append_assoc first.methods (take i methods) (one ∷ []))
          ∙ ap (λ (xs : List Method). with_methods first xs) (sym more),
      fault_is ∙ ap (λ (xs : List Method). methods_fault now xs) front
          ∙ ap (λ (z : Option ClassError). first_of z (methods_fault (with_methods now (one ∷ [])) rest)) none
          ∙ ap (λ (m : Members). methods_fault m rest) (sym next_is),
    )

pub methods_stop : (first now : Members) (methods : List Method) (i : ℕ) (one : Method) (e : ClassError) → i < length methods → one ≡ get_or methods i one
    → methods_fault first methods ≡ methods_fault now (drop i methods) → IsAnswerTo (method_fault now one) e → IsAnswerTo (methods_fault first methods) e
methods_stop first now methods i one e within is fault_is answer =
    let rest : List Method = drop (i + 1) methods in
    let front : drop i methods ≡ one ∷ rest = drop-cons methods i one within ∙ rw (← add-one i) (ap (λ (x : Method). x ∷ rest) (sym is)) in
    answer_first (method_fault now one) (methods_fault (with_methods now (one ∷ [])) rest) (methods_fault first methods) e
    (fault_is ∙ ap (λ (xs : List Method). methods_fault now xs) front) answer

found_get : (xs : List TypeDef) (i : ℕ) (x : TypeDef) → slice_get xs i ≡ Some x → (i < length xs) × (get_or xs i x ≡ x)
found_get [] i x found = cc
found_get (y ∷ ys) zero x found = (omega arith, cc)
found_get (y ∷ ys) (suc k) x found = let rec = found_get ys k x found in (omega (arith, rec.0), rec.1)

pub types_step : (types : List TypeDef) (i : ℕ) (one : TypeDef) (now next : List Members) (m : Members) → slice_get types i ≡ Some one
    → now ≡ members_of (take i types) → first_fault types ≡ faults_from now (drop i types)
    → type_fault now one ≡ None → m ≡ members_by now one → next ≡ now ++ m ∷ []
    → (next ≡ members_of (take (i + 1) types)) × (first_fault types ≡ faults_from next (drop (i + 1) types))
types_step types i one now next m found now_is fault_is none m_is next_is =
    let f = found_get types i one found in
    let rest : List TypeDef = drop (i + 1) types in
    let front : drop i types ≡ one ∷ rest = drop-cons types i one f.0 ∙ rw (← add-one i) (ap (λ (x : TypeDef). x ∷ rest) f.1) in
    let more : take (i + 1) types ≡ take i types ++ one ∷ [] = take_more types i one f.0 ∙ ap (λ (x : TypeDef). take i types ++ x ∷ []) f.1 in
    let empty : List Members = [] in
    let pushed : members_of (take i types ++ one ∷ []) ≡ members_of (take i types) ++ members_by (members_of (take i types)) one ∷ [] =
    given_by-push members_rule [] empty (take i types) one in
    let last : next ≡ now ++ members_by now one ∷ [] = next_is ∙ ap (λ (z : Members). now ++ z ∷ []) m_is in (
      last ∙ ap (λ (z : List Members). z ++ members_by z one ∷ []) now_is ∙ sym pushed ∙ ap members_of (sym more),
      fault_is ∙ ap (λ (xs : List TypeDef). faults_from now xs) front
          ∙ ap (λ (z : Option ClassError). first_of z (faults_from (now ++ members_by now one ∷ []) rest)) none
          ∙ ap (λ (z : List Members). faults_from z rest) (sym last),
    )

pub types_stop : (types : List TypeDef) (i : ℕ) (one : TypeDef) (now : List Members) (e : ClassError) → slice_get types i ≡ Some one
    → first_fault types ≡ faults_from now (drop i types) → IsAnswerTo (type_fault now one) e → IsAnswerTo (first_fault types) e
types_stop types i one now e found fault_is answer =
    let f = found_get types i one found in
    let rest : List TypeDef = drop (i + 1) types in
    let front : drop i types ≡ one ∷ rest = drop-cons types i one f.0 ∙ rw (← add-one i) (ap (λ (x : TypeDef). x ∷ rest) f.1) in
    answer_first (type_fault now one) (faults_from (now ++ members_by now one ∷ []) rest) (first_fault types) e
    (fault_is ∙ ap (λ (xs : List TypeDef). faults_from now xs) front) answer
