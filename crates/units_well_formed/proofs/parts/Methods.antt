-- The methods of an object type with their numbers, and the routines that are awaited for them.
use Rattle.std.proofs.Common.{◌≡◌, ℕ, zero, suc, ◌+◌, ◌<◌, ◌≤◌, true, List, [], ◌∷◌, ◌++◌, length, Option, Some, refl, sym, subst, ap, ◌∙◌, arith, append_assoc, append-nil}
use Rattle.std.specs.Prelude.{slice_get}
use Rattle.std.proofs.lemmas.Option.{slice_get_within}
use Rattle.declarations_well_formed.specs.type_layout.declared.definitions.TypeId.{TypeId}
use Rattle.declarations_well_formed.specs.type_layout.declared.definitions.Field.{Field}
use Rattle.declarations_well_formed.specs.type_layout.declared.definitions.Kind.TheVariants as kind
use Rattle.declarations_well_formed.specs.type_layout.declared.definitions.Header.{Header}
use Rattle.declarations_well_formed.specs.type_layout.declared.definitions.Method.{Method}
use Rattle.declarations_well_formed.specs.type_layout.declared.texts.Place.{Place}
use Rattle.declarations_well_formed.specs.syntax_tree.declared.type_tree.parameter.Method as written
use Rattle.declarations_well_formed.specs.syntax_tree.declared.type_tree.parameter.MethodHeader.{MethodHeader}
use Rattle.declarations_well_formed.specs.syntax_tree.declared.type_tree.parameter.MethodHeader.TheVariants as method
use Rattle.declarations_well_formed.specs.scopes.Members.{narrow}
use Rattle.declarations_well_formed.specs.scopes.Environment.{Environment}
use Rattle.declarations_well_formed.specs.declaration_checker.headers.Headers.{method_header}
use Rattle.declarations_well_formed.specs.declaration_checker.type_parts.Objects.{header_place, method_judged, methods_judged}
use Rattle.declarations_well_formed.specs.tp_check_decl.routines.Drafts.{Numbered}
use Rattle.declarations_well_formed.specs.tp_check_decl.routines.Methods.{method_announced, awaiting, of_method, of_methods}
use Rattle.units_well_formed.proofs.routines.Headed.{IsKindly, procedure_few, function_few}

-- ---- numbers

pub narrow_on : (n k : ℕ) → narrow (narrow n + k) ≡ narrow (n + k)
narrow_on n k = omega arith

-- ---- methods as they are read

-- a method with the number of its routine, and a header as each has
pub record IsMade (unit number : ℕ) (one : Method) : Type 0 where
  pub unit_is : one.routine.unit ≡ unit
  pub number_is : one.routine.number ≡ narrow number
  pub function : IsKindly one.header
  pub few : length one.header.params ≤ 256

header_few : (g : Environment) (one : MethodHeader) (header : Header) → (method_header g one).holds header → length header.params ≤ 256
header_few g (method.Procedure here name groups) header k = procedure_few g true here.place kind.Procedure groups.items header k
header_few g (method.Function here name groups result) header k = function_few g true here.place groups.items result header k
header_few g (method.Constructor here name groups) header k = procedure_few g true here.place kind.Constructor groups.items header k
header_few g (method.Destructor here name groups) header k = procedure_few g true here.place kind.Destructor groups.items header k

header_kindly : (g : Environment) (one : MethodHeader) (header : Header) → (method_header g one).holds header → IsKindly header
header_kindly g (method.Procedure here name groups) header k = subst (λ (x : Header). IsKindly x) (sym k.made.made) (λ e. let bad : ⊥ = cc in absurd bad)
header_kindly g (method.Function here name groups result) header k = subst (λ (x : Header). IsKindly x) (sym k.made.made) (λ e. refl)
header_kindly g (method.Constructor here name groups) header k = subst (λ (x : Header). IsKindly x) (sym k.made.made) (λ e. let bad : ⊥ = cc in absurd bad)
header_kindly g (method.Destructor here name groups) header k = subst (λ (x : Header). IsKindly x) (sym k.made.made) (λ e. let bad : ⊥ = cc in absurd bad)

-- methods behind those before them, numbered in their order
pub record AreMade (unit number : ℕ) (before : List Method) (count : ℕ) (made : List Method) : Type 0 where
  pub back : List Method
  pub is : made ≡ before ++ back
  pub count_is : length back ≡ count
  pub each : (place : ℕ) (one : Method) → slice_get back place ≡ Some one → IsMade unit (number + place) one

made_with : (unit number : ℕ) (one : Method) (before back : List Method) (count : ℕ) (made : List Method) → IsMade unit number one → AreMade unit (number + 1) (before ++ one ∷ []) count made → AreMade unit number before (suc count) made
made_with unit number one before back count made first rest = record {
  back = one ∷ rest.back;
  is = rest.is ∙ append_assoc before (one ∷ []) rest.back;
  count_is = ap (λ (n : ℕ). suc n) rest.count_is;
  each = by;
}
  where
    by : (place : ℕ) (other : Method) → slice_get (one ∷ rest.back) place ≡ Some other → IsMade unit (number + place) other
    by zero other e =
        let same : one ≡ other = cc in
        let here : number ≡ number + 0 = omega arith in
        subst (λ (x : Method). IsMade unit (number + 0) x) same (subst (λ (n : ℕ). IsMade unit n one) here first)
    by (suc place) other e =
        let there : number + 1 + place ≡ number + suc place = omega arith in
        subst (λ (n : ℕ). IsMade unit n other) there (rest.each place other e)

method_made : (g : Environment) (unit number first : ℕ) (fields : List Field) (before : List Method) (one : written.Method) (made : Method) → first ≡ narrow number
    → (method_judged g unit first fields before one).holds made → IsMade unit number made
method_made g unit number first fields before one made at k =
    let is = k.made.made.made in
    record {
      unit_is = ap (λ (m : Method). m.routine.unit) is;
      number_is = ap (λ (m : Method). m.routine.number) is ∙ at;
      function = subst (λ (m : Method). IsKindly m.header) (sym is) (header_kindly g one.header k.part k.holds);
      few = subst (λ (m : Method). length m.header.params ≤ 256) (sym is) (header_few g one.header k.part k.holds);
    }

pub methods_made : (g : Environment) (unit number first : ℕ) (fields : List Field) (before : List Method) (all : List written.Method) (made : List Method) → first ≡ narrow number
    → (methods_judged g unit first fields before all).holds made → AreMade unit number before (length all) made
methods_made g unit number first fields before [] made at k =
    record { back = []; is = k ∙ sym (append-nil before); count_is = refl; each = λ place one e. absurd (nothing place one e) }
  where
    nothing : (place : ℕ) (one : Method) → slice_get [] place ≡ Some one → ⊥
    nothing zero one e = let bad : ⊥ = cc in bad
    nothing (suc place) one e = let bad : ⊥ = cc in bad
methods_made g unit number first fields before (one ∷ rest) made at k =
    let here = method_made g unit number first fields before one k.part at k.holds in
    let next : narrow (first + 1) ≡ narrow (number + 1) = ap (λ (n : ℕ). narrow (n + 1)) at ∙ narrow_on number 1 in
    made_with unit number k.part before [] (length rest) made here (methods_made g unit (number + 1) (narrow (first + 1)) fields (before ++ k.part ∷ []) rest made next k.made)

-- ---- the routines that are awaited

pub some_at : {A : Type 0} → (xs : List A) (place : ℕ) → place < length xs → (x : A) × (slice_get xs place ≡ Some x)
some_at [] place h = absurd (omega (arith, h))
some_at (x ∷ xs) zero h = (x, refl)
some_at (x ∷ xs) (suc place) h = some_at xs place (omega (arith, h))

module _ (owner : TypeId) (methods : List Method) where
  abbrev pub awaited : Place → Method → Numbered
  awaited at one = awaiting (method_announced owner at one)

  -- one for each method from a place on
  pub record AreAwaited (place count : ℕ) (news : List Numbered) : Type 0 where
    pub count_is : length news ≡ count
    pub each : (i : ℕ) (one : Method) → slice_get methods (place + i) ≡ Some one → (at : Place) × (slice_get news i ≡ Some (awaited at one))
    pub only : (i : ℕ) (one : Numbered) → slice_get news i ≡ Some one → (at : Place) × (m : Method) × (slice_get methods (place + i) ≡ Some m) × (one ≡ awaited at m)

  awaited_with : (place count : ℕ) (at : Place) (first : Method) (news : List Numbered) → slice_get methods place ≡ Some first → AreAwaited (place + 1) count news → AreAwaited place (suc count) (awaited at first ∷ news)
  awaited_with place count at first news is rest = record {
    count_is = ap (λ (n : ℕ). suc n) rest.count_is;
    each = each_by;
    only = only_by;
  }
    where
      here : slice_get methods (place + 0) ≡ Some first
      here = let same : place + 0 ≡ place = omega arith in ap (λ (n : ℕ). slice_get methods n) same ∙ is

      further : (i : ℕ) → place + 1 + i ≡ place + suc i
      further i = omega arith

      each_by : (i : ℕ) (one : Method) → slice_get methods (place + i) ≡ Some one → (p : Place) × (slice_get (awaited at first ∷ news) i ≡ Some (awaited p one))
      each_by zero one e =
          let same : first ≡ one = (let f = here in cc) in
          (at, ap (λ (m : Method). Some (awaited at m)) same)
      each_by (suc i) one e = rest.each i one (ap (λ (n : ℕ). slice_get methods n) (further i) ∙ e)

      only_by : (i : ℕ) (one : Numbered) → slice_get (awaited at first ∷ news) i ≡ Some one → (p : Place) × (m : Method) × (slice_get methods (place + i) ≡ Some m) × (one ≡ awaited p m)
      only_by zero one e =
          let same : awaited at first ≡ one = cc in
          (at, first, here, sym same)
      only_by (suc i) one e =
          let it = rest.only i one e in
          (it.0, it.1, ap (λ (n : ℕ). slice_get methods n) (sym (further i)) ∙ it.2, it.3)

  pub all_awaited : (place : ℕ) (all : List written.Method) → length methods ≡ place + length all → AreAwaited place (length all) (of_methods owner methods place all)
  all_awaited place [] count = record {
    count_is = refl;
    each = λ i one e. (let low = slice_get_within methods (place + i) one e in absurd (omega (arith, low, count)));
    only = λ i one e. absurd (nothing i one e);
  }
    where
      nothing : (i : ℕ) (one : Numbered) → slice_get [] i ≡ Some one → ⊥
      nothing zero one e = let bad : ⊥ = cc in bad
      nothing (suc i) one e = let bad : ⊥ = cc in bad
  all_awaited place (one ∷ rest) count =
      let first = some_at methods place (omega (arith, count)) in
      let inner = all_awaited (place + 1) rest (omega (arith, count)) in
      subst (λ (o : Option Method). AreAwaited place (suc (length rest)) (of_method owner (header_place one.header) o ++ of_methods owner methods (place + 1) rest)) (sym first.1)
      (awaited_with place (length rest) (header_place one.header) first.0 (of_methods owner methods (place + 1) rest) first.1 inner)
