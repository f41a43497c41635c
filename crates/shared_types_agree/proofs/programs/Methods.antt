-- The methods of an object declaration have different names.
use Rattle.std.proofs.Common.{◌≡◌, ◌∙◌, refl, ℕ, ◌+◌, Bool, true, false, ◌||◌, List, [], ◌∷◌, ◌++◌, map, sym, ap, subst}
use Rattle.std.specs.List.{IsDistinct, list_any}
use Rattle.std.proofs.lemmas.Cmp.{nat_list_eq_equiv}
use Rattle.std.proofs.lemmas.List.{map-append}
use Rattle.std.proofs.lemmas.Map.Keys.{IsDistinct-push}
use Rattle.unit_references.specs.type_layout.declared.definitions.Field.{Field}
use Rattle.unit_references.specs.type_layout.declared.definitions.Method.{Method}
use Rattle.unit_references.specs.type_layout.Words.{same_bytes}
use Rattle.units_well_formed.specs.syntax_tree.declared.type_tree.parameter.Method as written
use Rattle.units_well_formed.specs.scopes.Members.{narrow}
use Rattle.units_well_formed.specs.scopes.Environment.{Environment}
use Rattle.units_well_formed.specs.declaration_checker.type_denoters.Denoters.{has_field}
use Rattle.units_well_formed.specs.declaration_checker.type_parts.Objects.{has_method, has_member, method_judged, methods_judged, is_dynamic}
use Rattle.shared_types_agree.specs.programs.Methods.{AreOnce, AreDeclared}

abbrev names_of : List Method → List (List ℕ)
names_of methods = map (λ (method : Method). method.name) methods

second_not : (a b : Bool) → (a || b) ≡ false → b ≡ false
second_not true b e = (let f : true ≡ false = e in cc)
second_not false b e = e

any_named : (name : List ℕ) (methods : List Method) → list_any (same_bytes name) (names_of methods) ≡ has_method methods name
any_named name [] = refl
any_named name (one ∷ rest) = ap (λ (b : Bool). same_bytes name one.name || b) (any_named name rest)

-- a further one, of which no member has the name
once_with : (fields : List Field) (before : List Method) (one : Method) → AreOnce before → has_member fields before one.name ≡ false → AreOnce (before ++ one ∷ [])
once_with fields before one once absent =
    let none : list_any (same_bytes one.name) (names_of before) ≡ false =
    any_named one.name before ∙ second_not (has_field fields one.name) (has_method before one.name) absent in
    subst (IsDistinct same_bytes) (sym (map-append (λ (method : Method). method.name) before (one ∷ []))) (IsDistinct-push nat_list_eq_equiv (names_of before) one.name once none)

method_absent : (g : Environment) (unit number : ℕ) (fields : List Field) (before : List Method) (one : written.Method) (made : Method) → (method_judged g unit number fields before one).holds made
    → has_member fields before made.name ≡ false
method_absent g unit number fields before one made h =
    let named = h.made.made in
    ap (λ (method : Method). has_member fields before method.name) named.made ∙ named.asked

methods_once : (g : Environment) (unit number : ℕ) (fields : List Field) (before : List Method) (all : List written.Method) (made : List Method) → (methods_judged g unit number fields before all).holds made
    → AreOnce before → AreOnce made
methods_once g unit number fields before [] made h once = subst AreOnce (sym h) once
methods_once g unit number fields before (one ∷ rest) made h once =
    methods_once g unit (narrow (number + 1)) fields (before ++ h.part ∷ []) rest made h.made
    (once_with fields before h.part once (method_absent g unit number fields before one h.part h.holds))

none_once : AreOnce []
unfolding IsDistinct
none_once = tt

pub methods_declared : (g : Environment) (unit number : ℕ) (fields : List Field) (all : List written.Method) (made : List Method) → (methods_judged g unit number fields [] all).holds made → AreDeclared (is_dynamic made) made
methods_declared g unit number fields all made h = record { once = methods_once g unit number fields [] all made h none_once; told = refl }
