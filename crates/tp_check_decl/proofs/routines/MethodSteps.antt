-- Routines of object types that are put behind those that are there, one after the other.
use Rattle.std.proofs.Common.{◌≡◌, ◌∙◌, ℕ, suc, ◌+◌, ◌<◌, List, [], ◌∷◌, ◌++◌, length, get_or, drop, slice_get, Option, sym, ap, append_assoc, append-nil, arith}
use Rattle.std.proofs.Math.Seq.{drop-cons}
use Rattle.type_layout.specs.declared.definitions.TypeId.{TypeId}
use Rattle.type_layout.specs.declared.definitions.Method.{Method}
use Rattle.type_layout.specs.declared.texts.Place.{Place}
use Rattle.syntax_tree.specs.declared.type_tree.parameter.Method as written
use Rattle.declaration_checker.specs.type_parts.Objects.{header_place}
use Rattle.tp_check_decl.specs.routines.Drafts.{Numbered}
use Rattle.tp_check_decl.specs.routines.Methods.{of_method, of_methods}

-- where none is added
pub nothing_more : (old : List Numbered) → old ≡ old ++ []
nothing_more old = sym (append-nil old)

cut : {X : Type 0} (xs : List X) (i : ℕ) (d : X) → i < length xs → drop i xs ≡ get_or xs i d ∷ drop (i + 1) xs
cut xs i d h =
    let next : suc i ≡ i + 1 = omega arith in
    drop-cons xs i d h ∙ ap (λ k. get_or xs i d ∷ drop k xs) next

-- what one gives, behind what came before and in front of the rest
joined : (old one rest whole new : List Numbered) → old ++ (one ++ rest) ≡ whole → new ≡ old ++ one → new ++ rest ≡ whole
joined old one rest whole new before step = ap (λ (l : List Numbered). l ++ rest) step ∙ append_assoc old one rest ∙ before

-- one method more
method_more : (owner : TypeId) (methods : List Method) (all : List written.Method) (n : ℕ) (d : written.Method) (old new whole : List Numbered) → n < length all
    → old ++ of_methods owner methods n (drop n all) ≡ whole
    → new ≡ old ++ of_method owner (header_place (get_or all n d).header) (slice_get methods n)
    → new ++ of_methods owner methods (n + 1) (drop (n + 1) all) ≡ whole
method_more owner methods all n d old new whole h before step =
    joined old (of_method owner (header_place (get_or all n d).header) (slice_get methods n)) (of_methods owner methods (n + 1) (drop (n + 1) all)) whole new
    (ap (λ (l : List written.Method). old ++ of_methods owner methods n l) (sym (cut all n d h)) ∙ before) step

-- the same, by where its header begins and by what the type has there
pub method_step : (owner : TypeId) (methods : List Method) (all : List written.Method) (n : ℕ) (one : written.Method) (place : Place) (found : Option Method) (old new whole : List Numbered)
    → n < length all → one ≡ get_or all n one → place ≡ header_place one.header → found ≡ slice_get methods n
    → old ++ of_methods owner methods n (drop n all) ≡ whole → new ≡ old ++ of_method owner place found
    → new ++ of_methods owner methods (n + 1) (drop (n + 1) all) ≡ whole
method_step owner methods all n one place found old new whole h is at get before step =
    let here : place ≡ header_place (get_or all n one).header = at ∙ ap (λ (m : written.Method). header_place m.header) is in
    method_more owner methods all n one old new whole h before
    (step ∙ ap (λ (p : Place). old ++ of_method owner p found) here
    ∙ ap (λ (f : Option Method). old ++ of_method owner (header_place (get_or all n one).header) f) get)
