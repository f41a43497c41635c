-- The search of a table for a method, type by type.
use Rattle.std.proofs.Common.{◌≡◌, ℕ, zero, suc, ◌+◌, ◌≤◌, List, [], ◌∷◌, Option, Some, None, drop, length, refl, ap, ◌∙◌, arith}
use Rattle.std.specs.Prelude.{slice_get}
use Rattle.std.proofs.lemmas.List.{drop_all}
use Rattle.type_layout.specs.declared.definitions.Kind.{Kind}
use Rattle.type_layout.specs.declared.definitions.TypeDef.{TypeDef}
use Rattle.lower_places.specs.Kinds.{methods_of, kind_among, first_kind, kind_from}

-- what is left of the search behind the first types
abbrev pub searched : List (List ℕ) → List ℕ → ℕ → List TypeDef → ℕ → Option Kind
searched units name number types k = kind_from units name number (drop k types)

pub kind_begins : (units : List (List ℕ)) (name : List ℕ) (number : ℕ) (types : List TypeDef) → kind_from units name number types ≡ searched units name number types 0
kind_begins units name number types = refl

turned : (units : List (List ℕ)) (name : List ℕ) (number : ℕ) (types : List TypeDef) (k : ℕ) (one : TypeDef) → slice_get types k ≡ Some one
    → kind_from units name number (drop k types) ≡ first_kind (kind_among units name number (methods_of one)) (kind_from units name number (drop (suc k) types))
turned units name number [] k one e = absurd cc
turned units name number (x ∷ types) zero one e =
    let same : x ≡ one = cc in
    ap (λ (t : TypeDef). first_kind (kind_among units name number (methods_of t)) (kind_from units name number types)) same
turned units name number (x ∷ types) (suc k) one e = turned units name number types k one e

pub kind_turns : (units : List (List ℕ)) (name : List ℕ) (number : ℕ) (types : List TypeDef) (k : ℕ) (one : TypeDef) (found : Option Kind) → slice_get types k ≡ Some one
    → found ≡ kind_among units name number (methods_of one) → searched units name number types k ≡ first_kind found (searched units name number types (k + 1))
kind_turns units name number types k one found e f =
    let next : suc k ≡ k + 1 = omega arith in
    turned units name number types k one e
    ∙ ap (λ n. first_kind (kind_among units name number (methods_of one)) (kind_from units name number (drop n types))) next
    ∙ ap (λ (o : Option Kind). first_kind o (searched units name number types (k + 1))) (Rattle.std.proofs.Common.sym f)

pub kind_ends : (units : List (List ℕ)) (name : List ℕ) (number : ℕ) (types : List TypeDef) (k : ℕ) → length types ≤ k → searched units name number types k ≡ None
kind_ends units name number types k h = ap (kind_from units name number) (drop_all k types h)
