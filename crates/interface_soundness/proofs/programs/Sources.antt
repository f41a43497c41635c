-- Sources and interfaces by their names.
use Rattle.std.proofs.Common.{◌≡◌, ℕ, zero, suc, Bool, true, false, ◌||◌, List, [], ◌∷◌, ◌++◌, length, Option, Some, refl, sym, ap, ◌∙◌, subst, Contains}
use Rattle.std.specs.Prelude.{slice_get, is_some}
use Rattle.std.specs.List.{All, list_any}
use Rattle.std.proofs.lemmas.List.Elements.{All-head, All-tail}
use Rattle.std.proofs.lemmas.List.Folds.{list_any-append}
use Rattle.std.proofs.lemmas.Option.{slice_get_read}
use Rattle.std.proofs.lemmas.Slice.Eq.{bytes_eq-Decides}
use Rattle.front_end.specs.type_layout.Words.{same_bytes}
use Rattle.front_end.specs.source_graph.declared.sources.Source.{Source}
use Rattle.front_end.specs.source_graph.Whole.{AreNew}
use Rattle.front_end.specs.unit_interface.declared.interfaces.Interface.{Interface}
use Rattle.front_end.specs.unit_interface.Resolve.{interface_named, chosen}
use Rattle.front_end.specs.source_interfaces.Scopes.{is_shown}
use Rattle.front_end.specs.source_interfaces.Interfaces.{is_source}
use Rattle.front_end.proofs.source_interfaces.Uses.{some_is, contrary}

-- ---- names of sources

neither : (a b c : Bool) → c ≡ (a || b) → c ≡ false → (a ≡ false) × (b ≡ false)
neither true b c is none = contrary c is none
neither false b c is none = (refl, sym is ∙ none)

same_is : (name : List ℕ) → same_bytes name name ≡ true
same_is name = (bytes_eq-Decides name name).1 refl

pub same_name : (a b : List ℕ) → same_bytes a b ≡ true → a ≡ b
same_name a b is = (bytes_eq-Decides a b).0 is

-- no source has a name that was met
not_met : (met : List (List ℕ)) (sources : List Source) → AreNew met sources → (place : ℕ) (s : Source) → slice_get sources place ≡ Some s → list_any (same_bytes s.name) met ≡ false
not_met met [] new place s at = absurd (cc)
not_met met (one ∷ rest) new zero s at = subst (λ (x : Source). list_any (same_bytes x.name) met ≡ false) (some_is one s at) new.0
not_met met (one ∷ rest) new (suc place) s at =
    let same = same_bytes s.name in
    (neither (list_any same met) (list_any same (one.name ∷ [])) (list_any same (met ++ one.name ∷ [])) (list_any-append same met (one.name ∷ [])) (not_met (met ++ one.name ∷ []) rest new.1 place s at)).0

pub first_alone : (met : List (List ℕ)) (one : Source) (rest : List Source) → AreNew (met ++ one.name ∷ []) rest → (place : ℕ) (s : Source) → slice_get rest place ≡ Some s → s.name ≡ one.name → ⊥
first_alone met one rest new place s at named =
    let same = same_bytes s.name in
    let both = neither (list_any same met) (list_any same (one.name ∷ [])) (list_any same (met ++ one.name ∷ [])) (list_any-append same met (one.name ∷ [])) (not_met (met ++ one.name ∷ []) rest new place s at) in
    let other = neither (same one.name) false (list_any same (one.name ∷ [])) refl both.1 in
    let is : same one.name ≡ true = subst (λ (n : List ℕ). same_bytes s.name n ≡ true) named (same_is s.name) in
    contrary (same one.name) is other.0

pub one_source : (met : List (List ℕ)) (sources : List Source) → AreNew met sources → (p q : ℕ) (s t : Source) → slice_get sources p ≡ Some s → slice_get sources q ≡ Some t → s.name ≡ t.name → s ≡ t
one_source met [] new p q s t a b named = absurd (cc)
one_source met (one ∷ rest) new zero zero s t a b named = sym (some_is one s a) ∙ some_is one t b
one_source met (one ∷ rest) new zero (suc q) s t a b named = absurd (first_alone met one rest new.1 q t b (sym named ∙ ap (λ (x : Source). x.name) (sym (some_is one s a))))
one_source met (one ∷ rest) new (suc p) zero s t a b named = absurd (first_alone met one rest new.1 p s a (named ∙ ap (λ (x : Source). x.name) (sym (some_is one t b))))
one_source met (one ∷ rest) new (suc p) (suc q) s t a b named = one_source (met ++ one.name ∷ []) rest new.1 p q s t a b named

-- an element of a list by its place
pub stands : {X : Type 0} (xs : List X) (x : X) → (has : Contains xs x) → slice_get xs has.0 ≡ Some x
stands xs x has = slice_get_read xs (length xs) has.0 x refl has.1 (sym has.2)

pub is_source_at : (sources : List Source) (place : ℕ) (s : Source) (name : List ℕ) → slice_get sources place ≡ Some s → name ≡ s.name → is_source sources name ≡ true
is_source_at [] place s name at named = absurd (cc)
is_source_at (one ∷ rest) zero s name at named =
    let is : same_bytes name one.name ≡ true = subst (λ (n : List ℕ). same_bytes name n ≡ true) (named ∙ ap (λ (x : Source). x.name) (sym (some_is one s at))) (same_is name) in
    ap (λ (b : Bool). b || list_any (λ (x : Source). same_bytes name x.name) rest) is
is_source_at (one ∷ rest) (suc place) s name at named =
    second (same_bytes name one.name) (list_any (λ (x : Source). same_bytes name x.name) rest) (is_source_at rest place s name at named)
  where
    second : (a b : Bool) → b ≡ true → (a || b) ≡ true
    second true b h = refl
    second false b h = h

-- ---- interfaces by their names

pub record Named (P : Interface → Type 0) (have : List Interface) (name : List ℕ) : Type 0 where
  pub interface : Interface
  pub found : interface_named have name ≡ Some interface
  pub named : name ≡ interface.name
  pub holds : P interface

-- the first of some interfaces has the name, or a later one is the first with it
named_head : (P : Interface → Type 0) (i : Interface) (have : List Interface) (name : List ℕ) (b : Bool) → same_bytes name i.name ≡ b → P i → (is_some (interface_named have name) ≡ true → Named P have name)
    → is_some (chosen b i (interface_named have name)) ≡ true → Named P (i ∷ have) name
named_head P i have name true is here more some =
    record { interface = i; found = ap (λ (b : Bool). chosen b i (interface_named have name)) is; named = same_name name i.name is; holds = here }
named_head P i have name false other here more some =
    let n = more some in
    record { interface = n.interface; found = ap (λ (b : Bool). chosen b i (interface_named have name)) other ∙ n.found; named = n.named; holds = n.holds }

pub named_by : (P : Interface → Type 0) (have : List Interface) (name : List ℕ) → All P have → is_some (interface_named have name) ≡ true → Named P have name
named_by P [] name all some = absurd (cc)
named_by P (i ∷ have) name all some = named_head P i have name (same_bytes name i.name) refl (All-head P i have all) (λ rest. named_by P have name (All-tail P i have all) rest) some

shown_head : (b r : Bool) (i : Interface) (found : Option Interface) → (r ≡ true → is_some found ≡ true) → (b || r) ≡ true → is_some (chosen b i found) ≡ true
shown_head true r i found more shown = refl
shown_head false r i found more shown = more shown

pub shown_some : (have : List Interface) (name : List ℕ) → is_shown have name ≡ true → is_some (interface_named have name) ≡ true
shown_some [] name shown = absurd (cc)
shown_some (i ∷ have) name shown = shown_head (same_bytes name i.name) (is_shown have name) i (interface_named have name) (λ rest. shown_some have name rest) shown

some_head : (b r : Bool) (i : Interface) (found : Option Interface) → (is_some found ≡ true → r ≡ true) → is_some (chosen b i found) ≡ true → (b || r) ≡ true
some_head true r i found more some = refl
some_head false r i found more some = more some

pub some_shown : (have : List Interface) (name : List ℕ) → is_some (interface_named have name) ≡ true → is_shown have name ≡ true
some_shown [] name some = absurd (cc)
some_shown (i ∷ have) name some = some_head (same_bytes name i.name) (is_shown have name) i (interface_named have name) (λ rest. some_shown have name rest) some
