-- In a source that is typed no unit is used twice.
use Rattle.std.proofs.Common.{◌≡◌, ℕ, zero, suc, true, false, List, [], ◌∷◌, ◌++◌, take, Some, sym, ap, subst, refl, append_assoc, append-nil}
use Rattle.std.specs.Prelude.{slice_get}
use Rattle.front_end.specs.syntax_tree.declared.identifier.Identifier.{Identifier}
use Rattle.front_end.specs.tp_lexer.declared.source_directives.collected.Directives.{Directives}
use Rattle.front_end.specs.syntax_tree.declared.source_tree.source.Tree.{Tree}
use Rattle.front_end.specs.syntax_tree.declared.source_tree.source.Tree.TheVariants as t
use Rattle.front_end.specs.syntax_tree.source_tree.Sources.{used}
use Rattle.front_end.specs.scopes.Environment.{Environment}
use Rattle.front_end.specs.typing_rules.declared.faults.Fault.{Fault}
use Rattle.front_end.specs.typing_rules.Judgements.{Judgement}
use Rattle.front_end.specs.unit_interface.declared.interfaces.Interface.{Interface}
use Rattle.front_end.specs.unit_interface.Resolve.{is_repeated}
use Rattle.front_end.specs.source_graph.source_order.Orders.{names_of}
use Rattle.front_end.specs.tp_check_decl.Units.{Whole}
use Rattle.front_end.specs.tp_check_decl.Fronts.{uses_onto, front_judged}
use Rattle.front_end.specs.tp_check_decl.Interfaces.{unit_front}
use Rattle.front_end.specs.tp_check_decl.Shown.{outlined}
use Rattle.front_end.specs.tp_check_decl.Checked.{judged}
use Rattle.front_end.specs.source_interfaces.Scopes.{AreOnce, IsRepeatedUse}
use Rattle.front_end.proofs.source_interfaces.Uses.{some_is, contrary, name_at}

uses_once : (before : List (List ℕ)) (all : List Identifier) (names : List (List ℕ)) → (uses_onto before all).holds names → (place : ℕ) (name : List ℕ) → slice_get (names_of all) place ≡ Some name
    → is_repeated (before ++ take place (names_of all)) name ≡ false
uses_once before [] names holds place name at = absurd (cc)
uses_once before (one ∷ rest) names holds zero name at =
    subst (λ (xs : List (List ℕ)). is_repeated xs name ≡ false) (sym (append-nil before)) (subst (λ (n : List ℕ). is_repeated before n ≡ false) (some_is one.name name at) holds.holds.asked)
uses_once before (one ∷ rest) names holds (suc place) name at =
    subst (λ (xs : List (List ℕ)). is_repeated xs name ≡ false) (append_assoc before (one.name ∷ []) (take place (names_of rest)))
    (uses_once (before ++ one.name ∷ []) rest names holds.made place name at)

-- something that a judgement says of a construct
record IsHeld {C : Type 0} (j : Judgement C) : Type 0 where
  pub node : C
  pub holds : j.holds node

front_once : (says : Directives) (all : List Identifier) → IsHeld (front_judged says all) → AreOnce (names_of all)
unfolding front_judged
front_once says all held name d = contrary (is_repeated (take d.place (names_of all)) name) d.repeated (uses_once [] all held.holds.part held.holds.holds d.place name d.used)

unit_once : (name : List ℕ) (says : Directives) (own : Identifier) (uses : List Identifier) → IsHeld (unit_front name says own uses) → AreOnce (names_of uses)
unfolding unit_front
unit_once name says own uses held = front_once says uses (record { node = held.node; holds = held.holds.made })

pub outlined_once : (name : List ℕ) (says : Directives) (g : Environment) (tree : Tree) (unit : Whole) → (outlined name says g tree).holds unit → AreOnce (names_of (used tree))
outlined_once name says g (t.Program heading uses all body) unit holds = front_once says uses.items (record { node = holds.part; holds = holds.holds })
outlined_once name says g (t.Unit here own uses outer interface all body) unit holds = unit_once name says own uses.items (record { node = holds.part; holds = holds.holds })

pub judged_once : (name : List ℕ) (says : Directives) (g : Environment) (have : List Interface) (tree : Tree) (unit : Whole) → (judged name says g have tree).holds unit → AreOnce (names_of (used tree))
judged_once name says g have (t.Program heading uses all body) unit holds = front_once says uses.items (record { node = holds.made.part; holds = holds.made.holds })
judged_once name says g have (t.Unit here own uses outer interface all body) unit holds = unit_once name says own uses.items (record { node = holds.part; holds = holds.holds })

-- ---- the first of some uses

get_front : (xs : List (List ℕ)) (n place : ℕ) (x : List ℕ) → slice_get (take n xs) place ≡ Some x → (slice_get xs place ≡ Some x) × (take place (take n xs) ≡ take place xs)
get_front [] zero place x at = absurd (cc)
get_front [] (suc n) place x at = absurd (cc)
get_front (y ∷ xs) zero place x at = absurd (cc)
get_front (y ∷ xs) (suc n) zero x at = (at, refl)
get_front (y ∷ xs) (suc n) (suc place) x at = let rest = get_front xs n place x at in (rest.0, ap (λ (zs : List (List ℕ)). y ∷ zs) rest.1)

names_front : (n : ℕ) (uses : List Identifier) → names_of (take n uses) ≡ take n (names_of uses)
names_front zero [] = refl
names_front zero (one ∷ uses) = refl
names_front (suc n) [] = refl
names_front (suc n) (one ∷ uses) = ap (λ (rest : List (List ℕ)). one.name ∷ rest) (names_front n uses)

front_of : (names : List (List ℕ)) (n : ℕ) → AreOnce names → AreOnce (take n names)
front_of names n once name d =
    let there = get_front names n d.place name d.used in
    once name (record { place = d.place; used = there.0; repeated = subst (λ (xs : List (List ℕ)). is_repeated xs name ≡ true) there.1 d.repeated })

pub outer_once : (n : ℕ) (uses : List Identifier) → AreOnce (names_of uses) → AreOnce (names_of (take n uses))
outer_once n uses once = subst AreOnce (sym (names_front n uses)) (front_of (names_of uses) n once)

pub outer_get : (n : ℕ) (uses : List Identifier) (place : ℕ) (name : List ℕ) → slice_get (names_of (take n uses)) place ≡ Some name → slice_get (names_of uses) place ≡ Some name
outer_get n uses place name at = (get_front (names_of uses) n place name (subst (λ (xs : List (List ℕ)). slice_get xs place ≡ Some name) (names_front n uses) at)).0

pub twice_not : (uses : List Identifier) (fault : Fault) → AreOnce (names_of uses) → IsRepeatedUse uses fault → ⊥
twice_not uses fault once r = once r.unit.name (record { place = r.place; used = name_at (names_of uses) uses r.place r.unit refl r.stands; repeated = r.repeated })
