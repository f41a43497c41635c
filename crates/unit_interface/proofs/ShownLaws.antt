-- There is one interface: what is shown depends on which types are reached alone.
use Rattle.std.proofs.Common.{◌≡◌, ℕ, zero, suc, ◌+◌, ◌<◌, Bool, true, false, cond, List, [], ◌∷◌, ◌++◌, length, map, refl, arith, sym, ap, ◌∙◌}
use Rattle.type_layout.specs.declared.definitions.TypeId.{TypeId}
use Rattle.type_layout.specs.Table.{Table}
use Rattle.typed_tree.specs.declared.units.Unit.{Unit}
use Rattle.typed_tree.specs.declared.units.Item.{Item}
use Rattle.unit_interface.specs.declared.interfaces.Interface.{Interface}
use Rattle.unit_interface.specs.Exports.{is_in, kept_before, new_ids, with_kept, kept, renumbered_item, shown, IsInterfaceOf}

-- two lists have the same numbers below a count
abbrev AreAlike : List ℕ → List ℕ → ℕ → Type 0
AreAlike one other count = (number : ℕ) → number < count → is_in one number ≡ is_in other number

fewer : (one other : List ℕ) (count : ℕ) → AreAlike one other (suc count) → AreAlike one other count
fewer one other count alike number below = alike number (omega (arith, below))

kept_before-alike : (one other : List ℕ) (count : ℕ) → AreAlike one other count → kept_before one count ≡ kept_before other count
kept_before-alike one other zero alike = refl
kept_before-alike one other (suc count) alike =
    ap (λ (n : ℕ). n + cond (is_in one count) 1 0) (kept_before-alike one other count (fewer one other count alike))
    ∙ ap (λ (b : Bool). kept_before other count + cond b 1 0) (alike count (omega arith))

new_ids-alike : (one other : List ℕ) (count : ℕ) → AreAlike one other count → new_ids one count ≡ new_ids other count
new_ids-alike one other zero alike = refl
new_ids-alike one other (suc count) alike =
    ap (λ (ids : List TypeId). ids ++ (record { 0 = kept_before one count }) ∷ []) (new_ids-alike one other count (fewer one other count alike))
    ∙ ap (λ (n : ℕ). new_ids other count ++ (record { 0 = n }) ∷ []) (kept_before-alike one other count (fewer one other count alike))

kept-alike : (own : Table) (ids : List TypeId) (one other : List ℕ) (count : ℕ) → AreAlike one other count → kept own one ids count ≡ kept own other ids count
kept-alike own ids one other zero alike = refl
kept-alike own ids one other (suc count) alike =
    ap (λ (t : Table). cond (is_in one count) (with_kept own ids t count) t) (kept-alike own ids one other count (fewer one other count alike))
    ∙ ap (λ (b : Bool). cond b (with_kept own ids (kept own other ids count) count) (kept own other ids count)) (alike count (omega arith))

-- what is shown with these new ids
abbrev shown_by : Unit → List ℕ → List TypeId → Interface
shown_by unit reached ids = record {
  name = unit.name;
  types = kept unit.types reached ids (length unit.types.types);
  items = map (renumbered_item ids) unit.items;
}

shown-alike : (unit : Unit) (one other : List ℕ) → AreAlike one other (length unit.types.types) → shown unit one ≡ shown unit other
shown-alike unit one other alike =
    let count : ℕ = length unit.types.types in
    ap (shown_by unit one) (new_ids-alike one other count alike)
    ∙ ap (λ (t : Table). (let i : Interface = record { name = unit.name; types = t; items = map (renumbered_item (new_ids other count)) unit.items } in i))
    (kept-alike unit.types (new_ids other count) one other count alike)

same_answer : (a b : Bool) → (a ≡ true → b ≡ true) → (b ≡ true → a ≡ true) → a ≡ b
same_answer true true there back = refl
same_answer true false there back = sym (there refl)
same_answer false true there back = back refl
same_answer false false there back = refl

pub one_interface : (unit : Unit) (first second : Interface) → IsInterfaceOf unit first → IsInterfaceOf unit second → first ≡ second
one_interface unit first second a b =
    a.is ∙ shown-alike unit a.reached b.reached
    (λ number below.
    let one = a.exactly number below in
    let other = b.exactly number below in
    same_answer (is_in a.reached number) (is_in b.reached number) (λ met. other.1 (one.0 met)) (λ met. one.1 (other.0 met)))
    ∙ sym b.is

-- an interface of these parts is what is shown
pub shown_is : (unit : Unit) (numbers : List ℕ) (name : List ℕ) (types : Table) (items : List Item) (ids : List TypeId) → name ≡ unit.name
    → types ≡ kept unit.types numbers ids (length unit.types.types) → items ≡ map (renumbered_item ids) unit.items
    → ids ≡ new_ids numbers (length unit.types.types)
    → (let i : Interface = record { name = name; types = types; items = items } in i) ≡ shown unit numbers
shown_is unit numbers name types items ids named kept_so listed numbered = rw (named, kept_so, listed, numbered) refl
