-- What is known by some interfaces is known as well by more of them.
use Rattle.std.proofs.Common.{◌≡◌, ℕ, suc, Bool, true, false, ◌||◌, ◌&&◌, cond, List, [], ◌∷◌, ◌++◌, Option, Some, None, length, get_or, ◌<◌, refl, sym, ap, ◌∙◌, subst}
use Rattle.std.specs.Prelude.{is_some}
use Rattle.std.specs.List.{list_any}
use Rattle.std.proofs.lemmas.List.Elements.{All-push, All-weaker}
use Rattle.std.proofs.lemmas.List.Folds.{list_any-append}
use Rattle.type_layout.specs.Words.{same_bytes}
use Rattle.syntax_tree.specs.declared.identifier.Identifier.{Identifier}
use Rattle.source_graph.specs.declared.sources.Source.{Source}
use Rattle.scopes.specs.Environment.{Environment}
use Rattle.scopes.specs.Predeclared.{first}
use Rattle.unit_interface.specs.declared.interfaces.Interface.{Interface}
use Rattle.unit_interface.specs.Resolve.{is_overlay, chosen, interface_named, with_overlay, with_found, with_use, with_uses, is_there, IsMissing}
use Rattle.unit_interface.specs.Fitting.{found_fits, use_fits, uses_fit}
use Rattle.source_graph.specs.source_order.Orders.{names_of}
use Rattle.tp_check_decl.specs.Shown.{IsShownAs}
use Rattle.front_end.specs.source_interfaces.Scopes.{outer_units, known, outer_scope, is_shown, AreThere, AreFitting}
use Rattle.front_end.specs.source_interfaces.Interfaces.{IsShownIn, AreShown}
use Rattle.front_end.proofs.source_interfaces.Uses.{contrary}

chosen_more : (b : Bool) (i : Interface) (a c : Option Interface) → is_some (chosen b i a) ≡ true → (is_some a ≡ true → c ≡ a) → chosen b i c ≡ chosen b i a
chosen_more true i a c some more = refl
chosen_more false i a c some more = more some

pub found_more : (have more : List Interface) (name : List ℕ) → is_some (interface_named have name) ≡ true → interface_named (have ++ more) name ≡ interface_named have name
found_more [] more name some = absurd (cc)
found_more (i ∷ have) more name some =
    chosen_more (same_bytes name i.name) i (interface_named have name) (interface_named (have ++ more) name) some (λ rest. found_more have more name rest)

use_by : (o : Bool) (x g : Environment) (a c : Option Interface) → (o || is_some a) ≡ true → (is_some a ≡ true → c ≡ a) → cond o x (with_found g a) ≡ cond o x (with_found g c)
use_by true x g a c there more = refl
use_by false x g a c there more = ap (with_found g) (sym (more there))

use_more : (have more : List Interface) (g : Environment) (name : List ℕ) → is_there have name ≡ true → with_use have g name ≡ with_use (have ++ more) g name
use_more have more g name there =
    use_by (is_overlay name) (with_overlay g) g (interface_named have name) (interface_named (have ++ more) name) there (λ some. found_more have more name some)

there_by : (b : Bool) → (b ≡ false → ⊥) → b ≡ true
there_by true none = refl
there_by false none = absurd (none refl)

pub uses_more : (have more : List Interface) (g : Environment) (names : List (List ℕ)) → ((name : List ℕ) → IsMissing have names name → ⊥) → with_uses have g names ≡ with_uses (have ++ more) g names
uses_more have more g [] none = refl
uses_more have more g (n ∷ names) none =
    let there = there_by (is_there have n) (λ absent. none n (record { place = 0; used = refl; absent = absent })) in
    let rest = uses_more have more (with_use (have ++ more) g n) names (λ name m. none name (record { place = suc m.place; used = m.used; absent = m.absent })) in
    ap (λ (e : Environment). with_uses have e names) (use_more have more g n there) ∙ rest

pub known_more : (have more : List Interface) (name : List ℕ) (uses : List Identifier) → AreThere have uses → known have name uses ≡ known (have ++ more) name uses
known_more have more name uses there = uses_more have more (first name) (names_of uses) there

fit_by : (o : Bool) (g : Environment) (a c : Option Interface) → (o || is_some a) ≡ true → (is_some a ≡ true → c ≡ a) → (o || found_fits g a) ≡ (o || found_fits g c)
fit_by true g a c there more = refl
fit_by false g a c there more = ap (found_fits g) (sym (more there))

fit_more : (have more : List Interface) (g : Environment) (names : List (List ℕ)) → ((name : List ℕ) → IsMissing have names name → ⊥) → uses_fit have g names ≡ uses_fit (have ++ more) g names
fit_more have more g [] none = refl
fit_more have more g (n ∷ names) none =
    let there = there_by (is_there have n) (λ absent. none n (record { place = 0; used = refl; absent = absent })) in
    let here = fit_by (is_overlay n) g (interface_named have n) (interface_named (have ++ more) n) there (λ some. found_more have more n some) in
    let rest = fit_more have more (with_use (have ++ more) g n) names (λ name m. none name (record { place = suc m.place; used = m.used; absent = m.absent })) in
    ap (λ (b : Bool). b && uses_fit have (with_use have g n) names) here
    ∙ ap (λ (e : Environment). use_fits (have ++ more) g n && uses_fit have e names) (use_more have more g n there)
    ∙ ap (λ (b : Bool). use_fits (have ++ more) g n && b) rest

is_there_by : (o : Bool) (a c : Option Interface) → (o || is_some c) ≡ false → (is_some a ≡ true → c ≡ a) → (o || is_some a) ≡ false
is_there_by true a c absent more = absent
is_there_by false None c absent more = refl
is_there_by false (Some i) c absent more =
    let same : c ≡ Some i = more refl in
    let some : is_some c ≡ true = ap is_some same in
    contrary (is_some c) some absent

pub there_more : (have more : List Interface) (uses : List Identifier) → AreThere have uses → AreThere (have ++ more) uses
there_more have more uses there name m =
    there name (record {
      place = m.place;
      used = m.used;
      absent = is_there_by (is_overlay name) (interface_named have name) (interface_named (have ++ more) name) m.absent (λ some. found_more have more name some);
    })

shown_more : (sources : List Source) (have more : List Interface) (interface : Interface) → IsShownIn sources have interface → IsShownIn sources (have ++ more) interface
shown_more sources have more interface s = record {
  source = s.source;
  one = s.one;
  named = s.named;
  there = there_more have more (outer_units s.source) s.there;
  fits = sym (fit_more have more (first s.source.name) (names_of (outer_units s.source)) s.there) ∙ s.fits;
  shows = subst (λ (g : Environment). IsShownAs s.source.name s.source.says g s.source.tree interface) (known_more have more s.source.name (outer_units s.source) s.there) s.shows;
}

-- one interface more
pub add_shown : (sources : List Source) (have new : List Interface) (place : ℕ) (source : Source) (interface : Interface) → new ≡ have ++ interface ∷ [] → AreShown sources have → place < length sources → source ≡ get_or sources place source
    → interface.name ≡ source.name → AreThere have (outer_units source) → AreFitting have source.name (outer_units source) → IsShownAs source.name source.says (outer_scope have source) source.tree interface → AreShown sources new
add_shown sources have new place source interface is all below at named there fits shows =
    let more = interface ∷ [] in
    let itself : IsShownIn sources have interface = record { source = source; one = (place, below, sym at); named = named; there = there; fits = fits; shows = shows } in
    subst (AreShown sources) (sym is) (All-push (IsShownIn sources (have ++ more)) have interface
    (All-weaker (IsShownIn sources have) (IsShownIn sources (have ++ more)) (λ i s. shown_more sources have more i s) have all)
    (shown_more sources have more interface itself))

or_first : (a b : Bool) → a ≡ true → (a || b) ≡ true
or_first true b is = refl
or_first false b is = absurd (cc)

or_second : (a b : Bool) → b ≡ true → (a || b) ≡ true
or_second true b is = refl
or_second false b is = is

pub added : (have : List Interface) (interface : Interface) (name : List ℕ) → same_bytes name interface.name ≡ true → is_shown (have ++ interface ∷ []) name ≡ true
added have interface name named =
    let same = λ (i : Interface). same_bytes name i.name in
    list_any-append same have (interface ∷ []) ∙ or_second (list_any same have) (list_any same (interface ∷ [])) (or_first (same interface) false named)
