-- OVERLAY as a used unit.
use Rattle.std.proofs.Common.{◌≡◌, ◌∙◌, ap, ℕ, List, []}
use Rattle.type_layout.specs.Table.{place_of, with_unit}
use Rattle.typed_tree.specs.declared.units.Item.{Item}
use Rattle.scopes.specs.Symbols.{SymbolList}
use Rattle.scopes.specs.Environment.{Environment, with_used}
use Rattle.unit_interface.specs.Merge.{with_items}
use Rattle.unit_interface.specs.Resolve.{overlay, overlay_items, with_overlay}

pub overlaid : (env used new : Environment) (items : List Item) (name : List ℕ) (unit : ℕ) (symbols : SymbolList)
    → name ≡ overlay → items ≡ overlay_items → unit ≡ place_of env.units name → used ≡ record env { units = with_unit env.units name }
    → symbols ≡ with_items [] unit [] items → new ≡ with_used used symbols → new ≡ with_overlay env
overlaid env used new items name unit symbols is_name are_items is_unit is_used are_symbols step =
    step ∙ ap (λ (e : Environment). with_used e symbols) is_used
    ∙ ap (λ (s : SymbolList). with_used (record env { units = with_unit env.units name }) s) are_symbols
    ∙ ap (λ (u : ℕ). with_used (record env { units = with_unit env.units name }) (with_items [] u [] items)) is_unit
    ∙ ap (λ (l : List Item). with_used (record env { units = with_unit env.units name }) (with_items [] (place_of env.units name) [] l)) are_items
    ∙ ap (λ (n : List ℕ). with_used (record env { units = with_unit env.units n }) (with_items [] (place_of env.units n) [] overlay_items)) is_name
