-- A unit shows what its interface part shows.
use Rattle.std.specs.Prelude.{◌≡◌, ◌↔◌, ◌<◌, ℕ, true, All, List, [], drop, map, length, slice_get}
use Rattle.front_end.specs.type_layout.declared.definitions.TypeDef.{TypeDef}
use Rattle.front_end.specs.syntax_tree.declared.source_tree.source.Tree.{Tree}
use Rattle.front_end.specs.syntax_tree.declared.source_tree.source.Tree.TheVariants as t
use Rattle.front_end.specs.tp_lexer.declared.source_directives.collected.Directives.{Directives}
use Rattle.front_end.specs.typed_tree.declared.units.Item.{Item}
use Rattle.front_end.specs.type_layout.Table.{Table}
use Rattle.front_end.specs.type_layout.declared.definitions.Origin.{Origin}
use Rattle.front_end.specs.scopes.Environment.{Environment}
use Rattle.front_end.specs.unit_interface.declared.interfaces.Interface.{Interface}
use Rattle.front_end.specs.unit_interface.Exports.{in_items, with_type, is_in}
use Rattle.front_end.specs.unit_interface.Resolve.{with_uses}
use Rattle.front_end.specs.tp_check_decl.Units.{Whole}
use Rattle.front_end.specs.tp_check_decl.Shown.{outlined, Shows}
use Rattle.front_end.specs.tp_check_decl.Checked.{judged}

-- beside each type of a table stands its origin, in a unit of the table
pub record IsPaired (table : Table) : Type 0 where
  pub paired : length table.origins ≡ length table.types
  pub known : All (λ (origin : Origin). origin.unit < length table.units) table.origins

-- Each type that items name, and each that goes with a type of a table, is one of the table.
pub record IsWellScoped (types : List TypeDef) (items : List Item) : Type 0 where
  pub named : (number : ℕ) → is_in (in_items items) number ≡ true → number < length types
  pub beside : (by number : ℕ) → is_in (with_type by (slice_get types by)) number ≡ true → number < length types

-- The source has an interface part. Where the types behind that name types of the table alone, the unit shows what the interface
-- part shows, and nothing else.
pub record IsShownBy (name : List ℕ) (says : Directives) (g : Environment) (tree : Tree) (unit : Whole) : Type 0 where
  pub outline : Whole
  pub holds : (outlined name says g tree).holds outline
  pub same : IsWellScoped outline.types.types outline.items → (interface : Interface) → Shows unit interface ↔ Shows outline interface

-- so it is for every unit of a source
abbrev pub Agree : Type 0
Agree = (name : List ℕ) (says : Directives) (g : Environment) (have : List Interface) (tree : Tree) (unit : Whole) → IsPaired g.types → (judged name says g have tree).holds unit
    → IsShownBy name says g tree unit

-- the units that the implementation part of a source uses
abbrev pub further_units : Tree → List (List ℕ)
further_units (t.Program heading uses all body) = []
further_units (t.Unit here own uses outer interface all body) = map (λ one. one.name) (drop outer uses.items)

-- The names of a unit are those of the scope that it was checked over, and behind them those that its further used units bring along.
abbrev pub KeepNames : Type 0
KeepNames = (name : List ℕ) (says : Directives) (g : Environment) (have : List Interface) (tree : Tree) (unit : Whole) → (judged name says g have tree).holds unit
    → unit.names ≡ (with_uses have g (further_units tree)).units
