-- What sources use, as the order of initialisation asks for it.
use Rattle.std.specs.Prelude.{◌≡◌, ◌<◌, ℕ, true, nat_eq, List, length, map, take, drop}
use Rattle.std.specs.List.{list_any}
use Rattle.tp_outside.specs.Folder.{Folder}
use Rattle.tp_lexer.specs.declared.token.Text.{Text}
use Rattle.syntax_tree.specs.declared.identifier.Identifier.{Identifier}
use Rattle.syntax_tree.specs.source_tree.Sources.{used, used_in_interface}
use Rattle.source_graph.specs.declared.sources.Source.{Source}
use Rattle.source_graph.specs.Walk.{Gathers}
use Rattle.unit_interface.specs.declared.edges.UsesOf.{UsesOf}
use Rattle.unit_interface.specs.Order.{start_order}

abbrev pub names_of : List Identifier → List (List ℕ)
names_of units = map (λ unit. unit.name) units

-- the units that a source uses, by its two parts
abbrev pub uses_in : Source → UsesOf
uses_in source =
    let uses = used source.tree in
    let outer = used_in_interface source.tree in
    record { name = source.name; interface = names_of (take outer uses); implementation = names_of (drop outer uses) }

abbrev pub all_uses : List Source → List UsesOf
all_uses sources = map uses_in sources

-- Each source that the walk from a program meets stands in the order of initialisation.
abbrev pub AllInOrderLaw : Type 0
AllInOrderLaw = (held : Folder) (name : List ℕ) (texts : List Text) (sources : List Source) → Gathers held name texts sources
    → (place : ℕ) → place < length sources → list_any (nat_eq place) (start_order (all_uses sources) 0) ≡ true
