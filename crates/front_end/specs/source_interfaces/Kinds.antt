-- Which sources are programs and which are units.
use Rattle.std.specs.Prelude.{◌≡◌, ℕ, Bool, true, false, not, ◌&&◌, ◌||◌, cond, codes, nat_eq, List, Some, unwrap_or, slice_get}
use Rattle.std.specs.List.{list_any}
use Rattle.type_layout.specs.declared.texts.Place.{Place}
use Rattle.type_layout.specs.Words.{same_bytes}
use Rattle.syntax_tree.specs.declared.source_tree.source.Tree.{Tree}
use Rattle.syntax_tree.specs.declared.source_tree.source.Tree.TheVariants as t
use Rattle.syntax_tree.specs.source_tree.Sources.{used}
use Rattle.source_graph.specs.declared.sources.Source.{Source}
use Rattle.typing_rules.specs.declared.faults.Fault.{Fault}
use Rattle.typing_rules.specs.declared.faults.Rule.TheVariants as rules
use Rattle.typing_rules.specs.Faults.{broken}

abbrev pub is_program : Tree → Bool
is_program (t.Program heading uses all body) = true
is_program (t.Unit here name uses outer interface all body) = false

-- where a source begins, behind the directives in front of it; at the front of its text where it has no token
abbrev pub beginning : Source → Place
beginning source = unwrap_or source.says.first (record { text = source.text; line = 1; column = 1 })

-- a source uses a unit of this name
abbrev pub uses_named : List ℕ → Source → Bool
uses_named name source = list_any (λ unit. same_bytes name unit.name) (used source.tree)

abbrev pub is_used : List Source → List ℕ → Bool
is_used sources name = list_any (uses_named name) sources

-- the names of the units that are always there
abbrev pub is_reserved : List ℕ → Bool
is_reserved name = same_bytes name (codes "OVERLAY") || same_bytes name (codes "SYSTEM")

-- The source that comes first is a program and is used by none, and every other is a unit. None has the name of a unit that is always
-- there.
abbrev pub is_of_kind : List Source → ℕ → Source → Bool
is_of_kind sources place source =
    not (is_reserved source.name) && cond (nat_eq place 0) (is_program source.tree && not (is_used sources source.name)) (not (is_program source.tree))

abbrev pub AreOfKinds : List Source → Type 0
AreOfKinds sources = (place : ℕ) (source : Source) → slice_get sources place ≡ Some source → is_of_kind sources place source ≡ true

-- a source of the wrong kind is told of where it begins
pub record IsOfWrongKind (sources : List Source) (fault : Fault) : Type 0 where
  pub place : ℕ
  pub source : Source
  pub stands : slice_get sources place ≡ Some source
  pub wrong : is_of_kind sources place source ≡ false
  pub told : fault ≡ broken (beginning source) rules.SourceName
