-- The interfaces that sources show, each over those of the units that its interface part uses.
use Rattle.std.specs.Prelude.{◌≡◌, ◌⊎◌, ℕ, zero, suc, ◌<◌, Bool, true, false, not, ◌&&◌, ◌||◌, nat_eq, List, Some, Contains, length, slice_get}
use Rattle.std.specs.List.{All, list_any}
use Rattle.type_layout.specs.Words.{same_bytes}
use Rattle.tp_lexer.specs.declared.token.Text.{Text}
use Rattle.source_graph.specs.declared.sources.Source.{Source}
use Rattle.typing_rules.specs.declared.faults.CheckError.{CheckError}
use Rattle.typing_rules.specs.Faults.{Tells}
use Rattle.unit_interface.specs.declared.interfaces.Interface.{Interface}
use Rattle.unit_interface.specs.Uses.{interface_edges}
use Rattle.unit_interface.specs.Circles.{next, IsOnCircle}
use Rattle.source_graph.specs.source_order.Orders.{all_uses}
use Rattle.tp_check_decl.specs.Shown.{IsShownAs, FailsInInterface}
use Rattle.front_end.specs.declared.outcomes.outcome.Outcome.{Outcome}
use Rattle.front_end.specs.refusals.Outcomes.{check_outcome}
use Rattle.front_end.specs.source_interfaces.Scopes.{outer_units, outer_scope, is_shown, AreThere, AreFitting, KnowsNothing}

-- An interface is what a source shows, over these interfaces, among which are those that its interface part uses.
pub record IsShownIn (sources : List Source) (have : List Interface) (interface : Interface) : Type 0 where
  pub source : Source
  pub one : Contains sources source
  pub named : interface.name ≡ source.name
  pub there : AreThere have (outer_units source)
  pub fits : AreFitting have source.name (outer_units source)
  pub shows : IsShownAs source.name source.says (outer_scope have source) source.tree interface

abbrev pub AreShown : List Source → List Interface → Type 0
AreShown sources have = All (IsShownIn sources have) have

-- the source at a place has its interface among these
abbrev pub IsDone : List Source → List Interface → ℕ → Type 0
IsDone sources have place = (source : Source) → slice_get sources place ≡ Some source → is_shown have source.name ≡ true

-- These are the interfaces of all sources.
pub record AreInterfaces (sources : List Source) (have : List Interface) : Type 0 where
  pub shown : AreShown sources have
  pub all : (place : ℕ) → IsDone sources have place

-- no source lies on a circle of uses in interface parts
abbrev pub IsAcyclic : List Source → Type 0
IsAcyclic sources = (place : ℕ) → IsOnCircle (interface_edges (all_uses sources)) place → ⊥

-- ---- what a source waits for

abbrev pub is_source : List Source → List ℕ → Bool
is_source sources name = list_any (λ source. same_bytes name source.name) sources

-- a unit of this name has no interface yet
abbrev pub lacks : List Source → List Interface → List ℕ → Bool
lacks sources have name = is_source sources name && not (is_shown have name)

-- the interface part of a source uses one that has no interface yet
abbrev pub waits : List Source → List Interface → Source → Bool
waits sources have source = list_any (λ unit. lacks sources have unit.name) (outer_units source)

-- its own interface is there, or it waits
abbrev pub is_settled : List Source → List Interface → Source → Bool
is_settled sources have source = is_shown have source.name || waits sources have source

-- ---- why a source shows nothing

-- a rule fails in its interface part
pub record FailsOutside (texts : List Text) (have : List Interface) (source : Source) (result : Outcome) : Type 0 where
  pub error : CheckError
  pub tells : Tells (FailsInInterface source.name source.says (outer_scope have source) source.tree) error
  pub is : result ≡ check_outcome texts error

abbrev pub ShowsNothing : List Text → List Interface → Source → Outcome → Type 0
ShowsNothing texts have source result = KnowsNothing texts have source.name (outer_units source) result ⊎ FailsOutside texts have source result

-- one of the sources shows nothing, over interfaces of the others, though all that it waits for is there
pub record LacksInterface (texts : List Text) (sources : List Source) (result : Outcome) : Type 0 where
  pub have : List Interface
  pub shown : AreShown sources have
  pub source : Source
  pub one : Contains sources source
  pub due : waits sources have source ≡ false
  pub cause : ShowsNothing texts have source result

-- ---- rounds: one source after another, each where it has all that it waits for

-- the interface part of the source at this place uses one that has no interface
pub record IsWaiting (sources : List Source) (have : List Interface) (place : ℕ) : Type 0 where
  pub to : ℕ
  pub source : Source
  pub used : list_any (nat_eq to) (next (interface_edges (all_uses sources)) place) ≡ true
  pub stands : slice_get sources to ≡ Some source
  pub lacking : is_shown have source.name ≡ false

-- what a step does for the source at this place
abbrev pub IsStep : List Source → List Interface → List Interface → ℕ → Type 0
IsStep sources old new place = IsDone sources new place ⊎ IsWaiting sources old place

-- nothing is taken away
abbrev pub IsGrown : List Interface → List Interface → Type 0
IsGrown old new = (name : List ℕ) → is_shown old name ≡ true → is_shown new name ≡ true

-- so many uses in interface parts stand behind one another from this place on
abbrev pub IsDeep : List (List ℕ) → ℕ → ℕ → Type 0
IsDeep edges zero place = Unit {0}
IsDeep edges (suc steps) place = (to : ℕ) × (list_any (nat_eq to) (next edges place) ≡ true) × (to < length edges) × IsDeep edges steps to

abbrev pub IsDoneOrDeep : List Source → List Interface → ℕ → ℕ → Type 0
IsDoneOrDeep sources have round place = IsDone sources have place ⊎ IsDeep (interface_edges (all_uses sources)) round place
