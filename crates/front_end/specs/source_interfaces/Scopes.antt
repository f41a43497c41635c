-- What a source uses, and what is known to it by the interfaces of the units that it uses.
use Rattle.std.specs.Prelude.{◌≡◌, ◌⊎◌, ℕ, Bool, true, List, Some, take, slice_get}
use Rattle.std.specs.List.{list_any}
use Rattle.type_layout.specs.Words.{same_bytes}
use Rattle.tp_lexer.specs.declared.token.Text.{Text}
use Rattle.syntax_tree.specs.declared.identifier.Identifier.{Identifier}
use Rattle.syntax_tree.specs.source_tree.Sources.{used, used_in_interface}
use Rattle.source_graph.specs.declared.sources.Source.{Source}
use Rattle.source_graph.specs.Files.{source_file}
use Rattle.scopes.specs.Environment.{Environment}
use Rattle.scopes.specs.Predeclared.{first}
use Rattle.typing_rules.specs.declared.faults.Fault.{Fault}
use Rattle.typing_rules.specs.declared.faults.Rule.TheVariants as rules
use Rattle.typing_rules.specs.Faults.{broken, error_of}
use Rattle.unit_interface.specs.declared.interfaces.Interface.{Interface}
use Rattle.unit_interface.specs.Resolve.{resolved, is_repeated, IsDuplicate, IsMissing, IsMismatched}
use Rattle.unit_interface.specs.Fitting.{uses_fit}
use Rattle.source_graph.specs.source_order.Orders.{names_of}
use Rattle.front_end.specs.declared.outcomes.outcome.Outcome.{Outcome}
use Rattle.front_end.specs.declared.outcomes.outcome.Outcome.TheVariants as outcome
use Rattle.front_end.specs.declared.outcomes.refusal.Refusal.TheVariants as refusal
use Rattle.front_end.specs.refusals.Outcomes.{check_outcome}

-- the units that the interface part of a source uses; in a program these are all
abbrev pub outer_units : Source → List Identifier
outer_units source = take (used_in_interface source.tree) (used source.tree)

-- what is known to a source with this name that uses these units
abbrev pub known : List Interface → List ℕ → List Identifier → Environment
known have name uses = resolved have name (names_of uses)

-- what is known to the interface part of a source
abbrev pub outer_scope : List Interface → Source → Environment
outer_scope have source = known have source.name (outer_units source)

-- an interface of this name is among these
abbrev pub is_shown : List Interface → List ℕ → Bool
is_shown have name = list_any (λ interface. same_bytes name interface.name) have

-- each unit that is used has its interface there, or is always there
abbrev pub AreThere : List Interface → List Identifier → Type 0
AreThere have uses = (name : List ℕ) → IsMissing have (names_of uses) name → ⊥

-- The types that the used units show fit one another, each unit's those of the units before it.
abbrev pub AreFitting : List Interface → List ℕ → List Identifier → Type 0
AreFitting have name uses = uses_fit have (first name) (names_of uses) ≡ true

-- ---- why nothing is known

-- a unit is used that stands before in the clauses, or that is SYSTEM
pub record IsRepeatedUse (uses : List Identifier) (fault : Fault) : Type 0 where
  pub place : ℕ
  pub unit : Identifier
  pub stands : slice_get uses place ≡ Some unit
  pub repeated : is_repeated (take place (names_of uses)) unit.name ≡ true
  pub told : fault ≡ broken unit.position.place rules.UnitUsed

pub record UsesTwice (texts : List Text) (uses : List Identifier) (result : Outcome) : Type 0 where
  pub fault : Fault
  pub repeated : IsRepeatedUse uses fault
  pub is : result ≡ check_outcome texts (error_of fault)

-- no unit is used twice, and none is SYSTEM
abbrev pub AreOnce : List (List ℕ) → Type 0
AreOnce uses = (unit : List ℕ) → IsDuplicate uses unit → ⊥

-- None is used twice, but one has no interface, so its source is missing; or its interface does not fit those of the units before it.
abbrev pub IsUnresolved : List Interface → List ℕ → List (List ℕ) → Outcome → Type 0
IsUnresolved have name uses (outcome.Refused (refusal.MissingFile file)) = AreOnce uses × (unit : List ℕ) × IsMissing have uses unit × (file ≡ source_file unit)
IsUnresolved have name uses (outcome.Refused (refusal.VersionMismatch unit import)) = AreOnce uses × (unit ≡ name) × IsMismatched have name uses import
IsUnresolved have name uses outcome.NoMemory = Unit {0}
IsUnresolved have name uses other = ⊥

abbrev pub KnowsNothing : List Text → List Interface → List ℕ → List Identifier → Outcome → Type 0
KnowsNothing texts have name uses result = UsesTwice texts uses result ⊎ IsUnresolved have name (names_of uses) result
