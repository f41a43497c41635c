-- What is known to a source, and what it shows, over plain variables.
use Rattle.std.proofs.Common.{◌≡◌, ℕ, ◌<◌, false, List, length, get_or, sym, subst, inl, inr}
use Rattle.tp_lexer.specs.declared.token.Text.{Text}
use Rattle.syntax_tree.specs.declared.identifier.Identifier.{Identifier}
use Rattle.source_graph.specs.declared.sources.Source.{Source}
use Rattle.unit_interface.specs.declared.interfaces.Interface.{Interface}
use Rattle.unit_interface.specs.Resolve.{IsMissing}
use Rattle.source_graph.specs.source_order.Orders.{names_of}
use Rattle.front_end.specs.declared.outcomes.outcome.Outcome.{Outcome}
use Rattle.front_end.specs.declared.outcomes.outcome.Outcome.TheVariants as outcome
use Rattle.front_end.specs.source_interfaces.Scopes.{outer_units, is_shown, AreThere, AreFitting, KnowsNothing}
use Rattle.front_end.specs.source_interfaces.Interfaces.{AreShown, waits, is_settled, ShowsNothing, LacksInterface}
use Rattle.front_end.proofs.source_interfaces.Rounds.{due}

-- ---- what is known

pub there_by : (have : List Interface) (names : List (List ℕ)) (uses : List Identifier) → names ≡ names_of uses → ((used : List ℕ) → IsMissing have names used → ⊥) → AreThere have uses
there_by have names uses named none = subst (λ (all : List (List ℕ)). (used : List ℕ) → IsMissing have all used → ⊥) named none

pub no_memory_known : (texts : List Text) (have : List Interface) (name : List ℕ) (uses : List Identifier) (result : Outcome) → result ≡ outcome.NoMemory → KnowsNothing texts have name uses result
no_memory_known texts have name uses result is = subst (KnowsNothing texts have name uses) (sym is) (inr tt)

-- ---- what a source shows

pub outer_there : (have : List Interface) (source : Source) (uses : List Identifier) → uses ≡ outer_units source → AreThere have uses → AreThere have (outer_units source)
outer_there have source uses outer there = subst (AreThere have) outer there

pub outer_fit : (have : List Interface) (source : Source) (uses : List Identifier) → uses ≡ outer_units source → AreFitting have source.name uses → AreFitting have source.name (outer_units source)
outer_fit have source uses outer fits = subst (AreFitting have source.name) outer fits

pub lacks_here : (texts : List Text) (sources : List Source) (have : List Interface) (place : ℕ) (source : Source) (result : Outcome) → AreShown sources have → place < length sources → source ≡ get_or sources place source
    → is_settled sources have source ≡ false → ShowsNothing texts have source result → LacksInterface texts sources result
lacks_here texts sources have place source result shown below is settled why = record {
  have = have;
  shown = shown;
  source = source;
  one = (place, below, sym is);
  due = due (is_shown have source.name) (waits sources have source) settled;
  cause = why;
}

pub lacks_memory : (texts : List Text) (sources : List Source) (have : List Interface) (place : ℕ) (source : Source) (result : Outcome) → AreShown sources have → place < length sources → source ≡ get_or sources place source
    → is_settled sources have source ≡ false → result ≡ outcome.NoMemory → LacksInterface texts sources result
lacks_memory texts sources have place source result shown below is settled memory =
    lacks_here texts sources have place source result shown below is settled (inl (no_memory_known texts have source.name (outer_units source) result memory))
