-- What is spelled is so in each of its parts.
use Rattle.std.proofs.Common.{◌≤◌}
use Rattle.std.proofs.Math.Nat.{le_trans, le-max_left, le-max_right, le-add_left}
use Rattle.source_graph.specs.ll1_grammar.Grammar.{nil, pair, leaf, node, deep, one_if}
use Rattle.source_graph.specs.pascal_grammar.Rules.{grammar}
use Rattle.source_graph.specs.syntax_tree.Expressions.{Parsed}
use Rattle.source_graph.specs.tp_parser.Parsing.{limit}
use Rattle.source_graph.specs.ll1_grammar.whole_trees.Whole.{IsWhole, AreWhole}
use Rattle.token_provenance.specs.leaves.Written.{IsWrittenLeaf, HasLeaves, IsSpelled}

abbrev mutual
  -- no part is lost, and each leaf is what the lexer may give
  pub IsFull : Parsed → Type 0
  IsFull nil = ⊥
  IsFull (pair t u) = ⊥
  IsFull (leaf v) = IsWrittenLeaf v
  IsFull (node q t) = AreFull t

  -- the parts of a node, each with the bound of its depth
  pub AreFull : Parsed → Type 0
  AreFull nil = Unit {0}
  AreFull (pair t u) = IsFull t × (deep grammar t ≤ limit) × AreFull u
  AreFull (leaf v) = ⊥
  AreFull (node q t) = ⊥

first_of : (t u : Parsed) → deep grammar (pair t u) ≤ limit → deep grammar t ≤ limit
first_of t u d = le_trans (le-max_left (deep grammar t) (deep grammar u)) d

mutual
  full_of : (t : Parsed) → HasLeaves IsWrittenLeaf t → IsWhole t → deep grammar t ≤ limit → IsFull t
  full_of nil l w d = w
  full_of (pair t u) l w d = w
  full_of (leaf v) l w d = l
  full_of (node q t) l w d = full_in t l w (le_trans (le-add_left (deep grammar t) (one_if (grammar.counts q))) d)

  full_in : (t : Parsed) → HasLeaves IsWrittenLeaf t → AreWhole t → deep grammar t ≤ limit → AreFull t
  full_in nil l w d = tt
  full_in (pair t u) l w d = (full_of t l.0 w.0 (first_of t u d), first_of t u d, full_in u l.1 w.1 (le_trans (le-max_right (deep grammar t) (deep grammar u)) d))
  full_in (leaf v) l w d = w
  full_in (node q t) l w d = w

pub full : (t : Parsed) → IsSpelled t → IsFull t
full t h = full_of t h.leaves h.whole h.deep
