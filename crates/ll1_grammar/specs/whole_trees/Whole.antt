-- Trees without gaps.
use Rattle.ll1_grammar.specs.Grammar.{Tree, nil, pair, leaf, node}

abbrev mutual
  -- the lexeme or node that a part of a node is
  pub IsWhole : {V P : Type 0} → Tree V P → Type 0
  IsWhole nil = ⊥
  IsWhole (pair t u) = ⊥
  IsWhole (leaf v) = Unit {0}
  IsWhole (node p t) = AreWhole t

  -- the parts of a node
  pub AreWhole : {V P : Type 0} → Tree V P → Type 0
  AreWhole nil = Unit {0}
  AreWhole (pair t u) = IsWhole t × AreWhole u
  AreWhole (leaf v) = ⊥
  AreWhole (node p t) = ⊥
