-- What variables and blocks hold: trees of cells.
use Rattle.std.specs.Prelude.{ℕ, zero, suc, ◌+◌, ℤ, List, [], ◌∷◌, Option, Some, None}

-- a routine, a class or a global: the unit that declares it, and its number there
pub record Key : Type 0 where
  pub unit : List ℕ
  pub number : ℕ

-- a place: an object by its serial number, and the way into it from part to part
pub record Spot : Type 0 where
  pub object : ℕ
  pub path : List ℕ

-- What an expression gives and what a cell holds. A string lies in cells byte by byte, and only a whole text is `Text`; the
-- order of a set's elements means nothing. A pointer leads to a block by its serial number, a procedural value to a routine
-- by its name; an instance has a class or none. `At` is the place that a variable parameter, Self or a structured argument
-- stands for. The call of a procedure gives `Void`.
pub data Value : Type 0 where
  Ordinal : (z : ℤ) → Value
  Text : (bytes : List ℕ) → Value
  Elements : (set : List ℕ) → Value
  Nil : Value
  Block : (serial : ℕ) → Value
  Code : (routine : Key) → Value
  Class : (class : Option Key) → Value
  At : (spot : Spot) → Value
  Void : Value

-- a cell, which holds a value or is unset, or parts one behind another
pub data Tree : Type 0 where
  Leaf : (cell : Option Value) → Tree
  Tip : Tree
  Fork : (head tail : Tree) → Tree

abbrev pub unset : Tree
unset = Leaf None

abbrev pub holding : Value → Tree
holding v = Leaf (Some v)

-- parts in this order
abbrev pub chain : List Tree → Tree
chain [] = Tip
chain (part ∷ parts) = Fork part (chain parts)

-- so many equal parts
abbrev pub many : ℕ → Tree → Tree
many zero part = Tip
many (suc n) part = Fork part (many n part)

-- how many parts a tree has
abbrev pub part_count : Tree → ℕ
part_count (Leaf cell) = 0
part_count Tip = 0
part_count (Fork head tail) = 1 + part_count tail

-- where a path leads, if it leads anywhere
abbrev pub part_at : Tree → List ℕ → Option Tree
part_at tree [] = Some tree
part_at (Fork head tail) (zero ∷ path) = part_at head path
part_at (Fork head tail) (suc n ∷ path) = part_at tail (n ∷ path)
part_at (Leaf cell) (n ∷ path) = None
part_at Tip (n ∷ path) = None

-- the tree with another part where the path leads
abbrev pub with_part : Tree → List ℕ → Tree → Tree
with_part tree [] part = part
with_part (Fork head tail) (zero ∷ path) part = Fork (with_part head path part) tail
with_part (Fork head tail) (suc n ∷ path) part = Fork head (with_part tail (n ∷ path) part)
with_part (Leaf cell) (n ∷ path) part = Leaf cell
with_part Tip (n ∷ path) part = Tip
