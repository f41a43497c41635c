-- What holds of strings.
use Rattle.std.specs.Prelude.{◌≡◌, ◌≢◌, ℕ, ◌+◌, ◌-◌, ◌<◌, ◌≤◌, min, ℤ, pos, List, [], ◌∷◌, ◌++◌, length}
use Rattle.std.specs.declared.cmp.Ordering.TheVariants.{Less, Equal}
use Rattle.std.specs.Cmp.{IsTotalOrder}
use Rattle.common_values.specs.Strings.{longest, cut, bytes_before, copied, deleted, inserted, joined, position_of, compared, upper, shown, written_over}

-- Copy takes a piece out of a text: what stands before it and behind it is what Delete leaves.
pub record LeavesOut (text : List ℕ) (place count : ℤ) : Type 0 where
  pub before : List ℕ
  pub behind : List ℕ
  pub whole : text ≡ before ++ (copied text place count ++ behind)
  pub left : deleted text place count ≡ before ++ behind
  pub at : length before ≡ min (bytes_before place) (length text)

pub record PieceLaws : Type 0 where
  -- two copies that meet give the text back
  pub halves : (text : List ℕ) (n : ℕ) → copied text (pos 1) (pos n) ++ copied text (pos (n + 1)) (pos (length text)) ≡ text
  pub deletes : (text : List ℕ) (place count : ℤ) → LeavesOut text place count
  -- an insertion fits its variable, and is a string
  pub room : (part text : List ℕ) (place : ℤ) (room : ℕ) → (length (inserted part text place room) ≤ room) × (length (inserted part text place room) ≤ longest)
  -- where nothing is cut, Delete takes back what Insert put in
  pub undone : (part text : List ℕ) (n room : ℕ) → n ≤ length text → length part + length text ≤ room → room ≤ longest → deleted (inserted part text (pos (n + 1)) room) (pos (n + 1)) (pos (length part)) ≡ text

-- a part stands in a text behind n bytes
pub record StandsBehind (n : ℕ) (part text : List ℕ) : Type 0 where
  pub before : List ℕ
  pub behind : List ℕ
  pub whole : text ≡ before ++ (part ++ behind)
  pub at : length before ≡ n

-- Pos gives the first place, and a place wherever there is one
pub record PositionLaws : Type 0 where
  pub empty : (text : List ℕ) → position_of [] text ≡ 0
  pub found : (part text : List ℕ) → 0 < position_of part text → StandsBehind (position_of part text - 1) part text
  pub first : (part text : List ℕ) (n : ℕ) → part ≢ [] → StandsBehind n part text → (0 < position_of part text) × (position_of part text ≤ n + 1)

-- whichever strings are joined first, what is left is the front of all
pub record JoinLaws : Type 0 where
  pub left : (a b c : List ℕ) → joined (joined a b) c ≡ cut longest (a ++ (b ++ c))
  pub right : (a b c : List ℕ) → joined a (joined b c) ≡ cut longest (a ++ (b ++ c))

pub record OrderLaws : Type 0 where
  pub total : IsTotalOrder compared
  pub equal : (a b : List ℕ) → compared a b ≡ Equal → a ≡ b
  pub proper_prefix : (a b : List ℕ) (byte : ℕ) → compared a (a ++ byte ∷ b) ≡ Less

pub record UpperLaws : Type 0 where
  pub letter : (b : ℕ) → 97 ≤ b → b ≤ 122 → upper b + 32 ≡ b
  pub below : (b : ℕ) → b < 97 → upper b ≡ b
  pub above : (b : ℕ) → 122 < b → upper b ≡ b

-- a variable shows what was assigned, keeps its size, and no byte behind the text changes
pub record AssignmentLaws : Type 0 where
  pub shows : (old text : List ℕ) → shown (written_over old text) ≡ text
  pub size : (old text : List ℕ) → length text < length old → length (written_over old text) ≡ length old
