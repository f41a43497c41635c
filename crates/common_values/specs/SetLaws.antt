-- What holds of sets, told by their elements.
use Rattle.std.specs.Prelude.{◌≡◌, ℕ, ◌-◌, ◌/◌, ◌%◌, ◌^◌, ◌<◌, ◌≤◌, nat_le, true, not, cond, ◌&&◌, ◌||◌, List, [], slice_index}
use Rattle.common_values.specs.Sets.{contains, union, difference, intersection, is_subset, is_same, ordinals_between, byte_of, bit_of, has_byte, assigned, set_byte, set_bytes}

-- two sets have the same elements
abbrev pub SameElements : List ℕ → List ℕ → Type 0
SameElements left right = (e : ℕ) → contains left e ≡ contains right e

pub record ElementLaws : Type 0 where
  pub union : (a b : List ℕ) (e : ℕ) → contains (union a b) e ≡ (contains a e || contains b e)
  pub difference : (a b : List ℕ) (e : ℕ) → contains (difference a b) e ≡ (contains a e && not (contains b e))
  pub intersection : (a b : List ℕ) (e : ℕ) → contains (intersection a b) e ≡ (contains a e && contains b e)
  pub between : (low high e : ℕ) → contains (ordinals_between low high) e ≡ (nat_le low e && nat_le e high)
  pub nothing : (low high : ℕ) → high < low → ordinals_between low high ≡ []
  -- a set that is assigned keeps exactly the elements that have a byte in the target
  pub assigned : (low high e : ℕ) (set : List ℕ) → contains (assigned low high set) e ≡ (contains set e && has_byte low high e)

pub record SubsetLaws : Type 0 where
  pub below : (a b : List ℕ) → is_subset a b ≡ true → (e : ℕ) → contains a e ≡ true → contains b e ≡ true
  pub from_elements : (a b : List ℕ) → ((e : ℕ) → contains a e ≡ true → contains b e ≡ true) → is_subset a b ≡ true
  pub same : (a b : List ℕ) → is_same a b ≡ true → SameElements a b
  pub from_same : (a b : List ℕ) → SameElements a b → is_same a b ≡ true

pub record ByteLaws : Type 0 where
  pub small : (set : List ℕ) (byte : ℕ) → set_byte set byte < 256
  -- an element's bit tells whether the set has it
  pub bit : (set : List ℕ) (e : ℕ) → set_byte set (byte_of e) / 2 ^ bit_of e % 2 ≡ cond (contains set e) 1 0
  pub at : (low high e : ℕ) (set : List ℕ) → byte_of low ≤ byte_of e → byte_of e ≤ byte_of high → slice_index (set_bytes low high set) (byte_of e - byte_of low) ≡ set_byte set (byte_of e)
  -- the bytes tell the elements that they have room for, and nothing else
  pub same : (low high : ℕ) (a b : List ℕ) → SameElements a b → set_bytes low high a ≡ set_bytes low high b
  pub assigned : (low high : ℕ) (set : List ℕ) → low ≤ high → set_bytes low high (assigned low high set) ≡ set_bytes low high set
