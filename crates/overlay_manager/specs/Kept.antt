-- What live pairs denote, over one service and over two.
use Rattle.std.specs.Prelude.{◌≡◌, ◌≢◌, ℕ, ◌<◌, false, if◌then◌else◌, ◌==◌, List, [], ◌∷◌, length, None, Some}
use Rattle.std.specs.List.{AllByRecursion}
use Rattle.return_repair.specs.declared.table.Loaded.{Loaded}
use Rattle.return_repair.specs.Pairs.{pair_at, owner, is_out, saved_at}
use Rattle.return_repair.specs.Follows.{Denoted, Stays, Into, overlay_at, denotations, Follow}

-- the segment by which live returns into an overlay stand
abbrev pub shown_segment : Loaded → ℕ
shown_segment overlay = if is_out overlay then overlay.stub else overlay.load

-- By a table each overlay is found again from that segment. No two have one stub, and no code stands at its own.
pub record IsFound (table : List Loaded) : Type 0 where
  pub owners : (v : ℕ) → v < length table → owner table (shown_segment (overlay_at table v)) ≡ Some v
  pub stubs : (v w : ℕ) → v < length table → w < length table → (overlay_at table v).stub ≡ (overlay_at table w).stub → v ≡ w
  pub loads : (v : ℕ) → v < length table → is_out (overlay_at table v) ≡ false → ((overlay_at table v).stub == (overlay_at table v).load) ≡ false

-- No return goes to the begin of an overlay's code, since a call stands before where it goes on. And one that denotes
-- nothing names no segment of the table.
abbrev pub IsReturn : List Loaded → Denoted → Type 0
IsReturn table (Stays pair) = owner table pair.segment ≡ None
IsReturn table (Into v offset) = offset ≢ 0

abbrev pub AreReturns : List Loaded → List Denoted → Type 0
AreReturns table items = AllByRecursion (IsReturn table) items

-- the stubs of a table
abbrev pub stubs_of : List Loaded → List ℕ
stubs_of [] = []
stubs_of (overlay ∷ table) = overlay.stub ∷ stubs_of table

-- the pairs at these places are the same in two memories, and so are the saved offsets
abbrev pub SamePairs : List ℕ → List ℕ → ℕ → List ℕ → Type 0
SamePairs memory other ss places = AllByRecursion (λ place. pair_at memory ss place ≡ pair_at other ss place) places

abbrev pub SameSaved : List ℕ → List ℕ → List Loaded → Type 0
SameSaved memory other table = AllByRecursion (λ stub. saved_at memory stub ≡ saved_at other stub) (stubs_of table)

-- what the pairs at these places denote, in one memory by one table and in another by another
abbrev pub DenoteSame : List ℕ → List ℕ → ℕ → List ℕ → List Loaded → List Loaded → Type 0
DenoteSame memory after ss places old new = denotations after ss new places ≡ denotations memory ss old places

-- Two services, between which nothing wrote to the pairs at these places nor to the saved offsets.
pub record TwoServices (memory between later after : List ℕ) (ss : ℕ) (places : List ℕ) (first second third : List Loaded) : Type 0 where
  pub changed_first : ℕ
  pub changed_second : ℕ
  pub out : Follow memory between ss places first second changed_first
  pub pairs : SamePairs later between ss places
  pub saved : SameSaved later between second
  pub back : Follow later after ss places second third changed_second
