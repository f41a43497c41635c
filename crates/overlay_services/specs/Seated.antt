-- Where a program is between two events, as its overlays move: on its way beside the resident machine, or at a table that is not legal.
use Rattle.std.specs.Prelude.{◌≡◌, ℕ, ◌<◌, ◌≤◌, Bool, List, ◌++◌, slice_get, slice_index, Some}
use Rattle.overlay_manager.specs.Manager.{Manager}
use Rattle.overlay_manager.specs.overlay_run.Managed.{Managed}
use Rattle.overlay_ring.specs.Seats.{table_of}
use Rattle.overlay_ring.specs.Table.{IsTable, Table}
use Rattle.resident_machine.specs.Program.{OverlayCode, Program}
use Rattle.resident_machine.specs.State.{ResidentState}
use Rattle.overlay_simulation.specs.Matching.{Matches}
use Rattle.overlay_services.specs.Sound.{IsSound}
use Rattle.tabled_runs.specs.Tables.{Tabled, On, NotLegal, TabledRuns}

-- The loaded overlays lie inside the buffer, and none overlaps another.
pub record IsSeated (p : Program) (kept : ℕ → Bool) (bytes : List ℕ) (m : Manager) : Type 0 where
  pub sound : IsSound p kept bytes m
  pub table : IsTable m.ring.sizes m.ring.room (table_of m.ring.seats)

-- A program that is on its way is seated, and its process matches the state.
abbrev pub Follows : Program → (ℕ → Bool) → List ℕ → ResidentState → Tabled → Type 0
Follows p kept bytes t (On q tables) = IsSeated p kept bytes q.manager × Matches p t q
Follows p kept bytes t NotLegal = Unit {0}

-- Within one to so many events it comes to where it follows the state.
pub record ComesTo (p : Program) (kept : ℕ → Bool) (bytes : List ℕ) (t : ResidentState) (start : Tabled) (most : ℕ) : Type 0 where
  pub events : ℕ
  pub some : 0 < events
  pub few : events ≤ most
  pub end : Tabled
  pub runs : TabledRuns bytes events start end
  pub follows : Follows p kept bytes t end

-- ## Some tables

-- Each overlay fits the buffer by itself.
abbrev pub FitAlone : Program → Manager → Type 0
FitAlone p m = (v : ℕ) (o : OverlayCode) → slice_get p.overlays v ≡ Some o → slice_index m.ring.sizes v ≤ m.ring.room

-- There are tables by which within so many events it comes to where it matches the state, whatever tables follow these.
pub record ComesBySome (p : Program) (kept : ℕ → Bool) (bytes : List ℕ) (t : ResidentState) (start : Managed) (most : ℕ) : Type 0 where
  pub taken : List Table
  pub events : ℕ
  pub few : events ≤ most
  pub end : Managed
  pub runs : (later : List Table) → TabledRuns bytes events (On start (taken ++ later)) (On end later)
  pub seated : IsSeated p kept bytes end.manager
  pub fit : FitAlone p end.manager
  pub matches : Matches p t end
