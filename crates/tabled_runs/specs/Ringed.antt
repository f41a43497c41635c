-- Runs in which the ring chooses the tables, as runs by these tables.
use Rattle.std.specs.Prelude.{◌≡◌, ℕ, ◌<◌, List, ◌++◌, length, map, slice_get, Some}
use Rattle.overlay_file.specs.declared.overlay.OvrEntry.{OvrEntry}
use Rattle.overlay_manager.specs.declared.tally.Tally.{Tally}
use Rattle.overlay_manager.specs.Manager.{Manager, paragraphs_of}
use Rattle.overlay_manager.specs.overlay_run.Managed.{Managed}
use Rattle.overlay_ring.specs.Seats.{IsSeating, AreOverlays}
use Rattle.overlay_ring.specs.Table.{Table}
use Rattle.tabled_runs.specs.Tables.{On, TabledRuns}

-- The overlays of the manager's file are those of its stubs. None is empty; each fits the buffer, in which they are seated.
pub record HasRing (m : Manager) : Type 0 where
  pub count : length m.entries ≡ length m.stubs
  pub sizes : map paragraphs_of m.entries ≡ m.ring.sizes
  pub some : (v : ℕ) (entry : OvrEntry) → slice_get m.entries v ≡ Some entry → 0 < entry.size
  pub overlays : AreOverlays m.ring.room m.ring.sizes
  pub seating : IsSeating m.ring.sizes m.ring.room m.ring.seats

-- the same program with another limit of reprieve, and other counts of what was done
abbrev pub counting : Managed → ℕ → Tally → ℕ → Managed
counting p retry tally traps = record p { manager = record p.manager { retry = retry; tally = tally }; traps = traps }

-- There are tables by which so many events take the one program where they took the other, but for the counts; more tables may follow.
pub record IsTabled (bytes : List ℕ) (events : ℕ) (start : Managed) (end : Managed) : Type 0 where
  pub taken : List Table
  pub tally : Tally
  pub traps : ℕ
  pub runs : (later : List Table) → TabledRuns bytes events (On start (taken ++ later)) (On (counting end start.manager.retry tally traps) later)
