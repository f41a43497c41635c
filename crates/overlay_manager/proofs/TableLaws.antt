-- Tables as seats make them.
use Rattle.std.proofs.Common.{◌≡◌, ℕ, suc, ◌+◌, List, [], ◌∷◌, length, map, refl, ap}
use Rattle.overlay_ring.specs.declared.seat.Seat.{Seat}
use Rattle.return_repair.specs.declared.table.Loaded.{Loaded}
use Rattle.overlay_manager.specs.Manager.{table_from}

-- whatever the seats, a table has the stubs that it is made of
pub stubs-table_from : (room : ℕ) (seats : List Seat) (v : ℕ) (stubs : List ℕ) → map (λ (overlay : Loaded). overlay.stub) (table_from room seats v stubs) ≡ stubs
stubs-table_from room seats v [] = refl
stubs-table_from room seats v (stub ∷ stubs) = ap (λ (others : List ℕ). stub ∷ others) (stubs-table_from room seats (v + 1) stubs)

pub length-table_from : (room : ℕ) (seats : List Seat) (v : ℕ) (stubs : List ℕ) → length (table_from room seats v stubs) ≡ length stubs
length-table_from room seats v [] = refl
length-table_from room seats v (stub ∷ stubs) = ap suc (length-table_from room seats (v + 1) stubs)
