-- Blocks that are closed, and routines whose block was read.
use Rattle.std.proofs.Common.{◌≡◌, ◌≤◌, ℕ, zero, suc, List, [], ◌∷◌, length, map, set, get_or, Some, refl, ap, arith}
use Rattle.tp_check_decl.specs.declared.routines.drafts.Made.{Made}
use Rattle.tp_check_decl.specs.declared.routines.drafts.Slot.{Slot}
use Rattle.tp_check_decl.specs.routines.Drafts.{Numbered, view_made, view_slot, finishing}

-- ---- routines by their numbers

-- the block of a routine is put where the routine is
pub finish_at : (all : List Slot) (number : ℕ) (made : Made) (d : Slot)
    → map view_slot (set all number (record { first = (get_or all number d).first; made = Some made })) ≡ finishing number (view_made made) (map view_slot all)
finish_at [] number made d = refl
finish_at (one ∷ rest) zero made d = refl
finish_at (one ∷ rest) (suc number) made d = ap (λ (all : List Numbered). view_slot one ∷ all) (finish_at rest number made d)

-- where there is no such routine, nothing changes
pub finish_past : (all : List Slot) (number : ℕ) (made : Made) → length all ≤ number → map view_slot all ≡ finishing number (view_made made) (map view_slot all)
finish_past [] number made past = refl
finish_past (one ∷ rest) zero made past = absurd (omega (arith, past))
finish_past (one ∷ rest) (suc number) made past = ap (λ (all : List Numbered). view_slot one ∷ all) (finish_past rest number made (omega (arith, past)))
