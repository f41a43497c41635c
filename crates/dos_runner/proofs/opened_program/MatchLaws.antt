-- The largest of some overlays, and whether stubs and overlays belong together.
use Rattle.std.proofs.Common.{◌≡◌, ℕ, ◌+◌, ◌<◌, ◌≤◌, List, [], ◌∷◌, ◌++◌, length, take, get_or, sym, subst, arith}
use Rattle.std.specs.Prelude.{max}
use Rattle.std.specs.List.{All, AllByRecursion}
use Rattle.std.proofs.lemmas.List.{take_more}
use Rattle.std.proofs.lemmas.List.Elements.{All-cons, All-nil, All-get_or, All-from_get_or}
use Rattle.overlay_file.specs.declared.overlay.OverlayCode8086.{OverlayCode8086}
use Rattle.overlay_file.specs.declared.overlay.OvrEntry.{OvrEntry}
use Rattle.overlay_file.specs.Format.{IsOverlay, AreOverlays}
use Rattle.overlay_file.specs.Index.{entry_of, entry_end, index_from, index_of, overlays_of}
use Rattle.overlay_manager.specs.Manager.{paragraphs_of}
use Rattle.dos_runner.specs.opened_program.Matching.{largest}

largest-append : (xs ys : List OvrEntry) → largest (xs ++ ys) ≡ max (largest xs) (largest ys)
largest-append [] ys = omega arith
largest-append (x ∷ xs) ys = omega (arith, largest-append xs ys)

-- one more overlay
pub largest-more : (overlays : List OvrEntry) (k : ℕ) (overlay : OvrEntry) → k < length overlays → largest (take (k + 1) overlays) ≡ max (largest (take k overlays)) (paragraphs_of (get_or overlays k overlay))
largest-more overlays k overlay there = rw (take_more overlays k overlay there, largest-append (take k overlays) (get_or overlays k overlay ∷ [])) (omega arith)

-- None is larger than the largest.
none-larger : (room : ℕ) (overlays : List OvrEntry) → largest overlays ≤ room → All (λ overlay. paragraphs_of overlay ≤ room) overlays
none-larger room [] enough = All-nil (λ overlay. paragraphs_of overlay ≤ room)
none-larger room (overlay ∷ overlays) enough = All-cons (λ overlay. paragraphs_of overlay ≤ room) overlay overlays (omega (arith, enough)) (none-larger room overlays (omega (arith, enough)))

no_overlay : OvrEntry
no_overlay = record { name = []; place = 0; size = 0; fixups = 0 }

-- So each fits a buffer that is large enough for it.
pub each-fits : (room : ℕ) (overlays : List OvrEntry) → All (λ overlay. 0 < paragraphs_of overlay) overlays → largest overlays ≤ room → All (λ entry. (0 < paragraphs_of entry) × (paragraphs_of entry ≤ room)) overlays
each-fits room overlays some enough =
    All-from_get_or (λ entry. (0 < paragraphs_of entry) × (paragraphs_of entry ≤ room)) overlays no_overlay
    (λ i there. (All-get_or (λ overlay. 0 < paragraphs_of overlay) overlays i no_overlay there some, All-get_or (λ overlay. paragraphs_of overlay ≤ room) overlays i no_overlay there (none-larger room overlays enough)))

-- Each overlay of a file has code.
pub each-some : (at : ℕ) (overlays : List OverlayCode8086) → AllByRecursion IsOverlay overlays → All (λ overlay. 0 < paragraphs_of overlay) (index_from at overlays)
each-some at [] each = All-nil (λ overlay. 0 < paragraphs_of overlay)
each-some at (overlay ∷ overlays) each =
    let some = each.0.some in
    All-cons (λ overlay. 0 < paragraphs_of overlay) (entry_of at overlay) (index_from (entry_end (entry_of at overlay)) overlays) (omega (arith, some)) (each-some (entry_end (entry_of at overlay)) overlays each.1)

-- So it is of the overlays that were read.
pub some-found : (bytes : List ℕ) (index : List OvrEntry) → AreOverlays (overlays_of bytes index) → index ≡ index_of (overlays_of bytes index) → All (λ overlay. 0 < paragraphs_of overlay) index
some-found bytes index are is = subst (λ (overlays : List OvrEntry). All (λ overlay. 0 < paragraphs_of overlay) overlays) (sym is) (each-some 8 (overlays_of bytes index) are.each)
