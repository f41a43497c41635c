-- An executable without stubs is opened exactly where the memory holds it.
use Rattle.std.proofs.Common.{◌≡◌, ◌⊎◌, inl, inr, ℕ, ◌+◌, ◌<◌, ◌≤◌, List, [], Option, unwrap_or, refl, sym, subst, arith}
use Rattle.std.proofs.lemmas.Bool.{cases_order}
use Rattle.mz_file.specs.declared.executable.Exe.{Exe}
use Rattle.mz_file.specs.Format.{exe_of}
use Rattle.mz_file.specs.Load.{loaded, paragraphs_taken}
use Rattle.dos_runner.specs.declared.opened_program.error.OpenError.TheVariants as errors
use Rattle.dos_runner.specs.opened_program.Matching.{BelongTogether}
use Rattle.dos_runner.specs.opened_program.Opening.{HasOverlays, FitTogether, IsMisfit, start_manager}
use Rattle.dos_runner.proofs.opened_program.ReasonLaws.{one_reason, no_reason}
use Rattle.dos_runner.specs.plain_opening.Laws.{needed, PlainOpening, LargeRefusal, PlainRefusal}

-- no stubs, and no overlays
none_known : (stubs : List ℕ) (held : Option (List ℕ)) → stubs ≡ [] → HasOverlays stubs held []
none_known stubs held is = subst (λ (s : List ℕ). HasOverlays s held []) (sym is) refl

none_belong : (image stubs : List ℕ) → stubs ≡ [] → BelongTogether image stubs []
none_belong image stubs is = subst (λ (s : List ℕ). BelongTogether image s []) (sym is) (record { same = refl; each = λ v below. absurd (omega (arith, below)) })

fit_together : (exe : Exe) (room : ℕ) → exe.block.stubs ≡ [] → paragraphs_taken exe + room ≤ 0xA000 → FitTogether exe [] room
fit_together exe room is small = record { together = none_belong exe.image exe.block.stubs is; enough = omega arith; memory = small }

too_large : (exe : Exe) (room : ℕ) → exe.block.stubs ≡ [] → 0xA000 < paragraphs_taken exe + room → IsMisfit exe [] room (errors.MemoryTooSmall (paragraphs_taken exe + room))
too_large exe room is large = (none_belong exe.image exe.block.stubs is, omega arith, refl, large)

pub plain_opening : PlainOpening
plain_opening bytes name held buffer plain small = record {
  executable = plain.executable;
  overlays = [];
  overlays_are = none_known (exe_of bytes).block.stubs held plain.stubs;
  fit = fit_together (exe_of bytes) (unwrap_or buffer 0) plain.stubs small;
  machine_is = refl;
  manager_is = refl;
}

pub large_refusal : LargeRefusal
large_refusal bytes name held buffer plain large = record {
  executable = plain.executable;
  overlays = [];
  overlays_are = none_known (exe_of bytes).block.stubs held plain.stubs;
  misfit = too_large (exe_of bytes) (unwrap_or buffer 0) plain.stubs large;
}

pub plain_refusal : PlainRefusal
plain_refusal bytes name held buffer error plain refused has = by (cases_order (needed bytes buffer) 0xA000)
  where
    fits : needed bytes buffer ≤ 0xA000 → (error ≡ errors.MemoryTooSmall (needed bytes buffer)) × (0xA000 < needed bytes buffer)
    fits small = absurd (no_reason bytes name held buffer (loaded (exe_of bytes)) (start_manager (exe_of bytes) name [] (unwrap_or buffer 0)) error (plain_opening bytes name held buffer plain small) has refused)

    by : (needed bytes buffer ≡ 0xA000) ⊎ ((needed bytes buffer < 0xA000) ⊎ (0xA000 < needed bytes buffer)) → (error ≡ errors.MemoryTooSmall (needed bytes buffer)) × (0xA000 < needed bytes buffer)
    by (inl same) = fits (omega (arith, same))
    by (inr (inl less)) = fits (omega (arith, less))
    by (inr (inr more)) = (one_reason bytes name held buffer error (errors.MemoryTooSmall (needed bytes buffer)) has tt refused (large_refusal bytes name held buffer plain more), more)
