use Rattle.std.proofs.Common.{ℕ, List, Result, ap, subst, ◌∙◌, arith}
use Rattle.overlay_file.specs.declared.overlay.OvrEntry.{OvrEntry}
use Rattle.overlay_file.specs.Parts.{Gives}
use Rattle.overlay_file.specs.Reading.{reading}
use Rattle.overlay_file.proofs.FileLaws.{is_found, reading-again}
use Rattle.overlay_file.proofs.reading.read_ovr.Goals as goal

pub returns-clause-found : goal.returns-clause-found
returns-clause-found c = is_found c.args.bytes.now c.index.result (λ k. omega (arith, c.type_inv.bytes k)) c.index.ensures

pub returns-clause-only : goal.returns-clause-only
returns-clause-only c = λ overlays sound spelled.
    let P : Result (List OvrEntry) ℕ → Type 0 = λ read. Gives (λ index. index) c.index.result read in
    subst P (ap reading spelled ∙ reading-again overlays sound) c.index.ensures
