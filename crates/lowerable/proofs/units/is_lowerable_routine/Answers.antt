use Rattle.std.proofs.Common.{◌≡◌, length, Some, refl, sym, ◌∙◌}
use Rattle.std.specs.Prelude.{slice_get}
use Rattle.std.proofs.lemmas.Option.{slice_get_read}
use Rattle.lowerable.proofs.FoundRoutines.{body_tells, nesting_tells, sizes_tell}
use Rattle.lowerable.proofs.units.is_lowerable_routine.Goals.{then-fits, else-fits}
use Rattle.lowerable.proofs.units.is_lowerable_routine.Goals as goal

pub returns-then-nests : goal.returns-then-nests
returns-then-nests c =
    let units = c.args.units.now in
    let unit = c.args.unit.now in
    let routine = c.index-as_slice-number.result in
    let found : slice_get unit.routines c.args.number ≡ Some routine = slice_get_read unit.routines (length unit.routines) c.args.number routine refl c.requires (rw c.as_slice.ensures at c.index-as_slice-number.is) in
    elim c.if-fits.branch [
      | then-fits w ↦
          let around = rw w.as_slice-then-fits.ensures at w.nests.ensures in
          c.is_linkable_statement.ensures ∙ body_tells units unit routine (slice_get unit.routines c.args.number) found (sym c.fits.ensures ∙ w.if-fits.true) (sym around ∙ sym w.value-is ∙ c.if-nests.true)
      | else-fits w ↦ absurd cc
    ]

pub returns-else-nests : goal.returns-else-nests
returns-else-nests c =
    let units = c.args.units.now in
    let unit = c.args.unit.now in
    let routine = c.index-as_slice-number.result in
    let found : slice_get unit.routines c.args.number ≡ Some routine = slice_get_read unit.routines (length unit.routines) c.args.number routine refl c.requires (rw c.as_slice.ensures at c.index-as_slice-number.is) in
    elim c.if-fits.branch [
      | then-fits w ↦
          let around = rw w.as_slice-then-fits.ensures at w.nests.ensures in
          c.if-nests.false ∙ nesting_tells units unit routine (slice_get unit.routines c.args.number) found (sym c.fits.ensures ∙ w.if-fits.true) (sym around ∙ sym w.value-is ∙ c.if-nests.false)
      | else-fits w ↦
          c.if-nests.false ∙ sizes_tell units unit routine (slice_get unit.routines c.args.number) found (sym c.fits.ensures ∙ w.if-fits.false)
    ]
