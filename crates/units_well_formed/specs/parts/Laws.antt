-- Parts of declarations keep what is known.
use Rattle.std.specs.Prelude.{ℕ, List}
use Rattle.units_well_formed.specs.routines.Laws.{PartsKeep}

abbrev pub PartLaw : Type 0
PartLaw = (unit : List ℕ) → PartsKeep unit
