-- The table of the places of labels.
use Rattle.std.specs.Prelude.{ℕ, Option, Some, None}
use Rattle.std.specs.Ordering.{nat_cmp}
use Rattle.std.specs.BTreeMap.{get}
use Rattle.x86_table.specs.declared.label.Labels.{Labels}

abbrev pub place_or : ℕ → Option ℕ → ℕ
place_or end None = end
place_or end (Some p) = p

-- the place of a label, the end of the code for any other
abbrev pub place_in : Labels → ℕ → ℕ
place_in labels l = place_or labels.end (get nat_cmp labels.places l)
