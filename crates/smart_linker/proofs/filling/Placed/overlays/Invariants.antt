use Rattle.std.proofs.Common.{◌≡◌, ◌++◌, drop}
use Rattle.smart_linker.specs.Names.{overlaid_names, names_of}
use Rattle.smart_linker.proofs.filling.Placed.overlays.Given as goal

-- the names so far and those that are left are all
abbrev pub invariant-loop-place : goal.invariant-loop-place
invariant-loop-place l = names_of l.overlays ++ overlaid_names (drop l.place l.self.parts.units.now) ≡ overlaid_names l.self.parts.units.now
