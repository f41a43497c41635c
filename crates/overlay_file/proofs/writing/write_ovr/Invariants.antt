use Rattle.std.proofs.Common.{◌≡◌, ◌++◌, drop}
use Rattle.std.specs.List.{flat_map}
use Rattle.overlay_file.specs.Format.{overlay_bytes, spelling}
use Rattle.overlay_file.proofs.writing.write_ovr.Given as goal

-- what is written and what is left are all
abbrev pub invariant-loop-overlay : goal.invariant-loop-overlay
invariant-loop-overlay l = l.bytes ++ flat_map overlay_bytes (drop l.overlay-index l.list) ≡ spelling l.list
