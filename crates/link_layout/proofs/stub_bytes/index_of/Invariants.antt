use Rattle.std.proofs.Common.{◌≡◌, ◌++◌, drop}
use Rattle.overlay_file.specs.Index.{index_of, index_from}
use Rattle.link_layout.proofs.stub_bytes.index_of.Given as goal

-- the entries so far and those that are left are all
abbrev pub invariant-loop-overlay : goal.invariant-loop-overlay
invariant-loop-overlay l = l.index ++ index_from l.at (drop l.overlay-index l.overlays) ≡ index_of l.overlays
