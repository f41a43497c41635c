use Rattle.compiler_correctness.proofs.OverlayFiles.{overlays_follow, ring_tables}
use Rattle.compiler_correctness.proofs.laws.overlay_files_law.Goals as goal

pub returns-clause-overlays : goal.returns-clause-overlays
returns-clause-overlays c = overlays_follow

pub returns-clause-ring : goal.returns-clause-ring
returns-clause-ring c = ring_tables
