-- The short jumps of a routine reach before any address is known.
use Rattle.std.proofs.Common.{ℕ, Bool, [], map, sym, subst}
use Rattle.x86_table.specs.Lines.{ShortJumpsReach}
use Rattle.flat_code.specs.Program.{UnitCode, Routine}
use Rattle.code_templates.specs.code_lines.Addresses.{Context}
use Rattle.code_templates.specs.code_lines.Lines.{within}
use Rattle.code_templates.proofs.code_reach.Pieces.{routine_reaches}
use Rattle.code_templates.specs.code_references.Marks.{placed_line, lines_of}
use Rattle.code_templates.specs.code_references.Marked.{marked_routine}
use Rattle.code_templates.specs.code_references.Unplaced.{unplaced}
use Rattle.code_templates.proofs.code_references.Filled.{lines_filled, jumps_reached}
use Rattle.code_templates.proofs.code_references.Placed.{routine-makes}

abbrev without_addresses : UnitCode → Bool → Context
without_addresses unit far = record { addresses = unplaced; own = []; unit = unit; far = far }

pub marked-reaches : (unit : UnitCode) (pointer : ℕ) (r : Routine) → ShortJumpsReach (lines_of (marked_routine unit pointer r))
marked-reaches unit pointer r =
    let x = without_addresses unit r.far in
    let ms = marked_routine unit pointer r in
    jumps_reached (lines_of ms) (map (placed_line (within x r)) ms) (lines_filled (within x r) ms)
    (subst ShortJumpsReach (sym (routine-makes unplaced x pointer r)) (routine_reaches x pointer r))
