-- What a runner is, and what its calls do.
use Rattle.std.specs.Prelude.{◌≡◌, ◌+◌, ◌-◌, ◌^◌, min, ℕ, false, List, Option, None, Some}
use Rattle.dos_runner.specs.declared.runner.RunEnd.{RunEnd}
use Rattle.dos_runner.specs.declared.runner.RunEnd.TheVariants as ends
use Rattle.dos_runner.specs.Outside.{Outside}
use Rattle.dos_runner.specs.opened_program.Opening.{IsOpened}
use Rattle.dos_runner.specs.declared.overlay_runner.counts.Counts.{Counts}
use Rattle.dos_runner.specs.declared.overlay_runner.runner.Runner.{Runner}
use Rattle.dos_runner.specs.overlay_runner.Course.{Courses}

-- A program is opened, and nothing of it has run.
pub record Begins (bytes name : List ℕ) (held : Option (List ℕ)) (buffer : Option ℕ) (runner : Runner) : Type 0 where
  pub opened : IsOpened bytes name held buffer runner.course.machine runner.course.ovr
  pub input : runner.course.over ≡ false
  pub runs : runner.end ≡ None
  pub traps : runner.traps ≡ 0
  pub instructions : runner.instructions ≡ 0

-- the runner for which so many paragraphs of overlays that live returns need are kept and moved
abbrev pub with_retry : Runner → ℕ → Runner
with_retry runner retry = record runner { course = record runner.course { ovr = record runner.course.ovr { retry = retry } } }

-- a count with so many more; at the greatest u64 it stays
abbrev pub more : ℕ → ℕ → ℕ
more count by = min (count + by) (2 ^ 64 - 1)

-- how a run ended for all later calls: a limit ends but the call
abbrev pub lasting : RunEnd → Option RunEnd
lasting (ends.Limit taken) = None
lasting end = Some end

-- A call takes a run further, and counts its events and traps.
pub record RunsOn (bytes : List ℕ) (result : RunEnd) (limit : ℕ) (old new : Runner) (o o' : Outside) : Type 0 where
  pub events : ℕ
  pub traps : ℕ
  pub course : Courses bytes result events traps limit old.course new.course o o'
  pub instructions_are : new.instructions ≡ more old.instructions events
  pub traps_are : new.traps ≡ more old.traps traps

-- what was counted so far
abbrev pub counts_of : Runner → Counts
counts_of runner = record {
  loads = runner.course.ovr.tally.loads;
  traps = runner.traps;
  patched = runner.course.ovr.tally.patched;
  instructions = runner.instructions;
}
