-- What `go` has made before it writes.
use Rattle.std.specs.Prelude.{◌≡◌, ◌≤◌, ℕ, List, Option, None}
use Rattle.tp_outside.specs.Folder.{Folder}
use Rattle.cpu_8086.specs.State.{State}
use Rattle.mz_file.specs.Format.{exe_of}
use Rattle.mz_file.specs.Load.{loaded}
use Rattle.back_end.specs.declared.files.ProgramFiles.{ProgramFiles}
use Rattle.dos_runner.specs.declared.overlay_runner.runner.Runner.{Runner}
use Rattle.dos_runner.specs.plain_opening.Laws.{needed}
use Rattle.commands.specs.declared.go.Built.{Built}
use Rattle.commands.specs.declared.go.Built.TheVariants as built
use Rattle.commands.specs.declared.go.Prepared.{Prepared}
use Rattle.commands.specs.declared.go.Prepared.TheVariants as prepared
use Rattle.commands.specs.Compiled.{IsCompiledFrom, with_files}
use Rattle.commands.specs.Go.{IsBuiltFrom}
use Rattle.commands.specs.Run.{BeginsNamed}

-- What was built of the program of this name that the files hold.
abbrev pub IsBuilt : Folder → List ℕ → Built → Type 0
IsBuilt held name (built.Literal bytes) = IsBuiltFrom held name bytes
IsBuilt held name (built.Compiled files) = IsCompiledFrom held name files

-- The bytes do what the program of this name means that the files hold, the memory holds it with the buffer that is asked for, and the
-- machine is as they start.
pub record IsLoaded (held : Folder) (name : List ℕ) (buffer : Option ℕ) (bytes : List ℕ) (machine : State) : Type 0 where
  pub built : IsBuiltFrom held name bytes
  pub fits : needed bytes buffer ≤ 0xA000
  pub starts : machine ≡ loaded (exe_of bytes)

-- The program was compiled to these files, and the runner begins with the folder that holds them.
pub record IsReady (held : Folder) (name : List ℕ) (buffer : Option ℕ) (files : ProgramFiles) (runner : Runner) : Type 0 where
  pub compiled : IsCompiledFrom held name files
  pub begins : BeginsNamed (with_files held name files) name buffer runner

abbrev pub IsPrepared : Folder → List ℕ → Option ℕ → Prepared → Type 0
IsPrepared held name buffer (prepared.Literal bytes machine) = IsLoaded held name buffer bytes machine
IsPrepared held name buffer (prepared.Compiled files runner) = IsReady held name buffer files runner

-- Nothing has run of what was prepared.
abbrev pub IsIdle : Prepared → Type 0
IsIdle (prepared.Literal bytes machine) = Unit {0}
IsIdle (prepared.Compiled files runner) = runner.end ≡ None
