-- The names of a program's files.
use Rattle.std.specs.Prelude.{ℕ, List, ◌++◌, codes, map}
use Rattle.std.specs.Char.{to_ascii_lowercase}
use Rattle.commands.specs.declared.names.FileKind.{FileKind}
use Rattle.commands.specs.declared.names.FileKind.TheVariants.{Source, Executable, Overlays}

abbrev pub extension : FileKind → List ℕ
extension Source = codes ".pas"
extension Executable = codes ".exe"
extension Overlays = codes ".ovr"

-- The program's name in lower case, and the extension.
abbrev pub file_of : List ℕ → FileKind → List ℕ
file_of name kind = map to_ascii_lowercase name ++ extension kind
