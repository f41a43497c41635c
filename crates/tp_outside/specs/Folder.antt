-- A folder: which files there are, and what each holds.
use Rattle.std.specs.Prelude.{◌≡◌, ℕ, ◌<◌, ◌≤◌, List, [], length, take, drop, Option, Some, if◌then◌else◌, unwrap_or}
use Rattle.std.specs.Option.{option_map}
use Rattle.std.specs.Str.{bytes_eq}

-- For the bytes of a name, what the file of that name holds, or None where there is no such file.
abbrev pub Folder : Type 0
Folder = List ℕ → Option (List ℕ)

-- The folder in which the file of this name holds just these bytes, and each other file is as it was.
unfoldable pub with_file : Folder → List ℕ → List ℕ → Folder
with_file folder name bytes = λ other. if bytes_eq name other then Some bytes else folder other

-- What a folder that is told becomes by that write; nothing is told of one that isn't.
abbrev pub with_known_file : Option Folder → List ℕ → List ℕ → Option Folder
with_known_file known name bytes = option_map (λ folder. with_file folder name bytes) known

-- What the file of this name holds, and nothing where there is none.
abbrev pub bytes_of : Folder → List ℕ → List ℕ
bytes_of folder name = unwrap_or (folder name) []

-- The first `count` bytes of `into` are those of a file's bytes from place `start` on. There are none only
-- past the file's end, or where there is no room.
pub record IsPartAt (bytes : List ℕ) (start count : ℕ) (into : List ℕ) : Type 0 where
  pub within : count ≤ length (drop start bytes)
  pub part : take count into ≡ take count (drop start bytes)
  pub progress : 0 < length into → start < length bytes → 0 < count
