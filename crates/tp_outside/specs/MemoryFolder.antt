-- What files in memory hold, and their calls.
use Rattle.std.specs.Option.{option_map}
use Rattle.std.specs.BTreeMap.{get_by_text}
use Rattle.tp_outside.specs.Calls.{Calls}
use Rattle.tp_outside.specs.Folder.{Folder}
use Rattle.tp_outside.specs.declared.memory_files.MemoryFiles.{MemoryFiles}

-- The folder: a name's file holds what the map has at the name.
abbrev pub folder_of : MemoryFiles → Folder
folder_of held = λ name. option_map (λ bytes. bytes.items) (get_by_text held.files name)

-- The calls so far, and those that fail.
abbrev pub calls_of : MemoryFiles → Calls
calls_of held = held.calls
