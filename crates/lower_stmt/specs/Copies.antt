-- Copies of records, arrays and objects.
use Rattle.std.specs.Prelude.{ℕ, ◌+◌, ◌-◌, ◌==◌, if◌then◌else◌, Option, Some, None}
use Rattle.flat_code.specs.declared.tree.Address.{Address}
use Rattle.flat_code.specs.Tree.{Copy, Code, End, ◌then◌}
use Rattle.lower_places.specs.Reaches.{further}
use Rattle.lower_values.specs.Nodes.{single}

-- the bytes from a place in a value on, up to another one, if there are any
abbrev pub part_copied : Address → Address → ℕ → ℕ → Code
part_copied to from start end = if end - start == 0 then End else single (Copy (further to start) (further from start) (end - start))

-- a structured value of so many bytes; an object keeps the class that it has
abbrev pub copied : Address → Address → ℕ → Option ℕ → Code
copied to from size None = part_copied to from 0 size
copied to from size (Some class) = part_copied to from 0 class then part_copied to from (class + 2) size
