-- The bytes so far, and those that are left.
use Rattle.std.proofs.Common.{◌≡◌, ◌-◌, map}
use Rattle.type_layout.specs.declared.definitions.Host.TheVariants as host
use Rattle.tp_meaning.specs.Shapes.{read_many, read_ordinal}
use Rattle.interpreter_store.specs.cell_store.Views.{view_tree}
use Rattle.interpreter_effects.specs.initializers.Reading.{behind}
use Rattle.interpreter_effects.proofs.initializers.readers.read_chars.Given as goal

abbrev pub invariant-parts : goal.invariant-parts
invariant-parts l =
    read_many l.count (read_ordinal host.Char) l.bytes ≡ behind (map view_tree l.parts.items) (read_many (l.count - l._i) (read_ordinal host.Char) l.rest)
