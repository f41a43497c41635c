-- What was read, as the readers give it.
use Rattle.syntax_tree.specs.Expressions.{Parsed, word, name_of}
use Rattle.syntax_tree.specs.declared.type_tree.initializer.FieldValue.{FieldValue}
use Rattle.syntax_tree.specs.declared.type_tree.initializer.FieldValue.TheVariants as f
use Rattle.syntax_tree.specs.type_tree.Initializers.{of_initializer}

-- a field, its colon and its value
abbrev pub field_of : FieldValue → Parsed × Parsed × Parsed
field_of (f.Field name x) = (name_of name, word, of_initializer x)
