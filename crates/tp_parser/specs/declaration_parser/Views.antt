-- What was read, as the readers give it.
use Rattle.std.specs.Prelude.{[], ◌∷◌}
use Rattle.pascal_grammar.specs.Productions as p
use Rattle.syntax_tree.specs.Expressions.{Parsed, of, word}
use Rattle.syntax_tree.specs.source_tree.Declarations.{block_of}
use Rattle.tp_parser.specs.declared.declaration_parser.node.RoutineBody.{RoutineBody}
use Rattle.tp_parser.specs.declared.declaration_parser.node.RoutineBody.TheVariants as r

-- what stands behind the semicolon of a header
abbrev pub body_of : RoutineBody → Parsed
body_of r.Forward = of p.forward (word ∷ word ∷ [])
body_of (r.Block x) = of p.own_block (block_of x ∷ word ∷ [])
