-- What follows for every scope and every header.
use Rattle.std.specs.Prelude.{ℕ, Bool, List, Option}
use Rattle.type_layout.specs.declared.definitions.Kind.{Kind}
use Rattle.type_layout.specs.declared.texts.Place.{Place}
use Rattle.syntax_tree.specs.declared.type_tree.parameter.NamedType.{NamedType}
use Rattle.syntax_tree.specs.declared.type_tree.parameter.ParameterGroup.{ParameterGroup}
use Rattle.syntax_tree.specs.declared.type_tree.parameter.MethodHeader.{MethodHeader}
use Rattle.syntax_tree.specs.declared.source_tree.declaration.RoutineHeader.{RoutineHeader}
use Rattle.scopes.specs.Environment.{Environment}
use Rattle.typing_rules.specs.Laws.{Lawful}
use Rattle.declaration_checker.specs.headers.Names.{type_named, named_type}
use Rattle.declaration_checker.specs.headers.Headers.{procedure_header, function_header, routine_header, method_header}

-- the judgements of names of types and of headers are lawful
pub record AreLawful : Type 0 where
  pub name : (g : Environment) (place : Place) (word : List ℕ) → Lawful (type_named g place word)
  pub named : (g : Environment) (one : NamedType) → Lawful (named_type g one)
  pub procedure : (g : Environment) (is_method : Bool) (place : Place) (kind : Kind) (groups : List ParameterGroup) → Lawful (procedure_header g is_method place kind groups)
  pub function : (g : Environment) (is_method : Bool) (place : Place) (groups : List ParameterGroup) (result : Option NamedType) → Lawful (function_header g is_method place groups result)
  pub routine : (g : Environment) (one : RoutineHeader) → Lawful (routine_header g one)
  pub method : (g : Environment) (one : MethodHeader) → Lawful (method_header g one)
