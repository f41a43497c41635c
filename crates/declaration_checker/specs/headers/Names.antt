-- Types by their names.
use Rattle.std.specs.Prelude.{ℕ, List, Option, Some, None}
use Rattle.type_layout.specs.declared.definitions.TypeId.{TypeId}
use Rattle.type_layout.specs.declared.texts.Place.{Place}
use Rattle.tp_lexer.specs.declared.token.Feature.{Feature}
use Rattle.tp_lexer.specs.left_out_names.Names.{feature_of}
use Rattle.syntax_tree.specs.declared.type_tree.parameter.NamedType.{NamedType}
use Rattle.syntax_tree.specs.declared.type_tree.parameter.NamedType.TheVariants as t
use Rattle.scopes.specs.declared.entries.Entry.{Entry}
use Rattle.scopes.specs.declared.entries.Entry.TheVariants as entry
use Rattle.scopes.specs.Environment.{Environment, Meaning, named, member, find}
use Rattle.typing_rules.specs.declared.faults.Rule.TheVariants as rules
use Rattle.typing_rules.specs.Faults.{broken, undeclared}
use Rattle.typing_rules.specs.Judgements.{Judgement, makes, refuses}
use Rattle.typing_rules.specs.Sorts.{string}

-- a type as it stands, for `Gives`
abbrev pub itself : TypeId → TypeId
itself ty = ty

-- what is no type can't stand where a type is due
abbrev pub of_entry : Place → Entry → Judgement TypeId
of_entry place (entry.Ty ty) = makes ty
of_entry place _ = refuses (broken place rules.Stands)

abbrev pub of_meaning : Place → Option Feature → Option Meaning → Judgement TypeId
of_meaning place feature None = refuses (undeclared place feature)
of_meaning place feature (Some (named n one)) = of_entry place one
of_meaning place feature (Some (member n one)) = refuses (broken place rules.Stands)

-- the type that a name at a place means
unfoldable pub type_named : Environment → Place → List ℕ → Judgement TypeId
type_named g place name = of_meaning place (feature_of name) (find g name)

-- the type of a parameter or of a result
abbrev pub named_type : Environment → NamedType → Judgement TypeId
named_type g (t.Name i) = type_named g i.position.place i.name
named_type g (t.String here) = makes string
