-- Where an expression begins.
use Rattle.std.specs.Prelude.{Some, None}
use Rattle.type_layout.specs.declared.texts.Place.{Place}
use Rattle.syntax_tree.specs.expression_tree.Trees.{Tree, number, text, control, nil, set, call, signed, negated, combined, name, field, index, followed}

-- Its first lexeme, but for a parenthesis: with one neither a bound of a subrange nor an initializer that is an expression begins.
abbrev pub first_place : Tree → Place
first_place (number place n) = place
first_place (text place bytes) = place
first_place (control place letter) = place
first_place (nil place) = place
first_place (set here listed) = here.place
first_place (call here callee given) = here.place
first_place (signed None a) = first_place a
first_place (signed (Some mark) a) = mark.position.place
first_place (negated place a) = place
first_place (combined here op a b) = first_place a
first_place (name here one) = here.place
first_place (field here a one) = first_place a
first_place (index here a i) = first_place a
first_place (followed place a) = first_place a
