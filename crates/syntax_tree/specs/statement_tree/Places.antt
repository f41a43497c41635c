-- Where an expression stands as a part of a statement.
use Rattle.std.specs.Prelude.{Some, None}
use Rattle.type_layout.specs.declared.texts.Place.{Place}
use Rattle.syntax_tree.specs.expression_tree.Trees.{Tree, number, text, control, nil, set, call, signed, negated, combined, name, field, index, followed}

-- At its operator or sign, else at its first lexeme: what is selected from a variable stands where the variable does.
abbrev pub place_of : Tree → Place
place_of (number place n) = place
place_of (text place bytes) = place
place_of (control place letter) = place
place_of (nil place) = place
place_of (set here listed) = here.place
place_of (call here callee given) = here.place
place_of (signed None a) = place_of a
place_of (signed (Some mark) a) = mark.position.place
place_of (negated place a) = place
place_of (combined here op a b) = here.place
place_of (name here one) = here.place
place_of (field here a one) = place_of a
place_of (index here a i) = place_of a
place_of (followed place a) = place_of a
