-- What a simple expression becomes where the grammar begins something else with its first lexemes: a subrange, a first value,
-- the first of a list of values. Its parts stay, in other productions. Which they are shows in how many parts a node has.
use Rattle.std.specs.Prelude.{List, [], ◌∷◌}
use Rattle.pascal_grammar.specs.Productions as p
use Rattle.ll1_grammar.specs.Grammar.{nil, pair, leaf, node}
use Rattle.syntax_tree.specs.Expressions.{Parsed, of, word}

-- ---- subranges: the first bound, and what comes behind it

-- behind a name: its selectors, its arguments, the factors behind it and the terms behind these
abbrev pub named_range : Parsed → Parsed → Parsed → Parsed → List Parsed → Parsed
named_range (node q (pair s nil)) c fs us last = of p.selected_range (s ∷ c ∷ fs ∷ us ∷ last)
named_range (node q nil) (node r (pair a (pair e nil))) fs us last = of p.called_range (a ∷ e ∷ fs ∷ us ∷ last)
named_range (node q nil) (node r nil) (node w (pair m nil)) us last = of p.multiplied_range (m ∷ us ∷ last)
named_range (node q nil) (node r nil) (node w nil) (node x (pair a nil)) last = of p.added_range (a ∷ last)
named_range (node q nil) (node r nil) (node w nil) (node x nil) last = of p.named_range last
named_range s c fs us last = nil

-- behind a control character: the factors and the terms
abbrev pub control_range : Parsed → Parsed → List Parsed → Parsed
control_range (node w (pair m nil)) us last = of p.multiplied_control (m ∷ us ∷ last)
control_range (node w nil) (node x (pair a nil)) last = of p.added_control (a ∷ last)
control_range (node w nil) (node x nil) last = of p.control_range last
control_range fs us last = nil

-- by the first factor: a name, a control character, or one of its own kind
abbrev pub factor_range : Parsed → Parsed → Parsed → List Parsed → Parsed
factor_range (node q (pair name (pair s (pair c nil)))) fs us last = of p.type_name (name ∷ named_range s c fs us last ∷ [])
factor_range (node q (pair here (pair letter nil))) fs us last = of p.caret_type (here ∷ of p.letter_target (letter ∷ control_range fs us last ∷ []) ∷ [])
factor_range (node q (pair f nil)) fs us last = of p.closed_range (f ∷ fs ∷ us ∷ last)
factor_range f fs us last = nil

abbrev pub range_of : Parsed → List Parsed → Parsed
range_of (node q (pair sign (pair t (pair us nil)))) last = of p.signed_range (sign ∷ t ∷ us ∷ last)
range_of (node q (pair (node r (pair (node w (pair f nil)) (pair fs nil))) (pair us nil))) last = factor_range f fs us last
range_of i last = nil

-- ---- first values

abbrev pub value_of : Parsed → Parsed
value_of (node q (pair sign (pair t (pair us nil)))) = of p.signed_value (sign ∷ t ∷ us ∷ [])
value_of (node q (pair (node r (pair (node w (pair f nil)) (pair fs nil))) (pair us nil))) = of p.value (f ∷ fs ∷ us ∷ [])
value_of i = nil

-- ---- the first of several values in parentheses, with those behind it and the parenthesis

-- by the first factor of a value that has no sign
abbrev pub factor_first : Parsed → Parsed → Parsed → Parsed → Parsed → Parsed
factor_first (node q (pair name (pair s (pair c nil)))) fs us more close = of p.begins_with_name (name ∷ of p.named_value (s ∷ c ∷ fs ∷ us ∷ more ∷ close ∷ []) ∷ [])
factor_first (node q (pair here (pair letter nil))) fs us more close = of p.begins_with_control (here ∷ letter ∷ fs ∷ us ∷ more ∷ close ∷ [])
factor_first (node q (pair f nil)) fs us more close = of p.begins_with_closed (f ∷ fs ∷ us ∷ more ∷ close ∷ [])
factor_first f fs us more close = nil

-- a list, a value with a sign, or one without
abbrev pub first_value : Parsed → Parsed → Parsed → Parsed
first_value (node q (pair l nil)) more close = of p.begins_with_list (l ∷ more ∷ close ∷ [])
first_value (node q (pair (leaf x) (pair t (pair us nil)))) more close = of p.begins_with_sign (leaf x ∷ t ∷ us ∷ more ∷ close ∷ [])
first_value (node q (pair (node r f) (pair fs (pair us nil)))) more close = factor_first (node r f) fs us more close
first_value i more close = nil
