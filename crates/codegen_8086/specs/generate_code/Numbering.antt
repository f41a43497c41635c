-- What is known as statements come to lines: the labels of the body and of the loops around, which labels are free, and the routines whose far pointers were stored.
use Rattle.std.specs.Prelude.{ℕ, ◌+◌, List, [], ◌∷◌, ◌++◌}
use Rattle.type_layout.specs.declared.definitions.RoutineId.{RoutineId}
use Rattle.code_templates.specs.code_lines.Lines.{Around, in_loop}

-- label is the first one that is free
pub record Numbering : Type 0 where
  pub around : Around
  pub label : ℕ
  pub stored : List RoutineId

-- The labels below the number of the unit's routines are the routines' own; the next one is the end of each body.
abbrev pub begun : ℕ → List RoutineId → Numbering
begun routines stored = record { around = record { home = routines; ends = [] }; label = routines + 1; stored = stored }

-- so many labels are taken
abbrev pub past : Numbering → ℕ → Numbering
past n count = record n { label = n.label + count }

abbrev pub inside : Numbering → ℕ → Numbering
inside n end = record n { around = in_loop n.around end }

abbrev pub behind_first : List ℕ → List ℕ
behind_first [] = []
behind_first (end ∷ ends) = ends

abbrev pub outside : Numbering → Numbering
outside n = record n { around = record n.around { ends = behind_first n.around.ends } }

abbrev pub with_stored : Numbering → RoutineId → Numbering
with_stored n routine = record n { stored = n.stored ++ routine ∷ [] }
