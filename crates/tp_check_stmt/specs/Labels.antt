-- Labels of a `case`: constants of the selector's host, each met once.
use Rattle.std.specs.Prelude.{◌≡◌, ◌⊎◌, ℤ, ◌<ℤ◌, ◌≤ℤ◌, int_lt, int_le, Bool, ◌||◌, All, List, [], ◌∷◌, ◌++◌}
use Rattle.std.specs.List.{list_all}
use Rattle.type_layout.specs.declared.texts.Place.{Place}
use Rattle.syntax_tree.specs.expression_tree.Trees.{Tree}
use Rattle.syntax_tree.specs.statement_tree.Trees.{Label, alone, from_to}
use Rattle.syntax_tree.specs.statement_tree.Places.{place_of}
use Rattle.typed_tree.specs.declared.statements.LabelRange.{LabelRange}
use Rattle.scopes.specs.Environment.{Environment}
use Rattle.constant_checker.specs.constant_expressions.Constants as constants
use Rattle.constant_checker.specs.constant_expressions.Values.{number_of}
use Rattle.typing_rules.specs.declared.faults.Rule.TheVariants as rules
use Rattle.typing_rules.specs.declared.sorts.Sort.{Sort}
use Rattle.typing_rules.specs.Faults.{broken}
use Rattle.typing_rules.specs.Judgements.{Judgement, makes, rule, part, parts}
use Rattle.typing_rules.specs.Sorts.{sort_of_type}
use Rattle.typing_rules.specs.Plans.{AreOfOneHost, are_of_one_host}

-- for `Gives`, what lies nowhere in memory
abbrev pub number_itself : ℤ → ℤ
number_itself n = n

abbrev pub range_itself : LabelRange → LabelRange
range_itself r = r

abbrev pub from : ℤ → ℤ → LabelRange
from low high = record { low = low; high = high }

-- a constant of the selector's host
abbrev pub label_value : Environment → Sort → Tree → Judgement ℤ
label_value g s tree = part (constants.judged g tree) (λ c.
    rule (broken (place_of tree) rules.Labelled) (are_of_one_host s (sort_of_type g.types.types c.ty)) (AreOfOneHost s (sort_of_type g.types.types c.ty)) (number_of c.value))

-- bounds don't fall
abbrev pub label_range : Environment → Sort → Label → Judgement LabelRange
label_range g s (alone one) = part (label_value g s one) (λ n. makes (from n n))
label_range g s (from_to low high) = parts (label_value g s low) (label_value g s high) (λ m n. rule (broken (place_of low) rules.Constant) (int_le m n) (m ≤ℤ n) (from m n))

-- no value is in both
abbrev pub AreApart : LabelRange → LabelRange → Type 0
AreApart a b = (a.high <ℤ b.low) ⊎ (b.high <ℤ a.low)

abbrev pub are_apart : LabelRange → LabelRange → Bool
are_apart a b = int_lt a.high b.low || int_lt b.high a.low

abbrev pub IsNew : List LabelRange → LabelRange → Type 0
IsNew seen one = All (AreApart one) seen

abbrev pub is_new : List LabelRange → LabelRange → Bool
is_new seen one = list_all (are_apart one) seen

abbrev pub label_place : Label → Place
label_place (alone one) = place_of one
label_place (from_to low high) = place_of low

-- a label that none of those before it meets
abbrev pub new_label : Environment → Sort → List LabelRange → Label → Judgement LabelRange
new_label g s seen one = part (label_range g s one) (λ r. rule (broken (label_place one) rules.Labelled) (is_new seen r) (IsNew seen r) r)

-- the labels of a branch, behind those of the branches before it
abbrev pub labelled : Environment → Sort → List LabelRange → List Label → Judgement (List LabelRange)
labelled g s seen [] = makes []
labelled g s seen (one ∷ rest) = part (new_label g s seen one) (λ r. part (labelled g s (seen ++ r ∷ []) rest) (λ rs. makes (r ∷ rs)))
