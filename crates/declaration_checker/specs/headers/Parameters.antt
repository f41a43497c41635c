-- Parameters: groups of names with a type, which become parameters one by one.
use Rattle.std.specs.Prelude.{◌≡◌, ℕ, Bool, true, false, not, List, [], ◌∷◌, ◌++◌}
use Rattle.std.specs.List.{list_any}
use Rattle.type_layout.specs.declared.definitions.TypeId.{TypeId}
use Rattle.type_layout.specs.declared.definitions.Param.{Param}
use Rattle.type_layout.specs.Words.{same_bytes}
use Rattle.syntax_tree.specs.declared.identifier.Identifier.{Identifier}
use Rattle.syntax_tree.specs.declared.type_tree.parameter.ParameterGroup.{ParameterGroup}
use Rattle.syntax_tree.specs.declared.type_tree.parameter.ParameterGroup.TheVariants as group
use Rattle.scopes.specs.Environment.{Environment}
use Rattle.typing_rules.specs.declared.faults.Rule.TheVariants as rules
use Rattle.typing_rules.specs.Faults.{broken}
use Rattle.typing_rules.specs.Judgements.{Judgement, makes, rule, part}
use Rattle.typing_rules.specs.Selectors.{asking}
use Rattle.declaration_checker.specs.headers.Names.{named_type}

abbrev pub has_param : List Param → List ℕ → Bool
has_param params name = list_any (λ (param : Param). same_bytes name param.name) params

abbrev pub param : Bool → TypeId → List ℕ → Param
param by_ref ty name = record { name = name; by_ref = by_ref; ty = ty }

-- none of the parameters has the name of one that follows them
abbrev pub is_new : List Param → Identifier → Judgement (Unit {0})
is_new params one = rule (broken one.position.place rules.Duplicate) (not (has_param params one.name)) (has_param params one.name ≡ false) tt

-- parameters of one type, behind those before them
abbrev pub names_onto : List Param → Bool → TypeId → List Identifier → Judgement (List Param)
names_onto params by_ref ty [] = makes params
names_onto params by_ref ty (one ∷ rest) =
    asking (is_new params one) (names_onto (params ++ param by_ref ty one.name ∷ []) by_ref ty rest)

abbrev pub group_onto : Environment → List Param → ParameterGroup → Judgement (List Param)
group_onto g params (group.Variable here names of_type) = part (named_type g of_type) (λ ty. names_onto params true ty names.items)
group_onto g params (group.Value names of_type) = part (named_type g of_type) (λ ty. names_onto params false ty names.items)

abbrev pub groups_onto : Environment → List Param → List ParameterGroup → Judgement (List Param)
groups_onto g params [] = makes params
groups_onto g params (one ∷ rest) = part (group_onto g params one) (λ all. groups_onto g all rest)

-- the parameters of a list
abbrev pub parameters : Environment → List ParameterGroup → Judgement (List Param)
parameters g groups = groups_onto g [] groups
