-- What a `for` counts by, and from where to where.
use Rattle.std.specs.Prelude.{◌≡◌, ◌⊎◌, ℕ, ◌==◌, Bool, true, false, ◌&&◌, ◌||◌, List, Option, Some, None}
use Rattle.type_layout.specs.declared.definitions.TypeId.{TypeId}
use Rattle.type_layout.specs.declared.definitions.TypeDef.{TypeDef}
use Rattle.type_layout.specs.declared.definitions.TypeDef.TheVariants as type
use Rattle.type_layout.specs.declared.texts.Place.{Place}
use Rattle.type_layout.specs.Storage.{least_of, greatest_of, storage_of}
use Rattle.tp_lexer.specs.declared.token.Feature.{Feature}
use Rattle.tp_lexer.specs.left_out_names.Names.{feature_of}
use Rattle.pascal_grammar.specs.declared.operator.Direction.{Direction}
use Rattle.pascal_grammar.specs.declared.operator.Direction.TheVariants as direction
use Rattle.syntax_tree.specs.expression_tree.Trees.{Tree}
use Rattle.syntax_tree.specs.statement_tree.Places.{place_of}
use Rattle.typed_tree.specs.declared.expressions.Variable.{Variable}
use Rattle.typed_tree.specs.Expressions.{Expression, type_of, view_expr}
use Rattle.scopes.specs.declared.entries.Entry.{Entry}
use Rattle.scopes.specs.declared.entries.Entry.TheVariants as entry
use Rattle.scopes.specs.Environment.{Environment, Meaning, named, member, find}
use Rattle.typed_tree.specs.type_fits.Fits.{definition}
use Rattle.typing_rules.specs.declared.faults.Rule.TheVariants as rules
use Rattle.typing_rules.specs.Faults.{broken, undeclared}
use Rattle.typing_rules.specs.Judgements.{Judgement, makes, refuses, rule, part, parts}
use Rattle.typing_rules.specs.Sorts.{sort_of_type, sort_of}
use Rattle.typing_rules.specs.Wanted.{stored_of}
use Rattle.typing_rules.specs.Assignments.{IsAssignable, is_assignable, assigned_by}
use Rattle.tp_check_expr.specs.Names.{variable}
use Rattle.tp_check_expr.specs.Typed.{judged}
use Rattle.tp_check_stmt.specs.declared.loops.Counter.{Counter}
use Rattle.tp_check_stmt.specs.declared.loops.Count.{Count}

-- for `Gives`, what lies nowhere in memory
abbrev pub counter_itself : Counter → Counter
counter_itself one = one

-- of the routine that is open, or of the unit itself
abbrev pub IsNear : Variable → Type 0
IsNear one = (one.level ≡ 1) ⊎ ((one.level ≡ 0) × (one.unit ≡ 0))

abbrev pub is_near : Variable → Bool
is_near one = (one.level == 1) || ((one.level == 0) && (one.unit == 0))

abbrev pub HasOrder : Option TypeDef → Type 0
HasOrder (Some (type.Ordinal host low high)) = Unit {0}
HasOrder _ = ⊥

abbrev pub has_order : Option TypeDef → Bool
has_order (Some (type.Ordinal host low high)) = true
has_order _ = false

abbrev pub counter_of : List TypeDef → Place → Variable → TypeId → Judgement Counter
counter_of types place one ty =
    rule (broken place rules.Counted) (is_near one && has_order (definition types ty)) (IsNear one × HasOrder (definition types ty))
    (record { variable = one; ty = ty })

abbrev pub counter_entry : Environment → Place → Entry → Judgement Counter
counter_entry g place (entry.Var unit level number ty) = counter_of g.types.types place (variable g unit level number) ty
counter_entry g place _ = refuses (broken place rules.Counted)

-- a field is no variable by itself
abbrev pub counter_meant : Environment → Place → Option Feature → Option Meaning → Judgement Counter
counter_meant g place feature None = refuses (undeclared place feature)
counter_meant g place feature (Some (named n one)) = counter_entry g place one
counter_meant g place feature (Some (member n one)) = refuses (broken place rules.Counted)

-- the variable of a `for`, which stands at this place
unfoldable pub counter : Environment → Place → List ℕ → Judgement Counter
counter g place word = counter_meant g place (feature_of word) (find g word)

-- all that the predefined type holds by which an ordinal is stored
abbrev pub whole : Option TypeDef → Option TypeDef
whole (Some (type.Ordinal host low high)) = Some (type.Ordinal (storage_of host low high) (least_of (storage_of host low high)) (greatest_of (storage_of host low high)))
whole one = one

-- A bound joins the variable as what is assigned to it does. With `checked` it lies in the predefined type that stores the variable;
-- against the bounds of the variable's own type it is tested only where the loop turns, so not here.
abbrev pub bound_by : List TypeDef → Place → TypeId → Bool → Expression → Judgement Expression
bound_by types place ty checked e =
    rule (broken place rules.Assigned) (is_assignable types (sort_of_type types ty) (sort_of types e) ty (type_of e))
    (IsAssignable types (sort_of_type types ty) (sort_of types e) ty (type_of e))
    (assigned_by ty (whole (definition types ty)) (stored_of types e) checked e)

abbrev pub bound : Environment → Bool → TypeId → Tree → Judgement Expression
bound g checked ty tree = part (judged g tree) (λ e. bound_by g.types.types (place_of tree) ty checked e)

-- the variable and its bounds
pub record Counted : Type 0 where
  pub counter : Counter
  pub first : Expression
  pub last : Expression

abbrev pub view_count : Count → Counted
view_count one = record { counter = one.counter; first = view_expr one.first; last = view_expr one.last }

abbrev pub counted_from : Environment → Bool → Tree → Tree → Counter → Judgement Counted
counted_from g checked first last one = parts (bound g checked one.ty first) (bound g checked one.ty last) (λ a b. makes (record { counter = one; first = a; last = b }))

abbrev pub counted : Environment → Bool → Place → List ℕ → Tree → Tree → Judgement Counted
counted g checked place word first last = part (counter g place word) (counted_from g checked first last)

abbrev pub is_down : Direction → Bool
is_down direction.Up = false
is_down direction.Down = true
