-- Members of objects and records, names as expressions, and what may stand before arguments in parentheses.
use Rattle.std.specs.Prelude.{ℕ, Bool, false, cond, List, [], Option, Some, None, is_some}
use Rattle.type_layout.specs.declared.definitions.TypeId.{TypeId}
use Rattle.type_layout.specs.declared.definitions.TypeDef.{TypeDef}
use Rattle.type_layout.specs.declared.definitions.Param.{Param}
use Rattle.type_layout.specs.declared.texts.Place.{Place}
use Rattle.pascal_grammar.specs.declared.lexeme.Position.{Position}
use Rattle.typed_tree.specs.Expressions.{Expression, Load, Var}
use Rattle.scopes.specs.declared.entries.Entry.{Entry}
use Rattle.scopes.specs.declared.entries.Entry.TheVariants as entry
use Rattle.scopes.specs.Environment.{Environment, Meaning, named, member, find, kind_of}
use Rattle.tp_lexer.specs.declared.token.Feature.{Feature}
use Rattle.tp_lexer.specs.left_out_names.Names.{feature_of}
use Rattle.typing_rules.specs.declared.faults.Rule.TheVariants as rule
use Rattle.typing_rules.specs.Faults.{broken, undeclared}
use Rattle.typing_rules.specs.Judgements.{Judgement, makes, refuses, either, part}
use Rattle.typing_rules.specs.Selectors.{selected}
use Rattle.call_rules.specs.Casts.{cast}
use Rattle.call_rules.specs.Given.{called}
use Rattle.call_rules.specs.standard_rules.Standard.{is_special, standard}
use Rattle.call_rules.specs.method_rules.Methods.{Bound, view_bound, method_in, bound}
use Rattle.call_rules.specs.method_rules.Calls.{called_on}
use Rattle.call_rules.specs.allocation_rules.Allocations.{Maker, view_maker, constructor, made}
use Rattle.syntax_tree.specs.expression_tree.Trees.{Tree, name}
use Rattle.call_rules.specs.procedural_rules.Through.{Held, view_held, held_routine, called_through}
use Rattle.tp_check_expr.specs.declared.names.Purpose.{Purpose}
use Rattle.tp_check_expr.specs.declared.names.Purpose.TheVariants as purpose
use Rattle.tp_check_expr.specs.declared.calls.CallTarget.{CallTarget}
use Rattle.tp_check_expr.specs.declared.calls.CallTarget.TheVariants as target
use Rattle.tp_check_expr.specs.Names.{variable, as_wanted, entered}
use Rattle.tp_check_expr.specs.Owners.{owner_in}

-- ---- members

abbrev pub is_method_of : List TypeDef → Expression → List ℕ → Bool
is_method_of types (Load ty at) word = is_some (method_in types ty word)
is_method_of types e word = false

-- a method without arguments is called, and is no value of a procedural type
abbrev pub method_wanted : List TypeDef → Position → Purpose → Bound → Judgement Expression
method_wanted types here (purpose.Routine ty fault) one = refuses (broken here.place rule.RoutineValue)
method_wanted types here _ one = called_on types here.place here.switches.r one []

-- a member of an object or a record, without arguments
abbrev pub chosen : Environment → Position → Purpose → Expression → List ℕ → Judgement Expression
chosen g here for e word =
    either (is_method_of g.types.types e word) (part (bound g here.place e word) (λ one. method_wanted g.types.types here for one))
    (part (selected g.types.types here.place e word) (λ x. as_wanted g.types.types here.place for x))

-- ---- names

-- a member that is known in a block, of what has it
abbrev pub opened : Environment → Position → Purpose → Option Expression → List ℕ → Judgement Expression
opened g here for None word = refuses (broken here.place rule.Stands)
opened g here for (Some owner) word = chosen g here for owner word

abbrev pub meant : Environment → Position → Purpose → List ℕ → Option Feature → Option Meaning → Judgement Expression
meant g here for word feature None = refuses (undeclared here.place feature)
meant g here for word feature (Some (named number one)) = entered g here for one
meant g here for word feature (Some (member number one)) = opened g here for (owner_in g number (kind_of g number)) word

-- a constructor without arguments, behind the type in a New that stands at a place
unfoldable pub constructor_named : Environment → Position → TypeId → Place → List ℕ → Judgement Expression
constructor_named g here ty place word = part (constructor g place ty word) (λ one. made g.types.types here.place here.switches.r ty one [])

abbrev pub name_for : Environment → Position → Purpose → List ℕ → Judgement Expression
name_for g here (purpose.Constructor ty place) word = constructor_named g here ty place word
name_for g here for word = meant g here for word (feature_of word) (find g word)

-- a name as an expression
unfoldable pub name_judged : Environment → Position → Purpose → List ℕ → Judgement Expression
name_judged g here for word = name_for g here for word

-- ---- what stands before arguments

-- what is declared under a name; a method with its object; a variable that holds a routine; or a constructor for a new block, behind
-- a pointer type in a New
pub data Callable : Type 0 where
  declared : Entry → Callable
  method : Bound → Callable
  through : Held → Callable
  maker : TypeId → Maker → Callable

abbrev pub view_callable : CallTarget → Callable
view_callable (target.Declared one) = declared one.now
view_callable (target.Method one) = method (view_bound one)
view_callable (target.Through one) = through (view_held one)
view_callable (target.Making ty one) = maker ty (view_maker one)

abbrev pub entered_by : List TypeDef → Place → Expression → Judgement Callable
entered_by types place e = part (held_routine types place e) (λ one. makes (through one))

-- a member of an object or a record, selected at a place, in a call that begins at another
abbrev pub member_callable : Environment → Place → Place → Expression → List ℕ → Judgement Callable
member_callable g place here e word =
    either (is_method_of g.types.types e word) (part (bound g here e word) (λ one. makes (method one)))
    (part (selected g.types.types here e word) (λ x. entered_by g.types.types place x))

abbrev pub callable_entry : Environment → Place → Entry → Judgement Callable
callable_entry g place (entry.Const ty value) = refuses (broken place rule.Stands)
callable_entry g place (entry.Var unit level number ty) = entered_by g.types.types place (Load ty (Var (variable g unit level number)))
callable_entry g place one = makes (declared one)

abbrev pub callable_member : Environment → Place → Option Expression → List ℕ → Judgement Callable
callable_member g place None word = refuses (broken place rule.Stands)
callable_member g place (Some owner) word = member_callable g place place owner word

abbrev pub callable_meant : Environment → Place → List ℕ → Option Feature → Option Meaning → Judgement Callable
callable_meant g place word feature None = refuses (undeclared place feature)
callable_meant g place word feature (Some (named number one)) = callable_entry g place one
callable_meant g place word feature (Some (member number one)) = callable_member g place (owner_in g number (kind_of g number)) word

unfoldable pub callable_name : Environment → Place → List ℕ → Judgement Callable
callable_name g place word = callable_meant g place word (feature_of word) (find g word)

-- ---- calls

abbrev pub params_of_entry : Entry → List Param
params_of_entry (entry.Code routine level header far) = header.params
params_of_entry _ = []

-- the parameters of what is called, where these say what is wanted of arguments
abbrev pub params_of : Callable → List Param
params_of (declared one) = params_of_entry one
params_of (method one) = one.header.params
params_of (through one) = one.header.params
params_of (maker ty one) = one.header.params

-- a type converts its operand, and a function is called
abbrev pub called_with : List TypeDef → Position → Entry → List Expression → Judgement Expression
called_with types here (entry.Ty ty) es = cast types here.place ty es
called_with types here (entry.Code routine level header far) es = called types here.place here.switches.r routine header es
called_with types here (entry.Std number) es = standard types here.place number es
called_with types here _ es = refuses (broken here.place rule.Stands)

-- what is called with these arguments
abbrev pub target_called : List TypeDef → Position → Callable → List Expression → Judgement Expression
target_called types here (declared one) es = called_with types here one es
target_called types here (method one) es = called_on types here.place here.switches.r one es
target_called types here (through one) es = called_through types here.place here.switches.r one es
target_called types here (maker ty one) es = made types here.place here.switches.r ty one es

-- the number of a standard function that takes types
abbrev pub special_of : Callable → Option ℕ
special_of (declared (entry.Std number)) = cond (is_special number) (Some number) None
special_of _ = None

-- only a name is a constructor's
abbrev pub constructor_at : Environment → TypeId → Place → Tree → Judgement Callable
constructor_at g ty place (name at word) = part (constructor g place ty word) (λ one. makes (maker ty one))
constructor_at g ty place callee = refuses (broken place rule.Allocating)

-- what stands before arguments, behind the type in a New or elsewhere
abbrev pub target_for : Environment → Purpose → Tree → Judgement Callable → Judgement Callable
target_for g (purpose.Constructor ty place) callee otherwise = constructor_at g ty place callee
target_for g for callee otherwise = otherwise

abbrev pub applied_by : Option ℕ → Judgement (List Expression) → (ℕ → Judgement Expression) → (List Expression → Judgement Expression) → Judgement Expression
applied_by None values special call = part values call
applied_by (Some number) values special call = special number

-- What is made of a call with these arguments. Those that take types are called with them.
abbrev pub applied : List TypeDef → Position → Callable → Judgement (List Expression) → (ℕ → Judgement Expression) → Judgement Expression
applied types here one values special = applied_by (special_of one) values special (target_called types here one)
