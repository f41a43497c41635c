-- Calls through variables that hold routines.
use Rattle.std.specs.Prelude.{Bool, false, List, [], Option, Some, None}
use Rattle.type_layout.specs.declared.definitions.TypeId.{TypeId}
use Rattle.type_layout.specs.declared.definitions.Header.{Header}
use Rattle.type_layout.specs.declared.definitions.TypeDef.{TypeDef}
use Rattle.type_layout.specs.declared.definitions.TypeDef.TheVariants as type
use Rattle.type_layout.specs.declared.texts.Place.{Place}
use Rattle.typed_tree.specs.Expressions as tree
use Rattle.typed_tree.specs.Expressions.{Expression, Load, CallThrough, view_place}
use Rattle.typed_tree.specs.type_fits.Fits.{definition}
use Rattle.typing_rules.specs.declared.faults.Rule.TheVariants as rules
use Rattle.typing_rules.specs.Faults.{broken}
use Rattle.typing_rules.specs.Judgements.{Judgement, makes, refuses, part}
use Rattle.call_rules.specs.Given.{given, arguments_of}
use Rattle.call_rules.specs.declared.procedural_rules.through.HeldRoutine.{HeldRoutine}

-- where a routine is held, and the header of what it may hold
pub record Held : Type 0 where
  pub header : Header
  pub at : tree.Place

abbrev pub view_held : HeldRoutine → Held
view_held one = record { header = one.header.now; at = view_place one.place }

abbrev pub held_to : Header → tree.Place → Held
held_to header at = record { header = header; at = at }

-- ---- what is called

abbrev pub held_by : Place → tree.Place → Option TypeDef → Judgement Held
held_by place at (Some (type.Procedural header)) = makes (held_to header at)
held_by place at _ = refuses (broken place rules.Stands)

abbrev pub held_of : List TypeDef → Place → Expression → Judgement Held
held_of types place (Load ty at) = held_by place at (definition types ty)
held_of types place e = refuses (broken place rules.Stands)

-- what stands before arguments is a variable of a procedural type
unfoldable pub held_routine : List TypeDef → Place → Expression → Judgement Held
held_routine types place e = held_of types place e

-- ---- calls

abbrev pub through : List TypeDef → Place → Bool → Held → Option TypeId → List Expression → Judgement Expression
through types place checked one ty es = part (given types place checked one.header.params es) (λ all. makes (CallThrough ty one.at (arguments_of all)))

-- a function gives a value; a procedure stands in no expression
abbrev pub result_through : List TypeDef → Place → Bool → Held → Option TypeId → List Expression → Judgement Expression
result_through types place checked one None es = refuses (broken place rules.Stands)
result_through types place checked one (Some ty) es = through types place checked one (Some ty) es

-- The call of a held function at a place. With `checked`, values that are handed over lie within the bounds of their parameters.
unfoldable pub called_through : List TypeDef → Place → Bool → Held → List Expression → Judgement Expression
called_through types place checked one es = result_through types place checked one one.header.result es

-- a procedure is a statement; a function stands for a value alone
abbrev pub result_performed : List TypeDef → Place → Bool → Held → Option TypeId → List Expression → Judgement Expression
result_performed types place checked one None es = through types place checked one None es
result_performed types place checked one (Some ty) es = refuses (broken place rules.Stands)

-- the call of a held procedure, in the same way
unfoldable pub performed_through : List TypeDef → Place → Bool → Held → List Expression → Judgement Expression
performed_through types place checked one es = result_performed types place checked one one.header.result es

-- ---- what a variable is for its value

abbrev pub settled_by : List TypeDef → Place → TypeId → tree.Place → Option TypeDef → Judgement Expression
settled_by types place ty at (Some (type.Procedural header)) = called_through types place false (held_to header at) []
settled_by types place ty at _ = makes (Load ty at)

abbrev pub settled_of : List TypeDef → Place → Expression → Judgement Expression
settled_of types place (Load ty at) = settled_by types place ty at (definition types ty)
settled_of types place e = makes e

-- What stands in an expression: a variable of a procedural type is a call, without arguments, of what it holds.
unfoldable pub settled : List TypeDef → Place → Expression → Judgement Expression
settled types place e = settled_of types place e
