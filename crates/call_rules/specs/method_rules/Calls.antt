-- Calls of methods.
use Rattle.std.specs.Prelude.{Bool, List, Option, Some, None}
use Rattle.type_layout.specs.declared.definitions.TypeId.{TypeId}
use Rattle.type_layout.specs.declared.definitions.TypeDef.{TypeDef}
use Rattle.type_layout.specs.declared.texts.Place.{Place}
use Rattle.typed_tree.specs.Expressions as tree
use Rattle.typed_tree.specs.Expressions.{Expression, Arguments, Call, CallVirtual, Own}
use Rattle.typing_rules.specs.declared.faults.Rule.TheVariants as rules
use Rattle.typing_rules.specs.Faults.{broken}
use Rattle.typing_rules.specs.Judgements.{Judgement, makes, refuses, part}
use Rattle.call_rules.specs.Given.{given, arguments_of}
use Rattle.call_rules.specs.declared.method_rules.methods.Callee.{Callee}
use Rattle.call_rules.specs.declared.method_rules.methods.Callee.TheVariants as callee
use Rattle.call_rules.specs.method_rules.Methods.{Bound}

-- With `checked`, an object without a class is an error of a call by its slot.
abbrev pub node_of : Callee → tree.Place → Option TypeId → Bool → Arguments → Expression
node_of (callee.Routine routine) own ty checked args = Call ty routine (Own own) args
node_of (callee.Slot slot) own ty checked args = CallVirtual ty own slot checked args

abbrev pub call_of : List TypeDef → Place → Bool → Bound → Option TypeId → List Expression → Judgement Expression
call_of types place checked one ty es = part (given types place checked one.header.params es) (λ all. makes (node_of one.callee one.own ty checked (arguments_of all)))

-- a function gives a value; procedures, constructors and destructors stand in no expression
abbrev pub result_called : List TypeDef → Place → Bool → Bound → Option TypeId → List Expression → Judgement Expression
result_called types place checked one None es = refuses (broken place rules.Stands)
result_called types place checked one (Some ty) es = call_of types place checked one (Some ty) es

-- The call of a method at a place, for its value. With `checked`, values that are handed over lie within the bounds of their
-- parameters.
unfoldable pub called_on : List TypeDef → Place → Bool → Bound → List Expression → Judgement Expression
called_on types place checked one es = result_called types place checked one one.header.result es

-- they are statements; a function stands for a value alone
abbrev pub result_performed : List TypeDef → Place → Bool → Bound → Option TypeId → List Expression → Judgement Expression
result_performed types place checked one None es = call_of types place checked one None es
result_performed types place checked one (Some ty) es = refuses (broken place rules.Stands)

-- the call of a method as a statement, in the same way
unfoldable pub performed_on : List TypeDef → Place → Bool → Bound → List Expression → Judgement Expression
performed_on types place checked one es = result_performed types place checked one one.header.result es
