-- What the expressions of a body give.
use Rattle.std.specs.Prelude.{ℕ, List, map}
use Rattle.program_typing.specs.type_layout.declared.definitions.TypeId.{TypeId}
use Rattle.program_typing.specs.type_layout.declared.definitions.Param.{Param}
use Rattle.program_typing.specs.typed_tree.declared.units.Program.{Program}
use Rattle.program_typing.specs.typed_tree.Expressions.{Expression, Place, Arguments, type_of}
use Rattle.program_typing.specs.well_formed.Scopes.{Others}
use Rattle.program_typing.specs.well_formed.Typed.{IsTyped, HasPlace, TakeEach}
use Rattle.program_typing.specs.tp_meaning.Programs.{sort_in}
use Rattle.program_typing.specs.tp_meaning.Outcomes.{State}
use Rattle.program_typing.specs.tp_meaning.Activations.{Activation}
use Rattle.program_typing.specs.tp_meaning.Calls.{Runs}
use Rattle.program_typing.specs.tp_meaning.Standard.{handed}
use Rattle.program_typing.specs.tp_meaning.Expressions.{value, place, operands}
use Rattle.program_typing.specs.store_typing.stores.Worlds.{Made}
use Rattle.program_typing.specs.store_typing.stores.Places.{IsAt}
use Rattle.program_typing.specs.calls.Callees.{AreTaken}
use Rattle.program_typing.specs.lvalues.Frames.{IsActive}
use Rattle.program_typing.specs.programs.Outcomes.{IsTypedState, world, Ends}
use Rattle.program_typing.specs.programs.References.{Site, Refers, RefersPlace, RefersTaken}
use Rattle.program_typing.specs.programs.Tasks.{scope_with}
use Rattle.program_typing.specs.programs.Calls.{GivesAs}

abbrev pub site_of : Program → Activation → ℕ → Site
site_of program f number = record { program = program; unit = f.unit; number = number }

-- In a typed state, and in the activation of the body of a routine with a number inside these `with`s, whatever its unit supposes of others:
pub record ExpressionLaws (program : Program) (again : Runs) (made : List Made) (f : Activation) (number : ℕ) (withs : List TypeId) (others : Others) (s : State) : Type 0 where
  -- an expression gives a value of its type
  pub values : (e : Expression) (h : IsTyped (scope_with others (site_of program f number) withs) e) → Refers (site_of program f number) (scope_with others (site_of program f number) withs) e h
      → Ends (world program made) (GivesAs f.unit (type_of e)) (value program again f e s)
  -- a place is one of its type
  pub places : (at : Place) (ty : TypeId) (h : HasPlace (scope_with others (site_of program f number) withs) at ty) → RefersPlace (site_of program f number) (scope_with others (site_of program f number) withs) at ty h
      → Ends (world program made) (λ w to. IsAt w to (sort_in f.unit ty)) (place program again f at s)
  -- and arguments are as the parameters take them
  pub arguments : (params : List Param) (args : Arguments) (h : TakeEach (scope_with others (site_of program f number) withs) params args) → RefersTaken (site_of program f number) (scope_with others (site_of program f number) withs) params args h
      → Ends (world program made) (λ w xs. AreTaken w f.unit params (map handed xs)) (operands program again f args s)

abbrev pub HasExpressionLaws : Program → Runs → Type 0
HasExpressionLaws program again = (made : List Made) (f : Activation) (number : ℕ) (withs : List TypeId) (others : Others) (s : State) → IsActive (world program made) f number withs → IsTypedState (world program made) s
    → ExpressionLaws program again made f number withs others s
