-- New and Dispose with a constructor or a destructor.
use Rattle.std.specs.Prelude.{Bool, true, false, cond, ℕ, List, Option, Some, None}
use Rattle.type_layout.specs.declared.definitions.TypeId.{TypeId}
use Rattle.type_layout.specs.declared.definitions.RoutineId.{RoutineId}
use Rattle.type_layout.specs.declared.definitions.Kind.{Kind}
use Rattle.type_layout.specs.declared.definitions.Kind.TheVariants as kind
use Rattle.type_layout.specs.declared.definitions.Header.{Header}
use Rattle.type_layout.specs.declared.definitions.Method.{Method}
use Rattle.type_layout.specs.declared.definitions.TypeDef.{TypeDef}
use Rattle.type_layout.specs.declared.definitions.TypeDef.TheVariants as type
use Rattle.type_layout.specs.declared.texts.Place.{Place}
use Rattle.typed_tree.specs.declared.statements.Destructor.{Destructor}
use Rattle.typed_tree.specs.declared.statements.Destructor.TheVariants as destructor
use Rattle.typed_tree.specs.Expressions.{Expression, NoArguments, Std, Make}
use Rattle.typed_tree.specs.Statements.{Statement, Unmake}
use Rattle.typed_tree.specs.Standard as routine
use Rattle.typed_tree.specs.type_fits.Fits.{definition}
use Rattle.scopes.specs.Environment.{Environment}
use Rattle.typing_rules.specs.declared.faults.Rule.TheVariants as rules
use Rattle.typing_rules.specs.Faults.{broken}
use Rattle.typing_rules.specs.Judgements.{Judgement, makes, refuses, part}
use Rattle.typing_rules.specs.Selectors.{target_in, target_of}
use Rattle.call_rules.specs.Given.{given, arguments_of}
use Rattle.call_rules.specs.declared.method_rules.methods.Callee.{Callee}
use Rattle.call_rules.specs.declared.method_rules.methods.Callee.TheVariants as callee
use Rattle.call_rules.specs.method_rules.Methods.{method_in, routine_named, callee_of}
use Rattle.call_rules.specs.declared.allocation_rules.constructors.BoundConstructor.{BoundConstructor}
use Rattle.call_rules.specs.declared.allocation_rules.destructors.BoundDestructor.{BoundDestructor}

-- ---- constructors and destructors of a class

abbrev pub is_constructor : Kind → Bool
is_constructor kind.Constructor = true
is_constructor _ = false

abbrev pub is_destructor : Kind → Bool
is_destructor kind.Destructor = true
is_destructor _ = false

abbrev pub of_kind : (Kind → Bool) → Option Method → Option Method
of_kind test None = None
of_kind test (Some method) = cond (test method.header.kind) (Some method) None

-- the method of this name that a class has, if it is of a kind; nothing of a type that is no object
abbrev pub member_at : (Kind → Bool) → List TypeDef → Option TypeId → List ℕ → Option Method
member_at test types None name = None
member_at test types (Some class) name = of_kind test (method_in types class name)

-- ---- New

-- New is also a function of a pointer type
abbrev pub blank_by : Place → TypeId → Option TypeDef → Judgement Expression
blank_by place ty (Some (type.PointerTo target)) = makes (Std (Some ty) routine.new NoArguments)
blank_by place ty _ = refuses (broken place rules.Called)

-- a new block for what a pointer type points to, without a constructor
unfoldable pub blank : List TypeDef → Place → TypeId → Judgement Expression
blank types place ty = blank_by place ty (definition types ty)

-- a constructor that is called on a new block
pub record Maker : Type 0 where
  pub header : Header
  pub routine : RoutineId

abbrev pub view_maker : BoundConstructor → Maker
view_maker one = record { header = one.header.now; routine = one.routine }

abbrev pub maker_of : Header → RoutineId → Maker
maker_of header routine = record { header = header; routine = routine }

abbrev pub constructor_by : Environment → Place → Option Method → Judgement Maker
constructor_by g place None = refuses (broken place rules.Allocating)
constructor_by g place (Some method) = part (routine_named g place method) (λ routine. makes (maker_of method.header routine))

-- the constructor of this name of what a pointer type points to
unfoldable pub constructor : Environment → Place → TypeId → List ℕ → Judgement Maker
constructor g place ty name = constructor_by g place (member_at is_constructor g.types.types (target_in g.types.types (Some ty)) name)

-- A new block for what a pointer type points to, on which a constructor is called. With `checked`, values that are handed over lie
-- within the bounds of their parameters.
unfoldable pub made : List TypeDef → Place → Bool → TypeId → Maker → List Expression → Judgement Expression
made types place checked ty one es = part (given types place checked one.header.params es) (λ all. makes (Make ty one.routine (arguments_of all)))

-- what stands behind the type in New is a constructor of it
abbrev pub newly_made : Place → Expression → Judgement Expression
newly_made place (Make ty routine args) = makes (Make ty routine args)
newly_made place e = refuses (broken place rules.Allocating)

-- ---- Dispose

-- a destructor that is called on a block before it is freed
pub record Unmaker : Type 0 where
  pub header : Header
  pub callee : Callee

abbrev pub view_unmaker : BoundDestructor → Unmaker
view_unmaker one = record { header = one.header.now; callee = one.callee }

abbrev pub unmaker_of : Header → Callee → Unmaker
unmaker_of header callee = record { header = header; callee = callee }

abbrev pub destructor_in : Environment → Place → TypeId → List ℕ → Option Method → Judgement Unmaker
destructor_in g place class name None = refuses (broken place rules.Allocating)
destructor_in g place class name (Some method) = part (callee_of g place class name method) (λ one. makes (unmaker_of method.header one))

abbrev pub destructor_by : Environment → Place → List ℕ → Option TypeId → Judgement Unmaker
destructor_by g place name None = refuses (broken place rules.Allocating)
destructor_by g place name (Some class) = destructor_in g place class name (member_at is_destructor g.types.types (Some class) name)

-- the destructor of this name of what a pointer points to
unfoldable pub destructor_of : Environment → Place → Expression → List ℕ → Judgement Unmaker
destructor_of g place e name = destructor_by g place name (target_of g.types.types e)

abbrev pub destructor_as : Bool → Callee → Destructor
destructor_as checked (callee.Routine routine) = destructor.Routine routine
destructor_as checked (callee.Slot slot) = destructor.Slot slot checked

-- A destructor is called on what a pointer points to, and the block freed. With `checked`, an object without a class is an error of
-- a virtual destructor's call.
unfoldable pub unmade : List TypeDef → Place → Bool → Expression → Unmaker → List Expression → Judgement Statement
unmade types place checked e one es =
    part (given types place checked one.header.params es) (λ all. makes (Unmake e (destructor_as checked one.callee) (arguments_of all)))
