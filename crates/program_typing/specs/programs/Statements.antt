-- What the statements of a unit refer to beyond what its own tables say.
use Rattle.std.specs.Prelude.{◌≡◌, true, All, Option, Some, None, is_some}
use Rattle.well_formed.specs.type_layout.declared.definitions.TypeId.{TypeId}
use Rattle.well_formed.specs.type_layout.declared.definitions.Header.{Header}
use Rattle.well_formed.specs.typed_tree.declared.statements.Destructor.{Destructor}
use Rattle.well_formed.specs.typed_tree.declared.statements.Destructor.TheVariants as destructor
use Rattle.well_formed.specs.typed_tree.Expressions.{Expression, Arguments}
use Rattle.well_formed.specs.typed_tree.Statements.{Statement, Statements, Arms, Written, Taken, Assign, CopyAll, Run, If, While, Repeat, Block, Case, For, With, WriteItems, ReadItems, Halt, Exit, Unmake, NoStatements, Then, NoArms, Branch}
use Rattle.well_formed.specs.Scopes.{Scope}
use Rattle.well_formed.specs.Typed.{TakeEach}
use Rattle.well_formed.specs.WellFormed.{IsStatement, AreStatements, AreArms, IsWidth, IsWritten, IsTaken, within}
use Rattle.store_typing.specs.tp_meaning.Shapes.{parts_at, class_place}
use Rattle.program_typing.specs.lvalues.Frames.{NamesGlobal}
use Rattle.program_typing.specs.programs.References.{Site, IsOwned, CallsNumber, CallsSlot, Refers, RefersPlace, RefersTaken}

abbrev pub RefersWidth : (site : Site) (s : Scope) (width : Option Expression) → IsWidth s width → Type 0
RefersWidth site s None h = Unit {0}
RefersWidth site s (Some width) h = Refers site s width h.0

pub record RefersWritten (site : Site) (s : Scope) (item : Written) : Type 0 where
  pub is : IsWritten s item
  pub value : Refers site s item.value is.value
  pub width : RefersWidth site s item.width is.width

pub record RefersRead (site : Site) (s : Scope) (item : Taken) : Type 0 where
  pub is : IsTaken s item
  pub place : RefersPlace site s item.at item.ty is.place

-- a header takes the arguments
abbrev pub TakesAll : Site → Scope → Arguments → Header → Type 0
TakesAll site s args header = (takes : TakeEach s header.params args) × RefersTaken site s header.params args takes

abbrev pub RefersDestructor : Site → Scope → TypeId → Destructor → Arguments → Type 0
RefersDestructor site s class (destructor.Routine routine) args = CallsNumber site routine (IsOwned site class) (TakesAll site s args)
RefersDestructor site s class (destructor.Slot slot checked) args = CallsSlot site class slot (TakesAll site s args)

-- Each node beside how it is typed.
abbrev mutual
  pub RefersStatement : (site : Site) (s : Scope) (statement : Statement) → IsStatement s statement → Type 0
  RefersStatement site s (Assign at value) h = RefersPlace site s at h.ty h.place × Refers site s value h.typed
  RefersStatement site s (CopyAll to from) h = RefersPlace site s to h.ty h.target × RefersPlace site s from h.given h.source
  RefersStatement site s (Run call) h = Refers site s call h.0
  RefersStatement site s (If condition taken otherwise) h =
      Refers site s condition h.0.0 × RefersStatement site s taken h.1 × RefersStatement site s otherwise h.2
  RefersStatement site s (While condition body) h = Refers site s condition h.0.0 × RefersStatement site s body h.1
  RefersStatement site s (Repeat body condition) h = RefersStatement site s body h.0 × Refers site s condition h.1.0
  RefersStatement site s (Block statements) h = RefersStatements site s statements h
  RefersStatement site s (Case selector arms other) h =
      Refers site s selector h.0 × RefersArms site s arms h.2 × RefersStatement site s other h.3
  RefersStatement site s (For variable ty from to down checked body) h =
      NamesGlobal site.program site.unit variable ty × Refers site s from h.0.first × Refers site s to h.0.last × RefersStatement site s body h.1
  RefersStatement site s (With at body) h = RefersPlace site s at h.0 h.1 × RefersStatement site (within s h.0) body h.3
  RefersStatement site s (WriteItems items line) h = All (RefersWritten site s) items
  RefersStatement site s (ReadItems items line) h = All (RefersRead site s) items
  RefersStatement site s (Halt code) h = Refers site s code h.0
  RefersStatement site s Exit h = Unit {0}
  RefersStatement site s (Unmake pointer with args) h =
      (is_some (class_place (parts_at site.unit.types.types h.class)) ≡ true) × Refers site s pointer h.typed × RefersDestructor site s h.class with args

  pub RefersStatements : (site : Site) (s : Scope) (statements : Statements) → AreStatements s statements → Type 0
  RefersStatements site s NoStatements h = Unit {0}
  RefersStatements site s (Then one rest) h = RefersStatement site s one h.0 × RefersStatements site s rest h.1

  pub RefersArms : (site : Site) (s : Scope) (arms : Arms) → AreArms s arms → Type 0
  RefersArms site s NoArms h = Unit {0}
  RefersArms site s (Branch labels body rest) h = RefersStatement site s body h.1 × RefersArms site s rest h.2
