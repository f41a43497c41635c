-- What the cells of variables and blocks hold in a run of a program.
use Rattle.std.specs.Prelude.{◌≡◌, ℕ, ◌+◌, ◌≤◌, ◌<◌, All, List, ◌++◌, IsTrue, slice_get, Option, Some, None, Ok}
use Rattle.tp_meaning.specs.type_layout.Storage.{holds}
use Rattle.tp_meaning.specs.typed_tree.declared.units.Program.{Program}
use Rattle.tp_meaning.specs.typed_tree.type_fits.Fits.{held_as}
use Rattle.tp_meaning.specs.common_values.Sets.{byte_of}
use Rattle.tp_meaning.specs.Trees.{Key, Value, Ordinal, Elements, Nil, Block, Code, Class, Tree, Leaf, Tip, Fork}
use Rattle.tp_meaning.specs.Programs.{Sort, class_key}
use Rattle.tp_meaning.specs.Activations.{Callee, callee_of}
use Rattle.store_typing.specs.types.Declared.{DeclaredHeader, declared_header}
use Rattle.store_typing.specs.types.Agreement.{IsUnit, IsKnown, IsOfLine}
use Rattle.store_typing.specs.types.Forms.{Held, Number, Members, Link, Routine, ClassOf, Form, Cell, End, Pair}

-- an object was made to hold what a type has, or to stand for a place that does, as a variable parameter
pub data Made : Type 0 where
  Own : (sort : Sort) → Made
  Alias : (sort : Sort) → Made

-- the program, and all objects that were made, by their serial numbers, those that are gone included
pub record World : Type 0 where
  pub program : Program
  pub made : List Made

-- a world to which objects came
pub record Grows (w v : World) : Type 0 where
  pub more : List Made
  pub is : v ≡ record { program = w.program; made = w.made ++ more }

-- ---- what a cell holds

-- a pointer leads to an object that was made as one of what was declared there, or of a descendant
pub record LeadsTo (w : World) (serial : ℕ) (target : Option Key) : Type 0 where
  pub sort : Sort
  pub known : IsKnown w.program sort
  pub made : slice_get w.made serial ≡ Some (Own sort)
  pub line : IsOfLine sort target

-- a routine of the program that may stand as a value, with a header
pub record IsCode (program : Program) (header : DeclaredHeader) (routine : Key) : Type 0 where
  pub callee : Callee
  pub found : callee_of program routine ≡ Ok callee
  pub listed : IsUnit program callee.unit
  pub same : header ≡ declared_header callee.unit.types callee.routine.header
  pub outermost : callee.routine.outer ≡ None
  pub free : callee.routine.owner ≡ None

-- the class of an instance is its own type or an ancestor
pub record IsClassOf (program : Program) (own : Option Key) (class : Key) : Type 0 where
  pub sort : Sort
  pub known : IsKnown program sort
  pub is : class_key sort ≡ own
  pub line : IsOfLine sort (Some class)

-- an element whose byte is one of so many from the first on
abbrev pub LiesWithin : ℕ → ℕ → ℕ → Type 0
LiesWithin first count element = (first ≤ byte_of element) × (byte_of element < first + count)

abbrev pub IsHeld : World → Held → Value → Type 0
IsHeld w (Number stored) (Ordinal z) = IsTrue (holds (held_as stored) z z)
IsHeld w (Members first count) (Elements set) = All (LiesWithin first count) set
IsHeld w (Link target) Nil = Unit {0}
IsHeld w (Link target) (Block serial) = LeadsTo w serial target
IsHeld w (Routine header) (Code routine) = IsCode w.program header routine
IsHeld w (ClassOf own) (Class None) = Unit {0}
IsHeld w (ClassOf own) (Class (Some class)) = IsClassOf w.program own class
IsHeld w held v = ⊥

-- a cell that is unset is one of every type
abbrev pub IsCell : World → Held → Option Value → Type 0
IsCell w held None = Unit {0}
IsCell w held (Some v) = IsHeld w held v

-- the tree has a form
abbrev pub HasForm : World → Form → Tree → Type 0
HasForm w (Cell held) (Leaf cell) = IsCell w held cell
HasForm w End Tip = Unit {0}
HasForm w (Pair first rest) (Fork head tail) = HasForm w first head × HasForm w rest tail
HasForm w form tree = ⊥
