-- Typed units without where their statements lie in memory.
use Rattle.std.specs.Prelude.{ℕ, Bool, true, List, [], map, Option, None}
use Rattle.type_layout.specs.declared.definitions.TypeId.{TypeId}
use Rattle.type_layout.specs.declared.definitions.Header.{Header}
use Rattle.type_layout.specs.declared.definitions.Kind.TheVariants as kind
use Rattle.type_layout.specs.Table.{Table}
use Rattle.typed_tree.specs.declared.units.Global.{Global}
use Rattle.typed_tree.specs.declared.units.Item.{Item}
use Rattle.typed_tree.specs.declared.units.Routine as code
use Rattle.typed_tree.specs.declared.units.Unit as typed
use Rattle.typed_tree.specs.Statements.{Statement, view_stmt}
use Rattle.scopes.specs.Environment.{Environment}
use Rattle.tp_check_decl.specs.declared.fronts.Front.{Front}
use Rattle.tp_check_decl.specs.declared.routines.drafts.Announced.{Announced}
use Rattle.tp_check_decl.specs.routines.Drafts.{Done}

pub record Finished : Type 0 where
  pub name : List ℕ
  pub header : Header
  pub owner : Option TypeId
  pub outer : Option ℕ
  pub far : Bool
  pub locals : List TypeId
  pub body : Statement

abbrev pub view_routine : code.Routine → Finished
view_routine one = record {
  name = one.name;
  header = one.header;
  owner = one.owner;
  outer = one.outer;
  far = one.far;
  locals = one.locals;
  body = view_stmt one.body;
}

pub record Whole : Type 0 where
  pub name : List ℕ
  pub names : List (List ℕ)
  pub types : Table
  pub items : List Item
  pub globals : List Global
  pub routines : List Finished
  pub initial : Option ℕ
  pub uses : List (List ℕ)
  pub overlayable : Bool
  pub overlaid : List (List ℕ)
  pub stack : ℕ
  pub heap : ℕ

abbrev pub view_unit : typed.Unit → Whole
view_unit one = record {
  name = one.name;
  names = one.names;
  types = one.types;
  items = one.items;
  globals = one.globals;
  routines = map view_routine one.routines;
  initial = one.initial;
  uses = one.uses;
  overlayable = one.overlayable;
  overlaid = one.overlaid;
  stack = one.stack;
  heap = one.heap;
}

-- a routine with its block
abbrev pub finished : Announced → Done → Finished
finished first done = record {
  name = first.name;
  header = first.header;
  owner = first.owner;
  outer = first.outer;
  far = first.far;
  locals = done.locals;
  body = done.body;
}

-- a main or initialisation part: a far procedure without parameters and variables, with the name of its unit
abbrev pub main_part : List ℕ → Statement → Finished
main_part name body = record {
  name = name;
  header = record { kind = kind.Procedure; params = []; result = None };
  owner = None;
  outer = None;
  far = true;
  locals = [];
  body = body;
}

-- a unit of what its clauses and directives say, of what is known at its end, and of what it declares
abbrev pub whole : List ℕ → Front → Environment → List Item → List Global → List Finished → Option ℕ → Whole
whole name front g items globals routines initial = record {
  name = name;
  names = g.units;
  types = g.types;
  items = items;
  globals = globals;
  routines = routines;
  initial = initial;
  uses = front.uses;
  overlayable = front.overlayable;
  overlaid = front.overlaid;
  stack = front.stack;
  heap = front.heap;
}
