-- Types, declarations and sources as they are written, without where they lie in memory, and without what no rule of typing looks at.
use Rattle.std.specs.Prelude.{Bool, List, Option}
use Rattle.tp_check_decl.specs.type_layout.declared.texts.Place.{Place}
use Rattle.tp_check_decl.specs.pascal_grammar.declared.lexeme.Position.{Position}
use Rattle.tp_check_decl.specs.syntax_tree.declared.identifier.Identifier.{Identifier}
use Rattle.tp_check_decl.specs.syntax_tree.declared.type_tree.parameter.NamedType.{NamedType}
use Rattle.tp_check_decl.specs.syntax_tree.expression_tree.Trees.{Tree}
use Rattle.tp_check_decl.specs.syntax_tree.statement_tree.Trees.{Tasks}

-- ---- headers

-- parameters of one type
pub record Group : Type 0 where
  pub by_ref : Bool
  pub names : List Identifier
  pub of_type : NamedType

pub data Sort : Type 0 where
  procedure : Sort
  function : Sort
  constructor : Sort
  destructor : Sort

-- the header of a routine or of a method
pub record Heading : Type 0 where
  pub sort : Sort
  pub position : Position
  pub name : Identifier
  pub groups : List Group
  pub result : Option NamedType

pub record Method : Type 0 where
  pub heading : Heading
  pub is_virtual : Bool

-- ---- types

mutual
  -- each with the place of its first lexeme, which may be `packed`
  pub data Denoter : Type 0 where
    named : Identifier → Denoter
    range : Tree → Tree → Denoter
    enumeration : Place → List Identifier → Denoter
    pointer : Identifier → Denoter
    string : Denoter
    sized : Place → Tree → Denoter
    procedural : Place → List Group → Denoter
    functional : Place → List Group → NamedType → Denoter
    object : Place → Option Identifier → Fields → List Method → Denoter
    array : Place → Denoters → Denoter → Denoter
    record_of : Place → Fields → Denoter
    set : Place → Denoter → Denoter

  -- the types of indexes
  pub data Denoters : Type 0 where
    no_denoters : Denoters
    and_denoter : Denoter → Denoters → Denoters

  -- groups of fields
  pub data Fields : Type 0 where
    no_fields : Fields
    and_fields : List Identifier → Denoter → Fields → Fields

-- ---- first values

mutual
  -- an expression, or what stands in parentheses, with the place of the first one
  pub data Initial : Type 0 where
    value : Tree → Initial
    list : Place → Initials → Initial
    fields : Place → Named → Initial

  -- values for the elements of an array
  pub data Initials : Type 0 where
    no_initials : Initials
    and_initial : Initial → Initials → Initials

  -- values for the fields of a record
  pub data Named : Type 0 where
    no_named : Named
    and_named : Identifier → Initial → Named → Named

-- ---- declarations

pub data Constant : Type 0 where
  plain : Identifier → Tree → Constant
  typed : Identifier → Denoter → Initial → Constant

pub record NamedDenoter : Type 0 where
  pub name : Identifier
  pub denoter : Denoter

pub record Variables : Type 0 where
  pub names : List Identifier
  pub denoter : Denoter

pub data Part : Type 0 where
  constants : List Constant → Part
  types : List NamedDenoter → Part
  variables : List Variables → Part

-- statements from `begin` to `end`
pub record Body : Type 0 where
  pub position : Position
  pub tasks : Tasks

mutual
  -- a header whose block stands further on; a routine with its block; a method of the object type that is named
  pub data Work : Type 0 where
    forward : Heading → Work
    routine : Heading → Works → Body → Work
    method : Heading → Identifier → Works → Body → Work

  pub data Works : Type 0 where
    no_works : Works
    and_part : Part → Works → Works
    and_work : Work → Works → Works

-- ---- sources

-- a declaration of an interface part
pub data Shown : Type 0 where
  part : Part → Shown
  heading : Heading → Shown

-- A program with the units that it uses; a unit with those that its interface part uses and those that its implementation part does.
pub data Source : Type 0 where
  program : List Identifier → Works → Body → Source
  unit : Position → Identifier → List Identifier → List Identifier → List Shown → Works → Option Body → Source
