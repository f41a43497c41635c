-- What a node of the grammar's tree means: one of these, and of a few kinds of nodes two.
use Rattle.std.specs.Prelude.{ℕ, zero, suc, ℤ, pos, Bool, false, List, [], ◌∷◌, Option, None}
use Rattle.tp_check_decl.specs.pascal_grammar.declared.lexeme.Position.{Position}
use Rattle.tp_check_decl.specs.pascal_grammar.declared.operator.Sign.{Sign}
use Rattle.tp_check_decl.specs.pascal_grammar.declared.operator.Sign.TheVariants as sign
use Rattle.tp_check_decl.specs.pascal_grammar.declared.operator.Direction.{Direction}
use Rattle.tp_check_decl.specs.pascal_grammar.declared.operator.Direction.TheVariants as direction
use Rattle.tp_check_decl.specs.typed_tree.declared.expressions.BinaryOp.{BinaryOp}
use Rattle.tp_check_decl.specs.typed_tree.declared.expressions.BinaryOp.TheVariants as binary
use Rattle.tp_check_decl.specs.syntax_tree.declared.identifier.Identifier.{Identifier}
use Rattle.tp_check_decl.specs.syntax_tree.declared.expression.PlacedSign.{PlacedSign}
use Rattle.tp_check_decl.specs.syntax_tree.declared.type_tree.parameter.NamedType.{NamedType}
use Rattle.tp_check_decl.specs.syntax_tree.declared.type_tree.parameter.NamedType.TheVariants as n
use Rattle.tp_check_decl.specs.syntax_tree.expression_tree.Trees.{Tree, nil, Elements, no_elements, Listed, single, Operands, no_operands, Operand, plain}
use Rattle.tp_check_decl.specs.syntax_tree.statement_tree.Trees.{Task, empty, run, Tasks, no_tasks, Branches, no_branches, Label, alone}
use Rattle.address_independence.specs.yields.Written as w

pub record Value : Type 0 where
  -- lexemes
  pub position : Position
  pub identifier : Identifier
  pub number : ℤ
  pub text : List ℕ
  pub operator : BinaryOp
  pub sign : Sign
  pub direction : Direction
  -- Expressions: what stands behind one in a chain makes another of it; a call besides takes the position of the name that is called.
  pub mark : Option PlacedSign
  pub tree : Tree
  pub chain : Tree → Tree
  pub called : Position → Tree → Tree
  pub listed : Listed
  pub listing : Tree → Listed
  pub elements : Elements
  pub operand : Operand
  pub width : Tree → Operand
  pub operands : Operands
  -- statements
  pub label : Label
  pub bound : Tree → Label
  pub labels : List Label
  pub task : Task
  pub acting : Position → Tree → Task
  pub tasks : Tasks
  pub arm : Branches → Branches
  pub branches : Branches
  pub body : w.Body
  pub initial : Option w.Body
  -- headers
  pub names : List Identifier
  pub named : NamedType
  pub result : Option NamedType
  pub group : w.Group
  pub groups : List w.Group
  pub heading : w.Heading
  pub is_virtual : Bool
  pub methods : List w.Method
  -- Types: from a name, a first lexeme, or both on.
  pub ancestor : Option Identifier
  pub denoter : w.Denoter
  pub of_name : Identifier → w.Denoter
  pub of_caret : Position → w.Denoter
  pub of_letter : Position → Identifier → w.Denoter
  pub denoters : w.Denoters
  pub fields : w.Fields
  -- first values: from a parenthesis on, and from a name behind it
  pub first : w.Initial
  pub opened : Position → w.Initial
  pub opened_by : Identifier → Position → w.Initial
  pub firsts : w.Initials
  pub named_firsts : w.Named
  -- declarations
  pub constant : w.Constant
  pub defined : Identifier → w.Constant
  pub constants : List w.Constant
  pub type_named : w.NamedDenoter
  pub types : List w.NamedDenoter
  pub variable : w.Variables
  pub variables : List w.Variables
  pub work : w.Work
  pub worked : w.Heading → w.Work
  pub headed : Position → Identifier → w.Work
  pub works : w.Works
  pub shown : List w.Shown
  pub source : w.Source

-- ---- the first of all

abbrev pub origin : Position
origin = record {
  place = record { text = 0; line = 1; column = 1 };
  switches = record { r = false; b = false; f = false; o = false };
}

abbrev pub nobody : Identifier
nobody = record { name = []; position = origin }

abbrev pub no_body : w.Body
no_body = record { position = origin; tasks = no_tasks }

abbrev pub no_heading : w.Heading
no_heading = record { sort = w.procedure; position = origin; name = nobody; groups = []; result = None }

-- What an empty part means: nothing of a list, what stands before it in a chain, an expression alone, a name alone.
abbrev pub blank : Value
blank = record {
  position = origin;
  identifier = nobody;
  number = pos 0;
  text = [];
  operator = binary.Add;
  sign = sign.Plus;
  direction = direction.Up;
  mark = None;
  tree = nil origin.place;
  chain = λ t. t;
  called = λ here t. t;
  listed = single (nil origin.place);
  listing = λ t. single t;
  elements = no_elements;
  operand = plain (nil origin.place);
  width = λ t. plain t;
  operands = no_operands;
  label = alone (nil origin.place);
  bound = λ t. alone t;
  labels = [];
  task = empty;
  acting = λ here t. run here t no_operands;
  tasks = no_tasks;
  arm = λ rest. rest;
  branches = no_branches;
  body = no_body;
  initial = None;
  names = [];
  named = n.String origin;
  result = None;
  group = record { by_ref = false; names = []; of_type = n.String origin };
  groups = [];
  heading = no_heading;
  is_virtual = false;
  methods = [];
  ancestor = None;
  denoter = w.string;
  of_name = λ i. w.named i;
  of_caret = λ here. w.string;
  of_letter = λ here i. w.pointer i;
  denoters = w.no_denoters;
  fields = w.no_fields;
  first = w.value (nil origin.place);
  opened = λ here. w.value (nil origin.place);
  opened_by = λ i here. w.value (nil origin.place);
  firsts = w.no_initials;
  named_firsts = w.no_named;
  constant = w.plain nobody (nil origin.place);
  defined = λ i. w.plain i (nil origin.place);
  constants = [];
  type_named = record { name = nobody; denoter = w.string };
  types = [];
  variable = record { names = []; denoter = w.string };
  variables = [];
  work = w.forward no_heading;
  worked = λ x. w.forward x;
  headed = λ here i. w.forward no_heading;
  works = w.no_works;
  shown = [];
  source = w.program [] w.no_works no_body;
}

-- the part of a node with this number
abbrev pub nth : List Value → ℕ → Value
nth [] n = blank
nth (x ∷ xs) zero = x
nth (x ∷ xs) (suc n) = nth xs n
