-- Bounds of the ids of types that a scope names.
use Rattle.std.specs.Prelude.{ℕ, ◌<◌, ◌≤◌, List, [], ◌∷◌, ◌++◌, length, slice_get, Bool, Option}
use Rattle.tp_check_decl.specs.type_layout.declared.definitions.TypeId.{TypeId}
use Rattle.tp_check_decl.specs.type_layout.declared.definitions.Kind.{Kind}
use Rattle.tp_check_decl.specs.type_layout.declared.definitions.Header.{Header}
use Rattle.tp_check_decl.specs.type_layout.declared.texts.Place.{Place}
use Rattle.tp_check_decl.specs.syntax_tree.declared.type_tree.parameter.NamedType.{NamedType}
use Rattle.tp_check_decl.specs.syntax_tree.declared.type_tree.parameter.ParameterGroup.{ParameterGroup}
use Rattle.tp_check_decl.specs.syntax_tree.declared.type_tree.parameter.MethodHeader.{MethodHeader}
use Rattle.tp_check_decl.specs.syntax_tree.declared.source_tree.declaration.RoutineHeader.{RoutineHeader}
use Rattle.tp_check_decl.specs.syntax_tree.expression_tree.Trees.{Tree}
use Rattle.tp_check_decl.specs.scopes.declared.entries.Entry.{Entry}
use Rattle.tp_check_decl.specs.scopes.declared.entries.Entry.TheVariants as entry
use Rattle.tp_check_decl.specs.scopes.declared.searches.OpenBlock.{OpenBlock}
use Rattle.tp_check_decl.specs.scopes.Symbols.{SymbolList}
use Rattle.tp_check_decl.specs.scopes.Environment.{Environment}
use Rattle.tp_check_decl.specs.unit_interface.Exports.{in_header, with_type}
use Rattle.tp_check_decl.specs.declaration_checker.headers.Names.{type_named}
use Rattle.tp_check_decl.specs.declaration_checker.headers.Headers.{procedure_header, function_header, routine_header, method_header}
use Rattle.tp_check_decl.specs.constant_checker.declared.constant_expressions.constants.Constant.{Constant}
use Rattle.tp_check_decl.specs.constant_checker.constant_expressions.Constants.{judged}

-- numbers that are all below a bound
abbrev pub AreBelow : ℕ → List ℕ → Type 0
AreBelow n [] = Unit {0}
AreBelow n (number ∷ numbers) = (number < n) × AreBelow n numbers

-- ---- the types that names mean, by their numbers

abbrev pub in_entry : Entry → List ℕ
in_entry (entry.Const ty value) = ty.0 ∷ []
in_entry (entry.Ty ty) = ty.0 ∷ []
in_entry (entry.Var unit level number ty) = ty.0 ∷ []
in_entry (entry.Code routine level header far) = in_header header
in_entry (entry.Std number) = []

abbrev pub in_names : SymbolList → List ℕ
in_names [] = []
in_names (one ∷ rest) = in_entry one.1 ++ in_names rest

abbrev pub in_lists : List SymbolList → List ℕ
in_lists [] = []
in_lists (one ∷ rest) = in_names one ++ in_lists rest

abbrev pub in_open : List OpenBlock → List ℕ
in_open [] = []
in_open (block ∷ rest) = in_names block.symbols ++ in_open rest

-- ---- scopes

-- Above all types of the table, the predeclared ones among them, above all that these types name and what is behind them, and above
-- all that names mean.
pub record IsBoundOf (n : ℕ) (g : Environment) : Type 0 where
  pub table : length g.types.types ≤ n
  pub system : 11 ≤ n
  pub types : (by : ℕ) → AreBelow n (with_type by (slice_get g.types.types by))
  pub predeclared : AreBelow n (in_names g.predeclared)
  pub used : AreBelow n (in_lists g.used)
  pub blocks : AreBelow n (in_open g.blocks)

-- each type that the scope names is one of its table
abbrev pub IsWellScopedEnvironment : Environment → Type 0
IsWellScopedEnvironment g = IsBoundOf (length g.types.types) g

-- ---- the laws

-- what is read over a scope has types below its bounds
pub record AreBounded : Type 0 where
  pub named : (n : ℕ) (g : Environment) → IsBoundOf n g → (place : Place) (name : List ℕ) (ty : TypeId) → (type_named g place name).holds ty → ty.0 < n
  pub procedure : (n : ℕ) (g : Environment) → IsBoundOf n g → (is_method : Bool) (place : Place) (kind : Kind) (groups : List ParameterGroup) (header : Header)
      → (procedure_header g is_method place kind groups).holds header → AreBelow n (in_header header)
  pub function : (n : ℕ) (g : Environment) → IsBoundOf n g → (is_method : Bool) (place : Place) (groups : List ParameterGroup) (result : Option NamedType) (header : Header)
      → (function_header g is_method place groups result).holds header → AreBelow n (in_header header)
  pub routine : (n : ℕ) (g : Environment) → IsBoundOf n g → (one : RoutineHeader) (header : Header) → (routine_header g one).holds header → AreBelow n (in_header header)
  pub method : (n : ℕ) (g : Environment) → IsBoundOf n g → (one : MethodHeader) (header : Header) → (method_header g one).holds header → AreBelow n (in_header header)
  pub constant : (n : ℕ) (g : Environment) → IsBoundOf n g → (tree : Tree) (c : Constant) → (judged g tree).holds c → c.ty.0 < n
