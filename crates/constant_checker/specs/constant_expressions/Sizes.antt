-- SizeOf in constants: of a type, or of a variable.
use Rattle.std.specs.Prelude.{ℕ, pos, Bool, false, List, Option, Some, None}
use Rattle.type_layout.specs.declared.definitions.TypeId.{TypeId}
use Rattle.type_layout.specs.declared.definitions.TypeDef.{TypeDef}
use Rattle.type_layout.specs.declared.texts.Place.{Place}
use Rattle.type_layout.specs.Layouts.{size_of}
use Rattle.tp_lexer.specs.declared.token.Feature.{Feature}
use Rattle.tp_lexer.specs.left_out_names.Names.{feature_of}
use Rattle.typed_tree.specs.declared.expressions.Value.TheVariants as value
use Rattle.typed_tree.specs.Expressions.{Expression, Const, Load, Var}
use Rattle.scopes.specs.declared.entries.Entry.{Entry}
use Rattle.scopes.specs.declared.entries.Entry.TheVariants as entry
use Rattle.scopes.specs.declared.members.Member.{Member}
use Rattle.scopes.specs.Members.{member_of}
use Rattle.scopes.specs.Environment.{Environment, Meaning, named, member, find}
use Rattle.typing_rules.specs.declared.faults.Rule.TheVariants as rules
use Rattle.typing_rules.specs.Faults.{broken, undeclared}
use Rattle.typing_rules.specs.Judgements.{Judgement, makes, refuses, either, part}
use Rattle.typing_rules.specs.Selectors.{selected}
use Rattle.typing_rules.specs.Sorts as sorts
use Rattle.call_rules.specs.standard_rules.Sizes.{is_size, has_class}
use Rattle.syntax_tree.specs.expression_tree.Trees.{Tree, name}
use Rattle.constant_checker.specs.declared.constant_expressions.constants.Constant.{Constant}
use Rattle.constant_checker.specs.constant_expressions.Values.{of_value}

-- ---- whether it is meant

abbrev pub is_size_of : Option Meaning → Bool
is_size_of (Some (named number (entry.Std routine))) = is_size routine
is_size_of _ = false

unfoldable pub means_size : Environment → List ℕ → Bool
means_size g word = is_size_of (find g word)

-- SizeOf stands before the arguments of a call, and is not declared anew
abbrev pub asks_size : Environment → Tree → Bool
asks_size g (name here word) = means_size g word
asks_size g _ = false

-- ---- the size

abbrev pub size_constant : List TypeDef → TypeId → Constant
size_constant types ty = record { ty = sorts.word; value = value.Number (pos (size_of types ty)) }

-- A variable has the size of its type. That of an instance which may say its class is found as the program runs, and is no constant.
abbrev pub size_held : List TypeDef → Place → TypeId → Judgement Constant
size_held types place ty = either (has_class types ty) (refuses (broken place rules.Constant)) (makes (size_constant types ty))

-- what is no variable has none
abbrev pub size_by : List TypeDef → Place → Expression → Judgement Constant
size_by types place (Load ty at) = size_held types place ty
size_by types place e = refuses (broken place rules.Called)

-- ---- what a designator means

-- a variable of a type, wherever it lies: nothing but its type is looked at
abbrev pub instance : TypeId → Expression
instance ty = Load ty (Var (record { unit = 0; level = 0; number = 0 }))

-- a constant as an operand; nothing is selected from it
abbrev pub operand : Constant → Expression
operand c = Const c.ty c.value

abbrev pub is_method : Option Member → Bool
is_method None = false
is_method (Some one) = one.method

abbrev pub is_method_of : List TypeDef → Expression → List ℕ → Bool
is_method_of types (Load ty at) word = is_method (member_of types (Some ty) word)
is_method_of types e word = false

-- A field, which is selected here. A method is called, and constants call nothing but the functions that they are made with.
abbrev pub selected_from : List TypeDef → Place → Expression → List ℕ → Judgement Expression
selected_from types here e word = either (is_method_of types e word) (refuses (broken here rules.Constant)) (selected types here e word)

-- What a name is before a selector. Nothing is selected from a type, and no constant calls a routine for what its result leads to.
abbrev pub owner_entry : List TypeDef → Place → Entry → Judgement Expression
owner_entry types at (entry.Const ty v) = makes (operand (of_value types ty v))
owner_entry types at (entry.Var unit level number ty) = makes (instance ty)
owner_entry types at (entry.Ty ty) = refuses (broken at rules.Stands)
owner_entry types at _ = refuses (broken at rules.Constant)

abbrev pub owner_meaning : List TypeDef → Place → List ℕ → Option Feature → Option Meaning → Judgement Expression
owner_meaning types at word feature None = refuses (undeclared at feature)
owner_meaning types at word feature (Some (named number one)) = owner_entry types at one
owner_meaning types at word feature (Some (member number one)) = selected_from types at (instance one.class) word

unfoldable pub owner_name : Environment → Place → List ℕ → Judgement Expression
owner_name g at word = owner_meaning g.types.types at word (feature_of word) (find g word)

-- ---- a name alone

abbrev pub sized_entry : List TypeDef → Place → Entry → Judgement Constant
sized_entry types place (entry.Ty ty) = makes (size_constant types ty)
sized_entry types place (entry.Var unit level number ty) = size_held types place ty
sized_entry types place _ = refuses (broken place rules.Called)

-- a field of a `with` or of Self is a variable
abbrev pub sized_meaning : List TypeDef → Place → Place → List ℕ → Option Feature → Option Meaning → Judgement Constant
sized_meaning types place at word feature None = refuses (undeclared at feature)
sized_meaning types place at word feature (Some (named number one)) = sized_entry types place one
sized_meaning types place at word feature (Some (member number one)) =
    part (selected_from types at (instance one.class) word) (λ e. size_by types place e)

unfoldable pub sized_name : Environment → Place → Place → List ℕ → Judgement Constant
sized_name g place at word = sized_meaning g.types.types place at word (feature_of word) (find g word)

-- ---- the call

-- what is selected, by what it means
abbrev pub sized : Environment → Place → Tree → Judgement Expression → Judgement Constant
sized g place (name here word) meant = sized_name g place here.place word
sized g place _ meant = part meant (λ e. size_by g.types.types place e)

-- the call at a place, by the designator that its one argument is; else by what it is given, which is no variable
abbrev pub size_called : Environment → Place → Option Tree → Judgement Expression → Judgement (List Constant) → Judgement Constant
size_called g place (Some one) meant given = sized g place one meant
size_called g place None meant given = part given (λ all. refuses (broken place rules.Called))
