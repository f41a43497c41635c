-- The objects and records whose members are known by their names alone, and the object of a method.
use Rattle.std.specs.Prelude.{ℕ, zero, suc, ◌+◌, codes, List, Option, Some, None}
use Rattle.type_layout.specs.declared.definitions.TypeId.{TypeId}
use Rattle.type_layout.specs.declared.texts.Place.{Place}
use Rattle.typed_tree.specs.Expressions as tree
use Rattle.typed_tree.specs.Expressions.{Expression, Load, Var, view_place}
use Rattle.scopes.specs.declared.entries.Entry.{Entry}
use Rattle.scopes.specs.declared.entries.Entry.TheVariants as entry
use Rattle.scopes.specs.declared.entries.BlockKind.{BlockKind}
use Rattle.scopes.specs.declared.entries.BlockKind.TheVariants as block
use Rattle.scopes.specs.Members.{narrow}
use Rattle.scopes.specs.Environment.{Environment, Meaning, named, find, block_count, kind_of, found_in}
use Rattle.syntax_tree.specs.expression_tree.Trees.{Tree, name, designator_in}
use Rattle.typing_rules.specs.declared.faults.Rule.TheVariants as rule
use Rattle.typing_rules.specs.Faults.{broken}
use Rattle.typing_rules.specs.Judgements.{Judgement, refuses}
use Rattle.call_rules.specs.method_rules.Methods.{Bound, inherited}
use Rattle.tp_check_expr.specs.declared.owners.Instance.{Instance as HeldInstance}
use Rattle.tp_check_expr.specs.declared.owners.TypeName.{TypeName}
use Rattle.tp_check_expr.specs.Names.{variable}

-- ---- what open `with`s hold

abbrev pub deeper_with : Option BlockKind → ℕ → ℕ
deeper_with (Some (block.With ty)) depth = depth + 1
deeper_with _ depth = depth

-- how many of the blocks before a number are those of `with`s
abbrev pub with_depth : Environment → ℕ → ℕ
with_depth g zero = 0
with_depth g (suc n) = deeper_with (kind_of g n) (with_depth g n)

-- The place that the `with` of a block holds: of level 1, and numbered behind 2^31 by how many others are open round it.
abbrev pub held : Environment → ℕ → tree.Place
held g number = Var (record { unit = 0; level = 1; number = narrow (2147483648 + with_depth g number) })

-- ---- Self

-- the object of a method
pub record Instance : Type 0 where
  pub class : TypeId
  pub at : tree.Place

abbrev pub view_instance : HeldInstance → Instance
view_instance one = record { class = one.class; at = view_place one.place }

abbrev pub self_meant : Environment → Option Entry → Option Instance
self_meant g (Some (entry.Var unit level n ty)) = Some (record { class = ty; at = Var (variable g unit level n) })
self_meant g _ = None

abbrev pub self_word : List ℕ
self_word = codes "SELF"

-- the variable of this name that a block itself declares, whatever the name means in blocks inside it
abbrev pub self_in : Environment → ℕ → Option Instance
self_in g number = self_meant g (found_in g number self_word)

-- The last of these blocks that is a method's, where so far it was this one: of a block with its kind and number.
abbrev pub later_method : Option BlockKind → ℕ → Option ℕ → Option ℕ
later_method (Some (block.Routine own (Some class))) number before = Some number
later_method _ number before = before

-- the last of the blocks before a number that is a method's
abbrev pub method_before : Environment → ℕ → Option ℕ
method_before g zero = None
method_before g (suc n) = later_method (kind_of g n) n (method_before g n)

abbrev pub self_at : Environment → Option ℕ → Option Instance
self_at g None = None
self_at g (Some number) = self_in g number

-- Self of the innermost method whose block is open
abbrev pub self_of : Environment → Option Instance
self_of g = self_at g (method_before g (block_count g))

-- ---- what has the members that are known in a block

abbrev pub self_loaded : Option Instance → Option Expression
self_loaded None = None
self_loaded (Some own) = Some (Load own.class own.at)

-- what a `with` holds, or the method's object
abbrev pub owner_in : Environment → ℕ → Option BlockKind → Option Expression
owner_in g number (Some (block.With ty)) = Some (Load ty (held g number))
owner_in g number (Some (block.Routine own (Some class))) = self_loaded (self_in g number)
owner_in g number _ = None

-- ---- methods of ancestors

abbrev pub type_name : Place → TypeId → TypeName
type_name place ty = record { place = place; ty = ty }

abbrev pub type_meant : Place → Option Meaning → Option TypeName
type_meant place (Some (named number (entry.Ty ty))) = Some (type_name place ty)
type_meant place _ = None

abbrev pub type_named : Environment → Option Tree → Option TypeName
type_named g (Some (name here one)) = type_meant here.place (find g one)
type_named g _ = None

-- the type whose name an expression is
abbrev pub type_in : Environment → Tree → Option TypeName
type_in g tree = type_named g (designator_in tree)

-- of the type that is named, if one is, else something else
abbrev pub by_type : {C : Type 0} → Option TypeName → (TypeName → Judgement C) → Judgement C → Judgement C
by_type None of_type otherwise = otherwise
by_type (Some one) of_type otherwise = of_type one

abbrev pub inherited_on : Environment → Place → TypeName → List ℕ → Option Instance → Judgement Bound
inherited_on g place one word None = refuses (broken one.place rule.Stands)
inherited_on g place one word (Some own) = inherited g one.place place own.class own.at one.ty word

-- A method that is selected of a type's name is called on Self of the method round it. Outside methods a type's name is no operand.
abbrev pub inherited_from : Environment → Place → TypeName → List ℕ → Judgement Bound
inherited_from g place one word = inherited_on g place one word (self_of g)
