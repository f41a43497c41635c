-- SizeOf of a type or a variable.
use Rattle.std.specs.Prelude.{ℕ, pos, ◌==◌, Bool, true, false, cond, List, [], ◌∷◌, Option, Some, None}
use Rattle.type_layout.specs.declared.definitions.TypeId.{TypeId}
use Rattle.type_layout.specs.declared.definitions.TypeDef.{TypeDef}
use Rattle.type_layout.specs.declared.texts.Place.{Place}
use Rattle.type_layout.specs.Layouts.{layout_at, size_of}
use Rattle.typed_tree.specs.declared.expressions.Value.TheVariants.{Number}
use Rattle.typed_tree.specs.Expressions.{Expression, Const, Load, Convert, Std}
use Rattle.typed_tree.specs.Expressions as tree
use Rattle.typed_tree.specs.Standard as routine
use Rattle.typing_rules.specs.declared.faults.Rule.TheVariants as rules
use Rattle.typing_rules.specs.Faults.{broken}
use Rattle.typing_rules.specs.Judgements.{Judgement, makes, refuses}
use Rattle.typing_rules.specs.Sorts.{word, number_type}
use Rattle.call_rules.specs.Given.{place_of, arguments_of}

-- whether a standard routine is SizeOf
abbrev pub is_size : ℕ → Bool
is_size number = number == routine.size_of

abbrev pub is_there : Option ℕ → Bool
is_there None = false
is_there (Some at) = true

-- the instances of an object type may say which class they are of
abbrev pub has_class : List TypeDef → TypeId → Bool
has_class types ty = is_there (layout_at types ty).class_field

-- The bytes of a type's values: the number, converted to Word as a value cast does it. So it counts as a Word and not by its value,
-- as it is no constant.
abbrev pub sized : List TypeDef → TypeId → Expression
sized types ty = Convert word (Const (number_type (pos (size_of types ty))) (Number (pos (size_of types ty))))

-- What a variable's size is asked by: that of its type, whatever is in it; but an instance that says its class has the size of
-- that, which is found as the program runs.
abbrev pub size_node : List TypeDef → TypeId → tree.Place → Expression
size_node types ty at = cond (has_class types ty) (Std (Some word) routine.size_of (arguments_of (place_of at ∷ []))) (sized types ty)

-- SizeOf of an expression, in a call at a place; it is a variable
unfoldable pub variable_sized : List TypeDef → Place → Expression → Judgement Expression
variable_sized types place (Load ty at) = makes (size_node types ty at)
variable_sized types place e = refuses (broken place rules.Called)
