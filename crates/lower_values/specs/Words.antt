-- The words that a call hands over, each value's upper one first.
use Rattle.std.specs.Prelude.{ℕ, ◌+◌, ◌==◌, if◌then◌else◌, List, [], ◌∷◌, ◌++◌, Option, Some, None}
use Rattle.type_layout.specs.declared.definitions.TypeDef.{TypeDef}
use Rattle.type_layout.specs.declared.definitions.TypeId.{TypeId}
use Rattle.type_layout.specs.declared.definitions.Kind.{Kind}
use Rattle.type_layout.specs.declared.definitions.Kind.TheVariants as kind
use Rattle.typed_tree.specs.Expressions.{Arguments, NoArguments, ByValue, ByPlace}
use Rattle.typed_tree.specs.Slots.{slot_of}
use Rattle.flat_code.specs.declared.tree.Address.{Address}
use Rattle.flat_code.specs.Tree.{Expr, Number, AddressOf, SegmentOf}
use Rattle.lower_places.specs.declared.sorts.Shape.{Shape}
use Rattle.lower_places.specs.declared.sorts.Shape.TheVariants as shape
use Rattle.lower_places.specs.Shapes.{shape_of}
use Rattle.lower_values.specs.Forms.{slot_place, word_in, low_in}

-- a far pointer, or a LongInt, in a slot of 4 bytes
abbrev pub four_words : ℕ → ℕ → List Expr
four_words locals slot = word_in locals slot ∷ low_in locals slot ∷ []

-- a far pointer to a place
abbrev pub pointer_to : Address → List Expr
pointer_to at = SegmentOf at ∷ AddressOf at ∷ []

-- the argument in a slot: a word, 4 bytes, or a far pointer to the slot of a string or a set
abbrev pub argument_words : ℕ → ℕ → ℕ → List Expr
argument_words locals slot bytes =
    if bytes == 2 then word_in locals slot ∷ []
    else (if bytes == 4 then four_words locals slot else pointer_to (slot_place locals slot bytes))

abbrev pub arguments_words : ℕ → List TypeDef → Arguments → ℕ → List Expr
arguments_words locals types NoArguments slot = []
arguments_words locals types (ByValue value rest) slot = argument_words locals slot (slot_of types value) ++ arguments_words locals types rest (slot + slot_of types value)
arguments_words locals types (ByPlace place rest) slot = argument_words locals slot 4 ++ arguments_words locals types rest (slot + 4)

-- the word of a class for a constructor, and 0 for a destructor
abbrev pub class_words : Kind → Expr → List Expr
class_words kind.Procedure class = []
class_words kind.Function class = []
class_words kind.Constructor class = class ∷ []
class_words kind.Destructor class = Number 0 ∷ []

-- where a string result goes
abbrev pub result_words_by : ℕ → Option Shape → ℕ → List Expr
result_words_by locals (Some (shape.Text max)) slot = pointer_to (slot_place locals slot 256)
result_words_by locals _ slot = []

abbrev pub result_words : ℕ → List TypeDef → Option TypeId → ℕ → List Expr
result_words locals types None slot = []
result_words locals types (Some ty) slot = result_words_by locals (shape_of types ty) slot

-- where a string result goes, and the arguments from a slot on
abbrev pub words_without : ℕ → List TypeDef → Option TypeId → Arguments → ℕ → ℕ → List Expr
words_without locals types ty args slot first = result_words locals types ty slot ++ arguments_words locals types args first

-- the same with an instance, behind which the arguments lie
abbrev pub words_with : ℕ → List TypeDef → Option TypeId → Arguments → ℕ → List Expr
words_with locals types ty args slot = result_words locals types ty slot ++ (four_words locals slot ++ arguments_words locals types args (slot + 4))
