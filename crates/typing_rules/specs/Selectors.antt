-- Selectors: fields, elements, and what a pointer leads to.
use Rattle.std.specs.Prelude.{ℕ, Bool, List, Option, Some, None, position, slice_get}
use Rattle.type_layout.specs.declared.definitions.TypeId.{TypeId}
use Rattle.type_layout.specs.declared.definitions.Field.{Field}
use Rattle.type_layout.specs.declared.definitions.TypeDef.{TypeDef}
use Rattle.type_layout.specs.declared.definitions.TypeDef.TheVariants as type
use Rattle.type_layout.specs.declared.texts.Place.{Place}
use Rattle.type_layout.specs.Words.{same_bytes}
use Rattle.typed_tree.specs.Expressions as tree
use Rattle.typed_tree.specs.Expressions.{Expression, Load, FieldOf, Index, Deref, type_of}
use Rattle.typed_tree.specs.type_fits.Fits.{definition}
use Rattle.scopes.specs.declared.members.Member.{Member}
use Rattle.scopes.specs.Members.{member_of}
use Rattle.typing_rules.specs.declared.faults.Rule.TheVariants as rules
use Rattle.typing_rules.specs.Faults.{broken}
use Rattle.typing_rules.specs.Judgements.{Judgement, makes, refuses, rule, either, part}
use Rattle.typing_rules.specs.Sorts.{char, sort_of_type, sort_of}
use Rattle.typing_rules.specs.Plans.{AreOfOneHost, are_of_one_host, IsInteger, is_integer}

-- what a place of a type holds
abbrev pub loaded : TypeId → tree.Place → Judgement Expression
loaded ty at = makes (Load ty at)

-- ---- fields

abbrev pub field_at : Place → tree.Place → ℕ → Option Field → Judgement Expression
field_at place at number None = refuses (broken place rules.Selected)
field_at place at number (Some field) = loaded field.ty (FieldOf at number)

abbrev pub field_named : Place → tree.Place → List Field → Option Member → Judgement Expression
field_named place at fields None = refuses (broken place rules.Selected)
field_named place at fields (Some one) = field_at place at one.number (slice_get fields one.number)

-- the field of this name that an object type declares itself
abbrev pub field_in : List Field → Option ℕ → Option Field
field_in fields None = None
field_in fields (Some place) = slice_get fields place

unfoldable pub declared_field : List Field → List ℕ → Option Field
declared_field fields name = field_in fields (position (λ (field : Field). same_bytes name field.name) fields)

abbrev pub own_field : Option TypeDef → List ℕ → Option Field
own_field (Some (type.ObjectOf parent dynamic fields methods)) name = declared_field fields name
own_field _ name = None

-- a field of an object's line; a method is none
abbrev pub member_named : List TypeDef → Place → tree.Place → List ℕ → Option Member → Judgement Expression
member_named types place at name None = refuses (broken place rules.Selected)
member_named types place at name (Some one) =
    either one.method (refuses (broken place rules.Selected)) (field_at place at one.number (own_field (definition types one.class) name))

abbrev pub selected_by : List TypeDef → Place → TypeId → tree.Place → Option TypeDef → List ℕ → Judgement Expression
selected_by types place ty at (Some (type.RecordOf fields)) name = field_named place at fields (member_of types (Some ty) name)
selected_by types place ty at (Some (type.ObjectOf parent dynamic fields methods)) name = member_named types place at name (member_of types (Some ty) name)
selected_by types place ty at _ name = refuses (broken place rules.Selected)

abbrev pub selected_of : List TypeDef → Place → Expression → List ℕ → Judgement Expression
selected_of types place (Load ty at) name = selected_by types place ty at (definition types ty) name
selected_of types place e name = refuses (broken place rules.Selected)

-- a field of a record or an object
unfoldable pub selected : List TypeDef → Place → Expression → List ℕ → Judgement Expression
selected types place e name = selected_of types place e name

-- ---- elements

-- what is asked, and then something else
abbrev pub asking : {C : Type 0} → Judgement (Unit {0}) → Judgement C → Judgement C
asking j k = part j (λ u. k)

abbrev pub indexed_by : List TypeDef → Place → Bool → tree.Place → Option TypeDef → Expression → Judgement Expression
indexed_by types place checked at (Some (type.ArrayOf index element)) i =
    asking (rule (broken place rules.Indexed) (are_of_one_host (sort_of_type types index) (sort_of types i)) (AreOfOneHost (sort_of_type types index) (sort_of types i)) tt)
    (loaded element (Index at i checked))
indexed_by types place checked at (Some (type.Str max)) i =
    rule (broken place rules.Indexed) (is_integer (sort_of types i)) (IsInteger (sort_of types i)) (Load char (Index at i checked))
indexed_by types place checked at _ i = refuses (broken place rules.Indexed)

abbrev pub indexed_of : List TypeDef → Place → Bool → Expression → Expression → Judgement Expression
indexed_of types place checked (Load ty at) i = indexed_by types place checked at (definition types ty) i
indexed_of types place checked e i = refuses (broken place rules.Indexed)

-- An element of an array, or a character of a string, at an index of the host of the index type, or an integer. With
-- `checked`, an index outside the bounds is an error.
unfoldable pub indexed : List TypeDef → Place → Bool → Expression → Expression → Judgement Expression
indexed types place checked e i = indexed_of types place checked e i

-- ---- pointers

abbrev pub target_by : Option TypeDef → Option TypeId
target_by (Some (type.PointerTo target)) = Some target
target_by _ = None

abbrev pub target_in : List TypeDef → Option TypeId → Option TypeId
target_in types None = None
target_in types (Some ty) = target_by (definition types ty)

-- the type that an expression points to, if it is a pointer
abbrev pub target_of : List TypeDef → Expression → Option TypeId
target_of types e = target_in types (type_of e)

abbrev pub followed_to : List TypeDef → Place → Option TypeId → Expression → Judgement Expression
followed_to types place None e = refuses (broken place rules.Dereferenced)
followed_to types place (Some target) e = loaded target (Deref e)

-- what a pointer leads to
unfoldable pub followed : List TypeDef → Place → Expression → Judgement Expression
followed types place e = followed_to types place (target_of types e) e
