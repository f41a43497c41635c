-- Conversions: a type's name before a value in parentheses.
use Rattle.std.specs.Prelude.{Bool, true, false, List, [], ◌∷◌, Option, Some}
use Rattle.type_layout.specs.declared.definitions.TypeId.{TypeId}
use Rattle.type_layout.specs.declared.definitions.TypeDef.{TypeDef}
use Rattle.type_layout.specs.declared.definitions.TypeDef.TheVariants as type
use Rattle.type_layout.specs.declared.texts.Place.{Place}
use Rattle.type_layout.specs.Storage.{storage_of}
use Rattle.tp_lexer.specs.declared.token.Feature.TheVariants as feature
use Rattle.typed_tree.specs.Expressions.{Expression, Convert}
use Rattle.typed_tree.specs.type_fits.Fits.{definition}
use Rattle.typing_rules.specs.declared.faults.Rule.TheVariants as rules
use Rattle.typing_rules.specs.declared.sorts.Sort.{Sort}
use Rattle.typing_rules.specs.declared.sorts.Sort.TheVariants as sort
use Rattle.typing_rules.specs.Faults.{broken, left_out}
use Rattle.typing_rules.specs.Judgements.{Judgement, refuses, rule, either}
use Rattle.typing_rules.specs.Sorts.{sort_of}
use Rattle.typing_rules.specs.Wanted.{predefined}

abbrev pub IsOrdinal : Sort → Type 0
IsOrdinal (sort.Integer r) = Unit {0}
IsOrdinal sort.Boolean = Unit {0}
IsOrdinal sort.Char = Unit {0}
IsOrdinal (sort.Enumeration ty) = Unit {0}
IsOrdinal _ = ⊥

abbrev pub is_ordinal : Sort → Bool
is_ordinal (sort.Integer r) = true
is_ordinal sort.Boolean = true
is_ordinal sort.Char = true
is_ordinal (sort.Enumeration ty) = true
is_ordinal _ = false

abbrev pub is_pointer : Sort → Bool
is_pointer sort.Pointer = true
is_pointer sort.Nil = true
is_pointer _ = false

-- An ordinal by the low bytes of the predefined type that stores an ordinal type. Conversions to and from pointers are left out.
abbrev pub cast_one : Place → TypeId → Option TypeDef → Sort → Expression → Judgement Expression
cast_one place ty (Some (type.Ordinal host low high)) s e =
    either (is_pointer s) (refuses (left_out place feature.Casts))
    (rule (broken place rules.Stands) (is_ordinal s) (IsOrdinal s) (Convert (predefined (storage_of host low high) ty) e))
cast_one place ty (Some (type.PointerTo target)) s e = refuses (left_out place feature.Casts)
cast_one place ty _ s e = refuses (broken place rules.Stands)

-- a conversion to a type, at the place of its name: of one operand
unfoldable pub cast : List TypeDef → Place → TypeId → List Expression → Judgement Expression
cast types place ty (e ∷ []) = cast_one place ty (definition types ty) (sort_of types e) e
cast types place ty _ = refuses (broken place rules.Stands)
