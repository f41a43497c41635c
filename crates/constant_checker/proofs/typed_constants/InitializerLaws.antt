-- First values are judged lawfully.
use Rattle.std.proofs.Common.{◌≡◌, ◌≤◌, ℕ, ◌==◌, nat_le, ℤ, ◌≤ℤ◌, int_le, Bool, true, List, [], ◌∷◌, ◌++◌, Option, Some, None, Decides, length, arith}
use Rattle.std.proofs.lemmas.Bool.{leb-true, le-leb}
use Rattle.std.proofs.lemmas.Bool.Decides.{Decides-and, Decides-eqb}
use Rattle.std.proofs.lemmas.Int.{ints}
use Rattle.type_layout.specs.declared.definitions.TypeId.{TypeId}
use Rattle.type_layout.specs.declared.definitions.Field.{Field}
use Rattle.type_layout.specs.declared.definitions.TypeDef.{TypeDef}
use Rattle.type_layout.specs.declared.definitions.TypeDef.TheVariants as type
use Rattle.type_layout.specs.declared.texts.Place.{Place}
use Rattle.type_layout.specs.Storage.{storage_of, count_between}
use Rattle.type_layout.specs.Layouts.{bounds_at}
use Rattle.typed_tree.specs.type_fits.Fits.{definition}
use Rattle.tp_lexer.specs.declared.token.Feature.TheVariants as feature
use Rattle.scopes.specs.Environment.{Environment}
use Rattle.common_values.specs.Sets.{set_bytes}
use Rattle.typing_rules.specs.declared.faults.Rule.TheVariants as rules
use Rattle.typing_rules.specs.declared.sorts.Sort.{Sort}
use Rattle.typing_rules.specs.Faults.{broken, left_out}
use Rattle.typing_rules.specs.Judgements.{refuses}
use Rattle.typing_rules.specs.Sorts.{sort_of_type}
use Rattle.typing_rules.specs.Laws.{Lawful}
use Rattle.typing_rules.proofs.JudgementLaws.{lawful_makes, lawful_refuses, lawful_rule, lawful_either, lawful_part}
use Rattle.typing_rules.proofs.PlanLaws.{tells_one_host, tells_text, tells_sets}
use Rattle.syntax_tree.specs.expression_tree.Trees.{Tree}
use Rattle.constant_checker.specs.constant_expressions.Constants as constants
use Rattle.constant_checker.specs.constant_expressions.Values.{number_of, bytes_of, elements_of}
use Rattle.constant_checker.proofs.constant_expressions.ConstantLaws as constant
use Rattle.constant_checker.specs.declared.typed_constants.written.Written.{Written}
use Rattle.constant_checker.specs.typed_constants.Trees.{Initial, Initials, Named, value, list, group, no_initials, and_initial, no_named, and_named, count}
use Rattle.syntax_tree.specs.expression_tree.Places.{first_place}
use Rattle.constant_checker.specs.stored_values.Stored.{ordinal_bytes, string_bytes}
use Rattle.constant_checker.specs.typed_constants.Written.{written_as}
use Rattle.constant_checker.specs.typed_constants.Initializers.{is_plain, byte_bounds, FitsOrdinal, fits_ordinal, FitsString, fits_string, FitsSet, fits_set, has_every_char, FitsChars, fits_chars, set_fitted, fitted_by, fitted, due_type, element_of, counted_by, counted, fields_in, is_next, behind_next, due_for, placed, ended, grouped_by, grouped, judged, items_judged, fields_judged, first_value}

-- ---- what tests tell

tells_rising : (m n : ℤ) → Decides (int_le m n) (m ≤ℤ n)
tells_rising m n = (λ e. grind (arith, ints), λ h. grind (arith, ints))

tells_limit : (n limit : ℕ) → Decides (nat_le n limit) (n ≤ limit)
tells_limit n limit = (leb-true n limit, le-leb n limit)

-- a test tells itself
itself : (b : Bool) → Decides b (b ≡ true)
itself b = (λ e. e, λ e. e)

tells_ordinal : (s : Sort) (low high : ℤ) (w : Written) → Decides (fits_ordinal s low high w) (FitsOrdinal s low high w)
tells_ordinal s low high w = Decides-and _ _ (tells_one_host s w.sort) (Decides-and _ _ (tells_rising low (number_of w.value)) (tells_rising (number_of w.value) high))

tells_string : (max : ℕ) (w : Written) → Decides (fits_string max w) (FitsString max w)
tells_string max w = Decides-and _ _ (tells_text w.sort) (tells_limit (length (bytes_of w.value)) max)

tells_set : (s : Sort) (low high : ℕ) (w : Written) → Decides (fits_set s low high w) (FitsSet s low high w)
tells_set s low high w = Decides-and _ _ (tells_sets s w.sort) (itself _)

tells_chars : (types : List TypeDef) (index element : TypeId) (w : Written) → Decides (fits_chars types index element w) (FitsChars types index element w)
tells_chars types index element w =
    Decides-and _ _ (tells_text w.sort) (Decides-and _ _ (itself (has_every_char (definition types element))) (Decides-eqb (length (bytes_of w.value)) (count_between (bounds_at types index).0 (bounds_at types index).1)))

-- ---- expressions

lawful_written : (g : Environment) (tree : Tree) → Lawful (written_as g tree)
lawful_written g tree = lawful_part (constants.judged g tree) _ (constant.lawful g tree) (λ c. lawful_makes _)

-- ---- what is due

module _ (types : List TypeDef) (place : Place) where
  lawful_set_fitted : (s : Sort) (bounds : Option (ℕ × ℕ)) (before : List ℕ) (w : Written) → Lawful (set_fitted place s bounds before w)
  lawful_set_fitted s None before w = lawful_refuses _
  lawful_set_fitted s (Some bounds) before w =
      lawful_rule (broken place rules.FirstValue) (fits_set s bounds.0 bounds.1 w) (FitsSet s bounds.0 bounds.1 w)
      (before ++ set_bytes bounds.0 bounds.1 (elements_of w.value)) (tells_set s bounds.0 bounds.1 w)

  lawful_fitted_by : (ty : TypeId) (one : Option TypeDef) (before : List ℕ) (w : Written) → Lawful (fitted_by types place ty one before w)
  lawful_fitted_by ty (Some (type.Ordinal host low high)) before w =
      lawful_rule (broken place rules.FirstValue) (fits_ordinal (sort_of_type types ty) low high w) (FitsOrdinal (sort_of_type types ty) low high w)
      (before ++ ordinal_bytes (storage_of host low high) (number_of w.value)) (tells_ordinal (sort_of_type types ty) low high w)
  lawful_fitted_by ty (Some (type.Str max)) before w =
      lawful_rule (broken place rules.FirstValue) (fits_string max w) (FitsString max w) (before ++ string_bytes max (bytes_of w.value)) (tells_string max w)
  lawful_fitted_by ty (Some (type.SetOf base)) before w =
      lawful_set_fitted (sort_of_type types ty) (byte_bounds (bounds_at types base).0 (bounds_at types base).1) before w
  lawful_fitted_by ty None before w = lawful_refuses _
  lawful_fitted_by ty (Some (type.ArrayOf index element)) before w =
      lawful_rule (broken place rules.FirstValue) (fits_chars types index element w) (FitsChars types index element w) (before ++ bytes_of w.value) (tells_chars types index element w)
  lawful_fitted_by ty (Some (type.RecordOf fields)) before w = lawful_refuses _
  lawful_fitted_by ty (Some (type.PointerTo target)) before w = lawful_refuses _
  lawful_fitted_by ty (Some (type.ObjectOf parent dynamic fields methods)) before w = lawful_refuses _
  lawful_fitted_by ty (Some (type.Procedural header)) before w = lawful_refuses _

  lawful_fitted : (due : Option TypeId) (before : List ℕ) (w : Written) → Lawful (fitted types place due before w)
  unfolding fitted
  lawful_fitted None before w = lawful_makes _
  lawful_fitted (Some ty) before w = lawful_fitted_by ty (definition types ty) before w

  lawful_counted_by : (one : Option TypeDef) (n : ℕ) (bytes : List ℕ) → Lawful (counted_by types place one n bytes)
  lawful_counted_by (Some (type.ArrayOf index element)) n bytes =
      lawful_rule (broken place rules.FirstValue) (n == count_between (bounds_at types index).0 (bounds_at types index).1)
      (n ≡ count_between (bounds_at types index).0 (bounds_at types index).1) bytes (Decides-eqb n (count_between (bounds_at types index).0 (bounds_at types index).1))
  lawful_counted_by None n bytes = lawful_refuses _
  lawful_counted_by (Some (type.Ordinal host low high)) n bytes = lawful_refuses _
  lawful_counted_by (Some (type.Str max)) n bytes = lawful_refuses _
  lawful_counted_by (Some (type.SetOf base)) n bytes = lawful_refuses _
  lawful_counted_by (Some (type.RecordOf fields)) n bytes = lawful_refuses _
  lawful_counted_by (Some (type.PointerTo target)) n bytes = lawful_refuses _
  lawful_counted_by (Some (type.ObjectOf parent dynamic fields methods)) n bytes = lawful_refuses _
  lawful_counted_by (Some (type.Procedural header)) n bytes = lawful_refuses _

  lawful_counted : (due : Option TypeId) (n : ℕ) (bytes : List ℕ) → Lawful (counted types place due n bytes)
  unfolding counted
  lawful_counted None n bytes = lawful_makes _
  lawful_counted (Some ty) n bytes = lawful_counted_by (definition types ty) n bytes

  lawful_grouped_by : (due : Option (List Field)) (bytes : List ℕ) → Lawful (grouped_by place due bytes)
  lawful_grouped_by None bytes = lawful_refuses _
  lawful_grouped_by (Some fields) bytes = lawful_makes _

  lawful_grouped : (due : Option TypeId) (bytes : List ℕ) → Lawful (grouped types place due bytes)
  unfolding grouped
  lawful_grouped None bytes = lawful_makes _
  lawful_grouped (Some ty) bytes = lawful_grouped_by (fields_in (definition types ty)) bytes

lawful_placed : (place : Place) (due : Option (List Field)) (name bytes : List ℕ) → Lawful (placed place due name bytes)
lawful_placed place None name bytes = lawful_makes _
lawful_placed place (Some fields) name bytes =
    lawful_rule (broken place rules.FirstValue) (is_next fields name) (is_next fields name ≡ true) bytes (itself (is_next fields name))

lawful_ended : (place : Place) (due : Option (List Field)) (bytes : List ℕ) → Lawful (ended place due bytes)
lawful_ended place None bytes = lawful_makes _
lawful_ended place (Some []) bytes = lawful_makes _
lawful_ended place (Some (field ∷ fields)) bytes = lawful_refuses _

-- ---- first values

mutual
  lawful_judged : (g : Environment) (due : Option TypeId) (before : List ℕ) (tree : Initial) → Lawful (judged g due before tree)
  lawful_judged g due before (value tree) =
      lawful_part (written_as g tree) _ (lawful_written g tree) (λ w. lawful_fitted g.types.types (first_place tree) due before w)
  lawful_judged g due before (list place items) =
      lawful_part (items_judged g (element_of (due_type g.types.types due)) before items) _ (lawful_items g (element_of (due_type g.types.types due)) before items)
      (λ bytes. lawful_counted g.types.types place due (count items) bytes)
  lawful_judged g due before (group place fields) =
      lawful_part (fields_judged g place (fields_in (due_type g.types.types due)) before fields) _ (lawful_fields g place (fields_in (due_type g.types.types due)) before fields)
      (λ bytes. lawful_grouped g.types.types place due bytes)

  lawful_items : (g : Environment) (due : Option TypeId) (before : List ℕ) (items : Initials) → Lawful (items_judged g due before items)
  lawful_items g due before no_initials = lawful_makes _
  lawful_items g due before (and_initial one rest) = lawful_part (judged g due before one) _ (lawful_judged g due before one) (λ bytes. lawful_items g due bytes rest)

  lawful_fields : (g : Environment) (place : Place) (due : Option (List Field)) (before : List ℕ) (fields : Named) → Lawful (fields_judged g place due before fields)
  lawful_fields g place due before no_named = lawful_ended place due before
  lawful_fields g place due before (and_named one x rest) =
      lawful_part _ _
      (lawful_part (judged g (due_for due one.name) before x) _ (lawful_judged g (due_for due one.name) before x) (λ bytes. lawful_placed one.position.place due one.name bytes))
      (λ bytes. lawful_fields g place (behind_next due) bytes rest)

pub lawful : (g : Environment) (place : Place) (ty : TypeId) (tree : Initial) → Lawful (first_value g place ty tree)
lawful g place ty tree =
    lawful_either (is_plain g.types.types ty) (judged g (Some ty) [] tree) (refuses (left_out place feature.TypedConstants))
    (lawful_judged g (Some ty) [] tree) (lawful_refuses _)
