-- Constant expressions give constants.
use Rattle.std.proofs.Common.{◌≡◌, ℕ, ◌<◌, List, [], ◌∷◌, ◌++◌, Option, Some, None, refl, sym, subst, ap}
use Rattle.std.proofs.Math.IntN.{ℤ}
use Rattle.std.specs.Prelude.{bit_xor}
use Rattle.std.proofs.lemmas.List.Elements.{All-head}
use Rattle.bodies_well_formed.specs.type_layout.declared.definitions.TypeId.{TypeId}
use Rattle.bodies_well_formed.specs.type_layout.declared.definitions.Host.{Host}
use Rattle.bodies_well_formed.specs.type_layout.declared.definitions.Host.TheVariants as host
use Rattle.bodies_well_formed.specs.type_layout.declared.definitions.TypeDef.{TypeDef}
use Rattle.bodies_well_formed.specs.type_layout.declared.definitions.TypeDef.TheVariants as type
use Rattle.bodies_well_formed.specs.type_layout.declared.texts.Place.{Place}
use Rattle.bodies_well_formed.specs.type_layout.Storage.{integer_storage}
use Rattle.bodies_well_formed.specs.tp_lexer.declared.token.Feature.{Feature}
use Rattle.bodies_well_formed.specs.tp_lexer.left_out_names.Names.{feature_of}
use Rattle.bodies_well_formed.specs.syntax_tree.declared.expression.PlacedSign.{PlacedSign}
use Rattle.bodies_well_formed.specs.typed_tree.declared.expressions.Value.{Value}
use Rattle.bodies_well_formed.specs.typed_tree.declared.expressions.Value.TheVariants as value
use Rattle.bodies_well_formed.specs.typed_tree.type_fits.Fits.{definition, IsValue}
use Rattle.bodies_well_formed.specs.scopes.declared.entries.Entry.{Entry}
use Rattle.bodies_well_formed.specs.scopes.declared.entries.Entry.TheVariants as entry
use Rattle.bodies_well_formed.specs.scopes.Environment.{Environment, Meaning, named, member, find}
use Rattle.bodies_well_formed.specs.typing_rules.declared.sorts.Sort.{Sort}
use Rattle.bodies_well_formed.specs.typing_rules.declared.sorts.Sort.TheVariants as sort
use Rattle.bodies_well_formed.specs.typing_rules.Sorts.{only, is_within, host_in, sort_stored, sort_by, sort_of_type}
use Rattle.bodies_well_formed.specs.typing_rules.Wanted.{constant_type}
use Rattle.bodies_well_formed.specs.typing_rules.Judgements.{parts}
use Rattle.bodies_well_formed.specs.syntax_tree.expression_tree.Trees as tree
use Rattle.bodies_well_formed.specs.syntax_tree.expression_tree.Trees.{Tree, Listed, Elements, Operand, Operands, of_sign, sole_designator}
use Rattle.bodies_well_formed.specs.constant_checker.declared.constant_expressions.constants.Constant.{Constant}
use Rattle.bodies_well_formed.specs.constant_checker.declared.constant_expressions.constructors.Span.{Span}
use Rattle.bodies_well_formed.specs.constant_checker.constant_expressions.Values as values
use Rattle.bodies_well_formed.specs.constant_checker.constant_expressions.Values.{of_value}
use Rattle.bodies_well_formed.specs.constant_checker.constant_expressions.Constructors.{ordinal_of, span_of}
use Rattle.bodies_well_formed.specs.constant_checker.constant_expressions.Functions.{function_named, called_with}
use Rattle.bodies_well_formed.specs.constant_checker.constant_expressions.Sizes.{asks_size, size_called}
use Rattle.bodies_well_formed.specs.constant_checker.constant_expressions.Constants.{of_text, of_control, of_entry, of_meaning, of_name, marked, judged, sole_meant, spans_judged, span_judged, operands_judged, operand_judged}
use Rattle.bodies_well_formed.specs.rules_well_formed.nodes.Tables.{IsSound}
use Rattle.bodies_well_formed.proofs.rules_well_formed_proofs.nodes.Ordinals.{IsIntegerHost, integers}
use Rattle.bodies_well_formed.proofs.rules_well_formed_proofs.nodes.Combined.{constant_value}
use Rattle.bodies_well_formed.specs.expressions.Literals.{IsText, IsLetter, AreLiterals, AreInListed, AreInElements, AreInOperand, AreInOperands}
use Rattle.declarations_well_formed.specs.constants.Whole.{IsEnumerated, IsWholeOrdinal, IsWhole, IsConstantOf, HasConstants}
use Rattle.declarations_well_formed.specs.constants.Laws.{GivesValues}
use Rattle.declarations_well_formed.proofs.constants.Numbers.{IsGood, same_good, bare, own_number, number_good, character_good, text_good}
use Rattle.declarations_well_formed.proofs.constants.Sets.{IsHostSort, own_host, AreFromHosts, constructed_good}
use Rattle.declarations_well_formed.proofs.constants.Combined.{either_way, combined_good, signed_good, negated_good}
use Rattle.declarations_well_formed.proofs.constants.Functions.{AllGood, called_good}
use Rattle.declarations_well_formed.proofs.constants.Sizes.{sized_good}

-- ---- sorts of elements

stored_sort : (types : List TypeDef) (ty : TypeId) (w : Host) → IsIntegerHost w → IsHostSort types (sort_stored ty w)
stored_sort types ty host.ShortInt h = tt
stored_sort types ty host.Byte h = tt
stored_sort types ty host.Integer h = tt
stored_sort types ty host.Word h = tt
stored_sort types ty host.LongInt h = tt
stored_sort types ty w h = absurd h

ordinal_sort : (types : List TypeDef) (ty : TypeId) (one : Option TypeDef) → definition types ty ≡ one → IsWholeOrdinal types ty one → IsHostSort types (sort_by types ty one)
ordinal_sort types ty (Some (type.Ordinal host.Enumeration low high)) is h =
    let it : IsEnumerated types ty = record { is = rw is refl; set = h } in
    subst (λ (t : TypeId). IsEnumerated types t) (sym (own_host types ty it)) it
ordinal_sort types ty (Some (type.Ordinal host.Char low high)) is h = tt
ordinal_sort types ty (Some (type.Ordinal host.Boolean low high)) is h = tt
ordinal_sort types ty (Some (type.Ordinal host.ShortInt low high)) is h = stored_sort types (host_in types ty) (integer_storage low high) (integers low high)
ordinal_sort types ty (Some (type.Ordinal host.Byte low high)) is h = stored_sort types (host_in types ty) (integer_storage low high) (integers low high)
ordinal_sort types ty (Some (type.Ordinal host.Integer low high)) is h = stored_sort types (host_in types ty) (integer_storage low high) (integers low high)
ordinal_sort types ty (Some (type.Ordinal host.Word low high)) is h = stored_sort types (host_in types ty) (integer_storage low high) (integers low high)
ordinal_sort types ty (Some (type.Ordinal host.LongInt low high)) is h = stored_sort types (host_in types ty) (integer_storage low high) (integers low high)
ordinal_sort types ty (Some (type.Str max)) is h = tt
ordinal_sort types ty (Some (type.SetOf base)) is h = tt
ordinal_sort types ty (Some (type.PointerTo target)) is h = tt
ordinal_sort types ty (Some (type.ArrayOf index element)) is h = tt
ordinal_sort types ty (Some (type.RecordOf fields)) is h = tt
ordinal_sort types ty (Some (type.ObjectOf parent dynamic fields methods)) is h = tt
ordinal_sort types ty (Some (type.Procedural header)) is h = tt
ordinal_sort types ty None is h = tt

host_sort : (types : List TypeDef) (ty : TypeId) (v : Value) (one : Option TypeDef) → definition types ty ≡ one → IsValue types v one → IsWhole types ty v → IsHostSort types (sort_by types ty one)
host_sort types ty (value.Number n) one is h whole = ordinal_sort types ty one is (subst (λ (d : Option TypeDef). IsWholeOrdinal types ty d) is whole)
host_sort types ty (value.Chars bytes) (Some (type.Str max)) is h whole = tt
host_sort types ty value.Nil (Some (type.PointerTo target)) is h whole = tt
host_sort types ty (value.Elements bytes) (Some (type.SetOf base)) is h whole = tt
host_sort types ty v one is h whole = absurd h

pub good_sort : (types : List TypeDef) (c : Constant) → IsGood types c → IsHostSort types (sort_of_type types c.ty)
good_sort types c h = host_sort types c.ty c.value (definition types c.ty) refl h.value h.whole

module _ (types : List TypeDef) (sound : IsSound types) where
  -- ---- literals

  text_literal : (bytes : List ℕ) → IsText bytes → IsGood types (of_text bytes)
  text_literal [] h = text_good types sound [] h.short h.each
  text_literal (byte ∷ []) h = character_good types sound byte (All-head (λ (b : ℕ). b < 256) byte [] h.each)
  text_literal (byte ∷ other ∷ rest) h = text_good types sound (byte ∷ other ∷ rest) h.short h.each

  control_literal : (letter : List ℕ) → IsLetter letter → IsGood types (of_control letter)
  control_literal [] h = text_good types sound [] h.short h.each
  control_literal (letter ∷ []) h = character_good types sound (bit_xor letter 64) h
  control_literal (letter ∷ other ∷ rest) h = text_good types sound (letter ∷ other ∷ rest) h.short h.each

  -- ---- names

  whole_by : (ty : TypeId) (n : ℤ) (s : Sort) → IsWholeOrdinal types ty (definition types ty) → IsWholeOrdinal types (constant_type ty n s) (definition types (constant_type ty n s))
  whole_by ty n (sort.Integer r) h = own_number types sound (is_within host.Integer (only n)) (is_within host.Word (only n))
  whole_by ty n s h = h

  value_good : (ty : TypeId) (v : Value) → IsConstantOf types ty v → IsGood types (of_value types ty v)
  value_good ty (value.Number n) h = record { value = constant_value (bare types) sound ty n h.value; whole = whole_by ty n (sort_of_type types ty) h.whole }
  value_good ty v h = h

  entry_good : (place : Place) (one : Entry) (c : Constant) → ((ty : TypeId) (v : Value) → one ≡ entry.Const ty v → IsConstantOf types ty v) → (of_entry types place one).holds c → IsGood types c
  entry_good place (entry.Const ty v) c h e = same_good types c (of_value types ty v) e (value_good ty v (h ty v refl))
  entry_good place one c h e = absurd e

  meaning_good : (place : Place) (feature : Option Feature) (one : Option Meaning) (c : Constant) → ((number : ℕ) (ty : TypeId) (v : Value) → one ≡ Some (named number (entry.Const ty v)) → IsConstantOf types ty v)
      → (of_meaning types place feature one).holds c → IsGood types c
  meaning_good place feature None c h e = absurd e
  meaning_good place feature (Some (named number one)) c h e = entry_good place one c (λ ty v is. h number ty v (ap (λ (x : Entry). Some (named number x)) is)) e
  meaning_good place feature (Some (member number one)) c h e = absurd e

  marked_good : (mark : Option PlacedSign) (a c : Constant) → IsGood types a → (marked types mark a).holds c → IsGood types c
  marked_good None a c h e = same_good types c a e h
  marked_good (Some mark) a c h e = signed_good types sound mark.position.place (of_sign mark.sign) a c h e

  -- ---- what constructors list, and arguments

  hosts_with : (spans : List Span) (one : Span) → AreFromHosts types sound spans → IsHostSort types one.low.sort → AreFromHosts types sound (spans ++ one ∷ [])
  hosts_with [] one h k = (k, tt)
  hosts_with (first ∷ spans) one h k = (h.0, hosts_with spans one h.1 k)

  span_from : (low high : Constant) (one : Span) → IsGood types low → one ≡ span_of (ordinal_of types low) (ordinal_of types high) → IsHostSort types one.low.sort
  span_from low high one h e = subst (λ (x : Span). IsHostSort types x.low.sort) (sym e) (good_sort types low h)

  all_with : (cs : List Constant) (c : Constant) → AllGood types sound cs → IsGood types c → AllGood types sound (cs ++ c ∷ [])
  all_with [] c h k = (k, tt)
  all_with (one ∷ cs) c h k = (h.0, all_with cs c h.1 k)

-- ---- expressions

module _ (g : Environment) (sound : IsSound g.types.types) (has : HasConstants g) where
  name_good : (place : Place) (word : List ℕ) (c : Constant) → (of_name g place word).holds c → IsGood g.types.types c
  unfolding of_name
  name_good place word c e = meaning_good g.types.types sound place (feature_of word) (find g word) c (λ number ty v is. has word number ty v is) e

  mutual
    valued : (one : Tree) (c : Constant) → AreLiterals one → (judged g one).holds c → IsGood g.types.types c
    valued (tree.number place n) c h e = same_good g.types.types c (values.integer n) e (number_good g.types.types sound n h)
    valued (tree.text place bytes) c h e = same_good g.types.types c (of_text bytes) e (text_literal g.types.types sound bytes h)
    valued (tree.control place letter) c h e = same_good g.types.types c (of_control letter) e (control_literal g.types.types sound letter h)
    valued (tree.nil place) c h e = absurd e
    valued (tree.set here all) c h e = constructed_good g.types.types sound here.place e.part c (spans_from [] all e.part h tt e.holds) e.made
    valued (tree.call here callee given) c h e =
        either_way (asks_size g callee)
        (size_called g here.place (sole_designator given) (sole_meant g here.place given) (operands_judged g here.place [] given))
        (parts (function_named g here.place callee) (operands_judged g here.place [] given) (λ f xs. called_with g.types.types here.place f xs)) c (IsGood g.types.types c)
        (λ sized_one. sized_good g sound here.place (sole_designator given) (sole_meant g here.place given) (operands_judged g here.place [] given) c sized_one)
        (λ held. called_good g.types.types sound g here.place callee held.left held.right c held.left_holds (operands_valued here.place [] given held.right h.1 tt held.right_holds) held.made) e
    valued (tree.signed mark a) c h e = marked_good g.types.types sound mark e.part c (valued a e.part h e.holds) e.made
    valued (tree.negated place a) c h e = negated_good g.types.types sound place e.part c e.made
    valued (tree.combined here op a b) c h e =
        combined_good g.types.types sound here.place e.left e.right c (valued a e.left h.0 e.left_holds) (valued b e.right h.1 e.right_holds) op e.made
    valued (tree.name here word) c h e = name_good here.place word c e
    valued (tree.field here a one) c h e = absurd e.made
    valued (tree.index here a i) c h e = absurd e.made
    valued (tree.followed place a) c h e = absurd e.made

    spans_from : (before : List Span) (all : Elements) (made : List Span) → AreInElements all → AreFromHosts g.types.types sound before → (spans_judged g before all).holds made
        → AreFromHosts g.types.types sound made
    spans_from before tree.no_elements made h k e = subst (λ (x : List Span). AreFromHosts g.types.types sound x) (sym e) k
    spans_from before (tree.and_element one rest) made h k e =
        spans_from (before ++ e.part ∷ []) rest made h.1 (hosts_with g.types.types sound before e.part k (one_from one e.part h.0 e.holds)) e.made

    one_from : (one : Listed) (made : Span) → AreInListed one → (span_judged g one).holds made → IsHostSort g.types.types made.low.sort
    one_from (tree.single a) made h e = span_from g.types.types sound e.part e.part made (valued a e.part h e.holds) e.made
    one_from (tree.span a b) made h e = span_from g.types.types sound e.left e.right made (valued a e.left h.0 e.left_holds) e.made

    operands_valued : (place : Place) (before : List Constant) (all : Operands) (made : List Constant) → AreInOperands all → AllGood g.types.types sound before
        → (operands_judged g place before all).holds made → AllGood g.types.types sound made
    operands_valued place before tree.no_operands made h k e = subst (λ (x : List Constant). AllGood g.types.types sound x) (sym e) k
    operands_valued place before (tree.and_operand one rest) made h k e =
        operands_valued place (before ++ e.part ∷ []) rest made h.1 (all_with g.types.types sound before e.part k (operand_valued place one e.part h.0 e.holds)) e.made

    operand_valued : (place : Place) (one : Operand) (c : Constant) → AreInOperand one → (operand_judged g place one).holds c → IsGood g.types.types c
    operand_valued place (tree.plain a) c h e = valued a c h e
    operand_valued place (tree.wide a width) c h e = absurd e.made

pub constants_valued : GivesValues
constants_valued g sound has one c h e = valued g sound has one c h e
