-- A scope that is known, and whose table has a type behind each ordinal type of an enumeration, is closed.
use Rattle.std.proofs.Common.{◌≡◌, ℕ, zero, suc, ◌+◌, ◌<◌, ◌≤◌, All, List, [], ◌∷◌, ◌++◌, length, Option, Some, None, refl, subst, ap, ◌∙◌, arith, length-append}
use Rattle.std.specs.Prelude.{ℤ, slice_get}
use Rattle.std.proofs.lemmas.List.Elements.{All-head, All-tail}
use Rattle.declarations_well_formed.specs.type_layout.declared.definitions.TypeId.{TypeId}
use Rattle.declarations_well_formed.specs.type_layout.declared.definitions.Param.{Param}
use Rattle.declarations_well_formed.specs.type_layout.declared.definitions.Host.TheVariants as host
use Rattle.declarations_well_formed.specs.type_layout.declared.definitions.Header.{Header}
use Rattle.declarations_well_formed.specs.type_layout.declared.definitions.Method.{Method}
use Rattle.declarations_well_formed.specs.type_layout.declared.definitions.TypeDef.{TypeDef}
use Rattle.declarations_well_formed.specs.type_layout.declared.definitions.TypeDef.TheVariants as type
use Rattle.declarations_well_formed.specs.type_layout.Table.{AllDefined, IsDefinedOver}
use Rattle.declarations_well_formed.specs.typed_tree.declared.expressions.Value.{Value}
use Rattle.declarations_well_formed.specs.typed_tree.declared.expressions.Value.TheVariants as value
use Rattle.declarations_well_formed.specs.typed_tree.type_fits.Fits.{definition, IsSome, IsValue}
use Rattle.declarations_well_formed.specs.well_formed.Scopes.{Scope}
use Rattle.declarations_well_formed.specs.scopes.declared.entries.Entry.{Entry}
use Rattle.declarations_well_formed.specs.scopes.declared.entries.Entry.TheVariants as entry
use Rattle.declarations_well_formed.specs.scopes.declared.searches.OpenBlock.{OpenBlock}
use Rattle.declarations_well_formed.specs.scopes.Symbols.{SymbolList}
use Rattle.declarations_well_formed.specs.scopes.Predeclared.{type_list}
use Rattle.declarations_well_formed.specs.scopes.Environment.{Environment}
use Rattle.declarations_well_formed.specs.unit_interface.Exports.{in_option, in_params, in_header, in_methods, with_type}
use Rattle.declarations_well_formed.specs.rules_well_formed.nodes.Tables.{IsInTable, IsResultIn, IsHeaderIn, NamesWithin, IsSound}
use Rattle.declarations_well_formed.proofs.well_formed_proofs.weakening.Types.{within_some}
use Rattle.declarations_well_formed.specs.tables_closed.constants.Bounds.{AreBelow, in_entry, in_names, in_lists, in_open, IsWellScopedEnvironment}
use Rattle.declarations_well_formed.proofs.tables_closed_proofs.constants.Below.{below_both}
use Rattle.declarations_well_formed.proofs.tables_closed_proofs.types.Entering.{IsAsked, type_below}
use Rattle.declarations_well_formed.specs.bodies_well_formed.other_units.Known.{opening, IsEntry, EachOf, EachIn, AreKnown}
use Rattle.units_well_formed.specs.routines.Reading.{IsTabled}

-- a type is defined over types before it
defined_at : (before types : List TypeDef) (k : ℕ) (one : TypeDef) → AllDefined before types → slice_get types k ≡ Some one → (front : List TypeDef) × (length front ≤ length before + length types) × IsDefinedOver front one
defined_at before [] zero one h e = let bad : ⊥ = cc in absurd bad
defined_at before [] (suc k) one h e = let bad : ⊥ = cc in absurd bad
defined_at before (first ∷ types) zero one h e =
    let same : first ≡ one = cc in
    let low : length before ≤ length before + length (first ∷ types) = omega arith in
    (before, low, subst (λ (x : TypeDef). IsDefinedOver before x) same h.0)
defined_at before (first ∷ types) (suc k) one h e =
    let it = defined_at (before ++ first ∷ []) types k one h.1 e in
    let count = length-append before (first ∷ []) in
    let low = it.1 in
    let more : length it.0 ≤ length before + length (first ∷ types) = omega (arith, count, low) in
    (it.0, more, it.2)

module _ (types : List TypeDef) where
  there : (ty : TypeId) → IsInTable types ty → ty.0 < length types
  there ty h = within_some types ty.0 h

  params_there : (params : List Param) → All (λ (param : Param). IsInTable types param.ty) params → AreBelow (length types) (in_params params)
  params_there [] h = tt
  params_there (one ∷ rest) h =
      (there one.ty (All-head (λ (param : Param). IsInTable types param.ty) one rest h), params_there rest (All-tail (λ (param : Param). IsInTable types param.ty) one rest h))

  result_there : (o : Option TypeId) → IsResultIn types o → AreBelow (length types) (in_option o)
  result_there None h = tt
  result_there (Some ty) h = (there ty h, tt)

  header_there : (header : Header) → IsHeaderIn types header → AreBelow (length types) (in_header header)
  header_there header h = below_both (length types) (in_params header.params) (in_option header.result) (params_there header.params h.params) (result_there header.result h.result)

  methods_there : (methods : List Method) → All (λ (method : Method). IsHeaderIn types method.header) methods → AreBelow (length types) (in_methods methods)
  methods_there [] h = tt
  methods_there (one ∷ rest) h =
      below_both (length types) (in_header one.header) (in_methods rest) (header_there one.header (All-head (λ (method : Method). IsHeaderIn types method.header) one rest h))
      (methods_there rest (All-tail (λ (method : Method). IsHeaderIn types method.header) one rest h))

  asked_there : (number : ℕ) (one : TypeDef) → ((low high : ℤ) → one ≡ type.Ordinal host.Enumeration low high → number + 1 < length types) → NamesWithin types one → IsAsked (length types) number one
  asked_there number (type.Ordinal host.Enumeration low high) f h = f low high refl
  asked_there number (type.PointerTo target) f h = there target h
  asked_there number (type.ObjectOf parent dynamic fields methods) f h = methods_there methods h
  asked_there number (type.Procedural header) f h = header_there header h
  asked_there number one f h = tt

  entry_there : (s : Scope) (around : List ℕ) (one : Entry) → s.types ≡ types → IsEntry s around one → AreBelow (length types) (in_entry one)
  entry_there s around (entry.Const ty v) e h =
      (there ty (subst (λ (all : List TypeDef). IsSome (definition all ty)) e (value_of ty v h)), tt)
    where
      of_some : (x : Value) (d : Option TypeDef) → IsValue s.types x d → IsSome d
      of_some x (Some one) k = tt
      of_some (value.Number n) None k = k
      of_some (value.Chars bytes) None k = k
      of_some value.Nil None k = k
      of_some (value.Elements bytes) None k = k

      value_of : (t : TypeId) (x : Value) → IsValue s.types x (definition s.types t) → IsSome (definition s.types t)
      value_of t x k = of_some x (definition s.types t) k
  entry_there s around (entry.Ty ty) e h = (there ty (subst (λ (all : List TypeDef). IsInTable all ty) e h), tt)
  entry_there s around (entry.Var unit level number ty) e h = (there ty (subst (λ (all : List TypeDef). IsInTable all ty) e h.0), tt)
  entry_there s around (entry.Code routine level header far) e h = header_there header (subst (λ (all : List TypeDef). IsHeaderIn all header) e h.1)
  entry_there s around (entry.Std number) e h = tt

  names_there : (s : Scope) (around : List ℕ) (symbols : SymbolList) → s.types ≡ types → EachOf (IsEntry s around) symbols → AreBelow (length types) (in_names symbols)
  names_there s around [] e h = tt
  names_there s around (one ∷ rest) e h = below_both (length types) (in_entry one.1) (in_names rest) (entry_there s around one.1 e h.0) (names_there s around rest e h.1)

  lists_there : (s : Scope) (all : List SymbolList) → s.types ≡ types → All (EachOf (IsEntry s [])) all → AreBelow (length types) (in_lists all)
  lists_there s [] e h = tt
  lists_there s (one ∷ rest) e h =
      below_both (length types) (in_names one) (in_lists rest) (names_there s [] one e (All-head (EachOf (IsEntry s [])) one rest h)) (lists_there s rest e (All-tail (EachOf (IsEntry s [])) one rest h))

  blocks_there : (s : Scope) (around : List ℕ) (blocks : List OpenBlock) → s.types ≡ types → EachIn (IsEntry s) around blocks → AreBelow (length types) (in_open blocks)
  blocks_there s around [] e h = tt
  blocks_there s around (one ∷ rest) e h =
      below_both (length types) (in_names one.symbols) (in_open rest) (names_there s (opening one.kind around) one.symbols e h.0) (blocks_there s (opening one.kind around) rest e h.1)

pub known_closed : (g : Environment) (s : Scope) → AreKnown g s → IsTabled g.types → IsWellScopedEnvironment g
known_closed g s h t = record {
  table = omega arith;
  system = (let count = length-append type_list begins.0 in let whole : length g.types.types ≡ length (type_list ++ begins.0) = ap (λ (all : List TypeDef). length all) begins.1 in omega (arith, count, whole));
  types = λ by. at_type by (slice_get g.types.types by) refl;
  predeclared = names_there g.types.types s [] g.predeclared h.has.types h.predeclared;
  used = lists_there g.types.types s g.used h.has.types h.used;
  blocks = blocks_there g.types.types s [] g.blocks h.has.types h.blocks;
}
  where
    sound : IsSound g.types.types
    sound = subst (λ (types : List TypeDef). IsSound types) h.has.types h.sound

    begins : (rest : List TypeDef) × (g.types.types ≡ type_list ++ rest)
    begins = sound.begins

    at_type : (by : ℕ) (d : Option TypeDef) → slice_get g.types.types by ≡ d → AreBelow (length g.types.types) (with_type by d)
    at_type by None e = tt
    at_type by (Some one) e =
        let over = defined_at [] g.types.types by one sound.defined e in
        let low = over.1 in
        type_below (length g.types.types) over.0 (omega (arith, low)) by one over.2
        (asked_there g.types.types by one (λ low_bound high_bound is. t.followed by low_bound high_bound (e ∙ ap (λ (x : TypeDef). Some x) is)) (sound.names (record { 0 = by }) one e))
