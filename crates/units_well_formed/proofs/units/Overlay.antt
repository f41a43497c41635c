-- The unit OVERLAY comes into a scope.
use Rattle.std.proofs.Common.{◌≡◌, ℕ, zero, suc, ◌≤◌, pos, negsuc, Bool, true, false, cond, All, List, [], ◌∷◌, ◌++◌, length, Option, Some, refl, sym, subst, ap, ◌∙◌, arith, append-nil}
use Rattle.std.specs.Prelude.{ℤ, slice_get, codes}
use Rattle.std.proofs.lemmas.List.Elements.{All-nil, All-cons}
use Rattle.declarations_well_formed.specs.type_layout.declared.definitions.TypeId.{TypeId}
use Rattle.declarations_well_formed.specs.type_layout.declared.definitions.Host.TheVariants as host
use Rattle.declarations_well_formed.specs.type_layout.declared.definitions.Param.{Param}
use Rattle.declarations_well_formed.specs.type_layout.declared.definitions.Method.{Method}
use Rattle.declarations_well_formed.specs.type_layout.declared.definitions.TypeDef.{TypeDef}
use Rattle.declarations_well_formed.specs.type_layout.declared.definitions.TypeDef.TheVariants as type
use Rattle.declarations_well_formed.specs.type_layout.Table.{place_of, with_unit}
use Rattle.declarations_well_formed.specs.typed_tree.declared.expressions.Value.TheVariants as value
use Rattle.declarations_well_formed.specs.typed_tree.declared.units.Item.{Item}
use Rattle.declarations_well_formed.specs.typed_tree.type_fits.Fits.{definition, IsSome, IsValue}
use Rattle.declarations_well_formed.specs.well_formed.Scopes.{Scope}
use Rattle.declarations_well_formed.specs.scopes.declared.entries.Entry.{Entry}
use Rattle.declarations_well_formed.specs.scopes.declared.entries.Entry.TheVariants as entry
use Rattle.declarations_well_formed.specs.scopes.Symbols.{SymbolList, has}
use Rattle.declarations_well_formed.specs.scopes.Predeclared.{type_id, type_list, whole}
use Rattle.declarations_well_formed.specs.scopes.Environment.{Environment}
use Rattle.declarations_well_formed.specs.unit_interface.Merge.{entry_of, name_of, with_new, with_items}
use Rattle.declarations_well_formed.specs.unit_interface.Resolve.{overlay, procedure, parameter, overlay_items, with_overlay}
use Rattle.declarations_well_formed.specs.rules_well_formed.nodes.Tables.{IsInTable, IsHeaderIn, IsSound}
use Rattle.declarations_well_formed.proofs.rules_well_formed_proofs.nodes.Ordinals.{at_begin}
use Rattle.declarations_well_formed.specs.call_rules.method_rules.Slots.{methods_of}
use Rattle.declarations_well_formed.specs.constants.Whole.{IsWholeOrdinal}
use Rattle.units_well_formed.specs.parts.Below.{IsEntry, EachOf, AreKnown, IsConstantIn, IsTabled}
use Rattle.units_well_formed.proofs.parts.Below.{unit_among, snoc_last}
use Rattle.units_well_formed.proofs.parts.Tables.{placed}
use Rattle.units_well_formed.specs.units.Bringing.{with_table, Brings}
use Rattle.units_well_formed.proofs.units.Told.{IsShown, named_at, names_told, entries_told}

module _ (P : Entry → Type 0) where
  new_has : (symbols : SymbolList) (word : List ℕ) (one : Entry) → EachOf P symbols → P one → EachOf P (with_new symbols word one)
  new_has symbols word one h k = by (has symbols word)
    where
      pushed : (all : SymbolList) → EachOf P all → EachOf P (all ++ (word, one) ∷ [])
      pushed [] e = (k, tt)
      pushed (first ∷ all) e = (e.0, pushed all e.1)

      by : (b : Bool) → EachOf P (cond b symbols (symbols ++ (word, one) ∷ []))
      by true = h
      by false = pushed symbols h

  abbrev pub EachItem : List TypeId → ℕ → List Item → Type 0
  EachItem ids unit [] = Unit {0}
  EachItem ids unit (one ∷ rest) = P (entry_of ids unit one) × EachItem ids unit rest

  pub items_have : (ids : List TypeId) (unit : ℕ) (symbols : SymbolList) (items : List Item) → EachOf P symbols → EachItem ids unit items → EachOf P (with_items ids unit symbols items)
  items_have ids unit symbols [] h k = h
  items_have ids unit symbols (one ∷ rest) h k = items_have ids unit (with_new symbols (name_of one) (entry_of ids unit one)) rest (new_has symbols (name_of one) (entry_of ids unit one) h k.0) k.1

module _ (name : List ℕ) (g : Environment) (s : Scope) (known : AreKnown g s) (named : slice_get g.units 0 ≡ Some name) (other : name ≡ overlay → ⊥) (table : IsTabled g.types) where
  abbrev h : Environment
  h = with_overlay g

  abbrev wide : Scope
  wide = with_table s h

  abbrev place : ℕ
  place = place_of g.units overlay

  behind_first : 1 ≤ place
  behind_first = by place (placed g.units overlay).there
    where
      front : (us more : List (List ℕ)) → slice_get us 0 ≡ Some name → slice_get (us ++ more) 0 ≡ Some name
      front [] more e = let bad : ⊥ = cc in absurd bad
      front (one ∷ us) more e = e

      by : (n : ℕ) → slice_get (with_unit g.units overlay) n ≡ Some overlay → 1 ≤ n
      by zero e =
          let more = (placed g.units overlay).grows in
          let first : slice_get (with_unit g.units overlay) 0 ≡ Some name = ap (λ (us : List (List ℕ)). slice_get us 0) more ∙ front g.units (placed g.units overlay).more named in
          let same : name ≡ overlay = cc in
          absurd (other same)
      by (suc n) e = omega arith

  sound : IsSound g.types.types
  sound = subst (λ (types : List TypeDef). IsSound types) known.has.types known.sound

  there : (k : ℕ) (one : TypeDef) → slice_get (type_list ++ sound.begins.0) k ≡ Some one → definition g.types.types (type_id k) ≡ Some one
  there k one e = at_begin g.types.types sound.begins.0 k one sound.begins.1 e

  in_table : (k : ℕ) (one : TypeDef) → slice_get (type_list ++ sound.begins.0) k ≡ Some one → IsInTable g.types.types (type_id k)
  in_table k one e = subst (λ (d : Option TypeDef). IsSome d) (sym (there k one e)) tt

  integer : definition g.types.types (type_id 2) ≡ Some (whole host.Integer)
  integer = there 2 (whole host.Integer) refl

  number_there : (n : ℤ) → IsValue g.types.types (value.Number n) (Some (whole host.Integer)) → IsShown wide (entry.Const (type_id 2) (value.Number n))
  number_there n e = subst (λ (d : Option TypeDef). IsValue g.types.types (value.Number n) d) (sym integer) e

  header_there : (params : List Param) → All (λ (param : Param). IsInTable g.types.types param.ty) params → IsHeaderIn g.types.types (procedure params)
  header_there params h = record { params = h; result = tt }

  code_there : (number : ℕ) (params : List Param) → All (λ (param : Param). IsInTable g.types.types param.ty) params → IsShown wide (entry.Code (record { unit = place; number = number }) 0 (procedure params) true)
  code_there number params k = (header_there params k, behind_first, named_at wide place overlay behind_first (unit_among h place overlay (placed g.units overlay).there))

  of_param : (k : ℕ) (word : List ℕ) → IsInTable g.types.types (type_id k) → All (λ (param : Param). IsInTable g.types.types param.ty) (parameter word k ∷ [])
  of_param k word h = All-cons (λ (param : Param). IsInTable g.types.types param.ty) (parameter word k) [] h (All-nil (λ (param : Param). IsInTable g.types.types param.ty))

  entries_shown : EachItem (IsShown wide) [] place overlay_items
  entries_shown =
      let code_2 = code_there 2 [] (All-nil (λ (param : Param). IsInTable g.types.types param.ty)) in
      let code_1 = code_there 1 (parameter (codes "N") 4 ∷ []) (of_param 4 (codes "N") (in_table 4 (whole host.LongInt) refl)) in
      let code_0 = code_there 0 (parameter (codes "S") 7 ∷ []) (of_param 7 (codes "S") (in_table 7 (type.Str 255) refl)) in
      (number_there (pos 0) refl, (number_there (negsuc 1) refl, ((in_table 2 (whole host.Integer) refl, refl, behind_first), (code_0, (code_1, (code_2, tt))))))

  constant_there : (n : ℤ) → IsValue g.types.types (value.Number n) (Some (whole host.Integer)) → IsConstantIn g.types.types (entry.Const (type_id 2) (value.Number n))
  constant_there n e = record {
    value = subst (λ (d : Option TypeDef). IsValue g.types.types (value.Number n) d) (sym integer) e;
    whole = subst (λ (d : Option TypeDef). IsWholeOrdinal g.types.types (type_id 2) d) (sym integer) tt;
  }

  values_there : EachItem (IsConstantIn g.types.types) [] place overlay_items
  values_there = (constant_there (pos 0) refl, (constant_there (negsuc 1) refl, (tt, (tt, (tt, (tt, tt))))))

  abbrev names : SymbolList
  names = with_items [] place [] overlay_items

  entries_there : EachOf (IsEntry wide []) names
  entries_there = entries_told wide names (items_have (IsShown wide) [] place [] overlay_items tt entries_shown) (names_told h (length g.used) names (snoc_last g.used names))

  pub overlay_brings : Brings name g (with_overlay g) s
  overlay_brings = record {
    names = names;
    whole = refl;
    types = ([], sym (append-nil g.types.types));
    units = ((placed g.units overlay).more, (placed g.units overlay).grows);
    table_units = ([], sym (append-nil g.types.units));
    methods = λ class place_in method high m. absurd (beyond g.types.types class.0 place_in method high m);
    sound = sound;
    table = table;
    entries = entries_there;
    values = items_have (IsConstantIn g.types.types) [] place [] overlay_items tt values_there;
  }
    where
      nothing : (k : ℕ) (method : Method) → slice_get [] k ≡ Some method → ⊥
      nothing zero method e = let bad : ⊥ = cc in bad
      nothing (suc k) method e = let bad : ⊥ = cc in bad

      beyond : (types : List TypeDef) (k place_in : ℕ) (method : Method) → length types ≤ k → slice_get (methods_of (slice_get types k)) place_in ≡ Some method → ⊥
      beyond [] zero place_in method high m = nothing place_in method m
      beyond [] (suc k) place_in method high m = nothing place_in method m
      beyond (one ∷ types) zero place_in method high m = omega (arith, high)
      beyond (one ∷ types) (suc k) place_in method high m = beyond types k place_in method (omega (arith, high)) m
