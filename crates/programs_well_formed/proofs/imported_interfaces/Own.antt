-- The unit that is read uses itself: its own interface brings back what stands in the scope.
use Rattle.std.proofs.Common.{◌≡◌, ℕ, zero, suc, Bool, true, cond, All, List, [], ◌∷◌, ◌++◌, length, map, Option, Some, None, refl, sym, subst, ap, ◌∙◌, arith, append-nil}
use Rattle.std.specs.Prelude.{slice_get, position, unwrap_or, option_map, ◌-◌}
use Rattle.std.specs.Cmp.Lexicographic.{bytes_decides}
use Rattle.std.proofs.lemmas.Bool.{lt-ltb}
use Rattle.std.proofs.lemmas.List.Elements.{All-get_or}
use Rattle.std.proofs.lemmas.Option.{slice_get_within, get_or_from_slice_get}
use Rattle.units_well_formed.specs.type_layout.declared.definitions.TypeId.{TypeId}
use Rattle.units_well_formed.specs.type_layout.declared.definitions.Header.{Header}
use Rattle.units_well_formed.specs.type_layout.declared.definitions.TypeDef.{TypeDef}
use Rattle.units_well_formed.specs.type_layout.Table.{Table, place_of}
use Rattle.units_well_formed.specs.type_layout.Words.{same_bytes}
use Rattle.units_well_formed.specs.typed_tree.declared.units.Item.{Item}
use Rattle.units_well_formed.specs.typed_tree.declared.units.Item.TheVariants as item
use Rattle.units_well_formed.specs.typed_tree.type_fits.Fits.{definition, AreSameHeaders}
use Rattle.units_well_formed.specs.well_formed.Scopes.{Others, Scope}
use Rattle.units_well_formed.specs.scopes.declared.entries.Entry.{Entry}
use Rattle.units_well_formed.specs.scopes.declared.entries.Entry.TheVariants as entry
use Rattle.units_well_formed.specs.scopes.declared.searches.OpenBlock.{OpenBlock}
use Rattle.units_well_formed.specs.scopes.Symbols.{SymbolList}
use Rattle.units_well_formed.specs.scopes.Environment.{Environment, own_symbols}
use Rattle.units_well_formed.specs.unit_interface.declared.interfaces.Interface.{Interface}
use Rattle.units_well_formed.specs.unit_interface.Exports.{renumbered_item}
use Rattle.units_well_formed.specs.unit_interface.Merge.{ids_in, with_items, with_interface}
use Rattle.units_well_formed.specs.unit_interface.Resolve.{interface_named, with_found, with_overlay}
use Rattle.units_well_formed.specs.call_rules.method_rules.Slots.{methods_of}
use Rattle.units_well_formed.specs.rules_well_formed.nodes.Tables.{IsHeaderIn, IsSound}
use Rattle.units_well_formed.specs.declarations_well_formed.constants.Laws.{StayConstants}
use Rattle.units_well_formed.specs.tp_check_decl.routines.Drafts.{Numbered, Drafted, knowing}
use Rattle.units_well_formed.specs.units.Below.{IsConstantIn, opening, IsDeep, IsVariableIn, IsEntry, EachOf, EachIn, others_of, item_of, items_in, items_by, items_of, scope_of, tree_of, IsOwnRoutine, IsOwn as IsOwnName, IsBottom, IsTabled, IsRead}
use Rattle.units_well_formed.proofs.units.BelowMore.{plain_at}
use Rattle.units_well_formed.specs.units.Begun.{IsJoined}
use Rattle.units_well_formed.specs.units.Bringing.{Brings}
use Rattle.units_well_formed.proofs.units.Bringing.{brought_draft}
use Rattle.units_well_formed.proofs.units.Overlay.{EachItem, items_have}
use Rattle.programs_well_formed.specs.imported_interfaces.Faithful.{IsOwn}
use Rattle.programs_well_formed.specs.imported_interfaces.Laws.{OwnLaw}
use Rattle.programs_well_formed.proofs.imported_interfaces.Merged.{none_beyond}
use Rattle.programs_well_formed.proofs.imported_interfaces.Entries.{units_longer}

-- the unit that is read has the first place
first_place : (units : List (List ℕ)) (name : List ℕ) → slice_get units 0 ≡ Some name → place_of units name ≡ 0
first_place [] name e = let bad : ⊥ = cc in absurd bad
first_place (one ∷ rest) name e =
    let is : one ≡ name = cc in
    let yes : same_bytes name one ≡ true = (bytes_decides name one).1 (sym is) in
    let low = lt-ltb 0 (suc (length rest)) (omega arith) in
    let found : position (same_bytes name) (one ∷ rest) ≡ Some 0 = rw yes (ap (λ (c : Bool). cond c (Some 0) None) low) in
    ap (λ (o : Option ℕ). unwrap_or o (suc (length rest))) found

-- ---- items

-- what an item means that the unit shows itself
abbrev own_entry : Item → Entry
own_entry (item.Const name ty v) = entry.Const ty v
own_entry (item.Ty name ty) = entry.Ty ty
own_entry (item.Var name ty number) = entry.Var 0 0 number ty
own_entry (item.Code name header number) = entry.Code (record { unit = 0; number = number }) 0 header true

module _ (P : Entry → Type 0) where
  abbrev EachOwn : List Item → Type 0
  EachOwn [] = Unit {0}
  EachOwn (one ∷ rest) = P (own_entry one) × EachOwn rest

  -- what the interface tells of them, by the ids of their types
  each_item : (ids : List TypeId) (items : List Item) → EachOwn (map (renumbered_item ids) items) → EachItem P ids 0 items
  each_item ids [] k = tt
  each_item ids (item.Const word ty v ∷ rest) k = (k.0, each_item ids rest k.1)
  each_item ids (item.Ty word ty ∷ rest) k = (k.0, each_item ids rest k.1)
  each_item ids (item.Var word ty number ∷ rest) k = (k.0, each_item ids rest k.1)
  each_item ids (item.Code word header number ∷ rest) k = (k.0, each_item ids rest k.1)

  pub own_have : (ids : List TypeId) (place : ℕ) (items : List Item) → place ≡ 0 → EachOwn (map (renumbered_item ids) items) → EachOf P (with_items ids place [] items)
  own_have ids place items first k = subst (λ (n : ℕ). EachOf P (with_items ids n [] items)) (sym first) (items_have P ids 0 [] items tt (each_item ids items k))

-- ---- the block of the unit

-- what is known of the names of the one block that is open
block_names : (P : List ℕ → Entry → Type 0) (g : Environment) → IsBottom g.blocks 0 → EachIn P [] g.blocks → (symbols : SymbolList) × (own_symbols g ≡ Some symbols) × EachOf (P []) symbols
block_names P g bottom each =
    let it = alone bottom.rest bottom.several in
    let blocks : g.blocks ≡ bottom.first ∷ [] = bottom.is ∙ ap (λ (rest : List OpenBlock). bottom.first ∷ rest) it in
    let around : opening bottom.first.kind [] ≡ [] = ap (λ kind. opening kind []) bottom.part in
    let names : EachIn P [] (bottom.first ∷ []) = subst (λ (b : List OpenBlock). EachIn P [] b) blocks each in (
      bottom.first.symbols,
      ap (λ (b : List OpenBlock). option_map (λ (x : OpenBlock). x.symbols) (slice_get b (length b - 1))) blocks,
      subst (λ (o : List ℕ). EachOf (P o) bottom.first.symbols) around names.0,
    )
  where
    alone : (rest : List OpenBlock) → length rest ≡ 0 → rest ≡ []
    alone [] e = refl
    alone (one ∷ rest) e = absurd (omega (arith, e))

module _ (types : List TypeDef) where
  constant_back : (name : List ℕ) (one : Entry) (rest : List Item) → IsConstantIn types one → EachOwn (IsConstantIn types) rest → EachOwn (IsConstantIn types) (item_of name one ++ rest)
  constant_back name (entry.Const ty v) rest h k = (h, k)
  constant_back name (entry.Ty ty) rest h k = (tt, k)
  constant_back name (entry.Var unit level number ty) rest h k = (tt, k)
  constant_back name (entry.Code routine level header far) rest h k = (tt, k)
  constant_back name (entry.Std number) rest h k = k

  constants_back : (symbols : SymbolList) → EachOf (IsConstantIn types) symbols → EachOwn (IsConstantIn types) (items_in symbols)
  constants_back [] h = tt
  constants_back (one ∷ rest) h = constant_back one.0 one.1 (items_in rest) h.0 (constants_back rest h.1)

module _ (d : Drafted) (r : IsRead d []) (all_far : All (λ (one : Numbered). one.first.far ≡ true) d.routines) (others : Others) where
  abbrev known : Scope
  known = scope_of d []

  abbrev wide : List TypeDef → Scope
  wide types = record known { types = types; others = others }

  abbrev after : Scope
  after = wide d.scope.types.types

  far_at : (number : ℕ) (one : Numbered) → slice_get d.routines number ≡ Some one → one.first.far ≡ true
  far_at number one at =
      let within = slice_get_within d.routines number one at in
      subst (λ (x : Numbered). x.first.far ≡ true) (get_or_from_slice_get d.routines number one one at)
      (All-get_or (λ (x : Numbered). x.first.far ≡ true) d.routines number one within all_far)

  -- a routine that the unit shows
  code_back : (number : ℕ) (header : Header) → IsOwnRoutine d.routines [] number header → IsHeaderIn d.scope.types.types header → IsEntry after [] (entry.Code (record { unit = 0; number = number }) 0 header true)
  code_back number header it within =
      let at : slice_get after.routines number ≡ Some (tree_of it.one) = plain_at d.routines number it.one it.is in
      let itself : AreSameHeaders it.one.first.header it.one.first.header = record { kind = refl; params = refl; result = refl } in
      let same : AreSameHeaders header it.one.first.header = subst (λ (h : Header). AreSameHeaders h it.one.first.header) it.first itself in
      let is_far = far_at number it.one it.is in
      let deep : IsDeep after.routines 0 it.one.first.outer = subst (λ (o : Option ℕ). IsDeep after.routines 0 o) (sym it.outer) tt in (
        (tree_of it.one, at, record { free = record { free = it.free; same = same }; outer = it.outer }),
        within,
        λ far level. ((tree_of it.one, at, record { far = is_far; free = it.free; outermost = it.outer; same = same }), tt),
        (tree_of it.one, at, deep),
      )

  variable_back : (level unit number : ℕ) (ty : TypeId) → unit ≡ 0 → IsVariableIn known [] level unit number ty → slice_get after.globals number ≡ Some ty
  variable_back zero unit number ty own h = subst (λ (n : ℕ). IsVariableIn known [] 0 n number ty) own h
  variable_back (suc level) unit number ty own h = let none : None ≡ Some h.routine = h.opened in let bad : ⊥ = cc in absurd bad

  entry_back : (name : List ℕ) (one : Entry) (rest : List Item) → IsEntry known [] one → IsOwnName d.routines [] one → EachOwn (IsEntry after []) rest → EachOwn (IsEntry after []) (item_of name one ++ rest)
  entry_back name (entry.Const ty v) rest h own k = (h, k)
  entry_back name (entry.Ty ty) rest h own k = (h, k)
  entry_back name (entry.Var unit level number ty) rest h own k = ((h.0, variable_back level unit number ty own h.1), k)
  entry_back name (entry.Code routine level header far) rest h own k = (code_back routine.number header own.1 h.1, k)
  entry_back name (entry.Std number) rest h own k = k

  entries_back : (symbols : SymbolList) → EachOf (IsEntry known []) symbols → EachOf (IsOwnName d.routines []) symbols → EachOwn (IsEntry after []) (items_in symbols)
  entries_back [] h own = tt
  entries_back (one ∷ rest) h own = entry_back one.0 one.1 (items_in rest) h.0 own.0 (entries_back rest h.1 own.1)

  -- what the unit's block shows
  shown_entries : EachOwn (IsEntry after []) (items_of d.scope)
  shown_entries =
      let names = block_names (IsEntry known) d.scope r.bottom r.known.blocks in
      let own = block_names (IsOwnName d.routines) d.scope r.bottom r.own in
      let same : names.0 ≡ own.0 = some_is names.0 own.0 (sym names.1 ∙ own.1) in
      let is : EachOf (IsOwnName d.routines []) names.0 = subst (λ (s : SymbolList). EachOf (IsOwnName d.routines []) s) (sym same) own.2 in
      subst (λ (o : Option SymbolList). EachOwn (IsEntry after []) (items_by o)) (sym names.1) (entries_back names.0 names.2 is)
    where
      some_is : (a b : SymbolList) → Some a ≡ Some b → a ≡ b
      some_is a b e = cc

  shown_constants : EachOwn (IsConstantIn d.scope.types.types) (items_of d.scope)
  shown_constants =
      let names = block_names (λ (around : List ℕ) (one : Entry). IsConstantIn d.scope.types.types one) d.scope r.bottom r.values.blocks in
      subst (λ (o : Option SymbolList). EachOwn (IsConstantIn d.scope.types.types) (items_by o)) (sym names.1) (constants_back d.scope.types.types names.0 names.2)

-- ---- the interface

own_brings : (name : List ℕ) (d : Drafted) (i : Interface) → IsRead d [] → slice_get d.scope.units 0 ≡ Some name → IsOwn name d i → Brings name d.scope (with_interface d.scope i) (scope_of d [])
own_brings name d i r named own =
    let g : Environment = d.scope in
    let h : Environment = with_interface g i in
    let ids : List TypeId = ids_in g.types i.types in
    let place : place_of g.units i.name ≡ 0 = ap (λ (word : List ℕ). place_of g.units word) own.own ∙ first_place g.units name named in
    let same : g.types ≡ h.types = sym own.types in
    let units = units_longer g i in
    let entries : EachOwn (IsEntry (wide d r own.far (others_of h) h.types.types) []) (map (renumbered_item ids) i.items) =
    subst (λ (t : Table). EachOwn (IsEntry (wide d r own.far (others_of h) t.types) []) (map (renumbered_item ids) i.items)) same
    (subst (λ (items : List Item). EachOwn (IsEntry (after d r own.far (others_of h)) []) items) (sym own.items) (shown_entries d r own.far (others_of h))) in
    let constants : EachOwn (IsConstantIn h.types.types) (map (renumbered_item ids) i.items) =
    subst (λ (t : Table). EachOwn (IsConstantIn t.types) (map (renumbered_item ids) i.items)) same
    (subst (λ (items : List Item). EachOwn (IsConstantIn g.types.types) items) (sym own.items) (shown_constants d r own.far (others_of h))) in
    record {
      names = with_items ids (place_of g.units i.name) [] i.items;
      whole = refl;
      types = ([], ap (λ (t : Table). t.types) own.types ∙ sym (append-nil g.types.types));
      units = (units.back, units.is);
      table_units = ([], ap (λ (t : Table). t.units) own.types ∙ sym (append-nil g.types.units));
      methods = λ class at method high m.
          absurd (none_beyond g.types.types class.0 at method high (ap (λ (t : Table). slice_get (methods_of (definition t.types class)) at) same ∙ m));
      sound = subst (λ (t : Table). IsSound t.types) same r.known.sound;
      table = subst (λ (t : Table). IsTabled t) same r.table;
      entries = own_have (IsEntry (wide d r own.far (others_of h) h.types.types) []) ids (place_of g.units i.name) i.items place entries;
      values = own_have (IsConstantIn h.types.types) ids (place_of g.units i.name) i.items place constants;
    }

pub own_keeps : StayConstants → OwnLaw
own_keeps stay name have one i other found d h r named own k =
    let g : Environment = d.scope in
    let is : h ≡ with_interface g i =
    k.made ∙ ap (λ (b : Bool). cond b (with_overlay g) (with_found g (interface_named have one.name))) other ∙ ap (λ (o : Option Interface). with_found g o) found in
    subst (λ (e : Environment). IsJoined d (knowing d e)) (sym is) (brought_draft stay name d (with_interface g i) r named (own_brings name d i r named own))
