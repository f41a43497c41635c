-- What used units bring into scopes, and that it stays as the scopes grow.
use Rattle.std.proofs.Common.{◌≡◌, ◌∙◌, ◌⊎◌, inl, inr, ℕ, Bool, true, false, cond, List, [], ◌∷◌, Option, Some, None, get_or, refl, sym, ap, subst, arith}
use Rattle.std.specs.Prelude.{All, slice_get}
use Rattle.std.proofs.lemmas.List.Elements.{All-nil, All-push, All-weaker}
use Rattle.std.proofs.lemmas.Option.{same_Some, slice_get_within, slice_get-get_or}
use Rattle.shared_types_agree.specs.type_layout.declared.definitions.TypeId.{TypeId}
use Rattle.shared_types_agree.specs.type_layout.declared.definitions.TypeDef.{TypeDef}
use Rattle.shared_types_agree.specs.type_layout.Words.{same_bytes}
use Rattle.shared_types_agree.specs.type_layout.Table.{Table, place_of, with_unit}
use Rattle.shared_types_agree.specs.syntax_tree.declared.identifier.Identifier.{Identifier}
use Rattle.shared_types_agree.specs.scopes.Symbols.{SymbolList}
use Rattle.shared_types_agree.specs.scopes.Environment.{Environment}
use Rattle.shared_types_agree.specs.scopes.Predeclared.{system, type_table, first}
use Rattle.shared_types_agree.specs.unit_interface.declared.keys.Key.{Key}
use Rattle.shared_types_agree.specs.unit_interface.declared.interfaces.Interface.{Interface}
use Rattle.shared_types_agree.specs.unit_interface.Merge.{keys_of, ids_in, new_id, with_items, with_declaring, with_all_declaring, with_interface}
use Rattle.shared_types_agree.specs.unit_interface.Keyed.{IsKeyed}
use Rattle.shared_types_agree.specs.unit_interface.Resolve.{overlay, overlay_items, is_overlay, interface_named, with_overlay, with_found, with_use, with_uses}
use Rattle.shared_types_agree.proofs.unit_interface_proofs.KeyLaws.{is_added, keyed_first}
use Rattle.shared_types_agree.specs.methods.Below.{all_used}
use Rattle.shared_types_agree.proofs.imported_types_agree_proofs.consistent_types.Arrived.{merged_keyed, key_stays, key_lands, all_arrived}

-- ---- names of units, and keys of types

-- names of units stay at their places
abbrev pub NamesStay : List (List ℕ) → List (List ℕ) → Type 0
NamesStay units longer = (place : ℕ) (name : List ℕ) → slice_get units place ≡ Some name → slice_get longer place ≡ Some name

-- so do the keys of types
abbrev pub KeysStay : Table → Table → Type 0
KeysStay table longer = (place : ℕ) (key : Key) → slice_get (keys_of table) place ≡ Some key → slice_get (keys_of longer) place ≡ Some key

-- and so do types and their keys
pub record IsLonger (table longer : Table) : Type 0 where
  pub keys : KeysStay table longer
  pub types : (place : ℕ) (one : TypeDef) → slice_get table.types place ≡ Some one → slice_get longer.types place ≡ Some one

pub record IsKeptIn (g h : Environment) : Type 0 where
  pub units : NamesStay g.units h.units
  pub table : IsLonger g.types h.types

pub longer_itself : (table : Table) → IsLonger table table
longer_itself table = record { keys = λ place key at. at; types = λ place one at. at }

longer_on : (one two three : Table) → IsLonger one two → IsLonger two three → IsLonger one three
longer_on one two three h k = record { keys = λ place key at. k.keys place key (h.keys place key at); types = λ place x at. k.types place x (h.types place x at) }

-- ---- what a used unit brings

-- the items of an interface, under other ids for its types, which are the same types there
pub record IsOfInterface (have : List Interface) (h : Environment) (names : SymbolList) : Type 0 where
  pub word : List ℕ
  pub other : is_overlay word ≡ false
  pub interface : Interface
  pub found : interface_named have word ≡ Some interface
  pub place : ℕ
  pub unit : slice_get h.units place ≡ Some interface.name
  pub ids : List TypeId
  pub are : names ≡ with_items ids place [] interface.items
  pub keys : (ty : TypeId) (key : Key) → slice_get (keys_of interface.types) ty.0 ≡ Some key → slice_get (keys_of h.types) (new_id ids ty).0 ≡ Some key

-- the items of the unit Overlay
pub record IsOfOverlay (h : Environment) (names : SymbolList) : Type 0 where
  pub place : ℕ
  pub unit : slice_get h.units place ≡ Some overlay
  pub are : names ≡ with_items [] place [] overlay_items
  pub table : IsLonger type_table h.types

abbrev pub IsBrought : List Interface → Environment → SymbolList → Type 0
IsBrought have h names = IsOfInterface have h names ⊎ IsOfOverlay h names

module _ (have : List Interface) (g h : Environment) (kept : IsKeptIn g h) where
  interface_on : (names : SymbolList) → IsOfInterface have g names → IsOfInterface have h names
  interface_on names b = record {
    word = b.word;
    other = b.other;
    interface = b.interface;
    found = b.found;
    place = b.place;
    unit = kept.units b.place b.interface.name b.unit;
    ids = b.ids;
    are = b.are;
    keys = λ ty key at. kept.table.keys (new_id b.ids ty).0 key (b.keys ty key at);
  }

  overlay_on : (names : SymbolList) → IsOfOverlay g names → IsOfOverlay h names
  overlay_on names b = record { place = b.place; unit = kept.units b.place overlay b.unit; are = b.are; table = longer_on type_table g.types h.types b.table kept.table }

  pub brought_on : (names : SymbolList) → IsBrought have g names → IsBrought have h names
  brought_on names (inl b) = inl (interface_on names b)
  brought_on names (inr b) = inr (overlay_on names b)

-- ---- scopes

-- No two types have one key, the predeclared types come first, and each list of names of used units is what a unit brought.
pub record IsBringing (have : List Interface) (g : Environment) : Type 0 where
  pub keyed : IsKeyed g.types
  pub system : IsLonger type_table g.types
  pub used : All (IsBrought have g) g.used

pub first_bringing : (have : List Interface) (name : List ℕ) → IsBringing have (first name)
first_bringing have name = record { keyed = keyed_first; system = longer_itself type_table; used = All-nil (IsBrought have (first name)) }

-- declarations bring no names of units
pub bringing_on : (have : List Interface) (g h : Environment) → IsKeptIn g h → h.used ≡ g.used → IsKeyed h.types → IsBringing have g → IsBringing have h
bringing_on have g h kept same keyed b = record {
  keyed = keyed;
  system = longer_on type_table g.types h.types b.system kept.table;
  used = subst (λ (lists : List SymbolList). All (IsBrought have h) lists) (sym same) (All-weaker (IsBrought have g) (IsBrought have h) (brought_on have g h kept) g.used b.used);
}

-- ---- a used unit more

unit_stays : (units : List (List ℕ)) (unit : List ℕ) → NamesStay units (with_unit units unit)
unit_stays units unit place name at =
    let a = is_added units unit in
    let low = slice_get_within units place name at in
    let there : get_or units place [] ≡ name = same_Some (get_or units place []) name (sym (slice_get-get_or units place [] low) ∙ at) in
    slice_get-get_or (with_unit units unit) place [] (omega (arith, low, a.more)) ∙ ap (λ (u : List ℕ). Some u) (a.stay place low ∙ there)

unit_here : (units : List (List ℕ)) (unit : List ℕ) → slice_get (with_unit units unit) (place_of units unit) ≡ Some unit
unit_here units unit =
    let a = is_added units unit in
    slice_get-get_or (with_unit units unit) (place_of units unit) [] a.within ∙ ap (λ (u : List ℕ). Some u) a.at

declaring_stays : (units : List (List ℕ)) (unit : List ℕ) → NamesStay units (with_declaring units unit)
declaring_stays units unit = by (same_bytes unit system)
  where
    by : (b : Bool) → NamesStay units (cond b units (with_unit units unit))
    by true = λ place name at. at
    by false = unit_stays units unit

all_declaring_stay : (more units : List (List ℕ)) → NamesStay units (with_all_declaring units more)
all_declaring_stay [] units = λ place name at. at
all_declaring_stay (unit ∷ more) units = λ place name at. all_declaring_stay more (with_declaring units unit) place name (declaring_stays units unit place name at)

module _ (have : List Interface) (told : (word : List ℕ) → is_overlay word ≡ false → (i : Interface) → interface_named have word ≡ Some i → IsKeyed i.types) where
  overlay_brings : (g : Environment) → IsBringing have g → IsBringing have (with_overlay g)
  overlay_brings g b =
      let h = with_overlay g in
      let kept : IsKeptIn g h = record { units = unit_stays g.units overlay; table = longer_itself g.types } in
      record {
        keyed = b.keyed;
        system = b.system;
        used = All-push (IsBrought have h) g.used (with_items [] (place_of g.units overlay) [] overlay_items)
            (All-weaker (IsBrought have g) (IsBrought have h) (brought_on have g h kept) g.used b.used)
            (inr (record { place = place_of g.units overlay; unit = unit_here g.units overlay; are = refl; table = b.system }));
      }

  interface_brings : (g : Environment) (word : List ℕ) (i : Interface) → is_overlay word ≡ false → interface_named have word ≡ Some i → IsBringing have g → IsBringing have (with_interface g i)
  interface_brings g word i other found b =
      let h = with_interface g i in
      let own : IsKeyed i.types = told word other i found in
      let units = all_declaring_stay i.types.units (with_unit g.units i.name) in
      let longer : IsLonger g.types h.types = record { keys = key_stays g.types i.types b.keyed own; types = (all_arrived g.types i.types b.keyed own).front } in
      let kept : IsKeptIn g h = record { units = λ place name at. units place name (unit_stays g.units i.name place name at); table = longer } in
      let names : SymbolList = with_items (ids_in g.types i.types) (place_of g.units i.name) [] i.items in
      record {
        keyed = merged_keyed g.types i.types b.keyed own;
        system = longer_on type_table g.types h.types b.system longer;
        used = All-push (IsBrought have h) g.used names
            (All-weaker (IsBrought have g) (IsBrought have h) (brought_on have g h kept) g.used b.used)
            (inl (record {
              word = word;
              other = other;
              interface = i;
              found = found;
              place = place_of g.units i.name;
              unit = units (place_of g.units i.name) i.name (unit_here g.units i.name);
              ids = ids_in g.types i.types;
              are = refl;
              keys = λ ty key at. key_lands g.types i.types b.keyed own ty.0 key ty at;
            }));
      }

  use_brings : (g : Environment) (word : List ℕ) → IsBringing have g → IsBringing have (with_use have g word)
  use_brings g word b = by (is_overlay word) refl (interface_named have word) refl
    where
      by : (o : Bool) → is_overlay word ≡ o → (found : Option Interface) → interface_named have word ≡ found → IsBringing have (cond o (with_overlay g) (with_found g found))
      by true is found at = overlay_brings g b
      by false is None at = b
      by false is (Some i) at = interface_brings g word i is at b

  pub uses_bring : (g : Environment) (words : List (List ℕ)) → IsBringing have g → IsBringing have (with_uses have g words)
  uses_bring g [] b = b
  uses_bring g (word ∷ words) b = uses_bring (with_use have g word) words (use_brings g word b)

  pub used_bring : (g : Environment) (uses : List Identifier) (h : Environment) → (all_used have g uses).holds h → IsBringing have g → IsBringing have h
  used_bring g [] h e b = subst (IsBringing have) (sym e) b
  used_bring g (one ∷ rest) h e b = used_bring e.part rest h e.made (subst (IsBringing have) (sym e.holds.made) (use_brings g one.name b))
