-- Units are well formed as a whole.
use Rattle.std.proofs.Common.{◌≡◌, ℕ, zero, suc, ◌+◌, ◌<◌, ◌≤◌, All, List, [], ◌∷◌, ◌++◌, length, map, get_or, Option, Some, None, refl, sym, subst, ap, ◌∙◌, arith, append-nil, length-append}
use Rattle.std.specs.Prelude.{slice_get, ◌^◌, ◌-◌, option_map}
use Rattle.std.proofs.Math.Nat.{min-eq_left}
use Rattle.std.proofs.lemmas.List.{length-map}
use Rattle.std.proofs.lemmas.Option.{slice_get-get_or}
use Rattle.std.proofs.lemmas.List.Elements.{All-nil, All-cons}
use Rattle.declarations_well_formed.specs.type_layout.declared.definitions.TypeId.{TypeId}
use Rattle.declarations_well_formed.specs.type_layout.declared.definitions.Header.{Header}
use Rattle.declarations_well_formed.specs.type_layout.declared.definitions.TypeDef.{TypeDef}
use Rattle.declarations_well_formed.specs.type_layout.Table.{Table}
use Rattle.declarations_well_formed.specs.syntax_tree.declared.statement.CompoundStatement.{CompoundStatement}
use Rattle.declarations_well_formed.specs.typed_tree.declared.units.Global.{Global}
use Rattle.declarations_well_formed.specs.typed_tree.declared.units.Item.{Item}
use Rattle.declarations_well_formed.specs.typed_tree.declared.units.Item.TheVariants as item
use Rattle.declarations_well_formed.specs.typed_tree.declared.units.Routine.{Routine}
use Rattle.declarations_well_formed.specs.typed_tree.declared.units.Unit as typed
use Rattle.declarations_well_formed.specs.typed_tree.Statements.{Statement}
use Rattle.declarations_well_formed.specs.typed_tree.type_fits.Fits.{definition, IsValue, IsSome, shape_of}
use Rattle.declarations_well_formed.specs.typed_tree.type_fits.Routines.{IsInitial, HasInitial}
use Rattle.declarations_well_formed.specs.well_formed.WellFormed.{scope_of, IsFirst, IsOfUnit, IsHeaderOf, IsItem}
use Rattle.declarations_well_formed.specs.type_layout.Layouts.{size_of}
use Rattle.declarations_well_formed.specs.scopes.declared.entries.Entry.{Entry}
use Rattle.declarations_well_formed.specs.scopes.declared.entries.Entry.TheVariants as entry
use Rattle.declarations_well_formed.specs.scopes.declared.entries.BlockKind.TheVariants as block
use Rattle.declarations_well_formed.specs.scopes.declared.searches.OpenBlock.{OpenBlock}
use Rattle.declarations_well_formed.specs.scopes.Symbols.{SymbolList}
use Rattle.declarations_well_formed.specs.scopes.Members.{narrow}
use Rattle.declarations_well_formed.specs.scopes.Environment.{own_symbols}
use Rattle.declarations_well_formed.specs.tp_check_decl.routines.Drafts.{Drafted}
use Rattle.declarations_well_formed.specs.tp_check_decl.Units.{Finished, Whole, view_routine, view_unit, main_part}
use Rattle.declarations_well_formed.specs.tp_check_decl.Interfaces.{item_of, items_in, items_by, items_of}
use Rattle.declarations_well_formed.specs.tp_check_decl.Endings.{all_finished, main_judged, ended}
use Rattle.declarations_well_formed.specs.well_formed.weakening.Laws.{StatementsStay}
use Rattle.units_well_formed.specs.parts.Below as reading
use Rattle.units_well_formed.specs.parts.Below.{opening, IsVariableIn, IsEntry, EachOf, EachIn, Extends, others_of, tree_of, IsOwn, IsRead, IsBottom}
use Rattle.units_well_formed.proofs.parts.Below.{entry_kept, plain_at}
use Rattle.units_well_formed.specs.units.Begun.{IsKeptPart}
use Rattle.units_well_formed.specs.units.Laws.{IsFormedIn}
use Rattle.units_well_formed.proofs.units.Finished.{view_back}
use Rattle.units_well_formed.proofs.units.Whole.{IsUnit, alike, types_are, unit_well}

-- ---- items

-- the blocks of a unit outside routines are one
one_block : (blocks : List OpenBlock) → IsBottom blocks 0 → (first : OpenBlock) × (blocks ≡ first ∷ []) × (first.kind ≡ block.Part)
one_block blocks h = (h.first, h.is ∙ ap (λ (rest : List OpenBlock). h.first ∷ rest) (none h.rest h.several), h.part)
  where
    none : (rest : List OpenBlock) → length rest ≡ 0 → rest ≡ []
    none [] e = refl
    none (one ∷ rest) e = let bad : ⊥ = cc in absurd bad

-- what is shown behind an interface part, in the unit that a later draft ends in
module _ (stay : StatementsStay) (d e : Drafted) (r : IsRead d []) (t : IsRead e []) (since : Extends (reading.scope_of d []) (reading.scope_of e [])) (all behind : List Finished) (unit : typed.Unit)
    (finish : (all_finished e.scope.types.types e.routines).holds all) (u : IsUnit e all behind unit) where
  same_types : (reading.scope_of e []).types ≡ unit.types.types
  same_types = types_are stay e t all behind unit finish u

  entry_later : (one : Entry) → IsEntry (reading.scope_of d []) [] one → IsEntry (reading.scope_of e []) [] one
  entry_later one h = entry_kept (reading.scope_of d []) (reading.scope_of e []) since r.known.sound [] one h

  variable_shown : (level number : ℕ) (ty : TypeId) → IsVariableIn (reading.scope_of e []) [] level 0 number ty → slice_get (scope_of unit).globals number ≡ Some ty
  variable_shown zero number ty h = ap (λ (gs : List Global). slice_get (map (λ (global : Global). global.ty) gs) number) u.globals ∙ h
  variable_shown (suc level) number ty h = let none : None ≡ Some h.routine = h.opened in let bad : ⊥ = cc in absurd bad

  entry_shown : (name : List ℕ) (one : Entry) (rest : List Item) → IsEntry (reading.scope_of d []) [] one → IsOwn d.routines [] one → All (IsItem unit) rest → All (IsItem unit) (item_of name one ++ rest)
  entry_shown name (entry.Const ty v) rest h o k =
      All-cons (IsItem unit) (item.Const name ty v) rest (subst (λ (types : List TypeDef). IsValue types v (definition types ty)) same_types (entry_later (entry.Const ty v) h)) k
  entry_shown name (entry.Ty ty) rest h o k =
      All-cons (IsItem unit) (item.Ty name ty) rest (subst (λ (types : List TypeDef). IsSome (definition types ty)) same_types (entry_later (entry.Ty ty) h)) k
  entry_shown name (entry.Var u_number level number ty) rest h o k =
      let there = (entry_later (entry.Var u_number level number ty) h).1 in
      let own : IsVariableIn (reading.scope_of e []) [] level 0 number ty = subst (λ (n : ℕ). IsVariableIn (reading.scope_of e []) [] level n number ty) o there in
      All-cons (IsItem unit) (item.Var name ty number) rest (variable_shown level number ty own) k
  entry_shown name (entry.Code routine level header far) rest h o k =
      let it = o.1 in
      let later = since.routines routine.number (tree_of it.one) (plain_at d.routines routine.number it.one it.is) in
      let last = (alike stay e t all behind unit finish u routine.number later.0 later.1).1 in
      let header_is : header ≡ last.0.header = sym it.first ∙ later.2.same.header ∙ last.2.header in
      let shown : IsHeaderOf header last.0 = record {
        same = record {
          kind = ap (λ (x : Header). x.kind) header_is;
          params = ap (λ (x : Header). map shape_of x.params) header_is;
          result = ap (λ (x : Header). x.result) header_is;
        };
        outermost = sym last.2.outer ∙ sym later.2.same.outer ∙ it.outer;
        free = sym last.2.owner ∙ sym later.2.same.owner ∙ it.free;
      } in
      All-cons (IsItem unit) (item.Code name header routine.number) rest (last.0, last.1, shown) k
  entry_shown name (entry.Std number) rest h o k = k

  symbols_shown : (symbols : SymbolList) → EachOf (IsEntry (reading.scope_of d []) []) symbols → EachOf (IsOwn d.routines []) symbols → All (IsItem unit) (items_in symbols)
  symbols_shown [] h o = All-nil (IsItem unit)
  symbols_shown (one ∷ rest) h o = entry_shown one.0 one.1 (items_in rest) h.0 o.0 (symbols_shown rest h.1 o.1)

  pub items_shown : All (IsItem unit) (items_of d.scope)
  items_shown =
      let it = one_block d.scope.blocks r.bottom in
      let around : opening it.0.kind [] ≡ [] = ap (λ kind. opening kind []) it.2 in
      let entries : EachIn (IsEntry (reading.scope_of d [])) [] (it.0 ∷ []) = subst (λ (b : List OpenBlock). EachIn (IsEntry (reading.scope_of d [])) [] b) it.1 r.known.blocks in
      let own : EachIn (IsOwn d.routines) [] (it.0 ∷ []) = subst (λ (b : List OpenBlock). EachIn (IsOwn d.routines) [] b) it.1 r.own in
      let symbols : own_symbols d.scope ≡ Some it.0.symbols = ap (λ (b : List OpenBlock). option_map (λ (x : OpenBlock). x.symbols) (slice_get b (length b - 1))) it.1 in
      let shown = symbols_shown it.0.symbols (subst (λ (o : List ℕ). EachOf (IsEntry (reading.scope_of d []) o) it.0.symbols) around entries.0) (subst (λ (o : List ℕ). EachOf (IsOwn d.routines o) it.0.symbols) around own.0) in
      subst (λ (o : Option SymbolList). All (IsItem unit) (items_by o)) (sym symbols) shown

-- ---- variables

globals_shown : (e : Drafted) (t : IsRead e []) (unit : typed.Unit) → unit.types ≡ e.scope.types → unit.globals ≡ e.globals → All (IsOfUnit unit) unit.globals
globals_shown e t unit types globals = λ k d low.
    let one : Global = get_or unit.globals k d in
    let at : slice_get e.globals k ≡ Some one = ap (λ (gs : List Global). slice_get gs k) (sym globals) ∙ slice_get-get_or unit.globals k d low in
    let it = t.globals k one at in
    record {
      has = subst (λ (table : Table). IsSome (definition table.types one.ty)) (sym types) it.has;
      first = subst (λ (table : Table). IsFirst (size_of table.types one.ty) one.first) (sym types) it.first;
    }

-- ---- main and initialisation parts

main_initial : (name : List ℕ) (body : Statement) (routine : Routine) → view_routine routine ≡ main_part name body → IsInitial routine
main_initial name body routine is = record {
  kind = ap (λ (f : Finished). f.header.kind) is;
  bare = ap (λ (f : Finished). f.header.params) is;
  far = ap (λ (f : Finished). f.far) is;
  free = ap (λ (f : Finished). f.owner) is;
  outermost = ap (λ (f : Finished). f.outer) is;
}

last_at : (all : List Finished) (main : Finished) → slice_get (all ++ main ∷ []) (length all) ≡ Some main
last_at [] main = refl
last_at (one ∷ all) main = last_at all main

-- ---- the whole

module _ (stay : StatementsStay) (name : List ℕ) (e : Drafted) (t : IsRead e []) (named : slice_get e.scope.units 0 ≡ Some name) (unit : typed.Unit) (few : length unit.routines < 2 ^ 32) where
  main_is : (body : CompoundStatement) (main : Finished) → (main_judged name e.scope body).holds main → (typed_body : Statement) × (main ≡ main_part name typed_body)
  unfolding main_judged
  main_is body main k = (k.part, k.made.made)

  pub formed : (front : _) (items : List Item) (body : Option CompoundStatement) → (ended name front items body e).holds (view_unit unit) → IsKeptPart body
      → ((all behind : List Finished) → (all_finished e.scope.types.types e.routines).holds all → IsUnit e all behind unit → All (IsItem unit) items) → IsFormedIn e.scope unit
  formed front items None h kept shown =
      let types : unit.types ≡ e.scope.types = ap (λ (w : Whole). w.types) h.made in
      let globals : unit.globals ≡ e.globals = ap (λ (w : Whole). w.globals) h.made in
      let u : IsUnit e h.part [] unit = record {
        names = ap (λ (w : Whole). w.names) h.made;
        types = types;
        globals = globals;
        routines = ap (λ (w : Whole). w.routines) h.made ∙ (let none : h.part ≡ h.part ++ [] = sym (append-nil h.part) in none);
      } in
      record {
        formed = record {
          others = others_of e.scope;
          named = ap (λ (w : Whole). slice_get w.names 0) h.made ∙ named ∙ ap (λ (n : List ℕ). Some n) (sym (ap (λ (w : Whole). w.name) h.made));
          globals = globals_shown e t unit types globals;
          routines = λ number routine at. unit_well stay name e t unit front items None h kept number routine at;
          items = subst (λ (all : List Item). All (IsItem unit) all) (sym (ap (λ (w : Whole). w.items) h.made)) (shown h.part [] h.holds u);
          initial = subst (λ (o : Option ℕ). HasInitial unit.routines o) (sym (ap (λ (w : Whole). w.initial) h.made)) tt;
        };
        others = refl;
      }
  formed front items (Some body) h kept shown =
      let types : unit.types ≡ e.scope.types = ap (λ (w : Whole). w.types) h.made in
      let globals : unit.globals ≡ e.globals = ap (λ (w : Whole). w.globals) h.made in
      let routines : map view_routine unit.routines ≡ h.left ++ h.right ∷ [] = ap (λ (w : Whole). w.routines) h.made in
      let u : IsUnit e h.left (h.right ∷ []) unit = record { names = ap (λ (w : Whole). w.names) h.made; types = types; globals = globals; routines = routines } in
      let count : length unit.routines ≡ length h.left + 1 = sym (length-map unit.routines view_routine) ∙ ap (λ (fs : List Finished). length fs) routines ∙ length-append h.left (h.right ∷ []) in
      let low : length h.left ≤ 4294967295 = omega (arith, count, few) in
      let exact : narrow (length h.left) ≡ length h.left = min-eq_left low in
      let there : slice_get (map view_routine unit.routines) (length h.left) ≡ Some h.right = ap (λ (fs : List Finished). slice_get fs (length h.left)) routines ∙ last_at h.left h.right in
      let found = view_back unit.routines (length h.left) h.right there in
      let main = main_is body h.right h.right_holds in
      let last : HasInitial unit.routines (Some (narrow (length h.left))) =
      (found.0, ap (λ (n : ℕ). slice_get unit.routines n) exact ∙ found.1, main_initial name main.0 found.0 (found.2 ∙ main.1)) in
      record {
        formed = record {
          others = others_of e.scope;
          named = ap (λ (w : Whole). slice_get w.names 0) h.made ∙ named ∙ ap (λ (n : List ℕ). Some n) (sym (ap (λ (w : Whole). w.name) h.made));
          globals = globals_shown e t unit types globals;
          routines = λ number routine at. unit_well stay name e t unit front items (Some body) h kept number routine at;
          items = subst (λ (all : List Item). All (IsItem unit) all) (sym (ap (λ (w : Whole). w.items) h.made)) (shown h.left (h.right ∷ []) h.left_holds u);
          initial = subst (λ (o : Option ℕ). HasInitial unit.routines o) (sym (ap (λ (w : Whole). w.initial) h.made)) last;
        };
        others = refl;
      }
