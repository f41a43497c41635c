-- What used units tell is so: their variables and routines are those of the units of the program that have these names.
use Rattle.std.proofs.Common.{◌≡◌, ◌∙◌, inl, inr, ℕ, zero, suc, Bool, false, if◌then◌else◌, List, [], ◌∷◌, map, Option, Some, None, refl, sym, ap, subst}
use Rattle.std.specs.Prelude.{slice_get, option_and_then, Ok, codes}
use Rattle.std.specs.Option.{option_map}
use Rattle.std.proofs.lemmas.Option.{same_Some}
use Rattle.shared_types_agree.specs.type_layout.declared.definitions.TypeId.{TypeId}
use Rattle.shared_types_agree.specs.type_layout.declared.definitions.RoutineId.{RoutineId}
use Rattle.shared_types_agree.specs.type_layout.declared.definitions.Header.{Header}
use Rattle.shared_types_agree.specs.type_layout.declared.definitions.TypeDef.{TypeDef}
use Rattle.shared_types_agree.specs.type_layout.Table.{Table}
use Rattle.shared_types_agree.specs.typed_tree.declared.units.Global.{Global}
use Rattle.shared_types_agree.specs.typed_tree.declared.units.Item.{Item}
use Rattle.shared_types_agree.specs.typed_tree.declared.units.Item.TheVariants as item
use Rattle.shared_types_agree.specs.typed_tree.declared.units.Routine.{Routine}
use Rattle.shared_types_agree.specs.typed_tree.declared.units.Unit as typed
use Rattle.shared_types_agree.specs.typed_tree.declared.units.Program.{Program}
use Rattle.shared_types_agree.specs.typed_tree.type_fits.Fits.{definition, stored_as, IsString, IsInteger}
use Rattle.shared_types_agree.specs.typed_tree.type_fits.Standard.{Slot, Integer, Text}
use Rattle.shared_types_agree.specs.well_formed.Scopes.{OtherGlobal, OtherRoutine}
use Rattle.shared_types_agree.specs.scopes.declared.entries.Entry.{Entry}
use Rattle.shared_types_agree.specs.scopes.declared.entries.Entry.TheVariants as entry
use Rattle.shared_types_agree.specs.scopes.Symbols.{SymbolList}
use Rattle.shared_types_agree.specs.scopes.Environment.{Environment}
use Rattle.shared_types_agree.specs.scopes.Predeclared.{type_id, type_table}
use Rattle.shared_types_agree.specs.tp_meaning.Trees.{Key as Class}
use Rattle.shared_types_agree.specs.tp_meaning.Found.{Found, ◌>>=◌, known}
use Rattle.shared_types_agree.specs.tp_meaning.Programs.{Sort, sort_in, is_overlay, key_of, integer_sort, global_in, global_sort, unit_named}
use Rattle.shared_types_agree.specs.tp_meaning.Activations.{Callee, callee_of}
use Rattle.shared_types_agree.specs.store_typing.types.Declared.{declared, declared_header}
use Rattle.shared_types_agree.specs.store_typing.types.Agreement.{IsUnit}
use Rattle.shared_types_agree.specs.unit_interface.declared.keys.Key.{Key}
use Rattle.shared_types_agree.specs.unit_interface.declared.interfaces.Interface.{Interface}
use Rattle.shared_types_agree.specs.unit_interface.Keyed.{IsKeyed}
use Rattle.shared_types_agree.specs.unit_interface.Merge.{keys_of, new_id, entry_of}
use Rattle.shared_types_agree.specs.unit_interface.Resolve as resolve
use Rattle.shared_types_agree.specs.unit_interface.Resolve.{interface_named, overlay, overlay_items}
use Rattle.shared_types_agree.specs.store_typing.stores.Places.{IsSeenAs, Shared, Whole}
use Rattle.shared_types_agree.specs.program_typing.lvalues.Frames.{IsGlobalOf}
use Rattle.shared_types_agree.specs.program_typing.programs.References.{IsOverlayRoutine, init, set_buffer, clear}
use Rattle.shared_types_agree.specs.unit_references.Held.{AreSlotsOf, IsRoutineHeld}
use Rattle.programs_well_typed.proofs.suppositions.Brought.{IsLonger, IsOfInterface, IsOfOverlay, IsBrought}
use Rattle.programs_well_typed.proofs.suppositions.Items.{IsAt, Means, each_means, alike_declared}
use Rattle.programs_well_typed.proofs.suppositions.Shown.{mapped_at, IsShownUnit, same_declared, known_type, kids, item_shown, item_same, header_declared, variable_from, routine_from}

-- an entry tells of a variable, or of a routine
pub record IsVariableBy (names : SymbolList) (one : OtherGlobal) : Type 0 where
  pub named : List ℕ × Entry
  pub among : IsAt (List ℕ × Entry) names named
  pub level : ℕ
  pub is : named.1 ≡ entry.Var one.unit level one.number one.ty

pub record IsRoutineBy (names : SymbolList) (one : OtherRoutine) : Type 0 where
  pub named : List ℕ × Entry
  pub among : IsAt (List ℕ × Entry) names named
  pub level : ℕ
  pub far : Bool
  pub is : named.1 ≡ entry.Code one.routine level one.seen.header far
  pub owner : one.seen.owner ≡ None

-- the routine of a unit with a number
pub routine_found : (program : Program) (unit : typed.Unit) (number : ℕ) (routine : Routine) → IsUnit program unit → slice_get unit.routines number ≡ Some routine
    → callee_of program (record { unit = unit.name; number = number }) ≡ Ok (record { unit = unit; number = number; routine = routine })
routine_found program unit number routine there is =
    let end : Option Routine → Found Callee = λ o. known o >>= λ routine. Ok (record { unit = unit; number = number; routine = routine }) in
    ap (λ (o : Option typed.Unit). known o >>= λ (u : typed.Unit). known (slice_get u.routines number) >>= λ (routine : Routine). Ok (record { unit = u; number = number; routine = routine })) there ∙ ap end is

-- the global of a unit with a number
global_found : (program : Program) (unit : typed.Unit) (number : ℕ) (ty : TypeId) → IsUnit program unit → is_overlay unit.name ≡ false → slice_get (map (λ (global : Global). global.ty) unit.globals) number ≡ Some ty
    → global_sort program (record { unit = unit.name; number = number }) ≡ Some (sort_in unit ty)
global_found program unit number ty there own at =
    let g = mapped_at (λ (global : Global). global.ty) unit.globals number ty at in
    ap (λ (b : Bool). (let o : Option Sort = if b then Some integer_sort else option_and_then (global_in number) (unit_named program unit.name) in o)) own
    ∙ ap (λ (o : Option typed.Unit). option_and_then (global_in number) o) there
    ∙ ap (λ (o : Option Global). option_map (λ (global : Global). sort_in unit global.ty) o) g.1
    ∙ ap (λ (t : TypeId). Some (sort_in unit t)) g.2

-- ---- entries

some_code : {a b : RoutineId} {l m : ℕ} {h k : Header} {f g : Bool} → entry.Code a l h f ≡ entry.Code b m k g → (a ≡ b) × (h ≡ k)
some_code e = (cc, cc)

abbrev routine_part : {a b : RoutineId} {l m : ℕ} {h k : Header} {f g : Bool} → entry.Code a l h f ≡ entry.Code b m k g → a ≡ b
routine_part e = (some_code e).0

abbrev header_part : {a b : RoutineId} {l m : ℕ} {h k : Header} {f g : Bool} → entry.Code a l h f ≡ entry.Code b m k g → h ≡ k
header_part e = (some_code e).1

abbrev Each : (Item → Type 0) → List Item → Type 0
Each P [] = Unit {0}
Each P (x ∷ xs) = P x × Each P xs

at_each : (P : Item → Type 0) (items : List Item) (place : ℕ) (one : Item) → Each P items → slice_get items place ≡ Some one → P one
at_each P [] place one h at = absurd (cc)
at_each P (x ∷ xs) zero one h at = subst P (same_Some x one at) h.0
at_each P (x ∷ xs) (suc place) one h at = at_each P xs place one h.1 at

-- A unit of a program with the scope at its end, and the units that show what it uses.
module _ (have : List Interface) (program : Program) (unit : typed.Unit) (listed : IsUnit program unit) (keyed : IsKeyed unit.types) (h : Environment) (table : h.types ≡ unit.types) (units : h.units ≡ unit.names)
    (shown : (word : List ℕ) → resolve.is_overlay word ≡ false → (i : Interface) → interface_named have word ≡ Some i → IsShownUnit program i) where
  module _ (names : SymbolList) (b : IsOfInterface have h names) where
    abbrev i : Interface
    i = b.interface

    abbrev u : IsShownUnit program b.interface
    u = shown b.word b.other b.interface b.found

    keys : (ty : TypeId) (key : Key) → slice_get (keys_of b.interface.types) ty.0 ≡ Some key → slice_get (keys_of unit.types) (new_id b.ids ty).0 ≡ Some key
    keys ty key at = subst (λ (t : Table). slice_get (keys_of t) (new_id b.ids ty).0 ≡ Some key) table (b.keys ty key at)

    named : slice_get unit.names b.place ≡ Some u.unit.name
    named = ap (λ (us : List (List ℕ)). slice_get us b.place) (sym units) ∙ b.unit ∙ ap (λ (n : List ℕ). Some n) u.named

    -- the key of what the interface tells under a number
    key_named : (place number : ℕ) → b.place ≡ place → key_of unit place number ≡ Some (record { unit = u.unit.name; number = number })
    key_named place number same =
        ap (λ (p : ℕ). key_of unit p number) (sym same) ∙ ap (λ (o : Option (List ℕ)). option_map (λ (name : List ℕ). (let k : Class = record { unit = name; number = number } in k)) o) named

    means : (one : List ℕ × Entry) → IsAt (List ℕ × Entry) names one → Means b.ids b.place i.items one.1
    means one among = each_means b.ids b.place i.items one (subst (λ (l : SymbolList). IsAt (List ℕ × Entry) l one) b.are among)

    pub interface_global : (one : OtherGlobal) → IsVariableBy names one → IsGlobalOf program unit one.unit one.number one.ty
    interface_global one v =
        let m = means v.named v.among in
        let f = item_shown program i u m.item m.among in
        let from = variable_from b.ids (kids program i u) b.place f.0 one.unit v.level one.number one.ty (ap (entry_of b.ids b.place) f.2 ∙ m.is ∙ v.is) in
        let among : IsAt Item u.unit.items (item.Var from.name from.own one.number) = subst (λ (x : Item). IsAt Item u.unit.items x) from.is f.1 in
        let global = u.items among.place (item.Var from.name from.own one.number) among.at in
        let same = (item_same program i u unit.types b.ids keyed keys (item.Var from.name from.own one.number) among).0 in
        let here : slice_get (keys_of unit.types) one.ty.0 ≡ Some same.key = subst (λ (t : TypeId). slice_get (keys_of unit.types) t.0 ≡ Some same.key) from.known same.at in
        let alike = same_declared unit.types u.unit.types one.ty from.own keyed u.keyed (record { key = same.key; at = here; home_at = same.home_at }) in
        record {
          key = record { unit = u.unit.name; number = one.number };
          names = key_named one.unit one.number from.place;
          sort = sort_in u.unit from.own;
          is = global_found program u.unit one.number from.own u.listed u.own global;
          seen = Shared (known_type program u.unit from.own same.key u.listed u.keyed same.home_at) (known_type program unit one.ty same.key listed keyed here) (sym alike);
        }

    pub interface_routine : (one : OtherRoutine) → IsRoutineBy names one → IsRoutineHeld program unit one
    interface_routine one v =
        let m = means v.named v.among in
        let f = item_shown program i u m.item m.among in
        let from = routine_from b.ids (kids program i u) b.place f.0 one.routine v.level one.seen.header v.far (ap (entry_of b.ids b.place) f.2 ∙ m.is ∙ v.is) in
        let code : Item = item.Code from.name from.own one.routine.number in
        let among : IsAt Item u.unit.items code = subst (λ (x : Item). IsAt Item u.unit.items x) from.is f.1 in
        let has = u.items among.place code among.at in
        let routine : Routine = has.0 in
        let header : declared_header unit.types one.seen.header ≡ declared_header u.unit.types routine.header =
        ap (declared_header unit.types) (sym from.known) ∙ header_declared program i u unit.types b.ids keyed keys from.own (item_same program i u unit.types b.ids keyed keys code among)
        ∙ alike_declared u.unit.types from.own routine.header has.2.same in
        record {
          key = record { unit = u.unit.name; number = one.routine.number };
          is = key_named one.routine.unit one.routine.number from.place;
          kept = inl (record {
            own = u.own;
            callee = record { unit = u.unit; number = one.routine.number; routine = routine };
            found = routine_found program u.unit one.routine.number routine u.listed has.1;
            listed = u.listed;
            outermost = has.2.outermost;
            header = header;
            owner = ap (option_map (declared unit.types)) v.owner ∙ ap (option_map (declared u.unit.types)) (sym has.2.free);
          });
        }

  -- ---- the unit Overlay

  module _ (names : SymbolList) (b : IsOfOverlay h names) where
    longer : IsLonger type_table unit.types
    longer = subst (IsLonger type_table) table b.table

    overlay_key : (place number : ℕ) → b.place ≡ place → key_of unit place number ≡ Some (record { unit = overlay; number = number })
    overlay_key place number same =
        ap (λ (p : ℕ). key_of unit p number) (sym same)
        ∙ ap (λ (o : Option (List ℕ)). option_map (λ (name : List ℕ). (let k : Class = record { unit = name; number = number } in k)) o) (ap (λ (us : List (List ℕ)). slice_get us b.place) (sym units) ∙ b.unit)

    overlay_means : (one : List ℕ × Entry) → IsAt (List ℕ × Entry) names one → Means [] b.place overlay_items one.1
    overlay_means one among = each_means [] b.place overlay_items one (subst (λ (l : SymbolList). IsAt (List ℕ × Entry) l one) b.are among)

    -- what is asked of each item of the unit
    abbrev IsGlobalFrom : Item → Type 0
    IsGlobalFrom x = (one : OtherGlobal) (level : ℕ) → entry_of [] b.place x ≡ entry.Var one.unit level one.number one.ty → IsGlobalOf program unit one.unit one.number one.ty

    abbrev IsRoutineFrom : Item → Type 0
    IsRoutineFrom x = (one : OtherRoutine) (level : ℕ) (far : Bool) → entry_of [] b.place x ≡ entry.Code one.routine level one.seen.header far → one.seen.owner ≡ None → IsRoutineHeld program unit one

    -- a predeclared type
    there : (ty : TypeId) (one : TypeDef) → slice_get type_table.types ty.0 ≡ Some one → definition unit.types.types ty ≡ Some one
    there ty one at = longer.types ty.0 one at

    result_held : IsGlobalFrom (item.Var (codes "OVRRESULT") (type_id 2) 0)
    result_held one level e =
        let place : b.place ≡ one.unit = cc in
        let number : 0 ≡ one.number = cc in
        let known : type_id 2 ≡ one.ty = cc in
        let found = there (type_id 2) _ refl in
        record {
          key = record { unit = overlay; number = one.number };
          names = overlay_key one.unit one.number place;
          sort = integer_sort;
          is = refl;
          seen = subst (λ (t : TypeId). IsSeenAs program integer_sort (sort_in unit t)) known (Whole refl (record { unit = unit; listed = listed; table = refl; one = _; is = found }) (ap stored_as found));
        }

    each_global : Each IsGlobalFrom overlay_items
    each_global = (
      λ one level e. (let bad : ⊥ = cc in absurd bad),
      (
        λ one level e. (let bad : ⊥ = cc in absurd bad),
        (
          result_held,
          (
            λ one level e. (let bad : ⊥ = cc in absurd bad),
            (
              λ one level e. (let bad : ⊥ = cc in absurd bad),
              (λ one level e. (let bad : ⊥ = cc in absurd bad), tt),
            ),
          ),
        ),
      ),
    )

    code_held : (number : ℕ) (slots : List Slot) (own : Header) (one : OtherRoutine) → IsOverlayRoutine number slots → AreSlotsOf unit.types.types slots own.params → own.result ≡ None
        → (let r : RoutineId = record { unit = b.place; number = number } in r) ≡ one.routine → own ≡ one.seen.header → one.seen.owner ≡ None → IsRoutineHeld program unit one
    code_held number slots own one is takes bare same known free = record {
      key = record { unit = overlay; number = number };
      is = subst (λ (r : RoutineId). key_of unit r.unit r.number ≡ Some (record { unit = overlay; number = number })) same (overlay_key b.place number refl);
      kept = inr (record {
        own = refl;
        slots = slots;
        one = is;
        takes = subst (λ (x : Header). AreSlotsOf unit.types.types slots x.params) known takes;
        bare = ap (λ (x : Header). x.result) (sym known) ∙ bare;
        free = free;
      });
    }

    each_routine : Each IsRoutineFrom overlay_items
    each_routine = (
      λ one level far e free. (let bad : ⊥ = cc in absurd bad),
      (
        λ one level far e free. (let bad : ⊥ = cc in absurd bad),
        (
          λ one level far e free. (let bad : ⊥ = cc in absurd bad),
          (
            λ one level far e free. code_held 0 (Text ∷ []) _ one init (refl, subst IsString (sym (there (type_id 7) _ refl)) tt, tt) refl (routine_part e) (header_part e) free,
            (
              λ one level far e free. code_held 1 (Integer ∷ []) _ one set_buffer (refl, subst IsInteger (sym (there (type_id 4) _ refl)) refl, tt) refl (routine_part e) (header_part e) free,
              (λ one level far e free. code_held 2 [] _ one clear tt refl (routine_part e) (header_part e) free, tt),
            ),
          ),
        ),
      ),
    )

    pub overlay_global : (one : OtherGlobal) → IsVariableBy names one → IsGlobalOf program unit one.unit one.number one.ty
    overlay_global one v =
        let m = overlay_means v.named v.among in
        at_each IsGlobalFrom overlay_items m.among.place m.item each_global m.among.at one v.level (m.is ∙ v.is)

    pub overlay_routine : (one : OtherRoutine) → IsRoutineBy names one → IsRoutineHeld program unit one
    overlay_routine one v =
        let m = overlay_means v.named v.among in
        at_each IsRoutineFrom overlay_items m.among.place m.item each_routine m.among.at one v.level v.far (m.is ∙ v.is) v.owner

  -- ---- whatever a used unit brings

  pub brought_global : (names : SymbolList) → IsBrought have h names → (one : OtherGlobal) → IsVariableBy names one → IsGlobalOf program unit one.unit one.number one.ty
  brought_global names (inl b) one v = interface_global names b one v
  brought_global names (inr b) one v = overlay_global names b one v

  pub brought_routine : (names : SymbolList) → IsBrought have h names → (one : OtherRoutine) → IsRoutineBy names one → IsRoutineHeld program unit one
  brought_routine names (inl b) one v = interface_routine names b one v
  brought_routine names (inr b) one v = overlay_routine names b one v
