-- What is known stays known behind a part, where what it declares is well formed.
use Rattle.std.proofs.Common.{◌≡◌, ◌⊎◌, inl, inr, ℕ, zero, suc, ◌+◌, ◌<◌, ◌≤◌, List, [], ◌∷◌, ◌++◌, length, map, Option, Some, None, refl, sym, subst, ap, ◌∙◌, arith, length-append, append-nil}
use Rattle.std.specs.Prelude.{ℤ, slice_get, ◌^◌, option_map}
use Rattle.std.proofs.lemmas.List.{length-map}
use Rattle.std.proofs.lemmas.Option.{slice_get_within}
use Rattle.std.proofs.lemmas.List.Elements.{All-weaker}
use Rattle.declarations_well_formed.specs.type_layout.declared.definitions.TypeId.{TypeId}
use Rattle.declarations_well_formed.specs.type_layout.declared.definitions.RoutineId.{RoutineId}
use Rattle.declarations_well_formed.specs.type_layout.declared.definitions.Host.TheVariants as host
use Rattle.declarations_well_formed.specs.type_layout.declared.definitions.Param.{Param}
use Rattle.declarations_well_formed.specs.type_layout.declared.definitions.Header.{Header}
use Rattle.declarations_well_formed.specs.type_layout.declared.definitions.Method.{Method}
use Rattle.declarations_well_formed.specs.type_layout.declared.definitions.TypeDef.{TypeDef}
use Rattle.declarations_well_formed.specs.type_layout.declared.definitions.TypeDef.TheVariants as type
use Rattle.declarations_well_formed.proofs.type_layout_proofs.Local.{slice_get-append}
use Rattle.declarations_well_formed.specs.typed_tree.declared.units.Global.{Global}
use Rattle.declarations_well_formed.specs.typed_tree.declared.units.Routine.{Routine}
use Rattle.declarations_well_formed.specs.typed_tree.type_fits.Fits.{definition, IsSome, IsObject, shape_of}
use Rattle.declarations_well_formed.specs.typed_tree.type_fits.Routines.{listed, variables_of}
use Rattle.declarations_well_formed.specs.well_formed.Scopes.{Scope, HasRoutine, IsRoutineAt}
use Rattle.declarations_well_formed.specs.well_formed.WellFormed.{IsOwner}
use Rattle.declarations_well_formed.specs.scopes.declared.entries.Entry.{Entry}
use Rattle.declarations_well_formed.specs.scopes.declared.entries.Entry.TheVariants as entry
use Rattle.declarations_well_formed.specs.scopes.Members.{narrow}
use Rattle.declarations_well_formed.specs.scopes.Environment.{Environment}
use Rattle.declarations_well_formed.specs.unit_interface.Exports.{with_type}
use Rattle.declarations_well_formed.specs.call_rules.method_rules.Slots.{methods_of}
use Rattle.declarations_well_formed.specs.call_rules.method_rules.Methods.{unit_at, routine_of, routine_in}
use Rattle.declarations_well_formed.specs.declaration_checker.declared.declarations.homes.Home.{Home}
use Rattle.declarations_well_formed.specs.declaration_checker.declared.declarations.homes.Home.TheVariants as home
use Rattle.declarations_well_formed.specs.declaration_checker.declarations.Progress.{Progress, level_of}
use Rattle.declarations_well_formed.specs.tp_check_decl.declared.routines.drafts.Site.{Site}
use Rattle.declarations_well_formed.specs.tp_check_decl.routines.Drafts.{Done, Numbered, Drafted, Stage, progress_of}
use Rattle.declarations_well_formed.specs.tp_check_decl.routines.Methods.{method_announced, awaiting}
use Rattle.declarations_well_formed.specs.rules_well_formed.nodes.Tables.{IsInTable, IsResultIn, IsHeaderIn, NamesWithin}
use Rattle.declarations_well_formed.specs.rules_well_formed.methods.Declared.{IsMethod, HasMethods}
use Rattle.declarations_well_formed.specs.well_formed.weakening.Weakening.{AreAmong}
use Rattle.declarations_well_formed.specs.tables_closed.constants.Ordered.{IsOrdered}
use Rattle.declarations_well_formed.specs.tables_closed.constants.Bounds.{AreBelow}
use Rattle.declarations_well_formed.specs.bodies_well_formed.other_units.Known.{open_in, AreNested, IsVariableIn, IsEntry, EachIn, IsPlaced, AreKnown}
use Rattle.declarations_well_formed.specs.bodies_well_formed.other_units.Growing.{Extends}
use Rattle.declarations_well_formed.specs.bodies_well_formed.other_units.Others.{others_of}
use Rattle.declarations_well_formed.proofs.bodies_well_formed_proofs.other_units.Others.{unit_told_from, others_grow}
use Rattle.declarations_well_formed.proofs.bodies_well_formed_proofs.other_units.Growing.{further_known}
use Rattle.declarations_well_formed.specs.names.Declaring.{typing, with_names}
use Rattle.declarations_well_formed.specs.parts.Declaring.{IsGlobalOf, IsOwnOf}
use Rattle.units_well_formed.specs.routines.Reading.{tree_of, Frame, frame, with_locals, trees_of, scope_of, numbers_of, IsOwn, IsAnnounced, IsBlock, AreThere, IsBottom, IsTabled, IsGlobalIn, IsRead, variables_before, IsBehind, with_inner, IsStage}
use Rattle.units_well_formed.specs.routines.Rooms.{HasRoom}
use Rattle.units_well_formed.proofs.routines.Lists.{having, get_with, trees_length, AreBelow as AreFramed, IsFirst, trees_at}
use Rattle.units_well_formed.proofs.routines.Steps.{extends_itself, extends_on, with_routines, each_weaker, there_kept, nested_below}
use Rattle.units_well_formed.proofs.routines.Kept.{behind_kept}
use Rattle.declarations_well_formed.specs.values.Values.{IsGivenIn, Gives}
use Rattle.units_well_formed.proofs.parts.Methods.{some_at}
use Rattle.units_well_formed.proofs.parts.Awaiting.{Awaits, nothing_at, joined_at, behind_at, some_object}
use Rattle.units_well_formed.proofs.parts.Steps.{all_at, exact, where_class, few_listed, units_same, used_same, own_unit, method_same, own_kept}
use Rattle.units_well_formed.proofs.parts.Rows.{in_more, global_more, globals_at, types_at, HasRows}
use Rattle.units_well_formed.proofs.parts.Trees.{get_front, global_at, trees_more, trees_back, extends_inner, extends_part, at_top, local_at}
use Rattle.units_well_formed.proofs.parts.Names.{names_open, names_known, names_each, names_bottom, each_for}

-- ---- one part

module _ (unit : List ℕ) (site : Site) (s : Stage) (frames : List Frame) (at : IsStage unit site s frames) (q : Progress) (news : List Numbered) where
  abbrev before : Drafted
  before = s.draft

  abbrev after : Drafted
  after = record { scope = q.scope; globals = q.globals; routines = s.draft.routines ++ news }

  abbrev old_frames : List Frame
  old_frames = with_inner s.locals frames

  abbrev new_frames : List Frame
  new_frames = with_inner q.locals frames

  abbrev old : Scope
  old = scope_of before old_frames

  abbrev new : Scope
  new = scope_of after new_frames

  read : IsRead before old_frames
  read = at.read

  module _ (gives : Gives site.home (progress_of s) q) (rows : HasRows (progress_of s) q) (awaits : Awaits unit (length s.draft.routines) s.draft.scope q.scope news) (room : HasRoom after)
      (few : length q.locals < 2 ^ 31) (ordered : IsOrdered q.scope.types) where
    -- ---- the scope grows

    abbrev back : List TypeDef
    back = gives.types.0

    types_are : q.scope.types.types ≡ before.scope.types.types ++ back
    types_are = gives.types.1

    old_types : old.types ≡ before.scope.types.types
    old_types = read.known.has.types

    units_are : q.scope.units ≡ before.scope.units
    units_are = ap (λ (g : Environment). g.units) gives.whole ∙ units_same (typing before.scope q.scope.types) gives.names

    -- what is supposed of other units
    others_more : AreAmong (others_of before.scope) (others_of q.scope)
    others_more = others_grow before.scope q.scope (record {
      used = ([], ap (λ (g : Environment). g.used) gives.whole ∙ used_same (typing before.scope q.scope.types) gives.names ∙ sym (append-nil before.scope.used));
      units = ([], units_are ∙ sym (append-nil before.scope.units));
      table_units = (awaits.units, awaits.has_units);
      types = gives.types;
    })

    framed : AreFramed (length before.routines) old_frames
    framed =
        subst (λ (n : ℕ). AreFramed n old_frames) (trees_length before.routines old_frames)
        (nested_below old.routines old_frames (subst (λ (ns : List ℕ). AreNested old.routines ns) read.around read.known.nested))

    -- further types, variables of the unit, and routines
    abbrev middle : Scope
    middle = scope_of after old_frames

    to_middle : Extends old middle
    to_middle =
        let it = extends_part old q.scope.types.types back (others_of q.scope) before.globals gives.globals.0 (map tree_of news) types_are others_more refl in
        subst (λ (gs : List Global). Extends old (record middle { globals = map (λ (global : Global). global.ty) gs })) (sym gives.globals.1)
        (subst (λ (rs : List Routine). Extends old (record middle { globals = map (λ (global : Global). global.ty) (before.globals ++ gives.globals.0); routines = rs })) (sym (trees_more before.routines news old_frames framed)) it)

    more_count : length (before.routines ++ news) ≡ length before.routines + length news
    more_count = length-append before.routines news

    to_new : Extends middle new
    to_new = by frames framed
      where
        by : (these : List Frame) → AreFramed (length before.routines) (with_inner s.locals these) → Extends (scope_of after (with_inner s.locals these)) (scope_of after (with_inner q.locals these))
        by [] k = extends_itself (scope_of after [])
        by (one ∷ rest) k =
            let inner : List Routine = trees_of (before.routines ++ news) rest in
            let count : length inner ≡ length (before.routines ++ news) = trees_length (before.routines ++ news) rest in
            let low : one.number < length inner = (let c = more_count in let l = k.0 in omega (arith, count, c, l)) in
            let it = extends_inner (scope_of after (frame one.number s.locals ∷ rest)) one.number s.locals gives.locals.0 inner refl low in
            subst (λ (locals : List TypeId). Extends (scope_of after (frame one.number s.locals ∷ rest)) (with_routines (scope_of after (frame one.number s.locals ∷ rest)) (with_locals one.number locals inner))) (sym gives.locals.1) it

    pub grows : Extends old new
    grows = extends_on old middle new to_middle to_new

    -- ---- types that stay

    type_kept : (ty : TypeId) → IsInTable old.types ty → IsInTable new.types ty
    type_kept ty h =
        let front : IsInTable before.scope.types.types ty = subst (λ (types : List TypeDef). IsInTable types ty) old_types h in
        subst (λ (types : List TypeDef). IsInTable types ty) (sym types_are) (in_more before.scope.types.types back ty front)

    result_kept : (o : Option TypeId) → IsResultIn old.types o → IsResultIn new.types o
    result_kept None h = tt
    result_kept (Some ty) h = type_kept ty h

    header_kept : (header : Header) → IsHeaderIn old.types header → IsHeaderIn new.types header
    header_kept header h = record {
      params = All-weaker (λ (param : Param). IsInTable old.types param.ty) (λ (param : Param). IsInTable new.types param.ty) (λ param k. type_kept param.ty k) header.params h.params;
      result = result_kept header.result h.result;
    }

    same_type : (ty : TypeId) → ty.0 < length before.scope.types.types → definition q.scope.types.types ty ≡ definition before.scope.types.types ty
    same_type ty low = ap (λ (types : List TypeDef). definition types ty) types_are ∙ slice_get-append before.scope.types.types back ty.0 low

    owner_kept : (o : Option TypeId) → IsOwner old o → IsOwner new o
    owner_kept None h = tt
    owner_kept (Some ty) h =
        let there : IsObject (definition before.scope.types.types ty) = subst (λ (types : List TypeDef). IsObject (definition types ty)) old_types h in
        subst (λ (d : Option TypeDef). IsObject d) (sym (same_type ty (some_object before.scope.types.types ty.0 there))) there

    -- ---- routines that are awaited

    new_routine : (place : ℕ) (one : Numbered) → slice_get news place ≡ Some one → slice_get (before.routines ++ news) (length before.routines + place) ≡ Some one
    new_routine place one e = behind_at before.routines news place ∙ e

    new_exact : (place : ℕ) → place < length news → narrow (length before.routines + place) ≡ length before.routines + place
    new_exact place low =
        let most = room.routines in
        let count = more_count in
        exact (length before.routines + place) (omega (arith, low, most, count))

    -- ---- methods

    routine_kept : (class : TypeId) (header : Header) (u number : ℕ) → IsRoutineAt (IsMethod class header) old u number → IsRoutineAt (IsMethod class header) new u number
    routine_kept class header zero number h =
        let it = grows.routines number h.0 h.1 in
        (it.0, it.1, method_same class header h.0 it.0 it.2.same h.2)
    routine_kept class header (suc u) number h = (h.0, grows.others.routines _ h.1, h.2)

    has_methods : HasMethods (typing before.scope q.scope.types) new
    has_methods = record {
      types = refl;
      units = λ one told. subst (λ (us : List (List ℕ)). slice_get us one.number ≡ Some one.name) units_are (unit_told_from q.scope one told);
      methods = by;
    }
      where
        by : (class : TypeId) (number : ℕ) (method : Method) (routine : RoutineId) → slice_get (methods_of (definition new.types class)) number ≡ Some method
            → routine_in (typing before.scope q.scope.types) method.routine ≡ Some routine → HasRoutine (IsMethod class method.header) new routine
        by class number method routine m r = cases (where_class class.0 (length before.scope.types.types))
          where
            cases : (class.0 < length before.scope.types.types) ⊎ (length before.scope.types.types ≤ class.0) → HasRoutine (IsMethod class method.header) new routine
            cases (inl low) =
                let there : slice_get (methods_of (definition before.scope.types.types class)) number ≡ Some method = ap (λ (d : Option TypeDef). slice_get (methods_of d) number) (sym (same_type class low)) ∙ m in
                let within = read.table.owned class number method there in
                let name = some_at before.scope.types.units method.routine.unit within in
                let later : slice_get q.scope.types.units method.routine.unit ≡ Some name.0 =
                ap (λ (us : List (List ℕ)). slice_get us method.routine.unit) awaits.has_units ∙ get_front before.scope.types.units awaits.units method.routine.unit name.0 name.1 in
                let same : routine_in before.scope method.routine ≡ Some routine =
                ap (λ (o : Option (List ℕ)). option_map (routine_of method.routine.number) (unit_at before.scope.units o)) (name.1 ∙ sym later) ∙ r in
                let was = read.known.has.methods class number method routine (ap (λ (types : List TypeDef). slice_get (methods_of (definition types class)) number) old_types ∙ there) same in
                routine_kept class method.header routine.unit routine.number was
            cases (inr high) =
                let it = awaits.each class number method high m in
                let await = it.0 in
                let none : routine_in (typing before.scope q.scope.types) method.routine ≡ Some (routine_of method.routine.number 0) =
                ap (λ (o : Option (List ℕ)). option_map (routine_of method.routine.number) (unit_at before.scope.units o)) it.1
                ∙ ap (λ (o : Option ℕ). option_map (routine_of method.routine.number) o) (own_unit unit before.scope.units at.named) in
                let is : routine_of method.routine.number 0 ≡ routine = (let f = r in let g = none in cc) in
                let where_it : method.routine.number ≡ length before.routines + await.place = await.number_is ∙ new_exact await.place (slice_get_within news await.place _ await.is) in
                let tree = trees_at (before.routines ++ news) new_frames (length before.routines + await.place) (awaiting (method_announced class await.at method)) (new_routine await.place _ await.is) in
                let found : IsRoutineAt (IsMethod class method.header) new 0 method.routine.number =
                (tree.0, ap (λ (n : ℕ). slice_get new.routines n) where_it ∙ tree.1, record { owned = tree.2.owner; same = record { kind = ap (λ (x : Header). x.kind) (sym tree.2.header); params = ap (λ (x : Header). map shape_of x.params) (sym tree.2.header); result = ap (λ (x : Header). x.result) (sym tree.2.header) } }) in
                subst (λ (x : RoutineId). HasRoutine (IsMethod class method.header) new x) is found

    -- ---- what is known

    placed : (number : ℕ) (one : Routine) → slice_get new.routines number ≡ Some one → IsPlaced one
    placed number one e =
        let it = trees_back (before.routines ++ news) new_frames number one e in
        by it.0 it.2 (joined_at before.routines news number it.0 it.1)
      where
        by : (slot : Numbered) → IsFirst slot one → (slice_get before.routines number ≡ Some slot) ⊎ ((k : ℕ) × (number ≡ length before.routines + k) × (slice_get news k ≡ Some slot)) → IsPlaced one
        by slot is (inl f) =
            let tree = trees_at before.routines old_frames number slot f in
            let was = read.known.placed number tree.0 tree.1 in
            let header : tree.0.header ≡ one.header = tree.2.header ∙ sym is.header in
            record {
              outermost = λ some. is.outer ∙ sym tree.2.outer ∙ was.outermost (subst (λ (o : Option TypeId). IsSome o) (is.owner ∙ sym tree.2.owner) some);
              few = subst (λ (x : Header). length x.params < 2 ^ 31) header was.few;
            }
        by slot is (inr f) =
            let it = awaits.only f.0 slot f.2 in
            let short = it.few in
            record {
              outermost = λ some. is.outer ∙ ap (λ (x : Numbered). x.first.outer) it.is;
              few = subst (λ (x : Header). length x.params < 2 ^ 31) (sym (is.header ∙ ap (λ (x : Numbered). x.first.header) it.is)) (omega (arith, short));
            }

    further : AreKnown (typing before.scope q.scope.types) new
    further = further_known before.scope old read.known q.scope.types new grows has_methods gives.sound placed

    -- ---- names

    abbrev around : List ℕ
    around = open_in before.scope

    global_known : (number : ℕ) (ty : TypeId) → IsGlobalOf q.globals number ty → slice_get new.globals number ≡ Some ty
    global_known number ty h =
        let low = slice_get_within q.globals h.0 h.1 h.3 in
        let most = room.globals in
        let same : number ≡ h.0 = h.2 ∙ exact h.0 (omega (arith, low, most)) in
        ap (λ (n : ℕ). slice_get new.globals n) same ∙ global_at q.globals h.0 h.1 h.3 ∙ ap (λ (t : TypeId). Some t) h.4

    local_known : (level number : ℕ) (ty : TypeId) → IsOwnOf site.home q.locals level number ty → IsVariableIn new around level 0 number ty
    local_known level number ty h =
        subst (λ (o : List ℕ). IsVariableIn new o level 0 number ty) (sym read.around)
        (by site.home frames at.stands.level (behind_kept site.home old new (numbers_of frames) grows at.behind) (λ k tree e. placed k tree e) h)
      where
        by : (where_at : Home) (these : List Frame) → level_of where_at ≡ length these → IsBehind where_at (trees_of (before.routines ++ news) (with_inner q.locals these)) (numbers_of these)
            → ((k : ℕ) (tree : Routine) → slice_get (trees_of (before.routines ++ news) (with_inner q.locals these)) k ≡ Some tree → IsPlaced tree) → IsOwnOf where_at q.locals level number ty
            → IsVariableIn (scope_of after (with_inner q.locals these)) (numbers_of (with_inner s.locals these)) level 0 number ty
        by home.Unit these deep behind each k = absurd k
        by (home.Routine depth first) [] deep behind each k = absurd behind
        by (home.Routine depth first) (one ∷ rest) deep behind each k =
            let inner : List Routine = trees_of (before.routines ++ news) rest in
            let low = slice_get_within (with_locals one.number q.locals inner) one.number behind.0 behind.1 in
            let count : length inner ≡ length (before.routines ++ news) = trees_length (before.routines ++ news) rest in
            let whole : length (with_locals one.number q.locals inner) ≡ length (before.routines ++ news) = trees_length (before.routines ++ news) (frame one.number q.locals ∷ rest) in
            let bare = some_at inner one.number (omega (arith, low, count, whole)) in
            let there = get_with inner one.number q.locals bare.0 bare.1 in
            let same : having q.locals bare.0 ≡ behind.0 = (let e = there in let f = behind.1 in cc) in
            let short = (each one.number behind.0 behind.1).few in
            let place = k.1.0 in
            let local_low = slice_get_within q.locals place ty k.1.2 in
            let start : first ≡ variables_before (having q.locals bare.0) = behind.2 ∙ ap (λ (r : Routine). variables_before r) (sym same) in
            let owned = few_listed (having q.locals bare.0).owner in
            let resulted = few_listed (having q.locals bare.0).header.result in
            let params : length (having q.locals bare.0).header.params < 2 ^ 31 = subst (λ (r : Routine). length r.header.params < 2 ^ 31) (sym same) short in
            let sum : variables_before (having q.locals bare.0) ≡ length (having q.locals bare.0).header.params + (length (listed (having q.locals bare.0).owner) + length (listed (having q.locals bare.0).header.result)) = refl in
            let number_is : number ≡ variables_before (having q.locals bare.0) + place = k.1.1 ∙ ap (λ (n : ℕ). narrow (n + place)) start ∙ exact (variables_before (having q.locals bare.0) + place) (omega (arith, sum, owned, resulted, params, local_low, few)) in
            let variable : slice_get (variables_of (having q.locals bare.0)) number ≡ Some ty =
            ap (λ (n : ℕ). slice_get (variables_of (having q.locals bare.0)) n) number_is ∙ local_at (having q.locals bare.0) place ty k.1.2 in
            let depth_is : depth ≡ suc (length rest) = deep in
            let top : level ≡ suc (length (numbers_of rest)) = (let c = length-map rest (λ (x : Frame). x.number) in let l = k.0 in omega (arith, c, l, depth_is)) in
            subst (λ (n : ℕ). IsVariableIn (scope_of after (frame one.number q.locals ∷ rest)) (one.number ∷ numbers_of rest) n 0 number ty) (sym top)
            (record { routine = one.number; opened = at_top one.number (numbers_of rest); one = having q.locals bare.0; is = there; variable = variable })

    variable_known : (level number : ℕ) (ty : TypeId) → ((level ≡ 0) × IsGlobalOf q.globals number ty) ⊎ IsOwnOf site.home q.locals level number ty → IsVariableIn new around level 0 number ty
    variable_known level number ty (inl h) = subst (λ (n : ℕ). IsVariableIn new around n 0 number ty) (sym h.0) (global_known number ty h.1)
    variable_known level number ty (inr h) = local_known level number ty h

    entry_known : (one : Entry) → IsGivenIn site.home q one → IsEntry new around one
    entry_known (entry.Ty ty) h = h
    entry_known (entry.Const ty v) h = h.value
    entry_known (entry.Var u level number ty) h = (h.0, subst (λ (n : ℕ). IsVariableIn new around level n number ty) (sym h.1) (variable_known level number ty h.2))
    entry_known (entry.Code routine level header far) h = absurd h
    entry_known (entry.Std number) h = absurd h

    own_known : (one : Entry) → IsGivenIn site.home q one → IsOwn (before.routines ++ news) around one
    own_known (entry.Ty ty) h = tt
    own_known (entry.Const ty v) h = tt
    own_known (entry.Var u level number ty) h = h.1
    own_known (entry.Code routine level header far) h = absurd h
    own_known (entry.Std number) h = absurd h

    -- ---- the whole

    tabled : IsTabled q.scope.types
    tabled = record { ordered = ordered; followed = followed; owned = owned }
      where
        followed : (number : ℕ) (low high : ℤ) → slice_get q.scope.types.types number ≡ Some (type.Ordinal host.Enumeration low high) → number + 1 < length q.scope.types.types
        followed number low high e = (subst (λ (d : Option TypeDef). AreBelow (length q.scope.types.types) (with_type number d)) e (rows.closed.types number)).0

        owned : (class : TypeId) (place : ℕ) (method : Method) → slice_get (methods_of (definition q.scope.types.types class)) place ≡ Some method → method.routine.unit < length q.scope.types.units
        owned class place method e = by (where_class class.0 (length before.scope.types.types))
          where
            by : (class.0 < length before.scope.types.types) ⊎ (length before.scope.types.types ≤ class.0) → method.routine.unit < length q.scope.types.units
            by (inl low) =
                let was = read.table.owned class place method (ap (λ (d : Option TypeDef). slice_get (methods_of d) place) (sym (same_type class low)) ∙ e) in
                let count : length q.scope.types.units ≡ length before.scope.types.units + length awaits.units = ap (λ (us : List (List ℕ)). length us) awaits.has_units ∙ length-append before.scope.types.units awaits.units in
                omega (arith, was, count)
            by (inr high) = slice_get_within q.scope.types.units method.routine.unit unit (awaits.each class place method high e).1

    globals_are : (number : ℕ) (one : Global) → slice_get q.globals number ≡ Some one → IsGlobalIn q.scope.types.types one
    globals_are number one e = by before.globals number (λ k x f. read.globals k x f) (subst (λ (all : List Global). slice_get all number ≡ Some one) rows.has_globals e)
      where
        by : (xs : List Global) (k : ℕ) → ((n : ℕ) (x : Global) → slice_get xs n ≡ Some x → IsGlobalIn before.scope.types.types x) → slice_get (xs ++ rows.globals) k ≡ Some one → IsGlobalIn q.scope.types.types one
        by [] k each f = globals_at q.scope.types.types rows.globals k one rows.are_globals f
        by (x ∷ xs) zero each f = subst (λ (types : List TypeDef). IsGlobalIn types one) (sym types_are) (global_more before.scope.types.types back one (each 0 one f))
        by (x ∷ xs) (suc k) each f = by xs k (λ n y g. each (suc n) y g) f

    there : AreThere new new_frames
    there = by frames read.locals
      where
        local_there : (place : ℕ) (ty : TypeId) → ((n : ℕ) (x : TypeId) → slice_get s.locals n ≡ Some x → IsInTable old.types x) → slice_get q.locals place ≡ Some ty → IsInTable new.types ty
        local_there place ty each e = in_it s.locals place each (subst (λ (all : List TypeId). slice_get all place ≡ Some ty) rows.has_locals e)
          where
            in_it : (xs : List TypeId) (k : ℕ) → ((n : ℕ) (x : TypeId) → slice_get xs n ≡ Some x → IsInTable old.types x) → slice_get (xs ++ rows.locals) k ≡ Some ty → IsInTable new.types ty
            in_it [] k every f = types_at q.scope.types.types rows.locals k ty rows.are_locals f
            in_it (x ∷ xs) zero every f = type_kept ty (every 0 ty f)
            in_it (x ∷ xs) (suc k) every f = in_it xs k (λ n y g. every (suc n) y g) f

        by : (these : List Frame) → AreThere old (with_inner s.locals these) → AreThere new (with_inner q.locals these)
        by [] k = tt
        by (one ∷ rest) k = (λ place ty e. local_there place ty (λ n x f. k.0 n x f) e, there_kept old new rest type_kept k.1)

    header_in : (class : TypeId) (place : ℕ) (method : Method) → slice_get (methods_of (definition new.types class)) place ≡ Some method → IsHeaderIn new.types method.header
    header_in class place method e = by (definition new.types class) refl (λ one is. gives.sound.names class one is) e
      where
        by : (d : Option TypeDef) → definition new.types class ≡ d → ((one : TypeDef) → definition new.types class ≡ Some one → NamesWithin new.types one) → slice_get (methods_of d) place ≡ Some method → IsHeaderIn new.types method.header
        by (Some (type.ObjectOf parent dynamic fields methods)) is names f = all_at (λ (m : Method). IsHeaderIn new.types m.header) methods place method (names (type.ObjectOf parent dynamic fields methods) is) f
        by d is names f = absurd (nothing_at place method f)

    announced : (number : ℕ) (one : Numbered) → slice_get (before.routines ++ news) number ≡ Some one → IsAnnounced new number one.first
    announced number one e = by (joined_at before.routines news number one e)
      where
        by : (slice_get before.routines number ≡ Some one) ⊎ ((k : ℕ) × (number ≡ length before.routines + k) × (slice_get news k ≡ Some one)) → IsAnnounced new number one.first
        by (inl f) =
            let it = read.announced number one f in
            record { header = header_kept one.first.header it.header; function = it.function; owner = owner_kept one.first.owner it.owner; outer = it.outer }
        by (inr f) =
            let it = awaits.only f.0 one f.2 in
            subst (λ (x : Numbered). IsAnnounced new number x.first) (sym it.is)
            (record { header = header_in it.class it.place it.method it.there; function = it.function; owner = it.object; outer = tt })

    blocks : (number : ℕ) (one : Numbered) (done : Done) → slice_get (before.routines ++ news) number ≡ Some one → one.done ≡ Some done → IsBlock new number done
    blocks number one done e has = by (joined_at before.routines news number one e)
      where
        by : (slice_get before.routines number ≡ Some one) ⊎ ((k : ℕ) × (number ≡ length before.routines + k) × (slice_get news k ≡ Some one)) → IsBlock new number done
        by (inl f) =
            let it = read.blocks number one done f has in
            let body = it.body in
            record {
              types = λ place ty g. type_kept ty (it.types place ty g);
              body = record { then = body.then; around = body.around; well = body.well; sound = body.sound; nested = body.nested; innermost = body.innermost; since = extends_on body.then old new body.since grows };
            }
        by (inr f) =
            let none : None ≡ Some done = ap (λ (x : Numbered). x.done) (sym (awaits.only f.0 one f.2).is) ∙ has in
            let bad : ⊥ = cc in
            absurd bad

    methods : (number place : ℕ) (one : Numbered) (ty : TypeId) (method : Method) → slice_get (before.routines ++ news) number ≡ Some one → one.first.owner ≡ Some ty
        → slice_get (methods_of (definition q.scope.types.types ty)) place ≡ Some method → method.routine.number ≡ number → one.first.header ≡ method.header
    methods number place one ty method e owned m same = by (joined_at before.routines news number one e)
      where
        by : (slice_get before.routines number ≡ Some one) ⊎ ((k : ℕ) × (number ≡ length before.routines + k) × (slice_get news k ≡ Some one)) → one.first.header ≡ method.header
        by (inl f) =
            let owner : IsOwner old (Some ty) = subst (λ (o : Option TypeId). IsOwner old o) owned (read.announced number one f).owner in
            let object : IsObject (definition before.scope.types.types ty) = subst (λ (types : List TypeDef). IsObject (definition types ty)) old_types owner in
            read.methods number place one ty method f owned (ap (λ (d : Option TypeDef). slice_get (methods_of d) place) (sym (same_type ty (some_object before.scope.types.types ty.0 object))) ∙ m) same
        by (inr f) =
            let it = awaits.only f.0 one f.2 in
            let its : Some it.class ≡ Some ty = ap (λ (x : Numbered). x.first.owner) (sym it.is) ∙ owned in
            let class_is : it.class ≡ ty = cc in
            let high : length before.scope.types.types ≤ ty.0 = subst (λ (c : TypeId). length before.scope.types.types ≤ c.0) class_is it.new in
            let await = (awaits.each ty place method high m).0 in
            let where_it = new_exact await.place (slice_get_within news await.place _ await.is) in
            let number_is = await.number_is in
            let here = f.1 in
            let same_place : await.place ≡ f.0 = omega (arith, where_it, number_is, here, same) in
            let again : slice_get news f.0 ≡ Some (awaiting (method_announced ty await.at method)) = ap (λ (n : ℕ). slice_get news n) (sym same_place) ∙ await.is in
            let one_is : one ≡ awaiting (method_announced ty await.at method) = (let g = f.2 in cc) in
            ap (λ (x : Numbered). x.first.header) one_is

    pub joined : IsRead after new_frames
    joined =
        let g : Environment = typing before.scope q.scope.types in
        let known = names_known g new gives.names further (each_for (IsGivenIn site.home q) (IsEntry new around) entry_known gives.names gives.known) in
        let own = names_each (IsOwn (before.routines ++ news)) g gives.names (each_weaker (IsOwn before.routines) (IsOwn (before.routines ++ news)) (own_kept before.routines news) [] before.scope.blocks read.own)
        (each_for (IsGivenIn site.home q) (IsOwn (before.routines ++ news) around) own_known gives.names gives.known) in
        let open_same : open_in (with_names g gives.names) ≡ numbers_of old_frames = names_open g gives.names ∙ read.around in
        record {
          known = subst (λ (e : Environment). AreKnown e new) (sym gives.whole) known;
          around = ap (λ (e : Environment). open_in e) gives.whole ∙ open_same ∙ same_numbers frames;
          bottom = subst (λ (e : Environment). IsBottom e.blocks (length new_frames)) (sym gives.whole) (names_bottom g gives.names (length new_frames) (subst (λ (n : ℕ). IsBottom before.scope.blocks n) (same_count frames) read.bottom));
          locals = there;
          own = subst (λ (e : Environment). EachIn (IsOwn (before.routines ++ news)) [] e.blocks) (sym gives.whole) own;
          values = gives.values;
          table = tabled;
          globals = globals_are;
          methods = methods;
          announced = announced;
          blocks = blocks;
        }
      where
        same_numbers : (these : List Frame) → numbers_of (with_inner s.locals these) ≡ numbers_of (with_inner q.locals these)
        same_numbers [] = refl
        same_numbers (one ∷ rest) = refl

        same_count : (these : List Frame) → length (with_inner s.locals these) ≡ length (with_inner q.locals these)
        same_count [] = refl
        same_count (one ∷ rest) = refl
