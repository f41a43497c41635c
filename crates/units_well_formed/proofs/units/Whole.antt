-- The routines of a unit are well formed, where what was read of it is.
use Rattle.std.proofs.Common.{◌≡◌, ◌⊎◌, inl, inr, ℕ, zero, suc, ◌+◌, ◌<◌, ◌≤◌, true, All, List, [], ◌∷◌, ◌++◌, length, map, get_or, Option, Some, None, refl, sym, subst, ap, ◌∙◌, arith, append-nil}
use Rattle.std.specs.Prelude.{slice_get, is_some}
use Rattle.std.proofs.lemmas.Option.{slice_get_within, slice_get-get_or}
use Rattle.std.proofs.lemmas.List.Elements.{All-nil}
use Rattle.declarations_well_formed.specs.type_layout.declared.definitions.TypeId.{TypeId}
use Rattle.declarations_well_formed.specs.type_layout.declared.definitions.Param.{Param}
use Rattle.declarations_well_formed.specs.type_layout.declared.definitions.Kind.TheVariants as kind
use Rattle.declarations_well_formed.specs.type_layout.declared.definitions.Header.{Header}
use Rattle.declarations_well_formed.specs.type_layout.declared.definitions.TypeDef.{TypeDef}
use Rattle.declarations_well_formed.specs.type_layout.Table.{Table}
use Rattle.declarations_well_formed.proofs.type_layout_proofs.Local.{slice_get-append}
use Rattle.declarations_well_formed.specs.syntax_tree.declared.statement.CompoundStatement.{CompoundStatement}
use Rattle.declarations_well_formed.specs.syntax_tree.statement_tree.Trees.{compound, view_statements}
use Rattle.declarations_well_formed.specs.typed_tree.declared.units.Global.{Global}
use Rattle.declarations_well_formed.specs.typed_tree.declared.units.Item.{Item}
use Rattle.declarations_well_formed.specs.typed_tree.declared.units.Routine.{Routine}
use Rattle.declarations_well_formed.specs.typed_tree.declared.units.Unit as typed
use Rattle.declarations_well_formed.specs.typed_tree.Statements.{Statement, view_stmt}
use Rattle.declarations_well_formed.specs.typed_tree.type_fits.Fits.{definition, IsObject}
use Rattle.declarations_well_formed.specs.typed_tree.type_fits.Routines.{variables_of}
use Rattle.declarations_well_formed.specs.well_formed.Scopes.{IsOneOf, Others, Scope, HasType, HasResult}
use Rattle.declarations_well_formed.specs.well_formed.WellFormed.{IsStatement, scope_of, scope_in, IsInside, IsOwner, IsRoutine}
use Rattle.declarations_well_formed.specs.tp_check_decl.routines.Drafts.{Done, Numbered, Drafted}
use Rattle.declarations_well_formed.specs.tp_check_decl.routines.Insides.{statements_of}
use Rattle.declarations_well_formed.specs.tp_check_decl.Units.{Finished, Whole, view_routine, view_unit, finished, main_part}
use Rattle.declarations_well_formed.specs.tp_check_decl.Endings.{all_finished, main_judged, ended}
use Rattle.declarations_well_formed.specs.rules_well_formed.nodes.Tables.{IsInTable, IsResultIn, IsHeaderIn, IsSound}
use Rattle.declarations_well_formed.specs.well_formed.weakening.Weakening.{IsSame, Weakens}
use Rattle.declarations_well_formed.specs.well_formed.weakening.Laws.{StatementsStay}
use Rattle.declarations_well_formed.specs.bodies_well_formed.statements.Trees.{depth_in}
use Rattle.declarations_well_formed.proofs.bodies_well_formed_proofs.statements.Checked.{stated_well}
use Rattle.units_well_formed.specs.parts.Below as reading
use Rattle.units_well_formed.specs.parts.Below.{open_in, first_in, AreNested, levels_in, scope_over, Extends, others_of, tree_of, locals_of, IsBody, IsRead, IsKept}
use Rattle.units_well_formed.proofs.parts.Below.{nested_kept, levels_kept, agrees_within, plain_trees, among_itself, snoc_at}
use Rattle.units_well_formed.specs.units.Begun.{IsKeptPart}
use Rattle.units_well_formed.proofs.units.Finished.{finished_at, slot_at, viewed_at, view_back}
use Rattle.units_well_formed.proofs.units.Levels.{IsAlike, levels_alike, around_alike}

-- a tree of a draft stands for a routine of it
tree_back : (routines : List Numbered) (number : ℕ) (tree : Routine) → slice_get (plain_trees routines) number ≡ Some tree → (slot : Numbered) × (slice_get routines number ≡ Some slot) × (tree_of slot ≡ tree)
tree_back [] zero tree e = let bad : ⊥ = cc in absurd bad
tree_back [] (suc number) tree e = let bad : ⊥ = cc in absurd bad
tree_back (slot ∷ rest) zero tree e =
    let same : tree_of slot ≡ tree = cc in
    (slot, refl, same)
tree_back (slot ∷ rest) (suc number) tree e = tree_back rest number tree e

result_has : (s : Scope) (o : Option TypeId) → IsResultIn s.types o → HasResult s o
result_has s None h = tt
result_has s (Some ty) h = h

-- what a unit is of
pub record IsUnit (d : Drafted) (all behind : List Finished) (unit : typed.Unit) : Type 0 where
  pub names : unit.names ≡ d.scope.units
  pub types : unit.types ≡ d.scope.types
  pub globals : unit.globals ≡ d.globals
  pub routines : map view_routine unit.routines ≡ all ++ behind

module _ (stay : StatementsStay) (d : Drafted) (r : IsRead d []) (all behind : List Finished) (unit : typed.Unit) (finish : (all_finished d.scope.types.types d.routines).holds all) (u : IsUnit d all behind unit) where
  abbrev draft : Scope
  draft = reading.scope_of d []

  -- what is supposed of other units
  abbrev others : Others
  others = others_of d.scope

  -- each routine of the draft is one of the unit
  pub unit_at : (number : ℕ) (slot : Numbered) → slice_get d.routines number ≡ Some slot
      → (done : Done) × (slot.done ≡ Some done) × ((routine : Routine) × (slice_get unit.routines number ≡ Some routine) × (view_routine routine ≡ finished slot.first done))
  unit_at number slot e =
      let it = slot_at d.scope.types.types d.routines all number slot finish e in
      let there : slice_get (map view_routine unit.routines) number ≡ Some (finished slot.first it.0) =
      ap (λ (xs : List Finished). slice_get xs number) u.routines ∙ slice_get-append all behind number (slice_get_within all number (finished slot.first it.0) it.2) ∙ it.2 in
      (it.0, it.1, view_back unit.routines number (finished slot.first it.0) there)

  pub alike : (number : ℕ) (one : Routine) → slice_get draft.routines number ≡ Some one → IsAlike unit.routines number one × ((other : Routine) × (slice_get unit.routines number ≡ Some other) × IsSame one other)
  alike number one e =
      let slot = tree_back d.routines number one e in
      let it = unit_at number slot.0 slot.1 in
      let routine = it.2.0 in
      let header : routine.header ≡ slot.0.first.header = ap (λ (f : Finished). f.header) it.2.2 in
      let owner : routine.owner ≡ slot.0.first.owner = ap (λ (f : Finished). f.owner) it.2.2 in
      let outer : routine.outer ≡ slot.0.first.outer = ap (λ (f : Finished). f.outer) it.2.2 in
      let far : routine.far ≡ slot.0.first.far = ap (λ (f : Finished). f.far) it.2.2 in
      let locals : routine.locals ≡ locals_of slot.0.done = ap (λ (f : Finished). f.locals) it.2.2 ∙ sym (ap (λ (o : Option Done). locals_of o) it.1) in
      let variables : variables_of routine ≡ variables_of (tree_of slot.0) = rw (header, owner, locals) refl in
      subst (λ (t : Routine). IsAlike unit.routines number t × ((other : Routine) × (slice_get unit.routines number ≡ Some other) × IsSame t other)) slot.2 (
        record { other = routine; is = it.2.1; variables = variables; outer = outer },
        (routine, it.2.1, record { header = sym header; owner = sym owner; outer = sym outer; far = sym far }),
      )

  inside : (number : ℕ) (one : Routine) → slice_get draft.routines number ≡ Some one → IsInside number one.outer
  inside number one e =
      let slot = tree_back d.routines number one e in
      subst (λ (t : Routine). IsInside number t.outer) slot.2 (r.announced number slot.0 slot.1).outer

  pub types_are : draft.types ≡ unit.types.types
  types_are = sym (ap (λ (t : Table). t.types) u.types)

  -- the scope of a routine of the unit has all that the draft's has
  widens : (number : ℕ) (around : List ℕ) (then : Scope) → Extends then draft → IsSound then.types → AreNested then.routines (number ∷ around) → AreNested draft.routines (number ∷ around)
      → Weakens (scope_over then (number ∷ around)) (scope_in others unit number)
  widens number around then e sound nested_then nested = record {
    defined = sound.defined;
    types = (e.types.0, sym types_are ∙ e.types.1);
    others = e.others;
    globals = λ n ty g. ap (λ (gs : List Global). slice_get (map (λ (global : Global). global.ty) gs) n) u.globals ∙ e.globals n ty g;
    routines = λ n one is. (
        let first = e.routines n one is in
        let second = (alike n first.0 first.1).1 in (
          second.0,
          second.1,
          record {
            header = first.2.same.header ∙ second.2.header;
            owner = first.2.same.owner ∙ second.2.owner;
            outer = first.2.same.outer ∙ second.2.outer;
            far = first.2.same.far ∙ second.2.far;
          },
        ));
    around = λ n h. subst (λ (ns : List ℕ). IsOneOf n ns) (sym (around_alike draft.routines unit.routines (λ k one is. (alike k one is).0) inside (suc number) number around (let low : number < suc number = omega arith in low) nested)) h;
    levels = λ level place ty v. (
        let here = levels_kept then draft e sound (number ∷ around) level place ty nested_then v in
        let low : number < suc number = omega arith in
        levels_alike draft.routines unit.routines (λ n one is. (alike n one is).0) inside (suc number) number around level place ty low nested here);
    withs = refl;
  }

  -- the routine of a number, of the draft
  routine_well : (number : ℕ) (routine : Routine) → slice_get unit.routines number ≡ Some routine → slice_get all number ≡ Some (view_routine routine) → IsRoutine others unit number routine
  routine_well number routine e at =
      let f = finished_at d.scope.types.types d.routines all number (view_routine routine) finish at in
      let a = r.announced number f.slot f.is in
      let b = r.blocks number f.slot f.done f.is f.has in
      let header : routine.header ≡ f.slot.first.header = ap (λ (x : Finished). x.header) f.made in
      let owner : routine.owner ≡ f.slot.first.owner = ap (λ (x : Finished). x.owner) f.made in
      let outer : routine.outer ≡ f.slot.first.outer = ap (λ (x : Finished). x.outer) f.made in
      let locals : routine.locals ≡ f.done.locals = ap (λ (x : Finished). x.locals) f.made in
      let body : view_stmt routine.body ≡ f.done.body = ap (λ (x : Finished). x.body) f.made in
      let in_table : IsHeaderIn unit.types.types routine.header = subst (λ (h : Header). IsHeaderIn unit.types.types h) (sym header) (subst (λ (ts : List TypeDef). IsHeaderIn ts f.slot.first.header) types_are a.header) in
      record {
        params = in_table.params;
        result = result_has (scope_of unit) routine.header.result in_table.result;
        function = subst (λ (h : Header). is_some h.result ≡ true → h.kind ≡ kind.Function) (sym header) a.function;
        owner = subst (λ (o : Option TypeId). IsOwner (scope_of unit) o) (sym owner) (owner_kept f.slot.first.owner a.owner);
        outer = subst (λ (o : Option ℕ). IsInside number o) (sym outer) a.outer;
        locals = subst (λ (ls : List TypeId). All (HasType (scope_of unit)) ls) (sym locals) (all_there f.done.locals (λ place ty k. subst (λ (ts : List TypeDef). IsInTable ts ty) types_are (b.types place ty k)));
        body = subst (λ (st : Statement). IsStatement (scope_in others unit number) st) (sym body) (body_well number f.done b.body);
      }
    where
      owner_kept : (o : Option TypeId) → IsOwner draft o → IsOwner (scope_of unit) o
      owner_kept None h = tt
      owner_kept (Some ty) h = subst (λ (ts : List TypeDef). IsObject (definition ts ty)) types_are h

      all_there : (types : List TypeId) → ((place : ℕ) (ty : TypeId) → slice_get types place ≡ Some ty → HasType (scope_of unit) ty) → All (HasType (scope_of unit)) types
      all_there types h = λ k d low. h k (get_or types k d) (slice_get-get_or types k d low)

      body_well : (n : ℕ) (done : Done) → IsBody draft n done → IsStatement (scope_in others unit n) done.body
      body_well n done b = by b.around b.innermost b.well b.nested
        where
          by : (around : List ℕ) → first_in around ≡ Some n → IsStatement (scope_over b.then around) done.body → AreNested b.then.routines around → IsStatement (scope_in others unit n) done.body
          by [] is well nested = let bad : ⊥ = cc in absurd bad
          by (first ∷ around) is well nested =
              let same : first ≡ n = cc in
              let it : IsStatement (scope_in others unit first) done.body =
              stay (scope_over b.then (first ∷ around)) (scope_in others unit first) (widens first around b.then b.since b.sound nested (nested_kept b.then draft b.since b.sound (first ∷ around) nested)) done.body well in
              subst (λ (m : ℕ). IsStatement (scope_in others unit m) done.body) same it

  -- ---- the main part

  nothing_in : (level place : ℕ) (ty : TypeId) → slice_get (get_or (levels_in draft.routines []) level []) place ≡ Some ty → ⊥
  nothing_in zero zero ty e = let bad : ⊥ = cc in bad
  nothing_in zero (suc place) ty e = let bad : ⊥ = cc in bad
  nothing_in (suc level) zero ty e = let bad : ⊥ = cc in bad
  nothing_in (suc level) (suc place) ty e = let bad : ⊥ = cc in bad

  no_one : (n place : ℕ) → slice_get [] place ≡ Some n → ⊥
  no_one n zero e = let bad : ⊥ = cc in bad
  no_one n (suc place) e = let bad : ⊥ = cc in bad

  weakens_main : (number : ℕ) → Weakens (scope_over draft []) (scope_in others unit number)
  weakens_main number = record {
    defined = r.known.sound.defined;
    types = ([], sym types_are ∙ sym (append-nil draft.types));
    others = among_itself others;
    globals = λ n ty g. ap (λ (gs : List Global). slice_get (map (λ (global : Global). global.ty) gs) n) u.globals ∙ g;
    routines = λ n one is. (alike n one is).1;
    around = λ n h. absurd (no_one n h.0 h.1);
    levels = λ level place ty v. absurd (nothing_in level place ty v);
    withs = refl;
  }

  main_body : (body : CompoundStatement) (kept : IsKept body) (typed_body : Statement) → (statements_of d.scope body).holds typed_body → (number : ℕ) → IsStatement (scope_in others unit number) typed_body
  main_body body kept typed_body h number =
      let none : open_in d.scope ≡ [] = r.around in
      let agrees = agrees_within d.scope draft r.known in
      let room : depth_in (view_statements body.statements.items) + 0 ≤ 2147483648 = (let k = kept.depth in omega (arith, k)) in
      let well : IsStatement (scope_over draft (open_in d.scope)) typed_body =
      stated_well (compound (view_statements body.statements.items)) d.scope (scope_over draft (open_in d.scope)) agrees typed_body kept.literals room h in
      stay (scope_over draft []) (scope_in others unit number) (weakens_main number) typed_body (subst (λ (ns : List ℕ). IsStatement (scope_over draft ns) typed_body) none well)

  main_well : (name : List ℕ) (typed_body : Statement) (number : ℕ) (routine : Routine) → main_part name typed_body ≡ view_routine routine → IsStatement (scope_in others unit number) typed_body → IsRoutine others unit number routine
  main_well name typed_body number routine is well =
      let header : routine.header ≡ (main_part name typed_body).header = sym (ap (λ (x : Finished). x.header) is) in
      let owner : None ≡ routine.owner = ap (λ (x : Finished). x.owner) is in
      let outer : None ≡ routine.outer = ap (λ (x : Finished). x.outer) is in
      let locals : [] ≡ routine.locals = ap (λ (x : Finished). x.locals) is in
      let body : typed_body ≡ view_stmt routine.body = ap (λ (x : Finished). x.body) is in
      record {
        params = subst (λ (h : Header). All (λ (param : Param). HasType (scope_of unit) param.ty) h.params) (sym header) (All-nil (λ (param : Param). HasType (scope_of unit) param.ty));
        result = subst (λ (h : Header). HasResult (scope_of unit) h.result) (sym header) tt;
        function = subst (λ (h : Header). is_some h.result ≡ true → h.kind ≡ kind.Function) (sym header) (λ e. let bad : ⊥ = cc in absurd bad);
        owner = subst (λ (o : Option TypeId). IsOwner (scope_of unit) o) owner tt;
        outer = subst (λ (o : Option ℕ). IsInside number o) outer tt;
        locals = subst (λ (ls : List TypeId). All (HasType (scope_of unit)) ls) locals (All-nil (HasType (scope_of unit)));
        body = subst (λ (st : Statement). IsStatement (scope_in others unit number) st) body well;
      }

-- ---- units

module _ (stay : StatementsStay) (name : List ℕ) (d : Drafted) (r : IsRead d []) (unit : typed.Unit) where
  abbrev told : Others
  told = others_of d.scope

  bare_unit : (all : List Finished) (number : ℕ) (routine : Routine) → (all_finished d.scope.types.types d.routines).holds all → IsUnit d all [] unit → slice_get unit.routines number ≡ Some routine → IsRoutine told unit number routine
  bare_unit all number routine finish u e =
      let there : slice_get all number ≡ Some (view_routine routine) =
      ap (λ (xs : List Finished). slice_get xs number) (sym (u.routines ∙ append-nil all)) ∙ viewed_at unit.routines number routine e in
      routine_well stay d r all [] unit finish u number routine e there

  main_unit : (all : List Finished) (body : CompoundStatement) (main : Finished) (number : ℕ) (routine : Routine) → (all_finished d.scope.types.types d.routines).holds all → IsKept body → (main_judged name d.scope body).holds main
      → IsUnit d all (main ∷ []) unit → slice_get unit.routines number ≡ Some routine → IsRoutine told unit number routine
  unfolding main_judged
  main_unit all body main number routine finish kept m u e =
      by (snoc_at all main number (view_routine routine) (ap (λ (xs : List Finished). slice_get xs number) (sym u.routines) ∙ viewed_at unit.routines number routine e))
    where
      by : (slice_get all number ≡ Some (view_routine routine)) ⊎ ((number ≡ length all) × (main ≡ view_routine routine)) → IsRoutine told unit number routine
      by (inl f) = routine_well stay d r all (main ∷ []) unit finish u number routine e f
      by (inr f) =
          let last = m.made in
          main_well stay d r all (main ∷ []) unit finish u name m.part number routine (sym last.made ∙ f.1) (main_body stay d r all (main ∷ []) unit finish u body kept m.part m.holds number)

  pub unit_well : (front : _) (items : List Item) (body : Option CompoundStatement) → (ended name front items body d).holds (view_unit unit) → IsKeptPart body → (number : ℕ) (routine : Routine) → slice_get unit.routines number ≡ Some routine
      → IsRoutine told unit number routine
  unit_well front items None h kept number routine e =
      let u : IsUnit d h.part [] unit = record {
        names = ap (λ (w : Whole). w.names) h.made;
        types = ap (λ (w : Whole). w.types) h.made;
        globals = ap (λ (w : Whole). w.globals) h.made;
        routines = ap (λ (w : Whole). w.routines) h.made ∙ sym (append-nil h.part);
      } in
      bare_unit h.part number routine h.holds u e
  unit_well front items (Some body) h kept number routine e =
      let u : IsUnit d h.left (h.right ∷ []) unit = record {
        names = ap (λ (w : Whole). w.names) h.made;
        types = ap (λ (w : Whole). w.types) h.made;
        globals = ap (λ (w : Whole). w.globals) h.made;
        routines = ap (λ (w : Whole). w.routines) h.made;
      } in
      main_unit h.left body h.right number routine h.left_holds kept h.right_holds u e
