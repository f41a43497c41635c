-- What is known stays known where a used unit comes into the scope.
use Rattle.std.proofs.Common.{◌≡◌, ◌⊎◌, inl, inr, ℕ, zero, suc, ◌+◌, ◌<◌, ◌≤◌, Bool, true, false, cond, List, [], ◌∷◌, ◌++◌, length, get_or, Option, Some, None, refl, sym, subst, ap, ◌∙◌, arith}
use Rattle.std.specs.Prelude.{slice_get, position, option_map}
use Rattle.std.specs.Cmp.Lexicographic.{bytes_decides}
use Rattle.std.proofs.lemmas.Bool.{lt-ltb}
use Rattle.std.proofs.lemmas.Option.{slice_get_within}
use Rattle.std.proofs.lemmas.List.Quantifiers.{position-Some}
use Rattle.std.proofs.lemmas.List.Elements.{All-weaker, All-push}
use Rattle.declarations_well_formed.specs.type_layout.declared.definitions.TypeId.{TypeId}
use Rattle.declarations_well_formed.specs.type_layout.declared.definitions.RoutineId.{RoutineId}
use Rattle.declarations_well_formed.specs.type_layout.declared.definitions.Param.{Param}
use Rattle.declarations_well_formed.specs.type_layout.declared.definitions.Method.{Method}
use Rattle.declarations_well_formed.specs.type_layout.declared.definitions.TypeDef.{TypeDef}
use Rattle.declarations_well_formed.specs.type_layout.Words.{same_bytes}
use Rattle.declarations_well_formed.proofs.type_layout_proofs.Local.{slice_get-append}
use Rattle.declarations_well_formed.specs.typed_tree.declared.units.Routine.{Routine}
use Rattle.declarations_well_formed.specs.typed_tree.type_fits.Fits.{definition, IsObject}
use Rattle.declarations_well_formed.specs.well_formed.Scopes.{Prototype, Others, Scope, HasRoutine, IsRoutineAt}
use Rattle.declarations_well_formed.specs.well_formed.weakening.Weakening.{AreAmong}
use Rattle.declarations_well_formed.specs.well_formed.WellFormed.{IsOwner}
use Rattle.declarations_well_formed.specs.scopes.declared.entries.Entry.{Entry}
use Rattle.declarations_well_formed.specs.scopes.declared.entries.Entry.TheVariants as entry
use Rattle.declarations_well_formed.specs.scopes.declared.searches.OpenBlock.{OpenBlock}
use Rattle.declarations_well_formed.specs.scopes.Symbols.{SymbolList}
use Rattle.declarations_well_formed.specs.scopes.Members.{narrow}
use Rattle.declarations_well_formed.specs.scopes.Environment.{Environment}
use Rattle.declarations_well_formed.specs.call_rules.method_rules.Slots.{methods_of}
use Rattle.declarations_well_formed.specs.call_rules.method_rules.Methods.{unit_at, routine_of, routine_in}
use Rattle.declarations_well_formed.specs.rules_well_formed.methods.Declared.{IsMethod, HasMethods}
use Rattle.declarations_well_formed.specs.rules_well_formed.nodes.Tables.{IsInTable, IsResultIn, IsSound}
use Rattle.declarations_well_formed.specs.constants.Laws.{StayConstants}
use Rattle.declarations_well_formed.specs.tp_check_decl.routines.Drafts.{Done, Numbered, Drafted, knowing}
use Rattle.declarations_well_formed.specs.tp_check_decl.Programs.{empty_draft}
use Rattle.units_well_formed.specs.parts.Below.{open_from, open_in, IsEntry, EachOf, EachIn, AreKnown, Extends, others_of, IsConstantIn, HasValues, scope_of, IsOwn, IsAnnounced, IsBlock, IsBottom, IsTabled, IsGlobalIn, IsRead}
use Rattle.units_well_formed.proofs.parts.Below.{unit_told_from, method_among, others_grow, nested_kept, entry_kept, further_itself, extends_on, each_weaker}
use Rattle.units_well_formed.proofs.parts.Awaiting.{some_object}
use Rattle.units_well_formed.proofs.parts.Names.{each_for}
use Rattle.units_well_formed.proofs.parts.Rows.{in_more, global_more}
use Rattle.units_well_formed.proofs.parts.Tables.{found_at}
use Rattle.units_well_formed.proofs.parts.Methods.{some_at}
use Rattle.units_well_formed.specs.units.Begun.{IsBegun, IsJoined}
use Rattle.units_well_formed.specs.units.Bringing.{with_table, Brings}

-- ---- lists

get_front : {A : Type 0} → (xs ys : List A) (k : ℕ) (x : A) → slice_get xs k ≡ Some x → slice_get (xs ++ ys) k ≡ Some x
get_front xs ys k x e = slice_get-append xs ys k (slice_get_within xs k x e) ∙ e

where_is : (n m : ℕ) → (n < m) ⊎ (m ≤ n)
where_is n zero = inr (omega arith)
where_is zero (suc m) = inl (omega arith)
where_is (suc n) (suc m) = next (where_is n m)
  where
    next : (n < m) ⊎ (m ≤ n) → (suc n < suc m) ⊎ (suc m ≤ suc n)
    next (inl f) = inl (omega (arith, f))
    next (inr f) = inr (omega (arith, f))

get_first : {A : Type 0} → (xs ys : List A) (k : ℕ) (d : A) → k < length xs → get_or (xs ++ ys) k d ≡ get_or xs k d
get_first [] ys k d h = absurd (omega (arith, h))
get_first (x ∷ xs) ys zero d h = refl
get_first (x ∷ xs) ys (suc k) d h = get_first xs ys k d (omega (arith, h))

-- a name that is found among the first is found there
same_place : (word : List ℕ) (xs ys : List (List ℕ)) (i j : ℕ) → position (same_bytes word) (xs ++ ys) ≡ Some i → position (same_bytes word) xs ≡ Some j → j ≡ i
same_place word xs ys i j e f =
    let a = position-Some (same_bytes word) (xs ++ ys) i [] e in
    let b = position-Some (same_bytes word) xs j [] f in
    by (where_is i j) (where_is j i) a.1 a.2 b.0 b.1 b.2
  where
    by : (i < j) ⊎ (j ≤ i) → (j < i) ⊎ (i ≤ j) → same_bytes word (get_or (xs ++ ys) i []) ≡ true → ((k : ℕ) → k < i → same_bytes word (get_or (xs ++ ys) k []) ≡ false) → j < length xs
        → same_bytes word (get_or xs j []) ≡ true → ((k : ℕ) → k < j → same_bytes word (get_or xs k []) ≡ false) → j ≡ i
    by (inl low) c at before within here first =
        let no = first i low in
        let yes : same_bytes word (get_or xs i []) ≡ true = ap (λ (x : List ℕ). same_bytes word x) (sym (get_first xs ys i [] (omega (arith, low, within)))) ∙ at in
        let bad : ⊥ = cc in
        absurd bad
    by (inr high) (inl low) at before within here first =
        let no = before j low in
        let yes : same_bytes word (get_or (xs ++ ys) j []) ≡ true = ap (λ (x : List ℕ). same_bytes word x) (get_first xs ys j [] within) ∙ here in
        let bad : ⊥ = cc in
        absurd bad
    by (inr high) (inr low) at before within here first = omega (arith, high, low)

-- ---- constants

constant_more : StayConstants → (types more : List TypeDef) → IsSound types → (one : Entry) → IsConstantIn types one → IsConstantIn (types ++ more) one
constant_more stay types more sound (entry.Const ty v) h = stay types more sound ty v h
constant_more stay types more sound (entry.Ty ty) h = tt
constant_more stay types more sound (entry.Var unit level number ty) h = tt
constant_more stay types more sound (entry.Code routine level header far) h = tt
constant_more stay types more sound (entry.Std number) h = tt

-- ---- what is brought

module _ (name : List ℕ) (g h : Environment) (s : Scope) (known : AreKnown g s) (told : s.others ≡ others_of g) (named : slice_get g.units 0 ≡ Some name) (table : IsTabled g.types) (b : Brings name g h s) where
  abbrev wide : Scope
  wide = with_table s h

  more_told : AreAmong s.others (others_of h)
  more_told =
      subst (λ (o : Others). AreAmong o (others_of h)) (sym told)
      (others_grow g h (record { used = (b.names ∷ [], ap (λ (e : Environment). e.used) b.whole); units = b.units; table_units = b.table_units; types = b.types }))

  types_are : s.types ≡ g.types.types
  types_are = known.has.types

  pub grows : Extends s wide
  grows = record {
    types = (b.types.0, b.types.1 ∙ ap (λ (types : List TypeDef). types ++ b.types.0) (sym types_are));
    others = more_told;
    globals = λ number ty e. e;
    routines = λ number one e. (one, e, further_itself one);
  }

  -- a method whose routine is of a unit that stands behind the first
  foreign_by : (class : TypeId) (number : ℕ) (method : Method) (i n : ℕ) → slice_get (methods_of (definition h.types.types class)) number ≡ Some method
      → routine_in h method.routine ≡ Some (routine_of method.routine.number n) → n ≡ narrow i → 1 ≤ i → IsRoutineAt (IsMethod class method.header) wide n method.routine.number
  foreign_by class number method i zero m r e first = absurd (omega (arith, e, first))
  foreign_by class number method i (suc u) m r e first = (
    record { header = method.header; owner = Some class; outer = None; far = true },
    method_among h class number method (routine_of method.routine.number (suc u)) m r,
    record { owned = refl; same = record { kind = refl; params = refl; result = refl } },
  )

  -- a routine by the name of its unit
  routine_by : (method : Method) (word : List ℕ) (i : ℕ) → slice_get h.types.units method.routine.unit ≡ Some word → position (same_bytes word) h.units ≡ Some i
      → routine_in h method.routine ≡ Some (routine_of method.routine.number (narrow i))
  routine_by method word i there e =
      ap (λ (o : Option (List ℕ)). option_map (routine_of method.routine.number) (unit_at h.units o)) there
      ∙ ap (λ (o : Option ℕ). option_map (routine_of method.routine.number) (option_map narrow o)) e

  -- another name is not the first
  behind_first : (word : List ℕ) (i : ℕ) → (word ≡ name → ⊥) → position (same_bytes word) h.units ≡ Some i → 1 ≤ i
  behind_first word zero other e =
      let there = found_at h.units word 0 e in
      let first : slice_get h.units 0 ≡ Some name = ap (λ (us : List (List ℕ)). slice_get us 0) b.units.1 ∙ get_front g.units b.units.0 0 name named in
      let same : word ≡ name = cc in
      absurd (other same)
  behind_first word (suc i) other e = omega arith

  of_unit : (class : TypeId) (method : Method) (routine : RoutineId) (word : List ℕ) → slice_get h.types.units method.routine.unit ≡ Some word → routine_in h method.routine ≡ Some routine
      → ((i : ℕ) → position (same_bytes word) h.units ≡ Some i → HasRoutine (IsMethod class method.header) wide (routine_of method.routine.number (narrow i))) → HasRoutine (IsMethod class method.header) wide routine
  of_unit class method routine word there is each =
      by (position (same_bytes word) h.units) refl (ap (λ (o : Option (List ℕ)). option_map (routine_of method.routine.number) (unit_at h.units o)) (sym there) ∙ is)
    where
      by : (o : Option ℕ) → position (same_bytes word) h.units ≡ o → option_map (routine_of method.routine.number) (option_map narrow o) ≡ Some routine → HasRoutine (IsMethod class method.header) wide routine
      by None e k = let bad : ⊥ = cc in absurd bad
      by (Some i) e k =
          let same : routine_of method.routine.number (narrow i) ≡ routine = cc in
          subst (λ (x : RoutineId). HasRoutine (IsMethod class method.header) wide x) same (each i e)

  routine_kept : (Asked : Prototype → Type 0) (u number : ℕ) → IsRoutineAt Asked s u number → IsRoutineAt Asked wide u number
  routine_kept Asked zero number k = k
  routine_kept Asked (suc u) number k = (k.0, more_told.routines _ k.1, k.2)

  same_type : (ty : TypeId) → ty.0 < length g.types.types → definition h.types.types ty ≡ definition g.types.types ty
  same_type ty low = ap (λ (types : List TypeDef). definition types ty) b.types.1 ∙ slice_get-append g.types.types b.types.0 ty.0 low

  has_methods : HasMethods h wide
  has_methods = record { types = refl; units = unit_told_from h; methods = by }
    where
      by : (class : TypeId) (number : ℕ) (method : Method) (routine : RoutineId) → slice_get (methods_of (definition wide.types class)) number ≡ Some method → routine_in h method.routine ≡ Some routine
          → HasRoutine (IsMethod class method.header) wide routine
      by class number method routine m r = cases (where_is class.0 (length g.types.types))
        where
          cases : (class.0 < length g.types.types) ⊎ (length g.types.types ≤ class.0) → HasRoutine (IsMethod class method.header) wide routine
          cases (inr high) =
              let it = b.methods class number method high m in
              of_unit class method routine it.unit it.there r (λ i e. foreign_by class number method i (narrow i) m (routine_by method it.unit i it.there e) refl (behind_first it.unit i it.other e))
          cases (inl low) =
              let there : slice_get (methods_of (definition g.types.types class)) number ≡ Some method = ap (λ (d : Option TypeDef). slice_get (methods_of d) number) (sym (same_type class low)) ∙ m in
              let word = some_at g.types.units method.routine.unit (table.owned class number method there) in
              let later : slice_get h.types.units method.routine.unit ≡ Some word.0 =
              ap (λ (us : List (List ℕ)). slice_get us method.routine.unit) b.table_units.1 ∙ get_front g.types.units b.table_units.0 method.routine.unit word.0 word.1 in
              of_unit class method routine word.0 later r (λ i e. old word.0 word.1 later there i e)
            where
              old : (word : List ℕ) → slice_get g.types.units method.routine.unit ≡ Some word → slice_get h.types.units method.routine.unit ≡ Some word → slice_get (methods_of (definition g.types.types class)) number ≡ Some method → (i : ℕ) → position (same_bytes word) h.units ≡ Some i
                  → HasRoutine (IsMethod class method.header) wide (routine_of method.routine.number (narrow i))
              old word there later m_old i e = known_by (position (same_bytes word) g.units) refl
                where
                  -- the first is found
                  by_units : (us : List (List ℕ)) → slice_get us 0 ≡ Some name → position (same_bytes name) us ≡ None → ⊥
                  by_units [] x y = let bad : ⊥ = cc in bad
                  by_units (one ∷ rest) x y =
                      let is : one ≡ name = cc in
                      let yes : same_bytes name one ≡ true = (bytes_decides name one).1 (sym is) in
                      let low = lt-ltb 0 (suc (length rest)) (omega arith) in
                      let some : position (same_bytes name) (one ∷ rest) ≡ Some 0 = rw yes (ap (λ (c : Bool). cond c (Some 0) None) low) in
                      let bad : ⊥ = cc in
                      bad

                  none_first : word ≡ name → position (same_bytes word) g.units ≡ None → ⊥
                  none_first same f = by_units g.units named (subst (λ (w : List ℕ). position (same_bytes w) g.units ≡ None) same f)

                  known_by : (o : Option ℕ) → position (same_bytes word) g.units ≡ o → HasRoutine (IsMethod class method.header) wide (routine_of method.routine.number (narrow i))
                  known_by (Some j) f =
                      let same : j ≡ i = same_place word g.units b.units.0 i j (ap (λ (us : List (List ℕ)). position (same_bytes word) us) (sym b.units.1) ∙ e) f in
                      let was : routine_in g method.routine ≡ Some (routine_of method.routine.number (narrow j)) =
                      ap (λ (o : Option (List ℕ)). option_map (routine_of method.routine.number) (unit_at g.units o)) there ∙ ap (λ (o : Option ℕ). option_map (routine_of method.routine.number) (option_map narrow o)) f in
                      let has = known.has.methods class number method (routine_of method.routine.number (narrow j)) (ap (λ (types : List TypeDef). slice_get (methods_of (definition types class)) number) types_are ∙ m_old) was in
                      let kept = routine_kept (IsMethod class method.header) (narrow j) method.routine.number has in
                      subst (λ (k : ℕ). HasRoutine (IsMethod class method.header) wide (routine_of method.routine.number (narrow k))) same kept
                  known_by None f =
                      foreign_by class number method i (narrow i) m (routine_by method word i later e) refl (behind_first word i (λ same. none_first same f) e)

  each_kept : (around : List ℕ) (symbols : SymbolList) → EachOf (IsEntry s around) symbols → EachOf (IsEntry wide around) symbols
  each_kept around [] k = tt
  each_kept around (one ∷ rest) k = (entry_kept s wide grows known.sound around one.1 k.0, each_kept around rest k.1)

  pub brought_known : AreKnown h wide
  brought_known = subst (λ (e : Environment). AreKnown e wide) (sym b.whole) (record {
    has = record { types = has_methods.types; units = has_methods.units; methods = has_methods.methods };
    sound = b.sound;
    nested = nested_kept s wide grows known.sound (open_in g) known.nested;
    few = known.few;
    placed = known.placed;
    predeclared = each_kept [] g.predeclared known.predeclared;
    used = All-push (EachOf (IsEntry wide [])) g.used b.names (All-weaker (EachOf (IsEntry s [])) (EachOf (IsEntry wide [])) (λ symbols k. each_kept [] symbols k) g.used known.used) b.entries;
    lasting = known.lasting;
    blocks = each_weaker (IsEntry s) (IsEntry wide) (λ around one k. entry_kept s wide grows known.sound around one k) [] g.blocks known.blocks;
  })

  pub brought_values : StayConstants → HasValues g → HasValues h
  brought_values stay k =
      let wider : (one : Entry) → IsConstantIn g.types.types one → IsConstantIn h.types.types one =
      λ one c. subst (λ (types : List TypeDef). IsConstantIn types one) (sym b.types.1) (constant_more stay g.types.types b.types.0 (subst (λ (types : List TypeDef). IsSound types) types_are known.sound) one c) in
      subst (λ (e : Environment). HasValues e) (sym b.whole) (record {
        predeclared = each_for (IsConstantIn g.types.types) (IsConstantIn h.types.types) wider g.predeclared k.predeclared;
        used = All-push (EachOf (IsConstantIn h.types.types)) g.used b.names
            (All-weaker (EachOf (IsConstantIn g.types.types)) (EachOf (IsConstantIn h.types.types)) (λ symbols c. each_for (IsConstantIn g.types.types) (IsConstantIn h.types.types) wider symbols c) g.used k.used) b.values;
        blocks = each_weaker (λ (around : List ℕ) (one : Entry). IsConstantIn g.types.types one) (λ (around : List ℕ) (one : Entry). IsConstantIn h.types.types one) (λ around one c. wider one c) [] g.blocks k.blocks;
      })

  -- no block is opened or closed
  pub brought_blocks : h.blocks ≡ g.blocks
  brought_blocks = ap (λ (e : Environment). e.blocks) b.whole

  pub brought_named : slice_get h.units 0 ≡ Some name
  brought_named = ap (λ (us : List (List ℕ)). slice_get us 0) b.units.1 ∙ get_front g.units b.units.0 0 name named

-- ---- drafts and beginnings

module _ (stay : StayConstants) (name : List ℕ) where
  pub brought_draft : (d : Drafted) (h : Environment) → IsRead d [] → slice_get d.scope.units 0 ≡ Some name → Brings name d.scope h (scope_of d []) → IsJoined d (knowing d h)
  brought_draft d h r named b =
      let s : Scope = scope_of d [] in
      let known = brought_known name d.scope h s r.known refl named r.table b in
      let since = grows name d.scope h s r.known refl named r.table b in
      let blocks = brought_blocks name d.scope h s r.known refl named r.table b in
      let types : h.types.types ≡ d.scope.types.types ++ b.types.0 = b.types.1 in
      record {
        read = record {
          known = known;
          around = ap (λ (bs : List OpenBlock). open_from [] bs) blocks ∙ r.around;
          bottom = subst (λ (bs : List OpenBlock). IsBottom bs 0) (sym blocks) r.bottom;
          locals = tt;
          own = subst (λ (bs : List OpenBlock). EachIn (IsOwn d.routines) [] bs) (sym blocks) r.own;
          values = brought_values name d.scope h s r.known refl named r.table b stay r.values;
          table = b.table;
          globals = λ number one e. subst (λ (ts : List TypeDef). IsGlobalIn ts one) (sym types) (global_more d.scope.types.types b.types.0 one (r.globals number one e));
          methods = λ number place one ty method e owned is same. r.methods number place one ty method e owned (old_method ty place method (r.announced number one e).owner owned is types) same;
          announced = λ number one e. announced number one (r.announced number one e) since;
          blocks = λ number one done e has. block number done (r.blocks number one done e has) since;
        };
        since = since;
        named = brought_named name d.scope h s r.known refl named r.table b ∙ sym named;
      }
    where
      old_method : {o : Option TypeId} → (ty : TypeId) (place : ℕ) (method : Method) → IsOwner (scope_of d []) o → o ≡ Some ty → slice_get (methods_of (definition h.types.types ty)) place ≡ Some method → h.types.types ≡ d.scope.types.types ++ b.types.0
          → slice_get (methods_of (definition d.scope.types.types ty)) place ≡ Some method
      old_method {o} ty place method owner is m types =
          let object : IsOwner (scope_of d []) (Some ty) = subst (λ (x : Option TypeId). IsOwner (scope_of d []) x) is owner in
          let low = some_object d.scope.types.types ty.0 object in
          ap (λ (x : Option TypeDef). slice_get (methods_of x) place) (sym (ap (λ (ts : List TypeDef). definition ts ty) types ∙ slice_get-append d.scope.types.types b.types.0 ty.0 low)) ∙ m

      owner_kept : (o : Option TypeId) → IsOwner (scope_of d []) o → IsOwner (scope_of (knowing d h) []) o
      owner_kept None k = tt
      owner_kept (Some ty) k =
          let low = some_object d.scope.types.types ty.0 k in
          subst (λ (x : Option TypeDef). IsObject x) (sym (ap (λ (ts : List TypeDef). definition ts ty) b.types.1 ∙ slice_get-append d.scope.types.types b.types.0 ty.0 low)) k

      type_kept : (ty : TypeId) → IsInTable d.scope.types.types ty → IsInTable h.types.types ty
      type_kept ty k = subst (λ (ts : List TypeDef). IsInTable ts ty) (sym b.types.1) (in_more d.scope.types.types b.types.0 ty k)

      result_kept : (o : Option TypeId) → IsResultIn d.scope.types.types o → IsResultIn h.types.types o
      result_kept None k = tt
      result_kept (Some ty) k = type_kept ty k

      announced : (number : ℕ) (one : Numbered) → IsAnnounced (scope_of d []) number one.first → Extends (scope_of d []) (scope_of (knowing d h) []) → IsAnnounced (scope_of (knowing d h) []) number one.first
      announced number one it since = record {
        header = record {
          params = All-weaker (λ (param : Param). IsInTable d.scope.types.types param.ty) (λ (param : Param). IsInTable h.types.types param.ty) (λ param k. type_kept param.ty k) one.first.header.params it.header.params;
          result = result_kept one.first.header.result it.header.result;
        };
        function = it.function;
        owner = owner_kept one.first.owner it.owner;
        outer = it.outer;
      }

      block : (number : ℕ) (done : Done) → IsBlock (scope_of d []) number done → Extends (scope_of d []) (scope_of (knowing d h) []) → IsBlock (scope_of (knowing d h) []) number done
      block number done it since =
          let body = it.body in
          record {
            types = λ place ty e. type_kept ty (it.types place ty e);
            body = record { then = body.then; around = body.around; well = body.well; sound = body.sound; nested = body.nested; innermost = body.innermost; since = extends_on body.then (scope_of d []) (scope_of (knowing d h) []) body.since since };
          }

  pub brought_begun : (g h : Environment) → IsBegun name g → Brings name g h (scope_of (empty_draft g) []) → IsBegun name h
  brought_begun g h begun b =
      let s : Scope = scope_of (empty_draft g) [] in
      record {
        known = brought_known name g h s begun.known refl begun.named begun.table b;
        none = brought_blocks name g h s begun.known refl begun.named begun.table b ∙ begun.none;
        named = brought_named name g h s begun.known refl begun.named begun.table b;
        values = brought_values name g h s begun.known refl begun.named begun.table b stay begun.values;
        table = b.table;
      }
