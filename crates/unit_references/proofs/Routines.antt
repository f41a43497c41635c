-- Globals and routines that trees of a unit name.
use Rattle.std.proofs.Common.{◌≡◌, ◌⊎◌, inl, inr, ℕ, zero, suc, Bool, true, false, List, [], ◌∷◌, map, Some, None, is_some, refl, sym, ap, subst, ◌∙◌, arith}
use Rattle.std.specs.Prelude.{Option, Ok, slice_get, option_and_then, if◌then◌else◌}
use Rattle.std.specs.Option.{option_map}
use Rattle.std.proofs.lemmas.Option.{same_Some}
use Rattle.type_soundness.specs.type_layout.declared.definitions.TypeId.{TypeId}
use Rattle.type_soundness.specs.type_layout.declared.definitions.RoutineId.{RoutineId}
use Rattle.type_soundness.specs.type_layout.declared.definitions.Header.{Header}
use Rattle.type_soundness.specs.type_layout.declared.definitions.TypeDef.{TypeDef}
use Rattle.type_soundness.specs.typed_tree.declared.expressions.Variable.{Variable}
use Rattle.type_soundness.specs.typed_tree.declared.units.Global.{Global}
use Rattle.type_soundness.specs.typed_tree.declared.units.Routine.{Routine}
use Rattle.type_soundness.specs.typed_tree.declared.units.Unit.{Unit as TypedUnit}
use Rattle.type_soundness.specs.typed_tree.declared.units.Program.{Program}
use Rattle.type_soundness.specs.typed_tree.type_fits.Fits.{definition, IsSome}
use Rattle.type_soundness.specs.well_formed.Scopes.{Prototype, prototype, Scope, HasVariable, IsVariableAt, IsGlobal, IsRoutineAt, HasRoutine, IsWithin, with_outer, around_from}
use Rattle.type_soundness.specs.well_formed.Scopes.{IsOfSource as IsSourced}
use Rattle.type_soundness.specs.well_formed.Typed.{IsRoutineValue}
use Rattle.type_soundness.specs.tp_meaning.Trees.{Key}
use Rattle.type_soundness.specs.tp_meaning.Found.{◌>>=◌, known}
use Rattle.type_soundness.specs.tp_meaning.Programs.{sort_in, key_of, routine_key, unit_named, is_overlay, global_in, global_sort, integer_sort}
use Rattle.type_soundness.specs.tp_meaning.Activations.{Callee, callee_of}
use Rattle.type_soundness.specs.store_typing.types.Declared.{declared_header}
use Rattle.type_soundness.specs.store_typing.types.Agreement.{IsUnit, IsKnown}
use Rattle.type_soundness.specs.store_typing.stores.Places.{Shared}
use Rattle.type_soundness.proofs.store_typing_proofs.stores.Seen.{header_same}
use Rattle.type_soundness.specs.program_typing.lvalues.Frames.{IsGlobalOf, NamesGlobal}
use Rattle.type_soundness.specs.program_typing.calls.Laws.{IsRound, Here, Outside}
use Rattle.type_soundness.specs.program_typing.programs.Outcomes.{world}
use Rattle.type_soundness.specs.program_typing.programs.References.{Site, IsVisible, Names, CallsNumber, NamesCode}
use Rattle.unit_references.specs.Held.{declared_owner, IsOfSource, IsOfOverlay, IsRoutineHeld}
use Rattle.unit_references.specs.Units.{HasSoundUnits}
use Rattle.unit_references.specs.Laws.{site_in, scope_at}

-- a type of a unit's table
known_type : (program : Program) (unit : TypedUnit) → IsUnit program unit → (ty : TypeId) → IsSome (definition unit.types.types ty) → IsKnown program (sort_in unit ty)
known_type program unit listed ty some = by (definition unit.types.types ty) refl some where
  by : (o : Option TypeDef) → definition unit.types.types ty ≡ o → IsSome o → IsKnown program (sort_in unit ty)
  by None e some = absurd some
  by (Some one) e some = record { unit = unit; listed = listed; table = refl; one = one; is = e }

get_mapped : {X Y : Type 0} (f : X → Y) (xs : List X) (n : ℕ) (y : Y) → slice_get (map f xs) n ≡ Some y → (x : X) × (slice_get xs n ≡ Some x) × (f x ≡ y)
get_mapped f [] n y e = absurd cc
get_mapped f (x ∷ xs) zero y e = (x, refl, same_Some (f x) y e)
get_mapped f (x ∷ xs) (suc n) y e = get_mapped f xs n y e

-- ---- routines that are round another

none_is : {A : Type 0} (place : ℕ) (one : A) → (let l : List A = [] in slice_get l place) ≡ Some one → ⊥
none_is zero one e = cc
none_is (suc place) one e = cc

-- what is among the routines round one with a number is round it
is_round : (routines : List Routine) (most : ℕ) (from : Option ℕ) (outer place : ℕ) → slice_get (around_from routines most from) place ≡ Some outer → (number : ℕ) → from ≡ Some number → IsRound routines outer number
is_round routines zero from outer place e number is = absurd (none_is place outer e)
is_round routines (suc most) None outer place e number is = absurd cc
is_round routines (suc most) (Some n) outer place e number is =
    subst (IsRound routines outer) (same_Some n number is) (by (slice_get routines n) refl place e (λ from k f m same. is_round routines most from outer k f m same))
  where
    by : (o : Option Routine) → slice_get routines n ≡ o → (place : ℕ) → slice_get (with_outer n (λ outer. around_from routines most outer) o) place ≡ Some outer
        → ((from : Option ℕ) (k : ℕ) → slice_get (around_from routines most from) k ≡ Some outer → (m : ℕ) → from ≡ Some m → IsRound routines outer m) → IsRound routines outer n
    by None at place f more = absurd (none_is place outer f)
    by (Some routine) at zero f more = subst (λ (k : ℕ). IsRound routines k n) (same_Some n outer f) Here
    by (Some routine) at (suc place) f more = further routine.outer refl
      where
        further : (o : Option ℕ) → routine.outer ≡ o → IsRound routines outer n
        further None is = absurd (no_rest most place (ap (λ (o : Option ℕ). slice_get (around_from routines most o) place) (sym is) ∙ f))
          where
            no_rest : (most place : ℕ) → slice_get (around_from routines most None) place ≡ Some outer → ⊥
            no_rest zero place e = none_is place outer e
            no_rest (suc most) place e = none_is place outer e
        further (Some m) is = Outside n m routine at is (more routine.outer place f m is)

-- ---- what a number leads to

-- a routine of a source, as it is seen from a site
pub record Leads (site : Site) (around : List ℕ) (routine : RoutineId) (seen : Prototype) : Type 0 where
  pub key : Key
  pub is : routine_key site.unit routine ≡ Some key
  pub own : is_overlay key.unit ≡ false
  pub callee : Callee
  pub found : callee_of site.program key ≡ Ok callee
  pub listed : IsUnit site.program callee.unit
  pub header : declared_header site.unit.types seen.header ≡ declared_header callee.unit.types callee.routine.header
  pub owner : declared_owner site.unit.types seen.owner ≡ declared_owner callee.unit.types callee.routine.owner
  pub visible : (seen.owner ≡ None → IsWithin around seen.outer) → IsVisible site callee.unit callee.routine.outer
  pub outermost : seen.outer ≡ None → callee.routine.outer ≡ None

-- one of the unit Overlay
pub record Overlaid (site : Site) (routine : RoutineId) (seen : Prototype) : Type 0 where
  pub key : Key
  pub is : routine_key site.unit routine ≡ Some key
  pub one : IsOfOverlay site.unit key seen

-- a routine that is as asked, and what its number leads to
pub record Found (Asked : Prototype → Type 0) (site : Site) (around : List ℕ) (routine : RoutineId) : Type 0 where
  pub seen : Prototype
  pub asked : Asked seen
  pub leads : Leads site around routine seen ⊎ Overlaid site routine seen

module _ (program : Program) (sound : HasSoundUnits program) (unit : TypedUnit) (listed : IsUnit program unit) (number : ℕ) (withs : List TypeId) where
  abbrev site : Site
  site = site_in program unit number

  abbrev scope : Scope
  scope = scope_at program unit (sound.supported unit listed) number withs

  abbrev key_in : ℕ → Key
  key_in n = record { unit = unit.name; number = n }

  named : is_overlay unit.name ≡ false
  named = let parts = sound.parts unit listed in parts.own

  -- what the unit names as its own
  key_found : (n : ℕ) → key_of unit 0 n ≡ Some (key_in n)
  key_found n = let supported = sound.supported unit listed in let well = supported.formed in ap (option_map (λ name. record { unit = name; number = n })) well.named

  -- ---- globals

  global_found : (n : ℕ) (ty : TypeId) → slice_get (map (λ (global : Global). global.ty) unit.globals) n ≡ Some ty → global_sort program (key_in n) ≡ Some (sort_in unit ty)
  global_found n ty e =
      let g = get_mapped (λ (global : Global). global.ty) unit.globals n ty e in
      ap (λ (b : Bool). if b then Some integer_sort else option_and_then (global_in n) (unit_named program unit.name)) named
      ∙ ap (option_and_then (global_in n)) listed
      ∙ ap (option_map (λ (global : Global). sort_in unit global.ty)) g.1
      ∙ ap (λ (t : TypeId). Some (sort_in unit t)) g.2

  global_at : (place n : ℕ) (ty : TypeId) → IsSome (definition unit.types.types ty) → IsGlobal scope place n ty → IsGlobalOf program unit place n ty
  global_at zero n ty some h =
      let known = known_type program unit listed ty some in
      record { key = key_in n; names = key_found n; sort = sort_in unit ty; is = global_found n ty h; seen = Shared known known refl }
  global_at (suc place) n ty some h =
      let supported = sound.supported unit listed in
      let held = supported.held in
      held.globals (record { unit = suc place; number = n; ty = ty }) h (omega arith)

  pub names_global : (variable : Variable) (ty : TypeId) → HasVariable scope variable ty → NamesGlobal program unit variable ty
  names_global variable ty h level = global_at variable.unit variable.number ty h.0 (subst (λ (l : ℕ). IsVariableAt scope l variable.unit variable.number ty) level h.1)

  -- ---- routines

  abbrev callee_at : ℕ → Routine → Callee
  callee_at n one = record { unit = unit; number = n; routine = one }

  callee_found : (n : ℕ) (one : Routine) → slice_get unit.routines n ≡ Some one → callee_of program (key_in n) ≡ Ok (callee_at n one)
  callee_found n one e =
      ap (λ (u : Option TypedUnit). known u >>= λ unit. known (slice_get unit.routines n) >>= λ routine. Ok (record { unit = unit; number = n; routine = routine })) listed
      ∙ ap (λ (r : Option Routine). known r >>= λ routine. Ok (callee_at n routine)) e

  within_visible : (outer : Option ℕ) → IsWithin scope.around outer → IsVisible site unit outer
  within_visible None h = tt
  within_visible (Some outer) h = (refl, is_round unit.routines (suc number) (Some number) outer h.0 h.1 number refl)

  -- a method is declared in no other routine
  own_visible : (n : ℕ) (one : Routine) → slice_get unit.routines n ≡ Some one → (one.owner ≡ None → IsWithin scope.around one.outer) → IsVisible site unit one.outer
  own_visible n one e within = by one.owner refl
    where
      by : (o : Option TypeId) → one.owner ≡ o → IsVisible site unit one.outer
      by None is = within_visible one.outer (within is)
      by (Some owner) is =
          let parts = sound.parts unit listed in
          let routine = parts.routines n one e in
          subst (IsVisible site unit) (sym (routine.method (ap (λ (o : Option TypeId). is_some o) is))) tt

  own_leads : (n : ℕ) (one : Routine) → slice_get unit.routines n ≡ Some one → Leads site scope.around (record { unit = 0; number = n }) (prototype one)
  own_leads n one e = record {
    key = key_in n;
    is = key_found n;
    own = named;
    callee = callee_at n one;
    found = callee_found n one e;
    listed = listed;
    header = refl;
    owner = refl;
    visible = λ within. own_visible n one e within;
    outermost = λ none. none;
  }

  other_leads : (routine : RoutineId) (seen : Prototype) (h : IsRoutineHeld program unit (record { routine = routine; seen = seen })) → Leads site scope.around routine seen ⊎ Overlaid site routine seen
  other_leads routine seen h = by h.kept
    where
      by : IsOfSource program unit h.key seen ⊎ IsOfOverlay unit h.key seen → Leads site scope.around routine seen ⊎ Overlaid site routine seen
      by (inl k) = inl (record {
        key = h.key;
        is = h.is;
        own = k.own;
        callee = k.callee;
        found = k.found;
        listed = k.listed;
        header = k.header;
        owner = k.owner;
        visible = λ within. subst (IsVisible site k.callee.unit) (sym k.outermost) tt;
        outermost = λ none. k.outermost;
      })
      by (inr k) = inr (record { key = h.key; is = h.is; one = k })

  found_at : (Asked : Prototype → Type 0) (place n : ℕ) → IsRoutineAt Asked scope place n → Found Asked site scope.around (record { unit = place; number = n })
  found_at Asked zero n h = record { seen = prototype h.0; asked = h.2; leads = inl (own_leads n h.0 h.1) }
  found_at Asked (suc place) n h =
      let routine : RoutineId = record { unit = suc place; number = n } in
      let supported = sound.supported unit listed in
      let held = supported.held in
      record { seen = h.0; asked = h.2; leads = other_leads routine h.0 (held.routines (record { routine = routine; seen = h.0 }) h.1 (omega arith)) }

  pub found : (Asked : Prototype → Type 0) (routine : RoutineId) → HasRoutine Asked scope routine → Found Asked site scope.around routine
  found Asked routine h = found_at Asked routine.unit routine.number h

  -- ---- routines as values

  -- the unit of a source is not Overlay
  sourced_at : (place n : ℕ) (key : Key) → IsSourced scope place → key_of unit place n ≡ Some key → is_overlay key.unit ≡ false
  sourced_at zero n key h e = ap (λ (k : Key). is_overlay k.unit) (sym (same_Some (key_in n) key (sym (key_found n) ∙ e))) ∙ named
  sourced_at (suc place) n key h e =
      let supported = sound.supported unit listed in
      let held = supported.held in
      let is : slice_get unit.names (suc place) ≡ Some h.0 = held.units (record { number = suc place; name = h.0 }) h.1 in
      let here : Key = record { unit = h.0; number = n } in
      let same : here ≡ key = same_Some here key (sym (ap (option_map (λ name. record { unit = name; number = n })) is) ∙ e) in
      ap (λ (k : Key). is_overlay k.unit) (sym same) ∙ h.2

  code_by : (routine : RoutineId) (header : Header) (f : Found (IsRoutineValue header) site scope.around routine) → IsSourced scope routine.unit
      → Leads site scope.around routine f.seen ⊎ Overlaid site routine f.seen → NamesCode site routine header
  code_by routine header f source (inl l) =
      let value = f.asked in
      record {
        key = l.key;
        is = l.is;
        code = record {
          callee = l.callee;
          found = l.found;
          listed = l.listed;
          same = header_same (world program []) sound.agreed unit.types header f.seen.header value.same ∙ l.header;
          outermost = l.outermost value.outermost;
          free = free l.callee.routine.owner (ap (declared_owner unit.types) (sym value.free) ∙ l.owner);
        };
      }
    where
      free : (o : Option TypeId) → None ≡ declared_owner l.callee.unit.types o → o ≡ None
      free None e = refl
      free (Some owner) e = absurd cc
  code_by routine header f source (inr o) =
      let one = o.one in
      let overlay : is_overlay o.key.unit ≡ true = one.own in
      let other : is_overlay o.key.unit ≡ false = sourced_at routine.unit routine.number o.key source o.is in
      absurd cc

  pub code_named : (routine : RoutineId) (header : Header) → HasRoutine (IsRoutineValue header) scope routine → IsSourced scope routine.unit → NamesCode site routine header
  code_named routine header h source = let f = found (IsRoutineValue header) routine h in code_by routine header f source f.leads

-- ---- calls

-- what is seen of a routine that is called
pub names_of : (here : Site) (around : List ℕ) (routine : RoutineId) (seen : Prototype) (l : Leads here around routine seen) → (seen.owner ≡ None → IsWithin around seen.outer) → Names here l.key seen.header l.callee
names_of here around routine seen l within = record { found = l.found; listed = l.listed; visible = l.visible within; same = l.header }

pub calls_of : (I : Callee → Type 0) (T : Header → Type 0) (here : Site) (around : List ℕ) (routine : RoutineId) (seen : Prototype) (l : Leads here around routine seen) → (seen.owner ≡ None → IsWithin around seen.outer)
    → I l.callee → T seen.header → CallsNumber here routine I T
calls_of I T here around routine seen l within instance takes = record {
  key = l.key;
  is = l.is;
  own = l.own;
  calls = record { header = seen.header; callee = l.callee; names = names_of here around routine seen l within; instance = instance; takes = takes };
}
