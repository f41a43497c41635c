-- The example is well-typed.
use Rattle.std.proofs.Common.{◌≡◌, ℕ, zero, suc, ◌≤◌, ◌<◌, Bool, true, false, [], ◌∷◌, Some, None, refl, sym, ap, subst, ◌∙◌, arith}
use Rattle.std.proofs.Common.{inl, inr}
use Rattle.std.specs.Prelude.{All, slice_get, if◌then◌else◌}
use Rattle.std.proofs.lemmas.Option.{same_Some}
use Rattle.std.proofs.lemmas.Int.{ints}
use Rattle.std.proofs.lemmas.List.Elements.{All-nil, All-cons}
use Rattle.well_formed.specs.type_layout.declared.definitions.TypeId.{TypeId}
use Rattle.well_formed.specs.type_layout.declared.definitions.Method.{Method}
use Rattle.well_formed.specs.type_layout.declared.definitions.Origin.{Origin}
use Rattle.well_formed.specs.type_layout.declared.definitions.TypeDef.{TypeDef}
use Rattle.well_formed.specs.type_layout.declared.definitions.TypeDef.TheVariants as type
use Rattle.well_formed.specs.type_layout.declared.layout.Layout.{Layout}
use Rattle.well_formed.specs.type_layout.Words.{same_bytes}
use Rattle.well_formed.specs.type_layout.Table.{Table, IsObject}
use Rattle.well_formed.specs.typed_tree.declared.units.Routine.{Routine}
use Rattle.well_formed.specs.typed_tree.declared.units.Unit.{Unit as TypedUnit}
use Rattle.well_formed.specs.typed_tree.declared.units.Program.{Program}
use Rattle.well_formed.specs.typed_tree.Statements.{view_stmt}
use Rattle.well_formed.specs.typed_tree.type_fits.Fits.{IsStructured, definition}
use Rattle.well_formed.specs.Scopes.{Others}
use Rattle.well_formed.specs.WellFormed.{IsStatement, IsOfUnit, IsRoutine, IsWellFormed, scope_in}
use Rattle.store_typing.specs.tp_meaning.Trees.{Key}
use Rattle.store_typing.specs.tp_meaning.Programs.{Sort, sort_in}
use Rattle.store_typing.specs.tp_meaning.ShownCalls.{Boxed}
use Rattle.store_typing.specs.types.Declared.{declared}
use Rattle.store_typing.specs.types.Agreement.{IsUnit, IsKnown, IsShort, IsLawful}
use Rattle.store_typing.specs.stores.Places.{Shared}
use Rattle.program_typing.specs.lvalues.Frames.{IsGlobalOf, NamesGlobal}
use Rattle.store_typing.proofs.units.Single.{single_agrees}
use Rattle.program_typing.specs.programs.Statements.{RefersStatement}
use Rattle.program_typing.specs.programs.WellTyped.{IsSoundRoutine, slot_method, HasFirst, IsSoundUnit, IsWellTyped}
use Rattle.program_typing.specs.programs.Example.{integer, table, counter, main_part, counting, counting_program}

pub one_element : {X : Type 0} (P : X → Type 0) (x : X) → P x → All P (x ∷ [])
one_element P x h = All-cons P x [] h (All-nil P)

-- it supposes nothing of others
abbrev pub no_others : Others
no_others = record { units = []; globals = []; routines = [] }

-- ---- the table

short : (k : ℕ) (one : TypeDef) → slice_get table.types k ≡ Some one → IsShort one
short zero one e = subst IsShort (same_Some _ one e) tt
short (suc k) one e = absurd cc

targets : (k : ℕ) (target : TypeId) → slice_get table.types k ≡ Some (type.PointerTo target) → target.0 < 1
targets zero target e = cc
targets (suc k) target e = absurd cc

lawful : IsLawful table
lawful = record {
  well_formed = record {
    defined = ((omega (arith, ints), omega (arith, ints), omega (arith, ints)), tt);
    fits = one_element (λ (layout : Layout). layout.size ≤ 65520) _ (omega arith);
    origins = refl;
    known = one_element (λ (origin : Origin). origin.unit < 1) _ (omega arith);
    few = omega arith;
    few_units = omega arith;
  };
  short = short;
  targets = targets;
}

one_origin : (ty : TypeId) (key : Key) → declared table ty ≡ Some key → ty.0 ≡ 0
one_origin ty key e = by ty.0 e where
  by : (n : ℕ) → declared table (record { 0 = n }) ≡ Some key → n ≡ 0
  by zero e = refl
  by (suc n) e = absurd cc

apart : (a b : TypeId) (key : Key) → declared table a ≡ Some key → declared table b ≡ Some key → a ≡ b
apart a b key ea eb = ap (λ (n : ℕ). record { 0 = n }) (one_origin a key ea ∙ sym (one_origin b key eb))

no_object : (ty : TypeId) → IsObject (slice_get table.types ty.0) → ⊥
no_object ty h = by ty.0 h where
  by : (n : ℕ) → IsObject (slice_get table.types n) → ⊥
  by zero h = h
  by (suc n) h = h

no_method : (ty : TypeId) (slot : ℕ) (method : Method) → slot_method (record { table = table; ty = ty }) slot ≡ Some method → ⊥
no_method ty slot method e = by ty.0 e where
  by : (n : ℕ) → slot_method (record { table = table; ty = record { 0 = n } }) slot ≡ Some method → ⊥
  by zero e = cc
  by (suc n) e = cc

-- ---- the unit

module _ (b : Boxed) where
  unit : TypedUnit
  unit = counting b

  program : Program
  program = counting_program b

  only : (other : TypedUnit) → IsUnit (counting_program b) other → other ≡ counting b
  only other is = by (same_bytes other.name (counting b).name) is where
    by : (test : Bool) → (if test then Some (counting b) else None) ≡ Some other → other ≡ counting b
    by true e = sym (same_Some (counting b) other e)
    by false e = absurd cc

  pub simple : IsStructured (definition table.types integer) → ⊥
  simple (inl h) = h
  simple (inr (inl h)) = h
  simple (inr (inr h)) = h

  pub body : IsStatement (scope_in no_others (counting b) 0) (view_stmt (main_part b).body)
  body = record {
    ty = integer;
    place = (tt, refl);
    simple = simple;
    typed = ((tt, (tt, refl)), refl, inl ((tt, refl), (tt, refl)), tt);
    takes = record { ordinal = tt; same = refl };
  }

  pub routine_typed : IsRoutine no_others (counting b) 0 (main_part b)
  routine_typed = record {
    params = All-nil _;
    result = tt;
    function = λ e. absurd cc;
    owner = tt;
    outer = tt;
    locals = All-nil _;
    body = body;
  }

  pub the_routine : (P : ℕ → Routine → Type 0) → P 0 (main_part b) → (number : ℕ) (routine : Routine) → slice_get (counting b).routines number ≡ Some routine → P number routine
  the_routine P h zero routine e = subst (P 0) (same_Some (main_part b) routine e) h
  the_routine P h (suc number) routine e = absurd cc

  pub typed : IsWellFormed (counting b)
  typed = record {
    others = no_others;
    named = refl;
    globals = one_element (IsOfUnit (counting b)) _ (record { has = tt; first = tt });
    routines = the_routine (IsRoutine no_others (counting b)) routine_typed;
    items = All-nil _;
    initial = (main_part b, refl, record { kind = refl; bare = refl; far = refl; free = refl; outermost = refl });
  }

  pub supposes_nothing : typed.others ≡ no_others
  unfolding typed
  supposes_nothing = refl

  known : IsKnown (counting_program b) (sort_in (counting b) integer)
  known = record { unit = counting b; listed = refl; table = refl; one = _; is = refl }

  names : (ty : TypeId) → integer ≡ ty → NamesGlobal (counting_program b) (counting b) counter ty
  names ty e at = subst (IsGlobalOf (counting_program b) (counting b) 0 0) e
      (record { key = record { unit = (counting b).name; number = 0 }; names = refl; sort = sort_in (counting b) integer; is = refl; seen = Shared known known refl })

  -- however the body is typed
  body_refers : (others : Others) (h : IsStatement (scope_in others (counting b) 0) (view_stmt (main_part b).body))
      → RefersStatement (record { program = counting_program b; unit = counting b; number = 0 }) (scope_in others (counting b) 0) (view_stmt (main_part b).body) h
  body_refers others h = (names h.ty (same_Some integer h.ty h.place.1), (names integer refl, tt))

  abbrev AnyRefers : ℕ → Routine → Type 0
  AnyRefers number routine = (others : Others) (h : IsStatement (scope_in others (counting b) number) (view_stmt routine.body))
      → RefersStatement (record { program = counting_program b; unit = counting b; number = number }) (scope_in others (counting b) number) (view_stmt routine.body) h

  sound_routine : IsSoundRoutine (counting b) (main_part b)
  sound_routine = record { few = omega arith; method = λ e. refl; class = λ e. tt }

  sound_unit : IsSoundUnit (counting_program b) (counting b)
  sound_unit = record {
    own = refl;
    well_formed = typed;
    globals = one_element (HasFirst (counting b)) _ tt;
    routines = the_routine (λ number routine. IsSoundRoutine (counting b) routine) sound_routine;
    refers = λ number routine is. the_routine AnyRefers body_refers number routine is typed.others (typed.routines number routine is).body;
  }

  the_table : (sort : Sort) → IsKnown (counting_program b) sort → sort.table ≡ table
  the_table sort k = k.table ∙ ap (λ (u : TypedUnit). u.types) (only k.unit k.listed)

  no_object_known : (sort : Sort) → IsKnown (counting_program b) sort → IsObject (definition sort.table.types sort.ty) → ⊥
  no_object_known sort k h = no_object sort.ty (subst (λ (t : Table). IsObject (slice_get t.types sort.ty.0)) (the_table sort k) h)

  no_method_known : (sort : Sort) (slot : ℕ) (method : Method) → IsKnown (counting_program b) sort → slot_method sort slot ≡ Some method → ⊥
  no_method_known sort slot method k e =
      no_method sort.ty slot method (subst (λ (t : Table). slot_method (record { table = t; ty = sort.ty }) slot ≡ Some method) (the_table sort k) e)

  pub well_typed : IsWellTyped (counting_program b)
  well_typed = record {
    listed = one_element (IsUnit (counting_program b)) (counting b) refl;
    units = λ other is. subst (IsSoundUnit (counting_program b)) (sym (only other is)) sound_unit;
    agreed = single_agrees (counting_program b) (counting b) (record { units = refl; lawful = lawful; apart = apart });
    classes = record { classes = λ sort class k object e. absurd (no_object_known sort k object) };
    methods = record { methods = λ own seen class slot method key ko ks kc os oc e i. absurd (no_method_known seen slot method ks e) };
  }

pub can_be_met : (b : Boxed) → IsWellTyped (counting_program b)
can_be_met b = well_typed b
