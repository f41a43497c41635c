-- Each method of a unit has a routine among those that are numbered, as types and routines are added and blocks are read.
use Rattle.std.proofs.Common.{◌≡◌, ◌∙◌, inl, inr, ℕ, ◌+◌, ◌<◌, ◌≤◌, List, [], ◌∷◌, ◌++◌, length, length-append, Option, Some, None, refl, sym, ap, subst, arith}
use Rattle.std.specs.Prelude.{slice_get}
use Rattle.std.proofs.lemmas.Option.{none-some, slice_get_within}
use Rattle.unit_references.specs.type_layout.declared.definitions.TypeId.{TypeId}
use Rattle.unit_references.specs.type_layout.declared.definitions.Method.{Method}
use Rattle.unit_references.specs.type_layout.declared.definitions.TypeDef.{TypeDef}
use Rattle.unit_references.specs.type_layout.Table.{Table}
use Rattle.unit_references.proofs.type_layout_proofs.Local.{slice_get-append}
use Rattle.unit_references.specs.typed_tree.type_fits.Fits.{definition}
use Rattle.units_well_formed.specs.scopes.Members.{narrow}
use Rattle.units_well_formed.specs.scopes.Environment.{Environment}
use Rattle.units_well_formed.specs.call_rules.method_rules.Slots.{methods_of}
use Rattle.units_well_formed.specs.tp_check_decl.routines.Drafts.{Done, Numbered, finishing}
use Rattle.units_well_formed.specs.tp_check_decl.routines.Methods.{method_announced, awaiting}
use Rattle.units_well_formed.proofs.units.Below.{finished_at, finished_kept, snoc_at, Awaits, joined_at, behind_at, some_object}
use Rattle.shared_types_agree.proofs.methods.Answers.{low_or_not}

-- the methods that a type of a table declares
abbrev pub in_class : Table → TypeId → List Method
in_class table class = methods_of (definition table.types class)

-- the routine of a method, by its place among those that are numbered
pub record IsRoutineOf (routines : List Numbered) (class : TypeId) (method : Method) : Type 0 where
  pub place : ℕ
  pub one : Numbered
  pub is : slice_get routines place ≡ Some one
  pub header : one.first.header ≡ method.header
  pub owner : one.first.owner ≡ Some class
  pub number_is : method.routine.number ≡ narrow place

-- a type of the table with methods of the unit alone
pub record IsOwnClass (name : List ℕ) (table : Table) (class : TypeId) : Type 0 where
  pub within : class.0 < length table.types
  pub methods : (place : ℕ) (method : Method) → slice_get (in_class table class) place ≡ Some method → slice_get table.units method.routine.unit ≡ Some name

-- Each method is of a unit that the table names, and those of the unit with the name have their routines; routines of methods are for
-- instances of its own types; and what has its block has a number of 32 bits.
pub record HaveRoutines (name : List ℕ) (table : Table) (routines : List Numbered) : Type 0 where
  pub placed : (class : TypeId) (place : ℕ) (method : Method) → slice_get (in_class table class) place ≡ Some method → method.routine.unit < length table.units
  pub methods : (class : TypeId) (place : ℕ) (method : Method) → slice_get (in_class table class) place ≡ Some method → slice_get table.units method.routine.unit ≡ Some name → IsRoutineOf routines class method
  pub owners : (place : ℕ) (one : Numbered) (class : TypeId) → slice_get routines place ≡ Some one → one.first.owner ≡ Some class → IsOwnClass name table class
  pub few : (place : ℕ) (one : Numbered) (done : Done) → slice_get routines place ≡ Some one → one.done ≡ Some done → place ≤ 4294967295

-- behind further routines a method has the same
routine_on : (routines news : List Numbered) (class : TypeId) (method : Method) → IsRoutineOf routines class method → IsRoutineOf (routines ++ news) class method
routine_on routines news class method r = record {
  place = r.place;
  one = r.one;
  is = slice_get-append routines news r.place (slice_get_within routines r.place r.one r.is) ∙ r.is;
  header = r.header;
  owner = r.owner;
  number_is = r.number_is;
}

-- ---- further types and units

-- types and units behind those of a table
pub record IsBehind (table longer : Table) : Type 0 where
  pub types : List TypeDef
  pub has_types : longer.types ≡ table.types ++ types
  pub units : List (List ℕ)
  pub has_units : longer.units ≡ table.units ++ units

module _ (table longer : Table) (b : IsBehind table longer) where
  pub same_class : (class : TypeId) → class.0 < length table.types → in_class longer class ≡ in_class table class
  same_class class low = ap (λ (types : List TypeDef). methods_of (definition types class)) b.has_types ∙ ap (λ (o : Option TypeDef). methods_of o) (slice_get-append table.types b.types class.0 low)

  pub same_unit : (unit : ℕ) → unit < length table.units → slice_get longer.units unit ≡ slice_get table.units unit
  same_unit unit low = ap (λ (units : List (List ℕ)). slice_get units unit) b.has_units ∙ slice_get-append table.units b.units unit low

  more_types : length table.types ≤ length longer.types
  more_types = let count = ap (λ (types : List TypeDef). length types) b.has_types ∙ length-append table.types b.types in omega (arith, count)

  more_units : length table.units ≤ length longer.units
  more_units = let count = ap (λ (units : List (List ℕ)). length units) b.has_units ∙ length-append table.units b.units in omega (arith, count)

  pub class_on : (name : List ℕ) (class : TypeId) → IsOwnClass name table class → IsOwnClass name longer class
  class_on name class own = record {
    within = (let low = own.within in let more = more_types in omega (arith, low, more));
    methods = λ place method at.
        let here = own.methods place method (ap (λ (ms : List Method). slice_get ms place) (sym (same_class class own.within)) ∙ at) in
        same_unit method.routine.unit (slice_get_within table.units method.routine.unit name here) ∙ here;
  }

  -- ---- the methods of all types, by those that there were and the further ones

  module _ (placed : (class : TypeId) (place : ℕ) (method : Method) → slice_get (in_class table class) place ≡ Some method → method.routine.unit < length table.units) where
    old : (class : TypeId) (place : ℕ) (method : Method) → class.0 < length table.types → slice_get (in_class longer class) place ≡ Some method → slice_get (in_class table class) place ≡ Some method
    old class place method low at = ap (λ (ms : List Method). slice_get ms place) (sym (same_class class low)) ∙ at

    pub all_placed : ((class : TypeId) (place : ℕ) (method : Method) → length table.types ≤ class.0 → slice_get (in_class longer class) place ≡ Some method → method.routine.unit < length longer.units)
        → (class : TypeId) (place : ℕ) (method : Method) → slice_get (in_class longer class) place ≡ Some method → method.routine.unit < length longer.units
    all_placed new class place method at = elim (low_or_not class.0 (length table.types)) [
      | inl low ↦ (let was = placed class place method (old class place method low at) in let more = more_units in omega (arith, was, more))
      | inr high ↦ new class place method high at
    ]

    pub all_methods : (name : List ℕ) (P : TypeId → Method → Type 0)
        → ((class : TypeId) (place : ℕ) (method : Method) → slice_get (in_class table class) place ≡ Some method → slice_get table.units method.routine.unit ≡ Some name → P class method)
        → ((class : TypeId) (place : ℕ) (method : Method) → length table.types ≤ class.0 → slice_get (in_class longer class) place ≡ Some method → slice_get longer.units method.routine.unit ≡ Some name → P class method)
        → (class : TypeId) (place : ℕ) (method : Method) → slice_get (in_class longer class) place ≡ Some method → slice_get longer.units method.routine.unit ≡ Some name → P class method
    all_methods name P first new class place method at named = elim (low_or_not class.0 (length table.types)) [
      | inl low ↦
          let was = old class place method low at in
          first class place method was (sym (same_unit method.routine.unit (placed class place method was)) ∙ named)
      | inr high ↦ new class place method high at named
    ]

-- ---- further routines

-- a routine that is no method's, and whose block is still to come
pub free_on : (name : List ℕ) (table : Table) (routines : List Numbered) (one : Numbered) → one.first.owner ≡ None → one.done ≡ None → HaveRoutines name table routines → HaveRoutines name table (routines ++ one ∷ [])
free_on name table routines one free left h = record {
  placed = h.placed;
  methods = λ class place method at named. routine_on routines (one ∷ []) class method (h.methods class place method at named);
  owners = λ place other class at owned. elim (snoc_at routines one place other at) [
    | inl old ↦ h.owners place other class old owned
    | inr new ↦ absurd (none-some class (sym free ∙ ap (λ (x : Numbered). x.first.owner) new.1 ∙ owned))
  ];
  few = λ place other done at has. elim (snoc_at routines one place other at) [
    | inl old ↦ h.few place other done old has
    | inr new ↦ absurd (none-some done (sym left ∙ ap (λ (x : Numbered). x.done) new.1 ∙ has))
  ];
}

same_owner : (class other : TypeId) → Some class ≡ Some other → class ≡ other
same_owner class other e = cc

-- the routines that await the methods of the types of a part
module _ (name : List ℕ) (g h : Environment) (routines news : List Numbered) (a : Awaits name (length routines) g h news) where
  behind : IsBehind g.types h.types
  behind = record { types = a.types; has_types = a.has_types; units = a.units; has_units = a.has_units }

  awaited : (class : TypeId) (place : ℕ) (method : Method) → length g.types.types ≤ class.0 → slice_get (in_class h.types class) place ≡ Some method → IsRoutineOf (routines ++ news) class method
  awaited class place method new at =
      let await = (a.each class place method new at).0 in
      record {
        place = length routines + await.place;
        one = awaiting (method_announced class await.at method);
        is = behind_at routines news await.place ∙ await.is;
        header = refl;
        owner = refl;
        number_is = await.number_is;
      }

  -- those that await methods are for instances of the new types
  owner_new : (place : ℕ) (one : Numbered) (class : TypeId) → slice_get news place ≡ Some one → one.first.owner ≡ Some class → IsOwnClass name h.types class
  owner_new place one class at owned =
      let it = a.only place one at in
      let same : it.class ≡ class = same_owner it.class class (sym (ap (λ (x : Numbered). x.first.owner) it.is) ∙ owned) in
      subst (λ (c : TypeId). IsOwnClass name h.types c) same
      (record { within = some_object h.types.types it.class.0 it.object; methods = λ place method at. (a.each it.class place method it.new at).1 })

  pub awaits_on : HaveRoutines name g.types routines → HaveRoutines name h.types (routines ++ news)
  awaits_on have = record { placed = placed; methods = methods; owners = owners; few = few }
    where
      placed : (class : TypeId) (place : ℕ) (method : Method) → slice_get (in_class h.types class) place ≡ Some method → method.routine.unit < length h.types.units
      placed = all_placed g.types h.types behind have.placed (λ class place method new at. slice_get_within h.types.units method.routine.unit name (a.each class place method new at).1)

      methods : (class : TypeId) (place : ℕ) (method : Method) → slice_get (in_class h.types class) place ≡ Some method → slice_get h.types.units method.routine.unit ≡ Some name → IsRoutineOf (routines ++ news) class method
      methods =
          all_methods g.types h.types behind have.placed name (IsRoutineOf (routines ++ news)) (λ class place method at named. routine_on routines news class method (have.methods class place method at named))
          (λ class place method new at named. awaited class place method new at)

      owners : (place : ℕ) (one : Numbered) (class : TypeId) → slice_get (routines ++ news) place ≡ Some one → one.first.owner ≡ Some class → IsOwnClass name h.types class
      owners place one class at owned = elim (joined_at routines news place one at) [
        | inl old ↦ class_on g.types h.types behind name class (have.owners place one class old owned)
        | inr new ↦ owner_new new.0 one class new.2 owned
      ]

      few : (place : ℕ) (one : Numbered) (done : Done) → slice_get (routines ++ news) place ≡ Some one → one.done ≡ Some done → place ≤ 4294967295
      few place one done at has = elim (joined_at routines news place one at) [
        | inl old ↦ have.few place one done old has
        | inr new ↦ absurd (none-some done (ap (λ (x : Numbered). x.done) (sym (a.only new.0 one new.2).is) ∙ has))
      ]

-- ---- a block that was read

pub finished_on : (name : List ℕ) (table : Table) (routines : List Numbered) (number : ℕ) (done : Done) → number ≤ 4294967295 → HaveRoutines name table routines
    → HaveRoutines name table (finishing number done routines)
finished_on name table routines number done low h = record { placed = h.placed; methods = methods; owners = owners; few = few }
  where
    methods : (class : TypeId) (place : ℕ) (method : Method) → slice_get (in_class table class) place ≡ Some method → slice_get table.units method.routine.unit ≡ Some name
        → IsRoutineOf (finishing number done routines) class method
    methods class place method at named =
        let r = h.methods class place method at named in
        let it = finished_kept routines number r.place done r.one r.is in
        record {
          place = r.place;
          one = it.0;
          is = it.1;
          header = ap (λ first. first.header) it.2 ∙ r.header;
          owner = ap (λ first. first.owner) it.2 ∙ r.owner;
          number_is = r.number_is;
        }

    owners : (place : ℕ) (one : Numbered) (class : TypeId) → slice_get (finishing number done routines) place ≡ Some one → one.first.owner ≡ Some class → IsOwnClass name table class
    owners place one class at owned = elim (finished_at routines number place done one at) [
      | inl old ↦ h.owners place one class old owned
      | inr new ↦ h.owners place new.0 class new.1 (ap (λ (x : Numbered). x.first.owner) (sym new.2) ∙ owned)
    ]

    few : (place : ℕ) (one : Numbered) (other : Done) → slice_get (finishing number done routines) place ≡ Some one → one.done ≡ Some other → place ≤ 4294967295
    few place one other at has = elim (finished_at routines number place done one at) [
      | inl old ↦ h.few place one other old has
      | inr new ↦ (let same = new.3 in omega (arith, same, low))
    ]
