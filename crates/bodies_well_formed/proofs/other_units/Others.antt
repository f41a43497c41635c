-- Where what a scope tells of other units comes from, and that it stays told where names, units and types come behind.
use Rattle.std.proofs.Common.{◌≡◌, ◌⊎◌, inl, inr, ℕ, zero, suc, ◌+◌, Bool, true, All, List, [], ◌∷◌, ◌++◌, Option, Some, None, refl, sym, subst, ap, ◌∙◌, arith}
use Rattle.std.specs.Prelude.{slice_get}
use Rattle.std.proofs.lemmas.Option.{slice_get_within}
use Rattle.tp_check_stmt.specs.type_layout.declared.definitions.TypeId.{TypeId}
use Rattle.tp_check_stmt.specs.type_layout.declared.definitions.RoutineId.{RoutineId}
use Rattle.tp_check_stmt.specs.type_layout.declared.definitions.Header.{Header}
use Rattle.tp_check_stmt.specs.type_layout.declared.definitions.Method.{Method}
use Rattle.tp_check_stmt.specs.type_layout.declared.definitions.TypeDef.{TypeDef}
use Rattle.tp_check_stmt.proofs.type_layout_proofs.Local.{slice_get-append}
use Rattle.tp_check_stmt.specs.typed_tree.type_fits.Fits.{definition}
use Rattle.rules_well_formed.specs.well_formed.Scopes.{IsOneOf, OtherUnit, OtherGlobal, OtherRoutine, Others}
use Rattle.tp_check_stmt.specs.scopes.declared.entries.Entry.{Entry}
use Rattle.tp_check_stmt.specs.scopes.declared.entries.Entry.TheVariants as entry
use Rattle.tp_check_stmt.specs.scopes.Symbols.{SymbolList}
use Rattle.tp_check_stmt.specs.scopes.Environment.{Environment}
use Rattle.tp_check_stmt.specs.call_rules.method_rules.Slots.{methods_of}
use Rattle.tp_check_stmt.specs.call_rules.method_rules.Methods.{routine_in}
use Rattle.rules_well_formed.specs.well_formed.weakening.Weakening.{AreAmong}
use Rattle.bodies_well_formed.specs.other_units.Known.{EachOf}
use Rattle.bodies_well_formed.specs.other_units.Others.{units_at, globals_by, globals_in, globals_used, routines_by, routines_in, routines_used, method_by, methods_from, methods_at, naming, others_of}
use Rattle.bodies_well_formed.proofs.other_units.Members.{one_front, one_back, one_of_both, one_only, one_none, all_members}
use Rattle.bodies_well_formed.proofs.other_units.Units.{routine_stays}

-- ---- what is told by a name

abbrev pub unit_told : ℕ → List ℕ → OtherUnit
unit_told number name = record { number = number; name = name }

abbrev pub global_told : ℕ → ℕ → TypeId → OtherGlobal
global_told unit number ty = record { unit = unit; number = number; ty = ty }

abbrev pub routine_told : RoutineId → Header → Bool → OtherRoutine
routine_told routine header far = record { routine = routine; seen = record { header = header; owner = None; outer = None; far = far } }

abbrev pub method_told : TypeId → Method → RoutineId → OtherRoutine
method_told class method routine = record { routine = routine; seen = record { header = method.header; owner = Some class; outer = None; far = true } }

-- an entry is told
abbrev pub IsTold : Others → Entry → Type 0
IsTold others (entry.Var unit level number ty) = IsOneOf (global_told unit number ty) others.globals
IsTold others (entry.Code routine level header far) = IsOneOf (routine_told routine header far) others.routines
IsTold others _ = Unit {0}

abbrev pub entry_named : List ℕ → Entry → List ℕ × Entry
entry_named name one = (name, one)

-- an entry of a used unit
pub record IsBrought (used : List SymbolList) (one : Entry) : Type 0 where
  pub names : SymbolList
  pub unit : IsOneOf names used
  pub name : List ℕ
  pub named : IsOneOf (entry_named name one) names

-- ---- names of units

unit_listed : (units : List (List ℕ)) (number further is : ℕ) (name : List ℕ) → is ≡ number + further → slice_get units further ≡ Some name
    → IsOneOf (record { number = is; name = name }) (units_at number units)
unit_listed [] number further is name at e = absurd (one_none name further e)
unit_listed (first ∷ rest) number zero is name at e =
    let same : number ≡ is = omega (arith, at) in
    let one : first ≡ name = cc in
    (0, ap (λ (n : ℕ). Some (unit_told n first)) same ∙ ap (λ (x : List ℕ). Some (unit_told is x)) one)
unit_listed (first ∷ rest) number (suc further) is name at e =
    let next : is ≡ (number + 1) + further = omega (arith, at) in
    let it = unit_listed rest (number + 1) further is name next e in
    (suc it.0, it.1)

unit_from : (units : List (List ℕ)) (number place : ℕ) (told : OtherUnit) → slice_get (units_at number units) place ≡ Some told → (further : ℕ) × (told.number ≡ number + further) × (slice_get units further ≡ Some told.name)
unit_from [] number place told e = absurd (one_none told place e)
unit_from (first ∷ rest) number zero told e =
    let same : unit_told number first ≡ told = cc in
    let n : number ≡ told.number = ap (λ (x : OtherUnit). x.number) same in
    (0, omega (arith, n), ap (λ (x : OtherUnit). Some x.name) same)
unit_from (first ∷ rest) number (suc place) told e =
    let it = unit_from rest (number + 1) place told e in
    let n = it.1 in
    (suc it.0, omega (arith, n), it.2)

-- ---- variables

module _ (told : OtherGlobal) where
  global_named : (names : SymbolList) (name : List ℕ) (one : Entry) (place : ℕ) → slice_get names place ≡ Some (entry_named name one) → IsOneOf told (globals_by one) → IsOneOf told (globals_in names)
  global_named [] name one place e h = absurd (one_none (entry_named name one) place e)
  global_named (first ∷ rest) name one zero e h =
      let same : first.1 ≡ one = (let both : first ≡ entry_named name one = cc in ap (λ (x : List ℕ × Entry). x.1) both) in
      one_front told (globals_by first.1) (globals_in rest) (subst (λ (x : Entry). IsOneOf told (globals_by x)) (sym same) h)
  global_named (first ∷ rest) name one (suc place) e h = one_back told (globals_by first.1) (globals_in rest) (global_named rest name one place e h)

  global_used : (used : List SymbolList) (names : SymbolList) (place : ℕ) → slice_get used place ≡ Some names → IsOneOf told (globals_in names) → IsOneOf told (globals_used used)
  global_used [] names place e h = absurd (one_none names place e)
  global_used (first ∷ rest) names zero e h =
      let same : first ≡ names = cc in
      one_front told (globals_in first) (globals_used rest) (subst (λ (x : SymbolList). IsOneOf told (globals_in x)) (sym same) h)
  global_used (first ∷ rest) names (suc place) e h = one_back told (globals_in first) (globals_used rest) (global_used rest names place e h)

  -- and where it comes from
  global_of : (one : Entry) → IsOneOf told (globals_by one) → (level : ℕ) × (one ≡ entry.Var told.unit level told.number told.ty)
  global_of (entry.Var unit level number ty) h =
      let same : global_told unit number ty ≡ told = one_only told (global_told unit number ty) h in
      (level, ap (λ (x : OtherGlobal). entry.Var x.unit level x.number x.ty) same)
  global_of (entry.Const ty v) h = absurd (one_none told h.0 h.1)
  global_of (entry.Ty ty) h = absurd (one_none told h.0 h.1)
  global_of (entry.Code routine level header far) h = absurd (one_none told h.0 h.1)
  global_of (entry.Std number) h = absurd (one_none told h.0 h.1)

  global_in : (names : SymbolList) → IsOneOf told (globals_in names) → (name : List ℕ) × (level : ℕ) × IsOneOf (entry_named name (entry.Var told.unit level told.number told.ty)) names
  global_in [] h = absurd (one_none told h.0 h.1)
  global_in (first ∷ rest) h = by (one_of_both told (globals_by first.1) (globals_in rest) h) (λ k. global_in rest k)
    where
      by : IsOneOf told (globals_by first.1) ⊎ IsOneOf told (globals_in rest)
          → (IsOneOf told (globals_in rest) → (name : List ℕ) × (level : ℕ) × IsOneOf (entry_named name (entry.Var told.unit level told.number told.ty)) rest)
          → (name : List ℕ) × (level : ℕ) × IsOneOf (entry_named name (entry.Var told.unit level told.number told.ty)) (first ∷ rest)
      by (inl k) rec =
          let it = global_of first.1 k in
          (first.0, it.0, (0, ap (λ (x : Entry). Some (entry_named first.0 x)) it.1))
      by (inr k) rec =
          let it = rec k in
          (it.0, it.1, (suc it.2.0, it.2.1))

  global_from : (used : List SymbolList) → IsOneOf told (globals_used used) → (level : ℕ) × IsBrought used (entry.Var told.unit level told.number told.ty)
  global_from [] h = absurd (one_none told h.0 h.1)
  global_from (first ∷ rest) h = by (one_of_both told (globals_in first) (globals_used rest) h) (λ k. global_from rest k)
    where
      by : IsOneOf told (globals_in first) ⊎ IsOneOf told (globals_used rest)
          → (IsOneOf told (globals_used rest) → (level : ℕ) × IsBrought rest (entry.Var told.unit level told.number told.ty))
          → (level : ℕ) × IsBrought (first ∷ rest) (entry.Var told.unit level told.number told.ty)
      by (inl k) rec =
          let it = global_in first k in
          (it.1, record { names = first; unit = (0, refl); name = it.0; named = it.2 })
      by (inr k) rec =
          let it = rec k in
          (it.0, record { names = it.1.names; unit = (suc it.1.unit.0, it.1.unit.1); name = it.1.name; named = it.1.named })

-- ---- routines that are no methods

module _ (told : OtherRoutine) where
  routine_named : (names : SymbolList) (name : List ℕ) (one : Entry) (place : ℕ) → slice_get names place ≡ Some (entry_named name one) → IsOneOf told (routines_by one) → IsOneOf told (routines_in names)
  routine_named [] name one place e h = absurd (one_none (entry_named name one) place e)
  routine_named (first ∷ rest) name one zero e h =
      let same : first.1 ≡ one = (let both : first ≡ entry_named name one = cc in ap (λ (x : List ℕ × Entry). x.1) both) in
      one_front told (routines_by first.1) (routines_in rest) (subst (λ (x : Entry). IsOneOf told (routines_by x)) (sym same) h)
  routine_named (first ∷ rest) name one (suc place) e h = one_back told (routines_by first.1) (routines_in rest) (routine_named rest name one place e h)

  routine_used : (used : List SymbolList) (names : SymbolList) (place : ℕ) → slice_get used place ≡ Some names → IsOneOf told (routines_in names) → IsOneOf told (routines_used used)
  routine_used [] names place e h = absurd (one_none names place e)
  routine_used (first ∷ rest) names zero e h =
      let same : first ≡ names = cc in
      one_front told (routines_in first) (routines_used rest) (subst (λ (x : SymbolList). IsOneOf told (routines_in x)) (sym same) h)
  routine_used (first ∷ rest) names (suc place) e h = one_back told (routines_in first) (routines_used rest) (routine_used rest names place e h)

  -- and where it comes from
  routine_of : (one : Entry) → IsOneOf told (routines_by one)
      → (level : ℕ) × (header : Header) × (far : Bool) × (one ≡ entry.Code told.routine level header far) × (routine_told told.routine header far ≡ told)
  routine_of (entry.Code routine level header far) h =
      let same : routine_told routine header far ≡ told = one_only told (routine_told routine header far) h in
      let is : routine ≡ told.routine = ap (λ (x : OtherRoutine). x.routine) same in
      (level, header, far, ap (λ (x : RoutineId). entry.Code x level header far) is, ap (λ (x : RoutineId). routine_told x header far) (sym is) ∙ same)
  routine_of (entry.Const ty v) h = absurd (one_none told h.0 h.1)
  routine_of (entry.Ty ty) h = absurd (one_none told h.0 h.1)
  routine_of (entry.Var unit level number ty) h = absurd (one_none told h.0 h.1)
  routine_of (entry.Std number) h = absurd (one_none told h.0 h.1)

  -- a routine as an entry tells it
  pub record IsRoutineFrom (P : Entry → Type 0) : Type 0 where
    pub level : ℕ
    pub header : Header
    pub far : Bool
    pub brought : P (entry.Code told.routine level header far)
    pub seen : routine_told told.routine header far ≡ told

  abbrev IsNamed : SymbolList → Entry → Type 0
  IsNamed names one = (name : List ℕ) × IsOneOf (entry_named name one) names

  routine_in_names : (names : SymbolList) → IsOneOf told (routines_in names) → IsRoutineFrom (IsNamed names)
  routine_in_names [] h = absurd (one_none told h.0 h.1)
  routine_in_names (first ∷ rest) h = by (one_of_both told (routines_by first.1) (routines_in rest) h) (λ k. routine_in_names rest k)
    where
      by : IsOneOf told (routines_by first.1) ⊎ IsOneOf told (routines_in rest) → (IsOneOf told (routines_in rest) → IsRoutineFrom (IsNamed rest)) → IsRoutineFrom (IsNamed (first ∷ rest))
      by (inl k) rec =
          let it = routine_of first.1 k in
          record { level = it.0; header = it.1; far = it.2; brought = (first.0, (0, ap (λ (x : Entry). Some (entry_named first.0 x)) it.3)); seen = it.4 }
      by (inr k) rec =
          let it = rec k in
          record { level = it.level; header = it.header; far = it.far; brought = (it.brought.0, (suc it.brought.1.0, it.brought.1.1)); seen = it.seen }

  routine_from : (used : List SymbolList) → IsOneOf told (routines_used used) → IsRoutineFrom (IsBrought used)
  routine_from [] h = absurd (one_none told h.0 h.1)
  routine_from (first ∷ rest) h = by (one_of_both told (routines_in first) (routines_used rest) h) (λ k. routine_from rest k)
    where
      by : IsOneOf told (routines_in first) ⊎ IsOneOf told (routines_used rest) → (IsOneOf told (routines_used rest) → IsRoutineFrom (IsBrought rest)) → IsRoutineFrom (IsBrought (first ∷ rest))
      by (inl k) rec =
          let it = routine_in_names first k in
          record { level = it.level; header = it.header; far = it.far; brought = record { names = first; unit = (0, refl); name = it.brought.0; named = it.brought.1 }; seen = it.seen }
      by (inr k) rec =
          let it = rec k in
          let b = it.brought in
          record {
            level = it.level;
            header = it.header;
            far = it.far;
            brought = record { names = b.names; unit = (suc b.unit.0, b.unit.1); name = b.name; named = b.named };
            seen = it.seen;
          }

-- ---- methods

abbrev type_numbered : ℕ → TypeId
type_numbered number = record { 0 = number }

-- the method of a class that a routine is
pub record IsMethodFrom (g : Environment) (told : OtherRoutine) : Type 0 where
  pub class : TypeId
  pub place : ℕ
  pub method : Method
  pub at : slice_get (methods_of (definition g.types.types class)) place ≡ Some method
  pub routine : routine_in g method.routine ≡ Some told.routine
  pub seen : method_told class method told.routine ≡ told

module _ (g : Environment) where
  method_told_by : (class : TypeId) (methods : List Method) (place : ℕ) (method : Method) (routine : RoutineId) → slice_get methods place ≡ Some method → routine_in g method.routine ≡ Some routine
      → IsOneOf (method_told class method routine) (methods_from g class methods)
  method_told_by class [] place method routine e r = absurd (one_none method place e)
  method_told_by class (first ∷ rest) zero method routine e r =
      let same : first ≡ method = cc in
      let is : routine_in g first.routine ≡ Some routine = ap (λ (m : Method). routine_in g m.routine) same ∙ r in
      let here : IsOneOf (method_told class method routine) (method_by class first (Some routine)) = (0, ap (λ (m : Method). Some (method_told class m routine)) same) in
      one_front (method_told class method routine) (method_by class first (routine_in g first.routine)) (methods_from g class rest)
      (subst (λ (o : Option RoutineId). IsOneOf (method_told class method routine) (method_by class first o)) (sym is) here)
  method_told_by class (first ∷ rest) (suc place) method routine e r =
      one_back (method_told class method routine) (method_by class first (routine_in g first.routine)) (methods_from g class rest) (method_told_by class rest place method routine e r)

  method_told_at : (types : List TypeDef) (number further class place : ℕ) (method : Method) (routine : RoutineId) → class ≡ number + further
      → slice_get (methods_of (slice_get types further)) place ≡ Some method → routine_in g method.routine ≡ Some routine
      → IsOneOf (method_told (type_numbered class) method routine) (methods_at g number types)
  method_told_at [] number further class place method routine is e r = absurd (one_none method place e)
  method_told_at (first ∷ rest) number zero class place method routine is e r =
      let same : class ≡ number = omega (arith, is) in
      let told : OtherRoutine = method_told (type_numbered class) method routine in
      let here = method_told_by (type_numbered class) (methods_of (Some first)) place method routine e r in
      one_front told (methods_from g (type_numbered number) (methods_of (Some first))) (methods_at g (number + 1) rest)
      (subst (λ (n : ℕ). IsOneOf told (methods_from g (type_numbered n) (methods_of (Some first)))) same here)
  method_told_at (first ∷ rest) number (suc further) class place method routine is e r =
      let next : class ≡ (number + 1) + further = omega (arith, is) in
      one_back (method_told (type_numbered class) method routine) (methods_from g (type_numbered number) (methods_of (Some first))) (methods_at g (number + 1) rest)
      (method_told_at rest (number + 1) further class place method routine next e r)

  -- and where it comes from
  record IsListed (class : TypeId) (methods : List Method) (told : OtherRoutine) : Type 0 where
    place : ℕ
    method : Method
    at : slice_get methods place ≡ Some method
    routine : routine_in g method.routine ≡ Some told.routine
    seen : method_told class method told.routine ≡ told

  method_listed : (class : TypeId) (methods : List Method) (told : OtherRoutine) → IsOneOf told (methods_from g class methods) → IsListed class methods told
  method_listed class [] told h = absurd (one_none told h.0 h.1)
  method_listed class (first ∷ rest) told h =
      by (one_of_both told (method_by class first (routine_in g first.routine)) (methods_from g class rest) h) (λ k. method_listed class rest told k)
    where
      here : (o : Option RoutineId) → routine_in g first.routine ≡ o → IsOneOf told (method_by class first o) → IsListed class (first ∷ rest) told
      here None e k = absurd (one_none told k.0 k.1)
      here (Some routine) e k =
          let same : method_told class first routine ≡ told = one_only told (method_told class first routine) k in
          let is : routine ≡ told.routine = ap (λ (x : OtherRoutine). x.routine) same in
          record {
            place = 0;
            method = first;
            at = refl;
            routine = e ∙ ap (λ (x : RoutineId). Some x) is;
            seen = ap (λ (x : RoutineId). method_told class first x) (sym is) ∙ same;
          }

      by : IsOneOf told (method_by class first (routine_in g first.routine)) ⊎ IsOneOf told (methods_from g class rest) → (IsOneOf told (methods_from g class rest) → IsListed class rest told)
          → IsListed class (first ∷ rest) told
      by (inl k) rec = here (routine_in g first.routine) refl k
      by (inr k) rec =
          let it = rec k in
          record { place = suc it.place; method = it.method; at = it.at; routine = it.routine; seen = it.seen }

  record IsOfTypes (types : List TypeDef) (number : ℕ) (told : OtherRoutine) : Type 0 where
    further : ℕ
    listed : IsListed (type_numbered (number + further)) (methods_of (slice_get types further)) told

  method_of : (types : List TypeDef) (number : ℕ) (told : OtherRoutine) → IsOneOf told (methods_at g number types) → IsOfTypes types number told
  method_of [] number told h = absurd (one_none told h.0 h.1)
  method_of (first ∷ rest) number told h =
      by (one_of_both told (methods_from g (type_numbered number) (methods_of (Some first))) (methods_at g (number + 1) rest) h) (λ k. method_of rest (number + 1) told k)
    where
      by : IsOneOf told (methods_from g (type_numbered number) (methods_of (Some first))) ⊎ IsOneOf told (methods_at g (number + 1) rest)
          → (IsOneOf told (methods_at g (number + 1) rest) → IsOfTypes rest (number + 1) told) → IsOfTypes (first ∷ rest) number told
      by (inl k) rec =
          let same : number ≡ number + 0 = omega arith in
          record {
            further = 0;
            listed = subst (λ (n : ℕ). IsListed (type_numbered n) (methods_of (Some first)) told) same (method_listed (type_numbered number) (methods_of (Some first)) told k);
          }
      by (inr k) rec =
          let it = rec k in
          let same : (number + 1) + it.further ≡ number + suc it.further = omega arith in
          record { further = suc it.further; listed = subst (λ (n : ℕ). IsListed (type_numbered n) (methods_of (slice_get rest it.further)) told) same it.listed }

-- ---- what is told

pub unit_among : (g : Environment) (number : ℕ) (name : List ℕ) → slice_get g.units number ≡ Some name → IsOneOf (unit_told number name) (others_of g).units
unit_among g number name e =
    let same : number ≡ 0 + number = omega arith in
    unit_listed g.units 0 number number name same e

pub brought_told : (g : Environment) (one : Entry) → IsBrought g.used one → IsTold (others_of g) one
brought_told g (entry.Var unit level number ty) b =
    global_used (global_told unit number ty) g.used b.names b.unit.0 b.unit.1
    (global_named (global_told unit number ty) b.names b.name (entry.Var unit level number ty) b.named.0 b.named.1 (0, refl))
brought_told g (entry.Code routine level header far) b =
    one_front (routine_told routine header far) (routines_used g.used) (methods_at (naming g) 0 g.types.types)
    (routine_used (routine_told routine header far) g.used b.names b.unit.0 b.unit.1
    (routine_named (routine_told routine header far) b.names b.name (entry.Code routine level header far) b.named.0 b.named.1 (0, refl)))
brought_told g (entry.Const ty v) b = tt
brought_told g (entry.Ty ty) b = tt
brought_told g (entry.Std number) b = tt

-- each entry of a list of names
each_member : (P : Entry → Type 0) (names : SymbolList) → ((name : List ℕ) (one : Entry) → IsOneOf (entry_named name one) names → P one) → EachOf P names
each_member P [] h = tt
each_member P (first ∷ rest) h = (h first.0 first.1 (0, refl), each_member P rest (λ name one k. h name one (suc k.0, k.1)))

-- each entry of each used unit
pub used_told : (g : Environment) → All (EachOf (IsTold (others_of g))) g.used
used_told g =
    all_members (EachOf (IsTold (others_of g))) g.used
    (λ names unit. each_member (IsTold (others_of g)) names (λ name one named. brought_told g one (record { names = names; unit = unit; name = name; named = named })))

pub method_among : (g : Environment) (class : TypeId) (place : ℕ) (method : Method) (routine : RoutineId) → slice_get (methods_of (definition g.types.types class)) place ≡ Some method
    → routine_in g method.routine ≡ Some routine → IsOneOf (method_told class method routine) (others_of g).routines
method_among g class place method routine e r =
    let same : class.0 ≡ 0 + class.0 = omega arith in
    one_back (method_told class method routine) (routines_used g.used) (methods_at (naming g) 0 g.types.types)
    (method_told_at (naming g) g.types.types 0 class.0 class.0 place method routine same e r)

-- ---- where it comes from

pub unit_told_from : (g : Environment) (told : OtherUnit) → IsOneOf told (others_of g).units → slice_get g.units told.number ≡ Some told.name
unit_told_from g told h =
    let it = unit_from g.units 0 h.0 told h.1 in
    let n = it.1 in
    let same : told.number ≡ it.0 = omega (arith, n) in
    ap (λ (k : ℕ). slice_get g.units k) same ∙ it.2

pub global_told_from : (g : Environment) (told : OtherGlobal) → IsOneOf told (others_of g).globals → (level : ℕ) × IsBrought g.used (entry.Var told.unit level told.number told.ty)
global_told_from g told h = global_from told g.used h

-- an entry of a used unit, or a method
pub routine_told_from : (g : Environment) (told : OtherRoutine) → IsOneOf told (others_of g).routines → IsRoutineFrom told (IsBrought g.used) ⊎ IsMethodFrom g told
routine_told_from g told h = by (one_of_both told (routines_used g.used) (methods_at (naming g) 0 g.types.types) h)
  where
    by : IsOneOf told (routines_used g.used) ⊎ IsOneOf told (methods_at (naming g) 0 g.types.types) → IsRoutineFrom told (IsBrought g.used) ⊎ IsMethodFrom g told
    by (inl k) = inl (routine_from told g.used k)
    by (inr k) =
        let it = method_of (naming g) g.types.types 0 told k in
        let l = it.listed in
        let same : 0 + it.further ≡ it.further = omega arith in
        inr (record {
          class = type_numbered it.further;
          place = l.place;
          method = l.method;
          at = l.at;
          routine = l.routine;
          seen = ap (λ (n : ℕ). method_told (type_numbered n) l.method told.routine) (sym same) ∙ l.seen;
        })

-- ---- more of them

-- one scope has what another has, and more behind
pub record Lengthens (g h : Environment) : Type 0 where
  pub used : (back : List SymbolList) × (h.used ≡ g.used ++ back)
  pub units : (back : List (List ℕ)) × (h.units ≡ g.units ++ back)
  pub table_units : (back : List (List ℕ)) × (h.types.units ≡ g.types.units ++ back)
  pub types : (back : List TypeDef) × (h.types.types ≡ g.types.types ++ back)

-- a method of a type, where types come behind
method_stays : (types back : List TypeDef) (number place : ℕ) (method : Method) → slice_get (methods_of (slice_get types number)) place ≡ Some method
    → slice_get (methods_of (slice_get (types ++ back) number)) place ≡ Some method
method_stays [] back number place method e = absurd (one_none method place e)
method_stays (first ∷ rest) back zero place method e = e
method_stays (first ∷ rest) back (suc number) place method e = method_stays rest back number place method e

module _ (g h : Environment) (l : Lengthens g h) where
  unit_grows : (told : OtherUnit) → slice_get g.units told.number ≡ Some told.name → IsOneOf told (others_of h).units
  unit_grows told e =
      let there : slice_get h.units told.number ≡ Some told.name =
      ap (λ (units : List (List ℕ)). slice_get units told.number) l.units.1 ∙ slice_get-append g.units l.units.0 told.number (slice_get_within g.units told.number told.name e) ∙ e in
      unit_among h told.number told.name there

  brought_stays : (one : Entry) → IsBrought g.used one → IsBrought h.used one
  brought_stays one b = record {
    names = b.names;
    unit = subst (λ (used : List SymbolList). IsOneOf b.names used) (sym l.used.1) (one_front b.names g.used l.used.0 b.unit);
    name = b.name;
    named = b.named;
  }

  routine_grows : (told : OtherRoutine) → IsRoutineFrom told (IsBrought g.used) ⊎ IsMethodFrom g told → IsOneOf told (others_of h).routines
  routine_grows told (inl k) =
      let it = brought_told h (entry.Code told.routine k.level k.header k.far) (brought_stays (entry.Code told.routine k.level k.header k.far) k.brought) in
      subst (λ (x : OtherRoutine). IsOneOf x (others_of h).routines) k.seen it
  routine_grows told (inr k) =
      let at : slice_get (methods_of (definition h.types.types k.class)) k.place ≡ Some k.method =
      subst (λ (types : List TypeDef). slice_get (methods_of (definition types k.class)) k.place ≡ Some k.method) (sym l.types.1)
      (method_stays g.types.types l.types.0 k.class.0 k.place k.method k.at) in
      let routine = routine_stays g h l.units.0 l.table_units.0 l.units.1 l.table_units.1 k.method.routine told.routine k.routine in
      subst (λ (x : OtherRoutine). IsOneOf x (others_of h).routines) k.seen (method_among h k.class k.place k.method told.routine at routine)

  pub others_grow : AreAmong (others_of g) (others_of h)
  others_grow = record {
    units = λ told k. unit_grows told (unit_told_from g told k);
    globals = λ told k. (
        let it = global_told_from g told k in
        brought_told h (entry.Var told.unit it.0 told.number told.ty) (brought_stays (entry.Var told.unit it.0 told.number told.ty) it.1)
        );
    routines = λ told k. routine_grows told (routine_told_from g told k);
  }
