-- What is known agrees with what trees may name in the innermost routine.
use Rattle.std.proofs.Common.{◌≡◌, inl, inr, ℕ, zero, suc, ◌+◌, ◌-◌, ◌≤◌, ◌==◌, ◌||◌, Bool, true, false, cond, List, [], ◌∷◌, ◌++◌, map, length, get_or, Option, Some, None, refl, sym, subst, ap, ◌∙◌, arith}
use Rattle.std.specs.Prelude.{slice_get, nat_lt}
use Rattle.std.specs.List.{list_any}
use Rattle.std.proofs.Math.Nat.{min-eq_left}
use Rattle.std.proofs.lemmas.Bool.{and_parts}
use Rattle.std.proofs.lemmas.Bool.Decides.{Decides-eqb}
use Rattle.tp_check_stmt.specs.type_layout.declared.definitions.TypeId.{TypeId}
use Rattle.tp_check_stmt.specs.type_layout.declared.definitions.RoutineId.{RoutineId}
use Rattle.tp_check_stmt.specs.type_layout.declared.definitions.Param.{Param}
use Rattle.tp_check_stmt.specs.type_layout.declared.definitions.Header.{Header}
use Rattle.tp_check_stmt.specs.type_layout.declared.definitions.Method.{Method}
use Rattle.tp_check_stmt.specs.typed_tree.declared.units.Routine.{Routine}
use Rattle.tp_check_stmt.specs.typed_tree.type_fits.Fits.{IsSome, shape_of}
use Rattle.tp_check_stmt.specs.typed_tree.type_fits.Routines.{listed, variables_of}
use Rattle.rules_well_formed.specs.well_formed.Scopes.{Scope, HasType, IsNamed, IsGlobal, IsVariableOf, IsVariableAt, HasVariable, Prototype, prototype, IsRoutineAt, HasRoutine, IsWithin}
use Rattle.rules_well_formed.specs.well_formed.Typed.{IsRoutineValue}
use Rattle.tp_check_stmt.specs.scopes.declared.entries.Entry.{Entry}
use Rattle.tp_check_stmt.specs.scopes.declared.entries.Entry.TheVariants as entry
use Rattle.tp_check_stmt.specs.scopes.declared.entries.BlockKind.{BlockKind}
use Rattle.tp_check_stmt.specs.scopes.declared.entries.BlockKind.TheVariants as block
use Rattle.tp_check_stmt.specs.scopes.declared.searches.OpenBlock.{OpenBlock}
use Rattle.tp_check_stmt.specs.scopes.Members.{narrow}
use Rattle.tp_check_stmt.specs.scopes.Environment.{Environment, named, find, kind_in, kind_of, first_open, block_count}
use Rattle.tp_check_stmt.specs.call_rules.method_rules.Methods.{method_in, routine_in}
use Rattle.tp_check_stmt.specs.tp_check_expr.Names.{routine_depth, level_from, variable}
use Rattle.tp_check_stmt.specs.tp_check_expr.Owners.{held, deeper_with, with_depth}
use Rattle.tp_check_stmt.specs.Assignments.{is_body_of, is_open_body, is_inside, is_numbered}
use Rattle.rules_well_formed.specs.nodes.Tables.{IsHeaderIn, IsResultIn}
use Rattle.rules_well_formed.proofs.nodes.Fields.{get-append}
use Rattle.rules_well_formed.specs.calls.Laws.{IsFree}
use Rattle.rules_well_formed.specs.methods.Declared.{IsMethod, HasMethods}
use Rattle.rules_well_formed.proofs.methods.Bound.{here, header_in}
use Rattle.bodies_well_formed.specs.expressions.Agreeing.{IsKnown, Agrees}
use Rattle.bodies_well_formed.specs.statements.Within.{AgreesWithin}
use Rattle.bodies_well_formed.specs.other_units.Known.{opening, open_from, open_in, at_level, IsDeep, IsLocal, IsVariableIn, IsAtDepth, IsLasting, AreLasting, AreKnown, levels_in, scope_over}
use Rattle.bodies_well_formed.proofs.other_units.Frames.{level_below, open_count, level_variables, IsOpen, stands, one_depth}
use Rattle.bodies_well_formed.proofs.other_units.Finding.{IsReached, found_known, inside_known}

-- ---- the same over the levels of routines

module _ (s : Scope) (around : List ℕ) where
  routine_at : (Asked : Prototype → Type 0) (unit number : ℕ) → IsRoutineAt Asked s unit number → IsRoutineAt Asked (scope_over s around) unit number
  routine_at Asked zero number h = h
  routine_at Asked (suc unit) number h = h

  routine_over : (Asked : Prototype → Type 0) (routine : RoutineId) → HasRoutine Asked s routine → HasRoutine Asked (scope_over s around) routine
  routine_over Asked routine h = routine_at Asked routine.unit routine.number h

  global_over : (unit number : ℕ) (ty : TypeId) → IsGlobal s unit number ty → IsGlobal (scope_over s around) unit number ty
  global_over zero number ty h = h
  global_over (suc unit) number ty h = h

  named_over : (unit : ℕ) → IsNamed s unit → IsNamed (scope_over s around) unit
  named_over zero h = tt
  named_over (suc unit) h = h

  methods_over : (g : Environment) → HasMethods g s → HasMethods g (scope_over s around)
  methods_over g h = record {
    types = h.types;
    units = h.units;
    methods = λ class number method routine m r. routine_over (IsMethod class method.header) routine (h.methods class number method routine m r);
  }

-- ---- variables

level_next : (depth level : ℕ) → level_from depth (suc level) ≡ suc (depth - suc level)
level_next depth level =
    let no : (suc level == 0) ≡ false = grind arith in
    let next : depth - suc level + 1 ≡ suc (depth - suc level) = omega arith in
    ap (λ (b : Bool). cond b 0 (depth - suc level + 1)) no ∙ next

of_level : (s : Scope) (k unit number : ℕ) (ty : TypeId) → IsVariableOf s k number ty → IsVariableAt s (suc k) unit number ty
of_level s zero unit number ty h = inl h
of_level s (suc k) unit number ty h = h

module _ (s : Scope) (around : List ℕ) where
  local_over : (level unit number : ℕ) (ty : TypeId) → IsLocal s around (suc level) number ty → IsVariableAt (scope_over s around) (suc (length around - suc level)) unit number ty
  local_over level unit number ty h =
      let these : get_or (levels_in s.routines around) (length around - suc level) [] ≡ variables_of h.one = level_variables s.routines around (suc level) h.routine h.one h.opened h.is in
      of_level (scope_over s around) (length around - suc level) unit number ty (ap (λ (types : List TypeId). slice_get types number) these ∙ h.variable)

  variable_over : (depth level unit number : ℕ) (ty : TypeId) → depth ≡ length around → IsVariableIn s around level unit number ty → IsVariableAt (scope_over s around) (level_from depth level) unit number ty
  variable_over depth zero unit number ty is h = global_over s around unit number ty h
  variable_over depth (suc level) unit number ty is h =
      let at : level_from depth (suc level) ≡ suc (length around - suc level) = level_next depth level ∙ ap (λ (d : ℕ). suc (d - suc level)) is in
      subst (λ (k : ℕ). IsVariableAt (scope_over s around) k unit number ty) (sym at) (local_over level unit number ty h)

-- ---- what is behind the parameters

abbrev types_of : List Param → List TypeId
types_of params = map (λ (param : Param). param.ty) params

count_types : (params : List Param) → length (types_of params) ≡ length params
count_types [] = refl
count_types (one ∷ rest) = ap (λ (n : ℕ). suc n) (count_types rest)

shapes_count : (params others : List Param) → map shape_of params ≡ map shape_of others → length params ≡ length others
shapes_count [] [] e = refl
shapes_count [] (other ∷ others) e = let bad : ⊥ = cc in absurd bad
shapes_count (one ∷ params) [] e = let bad : ⊥ = cc in absurd bad
shapes_count (one ∷ params) (other ∷ others) e =
    let rest : map shape_of params ≡ map shape_of others = cc in
    ap (λ (n : ℕ). suc n) (shapes_count params others rest)

narrowed : (n : ℕ) → n ≤ 4294967295 → narrow n ≡ n
narrowed n h = min-eq_left h

-- the result of a function
function_result : (one : Routine) (ty : TypeId) → one.owner ≡ None → one.header.result ≡ Some ty → slice_get (variables_of one) (length one.header.params) ≡ Some ty
function_result one ty free result =
    let params : List TypeId = types_of one.header.params in
    let place : length params + 0 ≡ length one.header.params = (let c = count_types one.header.params in omega (arith, c)) in
    let rest : listed one.owner ++ (listed one.header.result ++ one.locals) ≡ ty ∷ one.locals =
    ap (λ (o : Option TypeId). listed o ++ (listed one.header.result ++ one.locals)) free ∙ ap (λ (o : Option TypeId). listed o ++ one.locals) result in
    ap (λ (n : ℕ). slice_get (variables_of one) n) (sym place)
    ∙ get-append params (listed one.owner ++ (listed one.header.result ++ one.locals)) 0
    ∙ ap (λ (xs : List TypeId). slice_get xs 0) rest

-- that of a method, behind Self
method_result : (one : Routine) (owner ty : TypeId) → one.owner ≡ Some owner → one.header.result ≡ Some ty → slice_get (variables_of one) (length one.header.params + 1) ≡ Some ty
method_result one owner ty owned result =
    let params : List TypeId = types_of one.header.params in
    let place : length params + 1 ≡ length one.header.params + 1 = (let c = count_types one.header.params in omega (arith, c)) in
    let rest : listed one.owner ++ (listed one.header.result ++ one.locals) ≡ owner ∷ (ty ∷ one.locals) =
    ap (λ (o : Option TypeId). listed o ++ (listed one.header.result ++ one.locals)) owned ∙ ap (λ (o : Option TypeId). owner ∷ (listed o ++ one.locals)) result in
    ap (λ (n : ℕ). slice_get (variables_of one) n) (sym place)
    ∙ get-append params (listed one.owner ++ (listed one.header.result ++ one.locals)) 1
    ∙ ap (λ (xs : List TypeId). slice_get xs 1) rest

-- ---- which blocks are open

body_open : (number : ℕ) (kind : BlockKind) (around : List ℕ) → is_body_of number kind ≡ true → IsOpen (opening kind around) number
body_open number (block.Routine own owner) around e = inl ((Decides-eqb own number).0 e)
body_open number block.Part around e = let bad : ⊥ = cc in absurd bad
body_open number (block.With ty) around e = let bad : ⊥ = cc in absurd bad

still_open : (number : ℕ) (kind : BlockKind) (around : List ℕ) → IsOpen around number → IsOpen (opening kind around) number
still_open number (block.Routine own owner) around h = inr h
still_open number block.Part around h = h
still_open number (block.With ty) around h = h

open_on : (number : ℕ) (blocks : List OpenBlock) (around : List ℕ) → IsOpen around number → IsOpen (open_from around blocks) number
open_on number [] around h = h
open_on number (one ∷ blocks) around h = open_on number blocks (opening one.kind around) (still_open number one.kind around h)

inside_open : (number : ℕ) (blocks : List OpenBlock) (around : List ℕ) → list_any (is_open_body number) blocks ≡ true → IsOpen (open_from around blocks) number
inside_open number [] around e = let bad : ⊥ = cc in absurd bad
inside_open number (one ∷ blocks) around e = by (λ k. inside_open number blocks (opening one.kind around) k) (is_open_body number one) refl e
  where
    by : (list_any (is_open_body number) blocks ≡ true → IsOpen (open_from (opening one.kind around) blocks) number) → (b : Bool) → is_open_body number one ≡ b → (b || list_any (is_open_body number) blocks) ≡ true → IsOpen (open_from (opening one.kind around) blocks) number
    by rec true is k = open_on number blocks (opening one.kind around) (body_open number one.kind around is)
    by rec false is k = rec k

-- a block is one of a routine that is open, or none
kind_open : (number : ℕ) (kind : BlockKind) (around : List ℕ) (own : ℕ) (owner : Option TypeId) → kind ≡ block.Routine own owner → IsOpen (opening kind around) own
kind_open number kind around own owner e = subst (λ (k : BlockKind). IsOpen (opening k around) own) (sym e) (inl refl)

block_open : (k : ℕ) (blocks : List OpenBlock) (around : List ℕ) (own : ℕ) (owner : Option TypeId) → kind_in blocks k ≡ Some (block.Routine own owner) → IsOpen (open_from around blocks) own
block_open zero [] around own owner e = let bad : ⊥ = cc in absurd bad
block_open (suc k) [] around own owner e = let bad : ⊥ = cc in absurd bad
block_open zero (one ∷ blocks) around own owner e =
    let is : one.kind ≡ block.Routine own owner = cc in
    open_on own blocks (opening one.kind around) (kind_open own one.kind around own owner is)
block_open (suc k) (one ∷ blocks) around own owner e = block_open k blocks (opening one.kind around) own owner e

no_with : (k : ℕ) (blocks : List OpenBlock) (ty : TypeId) → AreLasting blocks → kind_in blocks k ≡ Some (block.With ty) → ⊥
no_with zero [] ty h e = let bad : ⊥ = cc in bad
no_with (suc k) [] ty h e = let bad : ⊥ = cc in bad
no_with zero (one ∷ blocks) ty h e =
    let is : one.kind ≡ block.With ty = cc in
    subst (λ (kind : BlockKind). IsLasting kind) is h.0
no_with (suc k) (one ∷ blocks) ty h e = no_with k blocks ty h.1 e

module _ (g : Environment) (s : Scope) (h : AreKnown g s) where
  routine_open : (number own : ℕ) (owner : Option TypeId) → kind_of g number ≡ Some (block.Routine own owner) → IsOpen (open_in g) own
  routine_open number own owner e = by (nat_lt number (first_open g)) e
    where
      by : (b : Bool) → cond b None (kind_in g.blocks (number - first_open g)) ≡ Some (block.Routine own owner) → IsOpen (open_in g) own
      by true k = let bad : ⊥ = cc in absurd bad
      by false k = block_open (number - first_open g) g.blocks [] own owner k

  never_with : (number : ℕ) (ty : TypeId) → kind_of g number ≡ Some (block.With ty) → ⊥
  never_with number ty e = by (nat_lt number (first_open g)) e
    where
      by : (b : Bool) → cond b None (kind_in g.blocks (number - first_open g)) ≡ Some (block.With ty) → ⊥
      by true k = let bad : ⊥ = cc in bad
      by false k = no_with (number - first_open g) g.blocks ty h.lasting k

  no_depth : (number : ℕ) → with_depth g number ≡ 0
  no_depth zero = refl
  no_depth (suc n) = by (no_depth n) (kind_of g n) refl
    where
      by : with_depth g n ≡ 0 → (o : Option BlockKind) → kind_of g n ≡ o → deeper_with o (with_depth g n) ≡ 0
      by rec None e = rec
      by rec (Some block.Part) e = rec
      by rec (Some (block.Routine own owner)) e = rec
      by rec (Some (block.With ty)) e = absurd (never_with n ty e)

  -- ---- what is known agrees

  depth : length (open_in g) ≡ routine_depth g.blocks
  depth = let e = open_count g.blocks [] in omega (arith, e)

  abbrev over : Scope
  over = scope_over s (open_in g)

  has_variable : (unit level number : ℕ) (ty : TypeId) → HasType s ty → IsVariableIn s (open_in g) level unit number ty → HasVariable over (variable g unit level number) ty
  has_variable unit level number ty there v = (there, variable_over s (open_in g) (routine_depth g.blocks) level unit number ty (sym depth) v)

  -- a routine that may be called
  abbrev IsCallable : Header → Prototype → Type 0
  IsCallable header one = IsFree header one × IsWithin (open_in g) one.outer

  entry_known : (one : Entry) → IsReached s (open_in g) one → IsKnown g over one
  entry_known (entry.Const ty v) k = k
  entry_known (entry.Ty ty) k = k
  entry_known (entry.Var unit level number ty) k = has_variable unit level number ty k.0 k.1
  entry_known (entry.Code routine level header far) k = (
    routine_over s (open_in g) (IsCallable header) routine k.0,
    k.1,
    λ f l. (
      routine_over s (open_in g) (IsRoutineValue header) routine (k.2 f l).0,
      named_over s (open_in g) routine.unit (k.2 f l).1,
    ),
  )
  entry_known (entry.Std number) k = tt

  agrees : Agrees g over
  agrees = record {
    has = methods_over s (open_in g) g h.has;
    sound = h.sound;
    known = λ name number one e. entry_known one (found_known g s name number one h e);
    inside = λ number name one e. entry_known one (inside_known g s number name one h e);
    held = λ number ty e. absurd (never_with number ty e);
  }

  -- ---- results

  -- the variable of a routine that is open
  open_variable : (level number routine : ℕ) (one : Routine) (ty : TypeId) → HasType s ty → at_level (open_in g) (level + 1) ≡ Some routine → slice_get s.routines routine ≡ Some one
      → slice_get (variables_of one) number ≡ Some ty → number ≤ 4294967295 → HasVariable over (variable g 0 (narrow (level + 1)) (narrow number)) ty
  open_variable level number routine one ty there at is v few =
      let below = level_below (open_in g) (level + 1) routine at in
      let short = h.few in
      let small : level + 1 ≤ 4294967295 = omega (arith, below, short) in
      let next : level + 1 ≡ suc level = omega arith in
      let local : IsLocal s (open_in g) (suc level) number ty =
      record { routine = routine; opened = subst (λ (n : ℕ). at_level (open_in g) n ≡ Some routine) next at; one = one; is = is; variable = v } in
      let it : HasVariable over (variable g 0 (suc level) number) ty = has_variable 0 (suc level) number ty there local in
      subst (λ (n : ℕ). HasVariable over (variable g 0 (narrow (level + 1)) n) ty) (sym (narrowed number few))
      (subst (λ (n : ℕ). HasVariable over (variable g 0 n number) ty) (sym (narrowed (level + 1) small ∙ next)) it)

  -- a result is of a type of the table
  result_there : (header : Header) (ty : TypeId) → header.result ≡ Some ty → IsHeaderIn s.types header → HasType s ty
  result_there header ty is k = subst (λ (o : Option TypeId). IsResultIn s.types o) is k.result

  function_at : (unit number level : ℕ) (header : Header) (ty : TypeId) → unit ≡ 0 → IsRoutineAt (IsCallable header) s unit number → IsAtDepth s unit number level → IsHeaderIn s.types header → header.result ≡ Some ty
      → IsOpen (open_in g) number → HasVariable over (variable g 0 (narrow (level + 1)) (narrow (length header.params))) ty
  function_at (suc unit) number level header ty none declared deep there result around = let bad : ⊥ = cc in absurd bad
  function_at zero number level header ty none declared deep there result around =
      let place = stands s.routines (open_in g) number h.nested around in
      let same : deep.0 ≡ place.one = (let e = deep.1 in let f = place.is in cc) in
      let other : declared.0 ≡ place.one = (let e = declared.1 in let f = place.is in cc) in
      let free : IsFree header (prototype place.one) = subst (λ (r : Routine). IsFree header (prototype r)) other declared.2.0 in
      let level_is : level ≡ place.level = one_depth s.routines level place.level place.one.outer (subst (λ (r : Routine). IsDeep s.routines level r.outer) same deep.2) place.deep in
      let count : length header.params ≡ length place.one.header.params = shapes_count header.params place.one.header.params free.same.params in
      let few = (h.placed number place.one place.is).few in
      let small : length place.one.header.params ≤ 4294967295 = omega (arith, few) in
      let v = function_result place.one ty free.free (sym free.same.result ∙ result) in
      let it = open_variable place.level (length place.one.header.params) number place.one ty (result_there header ty result there) place.at place.is v small in
      subst (λ (n : ℕ). HasVariable over (variable g 0 (narrow (level + 1)) (narrow n)) ty) (sym count)
      (subst (λ (l : ℕ). HasVariable over (variable g 0 (narrow (l + 1)) (narrow (length place.one.header.params))) ty) (sym level_is) it)

  results_known : (name : List ℕ) (number : ℕ) (routine : RoutineId) (level : ℕ) (header : Header) (far : Bool) (ty : TypeId)
      → find g name ≡ Some (named number (entry.Code routine level header far)) → header.result ≡ Some ty → is_inside g routine ≡ true
      → HasVariable over (variable g 0 (narrow (level + 1)) (narrow (length header.params))) ty
  results_known name number routine level header far ty e result inside =
      let k = found_known g s name number (entry.Code routine level header far) h e in
      let both = and_parts (routine.unit == 0) (list_any (is_open_body routine.number) g.blocks) inside in
      let none : routine.unit ≡ 0 = (Decides-eqb routine.unit 0).0 both.0 in
      function_at routine.unit routine.number level header ty none k.0 k.3 k.1 result (inside_open routine.number g.blocks [] both.1)

  -- a method stands outside routines
  outermost : (level : ℕ) (outer : Option ℕ) → outer ≡ None → IsDeep s.routines level outer → level ≡ 0
  outermost zero None e d = refl
  outermost zero (Some number) e d = absurd d
  outermost (suc level) None e d = absurd d
  outermost (suc level) (Some number) e d = let bad : ⊥ = cc in absurd bad

  method_at : (unit number : ℕ) (class : TypeId) (header : Header) (ty : TypeId) → unit ≡ 0 → IsRoutineAt (IsMethod class header) s unit number → IsHeaderIn s.types header → header.result ≡ Some ty
      → IsOpen (open_in g) number → HasVariable over (variable g 0 1 (narrow (length header.params + 1))) ty
  method_at (suc unit) number class header ty none declared there result around = let bad : ⊥ = cc in absurd bad
  method_at zero number class header ty none declared there result around =
      let place = stands s.routines (open_in g) number h.nested around in
      let other : declared.0 ≡ place.one = (let e = declared.1 in let f = place.is in cc) in
      let method : IsMethod class header (prototype place.one) = subst (λ (r : Routine). IsMethod class header (prototype r)) other declared.2 in
      let placed = h.placed number place.one place.is in
      let owned : IsSome place.one.owner = subst (λ (o : Option TypeId). IsSome o) (sym method.owned) tt in
      let level_is : place.level ≡ 0 = outermost place.level place.one.outer (placed.outermost owned) place.deep in
      let count : length header.params ≡ length place.one.header.params = shapes_count header.params place.one.header.params method.same.params in
      let few = placed.few in
      let small : length place.one.header.params + 1 ≤ 4294967295 = omega (arith, few) in
      let v = method_result place.one class ty method.owned (sym method.same.result ∙ result) in
      let it = open_variable place.level (length place.one.header.params + 1) number place.one ty (result_there header ty result there) place.at place.is v small in
      let first : HasVariable over (variable g 0 (narrow (0 + 1)) (narrow (length place.one.header.params + 1))) ty =
      subst (λ (l : ℕ). HasVariable over (variable g 0 (narrow (l + 1)) (narrow (length place.one.header.params + 1))) ty) level_is it in
      subst (λ (n : ℕ). HasVariable over (variable g 0 1 (narrow (n + 1))) ty) (sym count) first

  numbered : (own : ℕ) (o : Option RoutineId) → is_numbered own o ≡ true → (r : RoutineId) × (o ≡ Some r) × (r.unit ≡ 0) × (r.number ≡ own)
  numbered own None e = let bad : ⊥ = cc in absurd bad
  numbered own (Some r) e =
      let both = and_parts (r.unit == 0) (r.number == own) e in
      (r, refl, (Decides-eqb r.unit 0).0 both.0, (Decides-eqb r.number own).0 both.1)

  methods_known : (number own : ℕ) (owner : Option TypeId) (class : TypeId) (name : List ℕ) (method : Method) (ty : TypeId)
      → kind_of g number ≡ Some (block.Routine own owner) → method_in g.types.types class name ≡ Some method
      → is_numbered own (routine_in g method.routine) ≡ true → method.header.result ≡ Some ty
      → HasVariable over (variable g 0 1 (narrow (length method.header.params + 1))) ty
  methods_known number own owner class name method ty k m n result =
      let found = here g s h.has h.sound class name method m in
      let r = numbered own (routine_in g method.routine) n in
      let declared = h.has.methods found.member.class found.member.number method r.0 found.at r.1 in
      let there = header_in g s h.has h.sound class name method found in
      let around : IsOpen (open_in g) r.0.number = subst (λ (x : ℕ). IsOpen (open_in g) x) (sym r.3) (routine_open number own owner k) in
      method_at r.0.unit r.0.number found.member.class method.header ty r.2 declared there result around

  pub agrees_within : AgreesWithin g over
  agrees_within = record {
    agrees = agrees;
    depth = no_depth (block_count g);
    results = results_known;
    methods = methods_known;
  }
