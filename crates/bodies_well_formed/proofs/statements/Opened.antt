-- What is known inside a `with` agrees with what trees may name there.
use Rattle.std.proofs.Common.{◌≡◌, inl, inr, ℕ, zero, suc, ◌+◌, ◌-◌, ◌<◌, ◌≤◌, Bool, true, List, [], ◌∷◌, ◌++◌, length, Option, Some, refl, sym, subst, ap, ◌∙◌, arith, length-append}
use Rattle.std.specs.Prelude.{◌^◌, slice_get}
use Rattle.std.proofs.Math.Nat.{min-eq_left}
use Rattle.std.proofs.lemmas.Option.{slice_get_within}
use Rattle.tp_check_stmt.specs.type_layout.declared.definitions.TypeId.{TypeId}
use Rattle.tp_check_stmt.specs.type_layout.declared.definitions.RoutineId.{RoutineId}
use Rattle.tp_check_stmt.specs.type_layout.declared.definitions.Header.{Header}
use Rattle.tp_check_stmt.specs.type_layout.declared.definitions.Method.{Method}
use Rattle.tp_check_stmt.proofs.type_layout_proofs.Local.{slice_get-append}
use Rattle.tp_check_stmt.specs.typed_tree.declared.expressions.Variable.{Variable}
use Rattle.rules_well_formed.specs.well_formed.Scopes.{Prototype, Scope, HasType, IsNamed, IsHeld, IsVariableAt, HasVariable, IsRoutineAt, HasRoutine, IsWithin}
use Rattle.rules_well_formed.specs.well_formed.Typed.{IsRoutineValue, HasPlace}
use Rattle.rules_well_formed.specs.well_formed.WellFormed as trees
use Rattle.tp_check_stmt.specs.scopes.declared.entries.Entry.{Entry}
use Rattle.tp_check_stmt.specs.scopes.declared.entries.Entry.TheVariants as entry
use Rattle.tp_check_stmt.specs.scopes.declared.entries.BlockKind.TheVariants as block
use Rattle.tp_check_stmt.specs.scopes.Members.{narrow}
use Rattle.tp_check_stmt.specs.scopes.Environment.{Environment, named, find, kind_of, block_count}
use Rattle.tp_check_stmt.specs.call_rules.method_rules.Methods.{method_in, routine_in}
use Rattle.tp_check_stmt.specs.tp_check_expr.Names.{variable}
use Rattle.tp_check_stmt.specs.tp_check_expr.Owners.{held, with_depth}
use Rattle.tp_check_stmt.specs.Assignments.{is_inside, is_numbered}
use Rattle.tp_check_stmt.specs.Typed.{within}
use Rattle.rules_well_formed.specs.methods.Declared.{IsMethod, HasMethods}
use Rattle.rules_well_formed.specs.calls.Laws.{IsFree}
use Rattle.bodies_well_formed.specs.expressions.Agreeing.{IsKnown, Agrees}
use Rattle.bodies_well_formed.specs.statements.Within.{AgreesWithin}
use Rattle.bodies_well_formed.proofs.statements.Blocks.{found_outside, entry_kept, variable_same, inside_same, kind_kept, kind_new, kind_cases, depth_kept, depth_new}

-- a number of 31 bits more behind 2^31
held_number : (n : ℕ) → n < 2147483648 → narrow (2147483648 + n) ≡ 2147483648 + n
held_number n h =
    let most : 2147483648 + n ≤ 4294967295 = omega (arith, h) in
    min-eq_left most

get_last : {A : Type 0} → (xs : List A) (x : A) (k : ℕ) → k ≡ length xs → slice_get (xs ++ x ∷ []) k ≡ Some x
get_last [] x k e = ap (λ (n : ℕ). slice_get (x ∷ []) n) e
get_last (y ∷ ys) x k e = ap (λ (n : ℕ). slice_get (y ∷ (ys ++ x ∷ [])) n) e ∙ get_last ys x (length ys) refl

module _ (g : Environment) (s : Scope) (ty : TypeId) where
  abbrev inner : Scope
  inner = trees.within s ty

  variable_at : (level unit number : ℕ) (t : TypeId) → IsVariableAt s level unit number t → IsVariableAt inner level unit number t
  variable_at zero zero number t h = h
  variable_at zero (suc unit) number t h = h
  variable_at (suc zero) unit number t (inl h) = inl h
  variable_at (suc zero) unit number t (inr h) =
      let below : number - 2 ^ 31 < length s.withs = slice_get_within s.withs (number - 2 ^ 31) t h.held in
      inr (record { high = h.high; held = slice_get-append s.withs (ty ∷ []) (number - 2 ^ 31) below ∙ h.held })
  variable_at (suc (suc links)) unit number t h = h

  variable_kept : (v : Variable) (t : TypeId) → HasVariable s v t → HasVariable inner v t
  variable_kept v t h = (h.0, variable_at v.level v.unit v.number t h.1)

  -- a variable as it is named inside
  named_inside : (unit level number : ℕ) (t : TypeId) → HasVariable s (variable g unit level number) t → HasVariable inner (variable (within g ty) unit level number) t
  named_inside unit level number t h =
      subst (λ (v : Variable). HasVariable inner v t) (sym (variable_same g ty unit level number)) (variable_kept (variable g unit level number) t h)

  routine_at : (Asked : Prototype → Type 0) (unit number : ℕ) → IsRoutineAt Asked s unit number → IsRoutineAt Asked inner unit number
  routine_at Asked zero number h = h
  routine_at Asked (suc unit) number h = h

  routine_kept : (Asked : Prototype → Type 0) (routine : RoutineId) → HasRoutine Asked s routine → HasRoutine Asked inner routine
  routine_kept Asked routine h = routine_at Asked routine.unit routine.number h

  name_kept : (unit : ℕ) → IsNamed s unit → IsNamed inner unit
  name_kept zero h = tt
  name_kept (suc unit) h = h

  known_kept : (one : Entry) → IsKnown g s one → IsKnown (within g ty) inner one
  known_kept (entry.Const t v) h = h
  known_kept (entry.Ty t) h = h
  known_kept (entry.Var unit level number t) h = named_inside unit level number t h
  known_kept (entry.Code routine level header far) h =
      (routine_kept (λ one. IsFree header one × IsWithin s.around one.outer) routine h.0, h.1, λ f l. (routine_kept (IsRoutineValue header) routine (h.2 f l).0, name_kept routine.unit (h.2 f l).1))
  known_kept (entry.Std number) h = tt

  methods_kept : HasMethods g s → HasMethods (within g ty) inner
  methods_kept h = record {
    types = h.types;
    units = h.units;
    methods = λ class number method routine m r. routine_kept (IsMethod class method.header) routine (h.methods class number method routine m r);
  }

  -- the place that an open `with` holds
  held_before : (t : TypeId) (number : ℕ) → HasPlace s (held g number) t → number < block_count g → HasPlace inner (held (within g ty) number) t
  held_before t number h below =
      let at : number ≤ block_count g = omega (arith, below) in
      subst (λ (d : ℕ). HasVariable inner (let v : Variable = record { unit = 0; level = 1; number = narrow (2147483648 + d) } in v) t) (sym (depth_kept g (block.With ty) number at))
      (variable_kept (record { unit = 0; level = 1; number = narrow (2147483648 + with_depth g number) }) t h)

  module _ (a : AgreesWithin g s) (there : HasType s ty) (few : length s.withs < 2147483648) where
    -- the new one
    held_last : (d : ℕ) → d ≡ length s.withs → HasVariable inner (let v : Variable = record { unit = 0; level = 1; number = narrow (2147483648 + d) } in v) ty
    held_last d e =
        let short : d < 2147483648 = omega (arith, e, few) in
        let is : narrow (2147483648 + d) ≡ 2147483648 + d = held_number d short in
        let behind : (2147483648 + d) - 2147483648 ≡ length s.withs = omega (arith, e) in
        let high : 2147483648 ≤ 2147483648 + d = omega arith in
        let one : IsHeld inner (2147483648 + d) ty = record { high = high; held = get_last s.withs ty ((2147483648 + d) - 2147483648) behind } in
        (there, inr (subst (λ (n : ℕ). IsHeld inner n ty) (sym is) one))

    held_new : HasPlace inner (held (within g ty) (block_count g)) ty
    held_new =
        let at : block_count g ≤ block_count g = omega arith in
        held_last (with_depth (within g ty) (block_count g)) (depth_kept g (block.With ty) (block_count g) at ∙ a.depth)

    held_kept : (number : ℕ) (t : TypeId) → kind_of (within g ty) number ≡ Some (block.With t) → HasPlace inner (held (within g ty) number) t
    held_kept number t e =
        kind_cases g (block.With ty) (λ (n : ℕ). kind_of (within g ty) n ≡ Some (block.With t) → HasPlace inner (held (within g ty) n) t) number (block.With t) e
        (λ below k. held_before t number (a.agrees.held number t (sym (kind_kept g (block.With ty) number below) ∙ k)) below)
        (λ k. same_type t (sym (kind_new g (block.With ty)) ∙ k)) e
      where
        same_type : (t : TypeId) → Some (block.With ty) ≡ Some (block.With t) → HasPlace inner (held (within g ty) (block_count g)) t
        same_type t k =
            let same : ty ≡ t = cc in
            subst (λ (u : TypeId). HasPlace inner (held (within g ty) (block_count g)) u) same held_new

    agrees_inside : Agrees (within g ty) inner
    agrees_inside = record {
      has = methods_kept a.agrees.has;
      sound = a.agrees.sound;
      known = λ name number one e. known_kept one (a.agrees.known name number one (found_outside g (block.With ty) name number one e));
      inside = λ number name one e. known_kept one (a.agrees.inside number name one (entry_kept g (block.With ty) number name one e));
      held = held_kept;
    }

    depth_inside : with_depth (within g ty) (block_count (within g ty)) ≡ length (s.withs ++ ty ∷ [])
    depth_inside = depth_new g ty ∙ ap (λ (d : ℕ). d + 1) a.depth ∙ sym (length-append s.withs (ty ∷ []))

    results_inside : (name : List ℕ) (number : ℕ) (routine : RoutineId) (level : ℕ) (header : Header) (far : Bool) (t : TypeId)
        → find (within g ty) name ≡ Some (named number (entry.Code routine level header far)) → header.result ≡ Some t → is_inside (within g ty) routine ≡ true
        → HasVariable inner (variable (within g ty) 0 (narrow (level + 1)) (narrow (length header.params))) t
    results_inside name number routine level header far t e r i =
        named_inside 0 (narrow (level + 1)) (narrow (length header.params)) t
        (a.results name number routine level header far t (found_outside g (block.With ty) name number (entry.Code routine level header far) e) r (sym (inside_same g ty routine) ∙ i))

    method_inside : (number own : ℕ) (owner : Option TypeId) (class : TypeId) (name : List ℕ) (method : Method) (t : TypeId)
        → kind_of (within g ty) number ≡ Some (block.Routine own owner) → method_in g.types.types class name ≡ Some method
        → is_numbered own (routine_in g method.routine) ≡ true → method.header.result ≡ Some t
        → HasVariable inner (variable (within g ty) 0 1 (narrow (length method.header.params + 1))) t
    method_inside number own owner class name method t e m n r =
        kind_cases g (block.With ty) (λ (k : ℕ). kind_of (within g ty) k ≡ Some (block.Routine own owner) → HasVariable inner (variable (within g ty) 0 1 (narrow (length method.header.params + 1))) t) number (block.Routine own owner) e
        (λ below k. named_inside 0 1 (narrow (length method.header.params + 1)) t (a.methods number own owner class name method t (sym (kind_kept g (block.With ty) number below) ∙ k) m n r))
        (λ k. let none : Some (block.With ty) ≡ Some (block.Routine own owner) = sym (kind_new g (block.With ty)) ∙ k in let bad : ⊥ = cc in absurd bad) e

    pub agrees_within : AgreesWithin (within g ty) inner
    agrees_within = record {
      agrees = agrees_inside;
      depth = depth_inside;
      results = results_inside;
      methods = method_inside;
    }
