-- Methods that are found on objects are declared by a class of their line.
use Rattle.std.proofs.Common.{◌≡◌, ℕ, zero, suc, All, Bool, true, false, cond, List, [], ◌∷◌, length, Option, Some, None, refl, sym, subst, ap}
use Rattle.std.specs.Prelude.{slice_get}
use Rattle.std.proofs.lemmas.List.Elements.{All-head, All-tail}
use Rattle.well_formed.specs.type_layout.declared.definitions.TypeId.{TypeId}
use Rattle.well_formed.specs.type_layout.declared.definitions.RoutineId.{RoutineId}
use Rattle.well_formed.specs.type_layout.declared.definitions.Method.{Method}
use Rattle.well_formed.specs.type_layout.declared.definitions.TypeDef.{TypeDef}
use Rattle.well_formed.specs.type_layout.declared.definitions.TypeDef.TheVariants as type
use Rattle.well_formed.specs.type_layout.declared.texts.Place.{Place}
use Rattle.well_formed.specs.typed_tree.Expressions as tree
use Rattle.well_formed.specs.typed_tree.Expressions.{Expression, Load}
use Rattle.well_formed.specs.typed_tree.type_fits.Fits.{definition, IsObject, Descends}
use Rattle.well_formed.specs.Scopes.{Scope}
use Rattle.well_formed.specs.Typed.{HasPlace}
use Rattle.call_rules.specs.scopes.declared.members.Member.{Member}
use Rattle.call_rules.specs.scopes.Members.{member_of}
use Rattle.call_rules.specs.scopes.Environment.{Environment}
use Rattle.well_formed.specs.object_vmt.Members.{members_of, members_in}
use Rattle.well_formed.specs.object_vmt.Slots.{method_at}
use Rattle.call_rules.specs.declared.method_rules.methods.Callee.{Callee}
use Rattle.call_rules.specs.declared.method_rules.methods.Callee.TheVariants as callee
use Rattle.call_rules.specs.method_rules.Slots.{methods_of, slot_of}
use Rattle.call_rules.specs.method_rules.Methods.{Bound, method_by, method_in, routine_in, routine_at, routine_named, callee_at, callee_of, bound_by, bound_of, bound, inherited_by, inherited}
use Rattle.rules_well_formed.proofs.virtual_slots.Slots.{virtual_slot}
use Rattle.call_rules.specs.typing_rules.Judgements.{Through}
use Rattle.rules_well_formed.specs.nodes.Tables.{IsHeaderIn, IsSound}
use Rattle.rules_well_formed.specs.nodes.Laws.{IsOperand}
use Rattle.rules_well_formed.proofs.nodes.Assigned.{line_of}
use Rattle.rules_well_formed.proofs.nodes.Indexed.{loaded_from}
use Rattle.rules_well_formed.specs.methods.Declared.{HasMethods, IsCallee, IsBound}
use Rattle.rules_well_formed.proofs.methods.Lines.{member_line, member_object, line_on}

-- ---- a method by its name

pub record Found (types : List TypeDef) (class : TypeId) (name : List ℕ) (method : Method) : Type 0 where
  pub found : method_in types class name ≡ Some method
  pub member : Member
  pub is : member_of types (Some class) name ≡ Some member
  pub kind : member.method ≡ true
  pub at : slice_get (methods_of (definition types member.class)) member.number ≡ Some method

found_kind : (types : List TypeDef) (class : TypeId) (name : List ℕ) (method : Method) → method_in types class name ≡ Some method → (one : Member) → member_of types (Some class) name ≡ Some one → (b : Bool) → one.method ≡ b
    → cond b (slice_get (methods_of (definition types one.class)) one.number) None ≡ Some method → Found types class name method
found_kind types class name method found one is true kind e = record { found = found; member = one; is = is; kind = kind; at = e }
found_kind types class name method found one is false kind e = let bad : ⊥ = cc in absurd bad

found_by : (types : List TypeDef) (class : TypeId) (name : List ℕ) (method : Method) → method_in types class name ≡ Some method → (o : Option Member) → member_of types (Some class) name ≡ o → method_by types o ≡ Some method → Found types class name method
found_by types class name method found None is e = let bad : ⊥ = cc in absurd bad
found_by types class name method found (Some one) is e = found_kind types class name method found one is one.method refl e

found : (types : List TypeDef) (class : TypeId) (name : List ℕ) (method : Method) → method_in types class name ≡ Some method → Found types class name method
unfolding method_in
found types class name method e = found_by types class name method e (member_of types (Some class) name) refl e

all_at : (P : Method → Type 0) (xs : List Method) (k : ℕ) (x : Method) → All P xs → slice_get xs k ≡ Some x → P x
all_at P [] zero x all e = let bad : ⊥ = cc in absurd bad
all_at P [] (suc k) x all e = let bad : ⊥ = cc in absurd bad
all_at P (y ∷ ys) zero x all e =
    let same : y ≡ x = cc in
    subst P same (All-head P y ys all)
all_at P (y ∷ ys) (suc k) x all e = all_at P ys k x (All-tail P y ys all) e

header_by : (types : List TypeDef) (sound : IsSound types) (class : TypeId) (k : ℕ) (method : Method) (d : Option TypeDef) → definition types class ≡ d → slice_get (methods_of d) k ≡ Some method
    → IsHeaderIn types method.header
header_by types sound class k method (Some (type.ObjectOf parent dynamic fields methods)) is e =
    all_at (λ (m : Method). IsHeaderIn types m.header) methods k method (sound.names class (type.ObjectOf parent dynamic fields methods) is) e
header_by types sound class zero method d is e = let bad : ⊥ = cc in absurd bad
header_by types sound class (suc k) method d is e = let bad : ⊥ = cc in absurd bad

module _ (g : Environment) (s : Scope) (has : HasMethods g s) (sound : IsSound s.types) where
  pub here : (class : TypeId) (name : List ℕ) (method : Method) → method_in g.types.types class name ≡ Some method → Found s.types class name method
  here class name method e = found s.types class name method (subst (λ (t : List TypeDef). method_in t class name ≡ Some method) (sym has.types) e)

  pub header_in : (class : TypeId) (name : List ℕ) (method : Method) → Found s.types class name method → IsHeaderIn s.types method.header
  header_in class name method f = header_by s.types sound f.member.class f.member.number method (definition s.types f.member.class) refl f.at

  routine_by : (place : Place) (o : Option RoutineId) (routine : RoutineId) → (routine_at place o).holds routine → o ≡ Some routine
  routine_by place None routine h = absurd h
  routine_by place (Some one) routine h = ap (λ (r : RoutineId). Some r) (sym h)

  -- a method of an ancestor, as what is called
  pub named_callee : (place : Place) (class top : TypeId) (name : List ℕ) (method : Method) → Found s.types top name method → Descends s.types class top → (routine : RoutineId)
      → (routine_named g place method).holds routine → IsCallee s class method.header (callee.Routine routine)
  named_callee place class top name method f line routine h = (
    f.member.class,
    has.methods f.member.class f.member.number method routine f.at (routine_by place (routine_in g method.routine) routine h),
    line_on s.types class top f.member.class line (member_line s.types name f.member (length s.types) top f.is),
  )

  -- a virtual method, in its slot
  slot_callee : (place : Place) (class : TypeId) (name : List ℕ) (method : Method) → Found s.types class name method → method.is_virtual ≡ true → (o : Option ℕ) → slot_of s.types class name ≡ o
      → (one : Callee) → (callee_at place o).holds one → IsCallee s class method.header one
  slot_callee place class name method f virtual None is one h = absurd h
  slot_callee place class name method f virtual (Some slot) is one h =
      let at = virtual_slot s.types sound.defined sound.numbered class name method f.found virtual in
      let known = at.1.is in
      let same : at.0 ≡ slot = cc in
      let answers = subst (λ (k : ℕ). method_at (members_in (members_of s.types) class) k ≡ Some method) same at.1.answers in
      subst (λ (c : Callee). IsCallee s class method.header c) (sym h) (method, answers, refl)

  callee_by : (place : Place) (class : TypeId) (name : List ℕ) (method : Method) → Found s.types class name method → (one : Callee) → (b : Bool) → method.is_virtual ≡ b
      → cond b ((callee_at place (slot_of g.types.types class name)).holds one) (Through (routine_named g place method).holds (λ routine o. o ≡ callee.Routine routine) one)
      → IsCallee s class method.header one
  callee_by place class name method f one true is h =
      slot_callee place class name method f is (slot_of g.types.types class name) (ap (λ (t : List TypeDef). slot_of t class name) has.types) one h
  callee_by place class name method f one false is h =
      subst (λ (c : Callee). IsCallee s class method.header c) (sym h.made) (named_callee place class class name method f (0, refl) h.part h.holds)

  pub callee_bound : (place : Place) (class : TypeId) (name : List ℕ) (method : Method) → Found s.types class name method → (one : Callee) → (callee_of g place class name method).holds one
      → IsCallee s class method.header one
  callee_bound place class name method f one h = callee_by place class name method f one method.is_virtual refl h

  bound_at : (place : Place) (ty : TypeId) (at : tree.Place) (name : List ℕ) (one : Bound) → HasPlace s at ty → (o : Option Method) → method_in g.types.types ty name ≡ o
      → (bound_by g place ty at name o).holds one → IsBound s one
  bound_at place ty at name one there None is h = absurd h
  bound_at place ty at name one there (Some method) is h =
      let f = here ty name method is in
      subst (λ (b : Bound). IsBound s b) (sym h.made) (record {
        class = ty;
        object = member_object s.types name f.member f.kind (length s.types) ty f.is;
        place = there;
        header = header_in ty name method f;
        callee = callee_by place ty name method f h.part method.is_virtual refl h.holds;
      })

  bound_of_one : (place : Place) (a : Expression) (name : List ℕ) (one : Bound) → IsOperand s a → (bound_of g place a name).holds one → IsBound s one
  bound_of_one place (Load ty at) name one oa h = bound_at place ty at name one (loaded_from s ty at oa).1 (method_in g.types.types ty name) refl h
  bound_of_one place a name one oa h = absurd h

  pub bound_typed : (place : Place) (a : Expression) (name : List ℕ) (one : Bound) → IsOperand s a → (bound g place a name).holds one → IsBound s one
  unfolding bound
  bound_typed place a name one oa h = bound_of_one place a name one oa h

  inherited_at : (place : Place) (class ancestor : TypeId) (at : tree.Place) (name : List ℕ) (one : Bound) → HasPlace s at class → IsObject (definition s.types class)
      → Descends s.types class ancestor → (o : Option Method) → method_in g.types.types ancestor name ≡ o → (inherited_by g place at o).holds one → IsBound s one
  inherited_at place class ancestor at name one there object line None is h = absurd h
  inherited_at place class ancestor at name one there object line (Some method) is h =
      let f = here ancestor name method is in
      subst (λ (b : Bound). IsBound s b) (sym h.made) (record {
        class = class;
        object = object;
        place = there;
        header = header_in ancestor name method f;
        callee = named_callee place class ancestor name method f line h.part h.holds;
      })

  pub inherited_typed : (here place : Place) (class : TypeId) (at : tree.Place) (ancestor : TypeId) (name : List ℕ) (one : Bound) → HasPlace s at class
      → (inherited g here place class at ancestor name).holds one → IsBound s one
  unfolding inherited
  inherited_typed here place class at ancestor name one there h =
      let object : IsObject (definition s.types class) = subst (λ (t : List TypeDef). IsObject (definition t class)) (sym has.types) h.holds.asked.0 in
      let line : Descends s.types class ancestor = subst (λ (t : List TypeDef). Descends t class ancestor) (sym has.types) (line_of g.types.types class ancestor h.holds.asked.1) in
      inherited_at place class ancestor at name one there object line (method_in g.types.types ancestor name) refl h.made
