-- What stands before `:=` is a place, and an assignment to a place is well formed.
use Rattle.std.proofs.Common.{◌≡◌, inl, inr, ℕ, Bool, true, false, cond, List, Option, Some, None, refl, sym, subst}
use Rattle.tp_check_stmt.specs.type_layout.declared.definitions.TypeId.{TypeId}
use Rattle.tp_check_stmt.specs.type_layout.declared.definitions.RoutineId.{RoutineId}
use Rattle.tp_check_stmt.specs.type_layout.declared.definitions.Header.{Header}
use Rattle.tp_check_stmt.specs.type_layout.declared.definitions.Method.{Method}
use Rattle.tp_check_stmt.specs.type_layout.declared.definitions.TypeDef.{TypeDef}
use Rattle.tp_check_stmt.specs.type_layout.declared.definitions.TypeDef.TheVariants as type
use Rattle.tp_check_stmt.specs.type_layout.declared.texts.Place.{Place}
use Rattle.tp_check_stmt.specs.pascal_grammar.declared.lexeme.Position.{Position}
use Rattle.tp_check_stmt.specs.syntax_tree.expression_tree.Trees.{Tree, name}
use Rattle.tp_check_stmt.specs.typed_tree.Expressions.{Expression, Load}
use Rattle.tp_check_stmt.specs.typed_tree.Statements.{Statement, Assign}
use Rattle.tp_check_stmt.specs.typed_tree.type_fits.Fits as fits
use Rattle.tp_check_stmt.specs.typed_tree.type_fits.Fits.{definition, IsStructured, Descends, JoinBy}
use Rattle.rules_well_formed.specs.well_formed.Scopes.{Scope}
use Rattle.rules_well_formed.specs.well_formed.Typed.{IsTyped, Takes}
use Rattle.rules_well_formed.specs.well_formed.WellFormed.{IsStatement}
use Rattle.tp_check_stmt.specs.scopes.declared.entries.Entry.{Entry}
use Rattle.tp_check_stmt.specs.scopes.declared.entries.Entry.TheVariants as entry
use Rattle.tp_check_stmt.specs.scopes.declared.entries.BlockKind.{BlockKind}
use Rattle.tp_check_stmt.specs.scopes.declared.entries.BlockKind.TheVariants as block
use Rattle.tp_check_stmt.specs.scopes.Environment.{Environment, Meaning, named, member, find, kind_of}
use Rattle.tp_check_stmt.specs.call_rules.method_rules.Methods.{method_in, routine_in}
use Rattle.tp_check_stmt.specs.typing_rules.declared.faults.Fault.{Fault}
use Rattle.tp_check_stmt.specs.tp_check_expr.declared.names.Purpose.TheVariants as purpose
use Rattle.tp_check_stmt.specs.tp_check_expr.Names.{purpose_for}
use Rattle.tp_check_stmt.specs.Places.{Spot, spot_of, present}
use Rattle.tp_check_stmt.specs.Assignments.{held_target, is_inside, result_spot, result_target, method_result, is_numbered, method_target, entry_target, meant_target, target, is_structured, copied, assigned_to}
use Rattle.tp_check_stmt.specs.Typed.{assigning}
use Rattle.rules_well_formed.specs.nodes.Laws.{IsOperand}
use Rattle.rules_well_formed.proofs.nodes.Joined.{assigned_joined}
use Rattle.bodies_well_formed.specs.expressions.Literals.{AreLiterals}
use Rattle.bodies_well_formed.proofs.expressions.Names.{at}
use Rattle.bodies_well_formed.proofs.expressions.Checked.{judged_typed}
use Rattle.bodies_well_formed.specs.statements.Within.{AgreesWithin}
use Rattle.bodies_well_formed.proofs.statements.Asked.{IsSpot, spot_known}

-- ---- what is assigned to

module _ (g : Environment) (s : Scope) (a : AgreesWithin g s) where
  present_known : (fault : Fault) (e : Expression) (t : Spot) → IsOperand s e → (o : Option Spot) → spot_of e ≡ o → (present fault o).holds t → IsSpot s t
  present_known fault e t oe None is h = absurd h
  present_known fault e t oe (Some one) is h = subst (λ (x : Spot). IsSpot s x) (sym h) (spot_known s e one oe is)

  held_known : (x : Tree) (t : Spot) → AreLiterals x → (held_target g x).holds t → IsSpot s t
  held_known x t l h = present_known _ h.part t (judged_typed g s a.agrees purpose.Variable x h.part l h.holds) (spot_of h.part) refl h.made

  -- the result of a function
  result_by : (place : Place) (word : List ℕ) (number : ℕ) (routine : RoutineId) (level : ℕ) (header : Header) (far : Bool) (ty : TypeId) (t : Spot)
      → find g word ≡ Some (named number (entry.Code routine level header far)) → header.result ≡ Some ty → (b : Bool) → is_inside g routine ≡ b
      → cond b (t ≡ result_spot g level header ty) ⊥ → IsSpot s t
  result_by place word number routine level header far ty t is r true i h =
      let there = a.results word number routine level header far ty is r i in
      subst (λ (x : Spot). IsSpot s x) (sym h) (there.0, there)
  result_by place word number routine level header far ty t is r false i h = absurd h

  result_known : (place : Place) (word : List ℕ) (number : ℕ) (routine : RoutineId) (level : ℕ) (header : Header) (far : Bool) (t : Spot)
      → find g word ≡ Some (named number (entry.Code routine level header far)) → (o : Option TypeId) → header.result ≡ o → (result_target g place routine level header o).holds t → IsSpot s t
  result_known place word number routine level header far t is None r h = absurd h
  result_known place word number routine level header far t is (Some ty) r h = result_by place word number routine level header far ty t is r (is_inside g routine) refl h

  -- the result of a method
  method_by : (number own : ℕ) (owner : Option TypeId) (class : TypeId) (word : List ℕ) (method : Method) (place : Place) (t : Spot)
      → kind_of g number ≡ Some (block.Routine own owner) → method_in g.types.types class word ≡ Some method → is_numbered own (routine_in g method.routine) ≡ true
      → (o : Option TypeId) → method.header.result ≡ o → (method_result g place method.header o).holds t → IsSpot s t
  method_by number own owner class word method place t k m n None r h = absurd h
  method_by number own owner class word method place t k m n (Some ty) r h =
      let there = a.methods number own owner class word method ty k m n r in
      subst (λ (x : Spot). IsSpot s x) (sym h) (there.0, there)

  numbered_by : (number own : ℕ) (owner : Option TypeId) (class : TypeId) (word : List ℕ) (method : Method) (place : Place) (t : Spot)
      → kind_of g number ≡ Some (block.Routine own owner) → method_in g.types.types class word ≡ Some method → (b : Bool) → is_numbered own (routine_in g method.routine) ≡ b
      → cond b ((method_result g place method.header method.header.result).holds t) ⊥ → IsSpot s t
  numbered_by number own owner class word method place t k m true n h = method_by number own owner class word method place t k m n method.header.result refl h
  numbered_by number own owner class word method place t k m false n h = absurd h

  method_known : (number : ℕ) (class : TypeId) (word : List ℕ) (place : Place) (t : Spot) → (k : Option BlockKind) → kind_of g number ≡ k
      → (m : Option Method) → method_in g.types.types class word ≡ m → (method_target g place k m).holds t → IsSpot s t
  method_known number class word place t (Some (block.Routine own owner)) k (Some method) m h =
      numbered_by number own owner class word method place t k m (is_numbered own (routine_in g method.routine)) refl h
  method_known number class word place t kind k found m h = absurd h

  member_by : (place : Place) (x : Tree) (number : ℕ) (class : TypeId) (word : List ℕ) (t : Spot) → AreLiterals x → (b : Bool)
      → cond b ((method_target g place (kind_of g number) (method_in g.types.types class word)).holds t) ((held_target g x).holds t) → IsSpot s t
  member_by place x number class word t l true h = method_known number class word place t (kind_of g number) refl (method_in g.types.types class word) refl h
  member_by place x number class word t l false h = held_known x t l h

  entry_known : (place : Place) (x : Tree) (word : List ℕ) (number : ℕ) (one : Entry) (t : Spot) → AreLiterals x → find g word ≡ Some (named number one) → (entry_target g place x one).holds t → IsSpot s t
  entry_known place x word number (entry.Const ty v) t l is h = held_known x t l h
  entry_known place x word number (entry.Ty ty) t l is h = absurd h
  entry_known place x word number (entry.Var unit level n ty) t l is h = held_known x t l h
  entry_known place x word number (entry.Code routine level header far) t l is h = result_known place word number routine level header far t is header.result refl h
  entry_known place x word number (entry.Std n) t l is h = absurd h

  meant_known : (place : Place) (x : Tree) (word : List ℕ) (t : Spot) → AreLiterals x → (m : Option Meaning) → find g word ≡ m → (meant_target g place x word m).holds t → IsSpot s t
  meant_known place x word t l None is h = held_known x t l h
  meant_known place x word t l (Some (named number one)) is h = entry_known place x word number one t l is h
  meant_known place x word t l (Some (member number one)) is h = member_by place x number one.class word t l one.method h

  pub target_known : (x : Tree) (t : Spot) → AreLiterals x → (target g x).holds t → IsSpot s t
  target_known (name here word) t l h = meant_known here.place (name here word) word t l (find g word) refl h
  target_known x t l h = held_known x t l h

-- ---- assignments

structured_of : (d : Option TypeDef) → is_structured d ≡ true → IsStructured d
structured_of (Some (type.ArrayOf index element)) e = inl tt
structured_of (Some (type.RecordOf fields)) e = inr (inl tt)
structured_of (Some (type.ObjectOf parent dynamic fields methods)) e = inr (inr tt)
structured_of d e = let bad : ⊥ = cc in absurd bad

array_is : (d : Option TypeDef) → fits.IsArray d → is_structured d ≡ true
array_is (Some (type.ArrayOf index element)) h = refl
array_is d h = absurd h

record_is : (d : Option TypeDef) → fits.IsRecord d → is_structured d ≡ true
record_is (Some (type.RecordOf fields)) h = refl
record_is d h = absurd h

object_is : (d : Option TypeDef) → fits.IsObject d → is_structured d ≡ true
object_is (Some (type.ObjectOf parent dynamic fields methods)) h = refl
object_is d h = absurd h

structured_is : (d : Option TypeDef) → IsStructured d → is_structured d ≡ true
structured_is d (inl h) = array_is d h
structured_is d (inr (inl h)) = record_is d h
structured_is d (inr (inr h)) = object_is d h

-- what joins a structured type descends from it
joins_line : (types : List TypeDef) (alike : Type 0) (d other : Option TypeDef) → is_structured d ≡ true → JoinBy types alike d other → alike
joins_line types alike (Some (type.ArrayOf index element)) other e h = h
joins_line types alike (Some (type.RecordOf fields)) other e h = h
joins_line types alike (Some (type.ObjectOf parent dynamic fields methods)) other e h = h
joins_line types alike d other e h = let bad : ⊥ = cc in absurd bad

module _ (s : Scope) (to : Spot) (there : IsSpot s to) where
  abbrev Joined : Expression → Type 0
  Joined v = IsTyped s v × Takes s.types to.ty v

  copied_from : (place : Place) (v : Expression) (one : Statement) → Joined v → is_structured (definition s.types to.ty) ≡ true → (copied place to.at (spot_of v)).holds one → IsStatement s one
  copied_from place (Load ty from) one j is h =
      let joins : Descends s.types ty to.ty = joins_line s.types (Descends s.types ty to.ty) (definition s.types to.ty) (definition s.types ty) is j.1 in
      subst (λ (x : Statement). IsStatement s x) (sym h)
      (record { ty = to.ty; given = ty; target = there.1; source = j.0.1; structured = structured_of (definition s.types to.ty) is; joins = joins })
  copied_from place v one j is h = absurd h

  stored_by : (place : Place) (v : Expression) (one : Statement) → Joined v → (b : Bool) → is_structured (definition s.types to.ty) ≡ b
      → cond b ((copied place to.at (spot_of v)).holds one) (one ≡ Assign to.at v) → IsStatement s one
  stored_by place v one j true is h = copied_from place v one j is h
  stored_by place v one j false is h =
      let never : IsStructured (definition s.types to.ty) → ⊥ = λ k. (let bad : is_structured (definition s.types to.ty) ≡ true = structured_is (definition s.types to.ty) k in cc) in
      subst (λ (x : Statement). IsStatement s x) (sym h) (record { ty = to.ty; place = there.1; simple = never; typed = j.0; takes = j.1 })

module _ (g : Environment) (s : Scope) (a : AgreesWithin g s) where
  joined_stored : (here : Position) (to : Spot) (e : Expression) (one : Statement) → IsSpot s to → IsOperand s e → (assigned_to s.types here to e).holds one → IsStatement s one
  joined_stored here to e one there oe h =
      let joined = assigned_joined s a.agrees.sound to.ty there.0 here.place here.switches.r e h.part oe h.holds in
      stored_by s to there here.place h.part one joined (is_structured (definition s.types to.ty)) refl h.made

  pub assigned_well : (here : Position) (to : Spot) (e : Expression) (one : Statement) → IsSpot s to → IsOperand s e → (assigned_to g.types.types here to e).holds one → IsStatement s one
  assigned_well here to e one there oe h = joined_stored here to e one there oe (at g s a.agrees (λ (t : List TypeDef). (assigned_to t here to e).holds one) h)

  pub assigning_well : (here : Position) (from : Tree) (to : Spot) (one : Statement) → IsSpot s to → AreLiterals from → (assigning g here from to).holds one → IsStatement s one
  assigning_well here from to one there l h =
      assigned_well here to h.part one there (judged_typed g s a.agrees (purpose_for g.types.types to.ty _) from h.part l h.holds) h.made
