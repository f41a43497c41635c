-- What a `for` counts by is a variable that is near, and its bounds are stored like it.
use Rattle.std.proofs.Common.{◌≡◌, inl, inr, ℕ, ◌≤◌, Bool, true, List, Option, Some, None, refl, sym, subst, ap, ◌∙◌, arith}
use Rattle.std.proofs.Math.IntN.{ℤ}
use Rattle.std.specs.Prelude.{◌≤ℤ◌, int_le}
use Rattle.tp_check_stmt.specs.type_layout.declared.definitions.TypeId.{TypeId}
use Rattle.tp_check_stmt.specs.type_layout.declared.definitions.Host.{Host}
use Rattle.tp_check_stmt.specs.type_layout.declared.definitions.Host.TheVariants as host
use Rattle.tp_check_stmt.specs.type_layout.declared.definitions.TypeDef.{TypeDef}
use Rattle.tp_check_stmt.specs.type_layout.declared.definitions.TypeDef.TheVariants as type
use Rattle.tp_check_stmt.specs.type_layout.declared.texts.Place.{Place}
use Rattle.tp_check_stmt.specs.type_layout.Storage.{least_of, greatest_of, storage_of}
use Rattle.tp_check_stmt.specs.tp_lexer.declared.token.Feature.{Feature}
use Rattle.tp_check_stmt.specs.tp_lexer.left_out_names.Names.{feature_of}
use Rattle.tp_check_stmt.specs.syntax_tree.expression_tree.Trees.{Tree}
use Rattle.tp_check_stmt.specs.syntax_tree.statement_tree.Places.{place_of}
use Rattle.tp_check_stmt.specs.typed_tree.declared.expressions.Variable.{Variable}
use Rattle.tp_check_stmt.specs.typed_tree.Expressions.{Expression, type_of}
use Rattle.tp_check_stmt.specs.typed_tree.type_fits.Fits.{definition, stored_as, IsSome, AreStoredAlike}
use Rattle.rules_well_formed.specs.well_formed.Scopes.{Scope, HasVariable}
use Rattle.rules_well_formed.specs.well_formed.Typed.{IsTyped}
use Rattle.tp_check_stmt.specs.typed_tree.type_fits.Standard.{sort_of}
use Rattle.rules_well_formed.specs.well_formed.WellFormed.{IsCounted}
use Rattle.tp_check_stmt.specs.scopes.declared.entries.Entry.{Entry}
use Rattle.tp_check_stmt.specs.scopes.declared.entries.Entry.TheVariants as entry
use Rattle.tp_check_stmt.specs.scopes.Environment.{Environment, Meaning, named, member, find}
use Rattle.tp_check_stmt.specs.typing_rules.Sorts as sorts
use Rattle.tp_check_stmt.specs.typing_rules.Sorts.{sort_of_type}
use Rattle.tp_check_stmt.specs.typing_rules.Wanted.{stored_of}
use Rattle.tp_check_stmt.specs.typing_rules.Assignments.{IsAssignable, stored_in, assigned_by}
use Rattle.tp_check_stmt.specs.tp_check_expr.Names.{variable}
use Rattle.tp_check_stmt.specs.Loops.{IsNear, HasOrder, counter_entry, counter_meant, counter, whole, bound_by, bound, Counted, counted}
use Rattle.rules_well_formed.specs.nodes.Laws.{IsOperand}
use Rattle.rules_well_formed.proofs.nodes.Ordinals.{rising}
use Rattle.rules_well_formed.proofs.nodes.Wanting.{IsOrdinal}
use Rattle.rules_well_formed.proofs.nodes.Assigned.{ordinal_given, stored_typed}
use Rattle.bodies_well_formed.specs.expressions.Agreeing.{Agrees}
use Rattle.bodies_well_formed.specs.expressions.Literals.{AreLiterals}
use Rattle.bodies_well_formed.proofs.expressions.Names.{at}
use Rattle.bodies_well_formed.proofs.statements.Asked.{value_typed}

-- ---- bounds

-- all values of a host are stored as it
stored_whole : (w : Host) → storage_of w (least_of w) (greatest_of w) ≡ w
stored_whole host.ShortInt = refl
stored_whole host.Byte = refl
stored_whole host.Integer = refl
stored_whole host.Word = refl
stored_whole host.LongInt = refl
stored_whole host.Char = refl
stored_whole host.Boolean = refl
stored_whole host.Enumeration = refl

host_rises : (w : Host) → int_le (least_of w) (greatest_of w) ≡ true
host_rises host.ShortInt = refl
host_rises host.Byte = refl
host_rises host.Integer = refl
host_rises host.Word = refl
host_rises host.LongInt = refl
host_rises host.Char = refl
host_rises host.Boolean = refl
host_rises host.Enumeration = refl

-- a bound that is stored like what is counted
abbrev IsBound : Scope → TypeId → Expression → Type 0
IsBound s ty e = IsTyped s e × AreStoredAlike (definition s.types ty) (sort_of s.types e)

module _ (g : Environment) (s : Scope) (a : Agrees g s) where
  bound_in : (ty : TypeId) (base : Host) (low high : ℤ) → definition s.types ty ≡ Some (type.Ordinal base low high) → (checked : Bool) (e : Expression) → IsOperand s e
      → IsAssignable s.types (sort_of_type s.types ty) (sorts.sort_of s.types e) ty (type_of e)
      → IsBound s ty (assigned_by ty (whole (Some (type.Ordinal base low high))) (stored_of s.types e) checked e)
  bound_in ty base low high is checked e oe k =
      let w : Host = storage_of base low high in
      let stored : stored_as (definition s.types ty) ≡ Some w = ap (λ (o : Option TypeDef). stored_as o) is in
      let given = ordinal_given s a.sound ty base low high is e oe k in
      let rises : least_of w ≤ℤ greatest_of w = rising (least_of w) (greatest_of w) (host_rises w) in
      let kept = stored_typed s a.sound ty w (least_of w) (greatest_of w) rises stored checked e given.1 given.0 in
      let it : IsOrdinal s w (stored_in ty (storage_of w (least_of w) (greatest_of w)) (least_of w) (greatest_of w) (stored_of s.types e) checked e) =
      subst (λ (x : Host). IsOrdinal s w (stored_in ty x (least_of w) (greatest_of w) (stored_of s.types e) checked e)) (sym (stored_whole w)) kept in
      (it.0, record { ordinal = subst (λ (o : Option Host). IsSome o) (sym stored) tt; same = stored ∙ sym it.1 })

  bound_at : (ty : TypeId) (checked : Bool) (e : Expression) → IsOperand s e → IsAssignable s.types (sort_of_type s.types ty) (sorts.sort_of s.types e) ty (type_of e)
      → (d : Option TypeDef) → definition s.types ty ≡ d → HasOrder d → IsBound s ty (assigned_by ty (whole d) (stored_of s.types e) checked e)
  bound_at ty checked e oe k (Some (type.Ordinal base low high)) is h = bound_in ty base low high is checked e oe k
  bound_at ty checked e oe k d is h = absurd h

  bound_here : (place : Place) (ty : TypeId) (checked : Bool) (e b : Expression) → IsOperand s e → HasOrder (definition s.types ty) → (bound_by s.types place ty checked e).holds b → IsBound s ty b
  bound_here place ty checked e b oe order h = subst (λ (x : Expression). IsBound s ty x) (sym h.made) (bound_at ty checked e oe h.asked (definition s.types ty) refl order)

  bound_typed : (checked : Bool) (ty : TypeId) (tree : Tree) (b : Expression) → AreLiterals tree → HasOrder (definition s.types ty) → (bound g checked ty tree).holds b → IsBound s ty b
  bound_typed checked ty tree b l order h =
      bound_here (place_of tree) ty checked h.part b (value_typed g s a tree h.part l h.holds) order
      (at g s a (λ (t : List TypeDef). (bound_by t (place_of tree) ty checked h.part).holds b) h.made)

  -- ---- what is counted by

  abbrev IsCounter : Variable → TypeId → Type 0
  IsCounter v ty = HasVariable s v ty × (v.level ≤ 1) × HasOrder (definition s.types ty)

  near_level : (v : Variable) → IsNear v → v.level ≤ 1
  near_level v (inl h) = omega (arith, h)
  near_level v (inr h) = let zero = h.0 in omega (arith, zero)

  entry_counter : (place : Place) (word : List ℕ) (number : ℕ) (one : Entry) → find g word ≡ Some (named number one) → (c : _) → (counter_entry g place one).holds c → IsCounter c.variable c.ty
  entry_counter place word number (entry.Var unit level n ty) is c h =
      let order = at g s a (λ (t : List TypeDef). HasOrder (definition t ty)) h.asked.1 in
      subst (λ (x : _). IsCounter x.variable x.ty) (sym h.made) (a.known word number (entry.Var unit level n ty) is, near_level (variable g unit level n) h.asked.0, order)
  entry_counter place word number one is c h = absurd h

  meant_counter : (place : Place) (word : List ℕ) (feature : Option Feature) (m : Option Meaning) → find g word ≡ m → (c : _) → (counter_meant g place feature m).holds c → IsCounter c.variable c.ty
  meant_counter place word feature None is c h = absurd h
  meant_counter place word feature (Some (named number one)) is c h = entry_counter place word number one is c h
  meant_counter place word feature (Some (member number one)) is c h = absurd h

  counter_known : (place : Place) (word : List ℕ) (c : _) → (counter g place word).holds c → IsCounter c.variable c.ty
  unfolding counter
  counter_known place word c h = meant_counter place word (feature_of word) (find g word) refl c h

  pub counted_well : (checked : Bool) (place : Place) (word : List ℕ) (first last : Tree) (c : Counted) → AreLiterals first → AreLiterals last → (counted g checked place word first last).holds c
      → IsCounted s c.counter.variable c.counter.ty c.first c.last
  counted_well checked place word first last c lf ll h =
      let one = counter_known place word h.part h.holds in
      let both = h.made in
      let low = bound_typed checked h.part.ty first both.left lf one.2 both.left_holds in
      let high = bound_typed checked h.part.ty last both.right ll one.2 both.right_holds in
      subst (λ (x : Counted). IsCounted s x.counter.variable x.counter.ty x.first x.last) (sym both.made)
      (record { has = one.0; near = one.1; first = low.0; first_like = low.1; last = high.0; last_like = high.1 })
