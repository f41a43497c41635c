-- Calls as statements are well formed.
use Rattle.std.proofs.Common.{◌≡◌, inl, inr, ℕ, ◌==◌, Bool, true, false, cond, List, [], ◌∷◌, Option, Some, None, refl, sym, subst}
use Rattle.std.proofs.Math.IntN.{pos}
use Rattle.tp_check_stmt.specs.type_layout.declared.definitions.Host.TheVariants as host
use Rattle.tp_check_stmt.specs.type_layout.declared.definitions.TypeDef.{TypeDef}
use Rattle.tp_check_stmt.specs.type_layout.declared.definitions.TypeDef.TheVariants as type
use Rattle.tp_check_stmt.specs.type_layout.declared.texts.Place.{Place}
use Rattle.tp_check_stmt.specs.pascal_grammar.declared.lexeme.Position.{Position}
use Rattle.tp_check_stmt.specs.syntax_tree.expression_tree.Trees.{Tree, name, call, Operand, Operands, plain, no_operands, and_operand}
use Rattle.tp_check_stmt.specs.typed_tree.declared.expressions.Value.TheVariants as value
use Rattle.tp_check_stmt.specs.typed_tree.Expressions.{Expression, Const}
use Rattle.tp_check_stmt.specs.typed_tree.Standard as routine
use Rattle.tp_check_stmt.specs.typed_tree.Statements.{Statement, Written, Run}
use Rattle.tp_check_stmt.specs.typed_tree.type_fits.Fits.{definition, stored_as, IsInteger}
use Rattle.rules_well_formed.specs.well_formed.Scopes.{Scope}
use Rattle.rules_well_formed.specs.well_formed.Typed.{IsTyped}
use Rattle.rules_well_formed.specs.well_formed.WellFormed.{IsCall, IsStatement}
use Rattle.tp_check_stmt.specs.scopes.declared.entries.Entry.{Entry}
use Rattle.tp_check_stmt.specs.scopes.declared.entries.Entry.TheVariants as entry
use Rattle.tp_check_stmt.specs.scopes.Environment.{Environment}
use Rattle.tp_check_stmt.specs.typing_rules.Judgements.{Judgement}
use Rattle.tp_check_stmt.specs.typing_rules.Sorts as sorts
use Rattle.tp_check_stmt.specs.call_rules.Given.{performed}
use Rattle.tp_check_stmt.specs.call_rules.method_rules.Calls.{performed_on}
use Rattle.tp_check_stmt.specs.call_rules.procedural_rules.Through.{performed_through}
use Rattle.tp_check_stmt.specs.call_rules.procedure_rules.Procedures.{standard_performed, told}
use Rattle.tp_check_stmt.specs.call_rules.allocation_rules.Allocations.{newly_made, unmade}
use Rattle.tp_check_stmt.specs.tp_check_expr.declared.names.Purpose.TheVariants as purpose
use Rattle.tp_check_stmt.specs.tp_check_expr.Calls.{Callable, declared, method, through, maker}
use Rattle.tp_check_stmt.specs.Places.{Spot, spot_of}
use Rattle.tp_check_stmt.specs.Arguments.{NamedCall, named_call}
use Rattle.tp_check_stmt.specs.Standard.{written, taken, values, halted, left, told_of, misgiven, told_first, told_two, are_two, proceeding, made_to, creating, ended_by, ending, is_creating, Pair, plain_pair, managed, standard_of, standard_run}
use Rattle.tp_check_stmt.specs.Calls.{run_entry, run_target, run_of}
use Rattle.rules_well_formed.specs.nodes.Laws.{IsOperand}
use Rattle.rules_well_formed.proofs.nodes.Ordinals.{value_held, stored_integer}
use Rattle.rules_well_formed.specs.calls.Laws.{AreOperands}
use Rattle.rules_well_formed.proofs.calls.Calls as routines
use Rattle.rules_well_formed.proofs.standard.Arguments.{integer_given}
use Rattle.rules_well_formed.specs.procedures.Laws.{HasOperands}
use Rattle.rules_well_formed.proofs.procedures.Rows as procedures
use Rattle.rules_well_formed.proofs.procedures.Told.{told_typed}
use Rattle.rules_well_formed.proofs.methods.Calls as methods
use Rattle.rules_well_formed.proofs.methods.Through as held
use Rattle.rules_well_formed.proofs.allocations.Makers.{newly_typed}
use Rattle.rules_well_formed.proofs.allocations.Unmakers.{destructor_found, unmade_well}
use Rattle.bodies_well_formed.specs.expressions.Agreeing.{IsKnown}
use Rattle.bodies_well_formed.specs.expressions.Literals.{AreLiterals, AreInOperand, AreInOperands}
use Rattle.bodies_well_formed.proofs.expressions.Names.{at}
use Rattle.bodies_well_formed.proofs.expressions.Called.{IsCallable}
use Rattle.bodies_well_formed.proofs.expressions.Checked.{judged_typed, callable_typed, given_typed}
use Rattle.bodies_well_formed.specs.statements.Within.{AgreesWithin}
use Rattle.bodies_well_formed.proofs.statements.Asked.{spot_known, value_typed, items_typed, all_taken, sized_typed}
use Rattle.bodies_well_formed.proofs.statements.Targets.{assigned_well}
use Rattle.bodies_well_formed.proofs.statements.Performing.{routine_call, method_call, held_call, standard_call, told_call}

-- ---- Halt

-- what is stored as an Integer is one
integer_stored : (one : Option TypeDef) → stored_as one ≡ Some host.Integer → IsInteger one
integer_stored (Some (type.Ordinal host.ShortInt low high)) e = refl
integer_stored (Some (type.Ordinal host.Byte low high)) e = refl
integer_stored (Some (type.Ordinal host.Integer low high)) e = refl
integer_stored (Some (type.Ordinal host.Word low high)) e = refl
integer_stored (Some (type.Ordinal host.LongInt low high)) e = refl
integer_stored one e = let bad : ⊥ = cc in absurd bad

-- ---- Run

-- a choice has what both sides have
either_run : {A : Type 0} (run : A → Judgement Statement) (one : Statement) (Q : Type 0) (b : Bool) (x y : A) → ((run x).holds one → Q) → ((run y).holds one → Q) → (run (cond b x y)).holds one → Q
either_run run one Q true x y f k h = f h
either_run run one Q false x y f k h = k h

ran : (s : Scope) (e : Expression) (one : Statement) → IsTyped s e → IsCall e → one ≡ Run e → IsStatement s one
ran s e one typed is h = subst (λ (x : Statement). IsStatement s x) (sym h) (typed, is)

module _ (g : Environment) (s : Scope) (a : AgreesWithin g s) where
  -- values of arguments
  values_typed : (here : Position) (all : Operands) (es : List Expression) → AreInOperands all → (values g here all).holds es → AreOperands s es
  values_typed here all es l h = given_typed g s a.agrees here [] all es l h

  -- ---- Write, Read, Halt and Exit

  written_well : (line : Bool) (all : Operands) (one : Statement) → AreInOperands all → (written g line all).holds one → IsStatement s one
  written_well line all one l h = subst (λ (x : Statement). IsStatement s x) (sym h.made) (items_typed g s a.agrees all h.part l h.holds)

  taken_well : (here : Position) (line : Bool) (all : Operands) (one : Statement) → AreInOperands all → (taken g here line all).holds one → IsStatement s one
  taken_well here line all one l h = subst (λ (x : Statement). IsStatement s x) (sym h.made) (all_taken g s a.agrees here all h.part l h.holds)

  halted_well : (place : Place) (es : List Expression) (one : Statement) → AreOperands s es → (halted s.types place es).holds one → IsStatement s one
  halted_well place [] one oes h =
      let stored = stored_integer s.types a.agrees.sound in
      let typed : IsTyped s (Const sorts.integer (value.Number (pos 0))) = value_held s.types (definition s.types sorts.integer) host.Integer (pos 0) stored refl in
      subst (λ (x : Statement). IsStatement s x) (sym h) (typed, integer_stored (definition s.types sorts.integer) stored)
  halted_well place (e ∷ []) one oes h = subst (λ (x : Statement). IsStatement s x) (sym h.made) (integer_given s e oes.0 h.asked)
  halted_well place (e ∷ (other ∷ es)) one oes h = absurd h

  left_well : (place : Place) (es : List Expression) (one : Statement) → (left place es).holds one → IsStatement s one
  left_well place [] one h = subst (λ (x : Statement). IsStatement s x) (sym h) tt
  left_well place (e ∷ es) one h = absurd h

  -- ---- standard procedures

  told_well : (here : Position) (first to : Written) (one : Statement) → HasOperands s first → HasOperands s to → (told_of g.types.types here.place first to).holds one → IsStatement s one
  told_well here first to one of ot h =
      let k = at g s a.agrees (λ (t : List TypeDef). (told t here.place first to).holds h.part) h.holds in
      ran s h.part one (told_typed s a.agrees.sound here.place first to h.part of ot k) (told_call g.types.types here.place first to h.part h.holds) h.made

  first_well : (here : Position) (first : Operand) (rest : Operands) (one : Statement) → AreInOperand first → AreInOperands rest → (told_first g here first rest).holds one → IsStatement s one
  first_well here first no_operands one lf lr h = absurd h.made
  first_well here first (and_operand to rest) one lf lr h =
      told_well here h.left h.right one (sized_typed g s a.agrees first h.left lf h.left_holds) (sized_typed g s a.agrees to h.right lr.0 h.right_holds) h.made

  two_well : (here : Position) (all : Operands) (one : Statement) → AreInOperands all → (told_two g here all).holds one → IsStatement s one
  two_well here no_operands one l h = absurd h.made
  two_well here (and_operand first rest) one l h = first_well here first rest one l.0 l.1 h

  telling_by : (here : Position) (all : Operands) (one : Statement) → AreInOperands all → (b : Bool) → cond b ((told_two g here all).holds one) ((misgiven g here all).holds one) → IsStatement s one
  telling_by here all one l true h = two_well here all one l h
  telling_by here all one l false h = absurd h.made

  proceeding_well : (here : Position) (number : ℕ) (all : Operands) (one : Statement) → AreInOperands all → (proceeding g here number all).holds one → IsStatement s one
  proceeding_well here number all one l h =
      let es = h.part in
      let inner = h.made in
      let k = at g s a.agrees (λ (t : List TypeDef). (standard_performed t here.place number es).holds inner.part) inner.holds in
      ran s inner.part one (procedures.performed_typed s a.agrees.sound here.place number es inner.part (values_typed here all es l h.holds) k)
      (standard_call g.types.types here.place number es inner.part inner.holds) inner.made

  -- ---- New with a constructor

  newly : (place : Place) (x e : Expression) → IsOperand s x → (newly_made place x).holds e → IsOperand s e
  newly place x e (inl typed) h = inl (newly_typed s a.agrees.sound place x e typed h)
  newly place x e (inr none) h = absurd (subst (λ (y : Expression). (newly_made place y).holds e) none h)

  made_at : (here : Position) (two : Tree) (e : Expression) (one : Statement) → IsOperand s e → AreLiterals two → (o : Option Spot) → spot_of e ≡ o → (made_to g here two o).holds one → IsStatement s one
  made_at here two e one oe l None is h = absurd h
  made_at here two e one oe l (Some to) is h =
      let making = h.holds in
      let operand = judged_typed g s a.agrees (purpose.Constructor to.ty here.place) two making.part l making.holds in
      assigned_well g s a here to h.part one (spot_known s e to oe is) (newly here.place making.part h.part operand making.made) h.made

  creating_well : (here : Position) (first two : Tree) (one : Statement) → AreLiterals first → AreLiterals two → (creating g here first two).holds one → IsStatement s one
  creating_well here first two one lf lt h = made_at here two h.part one (value_typed g s a.agrees first h.part lf h.holds) lt (spot_of h.part) refl h.made

  -- ---- Dispose with a destructor

  abbrev AreNamed : Option NamedCall → Type 0
  AreNamed None = Unit {0}
  AreNamed (Some one) = AreInOperands one.given

  named_literals : (two : Tree) → AreLiterals two → AreNamed (named_call two)
  named_literals (name here word) l = tt
  named_literals (call here (name there word) given) l = l.1
  named_literals two l = tt

  ended_at : (here : Position) (e : Expression) (o : Option NamedCall) (one : Statement) → IsOperand s e → AreNamed o → (ended_by g here e o).holds one → IsStatement s one
  ended_at here e None one oe l h = absurd h
  ended_at here e (Some by) one oe l h =
      let d = h.part in
      let inner = h.made in
      let unmaker = destructor_found g s a.agrees.has a.agrees.sound here.place e by.word d oe h.holds in
      let operands = given_typed g s a.agrees by.at d.header.params by.given inner.part l inner.holds in
      unmade_well s a.agrees.sound by.at.place by.at.switches.r e d inner.part one unmaker operands
      (at g s a.agrees (λ (t : List TypeDef). (unmade t by.at.place by.at.switches.r e d inner.part).holds one) inner.made)

  ending_well : (here : Position) (first two : Tree) (one : Statement) → AreLiterals first → AreLiterals two → (ending g here first two).holds one → IsStatement s one
  ending_well here first two one lf lt h = ended_at here h.part (named_call two) one (value_typed g s a.agrees first h.part lf h.holds) (named_literals two lt) h.made

  pair_literals : (all : Operands) (two : Pair) → plain_pair all ≡ Some two → AreInOperands all → AreLiterals two.first × AreLiterals two.second
  pair_literals (and_operand (plain first) (and_operand (plain second) no_operands)) two is l =
      let same : (let it : Pair = record { first = first; second = second } in it) ≡ two = cc in
      subst (λ (p : Pair). AreLiterals p.first × AreLiterals p.second) same (l.0, l.1.0)
  pair_literals all two is l = let bad : ⊥ = cc in absurd bad

  managed_by : (here : Position) (first two : Tree) (one : Statement) → AreLiterals first → AreLiterals two → (b : Bool)
      → cond b ((creating g here first two).holds one) ((ending g here first two).holds one) → IsStatement s one
  managed_by here first two one lf lt true h = creating_well here first two one lf lt h
  managed_by here first two one lf lt false h = ending_well here first two one lf lt h

  managed_well : (here : Position) (number : ℕ) (all : Operands) (one : Statement) → AreInOperands all → (o : Option Pair) → plain_pair all ≡ o → (managed g here number all o).holds one → IsStatement s one
  managed_well here number all one l None is h = proceeding_well here number all one l h
  managed_well here number all one l (Some two) is h =
      let both = pair_literals all two is l in
      managed_by here two.first two.second one both.0 both.1 (is_creating number) h

  -- ---- standard routines

  halting : (here : Position) (all : Operands) (one : Statement) (es : List Expression) → AreInOperands all → (values g here all).holds es → (halted g.types.types here.place es).holds one → IsStatement s one
  halting here all one es l k h = halted_well here.place es one (values_typed here all es l k) (at g s a.agrees (λ (t : List TypeDef). (halted t here.place es).holds one) h)

  standard_well : (here : Position) (n : ℕ) (all : Operands) (one : Statement) → AreInOperands all → (standard_run g here n (standard_of n) all).holds one → IsStatement s one
  standard_well here n all one l =
      either_run (λ k. standard_run g here n k all) one (IsStatement s one) (n == routine.write) _ _ (λ h. written_well false all one l h)
      (either_run (λ k. standard_run g here n k all) one (IsStatement s one) (n == routine.write_ln) _ _ (λ h. written_well true all one l h)
      (either_run (λ k. standard_run g here n k all) one (IsStatement s one) (n == routine.read) _ _ (λ h. taken_well here false all one l h)
      (either_run (λ k. standard_run g here n k all) one (IsStatement s one) (n == routine.read_ln) _ _ (λ h. taken_well here true all one l h)
      (either_run (λ k. standard_run g here n k all) one (IsStatement s one) (n == routine.halt) _ _ (λ h. halting here all one h.part l h.holds h.made)
      (either_run (λ k. standard_run g here n k all) one (IsStatement s one) (n == routine.exit) _ _ (λ h. left_well here.place h.part one h.made)
      (either_run (λ k. standard_run g here n k all) one (IsStatement s one) (n == routine.str) _ _ (λ h. telling_by here all one l (are_two all) h)
      (either_run (λ k. standard_run g here n k all) one (IsStatement s one) (n == routine.new) _ _ (λ h. managed_well here n all one l (plain_pair all) refl h)
      (either_run (λ k. standard_run g here n k all) one (IsStatement s one) (n == routine.dispose) _ _ (λ h. managed_well here n all one l (plain_pair all) refl h)
      (λ h. proceeding_well here n all one l h)))))))))

  -- ---- calls

  entry_run : (here : Position) (one : Entry) (all : Operands) (st : Statement) → IsKnown g s one → AreInOperands all → (run_entry g here one all).holds st → IsStatement s st
  entry_run here (entry.Std n) all st known l h = standard_well here n all st l h
  entry_run here (entry.Code routine level header far) all st known l h =
      let es = h.part in
      let inner = h.made in
      let operands = given_typed g s a.agrees here header.params all es l h.holds in
      let k = at g s a.agrees (λ (t : List TypeDef). (performed t here.place here.switches.r routine header es).holds inner.part) inner.holds in
      ran s inner.part st (routines.performed_typed s a.agrees.sound here.place here.switches.r routine header es inner.part known.0 known.1 operands k)
      (routine_call g.types.types here.place here.switches.r routine header es inner.part inner.holds) inner.made
  entry_run here one all st known l h = absurd h.made

  target_run : (here : Position) (one : Callable) (all : Operands) (st : Statement) → IsCallable g s one → AreInOperands all → (run_target g here one all).holds st → IsStatement s st
  target_run here (declared one) all st c l h = entry_run here one all st c l h
  target_run here (method one) all st c l h =
      let es = h.part in
      let inner = h.made in
      let operands = given_typed g s a.agrees here one.header.params all es l h.holds in
      let k = at g s a.agrees (λ (t : List TypeDef). (performed_on t here.place here.switches.r one es).holds inner.part) inner.holds in
      ran s inner.part st (methods.performed_typed s a.agrees.sound here.place here.switches.r one es inner.part c operands k)
      (method_call g.types.types here.place here.switches.r one es inner.part inner.holds) inner.made
  target_run here (through one) all st c l h =
      let es = h.part in
      let inner = h.made in
      let operands = given_typed g s a.agrees here one.header.params all es l h.holds in
      let k = at g s a.agrees (λ (t : List TypeDef). (performed_through t here.place here.switches.r one es).holds inner.part) inner.holds in
      ran s inner.part st (held.performed_typed s a.agrees.sound here.place here.switches.r one es inner.part c operands k)
      (held_call g.types.types here.place here.switches.r one es inner.part inner.holds) inner.made
  target_run here (maker ty one) all st c l h = absurd h

  pub run_well : (here : Position) (callee : Tree) (all : Operands) (one : Statement) → AreLiterals callee → AreInOperands all → (run_of g here callee all).holds one → IsStatement s one
  run_well here callee all one lc la h = target_run here h.part all one (callable_typed g s a.agrees here.place callee h.part lc h.holds) la h.made
