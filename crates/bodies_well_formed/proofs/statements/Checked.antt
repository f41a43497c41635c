-- Each statement that is typed by the rules is well formed.
use Rattle.std.proofs.Common.{◌≡◌, ◌⊎◌, inl, inr, ℕ, ◌+◌, ◌<◌, ◌≤◌, Bool, true, false, cond, All, List, [], ◌∷◌, ◌++◌, length, Option, Some, None, refl, sym, subst, arith, length-append}
use Rattle.std.proofs.Math.IntN.{ℤ}
use Rattle.std.specs.Prelude.{◌≤ℤ◌, max}
use Rattle.std.proofs.Math.Nat.{le-max_left, le-max_right}
use Rattle.std.proofs.lemmas.Int.{ints}
use Rattle.std.proofs.lemmas.List.Elements.{All-nil, All-cons}
use Rattle.tp_check_stmt.specs.type_layout.declared.definitions.TypeId.{TypeId}
use Rattle.tp_check_stmt.specs.type_layout.declared.definitions.TypeDef.{TypeDef}
use Rattle.tp_check_stmt.specs.type_layout.declared.definitions.TypeDef.TheVariants as type
use Rattle.tp_check_stmt.specs.type_layout.declared.texts.Place.{Place}
use Rattle.tp_check_stmt.specs.syntax_tree.expression_tree.Trees.{Tree}
use Rattle.tp_check_stmt.specs.syntax_tree.statement_tree.Trees.{Label, alone, from_to, Task, Tasks, Branches, empty, assignment, run, compound, choice, selection, while_loop, repeat_loop, for_loop, opened, no_tasks, and_task, no_branches, and_branch}
use Rattle.tp_check_stmt.specs.typed_tree.declared.statements.LabelRange.{LabelRange}
use Rattle.tp_check_stmt.specs.typed_tree.Expressions.{Expression}
use Rattle.tp_check_stmt.specs.typed_tree.Statements.{Statement, If}
use Rattle.tp_check_stmt.specs.typed_tree.type_fits.Fits.{definition, IsRecord, IsObject}
use Rattle.rules_well_formed.specs.well_formed.Scopes.{Scope}
use Rattle.rules_well_formed.specs.well_formed.WellFormed as trees
use Rattle.rules_well_formed.specs.well_formed.WellFormed.{IsLabelled, IsStatement, AreStatements, AreArms}
use Rattle.tp_check_stmt.specs.scopes.Environment.{Environment}
use Rattle.tp_check_stmt.specs.typing_rules.declared.sorts.Sort.{Sort}
use Rattle.tp_check_stmt.specs.typing_rules.Sorts as sorts
use Rattle.tp_check_stmt.specs.Places.{Spot, spot_of}
use Rattle.tp_check_stmt.specs.Labels.{from, label_range, labelled}
use Rattle.tp_check_stmt.specs.Typed.{statements_of, Armed, arms_of, is_empty, HasMembers, opened_spot, held, within, stated, listed, branched}
use Rattle.rules_well_formed.specs.nodes.Laws.{IsOperand}
use Rattle.bodies_well_formed.specs.expressions.Literals.{AreLiterals}
use Rattle.bodies_well_formed.proofs.expressions.Names.{at}
use Rattle.bodies_well_formed.specs.statements.Trees.{HasLiterals, HaveLiterals, HaveInBranches, depth_of, depth_in, depth_among}
use Rattle.bodies_well_formed.specs.statements.Within.{AgreesWithin}
use Rattle.bodies_well_formed.proofs.statements.Opened.{agrees_within}
use Rattle.bodies_well_formed.proofs.statements.Asked.{IsSpot, spot_known, value_typed, condition_typed, selector_typed}
use Rattle.bodies_well_formed.proofs.statements.Targets.{target_known, assigning_well}
use Rattle.bodies_well_formed.proofs.statements.Counting.{counted_well}
use Rattle.bodies_well_formed.proofs.statements.Running.{run_well}

-- ---- labels

no_fall : (n : ℤ) → n ≤ℤ n
no_fall n = omega (arith, ints)

module _ (g : Environment) (by : Sort) where
  range_rises : (one : Label) (r : LabelRange) → (label_range g by one).holds r → IsLabelled r
  range_rises (alone one) r h = subst (λ (x : LabelRange). IsLabelled x) (sym h.made) (no_fall h.part)
  range_rises (from_to low high) r h = subst (λ (x : LabelRange). IsLabelled x) (sym h.made.made) h.made.asked

  pub labels_rise : (seen : List LabelRange) (labels : List Label) (rs : List LabelRange) → (labelled g by seen labels).holds rs → All IsLabelled rs
  labels_rise seen [] rs h = subst (λ (xs : List LabelRange). All IsLabelled xs) (sym h) (All-nil IsLabelled)
  labels_rise seen (one ∷ rest) rs h =
      let new = h.holds in
      let first : IsLabelled h.part = subst (λ (x : LabelRange). IsLabelled x) (sym new.made.made) (range_rises one new.part new.holds) in
      let behind = h.made in
      subst (λ (xs : List LabelRange). All IsLabelled xs) (sym behind.made)
      (All-cons IsLabelled h.part behind.part first (labels_rise (seen ++ h.part ∷ []) rest behind.part behind.holds))

-- ---- what a `with` opens

members_of : (d : Option TypeDef) → HasMembers d → IsRecord d ⊎ IsObject d
members_of (Some (type.RecordOf fields)) h = inl tt
members_of (Some (type.ObjectOf parent dynamic fields methods)) h = inr tt
members_of d h = absurd h

-- a place of a record or an object
abbrev IsOpened : Scope → Spot → Type 0
IsOpened s t = IsSpot s t × (IsRecord (definition s.types t.ty) ⊎ IsObject (definition s.types t.ty))

module _ (g : Environment) (s : Scope) (a : AgreesWithin g s) where
  opened_at : (place : Place) (e : Expression) (t : Spot) → IsOperand s e → (o : Option Spot) → spot_of e ≡ o → (opened_spot g.types.types place o).holds t → IsOpened s t
  opened_at place e t oe None is h = absurd h
  opened_at place e t oe (Some one) is h =
      let k = at g s a.agrees (λ (u : List TypeDef). HasMembers (definition u one.ty)) h.asked in
      subst (λ (x : Spot). IsOpened s x) (sym h.made) (spot_known s e one oe is, members_of (definition s.types one.ty) k)

  opened_known : (place : Place) (tree : Tree) (t : Spot) → AreLiterals tree → (held g place tree).holds t → IsOpened s t
  opened_known place tree t l h = opened_at place h.part t (value_typed g s a.agrees tree h.part l h.holds) (spot_of h.part) refl h.made

-- ---- room for `with`s

fits : (a c n m : ℕ) → a ≤ c → c + n ≤ m → a + n ≤ m
fits a c n m h k = omega (arith, h, k)

left_room : (a b n m : ℕ) → max a b + n ≤ m → a + n ≤ m
left_room a b n m h = fits a (max a b) n m (le-max_left a b) h

right_room : (a b n m : ℕ) → max a b + n ≤ m → b + n ≤ m
right_room a b n m h = fits b (max a b) n m (le-max_right a b) h

some_room : (d n m : ℕ) → (d + 1) + n ≤ m → n < m
some_room d n m h = omega (arith, h)

inner_room : (d m : ℕ) (withs : List TypeId) (ty : TypeId) → (d + 1) + length withs ≤ m → d + length (withs ++ ty ∷ []) ≤ m
inner_room d m withs ty h =
    let l : length (withs ++ ty ∷ []) ≡ length withs + 1 = length-append withs (ty ∷ []) in
    omega (arith, l, h)

-- an empty statement of a list has no node
kept_well : (s : Scope) (one : Statement) (rest : List Statement) → IsStatement s one → AreStatements s (statements_of rest) → (b : Bool) → AreStatements s (statements_of (cond b rest (one ∷ rest)))
kept_well s one rest h k true = k
kept_well s one rest h k false = (h, k)

mutual
  pub stated_well : (task : Task) (g : Environment) (s : Scope) → AgreesWithin g s → (one : Statement) → HasLiterals task → depth_of task + length s.withs ≤ 2147483648 → (stated g task).holds one → IsStatement s one
  stated_well empty g s a one l room h = subst (λ (x : Statement). IsStatement s x) (sym h) tt
  stated_well (assignment here to from) g s a one l room h = assigning_well g s a here from h.part one (target_known g s a to h.part l.0 h.holds) l.1 h.made
  stated_well (run here callee given) g s a one l room h = run_well g s a here callee given one l.0 l.1 h
  stated_well (compound all) g s a one l room h = subst (λ (x : Statement). IsStatement s x) (sym h.made) (listed_well all g s a h.part l room h.holds)
  stated_well (choice here test then other) g s a one l room h =
      let both = h.right_holds in
      let condition = condition_typed g s a.agrees test h.left l.0 h.left_holds in
      let first = stated_well then g s a both.left l.1 (left_room (depth_of then) (depth_of other) (length s.withs) 2147483648 room) both.left_holds in
      let second = stated_well other g s a both.right l.2 (right_room (depth_of then) (depth_of other) (length s.withs) 2147483648 room) both.right_holds in
      subst (λ (x : Statement). IsStatement s x) (sym h.made)
      (subst (λ (p : Statement × Statement). IsStatement s (If h.left p.0 p.1)) (sym both.made) (condition, first, second))
  stated_well (selection here by branches other) g s a one l room h =
      let both = h.made in
      let chosen = selector_typed g s a.agrees by h.part l.0 h.holds in
      let arms = branched_well branches (sorts.sort_of g.types.types h.part) [] g s a both.left l.1 (left_room (depth_among branches) (depth_in other) (length s.withs) 2147483648 room) both.left_holds in
      let rest = listed_well other g s a both.right l.2 (right_room (depth_among branches) (depth_in other) (length s.withs) 2147483648 room) both.right_holds in
      subst (λ (x : Statement). IsStatement s x) (sym both.made) (chosen.0, chosen.1, arms, rest)
  stated_well (while_loop here test body) g s a one l room h =
      subst (λ (x : Statement). IsStatement s x) (sym h.made)
      (condition_typed g s a.agrees test h.left l.0 h.left_holds, stated_well body g s a h.right l.1 room h.right_holds)
  stated_well (repeat_loop here all test) g s a one l room h =
      subst (λ (x : Statement). IsStatement s x) (sym h.made)
      (listed_well all g s a h.left l.0 room h.left_holds, condition_typed g s a.agrees test h.right l.1 h.right_holds)
  stated_well (for_loop here name word first way last body) g s a one l room h =
      subst (λ (x : Statement). IsStatement s x) (sym h.made)
      (counted_well g s a.agrees here.switches.r name.place word first last h.left l.0 l.1 h.left_holds, stated_well body g s a h.right l.2 room h.right_holds)
  stated_well (opened here designator body) g s a one l room h =
      let t = h.part in
      let inner = h.made in
      let there = opened_known g s a here.place designator t l.0 h.holds in
      let agrees = agrees_within g s t.ty a there.0.0 (some_room (depth_of body) (length s.withs) 2147483648 room) in
      let typed = stated_well body (within g t.ty) (trees.within s t.ty) agrees inner.part l.1 (inner_room (depth_of body) 2147483648 s.withs t.ty room) inner.holds in
      subst (λ (x : Statement). IsStatement s x) (sym inner.made) (t.ty, there.0.1, there.1, typed)

  listed_well : (all : Tasks) (g : Environment) (s : Scope) → AgreesWithin g s → (l : List Statement) → HaveLiterals all → depth_in all + length s.withs ≤ 2147483648 → (listed g all).holds l → AreStatements s (statements_of l)
  listed_well no_tasks g s a l k room h = subst (λ (x : List Statement). AreStatements s (statements_of x)) (sym h) tt
  listed_well (and_task one rest) g s a l k room h =
      let first = stated_well one g s a h.left k.0 (left_room (depth_of one) (depth_in rest) (length s.withs) 2147483648 room) h.left_holds in
      let others = listed_well rest g s a h.right k.1 (right_room (depth_of one) (depth_in rest) (length s.withs) 2147483648 room) h.right_holds in
      subst (λ (x : List Statement). AreStatements s (statements_of x)) (sym h.made) (kept_well s h.left h.right first others (is_empty one))

  branched_well : (all : Branches) (by : Sort) (seen : List LabelRange) (g : Environment) (s : Scope) → AgreesWithin g s → (arms : List Armed) → HaveInBranches all → depth_among all + length s.withs ≤ 2147483648
      → (branched g by seen all).holds arms → AreArms s (arms_of arms)
  branched_well no_branches by seen g s a arms k room h = subst (λ (x : List Armed). AreArms s (arms_of x)) (sym h) tt
  branched_well (and_branch labels body rest) by seen g s a arms k room h =
      let both = h.made in
      let first = stated_well body g s a both.left k.0 (left_room (depth_of body) (depth_among rest) (length s.withs) 2147483648 room) both.left_holds in
      let others = branched_well rest by (seen ++ h.part) g s a both.right k.1 (right_room (depth_of body) (depth_among rest) (length s.withs) 2147483648 room) both.right_holds in
      subst (λ (x : List Armed). AreArms s (arms_of x)) (sym both.made) (labels_rise g by seen labels h.part h.holds, first, others)
