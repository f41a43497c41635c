-- How often a `for` loop turns.
use Rattle.std.proofs.Common.{◌≡◌, ◌≢◌, ℕ, zero, suc, ◌+◌, ◌-◌, ◌≤◌, Bool, true, false, List, Option, Some, None, refl, sym, ap, ◌∙◌, arith}
use Rattle.std.proofs.lemmas.Int.{ints}
use Rattle.std.specs.Prelude.{ℤ, pos, negsuc, ◌+ℤ◌, ◌<ℤ◌, int_lt, Ok, Err}
use Rattle.std.specs.Ordering.{int_eq}
use Rattle.std.proofs.lemmas.Bool.Decides.{Decides-int_eq}
use Rattle.common_values.specs.behaviour.Seen.{Going}
use Rattle.type_layout.specs.declared.definitions.TypeId.{TypeId}
use Rattle.type_layout.specs.declared.definitions.Host.{Host}
use Rattle.type_layout.specs.declared.definitions.TypeDef.{TypeDef}
use Rattle.type_layout.specs.declared.definitions.TypeDef.TheVariants as type
use Rattle.typed_tree.specs.declared.expressions.Variable.{Variable}
use Rattle.typed_tree.specs.declared.units.Program.{Program}
use Rattle.typed_tree.specs.Expressions.{Expression}
use Rattle.typed_tree.specs.Statements.{Statement, For}
use Rattle.common_values.specs.Ordinals.{IsValueOf}
use Rattle.common_values.proofs.OrdinalLemmas.{storage_laws}
use Rattle.typed_tree.specs.type_fits.Fits.{stored_as}
use Rattle.tp_meaning.specs.Trees.{Ordinal, Spot, Tree, holding, unset, part_at, with_part}
use Rattle.tp_meaning.specs.Found.{Found, ◌>>=◌, known}
use Rattle.tp_meaning.specs.Shapes.{stored_among, kept_as}
use Rattle.tp_meaning.specs.Store.{Object, Store, object_at, tree_in, tree_at, value_in, number_of, with_object, replaced_in, replaced, assigned_over}
use Rattle.tp_meaning.specs.Programs.{definition, sort_in}
use Rattle.tp_meaning.specs.Outcomes.{State, Outcome, Done, Over, Does, and_then, ◌>>◌, spent, spending, found, changed, with_store, give}
use Rattle.tp_meaning.specs.Activations.{Reached, Activation, variable_at, number_in, assigned}
use Rattle.tp_meaning.specs.Standard.{number_assigned}
use Rattle.tp_meaning.specs.Calls.{Flow, Next, Turns}
use Rattle.tp_meaning.specs.Statements.{then_next, chosen, tested, counter, counted, step, is_past, turned, turn, number, statement}
use Rattle.tp_meaning.specs.Meaning.{run}
use Rattle.tp_meaning.specs.ForLaws.{IsCounter, LeavesAlone, HasBounds, EndsAfter, GoesOn, ForLaws}
use Rattle.tp_meaning.proofs.Stores.{store_laws}
use Rattle.tp_meaning.proofs.Steps.{run_laws}

-- ---- the variable's cell

abbrev Same : {A : Type 0} → Found A → Found A → Type 0
Same a b = a ≡ b

-- where there is a tree, another one can be put
record Puts (store : Store) (spot : Spot) (tree : Tree) : Type 0 where
  after : Store
  is : replaced store spot tree ≡ Ok after

puts_part : (store : Store) (spot : Spot) (tree cell : Tree) (object : Object) (q : Option Tree) → object_at store spot.object ≡ Some object → part_at object.tree spot.path ≡ q → Same (known q) (Ok cell) → Puts store spot tree
puts_part store spot tree cell object None p r e = absurd (cc e)
puts_part store spot tree cell object (Some old) p r e =
    let after : Store = with_object store spot.object (Some (record { tree = with_part object.tree spot.path tree; bytes = object.bytes })) in
    record { after = after; is = ap (replaced_in store spot tree) p ∙ ap (λ (q : Option Tree). known q >>= λ old. Ok after) r }

puts_in : (store : Store) (spot : Spot) (tree cell : Tree) (o : Option Object) → object_at store spot.object ≡ o → Same (tree_in o spot.path) (Ok cell) → Puts store spot tree
puts_in store spot tree cell None p e = absurd (cc e)
puts_in store spot tree cell (Some object) p e = puts_part store spot tree cell object (part_at object.tree spot.path) p refl e

puts : (store : Store) (spot : Spot) (tree cell : Tree) → tree_at store spot ≡ Ok cell → Puts store spot tree
puts store spot tree cell e = puts_in store spot tree cell (object_at store spot.object) refl e

-- a number assigned to an ordinal variable is there
record Holds (at : Reached) (z : ℤ) (store : Store) : Type 0 where
  after : Store
  is : assigned at (Ordinal z) store ≡ Ok after
  there : number_in at after ≡ Ok z

over_ordinal : (types : List TypeDef) (ty : Option TypeDef) (host : Host) (old : Tree) (z : ℤ) → stored_as ty ≡ Some host → assigned_over types ty old (Ordinal z) ≡ Ok (holding (Ordinal z))
over_ordinal types (Some (type.Ordinal h low high)) host old z p = refl
over_ordinal types (Some (type.Str max)) host old z p = absurd (cc p)
over_ordinal types (Some (type.SetOf base)) host old z p = absurd (cc p)
over_ordinal types (Some (type.ArrayOf index element)) host old z p = absurd (cc p)
over_ordinal types (Some (type.RecordOf fields)) host old z p = absurd (cc p)
over_ordinal types (Some (type.PointerTo target)) host old z p = absurd (cc p)
over_ordinal types (Some (type.ObjectOf parent dynamic fields methods)) host old z p = absurd (cc p)
over_ordinal types (Some (type.Procedural header)) host old z p = absurd (cc p)
over_ordinal types None host old z p = absurd (cc p)

holds : (at : Reached) (host : Host) (z : ℤ) (store : Store) (cell : Tree) → stored_as (definition at.sort) ≡ Some host → tree_at store at.spot ≡ Ok cell → Holds at z store
holds at host z store cell p q =
    let x = puts store at.spot (holding (Ordinal z)) cell q in
    let types = at.sort.table.types in
    let after : Tree → Found Store = replaced store at.spot in
    record {
      after = x.after;
      is = ap (λ (old : Found Tree). old >>= λ old. assigned_over types (definition at.sort) old (Ordinal z) >>= after) q
          ∙ ap (λ (tree : Found Tree). tree >>= after) (over_ordinal types (definition at.sort) host cell z p) ∙ x.is;
      there = ap (λ (tree : Found Tree). tree >>= value_in >>= number_of) ((store_laws store).here at.spot (holding (Ordinal z)) x.after x.is);
    }

-- the number that a place holds is a tree there
record IsThere (at : Reached) (store : Store) : Type 0 where
  cell : Tree
  is : tree_at store at.spot ≡ Ok cell

there_by : (at : Reached) (store : Store) (z : ℤ) (r : Found Tree) → tree_at store at.spot ≡ r → Same (r >>= value_in >>= number_of) (Ok z) → IsThere at store
there_by at store z (Ok cell) p e = record { cell = cell; is = p }
there_by at store z (Err trap) p e = absurd (cc e)

there : (at : Reached) (store : Store) (z : ℤ) → number_in at store ≡ Ok z → IsThere at store
there at store z e = there_by at store z (tree_at store at.spot) refl e

-- a number of the type is assigned as it is
kept_holds : (at : Reached) (host : Host) (z : ℤ) (store : Store) → stored_as (definition at.sort) ≡ Some host → kept_as host z ≡ z → number_assigned at z store ≡ assigned at (Ordinal z) store
kept_holds at host z store p q =
    ap (λ (h : Option Host). known h >>= λ h. assigned at (Ordinal (kept_as h z)) store) p ∙ ap (λ (w : ℤ). assigned at (Ordinal w) store) q

-- ---- the end of a turn

found_is : {A B : Type 0} (x : Found A) (a : A) (s : State) (go : A → Does B) → x ≡ Ok a → and_then (found x s) go ≡ go a s
found_is x a s go p = ap (λ (x : Found _). and_then (found x s) go) p

record Ends (o : Outcome Flow) (s : State) (turns : ℕ) : Type 0 where
  end : State
  is : o ≡ Done Next end
  spent : end.turns + turns ≡ s.turns

-- the loop is over
counted_ends : (program : Program) (f : Activation) (variable : Variable) (at : Reached) (cell : Tree) (s : State) → variable_at program f variable s.store ≡ Ok at → tree_at s.store at.spot ≡ Ok cell → Ends (counted program f variable s) s 0
counted_ends program f variable at cell s p q =
    let x = puts s.store at.spot unset cell q in
    let rest : Reached → Does Flow = λ at. changed (λ store. replaced store at.spot unset) >> give Next in
    record {
      end = record s { store = x.after };
      is = found_is (variable_at program f variable s.store) at s rest p ∙ ap (λ (r : Found Store). and_then (and_then (found r s) with_store) (λ _. give Next)) x.is;
      spent = omega arith;
    }

-- what follows once the variable is read
abbrev after_turn : Program → Activation → Variable → ℤ → Bool → Statement → Reached → ℤ → Does Flow
after_turn program f variable last down body at z =
    chosen (int_eq z last) (counted program f variable) (changed (number_assigned at (z +ℤ step down)) >> run program (Turns variable last down body) f)

turned_is : (program : Program) (f : Activation) (variable : Variable) (last : ℤ) (down : Bool) (body : Statement) (at : Reached) (z : ℤ) (t : State) → variable_at program f variable t.store ≡ Ok at → number_in at t.store ≡ Ok z → turned program (run program) f variable last down body t ≡ after_turn program f variable last down body at z t
turned_is program f variable last down body at z t p q =
    let rest : Reached → Does Flow = λ at s. and_then (found (number_in at s.store) s) (after_turn program f variable last down body at) in
    found_is (variable_at program f variable t.store) at t rest p ∙ found_is (number_in at t.store) z t (after_turn program f variable last down body at) q

same_number : (z last : ℤ) → z ≡ last → int_eq z last ≡ true
same_number z last p = (Decides-int_eq z last).1 p

not_true : (b : Bool) → (b ≡ true → ⊥) → b ≡ false
not_true true p = absurd (p refl)
not_true false p = refl

other_number : (z last : ℤ) → z ≢ last → int_eq z last ≡ false
other_number z last p = not_true (int_eq z last) (λ e. p ((Decides-int_eq z last).0 e))

-- a turn that is there is spent
spending_is : {A : Type 0} (go : Does A) (s : State) (turns : ℕ) → s.turns ≡ suc turns → spending go s ≡ go (record s { turns = turns })
spending_is go s turns p = ap (λ n. spent n go s) p

-- ---- all turns

-- so many steps lead from a number to the last one, and none of them wraps
abbrev Reaches : Host → Bool → ℕ → ℤ → ℤ → Type 0
Reaches host down zero z last = z ≡ last
Reaches host down (suc n) z last = (z ≢ last) × (kept_as host (z +ℤ step down) ≡ z +ℤ step down) × Reaches host down n (z +ℤ step down) last

-- a turn, up to the end of its body
record Turned (program : Program) (f : Activation) (variable : Variable) (last : ℤ) (down : Bool) (body : Statement) (at : Reached) (z : ℤ) (s : State) : Type 0 where
  after : State
  is : run program (Turns variable last down body) f s ≡ after_turn program f variable last down body at z after
  number : number_in at after.store ≡ Ok z
  spent : after.turns + 1 ≡ s.turns

one_turn : (program : Program) (f : Activation) (variable : Variable) (last : ℤ) (down : Bool) (body : Statement) (at : Reached) (host : Host) (z : ℤ) (s : State) → IsCounter program f variable at host → LeavesAlone program f at body → number_in at s.store ≡ Ok z → 1 ≤ s.turns → Turned program f variable last down body at z s
one_turn program f variable last down body at host z s counter alone p l =
    let k = s.turns - 1 in
    let e : s.turns ≡ suc k = omega (arith, l) in
    let r : State = record s { turns = k } in
    let ends = alone.ends r z p in
    let t = ends.0 in
    let rest : Flow → Does Flow = λ flow. then_next flow (turned program (run program) f variable last down body) in
    let go : Does Flow = λ s. and_then (statement program (run program) f body s) rest in
    record {
      after = t;
      is = (run_laws program).steps (Turns variable last down body) f s
          ∙ spending_is go s k e
          ∙ ap (λ (o : Outcome Flow). and_then o rest) ends.1
          ∙ turned_is program f variable last down body at z t (counter.place t.store) ends.2;
      number = ends.2;
      spent = omega (arith, e, ends.3);
    }

-- the loop's last turn
last_turn : (program : Program) (f : Activation) (variable : Variable) (last : ℤ) (down : Bool) (body : Statement) (at : Reached) (host : Host) (z : ℤ) (t : State) → IsCounter program f variable at host → number_in at t.store ≡ Ok z → z ≡ last → Ends (after_turn program f variable last down body at z t) t 0
last_turn program f variable last down body at host z t counter p q =
    let cell = there at t.store z p in
    let done = counted_ends program f variable at cell.cell t (counter.place t.store) cell.is in
    let other : Does Flow = changed (number_assigned at (z +ℤ step down)) >> run program (Turns variable last down body) f in
    record {
      end = done.end;
      is = ap (λ b. chosen b (counted program f variable) other t) (same_number z last q) ∙ done.is;
      spent = done.spent;
    }

-- a turn that another one follows: the variable is stepped
record Steps (program : Program) (f : Activation) (variable : Variable) (last : ℤ) (down : Bool) (body : Statement) (at : Reached) (z : ℤ) (t : State) : Type 0 where
  after : State
  is : after_turn program f variable last down body at z t ≡ run program (Turns variable last down body) f after
  number : number_in at after.store ≡ Ok (z +ℤ step down)
  spent : after.turns ≡ t.turns

next_turn : (program : Program) (f : Activation) (variable : Variable) (last : ℤ) (down : Bool) (body : Statement) (at : Reached) (host : Host) (z : ℤ) (t : State) → IsCounter program f variable at host → number_in at t.store ≡ Ok z → z ≢ last → kept_as host (z +ℤ step down) ≡ z +ℤ step down → Steps program f variable last down body at z t
next_turn program f variable last down body at host z t counter p q kept =
    let w = z +ℤ step down in
    let cell = there at t.store z p in
    let x = holds at host w t.store cell.cell counter.stored cell.is in
    let again : Does Flow = run program (Turns variable last down body) f in
    let other : Does Flow = changed (number_assigned at w) >> again in
    record {
      after = record t { store = x.after };
      is = ap (λ b. chosen b (counted program f variable) other t) (other_number z last q)
          ∙ ap (λ (r : Found Store). and_then (and_then (found r t) with_store) (λ _. again)) (kept_holds at host w t.store counter.stored kept ∙ x.is);
      number = x.there;
      spent = refl;
    }

all_turns : (program : Program) (f : Activation) (variable : Variable) (last : ℤ) (down : Bool) (body : Statement) (at : Reached) (host : Host) (n : ℕ) (z : ℤ) (s : State) → IsCounter program f variable at host → LeavesAlone program f at body → Reaches host down n z last → number_in at s.store ≡ Ok z → n + 1 ≤ s.turns → Ends (run program (Turns variable last down body) f s) s (n + 1)
all_turns program f variable last down body at host zero z s counter alone r p l =
    let t = one_turn program f variable last down body at host z s counter alone p (omega (arith, l)) in
    let done = last_turn program f variable last down body at host z t.after counter t.number r in
    record { end = done.end; is = t.is ∙ done.is; spent = omega (arith, t.spent, done.spent) }
all_turns program f variable last down body at host (suc n) z s counter alone r p l =
    let t = one_turn program f variable last down body at host z s counter alone p (omega (arith, l)) in
    let u = next_turn program f variable last down body at host z t.after counter t.number r.0 r.1 in
    let done = all_turns program f variable last down body at host n (z +ℤ step down) u.after counter alone r.2 u.number (omega (arith, l, t.spent, u.spent)) in
    record { end = done.end; is = t.is ∙ u.is ∙ done.is; spent = omega (arith, t.spent, u.spent, done.spent) }

record Goes (o : Outcome Flow) : Type 0 where
  end : State
  is : o ≡ Over Going end

none_left : {A : Type 0} (go : Does A) (s : State) → s.turns ≡ 0 → spending go s ≡ Over Going s
none_left go s p = ap (λ n. spent n go s) p

no_turn : (program : Program) (f : Activation) (variable : Variable) (last : ℤ) (down : Bool) (body : Statement) (s : State) → s.turns ≡ 0 → Goes (run program (Turns variable last down body) f s)
no_turn program f variable last down body s p =
    let rest : Flow → Does Flow = λ flow. then_next flow (turned program (run program) f variable last down body) in
    let go : Does Flow = λ s. and_then (statement program (run program) f body s) rest in
    record { end = s; is = (run_laws program).steps (Turns variable last down body) f s ∙ none_left go s p }

few_turns : (program : Program) (f : Activation) (variable : Variable) (last : ℤ) (down : Bool) (body : Statement) (at : Reached) (host : Host) (n turns : ℕ) (z : ℤ) (s : State) → IsCounter program f variable at host → LeavesAlone program f at body → Reaches host down n z last → number_in at s.store ≡ Ok z → s.turns ≡ turns → turns ≤ n → Goes (run program (Turns variable last down body) f s)
few_turns program f variable last down body at host n zero z s counter alone r p e l = no_turn program f variable last down body s e
few_turns program f variable last down body at host zero (suc turns) z s counter alone r p e l = absurd (omega (arith, l))
few_turns program f variable last down body at host (suc n) (suc turns) z s counter alone r p e l =
    let t = one_turn program f variable last down body at host z s counter alone p (omega (arith, e)) in
    let u = next_turn program f variable last down body at host z t.after counter t.number r.0 r.1 in
    let done = few_turns program f variable last down body at host n turns (z +ℤ step down) u.after counter alone r.2 u.number (omega (arith, e, t.spent, u.spent)) (omega (arith, l)) in
    record { end = done.end; is = t.is ∙ u.is ∙ done.is }

-- ---- bounds

up_reaches : (host : Host) (n : ℕ) (first last : ℤ) → IsValueOf (stored_among host) first → IsValueOf (stored_among host) last → last ≡ first +ℤ pos n → Reaches host false n first last
up_reaches host zero first last p q e = omega (arith, ints, e)
up_reaches host (suc n) first last p q e =
    let low = p.0 in
    let high = q.1 in
    let next : IsValueOf (stored_among host) (first +ℤ pos 1) = (omega (arith, ints, low), omega (arith, ints, high, e)) in
    (λ same. omega (arith, ints, e, same), (storage_laws (stored_among host)).same (first +ℤ pos 1) next, up_reaches host n (first +ℤ pos 1) last next q (omega (arith, ints, e)))

down_reaches : (host : Host) (n : ℕ) (first last : ℤ) → IsValueOf (stored_among host) first → IsValueOf (stored_among host) last → first ≡ last +ℤ pos n → Reaches host true n first last
down_reaches host zero first last p q e = omega (arith, ints, e)
down_reaches host (suc n) first last p q e =
    let high = p.1 in
    let low = q.0 in
    let next : IsValueOf (stored_among host) (first +ℤ negsuc 0) = (omega (arith, ints, low, e), omega (arith, ints, high)) in
    (λ same. omega (arith, ints, e, same), (storage_laws (stored_among host)).same (first +ℤ negsuc 0) next, down_reaches host n (first +ℤ negsuc 0) last next q (omega (arith, ints, e)))

not_past_up : (first last : ℤ) (n : ℕ) → last ≡ first +ℤ pos n → is_past false first last ≡ false
not_past_up first last n e = grind (arith, ints, e)

not_past_down : (first last : ℤ) (n : ℕ) → first ≡ last +ℤ pos n → is_past true first last ≡ false
not_past_down first last n e = grind (arith, ints, e)

past : (a b : ℤ) → a <ℤ b → int_lt a b ≡ true
past a b p = grind (arith, ints, p)

-- ---- whole loops

abbrev begun : Program → Activation → Variable → TypeId → Bool → Statement → ℤ → ℤ → Does Flow
begun program f variable ty down body first last s =
    and_then (tested false (definition (sort_in f.unit ty)) first s) (λ low s.
    and_then (tested false (definition (sort_in f.unit ty)) last s) (λ high s.
    and_then (counter program f variable s) (λ at s.
    and_then (changed (assigned at (Ordinal low)) s) (λ _.
    turn program (run program) f variable high down body (statement program (run program) f body)))))

abbrev bounded : Program → Activation → Variable → TypeId → Bool → Statement → ℤ → ℤ → Does Flow
bounded program f variable ty down body first last = chosen (is_past down first last) (give Next) (begun program f variable ty down body first last)

for_is : (program : Program) (f : Activation) (variable : Variable) (ty : TypeId) (down : Bool) (body : Statement) (at : Reached) (first last : ℤ) (from to : Expression) (s : State) → HasBounds program f at from to first last s → statement program (run program) f (For variable ty from to down false body) s ≡ bounded program f variable ty down body first last s
for_is program f variable ty down body at first last from to s bounds =
    ap (λ (o : Outcome ℤ). and_then o (λ first s. and_then (number program (run program) f to s) (bounded program f variable ty down body first))) bounds.first_is
    ∙ ap (λ (o : Outcome ℤ). and_then o (bounded program f variable ty down body first)) bounds.last_is

-- where the last value isn't passed, the variable takes the first one, and the turns follow
record Begins (program : Program) (f : Activation) (variable : Variable) (ty : TypeId) (down : Bool) (body : Statement) (at : Reached) (first last : ℤ) (from to : Expression) (s : State) : Type 0 where
  after : State
  is : statement program (run program) f (For variable ty from to down false body) s ≡ run program (Turns variable last down body) f after
  number : number_in at after.store ≡ Ok first
  spent : after.turns ≡ s.turns

begins : (program : Program) (f : Activation) (variable : Variable) (ty : TypeId) (down : Bool) (body : Statement) (at : Reached) (host : Host) (first last : ℤ) (from to : Expression) (s : State) → IsCounter program f variable at host → HasBounds program f at from to first last s → is_past down first last ≡ false → Begins program f variable ty down body at first last from to s
begins program f variable ty down body at host first last from to s counter bounds p =
    let x = holds at host first s.store bounds.cell counter.stored bounds.there in
    let after : State = record s { store = x.after } in
    let turns : Does Flow = turn program (run program) f variable last down body (statement program (run program) f body) in
    let rest : Reached → Does Flow = λ at s. and_then (changed (assigned at (Ordinal first)) s) (λ _. turns) in
    record {
      after = after;
      is = for_is program f variable ty down body at first last from to s bounds
          ∙ ap (λ b. chosen b (give Next) (begun program f variable ty down body first last) s) p
          ∙ found_is (variable_at program f variable s.store) at s rest (counter.place s.store)
          ∙ ap (λ (r : Found Store). and_then (and_then (found r s) with_store) (λ _. turns)) x.is
          ∙ sym ((run_laws program).steps (Turns variable last down body) f after);
      number = x.there;
      spent = refl;
    }

ends_after : (program : Program) (f : Activation) (variable : Variable) (ty : TypeId) (down : Bool) (body : Statement) (at : Reached) (host : Host) (n : ℕ) (first last : ℤ) (from to : Expression) (s : State) → IsCounter program f variable at host → LeavesAlone program f at body → HasBounds program f at from to first last s → is_past down first last ≡ false → Reaches host down n first last → n + 1 ≤ s.turns → EndsAfter program f (For variable ty from to down false body) s (n + 1)
ends_after program f variable ty down body at host n first last from to s counter alone bounds p r l =
    let b = begins program f variable ty down body at host first last from to s counter bounds p in
    let done = all_turns program f variable last down body at host n first b.after counter alone r b.number (omega (arith, l, b.spent)) in
    record { end = done.end; is = b.is ∙ done.is; spent = omega (arith, done.spent, b.spent) }

goes_on : (program : Program) (f : Activation) (variable : Variable) (ty : TypeId) (down : Bool) (body : Statement) (at : Reached) (host : Host) (n : ℕ) (first last : ℤ) (from to : Expression) (s : State) → IsCounter program f variable at host → LeavesAlone program f at body → HasBounds program f at from to first last s → is_past down first last ≡ false → Reaches host down n first last → s.turns ≤ n → GoesOn program f (For variable ty from to down false body) s
goes_on program f variable ty down body at host n first last from to s counter alone bounds p r l =
    let b = begins program f variable ty down body at host first last from to s counter bounds p in
    let done = few_turns program f variable last down body at host n s.turns first b.after counter alone r b.number b.spent l in
    record { end = done.end; is = b.is ∙ done.is }

no_turns : (program : Program) (f : Activation) (variable : Variable) (ty : TypeId) (down : Bool) (body : Statement) (at : Reached) (first last : ℤ) (from to : Expression) (s : State) → HasBounds program f at from to first last s → is_past down first last ≡ true → statement program (run program) f (For variable ty from to down false body) s ≡ Done Next s
no_turns program f variable ty down body at first last from to s bounds p =
    for_is program f variable ty down body at first last from to s bounds
    ∙ ap (λ b. chosen b (give Next) (begun program f variable ty down body first last) s) p

pub for_laws : (program : Program) (f : Activation) (variable : Variable) (ty : TypeId) (body : Statement) (at : Reached) (host : Host) → IsCounter program f variable at host → LeavesAlone program f at body → ForLaws program f variable ty body at host
for_laws program f variable ty body at host counter alone = record {
  up = λ first last n from to s bounds p q e l.
      ends_after program f variable ty false body at host n first last from to s counter alone bounds (not_past_up first last n e) (up_reaches host n first last p q e) l;
  down = λ first last n from to s bounds p q e l.
      ends_after program f variable ty true body at host n first last from to s counter alone bounds (not_past_down first last n e) (down_reaches host n first last p q e) l;
  up_on = λ first last n from to s bounds p q e l.
      goes_on program f variable ty false body at host n first last from to s counter alone bounds (not_past_up first last n e) (up_reaches host n first last p q e) l;
  down_on = λ first last n from to s bounds p q e l.
      goes_on program f variable ty true body at host n first last from to s counter alone bounds (not_past_down first last n e) (down_reaches host n first last p q e) l;
  up_none = λ first last from to s bounds p. no_turns program f variable ty false body at first last from to s bounds (past last first p);
  down_none = λ first last from to s bounds p. no_turns program f variable ty true body at first last from to s bounds (past first last p);
}
