-- What a standard routine does in a run, by what it gives and leaves.
use Rattle.std.proofs.Common.{◌≡◌, ℕ, List, Option, Some, None, refl, sym, ap, subst, ◌∙◌}
use Rattle.std.specs.Prelude.{Result, Ok, Err}
use Rattle.std.specs.Option.{option_map}
use Rattle.typed_tree.specs.declared.units.Program.{Program}
use Rattle.interpreter_store.specs.declared.cell_store.traps.Trap.{Trap}
use Rattle.interpreter_store.specs.declared.cell_store.traps.Stop.{Stop}
use Rattle.interpreter_store.specs.declared.cell_store.traps.Stop.TheVariants as stop
use Rattle.interpreter_store.specs.declared.cell_store.traps.Trap.TheVariants as trap
use Rattle.interpreter_store.specs.cell_store.Finding.{view_trap, Gets}
use Rattle.tp_meaning.specs.Trees.{Value, Void, Block}
use Rattle.tp_meaning.specs.Found.{Found, ◌>>=◌}
use Rattle.tp_meaning.specs.Store.{Store, next_serial}
use Rattle.tp_meaning.specs.Programs.{Sort, sort_in}
use Rattle.type_layout.specs.declared.definitions.TypeId.{TypeId}
use Rattle.tp_meaning.specs.Outcomes.{State, Outcome, Done, and_then, give, found, known, with_store}
use Rattle.tp_meaning.specs.Activations.{Activation}
use Rattle.tp_meaning.specs.Standard.{Operand, Standard, Effect, Gives, Changes, Makes, Asks, target, made, standard, effect_of}
use Rattle.tp_meaning.specs.Expressions.{block_made, effect_done, standard_done}
use Rattle.interpreter_effects.specs.standard_effects.Effects.{effect_left}
use Rattle.interpreter_steps.specs.declared.state.Over.{Over}
use Rattle.interpreter_steps.specs.Running.{Ends, over_of, over_of_trap}
use Rattle.interpreter_steps.specs.Places.{performed}
use Rattle.interpreter_steps.proofs.Ends.{ends_bind, trap_ends}

-- a store that is left
abbrev leaving_in : State → Value × Store → Outcome Value
leaving_in s x = Done x.0 (record s { store = x.1 })

-- the parts of an effect, by what is found
abbrev giving_by : Found Value → State → Found (Value × Store)
giving_by x s = x >>= λ v. Ok (v, s.store)

abbrev changing_by : Found Store → Found (Value × Store)
changing_by x = x >>= λ store. Ok (Void, store)

abbrev changed_by : Found Store → State → Outcome Value
changed_by x s = and_then (and_then (found x s) with_store) (λ done. give Void)

abbrev making_by : Found Store → ℕ → Found (Value × Store)
making_by x serial = x >>= λ store. Ok (Block serial, store)

abbrev made_by : Found Store → ℕ → State → Outcome Value
made_by x serial s = and_then (and_then (and_then (found x s) with_store) (λ done. give serial)) (λ serial. give (Block serial))

abbrev made_left_by : Program → Found Sort → Store → Found (Value × Store)
made_left_by program x store = x >>= λ sort. making_by (made program sort store) (next_serial store)

abbrev block_done_by : Program → Found Sort → State → Outcome Value
block_done_by program x s = and_then (and_then (found x s) (block_made program)) (λ serial. give (Block serial))

gives_done : (x : Found Value) (s : State) (y : Value × Store) → giving_by x s ≡ Ok y → found x s ≡ leaving_in s y
gives_done (Ok v) s y e = let q : (v, s.store) ≡ y = cc in ap (leaving_in s) q
gives_done (Err trap) s y e = absurd cc

changes_done : (x : Found Store) (s : State) (y : Value × Store) → changing_by x ≡ Ok y → changed_by x s ≡ leaving_in s y
changes_done (Ok store) s y e = let q : (Void, store) ≡ y = cc in ap (leaving_in s) q
changes_done (Err trap) s y e = absurd cc

makes_done : (x : Found Store) (serial : ℕ) (s : State) (y : Value × Store) → making_by x serial ≡ Ok y → made_by x serial s ≡ leaving_in s y
makes_done (Ok store) serial s y e = let q : (Block serial, store) ≡ y = cc in ap (leaving_in s) q
makes_done (Err trap) serial s y e = absurd cc

target_done : (program : Program) (x : Found Sort) (s : State) (y : Value × Store) → made_left_by program x s.store ≡ Ok y → block_done_by program x s ≡ leaving_in s y
target_done program (Ok sort) s y e = makes_done (made program sort s.store) (next_serial s.store) s y e
target_done program (Err trap) s y e = absurd cc

pub effect_comes : (program : Program) (effect : Effect) (s : State) (y : Value × Store) → effect_left program effect s.input s.store ≡ Ok y → effect_done program effect s ≡ leaving_in s y
effect_comes program (Gives look) s y e = gives_done (look s.store) s y e
effect_comes program (Changes change) s y e = changes_done (change s.store) s y e
effect_comes program (Makes pointer) s y e = target_done program (target pointer) s y e
effect_comes program (Asks look) s y e = let q : (look s.input, s.store) ≡ y = cc in ap (leaving_in s) q

-- ---- where nothing is found

gives_ends : (x : Found Value) (s : State) (trap : Trap) → giving_by x s ≡ Err (view_trap trap) → Ends (over_of_trap trap) s (found x s)
gives_ends (Ok v) s trap e = absurd cc
gives_ends (Err own) s trap e = trap_ends trap s (Err own) (let q : own ≡ view_trap trap = cc in ap Err q)

changes_ends : (x : Found Store) (s : State) (trap : Trap) → changing_by x ≡ Err (view_trap trap) → Ends (over_of_trap trap) s (changed_by x s)
changes_ends (Ok store) s trap e = absurd cc
changes_ends (Err own) s trap e =
    let q : own ≡ view_trap trap = cc in
    ends_bind (over_of_trap trap) s _ _ (ends_bind (over_of_trap trap) s _ _ (trap_ends {A = Store} trap s (Err own) (ap Err q)))

makes_ends : (x : Found Store) (serial : ℕ) (s : State) (trap : Trap) → making_by x serial ≡ Err (view_trap trap) → Ends (over_of_trap trap) s (made_by x serial s)
makes_ends (Ok store) serial s trap e = absurd cc
makes_ends (Err own) serial s trap e =
    let q : own ≡ view_trap trap = cc in
    ends_bind (over_of_trap trap) s _ _ (ends_bind (over_of_trap trap) s _ _ (ends_bind (over_of_trap trap) s _ _ (trap_ends {A = Store} trap s (Err own) (ap Err q))))

target_ends : (program : Program) (x : Found Sort) (s : State) (trap : Trap) → made_left_by program x s.store ≡ Err (view_trap trap) → Ends (over_of_trap trap) s (block_done_by program x s)
target_ends program (Ok sort) s trap e = makes_ends (made program sort s.store) (next_serial s.store) s trap e
target_ends program (Err own) s trap e =
    let q : own ≡ view_trap trap = cc in
    ends_bind (over_of_trap trap) s _ _ (ends_bind (over_of_trap trap) s _ _ (trap_ends {A = Sort} trap s (Err own) (ap Err q)))

pub effect_ends : (program : Program) (effect : Effect) (s : State) (trap : Trap) → effect_left program effect s.input s.store ≡ Err (view_trap trap) → Ends (over_of_trap trap) s (effect_done program effect s)
effect_ends program (Gives look) s trap e = gives_ends (look s.store) s trap e
effect_ends program (Changes change) s trap e = changes_ends (change s.store) s trap e
effect_ends program (Makes pointer) s trap e = target_ends program (target pointer) s trap e
effect_ends program (Asks look) s trap e = absurd cc

-- ---- a standard routine by its number

performed_is : (program : Program) (f : Activation) (ty : Option TypeId) (number : ℕ) (args : List Operand) (s : State) (one : Standard) (sort : Option Sort)
    → Some one ≡ standard number → sort ≡ option_map (sort_in f.unit) ty → performed program f ty number args s ≡ effect_done program (effect_of program one sort args) s
performed_is program f ty number args s one sort e d =
    ap (λ (o : Option Standard). and_then (known o s) (standard_done program (option_map (sort_in f.unit) ty) args)) (sym e)
    ∙ ap (λ (sort : Option Sort). effect_done program (effect_of program one sort args) s) (sym d)

pub performed_comes : (program : Program) (f : Activation) (ty : Option TypeId) (number : ℕ) (args : List Operand) (s : State) (one : Standard) (sort : Option Sort) (y : Value × Store)
    → Some one ≡ standard number → sort ≡ option_map (sort_in f.unit) ty → effect_left program (effect_of program one sort args) s.input s.store ≡ Ok y
    → performed program f ty number args s ≡ Done y.0 (record s { store = y.1 })
performed_comes program f ty number args s one sort y e d h =
    performed_is program f ty number args s one sort e d ∙ effect_comes program (effect_of program one sort args) s y h

-- the store that is left doesn't matter
ends_with : {A : Type 0} (trap : Trap) (s : State) (store : Store) (o : Outcome A) → Ends (over_of_trap trap) s o → Ends (over_of_trap trap) (record s { store = store }) o
ends_with (trap.Act number) s store o x = x
ends_with (trap.Error code) s store o x = x
ends_with trap.IllTyped s store o x = x

effect_stops : {B : Type 0} (view : B → Value × Store) (program : Program) (effect : Effect) (s : State) (store : Store) (one : Stop) → Gets view (Err one) (effect_left program effect s.input s.store)
    → Ends (over_of one) (record s { store = store }) (effect_done program effect s)
effect_stops view program effect s store stop.OutOfMemory h = tt
effect_stops view program effect s store (stop.Trapped trap) h = ends_with trap s store (effect_done program effect s) (effect_ends program effect s trap h)

pub performed_ends : {B : Type 0} (view : B → Value × Store) (program : Program) (f : Activation) (ty : Option TypeId) (number : ℕ) (args : List Operand) (s : State) (store : Store) (one : Standard) (sort : Option Sort) (why : Stop)
    → Some one ≡ standard number → sort ≡ option_map (sort_in f.unit) ty → Gets view (Err why) (effect_left program (effect_of program one sort args) s.input s.store)
    → Ends (over_of why) (record s { store = store }) (performed program f ty number args s)
performed_ends view program f ty number args s store one sort why e d h =
    subst (Ends (over_of why) (record s { store = store })) (sym (performed_is program f ty number args s one sort e d))
    (effect_stops view program (effect_of program one sort args) s store why h)
