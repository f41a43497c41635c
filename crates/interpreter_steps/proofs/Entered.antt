-- A call in three parts: what comes before the body of its routine, the body, and what comes after.
use Rattle.std.proofs.Common.{◌≡◌, ℕ, Bool, true, false, List, Option, refl, sym, ap, ◌∙◌}
use Rattle.std.specs.Prelude.{◌&&◌, not, Ok}
use Rattle.typed_tree.specs.declared.units.Program.{Program}
use Rattle.typed_tree.specs.Statements.{view_stmt}
use Rattle.tp_meaning.specs.Trees.{Key, Spot, Value}
use Rattle.tp_meaning.specs.Store.{next_serial}
use Rattle.tp_meaning.specs.Outcomes.{State, Outcome, Done, Over, Does, and_then, give, found, looked, changed, raised_if}
use Rattle.tp_meaning.specs.Activations.{Activation, Callee, callee_of, levels_around, opened, class_set}
use Rattle.tp_meaning.specs.Calls.{Runs, Do, activation_of, entered, activated, is_too_deep}
use Rattle.tp_meaning.specs.Programs.{is_overlaid}
use Rattle.interpreter_steps.specs.Entering.{admitted, begun, ended}

-- three parts one after another
pub bind_assoc : {A B C : Type 0} (o : Outcome A) (g : A → Does B) (h : B → Does C) → and_then (and_then o g) h ≡ and_then o (λ a s. and_then (g a s) h)
bind_assoc (Done a s) g h = refl
bind_assoc (Over standing s) g h = refl

-- the same behind every outcome
pub bind_same : {A B : Type 0} (o : Outcome A) (g h : A → Does B) → ((a : A) (s : State) → g a s ≡ h a s) → and_then o g ≡ and_then o h
bind_same (Done a s) g h e = e a s
bind_same (Over standing s) g h e = refl

two_tests : {A : Type 0} (overlaid deep : Bool) (callee : Callee) (go : Callee → Does A) (t : State)
    → and_then (raised_if overlaid 208 t) (λ done s. and_then (raised_if deep 202 s) (λ done. go callee))
    ≡ and_then (and_then (raised_if overlaid 208 t) (λ done s. and_then (raised_if deep 202 s) (λ done. give callee))) go
two_tests true deep callee go t = refl
two_tests false true callee go t = refl
two_tests false false callee go t = refl

-- `entered` is `admitted`, and then `activated`
pub entered_is : (program : Program) (again : Runs) (f : Activation) (key : Key) (own : Option Spot) (class : Option Key) (args : List Value) (s : State)
    → entered program again f key own class args s ≡ and_then (admitted program f key s) (λ callee. activated again callee f own class args)
entered_is program again f key own class args s =
    let go : Callee → Does Value = λ callee. activated again callee f own class args in
    let tests : Callee → Does Value = λ callee t. and_then (raised_if (is_overlaid program key.unit && not t.installed) 208 t) (λ done s. and_then (raised_if (is_too_deep program callee f.sum) 202 s) (λ done. go callee)) in
    let admits : Callee → Does Callee = λ callee t. and_then (raised_if (is_overlaid program key.unit && not t.installed) 208 t) (λ done s. and_then (raised_if (is_too_deep program callee f.sum) 202 s) (λ done. give callee)) in
    bind_same (found (callee_of program key) s) tests (λ callee t. and_then (admits callee t) go) (λ callee t. two_tests (is_overlaid program key.unit && not t.installed) (is_too_deep program callee f.sum) callee go t)
    ∙ sym (bind_assoc (found (callee_of program key) s) admits go)

-- four parts that give something together, and what follows
pub four_parts : {A B C D E F : Type 0} (a : Outcome A) (b : A → Does B) (c : A → B → Does C) (d : A → B → C → Does D) (e : A → B → E) (k : E → Does F)
    → and_then (and_then a (λ x s. and_then (b x s) (λ y t. and_then (c x y t) (λ z u. and_then (d x y z u) (λ w. give (e x y)))))) k
    ≡ and_then a (λ x s. and_then (b x s) (λ y t. and_then (c x y t) (λ z u. and_then (d x y z u) (λ w. k (e x y)))))
four_parts {A} {B} {C} {D} {E} {F} a b c d e k =
    let last : A → B → D → Does E = λ x y w. give (e x y) in
    let four : A → B → C → Does E = λ x y z u. and_then (d x y z u) (last x y) in
    let three : A → B → Does E = λ x y t. and_then (c x y t) (four x y) in
    let two : A → Does E = λ x s. and_then (b x s) (three x) in
    let last' : A → B → D → Does F = λ x y w. k (e x y) in
    let four' : A → B → C → Does F = λ x y z u. and_then (d x y z u) (last' x y) in
    let three' : A → B → Does F = λ x y t. and_then (c x y t) (four' x y) in
    bind_assoc a two k ∙ bind_same a (λ x s. and_then (two x s) k) (λ x s. and_then (b x s) (three' x)) (λ x s.
    bind_assoc (b x s) (three x) k ∙ bind_same (b x s) (λ y t. and_then (three x y t) k) (three' x) (λ y t.
    bind_assoc (c x y t) (four x y) k ∙ bind_same (c x y t) (λ z u. and_then (four x y z u) k) (four' x y) (λ z u.
    bind_assoc (d x y z u) (last x y) k)))

-- what follows the test of a call: its activation, the body, and what it gives
pub activated_is : (again : Runs) (callee : Callee) (f : Activation) (own : Option Spot) (class : Option Key) (args : List Value) (s : State)
    → activated again callee f own class args s
    ≡ and_then (begun callee f own class args s) (λ b. λ t. and_then (again (Do (view_stmt callee.routine.body)) b.0 t) (λ flow. ended callee b.1))
activated_is again callee f own class args s =
    sym (four_parts (found (levels_around callee.routine.outer f.levels) s) (λ levels. looked (λ store. Ok (next_serial store)))
    (λ levels first. changed (opened callee own args)) (λ levels first done. changed (class_set callee own class))
    (λ levels first. (activation_of callee levels first f.sum, first))
    (λ b t. and_then (again (Do (view_stmt callee.routine.body)) b.0 t) (λ flow. ended callee b.1)))
