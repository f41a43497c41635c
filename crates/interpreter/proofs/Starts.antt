-- The start of a program, and how its run stands.
use Rattle.std.proofs.Common.{◌≡◌, ℕ, ◌+◌, ◌<◌, Option, Some, None, List, [], ◌∷◌, ◌++◌, length, map, take, get_or, refl, sym, ap, subst, ◌∙◌, append_assoc, append-nil}
use Rattle.std.specs.List.{flat_map}
use Rattle.std.proofs.lemmas.List.{take_more, map_push}
use Rattle.std.proofs.lemmas.List.Concat.{flat_map-cons}
use Rattle.std.proofs.lemmas.Grind.{flat_map-append}
use Rattle.type_layout.specs.declared.definitions.TypeDef.{TypeDef}
use Rattle.typed_tree.specs.declared.units.Global.{Global}
use Rattle.typed_tree.specs.declared.units.Unit.{Unit as TypedUnit}
use Rattle.common_values.specs.Written.{error_text}
use Rattle.std.specs.Prelude.{Result, Ok, Err, false}
use Rattle.common_values.specs.behaviour.Seen.{Seen, Ended}
use Rattle.typed_tree.specs.declared.units.Program.{Program}
use Rattle.tp_meaning.specs.Trees.{Key, Value, Tree}
use Rattle.tp_meaning.specs.Shapes.{first_tree}
use Rattle.tp_meaning.specs.Store.{Object, Store, with_new}
use Rattle.tp_meaning.specs.Outcomes.{State, Outcome, Done, Over, and_then, give}
use Rattle.tp_meaning.specs.Activations.{Activation, variable_object}
use Rattle.tp_meaning.specs.Calls.{entered}
use Rattle.tp_meaning.specs.Meaning.{run, start_store, start_state, all_started, seen_of, seen_so, unit_objects}
use Rattle.interpreter_steps.specs.declared.state.Over.{Over as OverAs}
use Rattle.interpreter_steps.specs.Running.{shown, Ends, Comes}
use Rattle.interpreter_steps.specs.declared.interpreter_frames.frames.Frame.{Frame}
use Rattle.interpreter_steps.specs.interpreter_frames.Frames.{frames_over, nothing_left}
use Rattle.interpreter.specs.Whole.{global_objects}

-- a part behind which nothing is left
pub given : {A : Type 0} (o : Outcome A) → and_then o (λ a. give a) ≡ o
given (Done a s) = refl
given (Over standing s) = refl

-- a part that runs where no frame waits
pub alone : (p : Program) (frames : List Frame) (f : Activation) (o : Outcome Value) → frames ≡ [] → and_then o (λ v. (frames_over p nothing_left frames).value v f) ≡ o
alone p frames f o e = ap (λ (l : List Frame). and_then o (λ v. (frames_over p nothing_left l).value v f)) e ∙ given o

-- what is shown is seen
pub shown_is : (o : Outcome Value) (seen : Seen) → shown o ≡ Some seen → seen_of o ≡ seen
shown_is (Done v s) seen e = absurd cc
shown_is (Over standing s) seen e = cc

pub shown_error : (o : Outcome Value) (s : State) (code : ℕ) (err : List ℕ) → shown o ≡ Some (seen_so (Ended code) (record s { err = s.err ++ error_text code })) → err ≡ s.err ++ error_text code
    → seen_of o ≡ seen_so (Ended code) (record s { err = err })
shown_error o s code err x e =
    shown_is o (seen_so (Ended code) (record s { err = s.err ++ error_text code })) x ∙ ap (λ (l : List ℕ). seen_so (Ended code) (record s { err = l })) (sym e)

-- ---- the globals of a program, one after another

more_made : (old now new : Store) (a b c : List (Option Object)) → now ≡ with_new old a → new ≡ with_new now b → c ≡ a ++ b → new ≡ with_new old c
more_made old now new a b c e f g =
    f ∙ ap (λ (store : Store). with_new store b) e
    ∙ ap (λ (l : List (Option Object)). record { objects = l; rows = old.rows }) (append_assoc old.objects a b)
    ∙ ap (with_new old) (sym g)

pub none_made : (store : Store) → store ≡ with_new store []
none_made store = ap (λ (l : List (Option Object)). record { objects = l; rows = store.rows }) (sym (append-nil store.objects))

pub global_made : (types : List TypeDef) (globals : List Global) (i : ℕ) (one : Global) (tree : Tree) (old now new : Store) → i < length globals → one ≡ get_or globals i one
    → tree ≡ first_tree types one.ty one.first → now ≡ with_new old (global_objects types (take i globals)) → new ≡ with_new now (variable_object tree ∷ []) → new ≡ with_new old (global_objects types (take (i + 1) globals))
global_made types globals i one tree old now new h e t f g =
    let object : Global → Option Object = λ (global : Global). variable_object (first_tree types global.ty global.first) in
    let d : variable_object tree ≡ object one = ap variable_object t in
    more_made old now new (map object (take i globals)) (variable_object tree ∷ []) (map object (take (i + 1) globals)) f g
    (ap (map object) (take_more globals i one h) ∙ map_push object (take i globals) (get_or globals i one)
    ∙ ap (λ (z : Global). map object (take i globals) ++ object z ∷ []) (sym e)
    ∙ ap (λ (z : Option Object). map object (take i globals) ++ z ∷ []) (sym d))

pub unit_made : (units : List TypedUnit) (i : ℕ) (one : TypedUnit) (old now new : Store) → i < length units → one ≡ get_or units i one
    → now ≡ with_new old (flat_map unit_objects (take i units)) → new ≡ with_new now (unit_objects one) → new ≡ with_new old (flat_map unit_objects (take (i + 1) units))
unit_made units i one old now new h e f g =
    let alone : flat_map unit_objects (one ∷ []) ≡ unit_objects one = flat_map-cons unit_objects one [] ∙ append-nil (unit_objects one) in
    more_made old now new (flat_map unit_objects (take i units)) (unit_objects one) (flat_map unit_objects (take (i + 1) units)) f g
    (ap (flat_map unit_objects) (take_more units i one h) ∙ ap (λ (z : TypedUnit). flat_map unit_objects (take i units ++ z ∷ [])) (sym e)
    ∙ flat_map-append unit_objects (take i units) (one ∷ []) ∙ ap (λ (l : List (Option Object)). flat_map unit_objects (take i units) ++ l) alone)

-- a part of a program that starts in an activation and by a name that are those that are meant
pub starts : {B : Type 0} (view : B → Value) (p : Program) (r : Result B OverAs) (s t : State) (frames : List Frame) (f f' : Activation) (key key' : Key) (o : Outcome Value)
    → frames ≡ [] → f ≡ f' → key ≡ key'
    → and_then (entered p (run p) f key None None [] s) (λ v. (frames_over p nothing_left frames).value v f) ≡ o
    → Comes view r t o → Comes view r t (entered p (run p) f' key' None None [] s)
starts view p r s t frames f f' key key' o none same named e x =
    let go : Activation → Key → Outcome Value = λ f key. entered p (run p) f key None None [] s in
    subst (Comes view r t) (sym e ∙ alone p frames f (go f key) none ∙ ap (λ (f : Activation). go f key) same ∙ ap (go f') named) x

pub start_ends : (over : OverAs) (p : Program) (s t : State) (frames : List Frame) (f f' : Activation) (key key' : Key)
    → frames ≡ [] → f ≡ f' → key ≡ key'
    → Ends over t (and_then (entered p (run p) f key None None [] s) (λ v. (frames_over p nothing_left frames).value v f))
    → Ends over t (entered p (run p) f' key' None None [] s)
start_ends over p s t frames f f' key key' none same named x =
    let go : Activation → Key → Outcome Value = λ f key. entered p (run p) f key None None [] s in
    subst (Ends over t) (alone p frames f (go f key) none ∙ ap (λ (f : Activation). go f key) same ∙ ap (go f') named) x

-- the units of a program in the state in which it starts
pub start_is : (p : Program) (input : List ℕ) (turns : ℕ) (units : List TypedUnit) (store : Store) (out err : List ℕ) → units ≡ p.units → store ≡ start_store p → out ≡ [] → err ≡ []
    → all_started p (run p) units (record { turns = turns; store = store; installed = false; input = input; out = out; err = err }) ≡ all_started p (run p) p.units (start_state p input turns)
start_is p input turns units store out err d e f g =
    let go : List TypedUnit → Store → List ℕ → List ℕ → Outcome Value = λ units store out err. all_started p (run p) units (record { turns = turns; store = store; installed = false; input = input; out = out; err = err }) in
    ap (λ (units : List TypedUnit). go units store out err) d ∙ ap (λ (store : Store). go p.units store out err) e ∙ ap (λ (out : List ℕ). go p.units (start_store p) out err) f ∙ ap (go p.units (start_store p) []) g
