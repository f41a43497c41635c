-- The beginning of a loop.
use Rattle.std.proofs.Common.{◌≡◌, Bool, refl, sym, ap, subst, ◌∙◌}
use Rattle.std.specs.Prelude.{ℤ}
use Rattle.type_layout.specs.declared.definitions.TypeId.{TypeId}
use Rattle.typed_tree.specs.declared.expressions.Variable.{Variable}
use Rattle.typed_tree.specs.declared.units.Program.{Program}
use Rattle.tp_meaning.specs.Trees.{Ordinal}
use Rattle.tp_meaning.specs.Programs.{definition, sort_in}
use Rattle.tp_meaning.specs.Outcomes.{State, Outcome, Done, Does, and_then, give, changed}
use Rattle.tp_meaning.specs.Activations.{Reached, Activation, assigned}
use Rattle.tp_meaning.specs.Statements.{tested, counter}
use Rattle.interpreter_steps.specs.declared.state.Over.{Over}
use Rattle.interpreter_steps.specs.Running.{Ends}
use Rattle.interpreter_steps.specs.StatementParts.{begun_at, counted_at}
use Rattle.interpreter_steps.proofs.Ends.{ends_bind}
use Rattle.interpreter_steps.proofs.Entered.{bind_assoc}

-- the variable gets its first value, where both bounds were tested
begun_is : (p : Program) (f : Activation) (variable : Variable) (ty : TypeId) (checked : Bool) (first last low high : ℤ) (s : State)
    → tested checked (definition (sort_in f.unit ty)) first s ≡ Done low s → tested checked (definition (sort_in f.unit ty)) last s ≡ Done high s
    → begun_at p f variable ty checked first last s ≡ and_then (counted_at p f variable low s) (λ done. give high)
begun_is p f variable ty checked first last low high s d e =
    let stored : ℤ → ℤ → Does ℤ = λ low high t. and_then (counter p f variable t) (λ at u. and_then (changed (assigned at (Ordinal low)) u) (λ done. give high)) in
    let second : ℤ → Does ℤ = λ low t. and_then (tested checked (definition (sort_in f.unit ty)) last t) (stored low) in
    ap (λ (o : Outcome ℤ). and_then o second) d
    ∙ ap (λ (o : Outcome ℤ). and_then o (stored low)) e
    ∙ sym (bind_assoc (counter p f variable s) (λ (at : Reached). changed (assigned at (Ordinal low))) (λ done. give high))

pub begun_comes : (p : Program) (f : Activation) (variable : Variable) (ty : TypeId) (checked : Bool) (first last low high : ℤ) (s t : State)
    → tested checked (definition (sort_in f.unit ty)) first s ≡ Done low s → tested checked (definition (sort_in f.unit ty)) last s ≡ Done high s
    → counted_at p f variable low s ≡ Done tt t → begun_at p f variable ty checked first last s ≡ Done high t
begun_comes p f variable ty checked first last low high s t d e x =
    begun_is p f variable ty checked first last low high s d e ∙ ap (λ (o : Outcome (Unit {0})). and_then o (λ done. give high)) x

pub begun_ends : (over : Over) (p : Program) (f : Activation) (variable : Variable) (ty : TypeId) (checked : Bool) (first last low high : ℤ) (s t : State)
    → tested checked (definition (sort_in f.unit ty)) first s ≡ Done low s → tested checked (definition (sort_in f.unit ty)) last s ≡ Done high s
    → Ends over t (counted_at p f variable low s) → Ends over t (begun_at p f variable ty checked first last s)
begun_ends over p f variable ty checked first last low high s t d e x =
    subst (Ends over t) (sym (begun_is p f variable ty checked first last low high s d e)) (ends_bind over t (counted_at p f variable low s) (λ done. give high) x)
