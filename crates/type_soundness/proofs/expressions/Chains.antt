-- One part of a program and then another, in a world that may grow.
use Rattle.std.proofs.Common.{List, ◌++◌}
use Rattle.program_typing.specs.typed_tree.declared.units.Program.{Program}
use Rattle.program_typing.specs.tp_meaning.Outcomes.{State, Outcome, Does, and_then}
use Rattle.program_typing.specs.store_typing.stores.Worlds.{Made, World}
use Rattle.program_typing.specs.programs.Outcomes.{IsTypedState, world, Ends}
use Rattle.program_typing.proofs.programs.Ends.{ends_bind}

-- what holds of the objects that were made, and goes on to hold as more are made
pub record Kept : Type 1 where
  pub holds : List Made → Type 0
  pub keep : (made more : List Made) → holds made → holds (made ++ more)

-- both of two
abbrev pub both : Kept → Kept → Kept
both a b = record {
  holds = λ made. a.holds made × b.holds made;
  keep = λ made more h. (a.keep made more h.0, b.keep made more h.1);
}

module _ (program : Program) (kept : Kept) where
  pub chain : {A B : Type 0} (P : World → A → Type 0) (Q : World → B → Type 0) (made : List Made) (o : Outcome A) (go : A → Does B) → kept.holds made → Ends (world program made) P o
      → ((made' : List Made) (a : A) (t : State) → kept.holds made' → IsTypedState (world program made') t → P (world program made') a → Ends (world program made') Q (go a t))
      → Ends (world program made) Q (and_then o go)
  chain P Q made o go k h next = ends_bind P (world program made) Q o go h (λ more a t typed is. next (made ++ more) a t (kept.keep made more k) typed is)
