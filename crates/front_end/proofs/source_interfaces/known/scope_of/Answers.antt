use Rattle.std.proofs.Common.{◌≡◌, ℕ, true, List, OnOk, ◌∙◌, sym, subst}
use Rattle.scopes.specs.Predeclared.{first}
use Rattle.unit_interface.specs.Resolve.{IsMissing}
use Rattle.unit_interface.specs.Fitting.{uses_fit}
use Rattle.front_end.specs.source_interfaces.Scopes.{AreOnce}
use Rattle.front_end.proofs.source_interfaces.known.scope_of.Goals as goal

pub resolved-requires : goal.resolved-requires
resolved-requires c = record { once = subst AreOnce (c.as_slice.ensures ∙ sym c.as_slice-in-Ok.ensures) c.in-Ok.ensures.once }

pub returns-in-Ok-clause-there : goal.returns-in-Ok-clause-there
returns-in-Ok-clause-there c =
    subst (λ (names : List (List ℕ)). OnOk c.resolved.result ((used : List ℕ) → IsMissing c.args.have.now names used → ⊥)) (c.as_slice-in-Ok.ensures ∙ c.in_ok-names.ensures) c.resolved.ensures.there

pub returns-in-Ok-clause-fits : goal.returns-in-Ok-clause-fits
returns-in-Ok-clause-fits c =
    subst (λ (names : List (List ℕ)). OnOk c.resolved.result (uses_fit c.args.have.now (first c.args.name.now) names ≡ true)) (c.as_slice-in-Ok.ensures ∙ c.in_ok-names.ensures) c.resolved.ensures.fits
