-- The scope behind further used units.
use Rattle.std.proofs.Common.{◌≡◌, ◌∙◌, List, [], ◌∷◌, map, Ok, refl, ap}
use Rattle.syntax_tree.specs.declared.identifier.Identifier.{Identifier}
use Rattle.scopes.specs.Environment.{Environment}
use Rattle.unit_interface.specs.declared.interfaces.Interface.{Interface}
use Rattle.unit_interface.specs.Resolve.{with_uses}
use Rattle.typing_rules.specs.declared.faults.Refusal.{Refusal}
use Rattle.typing_rules.specs.declared.faults.Refusal.TheVariants as refusal
use Rattle.typing_rules.specs.Judgements.{Judgement, part, FailsAs}
use Rattle.tp_check_decl.specs.Interfaces.{all_used}

-- It is the scope with what each of them brings, one after the other.
pub used_is : (have : List Interface) (g : Environment) (uses : List Identifier) (h : Environment) → (all_used have g uses).holds h → h ≡ with_uses have g (map (λ (one : Identifier). one.name) uses)
used_is have g [] h e = e
used_is have g (one ∷ rest) h e =
    used_is have e.part rest h e.made ∙ ap (λ (k : Environment). with_uses have k (map (λ (each : Identifier). each.name) rest)) e.holds.made

-- ---- a unit of which a further used unit does not fit

-- what is told of a third part is told of the whole, where the parts before it hold
pub fails_behind : {A B X C : Type 0} (j : Judgement A) (i : Judgement B) (u : B → Judgement X) (l : A → B → X → Judgement C) (a : A) (b : B) (e : Refusal) → j.run ≡ Ok a → i.run ≡ Ok b → FailsAs e (u b).run
    → FailsAs e (part j (λ (front : A). part i (λ (d : B). part (u d) (λ (h : X). l front d h)))).run
fails_behind j i u l a b refusal.NoMemory first second fails = tt
fails_behind j i u l a b (refusal.Because fault) first second fails = rw (first, second, fails) refl
