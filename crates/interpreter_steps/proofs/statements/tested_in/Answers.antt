use Rattle.std.proofs.Common.{◌≡◌, Option, subst, ap, ◌∙◌, w32}
use Rattle.std.specs.Prelude.{ℤ}
use Rattle.std.specs.Option.{option_copied}
use Rattle.std.proofs.lemmas.Int.{to_z-of_z}
use Rattle.type_layout.specs.declared.definitions.TypeDef.{TypeDef}
use Rattle.tp_meaning.specs.Programs.{definition, sort_in}
use Rattle.tp_meaning.specs.Statements.{tested}
use Rattle.interpreter_steps.specs.Running.{Comes}
use Rattle.interpreter_steps.proofs.statements.tested_in.Goals as goal

pub returns : goal.returns
returns c = λ s.
    let d : option_copied c.definition.result ≡ definition (sort_in c.args.f.now.unit.now c.args.ty) = c.definition.ensures ∙ ap definition c.sort_in-sort.ensures in
    subst (λ (one : Option TypeDef). Comes {A = ℤ} {B = ℤ} (λ z. z) c.tested.result s (tested c.args.checked one c.args.z s)) d
    (rw (to_z-of_z w32 c.args.z c.ranges.z) at (c.tested.ensures s))
