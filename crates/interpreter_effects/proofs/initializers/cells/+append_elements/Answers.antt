use Rattle.std.proofs.Common.{◌-◌, ◌/◌, ◌%◌, ◌<◌, List, ℕ, [], ◌∷◌, ◌++◌, sym, ap, ◌∙◌, append_assoc, arith}
use Rattle.std.specs.Prelude.{◌==◌, if◌then◌else◌}
use Rattle.std.proofs.lemmas.Result.{on_ok_weaker}
use Rattle.tp_meaning.specs.Shapes.{elements_in}
use Rattle.interpreter_effects.proofs.initializers.Numbers.{elements_more}
use Rattle.interpreter_effects.proofs.initializers.cells.+append_elements.Goals as goal

pub returns : goal.returns
returns t c =
    let some : 0 < c.args.count = omega arith in
    let old = c.args.to.now.items in
    let one : List ℕ = if c.args.byte % 2 == 1 then c.args.element ∷ [] else [] in
    let rest = λ (element : ℕ). elements_in (c.args.count - 1) element (c.args.byte / 2) in
    on_ok_weaker c.append_elements.result (λ e.
    e ∙ ap (λ (l : List ℕ). l ++ rest c.in_ok-next.next) c.in_ok-append_if.ensures
    ∙ append_assoc old one (rest c.in_ok-next.next)
    ∙ ap (λ (element : ℕ). old ++ (one ++ rest element)) c.in_ok-next.ensures
    ∙ ap (λ (l : List ℕ). old ++ l) (sym (elements_more c.args.count c.args.element c.args.byte some))) c.append_elements.ensures
