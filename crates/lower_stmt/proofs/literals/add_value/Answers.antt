use Rattle.std.proofs.Common.{◌≡◌, [], ◌∷◌, sym, ap, ◌∙◌}
use Rattle.flat_code.specs.Plain.{view_datum}
use Rattle.lower_places.specs.Data.{set_datum, literals_of_value}
use Rattle.lower_stmt.proofs.literals.add_value.Goals as goal

pub returns-in_ok-set_datum-in-Elements : goal.returns-in_ok-set_datum-in-Elements
returns-in_ok-set_datum-in-Elements c =
    let e : literals_of_value c.args.value.now ≡ view_datum c.in_ok-set_datum-in-Elements.field-0 ∷ [] =
    ap literals_of_value c.in-Elements.is ∙ ap (λ z. set_datum z ∷ []) (sym c.as_slice-in-Elements.ensures) ∙ ap (λ z. z ∷ []) (sym c.in_ok-set_datum-in-Elements.ensures) in
    rw e c.add_datum-in-Elements.ensures
