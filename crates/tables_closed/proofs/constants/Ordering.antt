-- A table stays ordered with a further type that it takes.
use Rattle.std.proofs.Common.{◌≡◌, ◌∙◌, ℕ, ◌+◌, ◌<◌, ◌≤◌, All, List, [], ◌∷◌, ◌++◌, length, Option, Some, None, refl, ap, arith, append_assoc, length-append}
use Rattle.std.specs.Prelude.{position}
use Rattle.std.proofs.lemmas.List.Elements.{All-push, All-weaker}
use Rattle.std.proofs.lemmas.List.Quantifiers.{position-Some}
use Rattle.tp_check_decl.specs.type_layout.declared.definitions.TypeDef.{TypeDef}
use Rattle.tp_check_decl.specs.type_layout.declared.definitions.Origin.{Origin}
use Rattle.tp_check_decl.specs.type_layout.declared.layout.Layout.{Layout}
use Rattle.tp_check_decl.specs.type_layout.Words.{same_bytes}
use Rattle.tp_check_decl.specs.type_layout.Layouts.{layout_by, layouts_of, size_over}
use Rattle.tp_check_decl.specs.type_layout.Table.{Table, IsDefinedOver, place_of, with_unit, with_type}
use Rattle.tp_check_decl.proofs.type_layout_proofs.Given.{layouts_of-push}
use Rattle.tp_check_decl.proofs.type_layout_proofs.WellFormed.{AllDefined-push}
use Rattle.tp_check_decl.specs.scopes.Predeclared.{type_list}
use Rattle.tables_closed.specs.constants.Ordered.{IsOrdered}

-- a unit has its place among units with it, of which there are no fewer
record IsPlaced (units : List (List ℕ)) (unit : List ℕ) : Type 0 where
  more : length units ≤ length (with_unit units unit)
  within : place_of units unit < length (with_unit units unit)

placed : (units : List (List ℕ)) (unit : List ℕ) → IsPlaced units unit
placed units unit = by (position (same_bytes unit) units) refl
  where
    by : (o : Option ℕ) → position (same_bytes unit) units ≡ o → IsPlaced units unit
    by None e = record { more = rw e (omega (arith, length-append units (unit ∷ []))); within = rw e (omega (arith, length-append units (unit ∷ []))) }
    by (Some i) e = record { more = rw e (omega arith); within = rw e (position-Some (same_bytes unit) units i [] e).0 }

pub ordered_with : (table : Table) (unit : List ℕ) (number : ℕ) (one : TypeDef) → IsOrdered table → IsDefinedOver table.types one → size_over table.types one ≤ 65520 → IsOrdered (with_type table unit number one)
ordered_with table unit number one h defined small =
    let p = placed table.units unit in
    let origin : Origin = record { unit = place_of table.units unit; number = number } in
    let longer : ℕ = length (with_unit table.units unit) in
    record {
      begins = (h.begins.0 ++ one ∷ [], ap (λ (l : List TypeDef). l ++ one ∷ []) h.begins.1 ∙ append_assoc type_list h.begins.0 (one ∷ []));
      defined = AllDefined-push [] table.types one h.defined defined;
      fits = rw layouts_of-push (All-push (λ (layout : Layout). layout.size ≤ 65520) (layouts_of table.types)
          (layout_by table.types (layouts_of table.types) one) h.fits small);
      paired = omega (arith, h.paired, length-append table.origins (origin ∷ []), length-append table.types (one ∷ []));
      known = All-push (λ (o : Origin). o.unit < longer) table.origins origin
          (All-weaker (λ (o : Origin). o.unit < length table.units) (λ (o : Origin). o.unit < longer) (λ o k. omega (arith, k, p.more)) table.origins h.known)
          p.within;
    }
