-- A routine that is found by its number: its limits, and then its body.
use Rattle.std.proofs.Common.{◌≡◌, Bool, true, false, ◌&&◌, List, Option, Some, sym, ap, ◌∙◌}
use Rattle.std.specs.Option.{option_map_or}
use Rattle.typed_tree.specs.declared.units.Routine.{Routine}
use Rattle.typed_tree.specs.declared.units.Unit.{Unit as TypedUnit}
use Rattle.typed_tree.specs.Statements.{view_stmt}
use Rattle.lowerable.specs.Farness.{is_linkable_statement}
use Rattle.lowerable.specs.Limits.{fits, nests}
use Rattle.lowerable.specs.Lowerable.{is_lowerable_routine}
use Rattle.lowerable.proofs.Trees.{behind_two, stopped_one, stopped_two}

module _ (units : List TypedUnit) (unit : TypedUnit) (routine : Routine) (found : Option Routine) (e : found ≡ Some routine) where
  abbrev is_fit : Bool
  is_fit = fits unit.types.types routine

  abbrev is_near : Bool
  is_near = nests unit.routines 15 routine.outer

  abbrev is_linked : Bool
  is_linked = is_linkable_statement units unit (view_stmt routine.body)

  by-found : (test : Routine → Bool) → option_map_or test found false ≡ test routine
  by-found test = ap (λ (o : Option Routine). option_map_or test o false) e

  pub body_tells : option_map_or (fits unit.types.types) found false ≡ true → is_near ≡ true → is_linked ≡ option_map_or (is_lowerable_routine units unit) found false
  body_tells f n = behind_two is_fit is_near is_linked (sym (by-found (fits unit.types.types)) ∙ f) n ∙ sym (by-found (is_lowerable_routine units unit))

  pub nesting_tells : option_map_or (fits unit.types.types) found false ≡ true → is_near ≡ false → false ≡ option_map_or (is_lowerable_routine units unit) found false
  nesting_tells f n = stopped_two is_fit is_near is_linked (sym (by-found (fits unit.types.types)) ∙ f) n ∙ sym (by-found (is_lowerable_routine units unit))

  pub sizes_tell : option_map_or (fits unit.types.types) found false ≡ false → false ≡ option_map_or (is_lowerable_routine units unit) found false
  sizes_tell f = stopped_one is_fit (is_near && is_linked) (sym (by-found (fits unit.types.types)) ∙ f) ∙ sym (by-found (is_lowerable_routine units unit))
