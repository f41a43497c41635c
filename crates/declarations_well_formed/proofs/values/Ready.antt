-- A scope that constants may be read over stays one with names and types.
use Rattle.std.proofs.Common.{◌≡◌, ℕ, List, ◌++◌, length, sym, subst, ap, ◌∙◌, append_assoc}
use Rattle.bodies_well_formed.specs.type_layout.declared.definitions.TypeDef.{TypeDef}
use Rattle.bodies_well_formed.specs.type_layout.declared.texts.Place.{Place}
use Rattle.bodies_well_formed.specs.scopes.declared.entries.Entry.{Entry}
use Rattle.bodies_well_formed.specs.scopes.Predeclared.{type_list}
use Rattle.bodies_well_formed.specs.scopes.Environment.{Environment, with_name}
use Rattle.imported_types_agree.specs.declaration_checker.type_denoters.Additions.{entered}
use Rattle.bodies_well_formed.specs.rules_well_formed.nodes.Tables.{IsSound}
use Rattle.imported_types_agree.specs.tables_closed.constants.Bounds.{AreBelow, in_entry, IsWellScopedEnvironment}
use Rattle.imported_types_agree.proofs.tables_closed_proofs.types.Entering.{bound_with_name}
use Rattle.declarations_well_formed.specs.tables.Laws.{IsFit, HasPredeclared}
use Rattle.declarations_well_formed.proofs.tables.Fits.{fit_front}
use Rattle.declarations_well_formed.proofs.tables.Sound.{sound}
use Rattle.declarations_well_formed.specs.names.Declaring.{typing, Declares}
use Rattle.declarations_well_formed.proofs.names.Adding.{entered_is}
use Rattle.declarations_well_formed.specs.values.Values.{IsConstantIn, HasValues}
use Rattle.declarations_well_formed.proofs.values.Values.{values_named, values_names, values_typed, of_types}

pub record IsReady (g : Environment) : Type 0 where
  pub begins : HasPredeclared g.types.types
  pub closed : IsWellScopedEnvironment g
  pub values : HasValues g

pub ready_sound : (g : Environment) → IsReady g → IsFit g.types.types → IsSound g.types.types
ready_sound g h fit = sound g fit h.closed h.begins

pub fit_before : (front back all : List TypeDef) → all ≡ front ++ back → IsFit all → IsFit front
fit_before front back all is h = fit_front front back (subst (λ (t : List TypeDef). IsFit t) is h)

-- a name that is there
pub name_ready : (g h : Environment) (place : Place) (word : List ℕ) (one : Entry) → IsReady g → AreBelow (length g.types.types) (in_entry one) → IsConstantIn g.types.types one
    → (entered g place word one).holds h → IsReady h
name_ready g h place word one ready below constant k =
    let named : IsReady (with_name g word one) = record {
      begins = ready.begins;
      closed = bound_with_name (length g.types.types) g word one ready.closed below;
      values = values_named g word one ready.values constant;
    } in
    subst (λ (e : Environment). IsReady e) (sym (entered_is g h place word one k)) named

-- types, and names of types and of values
pub declares_ready : (g h : Environment) → IsReady g → IsFit h.types.types → IsWellScopedEnvironment h → Declares g h → IsReady h
declares_ready g h ready fit closed d =
    let more = d.more in
    let begins = ready.begins in
    let before = fit_before g.types.types more.0 h.types.types more.1 fit in
    let typed = values_typed g h.types more.0 more.1 (ready_sound g ready before) ready.values in
    let named = values_names (typing g h.types) d.names typed (of_types h.types.types d.names d.known) in
    record {
      begins = (begins.0 ++ more.0, more.1 ∙ ap (λ (t : List TypeDef). t ++ more.0) begins.1 ∙ append_assoc type_list begins.0 more.0);
      closed = closed;
      values = subst (λ (e : Environment). HasValues e) (sym d.whole) named;
    }
