-- Constants, types and variables leave a scope that constants may be read over.
use Rattle.std.proofs.Common.{◌≡◌, ℕ, ◌<◌, List, [], ◌∷◌, length, Option, refl, sym, subst, ap, ◌∙◌}
use Rattle.bodies_well_formed.specs.type_layout.declared.definitions.TypeId.{TypeId}
use Rattle.bodies_well_formed.specs.type_layout.Table.{Table}
use Rattle.bodies_well_formed.specs.syntax_tree.declared.identifier.Identifier.{Identifier}
use Rattle.bodies_well_formed.specs.syntax_tree.declared.source_tree.declaration.ConstantDeclaration.{ConstantDeclaration}
use Rattle.bodies_well_formed.specs.syntax_tree.declared.source_tree.declaration.ConstantDeclaration.TheVariants as c
use Rattle.bodies_well_formed.specs.syntax_tree.declared.source_tree.declaration.VariableDeclaration.{VariableDeclaration}
use Rattle.bodies_well_formed.specs.syntax_tree.declared.source_tree.declaration.DeclarationPart.{DeclarationPart}
use Rattle.bodies_well_formed.specs.syntax_tree.declared.source_tree.declaration.DeclarationPart.TheVariants as part_of
use Rattle.bodies_well_formed.specs.syntax_tree.expression_tree.Trees.{Tree, view_simple}
use Rattle.bodies_well_formed.specs.typed_tree.type_fits.Fits.{definition}
use Rattle.bodies_well_formed.specs.scopes.declared.entries.Entry.TheVariants as entry
use Rattle.bodies_well_formed.specs.scopes.Environment.{Environment}
use Rattle.imported_types_agree.specs.declaration_checker.type_denoters.Trees.{Denoter, view_denoter}
use Rattle.imported_types_agree.specs.declaration_checker.type_denoters.Denoters.{ground}
use Rattle.bodies_well_formed.specs.constant_checker.typed_constants.Trees.{Initial, view_initializer}
use Rattle.imported_types_agree.specs.declaration_checker.declared.declarations.homes.Home.{Home}
use Rattle.imported_types_agree.specs.declaration_checker.declared.declarations.homes.Home.TheVariants as home
use Rattle.imported_types_agree.specs.declaration_checker.declarations.Progress.{Progress, knowing, with_variable}
use Rattle.imported_types_agree.specs.declaration_checker.declarations.Constants.{plain_constant, static_entry, static_declared, typed_constant, constant_declared, constants_declared}
use Rattle.imported_types_agree.specs.declaration_checker.declarations.Variables.{variable_entry, variable_declared, names_declared, group_declared, variables_declared}
use Rattle.imported_types_agree.specs.declaration_checker.declarations.Parts.{part_declared}
use Rattle.bodies_well_formed.proofs.well_formed_proofs.weakening.Types.{within_some}
use Rattle.bodies_well_formed.specs.expressions.Literals.{AreLiterals}
use Rattle.imported_types_agree.specs.tables_closed.types.WellScoped.{StayWellScoped}
use Rattle.declarations_well_formed.specs.tables.Laws.{IsFit}
use Rattle.declarations_well_formed.proofs.constants.Kept.{value_there}
use Rattle.declarations_well_formed.proofs.constants.Constants.{constants_valued}
use Rattle.declarations_well_formed.proofs.names.Adding.{entered_is}
use Rattle.declarations_well_formed.proofs.names.Types.{type_declares}
use Rattle.declarations_well_formed.proofs.names.Parts as types
use Rattle.declarations_well_formed.specs.parts.Declaring.{Adds}
use Rattle.declarations_well_formed.proofs.parts.Parts.{static_adds, constant_adds, constants_add, names_add, variables_add}
use Rattle.declarations_well_formed.specs.values.Literals.{AreWritten, HasLiterals}
use Rattle.declarations_well_formed.proofs.values.Values.{values_found}
use Rattle.declarations_well_formed.proofs.values.Ready.{IsReady, ready_sound, fit_before, name_ready, declares_ready}

-- the table that there was before is within bounds
fit_added : (here_at : Home) (p q : Progress) → Adds here_at p q → IsFit q.scope.types.types → IsFit p.scope.types.types
fit_added here_at p q adds fit = let more = adds.types in fit_before p.scope.types.types more.0 q.scope.types.types more.1 fit

module _ (closing : StayWellScoped) (unit : List ℕ) (here_at : Home) where
  -- ---- constants

  plain_ready : (g h : Environment) (one : Identifier) (value : Tree) → (plain_constant g one value).holds h → IsReady g → AreLiterals value → IsFit g.types.types → IsReady h
  plain_ready g h one value k ready literals fit =
      let sound = ready_sound g ready fit in
      let known = constants_valued g sound (values_found g ready.values) value k.part literals k.holds in
      let below = within_some g.types.types k.part.ty.0 (value_there g.types.types [] k.part.value (definition g.types.types k.part.ty) known.value) in
      name_ready g h one.position.place one.name (entry.Const k.part.ty k.part.value) ready (below, tt) known k.made

  static_ready : (p q : Progress) (ty : TypeId) (one : Identifier) (bytes : List ℕ) → (static_declared p ty one bytes).holds q → IsReady p.scope → ty.0 < length p.scope.types.types → IsReady q.scope
  static_ready p q ty one bytes k ready low =
      subst (λ (r : Progress). IsReady r.scope) (sym k.made) (name_ready p.scope k.part one.position.place one.name (static_entry ty p) ready (low, tt) tt k.holds)

  typed_ready : (p q : Progress) (one : Identifier) (denoter : Denoter) (first : Initial) → (typed_constant unit p one denoter first).holds q → IsReady p.scope → IsFit q.scope.types.types → IsReady q.scope
  typed_ready p q one denoter first k ready fit =
      let inner = k.made in
      let closed = closing.type unit p.scope denoter k.part k.holds ready.closed in
      let before = fit_added here_at (knowing p k.part.scope) q (static_adds here_at (knowing p k.part.scope) k.part.ty one inner.part q inner.made) fit in
      let typed = declares_ready p.scope k.part.scope ready before closed.0 (type_declares denoter (ground unit []) p.scope k.part k.holds) in
      static_ready (knowing p k.part.scope) q k.part.ty one inner.part inner.made typed closed.1

  constant_ready : (p q : Progress) (one : ConstantDeclaration) → (constant_declared unit p one).holds q → IsReady p.scope → AreWritten (one ∷ []) → IsFit q.scope.types.types → IsReady q.scope
  constant_ready p q (c.Plain one value) k ready literals fit =
      let before = fit_added here_at p q (constant_adds unit here_at p (c.Plain one value) q k) fit in
      subst (λ (r : Progress). IsReady r.scope) (sym k.made) (plain_ready p.scope k.part one (view_simple value) k.holds ready literals.0 before)
  constant_ready p q (c.Typed one denoter first) k ready literals fit = typed_ready p q one (view_denoter denoter) (view_initializer first) k ready fit

  first_written : (one : ConstantDeclaration) (rest : List ConstantDeclaration) → AreWritten (one ∷ rest) → AreWritten (one ∷ []) × AreWritten rest
  first_written (c.Plain one value) rest h = ((h.0, tt), h.1)
  first_written (c.Typed one denoter first) rest h = (tt, h)

  constants_ready : (p q : Progress) (all : List ConstantDeclaration) → (constants_declared unit p all).holds q → IsReady p.scope → AreWritten all → IsFit q.scope.types.types → IsReady q.scope
  constants_ready p q [] k ready literals fit = subst (λ (r : Progress). IsReady r.scope) (sym k) ready
  constants_ready p q (one ∷ rest) k ready literals fit =
      let written = first_written one rest literals in
      let before = fit_added here_at k.part q (constants_add unit here_at k.part rest q k.made) fit in
      constants_ready k.part q rest k.made (constant_ready p k.part one k.holds ready written.0 before) written.1 fit

  -- ---- variables

  variable_scope : (where_at : Home) (ty : TypeId) (p : Progress) → (with_variable where_at ty p).scope ≡ p.scope
  variable_scope home.Unit ty p = refl
  variable_scope (home.Routine level first) ty p = refl

  variable_ready : (ty : TypeId) (p q : Progress) (one : Identifier) → (variable_declared here_at ty p one).holds q → IsReady p.scope → ty.0 < length p.scope.types.types
      → IsReady q.scope × (ty.0 < length q.scope.types.types)
  variable_ready ty p q one k ready low =
      let named = name_ready p.scope k.part one.position.place one.name (variable_entry here_at ty p) ready (low, tt) tt k.holds in
      let is : q.scope ≡ k.part = ap (λ (r : Progress). r.scope) k.made ∙ variable_scope here_at ty (knowing p k.part) in
      let same : q.scope.types ≡ p.scope.types = ap (λ (e : Environment). e.types) (is ∙ entered_is p.scope k.part one.position.place one.name (variable_entry here_at ty p) k.holds) in
      (subst (λ (e : Environment). IsReady e) (sym is) named, subst (λ (t : Table). ty.0 < length t.types) (sym same) low)

  names_ready : (ty : TypeId) (p q : Progress) (all : List Identifier) → (names_declared here_at ty p all).holds q → IsReady p.scope → ty.0 < length p.scope.types.types → IsReady q.scope
  names_ready ty p q [] k ready low = subst (λ (r : Progress). IsReady r.scope) (sym k) ready
  names_ready ty p q (one ∷ rest) k ready low = let next = variable_ready ty p k.part one k.holds ready low in names_ready ty k.part q rest k.made next.0 next.1

  group_ready : (p q : Progress) (one : VariableDeclaration) → (group_declared unit here_at p one).holds q → IsReady p.scope → IsFit q.scope.types.types → IsReady q.scope
  group_ready p q one k ready fit =
      let denoter = view_denoter one.denoter in
      let closed = closing.type unit p.scope denoter k.part k.holds ready.closed in
      let before = fit_added here_at (knowing p k.part.scope) q (names_add here_at k.part.ty (knowing p k.part.scope) one.names.items q k.made) fit in
      let typed = declares_ready p.scope k.part.scope ready before closed.0 (type_declares denoter (ground unit []) p.scope k.part k.holds) in
      names_ready k.part.ty (knowing p k.part.scope) q one.names.items k.made typed closed.1

  variables_ready : (p q : Progress) (all : List VariableDeclaration) → (variables_declared unit here_at p all).holds q → IsReady p.scope → IsFit q.scope.types.types → IsReady q.scope
  variables_ready p q [] k ready fit = subst (λ (r : Progress). IsReady r.scope) (sym k) ready
  variables_ready p q (one ∷ rest) k ready fit =
      let before = fit_added here_at k.part q (variables_add unit here_at k.part rest q k.made) fit in
      variables_ready k.part q rest k.made (group_ready p k.part one k.holds ready before) fit

  -- ---- parts

  pub part_ready : (next : Option ℕ) (p q : Progress) (one : DeclarationPart) → (part_declared unit here_at next p one).holds q → IsReady p.scope → HasLiterals one → IsFit q.scope.types.types → IsReady q.scope
  unfolding part_declared
  part_ready next p q (part_of.Constants here all) k ready literals fit = constants_ready p q all.items k ready literals fit
  part_ready next p q (part_of.Types here all) k ready literals fit =
      let whole : IsFit k.part.types.types = subst (λ (r : Progress). IsFit r.scope.types.types) k.made fit in
      let declared = declares_ready p.scope k.part ready whole (closing.part unit next p.scope all.items k.part k.holds ready.closed) (types.part_declares unit next p.scope all.items k.part k.holds) in
      subst (λ (r : Progress). IsReady r.scope) (sym k.made) declared
  part_ready next p q (part_of.Variables here all) k ready literals fit = variables_ready p q all.items k ready fit
