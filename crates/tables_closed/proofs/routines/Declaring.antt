-- Bounds stay bounds behind constants, types and variables.
use Rattle.std.proofs.Common.{◌≡◌, ℕ, ◌<◌, List, [], ◌∷◌, Option, ap}
use Rattle.tp_check_decl.specs.type_layout.declared.definitions.TypeId.{TypeId}
use Rattle.tp_check_decl.specs.syntax_tree.declared.identifier.Identifier.{Identifier}
use Rattle.tp_check_decl.specs.syntax_tree.declared.source_tree.declaration.ConstantDeclaration.{ConstantDeclaration}
use Rattle.tp_check_decl.specs.syntax_tree.declared.source_tree.declaration.ConstantDeclaration.TheVariants as c
use Rattle.tp_check_decl.specs.syntax_tree.declared.source_tree.declaration.VariableDeclaration.{VariableDeclaration}
use Rattle.tp_check_decl.specs.syntax_tree.declared.source_tree.declaration.DeclarationPart.{DeclarationPart}
use Rattle.tp_check_decl.specs.syntax_tree.declared.source_tree.declaration.DeclarationPart.TheVariants as part_of
use Rattle.tp_check_decl.specs.syntax_tree.expression_tree.Trees.{view_simple}
use Rattle.tp_check_decl.specs.scopes.Environment.{Environment}
use Rattle.tp_check_decl.specs.declaration_checker.type_denoters.Trees.{view_denoter}
use Rattle.tp_check_decl.specs.declaration_checker.type_denoters.Denoters.{ground}
use Rattle.tp_check_decl.specs.declaration_checker.declared.declarations.homes.Home.{Home}
use Rattle.tp_check_decl.specs.declaration_checker.declared.declarations.homes.Home.TheVariants as home_of
use Rattle.tp_check_decl.specs.declaration_checker.declarations.Progress.{Progress, knowing}
use Rattle.tp_check_decl.specs.declaration_checker.declarations.Constants.{constant_declared, constants_declared}
use Rattle.tp_check_decl.specs.declaration_checker.declarations.Variables.{variable_declared, names_declared, group_declared, variables_declared}
use Rattle.tp_check_decl.specs.declaration_checker.declarations.Parts.{part_declared}
use Rattle.tables_closed.proofs.constants.Constants.{constant_below}
use Rattle.tables_closed.proofs.types.Promising.{ArePromised, none_promised}
use Rattle.tables_closed.proofs.types.Denoting.{denoting}
use Rattle.tables_closed.proofs.types.Parts.{part_longer, part_ordered, part_bound}
use Rattle.tables_closed.proofs.routines.Staying.{Stays, Nothing, stays, stay_at, stay_for, stay_then, stay_on, of_types, stay_entered}

stay_with : (asked : ℕ → Type 0) (g : Environment) (p q : Progress) → q ≡ p → Stays asked g p.scope → Stays asked g q.scope
stay_with asked g p q e s = stay_at asked g p.scope q.scope (ap (λ (x : Progress). x.scope) e) s

module _ (unit : List ℕ) where
  constant_stays : (p : Progress) (one : ConstantDeclaration) (q : Progress) → (constant_declared unit p one).holds q → Stays Nothing p.scope q.scope
  constant_stays p (c.Plain one value) q e =
      let named = e.holds in
      stay_with Nothing p.scope (knowing p e.part) q e.made
      (stay_for _ Nothing p.scope e.part (stay_entered p.scope one.position.place one.name _ e.part named.made)
      (λ n b l a. (constant_below n p.scope b (view_simple value) named.part named.holds, tt)))
  constant_stays p (c.Typed one denoter first) q e =
      let made = e.part in
      let last = e.made.made in
      let types = denoting (ground unit []) p.scope (view_denoter denoter) made e.holds in
      stay_with Nothing p.scope _ q last.made
      (stay_then (ArePromised []) _ Nothing p.scope made.scope last.part (of_types (ArePromised []) p.scope made _ types)
      (stay_entered made.scope one.position.place one.name _ last.part last.holds) (λ n b l a. none_promised n) (λ n b m l a. (types.ty n b l (none_promised n), tt)))

  constants_stay : (p : Progress) (all : List ConstantDeclaration) (q : Progress) → (constants_declared unit p all).holds q → Stays Nothing p.scope q.scope
  constants_stay p [] q e = stay_with Nothing p.scope p q e (stays Nothing p.scope)
  constants_stay p (one ∷ rest) q e = stay_on p.scope e.part.scope q.scope (constant_stays p one e.part e.holds) (constants_stay e.part rest q e.made)

variable_stays : (home : Home) (ty : TypeId) (p : Progress) (one : Identifier) (q : Progress) → (variable_declared home ty p one).holds q → Stays (λ n. ty.0 < n) p.scope q.scope
variable_stays home_of.Unit ty p one q e =
    stay_with (λ n. ty.0 < n) p.scope _ q e.made
    (stay_for _ (λ n. ty.0 < n) p.scope e.part (stay_entered p.scope one.position.place one.name _ e.part e.holds) (λ n b l a. (a, tt)))
variable_stays (home_of.Routine level first) ty p one q e =
    stay_with (λ n. ty.0 < n) p.scope _ q e.made
    (stay_for _ (λ n. ty.0 < n) p.scope e.part (stay_entered p.scope one.position.place one.name _ e.part e.holds) (λ n b l a. (a, tt)))

names_stay : (home : Home) (ty : TypeId) (p : Progress) (all : List Identifier) (q : Progress) → (names_declared home ty p all).holds q → Stays (λ n. ty.0 < n) p.scope q.scope
names_stay home ty p [] q e = stay_with (λ n. ty.0 < n) p.scope p q e (stays (λ n. ty.0 < n) p.scope)
names_stay home ty p (one ∷ rest) q e =
    stay_then (λ n. ty.0 < n) (λ n. ty.0 < n) (λ n. ty.0 < n) p.scope e.part.scope q.scope (variable_stays home ty p one e.part e.holds) (names_stay home ty e.part rest q e.made)
    (λ n b l a. a) (λ n b m l a. a)

module _ (unit : List ℕ) where
  group_stays : (home : Home) (p : Progress) (one : VariableDeclaration) (q : Progress) → (group_declared unit home p one).holds q → Stays Nothing p.scope q.scope
  group_stays home p one q e =
      let made = e.part in
      let types = denoting (ground unit []) p.scope (view_denoter one.denoter) made e.holds in
      stay_then (ArePromised []) (λ n. made.ty.0 < n) Nothing p.scope made.scope q.scope (of_types (ArePromised []) p.scope made _ types)
      (names_stay home made.ty (knowing p made.scope) one.names.items q e.made) (λ n b l a. none_promised n) (λ n b m l a. types.ty n b l (none_promised n))

  variables_stay : (home : Home) (p : Progress) (all : List VariableDeclaration) (q : Progress) → (variables_declared unit home p all).holds q → Stays Nothing p.scope q.scope
  variables_stay home p [] q e = stay_with Nothing p.scope p q e (stays Nothing p.scope)
  variables_stay home p (one ∷ rest) q e = stay_on p.scope e.part.scope q.scope (group_stays home p one e.part e.holds) (variables_stay home e.part rest q e.made)

  pub declared_stays : (home : Home) (next : Option ℕ) (p : Progress) (one : DeclarationPart) (q : Progress) → (part_declared unit home next p one).holds q → Stays Nothing p.scope q.scope
  unfolding part_declared
  declared_stays home next p (part_of.Constants here all) q e = constants_stay unit p all.items q e
  declared_stays home next p (part_of.Types here all) q e =
      stay_with Nothing p.scope (knowing p e.part) q e.made
      (record {
        longer = part_longer unit next p.scope all.items e.part e.holds;
        ordered = λ o. part_ordered unit next p.scope all.items e.part e.holds o;
        bound = λ n b l a. part_bound n unit next p.scope all.items e.part e.holds b l;
      })
  declared_stays home next p (part_of.Variables here all) q e = variables_stay home p all.items q e
