-- Constants, types and variables.
use Rattle.std.proofs.Common.{inl, inr, ℕ, ◌+◌, List, [], ◌∷◌, ◌++◌, length, refl, sym, subst, append-nil}
use Rattle.bodies_well_formed.specs.type_layout.declared.definitions.TypeId.{TypeId}
use Rattle.bodies_well_formed.specs.typed_tree.declared.units.Global.{Global}
use Rattle.bodies_well_formed.specs.syntax_tree.declared.identifier.Identifier.{Identifier}
use Rattle.bodies_well_formed.specs.syntax_tree.declared.source_tree.declaration.ConstantDeclaration.{ConstantDeclaration}
use Rattle.bodies_well_formed.specs.syntax_tree.declared.source_tree.declaration.ConstantDeclaration.TheVariants as c
use Rattle.bodies_well_formed.specs.syntax_tree.declared.source_tree.declaration.VariableDeclaration.{VariableDeclaration}
use Rattle.bodies_well_formed.specs.syntax_tree.declared.source_tree.declaration.DeclarationPart.TheVariants as part_of
use Rattle.bodies_well_formed.specs.syntax_tree.expression_tree.Trees.{Tree, view_simple}
use Rattle.bodies_well_formed.specs.scopes.declared.entries.Entry.TheVariants as entry
use Rattle.bodies_well_formed.specs.scopes.Environment.{Environment}
use Rattle.imported_types_agree.specs.declaration_checker.type_denoters.Trees.{Denoter, view_denoter}
use Rattle.imported_types_agree.specs.declaration_checker.type_denoters.Denoters.{ground}
use Rattle.bodies_well_formed.specs.constant_checker.typed_constants.Trees.{Initial, view_initializer}
use Rattle.imported_types_agree.specs.declaration_checker.declared.declarations.homes.Home.{Home}
use Rattle.imported_types_agree.specs.declaration_checker.declared.declarations.homes.Home.TheVariants as home
use Rattle.imported_types_agree.specs.declaration_checker.declarations.Progress.{Progress, progress, knowing, unset, beginning}
use Rattle.imported_types_agree.specs.declaration_checker.declarations.Constants.{plain_constant, static_entry, static_declared, typed_constant, constant_declared, constants_declared}
use Rattle.imported_types_agree.specs.declaration_checker.declarations.Variables.{variable_declared, names_declared, group_declared, variables_declared}
use Rattle.imported_types_agree.specs.declaration_checker.declarations.Parts.{part_declared}
use Rattle.declarations_well_formed.proofs.names.Adding.{entered_is}
use Rattle.declarations_well_formed.proofs.names.Types.{type_declares}
use Rattle.declarations_well_formed.proofs.names.Parts as types
use Rattle.declarations_well_formed.specs.parts.Declaring.{Adds}
use Rattle.declarations_well_formed.specs.parts.Laws.{PartLaw}
use Rattle.declarations_well_formed.proofs.parts.Adding.{get_last, nothing, behind, naming_adds, name_adds}

abbrev with_rows : Environment → List Global → List TypeId → Progress
with_rows g globals locals = progress g globals locals

-- no variables besides
same_rows : (where_at : Home) (p : Progress) (g : Environment) → Adds where_at p (with_rows g (p.globals ++ []) (p.locals ++ [])) → Adds where_at p (knowing p g)
same_rows where_at p g h =
    subst (λ (all : List Global). Adds where_at p (with_rows g all p.locals)) (append-nil p.globals) (subst (λ (all : List TypeId). Adds where_at p (with_rows g (p.globals ++ []) all)) (append-nil p.locals) h)

-- ---- constants

plain_adds : (where_at : Home) (p : Progress) (one : Identifier) (value : Tree) (g : Environment) → (plain_constant p.scope one value).holds g → Adds where_at p (knowing p g)
plain_adds where_at p one value g k =
    let is = entered_is p.scope g one.position.place one.name (entry.Const k.part.ty k.part.value) k.made in
    same_rows where_at p g (name_adds where_at p g one.name (entry.Const k.part.ty k.part.value) [] [] is (inr (p.scope, value, k.part, k.holds, refl, refl)))

pub static_adds : (where_at : Home) (p : Progress) (ty : TypeId) (one : Identifier) (bytes : List ℕ) (q : Progress) → (static_declared p ty one bytes).holds q → Adds where_at p q
static_adds where_at p ty one bytes q k =
    let is = entered_is p.scope k.part one.position.place one.name (static_entry ty p) k.holds in
    let named : Adds where_at p (with_rows k.part (p.globals ++ beginning ty bytes ∷ []) (p.locals ++ [])) =
    name_adds where_at p k.part one.name (static_entry ty p) (beginning ty bytes ∷ []) [] is
    (refl, inl (refl, (length p.globals, beginning ty bytes, refl, get_last p.globals (beginning ty bytes), refl))) in
    let whole : Adds where_at p (with_rows k.part (p.globals ++ beginning ty bytes ∷ []) p.locals) =
    subst (λ (all : List TypeId). Adds where_at p (with_rows k.part (p.globals ++ beginning ty bytes ∷ []) all)) (append-nil p.locals) named in
    subst (λ (r : Progress). Adds where_at p r) (sym k.made) whole

typed_adds : (unit : List ℕ) (where_at : Home) (p : Progress) (one : Identifier) (denoter : Denoter) (first : Initial) (q : Progress) → (typed_constant unit p one denoter first).holds q → Adds where_at p q
typed_adds unit where_at p one denoter first q k =
    let inner = k.made in
    behind where_at p (knowing p k.part.scope) q (naming_adds where_at p k.part.scope (type_declares denoter (ground unit []) p.scope k.part k.holds))
    (static_adds where_at (knowing p k.part.scope) k.part.ty one inner.part q inner.made)

pub constant_adds : (unit : List ℕ) (where_at : Home) (p : Progress) (one : ConstantDeclaration) (q : Progress) → (constant_declared unit p one).holds q → Adds where_at p q
constant_adds unit where_at p (c.Plain one value) q k = subst (λ (r : Progress). Adds where_at p r) (sym k.made) (plain_adds where_at p one (view_simple value) k.part k.holds)
constant_adds unit where_at p (c.Typed one denoter first) q k = typed_adds unit where_at p one (view_denoter denoter) (view_initializer first) q k

pub constants_add : (unit : List ℕ) (where_at : Home) (p : Progress) (all : List ConstantDeclaration) (q : Progress) → (constants_declared unit p all).holds q → Adds where_at p q
constants_add unit where_at p [] q k = subst (λ (r : Progress). Adds where_at p r) (sym k) (nothing where_at p)
constants_add unit where_at p (one ∷ rest) q k = behind where_at p k.part q (constant_adds unit where_at p one k.part k.holds) (constants_add unit where_at k.part rest q k.made)

-- ---- variables

variable_adds : (where_at : Home) (ty : TypeId) (p : Progress) (one : Identifier) (q : Progress) → (variable_declared where_at ty p one).holds q → Adds where_at p q
variable_adds home.Unit ty p one q k =
    let is = entered_is p.scope k.part one.position.place one.name _ k.holds in
    let named : Adds home.Unit p (with_rows k.part (p.globals ++ unset ty ∷ []) (p.locals ++ [])) =
    name_adds home.Unit p k.part one.name _ (unset ty ∷ []) [] is (refl, inl (refl, (length p.globals, unset ty, refl, get_last p.globals (unset ty), refl))) in
    let whole : Adds home.Unit p (with_rows k.part (p.globals ++ unset ty ∷ []) p.locals) =
    subst (λ (all : List TypeId). Adds home.Unit p (with_rows k.part (p.globals ++ unset ty ∷ []) all)) (append-nil p.locals) named in
    subst (λ (r : Progress). Adds home.Unit p r) (sym k.made) whole
variable_adds (home.Routine level first) ty p one q k =
    let is = entered_is p.scope k.part one.position.place one.name _ k.holds in
    let named : Adds (home.Routine level first) p (with_rows k.part (p.globals ++ []) (p.locals ++ ty ∷ [])) =
    name_adds (home.Routine level first) p k.part one.name _ [] (ty ∷ []) is (refl, inr (refl, (length p.locals, refl, get_last p.locals ty))) in
    let whole : Adds (home.Routine level first) p (with_rows k.part p.globals (p.locals ++ ty ∷ [])) =
    subst (λ (all : List Global). Adds (home.Routine level first) p (with_rows k.part all (p.locals ++ ty ∷ []))) (append-nil p.globals) named in
    subst (λ (r : Progress). Adds (home.Routine level first) p r) (sym k.made) whole

pub names_add : (where_at : Home) (ty : TypeId) (p : Progress) (all : List Identifier) (q : Progress) → (names_declared where_at ty p all).holds q → Adds where_at p q
names_add where_at ty p [] q k = subst (λ (r : Progress). Adds where_at p r) (sym k) (nothing where_at p)
names_add where_at ty p (one ∷ rest) q k = behind where_at p k.part q (variable_adds where_at ty p one k.part k.holds) (names_add where_at ty k.part rest q k.made)

group_adds : (unit : List ℕ) (where_at : Home) (p : Progress) (one : VariableDeclaration) (q : Progress) → (group_declared unit where_at p one).holds q → Adds where_at p q
group_adds unit where_at p one q k =
    behind where_at p (knowing p k.part.scope) q (naming_adds where_at p k.part.scope (type_declares (view_denoter one.denoter) (ground unit []) p.scope k.part k.holds))
    (names_add where_at k.part.ty (knowing p k.part.scope) one.names.items q k.made)

pub variables_add : (unit : List ℕ) (where_at : Home) (p : Progress) (all : List VariableDeclaration) (q : Progress) → (variables_declared unit where_at p all).holds q → Adds where_at p q
variables_add unit where_at p [] q k = subst (λ (r : Progress). Adds where_at p r) (sym k) (nothing where_at p)
variables_add unit where_at p (one ∷ rest) q k = behind where_at p k.part q (group_adds unit where_at p one k.part k.holds) (variables_add unit where_at k.part rest q k.made)

-- ---- parts

pub part_adds : PartLaw
unfolding part_declared
part_adds unit where_at next p q (part_of.Constants here all) k = constants_add unit where_at p all.items q k
part_adds unit where_at next p q (part_of.Types here all) k =
    subst (λ (r : Progress). Adds where_at p r) (sym k.made) (naming_adds where_at p k.part (types.part_declares unit next p.scope all.items k.part k.holds))
part_adds unit where_at next p q (part_of.Variables here all) k = variables_add unit where_at p all.items q k
