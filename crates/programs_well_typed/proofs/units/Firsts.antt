-- Variables that begin with a value have types without objects.
use Rattle.std.proofs.Common.{◌≡◌, ℕ, Bool, true, false, cond, List, [], ◌∷◌, ◌++◌, Option, Some, None, refl, sym, subst}
use Rattle.shared_types_agree.specs.type_layout.declared.definitions.TypeId.{TypeId}
use Rattle.shared_types_agree.specs.type_layout.declared.definitions.TypeDef.{TypeDef}
use Rattle.shared_types_agree.specs.type_layout.declared.texts.Place.{Place}
use Rattle.shared_types_agree.specs.typed_tree.declared.units.Global.{Global}
use Rattle.shared_types_agree.specs.syntax_tree.declared.identifier.Identifier.{Identifier}
use Rattle.shared_types_agree.specs.syntax_tree.declared.source_tree.declaration.ConstantDeclaration.{ConstantDeclaration}
use Rattle.shared_types_agree.specs.syntax_tree.declared.source_tree.declaration.ConstantDeclaration.TheVariants as constant
use Rattle.shared_types_agree.specs.syntax_tree.declared.source_tree.declaration.VariableDeclaration.{VariableDeclaration}
use Rattle.shared_types_agree.specs.syntax_tree.declared.source_tree.declaration.DeclarationPart.{DeclarationPart}
use Rattle.shared_types_agree.specs.syntax_tree.declared.source_tree.declaration.DeclarationPart.TheVariants as part_of
use Rattle.shared_types_agree.specs.scopes.Environment.{Environment}
use Rattle.shared_types_agree.specs.declaration_checker.type_denoters.Trees.{view_denoter}
use Rattle.shared_types_agree.specs.declaration_checker.type_denoters.Denoters.{ground}
use Rattle.shared_types_agree.specs.constant_checker.typed_constants.Trees.{Initial, view_initializer}
use Rattle.shared_types_agree.specs.constant_checker.typed_constants.Initializers.{is_plain, first_value}
use Rattle.shared_types_agree.specs.declaration_checker.declared.declarations.homes.Home.{Home}
use Rattle.shared_types_agree.specs.declaration_checker.declared.declarations.homes.Home.TheVariants as home
use Rattle.shared_types_agree.specs.declaration_checker.declarations.Progress.{Progress, knowing, unset, beginning}
use Rattle.shared_types_agree.specs.declaration_checker.declarations.Constants.{constant_declared, constants_declared}
use Rattle.shared_types_agree.specs.declaration_checker.declarations.Variables.{variable_declared, names_declared, variables_declared}
use Rattle.shared_types_agree.specs.declaration_checker.declarations.Parts.{part_declared}
use Rattle.shared_types_agree.proofs.units_well_formed_proofs.units.Below.{AddsPlain, entered_plain, type_plain}
use Rattle.programs_well_typed.proofs.units.Each.{Each, each_on, each_as}
use Rattle.programs_well_typed.proofs.units.Plain.{plain_more}
use Rattle.programs_well_typed.proofs.units.Objects.{part_classed}

abbrev pub HasPlainType : List TypeDef → TypeId → Option (List ℕ) → Type 0
HasPlainType types ty None = Unit {0}
HasPlainType types ty (Some bytes) = is_plain types ty ≡ true

abbrev pub BeginsPlain : List TypeDef → Global → Type 0
BeginsPlain types one = HasPlainType types one.ty one.first

begins_more : (front back : List TypeDef) (ty : TypeId) (first : Option (List ℕ)) → HasPlainType front ty first → HasPlainType (front ++ back) ty first
begins_more front back ty None h = tt
begins_more front back ty (Some bytes) h = plain_more front back ty h

pub firsts_more : (front back : List TypeDef) (all : List Global) → Each (BeginsPlain front) all → Each (BeginsPlain (front ++ back)) all
firsts_more front back all h = each_as (BeginsPlain front) (BeginsPlain (front ++ back)) (λ one k. begins_more front back one.ty one.first k) all h

-- ---- parts

-- the variables that are there, over the table as far as it was read
abbrev pub AreFirsts : Progress → Type 0
AreFirsts p = Each (BeginsPlain p.scope.types.types) p.globals

same_firsts : (p q : Progress) → q ≡ p → AreFirsts p → AreFirsts q
same_firsts p q e h = subst (λ (x : Progress). AreFirsts x) (sym e) h

with_scope : (p : Progress) (g : Environment) (back : List TypeDef) → g.types.types ≡ p.scope.types.types ++ back → AreFirsts p → AreFirsts (knowing p g)
with_scope p g back e h = subst (λ (types : List TypeDef). Each (BeginsPlain types) p.globals) (sym e) (firsts_more p.scope.types.types back p.globals h)

knowing_firsts : (p : Progress) (g : Environment) → AddsPlain p.scope g → AreFirsts p → AreFirsts (knowing p g)
knowing_firsts p g a h = with_scope p g a.types a.has_types h

plain_by : (b : Bool) (A : Type 0) → cond b A ⊥ → b ≡ true
plain_by true A h = refl
plain_by false A h = absurd h

first_plain : (g : Environment) (place : Place) (ty : TypeId) (tree : Initial) (bytes : List ℕ) → (first_value g place ty tree).holds bytes → is_plain g.types.types ty ≡ true
first_plain g place ty tree bytes h = plain_by (is_plain g.types.types ty) _ h

module _ (unit : List ℕ) where
  constant_firsts : (p : Progress) (one : ConstantDeclaration) (q : Progress) → (constant_declared unit p one).holds q → AreFirsts p → AreFirsts q
  constant_firsts p (constant.Plain one value) q k h = same_firsts (knowing p k.part) q k.made (knowing_firsts p k.part (entered_plain p.scope _ _ _ k.part k.holds.made) h)
  constant_firsts p (constant.Typed one denoter first) q k h =
      let made = k.part in
      let inner = k.made in
      let last = inner.made in
      let mid : Progress = knowing p made.scope in
      let typed : AreFirsts mid = knowing_firsts p made.scope (type_plain (view_denoter denoter) (ground unit []) p.scope made k.holds) h in
      let named = entered_plain made.scope _ _ _ last.part last.holds in
      let plain = first_plain made.scope one.position.place made.ty (view_initializer first) inner.part inner.holds in
      let before : AreFirsts (knowing mid last.part) = knowing_firsts mid last.part named typed in
      let here : BeginsPlain last.part.types.types (beginning made.ty inner.part) =
      subst (λ (types : List TypeDef). is_plain types made.ty ≡ true) (sym named.has_types) (plain_more made.scope.types.types named.types made.ty plain) in
      same_firsts _ q last.made (each_on (BeginsPlain last.part.types.types) p.globals (beginning made.ty inner.part ∷ []) before (here, tt))

  constants_firsts : (p : Progress) (all : List ConstantDeclaration) (q : Progress) → (constants_declared unit p all).holds q → AreFirsts p → AreFirsts q
  constants_firsts p [] q k h = same_firsts p q k h
  constants_firsts p (one ∷ rest) q k h = constants_firsts k.part rest q k.made (constant_firsts p one k.part k.holds h)

variable_firsts : (where_at : Home) (ty : TypeId) (p : Progress) (one : Identifier) (q : Progress) → (variable_declared where_at ty p one).holds q → AreFirsts p → AreFirsts q
variable_firsts home.Unit ty p one q k h =
    let named : AreFirsts (knowing p k.part) = knowing_firsts p k.part (entered_plain p.scope _ _ _ k.part k.holds) h in
    same_firsts _ q k.made (each_on (BeginsPlain k.part.types.types) p.globals (unset ty ∷ []) named (tt, tt))
variable_firsts (home.Routine level first) ty p one q k h = same_firsts _ q k.made (knowing_firsts p k.part (entered_plain p.scope _ _ _ k.part k.holds) h)

names_firsts : (where_at : Home) (ty : TypeId) (p : Progress) (all : List Identifier) (q : Progress) → (names_declared where_at ty p all).holds q → AreFirsts p → AreFirsts q
names_firsts where_at ty p [] q k h = same_firsts p q k h
names_firsts where_at ty p (one ∷ rest) q k h = names_firsts where_at ty k.part rest q k.made (variable_firsts where_at ty p one k.part k.holds h)

variables_firsts : (unit : List ℕ) (where_at : Home) (p : Progress) (all : List VariableDeclaration) (q : Progress) → (variables_declared unit where_at p all).holds q → AreFirsts p → AreFirsts q
variables_firsts unit where_at p [] q k h = same_firsts p q k h
variables_firsts unit where_at p (one ∷ rest) q k h =
    let group = k.holds in
    let typed = knowing_firsts p group.part.scope (type_plain (view_denoter one.denoter) (ground unit []) p.scope group.part group.holds) h in
    variables_firsts unit where_at k.part rest q k.made (names_firsts where_at group.part.ty (knowing p group.part.scope) one.names.items k.part group.made typed)

pub part_firsts : (unit : List ℕ) (where_at : Home) (next : Option ℕ) (p : Progress) (one : DeclarationPart) (q : Progress) → (part_declared unit where_at next p one).holds q → AreFirsts p → AreFirsts q
unfolding part_declared
part_firsts unit where_at next p (part_of.Constants here all) q k h = constants_firsts unit p all.items q k h
part_firsts unit where_at next p (part_of.Types here all) q k h =
    let a = part_classed unit next p.scope all.items k.part k.holds in
    same_firsts (knowing p k.part) q k.made (with_scope p k.part a.types a.has_types h)
part_firsts unit where_at next p (part_of.Variables here all) q k h = variables_firsts unit where_at p all.items q k h
