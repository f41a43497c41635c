-- The variables that a part declares have types of the table, and those that begin with a value as many bytes as their types ask.
use Rattle.std.proofs.Common.{◌≡◌, ℕ, zero, suc, ◌+◌, ◌<◌, List, [], ◌∷◌, ◌++◌, length, Option, Some, refl, sym, subst, ap, ◌∙◌, arith, length-append, append_assoc, append-nil}
use Rattle.std.specs.Prelude.{slice_get}
use Rattle.declarations_well_formed.specs.type_layout.declared.definitions.TypeId.{TypeId}
use Rattle.declarations_well_formed.specs.type_layout.declared.definitions.TypeDef.{TypeDef}
use Rattle.declarations_well_formed.specs.type_layout.declared.texts.Place.{Place}
use Rattle.declarations_well_formed.specs.type_layout.declared.layout.Layout.{Layout}
use Rattle.declarations_well_formed.specs.type_layout.Layouts.{plain, layout_by, size_of}
use Rattle.declarations_well_formed.proofs.type_layout_proofs.Given.{get_or-given_by-front}
use Rattle.declarations_well_formed.proofs.type_layout_proofs.Measured.{is_measured}
use Rattle.declarations_well_formed.specs.typed_tree.declared.units.Global.{Global}
use Rattle.declarations_well_formed.specs.typed_tree.type_fits.Fits.{IsSome}
use Rattle.declarations_well_formed.specs.well_formed.WellFormed.{IsFirst}
use Rattle.declarations_well_formed.specs.syntax_tree.declared.identifier.Identifier.{Identifier}
use Rattle.declarations_well_formed.specs.syntax_tree.declared.source_tree.declaration.ConstantDeclaration.{ConstantDeclaration}
use Rattle.declarations_well_formed.specs.syntax_tree.declared.source_tree.declaration.ConstantDeclaration.TheVariants as constant
use Rattle.declarations_well_formed.specs.syntax_tree.declared.source_tree.declaration.VariableDeclaration.{VariableDeclaration}
use Rattle.declarations_well_formed.specs.syntax_tree.declared.source_tree.declaration.DeclarationPart.{DeclarationPart}
use Rattle.declarations_well_formed.specs.syntax_tree.declared.source_tree.declaration.DeclarationPart.TheVariants as part_of
use Rattle.declarations_well_formed.specs.syntax_tree.expression_tree.Trees.{view_simple}
use Rattle.declarations_well_formed.specs.scopes.declared.entries.Entry.{Entry}
use Rattle.declarations_well_formed.specs.scopes.Environment.{Environment}
use Rattle.declarations_well_formed.specs.declaration_checker.type_denoters.Trees.{Denoter, view_denoter}
use Rattle.declarations_well_formed.specs.declaration_checker.type_denoters.Additions.{Denoted, entered}
use Rattle.declarations_well_formed.specs.declaration_checker.type_denoters.Denoters.{ground, judged}
use Rattle.declarations_well_formed.specs.constant_checker.typed_constants.Trees.{view_initializer}
use Rattle.declarations_well_formed.proofs.constant_checker_proofs.typed_constants.Sizes.{whole}
use Rattle.declarations_well_formed.specs.declaration_checker.declared.declarations.homes.Home.{Home}
use Rattle.declarations_well_formed.specs.declaration_checker.declared.declarations.homes.Home.TheVariants as home
use Rattle.declarations_well_formed.specs.declaration_checker.declarations.Progress.{Progress, knowing, progress, unset, beginning}
use Rattle.declarations_well_formed.specs.declaration_checker.declarations.Constants.{constant_declared, constants_declared}
use Rattle.declarations_well_formed.specs.declaration_checker.declarations.Variables.{variable_declared, names_declared, group_declared, variables_declared}
use Rattle.declarations_well_formed.specs.declaration_checker.declarations.Parts.{part_declared}
use Rattle.declarations_well_formed.specs.rules_well_formed.nodes.Tables.{IsInTable}
use Rattle.declarations_well_formed.proofs.rules_well_formed_proofs.nodes.Fields.{some_within}
use Rattle.declarations_well_formed.proofs.well_formed_proofs.weakening.Types.{within_some, more_kept}
use Rattle.declarations_well_formed.specs.tables_closed.constants.Bounds.{AreBelow, in_entry, IsWellScopedEnvironment}
use Rattle.declarations_well_formed.proofs.tables_closed_proofs.constants.Constants.{constant_below}
use Rattle.declarations_well_formed.proofs.tables_closed_proofs.types.Entering.{bound_with_name}
use Rattle.declarations_well_formed.proofs.tables_closed_proofs.types.Closing.{type_closed, part_closed}
use Rattle.declarations_well_formed.proofs.tables_closed_proofs.types.Reading.{is_entered}
use Rattle.units_well_formed.specs.routines.Reading.{IsGlobalIn}
use Rattle.declarations_well_formed.specs.tables.Laws.{IsFit}
use Rattle.declarations_well_formed.proofs.tables.Fits.{fit_front}
use Rattle.units_well_formed.proofs.parts.Tables.{AddsPlain, plain_then, plain_at, none_added, entered_plain, type_plain}

-- ---- more types

pub in_more : (front back : List TypeDef) (ty : TypeId) → IsInTable front ty → IsInTable (front ++ back) ty
in_more front back ty h = subst (λ (o : Option TypeDef). IsSome o) (sym (more_kept front back ty h)) h

size_more : (front back : List TypeDef) (ty : TypeId) → IsInTable front ty → size_of (front ++ back) ty ≡ size_of front ty
size_more front back ty h = ap (λ (layout : Layout). layout.size) (get_or-given_by-front layout_by front back ty.0 (plain 0) (within_some front ty.0 h))

pub global_more : (front back : List TypeDef) (one : Global) → IsGlobalIn front one → IsGlobalIn (front ++ back) one
global_more front back one h = record {
  has = in_more front back one.ty h.has;
  first = subst (λ (size : ℕ). IsFirst size one.first) (sym (size_more front back one.ty h.has)) h.first;
}

-- ---- types alone

module _ (unit : List ℕ) where
  constant_plain : (p : Progress) (one : ConstantDeclaration) (q : Progress) → (constant_declared unit p one).holds q → AddsPlain p.scope q.scope
  constant_plain p (constant.Plain one value) q k =
      plain_at p.scope k.part q.scope (ap (λ (x : Progress). x.scope) k.made) (entered_plain p.scope _ _ _ k.part k.holds.made)
  constant_plain p (constant.Typed one denoter first) q k =
      let last = k.made.made in
      plain_at p.scope last.part q.scope (ap (λ (x : Progress). x.scope) last.made)
      (plain_then p.scope k.part.scope last.part (type_plain (view_denoter denoter) (ground unit []) p.scope k.part k.holds) (entered_plain k.part.scope _ _ _ last.part last.holds))

  constants_plain : (p : Progress) (all : List ConstantDeclaration) (q : Progress) → (constants_declared unit p all).holds q → AddsPlain p.scope q.scope
  constants_plain p [] q k = plain_at p.scope p.scope q.scope (ap (λ (x : Progress). x.scope) k) (none_added p.scope p.scope refl)
  constants_plain p (one ∷ rest) q k = plain_then p.scope k.part.scope q.scope (constant_plain p one k.part k.holds) (constants_plain k.part rest q k.made)

-- ---- rows of variables

abbrev pub AreGlobals : List TypeDef → List Global → Type 0
AreGlobals types [] = Unit {0}
AreGlobals types (one ∷ rest) = IsGlobalIn types one × AreGlobals types rest

abbrev pub AreTypes : List TypeDef → List TypeId → Type 0
AreTypes types [] = Unit {0}
AreTypes types (one ∷ rest) = IsInTable types one × AreTypes types rest

pub globals_at : (types : List TypeDef) (all : List Global) (number : ℕ) (one : Global) → AreGlobals types all → slice_get all number ≡ Some one → IsGlobalIn types one
globals_at types [] zero one h e = let bad : ⊥ = cc in absurd bad
globals_at types [] (suc number) one h e = let bad : ⊥ = cc in absurd bad
globals_at types (first ∷ rest) zero one h e =
    let same : first ≡ one = cc in
    subst (λ (x : Global). IsGlobalIn types x) same h.0
globals_at types (first ∷ rest) (suc number) one h e = globals_at types rest number one h.1 e

pub types_at : (types : List TypeDef) (all : List TypeId) (number : ℕ) (one : TypeId) → AreTypes types all → slice_get all number ≡ Some one → IsInTable types one
types_at types [] zero one h e = let bad : ⊥ = cc in absurd bad
types_at types [] (suc number) one h e = let bad : ⊥ = cc in absurd bad
types_at types (first ∷ rest) zero one h e =
    let same : first ≡ one = cc in
    subst (λ (x : TypeId). IsInTable types x) same h.0
types_at types (first ∷ rest) (suc number) one h e = types_at types rest number one h.1 e

globals_on : (front back : List TypeDef) (xs ys : List Global) → AreGlobals front xs → AreGlobals (front ++ back) ys → AreGlobals (front ++ back) (xs ++ ys)
globals_on front back [] ys h k = k
globals_on front back (one ∷ xs) ys h k = (global_more front back one h.0, globals_on front back xs ys h.1 k)

types_on : (front back : List TypeDef) (xs ys : List TypeId) → AreTypes front xs → AreTypes (front ++ back) ys → AreTypes (front ++ back) (xs ++ ys)
types_on front back [] ys h k = k
types_on front back (one ∷ xs) ys h k = (in_more front back one h.0, types_on front back xs ys h.1 k)

-- Behind declarations that have no object types the scope is closed, and what they declare as variables has types of the table.
pub record Declares (p q : Progress) : Type 0 where
  pub closed : IsWellScopedEnvironment q.scope
  pub plain : AddsPlain p.scope q.scope
  pub globals : List Global
  pub has_globals : q.globals ≡ p.globals ++ globals
  pub are_globals : AreGlobals q.scope.types.types globals
  pub locals : List TypeId
  pub has_locals : q.locals ≡ p.locals ++ locals
  pub are_locals : AreTypes q.scope.types.types locals

none_declared : (p q : Progress) → q ≡ p → IsWellScopedEnvironment p.scope → Declares p q
none_declared p q e closed = subst (λ (x : Progress). Declares p x) (sym e) (record {
  closed = closed;
  plain = none_added p.scope p.scope refl;
  globals = [];
  has_globals = sym (append-nil p.globals);
  are_globals = tt;
  locals = [];
  has_locals = sym (append-nil p.locals);
  are_locals = tt;
})

then : (p q r : Progress) → Declares p q → Declares q r → Declares p r
then p q r a b =
    let types = b.plain.types in
    let has : r.scope.types.types ≡ q.scope.types.types ++ types = b.plain.has_types in
    record {
      closed = b.closed;
      plain = plain_then p.scope q.scope r.scope a.plain b.plain;
      globals = a.globals ++ b.globals;
      has_globals = b.has_globals ∙ ap (λ (l : List Global). l ++ b.globals) a.has_globals ∙ append_assoc p.globals a.globals b.globals;
      are_globals = subst (λ (all : List TypeDef). AreGlobals all (a.globals ++ b.globals)) (sym has)
          (globals_on q.scope.types.types types a.globals b.globals a.are_globals (subst (λ (all : List TypeDef). AreGlobals all b.globals) has b.are_globals));
      locals = a.locals ++ b.locals;
      has_locals = b.has_locals ∙ ap (λ (l : List TypeId). l ++ b.locals) a.has_locals ∙ append_assoc p.locals a.locals b.locals;
      are_locals = subst (λ (all : List TypeDef). AreTypes all (a.locals ++ b.locals)) (sym has)
          (types_on q.scope.types.types types a.locals b.locals a.are_locals (subst (λ (all : List TypeDef). AreTypes all b.locals) has b.are_locals));
    }

-- a table that ends in one that fits, fits
fit_back : (g h : Environment) → AddsPlain g h → IsFit h.types.types → IsFit g.types.types
fit_back g h a fit = fit_front g.types.types a.types (subst (λ (types : List TypeDef). IsFit types) a.has_types fit)

entered_closed : (g : Environment) (place : Place) (name : List ℕ) (one : Entry) (h : Environment) → (entered g place name one).holds h → IsWellScopedEnvironment g → AreBelow (length g.types.types) (in_entry one) → IsWellScopedEnvironment h
entered_closed g place name one h k closed low =
    subst (λ (x : Environment). IsWellScopedEnvironment x) (sym (is_entered g place name one h k).is) (bound_with_name (length g.types.types) g name one closed low)

-- a name with variables
with_row : (p : Progress) (g : Environment) (place : Place) (name : List ℕ) (one : Entry) (globals : List Global) (locals : List TypeId) → (entered p.scope place name one).holds g → IsWellScopedEnvironment p.scope
    → AreBelow (length p.scope.types.types) (in_entry one) → AreGlobals p.scope.types.types globals → AreTypes p.scope.types.types locals → Declares p (progress g (p.globals ++ globals) (p.locals ++ locals))
with_row p g place name one globals locals k closed low are have =
    let is = (is_entered p.scope place name one g k).is in
    record {
      closed = entered_closed p.scope place name one g k closed low;
      plain = entered_plain p.scope place name one g k;
      globals = globals;
      has_globals = refl;
      are_globals = subst (λ (x : Environment). AreGlobals x.types.types globals) (sym is) are;
      locals = locals;
      has_locals = refl;
      are_locals = subst (λ (x : Environment). AreTypes x.types.types locals) (sym is) have;
    }

without_globals : (p : Progress) (g : Environment) (locals : List TypeId) → Declares p (progress g (p.globals ++ []) locals) → Declares p (progress g p.globals locals)
without_globals p g locals h = subst (λ (all : List Global). Declares p (progress g all locals)) (append-nil p.globals) h

without_locals : (p : Progress) (g : Environment) (globals : List Global) → Declares p (progress g globals (p.locals ++ [])) → Declares p (progress g globals p.locals)
without_locals p g globals h = subst (λ (all : List TypeId). Declares p (progress g globals all)) (append-nil p.locals) h

declares_at : (p q r : Progress) → r ≡ q → Declares p q → Declares p r
declares_at p q r e d = subst (λ (x : Progress). Declares p x) (sym e) d

module _ (unit : List ℕ) where
  -- a type that is written
  typed : (p : Progress) (one : Denoter) (made : Denoted) → (judged (ground unit []) p.scope one).holds made → IsWellScopedEnvironment p.scope → Declares p (knowing p made.scope) × (made.ty.0 < length made.scope.types.types)
  typed p one made k closed =
      let it = type_closed unit p.scope one made k closed in (
        record {
          closed = it.0;
          plain = type_plain one (ground unit []) p.scope made k;
          globals = [];
          has_globals = sym (append-nil p.globals);
          are_globals = tt;
          locals = [];
          has_locals = sym (append-nil p.locals);
          are_locals = tt;
        },
        it.1,
      )

  constant_row : (p : Progress) (one : ConstantDeclaration) (q : Progress) → (constant_declared unit p one).holds q → IsWellScopedEnvironment p.scope → IsFit q.scope.types.types → Declares p q
  constant_row p (constant.Plain one value) q k closed fit =
      let named = k.holds in
      let low = constant_below (length p.scope.types.types) p.scope closed (view_simple value) named.part named.holds in
      declares_at p (knowing p k.part) q k.made
      (without_locals p k.part p.globals (without_globals p k.part (p.locals ++ []) (with_row p k.part one.position.place one.name _ [] [] named.made closed (low, tt) tt tt)))
  constant_row p (constant.Typed one denoter first) q k closed fit =
      let made = k.part in
      let inner = k.made in
      let last = inner.made in
      let mid : Progress = knowing p made.scope in
      let it = typed p (view_denoter denoter) made k.holds closed in
      let named = entered_plain made.scope one.position.place one.name _ last.part last.holds in
      let same : q.scope ≡ last.part = ap (λ (x : Progress). x.scope) last.made in
      let fits = fit_back made.scope last.part named (subst (λ (g : Environment). IsFit g.types.types) same fit) in
      let size = whole made.scope one.position.place made.ty (view_initializer first) inner.part (is_measured made.scope.types.types fits.defined) inner.holds in
      let there : IsInTable made.scope.types.types made.ty = some_within made.scope.types.types made.ty.0 it.1 in
      let row : Declares mid (progress last.part (mid.globals ++ beginning made.ty inner.part ∷ []) (mid.locals ++ [])) =
      with_row mid last.part one.position.place one.name _ (beginning made.ty inner.part ∷ []) [] last.holds it.0.closed (it.1, tt) (record { has = there; first = size }, tt) tt in
      then p mid q it.0 (declares_at mid _ q last.made (without_locals mid last.part (mid.globals ++ beginning made.ty inner.part ∷ []) row))

  pub constants_row : (p : Progress) (all : List ConstantDeclaration) (q : Progress) → (constants_declared unit p all).holds q → IsWellScopedEnvironment p.scope → IsFit q.scope.types.types → Declares p q
  constants_row p [] q k closed fit = none_declared p q k closed
  constants_row p (one ∷ rest) q k closed fit =
      let fits = fit_back k.part.scope q.scope (constants_plain unit k.part rest q k.made) fit in
      let first = constant_row p one k.part k.holds closed fits in
      then p k.part q first (constants_row k.part rest q k.made first.closed fit)

variable_row : (where_at : Home) (ty : TypeId) (p : Progress) (one : Identifier) (q : Progress) → (variable_declared where_at ty p one).holds q → IsWellScopedEnvironment p.scope → ty.0 < length p.scope.types.types → Declares p q
variable_row home.Unit ty p one q k closed low =
    let there : IsInTable p.scope.types.types ty = some_within p.scope.types.types ty.0 low in
    let row : Declares p (progress k.part (p.globals ++ unset ty ∷ []) (p.locals ++ [])) =
    with_row p k.part one.position.place one.name _ (unset ty ∷ []) [] k.holds closed (low, tt) (record { has = there; first = tt }, tt) tt in
    declares_at p _ q k.made (without_locals p k.part (p.globals ++ unset ty ∷ []) row)
variable_row (home.Routine level first) ty p one q k closed low =
    let there : IsInTable p.scope.types.types ty = some_within p.scope.types.types ty.0 low in
    let row : Declares p (progress k.part (p.globals ++ []) (p.locals ++ ty ∷ [])) =
    with_row p k.part one.position.place one.name _ [] (ty ∷ []) k.holds closed (low, tt) tt (there, tt) in
    declares_at p _ q k.made (without_globals p k.part (p.locals ++ ty ∷ []) row)

names_row : (where_at : Home) (ty : TypeId) (p : Progress) (all : List Identifier) (q : Progress) → (names_declared where_at ty p all).holds q → IsWellScopedEnvironment p.scope → ty.0 < length p.scope.types.types → Declares p q
names_row where_at ty p [] q k closed low = none_declared p q k closed
names_row where_at ty p (one ∷ rest) q k closed low =
    let first = variable_row where_at ty p one k.part k.holds closed low in
    let count : length k.part.scope.types.types ≡ length p.scope.types.types + length first.plain.types =
    ap (λ (types : List TypeDef). length types) first.plain.has_types ∙ length-append p.scope.types.types first.plain.types in
    then p k.part q first (names_row where_at ty k.part rest q k.made first.closed (omega (arith, count, low)))

module _ (unit : List ℕ) where
  group_row : (where_at : Home) (p : Progress) (one : VariableDeclaration) (q : Progress) → (group_declared unit where_at p one).holds q → IsWellScopedEnvironment p.scope → Declares p q
  group_row where_at p one q k closed =
      let it = typed unit p (view_denoter one.denoter) k.part k.holds closed in
      then p (knowing p k.part.scope) q it.0 (names_row where_at k.part.ty (knowing p k.part.scope) one.names.items q k.made it.0.closed it.1)

  variables_row : (where_at : Home) (p : Progress) (all : List VariableDeclaration) (q : Progress) → (variables_declared unit where_at p all).holds q → IsWellScopedEnvironment p.scope → Declares p q
  variables_row where_at p [] q k closed = none_declared p q k closed
  variables_row where_at p (one ∷ rest) q k closed =
      let first = group_row where_at p one k.part k.holds closed in
      then p k.part q first (variables_row where_at k.part rest q k.made first.closed)

-- ---- parts

-- what is said of variables and of the scope behind any part
pub record HasRows (p q : Progress) : Type 0 where
  pub closed : IsWellScopedEnvironment q.scope
  pub globals : List Global
  pub has_globals : q.globals ≡ p.globals ++ globals
  pub are_globals : AreGlobals q.scope.types.types globals
  pub locals : List TypeId
  pub has_locals : q.locals ≡ p.locals ++ locals
  pub are_locals : AreTypes q.scope.types.types locals

of_declares : (p q : Progress) → Declares p q → HasRows p q
of_declares p q d = record {
  closed = d.closed;
  globals = d.globals;
  has_globals = d.has_globals;
  are_globals = d.are_globals;
  locals = d.locals;
  has_locals = d.has_locals;
  are_locals = d.are_locals;
}

pub part_rows : (unit : List ℕ) (where_at : Home) (next : Option ℕ) (p q : Progress) (one : DeclarationPart) → (part_declared unit where_at next p one).holds q → IsWellScopedEnvironment p.scope → IsFit q.scope.types.types
    → HasRows p q
unfolding part_declared
part_rows unit where_at next p q (part_of.Constants here all) k closed fit = of_declares p q (constants_row unit p all.items q k closed fit)
part_rows unit where_at next p q (part_of.Types here all) k closed fit =
    let end = part_closed unit next p.scope all.items k.part k.holds closed in
    subst (λ (x : Progress). HasRows p x) (sym k.made) (record {
      closed = end;
      globals = [];
      has_globals = sym (append-nil p.globals);
      are_globals = tt;
      locals = [];
      has_locals = sym (append-nil p.locals);
      are_locals = tt;
    })
part_rows unit where_at next p q (part_of.Variables here all) k closed fit = of_declares p q (variables_row unit where_at p all.items q k closed)

-- constants and variables leave no object types
pub constants_plain_part : (unit : List ℕ) (p : Progress) (all : List ConstantDeclaration) (q : Progress) → (constants_declared unit p all).holds q → AddsPlain p.scope q.scope
constants_plain_part unit p all q k = constants_plain unit p all q k

pub variables_plain_part : (unit : List ℕ) (where_at : Home) (p : Progress) (all : List VariableDeclaration) (q : Progress) → (variables_declared unit where_at p all).holds q → IsWellScopedEnvironment p.scope → AddsPlain p.scope q.scope
variables_plain_part unit where_at p all q k closed = (variables_row unit where_at p all q k closed).plain
