-- Additions one after the other.
use Rattle.std.proofs.Common.{◌≡◌, ◌⊎◌, inl, inr, ℕ, zero, suc, ◌+◌, List, [], ◌∷◌, ◌++◌, length, Some, refl, sym, subst, ap, ◌∙◌, append-nil, append_assoc}
use Rattle.std.specs.Prelude.{slice_get}
use Rattle.bodies_well_formed.specs.type_layout.declared.definitions.TypeId.{TypeId}
use Rattle.bodies_well_formed.specs.type_layout.declared.definitions.TypeDef.{TypeDef}
use Rattle.bodies_well_formed.specs.typed_tree.declared.expressions.Value.{Value}
use Rattle.bodies_well_formed.specs.typed_tree.declared.units.Global.{Global}
use Rattle.bodies_well_formed.specs.scopes.declared.entries.Entry.{Entry}
use Rattle.bodies_well_formed.specs.scopes.declared.entries.Entry.TheVariants as entry
use Rattle.bodies_well_formed.specs.scopes.Symbols.{SymbolList}
use Rattle.bodies_well_formed.specs.scopes.Environment.{Environment, with_name}
use Rattle.imported_types_agree.specs.declaration_checker.declared.declarations.homes.Home.{Home}
use Rattle.imported_types_agree.specs.declaration_checker.declared.declarations.homes.Home.TheVariants as home
use Rattle.imported_types_agree.specs.declaration_checker.declarations.Progress.{Progress, progress, knowing}
use Rattle.declarations_well_formed.specs.names.Declaring.{typing, with_names, IsOfType, AreOfTypes, Declares}
use Rattle.declarations_well_formed.proofs.names.Adding.{of_type_kept, names_joined, names_typed}
use Rattle.declarations_well_formed.specs.parts.Declaring.{IsGiven, IsGlobalOf, IsOwnOf, IsDeclaredIn, AreDeclaredIn, Adds}

get_front : {A : Type 0} → (front back : List A) (k : ℕ) (x : A) → slice_get front k ≡ Some x → slice_get (front ++ back) k ≡ Some x
get_front [] back k x e = let bad : ⊥ = cc in absurd bad
get_front (y ∷ front) back zero x e = e
get_front (y ∷ front) back (suc k) x e = get_front front back k x e

pub get_last : {A : Type 0} → (xs : List A) (x : A) → slice_get (xs ++ x ∷ []) (length xs) ≡ Some x
get_last [] x = refl
get_last (y ∷ ys) x = get_last ys x

-- ---- what a name means stays

module _ (p q : Progress) (types : (back : List TypeDef) × (q.scope.types.types ≡ p.scope.types.types ++ back)) (globals : (back : List Global) × (q.globals ≡ p.globals ++ back)) (locals : (back : List TypeId) × (q.locals ≡ p.locals ++ back)) where
  global_kept : (number : ℕ) (ty : TypeId) → IsGlobalOf p.globals number ty → IsGlobalOf q.globals number ty
  global_kept number ty h =
      let at : slice_get q.globals h.0 ≡ Some h.1 = subst (λ (all : List Global). slice_get all h.0 ≡ Some h.1) (sym globals.1) (get_front p.globals globals.0 h.0 h.1 h.3) in
      (h.0, h.1, h.2, at, h.4)

  own_kept : (where_at : Home) (level number : ℕ) (ty : TypeId) → IsOwnOf where_at p.locals level number ty → IsOwnOf where_at q.locals level number ty
  own_kept home.Unit level number ty h = absurd h
  own_kept (home.Routine depth first) level number ty h =
      let local = h.1 in
      let at : slice_get q.locals local.0 ≡ Some ty = subst (λ (all : List TypeId). slice_get all local.0 ≡ Some ty) (sym locals.1) (get_front p.locals locals.0 local.0 ty local.2) in
      (h.0, (local.0, local.1, at))

  constant_kept : (ty : TypeId) (v : Value) → IsOfType p.scope.types.types (entry.Const ty v) ⊎ IsGiven ty v → IsOfType q.scope.types.types (entry.Const ty v) ⊎ IsGiven ty v
  constant_kept ty v (inl h) = inl (subst (λ (t : List TypeDef). IsOfType t (entry.Const ty v)) (sym types.1) (of_type_kept p.scope.types.types types.0 (entry.Const ty v) h))
  constant_kept ty v (inr h) = inr h

  variable_kept : (where_at : Home) (level number : ℕ) (ty : TypeId) → ((level ≡ 0) × IsGlobalOf p.globals number ty) ⊎ IsOwnOf where_at p.locals level number ty
      → ((level ≡ 0) × IsGlobalOf q.globals number ty) ⊎ IsOwnOf where_at q.locals level number ty
  variable_kept where_at level number ty (inl h) = inl (h.0, global_kept number ty h.1)
  variable_kept where_at level number ty (inr h) = inr (own_kept where_at level number ty h)

  declared_kept : (where_at : Home) (one : Entry) → IsDeclaredIn where_at p one → IsDeclaredIn where_at q one
  declared_kept where_at (entry.Ty ty) h = tt
  declared_kept where_at (entry.Const ty v) h = constant_kept ty v h
  declared_kept where_at (entry.Var unit level number ty) h = (h.0, variable_kept where_at level number ty h.1)
  declared_kept where_at one h = absurd h

  all_kept : (where_at : Home) (names : SymbolList) → AreDeclaredIn where_at p names → AreDeclaredIn where_at q names
  all_kept where_at [] h = tt
  all_kept where_at (one ∷ rest) h = (declared_kept where_at one.1 h.0, all_kept where_at rest h.1)

all_joined : (where_at : Home) (q : Progress) (names more : SymbolList) → AreDeclaredIn where_at q names → AreDeclaredIn where_at q more → AreDeclaredIn where_at q (names ++ more)
all_joined where_at q [] more h k = k
all_joined where_at q (one ∷ rest) more h k = (h.0, all_joined where_at q rest more h.1 k)

longer : {A : Type 0} → (a b c front back : List A) → b ≡ a ++ front → c ≡ b ++ back → c ≡ a ++ (front ++ back)
longer a b c front back e f = f ∙ ap (λ (x : List _). x ++ back) e ∙ append_assoc a front back

-- ---- one after the other

pub nothing : (where_at : Home) (p : Progress) → Adds where_at p p
nothing where_at p = record {
  names = [];
  whole = refl;
  types = ([], sym (append-nil p.scope.types.types));
  globals = ([], sym (append-nil p.globals));
  locals = ([], sym (append-nil p.locals));
  known = tt;
}

pub behind : (where_at : Home) (p q r : Progress) → Adds where_at p q → Adds where_at q r → Adds where_at p r
behind where_at p q r first second =
    let typed : typing q.scope r.scope.types ≡ with_names (typing p.scope r.scope.types) first.names =
    ap (λ (e : Environment). typing e r.scope.types) first.whole ∙ names_typed (typing p.scope q.scope.types) r.scope.types first.names in
    let t = first.types in
    let u = second.types in
    let g = first.globals in
    let h = second.globals in
    let l = first.locals in
    let m = second.locals in
    record {
      names = first.names ++ second.names;
      whole = second.whole ∙ ap (λ (e : Environment). with_names e second.names) typed ∙ names_joined (typing p.scope r.scope.types) first.names second.names;
      types = (t.0 ++ u.0, longer p.scope.types.types q.scope.types.types r.scope.types.types t.0 u.0 t.1 u.1);
      globals = (g.0 ++ h.0, longer p.globals q.globals r.globals g.0 h.0 g.1 h.1);
      locals = (l.0 ++ m.0, longer p.locals q.locals r.locals l.0 m.0 l.1 m.1);
      known = all_joined where_at r first.names second.names (all_kept q r second.types second.globals second.locals where_at first.names first.known) second.known;
    }

-- ---- types and names alone

of_type_declared : (where_at : Home) (p : Progress) (one : Entry) → IsOfType p.scope.types.types one → IsDeclaredIn where_at p one
of_type_declared where_at p (entry.Ty ty) h = tt
of_type_declared where_at p (entry.Const ty v) h = inl h
of_type_declared where_at p one h = absurd h

of_types_declared : (where_at : Home) (p : Progress) (names : SymbolList) → AreOfTypes p.scope.types.types names → AreDeclaredIn where_at p names
of_types_declared where_at p [] h = tt
of_types_declared where_at p (one ∷ rest) h = (of_type_declared where_at p one.1 h.0, of_types_declared where_at p rest h.1)

pub naming_adds : (where_at : Home) (p : Progress) (g : Environment) → Declares p.scope g → Adds where_at p (knowing p g)
naming_adds where_at p g d = record {
  names = d.names;
  whole = d.whole;
  types = d.more;
  globals = ([], sym (append-nil p.globals));
  locals = ([], sym (append-nil p.locals));
  known = of_types_declared where_at (knowing p g) d.names d.known;
}

-- a name, with more variables
pub name_adds : (where_at : Home) (p : Progress) (g : Environment) (word : List ℕ) (one : Entry) (globals : List Global) (locals : List TypeId) → g ≡ with_name p.scope word one
    → IsDeclaredIn where_at (progress (with_name p.scope word one) (p.globals ++ globals) (p.locals ++ locals)) one → Adds where_at p (progress g (p.globals ++ globals) (p.locals ++ locals))
name_adds where_at p g word one globals locals is known =
    subst (λ (e : Environment). Adds where_at p (progress e (p.globals ++ globals) (p.locals ++ locals))) (sym is) (record {
      names = (word, one) ∷ [];
      whole = refl;
      types = ([], sym (append-nil p.scope.types.types));
      globals = (globals, refl);
      locals = (locals, refl);
      known = (known, tt);
    })
