-- Parts of type declarations: each promise is below the bounds of what is behind the part, and so all that the part names.
use Rattle.std.proofs.Common.{◌≡◌, ◌∙◌, ℕ, ◌+◌, ◌<◌, ◌≤◌, Bool, true, false, List, [], ◌∷◌, ◌++◌, length, Option, Some, None, refl, sym, ap, subst, arith}
use Rattle.tp_check_decl.specs.type_layout.declared.definitions.TypeId.{TypeId}
use Rattle.tp_check_decl.specs.type_layout.declared.texts.Place.{Place}
use Rattle.tp_check_decl.specs.type_layout.Words.{same_bytes}
use Rattle.tp_check_decl.specs.tp_lexer.declared.token.Feature.{Feature}
use Rattle.tp_check_decl.specs.tp_lexer.left_out_names.Names.{feature_of}
use Rattle.tp_check_decl.specs.syntax_tree.declared.type_tree.types.TypeDenoter.{TypeDenoter}
use Rattle.tp_check_decl.specs.syntax_tree.declared.type_tree.types.TypeDenoter.TheVariants as t
use Rattle.tp_check_decl.specs.syntax_tree.declared.source_tree.declaration.TypeDeclaration.{TypeDeclaration}
use Rattle.tp_check_decl.specs.scopes.declared.entries.Entry.{Entry}
use Rattle.tp_check_decl.specs.scopes.declared.entries.Entry.TheVariants as entry
use Rattle.tp_check_decl.specs.scopes.Members.{narrow}
use Rattle.tp_check_decl.specs.scopes.Environment.{Environment, Meaning, named, member, find}
use Rattle.tp_check_decl.specs.declaration_checker.headers.Names as names
use Rattle.tp_check_decl.specs.declaration_checker.headers.Names.{type_named}
use Rattle.tp_check_decl.specs.declaration_checker.declared.type_denoters.promises.Promise.{Promise}
use Rattle.tp_check_decl.specs.declaration_checker.type_denoters.Trees as tree
use Rattle.tp_check_decl.specs.declaration_checker.type_denoters.Trees.{Denoter, view_denoter}
use Rattle.tp_check_decl.specs.declaration_checker.type_denoters.Additions.{Denoted}
use Rattle.tp_check_decl.specs.declaration_checker.type_denoters.Denoters.{Ground, ground, promise_of, judged}
use Rattle.tp_check_decl.specs.declaration_checker.type_parts.Promised.{adds, alias_by, promised_id, promise, promises_from, promises}
use Rattle.tp_check_decl.specs.declaration_checker.type_parts.Parts.{whole, type_declared, next_routine, types_declared, type_part}
use Rattle.tables_closed.specs.constants.Bounds.{IsBoundOf}
use Rattle.tables_closed.specs.constants.Ordered.{IsOrdered}
use Rattle.tables_closed.proofs.constants.Names.{OfMeaning, of_found}
use Rattle.tables_closed.specs.types.Promises.{MeansType}
use Rattle.tables_closed.proofs.types.Means.{IsApart, follows_name}
use Rattle.tables_closed.proofs.types.Entering.{bound_with_name}
use Rattle.tables_closed.proofs.types.Reading.{is_entered}
use Rattle.tables_closed.proofs.types.Promising.{ArePromised, none_promised, promised_with, unpromised}
use Rattle.tables_closed.proofs.types.Objects.{whole_types}

-- ---- what a name means as a type

means_entry : (place : Place) (number : ℕ) (one : Entry) (ty : TypeId) → (names.of_entry place one).holds ty → MeansType (Some (named number one)) ty
means_entry place number (entry.Ty own) ty e = sym e
means_entry place number (entry.Const own v) ty e = absurd e
means_entry place number (entry.Var unit level n own) ty e = absurd e
means_entry place number (entry.Code routine level header far) ty e = absurd e
means_entry place number (entry.Std n) ty e = absurd e

means_by : (place : Place) (feature : Option Feature) (one : Option Meaning) (ty : TypeId) → (names.of_meaning place feature one).holds ty → MeansType one ty
means_by place feature None ty e = absurd e
means_by place feature (Some (named number one)) ty e = means_entry place number one ty e
means_by place feature (Some (member number one)) ty e = absurd e

pub means_named : (g : Environment) (place : Place) (name : List ℕ) (ty : TypeId) → (type_named g place name).holds ty → MeansType (find g name) ty
unfolding type_named
means_named g place name ty e = means_by place (feature_of name) (find g name) ty e

-- a name by which a type is declared means a type there
abbrev pub MeansSome : Environment → Denoter → TypeId → Type 0
MeansSome g (tree.named one) ty = MeansType (find g one.name) ty
MeansSome g one ty = Unit {0}

judged_means : (on : Ground) (g : Environment) (one : Denoter) (made : Denoted) → (judged on g one).holds made → MeansSome g one made.ty
judged_means on g (tree.named one) made e =
    let same : e.part ≡ made.ty = sym (ap (λ (d : Denoted). d.ty) e.made) in
    subst (λ (x : TypeId). MeansType (find g one.name) x) same (means_named g one.position.place one.name e.part e.holds)
judged_means on g one made e = tt

pub whole_means : (on : Ground) (next : Option ℕ) (name : List ℕ) (g : Environment) (one : TypeDenoter) (made : Denoted) → (whole on next name g one).holds made
    → MeansSome g (view_denoter one) made.ty
whole_means on next name g (t.Object' here ancestor shape fields semicolon methods) made e = tt
whole_means on next name g one made e = judged_means on g (view_denoter one) made e

-- ---- promises

-- what means a type and isn't promised meant it before the part
abbrev pub LooksBack : List Promise → Environment → Environment → Type 0
LooksBack before first g = (name : List ℕ) (ty : TypeId) → promise_of before name ≡ None → MeansType (find g name) ty → MeansType (find first name) ty

alias_below : (n : ℕ) (one : Option Meaning) (ty : TypeId) → MeansType one ty → OfMeaning n one → (alias_by None one).0 < n
alias_below n None ty m h = absurd m
alias_below n (Some (named number (entry.Ty own))) ty m h = h.0
alias_below n (Some (named number (entry.Const own v))) ty m h = absurd m
alias_below n (Some (named number (entry.Var unit level k own))) ty m h = absurd m
alias_below n (Some (named number (entry.Code routine level header far))) ty m h = absurd m
alias_below n (Some (named number (entry.Std k))) ty m h = absurd m
alias_below n (Some (member number one)) ty m h = absurd m

module _ (n : ℕ) (first : Environment) (bound : IsBoundOf n first) (before : List Promise) (few : ArePromised before n) where
  alias_of_below : (g : Environment) (name : List ℕ) (ty : TypeId) → LooksBack before first g → MeansType (find g name) ty → (alias_by (promise_of before name) (find first name)).0 < n
  alias_of_below g name ty looks m = by (promise_of before name) refl
    where
      by : (o : Option TypeId) → promise_of before name ≡ o → (alias_by o (find first name)).0 < n
      by (Some own) e = few name own e
      by None e = alias_below n (find first name) ty (looks name ty e m) (of_found n first name bound)

  id_below : (g : Environment) (count : ℕ) (one : Denoter) (ty : TypeId) → LooksBack before first g → MeansSome g one ty → count + adds one ≤ n → (promised_id first before count one).0 < n
  id_below g count (tree.named one) ty looks m l = alias_of_below g one.name ty looks m
  id_below g count tree.string ty looks m l = let most = bound.system in omega arith
  id_below g count (tree.enumeration place names) ty looks m l = omega arith
  id_below g count (tree.range low high) ty looks m l = omega arith
  id_below g count one ty looks m l = let most = bound.system in omega arith

pub apart_at : (ty : TypeId) (b : Bool) → b ≡ false → IsApart (entry.Ty ty) b
apart_at ty true e = absurd (let f : true ≡ false = e in cc)
apart_at ty false e = tt

-- what a declaration leaves of a scope
pub record IsDeclared (on : Ground) (g : Environment) (one : TypeDeclaration) (h : Environment) : Type 0 where
  pub long : length h.types.types ≡ length g.types.types + adds (view_denoter one.denoter)
  pub ordered : IsOrdered g.types → IsOrdered h.types
  pub follows : (name : List ℕ) (ty : TypeId) → same_bytes name one.name.name ≡ false → MeansType (find h name) ty → MeansType (find g name) ty
  pub ty : TypeId
  pub means : MeansSome g (view_denoter one.denoter) ty
  pub bound : (n : ℕ) → IsBoundOf n g → length h.types.types ≤ n → ArePromised on.names n → IsBoundOf n h

pub declared : (on : Ground) (next : Option ℕ) (g : Environment) (one : TypeDeclaration) (h : Environment) → (type_declared on next g one).holds h → IsDeclared on g one h
declared on next g one h e =
    let made = e.part in
    let types = whole_types on next one.name.name g one.denoter made e.holds in
    let entered = is_entered made.scope one.name.position.place one.name.name (entry.Ty made.ty) h e.made in
    let same : length h.types.types ≡ length made.scope.types.types = ap (λ (x : Environment). length x.types.types) entered.is in
    record {
      long = same ∙ types.reads.long;
      ordered = λ o. (let P : Environment → Type 0 = λ x. IsOrdered x.types in subst P (sym entered.is) (types.reads.ordered o));
      follows = λ name ty apart m.
          let Q : Environment → Type 0 = λ x. MeansType (find x name) ty in
          (types.reads.follows name).means ty ((follows_name made.scope one.name.name name (entry.Ty made.ty) (apart_at made.ty (same_bytes name one.name.name) apart)).means ty (subst Q entered.is m));
      ty = made.ty;
      means = whole_means on next one.name.name g one.denoter made e.holds;
      bound = λ n b l a.
          let P : Environment → Type 0 = λ x. IsBoundOf n x in
          let low : length made.scope.types.types ≤ n = omega arith in
          subst P (sym entered.is) (bound_with_name n made.scope one.name.name (entry.Ty made.ty) (types.reads.bound n b low a) (types.ty n b low a, tt));
    }

module _ (on : Ground) where
  pub types_longer : (next : Option ℕ) (g : Environment) (all : List TypeDeclaration) (h : Environment) → (types_declared on next g all).holds h → length g.types.types ≤ length h.types.types
  types_longer next g [] h e = let same : length h.types.types ≡ length g.types.types = ap (λ (x : Environment). length x.types.types) e in omega arith
  types_longer next g (one ∷ rest) h e =
      let first = (declared on next g one e.part e.holds).long in
      let more = types_longer (next_routine next one.denoter) e.part rest h e.made in
      omega arith

  types_ordered : (next : Option ℕ) (g : Environment) (all : List TypeDeclaration) (h : Environment) → (types_declared on next g all).holds h → IsOrdered g.types → IsOrdered h.types
  types_ordered next g [] h e o = let P : Environment → Type 0 = λ x. IsOrdered x.types in subst P (sym e) o
  types_ordered next g (one ∷ rest) h e o = types_ordered (next_routine next one.denoter) e.part rest h e.made ((declared on next g one e.part e.holds).ordered o)

  types_bound : (n : ℕ) (next : Option ℕ) (g : Environment) (all : List TypeDeclaration) (h : Environment) → (types_declared on next g all).holds h → IsBoundOf n g → length h.types.types ≤ n
      → ArePromised on.names n → IsBoundOf n h
  types_bound n next g [] h e b l a = let P : Environment → Type 0 = λ x. IsBoundOf n x in subst P (sym e) b
  types_bound n next g (one ∷ rest) h e b l a =
      let first = declared on next g one e.part e.holds in
      let more = types_longer (next_routine next one.denoter) e.part rest h e.made in
      types_bound n (next_routine next one.denoter) e.part rest h e.made (first.bound n b (omega arith) a) l a

  -- the promises of further declarations are below, where those before them are
  promises_below : (n : ℕ) (first : Environment) → IsBoundOf n first → (next : Option ℕ) (before : List Promise) (count : ℕ) (g : Environment) (all : List TypeDeclaration) (h : Environment)
      → (types_declared on next g all).holds h → length h.types.types ≤ n → count ≤ length g.types.types → ArePromised before n → LooksBack before first g
      → ArePromised (promises_from first before count all) n
  promises_below n first b next before count g [] h e l c a looks = a
  promises_below n first b next before count g (one ∷ rest) h e l c a looks =
      let here = declared on next g one e.part e.holds in
      let long = here.long in
      let more = types_longer (next_routine next one.denoter) e.part rest h e.made in
      let id = promised_id first before count (view_denoter one.denoter) in
      let last = promise one.name.name id in
      let low : id.0 < n = id_below n first b before a g count (view_denoter one.denoter) here.ty looks here.means (omega arith) in
      promises_below n first b (next_routine next one.denoter) (before ++ last ∷ []) (narrow (count + adds (view_denoter one.denoter))) e.part rest h e.made l (omega arith)
      (promised_with before last n a low)
      (λ name ty none m. let un = unpromised before last name none in looks name ty un.before (here.follows name ty un.apart m))

pub part_longer : (unit : List ℕ) (next : Option ℕ) (g : Environment) (all : List TypeDeclaration) (h : Environment) → (type_part unit next g all).holds h → length g.types.types ≤ length h.types.types
unfolding type_part
part_longer unit next g all h e = types_longer (ground unit (promises g all)) next g all h e

pub part_ordered : (unit : List ℕ) (next : Option ℕ) (g : Environment) (all : List TypeDeclaration) (h : Environment) → (type_part unit next g all).holds h → IsOrdered g.types → IsOrdered h.types
unfolding type_part
part_ordered unit next g all h e o = types_ordered (ground unit (promises g all)) next g all h e o

pub part_bound : (n : ℕ) (unit : List ℕ) (next : Option ℕ) (g : Environment) (all : List TypeDeclaration) (h : Environment) → (type_part unit next g all).holds h → IsBoundOf n g
    → length h.types.types ≤ n → IsBoundOf n h
unfolding type_part
part_bound n unit next g all h e b l =
    let on = ground unit (promises g all) in
    let count = length g.types.types in
    types_bound on n next g all h e b l (promises_below on n g b next [] count g all h e l (omega arith) (none_promised n) (λ name ty none m. m))
