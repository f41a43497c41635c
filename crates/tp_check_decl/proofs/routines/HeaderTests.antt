-- What the tests on headers tell.
use Rattle.std.proofs.Common.{◌≡◌, ℕ, ◌&&◌, nat_eq, Bool, true, false, not, ◌||◌, ◌==◌, map, List, [], ◌∷◌, Option, Some, None, is_some, Decides, refl, ap}
use Rattle.std.proofs.lemmas.Bool.Decides.{Decides-like, Decides-and, Decides-eqb}
use Rattle.type_layout.specs.declared.definitions.TypeId.{TypeId}
use Rattle.type_layout.specs.declared.definitions.Param.{Param}
use Rattle.type_layout.specs.declared.definitions.Kind.{Kind}
use Rattle.type_layout.specs.declared.definitions.Kind.TheVariants as kind
use Rattle.type_layout.specs.declared.definitions.Header.{Header}
use Rattle.object_vmt.specs.Rules.{kind_number, same_flag, same_param, same_params, same_result, same_header}
use Rattle.typed_tree.specs.type_fits.Fits.{shape_of, AreSameHeaders, IsSome}
use Rattle.tp_check_decl.specs.routines.Drafts.{Numbered, Done}
use Rattle.tp_check_decl.specs.routines.Headings.{same_kind}
use Rattle.tp_check_decl.specs.routines.Insides.{is_outer, is_met, IsMet}

pub tells_kind : (one other : Kind) → Decides (same_kind one other) (one ≡ other)
tells_kind kind.Procedure kind.Procedure = (λ e. refl, λ e. refl)
tells_kind kind.Function kind.Function = (λ e. refl, λ e. refl)
tells_kind kind.Constructor kind.Constructor = (λ e. refl, λ e. refl)
tells_kind kind.Destructor kind.Destructor = (λ e. refl, λ e. refl)
tells_kind _ _ = (λ e. cc, λ e. cc)

tells_flag : (one other : Bool) → Decides (same_flag one other) (one ≡ other)
tells_flag true true = (λ e. refl, λ e. refl)
tells_flag true false = (λ e. cc, λ e. cc)
tells_flag false true = (λ e. cc, λ e. cc)
tells_flag false false = (λ e. refl, λ e. refl)

tells_type : (one other : TypeId) → Decides (nat_eq one.0 other.0) (one ≡ other)
tells_type one other =
    Decides-like _ (λ h. ap (λ (n : ℕ). (let ty : TypeId = record { 0 = n } in ty)) h) (λ h. ap (λ (ty : TypeId). ty.0) h) (Decides-eqb one.0 other.0)

tells_param : (one other : Param) → Decides (same_param one other) (shape_of one ≡ shape_of other)
tells_param one other =
    Decides-like _ (λ h. let b = h.0 in let t = h.1 in cc) (λ h. (ap (λ (s : Bool × TypeId). s.0) h, ap (λ (s : Bool × TypeId). s.1) h))
    (Decides-and _ _ (tells_flag one.by_ref other.by_ref) (tells_type one.ty other.ty))

tells_params : (ones others : List Param) → Decides (same_params ones others) (map shape_of ones ≡ map shape_of others)
tells_params [] [] = (λ e. refl, λ e. refl)
tells_params [] (other ∷ others) = (λ e. cc, λ e. cc)
tells_params (one ∷ ones) [] = (λ e. cc, λ e. cc)
tells_params (one ∷ ones) (other ∷ others) =
    Decides-like _ (λ h. let b = h.0 in let t = h.1 in cc)
    (λ h. (let b : shape_of one ≡ shape_of other = cc in b, let t : map shape_of ones ≡ map shape_of others = cc in t))
    (Decides-and _ _ (tells_param one other) (tells_params ones others))

tells_result : (one other : Option TypeId) → Decides (same_result one other) (one ≡ other)
tells_result None None = (λ e. refl, λ e. refl)
tells_result None (Some other) = (λ e. cc, λ e. cc)
tells_result (Some one) None = (λ e. cc, λ e. cc)
tells_result (Some one) (Some other) =
    Decides-like _ (λ h. let e = h in cc) (λ h. let e : one ≡ other = cc in e) (tells_type one other)

-- headers are the same whatever their parameters' names
pub tells_header : (one other : Header) → Decides (same_header one other) (AreSameHeaders one other)
tells_header one other =
    Decides-like _ (λ h. record { kind = h.0.0; params = h.0.1; result = h.1 }) (λ h. ((h.kind, h.params), h.result))
    (Decides-and _ _ (Decides-and _ _ (tells_kind one.kind other.kind) (tells_params one.params other.params)) (tells_result one.result other.result))

tells_outer : (one other : Option ℕ) → Decides (is_outer one other) (one ≡ other)
tells_outer None None = (λ e. refl, λ e. refl)
tells_outer None (Some other) = (λ e. cc, λ e. cc)
tells_outer (Some one) None = (λ e. cc, λ e. cc)
tells_outer (Some one) (Some other) = Decides-like _ (λ h. let e = h in cc) (λ h. let e : one ≡ other = cc in e) (Decides-eqb one other)

tells_some : {A : Type 0} (one : Option A) → Decides (is_some one) (IsSome one)
tells_some None = (λ e. cc, λ e. absurd e)
tells_some (Some a) = (λ e. tt, λ e. refl)

tells_unless : {P Q : Type 0} (x y : Bool) → Decides x P → Decides y Q → Decides (not x || y) (P → Q)
tells_unless true y d k = (λ e p. k.0 e, λ h. k.1 (h (d.0 refl)))
tells_unless false y d k = (λ e p. let f = d.1 p in cc, λ h. refl)

pub tells_met : (outer : Option ℕ) (one : Numbered) → Decides (is_met outer one) (IsMet outer one)
tells_met outer one = tells_unless (is_outer one.first.outer outer) (is_some one.done) (tells_outer one.first.outer outer) (tells_some one.done)
