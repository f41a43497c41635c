-- What operators, conversions and tests make of values, one behind another.
use Rattle.std.proofs.Common.{◌≡◌, ℕ, suc, ◌≤◌, ◌<◌, Bool, List, [], ◌∷◌, ◌++◌, Some, None, refl, sym, subst, arith}
use Rattle.std.specs.Prelude.{ℤ, pos, negsuc, ◌≤ℤ◌, All, Option, slice_get}
use Rattle.std.proofs.lemmas.List.Elements.{All-nil, All-cons}
use Rattle.std.proofs.lemmas.Int.{ints}
use Rattle.program_typing.specs.type_layout.declared.definitions.TypeId.{TypeId}
use Rattle.program_typing.specs.type_layout.declared.definitions.Header.{Header}
use Rattle.program_typing.specs.type_layout.declared.definitions.TypeDef.{TypeDef}
use Rattle.program_typing.specs.type_layout.declared.definitions.TypeDef.TheVariants as type
use Rattle.program_typing.specs.type_layout.Layouts.{bounds_at}
use Rattle.program_typing.specs.type_layout.Table.{Table}
use Rattle.program_typing.specs.typed_tree.declared.expressions.Value.{Value as Constant}
use Rattle.program_typing.specs.typed_tree.declared.expressions.Value.TheVariants as constant
use Rattle.program_typing.specs.typed_tree.declared.expressions.UnaryOp.{UnaryOp}
use Rattle.program_typing.specs.typed_tree.declared.expressions.BinaryOp.{BinaryOp}
use Rattle.program_typing.specs.typed_tree.declared.units.Program.{Program}
use Rattle.program_typing.specs.typed_tree.type_fits.Fits.{stored_as, family_of, IsSome, AreElements, IsValue}
use Rattle.program_typing.specs.typed_tree.type_fits.Operators.{FitsUnary, FitsBinary, MayBeEarly, IsConversion}
use Rattle.program_typing.specs.tp_meaning.Trees.{Key, Value, Elements, Code}
use Rattle.program_typing.specs.tp_meaning.Programs.{Sort, definition}
use Rattle.program_typing.specs.tp_meaning.Outcomes.{State, Outcome, Done, Does, and_then, ◌>>=◌, found, looked}
use Rattle.program_typing.specs.tp_meaning.Operators.{unary, binary, decided, converted, ranged, element_of, spanned}
use Rattle.program_typing.specs.tp_meaning.Expressions.{constant_value, unless}
use Rattle.program_typing.specs.store_typing.types.Declared.{declared_header}
use Rattle.program_typing.specs.store_typing.types.Agreement.{IsKnown, AreConsistent}
use Rattle.program_typing.specs.store_typing.stores.Worlds.{Made, World, LiesWithin, IsCode}
use Rattle.program_typing.specs.store_typing.stores.Places.{IsValueBy, IsValueOf}
use Rattle.program_typing.proofs.store_typing_proofs.types.Agreed.{defined}
use Rattle.program_typing.proofs.store_typing_proofs.types.Whole.{base_bounds}
use Rattle.program_typing.proofs.store_typing_proofs.stores.Sets.{below-lies}
use Rattle.program_typing.proofs.store_typing_proofs.stores.Grown.{grows_by, value_grows}
use Rattle.program_typing.specs.store_typing.operators.Laws.{OperatorLaws}
use Rattle.program_typing.proofs.store_typing_proofs.operators.Operators.{operator_laws}
use Rattle.program_typing.specs.programs.Outcomes.{IsTypedState, world, after, Ends}
use Rattle.program_typing.proofs.programs.Ends.{ends_bind, ends_done, ends_found, ends_looked}
use Rattle.type_soundness.proofs.expressions.Chains.{Kept, both, chain}

-- a value of a type
abbrev pub ValueAt : Sort → World → Value → Type 0
ValueAt sort w v = IsValueOf w sort v

-- a value goes on to be one of its type as objects are made
abbrev pub value_kept : Program → Sort → Value → Kept
value_kept program sort v = record {
  holds = λ made. IsValueOf (world program made) sort v;
  keep = λ made more h. value_grows (world program made) (world program (made ++ more)) (grows_by (world program made) more) sort v h;
}

-- ---- constants

-- the elements of a constant are below 256, where the bounds of its type are
at_most : (element : ℕ) (most : ℤ) → pos element ≤ℤ most → most ≤ℤ pos 255 → element < 256
at_most element (negsuc n) h g = absurd (omega (arith, ints, h))
at_most element (pos n) h g =
    let under : element ≤ n = omega (arith, ints, h) in
    let below : n ≤ 255 = omega (arith, ints, g) in
    omega (arith, under, below)

elements-lie : (least most : ℤ) (elements : List ℕ) → most ≤ℤ pos 255 → AreElements least most elements → All (LiesWithin 0 32) elements
elements-lie least most [] small are = All-nil (LiesWithin 0 32)
elements-lie least most (element ∷ elements) small are =
    All-cons (LiesWithin 0 32) element elements (below-lies element (at_most element most are.1 small)) (elements-lie (pos (suc element)) most elements small are.2)

module _ (w : World) (agreed : AreConsistent w.program) (sort : Sort) where
  constant_by : (v : Constant) (one : TypeDef) → slice_get sort.table.types sort.ty.0 ≡ Some one → IsKnown w.program sort → IsValue sort.table.types v (Some one) → IsValueBy w sort (Some one) (constant_value v)
  constant_by (constant.Number n) (type.Ordinal host low high) e ks is = is
  constant_by (constant.Chars text) (type.Str max) e ks is =
      let law = agreed.lawful ks.unit ks.listed in
      let short : max < 256 = law.short sort.ty.0 (type.Str max) (subst (λ (t : Table). slice_get t.types sort.ty.0 ≡ Some (type.Str max)) ks.table e) in
      record { each = is.1; short = omega (arith, is.0, short) }
  constant_by constant.Nil (type.PointerTo target) e ks is = tt
  constant_by (constant.Elements elements) (type.SetOf base) e ks is =
      let bounds = base_bounds sort.table.types (defined w.program agreed sort ks) sort.ty base e in
      elements-lie (bounds_at sort.table.types base).0 (bounds_at sort.table.types base).1 elements bounds.most is
  constant_by v one e ks is = absurd is

  -- a constant is a value of its type
  pub constant_is : (v : Constant) → IsKnown w.program sort → IsValue sort.table.types v (definition sort) → IsValueOf w sort (constant_value v)
  constant_is v ks is =
      subst (λ (o : Option TypeDef). IsValueBy w sort o (constant_value v)) (sym ks.is)
      (constant_by v ks.one ks.is ks (subst (λ (o : Option TypeDef). IsValue sort.table.types v o) ks.is is))

-- a routine is a value of a procedural type
pub code_is : (w : World) (sort : Sort) (header : Header) (key : Key) → definition sort ≡ Some (type.Procedural header) → IsCode w.program (declared_header sort.table header) key → IsValueOf w sort (Code key)
code_is w sort header key e code = subst (λ (o : Option TypeDef). IsValueBy w sort o (Code key)) (sym e) code

set_is : (w : World) (sort : Sort) (base : TypeId) (set : List ℕ) → definition sort ≡ Some (type.SetOf base) → All (LiesWithin 0 32) set → IsValueOf w sort (Elements set)
set_is w sort base set e are = subst (λ (o : Option TypeDef). IsValueBy w sort o (Elements set)) (sym e) are

-- the set that was built is a value of its type
pub set_done : (w : World) (sort : Sort) (base : TypeId) (set : List ℕ) (s : State) → definition sort ≡ Some (type.SetOf base) → All (LiesWithin 0 32) set → IsTypedState w s → Ends w (ValueAt sort) (Done (Elements set) s)
set_done w sort base set s e are typed = ends_done (ValueAt sort) w (Elements set) s typed (set_is w sort base set e are)

-- ---- operators

module _ (w : World) (sort : Sort) where
  pub unary_ends : (of : Sort) (op : UnaryOp) (o : Outcome Value) → FitsUnary op (definition sort) (definition of) → Ends w (ValueAt of) o → Ends w (ValueAt sort) (and_then o (λ v. found (unary op (stored_as (definition sort)) v)))
  unary_ends of op o fits h =
      ends_bind (ValueAt of) w (ValueAt sort) o (λ v. found (unary op (stored_as (definition sort)) v)) h (λ more v s typed is.
      let laws : OperatorLaws (after w more) = operator_laws (after w more) in
      ends_found (ValueAt sort) (after w more) (unary op (stored_as (definition sort)) v) s typed (laws.unary sort of op v fits is))

  pub converted_ends : (of : Sort) (o : Outcome Value) → IsConversion (definition sort) (definition of) → Ends w (ValueAt of) o → Ends w (ValueAt sort) (and_then o (λ v. found (converted (definition sort) v)))
  converted_ends of o fits h =
      ends_bind (ValueAt of) w (ValueAt sort) o (λ v. found (converted (definition sort) v)) h (λ more v s typed is.
      let laws : OperatorLaws (after w more) = operator_laws (after w more) in
      ends_found (ValueAt sort) (after w more) (converted (definition sort) v) s typed (laws.converted sort of v fits is))

  pub ranged_ends : (low high : ℤ) (o : Outcome Value) → IsSome (stored_as (definition sort)) → Ends w (ValueAt sort) o → Ends w (ValueAt sort) (and_then o (λ v. found (ranged low high v)))
  ranged_ends low high o fits h =
      ends_bind (ValueAt sort) w (ValueAt sort) o (λ v. found (ranged low high v)) h (λ more v s typed is.
      let laws : OperatorLaws (after w more) = operator_laws (after w more) in
      ends_found (ValueAt sort) (after w more) (ranged low high v) s typed (laws.ranged sort low high v fits is))

  -- the right side, unless the left one decides
  right_ends : (left right : Sort) (op : BinaryOp) (early : Bool) (a : Value) (go : Does Value) (s : State) → FitsBinary op (definition sort) (definition left) (definition right) → MayBeEarly op early (definition sort)
      → IsTypedState w s → IsValueOf w left a → ((t : State) → IsTypedState w t → Ends w (ValueAt right) (go t))
      → (chosen : Option Value) → decided op early a ≡ chosen → Ends w (ValueAt sort) (unless chosen (go >>= λ b. looked (binary op (stored_as (definition sort)) a b)) s)
  right_ends left right op early a go s fits may typed is next (Some v) e =
      let laws : OperatorLaws w = operator_laws w in
      ends_done (ValueAt sort) w v s typed (laws.decided sort op early a v may e)
  right_ends left right op early a go s fits may typed is next None e =
      ends_bind (ValueAt right) w (ValueAt sort) (go s) (λ b. looked (binary op (stored_as (definition sort)) a b)) (next s typed) (λ more b t typed is'.
      let laws : OperatorLaws (after w more) = operator_laws (after w more) in
      ends_looked (ValueAt sort) (after w more) (binary op (stored_as (definition sort)) a b) t typed (laws.binary sort left right op a b t.store fits (value_grows w (after w more) (grows_by w more) left a is) is'))

module _ (program : Program) (kept : Kept) where
  pub binary_ends : (made : List Made) (sort left right : Sort) (op : BinaryOp) (early : Bool) (o : Outcome Value) (go : Does Value) → FitsBinary op (definition sort) (definition left) (definition right) → MayBeEarly op early (definition sort)
      → kept.holds made → Ends (world program made) (ValueAt left) o
      → ((made' : List Made) (t : State) → kept.holds made' → IsTypedState (world program made') t → Ends (world program made') (ValueAt right) (go t))
      → Ends (world program made) (ValueAt sort) (and_then o (λ a. unless (decided op early a) (go >>= λ b. looked (binary op (stored_as (definition sort)) a b))))
  binary_ends made sort left right op early o go fits may k h next =
      chain program kept (ValueAt left) (ValueAt sort) made o (λ a. unless (decided op early a) (go >>= λ b. looked (binary op (stored_as (definition sort)) a b))) k h (λ made' a s k' typed is.
      right_ends (world program made') sort left right op early a go s fits may typed is (λ t typed'. next made' t k' typed') (decided op early a) refl)

  -- an element of a set, and then what is done with it
  pub element_ends : {B : Type 0} (Q : World → B → Type 0) (made : List Made) (of : Sort) (o : Outcome Value) (go : ℕ → Does B) → IsSome (family_of (definition of)) → kept.holds made → Ends (world program made) (ValueAt of) o
      → ((made' : List Made) (n : ℕ) (t : State) → n < 256 → kept.holds made' → IsTypedState (world program made') t → Ends (world program made') Q (go n t)) → Ends (world program made) Q (and_then o (λ v. found (element_of v) >>= go))
  element_ends Q made of o go fits k h next =
      chain program kept (ValueAt of) Q made o (λ v. found (element_of v) >>= go) k h (λ made' v s k' typed is.
      let laws : OperatorLaws (world program made') = operator_laws (world program made') in
      chain program kept (λ u n. n < 256) Q made' (found (element_of v) s) go k' (ends_found (λ u n. n < 256) (world program made') (element_of v) s typed (laws.element of v fits is)) (λ made'' n t k'' typed' small.
      next made'' n t small k'' typed'))

  -- the elements of a span, and then what is done with the set
  pub span_ends : {B : Type 0} (Q : World → B → Type 0) (made : List Made) (of to : Sort) (set : List ℕ) → All (LiesWithin 0 32) set → (o : Outcome Value) (last : Does Value) (go : List ℕ → Does B) → IsSome (family_of (definition of)) → IsSome (family_of (definition to))
      → kept.holds made → Ends (world program made) (ValueAt of) o
      → ((made' : List Made) (t : State) → kept.holds made' → IsTypedState (world program made') t → Ends (world program made') (ValueAt to) (last t))
      → ((made' : List Made) (more : List ℕ) (t : State) → All (LiesWithin 0 32) more → kept.holds made' → IsTypedState (world program made') t → Ends (world program made') Q (go more t))
      → Ends (world program made) Q (and_then o (λ v. last >>= λ x. found (spanned set v x) >>= go))
  span_ends Q made of to set are o last go fits fits' k h next rest =
      chain program kept (ValueAt of) Q made o (λ v. last >>= λ x. found (spanned set v x) >>= go) k h (λ made1 v s k1 typed1 is.
      chain program (both kept (value_kept program of v)) (ValueAt to) Q made1 (last s) (λ x. found (spanned set v x) >>= go) (k1, is) (next made1 s k1 typed1) (λ made2 x t k2 typed2 is'.
      let laws : OperatorLaws (world program made2) = operator_laws (world program made2) in
      chain program kept (λ u n. All (LiesWithin 0 32) n) Q made2 (found (spanned set v x) t) go k2.0 (ends_found (λ u n. All (LiesWithin 0 32) n) (world program made2) (spanned set v x) t typed2 (laws.spanned of to set v x are fits fits' k2.1 is')) (λ made3 more u k3 typed3 y.
      rest made3 more u y k3 typed3)))
