-- Operators on values of their types give values of theirs, an error or an undefined act.
use Rattle.std.specs.Prelude.{◌≡◌, ℕ, ℤ, Bool, List, Some, ◌<◌, All}
use Rattle.tp_meaning.specs.typed_tree.declared.expressions.UnaryOp.{UnaryOp}
use Rattle.tp_meaning.specs.typed_tree.declared.expressions.BinaryOp.{BinaryOp}
use Rattle.tp_meaning.specs.typed_tree.type_fits.Fits.{stored_as, family_of, IsSome}
use Rattle.tp_meaning.specs.typed_tree.type_fits.Operators.{FitsUnary, FitsBinary, MayBeEarly, IsConversion}
use Rattle.tp_meaning.specs.Trees.{Value}
use Rattle.tp_meaning.specs.Store.{Store}
use Rattle.tp_meaning.specs.Programs.{Sort, definition}
use Rattle.tp_meaning.specs.Operators.{unary, binary, decided, converted, ranged, element_of, spanned}
use Rattle.store_typing.specs.stores.Worlds.{World, LiesWithin}
use Rattle.store_typing.specs.stores.Places.{IsValueOf}
use Rattle.store_typing.specs.stores.Stores.{Finds}

pub record OperatorLaws (w : World) : Type 0 where
  pub unary : (sort of : Sort) (op : UnaryOp) (v : Value) → FitsUnary op (definition sort) (definition of) → IsValueOf w of v → Finds (IsValueOf w sort) (unary op (stored_as (definition sort)) v)
  pub binary : (sort left right : Sort) (op : BinaryOp) (a b : Value) (store : Store) → FitsBinary op (definition sort) (definition left) (definition right) → IsValueOf w left a → IsValueOf w right b
      → Finds (IsValueOf w sort) (binary op (stored_as (definition sort)) a b store)
  -- what the left side decides alone
  pub decided : (sort : Sort) (op : BinaryOp) (early : Bool) (a v : Value) → MayBeEarly op early (definition sort) → decided op early a ≡ Some v → IsValueOf w sort v
  pub converted : (sort of : Sort) (v : Value) → IsConversion (definition sort) (definition of) → IsValueOf w of v → Finds (IsValueOf w sort) (converted (definition sort) v)
  pub ranged : (sort : Sort) (low high : ℤ) (v : Value) → IsSome (stored_as (definition sort)) → IsValueOf w sort v → Finds (IsValueOf w sort) (ranged low high v)
  pub element : (of : Sort) (v : Value) → IsSome (family_of (definition of)) → IsValueOf w of v → Finds (λ n. n < 256) (element_of v)
  pub spanned : (of to : Sort) (set : List ℕ) (v x : Value) → All (LiesWithin 0 32) set → IsSome (family_of (definition of)) → IsSome (family_of (definition to)) → IsValueOf w of v → IsValueOf w to x → Finds (λ more. All (LiesWithin 0 32) more) (spanned set v x)
