-- What holds of the operators.
use Rattle.std.specs.Prelude.{◌≡◌, ◌≢◌, ℕ, true, false, ℤ, ◌<ℤ◌, ◌≤ℤ◌, List, Option, Some, Ok, Err}
use Rattle.type_layout.specs.declared.definitions.Host.{Host}
use Rattle.type_layout.specs.declared.definitions.Host.TheVariants as host
use Rattle.typed_tree.specs.declared.expressions.UnaryOp.TheVariants.{Not}
use Rattle.typed_tree.specs.declared.expressions.BinaryOp.{BinaryOp}
use Rattle.typed_tree.specs.declared.expressions.BinaryOp.TheVariants.{And, Or, Equal, NotEqual, Less, LessOrEqual, Greater, GreaterOrEqual}
use Rattle.tp_meaning.specs.Trees.{Value, Ordinal}
use Rattle.tp_meaning.specs.Found.{Error, Found, ◌>>=◌}
use Rattle.tp_meaning.specs.Store.{Store}
use Rattle.tp_meaning.specs.Operators.{truth, complement, unary, computed, on_ordinals, on_texts, binary, decided, ranged}

-- what the left side of an operator decides alone is what both sides would give
pub record EarlyLaws : Type 0 where
  pub same : (op : BinaryOp) (a b : ℤ) (v : Value) (store : Store) → decided op true (Ordinal a) ≡ Some v → binary op (Some host.Boolean) (Ordinal a) (Ordinal b) store ≡ Ok v

-- the other answer of a relation
abbrev pub negated : Found Value → Found Value
negated found = found >>= unary Not (Some host.Boolean)

-- the relations of ordinals are those of numbers
pub record OrderLaws : Type 0 where
  pub less : (stored : Option Host) (a b : ℤ) → a <ℤ b → on_ordinals Less stored a b ≡ Ok (truth true)
  pub not_less : (stored : Option Host) (a b : ℤ) → b ≤ℤ a → on_ordinals Less stored a b ≡ Ok (truth false)
  pub equal : (stored : Option Host) (a : ℤ) → on_ordinals Equal stored a a ≡ Ok (truth true)
  pub apart : (stored : Option Host) (a b : ℤ) → a ≢ b → on_ordinals Equal stored a b ≡ Ok (truth false)
  pub less_or_equal : (stored : Option Host) (a b : ℤ) → a ≤ℤ b → on_ordinals LessOrEqual stored a b ≡ Ok (truth true)
  pub opposites : (stored : Option Host) (a b : ℤ) → on_ordinals NotEqual stored a b ≡ negated (on_ordinals Equal stored a b)
  pub not_below : (stored : Option Host) (a b : ℤ) → on_ordinals GreaterOrEqual stored a b ≡ negated (on_ordinals Less stored a b)
  pub above : (stored : Option Host) (a b : ℤ) → on_ordinals Greater stored a b ≡ negated (on_ordinals LessOrEqual stored a b)

-- each relation of texts is the negation of its opposite
pub record TextOrderLaws : Type 0 where
  pub opposites : (a b : List ℕ) → on_texts NotEqual a b ≡ negated (on_texts Equal a b)
  pub not_below : (a b : List ℕ) → on_texts GreaterOrEqual a b ≡ negated (on_texts Less a b)
  pub above : (a b : List ℕ) → on_texts Greater a b ≡ negated (on_texts LessOrEqual a b)

-- `not` turns `and` into `or`, and twice it gives the truth of what it was given
pub record BooleanLaws : Type 0 where
  pub of_both : (a b : ℤ) → negated (computed And (Some host.Boolean) a b) ≡ computed Or (Some host.Boolean) (complement host.Boolean a) (complement host.Boolean b)
  pub of_either : (a b : ℤ) → negated (computed Or (Some host.Boolean) a b) ≡ computed And (Some host.Boolean) (complement host.Boolean a) (complement host.Boolean b)

-- a range test passes the numbers between its bounds, and no other
pub record RangeLaws : Type 0 where
  pub within : (low high z : ℤ) → low ≤ℤ z → z ≤ℤ high → ranged low high (Ordinal z) ≡ Ok (Ordinal z)
  pub below : (low high z : ℤ) → z <ℤ low → ranged low high (Ordinal z) ≡ Err (Error 201)
  pub above : (low high z : ℤ) → high <ℤ z → ranged low high (Ordinal z) ≡ Err (Error 201)
