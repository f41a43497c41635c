-- Operators, by what their operands are.
use Rattle.std.proofs.Common.{◌≡◌, ◌≢◌, Bool, true, false, ℤ, ◌<ℤ◌, ◌≤ℤ◌, Some, None, refl, sym, ap, ◌∙◌, arith}
use Rattle.std.specs.Prelude.{Ok, Err, not, ◌&&◌, ◌||◌, if◌then◌else◌}
use Rattle.std.specs.declared.cmp.Ordering.{Ordering}
use Rattle.std.specs.declared.cmp.Ordering.TheVariants as ordering
use Rattle.std.specs.Ordering.{MatchOrdering, int_cmp}
use Rattle.std.proofs.lemmas.Cmp.{int_ranked}
use Rattle.std.proofs.lemmas.Int.{ints}
use Rattle.type_layout.specs.declared.definitions.Host.TheVariants as host
use Rattle.typed_tree.specs.declared.expressions.BinaryOp.{BinaryOp}
use Rattle.typed_tree.specs.declared.expressions.BinaryOp.TheVariants as op
use Rattle.common_values.specs.Strings.{compared}
use Rattle.tp_meaning.specs.Trees.{Value, Ordinal}
use Rattle.tp_meaning.specs.Found.{Error, Found, ◌>>=◌}
use Rattle.tp_meaning.specs.Store.{Store}
use Rattle.tp_meaning.specs.Operators.{truth, truth_number, is_true, is_equal, is_less, computed, binary, decided, is_between, ranged}
use Rattle.tp_meaning.specs.operator_laws.Laws.{EarlyLaws, negated, OrderLaws, TextOrderLaws, BooleanLaws, RangeLaws}

-- ---- early decisions

-- a value that is found
abbrev gives : Value → Found Value
gives v = Ok v

and_early : (x y : Bool) (v : Value) → (if x then None else Some (truth false)) ≡ Some v → gives (truth (x && y)) ≡ gives v
and_early true y v e = absurd (cc e)
and_early false y v e = cc

or_early : (x y : Bool) (v : Value) → (if x then Some (truth true) else None) ≡ Some v → gives (truth (x || y)) ≡ gives v
or_early true y v e = cc
or_early false y v e = absurd (cc e)

early : (one : BinaryOp) (a b : ℤ) (v : Value) (store : Store) → decided one true (Ordinal a) ≡ Some v → binary one (Some host.Boolean) (Ordinal a) (Ordinal b) store ≡ Ok v
early op.And a b v store e = and_early (is_true a) (is_true b) v e
early op.Or a b v store e = or_early (is_true a) (is_true b) v e
early op.Add a b v store e = absurd (cc e)
early op.Subtract a b v store e = absurd (cc e)
early op.Multiply a b v store e = absurd (cc e)
early op.Divide a b v store e = absurd (cc e)
early op.Modulo a b v store e = absurd (cc e)
early op.ShiftLeft a b v store e = absurd (cc e)
early op.ShiftRight a b v store e = absurd (cc e)
early op.Xor a b v store e = absurd (cc e)
early op.Equal a b v store e = absurd (cc e)
early op.NotEqual a b v store e = absurd (cc e)
early op.Less a b v store e = absurd (cc e)
early op.LessOrEqual a b v store e = absurd (cc e)
early op.Greater a b v store e = absurd (cc e)
early op.GreaterOrEqual a b v store e = absurd (cc e)
early op.In a b v store e = absurd (cc e)

pub early_laws : EarlyLaws
early_laws = record { same = early }

-- ---- relations

not_truth : (x : Bool) → gives (truth (not x)) ≡ negated (gives (truth x))
not_truth true = refl
not_truth false = refl

less_of : (o : Ordering) (a b : ℤ) → MatchOrdering o (a <ℤ b) (a ≡ b) (b <ℤ a) → a <ℤ b → o ≡ ordering.Less
less_of ordering.Less a b m h = refl
less_of ordering.Equal a b m h = let k : a ≡ b = m in absurd (omega (arith, ints, k, h))
less_of ordering.Greater a b m h = let k : b <ℤ a = m in absurd (omega (arith, ints, k, h))

not_less_of : (o : Ordering) (a b : ℤ) → MatchOrdering o (a <ℤ b) (a ≡ b) (b <ℤ a) → b ≤ℤ a → is_less o ≡ false
not_less_of ordering.Less a b m h = let k : a <ℤ b = m in absurd (omega (arith, ints, k, h))
not_less_of ordering.Equal a b m h = refl
not_less_of ordering.Greater a b m h = refl

equal_of : (o : Ordering) (a : ℤ) → MatchOrdering o (a <ℤ a) (a ≡ a) (a <ℤ a) → is_equal o ≡ true
equal_of ordering.Less a m = let k : a <ℤ a = m in absurd (omega (arith, ints, k))
equal_of ordering.Equal a m = refl
equal_of ordering.Greater a m = let k : a <ℤ a = m in absurd (omega (arith, ints, k))

apart_of : (o : Ordering) (a b : ℤ) → MatchOrdering o (a <ℤ b) (a ≡ b) (b <ℤ a) → a ≢ b → is_equal o ≡ false
apart_of ordering.Less a b m h = refl
apart_of ordering.Equal a b m h = absurd (h m)
apart_of ordering.Greater a b m h = refl

up_to_of : (o : Ordering) (a b : ℤ) → MatchOrdering o (a <ℤ b) (a ≡ b) (b <ℤ a) → a ≤ℤ b → (is_less o || is_equal o) ≡ true
up_to_of ordering.Less a b m h = refl
up_to_of ordering.Equal a b m h = refl
up_to_of ordering.Greater a b m h = let k : b <ℤ a = m in absurd (omega (arith, ints, k, h))

abbrev holds : Bool → Found Value
holds x = Ok (truth x)

pub order_laws : OrderLaws
order_laws = record {
  less = λ stored a b h. ap (λ (o : Ordering). holds (is_less o)) (less_of (int_cmp a b) a b (int_ranked a b (int_cmp a b) refl) h);
  not_less = λ stored a b h. ap holds (not_less_of (int_cmp a b) a b (int_ranked a b (int_cmp a b) refl) h);
  equal = λ stored a. ap holds (equal_of (int_cmp a a) a (int_ranked a a (int_cmp a a) refl));
  apart = λ stored a b h. ap holds (apart_of (int_cmp a b) a b (int_ranked a b (int_cmp a b) refl) h);
  less_or_equal = λ stored a b h. ap holds (up_to_of (int_cmp a b) a b (int_ranked a b (int_cmp a b) refl) h);
  opposites = λ stored a b. not_truth (is_equal (int_cmp a b));
  not_below = λ stored a b. not_truth (is_less (int_cmp a b));
  above = λ stored a b. not_truth (is_less (int_cmp a b) || is_equal (int_cmp a b));
}

pub text_order_laws : TextOrderLaws
text_order_laws = record {
  opposites = λ a b. not_truth (is_equal (compared a b));
  not_below = λ a b. not_truth (is_less (compared a b));
  above = λ a b. not_truth (is_less (compared a b) || is_equal (compared a b));
}

-- ---- Booleans

both : (x y : Bool) → negated (gives (truth (x && y))) ≡ computed op.Or (Some host.Boolean) (truth_number (not x)) (truth_number (not y))
both true true = refl
both true false = refl
both false true = refl
both false false = refl

either : (x y : Bool) → negated (gives (truth (x || y))) ≡ computed op.And (Some host.Boolean) (truth_number (not x)) (truth_number (not y))
either true true = refl
either true false = refl
either false true = refl
either false false = refl

pub boolean_laws : BooleanLaws
boolean_laws = record { of_both = λ a b. both (is_true a) (is_true b); of_either = λ a b. either (is_true a) (is_true b) }

-- ---- ranges

in_range : (low high z : ℤ) (x : Bool) → x ≡ is_between low high z → x ≡ true → ranged low high (Ordinal z) ≡ Ok (Ordinal z)
in_range low high z x e f = ap (λ (b : Bool). (if b then Ok z else Err (Error 201)) >>= λ w. Ok (Ordinal w)) (sym e ∙ f)

out_of_range : (low high z : ℤ) (x : Bool) → x ≡ is_between low high z → x ≡ false → ranged low high (Ordinal z) ≡ Err (Error 201)
out_of_range low high z x e f = ap (λ (b : Bool). (if b then Ok z else Err (Error 201)) >>= λ w. Ok (Ordinal w)) (sym e ∙ f)

pub range_laws : RangeLaws
range_laws = record {
  within = λ low high z h k. in_range low high z (is_between low high z) refl (grind (arith, ints));
  below = λ low high z h. out_of_range low high z (is_between low high z) refl (grind (arith, ints));
  above = λ low high z h. out_of_range low high z (is_between low high z) refl (grind (arith, ints));
}
