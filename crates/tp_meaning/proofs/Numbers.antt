-- Where nothing wraps, the operators are those of whole numbers.
use Rattle.std.proofs.Common.{◌≡◌, ◌≢◌, Bool, true, false, refl, ap, ◌∙◌}
use Rattle.std.specs.Prelude.{if◌then◌else◌, ℤ, pos, ◌+ℤ◌, ◌-ℤ◌, ◌*ℤ◌, Ok, Err}
use Rattle.std.specs.Int.RustNames.{int_div}
use Rattle.std.specs.Ordering.{int_eq}
use Rattle.std.proofs.lemmas.Bool.Decides.{Decides-int_eq}
use Rattle.common_values.specs.declared.ordinals.IntegerType.{IntegerType}
use Rattle.common_values.specs.Ordinals.{quotient, remainder}
use Rattle.common_values.proofs.OrdinalLemmas.{storage_laws, operator_laws}
use Rattle.tp_meaning.specs.Found.{Error}
use Rattle.tp_meaning.specs.Operators.{divided}
use Rattle.tp_meaning.specs.Laws.{WholeNumberLaws}

test_false : (b : Bool) → (b ≡ true → ⊥) → b ≡ false
test_false true p = absurd (p refl)
test_false false p = refl

not_zero : (divisor z : ℤ) → divisor ≢ pos 0 → divided divisor z ≡ Ok z
not_zero divisor z p =
    ap (λ b. if b then Err (Error 200) else Ok z) (test_false (int_eq divisor (pos 0)) (λ e. p ((Decides-int_eq divisor (pos 0)).0 e)))

pub whole_number_laws : (t : IntegerType) → WholeNumberLaws t
whole_number_laws t = record {
  sum = λ a b p. ap Ok ((storage_laws t).same (a +ℤ b) p);
  difference = λ a b p. ap Ok ((storage_laws t).same (a -ℤ b) p);
  product = λ a b p. ap Ok ((storage_laws t).same (a *ℤ b) p);
  quotient = λ a b n p. not_zero b (quotient t a b) n ∙ ap Ok ((storage_laws t).same (int_div a b) p);
  remainder = λ a b n p q. not_zero b (remainder t a b) n ∙ ap Ok ((operator_laws t).remainder a b p q n);
}
