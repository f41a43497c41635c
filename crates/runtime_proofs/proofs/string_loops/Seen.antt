-- Statements that stand first in straight code, by what their expressions come to.
use Rattle.std.proofs.Common.{◌≡◌, ℕ, Ok, ℤ, ap, ◌∙◌}
use Rattle.common_values.specs.integers.Words.{w16, wrapping_add, wrapping_sub}
use Rattle.flat_code.specs.declared.tree.Address.TheVariants.{Local}
use Rattle.flat_code.specs.declared.tree.FlatOp.{FlatOp}
use Rattle.flat_code.specs.declared.tree.FlatOp.TheVariants as op
use Rattle.flat_code.specs.Tree.{Expr, Op, Code}
use Rattle.flat_code.specs.Memory.{Found, ◌>>=◌}
use Rattle.flat_code.specs.Program.{Choice}
use Rattle.flat_code.specs.Meaning.{Frame, op_of}
use Rattle.runtime_proofs.specs.routine_proofs.Activation.{Activation}
use Rattle.runtime_proofs.specs.routine_proofs.Straight.{seen_value, with_word_at, onward, continued, straight}
use Rattle.runtime_proofs.specs.string_loops.Pieces.{word, set_word, raise, lessen}

module _ (choice : Choice) (own : Frame) (above : ℕ) where
  pub op-so : (o : FlatOp) (x y : Expr) (a : Activation) (v w : ℕ) → seen_value choice own above a x ≡ Ok v → seen_value choice own above a y ≡ Ok w → seen_value choice own above a (Op o x y) ≡ op_of o v w
  op-so o x y a v w e g =
      ap (λ (found : Found ℕ). found >>= λ v. seen_value choice own above a y >>= λ w. op_of o v w) e
      ∙ ap (λ (found : Found ℕ). found >>= λ w. op_of o v w) g

  pub set-so : (at : ℤ) (value : Expr) (next : Code) (a b : Activation) (v : ℕ) → seen_value choice own above a value ≡ Ok v → with_word_at choice own above a (Local at) v ≡ Ok b → straight choice own above (set_word at value next) a ≡ straight choice own above next b
  set-so at value next a b v e g =
      ap (λ (found : Found ℕ). (found >>= λ v. with_word_at choice own above a (Local at) v >>= λ b. onward b) >>= λ c. continued c.exit c.there (straight choice own above next)) e
      ∙ ap (λ (found : Found Activation). (found >>= λ b. onward b) >>= λ c. continued c.exit c.there (straight choice own above next)) g

  pub raise-so : (at : ℤ) (value : Expr) (next : Code) (a b : Activation) (x v : ℕ) → seen_value choice own above a (word at) ≡ Ok x → seen_value choice own above a value ≡ Ok v → with_word_at choice own above a (Local at) (wrapping_add w16 x v) ≡ Ok b → straight choice own above (raise at value next) a ≡ straight choice own above next b
  raise-so at value next a b x v e g h = set-so at (Op op.Add (word at) value) next a b (wrapping_add w16 x v) (op-so op.Add (word at) value a x v e g) h

  pub lessen-so : (at : ℤ) (value : Expr) (next : Code) (a b : Activation) (x v : ℕ) → seen_value choice own above a (word at) ≡ Ok x → seen_value choice own above a value ≡ Ok v → with_word_at choice own above a (Local at) (wrapping_sub w16 x v) ≡ Ok b → straight choice own above (lessen at value next) a ≡ straight choice own above next b
  lessen-so at value next a b x v e g h = set-so at (Op op.Sub (word at) value) next a b (wrapping_sub w16 x v) (op-so op.Sub (word at) value a x v e g) h
