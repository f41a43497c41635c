-- What the runtime's test of code tells.
use Rattle.std.proofs.Common.{◌≡◌, ℕ, zero, suc, ◌<◌, true, ◌&&◌, List, [], ◌∷◌, arith}
use Rattle.std.specs.Prelude.{nat_lt}
use Rattle.std.proofs.lemmas.Bool.{and_parts}
use Rattle.std.proofs.lemmas.Bool.Decides.{nat_tests}
use Rattle.flat_code.specs.Tree.{Expr, Number, Byte, Word, AddressOf, SegmentOf, VmtOf, Op, Step, StoreByte, StoreWord, Copy, Leave, Call, CallThrough, Runtime, StoreRoutine, Return, Error, Code, End, Do, If, Loop}
use Rattle.flat_code.specs.Program.{Name, FlatProgram}
use Rattle.runtime_units.specs.PlainCode.{has_words, all_have_words, is_plain_step, is_plain, IsPlainRuntime}
use Rattle.statement_simulation.specs.expressions.Evaluates.{HasWords}
use Rattle.effect_simulation.specs.effects.Pushed.{AllHaveWords}
use Rattle.code_simulation.specs.bodies.Expressible.{RuntimeIsFar, StepIsExpressible, CodeIsExpressible, IsNoThrough, HasNoThrough}
use Rattle.compiler_correctness.specs.Expressible.{PlainIsExpressible, RuntimeIsExpressible}

below : (n k : ℕ) → nat_lt n k ≡ true → n < k
below n k h = grind (arith, nat_tests, h)

words : (e : Expr) → has_words e ≡ true → HasWords e
words (Number n) h = below n 65536 h
words (Byte at) h = tt
words (Word at) h = tt
words (AddressOf at) h = tt
words (SegmentOf at) h = tt
words (VmtOf unit number) h = tt
words (Op op a b) h = let p = and_parts (has_words a) (has_words b) h in (words a p.0, words b p.1)

all-words : (es : List Expr) → all_have_words es ≡ true → AllHaveWords es
all-words [] h = tt
all-words (e ∷ es) h = let p = and_parts (has_words e) (all_have_words es) h in (words e p.0, all-words es p.1)

module _ (program : FlatProgram) (own : Name) (names : List Name) where
  -- effects of the machine are no routines
  near : (number : ℕ) → nat_lt number 5 ≡ true → RuntimeIsFar program number
  near zero h = tt
  near (suc zero) h = tt
  near (suc (suc zero)) h = tt
  near (suc (suc (suc zero))) h = tt
  near (suc (suc (suc (suc zero)))) h = tt
  near (suc (suc (suc (suc (suc n))))) h = let l = below (suc (suc (suc (suc (suc n))))) 5 h in absurd (omega (arith, l))

  step-is : (step : Step) → is_plain_step step ≡ true → StepIsExpressible program own names step × IsNoThrough step
  step-is (StoreByte to value) h = (words value h, tt)
  step-is (StoreWord to value) h = (words value h, tt)
  step-is (Copy to from bytes) h = (below bytes 65536 h, tt)
  step-is (Leave loops) h = (tt, tt)
  step-is (Call unit number args result) h = absurd cc
  step-is (CallThrough pointer args result) h = absurd cc
  step-is (Runtime number args result) h = let p = and_parts (nat_lt number 5) (all_have_words args) h in ((all-words args p.1, near number p.0), tt)
  step-is (StoreRoutine to unit number) h = (tt, tt)
  step-is Return h = (tt, tt)
  step-is (Error code) h = (below code 65536 h, tt)

  code-is : (code : Code) → is_plain code ≡ true → CodeIsExpressible program own names code × HasNoThrough code
  code-is End h = (tt, tt)
  code-is (Do step next) h =
      let p = and_parts (is_plain_step step) (is_plain next) h in
      let first = step-is step p.0 in
      let rest = code-is next p.1 in
      ((first.0, rest.0), (first.1, rest.1))
  code-is (If test taken other next) h =
      let p = and_parts (has_words test) (is_plain taken && (is_plain other && is_plain next)) h in
      let q = and_parts (is_plain taken) (is_plain other && is_plain next) p.1 in
      let r = and_parts (is_plain other) (is_plain next) q.1 in
      let one = code-is taken q.0 in
      let two = code-is other r.0 in
      let rest = code-is next r.1 in
      ((words test p.0, one.0, two.0, rest.0), (one.1, two.1, rest.1))
  code-is (Loop body next) h =
      let p = and_parts (is_plain body) (is_plain next) h in
      let one = code-is body p.0 in
      let rest = code-is next p.1 in
      ((one.0, rest.0), (one.1, rest.1))

pub plain-is : PlainIsExpressible
plain-is = code-is

pub runtime-is : (program : FlatProgram) → IsPlainRuntime program → RuntimeIsExpressible program
runtime-is program plain key unit r is there e = code-is program key.unit unit.names r.body (plain key r is e)
