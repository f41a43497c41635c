-- Calls of the runtime's routines, and of those of the sources as far as their activations.
use Rattle.std.proofs.Common.{◌≡◌, ℕ, suc, ◌+◌, ◌*◌, ◌<◌, Bool, true, false, List, length, refl, sym, ap, ◌∙◌, subst, arith, eq-eqb}
use Rattle.std.specs.Prelude.{if◌then◌else◌, ◌&&◌, not}
use Rattle.common_values.specs.behaviour.Seen.{Undefined}
use Rattle.tp_meaning.specs.Trees.{Value}
use Rattle.tp_meaning.specs.Found as found
use Rattle.tp_meaning.specs.Programs.{is_overlaid}
use Rattle.tp_meaning.specs.Outcomes as source
use Rattle.tp_meaning.specs.Activations.{Callee}
use Rattle.tp_meaning.specs.Calls as calls
use Rattle.flat_code.specs.Tree.{exprs_size, Runtime, Call, End, Do}
use Rattle.flat_code.specs.Memory.{Found}
use Rattle.flat_code.specs.Program.{Key, FlatProgram, Choice}
use Rattle.flat_code.specs.Gives.{with_turns}
use Rattle.flat_code.specs.Calls as flat
use Rattle.flat_code.specs.Meaning.{Frame, key_of, with_found, spend, runtime_of, called, begun, run}
use Rattle.flat_code.proofs.Nodes.{run-alone}
use Rattle.flat_code.proofs.Steps.{runtime-routine, called-entered}
use Rattle.lowering_simulation.specs.Meets.{FlatRun, Relation, Landing, SameTexts, Meets}
use Rattle.lowering_simulation.specs.Routines.{RuntimeCall, RoutineCall, Entering, CallLaws}
use Rattle.lowering_simulation.proofs.Meets.{charged, at_once, alike, raised}

module _ (target : FlatProgram) (choice : Choice) (f : Frame) where
  runtime_call : RuntimeCall target choice f
  runtime_call number args vs result t more is left =
      let u = begun (1 + exprs_size args) (with_turns t (suc left)) in
      let sum : 1 + left ≡ suc left = omega arith in
      ap (λ n. run target choice (Do (Runtime number args result) End) f (with_turns t n)) sum
      ∙ run-alone target choice (Runtime number args result) f (with_turns t (suc left)) u refl
      ∙ ap (λ (found : Found (List ℕ)). with_found found u (λ vs. spend u (runtime_of target choice (run target choice) number vs result f))) is
      ∙ runtime-routine target choice (run target choice) number vs result f (with_turns (begun (1 + exprs_size args) t) left) more

  routine_call : RoutineCall target choice f
  routine_call unit number args vs key result t is found left =
      let u = begun (1 + exprs_size args) (with_turns t left) in
      let go : Found Key → List ℕ → flat.State → flat.Outcome = λ key vs s. with_found key s (called target choice (run target choice) vs result f s) in
      run-alone target choice (Call unit number args result) f (with_turns t left) u refl
      ∙ ap (λ (found : Found (List ℕ)). with_found found u (λ vs. spend u (go (key_of f unit number) vs))) is
      ∙ ap (λ (key : Found Key). spend u (go key vs)) found

module _ (few : ℕ) (target : FlatProgram) (choice : Choice) (f : Frame) (P : Relation Value) where
  -- a test on both sides, an error where it holds
  if_raised : (weight turns code : ℕ) (b c : Bool) (go : FlatRun) (t : flat.State) (lands : Landing Value) (next : source.Does Value) (s : source.State) → b ≡ c → code < 256 → SameTexts s t →
      Meets few weight turns go t lands P (next s) →
      Meets few weight turns (λ u. if b then flat.raised code u else go u) t lands P (source.and_then (source.raised_if c code s) (λ z. next))
  if_raised weight turns code true true go t lands next s e small x h = raised few P 0 weight turns code (flat.raised code) t t lands s (at_once (flat.raised code) (flat.raised code) t t (λ left. refl)) (charged few weight t t refl (omega arith)) x small
  if_raised weight turns code false false go t lands next s e small x h = h
  if_raised weight turns code true false go t lands next s e small x h = absurd cc
  if_raised weight turns code false true go t lands next s e small x h = absurd cc

  enters : Entering few target choice f P
  enters weight turns program again g key own class xs callee flat_key unit r args result s t lands stands overlaid deep x h =
      let name = flat_key.unit in
      let go : FlatRun = flat.activated choice (run target choice) name unit r args result f in
      let tested : FlatRun = flat.tested target choice (run target choice) name unit r args result f in
      let rest : source.Does Value = calls.activated again callee g own class xs in
      let deeper : source.Does Value = λ s. source.and_then (source.raised_if (calls.is_too_deep program callee g.sum) 202 s) (λ z. rest) in
      let admit : Bool = target.overlaid name && not t.flag in
      let outcome : found.Found Callee → source.Outcome Value = λ x. source.and_then (source.found x s) (λ (callee : Callee). λ s.
      source.and_then (source.raised_if (is_overlaid program key.unit && not s.installed) 208 s) (λ z. λ s.
      source.and_then (source.raised_if (calls.is_too_deep program callee g.sum) 202 s) (λ z. calls.activated again callee g own class xs))) in
      subst (λ o. Meets few weight turns (λ u. called target choice (run target choice) args result f u flat_key) t lands P (outcome o)) (sym stands.callee_is)
      (alike few P weight turns (λ u. called target choice (run target choice) args result f u flat_key) (λ u. if admit then flat.raised 208 u else tested u) t lands
      (source.and_then (source.raised_if (is_overlaid program key.unit && not s.installed) 208 s) (λ z. deeper))
      (λ left. called-entered target choice (run target choice) args result f (with_turns t left) flat_key unit r (sym stands.unit_is) (sym stands.routine_is)
      ∙ ap (λ b. if b then flat.admitted target choice (run target choice) name unit r args result f (with_turns t left) else flat.Over (Undefined 1) (with_turns t left)) (eq-eqb (2 * length args) r.arguments stands.fits))
      (if_raised weight turns 208 admit (is_overlaid program key.unit && not s.installed) tested t lands deeper s overlaid (omega arith) x
      (if_raised weight turns 202 (flat.is_too_deep target r f.sum) (calls.is_too_deep program callee g.sum) go t lands rest s deep (omega arith) x h)))

  pub call_laws : CallLaws few target choice f P
  call_laws = record { runtime = runtime_call target choice f; routine = routine_call target choice f; entering = enters }
