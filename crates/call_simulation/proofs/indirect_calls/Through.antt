-- The statement that calls through a far pointer: arguments, the pointer, the call, and the result.
use Rattle.std.proofs.Common.{◌≡◌, ℕ, zero, suc, ◌+◌, ◌*◌, ◌<◌, ◌≤◌, ◌==◌, Bool, true, false, not, List, ◌∷◌, ◌++◌, length, Option, Some, None, Ok, Err, arith, refl, sym, subst, ◌∙◌, length-append}
use Rattle.std.specs.Prelude.{IsTrue, if◌then◌else◌, ◌&&◌}
use Rattle.common_values.specs.behaviour.Seen.{Going, Undefined}
use Rattle.x86_table.specs.declared.instr.Instr.{Instr}
use Rattle.x86_table.specs.declared.instr.Instr.TheVariants as instr
use Rattle.x86_table.specs.Standing.{IsSpelledAt, Stands}
use Rattle.x86_table.proofs.Stand.{stands_front, stands_back}
use Rattle.flat_code.specs.declared.memory.Place.{Place}
use Rattle.flat_code.specs.declared.memory.Trap.TheVariants.{ByZero, Bad}
use Rattle.flat_code.specs.declared.tree.Address.{Address}
use Rattle.flat_code.specs.declared.tree.FlatResult.{FlatResult}
use Rattle.flat_code.specs.Calls.{State, Outcome, Over, with_found, with_some, spent, spend, begun, raised, tested, called, pointer_at}
use Rattle.flat_code.specs.Legal.{exprs_depth, HasResultSize}
use Rattle.flat_code.specs.Meaning.{values_of, step_of, run}
use Rattle.flat_code.specs.Memory.{Found, ◌>>=◌, place_after, word_at, far_at}
use Rattle.flat_code.specs.Program.{Key}
use Rattle.flat_code.specs.Tree.{Expr, exprs_size, CallThrough}
use Rattle.flat_code.specs.Values.{place_of}
use Rattle.flat_code.proofs.Steps.{called-entered}
use Rattle.resident_machine.specs.Program.{Segment, Image, Overlay}
use Rattle.resident_machine.specs.State.{ResidentState}
use Rattle.resident_machine.specs.machine_lines.Straight.{ones, IsAt}
use Rattle.effect_simulation.specs.effects.Pushed.{AllHaveWords, Pushes, PushesAll}
use Rattle.effect_simulation.proofs.effects.Arguments.{args_run}
use Rattle.code_templates.specs.code_lines.Addresses.{Context}
use Rattle.code_templates.specs.code_lines.Expressions.{args_code}
use Rattle.code_templates.specs.code_lines.Lines.{Around, taken}
use Rattle.code_templates.specs.code_lines.Operands.{loads, operand}
use Rattle.statement_simulation.proofs.expressions.Loads.{Loaded, LoadsTo, ones_front, ones_back}
use Rattle.statement_simulation.proofs.expressions.Places.{loads_run}
use Rattle.statement_simulation.proofs.expressions.States.{word_no_division}
use Rattle.statement_simulation.specs.flow.Sites.{World, Site, Live, Fits, Represents}
use Rattle.statement_simulation.specs.flow.Outcomes.{Flows, EndsErrors}
use Rattle.statement_simulation.specs.flow.Lists.{StepFlows}
use Rattle.statement_simulation.proofs.flow.Flows.{settles_here, error_flows}
use Rattle.statement_simulation.proofs.flow.Lists.{length-ones}
use Rattle.statement_simulation.proofs.flow.States.{budget_grows, budget_more}
use Rattle.call_simulation.specs.frames.Chain.{IsChained}
use Rattle.call_simulation.specs.calls.Enters.{EntersAt, Reaches, AsksFlag}
use Rattle.call_simulation.proofs.steps.Entering.{and_not, called_flows}
use Rattle.call_simulation.proofs.steps.Steps.{values_length}
use Rattle.call_simulation.proofs.stubs.Refused.{refused_flows}
use Rattle.call_simulation.specs.indirect_calls.FarCallable.{IsOverlaid, FarCallable}
use Rattle.call_simulation.proofs.indirect_calls.Pointers.{behind, behind_active, loaded_pushes, runs, reads, pushed_sp, through_reached}

not_set : (x y : Bool) → (x && not y) ≡ true → (x ≡ true) × (y ≡ false)
not_set true true e = absurd (cc)
not_set true false e = (refl, refl)
not_set false y e = absurd (cc)

-- a call into an overlay is admitted only with the flag set
asks_flag : (to : Segment) (overlaid flag : Bool) → IsOverlaid to overlaid → (overlaid ≡ true → flag ≡ true) → AsksFlag to flag
asks_flag (Image number) overlaid flag e h = tt
asks_flag (Overlay number) overlaid flag e h = h e

module _ (w : World) (site : Site) (live : Live) (fits : Fits w site live) (ends : EndsErrors w live site.context.addresses.error_routine) (chained : IsTrue w.framed → IsChained w live) (result : Option FlatResult) (wanted : HasResultSize result) (at : Address) (bound most n k m : ℕ) (some : 1 ≤ m) (paid : 8 + n + length (loads site.context at) + most + length (taken site.context result) ≤ w.rate) (stands : Stands (IsSpelledAt site.code) site.at site.labels k (ones (loads site.context at ++ (instr.CallFarIndirect (operand site.context at 0) ∷ taken site.context result)))) (callable : (place : Place) (key : Key) → w.choice.callee place ≡ Some key → FarCallable w site live key place bound most) (around : Around) (s : State) (r : ResidentState) (a : Represents w live s r) where
  abbrev x : Context
  x = site.context

  abbrev i : Instr
  i = instr.CallFarIndirect (operand x at 0)

  abbrev size : ℕ
  size = length (loads x at)

  -- the line of the call
  abbrev j : ℕ
  j = k + size

  abbrev goal_ip : ℕ
  goal_ip = site.at (j + 1 + length (taken x result))

  abbrev Goal : Outcome → Type 0
  Goal o = Flows w site live around goal_ip s r o

  load_stands : Stands (IsSpelledAt site.code) site.at site.labels k (ones (loads x at))
  load_stands = ones_front (IsSpelledAt site.code) site.at site.labels k (loads x at) (i ∷ taken x result) stands

  call_stands : Stands (IsSpelledAt site.code) site.at site.labels j (ones (i ∷ taken x result))
  call_stands = ones_back (IsSpelledAt site.code) site.at site.labels k (loads x at) (i ∷ taken x result) stands

  module _ (left : ℕ) (turns : s.turns ≡ suc left) (fewer : left < bound) (vs : List ℕ) (b : Pushes w.machine w.framed site.segment n (site.at k) r vs) (room : 68 ≤ b.registers.sp) where
    abbrev u : State
    u = record s { turns = left; work = s.work + m }

    undefined : (cause : ℕ) → Goal (Over (Undefined cause) u)
    undefined cause = settles_here w site live fits (Undefined cause) (s.work + m) left s r tt (budget_more w s.work m) a

    -- the routine is called, or error 208 comes
    key_flows : (q : Place) (l : Loaded w.machine w.framed site.segment size (site.at j) x at (behind w site live fits s r a n k vs b) q) (place : Place) → word_at s.cells q ≡ Ok place.offset → word_at s.cells (place_after q 2) ≡ Ok place.segment → (key : Key) → FarCallable w site live key place bound most → Goal (called w.program w.choice (run w.program w.choice) vs result live.frame u key)
    key_flows q l place first second key c = by (w.program.overlaid key.unit && not s.flag) refl
      where
        by : (off : Bool) → (w.program.overlaid key.unit && not s.flag) ≡ off → Goal (called w.program w.choice (run w.program w.choice) vs result live.frame u key)
        by false e =
            let few = c.short in
            let reach = through_reached w site live fits s r a n k vs b at size j q l room place first second c.site.segment (c.site.at 0) chained c.enters (asks_flag c.site.segment (w.program.overlaid key.unit) s.flag c.overlaid (and_not (w.program.overlaid key.unit) s.flag e)) call_stands.0.0 call_stands.0.1 in
            called_flows w site c.site live fits key c.unit c.routine c.pointer c.has_unit c.has_routine c.made c.ends result wanted (j + 1) (λ z. let y = sym c.far ∙ z in absurd (cc)) chained c.even c.stack around s left m turns r a (n + size + 1) vs
            (subst (λ far. Reaches w live far (record { segment = site.segment; offset = site.at (j + 1) }) c.site.segment (n + size + 1) (c.site.at 0) vs r) (sym c.far) reach) some call_stands.1 (omega (arith, few, paid)) (λ z. let y = sym e ∙ z in absurd (cc)) bound fewer (c.body (j + 1))
        by true e =
            subst (λ o. Goal o) (sym (called-entered w.program w.choice (run w.program w.choice) vs result live.frame u key c.unit c.routine c.has_unit c.has_routine)) (handed (2 * length vs == c.routine.arguments))
          where
            through_stub : (to : Segment) → EntersAt w.machine place to (c.site.at 0) → IsOverlaid to (w.program.overlaid key.unit) → Goal (raised 208 u)
            through_stub (Image number) enters resident = let set = (not_set (w.program.overlaid key.unit) s.flag e).0 in absurd (cc)
            through_stub (Overlay number) enters overlaid =
                refused_flows w site live fits s r a (n + size) j vs (loaded_pushes w site live fits s r a n k vs b size j l.registers l.fetched) place number (c.site.at 0) enters (pushed_sp w site live fits s r a n k vs b at size j q l room place first second) chained (not_set (w.program.overlaid key.unit) s.flag e).1 c.named i call_stands.0.0 call_stands.0.1
                (runs w site live fits s r a n k vs b at size j q l room place first second) (reads w site live fits s r a n k vs b at size j q l room place first second) around m left goal_ip turns c.refusals some (omega (arith, paid))

            refused : (off : Bool) → off ≡ true → Goal (if off then raised 208 u else tested w.program w.choice (run w.program w.choice) key.unit c.unit c.routine vs result live.frame u)
            refused true h = through_stub c.site.segment c.enters c.overlaid
            refused false h = absurd (cc)

            handed : (fit : Bool) → Goal (if fit then (if w.program.overlaid key.unit && not s.flag then raised 208 u else tested w.program w.choice (run w.program w.choice) key.unit c.unit c.routine vs result live.frame u) else Over (Undefined 1) u)
            handed true = refused (w.program.overlaid key.unit && not s.flag) e
            handed false = undefined 1

    callee_flows : (q : Place) (l : Loaded w.machine w.framed site.segment size (site.at j) x at (behind w site live fits s r a n k vs b) q) (place : Place) → word_at s.cells q ≡ Ok place.offset → word_at s.cells (place_after q 2) ≡ Ok place.segment → (found : Option Key) → w.choice.callee place ≡ found → Goal (with_some found u (called w.program w.choice (run w.program w.choice) vs result live.frame u))
    callee_flows q l place first second None e = undefined 1
    callee_flows q l place first second (Some key) e = key_flows q l place first second key (callable place key e)

    -- by the two words of the pointer
    words_flows : (q : Place) → Loaded w.machine w.framed site.segment size (site.at j) x at (behind w site live fits s r a n k vs b) q → (first second : Found ℕ) → word_at s.cells q ≡ first → word_at s.cells (place_after q 2) ≡ second → Goal (with_found (first >>= λ offset. second >>= λ segment. Ok (record { segment = segment; offset = offset })) u (λ p. with_some (w.choice.callee p) u (called w.program w.choice (run w.program w.choice) vs result live.frame u)))
    words_flows q l (Ok offset) (Ok segment) e h = callee_flows q l (record { segment = segment; offset = offset }) e h (w.choice.callee (record { segment = segment; offset = offset })) refl
    words_flows q l (Ok offset) (Err ByZero) e h = absurd (word_no_division s.cells (place_after q 2) h)
    words_flows q l (Ok offset) (Err (Bad cause)) e h = undefined cause
    words_flows q l (Err ByZero) second e h = absurd (word_no_division s.cells q e)
    words_flows q l (Err (Bad cause)) second e h = undefined cause

    -- by the pointer's place
    place_flows : (found : Found Place) → LoadsTo w.machine w.framed site.segment size (site.at j) x at (behind w site live fits s r a n k vs b) found → Goal (with_found (found >>= λ p. far_at s.cells p) u (λ p. with_some (w.choice.callee p) u (called w.program w.choice (run w.program w.choice) vs result live.frame u)))
    place_flows (Ok q) l = words_flows q l (word_at s.cells q) (word_at s.cells (place_after q 2)) refl refl
    place_flows (Err ByZero) l = absurd l
    place_flows (Err (Bad cause)) l = undefined cause

    turn_flows : Goal (with_found (pointer_at w.choice live.frame s.cells at) u (λ p. with_some (w.choice.callee p) u (called w.program w.choice (run w.program w.choice) vs result live.frame u)))
    turn_flows =
        place_flows (place_of w.choice live.frame s.cells at)
        (loads_run w.machine w.framed site.segment site.code site.at site.labels fits.placed x w.choice live.frame s.cells fits.suits at k (behind w site live fits s r a n k vs b) b.here (behind_active w site live fits s r a n k vs b) (let z = room in omega arith) load_stands)

  pushed_flows : (kr : ℕ) → IsAt site.segment kr r → s.turns < suc bound → (args : Found (List ℕ)) → ((vs : List ℕ) → args ≡ Ok vs → 68 + 2 * length vs ≤ live.frame.sp) → PushesAll w.machine w.framed site.segment x.addresses.error_routine n (site.at k) r args → Goal (with_found args (begun m s) (λ vs. spend (begun m s) (λ s. with_found (pointer_at w.choice live.frame s.cells at) s (λ p. with_some (w.choice.callee p) s (called w.program w.choice (run w.program w.choice) vs result live.frame s)))))
  pushed_flows kr here few (Ok vs) rooms b = by s.turns refl
    where
      by : (turns : ℕ) → s.turns ≡ turns → Goal (spent turns (begun m s) (λ s. with_found (pointer_at w.choice live.frame s.cells at) s (λ p. with_some (w.choice.callee p) s (called w.program w.choice (run w.program w.choice) vs result live.frame s))))
      by zero e = settles_here w site live fits Going (s.work + m) s.turns s r (omega (arith, e), here.running) (budget_more w s.work m) a
      by (suc left) e =
          let sp = a.sp in
          let sum = b.sp in
          let more = rooms vs refl in
          turn_flows left e (omega (arith, few, e)) vs b (omega (arith, sp, sum, more))
  pushed_flows kr here few (Err ByZero) rooms b =
      error_flows w site live fits around kr goal_ip n m 200 s r here a ends (omega arith) (budget_grows w s.work m n (omega (arith, paid)) some) b
  pushed_flows kr here few (Err (Bad cause)) rooms b = settles_here w site live fits (Undefined cause) (s.work + m) s.turns s r tt (budget_more w s.work m) a

pub through_flows : (w : World) (site : Site) (live : Live) → Fits w site live → EndsErrors w live site.context.addresses.error_routine → (IsTrue w.framed → IsChained w live) → (bound most pointer : ℕ) (at : Address) (args : List Expr) (result : Option FlatResult) → AllHaveWords args → HasResultSize result → 68 + 2 * (length args + exprs_depth args) ≤ live.frame.sp → 8 + length (args_code site.context args) + length (loads site.context at) + most + length (taken site.context result) ≤ w.rate → ((place : Place) (key : Key) → w.choice.callee place ≡ Some key → FarCallable w site live key place bound most) → StepFlows w site live (suc bound) pointer (CallThrough at args result)
through_flows w site live fits ends chained bound most pointer at args result words wanted room paid callable around k s r few here a stands small =
    let x = site.context in
    let is = args_code x args in
    let n = length is in
    let m = 1 + exprs_size args in
    let calls = loads x at ++ (instr.CallFarIndirect (operand x at 0) ∷ taken x result) in
    let tail = ones calls in
    let front = length-ones is in
    let last = length-ones calls in
    let whole = length-append (ones is) tail in
    let both = length-append (loads x at) (instr.CallFarIndirect (operand x at 0) ∷ taken x result) in
    let s0 = stands_front (IsSpelledAt site.code) site.at site.labels k (ones is) tail stands in
    let s1 = subst (λ z. Stands (IsSpelledAt site.code) site.at site.labels (k + z) tail) front (stands_back (IsSpelledAt site.code) site.at site.labels k (ones is) tail stands) in
    let sp = a.sp in
    let b = args_run w.machine w.framed site.segment site.code site.at site.labels fits.placed x fits.error w.choice live.frame s.cells fits.suits args k r words here a.active (omega arith) s0 in
    let there : k + n + length (loads x at) + 1 + length (taken x result) ≡ k + length (ones is ++ tail) = omega arith in
    let flows = pushed_flows w site live fits ends chained result wanted at bound most n (k + n) m (omega arith) paid s1 callable around s r a (site.at k) here few (values_of w.choice live.frame s.cells args)
    (λ vs e. let same = values_length w.choice live.frame s.cells args vs e in omega (arith, same, room)) b in
    subst (λ z. Flows w site live around (site.at z) s r (step_of w.program w.choice (run w.program w.choice) (CallThrough at args result) live.frame (begun m s))) there flows
