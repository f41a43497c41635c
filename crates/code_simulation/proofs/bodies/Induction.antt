-- The induction over calls: with one turn more the bodies do what they mean, if they do so with fewer.
use Rattle.std.proofs.Common.{◌≡◌, ℕ, zero, suc, ◌+◌, ◌*◌, ◌<◌, ◌≤◌, List, [], ◌∷◌, ◌++◌, length, Some, arith, sym, ◌∙◌, length-append}
use Rattle.std.specs.Prelude.{slice_get}
use Rattle.x86_table.specs.declared.instr.Instr.{Instr}
use Rattle.x86_table.specs.declared.instr.Instr.TheVariants as instr
use Rattle.x86_table.specs.declared.line.Line.{Line}
use Rattle.x86_table.specs.declared.line.Line.TheVariants.{One, Label, JumpNear}
use Rattle.flat_code.specs.Calls.{activation_bytes}
use Rattle.flat_code.specs.Legal.{Mention, ToRoutine, CodeNames, CodeFits, code_depth, RuntimeCalls}
use Rattle.flat_code.specs.Program.{Key, Routine, UnitCode}
use Rattle.flat_code.specs.Tree.{Code, End, Do, If, Loop}
use Rattle.resident_machine.specs.machine_lines.Straight.{ones}
use Rattle.code_templates.specs.code_lines.Addresses.{Context}
use Rattle.code_templates.specs.code_lines.Expressions.{expr_code}
use Rattle.code_templates.specs.code_lines.Lines.{Around, prologue, epilogue, step_lines, step_pointers, pointers, labels, tested, in_loop, code_lines, framed_lines}
use Rattle.statement_simulation.specs.flow.Lists.{StepFlows, AllSteps, TestsHaveWords, CodeFlows}
use Rattle.statement_simulation.specs.flow.Sites.{World, Site, Live}
use Rattle.statement_simulation.proofs.flow.Lists.{list_flows}
use Rattle.code_simulation.specs.bodies.Expressible.{CodeIsExpressible, HasNoThrough}
use Rattle.code_simulation.specs.bodies.Layouts.{Layout, StepPointer, IsPlaced, PlacedProgram}
use Rattle.code_simulation.specs.bodies.Bodies.{Suited, Bodies}
use Rattle.code_simulation.proofs.bodies.Frames.{routine_is, chain, ends_errors, ends_at, floor}
use Rattle.code_simulation.proofs.bodies.Statements.{step_flows}

-- ## Lengths

-- a test's parts are no longer than the whole
record IfSizes (whole taken other next : List Line) : Type 0 where
  first : length taken ≤ length whole
  second : length other ≤ length whole
  rest : length next ≤ length whole

if_sizes : (label : ℕ) (test : List Instr) (taken other next : List Line) → IfSizes (ones test ++ (tested label ++ (JumpNear (label + 1) ∷ Label label ∷ (taken ++ (JumpNear (label + 2) ∷ Label (label + 1) ∷ (other ++ (Label (label + 2) ∷ next))))))) taken other next
if_sizes label test taken other next =
    let tail = Label (label + 2) ∷ next in
    let second = JumpNear (label + 2) ∷ Label (label + 1) ∷ (other ++ tail) in
    let first = tested label ++ (JumpNear (label + 1) ∷ Label label ∷ (taken ++ second)) in
    let a = length-append (ones test) first in
    let c = length-append taken second in
    let d = length-append other tail in
    record { first = omega arith; second = omega arith; rest = omega arith }

loop_sizes : (label : ℕ) (body next : List Line) → (length body ≤ length (Label label ∷ One instr.Cld ∷ (body ++ (JumpNear label ∷ Label (label + 1) ∷ next)))) × (length next ≤ length (Label label ∷ One instr.Cld ∷ (body ++ (JumpNear label ∷ Label (label + 1) ∷ next))))
loop_sizes label body next = let a = length-append body (JumpNear label ∷ Label (label + 1) ∷ next) in (omega arith, omega arith)

-- a body's lines are some of its routine's
body_size : (c : Context) (pointer : ℕ) (r : Routine) → length (code_lines c (record { home = length c.unit.routines; ends = [] }) (length c.unit.routines + 1) pointer r.body) ≤ length (framed_lines c pointer r)
body_size c pointer r =
    let body = code_lines c (record { home = length c.unit.routines; ends = [] }) (length c.unit.routines + 1) pointer r.body in
    let tail = Label (length c.unit.routines) ∷ ones (epilogue c r) in
    let a = length-append (ones (prologue c r)) (body ++ tail) in
    let b = length-append body tail in
    omega arith

-- ## Lists

tests_words : (w : World) (key : Key) (unit : UnitCode) (code : Code) → CodeIsExpressible w.program key.unit unit.names code → TestsHaveWords code
tests_words w key unit End say = tt
tests_words w key unit (Do step next) say = tests_words w key unit next say.1
tests_words w key unit (If test taken other next) say = (say.0, tests_words w key unit taken say.1, tests_words w key unit other say.2, tests_words w key unit next say.3)
tests_words w key unit (Loop body next) say = (tests_words w key unit body say.0, tests_words w key unit next say.1)

module _ (w : World) (R : Mention → Type 0) (x : Layout) (p : PlacedProgram w R x) (n : ℕ) (bodies : Bodies w R x (chain w R x p) n) (key : Key) (unit : UnitCode) (r : Routine) (has_unit : Some unit ≡ w.program.unit key.unit) (has_routine : Some r ≡ slice_get unit.routines key.number) (i : IsPlaced w R x key unit r) (live : Live) (g : Suited w x (chain w R x p) live key r) where
  abbrev site : Site
  site = x.site key

  abbrev Runtime_ : Mention → Type 0
  Runtime_ = RuntimeCalls w.program (chain w R x p) (activation_bytes r) key

  all_steps : (around : Around) (label pointer : ℕ) (code : Code) → CodeNames R key.unit unit.names code → (loops : ℕ) → CodeFits w.program key.unit unit.names loops code → code_depth code ≤ 24 → CodeIsExpressible w.program key.unit unit.names code → AllSteps (StepPointer w x site) pointer code → (r.frame ≡ 0 → CodeNames Runtime_ key.unit unit.names code) → (r.frame ≡ 0 → HasNoThrough code) → length (code_lines site.context around label pointer code) ≤ x.most → AllSteps (λ pointer step. StepFlows w site live (suc n) pointer step) pointer code
  all_steps around label pointer End names loops fit few say holds run_time direct size = tt
  all_steps around label pointer (Do step next) names loops fit few say holds run_time direct size =
      let rest = code_lines site.context around label (pointer + step_pointers step) next in
      let both = length-append (step_lines site.context around pointer step) rest in (
        step_flows w R x p n bodies key unit r has_unit has_routine i live g around pointer step names.0 loops fit.0 (omega (arith, few)) say.0 holds.0 (λ none. (run_time none).0) (λ none. (direct none).0) (omega (arith, both, size)),
        all_steps around label (pointer + step_pointers step) next names.1 loops fit.1 (omega (arith, few)) say.1 holds.1 (λ none. (run_time none).1) (λ none. (direct none).1) (omega (arith, both, size)),
      )
  all_steps around label pointer (If test taken other next) names loops fit few say holds run_time direct size =
      let p2 = pointer + pointers taken in
      let p3 = pointer + pointers taken + pointers other in
      let sizes = if_sizes label (expr_code site.context test) (code_lines site.context around (label + 3) pointer taken) (code_lines site.context around (label + 3 + labels taken) p2 other) (code_lines site.context around (label + 3 + labels taken + labels other) p3 next) in
      let a = sizes.first in
      let b = sizes.second in
      let c = sizes.rest in (
        all_steps around (label + 3) pointer taken names.1 loops fit.0 (omega (arith, few)) say.1 holds.0 (λ none. (run_time none).1) (λ none. (direct none).0) (omega (arith, a, size)),
        all_steps around (label + 3 + labels taken) p2 other names.2 loops fit.1 (omega (arith, few)) say.2 holds.1 (λ none. (run_time none).2) (λ none. (direct none).1) (omega (arith, b, size)),
        all_steps around (label + 3 + labels taken + labels other) p3 next names.3 loops fit.2 (omega (arith, few)) say.3 holds.2 (λ none. (run_time none).3) (λ none. (direct none).2) (omega (arith, c, size)),
      )
  all_steps around label pointer (Loop body next) names loops fit few say holds run_time direct size =
      let p2 = pointer + pointers body in
      let sizes = loop_sizes label (code_lines site.context (in_loop around (label + 1)) (label + 2) pointer body) (code_lines site.context around (label + 2 + labels body) p2 next) in
      let a = sizes.0 in
      let b = sizes.1 in (
        all_steps (in_loop around (label + 1)) (label + 2) pointer body names.0 (loops + 1) fit.0 (omega (arith, few)) say.0 holds.0 (λ none. (run_time none).0) (λ none. (direct none).0) (omega (arith, a, size)),
        all_steps around (label + 2 + labels body) p2 next names.1 loops fit.1 (omega (arith, few)) say.1 holds.1 (λ none. (run_time none).1) (λ none. (direct none).1) (omega (arith, b, size)),
      )

  more_flows : R (ToRoutine key) → CodeFlows w site live (suc n) (x.pointer key) r.body
  more_flows reached =
      let c = site.context in
      let e = routine_is w.program key unit r has_unit has_routine in
      let low = floor w R x p key unit r has_unit has_routine live g in
      let depth = p.shallow.depth key r e in
      let short = i.short in
      let size = body_size c (x.pointer key) r in
      let steps = all_steps (record { home = length c.unit.routines; ends = [] }) (length c.unit.routines + 1) (x.pointer key) r.body (p.reaches.bodies key unit r reached (sym has_unit) e).0 0 (p.well_formed.bodies key unit r (sym has_unit) e).2 depth i.expressible i.pointers (λ none. p.shallow.chains key unit r (sym has_unit) e none) i.direct (omega (arith, short, size)) in
      list_flows w site live g.fits (ends_at w R x p key unit r i live (ends_errors w R x p site live g.fits g.constants)) (suc n) (x.pointer key) r.body
      (record { steps = steps; words = tests_words w key unit r.body i.expressible; room = omega (arith, low, depth) })

pub bodies : (w : World) (R : Mention → Type 0) (x : Layout) (p : PlacedProgram w R x) (bound : ℕ) → Bodies w R x p.shallow.chain bound
bodies w R x p zero = λ key unit r reached has_unit has_routine live g around label k s m few. absurd (omega (arith, few))
bodies w R x p (suc n) = λ key unit r reached has_unit has_routine live g.
    more_flows w R x p n (bodies w R x p n) key unit r has_unit has_routine (p.routine key unit r reached has_unit has_routine) live g reached
