-- What a call comes to, by the tests that it begins with.
use Rattle.std.proofs.Common.{◌≡◌, ℕ, suc, ◌+◌, ◌*◌, ◌<◌, ◌≤◌, ◌==◌, Bool, true, false, not, List, length, Option, Some, arith, refl, sym, ap, subst, ◌∙◌, ⊎_elim, eqb-true, ◌%◌}
use Rattle.std.specs.Prelude.{IsTrue, if◌then◌else◌, ◌&&◌, nat_lt, slice_get}
use Rattle.std.proofs.lemmas.Bool.{cases_lt, lt-ltb, le-ltb}
use Rattle.common_values.specs.behaviour.Seen.{Undefined}
use Rattle.x86_table.specs.Standing.{IsSpelledAt, Stands}
use Rattle.flat_code.specs.declared.tree.FlatResult.{FlatResult}
use Rattle.flat_code.specs.Calls.{State, Outcome, Over, raised, activation_bytes, link_bytes, stack_top, is_too_deep, activated, tested, admitted, entered, called}
use Rattle.flat_code.specs.Legal.{HasResultSize}
use Rattle.flat_code.specs.Meaning.{run}
use Rattle.flat_code.specs.Program.{Name, Key, Routine, UnitCode}
use Rattle.flat_code.specs.Values.{Frame}
use Rattle.flat_code.proofs.Steps.{called-entered}
use Rattle.resident_machine.specs.State.{ResidentState}
use Rattle.resident_machine.specs.machine_lines.Straight.{ones}
use Rattle.code_templates.specs.code_lines.Lines.{Around, framed_lines, taken}
use Rattle.statement_simulation.specs.flow.Sites.{World, Site, Live, Fits, Represents}
use Rattle.statement_simulation.specs.flow.Outcomes.{Flows, EndsErrors}
use Rattle.statement_simulation.proofs.flow.Flows.{settles_here}
use Rattle.statement_simulation.proofs.flow.States.{budget_more}
use Rattle.call_simulation.specs.frames.Chain.{IsChained}
use Rattle.call_simulation.specs.calls.Enters.{Reaches}
use Rattle.call_simulation.specs.steps.Made.{Made, HasStack, BodyFlows}
use Rattle.call_simulation.proofs.steps.Called.{refused_flows, activated_flows}

pub and_not : (x y : Bool) → (x && not y) ≡ false → x ≡ true → y ≡ true
and_not true true e h = refl
and_not true false e h = absurd (cc)
and_not false y e h = absurd (cc)

module _ (w : World) (caller : Site) (site : Site) (live : Live) (fits : Fits w caller live) (name : Name) (unit : UnitCode) (r : Routine) (pointer : ℕ) (made : Made w site name unit r pointer) (ends : EndsErrors w live site.context.addresses.error_routine) (result : Option FlatResult) (wanted : HasResultSize result) (j : ℕ) (near : r.far ≡ false → caller.segment ≡ site.segment) (chained : IsTrue w.framed → IsChained w live) (even : IsTrue w.framed → r.locals % 2 ≡ 0) (stack : HasStack w live.frame r) (around : Around) (s0 : State) (left m : ℕ) (turns : s0.turns ≡ suc left) (r0 : ResidentState) (a0 : Represents w live s0 r0) (n : ℕ) (vs : List ℕ) (reach : Reaches w live r.far (record { segment = caller.segment; offset = caller.at j }) site.segment n (site.at 0) vs r0) (some : 1 ≤ m) (taken_stands : Stands (IsSpelledAt caller.code) caller.at caller.labels j (ones (taken caller.context result))) (paid : n + 6 + length (framed_lines site.context pointer r) + length (taken caller.context result) ≤ w.rate) where
  abbrev f : Frame
  f = live.frame

  abbrev s : State
  s = record s0 { turns = left; work = s0.work + m }

  abbrev Goal : Outcome → Type 0
  Goal o = Flows w caller live around (caller.at (j + length (taken caller.context result))) s0 r0 o

  undefined : (act : ℕ) → Goal (Over (Undefined act) s)
  undefined act = settles_here w caller live fits (Undefined act) (s0.work + m) left s0 r0 tt (budget_more w s0.work m) a0

  as_if : (b c : Bool) (x y : Outcome) → b ≡ c → Goal (if c then x else y) → Goal (if b then x else y)
  as_if b c x y e g = subst (λ z. Goal (if z then x else y)) (sym e) g

  linked : r.arguments + link_bytes r.far ≤ f.sp
  linked = ⊎_elim (λ one. let z = stack.deep (omega (arith, one)) in omega (arith, z)) (λ more. let z = stack.tall (omega (arith, more)) in let y = stack.shallow in let x = six r.far in omega (arith, z, y, x)) (cases_lt r.frame 1)
    where
      six : (far : Bool) → link_bytes far ≤ 6
      six true = omega arith
      six false = omega arith

  module _ (bound : ℕ) (fewer : left < bound) (body : BodyFlows w site name unit r pointer live (record { segment = caller.segment; offset = caller.at j }) bound) (handed : 2 * length vs ≡ r.arguments) (admitted_by : w.program.overlaid name ≡ true → s.flag ≡ true) where
    abbrev active : Outcome
    active = activated w.choice (run w.program w.choice) name unit r vs result f s

    active_goal : (0 < r.frame → 512 + activation_bytes r ≤ f.sp) → Goal active
    active_goal tested_by =
        ⊎_elim (λ lt. as_if (nat_lt f.sp (activation_bytes r)) true (Over (Undefined 2) s) _ (lt-ltb f.sp (activation_bytes r) lt) (undefined 2))
        (λ room. as_if (nat_lt f.sp (activation_bytes r)) false (Over (Undefined 2) s) _ (le-ltb f.sp (activation_bytes r) room)
        (activated_flows w caller site live fits name unit r pointer made ends result wanted j near chained even stack around s0 left m turns r0 a0 n vs reach handed linked some taken_stands paid room tested_by admitted_by bound fewer body))
        (cases_lt f.sp (activation_bytes r))

    tested_goal : Goal (tested w.program w.choice (run w.program w.choice) name unit r vs result f s)
    tested_goal =
        ⊎_elim
        (λ none.
        let zero_frame : r.frame ≡ 0 = omega (arith, none) in
        let e = ap (λ k. nat_lt 0 k && nat_lt (stack_top w.program) (f.sum + k + 512)) zero_frame in
        as_if (is_too_deep w.program r f.sum) false (raised 202 s) active e (active_goal (λ one. absurd (omega (arith, one, zero_frame)))))
        (λ one. ⊎_elim (λ lt. deep_goal (omega (arith, one)) lt) (λ le. flat_goal (omega (arith, one)) le) (cases_lt (stack_top w.program) (f.sum + r.frame + 512)))
        (cases_lt r.frame 1)
      where
        deep_goal : 0 < r.frame → stack_top w.program < f.sum + r.frame + 512 → Goal (tested w.program w.choice (run w.program w.choice) name unit r vs result f s)
        deep_goal one lt =
            let counted = stack.counted one in
            let sum = stack.sum one in
            let little : f.sp < 512 + activation_bytes r = omega (arith, counted, sum, lt) in
            let e = ap (λ b. b && nat_lt (stack_top w.program) (f.sum + r.frame + 512)) (lt-ltb 0 r.frame one) ∙ lt-ltb (stack_top w.program) (f.sum + r.frame + 512) lt in
            as_if (is_too_deep w.program r f.sum) true (raised 202 s) active e
            (refused_flows w caller site live fits name unit r pointer made ends result wanted j near chained even stack around s0 left m turns r0 a0 n vs reach handed linked some taken_stands paid one little)

        flat_goal : 0 < r.frame → f.sum + r.frame + 512 ≤ stack_top w.program → Goal (tested w.program w.choice (run w.program w.choice) name unit r vs result f s)
        flat_goal one le =
            let counted = stack.counted one in
            let sum = stack.sum one in
            let e = ap (λ b. b && nat_lt (stack_top w.program) (f.sum + r.frame + 512)) (lt-ltb 0 r.frame one) ∙ le-ltb (stack_top w.program) (f.sum + r.frame + 512) le in
            as_if (is_too_deep w.program r f.sum) false (raised 202 s) active e (active_goal (λ z. omega (arith, counted, sum, le)))

  -- a call that was entered does what it means, if the body does
  pub entered_flows : ((w.program.overlaid name && not s.flag) ≡ true → Goal (raised 208 s)) → (bound : ℕ) → left < bound → BodyFlows w site name unit r pointer live (record { segment = caller.segment; offset = caller.at j }) bound → Goal (entered w.program w.choice (run w.program w.choice) name unit vs result f s r)
  entered_flows refused bound fewer body = by (2 * length vs == r.arguments) refl
    where
      admitted_goal : 2 * length vs ≡ r.arguments → Goal (admitted w.program w.choice (run w.program w.choice) name unit r vs result f s)
      admitted_goal handed = by_flag (w.program.overlaid name && not s.flag) refl
        where
          by_flag : (b : Bool) → (w.program.overlaid name && not s.flag) ≡ b → Goal (if b then raised 208 s else tested w.program w.choice (run w.program w.choice) name unit r vs result f s)
          by_flag true e = refused e
          by_flag false e = tested_goal bound fewer body handed (and_not (w.program.overlaid name) s.flag e)

      by : (b : Bool) → (2 * length vs == r.arguments) ≡ b → Goal (if b then admitted w.program w.choice (run w.program w.choice) name unit r vs result f s else Over (Undefined 1) s)
      by true e = admitted_goal (eqb-true (2 * length vs) r.arguments e)
      by false e = undefined 1

pub called_flows : (w : World) (caller site : Site) (live : Live) → Fits w caller live → (key : Key) (unit : UnitCode) (r : Routine) (pointer : ℕ) → Some unit ≡ w.program.unit key.unit → Some r ≡ slice_get unit.routines key.number → Made w site key.unit unit r pointer → EndsErrors w live site.context.addresses.error_routine → (result : Option FlatResult) → HasResultSize result → (j : ℕ) → (r.far ≡ false → caller.segment ≡ site.segment) → (IsTrue w.framed → IsChained w live) → (IsTrue w.framed → r.locals % 2 ≡ 0) → HasStack w live.frame r → (around : Around) (s : State) (left m : ℕ) → s.turns ≡ suc left → (r0 : ResidentState) → Represents w live s r0 → (n : ℕ) (vs : List ℕ) → Reaches w live r.far (record { segment = caller.segment; offset = caller.at j }) site.segment n (site.at 0) vs r0 → 1 ≤ m → Stands (IsSpelledAt caller.code) caller.at caller.labels j (ones (taken caller.context result)) → n + 6 + length (framed_lines site.context pointer r) + length (taken caller.context result) ≤ w.rate → ((w.program.overlaid key.unit && not s.flag) ≡ true → Flows w caller live around (caller.at (j + length (taken caller.context result))) s r0 (raised 208 (record s { turns = left; work = s.work + m }))) → (bound : ℕ) → left < bound → BodyFlows w site key.unit unit r pointer live (record { segment = caller.segment; offset = caller.at j }) bound → Flows w caller live around (caller.at (j + length (taken caller.context result))) s r0 (called w.program w.choice (run w.program w.choice) vs result live.frame (record s { turns = left; work = s.work + m }) key)
called_flows w caller site live fits key unit r pointer has_unit has_routine made ends result wanted j near chained even stack around s left m turns r0 a n vs reach some taken_stands paid refused bound fewer body =
    subst (λ o. Flows w caller live around (caller.at (j + length (taken caller.context result))) s r0 o) (sym (called-entered w.program w.choice (run w.program w.choice) vs result live.frame (record s { turns = left; work = s.work + m }) key unit r has_unit has_routine))
    (entered_flows w caller site live fits key.unit unit r pointer made ends result wanted j near chained even stack around s left m turns r0 a n vs reach some taken_stands paid refused bound fewer body)
