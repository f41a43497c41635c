-- The statement that calls a routine: arguments, the call, and the result.
use Rattle.std.proofs.Common.{◌≡◌, ℕ, zero, suc, ◌+◌, ◌*◌, ◌<◌, ◌≤◌, ◌==◌, Bool, true, false, not, List, [], ◌∷◌, ◌++◌, length, Option, Ok, Err, arith, refl, sym, ap, subst, ◌∙◌, length-append}
use Rattle.std.specs.Prelude.{IsTrue, if◌then◌else◌, ◌&&◌}
use Rattle.common_values.specs.behaviour.Seen.{Going, Undefined}
use Rattle.x86_table.specs.declared.line.Line.{Line}
use Rattle.x86_table.specs.Standing.{IsSpelledAt, Stands}
use Rattle.x86_table.proofs.Stand.{stands_front, stands_back}
use Rattle.flat_code.specs.declared.memory.Trap.TheVariants.{ByZero, Bad}
use Rattle.flat_code.specs.declared.tree.FlatResult.{FlatResult}
use Rattle.flat_code.specs.Calls.{State, Outcome, Over, with_found, spent, spend, begun, raised, tested, called}
use Rattle.flat_code.specs.Legal.{exprs_depth, HasResultSize}
use Rattle.flat_code.specs.Meaning.{values_of, step_of, run, key_of}
use Rattle.flat_code.specs.Memory as flat_memory
use Rattle.flat_code.specs.Memory.{Found, ◌>>=◌}
use Rattle.flat_code.specs.Program.{Key, Choice, named, runtime_key}
use Rattle.flat_code.specs.Tree.{Expr, exprs_size, Call, Runtime}
use Rattle.flat_code.specs.Values.{Frame, value_of, if_placed}
use Rattle.flat_code.proofs.Steps.{called-entered}
use Rattle.resident_machine.specs.State.{ResidentState}
use Rattle.resident_machine.specs.machine_lines.Straight.{ones, IsAt}
use Rattle.effect_simulation.specs.effects.Pushed.{AllHaveWords, Pushes, PushesAll}
use Rattle.effect_simulation.proofs.effects.Arguments.{args_run}
use Rattle.code_templates.specs.code_lines.Expressions.{args_code}
use Rattle.code_templates.specs.code_lines.Lines.{Around, call_far, call_code, taken}
use Rattle.statement_simulation.specs.flow.Sites.{World, Site, Live, Fits, Represents}
use Rattle.statement_simulation.specs.flow.Outcomes.{Flows, EndsErrors}
use Rattle.statement_simulation.specs.flow.Lists.{StepFlows}
use Rattle.statement_simulation.proofs.flow.Flows.{settles_here, error_flows}
use Rattle.statement_simulation.proofs.flow.Lists.{length-ones}
use Rattle.statement_simulation.proofs.flow.States.{budget_grows, budget_more}
use Rattle.call_simulation.specs.frames.Chain.{IsChained}
use Rattle.call_simulation.specs.steps.Callable.{Callable}
use Rattle.call_simulation.proofs.steps.Divisions.{bind_no, placed_no}
use Rattle.call_simulation.proofs.steps.Entering.{and_not, called_flows}

-- as many values as arguments
pub values_length : (choice : Choice) (f : Frame) (m : flat_memory.Cells) (es : List Expr) (vs : List ℕ) → values_of choice f m es ≡ Ok vs → length vs ≡ length es
values_length choice f m [] vs e = ap count (sym e)
  where
    count : Found (List ℕ) → ℕ
    count (Ok xs) = length xs
    count (Err trap) = 0
values_length choice f m (x ∷ es) vs e = by (λ ws h. values_length choice f m es ws h) (value_of choice f m x) (values_of choice f m es) refl e
  where
    count : Found (List ℕ) → ℕ
    count (Ok xs) = length xs
    count (Err trap) = 0

    by : ((ws : List ℕ) → values_of choice f m es ≡ Ok ws → length ws ≡ length es) → (first : Found ℕ) (rest : Found (List ℕ)) → values_of choice f m es ≡ rest → (first >>= λ v. rest >>= λ ws. Ok (v ∷ ws)) ≡ Ok vs → length vs ≡ suc (length es)
    by again (Ok v) (Ok ws) h e = let more = again ws h in sym (ap count e) ∙ (omega arith)
    by again (Ok v) (Err trap) h e = absurd (cc)
    by again (Err trap) rest h e = absurd (cc)

key_no_division : (f : Frame) (unit number : ℕ) → key_of f unit number ≡ Err ByZero → ⊥
key_no_division f unit number e = bind_no (if_placed (named f.unit f.names unit)) (λ name. Ok (record { unit = name; number = number })) (placed_no (named f.unit f.names unit)) (λ name z. absurd (cc)) e

module _ (w : World) (site : Site) (live : Live) (fits : Fits w site live) (ends : EndsErrors w live site.context.addresses.error_routine) (chained : IsTrue w.framed → IsChained w live) (result : Option FlatResult) (wanted : HasResultSize result) (lines : List Line) (bound most n k m : ℕ) (some : 1 ≤ m) (paid : 8 + n + most + length (taken site.context result) ≤ w.rate) (call_stands : Stands (IsSpelledAt site.code) site.at site.labels k lines) (taken_stands : Stands (IsSpelledAt site.code) site.at site.labels (k + length lines) (ones (taken site.context result))) (around : Around) (s : State) (r : ResidentState) (a : Represents w live s r) where
  abbrev Goal : Outcome → Type 0
  Goal o = Flows w site live around (site.at (k + length lines + length (taken site.context result))) s r o

  pub key_flows : (left : ℕ) → s.turns ≡ suc left → left < bound → (vs : List ℕ) (b : Pushes w.machine w.framed site.segment n (site.at k) r vs) → 68 ≤ b.registers.sp → (key : Key) → Callable w site live key lines bound most → Goal (called w.program w.choice (run w.program w.choice) vs result live.frame (record s { turns = left; work = s.work + m }) key)
  key_flows left turns fewer vs b room key c = by (w.program.overlaid key.unit && not s.flag) refl
    where
      by : (x : Bool) → (w.program.overlaid key.unit && not s.flag) ≡ x → Goal (called w.program w.choice (run w.program w.choice) vs result live.frame (record s { turns = left; work = s.work + m }) key)
      by false e =
          let few = c.short in
          let reach = c.reaches s r n k vs a (and_not (w.program.overlaid key.unit) s.flag e) b room call_stands in
          called_flows w site c.site live fits key c.unit c.routine c.pointer c.has_unit c.has_routine c.made c.ends result wanted (k + length lines) c.near chained c.even c.stack around s left m turns r a (n + 2) vs reach some taken_stands (omega (arith, few, paid)) (λ z. let y = sym e ∙ z in absurd (cc)) bound fewer (c.body (k + length lines))
      by true e =
          subst (λ o. Goal o) (sym (called-entered w.program w.choice (run w.program w.choice) vs result live.frame (record s { turns = left; work = s.work + m }) key c.unit c.routine c.has_unit c.has_routine)) (handed (2 * length vs == c.routine.arguments))
        where
          refused : (x : Bool) → x ≡ true → Goal (if x then raised 208 (record s { turns = left; work = s.work + m }) else tested w.program w.choice (run w.program w.choice) key.unit c.unit c.routine vs result live.frame (record s { turns = left; work = s.work + m }))
          refused true h = c.refused around s r n k m left (site.at (k + length lines + length (taken site.context result))) vs a turns b room call_stands some (omega (arith, paid)) e
          refused false h = absurd (cc)

          handed : (x : Bool) → Goal (if x then (if (w.program.overlaid key.unit && not s.flag) then raised 208 (record s { turns = left; work = s.work + m }) else tested w.program w.choice (run w.program w.choice) key.unit c.unit c.routine vs result live.frame (record s { turns = left; work = s.work + m })) else Over (Undefined 1) (record s { turns = left; work = s.work + m }))
          handed true = refused (w.program.overlaid key.unit && not s.flag) e
          handed false = settles_here w site live fits (Undefined 1) (s.work + m) left s r tt (budget_more w s.work m) a

  -- a turn is spent, and the routine is named
  named_flows : (left : ℕ) → s.turns ≡ suc left → left < bound → (vs : List ℕ) (b : Pushes w.machine w.framed site.segment n (site.at k) r vs) → 68 ≤ b.registers.sp → (found : Found Key) → (found ≡ Err ByZero → ⊥) → ((key : Key) → found ≡ Ok key → Callable w site live key lines bound most) → Goal (with_found found (record s { turns = left; work = s.work + m }) (called w.program w.choice (run w.program w.choice) vs result live.frame (record s { turns = left; work = s.work + m })))
  named_flows left turns fewer vs b room (Ok key) none callable = key_flows left turns fewer vs b room key (callable key refl)
  named_flows left turns fewer vs b room (Err ByZero) none callable = absurd (none refl)
  named_flows left turns fewer vs b room (Err (Bad cause)) none callable = settles_here w site live fits (Undefined cause) (s.work + m) left s r tt (budget_more w s.work m) a

  pushed_flows : (kr : ℕ) → IsAt site.segment kr r → s.turns < suc bound → (found : Found Key) → (found ≡ Err ByZero → ⊥) → ((key : Key) → found ≡ Ok key → Callable w site live key lines bound most) → (args : Found (List ℕ)) → ((vs : List ℕ) → args ≡ Ok vs → 68 + 2 * length vs ≤ live.frame.sp) → PushesAll w.machine w.framed site.segment site.context.addresses.error_routine n (site.at k) r args → Goal (with_found args (begun m s) (λ vs. spend (begun m s) (λ s. with_found found s (called w.program w.choice (run w.program w.choice) vs result live.frame s))))
  pushed_flows kr here few found none callable (Ok vs) rooms b = by s.turns refl
    where
      by : (turns : ℕ) → s.turns ≡ turns → Goal (spent turns (begun m s) (λ s. with_found found s (called w.program w.choice (run w.program w.choice) vs result live.frame s)))
      by zero e = settles_here w site live fits Going (s.work + m) s.turns s r (omega (arith, e), here.running) (budget_more w s.work m) a
      by (suc left) e =
          let sp = a.sp in
          let sum = b.sp in
          let more = rooms vs refl in
          named_flows left e (omega (arith, few, e)) vs b (omega (arith, sp, sum, more)) found none callable
  pushed_flows kr here few found none callable (Err ByZero) rooms b =
      error_flows w site live fits around kr (site.at (k + length lines + length (taken site.context result))) n m 200 s r here a ends (omega arith) (budget_grows w s.work m n (omega (arith, paid)) some) b
  pushed_flows kr here few found none callable (Err (Bad cause)) rooms b = settles_here w site live fits (Undefined cause) (s.work + m) s.turns s r tt (budget_more w s.work m) a

pub call_flows : (w : World) (site : Site) (live : Live) → Fits w site live → EndsErrors w live site.context.addresses.error_routine → (IsTrue w.framed → IsChained w live) → (bound most pointer unit number : ℕ) (args : List Expr) (result : Option FlatResult) → AllHaveWords args → HasResultSize result → 68 + 2 * (length args + exprs_depth args) ≤ live.frame.sp → 8 + length (args_code site.context args) + most + length (taken site.context result) ≤ w.rate → ((key : Key) → key_of live.frame unit number ≡ Ok key → Callable w site live key (call_code site.context unit number) bound most) → StepFlows w site live (suc bound) pointer (Call unit number args result)
call_flows w site live fits ends chained bound most pointer unit number args result words wanted room paid callable around k s r few here a stands small =
    let x = site.context in
    let is = args_code x args in
    let n = length is in
    let m = 1 + exprs_size args in
    let lines = call_code x unit number in
    let js = taken x result in
    let sp = a.sp in
    let front = length-ones is in
    let last = length-ones js in
    let tail = lines ++ ones js in
    let whole = length-append (ones is) tail in
    let both = length-append lines (ones js) in
    let s0 = stands_front (IsSpelledAt site.code) site.at site.labels k (ones is) tail stands in
    let s1 = subst (λ z. Stands (IsSpelledAt site.code) site.at site.labels (k + z) tail) front (stands_back (IsSpelledAt site.code) site.at site.labels k (ones is) tail stands) in
    let s2 = stands_front (IsSpelledAt site.code) site.at site.labels (k + n) lines (ones js) s1 in
    let s3 = stands_back (IsSpelledAt site.code) site.at site.labels (k + n) lines (ones js) s1 in
    let b = args_run w.machine w.framed site.segment site.code site.at site.labels fits.placed x fits.error w.choice live.frame s.cells fits.suits args k r words here a.active (omega arith) s0 in
    let there : k + n + length lines + length js ≡ k + length (ones is ++ tail) = omega arith in
    let flows = pushed_flows w site live fits ends chained result wanted lines bound most n (k + n) m (omega arith) paid s2 s3 around s r a (site.at k) here few (key_of live.frame unit number) (key_no_division live.frame unit number) callable (values_of w.choice live.frame s.cells args)
    (λ vs e. let same = values_length w.choice live.frame s.cells args vs e in omega (arith, same, room)) b in
    subst (λ z. Flows w site live around (site.at z) s r (step_of w.program w.choice (run w.program w.choice) (Call unit number args result) live.frame (begun m s))) there flows

-- a routine of the runtime is called by its number
pub runtime_flows : (w : World) (site : Site) (live : Live) → Fits w site live → EndsErrors w live site.context.addresses.error_routine → (IsTrue w.framed → IsChained w live) → (bound most pointer n : ℕ) (args : List Expr) (result : Option FlatResult) → AllHaveWords args → HasResultSize result → 68 + 2 * (length args + exprs_depth args) ≤ live.frame.sp → 8 + length (args_code site.context args) + most + length (taken site.context result) ≤ w.rate → Callable w site live (runtime_key (5 + n)) (call_far (site.context.addresses.far (runtime_key (5 + n)))) bound most → StepFlows w site live (suc bound) pointer (Runtime (suc (suc (suc (suc (suc n))))) args result)
runtime_flows w site live fits ends chained bound most pointer n args result words wanted room paid callable around k s r few here a stands small =
    let x = site.context in
    let is = args_code x args in
    let size = length is in
    let m = 1 + exprs_size args in
    let lines = call_far (x.addresses.far (runtime_key (5 + n))) in
    let js = taken x result in
    let front = length-ones is in
    let last = length-ones js in
    let tail = lines ++ ones js in
    let whole = length-append (ones is) tail in
    let both = length-append lines (ones js) in
    let s0 = stands_front (IsSpelledAt site.code) site.at site.labels k (ones is) tail stands in
    let s1 = subst (λ z. Stands (IsSpelledAt site.code) site.at site.labels (k + z) tail) front (stands_back (IsSpelledAt site.code) site.at site.labels k (ones is) tail stands) in
    let s2 = stands_front (IsSpelledAt site.code) site.at site.labels (k + size) lines (ones js) s1 in
    let s3 = stands_back (IsSpelledAt site.code) site.at site.labels (k + size) lines (ones js) s1 in
    let sp = a.sp in
    let b = args_run w.machine w.framed site.segment site.code site.at site.labels fits.placed x fits.error w.choice live.frame s.cells fits.suits args k r words here a.active (omega arith) s0 in
    let there : k + size + length lines + length js ≡ k + length (ones is ++ tail) = omega arith in
    let found : Found Key = Ok (runtime_key (5 + n)) in
    let flows = pushed_flows w site live fits ends chained result wanted lines bound most size (k + size) m (omega arith) paid s2 s3 around s r a (site.at k) here few found (λ e. absurd (cc)) (λ key e. subst (λ z. Callable w site live z lines bound most) (ap (key_in n) e) callable) (values_of w.choice live.frame s.cells args)
    (λ vs e. let same = values_length w.choice live.frame s.cells args vs e in omega (arith, same, room)) b in
    subst (λ z. Flows w site live around (site.at z) s r (step_of w.program w.choice (run w.program w.choice) (Runtime (suc (suc (suc (suc (suc n))))) args result) live.frame (begun m s))) there flows
  where
    key_in : ℕ → Found Key → Key
    key_in n (Ok key) = key
    key_in n (Err trap) = runtime_key (5 + n)
