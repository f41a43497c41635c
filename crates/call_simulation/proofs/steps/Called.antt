-- A call that was entered: the routine's body, its return, and what the call comes to.
use Rattle.std.proofs.Common.{◌≡◌, ℕ, zero, suc, ◌+◌, ◌*◌, ◌%◌, ◌<◌, ◌≤◌, Bool, true, false, List, [], ◌∷◌, ◌++◌, length, Option, Ok, Err, arith, refl, sym, ap, subst, ◌∙◌, ⊎_elim, length-append}
use Rattle.std.specs.Prelude.{drop, IsTrue}
use Rattle.std.proofs.lemmas.Bool.{cases_lt}
use Rattle.common_values.specs.behaviour.Seen.{Standing, Ended, Going, Undefined, Stopped}
use Rattle.x86_table.specs.declared.line.Line.{Line}
use Rattle.x86_table.specs.declared.line.Line.TheVariants.{Label}
use Rattle.x86_table.specs.Standing.{IsSpelledAt, Stands}
use Rattle.x86_table.proofs.Stand.{stands_front, stands_back}
use Rattle.flat_code.specs.declared.memory.Trap.TheVariants.{ByZero, Bad}
use Rattle.flat_code.specs.declared.tree.FlatResult.{FlatResult}
use Rattle.flat_code.specs.Calls.{State, Outcome, Next, Left, Returned, Over, spent, raised, error_text, with_found, with_cells, activation_bytes, link_bytes, frame_of, opened, closed, result_bytes, give, ended, finished}
use Rattle.flat_code.specs.Legal.{HasResultSize}
use Rattle.flat_code.specs.Meaning.{run}
use Rattle.flat_code.specs.Memory.{Found}
use Rattle.flat_code.specs.Program.{Name, Routine, UnitCode}
use Rattle.flat_code.specs.Values.{Frame}
use Rattle.flat_code.proofs.After.{After, Steps, after_run}
use Rattle.resident_machine.specs.Cells.{is_free}
use Rattle.resident_machine.specs.State.{ResidentState}
use Rattle.resident_machine.specs.machine_lines.Steps.{Leads}
use Rattle.resident_machine.specs.machine_lines.Straight.{ones, IsAt}
use Rattle.resident_machine.proofs.machine_lines.Steps.{leads_on}
use Rattle.code_templates.specs.code_lines.Lines.{Around, prologue, code_lines, epilogue, framed_lines, taken}
use Rattle.statement_simulation.specs.expressions.Active.{Suits}
use Rattle.statement_simulation.specs.expressions.Evaluates.{Fails, entering}
use Rattle.statement_simulation.specs.flow.Sites.{World, Site, Live, Fits, Represents}
use Rattle.statement_simulation.specs.flow.Outcomes.{budget, Arrives, IsSo, Settles, Flows, Errs, EndsErrors}
use Rattle.statement_simulation.proofs.flow.Lists.{length-ones}
use Rattle.statement_simulation.proofs.flow.States.{budget_grows, fixed_kept, represents_like}
use Rattle.call_simulation.specs.frames.Callee.{Back, return_bytes, saved_at, callee, IsPaired, IsPairedAt}
use Rattle.call_simulation.specs.frames.Chain.{IsChained}
use Rattle.call_simulation.specs.frames.Moves.{Started}
use Rattle.call_simulation.proofs.frames.Deeper.{chained_deeper}
use Rattle.call_simulation.proofs.frames.Entry.{link_is, entry_run, entry_fails, inner_fits}
use Rattle.call_simulation.proofs.frames.Exit.{exit_run}
use Rattle.call_simulation.specs.calls.Enters.{Reaches}
use Rattle.call_simulation.specs.steps.Made.{Made, HasStack, BodyFlows}
use Rattle.call_simulation.proofs.steps.Divisions.{result_no_division}
use Rattle.call_simulation.proofs.steps.Gives.{gives_flows}

-- the installed flag is never taken back
abbrev Flags : State → State → Type 0
Flags s t = s.flag ≡ true → t.flag ≡ true

flags : Steps Flags
flags = record {
  itself = λ s e. e;
  twice = λ r s t p q e. q (p e);
  turn = λ turns s h e. e;
  work = λ nodes s e. e;
  cells = λ m s e. e;
  out = λ bytes s e. e;
  err = λ bytes s e. e;
  input = λ byte input s h e. e;
  flag = λ s e. refl;
}

-- the code was made for the frame
suits_of : (w : World) (site : Site) (name : Name) (unit : UnitCode) (r : Routine) (pointer : ℕ) (f : Frame) → Made w site name unit r pointer → r.arguments + link_bytes r.far ≤ f.sp → f.sp < 65536 → Suits site.context w.choice (frame_of name unit r f)
suits_of w site name unit r pointer f m linked top =
    let far : link_bytes site.context.far ≡ link_bytes r.far = ap link_bytes m.far in
    record { unit = m.own; names = m.names; link = omega arith; link_small = omega arith; datum = m.datum; vmt = m.vmt; data_segment = m.data_segment; stack_segment = m.stack_segment }

module _ (w : World) (caller : Site) (site : Site) (live : Live) (fits : Fits w caller live) (name : Name) (unit : UnitCode) (r : Routine) (pointer : ℕ) (made : Made w site name unit r pointer) (ends : EndsErrors w live site.context.addresses.error_routine) (result : Option FlatResult) (wanted : HasResultSize result) (j : ℕ) (near : r.far ≡ false → caller.segment ≡ site.segment) (chained : IsTrue w.framed → IsChained w live) (even : IsTrue w.framed → r.locals % 2 ≡ 0) (stack : HasStack w live.frame r) (around : Around) (s0 : State) (left m : ℕ) (turns : s0.turns ≡ suc left) (r0 : ResidentState) (a0 : Represents w live s0 r0) (n : ℕ) (vs : List ℕ) (reach : Reaches w live r.far (record { segment = caller.segment; offset = caller.at j }) site.segment n (site.at 0) vs r0) (handed : 2 * length vs ≡ r.arguments) (linked : r.arguments + link_bytes r.far ≤ live.frame.sp) (some : 1 ≤ m) (taken_stands : Stands (IsSpelledAt caller.code) caller.at caller.labels j (ones (taken caller.context result))) (paid : n + 6 + length (framed_lines site.context pointer r) + length (taken caller.context result) ≤ w.rate) where
  abbrev back : Back
  back = record { segment = caller.segment; offset = caller.at j }

  abbrev f : Frame
  f = live.frame

  abbrev inner : Live
  inner = callee w name unit r live back

  -- the state behind the arguments, a turn spent
  abbrev s : State
  s = record s0 { turns = left; work = s0.work + m }

  a : Represents w live s r0
  a = represents_like w live s0 left (s0.work + m) r0 a0

  abbrev goal_ip : ℕ
  goal_ip = caller.at (j + length (taken caller.context result))

  -- the call takes an event at least
  reach_some : 1 ≤ reach.count
  reach_some = by reach.count reach.leads
    where
      by : (count : ℕ) → Leads w.machine w.framed count r0 reach.end → 1 ≤ count
      by zero e =
          let sp = reach.entered.sp in
          let sp0 = a0.sp in
          let same = ap (λ (z : ResidentState). z.registers.sp) e in
          let four = returns_some r.far in
          absurd (omega arith)
        where
          returns_some : (far : Bool) → 2 ≤ return_bytes far
          returns_some true = omega arith
          returns_some false = omega arith
      by (suc count) e = omega arith

  -- at the routine's first line the machine shows what flat code shows
  settles_entered : (standing : Standing) (u : State) → IsSo standing s0.turns reach.count reach.end.status → u.input ≡ s.input → u.out ≡ s.out → u.err ≡ s.err → budget w (s0.work + m) ≤ budget w u.work → Settles w standing s0 r0 u
  settles_entered standing u so input out err more =
      let few = reach.few in
      let e = reach.entered in
      let grown = budget_grows w s0.work m n (omega arith) some in
      record {
        count = reach.count;
        end = reach.end;
        leads = reach.leads;
        so = so;
        work = omega arith;
        unread = ap (λ k. drop k reach.end.input) e.taken ∙ ap (λ l. drop r0.taken l) e.input ∙ a.unread ∙ sym input;
        read = subst (λ l. reach.end.taken ≤ length l) (sym e.input) (subst (λ k. k ≤ length r0.input) (sym e.taken) a.read);
        out = e.out ∙ a.out ∙ sym out;
        err = e.err ∙ a.err ∙ sym err;
        input = e.input;
      }

  -- ## Error 202

  enough : 66 ≤ reach.end.registers.sp → 0 < r.frame → f.sp < 512 + activation_bytes r → IsAt site.segment (site.at 0) reach.end → Fails w.machine w.framed site.context.addresses.error_routine 7 reach.end 202
  enough room framed_one little here =
      entry_fails w caller site made.placed live fits name unit r back vs s r0 reach.end a reach.entered handed linked 0 made.error room framed_one little here
      (stands_front (IsSpelledAt site.code) site.at site.labels 0 (ones (prologue site.context r)) _ made.stands)

  tall_sp : 0 < r.frame → 66 ≤ reach.end.registers.sp
  tall_sp one =
      let tall = stack.tall one in
      let shallow = stack.shallow in
      let sp = reach.entered.sp in
      by r.far sp
    where
      by : (far : Bool) → reach.end.registers.sp + return_bytes far + 2 * length vs ≡ live.frame.sp → 66 ≤ reach.end.registers.sp
      by true sp = let tall = stack.tall one in let shallow = stack.shallow in let h = handed in omega arith
      by false sp = let tall = stack.tall one in let shallow = stack.shallow in let h = handed in omega arith

  refused_errs : (l : ℕ) (x : Fails w.machine w.framed site.context.addresses.error_routine 7 reach.end 202) → Errs w live site.context.addresses.error_routine 202 (record s { turns = l }) (entering reach.end x.registers x.cells site.context.addresses.error_routine)
  refused_errs l x =
      let e = reach.entered in
      let lower = x.lower in
      let sp = e.sp in
      let ss = e.ss in
      let ss1 = x.ss in
      let top = a.active.top in
      let inside = a.active.inside in
      let sp0 = a.sp in
      let ss0 = a.active.ss in
      record {
        running = reach.here.running;
        half = reach.here.half;
        segment = refl;
        offset = refl;
        ax = x.ax;
        room = x.room;
        lower = omega arith;
        top = omega arith;
        inside = omega arith;
        ss = x.ss ∙ e.ss ∙ a.active.ss;
        ds = x.ds ∙ e.ds ∙ a.active.ds;
        direction = x.direction ∙ e.direction ∙ a.direction;
        fixed = λ place byte known.
            let kept = fixed_kept w caller live fits s r0 place byte a known in
            x.bytes place (λ low. let z = kept (omega arith) in omega arith) ∙ e.bytes place kept ∙ a.fixed place byte known;
        unread = ap (λ k. drop k reach.end.input) e.taken ∙ ap (λ z. drop r0.taken z) e.input ∙ a.unread;
        read = subst (λ z. reach.end.taken ≤ length z) (sym e.input) (subst (λ k. k ≤ length r0.input) (sym e.taken) a.read);
        out = e.out ∙ a.out;
        err = e.err ∙ a.err;
      }

  -- a routine has a line at least
  framed_some : 1 ≤ length (framed_lines site.context pointer r)
  framed_some =
      let home = length site.context.unit.routines in
      let lines = code_lines site.context (record { home = home; ends = [] }) (home + 1) pointer r.body in
      let last = Label home ∷ ones (epilogue site.context r) in
      let whole = length-append (ones (prologue site.context r)) (lines ++ last) in
      let body = length-append lines last in
      omega arith

  pub refused_flows : 0 < r.frame → f.sp < 512 + activation_bytes r → Flows w caller live around goal_ip s0 r0 (raised 202 s)
  refused_flows one little = by left refl
    where
      by : (l : ℕ) → left ≡ l → Flows w caller live around goal_ip s0 r0 (spent l s (λ s. Over (Ended (202 % 256)) (record s { err = s.err ++ error_text 202 })))
      by zero e = let some_events = reach_some in let t = turns in settles_entered Going s (omega (arith, e), reach.here.running) refl refl refl (omega arith)
      by (suc l) e =
          let x = enough (tall_sp one) one little reach.here in
          let u = record s { turns = l } in
          let z = ends 202 u (entering reach.end x.registers x.cells site.context.addresses.error_routine) (omega arith) (refused_errs l x) in
          let few = reach.few in
          let few1 = x.few in
          let work = z.work in
          let size = framed_some in
          let grown = budget_grows w s0.work m (n + 7) (omega arith) some in
          record {
            count = reach.count + (x.count + z.count);
            end = z.end;
            leads = leads_on w.machine w.framed reach.count (x.count + z.count) r0 reach.end z.end reach.leads (leads_on w.machine w.framed x.count z.count reach.end (entering reach.end x.registers x.cells site.context.addresses.error_routine) z.end x.leads z.leads);
            so = z.so;
            work = omega arith;
            unread = z.unread;
            read = z.read;
            out = z.out;
            err = z.err;
            input = z.input ∙ reach.entered.input;
          }

  -- ## The activation

  module _ (room : activation_bytes r ≤ f.sp) (tested_by : 0 < r.frame → 512 + activation_bytes r ≤ f.sp) (admitted_by : w.program.overlaid name ≡ true → s.flag ≡ true) (bound : ℕ) (fewer : left < bound) (body : BodyFlows w site name unit r pointer live back bound) where
    deep : 64 + activation_bytes r ≤ f.sp
    deep = ⊎_elim (λ one. let z = stack.deep (omega (arith, one)) in omega (arith, z)) (λ more. let z = tested_by (omega (arith, more)) in omega (arith, z)) (cases_lt r.frame 1)

    entry_room : 66 ≤ reach.end.registers.sp
    entry_room = let d = deep in let sp = reach.entered.sp in let link = link_is r.far in let h = handed in by r.far sp
      where
        by : (far : Bool) → reach.end.registers.sp + return_bytes far + 2 * length vs ≡ live.frame.sp → 66 ≤ reach.end.registers.sp
        by far sp = ⊎_elim (λ one. let z = stack.deep (omega (arith, one)) in let h = handed in small far sp (omega (arith, z, h))) (λ more. let z = tested_by (omega (arith, more)) in let h = handed in small far sp (omega (arith, z, h))) (cases_lt r.frame 1)
          where
            small : (far : Bool) → reach.end.registers.sp + return_bytes far + 2 * length vs ≡ live.frame.sp → 128 + 2 * length vs ≤ live.frame.sp → 66 ≤ reach.end.registers.sp
            small true sp more = omega arith
            small false sp more = omega arith

    abbrev code : List Line
    code = code_lines site.context (record { home = length site.context.unit.routines; ends = [] }) (length site.context.unit.routines + 1) pointer r.body

    abbrev tail : List Line
    tail = Label (length site.context.unit.routines) ∷ ones (epilogue site.context r)

    abbrev start : ℕ
    start = length (prologue site.context r)

    abbrev label_at : ℕ
    label_at = start + length code

    front : Stands (IsSpelledAt site.code) site.at site.labels 0 (ones (prologue site.context r))
    front = stands_front (IsSpelledAt site.code) site.at site.labels 0 (ones (prologue site.context r)) (code ++ tail) made.stands

    behind : Stands (IsSpelledAt site.code) site.at site.labels start (code ++ tail)
    behind = subst (λ k. Stands (IsSpelledAt site.code) site.at site.labels k (code ++ tail)) {x = 0 + length (ones (prologue site.context r))} {y = start} (let e = length-ones (prologue site.context r) in omega arith) (stands_back (IsSpelledAt site.code) site.at site.labels 0 (ones (prologue site.context r)) (code ++ tail) made.stands)

    code_stands : Stands (IsSpelledAt site.code) site.at site.labels start code
    code_stands = stands_front (IsSpelledAt site.code) site.at site.labels start code tail behind

    tail_stands : Stands (IsSpelledAt site.code) site.at site.labels label_at tail
    tail_stands = stands_back (IsSpelledAt site.code) site.at site.labels start code tail behind

    whole_length : length (framed_lines site.context pointer r) ≡ start + (length code + suc (length (epilogue site.context r)))
    whole_length =
        let e = length-ones (prologue site.context r) in
        let g = length-ones (epilogue site.context r) in
        let h = length-append (ones (prologue site.context r)) (code ++ tail) in
        let i = length-append code tail in
        omega arith

    abbrev begun : State
    begun = with_cells s (opened w.choice r f vs s.cells)

    began : Started w site inner start (site.at start) begun reach.end
    began = subst (λ k. Started w site inner start (site.at k) begun reach.end) {x = 0 + start} {y = start} (omega arith) (entry_run w caller site made.placed live fits name unit r back vs s r0 reach.end a reach.entered handed linked room 0 entry_room tested_by admitted_by reach.here front)

    fits_inner : Fits w site inner
    fits_inner = inner_fits w caller site made.placed live fits name unit r back vs s r0 reach.end a reach.entered handed linked room made.error (suits_of w site name unit r pointer f made linked (let sp = a.sp in let top = a.active.top in omega arith))

    chained_inner : IsTrue w.framed → IsChained w inner
    chained_inner e = chained_deeper w caller live fits name unit r back deep (let sp = a.sp in let top = a.active.top in omega arith) (let sp = a.sp in let inside = a.active.inside in let ss = a.active.ss in omega arith) (let h = handed in omega arith) (even e) (chained e)

    body_flows : Flows w site inner (record { home = length site.context.unit.routines; ends = [] }) (site.at label_at) begun began.end (run w.program w.choice r.body inner.frame begun)
    body_flows =
        let sum = whole_length in
        body fits_inner chained_inner room tested_by (record { home = length site.context.unit.routines; ends = [] }) (length site.context.unit.routines + 1) start begun began.end fewer began.here began.stands code_stands (omega arith)

    -- the place behind the body, by its label
    label_there : site.at (site.labels (length site.context.unit.routines)) ≡ site.at label_at
    label_there = ap site.at tail_stands.0.0

    paid_by : (work count k : ℕ) → k ≤ length (epilogue site.context r) + length (taken caller.context result) → count + budget w (s0.work + m) ≤ budget w work → reach.count + (began.count + (count + k)) + budget w s0.work ≤ budget w work
    paid_by work count k few more =
        let few0 = reach.few in
        let few1 = began.few in
        let sum = whole_length in
        let grown = budget_grows w s0.work m (n + start + length (epilogue site.context r) + length (taken caller.context result)) (omega arith) some in
        omega arith

    -- a run that is over in the body
    over_flows : (standing : Standing) (u : State) → Settles w standing begun began.end u → Settles w standing s0 r0 u
    over_flows standing u z =
        let few0 = reach.few in
        let few1 = began.few in
        let sum = whole_length in
        let grown = budget_grows w s0.work m (n + start) (omega arith) some in
        let more = z.work in
        record {
          count = reach.count + (began.count + z.count);
          end = z.end;
          leads = leads_on w.machine w.framed reach.count (began.count + z.count) r0 reach.end z.end reach.leads (leads_on w.machine w.framed began.count z.count reach.end began.end z.end began.leads z.leads);
          so = so_over standing z.so;
          work = omega arith;
          unread = z.unread;
          read = z.read;
          out = z.out;
          err = z.err;
          input = z.input ∙ began.input ∙ reach.entered.input;
        }
      where
        so_over : (standing : Standing) → IsSo standing left z.count z.end.status → IsSo standing s0.turns (reach.count + (began.count + z.count)) z.end.status
        so_over (Ended code) h = h
        so_over Going h = let x = h.0 in let y = reach_some in let t = turns in (omega arith, h.1)
        so_over (Undefined act) h = tt
        so_over Stopped h = h

    -- the pair's bytes, by where they stand
    paired_there : (place : ℕ) → IsPaired r.far reach.end.registers place → IsPairedAt r.far (16 * w.choice.stack_segment + saved_at r f + 2) place
    paired_there place q = by r.far (link_is r.far) q
      where
        sp_is : (far : Bool) → link_bytes r.far ≡ return_bytes far + 2 → reach.end.registers.sp + return_bytes far + 2 * length vs ≡ live.frame.sp → reach.end.registers.sp ≡ saved_at r f + 2
        sp_is far link sp = let h = handed in let l = linked in omega arith

        by : (far : Bool) → link_bytes far ≡ return_bytes far + 2 → IsPaired far reach.end.registers place → IsPairedAt far (16 * w.choice.stack_segment + saved_at r f + 2) place
        by true e q =
            let ss = reach.entered.ss in
            let ss0 = a.active.ss in
            let sp = sp_is r.far (link_is r.far) reach.entered.sp in
            let low = q.0 in
            let high = q.1 in
            (omega arith, omega arith)
        by false e q = q

    still_free : (t : ResidentState) → ((place : ℕ) → IsTrue (is_free (began.end.cells place)) → IsTrue (is_free (t.cells place))) → (place : ℕ) → (IsPairedAt r.far (16 * w.choice.stack_segment + saved_at r f + 2) place → ⊥) → IsTrue (is_free (r0.cells place)) → IsTrue (is_free (t.cells place))
    still_free t free place apart h = free place (began.free place (reach.entered.free place h (λ q. apart (paired_there place q))))

    -- ## Behind the body

    finish : (ip : ℕ) (u : State) → ip ≡ site.at label_at → Arrives w site inner ip begun began.end u → (s.flag ≡ true → u.flag ≡ true) → Flows w caller live around goal_ip s0 r0 (ended w.choice r inner.frame f result u)
    finish ip u there b stays = by (result_bytes w.choice inner.frame u.cells r.result) refl
      where
        at_label : IsAt site.segment (site.at label_at) b.end
        at_label = subst (λ z. IsAt site.segment z b.end) there b.here

        at_epilogue : IsAt site.segment (site.at (label_at + 1)) b.end
        at_epilogue = subst (λ z. IsAt site.segment z b.end) (sym tail_stands.0.1) at_label

        came : (bytes : List ℕ) → result_bytes w.choice inner.frame u.cells r.result ≡ Ok bytes → Flows w caller live around goal_ip s0 r0 (give w.choice f result bytes (with_cells u (closed w.choice r f u.cells)))
        came bytes e =
            let x = exit_run w caller site live fits name unit r back s r0 a room deep fits_inner chained (label_at + 1) u b.end bytes near made.sized e b.stands stays (λ place apart may. still_free b.end b.free place apart may.free) at_epilogue tail_stands.1 in
            let enough_b = b.enough in
            let fewer_b = b.fewer in
            let t = turns in
            let one = reach_some in
            let few = x.few in
            let arrived : Arrives w caller live (caller.at j) s0 r0 (with_cells u (closed w.choice r f u.cells)) = record {
              count = reach.count + (began.count + (b.count + x.count));
              end = x.end;
              leads = leads_on w.machine w.framed reach.count (began.count + (b.count + x.count)) r0 reach.end x.end reach.leads (leads_on w.machine w.framed began.count (b.count + x.count) reach.end began.end x.end began.leads (leads_on w.machine w.framed b.count x.count began.end b.end x.end b.leads x.leads));
              here = x.here;
              stands = x.stands;
              enough = omega (arith, enough_b, t, one);
              fewer = omega (arith, fewer_b, t);
              work = paid_by u.work b.count x.count (omega (arith, few)) b.work;
              free = λ place h. x.freed place (λ apart. still_free b.end b.free place apart h);
              input = x.input ∙ b.input ∙ began.input ∙ reach.entered.input;
            } in
            let all = paid_by u.work b.count (x.count + length (taken caller.context result)) (omega (arith, few)) b.work in
            gives_flows w caller live fits around j s0 r0 (with_cells u (closed w.choice r f u.cells)) result bytes arrived wanted x.holds (let d = deep in omega (arith, d)) (omega (arith, all)) taken_stands

        by : (found : Found (List ℕ)) → result_bytes w.choice inner.frame u.cells r.result ≡ found → Flows w caller live around goal_ip s0 r0 (with_found found u (λ bytes. give w.choice f result bytes (with_cells u (closed w.choice r f u.cells))))
        by (Ok bytes) e = came bytes e
        by (Err ByZero) e = absurd (result_no_division w.choice inner.frame u.cells r.result e)
        by (Err (Bad act)) e = over_flows (Undefined act) u (settles_at b)
          where
            settles_at : Arrives w site inner ip begun began.end u → Settles w (Undefined act) begun began.end u
            settles_at b =
                let more = b.work in
                record { count = b.count; end = b.end; leads = b.leads; so = tt; work = omega (arith, more); unread = b.stands.unread; read = b.stands.read; out = b.stands.out; err = b.stands.err; input = b.input }

    after_flows : (o : Outcome) → Flows w site inner (record { home = length site.context.unit.routines; ends = [] }) (site.at label_at) begun began.end o → After Flags begun o → Flows w caller live around goal_ip s0 r0 (finished o (ended w.choice r inner.frame f result))
    after_flows (Next u) b flag = finish (site.at label_at) u refl b flag
    after_flows (Left loops u) b flag = finish (site.at (site.labels (length site.context.unit.routines))) u label_there b flag
    after_flows (Returned u) b flag = finish (site.at (site.labels (length site.context.unit.routines))) u label_there b flag
    after_flows (Over standing u) b flag = over_flows standing u b

    pub activated_flows : Flows w caller live around goal_ip s0 r0 (finished (run w.program w.choice r.body inner.frame begun) (ended w.choice r inner.frame f result))
    activated_flows = after_flows (run w.program w.choice r.body inner.frame begun) body_flows (after_run flags w.program w.choice r.body inner.frame begun)
