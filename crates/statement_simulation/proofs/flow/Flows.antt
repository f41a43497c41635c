-- Outcomes followed one after another.
use Rattle.std.proofs.Common.{◌≡◌, ℕ, zero, suc, ◌+◌, ◌%◌, ◌<◌, ◌≤◌, ◌++◌, arith, refl, subst, ◌∙◌}
use Rattle.std.specs.Prelude.{slice_index_or}
use Rattle.common_values.specs.behaviour.Seen.{Standing, Ended, Going, Undefined, Stopped}
use Rattle.x86_table.specs.declared.line.Line.TheVariants.{JumpNear}
use Rattle.x86_table.specs.Standing.{IsSpelledAt, LineStands}
use Rattle.flat_code.specs.declared.memory.Place.{Place}
use Rattle.flat_code.specs.Calls.{State, Outcome, Next, Left, Returned, Over, and_then, spent, raised, begun, error_text}
use Rattle.resident_machine.specs.State.{ResidentState, ResidentStatus}
use Rattle.resident_machine.specs.machine_lines.Straight.{IsAt, moved_to}
use Rattle.resident_machine.proofs.machine_lines.Steps.{leads_on}
use Rattle.resident_machine.proofs.machine_lines.Jumps.{jumps}
use Rattle.code_templates.specs.code_lines.Lines.{Around}
use Rattle.statement_simulation.specs.expressions.Evaluates.{Fails, entering}
use Rattle.statement_simulation.specs.flow.Sites.{World, Site, Live, Fits, Represents}
use Rattle.statement_simulation.specs.flow.Outcomes.{budget, Arrives, IsSo, Settles, Flows, Errs, EndsErrors}
use Rattle.statement_simulation.proofs.flow.States.{budget_more, fixed_kept, represents_moved}

module _ (w : World) (site : Site) (live : Live) (fits : Fits w site live) where
  -- ## Places

  pub arrives_at : (ip jp : ℕ) (s : State) (r : ResidentState) (t : State) → ip ≡ jp → Arrives w site live ip s r t → Arrives w site live jp s r t
  arrives_at ip jp s r t e a = subst (λ i. Arrives w site live i s r t) e a

  pub flows_at : (around : Around) (ip jp : ℕ) (s : State) (r : ResidentState) (o : Outcome) → ip ≡ jp → Flows w site live around ip s r o → Flows w site live around jp s r o
  flows_at around ip jp s r o e a = subst (λ i. Flows w site live around i s r o) e a

  -- ## At once

  pub settles_here : (standing : Standing) (work turns : ℕ) (s : State) (r : ResidentState) → IsSo standing s.turns 0 r.status → budget w s.work ≤ budget w work → Represents w live s r → Settles w standing s r (record s { turns = turns; work = work })
  settles_here standing work turns s r so paid a = record {
    count = 0;
    end = r;
    leads = refl;
    so = so;
    work = omega arith;
    unread = a.unread;
    read = a.read;
    out = a.out;
    err = a.err;
    input = refl;
  }

  -- ## One after another

  pub arrives_on : (ip jp : ℕ) (s : State) (r : ResidentState) (t u : State) → (a : Arrives w site live ip s r t) → Arrives w site live jp t a.end u → Arrives w site live jp s r u
  arrives_on ip jp s r t u a b =
      let x = a.enough in
      let y = b.enough in
      let f = a.fewer in
      let g = b.fewer in
      let m = a.work in
      let n = b.work in
      record {
        count = a.count + b.count;
        end = b.end;
        leads = leads_on w.machine w.framed a.count b.count r a.end b.end a.leads b.leads;
        here = b.here;
        stands = b.stands;
        enough = omega arith;
        fewer = omega arith;
        work = omega arith;
        free = λ place h. b.free place (a.free place h);
        input = b.input ∙ a.input;
      }

  so_on : (standing : Standing) (turns left m n : ℕ) (status : ResidentStatus) → turns ≤ m + left → IsSo standing left n status → IsSo standing turns (m + n) status
  so_on (Ended code) turns left m n status e h = h
  so_on Going turns left m n status e h = let g = h.0 in (omega arith, h.1)
  so_on (Undefined act) turns left m n status e h = tt
  so_on Stopped turns left m n status e h = h

  pub settles_on : (ip : ℕ) (standing : Standing) (s : State) (r : ResidentState) (t u : State) → (a : Arrives w site live ip s r t) → Settles w standing t a.end u → Settles w standing s r u
  settles_on ip standing s r t u a b =
      let m = a.work in
      let n = b.work in
      record {
        count = a.count + b.count;
        end = b.end;
        leads = leads_on w.machine w.framed a.count b.count r a.end b.end a.leads b.leads;
        so = so_on standing s.turns t.turns a.count b.count b.end.status a.enough b.so;
        work = omega arith;
        unread = b.unread;
        read = b.read;
        out = b.out;
        err = b.err;
        input = b.input ∙ a.input;
      }

  pub flows_after : (around : Around) (ip jp : ℕ) (s : State) (r : ResidentState) (t : State) (a : Arrives w site live ip s r t) (o : Outcome) → Flows w site live around jp t a.end o → Flows w site live around jp s r o
  flows_after around ip jp s r t a (Next u) b = arrives_on ip jp s r t u a b
  flows_after around ip jp s r t a (Left loops u) b = arrives_on ip (site.at (site.labels (slice_index_or around.ends loops around.home))) s r t u a b
  flows_after around ip jp s r t a (Returned u) b = arrives_on ip (site.at (site.labels around.home)) s r t u a b
  flows_after around ip jp s r t a (Over standing u) b = settles_on ip standing s r t u a b

  pub seq_flows : (around : Around) (ip jp : ℕ) (s : State) (r : ResidentState) (o : Outcome) (go : State → Outcome) → Flows w site live around ip s r o → ((t : State) (e : ResidentState) → t.turns ≤ s.turns → IsAt site.segment ip e → Represents w live t e → Flows w site live around jp t e (go t)) → Flows w site live around jp s r (and_then o go)
  seq_flows around ip jp s r (Next t) go a h = flows_after around ip jp s r t a (go t) (h t a.end a.fewer a.here a.stands)
  seq_flows around ip jp s r (Left loops t) go a h = a
  seq_flows around ip jp s r (Returned t) go a h = a
  seq_flows around ip jp s r (Over standing t) go a h = a

  -- ## A jump behind a piece

  pub jump_arrives : (ip j l : ℕ) (s : State) (r : ResidentState) (t u : State) (a : Arrives w site live ip s r t) → a.count + 1 + budget w s.work ≤ budget w t.work → LineStands (IsSpelledAt site.code) site.at site.labels j (JumpNear l) → Arrives w site live (site.at j) t a.end u → Arrives w site live (site.at (site.labels l)) s r u
  jump_arrives ip j l s r t u a paid line b =
      let to = site.at (site.labels l) in
      let jm = jumps w.machine w.framed site.segment site.code site.at site.labels fits.placed j l b.end b.here line in
      let both = arrives_on ip (site.at j) s r t u a b in
      let x = a.enough in
      let y = b.enough in
      let f = a.fewer in
      let g = b.fewer in
      let n = b.work in
      record {
        count = a.count + b.count + 1;
        end = moved_to b.end to;
        leads = leads_on w.machine w.framed (a.count + b.count) 1 r b.end (moved_to b.end to) (leads_on w.machine w.framed a.count b.count r a.end b.end a.leads b.leads) jm.leads;
        here = jm.here;
        stands = represents_moved w site live fits u b.end to b.stands;
        enough = omega arith;
        fewer = omega arith;
        work = omega arith;
        free = λ place h. b.free place (a.free place h);
        input = b.input ∙ a.input;
      }

  pub jump_flows : (around : Around) (ip j l : ℕ) (s : State) (r : ResidentState) (t : State) (a : Arrives w site live ip s r t) (o : Outcome) → a.count + 1 + budget w s.work ≤ budget w t.work → LineStands (IsSpelledAt site.code) site.at site.labels j (JumpNear l) → Flows w site live around (site.at j) t a.end o → Flows w site live around (site.at (site.labels l)) s r o
  jump_flows around ip j l s r t a (Next u) paid line b = jump_arrives ip j l s r t u a paid line b
  jump_flows around ip j l s r t a (Left loops u) paid line b = arrives_on ip (site.at (site.labels (slice_index_or around.ends loops around.home))) s r t u a b
  jump_flows around ip j l s r t a (Returned u) paid line b = arrives_on ip (site.at (site.labels around.home)) s r t u a b
  jump_flows around ip j l s r t a (Over standing u) paid line b = settles_on ip standing s r t u a b

  -- ## Errors

  abbrev error : Place
  error = site.context.addresses.error_routine

  errs : (ip n code turns work : ℕ) (s : State) (r : ResidentState) → IsAt site.segment ip r → Represents w live s r → (f : Fails w.machine w.framed error n r code) → Errs w live error code (record s { turns = turns; work = work }) (entering r f.registers f.cells error)
  errs ip n code turns work s r here a f =
      let lower = f.lower in
      let sp = a.sp in
      let ss = f.ss in
      let top = a.active.top in
      let inside = a.active.inside in
      record {
        running = here.running;
        half = here.half;
        segment = refl;
        offset = refl;
        ax = f.ax;
        room = f.room;
        lower = omega arith;
        top = omega arith;
        inside = omega arith;
        ss = f.ss ∙ a.active.ss;
        ds = f.ds ∙ a.active.ds;
        direction = f.direction ∙ a.direction;
        fixed = λ place byte e. f.bytes place (fixed_kept w site live fits s r place byte a e) ∙ a.fixed place byte e;
        unread = a.unread;
        read = a.read;
        out = a.out;
        err = a.err;
      }

  -- a runtime error of a node that pays so many events
  pub error_flows : (around : Around) (ip jp n m code : ℕ) (s : State) (r : ResidentState) → IsAt site.segment ip r → Represents w live s r → EndsErrors w live error → code < 65536 → n + budget w s.work ≤ budget w (s.work + m) → Fails w.machine w.framed error n r code → Flows w site live around jp s r (raised code (begun m s))
  error_flows around ip jp n m code s r here a ends small paid f = by s.turns refl
    where
      by : (turns : ℕ) → s.turns ≡ turns → Flows w site live around jp s r (spent turns (begun m s) (λ s. Over (Ended (code % 256)) (record s { err = s.err ++ error_text code })))
      by zero e = settles_here Going (s.work + m) s.turns s r (omega (arith, e), here.running) (budget_more w s.work m) a
      by (suc left) e =
          let u = record s { turns = left; work = s.work + m } in
          let z = ends code u (entering r f.registers f.cells error) small (errs ip n code left (s.work + m) s r here a f) in
          let few = f.few in
          let work = z.work in
          record {
            count = f.count + z.count;
            end = z.end;
            leads = leads_on w.machine w.framed f.count z.count r (entering r f.registers f.cells error) z.end f.leads z.leads;
            so = z.so;
            work = omega arith;
            unread = z.unread;
            read = z.read;
            out = z.out;
            err = z.err;
            input = z.input;
          }
