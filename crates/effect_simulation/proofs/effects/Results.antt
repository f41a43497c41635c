-- The bytes of a result go to where they are wanted.
use Rattle.std.proofs.Common.{◌≡◌, ℕ, ◌+◌, ◌<◌, ◌≤◌, ◌==◌, Bool, true, false, List, length, Option, Some, None, Ok, Err, arith, refl, sym, ap, subst, ◌∙◌, eqb-true}
use Rattle.std.specs.Prelude.{if◌then◌else◌}
use Rattle.common_values.specs.behaviour.Seen.{Undefined}
use Rattle.x86_table.specs.Standing.{IsSpelledAt, Stands}
use Rattle.flat_code.specs.declared.memory.Cell.TheVariants as flat
use Rattle.flat_code.specs.declared.memory.Trap.TheVariants.{ByZero, Bad}
use Rattle.flat_code.specs.declared.tree.FlatResult.{FlatResult}
use Rattle.flat_code.specs.Calls.{State, Over, with_found, set_cells, stored_at, give}
use Rattle.flat_code.specs.Memory as flat_memory
use Rattle.flat_code.specs.Memory.{Found}
use Rattle.resident_machine.specs.Effect.{with_memory}
use Rattle.resident_machine.specs.State.{ResidentState}
use Rattle.resident_machine.specs.machine_lines.Straight.{ones}
use Rattle.resident_machine.proofs.machine_lines.Steps.{leads_on}
use Rattle.code_templates.specs.code_lines.Addresses.{Context}
use Rattle.code_templates.specs.code_lines.Lines.{Around, taken, taken_by}
use Rattle.statement_simulation.specs.stores.Stores.{Stores}
use Rattle.statement_simulation.specs.flow.Sites.{World, Site, Live, Fits, IsFlag, Represents}
use Rattle.statement_simulation.specs.flow.Outcomes.{budget, Arrives, Flows}
use Rattle.statement_simulation.proofs.flow.States.{flag_kept, fixed_kept}
use Rattle.statement_simulation.proofs.flow.Steps.{flag_outside}
use Rattle.statement_simulation.proofs.flow.Flows.{arrives_at, settles_here, settles_on}
use Rattle.effect_simulation.proofs.effects.Taken.{TakesTo, bytes_of, taken_runs}

module _ (w : World) (site : Site) (live : Live) (fits : Fits w site live) where
  abbrev x : Context
  x = site.context

  -- the machine stands for the state with the cells that were stored
  pub represents_stored : (n ip : ℕ) (s : State) (r : ResidentState) (cells : flat_memory.Cells) → Represents w live s r → (b : Stores w.machine w.framed site.segment n ip w.choice live.frame s.cells cells r) → ((place : ℕ) → s.cells place ≡ flat.Outside → cells place ≡ flat.Outside) → Represents w live (record s { cells = cells }) (with_memory r b.registers b.cells)
  represents_stored n ip s r cells a b shut =
      let flag = w.machine.installed in
      let same = b.outside flag (flag_outside flag w.choice live.frame s.cells r.registers r.cells a.active) (flag_kept flag w.choice live.frame s.cells r.registers r.cells a.active) in
      record {
        active = b.active;
        sp = b.sp ∙ a.sp;
        direction = b.direction ∙ a.direction;
        flag = subst (λ cell. IsFlag s.flag cell) (sym same) a.flag;
        set = a.set;
        outside = λ place byte e. shut place (a.outside place byte e);
        fixed = λ place byte e. b.outside place (a.outside place byte e) (fixed_kept w site live fits s r place byte a e) ∙ a.fixed place byte e;
        records = a.records;
        unread = a.unread;
        bytes = a.bytes;
        read = a.read;
        out = a.out;
        err = a.err;
      }

  -- behind a piece whose work pays for the store too
  stored_arrives : (ip jp n : ℕ) (s : State) (r : ResidentState) (u : State) (cells : flat_memory.Cells) (a : Arrives w site live ip s r u) → a.count + n + budget w s.work ≤ budget w u.work → (b : Stores w.machine w.framed site.segment n jp w.choice live.frame u.cells cells a.end) → ((place : ℕ) → u.cells place ≡ flat.Outside → cells place ≡ flat.Outside) → Arrives w site live jp s r (record u { cells = cells })
  stored_arrives ip jp n s r u cells a paid b shut =
      let few = b.few in
      let enough = a.enough in
      let fewer = a.fewer in
      record {
        count = a.count + b.count;
        end = with_memory a.end b.registers b.cells;
        leads = leads_on w.machine w.framed a.count b.count r a.end (with_memory a.end b.registers b.cells) a.leads b.leads;
        here = b.here;
        stands = represents_stored n jp u a.end cells a.stands b shut;
        enough = omega arith;
        fewer = fewer;
        work = omega arith;
        free = λ place h. b.free place (a.free place h);
        input = a.input;
      }

  pub takes_flow : (around : Around) (ip jp n : ℕ) (s : State) (r : ResidentState) (u : State) (a : Arrives w site live ip s r u) → a.count + n + budget w s.work ≤ budget w u.work → (found : Found flat_memory.Cells) → TakesTo w.machine w.framed site.segment n jp w.choice live.frame u.cells a.end found → Flows w site live around jp s r (with_found found u (set_cells u))
  takes_flow around ip jp n s r u a paid (Ok cells) b = stored_arrives ip jp n s r u cells a paid b.0 b.1
  takes_flow around ip jp n s r u a paid (Err ByZero) b = absurd b
  takes_flow around ip jp n s r u a paid (Err (Bad cause)) b = settles_on w site live fits ip (Undefined cause) s r u u a (settles_here w site live fits (Undefined cause) u.work u.turns u a.end tt (omega arith) a.stands)

  -- a result of AX and DX, behind a piece that left it there
  pub give_flows : (around : Around) (j v y : ℕ) (s : State) (r : ResidentState) (u : State) (result : Option FlatResult) (bytes : List ℕ) (a : Arrives w site live (site.at j) s r u) → a.end.registers.ax ≡ v → v < 65536 → a.end.registers.dx ≡ y → y < 65536 → 64 ≤ live.frame.sp → a.count + length (taken x result) + budget w s.work ≤ budget w u.work → ((n : ℕ) → length bytes ≡ n → bytes_of n v y ≡ bytes) → Stands (IsSpelledAt site.code) site.at site.labels j (ones (taken x result)) → Flows w site live around (site.at (j + length (taken x result))) s r (give w.choice live.frame result bytes u)
  give_flows around j v y s r u None bytes a ax small dx fit room paid same stands =
      let e : j ≡ j + 0 = omega arith in
      arrives_at w site live fits (site.at j) (site.at (j + 0)) s r u (ap site.at e) a
  give_flows around j v y s r u (Some result) bytes a ax small dx fit room paid same stands = by (length bytes == result.bytes) refl
    where
      wanted : length bytes ≡ result.bytes → Flows w site live around (site.at (j + length (taken_by result.bytes x result.at))) s r (with_found (stored_at w.choice live.frame u.cells result.at bytes) u (set_cells u))
      wanted e =
          let n = result.bytes in
          let sp = a.stands.sp in
          let b = taken_runs w.machine w.framed site.segment site.code site.at site.labels fits.placed x w.choice live.frame u.cells fits.suits n result.at j v y a.end ax small dx fit a.here a.stands.active (omega arith) stands in
          let these = same n e in
          let c = subst (λ bs. TakesTo w.machine w.framed site.segment (length (taken_by n x result.at)) (site.at (j + length (taken_by n x result.at))) w.choice live.frame u.cells a.end (stored_at w.choice live.frame u.cells result.at bs)) these b in
          takes_flow around (site.at j) (site.at (j + length (taken_by n x result.at))) (length (taken_by n x result.at)) s r u a paid (stored_at w.choice live.frame u.cells result.at bytes) c

      by : (fit : Bool) → (length bytes == result.bytes) ≡ fit → Flows w site live around (site.at (j + length (taken_by result.bytes x result.at))) s r (if fit then with_found (stored_at w.choice live.frame u.cells result.at bytes) u (set_cells u) else Over (Undefined 1) u)
      by true e = wanted (eqb-true (length bytes) result.bytes e)
      by false e = settles_on w site live fits (site.at j) (Undefined 1) s r u u a (settles_here w site live fits (Undefined 1) u.work u.turns u a.end tt (omega arith) a.stands)
