-- The machine stands for the same state of flat code where code has kept what flat code sees; and what work is given.
use Rattle.std.proofs.Common.{◌≡◌, ℕ, ◌+◌, ◌-◌, ◌*◌, ◌≤◌, arith, refl, sym, subst, ◌∙◌, ⊎_elim}
use Rattle.std.specs.Prelude.{Some}
use Rattle.std.proofs.Math.Nat.{mul-add}
use Rattle.std.proofs.lemmas.Bool.{cases_lt}
use Rattle.flat_code.specs.Memory as flat_memory
use Rattle.flat_code.specs.Program.{Choice}
use Rattle.flat_code.specs.Values.{Frame}
use Rattle.flat_code.specs.Calls.{State, begun}
use Rattle.cpu_8086.specs.declared.registers.Registers.{Registers}
use Rattle.cpu_8086.specs.Access.{at_offset}
use Rattle.resident_machine.specs.Cells.{Cells}
use Rattle.resident_machine.specs.Effect.{with_memory}
use Rattle.resident_machine.specs.State.{ResidentState}
use Rattle.resident_machine.specs.machine_lines.Straight.{moved_to}
use Rattle.statement_simulation.specs.expressions.Active.{Active, IsKept, Keeps}
use Rattle.statement_simulation.proofs.expressions.States.{active_keeps, keeps_same}
use Rattle.statement_simulation.proofs.expressions.Runs.{Comes}
use Rattle.statement_simulation.specs.flow.Sites.{World, Site, Live, Fits, IsFlag, Represents}
use Rattle.statement_simulation.specs.flow.Outcomes.{budget, Arrives}

-- ## What work is given

-- at least one unit of work is given more than so many events
pub budget_grows : (w : World) (work m n : ℕ) → n ≤ w.rate → 1 ≤ m → n + budget w work ≤ budget w (work + m)
unfolding budget
budget_grows w work m n few more =
    let whole : m ≡ 1 + (m - 1) = omega arith in
    let e = mul-add w.rate work m in
    let f : w.rate * m ≡ w.rate * 1 + w.rate * (m - 1) = subst (λ k. w.rate * k ≡ w.rate * 1 + w.rate * (m - 1)) (sym whole) (mul-add w.rate 1 (m - 1)) in
    omega arith

pub budget_more : (w : World) (work m : ℕ) → budget w work ≤ budget w (work + m)
unfolding budget
budget_more w work m = let e = mul-add w.rate work m in omega arith

-- ## The installed flag and the fixed bytes are kept

pub flag_kept : (flag : ℕ) (choice : Choice) (f : Frame) (m : flat_memory.Cells) (g : Registers) (c : Cells) → Active flag choice f m g c → IsKept g flag
flag_kept flag choice f m g c a low =
    ⊎_elim (λ lt. absurd ((a.spare (flag - 16 * g.ss) (omega arith)).apart (omega arith))) (λ le. le) (cases_lt flag (16 * g.ss + g.sp))

-- turns and work are nothing that the machine shows
pub represents_like : (w : World) (live : Live) (s : State) (turns work : ℕ) (r : ResidentState) → Represents w live s r → Represents w live (record s { turns = turns; work = work }) r
represents_like w live s turns work r a = record { active = a.active; sp = a.sp; direction = a.direction; flag = a.flag; set = a.set; outside = a.outside; fixed = a.fixed; records = a.records; unread = a.unread; bytes = a.bytes; read = a.read; out = a.out; err = a.err }

module _ (w : World) (site : Site) (live : Live) (fits : Fits w site live) where
  pub fixed_kept : (s : State) (r : ResidentState) (place byte : ℕ) → Represents w live s r → live.fixed place ≡ Some byte → IsKept r.registers place
  fixed_kept s r place byte a e low =
      let sp = a.sp in
      let ss = a.active.ss in
      let h = fits.above place byte e (omega arith) in
      omega arith

  pub represents_keeps : (s : State) (r : ResidentState) (g : Registers) (c : Cells) → Represents w live s r → Keeps r.registers r.cells g c → Represents w live s (with_memory r g c)
  represents_keeps s r g c a k = record {
    active = active_keeps w.machine.installed w.choice live.frame s.cells r.registers g r.cells c a.active k;
    sp = k.sp ∙ a.sp;
    direction = k.direction ∙ a.direction;
    flag = subst (λ cell. IsFlag s.flag cell) (sym (k.bytes w.machine.installed (flag_kept w.machine.installed w.choice live.frame s.cells r.registers r.cells a.active))) a.flag;
    set = a.set;
    outside = a.outside;
    fixed = λ place byte e. k.bytes place (fixed_kept s r place byte a e) ∙ a.fixed place byte e;
    records = a.records;
    unread = a.unread;
    bytes = a.bytes;
    read = a.read;
    out = a.out;
    err = a.err;
  }

  pub represents_moved : (s : State) (r : ResidentState) (ip : ℕ) → Represents w live s r → Represents w live s (moved_to r ip)
  represents_moved s r ip a = represents_keeps s r (at_offset r.registers ip) r.cells a (keeps_same r.registers (at_offset r.registers ip) r.cells refl refl refl refl refl)

  -- at most n events that keep what flat code sees, and which the work of m nodes pays, with so many to spare
  pub comes_arrives : (n ip m spare : ℕ) (s : State) (r : ResidentState) (g : Registers) (c : Cells) → Represents w live s r → Comes w.machine w.framed site.segment n ip r g c → n + spare + budget w s.work ≤ budget w (s.work + m) → (a : Arrives w site live ip s r (begun m s)) × (a.count + spare + budget w s.work ≤ budget w (s.work + m))
  comes_arrives n ip m spare s r g c a b paid =
      let few = b.few in (
        record {
          count = b.count;
          end = with_memory r g c;
          leads = b.leads;
          here = b.here;
          stands = represents_like w live s s.turns (s.work + m) (with_memory r g c) (represents_keeps s r g c a b.keeps);
          enough = omega arith;
          fewer = omega arith;
          work = omega arith;
          free = b.keeps.free;
          input = refl;
        },
        omega arith,
      )
