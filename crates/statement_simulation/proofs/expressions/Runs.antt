-- Pieces of code one after another, and the far jump to the error routine.
use Rattle.std.proofs.Common.{◌≡◌, ℕ, ◌+◌, ◌<◌, ◌≤◌, Bool, List, length, Ok, Err, arith, refl, sym, ap, subst, ◌∙◌}
use Rattle.x86_table.specs.declared.instr.Instr.TheVariants as instr
use Rattle.x86_table.specs.Spelling.{spelling}
use Rattle.x86_table.specs.Standing.{IsSpelledAt}
use Rattle.flat_code.specs.declared.memory.Place.{Place}
use Rattle.flat_code.specs.declared.memory.Trap.TheVariants.{ByZero, Bad}
use Rattle.flat_code.specs.Memory.{Found}
use Rattle.cpu_8086.specs.declared.registers.Registers.{Registers}
use Rattle.cpu_8086.specs.Access.{FarJump, at_offset}
use Rattle.cpu_8086.specs.Effect.{act}
use Rattle.resident_machine.specs.Cells.{Cells}
use Rattle.resident_machine.specs.Dos.{plainly}
use Rattle.resident_machine.specs.Effect.{with_memory, on_cells, jumped_to, plain_effect}
use Rattle.resident_machine.specs.Program.{Segment, Program, image_target}
use Rattle.resident_machine.specs.State.{ResidentState, NoService}
use Rattle.resident_machine.specs.machine_lines.Steps.{ReadsAbove, Moves, Leads}
use Rattle.resident_machine.specs.machine_lines.Straight.{Placed, IsAt, StaysFree, Carried, Jumps}
use Rattle.resident_machine.proofs.machine_lines.Steps.{nothing_owed, leads_on}
use Rattle.resident_machine.proofs.machine_lines.Straight.{plain_goes, standing, past_line, same_stack}
use Rattle.statement_simulation.specs.expressions.Active.{IsKept, Keeps}
use Rattle.statement_simulation.specs.expressions.Evaluates.{Gives, IsCode, entering, Fails, Evaluates}
use Rattle.statement_simulation.proofs.expressions.States.{keeps_same, keeps_on}

-- at most n events lead to the line at this offset, with these registers and bytes, and the frame is kept
pub record Comes (p : Program) (framed : Bool) (cs : Segment) (n ip : ℕ) (r : ResidentState) (g : Registers) (c : Cells) : Type 0 where
  pub count : ℕ
  pub few : count ≤ n
  pub leads : Leads p framed count r (with_memory r g c)
  pub here : IsAt cs ip (with_memory r g c)
  pub keeps : Keeps r.registers r.cells g c

-- the same with SP lower
pub record Lowers (g : Registers) (c : Cells) (h : Registers) (d : Cells) : Type 0 where
  pub sp : h.sp ≤ g.sp
  pub ss : h.ss ≡ g.ss
  pub ds : h.ds ≡ g.ds
  pub direction : h.direction ≡ g.direction
  pub bytes : (place : ℕ) → IsKept g place → d place ≡ c place
  pub free : StaysFree c d

pub keeps_lowers : (g h : Registers) (c d : Cells) → Keeps g c h d → Lowers g c h d
keeps_lowers g h c d k = record { sp = (let e = k.sp in omega arith); ss = k.ss; ds = k.ds; direction = k.direction; bytes = k.bytes; free = k.free }

pub carried_comes : (p : Program) (framed : Bool) (cs : Segment) (n ip : ℕ) (r : ResidentState) (g : Registers) (c : Cells) → Carried p framed cs n ip r g c → Keeps r.registers r.cells g c → Comes p framed cs n ip r g c
carried_comes p framed cs n ip r g c a k = record { count = n; few = omega arith; leads = a.leads; here = a.here; keeps = k }

pub jump_comes : (p : Program) (framed : Bool) (cs : Segment) (ip : ℕ) (r : ResidentState) → Jumps p framed cs ip r → Comes p framed cs 1 ip r (at_offset r.registers ip) r.cells
jump_comes p framed cs ip r j = record { count = 1; few = omega arith; leads = j.leads; here = j.here; keeps = keeps_same r.registers (at_offset r.registers ip) r.cells refl refl refl refl refl }

pub comes_on : (p : Program) (framed : Bool) (cs : Segment) (m n ip jp : ℕ) (r : ResidentState) (g h : Registers) (c d : Cells) → Comes p framed cs m ip r g c → Comes p framed cs n jp (with_memory r g c) h d → Comes p framed cs (m + n) jp r h d
comes_on p framed cs m n ip jp r g h c d a b =
    let x = a.few in
    let y = b.few in
    record {
      count = a.count + b.count;
      few = omega arith;
      leads = leads_on p framed a.count b.count r (with_memory r g c) (with_memory r h d) a.leads b.leads;
      here = b.here;
      keeps = keeps_on r.registers g h r.cells c d a.keeps b.keeps;
    }

pub comes_as : (p : Program) (framed : Bool) (cs : Segment) (at : ℕ → ℕ) (m n k j : ℕ) (r : ResidentState) (g : Registers) (c : Cells) → m ≤ n → k ≡ j → Comes p framed cs m (at k) r g c → Comes p framed cs n (at j) r g c
comes_as p framed cs at m n k j r g c e f a =
    let l = a.few in
    record { count = a.count; few = omega arith; leads = a.leads; here = subst (λ i. IsAt cs (at i) (with_memory r g c)) f a.here; keeps = a.keeps }

pub comes_gives : (p : Program) (framed : Bool) (cs : Segment) (n ip : ℕ) (r : ResidentState) (g : Registers) (c : Cells) (v : ℕ) → Comes p framed cs n ip r g c → g.ax ≡ v → v < 65536 → Gives p framed cs n ip r v
comes_gives p framed cs n ip r g c v a ax small = record { count = a.count; few = a.few; registers = g; cells = c; leads = a.leads; here = a.here; ax = ax; word = small; keeps = a.keeps }

pub gives_comes : (p : Program) (framed : Bool) (cs : Segment) (n ip : ℕ) (r : ResidentState) (v : ℕ) (a : Gives p framed cs n ip r v) → Comes p framed cs n ip r a.registers a.cells
gives_comes p framed cs n ip r v a = record { count = a.count; few = a.few; leads = a.leads; here = a.here; keeps = a.keeps }

-- an error after events that kept what can be reached
pub fails_on : (p : Program) (framed : Bool) (error : Place) (m n count code : ℕ) (r : ResidentState) (g : Registers) (c : Cells) → count ≤ m → Leads p framed count r (with_memory r g c) → Lowers r.registers r.cells g c → Fails p framed error n (with_memory r g c) code → Fails p framed error (m + n) r code
fails_on p framed error m n count code r g c few l k f =
    let x = f.few in
    let lower = f.lower in
    let sp = k.sp in
    let ss = k.ss in
    record {
      count = count + f.count;
      few = omega arith;
      registers = f.registers;
      cells = f.cells;
      leads = leads_on p framed count f.count r (with_memory r g c) (entering (with_memory r g c) f.registers f.cells error) l f.leads;
      ax = f.ax;
      room = f.room;
      lower = omega arith;
      ss = f.ss ∙ k.ss;
      ds = f.ds ∙ k.ds;
      direction = f.direction ∙ k.direction;
      bytes = λ place kept. f.bytes place (λ low. let z = kept (omega arith) in omega arith) ∙ k.bytes place kept;
      free = λ place h. f.free place (k.free place h);
    }

pub then_evaluates : (p : Program) (framed : Bool) (cs : Segment) (error : Place) (m n ip jp : ℕ) (r : ResidentState) (g : Registers) (c : Cells) (found : Found ℕ) → Comes p framed cs m ip r g c → Evaluates p framed cs error n jp (with_memory r g c) found → Evaluates p framed cs error (m + n) jp r found
then_evaluates p framed cs error m n ip jp r g c (Ok v) a b =
    comes_gives p framed cs (m + n) jp r b.registers b.cells v (comes_on p framed cs m n ip jp r g b.registers c b.cells a (gives_comes p framed cs n jp (with_memory r g c) v b)) b.ax b.word
then_evaluates p framed cs error m n ip jp r g c (Err ByZero) a b = fails_on p framed error m n a.count 200 r g c a.few a.leads (keeps_lowers r.registers g r.cells c a.keeps) b
then_evaluates p framed cs error m n ip jp r g c (Err (Bad act)) a b = tt

pub evaluates_as : (p : Program) (framed : Bool) (cs : Segment) (error : Place) (at : ℕ → ℕ) (m n k j : ℕ) (r : ResidentState) (found : Found ℕ) → m ≡ n → k ≡ j → Evaluates p framed cs error m (at k) r found → Evaluates p framed cs error n (at j) r found
evaluates_as p framed cs error at m n k j r found e f h = subst (λ i. Evaluates p framed cs error n (at i) r found) f (subst (λ i. Evaluates p framed cs error i (at k) r found) e h)

-- ## The error routine is entered

far_tree : (g : Registers) (to : Place) → act g (instr.JumpFar to.offset to.segment) ≡ FarJump g to.segment to.offset
unfolding act
far_tree g to = refl

pub jump_far : (p : Program) (framed : Bool) (cs : Segment) (code : List ℕ) (at : ℕ → ℕ) (k : ℕ) (to : Place) (r : ResidentState) → Placed p cs code at → IsCode p to → IsAt cs (at k) r → IsSpelledAt code (at k) (instr.JumpFar to.offset to.segment) → at (k + 1) ≡ at k + length (spelling (instr.JumpFar to.offset to.segment)) → Leads p framed 1 r (entering r r.registers r.cells to)
jump_far p framed cs code at k to r pl named here s e =
    let i = instr.JumpFar to.offset to.segment in
    let next = past_line cs at k i r here e (pl.fits (k + 1)) in
    let g = at_offset r.registers (at (k + 1)) in
    let t = entering r r.registers r.cells to in
    let effect : plain_effect p r i ≡ plainly t =
    ap (λ h. on_cells p r (act h i) r.cells) next ∙ ap (λ a. on_cells p r a r.cells) (far_tree g to)
    ∙ same_stack r g (jumped_to r g r.cells (image_target (p.image to.segment) to.segment to.offset)) refl
    ∙ ap (λ o. jumped_to r g r.cells (image_target o to.segment to.offset)) named.1 in
    let moves : Moves p framed r t = record {
      service = NoService;
      goes = record { running = here.running; instruction = i; stands = standing p cs code at k i r pl here s; result = plain_goes p r t NoService i here.half effect refl };
      owed = nothing_owed framed p t;
      above = subst (λ a. ReadsAbove r.registers.ss r.registers.sp a r.cells) (sym (ap (λ h. act h i) next ∙ far_tree g to)) tt;
    } in
    (t, moves, refl)
