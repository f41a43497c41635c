-- A far pointer of memory is read, and what it names is called.
use Rattle.std.proofs.Common.{◌≡◌, ℕ, ◌+◌, ◌*◌, ◌%◌, ◌<◌, ◌≤◌, true, List, length, Ok, arith, refl, sym, ap, subst, ◌∙◌}
use Rattle.std.specs.Prelude.{IsTrue}
use Rattle.x86_table.specs.declared.instr.Instr.{Instr}
use Rattle.x86_table.specs.declared.instr.Instr.TheVariants as instr
use Rattle.x86_table.specs.Spelling.{spelling}
use Rattle.x86_table.specs.Standing.{IsSpelledAt}
use Rattle.flat_code.specs.declared.memory.Place.{Place}
use Rattle.flat_code.specs.declared.tree.Address.{Address}
use Rattle.flat_code.specs.Calls.{State}
use Rattle.flat_code.specs.Memory.{place_after, word_at}
use Rattle.cpu_8086.specs.declared.registers.Registers.{Registers}
use Rattle.cpu_8086.specs.Access.{Act, FarCall, read_word, at_offset}
use Rattle.cpu_8086.specs.Effect.{act}
use Rattle.cpu_8086.specs.Memory.{address, next_offset, word_of}
use Rattle.cpu_8086.specs.Operand.{offset_of}
use Rattle.resident_machine.specs.Cells.{Cells, known_then}
use Rattle.resident_machine.specs.Effect.{with_memory, far_call, on_cells}
use Rattle.resident_machine.specs.Program.{Segment, Program, far_target}
use Rattle.resident_machine.specs.State.{ResidentState}
use Rattle.resident_machine.specs.machine_lines.Steps.{ReadsAbove}
use Rattle.resident_machine.proofs.machine_lines.Steps.{leads_on}
use Rattle.resident_machine.proofs.machine_lines.Straight.{same_stack}
use Rattle.effect_simulation.specs.effects.Pushed.{Pushes}
use Rattle.code_templates.specs.code_lines.Addresses.{Context}
use Rattle.code_templates.specs.code_lines.Operands.{operand}
use Rattle.statement_simulation.specs.expressions.Active.{Active}
use Rattle.statement_simulation.proofs.expressions.Loads.{SameBases, LeadsTo, Fetched, Loaded, aside_active}
use Rattle.statement_simulation.proofs.expressions.States.{active_lower, ReadsWord, word_found, word_value}
use Rattle.statement_simulation.proofs.expressions.Values.{offset_is}
use Rattle.statement_simulation.specs.flow.Sites.{World, Site, Live, Fits, Represents}
use Rattle.call_simulation.specs.frames.Callee.{Back}
use Rattle.call_simulation.specs.frames.Chain.{IsChained}
use Rattle.call_simulation.proofs.frames.Leave.{back_in}
use Rattle.call_simulation.specs.calls.Enters.{EntersAt, Reaches, AsksFlag}
use Rattle.call_simulation.proofs.calls.Entered.{pushed, pushed_room, reached, owed_call}
use Rattle.call_simulation.proofs.calls.Far.{entered_state, far_state, far_calls}
use Rattle.call_simulation.proofs.calls.Instructions.{set_there}

-- ## The instruction

pub through_tree : (x : Context) (a : Address) (q : Place) (g h : Registers) → LeadsTo x a q g → SameBases g h → q.offset < 65536 → act h (instr.CallFarIndirect (operand x a 0)) ≡ read_word q.segment q.offset (λ first. read_word q.segment ((q.offset + 2) % 65536) (λ second. FarCall h second first))
unfolding act
through_tree x a q g h l s small =
    l.segment h 0 (λ segment. read_word segment (offset_of h (operand x a 0).place) (λ first. read_word segment ((offset_of h (operand x a 0).place + 2) % 65536) (λ second. FarCall h second first))) s
    ∙ ap (λ o. read_word q.segment o (λ first. read_word q.segment ((o + 2) % 65536) (λ second. FarCall h second first))) (offset_is x a q g h l s small)

-- a known word is read
word_goes : (p : Program) (t : ResidentState) (g : Registers) (segment offset v : ℕ) (next : ℕ → Act) → ReadsWord g t.cells segment offset v → on_cells p t (read_word segment offset next) t.cells ≡ on_cells p t (next v) t.cells
word_goes p t g segment offset v next w =
    ap (λ x. known_then x (λ low. known_then (t.cells (address segment (next_offset offset))) (λ high. on_cells p t (next (word_of low high)) t.cells))) w.low_byte.known
    ∙ ap (λ x. known_then x (λ high. on_cells p t (next (word_of w.low high)) t.cells)) w.high_byte.known
    ∙ ap (λ n. on_cells p t (next n) t.cells) w.whole

-- none of its bytes is one of the 64 below SP
word_above : (g : Registers) (c : Cells) (segment offset v : ℕ) (next : ℕ → Act) → ReadsWord g c segment offset v → ReadsAbove g.ss g.sp (next v) c → ReadsAbove g.ss g.sp (read_word segment offset next) c
word_above g c segment offset v next w rest =
    (w.low_byte.above, (w.high_byte.above, subst (λ n. ReadsAbove g.ss g.sp (next n) c) (sym (word_value g c segment offset v w)) rest))

-- ## Behind the arguments

module _ (w : World) (site : Site) (live : Live) (fits : Fits w site live) (s : State) (r : ResidentState) (a : Represents w live s r) (n k : ℕ) (vs : List ℕ) (b : Pushes w.machine w.framed site.segment n (site.at k) r vs) where
  abbrev x : Context
  x = site.context

  abbrev pub behind : ResidentState
  behind = with_memory r b.registers b.cells

  -- flat code's cells are the caller's still
  pub behind_active : Active w.machine.installed w.choice live.frame s.cells b.registers b.cells
  behind_active = let sum = b.sp in active_lower w.machine.installed w.choice live.frame s.cells r.registers b.registers r.cells b.cells a.active (omega arith) b.bp b.ss b.ds b.bytes b.free

  pub loaded_few : (m j : ℕ) (h : Registers) (f : Fetched w.machine w.framed site.segment m (site.at j) behind h) → b.count + f.count ≤ n + m
  loaded_few m j h f = let few = b.few in let more = f.few in omega arith

  pub loaded_sp : (m j : ℕ) (h : Registers) (f : Fetched w.machine w.framed site.segment m (site.at j) behind h) → h.sp + 2 * length vs ≡ r.registers.sp
  loaded_sp m j h f = let sum = b.sp in let sp = f.aside.sp in omega arith

  -- what is loaded leaves the arguments where they are
  abbrev pub loaded_pushes : (m j : ℕ) (h : Registers) → Fetched w.machine w.framed site.segment m (site.at j) behind h → Pushes w.machine w.framed site.segment (n + m) (site.at j) r vs
  loaded_pushes m j h f = record {
    count = b.count + f.count;
    few = loaded_few m j h f;
    registers = h;
    cells = b.cells;
    leads = leads_on w.machine w.framed b.count f.count r behind (with_memory r h b.cells) b.leads f.leads;
    here = f.here;
    words = b.words;
    sp = loaded_sp m j h f;
    bp = f.aside.bp ∙ b.bp;
    ss = f.aside.ss ∙ b.ss;
    ds = f.aside.ds ∙ b.ds;
    direction = f.aside.direction ∙ b.direction;
    bytes = b.bytes;
    free = b.free;
  }

  -- ## The pointer

  module _ (at : Address) (m j : ℕ) (q : Place) (l : Loaded w.machine w.framed site.segment m (site.at j) x at behind q) (room : 68 ≤ b.registers.sp) (place : Place) (first : word_at s.cells q ≡ Ok place.offset) (second : word_at s.cells (place_after q 2) ≡ Ok place.segment) where
    abbrev i : Instr
    i = instr.CallFarIndirect (operand x at 0)

    abbrev pushes : Pushes w.machine w.framed site.segment (n + m) (site.at j) r vs
    pushes = loaded_pushes m j l.registers l.fetched

    abbrev t : ResidentState
    t = pushed w live s r a site.segment (n + m) (site.at j) vs pushes

    abbrev g : Registers
    g = at_offset t.registers (site.at (j + 1))

    active : Active w.machine.installed w.choice live.frame s.cells l.registers b.cells
    active = aside_active w.machine.installed w.choice live.frame s.cells b.registers l.registers b.cells behind_active l.fetched.aside

    first_reads : ReadsWord l.registers b.cells q.segment q.offset place.offset
    first_reads = let sp = l.fetched.aside.sp in word_found w.machine.installed w.choice live.frame s.cells l.registers b.cells q place.offset active (let z = room in omega arith) l.small first

    second_reads : ReadsWord l.registers b.cells q.segment ((q.offset + 2) % 65536) place.segment
    second_reads = let sp = l.fetched.aside.sp in word_found w.machine.installed w.choice live.frame s.cells l.registers b.cells (place_after q 2) place.segment active (let z = room in omega arith) (omega arith) second

    tree : act g i ≡ read_word q.segment q.offset (λ first. read_word q.segment ((q.offset + 2) % 65536) (λ second. FarCall g second first))
    tree = through_tree x at q l.registers g l.operand_is (record { bx = refl; bp = refl; es = refl; ss = refl; ds = refl }) l.small

    pub runs : on_cells w.machine t (act g i) t.cells ≡ far_call w.machine t g t.cells (far_target w.machine place.segment place.offset)
    runs =
        ap (λ z. on_cells w.machine t z t.cells) tree
        ∙ word_goes w.machine t l.registers q.segment q.offset place.offset (λ first. read_word q.segment ((q.offset + 2) % 65536) (λ second. FarCall g second first)) first_reads
        ∙ word_goes w.machine t l.registers q.segment ((q.offset + 2) % 65536) place.segment (λ second. FarCall g second place.offset) second_reads
        ∙ same_stack t g (far_call w.machine t g t.cells (far_target w.machine place.segment place.offset)) refl

    pub reads : ReadsAbove t.registers.ss t.registers.sp (act g i) t.cells
    reads =
        subst (λ z. ReadsAbove t.registers.ss t.registers.sp z t.cells) (sym tree)
        (word_above l.registers b.cells q.segment q.offset place.offset (λ first. read_word q.segment ((q.offset + 2) % 65536) (λ second. FarCall g second first)) first_reads
        (word_above l.registers b.cells q.segment ((q.offset + 2) % 65536) place.segment (λ second. FarCall g second place.offset) second_reads tt))

    pub pushed_sp : 68 ≤ l.registers.sp
    pushed_sp = let sp = l.fetched.aside.sp in let z = room in omega arith

    pub through_reached : (to : Segment) (entry : ℕ) → (IsTrue w.framed → IsChained w live) → EntersAt w.machine place to entry → AsksFlag to s.flag → IsSpelledAt site.code (site.at j) i → site.at (j + 1) ≡ site.at j + length (spelling i) → Reaches w live true (record { segment = site.segment; offset = site.at (j + 1) }) to (n + m + 1) entry vs r
    through_reached to entry chained enters asked spelled size =
        let h = pushed_room w live s r a site.segment (n + m) (site.at j) vs pushes 68 pushed_sp in
        let back : Back = record { segment = site.segment; offset = site.at (j + 1) } in
        let state = far_state w.machine w.framed t h site.segment site.code site.at fits.placed j to entry pushes.here in
        let end = back_in to (entered_state w.machine w.framed t h (site.at (j + 1)) to entry) in
        let sp = state.sp in
        let much = pushed_sp in
        let owed = owed_call w live s r a site.segment (n + m) (site.at j) vs pushes site fits chained back to entry end state (omega arith) in
        let c = far_calls w.machine w.framed t h site.segment site.code site.at fits.placed j i place to entry pushes.here spelled size enters (set_there w site live fits s r a (n + m) j vs pushes to asked) runs reads owed in
        reached w live s r a site.segment (n + m) (site.at j) vs pushes true back to 1 entry end c
