-- The code of an expression leaves its value in AX.
use Rattle.std.proofs.Common.{◌≡◌, ℕ, ◌+◌, ◌-◌, ◌*◌, ◌%◌, ◌<◌, ◌≤◌, Bool, List, [], ◌∷◌, ◌++◌, length, Option, Some, None, Ok, Err, arith, refl, sym, ap, subst, ◌∙◌, length-append}
use Rattle.x86_table.specs.declared.instr.Instr.{Instr}
use Rattle.x86_table.specs.declared.instr.Instr.TheVariants as instr
use Rattle.x86_table.specs.declared.instr.Pair.TheVariants as pair
use Rattle.x86_table.specs.declared.operand.ByteOperand.TheVariants as byte_rm
use Rattle.x86_table.specs.declared.operand.ByteReg.TheVariants as byte
use Rattle.x86_table.specs.declared.operand.WordReg.TheVariants as word
use Rattle.x86_table.specs.Standing.{IsSpelledAt, Stands}
use Rattle.flat_code.specs.declared.memory.Trap.TheVariants.{ByZero, Bad}
use Rattle.flat_code.specs.declared.tree.Address.{Address}
use Rattle.flat_code.specs.declared.tree.Address.TheVariants.{Global, Local, Outer, Through}
use Rattle.flat_code.specs.declared.tree.FlatOp.{FlatOp}
use Rattle.flat_code.specs.declared.tree.FlatOp.TheVariants as op
use Rattle.flat_code.specs.Legal.{expr_depth}
use Rattle.flat_code.specs.Memory as flat_memory
use Rattle.flat_code.specs.Memory.{Found, ◌>>=◌}
use Rattle.flat_code.specs.Program.{Name, Choice, named}
use Rattle.flat_code.specs.Tree.{Expr, Number, Byte, Word, AddressOf, SegmentOf, VmtOf, Op}
use Rattle.flat_code.specs.Values.{Frame, if_placed, op_of, place_of, value_of}
use Rattle.cpu_8086.specs.declared.registers.Registers.{Registers}
use Rattle.cpu_8086.specs.Memory.{address, next_offset}
use Rattle.resident_machine.specs.Cells.{Cells}
use Rattle.resident_machine.specs.Effect.{with_memory}
use Rattle.resident_machine.specs.Program.{Segment, Program}
use Rattle.resident_machine.specs.State.{ResidentState}
use Rattle.resident_machine.specs.machine_lines.Straight.{ones, Placed, IsAt, Carried}
use Rattle.resident_machine.specs.machine_lines.Words.{HoldsWord}
use Rattle.resident_machine.proofs.machine_lines.Steps.{leads_on}
use Rattle.code_templates.specs.code_lines.Addresses.{Context, key_in, name_or_own}
use Rattle.code_templates.specs.code_lines.Expressions.{move, op_code, segment_code, expr_code}
use Rattle.code_templates.specs.code_lines.Operands.{memory_at, load, loads, operand_place, operand}
use Rattle.statement_simulation.specs.expressions.Active.{Suits, Active, Keeps}
use Rattle.statement_simulation.specs.expressions.Evaluates.{HasWords, IsCode, Gives, Fails, Evaluates}
use Rattle.statement_simulation.proofs.expressions.States.{active_keeps, active_lower}
use Rattle.statement_simulation.proofs.expressions.Loads.{ones_front, ones_back}
use Rattle.statement_simulation.proofs.expressions.Places.{loads_run}
use Rattle.statement_simulation.proofs.expressions.Values.{number_run, byte_run, word_run, address_run, segment_run}
use Rattle.statement_simulation.proofs.expressions.Runs.{Comes, Lowers, fails_on, then_evaluates, evaluates_as}
use Rattle.statement_simulation.proofs.expressions.Operators.{Operands, add_run, sub_run, mul_run, high_run, and_run, or_run, xor_run, equal_run, less_run, below_run, shl_run, shr_run}
use Rattle.statement_simulation.proofs.expressions.Division.{fails_as, div_run, mod_run}
use Rattle.statement_simulation.proofs.expressions.Signed.{signed_div_run, signed_mod_run}
use Rattle.statement_simulation.proofs.expressions.Stack.{pushed_at, registers_pushed, cells_pushed, registers_popped, push_carries, push_holds, push_lowers, pop_carries}

lowers_on : (g h i : Registers) (c d e : Cells) → Keeps g c h d → Lowers h d i e → Lowers g c i e
lowers_on g h i c d e a b =
    let s = a.sp in
    let t = b.sp in
    record {
      sp = omega arith;
      ss = b.ss ∙ a.ss;
      ds = b.ds ∙ a.ds;
      direction = b.direction ∙ a.direction;
      bytes = λ place k. b.bytes place (λ low. let z = a.ss in let y = k (omega arith) in omega arith) ∙ a.bytes place k;
      free = λ place k. b.free place (a.free place k);
    }

segment_length : (a : Address) → length (segment_code a) ≡ 1
segment_length (Global unit number plus) = refl
segment_length (Local d) = refl
segment_length (Outer levels d) = refl
segment_length (Through slot plus) = refl

module _ (p : Program) (framed : Bool) (cs : Segment) (code : List ℕ) (at labels : ℕ → ℕ) (pl : Placed p cs code at) (x : Context) (named_error : IsCode p x.addresses.error_routine) where
  op_run : (o : FlatOp) (k a b : ℕ) (r : ResidentState) → Operands a b r.registers → 64 ≤ r.registers.sp → IsAt cs (at k) r → Stands (IsSpelledAt code) at labels k (ones (op_code x o)) → Evaluates p framed cs x.addresses.error_routine (length (op_code x o)) (at (k + length (op_code x o))) r (op_of o a b)
  op_run op.Add k a b r o room here s = add_run p framed cs code at labels pl x k a b r o here s
  op_run op.Sub k a b r o room here s = sub_run p framed cs code at labels pl x k a b r o here s
  op_run op.Mul k a b r o room here s = mul_run p framed cs code at labels pl x k a b r o here s
  op_run op.MulHigh k a b r o room here s = high_run p framed cs code at labels pl x k a b r o here s
  op_run op.Div k a b r o room here s = signed_div_run p framed cs code at labels pl x named_error k a b r o room here s
  op_run op.Mod k a b r o room here s = signed_mod_run p framed cs code at labels pl x named_error k a b r o room here s
  op_run op.DivUnsigned k a b r o room here s = div_run p framed cs code at labels pl x named_error k a b r o room here s
  op_run op.ModUnsigned k a b r o room here s = mod_run p framed cs code at labels pl x named_error k a b r o room here s
  op_run op.And k a b r o room here s = and_run p framed cs code at labels pl x k a b r o here s
  op_run op.Or k a b r o room here s = or_run p framed cs code at labels pl x k a b r o here s
  op_run op.Xor k a b r o room here s = xor_run p framed cs code at labels pl x k a b r o here s
  op_run op.Shl k a b r o room here s = shl_run p framed cs code at labels pl x k a b r o here s (b % 256) refl
  op_run op.Shr k a b r o room here s = shr_run p framed cs code at labels pl x k a b r o here s (b % 256) refl
  op_run op.Equal k a b r o room here s = equal_run p framed cs code at labels pl x k a b r o here s
  op_run op.Less k a b r o room here s = less_run p framed cs code at labels pl x k a b r o here s
  op_run op.Below k a b r o room here s = below_run p framed cs code at labels pl x k a b r o here s

  more_few : (m n : ℕ) (r : ResidentState) → m ≤ n → Fails p framed x.addresses.error_routine m r 200 → Fails p framed x.addresses.error_routine n r 200
  more_few m n r e h = fails_as p framed cs code at labels pl x named_error m n 200 r e h

  module _ (choice : Choice) (f : Frame) (m : flat_memory.Cells) (suits : Suits x choice f) where
    -- the right operand's code, from each state that stands for the activation with a word less of stack
    abbrev Right : ℕ → ℕ → ℕ → ResidentState → Found ℕ → Type 0
    Right n k j r vb = (t : ResidentState) → IsAt cs (at k) t → Active p.installed choice f m t.registers t.cells → t.registers.sp + 2 ≡ r.registers.sp → Evaluates p framed cs x.addresses.error_routine n (at j) t vb

    -- both operands have their values
    both_there : (o : FlatOp) (na nb k kb : ℕ) (r : ResidentState) (v w : ℕ) (a : Gives p framed cs na (at k) r v) (push : Carried p framed cs 1 (at (k + 1)) (with_memory r a.registers a.cells) (registers_pushed a.registers (at (k + 1))) (cells_pushed a.registers a.cells)) → Lowers a.registers a.cells (registers_pushed a.registers (at (k + 1))) (cells_pushed a.registers a.cells) → HoldsWord (cells_pushed a.registers a.cells) a.registers.ss (pushed_at a.registers) a.registers.ax → Gives p framed cs nb (at kb) (with_memory r (registers_pushed a.registers (at (k + 1))) (cells_pushed a.registers a.cells)) w → 66 ≤ r.registers.sp → r.registers.sp < 65536 → 16 * r.registers.ss + r.registers.sp ≤ 1048576 → Stands (IsSpelledAt code) at labels kb (ones (move word.Cx word.Ax ∷ instr.Pop word.Ax ∷ op_code x o)) → Evaluates p framed cs x.addresses.error_routine (na + 1 + nb + 2 + length (op_code x o)) (at (kb + 2 + length (op_code x o))) r (op_of o v w)
    both_there o na nb k kb r v w a push lower holds b room top inside s = done
      where
        g1 : Registers
        g1 = a.registers

        g2 : Registers
        g2 = registers_pushed g1 (at (k + 1))

        c2 : Cells
        c2 = cells_pushed g1 a.cells

        r3 : ResidentState
        r3 = with_memory r b.registers b.cells

        sp1 : g1.sp ≡ r.registers.sp
        sp1 = a.keeps.sp

        ss1 : g1.ss ≡ r.registers.ss
        ss1 = a.keeps.ss

        sp3 : b.registers.sp ≡ pushed_at g1
        sp3 = b.keeps.sp

        ss3 : b.registers.ss ≡ g1.ss
        ss3 = b.keeps.ss

        low : address g1.ss (pushed_at g1) ≡ 16 * g1.ss + (g1.sp - 2)
        low = let z = sp1 in let y = ss1 in let t = top in let i = inside in let q = room in omega arith

        high : address g1.ss (next_offset (pushed_at g1)) ≡ 16 * g1.ss + (g1.sp - 1)
        high = let z = sp1 in let y = ss1 in let t = top in let i = inside in let q = room in omega arith

        down : pushed_at g1 ≡ g1.sp - 2
        down = let z = sp1 in let t = top in let q = room in omega arith

        -- the pushed word is still there
        kept : HoldsWord b.cells g1.ss (pushed_at g1) v
        kept =
            let first : HoldsWord c2 g1.ss (pushed_at g1) v = subst (λ n. HoldsWord c2 g1.ss (pushed_at g1) n) a.ax holds in
            record {
              low = b.keeps.bytes (address g1.ss (pushed_at g1)) (λ z. let e = low in let d = down in omega arith) ∙ first.low;
              high = b.keeps.bytes (address g1.ss (next_offset (pushed_at g1))) (λ z. let e = high in let d = down in let q = room in let y = sp1 in omega arith) ∙ first.high;
            }

        there : HoldsWord b.cells b.registers.ss b.registers.sp v
        there = subst (λ s. HoldsWord b.cells s b.registers.sp v) (sym ss3) (subst (λ o. HoldsWord b.cells g1.ss o v) (sym sp3) kept)

        pop : Carried p framed cs 2 (at (kb + 2)) r3 (registers_popped b.registers (at (kb + 1 + 1)) v) b.cells
        pop = pop_carries p framed cs code at labels pl kb v r3 there (let e = sp3 in let d = down in let z = sp1 in let q = room in omega arith) (let e = sp3 in let d = down in let z = sp1 in let t = top in let q = room in omega arith) b.here (s.0, (s.1.0, tt))

        g4 : Registers
        g4 = registers_popped b.registers (at (kb + 1 + 1)) v

        comes : Comes p framed cs (na + 1 + nb + 2) (at (kb + 2)) r g4 b.cells
        comes =
            let x1 = a.few in
            let x2 = b.few in
            record {
              count = a.count + 1 + b.count + 2;
              few = omega arith;
              leads =
                  leads_on p framed (a.count + 1 + b.count) 2 r r3 (with_memory r g4 b.cells)
                  (leads_on p framed (a.count + 1) b.count r (with_memory r g2 c2) r3
                  (leads_on p framed a.count 1 r (with_memory r g1 a.cells) (with_memory r g2 c2) a.leads push.leads) b.leads)
                  pop.leads;
              here = pop.here;
              keeps = record {
                sp = (let e = sp3 in let d = down in let z = sp1 in let t = top in let q = room in omega arith);
                bp = b.keeps.bp ∙ a.keeps.bp;
                ss = b.keeps.ss ∙ a.keeps.ss;
                ds = b.keeps.ds ∙ a.keeps.ds;
                direction = b.keeps.direction ∙ a.keeps.direction;
                bytes = λ place kept.
                    b.keeps.bytes place (λ z. let y = ss1 in let t = kept (omega arith) in let d = down in let q = sp1 in omega arith)
                    ∙ lower.bytes place (λ z. let y = ss1 in let t = kept (omega arith) in let q = sp1 in omega arith)
                    ∙ a.keeps.bytes place kept;
                free = λ place h. b.keeps.free place (lower.free place (a.keeps.free place h));
              };
            }

        operands : Operands v w g4
        operands = record { ax = refl; cx = b.ax; left_small = a.word; right_small = b.word }

        back : Stands (IsSpelledAt code) at labels (kb + 2) (ones (op_code x o))
        back = let e : kb + 1 + 1 ≡ kb + 2 = omega arith in subst (λ n. Stands (IsSpelledAt code) at labels n (ones (op_code x o))) e s.1.1

        done : Evaluates p framed cs x.addresses.error_routine (na + 1 + nb + 2 + length (op_code x o)) (at (kb + 2 + length (op_code x o))) r (op_of o v w)
        done = then_evaluates p framed cs x.addresses.error_routine (na + 1 + nb + 2) (length (op_code x o)) (at (kb + 2)) (at (kb + 2 + length (op_code x o))) r g4 b.cells (op_of o v w) comes
            (op_run o (kb + 2) v w (with_memory r g4 b.cells) operands (let e = sp3 in let d = down in let z = sp1 in let t = top in let q = room in omega arith) pop.here back)

    -- the left operand has its value: it is pushed, and the right one follows
    left_there : (o : FlatOp) (na nb k : ℕ) (r : ResidentState) (v : ℕ) → Gives p framed cs na (at k) r v → Active p.installed choice f m r.registers r.cells → 66 ≤ r.registers.sp → Stands (IsSpelledAt code) at labels k (ones (instr.Push word.Ax ∷ [])) → Stands (IsSpelledAt code) at labels (k + 1 + nb) (ones (move word.Cx word.Ax ∷ instr.Pop word.Ax ∷ op_code x o)) → (vb : Found ℕ) → Right nb (k + 1) (k + 1 + nb) r vb → Evaluates p framed cs x.addresses.error_routine (na + 1 + nb + 2 + length (op_code x o)) (at (k + 1 + nb + 2 + length (op_code x o))) r (vb >>= op_of o v)
    left_there o na nb k r v a active room push back vb right = by vb (right r2 carried.here active2 (let e = a.keeps.sp in let d = down in let q = room in omega arith))
      where
        r1 : ResidentState
        r1 = with_memory r a.registers a.cells

        active1 : Active p.installed choice f m a.registers a.cells
        active1 = active_keeps p.installed choice f m r.registers a.registers r.cells a.cells active a.keeps

        room1 : 66 ≤ a.registers.sp
        room1 = let e = a.keeps.sp in let q = room in omega arith

        down : pushed_at a.registers + 2 ≡ a.registers.sp
        down = let q = room1 in let t = active1.top in omega arith

        carried : Carried p framed cs 1 (at (k + 1)) r1 (registers_pushed a.registers (at (k + 1))) (cells_pushed a.registers a.cells)
        carried = push_carries p framed cs code at labels pl choice f m r1 active1 room1 k a.here push

        lower : Lowers a.registers a.cells (registers_pushed a.registers (at (k + 1))) (cells_pushed a.registers a.cells)
        lower = push_lowers p framed cs code at labels pl choice f m r1 active1 room1 k carried

        r2 : ResidentState
        r2 = with_memory r (registers_pushed a.registers (at (k + 1))) (cells_pushed a.registers a.cells)

        active2 : Active p.installed choice f m r2.registers r2.cells
        active2 = active_lower p.installed choice f m a.registers r2.registers a.cells r2.cells active1 lower.sp refl refl refl lower.bytes lower.free

        by : (vb : Found ℕ) → Evaluates p framed cs x.addresses.error_routine nb (at (k + 1 + nb)) r2 vb → Evaluates p framed cs x.addresses.error_routine (na + 1 + nb + 2 + length (op_code x o)) (at (k + 1 + nb + 2 + length (op_code x o))) r (vb >>= op_of o v)
        by (Ok w) b = both_there o na nb k (k + 1 + nb) r v w a carried lower (push_holds p framed cs code at labels pl choice f m r1 active1 room1) b room active.top active.inside back
        by (Err ByZero) b =
            let few = a.few in
            let failed = fails_on p framed x.addresses.error_routine (na + 1) nb (a.count + 1) 200 r r2.registers r2.cells (omega arith)
            (leads_on p framed a.count 1 r r1 r2 a.leads carried.leads)
            (lowers_on r.registers a.registers r2.registers r.cells a.cells r2.cells a.keeps lower) b in
            more_few (na + 1 + nb) (na + 1 + nb + 2 + length (op_code x o)) r (omega arith) failed
        by (Err (Bad act)) b = tt

    binary : (o : FlatOp) (na nb k : ℕ) (r : ResidentState) → Active p.installed choice f m r.registers r.cells → 66 ≤ r.registers.sp → Stands (IsSpelledAt code) at labels k (ones (instr.Push word.Ax ∷ [])) → Stands (IsSpelledAt code) at labels (k + 1 + nb) (ones (move word.Cx word.Ax ∷ instr.Pop word.Ax ∷ op_code x o)) → (va vb : Found ℕ) → Evaluates p framed cs x.addresses.error_routine na (at k) r va → Right nb (k + 1) (k + 1 + nb) r vb → Evaluates p framed cs x.addresses.error_routine (na + 1 + nb + 2 + length (op_code x o)) (at (k + 1 + nb + 2 + length (op_code x o))) r (va >>= λ v. vb >>= op_of o v)
    binary o na nb k r active room push back (Ok v) vb a right = left_there o na nb k r v a active room push back vb right
    binary o na nb k r active room push back (Err ByZero) vb a right = more_few na (na + 1 + nb + 2 + length (op_code x o)) r (omega arith) a
    binary o na nb k r active room push back (Err (Bad act)) vb a right = tt

    vmt_run : (unit number k : ℕ) (r : ResidentState) → IsAt cs (at k) r → Stands (IsSpelledAt code) at labels k (ones (instr.MovWord word.Ax (x.addresses.vmt (key_in x unit number)) ∷ [])) → (o : Option Name) → named f.unit f.names unit ≡ o → Evaluates p framed cs x.addresses.error_routine 1 (at (k + 1)) r ((if_placed o >>= λ name. Ok (record { unit = name; number = number })) >>= λ key. if_placed (choice.vmt key))
    vmt_run unit number k r here s None e = tt
    vmt_run unit number k r here s (Some name) e = by (choice.vmt (record { unit = name; number = number })) refl
      where
        key : key_in x unit number ≡ record { unit = name; number = number }
        key = ap (λ o. record { unit = name_or_own x.own o; number = number }) (sym (ap (λ u. named u f.names unit) suits.unit ∙ ap (λ names. named x.own names unit) suits.names) ∙ e)

        by : (o : Option ℕ) → choice.vmt (record { unit = name; number = number }) ≡ o → Evaluates p framed cs x.addresses.error_routine 1 (at (k + 1)) r (if_placed o)
        by None e = tt
        by (Some offset) e =
            let v = suits.vmt (record { unit = name; number = number }) offset e in
            let same : x.addresses.vmt (key_in x unit number) ≡ offset = ap x.addresses.vmt key ∙ v.0 in
            number_run p framed cs code at labels pl x choice f m suits x.addresses.error_routine k offset r here (subst (λ n. Stands (IsSpelledAt code) at labels k (ones (instr.MovWord word.Ax n ∷ []))) same s) v.1

    -- an operand's loads and what follows them
    counted : (is js : List Instr) (n k : ℕ) (r : ResidentState) (found : Found ℕ) → length js ≡ n → Evaluates p framed cs x.addresses.error_routine (length is + n) (at (k + length is + n)) r found → Evaluates p framed cs x.addresses.error_routine (length (is ++ js)) (at (k + length (is ++ js))) r found
    counted is js n k r found e h =
        let l = length-append is js in
        evaluates_as p framed cs x.addresses.error_routine at (length is + n) (length (is ++ js)) (k + length is + n) (k + length (is ++ js)) r found (omega arith) (omega arith) h

    pub expr_runs : (e : Expr) → HasWords e → (k : ℕ) (r : ResidentState) → IsAt cs (at k) r → Active p.installed choice f m r.registers r.cells → 64 + 2 * expr_depth e ≤ r.registers.sp → Stands (IsSpelledAt code) at labels k (ones (expr_code x e)) → Evaluates p framed cs x.addresses.error_routine (length (expr_code x e)) (at (k + length (expr_code x e))) r (value_of choice f m e)
    expr_runs (Number n) w k r here a room s = number_run p framed cs code at labels pl x choice f m suits x.addresses.error_routine k n r here s w
    expr_runs (VmtOf unit number) w k r here a room s = vmt_run unit number k r here s (named f.unit f.names unit) refl
    expr_runs (Byte d) w k r here a room s =
        let js = instr.Mov (pair.ByteRm byte.Al (byte_rm.Mem (operand x d 0))) ∷ instr.MovByte byte.Ah 0 ∷ [] in
        let l = loads_run p framed cs code at labels pl x choice f m suits d k r here a (omega arith) (ones_front (IsSpelledAt code) at labels k (loads x d) js s) in
        counted (loads x d) js 2 k r (value_of choice f m (Byte d)) refl (byte_run p framed cs code at labels pl x choice f m suits x.addresses.error_routine d (length (loads x d)) k r a (omega arith) (ones_back (IsSpelledAt code) at labels k (loads x d) js s) (place_of choice f m d) l)
    expr_runs (Word d) w k r here a room s =
        let js = load word.Ax (operand x d 0) ∷ [] in
        let l = loads_run p framed cs code at labels pl x choice f m suits d k r here a (omega arith) (ones_front (IsSpelledAt code) at labels k (loads x d) js s) in
        counted (loads x d) js 1 k r (value_of choice f m (Word d)) refl (word_run p framed cs code at labels pl x choice f m suits x.addresses.error_routine d (length (loads x d)) k r a (omega arith) (ones_back (IsSpelledAt code) at labels k (loads x d) js s) (place_of choice f m d) l)
    expr_runs (AddressOf d) w k r here a room s =
        let js = instr.Lea word.Ax (memory_at (operand_place x d 0)) ∷ [] in
        let l = loads_run p framed cs code at labels pl x choice f m suits d k r here a (omega arith) (ones_front (IsSpelledAt code) at labels k (loads x d) js s) in
        counted (loads x d) js 1 k r (value_of choice f m (AddressOf d)) refl (address_run p framed cs code at labels pl x choice f m suits x.addresses.error_routine d (length (loads x d)) k r (ones_back (IsSpelledAt code) at labels k (loads x d) js s) (place_of choice f m d) l)
    expr_runs (SegmentOf d) w k r here a room s =
        let js = segment_code d in
        let l = loads_run p framed cs code at labels pl x choice f m suits d k r here a (omega arith) (ones_front (IsSpelledAt code) at labels k (loads x d) js s) in
        counted (loads x d) js 1 k r (value_of choice f m (SegmentOf d)) (segment_length d) (segment_run p framed cs code at labels pl x choice f m suits x.addresses.error_routine d (length (loads x d)) k r (ones_back (IsSpelledAt code) at labels k (loads x d) js s) (place_of choice f m d) l)
    expr_runs (Op o ea eb) w k r here a room s =
        let ca = expr_code x ea in
        let cb = expr_code x eb in
        let tail = move word.Cx word.Ax ∷ instr.Pop word.Ax ∷ op_code x o in
        let rest = instr.Push word.Ax ∷ (cb ++ tail) in
        let sa = ones_front (IsSpelledAt code) at labels k ca rest s in
        let sr = ones_back (IsSpelledAt code) at labels k ca rest s in
        let la = length-append ca rest in
        let lb = length-append cb tail in
        let run = binary o (length ca) (length cb) (k + length ca) r a (omega arith) (sr.0, tt) (ones_back (IsSpelledAt code) at labels (k + length ca + 1) cb tail sr.1) (value_of choice f m ea) (value_of choice f m eb)
        (expr_runs ea w.0 k r here a (omega arith) sa)
        (λ t there active sp. expr_runs eb w.1 (k + length ca + 1) t there active (omega arith) (ones_front (IsSpelledAt code) at labels (k + length ca + 1) cb tail sr.1)) in
        evaluates_as p framed cs x.addresses.error_routine at (length ca + 1 + length cb + 2 + length (op_code x o)) (length (expr_code x (Op o ea eb))) (k + length ca + 1 + length cb + 2 + length (op_code x o)) (k + length (expr_code x (Op o ea eb))) r (value_of choice f m (Op o ea eb)) (omega arith) (omega arith) run
