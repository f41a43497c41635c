-- The routine that writes the end of a line.
use Rattle.std.proofs.Common.{◌≡◌, ℕ, ◌+◌, ◌<◌, ◌≤◌, List, [], ◌∷◌, ◌++◌, length, Ok, refl, sym, ap, subst, ◌∙◌, arith}
use Rattle.common_values.specs.integers.Words.{w16, wrapping_add}
use Rattle.common_values.specs.Written.{line_end}
use Rattle.flat_code.specs.declared.memory.Place.{Place}
use Rattle.flat_code.specs.Tree.{Number, Code, End, ◌then◌}
use Rattle.flat_code.specs.Memory.{Cells, Found, ◌>>=◌, place_after}
use Rattle.flat_code.specs.Program.{FlatProgram, Choice, UnitCode, text_unit, runtime_key}
use Rattle.flat_code.specs.Meaning.{Frame, activation_bytes, frame_of, stack_top}
use Rattle.flat_code.specs.Legal.{StackFits}
use Rattle.runtime_proofs.specs.routine_proofs.Activation.{Shut, Activation, IsPlaced}
use Rattle.runtime_proofs.specs.routine_proofs.Straight.{Onward, seen_value}
use Rattle.runtime_proofs.specs.routine_proofs.Comes.{Does}
use Rattle.runtime_proofs.specs.routine_proofs.Entry.{entered, memory_without}
use Rattle.runtime_proofs.specs.routine_proofs.Specifications.{IsHeld}
use Rattle.runtime_proofs.proofs.routine_proofs.Doing.{weaker-does, then-does, straight-does}
use Rattle.runtime_proofs.proofs.routine_proofs.Calls.{call-ends, placed, starts}
use Rattle.runtime_proofs.specs.strings_in_memory.Strings.{HasBytes, place}
use Rattle.runtime_proofs.proofs.string_loops.Bytes.{bytes-shift, bytes-unshift}
use Rattle.runtime_proofs.specs.text_memory.Data.{HasItem, HasText}
use Rattle.runtime_proofs.specs.text_memory.Pieces.{item_at, item_offset, item_segment, print}
use Rattle.runtime_proofs.proofs.text_memory.Effects.{datum-place, seen-evaluates, segment-evaluates, print-does}
use Rattle.runtime_proofs.proofs.text_memory.Buffer.{item-inside, item-left}
use Rattle.rt_text.specs.write_text.Routines.{set_items, write_line_code, write_line_routine}
use Rattle.rt_text.specs.write_text.Specifications.{write_line_number, IsRoom, Writes, WritesLine}
use Rattle.rt_text.proofs.write_text.MadeText.{Small, made_offset, base, items-so, made, end-reached, made-has, made-buffer, made-others}

pub end-small : Small line_end
end-small = (omega arith, (omega arith, tt))

module _ (program : FlatProgram) (choice : Choice) (own : Frame) (sp : ℕ) (is_placed : IsPlaced choice own sp 6) (e : Activation) (is_text : own.unit ≡ text_unit) (item ahead : ℕ) (there : HasText program choice item ahead) (m : Cells) (buffer : HasItem choice item m) (o : List ℕ) where
  abbrev at : Cells → List ℕ → Activation
  at m o = record e { words = Shut ∷ Shut ∷ Shut ∷ []; memory = m; out = o }

  abbrev pub k : Cells
  k = made program choice item ahead there line_end end-small (omega arith) m buffer

  end-there : HasBytes k (place choice.data_segment (wrapping_add w16 item 497)) 0 line_end
  end-there = bytes-unshift k choice.data_segment item 497 0 497 line_end (omega arith)
      (bytes-shift k choice.data_segment item 496 1 497 line_end (omega arith) (made-has program choice item ahead there line_end end-small (omega arith) m buffer))

  pub line-does : Does program choice own sp write_line_code 512 8192 (at m o) Onward (at k (o ++ line_end))
  line-does =
      let a = at k o in
      let stores = set_items 497 line_end End in
      let printed = print item_segment (item_offset 497) (Number 2) End in
      let stored = straight-does program choice own sp 6 is_placed stores (at m o) Onward a
      (items-so program choice item ahead there own 6 is_text line_end 1 End (at m o) end-small (omega arith) (end-reached program choice item ahead there line_end end-small (omega arith) m buffer)) in
      let place_is = λ (plus : ℕ). datum-place choice own 6 is_text a 0 item plus there.item_is in
      let shown = print-does program choice own sp 6 is_placed a item_segment (item_offset 497) (Number 2) choice.data_segment (wrapping_add w16 item 497) line_end
      (segment-evaluates program choice own sp 6 is_placed a (item_at 0) (place_after (place choice.data_segment item) 0) (place_is 0))
      (seen-evaluates program choice own sp 6 is_placed a (item_offset 497) (wrapping_add w16 item 497) (ap (λ (x : Found Place). let r : Found ℕ = x >>= λ p. Ok p.offset in r) (place_is 497)))
      (seen-evaluates program choice own sp 6 is_placed a (Number 2) 2 refl)
      end-there in
      weaker-does program choice own sp write_line_code (0 + 1) (4 + 5) 512 8192 (at m o) Onward (at k (o ++ line_end)) (omega arith) (omega arith)
      (then-does program choice own sp stores printed 0 4 1 5 (at m o) a Onward (at k (o ++ line_end)) stored shown)

pub writes-line : (program : FlatProgram) (choice : Choice) (item ahead : ℕ) (unit : UnitCode) → StackFits program choice → HasText program choice item ahead → IsHeld program (runtime_key write_line_number) unit write_line_routine → WritesLine program choice item
writes-line program choice item ahead unit fits there held_so f s stack buffer =
    let key = runtime_key write_line_number in
    let room : activation_bytes write_line_routine ≤ f.sp = omega (arith, stack.room) in
    let own = frame_of key.unit unit write_line_routine f in
    let here = placed program choice key unit write_line_routine held_so fits [] f s refl room stack.inside in
    let start = entered choice f.sp 0 [] s in
    let m = memory_without choice f.sp s.cells in
    let inside = item-inside choice item f.sp (stack_top program) stack.inside there.item_off s.cells buffer in
    let does = line-does program choice own f.sp here start refl item ahead there m inside s.out in
    let after_memory = k program choice own f.sp here start refl item ahead there m inside s.out in
    call-ends program choice key unit write_line_routine held_so fits [] f s refl room stack.inside (IsRoom choice item) (Writes choice item line_end s) 512 8192 Onward
    (at program choice own f.sp here start refl item ahead there m inside s.out after_memory (s.out ++ line_end)) [] tt
    (does _ (starts program choice key unit write_line_routine held_so fits [] f s refl room stack.inside 0 tt))
    refl (made-others program choice item ahead there line_end end-small (omega arith) m inside)
    (λ after left. record {
      nothing = refl;
      out = left.out;
      err = left.err;
      input = left.input;
      flag = left.flag;
      buffer = item-left choice item f.sp (stack_top program) stack.inside there.item_off after_memory after.cells left.cells (made-buffer program choice item ahead there line_end end-small (omega arith) m inside);
    })
