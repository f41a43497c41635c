-- The routine that tells the size of an instance's class.
use Rattle.std.proofs.Common.{◌≡◌, ℕ, ◌+◌, ◌≤◌, ◌<◌, [], ◌∷◌, Ok, pos, negsuc, refl, ap, ◌∙◌, arith}
use Rattle.common_values.specs.integers.Words.{w16, wrapping_add, wrapping_sub}
use Rattle.flat_code.specs.declared.tree.Address.TheVariants.{Through}
use Rattle.flat_code.specs.declared.tree.FlatOp.TheVariants as op
use Rattle.flat_code.specs.Tree.{Expr, Number, Word, Op, End}
use Rattle.flat_code.specs.Memory.{Cells, Found, place_after, word_bytes}
use Rattle.flat_code.specs.Program.{FlatProgram, Choice, UnitCode, runtime_key}
use Rattle.flat_code.specs.Meaning.{Frame, activation_bytes, frame_of}
use Rattle.flat_code.specs.Legal.{StackFits}
use Rattle.flat_code.specs.Gives.{KeepsRest}
use Rattle.runtime_proofs.specs.routine_proofs.Activation.{Slot, Shut, Free, Holds, Activation, IsPlaced}
use Rattle.runtime_proofs.specs.routine_proofs.Straight.{Onward, seen_value, straight, code_size}
use Rattle.runtime_proofs.specs.routine_proofs.Comes.{Does}
use Rattle.runtime_proofs.specs.routine_proofs.Entry.{entered, memory_without}
use Rattle.runtime_proofs.specs.routine_proofs.Specifications.{IsHeld}
use Rattle.runtime_proofs.proofs.routine_proofs.Replies.{next_of}
use Rattle.runtime_proofs.proofs.routine_proofs.Doing.{weaker-does, straight-does}
use Rattle.runtime_proofs.proofs.routine_proofs.Calls.{call-ends, placed, starts}
use Rattle.runtime_proofs.specs.strings_in_memory.Strings.{HasBytes, place}
use Rattle.runtime_proofs.specs.string_loops.Pieces.{word}
use Rattle.runtime_proofs.proofs.string_loops.Seen.{op-so, set-so, raise-so}
use Rattle.rt_strings.specs.objects.Routines.{class_size_code, class_size_routine}
use Rattle.rt_strings.specs.objects.Specifications.{class_size_number, TellsClassSize}
use Rattle.rt_strings.proofs.memory.Words.{bytes-plus, bytes-inside, word-read}

module _ (program : FlatProgram) (choice : Choice) (own : Frame) (sp : ℕ) (is_placed : IsPlaced choice own sp 14) (e : Activation) (segment o place_of_class ds : ℕ) (m : Cells) where
  -- in the routine: the offset of the instance or of its class field, and what stands below BP
  abbrev at : ℕ → Slot → Slot → Activation
  at k first second = record e { words = Holds segment ∷ Holds k ∷ Holds place_of_class ∷ Holds ds ∷ Shut ∷ Shut ∷ Shut ∷ first ∷ second ∷ []; memory = m }

  abbrev field : ℕ
  field = wrapping_add w16 o place_of_class

  abbrev class_word : Expr
  class_word = Word (Through (pos 10) 0)

  module _ (vmt size : ℕ) (vmt_small : vmt < 65535) (size_small : size < 65536) (has : HasBytes m (place segment field) 0 (word_bytes (vmt + 1))) (holds : HasBytes m (place ds vmt) 0 (word_bytes size)) where
    abbrev told : Activation
    told = at field (Holds size) (Holds vmt)

    table-so : seen_value choice own 14 (at field (Holds ds) Free) (Op op.Sub class_word (Number 1)) ≡ Ok vmt
    table-so =
        let less : wrapping_sub w16 (vmt + 1) 1 ≡ vmt = omega (arith, vmt_small) in
        op-so choice own 14 op.Sub class_word (Number 1) (at field (Holds ds) Free) (vmt + 1) 1 (word-read m (place_after (place segment field) 0) (vmt + 1) (omega (arith, vmt_small)) (bytes-plus m segment field 0 0 (word_bytes (vmt + 1)) has)) refl
        ∙ ap (λ n. let r : Found ℕ = Ok n in r) less

    size-so : seen_value choice own 14 (at field (Holds ds) (Holds vmt)) (Word (Through (negsuc 3) 0)) ≡ Ok size
    size-so = word-read m (place_after (place ds vmt) 0) size size_small (bytes-plus m ds vmt 0 0 (word_bytes size) holds)

    whole-so : straight choice own 14 class_size_code (at o Free Free) ≡ Ok (record { exit = Onward; there = told })
    whole-so =
        raise-so choice own 14 (pos 10) (word (pos 8)) (next_of class_size_code) (at o Free Free) (at field Free Free) o place_of_class refl refl refl
        ∙ set-so choice own 14 (negsuc 1) (word (pos 6)) (next_of (next_of class_size_code)) (at field Free Free) (at field (Holds ds) Free) ds refl refl
        ∙ set-so choice own 14 (negsuc 3) (Op op.Sub class_word (Number 1)) (next_of (next_of (next_of class_size_code))) (at field (Holds ds) Free) (at field (Holds ds) (Holds vmt)) vmt table-so refl
        ∙ set-so choice own 14 (negsuc 1) (Word (Through (negsuc 3) 0)) End (at field (Holds ds) (Holds vmt)) told size size-so refl

    tells : Does program choice own sp class_size_code 0 64 (at o Free Free) Onward told
    tells =
        weaker-does program choice own sp class_size_code 0 (code_size class_size_code) 0 64 (at o Free Free) Onward told (omega arith) (omega arith)
        (straight-does program choice own sp 14 is_placed class_size_code (at o Free Free) Onward told whole-so)

-- ---- the promise

pub tells-size : (program : FlatProgram) (choice : Choice) (unit : UnitCode) → StackFits program choice → IsHeld program (runtime_key class_size_number) unit class_size_routine → TellsClassSize program choice
tells-size program choice unit fits held_so segment o c ds vmt size f s words stack vmt_small size_small class table =
    let key = runtime_key class_size_number in
    let room : activation_bytes class_size_routine ≤ f.sp = omega (arith, stack.room) in
    let args = segment ∷ o ∷ c ∷ ds ∷ [] in
    let own = frame_of key.unit unit class_size_routine f in
    let here = placed program choice key unit class_size_routine held_so fits args f s refl room stack.inside in
    let start = entered choice f.sp 4 args s in
    let m = memory_without choice f.sp s.cells in
    let has = bytes-inside choice f.sp s.cells (place_after (place segment o) c) (word_bytes (vmt + 1)) class.off class.there in
    let holds = bytes-inside choice f.sp s.cells (place ds vmt) (word_bytes size) table.off table.there in
    call-ends program choice key unit class_size_routine held_so fits args f s refl room stack.inside
    (λ address. ⊥) (λ after given. (given ≡ word_bytes size) × KeepsRest s after) 0 64 Onward (told program choice own f.sp here start segment o c ds m vmt size vmt_small size_small has holds) (word_bytes size) tt
    (tells program choice own f.sp here start segment o c ds m vmt size vmt_small size_small has holds _ (starts program choice key unit class_size_routine held_so fits args f s refl room stack.inside 4 words))
    refl
    (λ x free. refl)
    (λ after left. (refl, record { flag = left.flag; input = left.input; out = left.out; err = left.err }))
