-- The routine that reads a string.
use Rattle.std.proofs.Common.{◌≡◌, ℕ, ◌+◌, ◌*◌, ◌<◌, ◌≤◌, ◌⊎◌, inl, inr, List, [], ◌∷◌, length, Ok, pos, negsuc, refl, sym, ap, subst, ◌∙◌, arith}
use Rattle.common_values.specs.integers.Words.{w16, wrapping_add, low_byte}
use Rattle.common_values.specs.Input.{string_read}
use Rattle.flat_code.specs.declared.tree.Address.TheVariants.{Through}
use Rattle.flat_code.specs.declared.memory.Cell.TheVariants.{Known, Outside}
use Rattle.flat_code.specs.Tree.{Code, End, Loop, ◌then◌}
use Rattle.flat_code.specs.Memory.{Cells, address_of, place_after, put}
use Rattle.flat_code.specs.Program.{FlatProgram, Choice, UnitCode, text_unit, runtime_key}
use Rattle.flat_code.specs.Meaning.{Frame, activation_bytes, frame_of, stack_top}
use Rattle.flat_code.specs.Legal.{StackFits}
use Rattle.flat_code.proofs.Shut.{put_other}
use Rattle.runtime_proofs.specs.routine_proofs.Activation.{Shut, Free, Holds, Activation, IsPlaced}
use Rattle.runtime_proofs.specs.routine_proofs.Straight.{Onward, straight, code_size}
use Rattle.runtime_proofs.specs.routine_proofs.Comes.{Does}
use Rattle.runtime_proofs.specs.routine_proofs.Entry.{entered, memory_without}
use Rattle.runtime_proofs.specs.routine_proofs.Specifications.{IsHeld}
use Rattle.runtime_proofs.proofs.routine_proofs.Doing.{weaker-does, then-does, straight-does}
use Rattle.runtime_proofs.proofs.routine_proofs.Calls.{call-ends, placed, starts}
use Rattle.runtime_proofs.specs.strings_in_memory.Strings.{HasString, IsReached, IsIn, place}
use Rattle.runtime_proofs.proofs.strings_in_memory.Cells.{put-same, store-so, plus-none, apart-in, bytes-kept}
use Rattle.runtime_proofs.specs.string_loops.Pieces.{word}
use Rattle.runtime_proofs.proofs.string_loops.Entry.{reached-inside, string-left}
use Rattle.runtime_proofs.specs.text_memory.Data.{HasText, ahead_place}
use Rattle.rt_text.specs.read_text.Specifications.{HasInput, Reads, IsAhead}
use Rattle.rt_text.proofs.read_text.InputLemmas.{input-kept, input-inside, input-left}
use Rattle.rt_text.specs.read_strings.Routines.{begin_text, text_round, set_length, read_string_routine}
use Rattle.rt_text.specs.read_strings.Specifications.{read_string_number, ReadsText, ReadsString}
use Rattle.rt_text.proofs.read_strings.Texts.{text_of, rest_of, text-is, rest-is, text-length}
use Rattle.rt_text.proofs.read_strings.Filling.{filling, Filled, fill}

low-same : (b : ℕ) → b < 256 → low_byte b ≡ b
low-same b h = omega (arith, h)

module _ (program : FlatProgram) (choice : Choice) (own : Frame) (sp : ℕ) (is_placed : IsPlaced choice own sp 12) (is_text : own.unit ≡ text_unit) (item ahead : ℕ) (there : HasText program choice item ahead) (e : Activation) (segment offset size : ℕ) (offset_small : offset < 65536) (size_small : size < 256)
    (apart : (i j : ℕ) → i < 1 + size → j < 2 → address_of (place segment offset) i ≡ address_of (ahead_place choice ahead) j → ⊥) (m : Cells) (i left : List ℕ) (reached : IsReached m (place segment offset) (1 + size)) (has : HasInput choice ahead m i left) where
  abbrev before : Activation
  before = record e { words = Holds segment ∷ Holds offset ∷ Holds size ∷ Shut ∷ Shut ∷ Shut ∷ Free ∷ Free ∷ Free ∷ Free ∷ []; memory = m; input = i }

  abbrev at : ℕ → ℕ → Cells → List ℕ → Activation
  at v c m i = filling program choice own sp is_placed is_text item ahead there e segment offset size size_small apart v c m i

  abbrev text : List ℕ
  text = text_of size left

  -- what is there in the end
  pub record Got : Type 0 where
    pub v' : ℕ
    pub memory : Cells
    pub input : List ℕ
    pub does : Does program choice own sp read_string_routine.body 1024 32768 before Onward (at v' (length text) memory input)
    pub string : HasString memory (place segment offset) text
    pub input_is : HasInput choice ahead memory input (rest_of size left)
    pub others : (x : ℕ) → (IsAhead choice ahead x ⊎ IsIn (place segment offset) (1 + length text) x → ⊥) → memory x ≡ m x

  pub got : Got
  got =
      let to = place segment offset in
      let n = length text in
      let short : n ≤ size = text-length size left in
      let none : offset ≡ wrapping_add w16 offset 0 = omega (arith, offset_small) in
      let a1 = at 0 0 m i in
      let f = fill program choice own sp is_placed is_text item ahead there e segment offset size size_small apart size 0 0 m i left (omega arith) reached has in
      let here = plus-none segment offset 0 in
      let a2 = at f.v' n f.memory f.input in
      let k = put f.memory (address_of to 0) (Known n) in
      let a3 = at f.v' n k f.input in
      let first : Does program choice own sp begin_text 0 (code_size begin_text) before Onward a1 =
      subst (λ p. Does program choice own sp begin_text 0 (code_size begin_text) before Onward (record e { words = Holds segment ∷ Holds offset ∷ Holds size ∷ Shut ∷ Shut ∷ Shut ∷ Holds 0 ∷ Holds segment ∷ Holds p ∷ Holds 0 ∷ []; memory = m; input = i })) none
      (straight-does program choice own sp 12 is_placed begin_text before Onward (record e { words = Holds segment ∷ Holds offset ∷ Holds size ∷ Shut ∷ Shut ∷ Shut ∷ Holds 0 ∷ Holds segment ∷ Holds offset ∷ Holds 0 ∷ []; memory = m; input = i }) refl) in
      let start : 0 + n ≡ n = omega arith in
      let second = subst (λ c. Does program choice own sp (Loop text_round End) (2 * size + 2) (100 * (size + 1)) a1 Onward (at f.v' c f.memory f.input)) start f.does in
      let third = straight-does program choice own sp 12 is_placed set_length a2 Onward a3
      (store-so choice own 12 (Through (pos 8) 0) (word (negsuc 7)) End a2 (place_after to 0) n refl refl (λ out. f.reached reached 0 (omega arith) (ap f.memory (sym here) ∙ out))
      ∙ ap (λ x. straight choice own 12 End (at f.v' n (put f.memory x (Known (low_byte n))) f.input)) here
      ∙ ap (λ v. straight choice own 12 End (at f.v' n (put f.memory (address_of to 0) (Known v)) f.input)) (low-same n (omega (arith, short, size_small)))) in
      let rest = then-does program choice own sp (Loop text_round End) set_length (2 * size + 2) (100 * (size + 1)) 0 (code_size set_length) a1 a2 Onward a3 second third in
      record {
        v' = f.v';
        memory = k;
        input = f.input;
        does = weaker-does program choice own sp read_string_routine.body (0 + (2 * size + 2 + 0)) (code_size begin_text + (100 * (size + 1) + code_size set_length)) 1024 32768 before Onward a3 (omega (arith, size_small)) (omega (arith, size_small))
            (then-does program choice own sp begin_text ((Loop text_round End) then set_length) 0 (code_size begin_text) (2 * size + 2 + 0) (100 * (size + 1) + code_size set_length) before a1 Onward a3 first rest);
        string = record {
          size = put-same f.memory (address_of to 0) (Known n);
          short = omega (arith, short, size_small);
          bytes = bytes-kept f.memory k to 1 text (λ q h. put_other f.memory (address_of to 0) (Known n) (address_of to (1 + q)) (λ same. apart-in segment offset 0 (1 + q) (omega arith) (omega (arith, h, short, size_small)) (sym same))) f.text_is;
        };
        input_is = input-kept choice ahead f.memory k f.input (rest_of size left) (λ q h. put_other f.memory (address_of to 0) (Known n) (address_of (ahead_place choice ahead) q) (λ same. apart 0 q (omega arith) h (sym same))) f.input_is;
        others = λ x free.
            put_other f.memory (address_of to 0) (Known n) x (λ same. free (inr (0, omega arith, same)))
            ∙ f.others x (λ is. free (inl is)) (λ q low high same. free (inr (q, omega (arith, high), same)));
      }

-- ---- the promise

pub reads-string : (program : FlatProgram) (choice : Choice) (item ahead : ℕ) (unit : UnitCode) → StackFits program choice → HasText program choice item ahead → IsHeld program (runtime_key read_string_number) unit read_string_routine → ReadsString program choice ahead
reads-string program choice item ahead unit fits there held_so segment offset size left f s are stack has can =
    let key = runtime_key read_string_number in
    let room : activation_bytes read_string_routine ≤ f.sp = omega (arith, stack.room) in
    let args = segment ∷ offset ∷ size ∷ [] in
    let to = place segment offset in
    let own = frame_of key.unit unit read_string_routine f in
    let here = placed program choice key unit read_string_routine held_so fits args f s refl room stack.inside in
    let start = entered choice f.sp 8 args s in
    let m = memory_without choice f.sp s.cells in
    let inside = input-inside choice ahead f.sp (stack_top program) stack.inside there.ahead_off s.cells s.input left has in
    let reached = reached-inside choice f.sp s.cells to (1 + size) can.off can.target in
    let g = got program choice own f.sp here refl item ahead there start segment offset size are.1.0 can.small can.apart m s.input left reached inside in
    let text_so = text-is size left in
    let rest_so = rest-is size left in
    let short : length (text_of size left) ≤ size = text-length size left in
    call-ends program choice key unit read_string_routine held_so fits args f s refl room stack.inside
    (λ x. IsAhead choice ahead x ⊎ IsIn to (1 + length (string_read size left).0) x) (ReadsText choice ahead to (string_read size left).0 (string_read size left).1 s) 1024 32768 Onward
    (filling program choice own f.sp here refl item ahead there start segment offset size can.small can.apart g.v' (length (text_of size left)) g.memory g.input) [] tt
    (g.does _ (starts program choice key unit read_string_routine held_so fits args f s refl room stack.inside 3 are))
    refl (λ x free. g.others x (λ is. free (subst (λ t. IsAhead choice ahead x ⊎ IsIn to (1 + length t) x) text_so is)))
    (λ after left_so. record {
      string = subst (λ t. HasString after.cells to t) text_so (string-left choice f.sp g.memory after.cells to (text_of size left) left_so.cells (λ i h. can.off i (omega (arith, h, short))) g.string);
      reads = record {
        given_is = refl;
        input = subst (λ l. HasInput choice ahead after.cells after.input l) rest_so (subst (λ i. HasInput choice ahead after.cells i (rest_of size left)) (sym left_so.input) (input-left choice ahead f.sp (stack_top program) stack.inside there.ahead_off g.memory after.cells g.input (rest_of size left) left_so.cells g.input_is));
        out = left_so.out;
        err = left_so.err;
        flag = left_so.flag;
      };
    })
