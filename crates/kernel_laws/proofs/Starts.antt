-- The start of a program, its calls filled in.
use Rattle.std.proofs.Common.{◌≡◌, ℕ, ◌+◌, List, [], ◌∷◌, ◌++◌, length, refl, sym, ap, ◌∙◌, append_assoc, arith, length-append}
use Rattle.x86_table.specs.declared.instr.Instr.{Instr}
use Rattle.x86_table.specs.declared.instr.Instr.TheVariants as instr
use Rattle.x86_table.specs.declared.line.Line.{Line}
use Rattle.x86_table.specs.declared.line.Line.TheVariants.{One}
use Rattle.x86_table.specs.Lines.{label_place, bytes_from, assembled}
use Rattle.x86_table.specs.Spelling.{word_bytes, spelling, word_modrm}
use Rattle.flat_code.specs.declared.memory.Place.{Place}
use Rattle.flat_code.specs.Program.{Name, Key}
use Rattle.resident_machine.specs.machine_lines.Straight.{ones}
use Rattle.code_templates.specs.code_lines.Addresses.{Addresses}
use Rattle.codegen_8086.specs.object_code.Resolved.{far_words, replaced, resolved}
use Rattle.codegen_8086.proofs.object_code.Bytes.{replaced-there}
use Rattle.code_simulation.specs.start.Starting as starting
use Rattle.kernel_code.specs.declared.initial.Initial.{Initial}
use Rattle.kernel_code.specs.Parts.{encoded}
use Rattle.kernel_code.specs.Start.{start_code, finish_code, call_codes, call_refs, start_of}
use Rattle.kernel_laws.specs.Laws.{part_of, called, filled}

-- the bytes of instructions alone, wherever they stand
pub ones_from : (labels : ℕ → ℕ) (p : ℕ) (is : List Instr) (rest : List Line) (bytes : List ℕ) → ((q : ℕ) → bytes_from labels q rest ≡ bytes) → bytes_from labels p (ones is ++ rest) ≡ encoded is ++ bytes
ones_from labels p [] rest bytes h = h p
ones_from labels p (i ∷ is) rest bytes h =
    ap (λ (zs : List ℕ). spelling i ++ zs) (ones_from labels (p + length (spelling i)) is rest bytes h) ∙ sym (append_assoc (spelling i) (encoded is) bytes)

-- far calls, with their pointers
call_bytes : Addresses → List Key → List ℕ
call_bytes a [] = []
call_bytes a (key ∷ keys) = spelling (instr.CallFar (a.far key).offset (a.far key).segment) ++ call_bytes a keys

calls_from : (a : Addresses) (labels : ℕ → ℕ) (p : ℕ) (keys : List Key) (rest : List Line) (bytes : List ℕ) → ((q : ℕ) → bytes_from labels q rest ≡ bytes)
    → bytes_from labels p (starting.start_calls a keys ++ rest) ≡ call_bytes a keys ++ bytes
unfolding call_bytes
calls_from a labels p [] rest bytes h = h p
calls_from a labels p (key ∷ keys) rest bytes h =
    let i = instr.CallFar (a.far key).offset (a.far key).segment in
    ap (λ (zs : List ℕ). spelling i ++ zs) (calls_from a labels (p + length (spelling i)) keys rest bytes h) ∙ sym (append_assoc (spelling i) (call_bytes a keys) bytes)

-- ---- calls filled in

call_opcode : List ℕ
call_opcode = 0x9A ∷ []

no_pointer : List ℕ
no_pointer = 0 ∷ 0 ∷ 0 ∷ 0 ∷ []

empty_call : encoded (instr.CallFar 0 0 ∷ []) ≡ call_opcode ++ no_pointer
unfolding word_bytes call_opcode no_pointer
empty_call = refl

far_call : (p : Place) → spelling (instr.CallFar p.offset p.segment) ≡ call_opcode ++ far_words p
unfolding word_bytes call_opcode
far_call p = refl

pointer_length : (p : Place) → length no_pointer ≡ length (far_words p)
unfolding word_bytes no_pointer
pointer_length p = refl

call_length : (p : Place) → length (call_opcode ++ far_words p) ≡ 5
unfolding word_bytes call_opcode
call_length p = refl

opcode_length : length call_opcode ≡ 1
unfolding call_opcode
opcode_length = refl

module _ (a : Addresses) (own : Name) (names : List Name) (p : ℕ) where
  calls_filled : (front : List ℕ) (n : ℕ) (initials : List Initial) (back : List ℕ) → length front ≡ n
      → resolved a own names p (front ++ (call_codes initials ++ back)) (call_refs (n + 1) initials) ≡ front ++ (call_bytes a (called own names initials) ++ back)
  unfolding call_bytes
  calls_filled front n [] back h = refl
  calls_filled front n (initial ∷ initials) back h =
      let key = part_of own names initial.unit initial.number in
      let place = a.far key in
      let rest = call_codes initials ++ back in
      let bytes = front ++ (call_codes (initial ∷ initials) ++ back) in
      let parted : bytes ≡ front ++ ((call_opcode ++ no_pointer) ++ rest) =
      ap (λ (zs : List ℕ). front ++ zs) (append_assoc (encoded (instr.CallFar 0 0 ∷ [])) (call_codes initials) back ∙ ap (λ (zs : List ℕ). zs ++ rest) empty_call) in
      let call = call_opcode ++ far_words place in
      let front' = front ++ call in
      let one : replaced (n + 1) (far_words place) bytes ≡ front' ++ rest =
      ap (replaced (n + 1) (far_words place)) parted
      ∙ replaced-there front call_opcode no_pointer (far_words place) rest n 1 h opcode_length (pointer_length place)
      ∙ sym (append_assoc front call rest) in
      let size : length front' ≡ n + 5 = omega (arith, h, length-append front call, call_length place) in
      let next : n + 1 + 5 ≡ n + 5 + 1 = omega arith in
      let more = call_bytes a (called own names initials) in
      ap (λ (zs : List ℕ). resolved a own names p zs (call_refs (n + 1 + 5) initials)) one
      ∙ ap (λ (k : ℕ). resolved a own names p (front' ++ rest) (call_refs k initials)) next
      ∙ calls_filled front' (n + 5) initials back size
      ∙ append_assoc front call (more ++ back)
      ∙ ap (λ (zs : List ℕ). front ++ zs) (sym (append_assoc call more back) ∙ ap (λ (zs : List ℕ). (zs ++ more) ++ back) (sym (far_call place)))

  -- the first instructions, with the data segment
  first_filled : (rest : List ℕ) → replaced 1 (word_bytes a.data_segment) (encoded start_code ++ rest) ≡ encoded (starting.start_code a.data_segment) ++ rest
  unfolding word_bytes word_modrm
  first_filled rest = refl

  first_length : length (encoded (starting.start_code a.data_segment)) ≡ 9
  unfolding word_bytes word_modrm
  first_length = refl

  ends : (labels : ℕ → ℕ) (q : ℕ) → bytes_from labels q (ones starting.finish_code) ≡ encoded finish_code
  ends labels q = refl

  start_spelled : (keys : List Key) → assembled (starting.start_lines a keys) ≡ encoded (starting.start_code a.data_segment) ++ (call_bytes a keys ++ encoded finish_code)
  start_spelled keys =
      let labels = label_place (starting.start_lines a keys) in
      let finish = ones starting.finish_code in
      let calls : (q : ℕ) → bytes_from labels q (starting.start_calls a keys ++ finish) ≡ call_bytes a keys ++ encoded finish_code = λ q. calls_from a labels q keys finish (encoded finish_code) (ends labels) in
      ones_from labels 0 (starting.start_code a.data_segment) (starting.start_calls a keys ++ finish) (call_bytes a keys ++ encoded finish_code) calls

  pub start_filled : (kernel : Name) (initials : List Initial) → filled a own names p (start_of kernel initials) ≡ assembled (starting.start_lines a (called own names initials))
  start_filled kernel initials =
      let keys = called own names initials in
      let end = encoded finish_code in
      let first = encoded (starting.start_code a.data_segment) in
      ap (λ (zs : List ℕ). resolved a own names p zs (call_refs 10 initials)) (first_filled (call_codes initials ++ end))
      ∙ calls_filled first 9 initials end first_length
      ∙ sym (start_spelled keys)
