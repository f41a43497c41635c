-- The stub of an overlay in the memory of a program that was loaded.
use Rattle.std.proofs.Common.{◌≡◌, ℕ, zero, suc, ◌+◌, ◌-◌, ◌*◌, ◌%◌, ◌<◌, ◌≤◌, Bool, false, List, length, refl, sym, ap, ap₂, ◌∙◌, subst, arith}
use Rattle.std.specs.Prelude.{if◌then◌else◌, nat_lt, slice_index, slice_get, Some, IsTrue}
use Rattle.std.proofs.lemmas.Bool.Decides.{nat_tests}
use Rattle.cpu_8086.specs.Memory.{address, next_offset, word_of, load_byte, load_word}
use Rattle.mz_file.specs.declared.executable.Exe.{Exe}
use Rattle.mz_file.specs.Load.{loaded, loaded_byte, loaded_memory, loaded_segment, paragraphs_taken, relocated, FitsWithBuffer}
use Rattle.mz_file.specs.Words.{word_at}
use Rattle.mz_file.proofs.LoadLaws.{get_or-loaded_memory}
use Rattle.overlay_file.specs.declared.overlay.OvrEntry.{OvrEntry}
use Rattle.overlay_file.specs.Stubs.{IsEntry, IsStub, entry_offset}
use Rattle.overlay_manager.specs.Stubbing.{routine_at}
use Rattle.overlay_manager.proofs.EntryLaws.{byte-is}
use Rattle.dos_runner.specs.opened_program.Stubs.{IsStubOf}
use Rattle.resident_machine.specs.Cells.{Kept, Cells}
use Rattle.resident_machine.specs.Program.{OverlayCode}
use Rattle.overlay_simulation.specs.Matching.{size_of, StubStands}
use Rattle.overlay_correctness.specs.Held.{routines_at, entry_count, stub_bytes, overlay_in, HasStubs}

pub length_routines : (image : List ℕ) (place n : ℕ) → length (routines_at image place n) ≡ n
length_routines image place zero = refl
length_routines image place (suc n) = ap suc (length_routines image (place + 5) n)

routine_of : (image : List ℕ) (place n e : ℕ) → e < n → slice_index (routines_at image place n) e ≡ word_at image (place + 5 * e + 2)
routine_of image place zero e lt = absurd (omega arith)
routine_of image place (suc n) zero lt = let same : place + 2 ≡ place + 5 * 0 + 2 = omega arith in ap (word_at image) same
routine_of image place (suc n) (suc e) lt =
    let same : place + 5 + 5 * e + 2 ≡ place + 5 * suc e + 2 = omega arith in
    routine_of image (place + 5) n e (omega arith) ∙ ap (word_at image) same

-- a byte below the buffer, by its address
pub loaded_at : (exe : Exe) (segment k : ℕ) → 16 * segment + k < 1048576 → load_byte (loaded exe).memory segment k ≡ loaded_byte exe (16 * segment + k)
loaded_at exe segment k lt =
    let straight : address segment k ≡ 16 * segment + k = omega arith in
    byte-is (loaded_memory exe 1048576) segment k ∙ ap (slice_index (loaded_memory exe 1048576)) straight ∙ get_or-loaded_memory exe 1048576 (16 * segment + k) lt

module _ (exe : Exe) (kept : ℕ → Bool) (has : HasStubs exe kept) (room : ℕ) (fits : FitsWithBuffer exe room) (v segment : ℕ) (found : slice_get exe.block.stubs v ≡ Some segment) (entry : OvrEntry) (is : IsStubOf exe.image segment entry) where
  abbrev image : List ℕ
  image = exe.image

  abbrev stub : ℕ
  stub = loaded_segment segment

  abbrev memory : List ℕ
  memory = (loaded exe).memory

  pub stub_segment : stub ≡ segment + 0x70
  stub_segment = let inside = is.inside in let total = fits in omega arith

  inside : 16 * segment + stub_bytes image segment ≤ length image
  inside = let h = is.inside in omega arith

  pub stub_fits : (k : ℕ) → k < stub_bytes image segment → 16 * stub + k < 16 * paragraphs_taken exe
  stub_fits k lt = let s = stub_segment in let i = inside in omega arith

  pub stub_address : (k : ℕ) → k < stub_bytes image segment → address stub k ≡ 16 * stub + k
  stub_address k lt = let below = stub_fits k lt in let total = fits in omega arith

  pub stub_byte : (k : ℕ) → k < stub_bytes image segment → load_byte memory stub k ≡ slice_index image (16 * segment + k)
  stub_byte k lt =
      let below = stub_fits k lt in
      let total = fits in
      let s = stub_segment in
      let past : nat_lt (16 * stub + k) 0x700 ≡ false = grind (arith, nat_tests) in
      let place : 16 * stub + k - 0x700 ≡ 16 * segment + k = omega arith in
      loaded_at exe stub k (omega arith)
      ∙ ap (λ (b : Bool). if b then 0 else slice_index (relocated image exe.relocations) (16 * stub + k - 0x700)) past
      ∙ ap (slice_index (relocated image exe.relocations)) place ∙ has.left v segment found k lt

  stub_word : (k : ℕ) → k + 1 < stub_bytes image segment → load_word memory stub k ≡ word_at image (16 * segment + k)
  unfolding load_word
  stub_word k lt =
      let room = is.room in
      let next : next_offset k ≡ k + 1 = omega arith in
      let place : 16 * segment + (k + 1) ≡ 16 * segment + k + 1 = omega arith in
      ap₂ word_of (stub_byte k (omega arith)) (ap (load_byte memory stub) next ∙ stub_byte (k + 1) lt ∙ ap (slice_index image) place)

  count : load_word memory stub 12 ≡ entry_count image segment
  count = stub_word 12 (omega arith)

  zero_byte : (j k : ℕ) → k < 18 → j ≡ 14 + k → load_byte memory stub j ≡ 0
  zero_byte j k lt same =
      let place : 16 * segment + j ≡ 16 * segment + 14 + k = omega arith in
      stub_byte j (omega arith) ∙ ap (slice_index image) place ∙ is.zeros k lt

  zero_word : (k : ℕ) → k + 1 < 18 → load_word memory stub (14 + k) ≡ 0
  unfolding load_word
  zero_word k lt =
      let next : next_offset (14 + k) ≡ 14 + (k + 1) = omega arith in
      ap₂ word_of (zero_byte (14 + k) k (omega arith) refl) (ap (load_byte memory stub) next ∙ zero_byte (14 + (k + 1)) (k + 1) lt refl)

  traps : (e : ℕ) → e < entry_count image segment → (load_word memory stub (entry_offset e) ≡ 0x3FCD) × (load_byte memory stub (entry_offset e + 4) ≡ 0)
  traps e lt =
      let trap = is.traps e lt in
      let first : 16 * segment + entry_offset e ≡ 16 * segment + 32 + 5 * e = omega arith in
      let last : 16 * segment + (entry_offset e + 4) ≡ 16 * segment + 32 + 5 * e + 4 = omega arith in
      (stub_word (entry_offset e) (omega arith) ∙ ap (word_at image) first ∙ trap.interrupt, stub_byte (entry_offset e + 4) (omega arith) ∙ ap (slice_index image) last ∙ trap.filled)

  is_stub : IsStub memory stub
  is_stub =
      let start : 16 * segment + 0 ≡ 16 * segment = omega arith in
      record {
        interrupt = stub_word 0 (omega arith) ∙ ap (word_at image) start ∙ is.interrupt;
        zeros = λ k lt. zero_byte (18 + k) (4 + k) (omega arith) (omega arith);
        room = subst (λ (n : ℕ). entry_offset n ≤ 65536) (sym count) is.room;
        each = λ e lt. out_entry (load_word memory stub 14) (zero_word 0 (omega arith)) e (subst (λ (n : ℕ). e < n) count lt);
      }
    where
      out_entry : (load : ℕ) → load ≡ 0 → (e : ℕ) → e < entry_count image segment → IsEntry memory stub load (entry_offset e)
      out_entry load none e lt = subst (λ (n : ℕ). IsEntry memory stub n (entry_offset e)) (sym none) (let t = traps e lt in record { interrupt = t.0; filled = t.1 })

  pub stub_loaded : (bytes : List ℕ) (cells : Cells) → ((place : ℕ) → IsTrue (kept place) → cells place ≡ Kept) → StubStands cells memory (overlay_in image bytes segment entry) 0 0
  stub_loaded bytes cells keeps =
      let o : OverlayCode = overlay_in image bytes segment entry in
      let entries : length o.entries ≡ entry_count image segment = length_routines image (16 * segment + 32) (entry_count image segment) in
      let within : (k : ℕ) → k < size_of o → k < stub_bytes image segment = λ k lt. omega arith in
      record {
        kept = λ k lt. ap cells (stub_address k (within k lt)) ∙ keeps (16 * stub + k) (has.stays v segment found k (within k lt));
        small = λ k lt two three. subst (λ (byte : ℕ). byte < 256) (sym (stub_byte k (within k lt))) (has.bytes v segment found k (within k lt));
        is_stub = is_stub;
        count = count ∙ sym entries;
        loaded = zero_word 0 (omega arith);
        linked = zero_word 2 (omega arith);
        routines = λ e lt. routine e (omega arith);
      }
    where
      routine : (e : ℕ) → e < entry_count image segment → routine_at memory stub 0 (entry_offset e) ≡ slice_index (routines_at image (16 * segment + 32) (entry_count image segment)) e
      routine e lt =
          let room = is.room in
          let straight : (entry_offset e + 2) % 65536 ≡ entry_offset e + 2 = omega arith in
          let place : 16 * segment + (entry_offset e + 2) ≡ 16 * segment + 32 + 5 * e + 2 = omega arith in
          ap (load_word memory stub) straight ∙ stub_word (entry_offset e + 2) (omega arith) ∙ ap (word_at image) place ∙ sym (routine_of image (16 * segment + 32) (entry_count image segment) e lt)
