-- What is written for a value stands for it.
use Rattle.std.proofs.Common.{◌≡◌, ℕ, ◌+◌, ◌-◌, ◌*◌, ◌/◌, ◌%◌, ◌<◌, ◌==◌, ◌⊎◌, inl, inr, Bool, true, false, cond, List, [], ◌++◌, length, take, drop, refl, sym, ap, ap₂, subst, subst₂, ◌∙◌, append_assoc, length-append, All, replicate, arith}
use Rattle.std.proofs.lemmas.List.{length-replicate}
use Rattle.std.proofs.lemmas.Bool.Decides.{nat_tests}
use Rattle.std.proofs.Math.Seq.{drop-append_seam, take-length}
use Rattle.cpu_8086.specs.Memory.{word_of, low_byte, high_byte}
use Rattle.cpu_8086.specs.declared.registers.Far.{Far}
use Rattle.mz_file.specs.declared.executable.Exe.{Exe}
use Rattle.mz_file.specs.Words.{word_at, long_at, words_at, fars_at, bytes_of_words, words_of_fars}
use Rattle.mz_file.specs.Format.{said_size, header_size, image_of, relocations_of, letters_X, block_of, exe_of, IsWithin, IsExecutable, Denotes}
use Rattle.mz_file.specs.Spelling.{relocation_place, relocation_end, header_paragraphs, file_size, header_words, all_words, padding, spelling, IsWritable}
use Rattle.mz_file.proofs.WordLaws.{word_of-bytes, bytes_of_words-append, length-bytes_of_words, length-words_of_fars, words_at-append, words_at-words, fars_at-append, fars_at-fars}

-- pages of 512 bytes and the bytes of the last one say the size
said_is_size : (size : ℕ) → 0 < size → cond ((size + 511) / 512 == 0) 0 (512 * ((size + 511) / 512 - 1) + cond (size % 512 == 0) 512 (size % 512)) ≡ size
said_is_size size some = grind (arith, nat_tests)

module _ (exe : Exe) where
  length-all_words : 2 * length (all_words exe) ≡ relocation_end exe
  length-all_words = omega (arith, length-append exe.block.stubs (words_of_fars exe.relocations), length-words_of_fars exe.relocations)

  -- the header with its zeros
  header : List ℕ
  header = bytes_of_words (all_words exe) ++ padding exe

  length-header : length header ≡ 16 * header_paragraphs exe
  unfolding header
  length-header =
      omega (
        arith,
        length-append (bytes_of_words (all_words exe)) (padding exe),
        length-bytes_of_words (all_words exe),
        length-all_words,
        length-replicate {A = ℕ} (16 * header_paragraphs exe - relocation_end exe) 0,
      )

  spelling-split : spelling exe ≡ header ++ exe.image
  unfolding spelling header
  spelling-split = sym (append_assoc (bytes_of_words (all_words exe)) (padding exe) exe.image)

  length-spelling : length (spelling exe) ≡ file_size exe
  length-spelling = ap length spelling-split ∙ length-append header exe.image ∙ ap (λ (n : ℕ). n + length exe.image) length-header

  -- the words of the header are read as they were written
  said-spelling : said_size (spelling exe) ≡ file_size exe
  unfolding spelling
  said-spelling =
      let pages = word_of-bytes ((file_size exe + 511) / 512) in
      let last = word_of-bytes (file_size exe % 512) in
      ap₂ (λ (pages last : ℕ). cond (pages == 0) 0 (512 * (pages - 1) + cond (last == 0) 512 last)) pages last ∙ said_is_size (file_size exe) (omega arith)

  header-spelling : header_size (spelling exe) ≡ 16 * header_paragraphs exe
  unfolding spelling
  header-spelling = ap (λ (n : ℕ). 16 * n) (word_of-bytes (header_paragraphs exe))

  image-spelling : image_of (spelling exe) ≡ exe.image
  image-spelling =
      ap₂ (λ (said size : ℕ). take (said - size) (drop size (spelling exe))) said-spelling header-spelling
      ∙ ap (λ bytes. take (file_size exe - 16 * header_paragraphs exe) (drop (16 * header_paragraphs exe) bytes)) spelling-split
      ∙ subst (λ (size : ℕ). take (file_size exe - 16 * header_paragraphs exe) (drop size (header ++ exe.image)) ≡ exe.image) length-header
      (ap (take (file_size exe - 16 * header_paragraphs exe)) (drop-append_seam header exe.image)
      ∙ subst (λ (n : ℕ). take n exe.image ≡ exe.image) (let e : length exe.image ≡ file_size exe - 16 * header_paragraphs exe = omega arith in e) (take-length exe.image))

  stubs-spelling : words_at (spelling exe) 0x36 (word_at (spelling exe) 0x20) ≡ exe.block.stubs
  unfolding spelling
  stubs-spelling =
      let front = bytes_of_words (header_words exe) in
      let fars = bytes_of_words (words_of_fars exe.relocations) in
      let rest = padding exe ++ exe.image in
      let split : spelling exe ≡ front ++ (bytes_of_words exe.block.stubs ++ (fars ++ rest)) =
      ap (λ bytes. bytes ++ rest) (bytes_of_words-append (header_words exe) (exe.block.stubs ++ words_of_fars exe.relocations)
      ∙ ap (λ bytes. front ++ bytes) (bytes_of_words-append exe.block.stubs (words_of_fars exe.relocations)))
      ∙ append_assoc front (bytes_of_words exe.block.stubs ++ fars) rest
      ∙ ap (λ bytes. front ++ bytes) (append_assoc (bytes_of_words exe.block.stubs) fars rest) in
      ap₂ (λ bytes count. words_at bytes 0x36 count) split (word_of-bytes (length exe.block.stubs))
      ∙ words_at-append front (bytes_of_words exe.block.stubs ++ (fars ++ rest)) 0x36 0 (length exe.block.stubs) refl
      ∙ words_at-words exe.block.stubs (fars ++ rest)

  relocations-spelling : relocations_of (spelling exe) ≡ exe.relocations
  unfolding spelling
  relocations-spelling =
      let front = bytes_of_words (header_words exe) ++ bytes_of_words exe.block.stubs in
      let fars = bytes_of_words (words_of_fars exe.relocations) in
      let rest = padding exe ++ exe.image in
      let split : spelling exe ≡ front ++ (fars ++ rest) =
      ap (λ bytes. bytes ++ rest) (bytes_of_words-append (header_words exe) (exe.block.stubs ++ words_of_fars exe.relocations)
      ∙ ap (λ bytes. bytes_of_words (header_words exe) ++ bytes) (bytes_of_words-append exe.block.stubs (words_of_fars exe.relocations))
      ∙ sym (append_assoc (bytes_of_words (header_words exe)) (bytes_of_words exe.block.stubs) fars))
      ∙ append_assoc front fars rest in
      let place : relocation_place exe ≡ length front + 0 =
      omega (arith, length-append (bytes_of_words (header_words exe)) (bytes_of_words exe.block.stubs), length-bytes_of_words exe.block.stubs) in
      ap₂ (λ (place count : ℕ). fars_at (spelling exe) place count) (word_of-bytes (relocation_place exe)) (word_of-bytes (length exe.relocations))
      ∙ ap (λ bytes. fars_at bytes (relocation_place exe) (length exe.relocations)) split
      ∙ fars_at-append front (fars ++ rest) (relocation_place exe) 0 (length exe.relocations) place
      ∙ fars_at-fars exe.relocations rest

  -- four bytes of the header are a far pointer
  far_of-bytes : (far : Far) → ◌≡◌ {A = Far} (record { offset = word_of (low_byte far.offset) (high_byte far.offset); segment = word_of (low_byte far.segment) (high_byte far.segment) }) far
  far_of-bytes far =
      let offset = word_of-bytes far.offset in
      let segment = word_of-bytes far.segment in
      λ i. record { offset = offset i; segment = segment i }

  -- the letters say whether frames are marked
  X-marked : (marked : Bool) → (letters_X marked == 0x3258) ≡ marked
  X-marked true = refl
  X-marked false = refl

  X-either : (marked : Bool) → (letters_X marked ≡ 0x3158) ⊎ (letters_X marked ≡ 0x3258)
  X-either true = inr refl
  X-either false = inl refl

  block-spelling : block_of (spelling exe) ≡ exe.block
  unfolding spelling
  block-spelling =
      let block = exe.block in
      let stubs = stubs-spelling in
      let largest = word_of-bytes block.largest in
      let error_routine = far_of-bytes block.error_routine in
      let installed = far_of-bytes block.installed in
      let stack = word_of-bytes block.stack in
      let heap : long_at (spelling exe) 0x2E ≡ block.heap =
      ap₂ (λ (low high : ℕ). low + 65536 * high) (word_of-bytes (block.heap % 65536)) (word_of-bytes (block.heap / 65536)) ∙ omega arith in
      let data_segment = word_of-bytes block.data_segment in
      let data_bytes = word_of-bytes block.data_bytes in
      let marked = ap (λ (word : ℕ). word == 0x3258) (word_of-bytes (letters_X block.marked)) ∙ X-marked block.marked in
      λ i. record { stubs = stubs i; largest = largest i; error_routine = error_routine i; installed = installed i; stack = stack i; heap = heap i; data_segment = data_segment i; data_bytes = data_bytes i; marked = marked i }

  exe-spelling : exe_of (spelling exe) ≡ exe
  unfolding spelling
  exe-spelling =
      let image = image-spelling in
      let relocations = relocations-spelling in
      let entry = far_of-bytes exe.entry in
      let stack = far_of-bytes exe.stack in
      let extra = word_of-bytes exe.extra in
      let block = block-spelling in
      λ i. record { image = image i; relocations = relocations i; entry = entry i; stack = stack i; extra = extra i; block = block i }

  -- what is written is an executable file
  executable-spelling : IsWritable exe → IsExecutable (spelling exe)
  unfolding spelling
  executable-spelling writable = record {
    long = record {
      header = omega (arith, length-spelling);
      pages = omega (arith, length-spelling, said-spelling);
    };
    letters_MZ = refl;
    pages = record {
      last = omega (arith, word_of-bytes (file_size exe % 512));
      count = λ none. let size : (file_size exe + 511) / 512 ≡ 0 = sym (word_of-bytes ((file_size exe + 511) / 512)) ∙ none in omega arith;
      header = omega (arith, said-spelling, header-spelling);
      relocations = omega (arith, said-spelling, word_of-bytes (relocation_place exe), word_of-bytes (length exe.relocations));
    };
    relocations = subst₂ (λ image fars. All (IsWithin (length image)) fars) (sym image-spelling) (sym relocations-spelling) writable.inside;
    block = record {
      letters_TP = refl;
      letters_X = subst (λ (word : ℕ). (word ≡ 0x3158) ⊎ (word ≡ 0x3258)) (sym (word_of-bytes (letters_X exe.block.marked))) (X-either exe.block.marked);
      stubs = omega (arith, writable.stubs, word_of-bytes (length exe.block.stubs));
      header = omega (arith, header-spelling, word_of-bytes (length exe.block.stubs));
      relocations = omega (arith, word_of-bytes (length exe.block.stubs), word_of-bytes (relocation_place exe));
    };
  }

  pub denotes-spelling : IsWritable exe → Denotes (spelling exe) exe
  denotes-spelling writable = record { executable = executable-spelling writable; value = sym exe-spelling }

  -- the parts as they are written one after another
  pub spelling-parts : (front words fars zeros all : List ℕ) (count : ℕ) → front ≡ [] ++ bytes_of_words (header_words exe) → words ≡ front ++ bytes_of_words exe.block.stubs → fars ≡ words ++ bytes_of_words (words_of_fars exe.relocations) → count ≡ 16 * header_paragraphs exe - relocation_end exe → zeros ≡ fars ++ replicate count 0 → all ≡ zeros ++ exe.image → all ≡ spelling exe
  unfolding spelling
  spelling-parts front words fars zeros all count is_front is_words is_fars is_count is_zeros is_all =
      let H = bytes_of_words (header_words exe) in
      let S = bytes_of_words exe.block.stubs in
      let F = bytes_of_words (words_of_fars exe.relocations) in
      let words_are : fars ≡ bytes_of_words (all_words exe) =
      is_fars ∙ ap (λ bytes. bytes ++ F) (is_words ∙ ap (λ bytes. bytes ++ S) is_front) ∙ append_assoc H S F
      ∙ ap (λ bytes. H ++ bytes) (sym (bytes_of_words-append exe.block.stubs (words_of_fars exe.relocations)))
      ∙ sym (bytes_of_words-append (header_words exe) (exe.block.stubs ++ words_of_fars exe.relocations)) in
      is_all ∙ ap (λ bytes. bytes ++ exe.image) (is_zeros ∙ ap₂ (λ bytes (n : ℕ). bytes ++ replicate n 0) words_are is_count)
      ∙ append_assoc (bytes_of_words (all_words exe)) (padding exe) exe.image
