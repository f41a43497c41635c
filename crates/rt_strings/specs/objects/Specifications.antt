-- What the runtime promises of what is found by the class of an instance.
use Rattle.std.specs.Prelude.{◌≡◌, ℕ, ◌+◌, ◌<◌, [], ◌∷◌}
use Rattle.flat_code.specs.declared.memory.Place.{Place}
use Rattle.flat_code.specs.Memory.{word_bytes, far_bytes, place_after}
use Rattle.flat_code.specs.Program.{FlatProgram, Choice, runtime_key}
use Rattle.flat_code.specs.Meaning.{Frame, State}
use Rattle.flat_code.specs.Gives.{AreWords, KeepsRest, HasStack, Ends, Raises}
use Rattle.runtime_proofs.specs.strings_in_memory.Strings.{place}
use Rattle.rt_strings.specs.memory.Specifications.{CanLoad}

abbrev pub method_number : ℕ
method_number = 543

abbrev pub class_size_number : ℕ
class_size_number = 544

-- The far pointer that stands so far in the virtual method table of an instance's class, and error 210 where it has none.
abbrev pub FindsMethod : FlatProgram → Choice → Type 0
FindsMethod program choice =
    (segment offset class_offset entry data_segment : ℕ) (f : Frame) (s : State) → AreWords 5 (segment ∷ offset ∷ class_offset ∷ entry ∷ data_segment ∷ []) → HasStack program 64 f →
    ((vmt : ℕ) (method : Place) → vmt < 65535 → CanLoad choice f.sp s (place_after (place segment offset) class_offset) (word_bytes (vmt + 1)) → CanLoad choice f.sp s (place_after (place data_segment vmt) entry) (far_bytes method) →
    Ends program choice (runtime_key method_number) (λ address. ⊥) (λ after given. (given ≡ far_bytes method) × KeepsRest s after) 0 64 (segment ∷ offset ∷ class_offset ∷ entry ∷ data_segment ∷ []) f s)
    × (CanLoad choice f.sp s (place_after (place segment offset) class_offset) (word_bytes 0) →
    Raises program choice (runtime_key method_number) (λ after code. (code ≡ 210) × KeepsRest s after) 0 64 (segment ∷ offset ∷ class_offset ∷ entry ∷ data_segment ∷ []) f s)

-- The size of an instance's class, the first word of its virtual method table.
abbrev pub TellsClassSize : FlatProgram → Choice → Type 0
TellsClassSize program choice =
    (segment offset class_offset data_segment vmt size : ℕ) (f : Frame) (s : State) → AreWords 4 (segment ∷ offset ∷ class_offset ∷ data_segment ∷ []) → HasStack program 64 f → vmt < 65535 → size < 65536 →
    CanLoad choice f.sp s (place_after (place segment offset) class_offset) (word_bytes (vmt + 1)) → CanLoad choice f.sp s (place data_segment vmt) (word_bytes size) →
    Ends program choice (runtime_key class_size_number) (λ address. ⊥) (λ after given. (given ≡ word_bytes size) × KeepsRest s after) 0 64 (segment ∷ offset ∷ class_offset ∷ data_segment ∷ []) f s
