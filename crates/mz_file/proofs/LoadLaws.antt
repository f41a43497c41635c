-- Memory that holds an image, as the image is changed; and the memory of a loaded executable.
use Rattle.std.proofs.Common.{◌≡◌, ◌≢◌, All, drop, ◌∷◌, add-one, ℕ, ◌+◌, ◌-◌, ◌*◌, ◌<◌, ◌≤◌, Bool, true, false, cond, List, length, get_or, refl, sym, ap, ap₂, ◌∙◌, subst, arith}
use Rattle.std.proofs.lemmas.Bool.Decides.{nat_tests, Decides-eqb}
use Rattle.std.proofs.lemmas.List.{get_or-set_same, get_or-set_other}
use Rattle.std.proofs.lemmas.List.FromFn.{get_or-map-range_with_len, fill_by_all}
use Rattle.std.proofs.Math.ListN.{set, length-set}
use Rattle.std.proofs.Math.Seq.{drop-cons}
use Rattle.std.specs.Bool.{nat_lt, nat_eq}
use Rattle.cpu_8086.specs.Memory.{word_of, low_byte, high_byte}
use Rattle.cpu_8086.specs.declared.registers.Far.{Far}
use Rattle.mz_file.specs.declared.executable.Exe.{Exe}
use Rattle.mz_file.specs.Format.{IsWithin}
use Rattle.mz_file.specs.Words.{word_at, with_word}
use Rattle.mz_file.specs.Load.{image_byte, loaded_byte, loaded_memory, loaded_segment, with_loaded_segment, relocated, HoldsImage}

image_byte-set_other : (image : List ℕ) (place address value : ℕ) → address ≢ 0x700 + place → image_byte (set image place value) address ≡ image_byte image address
image_byte-set_other image place address value differs = either (nat_lt address 0x700) refl
  where
    either : (low : Bool) → nat_lt address 0x700 ≡ low → cond low 0 (get_or (set image place value) (address - 0x700) 0) ≡ cond low 0 (get_or image (address - 0x700) 0)
    either true is = refl
    either false is =
        let high : 0x700 ≤ address = grind (arith, nat_tests, is) in
        get_or-set_other image place (address - 0x700) value 0 (λ same. differs (omega arith))

image_byte-at : (image : List ℕ) (place : ℕ) → image_byte image (0x700 + place) ≡ get_or image place 0
image_byte-at image place =
    let high : nat_lt (0x700 + place) 0x700 ≡ false = grind (arith, nat_tests) in
    let back : (0x700 + place) - 0x700 ≡ place = omega arith in
    rw (high, back) refl

-- a byte of the image is written
holds-set : (memory image : List ℕ) (place value : ℕ) → place < length image → 0x700 + length image ≤ 1048576 → HoldsImage memory image → HoldsImage (set memory (0x700 + place) value) (set image place value)
holds-set memory image place value inside room held = record {
  size = length-set memory (0x700 + place) value ∙ held.size;
  bytes = λ address below. either address below (nat_eq address (0x700 + place)) refl;
}
  where
    either : (address : ℕ) → address < 1048576 → (same : Bool) → nat_eq address (0x700 + place) ≡ same → get_or (set memory (0x700 + place) value) address 0 ≡ image_byte (set image place value) address
    either address below true is =
        let same : address ≡ 0x700 + place = (Decides-eqb address (0x700 + place)).0 is in
        let fits : 0x700 + place < length memory = omega (arith, held.size) in
        let both : get_or (set memory (0x700 + place) value) (0x700 + place) 0 ≡ image_byte (set image place value) (0x700 + place) =
        get_or-set_same memory (0x700 + place) value 0 fits ∙ sym (image_byte-at (set image place value) place ∙ get_or-set_same image place value 0 inside) in
        let P : ℕ → Type 0 = λ address. get_or (set memory (0x700 + place) value) address 0 ≡ image_byte (set image place value) address in
        subst P (sym same) both
    either address below false is =
        let differs : address ≢ 0x700 + place = λ same. let equal : nat_eq address (0x700 + place) ≡ true = (Decides-eqb address (0x700 + place)).1 same in cc in
        get_or-set_other memory (0x700 + place) address value 0 differs ∙ held.bytes address below ∙ sym (image_byte-set_other image place address value differs)

-- a word of the image is written
holds-with_word : (memory image : List ℕ) (place word : ℕ) → place + 2 ≤ length image → 0x700 + length image ≤ 1048576 → HoldsImage memory image → HoldsImage (with_word memory (0x700 + place) word) (with_word image place word)
holds-with_word memory image place word inside room held =
    let low = holds-set memory image place (low_byte word) (omega arith) room held in
    let longer : length (set image place (low_byte word)) ≡ length image = length-set image place (low_byte word) in
    let high = holds-set (set memory (0x700 + place) (low_byte word)) (set image place (low_byte word)) (place + 1) (high_byte word) (omega arith) (omega arith) low in
    let next : 0x700 + (place + 1) ≡ 0x700 + place + 1 = omega arith in
    let P : ℕ → Type 0 = λ at. HoldsImage (set (set memory (0x700 + place) (low_byte word)) at (high_byte word)) (with_word image place word) in
    subst P next high

-- a word of the image is read
word_at-held : (memory image : List ℕ) (place : ℕ) → place + 2 ≤ length image → 0x700 + length image ≤ 1048576 → HoldsImage memory image → word_at memory (0x700 + place) ≡ word_at image place
word_at-held memory image place inside room held =
    let next : 0x700 + place + 1 ≡ 0x700 + (place + 1) = omega arith in
    let low = held.bytes (0x700 + place) (omega arith) ∙ image_byte-at image place in
    let high = held.bytes (0x700 + (place + 1)) (omega arith) ∙ image_byte-at image (place + 1) in
    ap₂ word_of low (ap (λ at. get_or memory at 0) next ∙ high)

-- a word of the image becomes a loaded segment
pub holds-with_loaded_segment : (memory image : List ℕ) (place : ℕ) → place + 2 ≤ length image → 0x700 + length image ≤ 1048576 → HoldsImage memory image → HoldsImage (with_loaded_segment memory (0x700 + place)) (with_loaded_segment image place)
holds-with_loaded_segment memory image place inside room held =
    let P : ℕ → Type 0 = λ word. HoldsImage (with_word memory (0x700 + place) (loaded_segment word)) (with_loaded_segment image place) in
    subst P (sym (word_at-held memory image place inside room held)) (holds-with_word memory image place (loaded_segment (word_at image place)) inside room held)

pub length-with_word : (bytes : List ℕ) (place word : ℕ) → length (with_word bytes place word) ≡ length bytes
length-with_word bytes place word = length-set (set bytes place (low_byte word)) (place + 1) (high_byte word) ∙ length-set bytes place (low_byte word)

-- memory that holds the relocated image is that of the loaded executable
pub held_is_loaded : (exe : Exe) (memory : List ℕ) → HoldsImage memory (relocated exe.image exe.relocations) → memory ≡ loaded_memory exe 1048576
unfolding loaded_memory
held_is_loaded exe memory held = fill_by_all (loaded_byte exe) memory 1048576 0 held.size held.bytes

pub get_or-loaded_memory : (exe : Exe) (size address : ℕ) → address < size → get_or (loaded_memory exe size) address 0 ≡ loaded_byte exe address
unfolding loaded_memory
get_or-loaded_memory exe size address below = get_or-map-range_with_len (loaded_byte exe) 0 size address address 0 below (omega arith)

-- after so many relocations: the memory holds an image which those that are left make the whole
pub record IsUnderWay (memory image : List ℕ) (fars : List Far) (index : ℕ) : Type 0 where
  pub part : List ℕ
  pub held : HoldsImage memory part
  pub size : length part ≡ length image
  pub left : relocated part (drop index fars) ≡ relocated image fars

-- one relocation more
pub under_way-next : (memory image : List ℕ) (fars : List Far) (index : ℕ) (none : Far) → All (IsWithin (length image)) fars → 0x700 + length image ≤ 1048576 → index < length fars → IsUnderWay memory image fars index → IsUnderWay (with_loaded_segment memory (0x700 + (16 * (get_or fars index none).segment + (get_or fars index none).offset))) image fars (index + 1)
under_way-next memory image fars index none inside room below under_way =
    let far = get_or fars index none in
    let place = 16 * far.segment + far.offset in
    let part = under_way.part in
    let within : place + 2 ≤ length part = omega (arith, inside index none below, under_way.size) in
    let split : drop index fars ≡ far ∷ drop (index + 1) fars = rw (add-one, drop-cons fars index none) refl in
    record {
      part = with_loaded_segment part place;
      held = holds-with_loaded_segment memory part place within (omega (arith, under_way.size)) under_way.held;
      size = length-with_word part place (loaded_segment (word_at part place)) ∙ under_way.size;
      left = sym (ap (relocated part) split) ∙ under_way.left;
    }
