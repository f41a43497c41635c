-- The image as it is loaded.
use Rattle.std.proofs.Common.{◌≡◌, ℕ, ◌+◌, ◌-◌, ◌*◌, ◌/◌, ◌%◌, ◌<◌, List, [], ◌∷◌, ◌++◌, length, get_or, refl, sym, ap, ◌∙◌, arith, append_assoc, length-append}
use Rattle.std.specs.Prelude.{replicate, drop}
use Rattle.std.proofs.lemmas.List.{get_or_append_left, get_or-append-add, length-replicate}
use Rattle.cpu_8086.specs.Memory.{word_of}
use Rattle.x86_table.specs.declared.instr.Instr.{Instr}
use Rattle.x86_table.specs.Spelling.{spelling, word_bytes, word_modrm}
use Rattle.literal_programs.specs.declared.literal_code.act.Act.{Act}
use Rattle.literal_programs.specs.declared.literal_code.act.Act.TheVariants as act
use Rattle.mz_file.specs.Load.{relocated, loaded_segment}
use Rattle.literal_programs.specs.literal_code.Code.{spelled, acts_code, error_code, program_code, acts_size}
use Rattle.literal_programs.specs.literal_code.Image.{code_size, data_segment, data_of, image_with, image_of}

pub spelled-append : (is js : List Instr) → spelled (is ++ js) ≡ spelled is ++ spelled js
spelled-append [] js = refl
spelled-append (i ∷ is) js = ap (λ bs. spelling i ++ bs) (spelled-append is js) ∙ sym (append_assoc (spelling i) (spelled is) (spelled js))

pub length-acts_code : (acts : List Act) → length (spelled (acts_code acts)) ≡ acts_size acts
unfolding word_bytes
length-acts_code [] = refl
length-acts_code (act.Write from count ∷ acts) = let h = length-acts_code acts in omega (arith, h)
length-acts_code (act.Halt code ∷ acts) = let h = length-acts_code acts in omega (arith, h)

pub length-program_code : (segment : ℕ) (acts : List Act) → length (spelled (program_code segment acts)) ≡ code_size acts
unfolding word_bytes word_modrm
length-program_code segment acts =
    let parts = ap length (spelled-append (acts_code acts) error_code) in
    let sum = length-append (spelled (acts_code acts)) (spelled error_code) in
    let h = length-acts_code acts in
    omega (arith, parts, sum, h)

-- the relocation moves the data segment's word
pub relocated-image : (pool : List ℕ) (acts : List Act) → data_segment acts + 0x70 < 65536 → relocated (image_of pool acts) (record { offset = 1; segment = 0 } ∷ []) ≡ image_with (data_segment acts + 0x70) pool acts
unfolding word_bytes word_modrm
relocated-image pool acts small =
    let d : ℕ = data_segment acts in
    let moved : loaded_segment (word_of (d % 256) (d / 256)) ≡ d + 0x70 = omega arith in
    ap (λ w. 184 ∷ (w % 256) ∷ (w / 256) ∷ drop 3 (image_of pool acts)) moved

-- where the parts of the loaded image lie
pub code_lies : (segment : ℕ) (pool : List ℕ) (acts : List Act) (k : ℕ) → k < length (spelled (program_code segment acts)) → get_or (image_with segment pool acts) k 0 ≡ get_or (spelled (program_code segment acts)) k 0
code_lies segment pool acts k h = get_or_append_left (spelled (program_code segment acts)) (replicate (16 * data_segment acts - code_size acts) 0 ++ data_of pool) 0 k h

pub pool_lies : (segment : ℕ) (pool : List ℕ) (acts : List Act) (k : ℕ) → k < length pool → get_or (image_with segment pool acts) (16 * data_segment acts + k) 0 ≡ get_or pool k 0
pool_lies segment pool acts k h =
    let code : List ℕ = spelled (program_code segment acts) in
    let gap : ℕ = 16 * data_segment acts - code_size acts in
    let zeros : List ℕ = replicate gap 0 in
    let size = length-program_code segment acts in
    let filled : length zeros ≡ gap = length-replicate gap 0 in
    let first : 16 * data_segment acts + k ≡ length code + (gap + k) = omega (arith, size) in
    let second : gap + k ≡ length zeros + k = omega (arith, filled) in
    ap (λ n. get_or (code ++ (zeros ++ data_of pool)) n 0) first
    ∙ get_or-append-add code (zeros ++ data_of pool) (gap + k) 0
    ∙ ap (λ n. get_or (zeros ++ data_of pool) n 0) second
    ∙ get_or-append-add zeros (data_of pool) k 0
    ∙ get_or_append_left pool (0 ∷ []) 0 k h

pub length-image : (segment : ℕ) (pool : List ℕ) (acts : List Act) → length (image_with segment pool acts) ≡ 16 * data_segment acts + length pool + 1
length-image segment pool acts =
    let code : List ℕ = spelled (program_code segment acts) in
    let gap : ℕ = 16 * data_segment acts - code_size acts in
    let zeros : List ℕ = replicate gap 0 in
    let size = length-program_code segment acts in
    let filled : length zeros ≡ gap = length-replicate gap 0 in
    let whole = length-append code (zeros ++ data_of pool) in
    let behind = length-append zeros (data_of pool) in
    let rest = length-append pool (0 ∷ []) in
    omega (arith, size, filled, whole, behind, rest)
