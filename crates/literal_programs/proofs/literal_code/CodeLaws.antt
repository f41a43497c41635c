-- Code that is put together from the front.
use Rattle.std.proofs.Common.{◌≡◌, ℕ, ◌+◌, ◌<◌, ◌≤◌, List, [], ◌∷◌, ◌++◌, length, take, get_or, refl, sym, ap, ◌∙◌, ◌*◌, ◌-◌, arith, append_assoc, append-nil}
use Rattle.std.specs.Prelude.{replicate}
use Rattle.std.specs.List.{flat_map}
use Rattle.std.proofs.lemmas.List.{take_more}
use Rattle.std.proofs.lemmas.Grind.{flat_map-append}
use Rattle.x86_table.specs.declared.instr.Instr.{Instr}
use Rattle.x86_table.specs.Spelling.{spelling}
use Rattle.literal_programs.specs.declared.literal_code.act.Act.{Act}
use Rattle.literal_programs.specs.declared.literal_code.act.Act.TheVariants as act
use Rattle.literal_programs.specs.literal_code.Code.{spelled, start_code, error_code, program_code, act_code, acts_code, acts_size, halt_code}
use Rattle.literal_programs.specs.literal_code.Image.{code_size, data_segment, image_of}
use Rattle.literal_programs.proofs.literal_code.ImageLaws.{spelled-append}

-- the acts' code and the end behind it
pub acts_code-flat_map : (acts : List Act) → spelled (acts_code acts) ≡ spelled (flat_map act_code acts) ++ spelled (halt_code 0)
acts_code-flat_map [] = refl
acts_code-flat_map (a ∷ acts) =
    spelled-append (act_code a) (acts_code acts) ∙ ap (λ bs. spelled (act_code a) ++ bs) (acts_code-flat_map acts)
    ∙ sym (append_assoc (spelled (act_code a)) (spelled (flat_map act_code acts)) (spelled (halt_code 0)))
    ∙ ap (λ bs. bs ++ spelled (halt_code 0)) (sym (spelled-append (act_code a) (flat_map act_code acts)))

-- one act more
pub spelled-more : (old new : List ℕ) (acts : List Act) (i : ℕ) (d a : Act) → i < length acts → a ≡ get_or acts i d → old ≡ spelled (flat_map act_code (take i acts)) → new ≡ old ++ spelled (act_code a) → new ≡ spelled (flat_map act_code (take (i + 1) acts))
spelled-more old new acts i d a within is before step =
    let front : List Instr = flat_map act_code (take i acts) in
    let whole : take (i + 1) acts ≡ take i acts ++ a ∷ [] = take_more acts i d within ∙ ap (λ x. take i acts ++ x ∷ []) (sym is) in
    let last : flat_map act_code (a ∷ []) ≡ act_code a = append-nil (act_code a) in
    step ∙ ap (λ bs. bs ++ spelled (act_code a)) before
    ∙ sym (spelled-append front (act_code a))
    ∙ ap (λ is. spelled (front ++ is)) (sym last)
    ∙ sym (ap spelled (flat_map-append act_code (take i acts) (a ∷ [])))
    ∙ sym (ap (λ l. spelled (flat_map act_code l)) whole)

-- one instruction more
pub spelled-next : (start old new bytes : List ℕ) (code : List Instr) (i : ℕ) (d x : Instr) → i < length code → x ≡ get_or code i d → old ≡ start ++ spelled (take i code) → bytes ≡ spelling x → new ≡ old ++ bytes → new ≡ start ++ spelled (take (i + 1) code)
spelled-next start old new bytes code i d x within is before one step =
    let whole : take (i + 1) code ≡ take i code ++ x ∷ [] = take_more code i d within ∙ ap (λ y. take i code ++ y ∷ []) (sym is) in
    let single : spelled (x ∷ []) ≡ spelling x = append-nil (spelling x) in
    step ∙ ap (λ bs. bs ++ bytes) before ∙ ap (λ bs. (start ++ spelled (take i code)) ++ bs) (one ∙ sym single)
    ∙ append_assoc start (spelled (take i code)) (spelled (x ∷ []))
    ∙ ap (λ bs. start ++ bs) (sym (spelled-append (take i code) (x ∷ [])))
    ∙ ap (λ is. start ++ spelled is) (sym whole)

-- the parts of an image
pub image_from_parts : (segment gap : ℕ) (body pool : List ℕ) (acts : List Act) → body ≡ spelled (acts_code acts) → gap ≡ 16 * data_segment acts - code_size acts → segment ≡ data_segment acts → spelled (start_code segment) ++ body ++ spelled error_code ++ replicate gap 0 ++ pool ++ 0 ∷ [] ≡ image_of pool acts
image_from_parts segment gap body pool acts is_body is_gap is_segment =
    let d : ℕ = data_segment acts in
    let zeros : List ℕ = replicate (16 * d - code_size acts) 0 in
    let s : List ℕ = spelled (start_code d) in
    let b : List ℕ = spelled (acts_code acts) in
    let e : List ℕ = spelled error_code in
    let code : s ++ b ++ e ≡ spelled (program_code d acts) =
    sym (spelled-append (start_code d ++ acts_code acts) error_code ∙ ap (λ bs. bs ++ e) (spelled-append (start_code d) (acts_code acts))) in
    ap (λ g. spelled (start_code g) ++ body ++ e ++ replicate gap 0 ++ pool ++ 0 ∷ []) is_segment
    ∙ ap (λ bs. s ++ bs ++ e ++ replicate gap 0 ++ pool ++ 0 ∷ []) is_body
    ∙ ap (λ g. s ++ b ++ e ++ replicate g 0 ++ pool ++ 0 ∷ []) is_gap
    ∙ ap (λ bs. bs ++ zeros ++ pool ++ 0 ∷ []) code
    ∙ append_assoc (spelled (program_code d acts) ++ zeros) pool (0 ∷ [])
    ∙ append_assoc (spelled (program_code d acts)) zeros (pool ++ 0 ∷ [])

-- how long the acts' code is
pub acts_size_bound : (acts : List Act) → acts_size acts ≤ 5 + 10 * length acts
acts_size_bound [] = omega arith
acts_size_bound (act.Write from count ∷ acts) = let h = acts_size_bound acts in omega arith
acts_size_bound (act.Halt code ∷ acts) = let h = acts_size_bound acts in omega arith
