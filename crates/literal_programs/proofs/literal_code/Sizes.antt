-- How large an image is.
use Rattle.std.proofs.Common.{◌≡◌, ℕ, ◌+◌, List, [], ◌∷◌, length, refl, arith}
use Rattle.std.specs.Prelude.{sum_by}
use Rattle.std.proofs.lemmas.List.Sums.{sum_by-cons}
use Rattle.literal_programs.specs.declared.literal_code.act.Act.{Act}
use Rattle.literal_programs.specs.declared.literal_code.act.Act.TheVariants as act
use Rattle.literal_programs.specs.literal_code.Statement.{size_of}
use Rattle.literal_programs.specs.literal_code.Act.{statement_of, statements_in}
use Rattle.literal_programs.specs.literal_code.Code.{acts_size}
use Rattle.literal_programs.specs.literal_code.Image.{data_segment, image_of}
use Rattle.literal_programs.specs.literal_code.Size.{code_bytes, image_size}
use Rattle.literal_programs.proofs.literal_code.ImageLaws.{length-image}

-- the code of acts is as long as that of what they say, with the end behind it
acts_sized : (pool : List ℕ) (acts : List Act) → acts_size acts ≡ sum_by code_bytes (statements_in pool acts) + 5
acts_sized pool [] = refl
acts_sized pool (act.Write from count ∷ acts) =
    let rest = acts_sized pool acts in
    let more : sum_by code_bytes (statements_in pool (act.Write from count ∷ acts)) ≡ 10 + sum_by code_bytes (statements_in pool acts) =
    sum_by-cons code_bytes (statement_of pool (act.Write from count)) (statements_in pool acts) in
    omega (arith, rest, more)
acts_sized pool (act.Halt code ∷ acts) =
    let rest = acts_sized pool acts in
    let more : sum_by code_bytes (statements_in pool (act.Halt code ∷ acts)) ≡ 5 + sum_by code_bytes (statements_in pool acts) =
    sum_by-cons code_bytes (statement_of pool (act.Halt code)) (statements_in pool acts) in
    omega (arith, rest, more)

pub image_sized : (pool : List ℕ) (acts : List Act) → length pool ≡ size_of (statements_in pool acts) → length (image_of pool acts) ≡ image_size (statements_in pool acts)
image_sized pool acts full =
    let long = length-image (data_segment acts) pool acts in
    let code = acts_sized pool acts in
    omega (arith, long, code, full)
