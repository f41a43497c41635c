use Rattle.std.proofs.Common.{◌≡◌, ◌+◌, ◌-◌, ◌*◌, ◌/◌, ◌∙◌, ◌∷◌, [], ◌++◌, ap, arith}
use Rattle.std.specs.Prelude.{replicate}
use Rattle.literal_programs.specs.literal_code.Code.{spelled, start_code, error_code}
use Rattle.literal_programs.specs.literal_code.Image.{code_size, data_segment}
use Rattle.literal_programs.proofs.literal_code.CodeLaws.{image_from_parts}
use Rattle.literal_programs.proofs.literal_code.image.lay_out.Goals as goal

pub returns-clause-bytes : goal.returns-clause-bytes
returns-clause-bytes c =
    let acts = c.args.program.now.acts.items in
    let size : 8 + c.len.result + 4 ≡ code_size acts = omega (arith, c.len.ensures, c.in_ok-body.ensures.size) in
    let segment : (8 + c.len.result + 4 + 15) / 16 ≡ data_segment acts = ap (λ n. (n + 15) / 16) size in
    let gap : 16 * ((8 + c.len.result + 4 + 15) / 16) - (8 + c.len.result + 4) ≡ 16 * data_segment acts - code_size acts = ap (λ n. 16 * ((n + 15) / 16) - n) size in
    let body = c.as_slice.ensures ∙ c.in_ok-body.ensures.code in
    c.in_ok-bytes.ensures
    ∙ ap (λ p. spelled (start_code ((8 + c.len.result + 4 + 15) / 16)) ++ c.as_slice.result.now ++ spelled error_code ++ replicate (16 * ((8 + c.len.result + 4 + 15) / 16) - (8 + c.len.result + 4)) 0 ++ p ++ 0 ∷ []) c.as_slice-2.ensures.value
    ∙ image_from_parts ((8 + c.len.result + 4 + 15) / 16) (16 * ((8 + c.len.result + 4 + 15) / 16) - (8 + c.len.result + 4)) c.as_slice.result.now c.args.program.now.pool.items acts body gap segment
