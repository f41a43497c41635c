use Rattle.std.proofs.Common.{ℕ, List, ap, ◌∙◌}
use Rattle.flat_code.specs.Program.{Datum}
use Rattle.rt_text.proofs.item.Goals as goal

-- 256 copies of a blank
pub returns : goal.returns
returns c = ap (λ (bytes : List ℕ). let d : Datum = record { size = 512; first = bytes } in d) (c.from_vec-first.ensures ∙ c.in_ok-vec.ensures.items_if_clones_equal (λ y h. h))
