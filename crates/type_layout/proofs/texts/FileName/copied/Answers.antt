use Rattle.std.proofs.Common.{subst, sym, ◌≡◌, List, ℕ, IsUtf8}
use Rattle.type_layout.proofs.texts.FileName.copied.Goals as goal

pub invariant_of-result : goal.invariant_of-result
invariant_of-result c =
    let same : c.in-Ok.bytes.items ≡ c.self.inside.bytes.items = cc (c.in-Ok.ensures.0, c.as_slice.ensures.value) in
    let P : List ℕ → Type 0 = λ bytes. ∥ IsUtf8 bytes ∥₁ in
    subst P (sym same) c.self.invariant
