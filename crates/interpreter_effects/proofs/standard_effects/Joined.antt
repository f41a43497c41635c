-- The first of several texts that are joined.
use Rattle.std.proofs.Common.{◌≡◌, ℕ, List, ◌∷◌, ap, ◌∙◌}
use Rattle.std.specs.Prelude.{Ok}
use Rattle.common_values.specs.Strings.{joined}
use Rattle.tp_meaning.specs.Trees.{Value}
use Rattle.tp_meaning.specs.Found.{Found, ◌>>=◌}
use Rattle.tp_meaning.specs.Store.{bytes_of}
use Rattle.tp_meaning.specs.Standard.{Operand, Given, Named, all_joined}
use Rattle.interpreter_effects.specs.standard_effects.Numbers.{value_only}

pub joined_first : (one : Operand) (rest : List Operand) (v : Value) (text behind : List ℕ) → value_only one ≡ Ok v → bytes_of v ≡ Ok text → all_joined rest ≡ Ok behind
    → all_joined (one ∷ rest) ≡ Ok (joined text behind)
joined_first (Given sort w) rest v text behind e f g =
    let same : w ≡ v = cc in
    ap (λ (x : Value). bytes_of x >>= λ t. all_joined rest >>= λ b. Ok (joined t b)) same
    ∙ ap (λ (t : Found (List ℕ)). t >>= λ t. all_joined rest >>= λ b. Ok (joined t b)) f
    ∙ ap (λ (b : Found (List ℕ)). b >>= λ b. Ok (joined text b)) g
joined_first (Named at) rest v text behind e f g = absurd (cc e)
