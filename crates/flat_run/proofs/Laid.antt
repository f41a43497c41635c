-- Bytes that are laid one after another.
use Rattle.std.proofs.Common.{◌≡◌, ℕ, suc, ◌+◌, ◌*◌, ◌%◌, ◌<◌, List, ◌∷◌, length, get_or, drop, sym, ap, ◌∙◌, arith}
use Rattle.std.proofs.Math.Seq.{drop-cons}
use Rattle.flat_code.specs.declared.memory.Place.{Place}
use Rattle.flat_code.specs.declared.memory.Cell.TheVariants.{Known}
use Rattle.flat_code.specs.Memory.{Cells, address_of, put, laid}

mod_again : (o i : ℕ) → (o + i % 65536) % 65536 ≡ (o + i) % 65536
mod_again o i = omega arith

-- whole segments further on it is the same address
pub address-again : (p : Place) (i : ℕ) → address_of p (i % 65536) ≡ address_of p i
address-again p i = ap (λ n. (16 * p.segment + n) % 1048576) (mod_again p.offset i)

pub laid-more : (m : Cells) (p : Place) (bytes : List ℕ) (i : ℕ) → i < length bytes → laid m p i (drop i bytes) ≡ laid (put m (address_of p (i % 65536)) (Known (get_or bytes i 0))) p (i + 1) (drop (i + 1) bytes)
laid-more m p bytes i h =
    let next : suc i ≡ i + 1 = omega arith in
    let cut : drop i bytes ≡ get_or bytes i 0 ∷ drop (i + 1) bytes = drop-cons bytes i 0 h ∙ ap (λ k. get_or bytes i 0 ∷ drop k bytes) next in
    ap (laid m p i) cut ∙ ap (λ a. laid (put m a (Known (get_or bytes i 0))) p (i + 1) (drop (i + 1) bytes)) (sym (address-again p i))
