-- Strings are read back.
use Rattle.std.proofs.Common.{◌≡◌, ◌≤◌, ℕ, zero, suc, ◌+◌, ◌-◌, List, [], ◌∷◌, ◌++◌, length, map, refl, ap, ◌∙◌, arith, add-zero}
use Rattle.std.specs.Prelude.{replicate}
use Rattle.std.proofs.lemmas.List.{length-append, length-replicate}
use Rattle.type_layout.specs.declared.definitions.Host.TheVariants as host
use Rattle.tp_meaning.specs.Trees.{Tree, Fork, chain}
use Rattle.tp_meaning.specs.Shapes.{before, read_ordinal, read_many}
use Rattle.constant_checker.specs.stored_values.Stored.{string_bytes}
use Rattle.initializer_meaning.specs.stored_value_laws.Laws.{byte_cell}

first_cell : (byte : ℕ) (bytes : List ℕ) → read_ordinal host.Char (byte ∷ bytes) ≡ (byte_cell byte, bytes)
first_cell byte bytes = ap (λ (n : ℕ). let x : Tree × List ℕ = (byte_cell n, bytes) in x) (add-zero byte)

pub bytes_read : (n : ℕ) (bytes rest : List ℕ) → length bytes ≡ n → read_many n (read_ordinal host.Char) (bytes ++ rest) ≡ (chain (map byte_cell bytes), rest)
bytes_read zero [] rest e = refl
bytes_read zero (byte ∷ bytes) rest e = absurd (omega (arith, e))
bytes_read (suc n) [] rest e = absurd (omega (arith, e))
bytes_read (suc n) (byte ∷ bytes) rest e =
    ap (λ (x : Tree × List ℕ). before x (read_many n (read_ordinal host.Char))) (first_cell byte (bytes ++ rest))
    ∙ ap (λ (x : Tree × List ℕ). let y : Tree × List ℕ = (Fork (byte_cell byte) x.0, x.1) in y) (bytes_read n bytes rest (omega (arith, e)))

string_length : (max : ℕ) (text : List ℕ) → length text ≤ max → length (string_bytes max text) ≡ max + 1
string_length max text fits = omega (arith, length-append text (replicate (max - length text) 0), length-replicate {A = ℕ} (max - length text) 0)

pub strings : (max : ℕ) (text rest : List ℕ) → length text ≤ max
    → read_many (max + 1) (read_ordinal host.Char) (string_bytes max text ++ rest) ≡ (chain (map byte_cell (string_bytes max text)), rest)
strings max text rest fits = bytes_read (max + 1) (string_bytes max text) rest (string_length max text fits)
