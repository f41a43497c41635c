-- The prefix of a file, read part by part.
use Rattle.std.proofs.Common.{◌≡◌, List, ◌++◌, ℕ, ◌+◌, ◌≤◌, ap, sym, ◌∙◌, subst, Option, Some, None, IfSome, take, drop, length}
use Rattle.std.proofs.Math.Seq.{take-add}
use Rattle.std.proofs.lemmas.List.{take-append-le}
use Rattle.tp_outside.specs.Folder.{Folder, bytes_of, IsPartAt}

-- `items` are the first `at` bytes of the file, where the folder is told
abbrev pub IsPrefix : Option Folder → List ℕ → ℕ → List ℕ → Type 0
IsPrefix known name at items = IfSome known (λ held. items ≡ take at (bytes_of held name))

-- one read more, of which the buffer has the bytes at its front
pub front-next : (known now : Option Folder) (name items next into rest : List ℕ) (at count : ℕ) → now ≡ known → count ≤ length into → IsPrefix known name at items → IfSome now (λ held. IsPartAt (bytes_of held name) at count into) → next ≡ items ++ take count (into ++ rest) → IsPrefix known name (at + count) next
front-next None now name items next into rest at count same fits front part grown = tt
front-next (Some held) now name items next into rest at count same fits front part grown =
    let P : Option Folder → Type 0 = λ known. IfSome known (λ held. IsPartAt (bytes_of held name) at count into) in
    let is_part = subst P same part in
    grown ∙ ap (λ xs. items ++ xs) (take-append-le count into rest fits ∙ is_part.part)
    ∙ ap (λ xs. xs ++ take count (drop at (bytes_of held name))) front ∙ sym (take-add at count (bytes_of held name))
