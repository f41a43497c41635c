-- Parts that are read one behind another.
use Rattle.std.proofs.Common.{◌≡◌, ℕ, zero, suc, ◌+◌, ◌-◌, ◌<◌, ◌≤◌, List, [], ◌∷◌, ◌++◌, length, map, drop, Some, refl, sym, ap, ◌∙◌, arith}
use Rattle.std.specs.Prelude.{slice_get}
use Rattle.std.proofs.lemmas.List.{drop_all}
use Rattle.tp_meaning.specs.Trees.{Tree, Tip, Fork, chain}
use Rattle.tp_meaning.specs.Shapes.{Reader, before, read_many, read_chain}
use Rattle.interpreter_store.specs.typed_cells.Copies.{onto}
use Rattle.interpreter_effects.specs.initializers.Reading.{behind}

onto_push : (parts : List Tree) (part tree : Tree) → onto (parts ++ part ∷ []) tree ≡ onto parts (Fork part tree)
onto_push [] part tree = refl
onto_push (x ∷ parts) part tree = ap (λ rest. Fork x rest) (onto_push parts part tree)

onto_tip : (parts : List Tree) → onto parts Tip ≡ chain parts
onto_tip [] = refl
onto_tip (x ∷ parts) = ap (λ rest. Fork x rest) (onto_tip parts)

-- what is read first stands behind the parts so far
pushed : (parts : List Tree) (first : Tree × List ℕ) (read : Reader) → behind parts (before first read) ≡ behind (parts ++ first.0 ∷ []) (read first.1)
pushed parts first read = ap (λ (tree : Tree). (tree, (read first.1).1)) (sym (onto_push parts first.0 (read first.1).0))

-- ---- so many parts of one type

pub many_begins : (count : ℕ) (read : Reader) (bytes : List ℕ) → read_many count read bytes ≡ behind [] (read_many (count - 0) read bytes)
many_begins count read bytes = let same : count ≡ count - 0 = omega arith in ap (λ n. behind [] (read_many n read bytes)) same

pub many_turns : (parts : List Tree) (count i : ℕ) (read : Reader) (rest : List ℕ) (first : Tree × List ℕ) → i < count → first ≡ read rest
    → behind parts (read_many (count - i) read rest) ≡ behind (parts ++ first.0 ∷ []) (read_many (count - (i + 1)) read first.1)
many_turns parts count i read rest first h e =
    let left = count - (i + 1) in
    let one : count - i ≡ suc left = omega (arith, h) in
    ap (λ n. behind parts (read_many n read rest)) one
    ∙ ap (λ (x : Tree × List ℕ). behind parts (before x (read_many left read))) (sym e)
    ∙ pushed parts first (read_many left read)

pub many_ends : (parts : List Tree) (count i : ℕ) (read : Reader) (rest : List ℕ) → count ≤ i → behind parts (read_many (count - i) read rest) ≡ (chain parts, rest)
many_ends parts count i read rest h =
    let none : count - i ≡ 0 = omega (arith, h) in
    ap (λ n. behind parts (read_many n read rest)) none ∙ ap (λ (tree : Tree). (tree, rest)) (onto_tip parts)

-- ---- parts of their own types

drop_turn : {X : Type 0} (xs : List X) (i : ℕ) (x : X) → slice_get xs i ≡ Some x → drop i xs ≡ x ∷ drop (suc i) xs
drop_turn [] i x e = absurd cc
drop_turn {X} (y ∷ xs) zero x e = let same : y ≡ x = cc in ap (λ (z : X). z ∷ xs) same
drop_turn {X} (y ∷ xs) (suc i) x e = drop_turn xs i x e

pub chain_turns : {X : Type 0} (parts : List Tree) (reader : X → Reader) (xs : List X) (i : ℕ) (x : X) (rest : List ℕ) (first : Tree × List ℕ) → slice_get xs i ≡ Some x → first ≡ reader x rest
    → behind parts (read_chain (map reader (drop i xs)) rest) ≡ behind (parts ++ first.0 ∷ []) (read_chain (map reader (drop (i + 1) xs)) first.1)
chain_turns {X} parts reader xs i x rest first e f =
    let left = read_chain (map reader (drop (i + 1) xs)) in
    let next : suc i ≡ i + 1 = omega arith in
    ap (λ (l : List X). behind parts (read_chain (map reader l) rest)) (drop_turn xs i x e ∙ ap (λ n. x ∷ drop n xs) next)
    ∙ ap (λ (y : Tree × List ℕ). behind parts (before y left)) (sym f)
    ∙ pushed parts first left

pub chain_ends : {X : Type 0} (parts : List Tree) (reader : X → Reader) (xs : List X) (i : ℕ) (rest : List ℕ) → length xs ≤ i
    → behind parts (read_chain (map reader (drop i xs)) rest) ≡ (chain parts, rest)
chain_ends {X} parts reader xs i rest h =
    ap (λ (l : List X). behind parts (read_chain (map reader l) rest)) (drop_all i xs h) ∙ ap (λ (tree : Tree). (tree, rest)) (onto_tip parts)

-- ---- the whole

-- the parts that were read make the tree that is read
pub whole_read : (parts : List Tree) (tree : Tree) (whole : Tree × List ℕ) (rest : List ℕ) → whole ≡ (chain parts, rest) → tree ≡ chain parts → (tree, rest) ≡ whole
whole_read parts tree whole rest e f = ap (λ (x : Tree). (x, rest)) f ∙ sym e
