-- The cells of strings.
use Rattle.std.proofs.Common.{◌≡◌, ℕ, zero, suc, ◌+◌, ◌-◌, ◌<◌, ◌≤◌, List, [], ◌∷◌, ◌++◌, length, map, take, drop, get_or, Option, Some, None, refl, sym, ap, subst, ◌∙◌, arith}
use Rattle.std.specs.Prelude.{pos, Ok, Err}
use Rattle.std.proofs.lemmas.List.{append_assoc, drop-map, length-map, take_all}
use Rattle.std.proofs.Math.Seq.{drop-cons}
use Rattle.std.proofs.Math.Numerals.{add-one}
use Rattle.interpreter_store.specs.declared.cell_store.cells.Tree.{Tree}
use Rattle.tp_meaning.specs.Trees.{Tree as PureTree, Fork, Ordinal, holding, chain}
use Rattle.tp_meaning.specs.Found.{Trap, Found, ◌>>=◌}
use Rattle.tp_meaning.specs.Store.{byte_in, bytes_in, bytes_over, cut_over}
use Rattle.interpreter_store.specs.declared.cell_store.traps.Stop.{Stop}
use Rattle.interpreter_store.specs.declared.cell_store.traps.Stop.TheVariants as stop
use Rattle.interpreter_store.specs.cell_store.Views.{view_tree, view_parts}
use Rattle.interpreter_store.specs.cell_store.Finding.{view_trap, Gets}
use Rattle.interpreter_store.specs.cell_store.Parts.{byte_cell}

-- bytes that were found, with those of the rest behind them
abbrev pub after_prefix : List ℕ → Found (List ℕ) → Found (List ℕ)
after_prefix front found = found >>= λ rest. Ok (front ++ rest)

-- the bytes of so many cells from one on
abbrev pub bytes_from : ℕ → ℕ → List Tree → Found (List ℕ)
bytes_from i count cells = bytes_in (count - i) (view_parts (drop i cells))

regroup : (front : List ℕ) (byte : ℕ) (rest : Found (List ℕ)) → after_prefix front (rest >>= λ bytes. Ok (byte ∷ bytes)) ≡ after_prefix (front ++ byte ∷ []) rest
regroup front byte (Ok bytes) = ap Ok (sym (append_assoc front (byte ∷ []) bytes))
regroup front byte (Err trap) = refl

one_of : (i : ℕ) (cells : List Tree) (count : ℕ) (d : Tree) → i < length cells → i < count → bytes_from i count cells ≡ (byte_in (view_tree (get_or cells i d)) >>= λ byte. bytes_from (i + 1) count cells >>= λ bytes. Ok (byte ∷ bytes))
one_of i cells count d h less =
    let left : count - i ≡ suc (count - (i + 1)) = omega (arith, less) in
    ap (λ n. bytes_in n (view_parts (drop i cells))) left
    ∙ ap (λ (rest : List Tree). bytes_in (suc (count - (i + 1))) (view_parts rest)) (drop-cons cells i d h)
    ∙ ap (λ j. byte_in (view_tree (get_or cells i d)) >>= λ byte. bytes_in (count - (i + 1)) (view_parts (drop j cells)) >>= λ bytes. Ok (byte ∷ bytes)) (sym (add-one i))

pub bytes_more : (front : List ℕ) (byte i : ℕ) (cells : List Tree) (count : ℕ) (d : Tree) → i < length cells → i < count → byte_in (view_tree (get_or cells i d)) ≡ Ok byte → after_prefix front (bytes_from i count cells) ≡ after_prefix (front ++ byte ∷ []) (bytes_from (i + 1) count cells)
bytes_more front byte i cells count d h less e =
    ap (after_prefix front) (one_of i cells count d h less)
    ∙ ap (λ (b : Found ℕ). after_prefix front (b >>= λ byte. bytes_from (i + 1) count cells >>= λ bytes. Ok (byte ∷ bytes))) e
    ∙ regroup front byte (bytes_from (i + 1) count cells)

bytes_trap : (front : List ℕ) (trap : Trap) (i : ℕ) (cells : List Tree) (count : ℕ) (d : Tree) → i < length cells → i < count → byte_in (view_tree (get_or cells i d)) ≡ Err trap → after_prefix front (bytes_from i count cells) ≡ Err trap
bytes_trap front trap i cells count d h less e =
    ap (after_prefix front) (one_of i cells count d h less)
    ∙ ap (λ (b : Found ℕ). after_prefix front (b >>= λ byte. bytes_from (i + 1) count cells >>= λ bytes. Ok (byte ∷ bytes))) e

front_none : (found : Found (List ℕ)) → after_prefix [] found ≡ found
front_none (Ok bytes) = refl
front_none (Err trap) = refl

pub bytes_first : (cells : List Tree) (count : ℕ) → bytes_in count (view_parts cells) ≡ after_prefix [] (bytes_from 0 count cells)
bytes_first cells count =
    let all : count ≡ count - 0 = omega arith in
    ap (λ n. bytes_in n (view_parts cells)) all ∙ sym (front_none (bytes_from 0 count cells))

-- a byte that isn't found stops the bytes
pub bytes_stop : {A : Type 0} (view : A → List ℕ) (stop : Stop) (front : List ℕ) (i : ℕ) (cells : List Tree) (count : ℕ) (d : Tree) (whole : Found (List ℕ)) → i < length cells → i < count
    → whole ≡ after_prefix front (bytes_from i count cells) → Gets {A = ℕ} (λ byte. byte) (Err stop) (byte_in (view_tree (get_or cells i d))) → Gets view (Err stop) whole
bytes_stop view stop.OutOfMemory front i cells count d whole h less e byte = tt
bytes_stop view (stop.Trapped trap) front i cells count d whole h less e byte = e ∙ bytes_trap front (view_trap trap) i cells count d h less byte

-- ---- writing

bytes_over_chain : (bytes : List ℕ) (cells : List PureTree) → length bytes ≤ length cells → bytes_over bytes (chain cells) ≡ chain (map byte_cell bytes ++ drop (length bytes) cells)
bytes_over_chain [] cells h = refl
bytes_over_chain (byte ∷ bytes) [] h = absurd (omega (arith, h))
bytes_over_chain (byte ∷ bytes) (cell ∷ cells) h = ap (λ (t : PureTree). Fork (byte_cell byte) t) (bytes_over_chain bytes cells (omega (arith, h)))

pub cut_over_is : (text : List ℕ) (cells over : List Tree) → length text ≤ length cells
    → map view_tree over ≡ holding (Ordinal (pos (length text))) ∷ (map byte_cell text ++ map view_tree (drop (length text) cells)) → view_parts over ≡ cut_over text (view_parts cells)
cut_over_is text cells over h e =
    let head = holding (Ordinal (pos (length text))) in
    let count : length text ≤ length (map view_tree cells) = omega (arith, h, length-map cells view_tree) in
    ap chain e
    ∙ ap (λ (rest : List PureTree). Fork head (chain (map byte_cell text ++ rest))) (sym (drop-map view_tree (length text) cells))
    ∙ ap (λ (t : PureTree). Fork head t) (sym (bytes_over_chain text (map view_tree cells) count))

-- the cell of the length stands before the others
pub first_part : (parts : List Tree) → 1 ≤ length parts → (head : PureTree) × (view_parts parts ≡ Fork head (view_parts (take (length parts - 1) (drop 1 parts))))
first_part [] h = absurd (omega (arith, h))
first_part (part ∷ parts) h =
    let all : take (length (part ∷ parts) - 1) parts ≡ parts = take_all (length (part ∷ parts) - 1) parts (omega arith) in
    (view_tree part, ap (λ (rest : List Tree). Fork (view_tree part) (view_parts rest)) (sym all))
