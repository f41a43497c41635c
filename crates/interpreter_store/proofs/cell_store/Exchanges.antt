-- What the exchange of a part gives for the tree around it.
use Rattle.std.proofs.Common.{◌≡◌, ℕ, zero, suc, ◌+◌, ◌<◌, ◌≤◌, List, [], ◌∷◌, length, map, get_or, Option, Some, None, refl, ap, ◌∙◌, arith}
use Rattle.std.specs.Prelude.{slice_set, Result, Ok, Err}
use Rattle.interpreter_store.specs.declared.cell_store.cells.Tree.{Tree}
use Rattle.interpreter_store.specs.declared.cell_store.traps.Trap.{Trap}
use Rattle.interpreter_store.specs.declared.cell_store.traps.Trap.TheVariants as trap
use Rattle.tp_meaning.specs.Trees.{Tree as PureTree, Fork, chain, part_at, with_part}
use Rattle.tp_meaning.specs.Found.{Found, ◌>>=◌, known}
use Rattle.interpreter_store.specs.cell_store.Views.{view_tree, view_parts}
use Rattle.interpreter_store.specs.cell_store.Finding.{view_trap, Finds}
use Rattle.interpreter_store.specs.cell_store.Parts.{exchanged}
use Rattle.interpreter_store.proofs.cell_store.Rows.{part_past}

-- an exchange that was done, or not
abbrev pub Exchanges : Result (Unit {0}) Trap → PureTree → Found PureTree → Type 0
Exchanges done new found = Finds (λ (_ : Unit {0}). new) done found

abbrev ok_or : PureTree → Found PureTree → PureTree
ok_or d (Ok x) = x
ok_or d (Err trap) = d

-- a tree around the exchanged part
around : (done : Result (Unit {0}) Trap) (at : Option PureTree) (with new : PureTree) (wrap : PureTree → PureTree) → Exchanges done new (known at >>= λ old. Ok with) → Exchanges done (wrap new) (known at >>= λ old. Ok (wrap with))
around (Ok tt) None with new wrap e = absurd (cc e)
around (Ok tt) (Some old) with new wrap e = ap (λ (t : Found PureTree). Ok (wrap (ok_or with t))) e
around (Err t) None with new wrap e = e
around (Err t) (Some old) with new wrap e = absurd (cc e)

pub exchange_within : (done : Result (Unit {0}) Trap) (parts : List Tree) (n : ℕ) (path : List ℕ) (d new : Tree) (part : PureTree) → n < length parts
    → Exchanges done (view_tree new) (exchanged (view_tree (get_or parts n d)) path part)
    → Exchanges done (view_parts (slice_set parts n new)) (exchanged (view_parts parts) (n ∷ path) part)
exchange_within done [] n path d new part h e = absurd (omega (arith, h))
exchange_within done (t ∷ parts) zero path d new part h e =
    around done (part_at (view_tree t) path) (with_part (view_tree t) path part) (view_tree new) (λ x. Fork x (view_parts parts)) e
exchange_within done (t ∷ parts) (suc n) path d new part h e =
    around done (part_at (view_parts parts) (n ∷ path)) (with_part (view_parts parts) (n ∷ path) part) (view_parts (slice_set parts n new)) (λ x. Fork (view_tree t) x)
    (exchange_within done parts n path d new part (omega (arith, h)) e)

pub exchange_past : (parts : List Tree) (n : ℕ) (path : List ℕ) (part : PureTree) → length parts ≤ n → exchanged (view_parts parts) (n ∷ path) part ≡ Err (view_trap trap.IllTyped)
exchange_past parts n path part h = ap (λ (at : Option PureTree). known at >>= λ old. Ok (with_part (view_parts parts) (n ∷ path) part)) (part_past parts n path h)
