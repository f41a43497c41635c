-- What names are to those that use a unit, one after the other.
use Rattle.std.proofs.Common.{◌≡◌, ◌∙◌, ℕ, suc, ◌+◌, List, ◌∷◌, ◌++◌, Some, get_or, drop, slice_get, sym, ap, append_assoc, arith}
use Rattle.std.proofs.Math.Seq.{drop-cons}
use Rattle.std.proofs.lemmas.Option.{slice_get_within, get_or_from_slice_get}
use Rattle.typed_tree.specs.declared.units.Item.{Item}
use Rattle.scopes.specs.declared.entries.Entry.{Entry}
use Rattle.scopes.specs.Symbols.{SymbolList}
use Rattle.tp_check_decl.specs.Interfaces.{item_of, items_in}

cut : {X : Type 0} (xs : List X) (i : ℕ) (x : X) → slice_get xs i ≡ Some x → drop i xs ≡ x ∷ drop (i + 1) xs
cut xs i x e =
    let next : suc i ≡ i + 1 = omega arith in
    drop-cons xs i x (slice_get_within xs i x e)
    ∙ ap (λ k. get_or xs i x ∷ drop k xs) next
    ∙ ap (λ y. y ∷ drop (i + 1) xs) (get_or_from_slice_get xs i x x e)

pub item_more : (symbols : SymbolList) (n : ℕ) (name : List ℕ) (one : Entry) (old new whole : List Item) → slice_get symbols n ≡ Some (name, one)
    → old ++ items_in (drop n symbols) ≡ whole → new ≡ old ++ item_of name one → new ++ items_in (drop (n + 1) symbols) ≡ whole
item_more symbols n name one old new whole e before step =
    let rest = items_in (drop (n + 1) symbols) in
    ap (λ (l : List Item). l ++ rest) step
    ∙ append_assoc old (item_of name one) rest
    ∙ ap (λ (l : SymbolList). old ++ items_in l) (sym (cut symbols n (name, one) e))
    ∙ before
