use Rattle.std.proofs.Common.{◌≡◌, ◌-◌, ◌++◌, ◌∷◌, [], List, length, map, take, drop, ap, ◌∙◌, arith, length-drop}
use Rattle.std.proofs.lemmas.List.{take_all}
use Rattle.tp_meaning.specs.Trees.{Tree as PureTree}
use Rattle.interpreter_store.specs.declared.cell_store.cells.Tree.{Tree}
use Rattle.interpreter_store.specs.cell_store.Views.{view_tree}
use Rattle.interpreter_store.specs.cell_store.Parts.{byte_cell}
use Rattle.interpreter_store.proofs.cell_store.Rows.{view_of_parts}
use Rattle.interpreter_store.proofs.cell_store.Texts.{cut_over_is}
use Rattle.interpreter_store.proofs.cell_store.cells.cut_over.Goals as goal

pub returns : goal.returns
returns c =
    let text = c.args.text.now in
    let cells = c.args.cells.now in
    let over = c.append_copies.new.to in
    let bytes = map byte_cell text in
    let behind = drop (length text) cells in
    let rest = map view_tree behind in
    let all : take (length cells - length text) behind ≡ behind = take_all (length cells - length text) behind (omega (arith, length-drop (length text) cells)) in
    view_of_parts over
    ∙ cut_over_is text cells over.items c.requires
    (c.in_ok-append_copies.ensures
    ∙ ap (λ (part : List Tree). map view_tree c.append_bytes.new.to.items ++ map view_tree part) all
    ∙ ap (λ (front : List PureTree). front ++ rest) c.in_ok-append_bytes.ensures
    ∙ ap (λ (front : List Tree). (map view_tree front ++ bytes) ++ rest) (c.in_ok-push.ensures.items ∙ ap (λ (front : List Tree). front ++ c.in_ok-head.head ∷ []) c.new-over.ensures.items)
    ∙ ap (λ (head : PureTree). head ∷ (bytes ++ rest)) c.in_ok-head.ensures)
