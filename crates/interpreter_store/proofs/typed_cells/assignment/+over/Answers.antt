use Rattle.std.proofs.Common.{◌≡◌, ◌∷◌, [], List, map, subst, sym, ap, ◌∙◌, arith}
use Rattle.std.specs.Prelude.{OnOk}
use Rattle.interpreter_store.specs.declared.cell_store.cells.Tree.{Tree}
use Rattle.interpreter_store.specs.cell_store.Views.{view_tree, view_parts}
use Rattle.tp_meaning.specs.Trees.{Tree as PureTree}
use Rattle.tp_meaning.specs.Store.{fields_over}
use Rattle.interpreter_store.specs.declared.typed_cells.parts.Part.{Part}
use Rattle.interpreter_store.specs.typed_cells.Parts.{view_part}
use Rattle.interpreter_store.specs.typed_cells.Copies.{onto}
use Rattle.interpreter_store.proofs.typed_cells.Rows.{over_turn, over_none, over_nothing, onto_appended, no_items, on_done}
use Rattle.interpreter_store.proofs.typed_cells.assignment.+over.Goals as goal

pub append_kept-returns : goal.append_kept-returns
append_kept-returns t c =
    let copy = c.in_ok-copy.copy in
    subst (λ (tree : PureTree). OnOk c.append_over.result (view_parts c.append_over.new.to.items ≡ tree))
    (over_turn (view_part c.args.part) (map view_part c.args.parts.now) (view_tree c.args.old.now) (view_parts c.args.olds.now) (view_tree c.args.new.now) (view_parts c.args.news.now) c.args.to.now.items c.push.new.self.items copy c.in_ok-push.ensures.items (c.in_ok-copy.ensures ∙ c.kept.ensures))
    c.append_over.ensures

pub append_over-returns-in-empty : goal.append_over-returns-in-empty
append_over-returns-in-empty t c =
    let olds = view_parts c.args.olds.now in
    let news = view_parts c.args.news.now in
    let to = c.args.to.now.items in
    let none : c.args.parts.now ≡ [] = no_items c.args.parts.now (omega (arith, c.in-empty.len_below)) in
    let same = ap (λ (parts : List Part). onto (map view_tree to) (fields_over (map view_part parts) olds news)) (sym none) in
    on_done c.append_copies.result (λ e. onto_appended c.append_copies.new.to.items to c.args.olds.now e ∙ same) c.append_copies.ensures

pub append_part-returns-in-empty : goal.append_part-returns-in-empty
append_part-returns-in-empty t c =
    let part = view_part c.args.part in
    let parts = map view_part c.args.parts.now in
    let news = view_parts c.args.news.now in
    let to = c.args.to.now.items in
    let none : c.args.olds.now ≡ [] = no_items c.args.olds.now (omega (arith, c.in-empty.len_below)) in
    let same : view_parts c.args.olds.now ≡ fields_over (part ∷ parts) (view_parts c.args.olds.now) news =
    subst (λ (olds : List Tree). view_parts olds ≡ fields_over (part ∷ parts) (view_parts olds) news) (sym none) (sym (over_nothing part parts news)) in
    on_done c.append_copies.result (λ e. onto_appended c.append_copies.new.to.items to c.args.olds.now e ∙ ap (onto (map view_tree to)) same) c.append_copies.ensures

pub append_part-returns-in-empty-news : goal.append_part-returns-in-empty-news
append_part-returns-in-empty-news t c =
    let part = view_part c.args.part in
    let parts = map view_part c.args.parts.now in
    let olds = view_parts c.args.olds.now in
    let to = c.args.to.now.items in
    let none : c.args.news.now ≡ [] = no_items c.args.news.now (omega (arith, c.in-empty-news.len_below)) in
    let same : fields_over (part ∷ parts) olds (view_parts c.args.news.now) ≡ olds = ap (λ (news : List Tree). fields_over (part ∷ parts) olds (view_parts news)) none ∙ over_none part parts olds in
    on_done c.append_copies-in-empty-news.result (λ e. onto_appended c.append_copies-in-empty-news.new.to.items to c.args.olds.now e ∙ ap (onto (map view_tree to)) (sym same)) c.append_copies-in-empty-news.ensures
