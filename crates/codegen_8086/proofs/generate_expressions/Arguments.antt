-- The code of arguments, put together from the front.
use Rattle.std.proofs.Common.{◌≡◌, ℕ, ◌+◌, ◌<◌, Bool, List, [], ◌∷◌, ◌++◌, length, take, get_or, refl, sym, ap, ◌∙◌, append_assoc}
use Rattle.std.proofs.lemmas.List.{take_more}
use Rattle.x86_table.specs.declared.instr.Instr.TheVariants as instr
use Rattle.x86_table.specs.declared.operand.WordReg.TheVariants as word
use Rattle.flat_code.specs.declared.tree.FlatExpr.{FlatExpr}
use Rattle.flat_code.specs.Tree.{Expr}
use Rattle.flat_code.specs.View.{view_expr, view_exprs}
use Rattle.code_templates.specs.declared.code_references.marks.MarkedLine.{MarkedLine}
use Rattle.code_templates.specs.code_references.Marks.{plain}
use Rattle.code_templates.specs.code_references.Marked.{marked_expr, marked_args}

abbrev pushed : List MarkedLine
pushed = plain (instr.Push word.Ax ∷ [])

marked_args-append : (far : Bool) (es fs : List Expr) → marked_args far (es ++ fs) ≡ marked_args far es ++ marked_args far fs
marked_args-append far [] fs = refl
marked_args-append far (e ∷ es) fs =
    ap (λ ls. marked_expr far e ++ (pushed ++ ls)) (marked_args-append far es fs)
    ∙ sym (append_assoc (marked_expr far e) (pushed ++ marked_args far es) (marked_args far fs))

view_exprs-append : (es fs : List FlatExpr) → view_exprs (es ++ fs) ≡ view_exprs es ++ view_exprs fs
view_exprs-append [] fs = refl
view_exprs-append (e ∷ es) fs = ap (λ l. view_expr e ∷ l) (view_exprs-append es fs)

-- one argument more
pub args-next : (far : Bool) (start old middle new : List MarkedLine) (args : List FlatExpr) (i : ℕ) (d a : FlatExpr) → i < length args → a ≡ get_or args i d → old ≡ start ++ marked_args far (view_exprs (take i args)) → middle ≡ old ++ marked_expr far (view_expr a) → new ≡ middle ++ pushed → new ≡ start ++ marked_args far (view_exprs (take (i + 1) args))
args-next far start old middle new args i d a within is before first second =
    let before_it = marked_args far (view_exprs (take i args)) in
    let code = marked_expr far (view_expr a) in
    let whole : take (i + 1) args ≡ take i args ++ a ∷ [] = take_more args i d within ∙ ap (λ y. take i args ++ y ∷ []) (sym is) in
    second ∙ ap (λ z. z ++ pushed) (first ∙ ap (λ z. z ++ code) before)
    ∙ append_assoc (start ++ before_it) code pushed
    ∙ append_assoc start before_it (code ++ pushed)
    ∙ ap (λ ls. start ++ ls) (sym (marked_args-append far (view_exprs (take i args)) (view_expr a ∷ [])))
    ∙ ap (λ es. start ++ marked_args far es) (sym (view_exprs-append (take i args) (a ∷ [])))
    ∙ ap (λ es. start ++ marked_args far (view_exprs es)) (sym whole)
