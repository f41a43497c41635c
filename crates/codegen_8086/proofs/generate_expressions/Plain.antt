-- Lines that refer to nothing, put together from the front.
use Rattle.std.proofs.Common.{◌≡◌, ℕ, zero, suc, ◌+◌, ◌<◌, Ok, Err, List, [], ◌∷◌, ◌++◌, length, take, get_or, refl, sym, ap, ◌∙◌, append_assoc}
use Rattle.std.specs.Prelude.{Result, OnOk, None}
use Rattle.std.proofs.lemmas.List.{take_more}
use Rattle.x86_table.specs.declared.instr.Instr.{Instr}
use Rattle.x86_table.specs.declared.line.Line.{Line}
use Rattle.x86_table.specs.declared.line.Line.TheVariants.{One}
use Rattle.flat_code.specs.declared.tree.Address.{Address}
use Rattle.flat_code.specs.declared.tree.Address.TheVariants.{Global, Local, Outer, Through}
use Rattle.code_templates.specs.code_lines.Addresses.{Context}
use Rattle.code_templates.specs.code_lines.Operands.{operand_place, operand}
use Rattle.code_templates.specs.declared.code_references.marks.MarkedLine.{MarkedLine}
use Rattle.code_templates.specs.code_references.Marks.{bare, plain}

pub plain-append : (is js : List Instr) → plain (is ++ js) ≡ plain is ++ plain js
plain-append [] js = refl
plain-append (i ∷ is) js = ap (λ ls. record { line = One i; target = None } ∷ ls) (plain-append is js)

-- one instruction more
pub plain-next : (start old new : List MarkedLine) (code : List Instr) (i : ℕ) (d x : Instr) → i < length code → x ≡ get_or code i d → old ≡ start ++ plain (take i code) → new ≡ old ++ record { line = One x; target = None } ∷ [] → new ≡ start ++ plain (take (i + 1) code)
plain-next start old new code i d x within is before step =
    let whole : take (i + 1) code ≡ take i code ++ x ∷ [] = take_more code i d within ∙ ap (λ y. take i code ++ y ∷ []) (sym is) in
    step ∙ ap (λ ls. ls ++ plain (x ∷ [])) before
    ∙ append_assoc start (plain (take i code)) (plain (x ∷ []))
    ∙ ap (λ ls. start ++ ls) (sym (plain-append (take i code) (x ∷ [])))
    ∙ ap (λ is. start ++ plain is) (sym whole)

pub bare-append : (is js : List Line) → bare (is ++ js) ≡ bare is ++ bare js
bare-append [] js = refl
bare-append (l ∷ ls) js = ap (λ z. record { line = l; target = None } ∷ z) (bare-append ls js)

-- one line more
pub bare-next : (start old new : List MarkedLine) (code : List Line) (i : ℕ) (d x : Line) → i < length code → x ≡ get_or code i d → old ≡ start ++ bare (take i code) → new ≡ old ++ record { line = x; target = None } ∷ [] → new ≡ start ++ bare (take (i + 1) code)
bare-next start old new code i d x within is before step =
    let whole : take (i + 1) code ≡ take i code ++ x ∷ [] = take_more code i d within ∙ ap (λ y. take i code ++ y ∷ []) (sym is) in
    step ∙ ap (λ ls. ls ++ bare (x ∷ [])) before
    ∙ append_assoc start (bare (take i code)) (bare (x ∷ []))
    ∙ ap (λ ls. start ++ ls) (sym (bare-append (take i code) (x ∷ [])))
    ∙ ap (λ ls. start ++ bare ls) (sym whole)

-- what holds where a call succeeded
pub on_ok : {T E P Q : Type 0} (r : Result T E) → (P → Q) → OnOk r P → OnOk r Q
on_ok (Ok v) f h = f h
on_ok (Err e) f h = h

-- an operand in parts
pub operand-parts : (x : Context) (at : Address) (more : ℕ) → record { segment = (operand x at 0).segment; place = operand_place x at more } ≡ operand x at more
operand-parts x (Global unit number plus) more = refl
operand-parts x (Local at) more = refl
operand-parts x (Outer zero at) more = refl
operand-parts x (Outer (suc n) at) more = refl
operand-parts x (Through slot plus) more = refl
