-- What is answered for arrays and records, by what is answered for their parts.
use Rattle.std.proofs.Common.{◌≡◌, Bool, [], Result, Ok, refl, ap, sym, subst, ◌∙◌, Vec, Box, Global}
use Rattle.pascal_grammar.specs.declared.lexeme.Position.{Position}
use Rattle.type_layout.specs.declared.definitions.TypeDef.TheVariants.{RecordOf}
use Rattle.type_layout.specs.declared.texts.Place.{Place}
use Rattle.syntax_tree.specs.declared.type_tree.types.TypeDenoter.{TypeDenoter}
use Rattle.syntax_tree.specs.declared.type_tree.types.FieldGroup.{FieldGroup}
use Rattle.syntax_tree.specs.declared.type_tree.types.StructuredType.{StructuredType}
use Rattle.syntax_tree.specs.declared.type_tree.types.StructuredType.TheVariants as s
use Rattle.scopes.specs.Environment.{Environment}
use Rattle.typing_rules.specs.declared.faults.Rule.TheVariants as rules
use Rattle.typing_rules.specs.declared.faults.Fault.{Fault}
use Rattle.typing_rules.specs.declared.faults.Refusal.{Refusal}
use Rattle.typing_rules.specs.declared.faults.Refusal.TheVariants as refusal
use Rattle.typing_rules.specs.Judgements.{◌>>=◌, Gives, FailsAs}
use Rattle.declaration_checker.specs.type_denoters.Trees.{Denoter, view_denoter, view_structured, view_denoters, view_groups}
use Rattle.declaration_checker.specs.type_denoters.Additions.{Denoted, added}
use Rattle.declaration_checker.specs.type_denoters.Denoters.{Ground, arrays_of, Indexes, Listed, judged, indexes_judged, fields_judged}
use Rattle.declaration_checker.proofs.type_denoters.Views.{view_array, view_record}

pub fails_first : {A B : Type 0} (r : Refusal) (x : Result A Fault) (k : A → Result B Fault) → FailsAs r x → FailsAs r (x >>= k)
fails_first refusal.NoMemory x k h = tt
fails_first (refusal.Because fault) x k h = rw h refl

module _ (on : Ground) (g : Environment) (place : Place) (tree : StructuredType) where
  abbrev answer : Result Denoted Fault
  answer = (judged on g (view_structured place tree)).run

  module _ (here : Position) (all : Vec TypeDenoter Global) (element : Box TypeDenoter Global) (one : TypeDenoter) (is : tree ≡ s.Array here all element) (same : one ≡ element.value) where
    abbrev elements : Indexes → Result Denoted Fault
    elements i = (judged on i.scope (view_denoter one)).run >>= λ e. (arrays_of on.unit place i.types e).run

    array_answer : answer ≡ ((indexes_judged on g [] (view_denoters all.items)).run >>= elements)
    array_answer =
        ap (λ (t : StructuredType). (judged on g (view_structured place t)).run) is
        ∙ ap (λ (d : Denoter). (judged on g d).run) (view_array place here all element)
        ∙ ap (λ (t : TypeDenoter). (indexes_judged on g [] (view_denoters all.items)).run >>= λ i. (judged on i.scope (view_denoter t)).run >>= λ e. (arrays_of on.unit place i.types e).run) (sym same)

    pub array_no_index : (r : Refusal) → FailsAs r (indexes_judged on g [] (view_denoters all.items)).run → FailsAs r answer
    array_no_index r h = subst (λ (z : Result Denoted Fault). FailsAs r z) (sym array_answer) (fails_first r (indexes_judged on g [] (view_denoters all.items)).run elements h)

    pub array_no_element : (r : Refusal) (i : Indexes) → (indexes_judged on g [] (view_denoters all.items)).run ≡ Ok i → FailsAs r (judged on i.scope (view_denoter one)).run → FailsAs r answer
    array_no_element r i made h =
        let e : answer ≡ elements i = array_answer ∙ ap (λ (x : Result Indexes Fault). x >>= elements) made in
        subst (λ (z : Result Denoted Fault). FailsAs r z) (sym e) (fails_first r (judged on i.scope (view_denoter one)).run (λ e. (arrays_of on.unit place i.types e).run) h)

    pub array_made : {X : Type 0} (view : X → Denoted) (result : Result X Refusal) (i : Indexes) (e : Denoted) → (indexes_judged on g [] (view_denoters all.items)).run ≡ Ok i
        → (judged on i.scope (view_denoter one)).run ≡ Ok e → Gives view result (arrays_of on.unit place i.types e).run → Gives view result answer
    array_made view result i e made typed h =
        let first : answer ≡ elements i = array_answer ∙ ap (λ (x : Result Indexes Fault). x >>= elements) made in
        let all_of : answer ≡ (arrays_of on.unit place i.types e).run = first ∙ ap (λ (x : Result Denoted Fault). x >>= λ e. (arrays_of on.unit place i.types e).run) typed in
        subst (λ (z : Result Denoted Fault). Gives view result z) (sym all_of) h

  module _ (here : Position) (all : Vec FieldGroup Global) (semicolon : Bool) (is : tree ≡ s.Record here all semicolon) where
    abbrev whole : Listed → Result Denoted Fault
    whole l = (added on.unit l.scope place rules.Stands (RecordOf l.fields)).run

    record_answer : answer ≡ ((fields_judged on g [] (view_groups all.items)).run >>= whole)
    record_answer =
        ap (λ (t : StructuredType). (judged on g (view_structured place t)).run) is
        ∙ ap (λ (d : Denoter). (judged on g d).run) (view_record place here all semicolon)

    pub record_no_field : (r : Refusal) → FailsAs r (fields_judged on g [] (view_groups all.items)).run → FailsAs r answer
    record_no_field r h = subst (λ (z : Result Denoted Fault). FailsAs r z) (sym record_answer) (fails_first r (fields_judged on g [] (view_groups all.items)).run whole h)

    pub record_made : {X : Type 0} (view : X → Denoted) (result : Result X Refusal) (l : Listed) → (fields_judged on g [] (view_groups all.items)).run ≡ Ok l
        → Gives view result (whole l) → Gives view result answer
    record_made view result l made h =
        let e : answer ≡ whole l = record_answer ∙ ap (λ (x : Result Listed Fault). x >>= whole) made in
        subst (λ (z : Result Denoted Fault). Gives view result z) (sym e) h
