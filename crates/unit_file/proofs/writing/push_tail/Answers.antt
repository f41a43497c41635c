use Rattle.std.proofs.Common.{◌≡◌, ℕ, List, ◌++◌, Result, Ok, Err, sym, ap, subst, ◌∙◌, append_assoc}
use Rattle.std.specs.Prelude.{All, OnOk}
use Rattle.object_file.specs.file_parts.Spelling.{name_text, list_text}
use Rattle.unit_file.proofs.type_file.EntryLaws.{all-from_each}
use Rattle.unit_interface.specs.declared.interfaces.Interface.{Interface}
use Rattle.unit_file.specs.interface_file.Text.{interface_text, IsInterface}
use Rattle.unit_file.specs.Format.{tail_text}
use Rattle.unit_file.proofs.UnitLaws.{start-long}
use Rattle.unit_file.proofs.writing.push_tail.Goals as goal

pub push_imports-requires : goal.push_imports-requires
push_imports-requires c =
    subst (λ (imports : List Interface). All IsInterface imports) (sym c.as_slice-2.ensures) (all-from_each IsInterface IsInterface (λ shown fits. fits) c.args.unit.now.imports c.requires.each_import)

pub push_code-requires : goal.push_code-requires
push_code-requires c = start-long c.args.unit.now c.requires

on_ok : {A E P Q : Type 0} (r : Result A E) → (P → Q) → OnOk r P → OnOk r Q
on_ok (Ok x) to p = to p
on_ok (Err e) to p = tt

behind : (old middle new x y : List ℕ) → middle ≡ old ++ x → new ≡ middle ++ y → new ≡ old ++ (x ++ y)
behind old middle new x y first second = second ∙ ap (λ (front : List ℕ). front ++ y) first ∙ append_assoc old x y

pub returns : goal.returns
unfolding tail_text
returns c =
    let names = c.in_ok-push_names.ensures ∙ ap (λ (names : List (List ℕ)). c.args.bytes.now ++ list_text name_text names) c.as_slice.ensures in
    let imports = c.in_ok-push_imports.ensures ∙ ap (λ (imports : List Interface). c.push_long-2.new.bytes ++ list_text interface_text imports) c.as_slice-2.ensures in
    on_ok c.push_code.result
    (λ last. behind c.args.bytes.now c.push_names.new.bytes c.push_code.new.bytes _ _ names
    (behind c.push_names.new.bytes c.push_long.new.bytes c.push_code.new.bytes _ _ c.in_ok-push_long.ensures
    (behind c.push_long.new.bytes c.push_long-2.new.bytes c.push_code.new.bytes _ _ c.in_ok-push_long-2.ensures
    (behind c.push_long-2.new.bytes c.push_imports.new.bytes c.push_code.new.bytes _ _ imports last))))
    c.push_code.ensures
