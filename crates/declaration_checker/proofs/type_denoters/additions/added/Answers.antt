use Rattle.std.proofs.Common.{◌≡◌, ◌∙◌, sym, ap, subst, true, false, Err, length}
use Rattle.type_layout.specs.declared.table.TypeError.TheVariants.{TooLarge}
use Rattle.type_layout.specs.Layouts.{size_over}
use Rattle.type_layout.specs.Table.{Table, IsAddable}
use Rattle.scopes.specs.Predeclared.{type_id}
use Rattle.declaration_checker.specs.type_denoters.Additions.{is_addable, with_type_of}
use Rattle.declaration_checker.proofs.type_denoters.Addable.{taken_is, keeps_limit, passes_limit}
use Rattle.declaration_checker.proofs.type_denoters.Steps.{added_not, added_large, added_made}
use Rattle.declaration_checker.proofs.type_denoters.additions.added.Goals as goal

pub returns-then-not-takes : goal.returns-then-not-takes
returns-then-not-takes c =
    let told = taken_is c.types.result.now c.args.unit.now c.args.one c.takes.result c.takes.ensures in
    let no : is_addable c.args.scope.now.types c.args.unit.now c.args.one ≡ false =
    ap (λ (t : Table). is_addable t c.args.unit.now c.args.one) (sym c.types.ensures) ∙ sym told ∙ c.if-not-takes.true in
    rw c.broken.ensures (added_not c.args.unit.now c.args.scope.now c.args.place c.args.asked c.args.one no)

pub add_type-requires : goal.add_type-requires
add_type-requires c =
    let taken = subst (λ (t : Table). IsAddable t c.args.unit.now c.args.one) c.types.ensures (c.takes.ensures.0 c.if-not-takes.false) in
    rw c.copied.ensures taken

pub returns-in-Ok : goal.returns-in-Ok
returns-in-Ok c =
    let told = taken_is c.types.result.now c.args.unit.now c.args.one c.takes.result c.takes.ensures in
    let yes : is_addable c.args.scope.now.types c.args.unit.now c.args.one ≡ true =
    ap (λ (t : Table). is_addable t c.args.unit.now c.args.one) (sym c.types.ensures) ∙ sym told ∙ c.if-not-takes.false in
    let fits = keeps_limit (size_over c.args.scope.now.types.types c.args.one) c.in-Ok.ty c.add_type.result c.add_type.ensures.too_large c.in-Ok.is in
    let made = added_made c.args.unit.now c.args.scope.now c.args.place c.args.asked c.args.one yes fits in
    let id : c.in-Ok.ty ≡ type_id (length c.args.scope.now.types.types) = ap type_id c.in-Ok.ensures.ok.0 in
    let same : c.add_type.new.self ≡ with_type_of c.args.unit.now c.args.scope.now c.args.one =
    rw (c.copied.ensures, c.count_of-number.ensures, c.types-2.ensures) at c.in-Ok.ensures.ok.1 in
    rw (id, same) made

pub returns-in-Err-TooLarge : goal.returns-in-Err-TooLarge
returns-in-Err-TooLarge c =
    let told = taken_is c.types.result.now c.args.unit.now c.args.one c.takes.result c.takes.ensures in
    let yes : is_addable c.args.scope.now.types c.args.unit.now c.args.one ≡ true =
    ap (λ (t : Table). is_addable t c.args.unit.now c.args.one) (sym c.types.ensures) ∙ sym told ∙ c.if-not-takes.false in
    let is : c.add_type.result ≡ Err (TooLarge c.in-Err-TooLarge.bytes) =
    let outer = c.in-Err-TooLarge.is in
    let inner = c.in-Err-TooLarge.field-0-is in
    cc in
    let passed = passes_limit (size_over c.args.scope.now.types.types c.args.one) c.in-Err-TooLarge.bytes c.add_type.result c.add_type.ensures.too_large is in
    let large = added_large c.args.unit.now c.args.scope.now c.args.place c.args.asked c.args.one yes passed.0 in
    rw (c.too_large.ensures, passed.1) large
