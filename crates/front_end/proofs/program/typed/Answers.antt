use Rattle.std.proofs.Common.{ℕ, List, subst}
use Rattle.std.specs.List.{AllZip}
use Rattle.unit_interface.specs.declared.interfaces.Interface.{Interface}
use Rattle.front_end.specs.Typed.{sources_at, IsUnitOf, AreLawful}
use Rattle.front_end.proofs.Steps.{program_by, untyped_by}
use Rattle.front_end.proofs.program.typed.Goals as goal

pub returns-clause-program : goal.returns-clause-program
returns-clause-program c =
    let sources = c.args.sources.now in
    let have = c.in_ok-have.have.items in
    let order = c.in-Ok.order in
    let units = c.in_ok-units.units in
    let some = subst (λ (all : List Interface). AllZip (IsUnitOf all) (sources_at sources c.as_slice-2.result.now) units) c.as_slice.ensures.value c.in_ok-units.ensures.units in
    let typed = subst (λ (places : List ℕ). AllZip (IsUnitOf have) (sources_at sources places) units) c.as_slice-2.ensures some in
    let lawful = subst AreLawful c.as_slice-3.ensures c.in_ok-check_classes.ensures.lawful in
    program_by sources have order units c.program_of.result c.in-Ok.ensures.no_circle c.in_default.ensures.kinds c.in_ok-have.ensures.interfaces c.in-Ok.ensures.ok typed lawful c.program_of.ensures.program c.program_of.ensures.few

pub returns-clause-cause : goal.returns-clause-cause
returns-clause-cause c =
    let sources = c.args.sources.now in
    let have = c.in_ok-have.have.items in
    let order = c.in-Ok.order in
    let units = c.in_ok-units.units in
    let some = subst (λ (all : List Interface). AllZip (IsUnitOf all) (sources_at sources c.as_slice-2.result.now) units) c.as_slice.ensures.value c.in_ok-units.ensures.units in
    let typed = subst (λ (places : List ℕ). AllZip (IsUnitOf have) (sources_at sources places) units) c.as_slice-2.ensures some in
    let lawful = subst AreLawful c.as_slice-3.ensures c.in_ok-check_classes.ensures.lawful in
    untyped_by c.args.texts.now sources have order units c.program_of.result c.in-Ok.ensures.no_circle c.in_default.ensures.kinds c.in_ok-have.ensures.interfaces c.in-Ok.ensures.ok typed lawful c.program_of.ensures.cause
