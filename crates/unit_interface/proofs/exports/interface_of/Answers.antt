use Rattle.std.proofs.Common.{◌≡◌, List, ℕ, refl, sym, subst, length}
use Rattle.unit_interface.specs.Exports.{reached, new_ids, kept, IsClosed}
use Rattle.unit_interface.proofs.ReachLaws.{is_closed, exactly}
use Rattle.unit_interface.proofs.ShownLaws.{one_interface, shown_is}
use Rattle.unit_interface.proofs.exports.interface_of.Goals as goal

pub kept_types-requires-clause-closed : goal.kept_types-requires-clause-closed
kept_types-requires-clause-closed c =
    let unit = c.args.unit.now in
    let numbers : c.as_slice-3.result.now ≡ reached unit.types.types unit.items =
    rw (c.as_slice-3.ensures, c.in_ok-reached.ensures, c.as_slice.ensures) refl in
    subst (λ (some : List ℕ). IsClosed unit.types.types some) (sym numbers) (is_closed unit.types.types unit.items)

pub returns-clause-ok : goal.returns-clause-ok
returns-clause-ok c =
    let unit = c.args.unit.now in
    let numbers = reached unit.types.types unit.items in
    let ids : c.in_ok-ids.ids ≡ new_ids numbers (length unit.types.types) =
    rw (c.in_ok-ids.ensures, c.as_slice-2.ensures, c.in_ok-reached.ensures, c.as_slice.ensures, c.count.ensures.value) refl in
    let types : c.in_ok-types.types ≡ kept unit.types numbers c.in_ok-ids.ids (length unit.types.types) =
    rw (c.in_ok-types.ensures, c.as_slice-3.ensures, c.as_slice-4.ensures, c.in_ok-reached.ensures, c.as_slice.ensures) refl in
    record {
      reached = numbers;
      exactly = exactly unit.types.types unit.items;
      is = shown_is unit numbers c.copied.result c.in_ok-types.types c.in_ok-items.items c.in_ok-ids.ids c.copied.ensures types
          (rw (c.in_ok-items.ensures, c.as_slice-5.ensures, c.as_slice-6.ensures) refl) ids;
    }

pub returns-in_err-reached-clause-one : goal.returns-in_err-reached-clause-one
returns-in_err-reached-clause-one c = one_interface c.args.unit.now

pub returns-in_err-ids-clause-one : goal.returns-in_err-ids-clause-one
returns-in_err-ids-clause-one c = one_interface c.args.unit.now

pub returns-in_err-types-clause-one : goal.returns-in_err-types-clause-one
returns-in_err-types-clause-one c = one_interface c.args.unit.now

pub returns-in_err-items-clause-one : goal.returns-in_err-items-clause-one
returns-in_err-items-clause-one c = one_interface c.args.unit.now

pub returns-clause-one : goal.returns-clause-one
returns-clause-one c = one_interface c.args.unit.now
