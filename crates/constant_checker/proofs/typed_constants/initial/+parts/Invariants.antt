use Rattle.std.proofs.Common.{◌≡◌, drop}
use Rattle.std.specs.Option.{option_copied}
use Rattle.constant_checker.specs.typed_constants.Trees.{view_items, view_fields}
use Rattle.constant_checker.specs.typed_constants.Initializers.{items_judged, fields_judged}
use Rattle.constant_checker.proofs.typed_constants.initial.+parts.Given as goal

abbrev pub invariant-items_judged-loop-one : goal.invariant-items_judged-loop-one
invariant-items_judged-loop-one l =
    (items_judged l.scope l.due l.bytes (view_items (drop l.one-index l.items))).run
    ≡ (items_judged l.scope l.due l.fn.before (view_items l.items)).run

abbrev pub invariant-fields_judged-loop-one : goal.invariant-fields_judged-loop-one
invariant-fields_judged-loop-one l =
    (fields_judged l.scope l.place (option_copied l.due) l.bytes (view_fields (drop l.one-index l.fields))).run
    ≡ (fields_judged l.scope l.place (option_copied l.fn.due) l.fn.before (view_fields l.fields)).run
