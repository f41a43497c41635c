-- The numbers of an interface's items lie in the object unit exactly where it has as many globals and routines as these ask for.
use Rattle.std.proofs.Common.{◌≡◌, ℕ, suc, ◌+◌, ◌<◌, ◌≤◌, max, List, [], ◌∷◌, length, arith}
use Rattle.std.specs.Prelude.{All}
use Rattle.std.proofs.lemmas.List.Elements.{All-from_recursion}
use Rattle.std.specs.List.{AllByRecursion}
use Rattle.typed_tree.specs.declared.units.Item.{Item}
use Rattle.typed_tree.specs.declared.units.Item.TheVariants as item
use Rattle.object_file.specs.declared.object_unit.object.ObjectUnit.{ObjectUnit}
use Rattle.unit_file.specs.Format.{IsNumbered}
use Rattle.unit_file.specs.Reading.{globals_asked, routines_asked, most}

abbrev Has : ObjectUnit → List Item → Type 0
Has object items = (most globals_asked items ≤ length object.globals) × (most routines_asked items ≤ length object.routines)

numbered-one : (object : ObjectUnit) (one : Item) → globals_asked one ≤ length object.globals → routines_asked one ≤ length object.routines → IsNumbered object one
numbered-one object (item.Var name ty number) globals routines = omega (arith, globals)
numbered-one object (item.Code name header number) globals routines = omega (arith, routines)
numbered-one object (item.Const name ty constant) globals routines = tt
numbered-one object (item.Ty name ty) globals routines = tt

globals-one : (object : ObjectUnit) (one : Item) → IsNumbered object one → globals_asked one ≤ length object.globals
globals-one object (item.Var name ty number) fits = omega (arith, fits)
globals-one object (item.Code name header number) fits = omega arith
globals-one object (item.Const name ty constant) fits = omega arith
globals-one object (item.Ty name ty) fits = omega arith

routines-one : (object : ObjectUnit) (one : Item) → IsNumbered object one → routines_asked one ≤ length object.routines
routines-one object (item.Code name header number) fits = omega (arith, fits)
routines-one object (item.Var name ty number) fits = omega arith
routines-one object (item.Const name ty constant) fits = omega arith
routines-one object (item.Ty name ty) fits = omega arith

each-numbered : (object : ObjectUnit) (items : List Item) → Has object items → AllByRecursion (IsNumbered object) items
each-numbered object [] has = tt
each-numbered object (one ∷ items) has =
    (numbered-one object one (omega (arith, has.0)) (omega (arith, has.1)), each-numbered object items (omega (arith, has.0), omega (arith, has.1)))

pub numbered-from_counts : (object : ObjectUnit) (items : List Item) → most globals_asked items ≤ length object.globals → most routines_asked items ≤ length object.routines → All (IsNumbered object) items
numbered-from_counts object items globals routines = All-from_recursion (IsNumbered object) items (each-numbered object items (globals, routines))

pub counts-from_numbered : (object : ObjectUnit) (items : List Item) → All (IsNumbered object) items → Has object items
counts-from_numbered object [] all = (omega arith, omega arith)
counts-from_numbered object (one ∷ items) all =
    let first : IsNumbered object one = all 0 one (omega arith) in
    let rest : Has object items = counts-from_numbered object items (λ k x h. all (suc k) x (omega arith)) in
    (omega (arith, globals-one object one first, rest.0), omega (arith, routines-one object one first, rest.1))
