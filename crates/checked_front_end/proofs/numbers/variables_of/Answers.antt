use Rattle.std.proofs.Common.{◌≡◌, ◌+◌, List, ◌++◌, length, length-append, map, arith}
use Rattle.std.proofs.lemmas.List.{length-map}
use Rattle.type_layout.specs.declared.definitions.TypeId.{TypeId}
use Rattle.type_layout.specs.declared.definitions.Param.{Param}
use Rattle.typed_tree.specs.declared.units.Routine.{Routine}
use Rattle.typed_tree.specs.type_fits.Routines.{listed, variables_of}
use Rattle.checked_front_end.proofs.numbers.variables_of.Goals as goal

count_of : (routine : Routine) → length (variables_of routine) ≡ length routine.header.params + length routine.locals + length (listed routine.owner) + length (listed routine.header.result)
count_of routine =
    let own : List TypeId = listed routine.header.result ++ routine.locals in
    omega (
      arith,
      length-append (map (λ (param : Param). param.ty) routine.header.params) (listed routine.owner ++ own),
      length-append (listed routine.owner) own,
      length-append (listed routine.header.result) routine.locals,
      length-map routine.header.params (λ (param : Param). param.ty),
    )

pub returns : goal.returns
returns c = let count = count_of c.args.one.now in omega (arith, count)
