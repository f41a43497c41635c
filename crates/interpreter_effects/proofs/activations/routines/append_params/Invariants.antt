-- The types of the parameters so far are appended.
use Rattle.std.proofs.Common.{◌≡◌, ◌++◌, map, take}
use Rattle.type_layout.specs.declared.definitions.Param.{Param}
use Rattle.interpreter_effects.proofs.activations.routines.append_params.Given as goal

abbrev pub invariant-params : goal.invariant-params
invariant-params l = l.to.items ≡ l.fn.to.items ++ map (λ (param : Param). param.ty) (take l.param-index l.params)
