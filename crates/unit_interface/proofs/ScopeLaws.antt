-- Steps of the loop over the types of an interface, in a scope.
use Rattle.std.proofs.Common.{◌≡◌, ℕ, ◌+◌, List, [], true, inl, sym, ap, ◌∙◌, add-one}
use Rattle.std.specs.Prelude.{Some, slice_get, get_or}
use Rattle.type_layout.specs.declared.definitions.TypeId.{TypeId}
use Rattle.type_layout.specs.declared.definitions.TypeDef.{TypeDef}
use Rattle.type_layout.specs.declared.definitions.Origin.{Origin}
use Rattle.type_layout.specs.Table.{Table, place_of, with_type}
use Rattle.scopes.specs.Environment.{Environment}
use Rattle.unit_interface.specs.declared.merge.MergeError.{MergeError}
use Rattle.unit_interface.specs.declared.merge.MergeError.TheVariants.{Mismatch, NoMemory}
use Rattle.unit_interface.specs.Merge.{renumbered, is_new, with_merged, merged}
use Rattle.unit_interface.specs.Misfits.{IsMisfitCause, IsMisfitAt}
use Rattle.unit_interface.proofs.MergeLaws.{merged-new}

pub merge-step : (env now new : Environment) (other : Table) (ids : List TypeId) (number : ℕ)
    → now ≡ record env { types = merged other ids env.types number }
    → new ≡ record now { types = with_merged other ids now.types number }
    → new ≡ record env { types = merged other ids env.types (number + 1) }
merge-step env now new other ids number so_far step =
    rw add-one (step ∙ ap (λ (e : Environment). (let next : Environment = record e { types = with_merged other ids e.types number } in next)) so_far)

-- a new type was added
pub type-added : (env new : Environment) (other : Table) (ids : List TypeId) (number : ℕ) (one added : TypeDef) (origin : Origin) (name : List ℕ)
    → slice_get other.types number ≡ Some one → slice_get other.origins number ≡ Some origin → name ≡ get_or other.units origin.unit []
    → is_new ids env.types number ≡ true → added ≡ renumbered ids (place_of env.types.units name) one
    → new ≡ record env { types = with_type env.types name origin.number added }
    → new ≡ record env { types = with_merged other ids env.types number }
type-added env new other ids number one added origin name at from named new_id is step =
    step ∙ ap (λ (d : TypeDef). (let e : Environment = record env { types = with_type env.types name origin.number d } in e)) is
    ∙ ap (λ (t : Table). (let e : Environment = record env { types = t } in e)) (sym (merged-new other env.types ids number one origin name at from named new_id))

-- a new type that could not be added
pub type-unfit : (env : Environment) (other : Table) (ids : List TypeId) (number : ℕ) (one added : TypeDef) (origin : Origin) (name : List ℕ) (error : MergeError)
    → slice_get other.types number ≡ Some one → slice_get other.origins number ≡ Some origin → name ≡ get_or other.units origin.unit []
    → is_new ids env.types number ≡ true → added ≡ renumbered ids (place_of env.types.units name) one
    → IsMisfitCause env.types name added error → IsMisfitAt ids env.types other number error
type-unfit env other ids number one added origin name Mismatch at from named new_id is misfit =
    inl (record {
      one = one;
      origin = origin;
      stands = at;
      declared = from;
      new = new_id;
      misfit = rw (← named, ← is) misfit;
    })
type-unfit env other ids number one added origin name NoMemory at from named new_id is misfit = tt
