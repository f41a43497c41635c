-- Sources whose interface part uses units that are told of faithfully.
use Rattle.std.proofs.Common.{◌≡◌, ℕ, Bool, true, false, ◌&&◌, ◌||◌, cond, List, [], ◌∷◌, Option, Some, None, refl}
use Rattle.units_well_formed.specs.scopes.Predeclared.{first}
use Rattle.units_well_formed.specs.scopes.Environment.{Environment}
use Rattle.units_well_formed.specs.unit_interface.declared.interfaces.Interface.{Interface}
use Rattle.units_well_formed.specs.unit_interface.Merge.{with_interface}
use Rattle.units_well_formed.specs.unit_interface.Resolve.{overlay, is_overlay, interface_named, with_overlay, with_found, with_use, with_uses}
use Rattle.units_well_formed.specs.unit_interface.Fitting.{found_fits, use_fits, uses_fit}
use Rattle.interfaces_consistent.specs.source_graph.source_order.Orders.{names_of}
use Rattle.interfaces_consistent.specs.front_end.source_interfaces.Scopes.{outer_units, outer_scope}
use Rattle.units_well_formed.specs.imported_types_agree.well_scoped.Scopes.{IsCompleteScope, IsWellScopedInterface, IsWellScopedUse}
use Rattle.units_well_formed.proofs.imported_types_agree_proofs.well_scoped.Beginning.{first_complete}
use Rattle.units_well_formed.proofs.imported_types_agree_proofs.well_scoped.Using.{use_complete}
use Rattle.units_well_formed.specs.declarations_well_formed.tables.Laws.{IsFit}
use Rattle.units_well_formed.specs.declarations_well_formed.constants.Laws.{StayConstants}
use Rattle.programs_well_formed.specs.imported_interfaces.Below.{empty_draft, scope_of, IsBegun, SourceLaw, UsedLaw}
use Rattle.programs_well_formed.proofs.imported_interfaces.Below.{overlay_brings, bare_keep}
use Rattle.programs_well_formed.specs.imported_interfaces.Faithful.{IsFaithful}
use Rattle.programs_well_formed.specs.imported_interfaces.Laws.{InterfaceLaw}
use Rattle.programs_well_formed.specs.programs.Laws.{IsFaithfulUse, AreFaithful, UsingLaw}

both_true : (a b : Bool) → (a && b) ≡ true → (a ≡ true) × (b ≡ true)
both_true true b e = (refl, e)
both_true false b e = (let f : false ≡ true = e in cc)

module _ (used : UsedLaw) (brings : InterfaceLaw) (have : List Interface) (name : List ℕ) (other : name ≡ overlay → ⊥) (closed : (word : List ℕ) → IsWellScopedUse have word) where
  found_begun : (g : Environment) (found : Option Interface) → IsBegun name g → IsCompleteScope g → ((i : Interface) → found ≡ Some i → IsWellScopedInterface i)
      → ((i : Interface) → found ≡ Some i → IsFaithful name g i × IsFit (with_interface g i).types.types) → found_fits g found ≡ true → IsBegun name (with_found g found)
  found_begun g None h c k f fits = h
  found_begun g (Some i) h c k f fits =
      let own = f i refl in
      (used name).begun g (with_interface g i) h (brings name g i (scope_of (empty_draft g) []) h.known h.table c h.named (k i refl) fits own.0 own.1)

  use_begun : (g : Environment) (word : List ℕ) → IsBegun name g → IsCompleteScope g → IsFaithfulUse have name g word → use_fits have g word ≡ true → IsBegun name (with_use have g word)
  use_begun g word h c f fits = by (is_overlay word) refl fits
    where
      by : (b : Bool) → is_overlay word ≡ b → (b || found_fits g (interface_named have word)) ≡ true → IsBegun name (cond b (with_overlay g) (with_found g (interface_named have word)))
      by true is e = (used name).begun g (with_overlay g) h (overlay_brings name g (scope_of (empty_draft g) []) h.known h.named other h.table)
      by false is e = found_begun g (interface_named have word) h c (closed word is) (f is) e

  uses_begun : (g : Environment) (words : List (List ℕ)) → IsBegun name g → IsCompleteScope g → AreFaithful have name g words → uses_fit have g words ≡ true → IsBegun name (with_uses have g words)
  uses_begun g [] h c f fits = h
  uses_begun g (word ∷ words) h c f fits =
      let both = both_true (use_fits have g word) (uses_fit have (with_use have g word) words) fits in
      uses_begun (with_use have g word) words (use_begun g word h c f.0 both.0) (use_complete have g word c (closed word) both.0) f.1 both.1

pub using_formed : StayConstants → SourceLaw → UsedLaw → InterfaceLaw → UsingLaw
using_formed stay law used brings have source unit h s room =
    let begun = uses_begun used brings have source.name s.named s.closed (first source.name) (names_of (outer_units source)) (used source.name).alone (first_complete source.name) s.faithful h.fits in
    (law source.name source.says (outer_scope have source) have source.tree unit (bare_keep stay source.name s.named have (outer_scope have source) source.tree s.further) begun s.written room h.typed).formed
