-- What the sources of a program show is told, and so are the scopes that they are read over.
use Rattle.std.proofs.Common.{◌≡◌, ◌∙◌, ◌⊎◌, ℕ, Bool, true, false, not, ◌&&◌, ◌||◌, cond, List, [], ◌∷◌, Option, Some, None, refl, sym, ap, subst, inl, inr}
use Rattle.std.specs.Prelude.{slice_get, is_some, option_map}
use Rattle.interface_soundness.specs.type_layout.Words.{same_bytes}
use Rattle.interface_soundness.specs.type_layout.Table.{Table}
use Rattle.interface_soundness.specs.syntax_tree.declared.identifier.Identifier.{Identifier}
use Rattle.interface_soundness.specs.tp_lexer.declared.source_directives.collected.Directives.{Directives}
use Rattle.interface_soundness.specs.syntax_tree.declared.source_tree.source.Tree.{Tree}
use Rattle.interface_soundness.specs.syntax_tree.declared.source_tree.source.Tree.TheVariants as t
use Rattle.interface_soundness.specs.source_graph.declared.sources.Source.{Source}
use Rattle.interface_soundness.specs.scopes.Environment.{Environment}
use Rattle.interface_soundness.specs.scopes.Predeclared.{system, type_table, first}
use Rattle.interface_soundness.specs.unit_interface.declared.keys.Key.{Key}
use Rattle.interface_soundness.specs.unit_interface.declared.interfaces.Interface.{Interface}
use Rattle.interface_soundness.specs.unit_interface.Merge.{keys_of}
use Rattle.interface_soundness.specs.unit_interface.Resolve.{is_overlay, interface_named, with_overlay, with_found, with_use, with_uses, resolved}
use Rattle.interface_soundness.specs.unit_interface.Fitting.{uses_fit}
use Rattle.interface_soundness.proofs.unit_interface_proofs.KeyLaws.{same_itself, is_keyed}
use Rattle.interface_soundness.specs.source_graph.source_order.Orders.{names_of}
use Rattle.interface_soundness.specs.tp_check_decl.Fronts as fronts
use Rattle.interface_soundness.specs.tp_check_decl.Units.{Whole}
use Rattle.interface_soundness.specs.tp_check_decl.Interfaces.{is_name_of, unit_front}
use Rattle.interface_soundness.specs.tp_check_decl.Shown.{outlined, with_nothing_else}
use Rattle.interface_soundness.specs.front_end.source_interfaces.Scopes.{outer_units, outer_scope}
use Rattle.interface_soundness.proofs.front_end_proofs.source_interfaces.Uses.{some_is}
use Rattle.interface_soundness.specs.imported_types_agree.well_scoped.Scopes.{IsWellScopedInterface}
use Rattle.interface_soundness.proofs.tables.Ending.{outline_closed, interface_closed}
use Rattle.interface_soundness.specs.interfaces.Declared.{Declares}
use Rattle.interface_soundness.proofs.interfaces.AgreementLaws.{declare}
use Rattle.interface_soundness.specs.programs.Closing.{AreInOrder}
use Rattle.interface_soundness.proofs.programs.Sources.{same_name, named_by}
use Rattle.interface_soundness.proofs.programs.Depth.{IsOf, AreUses, inherited}
use Rattle.interface_soundness.proofs.programs.Closing.{new_of, interfaces}
use Rattle.interface_soundness.specs.imported_types_agree.consistent_types.Consistency.{home_of, AreAtHome, IsWellScopedTable, AreWellScopedHomes, IsConsistent, IsConsistentInterface, IsConsistentWithOthers}
use Rattle.interface_soundness.proofs.imported_types_agree_proofs.consistent_types.Keys.{At}
use Rattle.interface_soundness.proofs.imported_types_agree_proofs.consistent_types.First.{first_home}
use Rattle.interface_soundness.proofs.imported_types_agree_proofs.consistent_types.Arrived.{merged_home}
use Rattle.interface_soundness.proofs.imported_types_agree_proofs.consistent_types.Longer.{declared_told}
use Rattle.interface_soundness.proofs.imported_types_agree_proofs.consistent_types.Shown.{shown_told, shown_home}
use Rattle.interface_soundness.proofs.imported_types_agree_proofs.consistent_types.Ordered.{shown_defined, shown_small}
use Rattle.interface_soundness.specs.imported_types_agree.compatible_types.Fits.{HaveOwnMethods, IsConsistentScope, IsConsistentUse, AreConsistentUses}
use Rattle.interface_soundness.proofs.imported_types_agree_proofs.compatible_types.Uses.{closed_homes, used_told, uses_told, all_used_told, first_scope}
use Rattle.interface_soundness.proofs.imported_types_agree_proofs.compatible_types.Own.{own_told}
use Rattle.interfaces_consistent.proofs.interfaces.Declaring.{own_methods, paired_of, pairs_behind, keys_behind, is_with_declared}
use Rattle.interfaces_consistent.proofs.interfaces.Origins.{outer_foreign}
use Rattle.interfaces_consistent.proofs.interfaces.ShownKeys.{shown_from, told_without}

-- ---- types at home, with used units

module _ (have : List Interface) (homes : AreWellScopedHomes have) where
  use_home : (g : Environment) (name : List ℕ) → IsConsistentScope have g → AreAtHome have g.types → IsConsistentUse have name → AreAtHome have (with_use have g name).types
  use_home g name scope home own = by (is_overlay name) refl (interface_named have name) refl
    where
      by : (b : Bool) → is_overlay name ≡ b → (found : Option Interface) → interface_named have name ≡ found → AreAtHome have (cond b (with_overlay g) (with_found g found)).types
      by true is found at = home
      by false is None at = home
      by false is (Some i) at = let o = own is i at in merged_home g.types i.types scope.told.keyed o.told.keyed have home o.at_home

  pub uses_home : (g : Environment) (names : List (List ℕ)) → IsConsistentScope have g → AreAtHome have g.types → AreConsistentUses have names → AreAtHome have (with_uses have g names).types
  uses_home g [] scope home own = home
  uses_home g (name ∷ names) scope home own =
      uses_home (with_use have g name) names (used_told have homes g name scope own.0) (use_home g name scope home own.0) own.1

-- ---- the names of units

and_both : (a b : Bool) → (a && b) ≡ true → (a ≡ true) × (b ≡ true)
and_both true b is = (refl, is)
and_both false b is = let bad : false ≡ true = is in absurd (cc)

not_either : (a b : Bool) → not (a || b) ≡ true → a ≡ false
not_either true b is = let bad : false ≡ true = is in absurd (cc)
not_either false b is = refl

own_name : (file own : List ℕ) → is_name_of file own ≡ true → same_bytes file system ≡ false
own_name file own is =
    let both = and_both (same_bytes own file) (not (fronts.is_system own || fronts.is_overlay own)) is in
    subst (λ (name : List ℕ). same_bytes name system ≡ false) (same_name own file both.0) (not_either (fronts.is_system own) (fronts.is_overlay own) both.1)

front_named : (name : List ℕ) (says : Directives) (own : Identifier) (uses : List Identifier) (front : _) → (unit_front name says own uses).holds front → same_bytes name system ≡ false
unfolding unit_front
front_named name says own uses front h = own_name name own.name h.holds.asked

-- a source is that of a unit, which is not SYSTEM, or it shows nothing
pub outline_kind : (name : List ℕ) (says : Directives) (g : Environment) (tree : Tree) (unit : Whole) → (outlined name says g tree).holds unit → (same_bytes name system ≡ false) ⊎ (unit.items ≡ [])
outline_kind name says g (t.Program heading uses all body) unit h = inr (ap (λ (w : Whole). w.items) h.made)
outline_kind name says g (t.Unit here own uses outer interface all body) unit h = inl (front_named name says own uses.items h.part h.holds)

pub outline_name : (name : List ℕ) (says : Directives) (g : Environment) (tree : Tree) (unit : Whole) → (outlined name says g tree).holds unit → unit.name ≡ name
outline_name name says g (t.Program heading uses all body) unit h = ap (λ (w : Whole). w.name) h.made
outline_name name says g (t.Unit here own uses outer interface all body) unit h = ap (λ (w : Whole). w.name) h.made.made

-- what a unit shows is where its types are known
pub own_home : (have : List Interface) (name : List ℕ) (i : Interface) → same_bytes name system ≡ false → interface_named have name ≡ Some i → home_of have name ≡ Some i.types
own_home have name i other found =
    ap (λ (b : Bool). (let o : Option Table = cond b (Some type_table) (option_map (λ (x : Interface). x.types) (interface_named have name)) in o)) other
    ∙ ap (option_map (λ (x : Interface). x.types)) found

-- ---- sources

-- a key of what a source shows stands in the scope that it is read over, or it is of the source
pub comes : (have : List Interface) (s : Source) (i : Interface) → IsOf have s i → (number : ℕ) (key : Key) → slice_get (keys_of i.types) number ≡ Some key
    → At (keys_of (outer_scope have s).types) key ⊎ (key.unit ≡ s.name)
comes have s i of number key at =
    let g = outer_scope have s in
    let w = of.shows.unit in
    let paired = paired_of g.types (is_keyed have s.name (names_of (outer_units s))) in
    let d : Declares s.name g.types w.types = declare s.name s.says g s.tree w of.shows.holds in
    let there = shown_from (with_nothing_else w) i of.shows.shows (pairs_behind s.name g.types w.types paired d).paired number key at in
    elim (keys_behind s.name g.types w.types paired d there.place key there.at) [
      | inl old ↦ inl (record { place = there.place; at = old })
      | inr own ↦ inr own
    ]

module _ (sources : List Source) (have : List Interface) (o : AreInOrder sources have) where
  each_closed : (name : List ℕ) (i : Interface) → interface_named have name ≡ Some i → IsWellScopedInterface i
  each_closed name i is =
      let n = named_by IsWellScopedInterface have name (interfaces sources have o) (ap (λ (x : Option Interface). is_some x) is) in
      subst IsWellScopedInterface (some_is n.interface i (sym n.found ∙ is)) n.holds

  pub homes : AreWellScopedHomes have
  homes = closed_homes have each_closed

  told_uses : (names : List (List ℕ)) → AreUses (IsConsistentInterface have) have names → AreConsistentUses have names
  told_uses [] h = tt
  told_uses (name ∷ names) h = (h.0, told_uses names h.1)

  not_system : (name : List ℕ) → same_bytes name system ≡ false → name ≡ system → ⊥
  not_system name other is = apart (same_bytes name system) other (ap (λ (n : List ℕ). same_bytes n system) is ∙ same_itself system)
    where
      apart : (b : Bool) → b ≡ false → b ≡ true → ⊥
      apart b one two = cc

  -- the scope that a unit is read over has no type of the unit
  pub no_own : (place : ℕ) (s : Source) → slice_get sources place ≡ Some s → same_bytes s.name system ≡ false
      → (number : ℕ) (key : Key) → slice_get (keys_of (outer_scope have s).types) number ≡ Some key → key.unit ≡ s.name → ⊥
  no_own place s at other =
      outer_foreign sources (new_of sources have o) have o.shown (comes have) s.name place s at refl (not_system s.name other) o.acyclic

  behind_so : (place : ℕ) (s : Source) → slice_get sources place ≡ Some s → same_bytes s.name system ≡ false → IsConsistentScope have (outer_scope have s) → AreAtHome have (outer_scope have s).types
      → (after : Table) → Declares s.name (outer_scope have s).types after → IsConsistentWithOthers have s.name after
  behind_so place s at other scope home after d =
      let table = (outer_scope have s).types in
      declared_told have homes s.name table after scope.told home (record { paired = scope.complete.ordered.paired; types = scope.complete.closed.types })
      (is_with_declared s.name table scope.told.keyed scope.told.followed (no_own place s at other) after d)

  unit_told : (place : ℕ) (s : Source) (i : Interface) → slice_get sources place ≡ Some s → same_bytes s.name system ≡ false → IsConsistentScope have (outer_scope have s) → AreAtHome have (outer_scope have s).types
      → IsOf have s i → home_of have s.name ≡ Some i.types → IsConsistentInterface have i
  unit_told place s i at other scope home of is =
      let g = outer_scope have s in
      let w = of.shows.unit in
      let unit = with_nothing_else w in
      let named : w.name ≡ s.name = outline_name s.name s.says g s.tree w of.shows.holds in
      let closed = outline_closed s.name s.says g s.tree w scope.complete of.shows.holds in
      let table : IsWellScopedTable w.types = record { paired = closed.ordered.paired; types = closed.types } in
      let behind = behind_so place s at other scope home w.types (declare s.name s.says g s.tree w of.shows.holds) in
      let but : IsConsistentWithOthers have w.name w.types = subst (λ (n : List ℕ). IsConsistentWithOthers have n w.types) (sym named) behind in
      let there : home_of have w.name ≡ Some i.types = subst (λ (n : List ℕ). home_of have n ≡ Some i.types) (sym named) is in
      record {
        told = shown_told unit i of.shows.shows have homes but table there;
        at_home = shown_home unit i of.shows.shows have homes but table there;
        closed = interface_closed s.name s.says g s.tree i scope.complete of.shows;
        defined = shown_defined unit i of.shows.shows closed.ordered.paired closed.ordered.defined closed.ordered.fits;
        fits = shown_small unit i of.shows.shows closed.ordered.paired closed.ordered.defined closed.ordered.fits;
      }

  over : (names : List (List ℕ)) → AreConsistentUses have names → (name : List ℕ) → IsConsistentScope have (resolved have name names)
  over names uses name = all_used_told have homes (first name) names (first_scope have homes name) uses

  home_over : (names : List (List ℕ)) → AreConsistentUses have names → (name : List ℕ) → AreAtHome have (resolved have name names).types
  home_over names uses name = uses_home have homes (first name) names (first_scope have homes name) (first_home have) uses

  told_over : (place : ℕ) (s : Source) (i : Interface) → slice_get sources place ≡ Some s → interface_named have s.name ≡ Some i → AreUses (IsConsistentInterface have) have (names_of (outer_units s)) → IsOf have s i
      → IsConsistentInterface have i
  told_over place s i at found uses of =
      let names = names_of (outer_units s) in
      let scope = over names (told_uses names uses) s.name in
      let home = home_over names (told_uses names uses) s.name in
      let g = outer_scope have s in
      let w = of.shows.unit in
      elim (outline_kind s.name s.says g s.tree w of.shows.holds) [
        | inl other ↦ unit_told place s i at other scope home of (own_home have s.name i other found)
        | inr none ↦ told_without have (with_nothing_else w) i of.shows.shows none (interface_closed s.name s.says g s.tree i scope.complete of.shows)
      ]

  -- what a used unit shows is told
  pub each_told : (name : List ℕ) → IsConsistentUse have name
  each_told name other i is = inherited sources (new_of sources have o) have o.shown (IsConsistentInterface have) told_over o.acyclic name other i is

  pub all_told : (names : List (List ℕ)) → AreConsistentUses have names
  all_told [] = tt
  all_told (name ∷ names) = (each_told name, all_told names)

  -- so is each scope that uses such units, and its types are at home
  pub scopes_told : (name : List ℕ) (names : List (List ℕ)) → IsConsistentScope have (resolved have name names)
  scopes_told name names = over names (all_told names) name

  pub scopes_home : (name : List ℕ) (names : List (List ℕ)) → AreAtHome have (resolved have name names).types
  scopes_home name names = home_over names (all_told names) name

  -- the types of used units fit, in whatever order
  pub uses_fitting : (name : List ℕ) (names : List (List ℕ)) → uses_fit have (first name) names ≡ true
  uses_fitting name names = uses_told have homes (first name) names (first_scope have homes name) (all_told names)

  -- behind its interface part too the table of a unit tells of the types of others what these tell
  pub told_behind : (place : ℕ) (s : Source) → slice_get sources place ≡ Some s → same_bytes s.name system ≡ false → (after : Table) → Declares s.name (outer_scope have s).types after
      → IsConsistentWithOthers have s.name after
  told_behind place s at other after d =
      behind_so place s at other (scopes_told s.name (names_of (outer_units s))) (scopes_home s.name (names_of (outer_units s))) after d

  -- and of its own types what its interface tells
  pub told_within : (place : ℕ) (s : Source) (i : Interface) → slice_get sources place ≡ Some s → same_bytes s.name system ≡ false → interface_named have s.name ≡ Some i → (of : IsOf have s i)
      → IsConsistent have of.shows.unit.types
  told_within place s i at other found of =
      let scope = scopes_told s.name (names_of (outer_units s)) in
      let g = outer_scope have s in
      let w = of.shows.unit in
      let unit = with_nothing_else w in
      let named : w.name ≡ s.name = outline_name s.name s.says g s.tree w of.shows.holds in
      let closed = outline_closed s.name s.says g s.tree w scope.complete of.shows.holds in
      let table : IsWellScopedTable w.types = record { paired = closed.ordered.paired; types = closed.types } in
      let d = declare s.name s.says g s.tree w of.shows.holds in
      let but : IsConsistentWithOthers have w.name w.types = subst (λ (n : List ℕ). IsConsistentWithOthers have n w.types) (sym named) (told_behind place s at other w.types d) in
      let home : home_of have w.name ≡ Some i.types = subst (λ (n : List ℕ). home_of have n ≡ Some i.types) (sym named) (own_home have s.name i other found) in
      let methods : HaveOwnMethods w.name w.types =
      subst (λ (n : List ℕ). HaveOwnMethods n w.types) (sym named) (own_methods s.name g.types scope.told.keyed scope.told.followed (no_own place s at other) w.types d) in
      own_told have unit i of.shows.shows but table home methods
