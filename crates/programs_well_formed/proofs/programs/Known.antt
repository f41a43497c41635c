-- The units of a program are well formed, where what they show of one another is told.
use Rattle.std.proofs.Common.{◌≡◌, ◌∙◌, ℕ, Bool, true, false, cond, List, [], ◌∷◌, length, Option, Some, None, refl, sym, ap, subst}
use Rattle.std.specs.Prelude.{slice_get, is_some, drop}
use Rattle.std.proofs.lemmas.Option.{same_Some}
use Rattle.units_well_formed.specs.type_layout.declared.definitions.TypeDef.{TypeDef}
use Rattle.units_well_formed.specs.type_layout.Words.{same_bytes}
use Rattle.units_well_formed.specs.type_layout.Table.{Table}
use Rattle.units_well_formed.specs.syntax_tree.declared.identifier.Identifier.{Identifier}
use Rattle.units_well_formed.specs.syntax_tree.declared.source_tree.source.Tree.{Tree}
use Rattle.units_well_formed.specs.syntax_tree.declared.source_tree.source.Tree.TheVariants as t
use Rattle.interfaces_consistent.specs.source_graph.declared.sources.Source.{Source}
use Rattle.units_well_formed.specs.typed_tree.declared.units.Unit as typed
use Rattle.units_well_formed.specs.scopes.Environment.{Environment}
use Rattle.units_well_formed.specs.scopes.Predeclared.{system, type_table, first}
use Rattle.units_well_formed.specs.unit_interface.declared.keys.Key.{Key}
use Rattle.units_well_formed.specs.unit_interface.declared.interfaces.Interface.{Interface}
use Rattle.units_well_formed.specs.unit_interface.Merge.{keys_of, with_interface}
use Rattle.units_well_formed.specs.unit_interface.Exports.{in_items, IsInterfaceOf}
use Rattle.units_well_formed.specs.unit_interface.Resolve.{is_overlay, interface_named, with_overlay, with_found, with_use, with_uses}
use Rattle.units_well_formed.proofs.typing_rules_proofs.JudgementLaws.{exact}
use Rattle.interfaces_consistent.specs.source_graph.source_order.Orders.{names_of}
use Rattle.units_well_formed.specs.tp_check_decl.routines.Drafts.{Drafted, knowing}
use Rattle.interfaces_consistent.specs.front_end.source_interfaces.Scopes.{outer_units, outer_scope}
use Rattle.interfaces_consistent.specs.front_end.source_interfaces.Interfaces.{IsShownIn, IsDone}
use Rattle.interfaces_consistent.specs.front_end.Typed.{IsUnitOf}
use Rattle.units_well_formed.specs.declarations_well_formed.tables.Laws.{IsFit}
use Rattle.units_well_formed.proofs.declarations_well_formed_proofs.tables.Fits.{fit_front}
use Rattle.units_well_formed.specs.declarations_well_formed.constants.Laws.{StayConstants}
use Rattle.programs_well_formed.proofs.imported_interfaces.Below.{lawful_outlined, extends_itself, overlay_brings, uses_more, overlay_joins}
use Rattle.programs_well_formed.specs.imported_interfaces.Below.{Whole, whole, view_unit, empty_draft, items_of, unit_front, interface_judged, further_used, outlined, with_nothing_else, Shows, IsTypedAs, scope_of, IsRead, HasRoom, PartLaw, IsBegun, IsJoined, UsesKeep, FurtherKeep, IsRoomy, SourceLaw, UsedLaw, ShownConstants}
use Rattle.programs_well_formed.specs.imported_interfaces.Faithful.{IsFaithful}
use Rattle.programs_well_formed.specs.imported_interfaces.Laws.{InterfaceLaw, FurtherLaw, OwnLaw}
use Rattle.interfaces_consistent.proofs.interface_soundness_proofs.interfaces.AgreementLaws.{interface_grows}
use Rattle.interfaces_consistent.specs.interface_soundness.programs.Closing.{AreInOrder}
use Rattle.interfaces_consistent.proofs.interface_soundness_proofs.programs.Sources.{named_by, shown_some, same_name}
use Rattle.interfaces_consistent.proofs.interface_soundness_proofs.programs.Depth.{IsOf, IsUse, AreUses, Inherits, of_source, inherited, all_inherited}
use Rattle.interfaces_consistent.proofs.interface_soundness_proofs.programs.Closing.{new_of}
use Rattle.units_well_formed.specs.imported_types_agree.consistent_types.Consistency.{home_of, Stands, AreWellScopedHomes, IsConsistent, IsConsistentInterface}
use Rattle.units_well_formed.specs.tables_closed.constants.Bounds.{AreBelow}
use Rattle.interfaces_consistent.specs.interface_soundness.tables.Tables.{StayWellScoped}
use Rattle.interfaces_consistent.proofs.interfaces.Declaring.{paired_of, keys_stay}
use Rattle.interfaces_consistent.proofs.interfaces.Inherited.{own_home, comes, homes, each_told, told_behind, told_within}
use Rattle.interfaces_consistent.proofs.interfaces.Origins.{AreForeignUses, uses_foreign}
use Rattle.units_well_formed.specs.imported_types_agree.compatible_types.Fits.{IsConsistentScope, IsConsistentUse}
use Rattle.units_well_formed.proofs.imported_types_agree_proofs.compatible_types.Uses.{types_told, used_told, first_scope}
use Rattle.programs_well_formed.specs.programs.Laws.{AreFormed}
use Rattle.programs_well_formed.proofs.programs.Faithful.{Stay, HasSystem, IsOfUnit, faithful}
use Rattle.programs_well_formed.proofs.programs.Tables.{not_same, stay_on, use_stays, use_items}
use Rattle.programs_well_formed.proofs.programs.Beginnings.{IsBeginning, begins, read_complete}
use Rattle.programs_well_formed.proofs.programs.Rooms.{typed_fit}
use Rattle.programs_well_formed.proofs.programs.Names.{IsWritten, differ, AreOther, outer_other}
use Rattle.programs_well_formed.proofs.programs.Far.{interface_far}
use Rattle.programs_well_formed.proofs.programs.Own.{IsBehind, own_stands, is_own}

-- the laws that these rest on
pub record Laws : Type 0 where
  pub stay : StayConstants
  pub parts : PartLaw
  pub source : SourceLaw
  pub used : UsedLaw
  pub brings : InterfaceLaw
  pub further : FurtherLaw
  pub own : OwnLaw
  pub shown : ShownConstants
  pub tables : StayWellScoped

-- the unit of a source, of which 32 bits hold all numbers
pub record IsTyped (have : List Interface) (s : Source) : Type 0 where
  pub unit : typed.Unit
  pub is : IsUnitOf have s unit
  pub room : IsRoomy unit

module _ (laws : Laws) (sources : List Source) (have : List Interface) (o : AreInOrder sources have) (all : (place : ℕ) → IsDone sources have place)
    (written : (place : ℕ) (s : Source) → slice_get sources place ≡ Some s → IsWritten s) where
  abbrev whole_homes : AreWellScopedHomes have
  whole_homes = homes sources have o

  abbrev told : (name : List ℕ) → IsConsistentUse have name
  told = each_told sources have o

  found_name : (name : List ℕ) (i : Interface) → interface_named have name ≡ Some i → i.name ≡ name
  found_name name i found =
      let n = named_by (IsShownIn sources have) have name o.shown (ap (λ (x : Option Interface). is_some x) found) in
      sym (n.named ∙ ap (λ (x : Interface). x.name) (same_Some n.interface i (sym n.found ∙ found)))

  -- ---- scopes of used units

  -- the scope stays told, and begins with SYSTEM's types
  record IsSo (g : Environment) : Type 0 where
    scope : IsConsistentScope have g
    predeclared : HasSystem g.types

  use_so : (g : Environment) (word : List ℕ) → IsSo g → IsSo (with_use have g word)
  use_so g word h = record {
    scope = used_told have whole_homes g word h.scope (told word);
    predeclared = stay_on type_table g.types (with_use have g word).types h.predeclared (use_stays have g word h.scope.told.keyed (λ is i at. (told word is i at).told.keyed));
  }

  uses_so : (g : Environment) (words : List (List ℕ)) → IsSo g → IsSo (with_uses have g words)
  uses_so g [] h = h
  uses_so g (word ∷ words) h = uses_so (with_use have g word) words (use_so g word h)

  first_so : (name : List ℕ) → IsSo (first name)
  first_so name = record { scope = first_scope have whole_homes name; predeclared = λ place key at. at }

  outer_so : (s : Source) → IsSo (outer_scope have s)
  outer_so s = uses_so (first s.name) (names_of (outer_units s)) (first_so s.name)

  module _ (place : ℕ) (s : Source) (at : slice_get sources place ≡ Some s) where
    abbrev own : IsWritten s
    own = written place s at

    no_system : same_bytes s.name system ≡ false
    no_system = not_same s.name system own.named.system

    -- no type of the units that the interface part uses is of this one
    foreign : AreForeignUses sources (new_of sources have o) have o.shown (comes have) s.name place s at refl own.named.system o.acyclic (names_of (outer_units s))
    foreign = uses_foreign sources (new_of sources have o) have o.shown (comes have) s.name place s at refl own.named.system o.acyclic

    -- ---- the scope that the interface part begins with

    module _ (g : Environment) (i : Interface) (h : IsSo g) (word : List ℕ) (is : is_overlay word ≡ false) (found : interface_named have word ≡ Some i) (u : IsOfUnit i) (other : word ≡ s.name → ⊥) where
      use_faithful : ((number : ℕ) (key : Key) → slice_get (keys_of i.types) number ≡ Some key → key.unit ≡ s.name → Stands (keys_of g.types) key) → IsFaithful s.name g i
      use_faithful stands =
          faithful have whole_homes g h.scope i (told word is i found) h.predeclared u laws.shown s.name (λ same. other (sym (found_name word i found) ∙ same)) stands

    found_begun : (g : Environment) (word : List ℕ) (found : Option Interface) → interface_named have word ≡ found → is_overlay word ≡ false → IsBegun s.name g → IsSo g → IsUse IsOfUnit have word
        → ((i : Interface) → found ≡ Some i → (number : ℕ) (key : Key) → slice_get (keys_of i.types) number ≡ Some key → key.unit ≡ s.name → ⊥) → (word ≡ s.name → ⊥)
        → IsFit (with_found g found).types.types → IsBegun s.name (with_found g found)
    found_begun g word None named is begun h shows none other fit = begun
    found_begun g word (Some i) named is begun h shows none other fit =
        let tells = told word is i named in
        let f = use_faithful g i h word is named (shows is i named) other (λ number key there mine. absurd (none i refl number key there mine)) in
        (laws.used s.name).begun g (with_interface g i) begun
        (laws.brings s.name g i (scope_of (empty_draft g) []) begun.known begun.table h.scope.complete begun.named tells.closed (types_told have whole_homes g i h.scope tells) f fit)

    use_begun : (g : Environment) (word : List ℕ) → IsBegun s.name g → IsSo g → IsUse IsOfUnit have word
        → (is_overlay word ≡ false → (i : Interface) → interface_named have word ≡ Some i → (number : ℕ) (key : Key) → slice_get (keys_of i.types) number ≡ Some key → key.unit ≡ s.name → ⊥) → (word ≡ s.name → ⊥)
        → IsFit (with_use have g word).types.types → IsBegun s.name (with_use have g word)
    use_begun g word begun h shows none other fit = by (is_overlay word) refl fit
      where
        by : (b : Bool) → is_overlay word ≡ b → IsFit (cond b (with_overlay g) (with_found g (interface_named have word))).types.types → IsBegun s.name (cond b (with_overlay g) (with_found g (interface_named have word)))
        by true is e = (laws.used s.name).begun g (with_overlay g) begun (overlay_brings s.name g (scope_of (empty_draft g) []) begun.known begun.named own.named.overlay begun.table)
        by false is e = found_begun g word (interface_named have word) refl is begun h shows (λ i found. none is i found) other e

    uses_begun : (g : Environment) (words : List (List ℕ)) → IsBegun s.name g → IsSo g → AreUses IsOfUnit have words
        → AreForeignUses sources (new_of sources have o) have o.shown (comes have) s.name place s at refl own.named.system o.acyclic words → AreOther s.name words
        → IsFit (with_uses have g words).types.types → IsBegun s.name (with_uses have g words)
    uses_begun g [] begun h uses none other fit = begun
    uses_begun g (word ∷ words) begun h uses none other fit =
        let next : Environment = with_use have g word in
        let more = uses_more have next words in
        let here : IsFit next.types.types = fit_front next.types.types more.0 (subst (λ (l : List TypeDef). IsFit l) more.1 fit) in
        uses_begun next words (use_begun g word begun h uses.0 none.0 other.0 here) (use_so g word h) uses.1 none.1 other.1 fit

    outer_begun : (k : IsTyped have s) → AreUses IsOfUnit have (names_of (outer_units s)) → IsBegun s.name (outer_scope have s)
    outer_begun k uses =
        uses_begun (first s.name) (names_of (outer_units s)) (laws.used s.name).alone (first_so s.name) uses foreign (outer_other sources (new_of sources have o) o.acyclic place s at)
        (typed_fit s.name s.says (outer_scope have s) have s.tree k.unit k.is.typed k.room)

    -- ---- what the source shows

    beginning : (k : IsTyped have s) → IsBegun s.name (outer_scope have s) → IsBeginning s.name s.says (outer_scope have s) s.tree
    beginning k begun =
        let h = outer_so s in
        begins s.name (laws.parts s.name) s.says have (outer_scope have s) begun h.scope h.predeclared (λ after d. told_behind sources have o place s at no_system after d) s.tree k.unit k.is.typed own.written k.room

    -- what a unit shows, its interface part shows
    shown_by : (b : IsBeginning s.name s.says (outer_scope have s) s.tree) (i : Interface) (of : IsOf have s i) → (of.shows.unit ≡ b.unit) × Shows b.unit i
    shown_by b i of =
        let g = outer_scope have s in
        let same : of.shows.unit ≡ b.unit = (exact (outlined s.name s.says g) (lawful_outlined s.name s.says g)).one s.tree of.shows.unit b.unit of.shows.holds b.holds in
        (same, subst (λ (w : Whole). Shows w i) same of.shows.shows)

    of_unit : (k : IsTyped have s) (i : Interface) → IsBegun s.name (outer_scope have s) → IsOf have s i → IsOfUnit i
    of_unit k i begun of =
        let b = beginning k begun in
        record {
          unit = with_nothing_else b.unit;
          shows = (shown_by b i of).1;
          keyed = b.keyed;
          closed = b.closed;
          system = b.system;
          constants = b.constants;
        }

  module _ (typed_units : (place : ℕ) (s : Source) → slice_get sources place ≡ Some s → IsTyped have s) where
    inherits : Inherits IsOfUnit sources have
    inherits place s i at found uses of =
        let k = typed_units place s at in
        of_unit place s at k i (outer_begun place s at k uses) of

    each_of_unit : (name : List ℕ) → IsUse IsOfUnit have name
    each_of_unit name = inherited sources (new_of sources have o) have o.shown IsOfUnit inherits o.acyclic name

    all_of_unit : (names : List (List ℕ)) → AreUses IsOfUnit have names
    all_of_unit names = all_inherited sources (new_of sources have o) have o.shown IsOfUnit inherits o.acyclic names

    module _ (place : ℕ) (s : Source) (at : slice_get sources place ≡ Some s) (mine : Interface) (is_mine : interface_named have s.name ≡ Some mine)
        (b : IsBeginning s.name s.says (outer_scope have s) s.tree) where
      abbrev name : List ℕ
      name = s.name

      abbrev g : Environment
      g = outer_scope have s

      -- the unit behind its interface part
      abbrev mid : typed.Unit
      mid = with_nothing_else b.unit

      of_mine : IsOf have s mine
      of_mine = of_source sources (new_of sources have o) have o.shown place s mine at is_mine

      shows_mine : IsInterfaceOf mid mine
      shows_mine = (shown_by place s at b mine of_mine).1

      mid_told : IsConsistent have b.unit.types
      mid_told =
          let own_told : IsConsistent have of_mine.shows.unit.types = told_within sources have o place s mine at (no_system place s at) is_mine of_mine in
          subst (λ (w : Whole). IsConsistent have w.types) (shown_by place s at b mine of_mine).0 own_told

      mid_items : AreBelow (length b.unit.types.types) (in_items b.unit.items)
      mid_items = (laws.tables.outline name s.says g s.tree b.unit (outer_so s).scope.complete b.holds).items

      -- ---- units that come in behind the interface part

      record IsMiddle (d : Drafted) : Type 0 where
        read : IsRead d []
        named : slice_get d.scope.units 0 ≡ Some name
        so : IsSo d.scope
        behind : IsBehind mid d

      home_mine : home_of have name ≡ Some mine.types
      home_mine = own_home have name mine (no_system place s at) is_mine

      -- a type of the unit itself that another unit tells of
      own_there : (d : Drafted) → IsMiddle d → (i : Interface) → IsConsistentInterface have i → (number : ℕ) (key : Key) → slice_get (keys_of i.types) number ≡ Some key → key.unit ≡ name → Stands (keys_of d.scope.types) key
      own_there d m i tells number key there is =
          let h = tells.at_home number key there in
          let same : h.home ≡ mine.types = same_Some h.home mine.types (sym h.is ∙ ap (home_of have) is ∙ home_mine) in
          let stands : Stands (keys_of mine.types) key = subst (λ (table : Table). Stands (keys_of table) key) same h.stands in
          own_stands have whole_homes mid mine shows_mine b.keyed mid_items d m.behind stands.place key stands.at

      other_joins : (d : Drafted) (e : Environment) (one : Identifier) → IsMiddle d → (one.name ≡ name → ⊥) → (further_used have d.scope one).holds e → HasRoom (knowing d e) → is_overlay one.name ≡ false
          → (found : Option Interface) → interface_named have one.name ≡ found → e ≡ with_found d.scope found → IsJoined d (knowing d e)
      other_joins d e one m other h room is None found same =
          subst (λ (x : Environment). IsJoined d (knowing d x)) (sym same) (record { read = m.read; since = extends_itself (scope_of d []); named = refl })
      other_joins d e one m other h room is (Some i) found same =
          let tells = told one.name is i found in
          let f = use_faithful place s at d.scope i m.so one.name is found (each_of_unit one.name is i found) other (own_there d m i tells) in
          laws.further name have one i is found tells.closed d e m.read m.named f h room

      -- the unit itself
      own_joins : (d : Drafted) (e : Environment) (one : Identifier) → IsMiddle d → one.name ≡ name → (further_used have d.scope one).holds e → is_overlay one.name ≡ false → IsJoined d (knowing d e)
      own_joins d e one m same h is =
          let found : interface_named have one.name ≡ Some mine = ap (interface_named have) same ∙ is_mine in
          let tells = told one.name is mine found in
          let own_one = is_own have whole_homes mid mine shows_mine b.keyed mid_items name d m.behind m.so.scope tells (found_name name mine is_mine) in
          laws.own name have one mine is found d e m.read m.named own_one h

      joins : (d : Drafted) (e : Environment) (one : Identifier) → IsMiddle d → (further_used have d.scope one).holds e → HasRoom (knowing d e) → IsJoined d (knowing d e)
      joins d e one m h room = by (is_overlay one.name) refl (same_bytes one.name name) refl
        where
          by : (b : Bool) → is_overlay one.name ≡ b → (c : Bool) → same_bytes one.name name ≡ c → IsJoined d (knowing d e)
          by true is c own_name = overlay_joins laws.stay name (written place s at).named.overlay have one is d e m.read m.named h
          by false is true own_name = own_joins d e one m (same_name one.name name own_name) h is
          by false is false own_name =
              other_joins d e one m (differ one.name name own_name) h room is (interface_named have one.name) refl
              (h.made ∙ ap (λ (b : Bool). cond b (with_overlay d.scope) (with_found d.scope (interface_named have one.name))) is)

      next_middle : (d : Drafted) (e : Environment) (one : Identifier) → IsMiddle d → e ≡ with_use have d.scope one.name → IsJoined d (knowing d e) → IsMiddle (knowing d e)
      next_middle d e one m same j =
          let later : Environment = with_use have d.scope one.name in
          let stays : Stay d.scope.types later.types = use_stays have d.scope one.name m.so.scope.told.keyed (λ is i found. (told one.name is i found).told.keyed) in
          let types : Stay b.unit.types later.types = stay_on b.unit.types d.scope.types later.types m.behind.types stays in
          record {
            read = j.read;
            named = j.named ∙ m.named;
            so = subst IsSo (sym same) (use_so d.scope one.name m.so);
            behind = record {
              types = subst (λ (x : Environment). Stay b.unit.types x.types) (sym same) types;
              items = ap items_of same ∙ use_items have d.scope one.name ∙ m.behind.items;
              far = m.behind.far;
            };
          }

      uses_keep : (d : Drafted) (uses : List Identifier) → IsMiddle d → UsesKeep have d uses
      uses_keep d [] m = tt
      uses_keep d (one ∷ rest) m = λ e h room.
          let j = joins d e one m h room in
          (j, uses_keep (knowing d e) rest (next_middle d e one m h.made j))

      -- ---- behind the interface part

      middle : (front : _) (here : _) (own : Identifier) (uses : _) (outer : ℕ) (interface : _) (all : _) (body : _) → (outlined name s.says g (t.Unit here own uses outer interface all body)).holds b.unit
          → (unit_front name s.says own uses.items).holds front → (d : Drafted) → (interface_judged name g interface.items).holds d → IsRead d [] → slice_get d.scope.units 0 ≡ Some name → IsMiddle d
      middle front here own uses outer interface all body begins fronted d h r named =
          let w : Whole = whole name front d.scope (items_of d.scope) d.globals [] None in
          let tree : Tree = t.Unit here own uses outer interface all body in
          let holds : (outlined name s.says g tree).holds w = record { part = front; holds = fronted; made = record { part = d; holds = h; made = refl } } in
          let same : b.unit ≡ w = (exact (outlined name s.says g) (lawful_outlined name s.says g)).one tree b.unit w begins holds in
          let scope = outer_so s in
          let declares = (interface_grows name g interface.items d h).declares in
          record {
            read = r;
            named = named;
            so = record {
              scope = record { told = subst (λ (x : Whole). IsConsistent have x.types) same mid_told; complete = read_complete d r };
              predeclared = stay_on type_table g.types d.scope.types scope.predeclared (keys_stay name g.types d.scope.types (paired_of g.types scope.scope.told.keyed) declares);
            };
            behind = record {
              types = subst (λ (x : Whole). Stay x.types d.scope.types) (sym same) (λ number key stands. stands);
              items = ap (λ (x : Whole). x.items) (sym same);
              far = interface_far name g interface.items d h;
            };
          }

      keeps : (tree : Tree) (unit : typed.Unit) → IsTypedAs name s.says g have tree (view_unit unit) → (outlined name s.says g tree).holds b.unit → FurtherKeep name g have tree
      keeps (t.Program heading uses all body) unit j begins = tt
      keeps (t.Unit here own uses outer interface all body) unit j begins = λ d h r named.
          uses_keep d (drop outer uses.items) (middle j.part here own uses outer interface all body begins j.holds d h r named)

    -- so the typed unit of each source is well formed
    pub each_formed : AreFormed have sources
    each_formed place s at unit is room =
        let n = named_by (IsShownIn sources have) have s.name o.shown (shown_some have s.name (all place s at)) in
        let k : IsTyped have s = record { unit = unit; is = is; room = room } in
        let begun = outer_begun place s at k (all_of_unit (names_of (outer_units s))) in
        let further = keeps place s at n.interface n.found (beginning place s at k begun) s.tree unit is.typed (beginning place s at k begun).holds in
        laws.source s.name s.says (outer_scope have s) have s.tree unit further begun (written place s at).written room is.typed
