-- The table of each typed unit of a program tells what the interfaces of the others tell.
use Rattle.std.proofs.Common.{◌≡◌, ◌∙◌, ℕ, true, false, List, [], ◌∷◌, Option, Some, None, refl, sym, ap, subst, arith}
use Rattle.std.specs.Prelude.{slice_get, drop}
use Rattle.std.proofs.lemmas.Option.{same_Some}
use Rattle.unit_references.specs.type_layout.Words.{same_bytes}
use Rattle.unit_references.specs.type_layout.Table.{Table}
use Rattle.units_well_formed.specs.syntax_tree.declared.identifier.Identifier.{Identifier}
use Rattle.units_well_formed.specs.syntax_tree.declared.statement.CompoundStatement.{CompoundStatement}
use Rattle.units_well_formed.specs.syntax_tree.declared.source_tree.source.InterfaceDeclaration.{InterfaceDeclaration}
use Rattle.units_well_formed.specs.syntax_tree.declared.source_tree.source.InterfaceDeclaration.TheVariants as i
use Rattle.units_well_formed.specs.tp_lexer.declared.source_directives.collected.Directives.{Directives}
use Rattle.units_well_formed.specs.syntax_tree.declared.source_tree.source.Tree.{Tree}
use Rattle.units_well_formed.specs.syntax_tree.declared.source_tree.source.Tree.TheVariants as t
use Rattle.interfaces_consistent.specs.source_graph.declared.sources.Source.{Source}
use Rattle.unit_references.specs.typed_tree.declared.units.Item.{Item}
use Rattle.units_well_formed.specs.scopes.Environment.{Environment}
use Rattle.units_well_formed.specs.scopes.declared.entries.BlockKind.TheVariants.{Part}
use Rattle.units_well_formed.specs.scopes.Predeclared.{system, first as bare_scope}
use Rattle.units_well_formed.specs.unit_interface.declared.keys.Key.{Key}
use Rattle.units_well_formed.specs.unit_interface.declared.interfaces.Interface.{Interface}
use Rattle.units_well_formed.specs.unit_interface.Merge.{keys_of}
use Rattle.units_well_formed.specs.unit_interface.Keyed.{IsKeyed}
use Rattle.units_well_formed.specs.unit_interface.Resolve.{is_overlay, interface_named}
use Rattle.units_well_formed.proofs.typing_rules_proofs.JudgementLaws.{exact}
use Rattle.interfaces_consistent.specs.source_graph.source_order.Orders.{names_of}
use Rattle.units_well_formed.specs.tp_check_decl.routines.Trees.{Works, view_declarations}
use Rattle.units_well_formed.specs.tp_check_decl.routines.Drafts.{Drafted, Stage, stage, knowing}
use Rattle.units_well_formed.specs.tp_check_decl.Units.{Whole, whole}
use Rattle.units_well_formed.specs.tp_check_decl.Programs.{unit_site, empty_draft, program_judged}
use Rattle.units_well_formed.specs.tp_check_decl.Endings.{ended}
use Rattle.units_well_formed.specs.tp_check_decl.Interfaces.{items_of, all_declared, declared, interface_judged, all_used}
use Rattle.units_well_formed.specs.tp_check_decl.Shown.{outlined, with_nothing_else, Shows, IsShownAs}
use Rattle.units_well_formed.specs.tp_check_decl.Checked.{IsTypedAs}
use Rattle.units_well_formed.proofs.tp_check_decl_proofs.CheckLaws.{lawful_outlined}
use Rattle.interfaces_consistent.specs.front_end.source_interfaces.Scopes.{outer_units, outer_scope}
use Rattle.units_well_formed.specs.imported_types_agree.well_scoped.Scopes.{IsCompleteScope}
use Rattle.units_well_formed.proofs.tables_closed_proofs.routines.Staying.{Nothing, Stays, stays, stay_on, stay_opened, grown_closed}
use Rattle.units_well_formed.proofs.tables_closed_proofs.routines.Routing.{draft_stays, stage_stays, heading_stays, part_of_stays}
use Rattle.interfaces_consistent.proofs.interface_soundness_proofs.interfaces.UsesGrow.{used_grows}
use Rattle.interfaces_consistent.specs.interface_soundness.programs.Closing.{AreInOrder}
use Rattle.units_well_formed.specs.imported_types_agree.consistent_types.Consistency.{home_of, Stands, AreWellScopedHomes, AreAtHome, IsConsistent, IsConsistentWithOthers}
use Rattle.units_well_formed.proofs.imported_types_agree_proofs.consistent_types.Known.{type_there}
use Rattle.units_well_formed.proofs.imported_types_agree_proofs.consistent_types.Longer.{told_all}
use Rattle.units_well_formed.proofs.imported_types_agree_proofs.consistent_types.Shown.{shown_key}
use Rattle.interfaces_consistent.proofs.interfaces.Inherited.{own_home, homes, no_own, each_told, scopes_told, scopes_home}
use Rattle.units_well_formed.specs.imported_types_agree.compatible_types.Fits.{IsConsistentScope}
use Rattle.units_well_formed.proofs.imported_types_agree_proofs.compatible_types.Uses.{closed_table, first_scope}
use Rattle.shared_types_agree.specs.programs.Consistency.{AreOwned}
use Rattle.shared_types_agree.proofs.programs.Counts.{count_grows}
use Rattle.shared_types_agree.proofs.programs.Keeping.{KeepsTo}
use Rattle.shared_types_agree.proofs.programs.Behind.{AreNumbered, IsOwnBehind, is_declared, behind_itself, behind_stays}
use Rattle.shared_types_agree.proofs.programs.ToldOn.{told_on}
use Rattle.shared_types_agree.proofs.programs.Using.{TellsOwn, IsOwnScope, all_own, outer_owned, uses_bare}
use Rattle.shared_types_agree.proofs.programs.Routines.{all_keep}
use Rattle.shared_types_agree.proofs.programs.Parts.{interface_keeps, program_keeps}

-- ---- how units end

pub ended_types : (name : List ℕ) (front : _) (items : List Item) (body : Option CompoundStatement) (d : Drafted) (unit : Whole) → (ended name front items body d).holds unit → unit.types ≡ d.scope.types
ended_types name front items None d unit h = ap (λ (w : Whole). w.types) h.made
ended_types name front items (Some body) d unit h = ap (λ (w : Whole). w.types) h.made

pub ended_name : (name : List ℕ) (front : _) (items : List Item) (body : Option CompoundStatement) (d : Drafted) (unit : Whole) → (ended name front items body d).holds unit → unit.name ≡ name
ended_name name front items None d unit h = ap (λ (w : Whole). w.name) h.made
ended_name name front items (Some body) d unit h = ap (λ (w : Whole). w.name) h.made

pub typed_name : (name : List ℕ) (says : Directives) (g : Environment) (have : List Interface) (tree : Tree) (unit : Whole) → IsTypedAs name says g have tree unit → unit.name ≡ name
typed_name name says g have (t.Program heading uses all body) unit h = (let f = h.made in let d = f.made in ended_name name f.part [] (Some body) d.part unit d.made)
typed_name name says g have (t.Unit here own uses outer interface all body) unit h =
    let n = h.made in
    let st = n.made.made in
    ended_name name h.part (items_of n.part.scope) body st.part.draft unit st.made

-- ---- the scope behind an interface part is complete

declared_stays : (unit : List ℕ) (s : Stage) (one : InterfaceDeclaration) (made : Stage) → (declared unit s one).holds made → Stays Nothing s.draft.scope made.draft.scope
declared_stays unit s (i.Part one) made e = part_of_stays unit unit_site s one made e
declared_stays unit s (i.Header one) made e = stage_stays Nothing s.draft.scope _ made e.made (heading_stays true unit_site s.draft one e.part e.holds)

declared_stay : (unit : List ℕ) (s : Stage) (all : List InterfaceDeclaration) (made : Stage) → (all_declared unit s all).holds made → Stays Nothing s.draft.scope made.draft.scope
declared_stay unit s [] made e = stage_stays Nothing s.draft.scope s made e (stays Nothing s.draft.scope)
declared_stay unit s (one ∷ rest) made e =
    stay_on s.draft.scope e.part.draft.scope made.draft.scope (declared_stays unit s one e.part e.holds) (declared_stay unit e.part rest made e.made)

interface_stays : (name : List ℕ) (g : Environment) (all : List InterfaceDeclaration) (d : Drafted) → (interface_judged name g all).holds d → Stays Nothing g d.scope
unfolding interface_judged
interface_stays name g all d e =
    let start = empty_draft g in
    draft_stays Nothing g e.part.draft d e.made
    (stay_on g start.scope e.part.draft.scope (stay_opened Nothing g Part) (declared_stay name (stage start []) all e.part e.holds))

behind_complete : (name : List ℕ) (g : Environment) (all : List InterfaceDeclaration) (d : Drafted) → (interface_judged name g all).holds d → IsCompleteScope g → IsCompleteScope d.scope
behind_complete name g all d e c =
    let s = interface_stays name g all d e in
    record { ordered = s.ordered c.ordered; closed = grown_closed g d.scope s c.closed }

-- ---- one source

-- a table that tells of the types of others what these tell, with methods of the units that declare their types
pub record IsConsistentTable (have : List Interface) (name : List ℕ) (table : Table) : Type 0 where
  pub told : IsConsistentWithOthers have name table
  pub owned : AreOwned table

-- Behind the units that the implementation part uses, types of others are at home, and the unit's own are those behind its interface part.
pub record IsUsedSo (have : List Interface) (name : List ℕ) (d : Drafted) (h : Environment) : Type 0 where
  pub keyed : IsKeyed d.scope.types
  pub own : IsOwnScope have name d.scope.types h

abbrev pub AreUsedSo : (have : List Interface) (name : List ℕ) (says : Directives) (g : Environment) (tree : Tree) (unit : Whole) → IsTypedAs name says g have tree unit → Type 0
AreUsedSo have name says g (t.Program heading uses all body) unit h = Unit {0}
AreUsedSo have name says g (t.Unit here own uses outer interface all body) unit h = IsUsedSo have name h.made.part h.made.made.part

-- What is known to a source by the units that its interface part uses has no types of its own, and no block is open.
pub record IsFirstScope (name : List ℕ) (g : Environment) : Type 0 where
  pub keyed : IsKeyed g.types
  pub owned : AreOwned g.types
  pub none : (number : ℕ) (key : Key) → slice_get (keys_of g.types) number ≡ Some key → key.unit ≡ name → ⊥
  pub bare : g.blocks ≡ []

module _ (sources : List Source) (have : List Interface) (o : AreInOrder sources have) (place : ℕ) (s : Source) (at : slice_get sources place ≡ Some s) (no_system : same_bytes s.name system ≡ false) where
  abbrev name : List ℕ
  name = s.name

  abbrev g : Environment
  g = outer_scope have s

  abbrev all_homes : AreWellScopedHomes have
  all_homes = homes sources have o

  scope : IsConsistentScope have g
  scope = scopes_told sources have o name (names_of (outer_units s))

  home : AreAtHome have g.types
  home = scopes_home sources have o name (names_of (outer_units s))

  pub first_so : IsFirstScope name g
  first_so = record {
    keyed = scope.told.keyed;
    owned = outer_owned have all_homes (each_told sources have o) name (names_of (outer_units s)) (first_scope have all_homes name);
    none = no_own sources have o place s at no_system;
    bare = uses_bare have (bare_scope name) (names_of (outer_units s));
  }

  start : IsOwnBehind name g.types g.types
  start = behind_itself name g.types scope.told.keyed scope.told.followed (λ p key there mine. absurd (first_so.none p key there mine)) first_so.owned

  -- behind declarations over the scope that the source is read over
  behind_first : (h : Environment) → KeepsTo name g h → IsOwnBehind name g.types h.types
  behind_first h k = k.keeps (IsOwnBehind name g.types) (behind_stays name g.types) start

  told_first : (h : Environment) → KeepsTo name g h → IsConsistentWithOthers have name h.types
  told_first h k = told_on have all_homes name g.types h.types (told_all have name g.types scope.told home) (closed_table g scope.complete) (is_declared name g.types h.types (behind_first h k))

  of_program : (uses : List Identifier) (all : Works) (body : CompoundStatement) (unit : Whole) → (program_judged name s.says g uses all body).holds unit → IsConsistentTable have name unit.types
  of_program uses all body unit h =
      let f = h.made in
      let d = f.made in
      let k = program_keeps name g all d.part d.holds in
      subst (IsConsistentTable have name) (sym (ended_types name f.part [] (Some body) d.part unit d.made)) (record { told = told_first d.part.scope k; owned = (behind_first d.part.scope k).longer.owned })

  -- ---- units

  module _ (mine : Interface) (is_mine : interface_named have name ≡ Some mine) where
    home_mine : home_of have name ≡ Some mine.types
    home_mine = own_home have name mine no_system is_mine

    -- what others tell of the unit's types is what it shows
    tells_own : (w : Whole) → Shows w mine → IsConsistent have w.types → (word : List ℕ) → is_overlay word ≡ false → (i : Interface) → interface_named have word ≡ Some i → TellsOwn have name w.types i
    tells_own w shown told word is i found number key there own =
        let tells = each_told sources have o word is i found in
        let h = tells.at_home number key there in
        let same : h.home ≡ mine.types = same_Some h.home mine.types (sym h.is ∙ ap (home_of have) own ∙ home_mine) in
        let stands : Stands (keys_of mine.types) key = subst (λ (table : Table). Stands (keys_of table) key) same h.stands in
        shown_key (with_nothing_else w) mine shown told.keyed stands.place key stands.at

    module _ (d : Drafted) (k : KeepsTo name g d.scope) (complete : IsCompleteScope d.scope) (told : IsConsistent have d.scope.types)
        (tells : (word : List ℕ) → is_overlay word ≡ false → (i : Interface) → interface_named have word ≡ Some i → TellsOwn have name d.scope.types i) where
      first : IsOwnBehind name g.types d.scope.types
      first = behind_first d.scope k

      own_first : IsOwnScope have name d.scope.types d.scope
      own_first = record {
        scope = record { told = told; complete = complete };
        table = record { at_home = (told_first d.scope k).at_home; from = λ p key own there. record { place = p; at = there }; owned = first.longer.owned };
      }

      -- behind further used units
      module _ (uses : List Identifier) (h : Environment) (used : (all_used have d.scope uses).holds h) where
        own_used : IsOwnScope have name d.scope.types h
        own_used = all_own have name d.scope.types all_homes (each_told sources have o) tells d.scope uses h used own_first

        numbered : AreNumbered name h.types
        numbered p key there own =
            let old = own_used.table.from p key own there in
            let low = first.longer.numbered old.place key old.at own in
            let one = type_there d.scope.types old.place key told.keyed.paired old.at in
            let of = first.longer.owned old.place key one.0 old.at one.1 in
            let grows = used_grows have d.scope uses h used in
            let more = count_grows d.scope.types h.types grows.units grows.origins name of.place grows.has_units grows.has_origins (of.named ∙ ap (λ (u : List ℕ). Some u) own) in
            omega (arith, low, more)

        told_used : IsConsistentWithOthers have name h.types
        told_used = record {
          keyed = own_used.scope.told.keyed;
          alike = λ number p key from f one other there stands is at_home found. own_used.scope.told.alike number p key from f one there stands is at_home found;
          followed = own_used.scope.told.followed;
          fronted = λ number p key from low high other there is at_home found. own_used.scope.told.fronted number p key from low high there is at_home found;
          at_home = own_used.table.at_home;
        }

        -- and behind the implementation part
        behind_last : (last : Environment) → KeepsTo name h last → IsConsistentTable have name last.types
        behind_last last keeps =
            let begun = behind_itself name h.types own_used.scope.told.keyed own_used.scope.told.followed numbered own_used.table.owned in
            let b = keeps.keeps (IsOwnBehind name h.types) (behind_stays name h.types) begun in
            record { told = told_on have all_homes name h.types last.types told_used (closed_table h own_used.scope.complete) (is_declared name h.types last.types b); owned = b.longer.owned }

    -- ---- units, behind their interface parts

    -- the table tells what the others tell, and the others tell of the unit's types what it has
    record IsToldFirst (d : Drafted) : Type 0 where
      told : IsConsistent have d.scope.types
      tells : (word : List ℕ) → is_overlay word ≡ false → (i : Interface) → interface_named have word ≡ Some i → TellsOwn have name d.scope.types i

    abbrev AreToldFirst : (tree : Tree) (unit : Whole) → IsTypedAs name s.says g have tree unit → Type 0
    AreToldFirst (t.Program heading uses all body) unit h = Unit {0}
    AreToldFirst (t.Unit here own uses outer interface all body) unit h = IsToldFirst h.made.part

    first_told : (tree : Tree) (unit : Whole) (h : IsTypedAs name s.says g have tree unit) (shows : IsShownAs name s.says g tree mine) → IsConsistent have shows.unit.types → AreToldFirst tree unit h
    first_told (t.Program heading uses all body) unit h shows within = tt
    first_told (t.Unit here own uses outer interface all body) unit h shows within =
        let n = h.made in
        let d = n.part in
        let tree : Tree = t.Unit here own uses outer interface all body in
        let w : Whole = whole name h.part d.scope (items_of d.scope) d.globals [] None in
        let holds : (outlined name s.says g tree).holds w = record { part = h.part; holds = h.holds; made = record { part = d; holds = n.holds; made = refl } } in
        let same : shows.unit ≡ w = (exact (outlined name s.says g) (lawful_outlined name s.says g)).one tree shows.unit w shows.holds holds in
        let shown : Shows w mine = subst (λ (x : Whole). Shows x mine) same shows.shows in
        let told : IsConsistent have d.scope.types = subst (λ (x : Whole). IsConsistent have x.types) same within in
        record { told = told; tells = tells_own w shown told }

    -- so it is behind the units that the implementation part uses
    pub used_so : (tree : Tree) (unit : Whole) (h : IsTypedAs name s.says g have tree unit) (shows : IsShownAs name s.says g tree mine) → IsConsistent have shows.unit.types → AreUsedSo have name s.says g tree unit h
    used_so (t.Program heading uses all body) unit h shows within = tt
    used_so (t.Unit here own uses outer interface all body) unit h shows within =
        let n = h.made in
        let d = n.part in
        let u = n.made in
        let f = first_told (t.Unit here own uses outer interface all body) unit h shows within in
        record {
          keyed = f.told.keyed;
          own = own_used d (interface_keeps name g interface.items d n.holds) (behind_complete name g interface.items d n.holds scope.complete) f.told f.tells (drop outer uses.items) u.part u.holds;
        }

    pub of_source : (tree : Tree) (unit : Whole) → IsTypedAs name s.says g have tree unit → (shows : IsShownAs name s.says g tree mine) → IsConsistent have shows.unit.types → IsConsistentTable have name unit.types
    of_source (t.Program heading uses all body) unit h shows within = of_program uses.items (view_declarations all.items) body unit h
    of_source (t.Unit here own uses outer interface all body) unit h shows within =
        let n = h.made in
        let d = n.part in
        let u = n.made in
        let st = u.made in
        let f = first_told (t.Unit here own uses outer interface all body) unit h shows within in
        let keeps = all_keep name unit_site (stage (knowing d u.part) []) (view_declarations all.items) st.part st.holds in
        subst (IsConsistentTable have name) (sym (ended_types name h.part (items_of d.scope) body st.part.draft unit st.made))
        (behind_last d (interface_keeps name g interface.items d n.holds) (behind_complete name g interface.items d n.holds scope.complete) f.told f.tells (drop outer uses.items) u.part u.holds st.part.draft.scope keeps)
