-- The scope at the end of each source brings what the interfaces of its used units tell.
use Rattle.std.proofs.Common.{◌≡◌, ◌∙◌, ℕ, List, [], ◌∷◌, ◌++◌, map, get_or, sym, ap, true, false}
use Rattle.std.specs.Prelude.{slice_get, drop}
use Rattle.std.proofs.Math.ListN.{get_or-append}
use Rattle.std.proofs.lemmas.List.{map-append}
use Rattle.std.proofs.lemmas.Option.{slice_get_within}
use Rattle.shared_types_agree.specs.type_layout.declared.definitions.Origin.{Origin}
use Rattle.shared_types_agree.specs.type_layout.declared.definitions.TypeDef.{TypeDef}
use Rattle.shared_types_agree.specs.type_layout.Table.{Table}
use Rattle.shared_types_agree.proofs.type_layout_proofs.Local.{slice_get-append}
use Rattle.shared_types_agree.specs.syntax_tree.declared.source_tree.source.InterfaceDeclaration.{InterfaceDeclaration}
use Rattle.shared_types_agree.specs.syntax_tree.declared.source_tree.source.InterfaceDeclaration.TheVariants as i
use Rattle.shared_types_agree.specs.syntax_tree.declared.source_tree.source.Tree.{Tree}
use Rattle.shared_types_agree.specs.syntax_tree.declared.source_tree.source.Tree.TheVariants as t
use Rattle.shared_types_agree.specs.tp_lexer.declared.source_directives.collected.Directives.{Directives}
use Rattle.shared_types_agree.specs.typed_tree.declared.units.Item.{Item}
use Rattle.shared_types_agree.specs.syntax_tree.declared.statement.CompoundStatement.{CompoundStatement}
use Rattle.std.specs.Prelude.{Option, Some, None}
use Rattle.shared_types_agree.specs.scopes.Environment.{Environment}
use Rattle.shared_types_agree.specs.unit_interface.declared.keys.Key.{Key}
use Rattle.shared_types_agree.specs.unit_interface.declared.interfaces.Interface.{Interface}
use Rattle.shared_types_agree.specs.unit_interface.Merge.{key_of, keys_of}
use Rattle.shared_types_agree.specs.unit_interface.Keyed.{IsKeyed}
use Rattle.shared_types_agree.specs.unit_interface.Resolve.{is_overlay, interface_named}
use Rattle.shared_types_agree.proofs.unit_interface_proofs.KeyLaws.{keys_stay}
use Rattle.shared_types_agree.specs.tp_check_decl.routines.Trees.{Works, view_declarations}
use Rattle.shared_types_agree.specs.tp_check_decl.routines.Drafts.{Drafted, Stage, stage, knowing}
use Rattle.shared_types_agree.proofs.methods.Below as grow
use Rattle.shared_types_agree.proofs.methods.BelowMore.{all_grow}
use Rattle.shared_types_agree.specs.methods.Below.{Whole, unit_site, empty_draft, items_of, declared, all_declared, ended, IsTypedAs, end_scope}
use Rattle.shared_types_agree.specs.tp_check_decl.Programs.{declarations_judged}
use Rattle.shared_types_agree.specs.tp_check_decl.Interfaces.{interface_judged}
use Rattle.shared_types_agree.proofs.methods.Below.{Grows, GrowsTo, grown, interface_grows, read_grows, heading_grows, part_grows, AreUsedSo, ended_types}
use Rattle.programs_well_typed.proofs.suppositions.Brought.{IsLonger, IsKeptIn, IsBringing, bringing_on, used_bring}

-- ---- what declarations keep

keys_on : (table longer : Table) → IsKeyed table → Grows table longer → (place : ℕ) (key : Key) → slice_get (keys_of table) place ≡ Some key → slice_get (keys_of longer) place ≡ Some key
keys_on table longer keyed grows place key at =
    let same : map (key_of longer.units) table.origins ≡ keys_of table =
    keys_stay table.units longer.units table.origins (λ k low. ap (λ (units : List (List ℕ)). get_or units k []) grows.has_units ∙ get_or-append table.units grows.units [] k low) keyed.known in
    let all : keys_of longer ≡ keys_of table ++ map (key_of longer.units) grows.origins =
    ap (λ (origins : List Origin). map (key_of longer.units) origins) grows.has_origins
    ∙ map-append (key_of longer.units) table.origins grows.origins
    ∙ ap (λ (keys : List Key). keys ++ map (key_of longer.units) grows.origins) same in
    ap (λ (keys : List Key). slice_get keys place) all
    ∙ slice_get-append (keys_of table) (map (key_of longer.units) grows.origins) place (slice_get_within (keys_of table) place key at)
    ∙ at

longer_by : (table longer : Table) → IsKeyed table → Grows table longer → IsLonger table longer
longer_by table longer keyed grows = record {
  keys = keys_on table longer keyed grows;
  types = λ place one at. ap (λ (types : List TypeDef). slice_get types place) grows.has_types ∙ slice_get-append table.types grows.types place (slice_get_within table.types place one at) ∙ at;
}

kept_by : (unit : List ℕ) (g h : Environment) → IsKeyed g.types → GrowsTo unit g h → IsKeptIn g h
kept_by unit g h keyed grows = record {
  units = λ place name at. ap (λ (units : List (List ℕ)). slice_get units place) grows.names ∙ at;
  table = longer_by g.types h.types keyed (grown unit g h grows);
}

-- declarations use no further units
declared_used : (name : List ℕ) (s made : Stage) (one : InterfaceDeclaration) → (declared name s one).holds made → made.draft.scope.used ≡ s.draft.scope.used
declared_used name s made (i.Part one) k = (part_grows name unit_site s made one k).used
declared_used name s made (i.Header one) k = ap (λ (x : Stage). x.draft.scope.used) k.made ∙ (heading_grows true unit_site s.draft one k.part k.holds).used

all_declared_used : (name : List ℕ) (s made : Stage) (all : List InterfaceDeclaration) → (all_declared name s all).holds made → made.draft.scope.used ≡ s.draft.scope.used
all_declared_used name s made [] k = ap (λ (x : Stage). x.draft.scope.used) k
all_declared_used name s made (one ∷ rest) k = all_declared_used name k.part made rest k.made ∙ declared_used name s k.part one k.holds

interface_used : (name : List ℕ) (g : Environment) (all : List InterfaceDeclaration) (d : Drafted) → (interface_judged name g all).holds d → d.scope.used ≡ g.used
unfolding interface_judged
interface_used name g all d k = ap (λ (x : Drafted). x.scope.used) k.made ∙ all_declared_used name (stage (empty_draft g) []) k.part all k.holds

program_used : (name : List ℕ) (g : Environment) (all : Works) (d : Drafted) → (declarations_judged name g all).holds d → d.scope.used ≡ g.used
unfolding declarations_judged
program_used name g all d k = ap (λ (x : Drafted). x.scope.used) k.made ∙ (all_grow all name unit_site (stage (empty_draft g) []) k.part k.holds).used

-- ---- how units end

ended_names : (name : List ℕ) (front : _) (items : List Item) (body : Option CompoundStatement) (d : Drafted) (unit : Whole) → (ended name front items body d).holds unit → unit.names ≡ d.scope.units
ended_names name front items None d unit h = ap (λ (w : Whole). w.names) h.made
ended_names name front items (Some body) d unit h = ap (λ (w : Whole). w.names) h.made

-- ---- one source

module _ (have : List Interface) (told : (word : List ℕ) → is_overlay word ≡ false → (i : Interface) → interface_named have word ≡ Some i → IsKeyed i.types) (name : List ℕ) (says : Directives) (g : Environment) where
  -- the unit has the types and the names of the scope at its end
  pub end_types : (tree : Tree) (unit : Whole) (h : IsTypedAs name says g have tree unit) → (end_scope name says g have tree unit h).types ≡ unit.types
  end_types (t.Program heading uses all body) unit h =
      let f = h.made in
      let d = f.made in
      sym (ended_types name f.part [] (Some body) d.part unit d.made)
  end_types (t.Unit here own uses outer interface all body) unit h =
      let n = h.made in
      let st = n.made.made in
      sym (ended_types name h.part (items_of n.part.scope) body st.part.draft unit st.made)

  pub end_names : (tree : Tree) (unit : Whole) (h : IsTypedAs name says g have tree unit) → (end_scope name says g have tree unit h).units ≡ unit.names
  end_names (t.Program heading uses all body) unit h =
      let f = h.made in
      let d = f.made in
      sym (ended_names name f.part [] (Some body) d.part unit d.made)
  end_names (t.Unit here own uses outer interface all body) unit h =
      let n = h.made in
      let st = n.made.made in
      sym (ended_names name h.part (items_of n.part.scope) body st.part.draft unit st.made)

  pub end_brings : (tree : Tree) (unit : Whole) (h : IsTypedAs name says g have tree unit) → IsBringing have g → AreUsedSo have name says g tree unit h → IsKeyed (end_scope name says g have tree unit h).types
      → IsBringing have (end_scope name says g have tree unit h)
  end_brings (t.Program heading uses all body) unit h first so keyed =
      let d = h.made.made in
      bringing_on have g d.part.scope (kept_by name g d.part.scope first.keyed (read_grows name g (view_declarations all.items) d.part d.holds)) (program_used name g (view_declarations all.items) d.part d.holds) keyed first
  end_brings (t.Unit here own uses outer interface all body) unit h first so keyed =
      let n = h.made in
      let d = n.part in
      let u = n.made in
      let st = u.made in
      let behind = bringing_on have g d.scope (kept_by name g d.scope first.keyed (interface_grows name g interface.items d n.holds)) (interface_used name g interface.items d n.holds) so.keyed first in
      let used = used_bring have told d.scope (drop outer uses.items) u.part u.holds behind in
      let works = view_declarations all.items in
      bringing_on have u.part st.part.draft.scope (kept_by name u.part st.part.draft.scope used.keyed (grow.all_grow name unit_site (stage (knowing d u.part) []) works st.part st.holds))
      (all_grow works name unit_site (stage (knowing d u.part) []) st.part st.holds).used keyed used
