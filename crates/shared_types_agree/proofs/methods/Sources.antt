-- The typed unit of a source has the routines of its methods.
use Rattle.std.proofs.Common.{◌≡◌, ◌∙◌, ℕ, true, List, [], ◌∷◌, ◌++◌, map, Option, Some, None, refl, sym, ap, subst, append-nil}
use Rattle.std.specs.Prelude.{slice_get, drop}
use Rattle.std.proofs.Math.Nat.{min-eq_left}
use Rattle.std.proofs.lemmas.Option.{slice_get_within}
use Rattle.unit_references.specs.type_layout.declared.definitions.TypeId.{TypeId}
use Rattle.unit_references.specs.type_layout.declared.definitions.Method.{Method}
use Rattle.unit_references.specs.type_layout.declared.definitions.TypeDef.{TypeDef}
use Rattle.unit_references.specs.type_layout.Table.{Table}
use Rattle.unit_references.proofs.type_layout_proofs.Local.{slice_get-append}
use Rattle.units_well_formed.specs.syntax_tree.declared.statement.CompoundStatement.{CompoundStatement}
use Rattle.units_well_formed.specs.syntax_tree.declared.source_tree.source.InterfaceDeclaration.{InterfaceDeclaration}
use Rattle.units_well_formed.specs.syntax_tree.declared.source_tree.source.InterfaceDeclaration.TheVariants as i
use Rattle.units_well_formed.specs.syntax_tree.declared.source_tree.source.Tree.{Tree}
use Rattle.units_well_formed.specs.syntax_tree.declared.source_tree.source.Tree.TheVariants as t
use Rattle.units_well_formed.specs.tp_lexer.declared.source_directives.collected.Directives.{Directives}
use Rattle.unit_references.specs.typed_tree.declared.units.Item.{Item}
use Rattle.unit_references.specs.typed_tree.declared.units.Unit as typed
use Rattle.units_well_formed.specs.scopes.declared.entries.BlockKind.TheVariants.{Part}
use Rattle.units_well_formed.specs.scopes.declared.searches.OpenBlock.{OpenBlock}
use Rattle.units_well_formed.specs.scopes.Environment.{Environment}
use Rattle.units_well_formed.specs.unit_interface.declared.interfaces.Interface.{Interface}
use Rattle.units_well_formed.specs.tp_check_decl.routines.Trees.{Works, view_declarations}
use Rattle.units_well_formed.specs.tp_check_decl.routines.Drafts.{Numbered, Drafted, Stage, stage, knowing}
use Rattle.shared_types_agree.specs.programs.Below.{Finished, Whole, view_routine, view_unit, finished, unit_site, empty_draft, all_finished, ended, items_of, all_declared, declared, IsTypedAs}
use Rattle.units_well_formed.specs.tp_check_decl.Programs.{declarations_judged}
use Rattle.units_well_formed.specs.tp_check_decl.Interfaces.{interface_judged}
use Rattle.shared_types_agree.proofs.programs.Below.{used_grows}
use Rattle.units_well_formed.proofs.units.Finished.{slot_at, view_back}
use Rattle.shared_types_agree.proofs.programs.Using.{used_bare}
use Rattle.shared_types_agree.proofs.programs.Units.{ended_types, ended_name, AreUsedSo, IsFirstScope}
use Rattle.shared_types_agree.specs.methods.Laws.{IsOwnMethod, HasOwnMethods}
use Rattle.shared_types_agree.proofs.methods.Numbered.{in_class, HaveRoutines}
use Rattle.shared_types_agree.proofs.methods.Drafts.{AreOpen, IsReading, reading_at, heading_read}
use Rattle.shared_types_agree.proofs.methods.Routines.{part_read, same_stage, all_read}
use Rattle.shared_types_agree.proofs.methods.Tables.{none_yet, others_on}

-- ---- the end of a unit

-- the routines that are numbered come first
record AreFirst (types : List TypeDef) (routines : List Numbered) (all : List Finished) : Type 0 where
  first : List Finished
  holds : (all_finished types routines).holds first
  rest : List Finished
  is : all ≡ first ++ rest

ended_routines : (name : List ℕ) (front : _) (items : List Item) (body : Option CompoundStatement) (d : Drafted) (unit : Whole) → (ended name front items body d).holds unit
    → AreFirst d.scope.types.types d.routines unit.routines
ended_routines name front items None d unit h = record { first = h.part; holds = h.holds; rest = []; is = ap (λ (w : Whole). w.routines) h.made ∙ sym (append-nil h.part) }
ended_routines name front items (Some body) d unit h = record { first = h.left; holds = h.left_holds; rest = h.right ∷ []; is = ap (λ (w : Whole). w.routines) h.made }

-- a method's routine is the one of the unit under its number
pub ended_methods : (name : List ℕ) (front : _) (items : List Item) (body : Option CompoundStatement) (d : Drafted) (unit : typed.Unit) → (ended name front items body d).holds (view_unit unit)
    → HaveRoutines name d.scope.types d.routines → HasOwnMethods unit
ended_methods name front items body d unit h have = record { methods = methods }
  where
    methods : (class : TypeId) (place : ℕ) (method : Method) → slice_get (in_class unit.types class) place ≡ Some method → slice_get unit.types.units method.routine.unit ≡ Some unit.name → IsOwnMethod unit class method
    methods class place method at named =
        let table : unit.types ≡ d.scope.types = ended_types name front items body d (view_unit unit) h in
        let own : unit.name ≡ name = ended_name name front items body d (view_unit unit) h in
        let here : slice_get (in_class d.scope.types class) place ≡ Some method = subst (λ (x : Table). slice_get (in_class x class) place ≡ Some method) table at in
        let mine : slice_get d.scope.types.units method.routine.unit ≡ Some name = subst (λ (x : Table). slice_get x.units method.routine.unit ≡ Some name) table (named ∙ ap (λ (n : List ℕ). Some n) own) in
        let r = have.methods class place method here mine in
        let all = ended_routines name front items body d (view_unit unit) h in
        let slot = slot_at d.scope.types.types d.routines all.first r.place r.one all.holds r.is in
        let done = slot.0 in
        let low = have.few r.place r.one done r.is slot.1 in
        let number : method.routine.number ≡ r.place = r.number_is ∙ min-eq_left low in
        let viewed : slice_get (map view_routine unit.routines) r.place ≡ Some (finished r.one.first done) =
        ap (λ (fs : List Finished). slice_get fs r.place) all.is ∙ slice_get-append all.first all.rest r.place (slice_get_within all.first r.place (finished r.one.first done) slot.2) ∙ slot.2 in
        let back = view_back unit.routines r.place (finished r.one.first done) viewed in
        record {
          routine = back.0;
          is = ap (λ (n : ℕ). slice_get unit.routines n) number ∙ back.1;
          header = ap (λ (f : Finished). f.header) back.2 ∙ r.header;
          owned = ap (λ (f : Finished). f.owner) back.2 ∙ r.owner;
        }

-- ---- interface parts

declared_read : (name : List ℕ) (s : Stage) (one : InterfaceDeclaration) (made : Stage) → (declared name s one).holds made → IsReading name 0 s.draft → IsReading name 0 made.draft
declared_read name s (i.Part one) made e r = part_read name 0 unit_site s one made e r
declared_read name s (i.Header one) made e r = same_stage name 0 (stage e.part s.locals) made e.made (heading_read name 0 true unit_site s.draft one e.part e.holds r)

all_declared_read : (name : List ℕ) (s : Stage) (all : List InterfaceDeclaration) (made : Stage) → (all_declared name s all).holds made → IsReading name 0 s.draft → IsReading name 0 made.draft
all_declared_read name s [] made e r = same_stage name 0 s made e r
all_declared_read name s (one ∷ rest) made e r = all_declared_read name e.part rest made e.made (declared_read name s one e.part e.holds r)

interface_read : (name : List ℕ) (g : Environment) (all : List InterfaceDeclaration) (d : Drafted) → (interface_judged name g all).holds d → IsReading name 0 (empty_draft g) → IsReading name 0 d
unfolding interface_judged
interface_read name g all d e r = reading_at name 0 e.part.draft d e.made (all_declared_read name (stage (empty_draft g) []) all e.part e.holds r)

program_read : (name : List ℕ) (g : Environment) (all : Works) (d : Drafted) → (declarations_judged name g all).holds d → IsReading name 0 (empty_draft g) → IsReading name 0 d
unfolding declarations_judged
program_read name g all d e r = reading_at name 0 e.part.draft d e.made (all_read name 0 unit_site (stage (empty_draft g) []) all e.part e.holds r)

-- ---- one source

begun : (name : List ℕ) (g : Environment) → IsFirstScope name g → IsReading name 0 (empty_draft g)
begun name g first =
    let block : OpenBlock = record { kind = Part; symbols = [] } in
    record {
      have = none_yet name g.types first.keyed first.owned first.none;
      opened = subst (λ (blocks : List OpenBlock). AreOpen 0 (blocks ++ block ∷ [])) (sym first.bare)
          (record { names = (tt, tt); bottom = record { first = block; rest = []; is = refl; part = refl; several = refl } });
    }

pub source_methods : (name : List ℕ) (says : Directives) (g : Environment) (have : List Interface) (tree : Tree) (unit : typed.Unit) (h : IsTypedAs name says g have tree (view_unit unit)) → IsFirstScope name g
    → AreUsedSo have name says g tree (view_unit unit) h → HasOwnMethods unit
source_methods name says g have (t.Program heading uses all body) unit h first so =
    let f = h.made in
    let d = f.made in
    ended_methods name f.part [] (Some body) d.part unit d.made (program_read name g (view_declarations all.items) d.part d.holds (begun name g first)).have
source_methods name says g have (t.Unit here own uses outer interface all body) unit h first so =
    let n = h.made in
    let d = n.part in
    let u = n.made in
    let st = u.made in
    let behind = interface_read name g interface.items d n.holds (begun name g first) in
    let grows = used_grows have d.scope (drop outer uses.items) u.part u.holds in
    let same : u.part.blocks ≡ d.scope.blocks = used_bare have d.scope (drop outer uses.items) u.part u.holds in
    let used : IsReading name 0 (knowing d u.part) = record {
      have = others_on name d.scope.types u.part.types so.keyed grows so.own.scope.told.keyed so.own.table.owned so.own.table.from d.routines behind.have;
      opened = subst (λ (blocks : List OpenBlock). AreOpen 0 blocks) (sym same) behind.opened;
    } in
    ended_methods name h.part (items_of d.scope) body st.part.draft unit st.made (all_read name 0 unit_site (stage (knowing d u.part) []) (view_declarations all.items) st.part st.holds used).have
