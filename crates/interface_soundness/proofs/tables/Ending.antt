-- Checked units over closed scopes name types of their table alone.
use Rattle.std.proofs.Common.{◌≡◌, ℕ, zero, suc, ◌-◌, ◌<◌, ◌≤◌, Bool, true, false, nat_eq, eqb-true, List, [], ◌∷◌, ◌++◌, length, drop, Option, Some, None, option_map, refl, sym, subst, arith}
use Rattle.std.specs.Prelude.{◌||◌, slice_get}
use Rattle.front_end.specs.syntax_tree.declared.identifier.Identifier.{Identifier}
use Rattle.front_end.specs.syntax_tree.declared.statement.CompoundStatement.{CompoundStatement}
use Rattle.front_end.specs.type_layout.Table.{Table}
use Rattle.front_end.specs.syntax_tree.declared.source_tree.source.InterfaceDeclaration.{InterfaceDeclaration}
use Rattle.front_end.specs.syntax_tree.declared.source_tree.source.InterfaceDeclaration.TheVariants as i
use Rattle.front_end.specs.syntax_tree.declared.source_tree.source.Tree.{Tree}
use Rattle.front_end.specs.syntax_tree.declared.source_tree.source.Tree.TheVariants as t
use Rattle.front_end.specs.tp_lexer.declared.source_directives.collected.Directives.{Directives}
use Rattle.front_end.specs.typed_tree.declared.units.Item.{Item}
use Rattle.front_end.specs.scopes.declared.entries.Entry.{Entry}
use Rattle.front_end.specs.scopes.declared.entries.Entry.TheVariants as entry
use Rattle.front_end.specs.scopes.declared.entries.BlockKind.TheVariants.{Part}
use Rattle.front_end.specs.scopes.declared.searches.OpenBlock.{OpenBlock}
use Rattle.front_end.specs.scopes.Symbols.{SymbolList}
use Rattle.front_end.specs.scopes.Environment.{Environment}
use Rattle.front_end.specs.unit_interface.declared.interfaces.Interface.{Interface}
use Rattle.front_end.specs.unit_interface.Exports.{in_items, with_type, is_in}
use Rattle.front_end.specs.unit_interface.Resolve.{with_use}
use Rattle.front_end.specs.tp_check_decl.routines.Trees.{Works, view_declarations}
use Rattle.front_end.specs.tp_check_decl.routines.Drafts.{Drafted, knowing, Stage, stage}
use Rattle.front_end.specs.tp_check_decl.routines.Blocks.{all_judged}
use Rattle.front_end.specs.tp_check_decl.Units.{Whole}
use Rattle.front_end.specs.tp_check_decl.Endings.{ended}
use Rattle.front_end.specs.tp_check_decl.Programs.{unit_site, empty_draft, declarations_judged}
use Rattle.front_end.specs.tp_check_decl.Interfaces.{item_of, items_in, items_by, items_of, declared, all_declared, interface_judged, all_used}
use Rattle.front_end.specs.tp_check_decl.Shown.{outlined, with_nothing_else, IsShownAs}
use Rattle.front_end.specs.tp_check_decl.Checked.{judged}
use Rattle.interface_soundness.specs.interfaces.Agreement.{IsWellScoped}
use Rattle.imported_types_agree.specs.well_scoped.Scopes.{IsCompleteScope, IsWellScopedInterface, IsWellScopedUse}
use Rattle.imported_types_agree.proofs.well_scoped.Showing.{shown_closed}
use Rattle.imported_types_agree.proofs.well_scoped.Using.{use_longer, use_complete}
use Rattle.interface_soundness.specs.tables.Tables.{IsWellScopedUnit}
use Rattle.imported_types_agree.specs.tables_closed.constants.Bounds.{AreBelow, in_entry, in_names, in_open, IsBoundOf}
use Rattle.imported_types_agree.proofs.tables_closed_proofs.constants.Below.{below_both, below_first, below_last}
use Rattle.imported_types_agree.proofs.tables_closed_proofs.constants.Names.{closed_below}
use Rattle.imported_types_agree.proofs.tables_closed_proofs.routines.Staying.{Stays, Nothing, stays, stay_on, stay_opened, grown_closed}
use Rattle.imported_types_agree.proofs.tables_closed_proofs.routines.Routing.{draft_stays, stage_stays, heading_stays, part_of_stays, all_stay}

-- ---- interface parts

declared_stays : (unit : List ℕ) (s : Stage) (one : InterfaceDeclaration) (made : Stage) → (declared unit s one).holds made → Stays Nothing s.draft.scope made.draft.scope
declared_stays unit s (i.Part one) made e = part_of_stays unit unit_site s one made e
declared_stays unit s (i.Header one) made e = stage_stays Nothing s.draft.scope _ made e.made (heading_stays true unit_site s.draft one e.part e.holds)

declared_stay : (unit : List ℕ) (s : Stage) (all : List InterfaceDeclaration) (made : Stage) → (all_declared unit s all).holds made → Stays Nothing s.draft.scope made.draft.scope
declared_stay unit s [] made e = stage_stays Nothing s.draft.scope s made e (stays Nothing s.draft.scope)
declared_stay unit s (one ∷ rest) made e =
    stay_on s.draft.scope e.part.draft.scope made.draft.scope (declared_stays unit s one e.part e.holds) (declared_stay unit e.part rest made e.made)

interface_stays : (name : List ℕ) (g : Environment) (all : List InterfaceDeclaration) (d : Drafted) → (interface_judged name g all).holds d → Stays Nothing g d.scope
unfolding interface_judged
interface_stays name g all d e =
    let start = empty_draft g in
    draft_stays Nothing g e.part.draft d e.made
    (stay_on g start.scope e.part.draft.scope (stay_opened Nothing g Part) (declared_stay name (stage start []) all e.part e.holds))

read_stays : (name : List ℕ) (g : Environment) (all : Works) (d : Drafted) → (declarations_judged name g all).holds d → Stays Nothing g d.scope
unfolding declarations_judged
read_stays name g all d e =
    let start = empty_draft g in
    draft_stays Nothing g e.part.draft d e.made
    (stay_on g start.scope e.part.draft.scope (stay_opened Nothing g Part) (all_stay name unit_site (stage start []) all e.part e.holds))

-- ---- units that the implementation part uses

-- behind them the table has no fewer types, and has what the scope names
record IsUsed (g h : Environment) : Type 0 where
  longer : length g.types.types ≤ length h.types.types
  complete : IsCompleteScope h

used_at : (g h k : Environment) → k ≡ h → IsUsed g h → IsUsed g k
used_at g h k e u = let P : Environment → Type 0 = λ x. IsUsed g x in subst P (sym e) u

all_used_so : (have : List Interface) (g : Environment) (rest : List Identifier) (h : Environment) → (all_used have g rest).holds h → IsCompleteScope g → ((used : List ℕ) → IsWellScopedUse have used) → IsUsed g h
all_used_so have g [] h e c closed = used_at g g h e (record { longer = omega arith; complete = c })
all_used_so have g (one ∷ rest) h e c closed =
    let next = with_use have g one.name in
    let first : IsUsed g e.part = used_at g next e.part e.holds.made (record {
      longer = use_longer have g one.name c (closed one.name) e.holds.asked;
      complete = use_complete have g one.name c (closed one.name) e.holds.asked;
    }) in
    let more = all_used_so have e.part rest h e.made first.complete closed in
    let long = first.longer in
    let longer = more.longer in
    record { longer = omega arith; complete = more.complete }

-- ---- what a scope shows

items_below : (n : ℕ) (symbols : SymbolList) → AreBelow n (in_names symbols) → AreBelow n (in_items (items_in symbols))
items_below n [] h = tt
items_below n (first ∷ rest) h =
    by first.1 (below_first n (in_entry first.1) (in_names rest) h) (items_below n rest (below_last n (in_entry first.1) (in_names rest) h))
  where
    by : (other : Entry) → AreBelow n (in_entry other) → AreBelow n (in_items (items_in rest)) → AreBelow n (in_items (item_of first.0 other ++ items_in rest))
    by (entry.Const ty v) k r = (k.0, r)
    by (entry.Ty ty) k r = (k.0, r)
    by (entry.Var unit level number ty) k r = (k.0, r)
    by (entry.Code routine level header far) k r = below_both n (in_entry (entry.Code routine level header far)) (in_items (items_in rest)) k r
    by (entry.Std number) k r = r

block_below : (n : ℕ) (blocks : List OpenBlock) (place : ℕ) → AreBelow n (in_open blocks) → AreBelow n (in_items (items_by (option_map (λ (block : OpenBlock). block.symbols) (slice_get blocks place))))
block_below n [] place h = tt
block_below n (block ∷ blocks) zero h = items_below n block.symbols (below_first n (in_names block.symbols) (in_open blocks) h)
block_below n (block ∷ blocks) (suc place) h = block_below n blocks place (below_last n (in_names block.symbols) (in_open blocks) h)

shown_below : (n : ℕ) (g : Environment) → IsBoundOf n g → AreBelow n (in_items (items_of g))
shown_below n g b = block_below n g.blocks (length g.blocks - 1) b.blocks

below_in : (n : ℕ) (numbers : List ℕ) (number : ℕ) → AreBelow n numbers → is_in numbers number ≡ true → number < n
below_in n [] number h e = cc
below_in n (first ∷ rest) number h e = by (nat_eq number first) refl e (λ f. below_in n rest number h.1 f)
  where
    by : (b : Bool) → nat_eq number first ≡ b → (b || is_in rest number) ≡ true → (is_in rest number ≡ true → number < n) → number < n
    by true same f more = let is = eqb-true number first same in let low = h.0 in omega arith
    by false same f more = more f

-- ---- closed units

closed_of : (g : Environment) (items : List Item) → IsCompleteScope g → AreBelow (length g.types.types) (in_items items) → IsWellScopedUnit g.types items
closed_of g items h k = record { ordered = h.ordered; items = k; types = h.closed.types }

complete_on : (g h : Environment) → Stays Nothing g h → IsCompleteScope g → IsCompleteScope h
complete_on g h s c = record { ordered = s.ordered c.ordered; closed = grown_closed g h s c.closed }

ended_closed : (name : List ℕ) (front : _) (items : List Item) (body : Option CompoundStatement) (d : Drafted) (unit : Whole) → (ended name front items body d).holds unit
    → IsWellScopedUnit d.scope.types items → IsWellScopedUnit unit.types unit.items
ended_closed name front items None d unit e h = let P : Whole → Type 0 = λ u. IsWellScopedUnit u.types u.items in subst P (sym e.made) h
ended_closed name front items (Some body) d unit e h = let P : Whole → Type 0 = λ u. IsWellScopedUnit u.types u.items in subst P (sym e.made) h

same_unit : (one made : Whole) → made ≡ one → IsWellScopedUnit one.types one.items → IsWellScopedUnit made.types made.items
same_unit one made e h = let P : Whole → Type 0 = λ u. IsWellScopedUnit u.types u.items in subst P (sym e) h

-- behind an interface part
outer_complete : (name : List ℕ) (g : Environment) (all : List InterfaceDeclaration) (d : Drafted) → (interface_judged name g all).holds d → IsCompleteScope g → IsCompleteScope d.scope
outer_complete name g all d e h = complete_on g d.scope (interface_stays name g all d e) h

pub outline_closed : (name : List ℕ) (says : Directives) (g : Environment) (tree : Tree) (unit : Whole) → IsCompleteScope g → (outlined name says g tree).holds unit → IsWellScopedUnit unit.types unit.items
outline_closed name says g (t.Program heading uses all body) unit h e = same_unit _ unit e.made (closed_of g [] h tt)
outline_closed name says g (t.Unit here own uses outer interface all body) unit h e =
    let d = e.made in
    let behind = outer_complete name g interface.items d.part d.holds h in
    same_unit _ unit d.made (closed_of d.part.scope (items_of d.part.scope) behind (shown_below (length d.part.scope.types.types) d.part.scope behind.closed))

pub interface_closed : (name : List ℕ) (says : Directives) (g : Environment) (tree : Tree) (interface : Interface) → IsCompleteScope g → IsShownAs name says g tree interface → IsWellScopedInterface interface
interface_closed name says g tree interface h e =
    let c = outline_closed name says g tree e.unit h e.holds in
    shown_closed (with_nothing_else e.unit) interface c.ordered.paired c.items c.types e.shows

pub unit_closed : (name : List ℕ) (says : Directives) (g : Environment) (have : List Interface) (tree : Tree) (unit : Whole) → IsCompleteScope g → ((used : List ℕ) → IsWellScopedUse have used)
    → (judged name says g have tree).holds unit → IsWellScopedUnit unit.types unit.items
unit_closed name says g have (t.Program heading uses all body) unit c used h =
    let f = h.made in
    let d = f.made in
    ended_closed name f.part [] (Some body) d.part unit d.made
    (closed_of d.part.scope [] (complete_on g d.part.scope (read_stays name g (view_declarations all.items) d.part d.holds) c) tt)
unit_closed name says g have (t.Unit here own uses outer interface all body) unit c used h =
    let i = h.made in
    let d = i.part in
    let u = i.made in
    let s = u.made in
    let first = outer_complete name g interface.items d i.holds c in
    let middle = all_used_so have d.scope (drop outer uses.items) u.part u.holds first used in
    let more = all_stay name unit_site (stage (knowing d u.part) []) (view_declarations all.items) s.part s.holds in
    let last = s.part.draft.scope in
    let n = length last.types.types in
    let behind_uses = middle.longer in
    let behind_all = more.longer in
    let low : length d.scope.types.types ≤ n = omega arith in
    ended_closed name h.part (items_of d.scope) body s.part.draft unit s.made
    (closed_of last (items_of d.scope) (complete_on u.part last more middle.complete) (shown_below n d.scope (closed_below n d.scope first.closed low)))

-- the law of `interfaces` on well-scoped tables, of well-scoped units
pub is_closed : (types : Table) (items : List Item) → IsWellScopedUnit types items → IsWellScoped types.types items
is_closed types items h =
    let n = length types.types in
    record {
      named = λ number e. below_in n (in_items items) number h.items e;
      beside = λ by number e. below_in n (with_type by (slice_get types.types by)) number (h.types by) e;
    }
