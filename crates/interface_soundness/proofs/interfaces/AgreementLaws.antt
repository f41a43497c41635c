-- A unit shows what its interface part shows.
use Rattle.std.proofs.Common.{◌≡◌, ◌∙◌, ℕ, ◌<◌, ◌≤◌, true, false, List, [], ◌∷◌, ◌++◌, map, drop, Option, Some, None, length, refl, sym, ap, subst, arith}
use Rattle.std.specs.Prelude.{◌↔◌}
use Rattle.front_end.specs.syntax_tree.declared.statement.CompoundStatement.{CompoundStatement}
use Rattle.front_end.specs.syntax_tree.declared.source_tree.source.InterfaceDeclaration.{InterfaceDeclaration}
use Rattle.front_end.specs.syntax_tree.declared.source_tree.source.InterfaceDeclaration.TheVariants as i
use Rattle.front_end.specs.syntax_tree.declared.source_tree.source.Tree.{Tree}
use Rattle.front_end.specs.syntax_tree.declared.source_tree.source.Tree.TheVariants as t
use Rattle.front_end.specs.tp_lexer.declared.source_directives.collected.Directives.{Directives}
use Rattle.front_end.specs.type_layout.Table.{Table}
use Rattle.front_end.specs.typed_tree.declared.units.Item.{Item}
use Rattle.front_end.specs.typed_tree.declared.units.Global.{Global}
use Rattle.front_end.specs.scopes.Members.{narrow}
use Rattle.front_end.specs.scopes.Environment.{Environment}
use Rattle.front_end.specs.unit_interface.declared.interfaces.Interface.{Interface}
use Rattle.front_end.specs.unit_interface.Exports.{is_in, known, new_ids, kept, renumbered_item}
use Rattle.front_end.specs.unit_interface.Resolve.{with_uses}
use Rattle.front_end.proofs.unit_interface_proofs.ShownLaws.{one_interface}
use Rattle.front_end.specs.tp_check_decl.routines.Trees.{Works, view_declarations}
use Rattle.front_end.specs.tp_check_decl.routines.Drafts.{Drafted, knowing, Stage, stage}
use Rattle.front_end.specs.tp_check_decl.Units.{Finished, Whole, whole}
use Rattle.front_end.specs.tp_check_decl.Endings.{ended}
use Rattle.front_end.specs.tp_check_decl.Programs.{unit_site, empty_draft, declarations_judged}
use Rattle.front_end.specs.tp_check_decl.Interfaces.{items_of, all_declared, declared, interface_judged}
use Rattle.front_end.specs.tp_check_decl.Shown.{with_nothing_else, outlined, Shows}
use Rattle.front_end.specs.tp_check_decl.Checked.{judged}
use Rattle.front_end.proofs.tp_check_decl_proofs.UsedLaws.{used_is}
use Rattle.interface_soundness.specs.interfaces.Agreement.{IsPaired, IsWellScoped, IsShownBy, further_units}
use Rattle.interface_soundness.specs.interfaces.Declared.{Declares}
use Rattle.interface_soundness.proofs.interfaces.Growing.{Grows, then, declares_none, GrowsTo, grown, unchanged, next}
use Rattle.interface_soundness.proofs.interfaces.RoutinesGrow.{part_of_grows, heading_grows, all_grow, same_stage, same_draft}
use Rattle.interface_soundness.proofs.interfaces.UsesGrow.{used_grows, uses_names}
use Rattle.interface_soundness.proofs.interfaces.Shorter.{known_below, known_past, is_none, longer, is_reached_less, is_reached_more, reached_stays, same_types, same_shown}

-- ---- two units of one name with the same items, where the table of the one was grown from that of the other

module _ (short : Whole) (more : Table) (names : List (List ℕ)) (globals : List Global) (routines : List Finished) (initial : Option ℕ)
    (grows : Grows short.types more) (grown : IsPaired short.types) (closed : IsWellScoped short.types.types short.items) where
  abbrev long : Whole
  long = record short { types = more; names = names; globals = globals; routines = routines; initial = initial }

  abbrev interface_over : List ℕ → Table → Interface
  interface_over numbers table = record {
    name = short.name;
    types = kept table numbers (new_ids numbers (length table.types)) (length table.types);
    items = map (renumbered_item (new_ids numbers (length table.types))) short.items;
  }

  same_interface : (numbers : List ℕ) → ((n : ℕ) → length short.types.types ≤ n → n < length more.types → is_in numbers n ≡ false)
      → interface_over numbers more ≡ interface_over numbers short.types
  same_interface numbers none =
      let ids = new_ids numbers (length more.types) in
      ap (λ (t : Table). (let i : Interface = record { name = short.name; types = t; items = map (renumbered_item ids) short.items } in i)) (same_types short.types more short.items grows grown closed numbers none)
      ∙ ap (λ (l : List Item). (let i : Interface = record { name = short.name; types = kept short.types numbers (new_ids numbers (length short.types.types)) (length short.types.types); items = l } in i))
      (same_shown short.types more short.items grows grown closed numbers none)

  all_below : (n : ℕ) → n < length short.types.types → n < length more.types
  all_below n below = let l = longer short.types more short.items grows grown closed in omega arith

  pub in_short : (interface : Interface) → Shows long interface → Shows short interface
  in_short interface s = record {
    reached = s.reached;
    exactly = λ n below. (
      (λ met. is_reached_less short.types more short.items grows grown closed n ((s.exactly n (all_below n below)).0 met)),
      (λ r. (s.exactly n (all_below n below)).1 (is_reached_more short.types more short.items grows grown closed n r)),
    );
    is = s.is ∙ same_interface s.reached (λ n past below. is_none (is_in s.reached n) (λ met.
        let low = reached_stays short.types more short.items grows grown closed n ((s.exactly n below).0 met) in
        absurd (omega arith)));
  }

  pub in_long : (interface : Interface) → Shows short interface → Shows long interface
  in_long interface s =
      let count = length short.types.types in
      let numbers = known count s.reached in
      let first : Shows short (interface_over numbers short.types) = record {
        reached = numbers;
        exactly = λ n below. (
          (λ met. (s.exactly n below).0 (sym (known_below count n s.reached below) ∙ met)),
          (λ r. known_below count n s.reached below ∙ (s.exactly n below).1 r),
        );
        is = refl;
      } in
      let same : interface ≡ interface_over numbers short.types = one_interface (with_nothing_else short) interface (interface_over numbers short.types) s first in
      record {
        reached = numbers;
        exactly = λ n below. (
          (λ met. is_reached_more short.types more short.items grows grown closed n ((first.exactly n (known_past count n s.reached met)).0 met)),
          (λ r. (first.exactly n (reached_stays short.types more short.items grows grown closed n r)).1 (is_reached_less short.types more short.items grows grown closed n r)),
        );
        is = same ∙ sym (same_interface numbers (λ n past below. is_none (is_in numbers n) (λ met.
            let low = known_past count n s.reached met in
            absurd (omega arith))));
      }

-- ---- how units end

record Ends (short : Whole) (d : Drafted) (unit : Whole) : Type 0 where
  routines : List Finished
  initial : Option ℕ
  is : unit ≡ record short { types = d.scope.types; names = d.scope.units; globals = d.globals; routines = routines; initial = initial }

ends : (name : List ℕ) (front : _) (items : List Item) (body : Option CompoundStatement) (g : Environment) (outer : List Global) (d : Drafted) (unit : Whole) → (ended name front items body d).holds unit
    → Ends (whole name front g items outer [] None) d unit
ends name front items None g outer d unit h = record { routines = h.part; initial = None; is = h.made }
ends name front items (Some body) g outer d unit h = record { routines = h.left ++ h.right ∷ []; initial = Some (narrow (length h.left)); is = h.made }

-- a unit that ends behind an outline shows what the outline shows
shown_by : (name : List ℕ) (front : _) (items : List Item) (body : Option CompoundStatement) (g : Environment) (outer : List Global) (d : Drafted) (unit : Whole)
    → Grows g.types d.scope.types → IsPaired g.types → (ended name front items body d).holds unit → IsWellScoped g.types.types items
    → (interface : Interface) → Shows unit interface ↔ Shows (whole name front g items outer [] None) interface
shown_by name front items body g outer d unit grows grown h closed interface =
    let short = whole name front g items outer [] None in
    let e = ends name front items body g outer d unit h in
    let P : Whole → Type 0 = λ one. Shows one interface in (
      (λ s. in_short short d.scope.types d.scope.units d.globals e.routines e.initial grows grown closed interface (subst P e.is s)),
      (λ s. subst P (sym e.is) (in_long short d.scope.types d.scope.units d.globals e.routines e.initial grows grown closed interface s)),
    )

-- ---- interface parts

declared_grows : (unit : List ℕ) (s : Stage) (one : InterfaceDeclaration) (made : Stage) → (declared unit s one).holds made → GrowsTo unit s.draft.scope made.draft.scope
declared_grows unit s (i.Part one) made e = part_of_grows unit unit_site s one made e
declared_grows unit s (i.Header one) made e = same_stage unit s.draft.scope made _ e.made (heading_grows unit true unit_site s.draft one e.part e.holds)

declared_grow : (unit : List ℕ) (s : Stage) (all : List InterfaceDeclaration) (made : Stage) → (all_declared unit s all).holds made → GrowsTo unit s.draft.scope made.draft.scope
declared_grow unit s [] made e = same_stage unit s.draft.scope made s e (unchanged unit s.draft.scope _ refl refl)
declared_grow unit s (one ∷ rest) made e =
    next unit s.draft.scope e.part.draft.scope made.draft.scope (declared_grows unit s one e.part e.holds) (declared_grow unit e.part rest made e.made)

pub interface_grows : (name : List ℕ) (g : Environment) (all : List InterfaceDeclaration) (d : Drafted) → (interface_judged name g all).holds d → GrowsTo name g d.scope
unfolding interface_judged
interface_grows name g all d e =
    let start = (empty_draft g).scope in
    same_draft name g d e.part.draft e.made (next name g start e.part.draft.scope (unchanged name g start refl refl) (declared_grow name (stage (empty_draft g) []) all e.part e.holds))

pub read_grows : (name : List ℕ) (g : Environment) (all : Works) (d : Drafted) → (declarations_judged name g all).holds d → GrowsTo name g d.scope
unfolding declarations_judged
read_grows name g all d e =
    let start = (empty_draft g).scope in
    same_draft name g d e.part.draft e.made (next name g start e.part.draft.scope (unchanged name g start refl refl) (all_grow name unit_site (stage (empty_draft g) []) all e.part e.holds))

pub agree : (name : List ℕ) (says : Directives) (g : Environment) (have : List Interface) (tree : Tree) (unit : Whole) → IsPaired g.types → (judged name says g have tree).holds unit
    → IsShownBy name says g tree unit
agree name says g have (t.Program heading uses all body) unit paired h =
    let f = h.made in
    let d = f.made in
    record {
      outline = whole name f.part g [] [] [] None;
      holds = record { part = f.part; holds = f.holds; made = refl };
      same = shown_by name f.part [] (Some body) g [] d.part unit (grown name g d.part.scope (read_grows name g (view_declarations all.items) d.part d.holds)) paired d.made;
    }
agree name says g have (t.Unit here own uses outer interface all body) unit paired h =
    let i = h.made in
    let d = i.part in
    let u = i.made in
    let s = u.made in
    let first = interface_grows name g interface.items d i.holds in
    let last = all_grow name unit_site (stage (knowing d u.part) []) (view_declarations all.items) s.part s.holds in
    let grows = then d.scope.types u.part.types s.part.draft.scope.types (used_grows have d.scope (drop outer uses.items) u.part u.holds) (grown name u.part s.part.draft.scope last) in
    record {
      outline = whole name h.part d.scope (items_of d.scope) d.globals [] None;
      holds = record { part = h.part; holds = h.holds; made = record { part = d; holds = i.holds; made = refl } };
      same = shown_by name h.part (items_of d.scope) body d.scope d.globals s.part.draft unit grows ((grown name g d.scope first).pairs paired) s.made;
    }

-- the names of a unit are those of the scope at its end
named_by : (name : List ℕ) (front : _) (items : List Item) (body : Option CompoundStatement) (d : Drafted) (unit : Whole) → (ended name front items body d).holds unit → unit.names ≡ d.scope.units
named_by name front items body d unit h =
    let e = ends name front items body d.scope [] d unit h in
    ap (λ (w : Whole). w.names) e.is

pub keep_names : (name : List ℕ) (says : Directives) (g : Environment) (have : List Interface) (tree : Tree) (unit : Whole) → (judged name says g have tree).holds unit
    → unit.names ≡ (with_uses have g (further_units tree)).units
keep_names name says g have (t.Program heading uses all body) unit h =
    let d = h.made.made in
    named_by name h.made.part [] (Some body) d.part unit d.made ∙ (read_grows name g (view_declarations all.items) d.part d.holds).names
keep_names name says g have (t.Unit here own uses outer interface all body) unit h =
    let i = h.made in
    let d = i.part in
    let u = i.made in
    let s = u.made in
    let first = interface_grows name g interface.items d i.holds in
    let last = all_grow name unit_site (stage (knowing d u.part) []) (view_declarations all.items) s.part s.holds in
    let names = further_units (t.Unit here own uses outer interface all body) in
    named_by name h.part (items_of d.scope) body s.part.draft unit s.made
    ∙ last.names
    ∙ ap (λ (k : Environment). k.units) (used_is have d.scope (drop outer uses.items) u.part u.holds)
    ∙ uses_names have d.scope g names first.names

pub declare : (name : List ℕ) (says : Directives) (g : Environment) (tree : Tree) (unit : Whole) → (outlined name says g tree).holds unit → Declares name g.types unit.types
declare name says g (t.Program heading uses all body) unit h = declares_none name g.types unit.types (ap (λ (w : Whole). w.types) h.made)
declare name says g (t.Unit here own uses outer interface all body) unit h =
    let i = h.made in
    subst (λ (table : Table). Declares name g.types table) (sym (ap (λ (w : Whole). w.types) i.made)) (interface_grows name g interface.items i.part i.holds).declares
