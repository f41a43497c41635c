-- Sources are one program at most, and where they are one no rule is told of.
use Rattle.std.proofs.Common.{◌≡◌, ◌⊎◌, ℕ, zero, suc, Bool, true, false, not, ◌||◌, ◌&&◌, List, [], ◌∷◌, ◌++◌, length, map, Option, Some, None, refl, sym, ap, ◌∙◌, subst, arith, inl, inr, nat_eq, eqb-true}
use Rattle.std.specs.Prelude.{slice_get, is_some, option_to_list}
use Rattle.std.specs.List.{AllZip, list_any}
use Rattle.std.proofs.lemmas.List.Elements.{All-contains, All-head, All-tail, All-cons}
use Rattle.std.proofs.lemmas.Slice.Zip.{AllZip-long}
use Rattle.front_end.specs.tp_outside.Folder.{Folder}
use Rattle.front_end.specs.tp_lexer.declared.token.Text.{Text}
use Rattle.front_end.specs.typed_tree.declared.units.Unit.{Unit}
use Rattle.front_end.specs.typed_tree.declared.units.Program.{Program}
use Rattle.front_end.specs.object_vmt.declared.faults.ClassError.{ClassError}
use Rattle.front_end.specs.object_vmt.declared.faults.ClassError.TheVariants as class
use Rattle.front_end.specs.object_vmt.Dispatch.{IsLawful, IsCause}
use Rattle.front_end.specs.syntax_tree.declared.identifier.Identifier.{Identifier}
use Rattle.front_end.specs.syntax_tree.source_tree.Sources.{used, used_in_interface}
use Rattle.front_end.specs.source_graph.declared.sources.Source.{Source}
use Rattle.front_end.specs.source_graph.Walk.{Gathers}
use Rattle.front_end.specs.source_graph.Whole.{AreNew}
use Rattle.front_end.proofs.source_graph_proofs.WholeLaws.{is_whole}
use Rattle.front_end.specs.scopes.Environment.{Environment}
use Rattle.front_end.specs.typing_rules.declared.faults.CheckError.{CheckError}
use Rattle.front_end.specs.typing_rules.declared.faults.Fault.{Fault}
use Rattle.front_end.specs.typing_rules.Faults.{Tells}
use Rattle.front_end.proofs.typing_rules_proofs.JudgementLaws.{exact}
use Rattle.front_end.specs.unit_interface.declared.interfaces.Interface.{Interface}
use Rattle.front_end.specs.unit_interface.declared.order.OrderError.{OrderError}
use Rattle.front_end.specs.unit_interface.declared.order.OrderError.TheVariants as order
use Rattle.front_end.specs.unit_interface.Order.{start_order, IsCause as IsOrderCause}
use Rattle.front_end.specs.unit_interface.Resolve.{is_overlay, interface_named, is_there}
use Rattle.front_end.specs.source_graph.source_order.Orders.{names_of, all_uses}
use Rattle.front_end.proofs.source_graph_proofs.source_order.Reached.{in_order as all_in_order}
use Rattle.front_end.specs.tp_check_decl.Units.{Whole, view_unit}
use Rattle.front_end.specs.tp_check_decl.Shown.{FailsInInterface, outlined}
use Rattle.front_end.specs.tp_check_decl.Checked.{IsTypedAs, FailsAt, judged}
use Rattle.front_end.proofs.tp_check_decl_proofs.CheckLaws.{lawful, lawful_outlined}
use Rattle.front_end.specs.declared.outcomes.outcome.Outcome.{Outcome}
use Rattle.front_end.specs.declared.outcomes.outcome.Outcome.TheVariants as outcome
use Rattle.front_end.specs.declared.outcomes.refusal.Refusal.TheVariants as refusal
use Rattle.front_end.specs.refusals.Outcomes.{order_outcome, check_outcome, class_outcome}
use Rattle.front_end.specs.source_interfaces.Scopes.{outer_units, outer_scope, is_shown, AreThere, AreOnce, IsUnresolved, KnowsNothing}
use Rattle.front_end.specs.source_interfaces.Kinds.{is_of_kind}
use Rattle.front_end.specs.source_interfaces.Interfaces.{IsShownIn, AreInterfaces, IsAcyclic, is_source, lacks}
use Rattle.front_end.proofs.source_interfaces.Uses.{some_is, contrary}
use Rattle.front_end.specs.Typed.{sources_at, in_order, IsUnitOf, AreUnits, AreLawful, IsProgram}
use Rattle.front_end.specs.Untyped.{HaveNoInterfaces, HaveNoUnits, HaveWrongClass, AreUntyped}
use Rattle.interface_soundness.specs.programs.Laws.{OneProgram, IsFree, IsComplete}
use Rattle.interface_soundness.proofs.programs.Sources.{stands, is_source_at, named_by, shown_some}
use Rattle.interface_soundness.proofs.programs.Alike.{AreAlike, IsAlike, known_alike, judged_alike, of_source, alike, there_at, split_there}
use Rattle.interface_soundness.proofs.programs.Fronts.{outlined_once, judged_once, outer_once, outer_get, twice_not}

-- ---- what is told in its place

order_free : (sources : List Source) (error : OrderError) → IsAcyclic sources → IsOrderCause (all_uses sources) error → IsFree (order_outcome error)
order_free sources (order.Circular name) acyclic cause = absurd (acyclic cause.place cause.circle)
order_free sources order.NoMemory acyclic cause = tt

told_free : (texts : List Text) (fails : Fault → Type 0) (error : CheckError) → ((fault : Fault) → fails fault → ⊥) → Tells fails error → IsFree (check_outcome texts error)
told_free texts fails error none (inl memory) = subst (λ (e : CheckError). IsFree (check_outcome texts e)) (sym memory) tt
told_free texts fails error none (inr (fault, is, there)) = absurd (none fault there)

unresolved_free : (have : List Interface) (name : List ℕ) (uses : List Identifier) (result : Outcome) → AreThere have uses → IsUnresolved have name (names_of uses) result → IsFree result
unresolved_free have name uses (outcome.Refused (refusal.MissingFile file)) there (once, unit, missing, is) = absurd (there unit missing)
unresolved_free have name uses (outcome.Refused (refusal.VersionMismatch unit import)) there why = tt
unresolved_free have name uses (outcome.Refused other) there why = absurd why
unresolved_free have name uses outcome.NoMemory there why = tt
unresolved_free have name uses other there why = absurd why

knows_free : (texts : List Text) (have : List Interface) (name : List ℕ) (uses : List Identifier) (result : Outcome) → AreOnce (names_of uses) → AreThere have uses → KnowsNothing texts have name uses result → IsFree result
knows_free texts have name uses result once there (inl twice) = absurd (twice_not uses twice.fault once twice.repeated)
knows_free texts have name uses result once there (inr why) = unresolved_free have name uses result there why

class_free : (unit : Unit) (error : ClassError) → IsLawful unit.types.types → IsCause unit.types.types error → IsFree (class_outcome error)
class_free unit (class.BadOverride name) lawful cause = absurd (lawful (class.BadOverride name) cause)
class_free unit (class.MissingVirtual name) lawful cause = absurd (lawful (class.MissingVirtual name) cause)
class_free unit (class.DuplicateField name) lawful cause = absurd (lawful (class.DuplicateField name) cause)
class_free unit class.NoMemory lawful cause = tt

-- ---- units of the sources in order

pub record IsUnitIn (have : List Interface) (source : Source) : Type 0 where
  pub unit : Unit
  pub is : IsUnitOf have source unit

-- the first of some places is that of the source, or it is a later one
unit_head : (have : List Interface) (sources : List Source) (rest : List Source) (place p : ℕ) (s : Source) (found : Option Source) (here later : Bool) (units : List Unit)
    → slice_get sources place ≡ Some s → slice_get sources p ≡ found → AllZip (IsUnitOf have) (option_to_list found ++ rest) units → nat_eq place p ≡ here → (here || later) ≡ true
    → ((us : List Unit) → AllZip (IsUnitOf have) rest us → later ≡ true → IsUnitIn have s) → IsUnitIn have s
unit_head have sources rest place p s None true later units at none all here among more =
    let same : place ≡ p = eqb-true place p here in
    let there : slice_get sources p ≡ Some s = subst (λ (k : ℕ). slice_get sources k ≡ Some s) same at in
    absurd (nothing s (sym none ∙ there))
  where
    nothing : (x : Source) → None ≡ Some x → ⊥
    nothing x is = cc
unit_head have sources rest place p s None false later units at none all other among more = more units all among
unit_head have sources rest place p s (Some t) here later [] at found all is among more = absurd all
unit_head have sources rest place p s (Some t) true later (unit ∷ units) at found all here among more =
    let same : place ≡ p = eqb-true place p here in
    let there : slice_get sources p ≡ Some s = subst (λ (k : ℕ). slice_get sources k ≡ Some s) same at in
    record { unit = unit; is = subst (λ (x : Source). IsUnitOf have x unit) (some_is t s (sym found ∙ there)) all.0 }
unit_head have sources rest place p s (Some t) false later (unit ∷ units) at found all other among more = more units all.1 among

-- a source of which the order has the place has its unit
pub unit_in : (have : List Interface) (sources : List Source) (places : List ℕ) (units : List Unit) (place : ℕ) (s : Source) → AllZip (IsUnitOf have) (sources_at sources places) units
    → list_any (nat_eq place) places ≡ true → slice_get sources place ≡ Some s → IsUnitIn have s
unit_in have sources [] units place s all among at = absurd (cc)
unit_in have sources (p ∷ places) units place s all among at =
    unit_head have sources (sources_at sources places) place p s (slice_get sources p) (nat_eq place p) (list_any (nat_eq place) places) units at refl all refl among
    (λ us rest later. unit_in have sources places us place s rest later at)

-- units that are there are so for the interface part
there_outside : (have : List Interface) (s : Source) → AreThere have (used s.tree) → AreThere have (outer_units s)
there_outside have s there name m =
    there name (record { place = m.place; used = outer_get (used_in_interface s.tree) (used s.tree) m.place name m.used; absent = m.absent })

-- ---- two lists of units of the same sources

module _ (sources : List Source) (new : AreNew [] sources) (acyclic : IsAcyclic sources) where
  -- what both know of a source is alike
  record IsKnownAlike (a b : List Interface) (s : Source) : Type 0 where
    pub all : AreAlike a b (names_of (used s.tree))
    pub scope : outer_scope a s ≡ outer_scope b s

  source_alike : (a b : List Interface) (s : Source) → AreInterfaces sources a → AreInterfaces sources b → AreThere a (used s.tree) → IsKnownAlike a b s
  source_alike a b s one other there = record {
    all = alike sources new a b one.shown other acyclic (used s.tree) there;
    scope = known_alike a b s.name (outer_units s) (alike sources new a b one.shown other acyclic (outer_units s) (there_outside a s there));
  }

  -- a typed unit by the one is so by the other
  typed_alike : (a b : List Interface) (s : Source) (unit : Whole) → IsKnownAlike a b s → IsTypedAs s.name s.says (outer_scope a s) a s.tree unit → IsTypedAs s.name s.says (outer_scope b s) b s.tree unit
  typed_alike a b s unit k typed =
      judged_alike a b s.name s.says (outer_scope b s) s.tree k.all unit (subst (λ (g : Environment). IsTypedAs s.name s.says g a s.tree unit) k.scope typed)

  same_unit : (a b : List Interface) (s : Source) (x y : Unit) → AreInterfaces sources a → AreInterfaces sources b → IsUnitOf a s x → IsUnitOf b s y → view_unit x ≡ view_unit y
  same_unit a b s x y one other of_a of_b =
      let moved = typed_alike a b s (view_unit x) (source_alike a b s one other of_a.there) of_a.typed in
      let law = exact (judged s.name s.says (outer_scope b s) b) (lawful s.name s.says (outer_scope b s) b) in
      law.one s.tree (view_unit x) (view_unit y) moved of_b.typed

  same_units : (a b : List Interface) → AreInterfaces sources a → AreInterfaces sources b → (ss : List Source) (xs ys : List Unit) → AllZip (IsUnitOf a) ss xs → AllZip (IsUnitOf b) ss ys → map view_unit xs ≡ map view_unit ys
  same_units a b one other [] [] [] all each = refl
  same_units a b one other [] (x ∷ xs) ys all each = absurd all
  same_units a b one other [] [] (y ∷ ys) all each = absurd each
  same_units a b one other (s ∷ ss) [] ys all each = absurd all
  same_units a b one other (s ∷ ss) (x ∷ xs) [] all each = absurd each
  same_units a b one other (s ∷ ss) (x ∷ xs) (y ∷ ys) all each =
      let first = same_unit a b s x y one other all.0 each.0 in
      let rest = same_units a b one other ss xs ys all.1 each.1 in
      ap (λ (v : Whole). v ∷ map view_unit xs) first ∙ ap (λ (vs : List Whole). view_unit y ∷ vs) rest

  are_same : (xs ys : List Unit) → AreUnits sources xs → AreUnits sources ys → map view_unit xs ≡ map view_unit ys
  are_same xs ys one other = same_units one.have other.have one.interfaces other.interfaces (in_order sources) xs ys one.typed other.typed

  same_length : (xs ys : List Unit) → AreUnits sources xs → AreUnits sources ys → length xs ≡ length ys
  same_length xs ys one other = AllZip-long (IsUnitOf one.have) (in_order sources) xs one.typed ∙ sym (AllZip-long (IsUnitOf other.have) (in_order sources) ys other.typed)

first_view : (x y : Whole) (xs ys : List Whole) → (x ∷ xs) ≡ (y ∷ ys) → x ≡ y
first_view x y xs ys same = cc

rest_views : (x y : Whole) (xs ys : List Whole) → (x ∷ xs) ≡ (y ∷ ys) → xs ≡ ys
rest_views x y xs ys same = cc

-- what is lawful of units is so of others with the same views
lawful_too : (xs ys : List Unit) → map view_unit xs ≡ map view_unit ys → AreLawful xs → AreLawful ys
lawful_too [] [] same all = all
lawful_too [] (y ∷ ys) same all = absurd (cc)
lawful_too (x ∷ xs) [] same all = absurd (cc)
lawful_too (x ∷ xs) (y ∷ ys) same all =
    let P : Unit → Type 0 = λ unit. IsLawful unit.types.types in
    let one = first_view (view_unit x) (view_unit y) (map view_unit xs) (map view_unit ys) same in
    let here : P y = subst (λ (w : Whole). IsLawful w.types.types) one (All-head P x xs all) in
    All-cons P y ys here (lawful_too xs ys (rest_views (view_unit x) (view_unit y) (map view_unit xs) (map view_unit ys) same) (All-tail P x xs all))

-- ---- interfaces that are not all there

pub or_second : (o s : Bool) → s ≡ true → (o || s) ≡ true
or_second true s is = refl
or_second false s is = is

shows_now : (s h : Bool) → s ≡ true → (s && not h) ≡ false → h ≡ true
shows_now true true is none = refl
shows_now true false is none = absurd (cc)
shows_now false h is none = absurd (cc)

either_false : (x y : Bool) → (x || y) ≡ false → (x ≡ false) × (y ≡ false)
either_false true y none = absurd (cc)
either_false false y none = (refl, none)

pub none_lacks : (sources : List Source) (have : List Interface) (uses : List Identifier) (place : ℕ) (name : List ℕ) → slice_get (names_of uses) place ≡ Some name
    → list_any (λ (unit : Identifier). lacks sources have unit.name) uses ≡ false → lacks sources have name ≡ false
none_lacks sources have [] place name at none = absurd (cc)
none_lacks sources have (unit ∷ uses) zero name at none =
    subst (λ (x : List ℕ). lacks sources have x ≡ false) (some_is unit.name name at) (either_false (lacks sources have unit.name) (list_any (λ (one : Identifier). lacks sources have one.name) uses) none).0
none_lacks sources have (unit ∷ uses) (suc place) name at none =
    none_lacks sources have uses place name at (either_false (lacks sources have unit.name) (list_any (λ (one : Identifier). lacks sources have one.name) uses) none).1

-- a unit for which none waits is there, if it is a source
pub not_lacking : (sources : List Source) (have : List Interface) (name : List ℕ) → is_source sources name ≡ true → lacks sources have name ≡ false → is_there have name ≡ true
not_lacking sources have name source none =
    or_second (is_overlay name) (is_some (interface_named have name)) (shown_some have name (shows_now (is_source sources name) (is_shown have name) source none))

-- units that are there by all interfaces are so by those for which a source does not wait any more
due_there : (sources : List Source) (a b : List Interface) → AreInterfaces sources b → (uses : List Identifier) → AreThere b uses
    → list_any (λ (unit : Identifier). lacks sources a unit.name) uses ≡ false → AreThere a uses
due_there sources a b all uses there due name m = by (split_there (is_overlay name) (is_some (interface_named b name)) (there_at b uses there m.place name m.used))
  where
    by : (is_overlay name ≡ true) ⊎ (is_some (interface_named b name) ≡ true) → ⊥
    by (inl overlay) = contrary (is_there a name) (ap (λ (o : Bool). o || is_some (interface_named a name)) overlay) m.absent
    by (inr some) =
        let n = named_by (IsShownIn sources b) b name all.shown some in
        let t = n.holds.source in
        let source = is_source_at sources n.holds.one.0 t name (stands sources t n.holds.one) (n.named ∙ n.holds.named) in
        contrary (is_there a name) (not_lacking sources a name source (none_lacks sources a uses m.place name m.used due)) m.absent

-- one of some names is told of as all are
alike_at : (a b : List Interface) (names : List (List ℕ)) → AreAlike a b names → (place : ℕ) (name : List ℕ) → slice_get names place ≡ Some name → IsAlike a b name
alike_at a b [] same place name at = absurd (cc)
alike_at a b (one ∷ names) same zero name at = subst (IsAlike a b) (some_is one name at) same.0
alike_at a b (one ∷ names) same (suc place) name at = alike_at a b names same.1 place name at

-- units that are there by some interfaces are so by those that tell alike of them
there_too : (a b : List Interface) (uses : List Identifier) → AreAlike a b (names_of uses) → AreThere a uses → AreThere b uses
there_too a b uses same there name m = contrary (is_there b name) (by (alike_at a b (names_of uses) same m.place name m.used)) m.absent
  where
    by : IsAlike a b name → is_there b name ≡ true
    by (inl overlay) = ap (λ (o : Bool). o || is_some (interface_named b name)) overlay
    by (inr is) = ap (λ (i : Option Interface). is_overlay name || is_some i) (sym is) ∙ there_at a uses there m.place name m.used

-- ---- the phases

module _ (held : Folder) (name : List ℕ) (texts : List Text) (sources : List Source) (gathers : Gathers held name texts sources) (program : Program) (is : IsProgram sources program) where
  new : AreNew [] sources
  new = (is_whole held name texts sources gathers).once

  interfaces_free : (result : Outcome) → HaveNoInterfaces texts sources result → IsFree result
  interfaces_free result i =
      let b = is.units.have in
      let all = is.units.interfaces in
      let l = i.lacks in
      let s = l.source in
      let at = stands sources s l.one in
      let n = named_by (IsShownIn sources b) b s.name all.shown (shown_some b s.name (all.all l.one.0 s at)) in
      let shown = of_source sources new b l.one.0 s n.interface at n.named n.holds in
      let there = due_there sources l.have b all (outer_units s) shown.0 l.due in
      let scope = known_alike l.have b s.name (outer_units s) (alike sources new l.have b l.shown all is.units.acyclic (outer_units s) there) in
      let once = outer_once (used_in_interface s.tree) (used s.tree) (outlined_once s.name s.says (outer_scope b s) s.tree shown.1.unit shown.1.holds) in
      let law = exact (outlined s.name s.says (outer_scope b s)) (lawful_outlined s.name s.says (outer_scope b s)) in
      elim l.cause [
        | inl knows ↦ knows_free texts l.have s.name (outer_units s) result once there knows
        | inr fails ↦
            subst IsFree (sym fails.is) (told_free texts (FailsInInterface s.name s.says (outer_scope b s) s.tree) fails.error
            (λ fault f. law.excludes s.tree shown.1.unit fault shown.1.holds f)
            (subst (λ (g : Environment). Tells (FailsInInterface s.name s.says g s.tree) fails.error) scope fails.tells))
      ]

  units_free : (result : Outcome) → HaveNoUnits texts sources result → IsFree result
  units_free result n =
      let b = is.units.have in
      let s = n.lacks.source in
      let at = stands sources s n.lacks.one in
      let among = all_in_order held name texts sources gathers n.lacks.one.0 n.lacks.one.1 in
      let u = unit_in b sources (start_order (all_uses sources) 0) program.units n.lacks.one.0 s is.units.typed among at in
      let k = source_alike sources new is.units.acyclic b n.have s is.units.interfaces n.interfaces u.is.there in
      let once = judged_once s.name s.says (outer_scope b s) b s.tree (view_unit u.unit) u.is.typed in
      let there = there_too b n.have (used s.tree) k.all u.is.there in
      let typed = typed_alike sources new is.units.acyclic b n.have s (view_unit u.unit) k u.is.typed in
      let law = exact (judged s.name s.says (outer_scope n.have s) n.have) (lawful s.name s.says (outer_scope n.have s) n.have) in
      elim n.lacks.cause [
        | inl (inl knows) ↦ knows_free texts n.have s.name (used s.tree) result once there knows
        | inl (inr knows) ↦
            knows_free texts n.have s.name (outer_units s) result (outer_once (used_in_interface s.tree) (used s.tree) once) (there_outside n.have s there) knows
        | inr fails ↦
            subst IsFree (sym fails.is) (told_free texts (FailsAt s.name s.says (outer_scope n.have s) n.have s.tree) fails.error
            (λ fault f. law.excludes s.tree (view_unit u.unit) fault typed f) fails.tells)
      ]

  class_is_free : (result : Outcome) → HaveWrongClass sources result → IsFree result
  class_is_free result c =
      let same = are_same sources new is.units.acyclic program.units c.units is.units c.are in
      let lawful = lawful_too program.units c.units same is.lawful in
      let unit = c.wrong.unit in
      let here = All-contains (λ (one : Unit). IsLawful one.types.types) c.units unit lawful c.wrong.one in
      subst IsFree (sym c.wrong.is) (class_free unit c.wrong.error here c.wrong.cause)

  free : (result : Outcome) → AreUntyped texts sources result → IsFree result
  free result (inl n) = subst IsFree (sym n.is) (order_free sources n.error is.units.acyclic n.cause)
  free result (inr (inl w)) =
      let k = w.wrong in
      absurd (contrary (is_of_kind sources k.place k.source) (is.units.kinds k.place k.source k.stands) k.wrong)
  free result (inr (inr (inl i))) = interfaces_free result i
  free result (inr (inr (inr (inl n)))) = units_free result n
  free result (inr (inr (inr (inr (inl c))))) = class_is_free result c
  free result (inr (inr (inr (inr (inr (inl many)))))) =
      let same = same_length sources new is.units.acyclic program.units many.units is.units many.are in
      absurd (omega (arith, same, is.few, many.many))
  free result (inr (inr (inr (inr (inr (inr memory)))))) = subst IsFree (sym memory) tt

pub complete : IsComplete
complete held name texts sources gathers program is result why = free held name texts sources gathers program is result why

pub one_program : OneProgram
one_program held name texts sources gathers one other first second =
    let new = (is_whole held name texts sources gathers).once in
    let same = same_length sources new first.units.acyclic one.units other.units first.units second.units in
    record {
      units = are_same sources new first.units.acyclic one.units other.units first.units second.units;
      start = omega (arith, same, first.last, second.last);
    }
