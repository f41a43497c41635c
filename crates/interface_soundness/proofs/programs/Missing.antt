-- All that sources use was gathered with them, so no file is missing.
use Rattle.std.proofs.Common.{◌≡◌, ◌⊎◌, ℕ, zero, suc, Bool, true, false, ◌||◌, List, [], ◌∷◌, map, take, Some, Contains, refl, sym, ap, subst, inl, inr, codes}
use Rattle.std.specs.Prelude.{slice_get, is_some}
use Rattle.std.specs.List.{list_any}
use Rattle.std.proofs.lemmas.List.Elements.{All-contains, All-head, All-tail}
use Rattle.front_end.specs.type_layout.Words.{same_bytes}
use Rattle.front_end.specs.tp_outside.Folder.{Folder}
use Rattle.front_end.specs.tp_lexer.declared.token.Text.{Text}
use Rattle.front_end.specs.object_vmt.declared.faults.ClassError.{ClassError}
use Rattle.front_end.specs.object_vmt.declared.faults.ClassError.TheVariants as class
use Rattle.front_end.specs.syntax_tree.declared.identifier.Identifier.{Identifier}
use Rattle.front_end.specs.syntax_tree.source_tree.Sources.{used, used_in_interface}
use Rattle.front_end.specs.source_graph.declared.sources.Source.{Source}
use Rattle.front_end.specs.source_graph.Walk.{wanted_at, wanted_by, names_of as source_names, is_passed, Gathers}
use Rattle.front_end.specs.source_graph.Whole.{AreThere as AreGathered}
use Rattle.front_end.proofs.source_graph_proofs.WholeLaws.{is_whole}
use Rattle.front_end.specs.scopes.Predeclared.{system}
use Rattle.front_end.specs.typing_rules.declared.faults.CheckError.{CheckError}
use Rattle.front_end.specs.typing_rules.declared.faults.CheckError.TheVariants as check
use Rattle.front_end.specs.typing_rules.Faults.{error_of}
use Rattle.front_end.specs.unit_interface.declared.interfaces.Interface.{Interface}
use Rattle.front_end.specs.unit_interface.declared.order.OrderError.{OrderError}
use Rattle.front_end.specs.unit_interface.declared.order.OrderError.TheVariants as order
use Rattle.front_end.specs.unit_interface.Resolve.{is_overlay, interface_named, is_there}
use Rattle.front_end.specs.source_graph.source_order.Orders.{names_of}
use Rattle.front_end.specs.declared.outcomes.outcome.Outcome.{Outcome}
use Rattle.front_end.specs.declared.outcomes.outcome.Outcome.TheVariants as outcome
use Rattle.front_end.specs.declared.outcomes.refusal.Refusal.TheVariants as refusal
use Rattle.front_end.specs.refusals.Outcomes.{order_outcome, check_outcome, class_outcome}
use Rattle.front_end.specs.source_interfaces.Scopes.{outer_units, is_shown, IsUnresolved, KnowsNothing}
use Rattle.front_end.specs.source_interfaces.Interfaces.{AreInterfaces, is_source, waits}
use Rattle.front_end.proofs.source_interfaces.Uses.{some_is, contrary}
use Rattle.front_end.proofs.source_interfaces.Rounds.{placed}
use Rattle.front_end.specs.Untyped.{AreUntyped}
use Rattle.interface_soundness.specs.programs.Laws.{NoneIsMissing}
use Rattle.interface_soundness.proofs.programs.Sources.{same_name, shown_some}
use Rattle.interface_soundness.proofs.programs.Programs.{or_second, none_lacks, not_lacking}
use Rattle.interface_soundness.proofs.programs.Fronts.{outer_get}

abbrev Missing : List ℕ → Outcome
Missing file = outcome.Refused (refusal.MissingFile file)

order_not : (file : List ℕ) (error : OrderError) → Missing file ≡ order_outcome error → ⊥
order_not file (order.Circular name) is = cc
order_not file order.NoMemory is = cc

check_not : (file : List ℕ) (texts : List Text) (error : CheckError) → Missing file ≡ check_outcome texts error → ⊥
check_not file texts (check.UnknownName place rule) is = cc
check_not file texts (check.DuplicateName place rule) is = cc
check_not file texts (check.TypeMismatch place rule) is = cc
check_not file texts (check.NotAVariable place rule) is = cc
check_not file texts (check.BadConstant place rule) is = cc
check_not file texts (check.MissingBody place rule) is = cc
check_not file texts (check.BadCall place rule) is = cc
check_not file texts (check.NotInProfile place feature) is = cc
check_not file texts (check.TooLarge place bytes) is = cc
check_not file texts check.NoMemory is = cc

class_not : (file : List ℕ) (error : ClassError) → Missing file ≡ class_outcome error → ⊥
class_not file (class.BadOverride name) is = cc
class_not file (class.MissingVirtual name) is = cc
class_not file (class.DuplicateField name) is = cc
class_not file class.NoMemory is = cc

-- ---- used units

-- a used unit is a source, or OVERLAY or SYSTEM
abbrev IsFound : List Source → List ℕ → Type 0
IsFound sources name = (is_source sources name ≡ true) ⊎ ((is_overlay name ≡ true) ⊎ (same_bytes name system ≡ true))

or_more : (a b c : Bool) → (b ≡ true → c ≡ true) → (a || b) ≡ true → (a || c) ≡ true
or_more true b c more is = refl
or_more false b c more is = more is

by_names : (name : List ℕ) (sources : List Source) → list_any (same_bytes name) (source_names sources) ≡ true → is_source sources name ≡ true
by_names name [] among = absurd (cc)
by_names name (s ∷ sources) among = or_more (same_bytes name s.name) (list_any (same_bytes name) (source_names sources)) (is_source sources name) (λ later. by_names name sources later) among

found_by : (sources : List Source) (name : List ℕ) (a b c : Bool) → (a ≡ true → is_source sources name ≡ true) → (b ≡ true → is_overlay name ≡ true) → (c ≡ true → same_bytes name system ≡ true)
    → (a || (b || c)) ≡ true → IsFound sources name
found_by sources name true b c one two three is = inl (one refl)
found_by sources name false true c one two three is = inr (inl (two refl))
found_by sources name false false c one two three is = inr (inr (three is))

found_at : (sources : List Source) (uses : List Identifier) → AreGathered sources (map wanted_at uses) → (place : ℕ) (name : List ℕ) → slice_get (names_of uses) place ≡ Some name → IsFound sources name
found_at sources [] all place name at = absurd (cc)
found_at sources (unit ∷ uses) all zero name at =
    let passed = All-head (λ wanted. is_passed (source_names sources) wanted ≡ true) (wanted_at unit) (map wanted_at uses) all in
    let here : IsFound sources unit.name = found_by sources unit.name (list_any (same_bytes unit.name) (source_names sources)) (same_bytes unit.name (codes "OVERLAY")) (same_bytes unit.name (codes "SYSTEM"))
    (λ h. by_names unit.name sources h) (λ h. h) (λ h. h) passed in
    subst (IsFound sources) (some_is unit.name name at) here
found_at sources (unit ∷ uses) all (suc place) name at =
    found_at sources uses (All-tail (λ wanted. is_passed (source_names sources) wanted ≡ true) (wanted_at unit) (map wanted_at uses) all) place name at

-- each used unit is there, unless it is SYSTEM
abbrev IsThereAt : List Interface → List Identifier → Type 0
IsThereAt have uses = (place : ℕ) (name : List ℕ) → slice_get (names_of uses) place ≡ Some name → (is_there have name ≡ true) ⊎ (same_bytes name system ≡ true)

unresolved_not : (have : List Interface) (name : List ℕ) (uses : List Identifier) (file : List ℕ) → IsThereAt have uses → IsUnresolved have name (names_of uses) (Missing file) → ⊥
unresolved_not have name uses file each (once, unit, missing, is) =
    elim (each missing.place unit missing.used) [
      | inl there ↦ contrary (is_there have unit) there missing.absent
      | inr taken ↦
          once unit (record {
            place = missing.place;
            used = missing.used;
            repeated = ap (λ (b : Bool). b || list_any (same_bytes unit) (take missing.place (names_of uses))) taken;
          })
    ]

knows_not : (file : List ℕ) (texts : List Text) (have : List Interface) (name : List ℕ) (uses : List Identifier) → IsThereAt have uses → KnowsNothing texts have name uses (Missing file) → ⊥
knows_not file texts have name uses each (inl twice) = check_not file texts (error_of twice.fault) twice.is
knows_not file texts have name uses each (inr why) = unresolved_not have name uses file each why

module _ (held : Folder) (name : List ℕ) (texts : List Text) (sources : List Source) (gathers : Gathers held name texts sources) where
  found_of : (s : Source) → Contains sources s → (place : ℕ) (used_name : List ℕ) → slice_get (names_of (used s.tree)) place ≡ Some used_name → IsFound sources used_name
  found_of s has place used_name at =
      found_at sources (used s.tree) (All-contains (λ source. AreGathered sources (wanted_by source)) sources s (is_whole held name texts sources gathers).used has) place used_name at

  there_due : (have : List Interface) (s : Source) → Contains sources s → waits sources have s ≡ false → IsThereAt have (outer_units s)
  there_due have s has due place used_name at =
      elim (found_of s has place used_name (outer_get (used_in_interface s.tree) (used s.tree) place used_name at)) [
        | inl source ↦ inl (not_lacking sources have used_name source (none_lacks sources have (outer_units s) place used_name at due))
        | inr (inl overlay) ↦ inl (ap (λ (o : Bool). o || is_some (interface_named have used_name)) overlay)
        | inr (inr taken) ↦ inr taken
      ]

  there_all : (have : List Interface) (s : Source) → Contains sources s → AreInterfaces sources have → IsThereAt have (used s.tree)
  there_all have s has all place used_name at =
      elim (found_of s has place used_name at) [
        | inl source ↦
            let p = placed sources used_name source in
            let same : used_name ≡ p.source.name = same_name used_name p.source.name p.named in
            let shown = subst (λ (n : List ℕ). is_shown have n ≡ true) (sym same) (all.all p.place p.source p.stands) in
            inl (or_second (is_overlay used_name) (is_some (interface_named have used_name)) (shown_some have used_name shown))
        | inr (inl overlay) ↦ inl (ap (λ (o : Bool). o || is_some (interface_named have used_name)) overlay)
        | inr (inr taken) ↦ inr taken
      ]

  there_outside : (have : List Interface) (s : Source) → IsThereAt have (used s.tree) → IsThereAt have (outer_units s)
  there_outside have s each place used_name at = each place used_name (outer_get (used_in_interface s.tree) (used s.tree) place used_name at)

  none : (file : List ℕ) → AreUntyped texts sources (Missing file) → ⊥
  none file (inl n) = order_not file n.error n.is
  none file (inr (inl w)) = check_not file texts (error_of w.fault) w.is
  none file (inr (inr (inl i))) =
      let l = i.lacks in
      elim l.cause [
        | inl knows ↦ knows_not file texts l.have l.source.name (outer_units l.source) (there_due l.have l.source l.one l.due) knows
        | inr fails ↦ check_not file texts fails.error fails.is
      ]
  none file (inr (inr (inr (inl n)))) =
      let l = n.lacks in
      elim l.cause [
        | inl (inl knows) ↦ knows_not file texts n.have l.source.name (used l.source.tree) (there_all n.have l.source l.one n.interfaces) knows
        | inl (inr knows) ↦ knows_not file texts n.have l.source.name (outer_units l.source) (there_outside n.have l.source (there_all n.have l.source l.one n.interfaces)) knows
        | inr fails ↦ check_not file texts fails.error fails.is
      ]
  none file (inr (inr (inr (inr (inl c))))) = class_not file c.wrong.error c.wrong.is
  none file (inr (inr (inr (inr (inr (inl many)))))) = let is = many.is in absurd (cc)
  none file (inr (inr (inr (inr (inr (inr memory)))))) = absurd (cc)

pub none_missing : NoneIsMissing
none_missing held name texts sources gathers file why = none held name texts sources gathers file why
