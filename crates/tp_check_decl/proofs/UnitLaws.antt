-- What follows for the routines of a unit.
use Rattle.std.proofs.Common.{◌≡◌, ℕ, zero, suc, ◌+◌, ◌<◌, ◌≤◌, ◌^◌, true, List, [], ◌∷◌, ◌++◌, map, length, Option, Some, None, Result, Ok, Err, IfOk, refl, sym, subst, arith, length-append}
use Rattle.std.proofs.lemmas.List.{length-map}
use Rattle.std.specs.Prelude.{All, slice_get, ◌-◌, min}
use Rattle.type_layout.specs.declared.definitions.TypeDef.{TypeDef}
use Rattle.type_layout.specs.declared.definitions.Kind.TheVariants as kind
use Rattle.syntax_tree.specs.declared.statement.CompoundStatement.{CompoundStatement}
use Rattle.syntax_tree.specs.declared.source_tree.source.Tree.{Tree}
use Rattle.syntax_tree.specs.declared.source_tree.source.Tree.TheVariants as t
use Rattle.tp_lexer.specs.declared.source_directives.collected.Directives.{Directives}
use Rattle.typed_tree.specs.declared.units.Item.{Item}
use Rattle.typed_tree.specs.declared.units.Routine.{Routine}
use Rattle.typed_tree.specs.declared.units.Unit as typed
use Rattle.typed_tree.specs.Statements.{view_stmt}
use Rattle.typed_tree.specs.Needs.{statement_need}
use Rattle.scopes.specs.Members.{narrow}
use Rattle.scopes.specs.Environment.{Environment}
use Rattle.typed_tree.specs.type_fits.Routines.{IsInitial, HasInitial}
use Rattle.typing_rules.specs.declared.faults.Refusal.{Refusal}
use Rattle.unit_interface.specs.declared.interfaces.Interface.{Interface}
use Rattle.typing_rules.specs.Faults.{answer_of}
use Rattle.typing_rules.specs.Judgements.{Gives}
use Rattle.typing_rules.proofs.JudgementLaws.{typed_answer}
use Rattle.tp_check_decl.specs.declared.routines.drafts.Announced.{Announced}
use Rattle.tp_check_decl.specs.routines.Drafts.{Drafted, Done, Numbered}
use Rattle.tp_check_decl.specs.declared.fronts.Front.{Front}
use Rattle.tp_check_decl.specs.Units.{Finished, Whole, view_routine, view_unit}
use Rattle.tp_check_decl.specs.Limits.{local_bytes, own_bytes, KeepsLimit}
use Rattle.tp_check_decl.specs.Endings.{finished_by, all_finished, main_judged, ended}
use Rattle.tp_check_decl.specs.Interfaces.{items_of}
use Rattle.tp_check_decl.specs.Checked.{judged}
use Rattle.tp_check_decl.proofs.CheckLaws.{lawful}

-- ---- lists

abbrev Keep : List TypeDef → List Finished → Type 0
Keep types [] = Unit {0}
Keep types (one ∷ rest) = (own_bytes types one ≤ 65000) × Keep types rest

keep_more : (types : List TypeDef) (all : List Finished) (one : Finished) → Keep types all → own_bytes types one ≤ 65000 → Keep types (all ++ one ∷ [])
keep_more types [] one h k = (k, tt)
keep_more types (first ∷ rest) one h k = (h.0, keep_more types rest one h.1 k)

at_end : (all : List Finished) (one : Finished) → slice_get (all ++ one ∷ []) (length all) ≡ Some one
at_end [] one = refl
at_end (first ∷ rest) one = at_end rest one

-- ---- a routine by its view

record IsViewed (all : List Routine) (place : ℕ) (one : Finished) : Type 0 where
  routine : Routine
  at : slice_get all place ≡ Some routine
  is : view_routine routine ≡ one

viewed : (all : List Routine) (place : ℕ) (one : Finished) → slice_get (map view_routine all) place ≡ Some one → IsViewed all place one
viewed [] place one e = absurd (no_item place e)
  where
    no_item : (n : ℕ) → slice_get (let none : List Finished = [] in none) n ≡ Some one → ⊥
    no_item zero h = cc
    no_item (suc n) h = cc
viewed (first ∷ rest) zero one e = record { routine = first; at = refl; is = (let same : view_routine first ≡ one = cc in same) }
viewed (first ∷ rest) (suc place) one e = (let v = viewed rest place one e in record { routine = v.routine; at = v.at; is = v.is })

under_cap : (n : ℕ) → min n (2 ^ 64 - 1) ≤ 65000 → n ≤ 65000
under_cap n h = omega (arith, h)

-- a routine that keeps the limit by its view does so
kept : (types : List TypeDef) (routine : Routine) → own_bytes types (view_routine routine) ≤ 65000 → KeepsLimit types routine
unfolding own_bytes
kept types routine h = under_cap (local_bytes types (view_routine routine) + statement_need types (view_stmt routine.body)) h

all_kept : (types : List TypeDef) (all : List Routine) → Keep types (map view_routine all) → All (KeepsLimit types) all
all_kept types [] h k d below = absurd (omega arith)
all_kept types (first ∷ rest) h zero d below = kept types first h.0
all_kept types (first ∷ rest) h (suc k) d below = all_kept types rest h.1 k d (omega (arith, below))

-- ---- main parts

record IsMain (one : Finished) : Type 0 where
  kind_is : one.header.kind ≡ kind.Procedure
  bare : one.header.params ≡ []
  far : one.far ≡ true
  free : one.owner ≡ None
  outermost : one.outer ≡ None

is_initial : (routine : Routine) → IsMain (view_routine routine) → IsInitial routine
is_initial routine h = record { kind = h.kind_is; bare = h.bare; far = h.far; free = h.free; outermost = h.outermost }

main_is : (name : List ℕ) (g : Environment) (body : CompoundStatement) (main : Finished) → (main_judged name g body).holds main → IsMain main
unfolding main_judged
main_is name g body main h =
    subst (λ (one : Finished). IsMain one) (sym h.made.made) (record { kind_is = refl; bare = refl; far = refl; free = refl; outermost = refl })

main_keeps : (name : List ℕ) (g : Environment) (body : CompoundStatement) (main : Finished) → (main_judged name g body).holds main → own_bytes g.types.types main ≤ 65000
unfolding main_judged
main_keeps name g body main h = subst (λ (one : Finished). own_bytes g.types.types one ≤ 65000) (sym h.made.made) h.made.holds.asked

-- ---- units

one_keeps : (types : List TypeDef) (first : Announced) (met : Option Done) (one : Finished) → (finished_by types first met).holds one → own_bytes types one ≤ 65000
one_keeps types first None one h = absurd h
one_keeps types first (Some done) one h = subst (λ (f : Finished). own_bytes types f ≤ 65000) (sym h.made) h.holds.asked

all_keep : (types : List TypeDef) (all : List Numbered) (made : List Finished) → (all_finished types all).holds made → Keep types made
all_keep types [] made h = subst (λ (l : List Finished). Keep types l) (sym h) tt
all_keep types (one ∷ rest) made h =
    subst (λ (l : List Finished). Keep types l) (sym h.made) (one_keeps types one.first one.done h.left h.left_holds, all_keep types rest h.right h.right_holds)

-- the main or initialisation part of a unit is there
abbrev HasMain : List Finished → Option ℕ → Type 0
HasMain all None = Unit {0}
HasMain all (Some number) = (one : Finished) × (slice_get all number ≡ Some one) × IsMain one

record IsSound (unit : Whole) : Type 0 where
  keep : Keep unit.types.types unit.routines
  main : length unit.routines < 2 ^ 32 → HasMain unit.routines unit.initial

sound_of : (one other : Whole) → one ≡ other → IsSound other → IsSound one
sound_of one other e h = subst (λ (w : Whole). IsSound w) (sym e) h

number_fits : (all : List Finished) (main : Finished) → length (all ++ main ∷ []) < 2 ^ 32 → narrow (length all) ≡ length all
number_fits all main h = omega (arith, length-append all (main ∷ []))

ended_sound : (name : List ℕ) (front : Front) (items : List Item) (body : Option CompoundStatement) (d : Drafted) (unit : Whole) → (ended name front items body d).holds unit → IsSound unit
ended_sound name front items None d unit h =
    sound_of unit _ h.made (record { keep = all_keep d.scope.types.types d.routines h.part h.holds; main = λ few. tt })
ended_sound name front items (Some body) d unit h =
    let all = h.left in
    let main = h.right in
    let P : ℕ → Type 0 = λ n. HasMain (all ++ main ∷ []) (Some n) in
    sound_of unit _ h.made (record {
      keep = keep_more d.scope.types.types all main (all_keep d.scope.types.types d.routines all h.left_holds) (main_keeps name d.scope body main h.right_holds);
      main = λ few. subst P (sym (number_fits all main few)) (main, at_end all main, main_is name d.scope body main h.right_holds);
    })

judged_sound : (name : List ℕ) (says : Directives) (g : Environment) (have : List Interface) (tree : Tree) (unit : Whole) → (judged name says g have tree).holds unit → IsSound unit
judged_sound name says g have (t.Program heading uses all body) unit h = ended_sound name h.made.part [] (Some body) h.made.made.part unit h.made.made.made
judged_sound name says g have (t.Unit here own uses outer interface all body) unit h =
    let last = h.made.made.made in
    ended_sound name h.part (items_of h.made.part.scope) body last.part.draft unit last.made

-- ---- what is answered

has_initial : (all : List Routine) (initial : Option ℕ) → HasMain (map view_routine all) initial → HasInitial all initial
has_initial all None h = tt
has_initial all (Some number) h =
    let v = viewed all number h.0 h.1 in
    (v.routine, v.at, is_initial v.routine (subst (λ (one : Finished). IsMain one) (sym v.is) h.2))

module _ (name : List ℕ) (says : Directives) (g : Environment) (have : List Interface) (tree : Tree) where
  sound_answer : (unit : typed.Unit) → (judged name says g have tree).run ≡ Ok (view_unit unit) → IsSound (view_unit unit)
  sound_answer unit gives = judged_sound name says g have tree (view_unit unit) (typed_answer view_unit (judged name says g have tree) (lawful name says g have tree) (Ok unit) gives)

  pub initial_answer : (answer : Result typed.Unit Refusal) → Gives view_unit answer (judged name says g have tree).run
      → IfOk (answer_of answer) (λ (unit : typed.Unit). length unit.routines < 2 ^ 32 → HasInitial unit.routines unit.initial)
  initial_answer (Ok unit) gives = λ few.
      let many : length (map view_routine unit.routines) < 2 ^ 32 = omega (arith, length-map unit.routines view_routine, few) in
      has_initial unit.routines unit.initial ((sound_answer unit gives).main many)
  initial_answer (Err e) gives = tt

  pub small_answer : (answer : Result typed.Unit Refusal) → Gives view_unit answer (judged name says g have tree).run
      → IfOk (answer_of answer) (λ (unit : typed.Unit). All (KeepsLimit unit.types.types) unit.routines)
  small_answer (Ok unit) gives = all_kept unit.types.types unit.routines (sound_answer unit gives).keep
  small_answer (Err e) gives = tt
