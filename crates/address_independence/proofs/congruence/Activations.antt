-- Activations that are seen alike: their variables, and calls from them.
use Rattle.std.proofs.Common.{◌≡◌, ℕ, zero, suc, ◌+◌, ◌-◌, ◌&&◌, ◌==◌, nat_lt, not, Bool, true, false, cond, if◌then◌else◌, List, [], ◌∷◌, length, map, Option, Some, None, is_some, Ok, Err, refl, ap, ◌∙◌, subst}
use Rattle.std.specs.Prelude.{slice_get}
use Rattle.std.specs.Option.{option_map, option_map_or}
use Rattle.tp_check_decl.specs.typed_tree.declared.expressions.Variable.{Variable}
use Rattle.tp_check_decl.specs.typed_tree.declared.units.Routine.{Routine}
use Rattle.tp_check_decl.specs.typed_tree.declared.units.Unit.{Unit as TypedUnit}
use Rattle.tp_check_decl.specs.typed_tree.declared.units.Program.{Program}
use Rattle.tp_check_decl.specs.typed_tree.Statements.{view_stmt}
use Rattle.tp_check_decl.specs.typed_tree.Needs.{statement_need}
use Rattle.tp_check_decl.specs.typed_tree.Frames.{argument_bytes, local_bytes, frame_of}
use Rattle.tp_check_decl.specs.typed_tree.type_fits.Routines.{variables_of}
use Rattle.tp_check_decl.specs.Units.{Finished, view_routine, Whole, view_unit}
use Rattle.tp_meaning.specs.Trees.{Key, Spot, Value}
use Rattle.tp_meaning.specs.Found as finding
use Rattle.tp_meaning.specs.Found.{Trap, Act, Error, IllTyped, Found}
use Rattle.tp_meaning.specs.Store.{Store, next_serial, without}
use Rattle.tp_meaning.specs.Programs.{key_of}
use Rattle.tp_meaning.specs.Outcomes.{Does, ◌>>=◌, ◌>>◌, give, found, raised_if, looked, changed, is_installed, trapped}
use Rattle.tp_meaning.specs.Activations.{Reached, Level, Activation, whole, variable_in, global_at, first_held, held_or, variable_by, variable_at, is_self_of, is_self_by, is_self, Callee, callee_of, opened, around, levels_around, class_set, result_of}
use Rattle.tp_meaning.specs.Calls.{Task, Do, Runs, activation_of, activated, is_too_deep, entered}
use Rattle.address_independence.proofs.congruence.Units.{AreUnits, AreRoutines, routine_as, unit_as, of_both, one_at, AreCallees, AreFoundCallees, is_overlaid_alike, stack_alike, serial_alike, global_alike, callees_alike}

-- ---- levels

pub record LevelSeen : Type 0 where
  pub number : ℕ
  pub routine : Finished
  pub first : ℕ

abbrev pub view_level : Level → LevelSeen
view_level level = record { number = level.number; routine = view_routine level.routine; first = level.first }

pub record IsAlike (f g : Activation) : Type 0 where
  pub unit : AreUnits f.unit g.unit
  pub levels : map view_level f.levels ≡ map view_level g.levels
  pub withs : f.withs ≡ g.withs
  pub sum : f.sum ≡ g.sum

-- a level of what is seen, whose routine has the body of another
abbrev level_as : LevelSeen → Level → Level
level_as seen level = record { number = seen.number; routine = routine_as seen.routine level.routine.body; first = seen.first }

abbrev AreFoundLevels : Found (List Level) → Found (List Level) → Type 0
AreFoundLevels (Ok ls) (Ok ms) = map view_level ls ≡ map view_level ms
AreFoundLevels (Err t) (Err u) = t ≡ u
AreFoundLevels (Ok ls) (Err u) = ⊥
AreFoundLevels (Err t) (Ok ms) = ⊥

first_seen : (a b : LevelSeen) (more rest : List LevelSeen) → (a ∷ more) ≡ (b ∷ rest) → a ≡ b
first_seen a b more rest same = cc

others_seen : (a b : LevelSeen) (more rest : List LevelSeen) → (a ∷ more) ≡ (b ∷ rest) → more ≡ rest
others_seen a b more rest same = cc

around_if : (b c : Bool) → b ≡ c → (ls ms : List Level) → map view_level ls ≡ map view_level ms → (x y : Found (List Level)) → AreFoundLevels x y → AreFoundLevels (if b then Ok ls else x) (if c then Ok ms else y)
around_if true true same ls ms here x y there = here
around_if false false same ls ms here x y there = there
around_if true false same ls ms here x y there = absurd (cc)
around_if false true same ls ms here x y there = absurd (cc)

around_alike : (outer : ℕ) (ls ms : List Level) → map view_level ls ≡ map view_level ms → AreFoundLevels (around outer ls) (around outer ms)
around_alike outer [] [] same = refl
around_alike outer [] (m ∷ ms) same = absurd (cc)
around_alike outer (l ∷ ls) [] same = absurd (cc)
around_alike outer (l ∷ ls) (m ∷ ms) same =
    let one = first_seen (view_level l) (view_level m) (map view_level ls) (map view_level ms) same in
    let rest = others_seen (view_level l) (view_level m) (map view_level ls) (map view_level ms) same in
    around_if (l.number == outer) (m.number == outer) (ap (λ (a : LevelSeen). a.number == outer) one) (l ∷ ls) (m ∷ ms) same (around outer ls) (around outer ms) (around_alike outer ls ms rest)

around_of : (outer : Option ℕ) (ls ms : List Level) → map view_level ls ≡ map view_level ms → AreFoundLevels (levels_around outer ls) (levels_around outer ms)
around_of None ls ms same = refl
around_of (Some outer) ls ms same = around_alike outer ls ms same

-- ---- frames

frame_alike : (u v : TypedUnit) (r s : Routine) → AreUnits u v → AreRoutines r s → frame_of u.types.types r ≡ frame_of v.types.types s
frame_alike u v r s us rs i =
    argument_bytes (us i).types.types (routine_as (rs i) r.body)
    + (cond (is_some (rs i).outer) 2 0 + (cond (rs i).far 4 2 + (2 + (local_bytes (us i).types.types (routine_as (rs i) r.body) + statement_need (us i).types.types (rs i).body))))

-- ---- what follows a result that is found alike

-- a trap is the end, whatever would follow
trap_ends : {A B : Type 0} (t : Trap) (k l : A → Does B) → (trapped t >>= k) ≡ (trapped t >>= l)
trap_ends (Act number) k l = refl
trap_ends (Error code) k l = refl
trap_ends IllTyped k l = refl

trap_alike : {A B : Type 0} (t u : Trap) (k l : A → Does B) → t ≡ u → (trapped t >>= k) ≡ (trapped u >>= l)
trap_alike t u k l same = trap_ends t k l ∙ ap (λ (z : Trap). trapped z >>= l) same

after_levels : {A : Type 0} (x y : Found (List Level)) (k l : List Level → Does A) → AreFoundLevels x y → ((ls ms : List Level) → map view_level ls ≡ map view_level ms → k ls ≡ l ms) → (found x >>= k) ≡ (found y >>= l)
after_levels (Ok ls) (Ok ms) k l same next = next ls ms same
after_levels (Err t) (Err u) k l same next = trap_alike t u k l same
after_levels (Ok ls) (Err u) k l same next = absurd same
after_levels (Err t) (Ok ms) k l same next = absurd same

after_callees : {A : Type 0} (x y : Found Callee) (k l : Callee → Does A) → AreFoundCallees x y → ((c d : Callee) → AreCallees c d → k c ≡ l d) → (found x >>= k) ≡ (found y >>= l)
after_callees (Ok c) (Ok d) k l same next = next c d same
after_callees (Err t) (Err u) k l same next = trap_alike t u k l same
after_callees (Ok c) (Err u) k l same next = absurd same
after_callees (Err t) (Ok d) k l same next = absurd same

-- ---- variables of activations

module _ (f g : Activation) (a : IsAlike f g) where
  level_found : (n number : ℕ) (store : Store) → finding.◌>>=◌ (finding.known (slice_get f.levels n)) (variable_in f.unit number store) ≡ finding.◌>>=◌ (finding.known (slice_get g.levels n)) (variable_in g.unit number store)
  level_found n number store = by (slice_get f.levels n) (slice_get g.levels n) (one_at view_level f.levels g.levels a.levels n)
    where
      is : (x y : LevelSeen) → Some x ≡ Some y → x ≡ y
      is x y e = cc

      by : (o o' : Option Level) → option_map view_level o ≡ option_map view_level o' → finding.◌>>=◌ (finding.known o) (variable_in f.unit number store) ≡ finding.◌>>=◌ (finding.known o') (variable_in g.unit number store)
      by None None same = refl
      by None (Some m) same = absurd (cc)
      by (Some l) None same = absurd (cc)
      by (Some l) (Some m) same = λ i. variable_in (unit_as (a.unit i) f.unit.routines) number store (level_as (is (view_level l) (view_level m) same i) l)

  held_alike : (number : ℕ) (x y : Found Reached) → x ≡ y → held_or f number x ≡ held_or g number y
  held_alike number x y same i = if nat_lt number first_held then same i else finding.known (slice_get (a.withs i) (number - first_held))

  self_by_alike : (links number : ℕ) → is_self_by f links number ≡ is_self_by g links number
  self_by_alike zero number = refl
  self_by_alike (suc links) number =
      of_both view_level (λ o. option_map_or (λ (level : Level). is_self_of level.routine number) o false) (λ l m e i. is_self_of (routine_as (e i).routine l.routine.body) number)
      (slice_get f.levels links) (slice_get g.levels links) (one_at view_level f.levels g.levels a.levels links)

  pub self_alike : (variable : Variable) → is_self f variable ≡ is_self g variable
  self_alike variable = self_by_alike variable.level variable.number

-- ---- calls

-- tasks do the same in activations that are alike
abbrev pub RunAlike : Runs → Runs → Type 0
RunAlike again again' = (t : Task) (f g : Activation) → IsAlike f g → again t f ≡ again' t g

-- a callee of what is seen of its unit and routine
abbrev callee_as : Whole → ℕ → Finished → Callee → Callee
callee_as unit number routine callee = record { unit = unit_as unit callee.unit.routines; number = number; routine = routine_as routine callee.routine.body }

module _ (again again' : Runs) (runs : RunAlike again again') (c d : Callee) (cs : AreCallees c d) where
  opened_alike : (own : Option Spot) (args : List Value) → opened c own args ≡ opened d own args
  opened_alike own args i = opened (callee_as (cs.unit i) (cs.number i) (cs.routine i) c) own args

  class_set_alike : (own : Option Spot) (class : Option Key) → class_set c own class ≡ class_set d own class
  class_set_alike own class i = class_set (callee_as (cs.unit i) (cs.number i) (cs.routine i) c) own class

  result_alike : (first : ℕ) → result_of c first ≡ result_of d first
  result_alike first i = result_of (callee_as (cs.unit i) (cs.number i) (cs.routine i) c) first

  count_alike : length (variables_of c.routine) ≡ length (variables_of d.routine)
  count_alike i = length (variables_of (routine_as (cs.routine i) c.routine.body))

  activations_alike : (ls ms : List Level) → map view_level ls ≡ map view_level ms → (first sum more : ℕ) → sum ≡ more → IsAlike (activation_of c ls first sum) (activation_of d ms first more)
  activations_alike ls ms same first sum more sums = record {
    unit = cs.unit;
    levels = λ i. record { number = cs.number i; routine = cs.routine i; first = first } ∷ same i;
    withs = refl;
    sum = λ i. sums i + frame_alike c.unit d.unit c.routine d.routine cs.unit cs.routine i;
  }

  body_alike : (ls ms : List Level) → map view_level ls ≡ map view_level ms → (first sum more : ℕ) → sum ≡ more
      → again (Do (view_stmt c.routine.body)) (activation_of c ls first sum) ≡ again' (Do (view_stmt d.routine.body)) (activation_of d ms first more)
  body_alike ls ms same first sum more sums =
      runs (Do (view_stmt c.routine.body)) (activation_of c ls first sum) (activation_of d ms first more) (activations_alike ls ms same first sum more sums)
      ∙ ap (λ (r : Finished). again' (Do r.body) (activation_of d ms first more)) cs.routine

  within_alike : (own : Option Spot) (class : Option Key) (args : List Value) (ls ms : List Level) → map view_level ls ≡ map view_level ms → (sum more : ℕ) → sum ≡ more
      → (looked (λ store. Ok (next_serial store)) >>= λ first. changed (opened c own args) >> (changed (class_set c own class) >> (again (Do (view_stmt c.routine.body)) (activation_of c ls first sum) >> (looked (result_of c first) >>= λ result.
      changed (λ store. Ok (without store first (length (variables_of c.routine)))) >> give result))))
      ≡ (looked (λ store. Ok (next_serial store)) >>= λ first. changed (opened d own args) >> (changed (class_set d own class) >> (again' (Do (view_stmt d.routine.body)) (activation_of d ms first more) >> (looked (result_of d first) >>= λ result.
      changed (λ store. Ok (without store first (length (variables_of d.routine)))) >> give result))))
  within_alike own class args ls ms same sum more sums i =
      looked (λ store. Ok (next_serial store)) >>= λ first. changed (opened_alike own args i) >> (changed (class_set_alike own class i) >> (body_alike ls ms same first sum more sums i >> (looked (result_alike first i) >>= λ result.
      changed (λ store. Ok (without store first (count_alike i))) >> give result)))

  activated_alike : (f g : Activation) → IsAlike f g → (own : Option Spot) (class : Option Key) (args : List Value) → activated again c f own class args ≡ activated again' d g own class args
  activated_alike f g a own class args =
      after_levels (levels_around c.routine.outer f.levels) (levels_around d.routine.outer g.levels) _ _
      (subst (λ (o : Option ℕ). AreFoundLevels (levels_around c.routine.outer f.levels) (levels_around o g.levels)) (ap (λ (r : Finished). r.outer) cs.routine) (around_of c.routine.outer f.levels g.levels a.levels))
      (λ ls ms same. within_alike own class args ls ms same f.sum g.sum a.sum)

-- ---- in two programs

module _ (p q : Program) (units : map view_unit p.units ≡ map view_unit q.units) (start : p.start ≡ q.start) where
  global_at_alike : (key : Key) → global_at p key ≡ global_at q key
  global_at_alike key i = finding.◌>>=◌ (finding.known (global_alike p q units start key i)) (λ sort. Ok (record { spot = whole (serial_alike p q units start key i); sort = sort }))

  module _ (f g : Activation) (a : IsAlike f g) where
    by_alike : (level unit number : ℕ) (store : Store) → variable_by p f level unit number store ≡ variable_by q g level unit number store
    by_alike zero unit number store = λ i. finding.◌>>=◌ (finding.known (key_of (unit_as (a.unit i) f.unit.routines) unit number)) (λ key. global_at_alike key i)
    by_alike (suc zero) unit number store = held_alike f g a number _ _ (level_found f g a 0 number store)
    by_alike (suc (suc links)) unit number store = level_found f g a (suc links) number store

    pub variable_alike : (variable : Variable) → variable_at p f variable ≡ variable_at q g variable
    variable_alike variable i store = by_alike variable.level variable.unit variable.number store i

    too_deep_alike : (c d : Callee) → AreCallees c d → is_too_deep p c f.sum ≡ is_too_deep q d g.sum
    too_deep_alike c d cs i = nat_lt (stack_alike p q units start i) (a.sum i + frame_alike c.unit d.unit c.routine d.routine cs.unit cs.routine i + 512)

    pub entered_alike : (again again' : Runs) → RunAlike again again' → (key : Key) (own : Option Spot) (class : Option Key) (args : List Value) → entered p again f key own class args ≡ entered q again' g key own class args
    entered_alike again again' runs key own class args =
        after_callees (callee_of p key) (callee_of q key) _ _ (callees_alike p q units start key) (λ c d cs i. do
          installed ← is_installed
          raised_if (is_overlaid_alike p q units start key.unit i && not installed) 208
          raised_if (too_deep_alike c d cs i) 202
          activated_alike again again' runs c d cs f g a own class args i)
