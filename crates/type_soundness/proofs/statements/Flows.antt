-- Parts of statements: flows, numbers, conditions, and what changes the store.
use Rattle.std.proofs.Common.{◌≡◌, ℕ, ◌<◌, Bool, true, false, List, ◌++◌, Some, None, sym, subst, IsTrue}
use Rattle.std.specs.Prelude.{ℤ, Option, All}
use Rattle.program_typing.specs.type_layout.declared.definitions.Host.{Host}
use Rattle.program_typing.specs.type_layout.declared.definitions.TypeDef.{TypeDef}
use Rattle.program_typing.specs.type_layout.declared.definitions.TypeDef.TheVariants as type
use Rattle.program_typing.specs.type_layout.Layouts.{bounds_of}
use Rattle.program_typing.specs.type_layout.Storage.{holds}
use Rattle.program_typing.specs.typed_tree.type_fits.Fits.{stored_as, held_as, family_of, IsSome}
use Rattle.program_typing.specs.tp_meaning.Trees.{Value}
use Rattle.program_typing.specs.tp_meaning.Found.{Found}
use Rattle.program_typing.specs.tp_meaning.Store.{Store, number_of}
use Rattle.program_typing.specs.tp_meaning.Programs.{Sort, definition}
use Rattle.program_typing.specs.tp_meaning.Outcomes.{State, Outcome, Does, and_then, ◌>>◌, give, found, changed, printed, taking}
use Rattle.program_typing.specs.tp_meaning.Operators.{is_true, within}
use Rattle.program_typing.specs.tp_meaning.Calls.{Flow, Next, Left}
use Rattle.program_typing.specs.tp_meaning.Statements.{then_next, chosen, tested}
use Rattle.program_typing.specs.store_typing.stores.Worlds.{World}
use Rattle.program_typing.specs.store_typing.stores.Places.{IsValueOf}
use Rattle.program_typing.specs.store_typing.stores.Stores.{IsTypedStore, Finds}
use Rattle.program_typing.proofs.store_typing_proofs.operators.OperandKinds.{number_value}
use Rattle.program_typing.proofs.store_typing_proofs.operators.Operators.{within_finds}
use Rattle.program_typing.specs.programs.Outcomes.{IsTypedState, after, Ends}
use Rattle.program_typing.proofs.programs.Ends.{ends_bind, ends_done, ends_found, ends_changed}
use Rattle.type_soundness.proofs.expressions.Values.{ValueAt}

-- nothing is said of how a statement ends
abbrev pub Ended : {A : Type 0} → World → A → Type 0
Ended w a = Unit {0}

module _ (w : World) where
  -- the routine is left, or there is more to do
  pub next_ends : (flow : Flow) (go : Does Flow) (s : State) → IsTypedState w s → (IsTypedState w s → Ends w Ended (go s)) → Ends w Ended (then_next flow go s)
  next_ends Next go s typed h = h typed
  next_ends Left go s typed h = ends_done Ended w Left s typed tt

  pub chosen_ends : (b : Bool) (taken other : Does Flow) (s : State) → Ends w Ended (taken s) → Ends w Ended (other s) → Ends w Ended (chosen b taken other s)
  chosen_ends true taken other s p q = p
  chosen_ends false taken other s p q = q

  pub give_ends : (flow : Flow) (s : State) → IsTypedState w s → Ends w Ended (give flow s)
  give_ends flow s typed = ends_done Ended w flow s typed tt

  -- a change of the store, and then the next statement
  pub changed_next : (change : Store → Found Store) (s : State) → IsTypedState w s → Finds (IsTypedStore w) (change s.store) → Ends w Ended ((changed change >> give Next) s)
  changed_next change s typed h = ends_bind Ended w Ended (changed change s) (λ u. give Next) (ends_changed w change s typed h) (λ more u t typed' is. ends_done Ended (after w more) Next t typed' tt)

  pub printed_ends : (bytes : List ℕ) (s : State) → IsTypedState w s → Ends w Ended (printed bytes s)
  printed_ends bytes s typed = ends_done Ended w tt (record s { out = s.out ++ bytes }) (record { store = typed.store; input = typed.input }) tt

  -- what is taken from the input leaves bytes
  pub taking_ends : {A : Type 0} (P : A → Type 0) (take : List ℕ → A × List ℕ) (s : State) → IsTypedState w s → P (take s.input).0 → All (λ byte. byte < 256) (take s.input).1 → Ends w (λ v a. P a) (taking take s)
  taking_ends P take s typed is rest = ends_done (λ v a. P a) w (take s.input).0 (record s { input = (take s.input).1 }) (record { store = typed.store; input = rest }) is

-- ---- numbers

-- a number that the bytes of a host hold
abbrev pub Holds : Host → ℤ → Type 0
Holds h z = IsTrue (holds (held_as h) z z)

pub stored_family : (o : Option TypeDef) → IsSome (stored_as o) → IsSome (family_of o)
stored_family (Some (type.Ordinal h low high)) is = tt
stored_family (Some (type.Str max)) is = absurd is
stored_family (Some (type.SetOf base)) is = absurd is
stored_family (Some (type.ArrayOf i x)) is = absurd is
stored_family (Some (type.RecordOf fields)) is = absurd is
stored_family (Some (type.PointerTo target)) is = absurd is
stored_family (Some (type.ObjectOf p d fields methods)) is = absurd is
stored_family (Some (type.Procedural header)) is = absurd is
stored_family None is = absurd is

number_in : (w : World) (of : Sort) (h : Host) (v : Value) → stored_as (definition of) ≡ Some h → IsValueOf w of v → Finds (Holds h) (number_of v)
number_in w of h v e is =
    let n = number_value w of h v e is in
    subst (λ (x : Value). Finds (Holds h) (number_of x)) (sym n.is) n.held

-- the number of an ordinal value
pub number_held : (w : World) (of : Sort) (h : Host) (o : Outcome Value) → stored_as (definition of) ≡ Some h → Ends w (ValueAt of) o → Ends w (λ v z. Holds h z) (and_then o (λ v. found (number_of v)))
number_held w of h o e is =
    ends_bind (ValueAt of) w (λ v z. Holds h z) o (λ v. found (number_of v)) is (λ more v s typed value.
    ends_found (λ v z. Holds h z) (after w more) (number_of v) s typed (number_in (after w more) of h v e value))

-- a condition
pub truth_ends : (w : World) (P : ℤ → Type 0) (o : Outcome ℤ) → Ends w (λ v z. P z) o → Ends w Ended (and_then o (λ z. give (is_true z)))
truth_ends w P o h = ends_bind (λ v z. P z) w Ended o (λ z. give (is_true z)) h (λ more z s typed is. ends_done Ended (after w more) (is_true z) s typed tt)

-- a test against the bounds of a type
pub tested_ends : (w : World) (P : ℤ → Type 0) (checked : Bool) (ty : Option TypeDef) (z : ℤ) (s : State) → IsTypedState w s → P z → Ends w (λ v z. P z) (tested checked ty z s)
tested_ends w P true ty z s typed is = ends_found (λ v z. P z) w (within (bounds_of ty).0 (bounds_of ty).1 z) s typed (within_finds w P (bounds_of ty).0 (bounds_of ty).1 z is)
tested_ends w P false ty z s typed is = ends_done (λ v z. P z) w z s typed is
