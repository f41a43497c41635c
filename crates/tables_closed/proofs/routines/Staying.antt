-- Bounds of scopes stay bounds as a unit is read.
use Rattle.std.proofs.Common.{◌≡◌, ℕ, zero, suc, ◌-◌, ◌≤◌, List, [], ◌∷◌, length, take, sym, subst, arith}
use Rattle.tp_check_decl.specs.type_layout.declared.texts.Place.{Place}
use Rattle.tp_check_decl.specs.scopes.declared.entries.Entry.{Entry}
use Rattle.tp_check_decl.specs.scopes.declared.entries.BlockKind.{BlockKind}
use Rattle.tp_check_decl.specs.scopes.declared.searches.OpenBlock.{OpenBlock}
use Rattle.tp_check_decl.specs.scopes.Environment.{Environment, with_block, with_name, without_block}
use Rattle.tp_check_decl.specs.declaration_checker.type_denoters.Additions.{Denoted, entered}
use Rattle.tables_closed.specs.constants.Bounds.{AreBelow, in_entry, in_names, in_open, IsBoundOf, IsWellScopedEnvironment}
use Rattle.tables_closed.specs.constants.Ordered.{IsOrdered}
use Rattle.tables_closed.proofs.constants.Below.{below_both, below_first, below_last}
use Rattle.tables_closed.proofs.constants.Names.{closed_below}
use Rattle.tables_closed.proofs.types.Entering.{bound_with_name, bound_with_block}
use Rattle.tables_closed.proofs.types.Reading.{Types, is_entered}

-- The table has no fewer types and stays ordered, and a bound stays one that is no less than the table, where what is asked of
-- it holds.
pub record Stays (asked : ℕ → Type 0) (g h : Environment) : Type 0 where
  pub longer : length g.types.types ≤ length h.types.types
  pub ordered : IsOrdered g.types → IsOrdered h.types
  pub bound : (n : ℕ) → IsBoundOf n g → length h.types.types ≤ n → asked n → IsBoundOf n h

abbrev pub Nothing : ℕ → Type 0
Nothing n = Unit {0}

pub stays : (asked : ℕ → Type 0) (g : Environment) → Stays asked g g
stays asked g = record { longer = omega arith; ordered = λ o. o; bound = λ n b l a. b }

pub stay_at : (asked : ℕ → Type 0) (g h k : Environment) → k ≡ h → Stays asked g h → Stays asked g k
stay_at asked g h k e s = let P : Environment → Type 0 = λ x. Stays asked g x in subst P (sym e) s

pub stay_for : (first both : ℕ → Type 0) (g h : Environment) → Stays first g h → ((n : ℕ) → IsBoundOf n g → length h.types.types ≤ n → both n → first n) → Stays both g h
stay_for first both g h s p = record { longer = s.longer; ordered = s.ordered; bound = λ n b l a. s.bound n b l (p n b l a) }

pub stay_then : (first second both : ℕ → Type 0) (g h k : Environment) → Stays first g h → Stays second h k → ((n : ℕ) → IsBoundOf n g → length h.types.types ≤ n → both n → first n)
    → ((n : ℕ) → IsBoundOf n g → IsBoundOf n h → length h.types.types ≤ n → both n → second n) → Stays both g k
stay_then first second both g h k one two p q =
    let m = one.longer in
    let more = two.longer in
    record {
      longer = omega arith;
      ordered = λ o. two.ordered (one.ordered o);
      bound = λ n b l a.
          let low : length h.types.types ≤ n = omega arith in
          let middle = one.bound n b low (p n b low a) in
          two.bound n middle l (q n b middle low a);
    }

-- one after the other, of which nothing is asked
pub stay_on : (g h k : Environment) → Stays Nothing g h → Stays Nothing h k → Stays Nothing g k
stay_on g h k one two = stay_then Nothing Nothing Nothing g h k one two (λ n b l a. a) (λ n b m l a. a)

pub of_types : (asked : ℕ → Type 0) (g : Environment) (made : Denoted) (count : ℕ) → Types asked g made count → Stays asked g made.scope
of_types asked g made count types = let long = types.reads.long in record { longer = omega arith; ordered = types.reads.ordered; bound = types.reads.bound }

-- ---- names and blocks

pub stay_entered : (g : Environment) (place : Place) (name : List ℕ) (one : Entry) (h : Environment) → (entered g place name one).holds h → Stays (λ n. AreBelow n (in_entry one)) g h
stay_entered g place name one h e =
    stay_at (λ n. AreBelow n (in_entry one)) g (with_name g name one) h (is_entered g place name one h e).is
    (record { longer = omega arith; ordered = λ o. o; bound = λ n b l a. bound_with_name n g name one b a })

pub stay_opened : (asked : ℕ → Type 0) (g : Environment) (kind : BlockKind) → Stays asked g (with_block g kind)
stay_opened asked g kind = record { longer = omega arith; ordered = λ o. o; bound = λ n b l a. bound_with_block n g kind b }

first_below : (n count : ℕ) (blocks : List OpenBlock) → AreBelow n (in_open blocks) → AreBelow n (in_open (take count blocks))
first_below n zero blocks h = tt
first_below n (suc count) [] h = tt
first_below n (suc count) (block ∷ blocks) h =
    below_both n (in_names block.symbols) (in_open (take count blocks)) (below_first n (in_names block.symbols) (in_open blocks) h)
    (first_below n count blocks (below_last n (in_names block.symbols) (in_open blocks) h))

pub stay_closed : (asked : ℕ → Type 0) (g : Environment) → Stays asked g (without_block g)
stay_closed asked g = record {
  longer = omega arith;
  ordered = λ o. o;
  bound = λ n b l a. record {
    table = b.table;
    system = b.system;
    types = b.types;
    predeclared = b.predeclared;
    used = b.used;
    blocks = first_below n (length g.blocks - 1) g.blocks b.blocks;
  };
}

-- ---- closed scopes

-- a scope that was grown from a closed one is closed
pub grown_closed : (g h : Environment) → Stays Nothing g h → IsWellScopedEnvironment g → IsWellScopedEnvironment h
grown_closed g h s closed = s.bound (length h.types.types) (closed_below (length h.types.types) g closed s.longer) (omega arith) tt
