-- What holds of the meaning and of the store.
use Rattle.std.specs.Prelude.{◌≡◌, ◌≢◌, ℕ, ◌+◌, ◌<◌, ◌≤◌, ℤ, pos, ◌+ℤ◌, ◌-ℤ◌, ◌*ℤ◌, List, length, take, None, Ok}
use Rattle.std.specs.Int.RustNames.{int_div, int_rem}
use Rattle.typed_tree.specs.declared.units.Program.{Program}
use Rattle.typed_tree.specs.declared.expressions.BinaryOp.TheVariants.{Add, Subtract, Multiply, Divide, Modulo}
use Rattle.common_values.specs.declared.ordinals.IntegerType.{IntegerType}
use Rattle.common_values.specs.Ordinals.{IsValueOf}
use Rattle.common_values.specs.Blocks.{block_sum}
use Rattle.tp_meaning.specs.Trees.{Spot, Tree, Fork, part_count}
use Rattle.tp_meaning.specs.Found.{◌>>=◌}
use Rattle.tp_meaning.specs.Store.{Store, next_serial, object_at, tree_at, replaced, without, text_over, text_in, length_in, disposed}
use Rattle.tp_meaning.specs.Programs.{Sort, size_in}
use Rattle.tp_meaning.specs.Outcomes.{State, Outcome, Done, Over}
use Rattle.tp_meaning.specs.Operators.{arithmetic}
use Rattle.tp_meaning.specs.Activations.{Activation}
use Rattle.tp_meaning.specs.Standard.{made}
use Rattle.tp_meaning.specs.Calls.{Task}
use Rattle.tp_meaning.specs.Statements.{task}
use Rattle.tp_meaning.specs.Meaning.{run, start_state, all_started}

-- the run is over
abbrev pub IsOverAt : {A : Type 0} → Outcome A → Type 0
IsOverAt (Done a s) = ⊥
IsOverAt (Over standing s) = Unit {0}

pub record RunLaws (program : Program) : Type 0 where
  -- a task does what its parts do, where `again` is what tasks do with the turns that are left
  pub steps : (one : Task) (f : Activation) (s : State) → run program one f s ≡ task program (run program) one f s
  -- a whole run comes to its end, or to the end of its turns
  pub over : (input : List ℕ) (turns : ℕ) → IsOverAt (all_started program (run program) program.units (start_state program input turns))

pub record StoreLaws (store : Store) : Type 0 where
  -- what is put to a place is there, and no other object changes
  pub here : (spot : Spot) (tree : Tree) (after : Store) → replaced store spot tree ≡ Ok after → tree_at after spot ≡ Ok tree
  pub others : (spot : Spot) (tree : Tree) (after : Store) (serial : ℕ) → replaced store spot tree ≡ Ok after → serial ≢ spot.object → object_at after serial ≡ object_at store serial
  -- the variables of an activation that ended are gone, and all other objects stay
  pub gone : (first count serial : ℕ) → first ≤ serial → serial < first + count → object_at (without store first count) serial ≡ None
  pub stay : (first count serial : ℕ) → serial < first → object_at (without store first count) serial ≡ object_at store serial

-- a string variable shows the text that was assigned, as far as it has room for it
pub record TextLaws : Type 0 where
  pub shows : (bytes : List ℕ) (head tail : Tree) → (text_over bytes (Fork head tail) >>= text_in) ≡ Ok (take (part_count tail) bytes)
  -- and where it shows a text, its length is that of the text
  pub measures : (tree : Tree) (bytes : List ℕ) → text_in tree ≡ Ok bytes → length_in tree ≡ Ok (length bytes)

-- New gives a block that was not there, and Dispose takes it away and leaves the block sum as it was
pub record HeapLaws (program : Program) (sort : Sort) (store : Store) : Type 0 where
  pub fresh : object_at store (next_serial store) ≡ None
  pub disposed : (with_block : Store) → made program sort store ≡ Ok with_block
      → (after : Store) × (disposed with_block (next_serial store) (size_in sort) ≡ Ok after) × (object_at after (next_serial store) ≡ None) × (block_sum after.rows ≡ block_sum with_block.rows)

-- where nothing wraps, the operators are those of whole numbers
pub record WholeNumberLaws (t : IntegerType) : Type 0 where
  pub sum : (a b : ℤ) → IsValueOf t (a +ℤ b) → arithmetic Add t a b ≡ Ok (a +ℤ b)
  pub difference : (a b : ℤ) → IsValueOf t (a -ℤ b) → arithmetic Subtract t a b ≡ Ok (a -ℤ b)
  pub product : (a b : ℤ) → IsValueOf t (a *ℤ b) → arithmetic Multiply t a b ≡ Ok (a *ℤ b)
  pub quotient : (a b : ℤ) → b ≢ pos 0 → IsValueOf t (int_div a b) → arithmetic Divide t a b ≡ Ok (int_div a b)
  pub remainder : (a b : ℤ) → b ≢ pos 0 → IsValueOf t a → IsValueOf t b → arithmetic Modulo t a b ≡ Ok (int_rem a b)
