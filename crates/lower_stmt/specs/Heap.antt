-- New and Dispose, behind their arguments.
use Rattle.std.specs.Prelude.{ℕ, Bool, if◌then◌else◌, [], ◌∷◌}
use Rattle.flat_code.specs.declared.tree.Address.{Address}
use Rattle.flat_code.specs.declared.tree.FlatOp.TheVariants as op
use Rattle.flat_code.specs.Tree.{Expr, Number, Word, SegmentOf, Op, Step, Error, Code, End, ◌then◌}
use Rattle.runtime_units.specs.declared.numbers.numbers.RuntimeRoutine.TheVariants as routine
use Rattle.lower_values.specs.Nodes.{single, runtime, clear_at, when}
use Rattle.lower_values.specs.Forms.{word_in, low_in}
use Rattle.lower_stmt.specs.Words.{computed}
use Rattle.lower_stmt.specs.Procedures.{through}

abbrev pub made_plain : ℕ → ℕ → ℕ → Code
made_plain locals size slot = single (computed routine.New (Number size ∷ []) (through locals slot 0) 4)

-- a new block for the pointer variable to which the far pointer in a slot leads; it may begin as zeros
abbrev pub made : ℕ → ℕ → Bool → ℕ → Code
made locals size cleared slot =
    if cleared then made_plain locals size slot then single (clear_at (Word (through locals slot 2)) (Word (through locals slot 0)) size) else made_plain locals size slot

-- the block is freed to which the pointer in a slot leads
abbrev pub freed : ℕ → Expr → ℕ → Step
freed locals size slot = runtime routine.Dispose (word_in locals slot ∷ low_in locals slot ∷ size ∷ [])

-- error 204 where the pointer in a slot is nil
abbrev pub nil_refused : ℕ → ℕ → Code
nil_refused locals slot = when (Op op.Or (low_in locals slot) (word_in locals slot)) End (single (Error 204))

-- the size is that of the class that an instance says so many bytes on
abbrev pub instance_freed : ℕ → ℕ → Address → ℕ → Code
instance_freed locals class scratch slot =
    single (computed routine.ClassSize (word_in locals slot ∷ low_in locals slot ∷ Number class ∷ SegmentOf scratch ∷ []) scratch 2)
    then single (freed locals (Word scratch) slot)
