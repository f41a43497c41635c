-- What a standard routine gives and leaves, apart from the rest of a run.
use Rattle.std.specs.Prelude.{ℕ, List, Ok}
use Rattle.typed_tree.specs.declared.units.Program.{Program}
use Rattle.interpreter_effects.specs.declared.standard_effects.functions.Kept.TheVariants as kept
use Rattle.interpreter_effects.specs.declared.standard_effects.functions.Plain.TheVariants as plain
use Rattle.interpreter_effects.specs.declared.standard_effects.functions.Texts.TheVariants as texts
use Rattle.interpreter_effects.specs.declared.standard_effects.changes.Change.TheVariants as change
use Rattle.interpreter_effects.specs.declared.standard_effects.routines.Standard.{Standard}
use Rattle.interpreter_effects.specs.declared.standard_effects.routines.Standard.TheVariants as standard
use Rattle.tp_meaning.specs.Trees.{Value, Void, Block}
use Rattle.tp_meaning.specs.Found.{Found, ◌>>=◌}
use Rattle.tp_meaning.specs.Store.{Store, next_serial}
use Rattle.tp_meaning.specs.Programs.{Sort}
use Rattle.tp_meaning.specs.Standard.{Standard as PureStandard, Abs, Sqr, Odd, Ord, Chr, Succ, Pred, Inc, Dec, Hi, Lo, Swap, SizeOf, UpCase, Length, Copy, Delete, Insert, Concat, Pos, Str, Val, Eof, Eoln, New, Dispose, Effect, Gives, Changes, Makes, Asks, target, made}

abbrev pub view_standard : Standard → PureStandard
view_standard (standard.OfKept kept.Abs) = Abs
view_standard (standard.OfKept kept.Sqr) = Sqr
view_standard (standard.OfKept kept.Succ) = Succ
view_standard (standard.OfKept kept.Pred) = Pred
view_standard (standard.OfKept kept.Swap) = Swap
view_standard (standard.OfPlain plain.Odd) = Odd
view_standard (standard.OfPlain plain.Ord) = Ord
view_standard (standard.OfPlain plain.Chr) = Chr
view_standard (standard.OfPlain plain.Hi) = Hi
view_standard (standard.OfPlain plain.Lo) = Lo
view_standard (standard.OfPlain plain.UpCase) = UpCase
view_standard (standard.OfTexts texts.Length) = Length
view_standard (standard.OfTexts texts.Copy) = Copy
view_standard (standard.OfTexts texts.Concat) = Concat
view_standard (standard.OfTexts texts.Pos) = Pos
view_standard (standard.Changing change.Inc) = Inc
view_standard (standard.Changing change.Dec) = Dec
view_standard (standard.Changing change.Delete) = Delete
view_standard (standard.Changing change.Insert) = Insert
view_standard (standard.Changing change.Str) = Str
view_standard (standard.Changing change.Val) = Val
view_standard (standard.Changing change.Dispose) = Dispose
view_standard standard.SizeOf = SizeOf
view_standard standard.Eof = Eof
view_standard standard.Eoln = Eoln
view_standard standard.New = New

-- a value, and the store that is left
abbrev pub Leaves : Type 0
Leaves = Found (Value × Store)

abbrev pub giving : Found Value → Store → Leaves
giving v store = v >>= λ v. Ok (v, store)

abbrev pub leaving : Found Store → Leaves
leaving store = store >>= λ store. Ok (Void, store)

-- a new block for what a pointer type points to
abbrev pub made_left : Program → Sort → Store → Leaves
made_left program pointer store = target pointer >>= λ sort. made program sort store >>= λ after. Ok (Block (next_serial store), after)

abbrev pub effect_left : Program → Effect → List ℕ → Store → Leaves
effect_left program (Gives look) input store = giving (look store) store
effect_left program (Changes change) input store = leaving (change store)
effect_left program (Makes pointer) input store = made_left program pointer store
effect_left program (Asks look) input store = Ok (look input, store)
