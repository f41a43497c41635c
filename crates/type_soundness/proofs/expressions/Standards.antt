-- Calls of standard routines, once the arguments are known.
use Rattle.std.proofs.Common.{◌≡◌, ℕ, Bool, true, false, List, [], ◌∷◌, ◌++◌, Some, None, refl, sym, subst, arith, IsTrue}
use Rattle.std.specs.Prelude.{ℤ, ◌≤ℤ◌, int_le, ◌&&◌, Option, option_and_then}
use Rattle.std.specs.Option.{option_map}
use Rattle.std.proofs.lemmas.Option.{same_Some}
use Rattle.std.proofs.lemmas.Int.{ints}
use Rattle.program_typing.specs.type_layout.declared.definitions.TypeId.{TypeId}
use Rattle.program_typing.specs.type_layout.declared.definitions.Host.{Host}
use Rattle.program_typing.specs.type_layout.declared.definitions.Host.TheVariants as host
use Rattle.program_typing.specs.type_layout.declared.definitions.TypeDef.{TypeDef}
use Rattle.program_typing.specs.type_layout.declared.definitions.TypeDef.TheVariants as type
use Rattle.program_typing.specs.type_layout.Storage.{least_of, greatest_of, holds}
use Rattle.program_typing.specs.typed_tree.declared.expressions.Value.TheVariants as constant
use Rattle.program_typing.specs.typed_tree.declared.units.Unit.{Unit as TypedUnit}
use Rattle.program_typing.specs.typed_tree.declared.units.Program.{Program}
use Rattle.program_typing.specs.typed_tree.Expressions.{Expression, Const, Arguments, NoArguments, ByValue, ByPlace, type_of}
use Rattle.program_typing.specs.typed_tree.type_fits.Fits.{stored_as, held_as, IsString, IsPointer, AreStoredAlike}
use Rattle.program_typing.specs.typed_tree.type_fits.Fits.{definition as definition_in}
use Rattle.program_typing.specs.typed_tree.type_fits.Standard.{sort_of, Slot, Text as TextSlot, Outcome as Result, Nothing, Wide, Holding, Alike, Truth, Letter, Byte, Small, Size, Line, Link, HoldsAll, HoldsValue, HoldsFirst, IsLikeFirst, Gives as IsGiven, IsStandard, abs, sqr, odd, ord, chr, succ, pred, inc, inc_by, dec, dec_by, hi, lo, swap, size, up_case, length_of, copy, delete, insert, concat, position, text, text_in, number, end_of_file, end_of_line, new, new_block, dispose}
use Rattle.program_typing.specs.typed_tree.Standard as routine
use Rattle.program_typing.specs.tp_meaning.Trees.{Value, Block, Void}
use Rattle.program_typing.specs.tp_meaning.Programs.{Sort, definition, beside, sort_in, class_key}
use Rattle.program_typing.specs.tp_meaning.Outcomes.{State, Outcome, and_then, ◌>>=◌, give, known, found, looked, changed}
use Rattle.program_typing.specs.tp_meaning.Activations.{Reached, length_held}
use Rattle.program_typing.specs.tp_meaning.Standard.{Operand, Given, Standard, Abs, Sqr, Odd, Ord, Chr, Succ, Pred, Inc, Dec, Hi, Lo, Swap, SizeOf, UpCase, Length, Copy, Delete, Insert, Concat, Pos, Str, Val, Eof, Eoln, New, Dispose, standard, Effect, Gives, Changes, Makes, Asks, effect_of, target_of}
use Rattle.program_typing.specs.tp_meaning.Expressions.{block_made, effect_done, standard_done}
use Rattle.program_typing.specs.store_typing.types.Agreement.{IsKnown, AreConsistent}
use Rattle.program_typing.proofs.store_typing_proofs.types.Agreed.{lawful, known_within}
use Rattle.program_typing.specs.store_typing.types.Forms.{Number}
use Rattle.program_typing.specs.store_typing.stores.Worlds.{Made, World, IsHeld, LeadsTo}
use Rattle.program_typing.specs.store_typing.stores.Places.{IsAt, IsValueBy, IsValueOf}
use Rattle.program_typing.proofs.store_typing_proofs.stores.Paths.{finds_more}
use Rattle.program_typing.proofs.store_typing_proofs.stores.Steps.{as_ordinal}
use Rattle.program_typing.proofs.store_typing_proofs.operators.OperandKinds.{number_value}
use Rattle.program_typing.proofs.store_typing_proofs.operators.Ranges.{is_held}
use Rattle.program_typing.specs.store_typing.standard.Operands.{HoldsNumber, IsLikeNumber, GivesResult, IsResult}
use Rattle.program_typing.specs.store_typing.standard.Laws.{HasClasses, IsSoundEffect, IsSoundCall}
use Rattle.program_typing.proofs.store_typing_proofs.standard.Variables.{length_held_found}
use Rattle.program_typing.proofs.store_typing_proofs.standard.Calls.{standard_laws}
use Rattle.program_typing.specs.programs.Outcomes.{IsTypedState, world, after, Ends}
use Rattle.program_typing.specs.programs.Calls.{GivesAs}
use Rattle.program_typing.proofs.programs.Ends.{ends_bind, ends_done, ends_looked, ends_changed_later}
use Rattle.type_soundness.proofs.expressions.Operands.{IsItself, HasFirst, FilledBy}
use Rattle.type_soundness.proofs.expressions.Calls.{block_ends}

-- ---- numbers that are held wherever their types are

le_of : (m n : ℤ) → int_le m n ≡ true → m ≤ℤ n
le_of m n h = grind (arith, ints)

both_of : (x y : Bool) → IsTrue (x && y) → (x ≡ true) × (y ≡ true)
both_of true true h = (refl, refl)
both_of true false h = absurd cc
both_of false y h = absurd cc

-- a number within bounds that are held
held_within : (h : Host) (low high z : ℤ) → IsTrue (holds h low high) → low ≤ℤ z → z ≤ℤ high → IsTrue (holds h z z)
held_within h low high z held above below =
    let bounds = both_of (int_le (least_of h) low) (int_le high (greatest_of h)) held in
    let least = le_of (least_of h) low bounds.0 in
    let greatest = le_of high (greatest_of h) bounds.1 in
    is_held h z (le_twice (least_of h) low z least above) (le_twice z high (greatest_of h) below greatest) where
      le_twice : (a b c : ℤ) → a ≤ℤ b → b ≤ℤ c → a ≤ℤ c
      le_twice a b c p q = omega (arith, ints, p, q)

least_held : (h : Host) → least_of (held_as h) ≡ least_of h
least_held host.ShortInt = refl
least_held host.Byte = refl
least_held host.Integer = refl
least_held host.Word = refl
least_held host.LongInt = refl
least_held host.Char = refl
least_held host.Boolean = refl
least_held host.Enumeration = refl

-- whatever is held as one host is held as another that holds all of it
held_all : (h of : Host) (z : ℤ) → IsTrue (holds h (least_of of) (greatest_of (held_as of))) → IsTrue (holds (held_as of) z z) → IsTrue (holds h z z)
held_all h of z all is =
    let bounds = both_of (int_le (least_of (held_as of)) z) (int_le z (greatest_of (held_as of))) is in
    held_within h (least_of of) (greatest_of (held_as of)) z all
    (subst (λ (n : ℤ). n ≤ℤ z) (least_held of) (le_of (least_of (held_as of)) z bounds.0)) (le_of z (greatest_of (held_as of)) bounds.1)

-- ---- results by their arguments

module _ (w : World) (unit : TypedUnit) where
  -- the first argument is a number that is held
  number_held : (h : Host) (ty : TypeId) (v : Value) (more : List Operand) (o : Option Host) → stored_as (definition (sort_in unit ty)) ≡ o → HoldsAll (Some h) o → IsValueOf w (sort_in unit ty) v → HoldsNumber (Some h) (Given (sort_in unit ty) v ∷ more)
  number_held h ty v more None e all is = absurd all
  number_held h ty v more (Some of) e all is =
      let n = number_value w (sort_in unit ty) of v e is in
      subst (λ (x : Value). HoldsNumber (Some h) (Given (sort_in unit ty) x ∷ more)) (sym n.is) (held_all h of n.z all n.held)

  all_by : (h : Host) (e : Expression) (ty : TypeId) (v : Value) (more : List Operand) → type_of e ≡ Some ty → HoldsAll (Some h) (stored_as (sort_of unit.types.types e)) → IsValueOf w (sort_in unit ty) v → HoldsNumber (Some h) (Given (sort_in unit ty) v ∷ more)
  all_by h e ty v more typed all is =
      number_held h ty v more (stored_as (definition (sort_in unit ty))) refl (subst (λ (o : Option TypeId). HoldsAll (Some h) (stored_as (option_and_then (definition_in unit.types.types) o))) typed all) is

  holds_by : (h : Host) (e : Expression) (ty : TypeId) (v : Value) (more : List Operand) → type_of e ≡ Some ty → HoldsValue unit.types.types (Some h) e → IsItself e v → IsValueOf w (sort_in unit ty) v → HoldsNumber (Some h) (Given (sort_in unit ty) v ∷ more)
  holds_by h (Const t (constant.Number n)) ty v more typed held itself is = subst (λ (x : Value). HoldsNumber (Some h) (Given (sort_in unit ty) x ∷ more)) (sym itself) held
  holds_by h (Const t (constant.Chars bytes)) ty v more typed held itself is = all_by h (Const t (constant.Chars bytes)) ty v more typed held is
  holds_by h (Const t constant.Nil) ty v more typed held itself is = all_by h (Const t constant.Nil) ty v more typed held is
  holds_by h (Const t (constant.Elements elements)) ty v more typed held itself is = all_by h (Const t (constant.Elements elements)) ty v more typed held is
  holds_by h e ty v more typed held itself is = all_by h e ty v more typed held is

  holds_first : (stored : Option Host) (args : Arguments) (xs : List Operand) → HoldsFirst unit.types.types stored args → HasFirst w unit args xs → HoldsNumber stored xs
  holds_first None (ByValue e rest) xs held first = absurd (none e held) where
    none : (e : Expression) → HoldsValue unit.types.types None e → ⊥
    none e held = held
  holds_first (Some h) (ByValue e rest) xs held first =
      subst (HoldsNumber (Some h)) (sym first.is) (holds_by h e first.ty first.v first.more first.typed held first.itself first.value)
  holds_first stored NoArguments xs held first = absurd held
  holds_first stored (ByPlace at rest) xs held first = absurd held

  like_first : (ty : TypeId) (args : Arguments) (xs : List Operand) → IsLikeFirst unit.types.types (definition (sort_in unit ty)) args → HasFirst w unit args xs → IsLikeNumber (sort_in unit ty) xs
  like_first ty (ByValue e rest) xs alike first =
      subst (IsLikeNumber (sort_in unit ty)) (sym first.is) (subst (λ (o : Option TypeId). AreStoredAlike (definition (sort_in unit ty)) (option_and_then (definition_in unit.types.types) o)) first.typed alike)
  like_first ty NoArguments xs alike first = absurd alike
  like_first ty (ByPlace at rest) xs alike first = absurd alike

  -- the result that the rules on types ask for
  pub gives_result : (outcome : Result) (ty : Option TypeId) (args : Arguments) (xs : List Operand) → IsGiven unit.types.types outcome ty args → HasFirst w unit args xs → GivesResult outcome (option_map (sort_in unit) ty) xs
  gives_result Nothing None args xs h first = tt
  gives_result Wide (Some ty) args xs h first = h
  gives_result Holding (Some ty) args xs h first = (h.0, holds_first (stored_as (definition (sort_in unit ty))) args xs h.1 first)
  gives_result Alike (Some ty) args xs h first = like_first ty args xs h first
  gives_result Truth (Some ty) args xs h first = h
  gives_result Letter (Some ty) args xs h first = h
  gives_result Byte (Some ty) args xs h first = h
  gives_result Small (Some ty) args xs h first = h
  gives_result Size (Some ty) args xs h first = h
  gives_result Line (Some ty) args xs h first = h
  gives_result Link (Some ty) args xs h first = h
  gives_result outcome ty args xs h first = absurd h

-- ---- effects

module _ (program : Program) (agreed : AreConsistent program) where
  -- what a pointer points to is in its table
  pub target_known : (sort : Sort) (to : TypeId) → IsKnown program sort → definition sort ≡ Some (type.PointerTo to) → IsKnown program (beside sort to)
  target_known sort to ks e = let law = lawful program agreed sort ks in known_within program agreed sort to ks (law.targets sort.ty.0 to e)

  pub pointer_target : (o : Option TypeDef) → IsPointer o → (to : TypeId) × (o ≡ Some (type.PointerTo to))
  pointer_target (Some (type.PointerTo to)) h = (to, refl)
  pointer_target (Some (type.Ordinal host low high)) h = absurd h
  pointer_target (Some (type.Str max)) h = absurd h
  pointer_target (Some (type.SetOf base)) h = absurd h
  pointer_target (Some (type.ArrayOf i x)) h = absurd h
  pointer_target (Some (type.RecordOf fields)) h = absurd h
  pointer_target (Some (type.ObjectOf p d fields methods)) h = absurd h
  pointer_target (Some (type.Procedural header)) h = absurd h
  pointer_target None h = absurd h

  abbrev Gave : Option Sort → World → Value → Type 0
  Gave result w v = IsResult w result v

  -- a block for the target of a pointer type
  makes_ends : (made : List Made) (pointer : Sort) (s : State) → IsPointer (definition pointer) → IsKnown program pointer → IsTypedState (world program made) s
      → Ends (world program made) (Gave (Some pointer)) (effect_done program (Makes pointer) s)
  makes_ends made pointer s is ks typed =
      let w : World = world program made in
      let Q : World → Value → Type 0 = Gave (Some pointer) in
      let to = pointer_target (definition pointer) is in
      let kt = target_known pointer to.0 ks to.1 in
      subst (λ (o : Option TypeDef). Ends w Q (and_then (and_then (found (target_of pointer o) s) (block_made program)) (λ serial. give (Block serial)))) (sym to.1)
      (ends_bind (λ v serial. LeadsTo v serial (class_key (beside pointer to.0))) w Q (block_made program (beside pointer to.0) s) (λ serial. give (Block serial)) (block_ends program agreed made (beside pointer to.0) s kt typed)
      (λ more serial t typed' leads. ends_done Q (after w more) (Block serial) t typed' (subst (λ (o : Option TypeDef). IsValueBy (after w more) pointer o (Block serial)) (sym to.1) leads)))

  effect_ends : (made : List Made) (result : Option Sort) (effect : Effect) (s : State) → ((pointer : Sort) → effect ≡ Makes pointer → result ≡ Some pointer → IsPointer (definition pointer) × IsKnown program pointer)
      → IsTypedState (world program made) s → IsSoundEffect (world program made) s.store result effect → Ends (world program made) (Gave result) (effect_done program effect s)
  effect_ends made result (Gives look) s makes typed is = ends_looked (Gave result) (world program made) look s typed is
  effect_ends made result (Changes change) s makes typed is =
      let w : World = world program made in
      ends_bind (λ v u. Unit {0}) w (Gave result) (changed change s) (λ u. give Void) (ends_changed_later w change s typed is.1) (λ more u t typed' x.
      ends_done (Gave result) (after w more) Void t typed' (subst (λ (r : Option Sort). IsResult (after w more) r Void) (sym is.0) tt))
  effect_ends made result (Makes pointer) s makes typed is =
      let has = makes pointer refl is in
      subst (λ (r : Option Sort). Ends (world program made) (Gave r) (effect_done program (Makes pointer) s)) (sym is) (makes_ends made pointer s has.0 has.1 typed)
  effect_ends made result (Asks look) s makes typed is = ends_done (Gave result) (world program made) (look s.input) s typed (is s.input)

  -- ---- only New makes a block, where it gives a pointer

  module _ (result : Option Sort) (xs : List Operand) (one : Standard) (pointer : Sort) (e : effect_of program one result xs ≡ Makes pointer) where
    not_maker : {A : Type 0} (X : Standard) → Some X ≡ Some one → (effect_of program X result xs ≡ Makes pointer → ⊥) → A
    not_maker X same never = absurd (never (subst (λ (y : Standard). effect_of program y result xs ≡ Makes pointer) (sym (same_Some X one same)) e))

  maker : (w : World) (n : ℕ) (slots : List Slot) (outcome : Result) (result : Option Sort) (xs : List Operand) → IsStandard n slots outcome → GivesResult outcome result xs → (one : Standard) → standard n ≡ Some one
      → (pointer : Sort) → effect_of program one result xs ≡ Makes pointer → result ≡ Some pointer → IsPointer (definition pointer)
  maker w _ _ _ r xs abs gives one is p e same = not_maker r xs one p e Abs is (λ x. cc)
  maker w _ _ _ r xs sqr gives one is p e same = not_maker r xs one p e Sqr is (λ x. cc)
  maker w _ _ _ r xs odd gives one is p e same = not_maker r xs one p e Odd is (λ x. cc)
  maker w _ _ _ r xs ord gives one is p e same = not_maker r xs one p e Ord is (λ x. cc)
  maker w _ _ _ r xs chr gives one is p e same = not_maker r xs one p e Chr is (λ x. cc)
  maker w _ _ _ r xs succ gives one is p e same = not_maker r xs one p e Succ is (λ x. cc)
  maker w _ _ _ r xs pred gives one is p e same = not_maker r xs one p e Pred is (λ x. cc)
  maker w _ _ _ r xs inc gives one is p e same = not_maker r xs one p e Inc is (λ x. cc)
  maker w _ _ _ r xs inc_by gives one is p e same = not_maker r xs one p e Inc is (λ x. cc)
  maker w _ _ _ r xs dec gives one is p e same = not_maker r xs one p e Dec is (λ x. cc)
  maker w _ _ _ r xs dec_by gives one is p e same = not_maker r xs one p e Dec is (λ x. cc)
  maker w _ _ _ r xs hi gives one is p e same = not_maker r xs one p e Hi is (λ x. cc)
  maker w _ _ _ r xs lo gives one is p e same = not_maker r xs one p e Lo is (λ x. cc)
  maker w _ _ _ r xs swap gives one is p e same = not_maker r xs one p e Swap is (λ x. cc)
  maker w _ _ _ r xs size gives one is p e same = not_maker r xs one p e SizeOf is (λ x. cc)
  maker w _ _ _ r xs up_case gives one is p e same = not_maker r xs one p e UpCase is (λ x. cc)
  maker w _ _ _ r xs length_of gives one is p e same = not_maker r xs one p e Length is (λ x. cc)
  maker w _ _ _ r xs copy gives one is p e same = not_maker r xs one p e Copy is (λ x. cc)
  maker w _ _ _ r xs delete gives one is p e same = not_maker r xs one p e Delete is (λ x. cc)
  maker w _ _ _ r xs insert gives one is p e same = not_maker r xs one p e Insert is (λ x. cc)
  maker w _ _ _ r xs (concat more all) gives one is p e same = not_maker r xs one p e Concat is (λ x. cc)
  maker w _ _ _ r xs position gives one is p e same = not_maker r xs one p e Pos is (λ x. cc)
  maker w _ _ _ r xs text gives one is p e same = not_maker r xs one p e Str is (λ x. cc)
  maker w _ _ _ r xs text_in gives one is p e same = not_maker r xs one p e Str is (λ x. cc)
  maker w _ _ _ r xs number gives one is p e same = not_maker r xs one p e Val is (λ x. cc)
  maker w _ _ _ r xs end_of_file gives one is p e same = not_maker r xs one p e Eof is (λ x. cc)
  maker w _ _ _ r xs end_of_line gives one is p e same = not_maker r xs one p e Eoln is (λ x. cc)
  maker w _ _ _ None xs new gives one is p e same = not_maker None xs one p e New is (λ x. cc)
  maker w _ _ _ (Some r) xs new gives one is p e same = absurd gives
  maker w _ _ _ None xs new_block gives one is p e same = absurd gives
  maker w _ _ _ (Some r) xs new_block gives one is p e same = subst (λ (sort : Sort). IsPointer (definition sort)) (same_Some r p same) gives
  maker w _ _ _ r xs dispose gives one is p e same = not_maker r xs one p e Dispose is (λ x. cc)

  -- ---- the length of a variable

  -- the routine with the number of Length takes a text and gives its length
  pub length_slots : (n : ℕ) (slots : List Slot) (outcome : Result) → IsStandard n slots outcome → n ≡ routine.length → (slots ≡ TextSlot ∷ []) × (outcome ≡ Small)
  length_slots _ _ _ abs e = absurd (omega (arith, e))
  length_slots _ _ _ sqr e = absurd (omega (arith, e))
  length_slots _ _ _ odd e = absurd (omega (arith, e))
  length_slots _ _ _ ord e = absurd (omega (arith, e))
  length_slots _ _ _ chr e = absurd (omega (arith, e))
  length_slots _ _ _ succ e = absurd (omega (arith, e))
  length_slots _ _ _ pred e = absurd (omega (arith, e))
  length_slots _ _ _ inc e = absurd (omega (arith, e))
  length_slots _ _ _ inc_by e = absurd (omega (arith, e))
  length_slots _ _ _ dec e = absurd (omega (arith, e))
  length_slots _ _ _ dec_by e = absurd (omega (arith, e))
  length_slots _ _ _ hi e = absurd (omega (arith, e))
  length_slots _ _ _ lo e = absurd (omega (arith, e))
  length_slots _ _ _ swap e = absurd (omega (arith, e))
  length_slots _ _ _ size e = absurd (omega (arith, e))
  length_slots _ _ _ up_case e = absurd (omega (arith, e))
  length_slots _ _ _ length_of e = (refl, refl)
  length_slots _ _ _ copy e = absurd (omega (arith, e))
  length_slots _ _ _ delete e = absurd (omega (arith, e))
  length_slots _ _ _ insert e = absurd (omega (arith, e))
  length_slots _ _ _ (concat more all) e = absurd (omega (arith, e))
  length_slots _ _ _ position e = absurd (omega (arith, e))
  length_slots _ _ _ text e = absurd (omega (arith, e))
  length_slots _ _ _ text_in e = absurd (omega (arith, e))
  length_slots _ _ _ number e = absurd (omega (arith, e))
  length_slots _ _ _ end_of_file e = absurd (omega (arith, e))
  length_slots _ _ _ end_of_line e = absurd (omega (arith, e))
  length_slots _ _ _ new e = absurd (omega (arith, e))
  length_slots _ _ _ new_block e = absurd (omega (arith, e))
  length_slots _ _ _ dispose e = absurd (omega (arith, e))

  pub length_ends : (made : List Made) (unit : TypedUnit) (seen : Sort) (ty : Option TypeId) (args : Arguments) (o : Outcome Reached) → IsString (definition seen) → IsGiven unit.types.types Small ty args
      → Ends (world program made) (λ w at. IsAt w at seen) o → Ends (world program made) (GivesAs unit ty) (and_then o (λ at. looked (length_held at)))
  length_ends made unit seen None args o string gives h = absurd gives
  length_ends made unit seen (Some ty) args o string gives h =
      let sort : Sort = sort_in unit ty in
      ends_bind (λ w at. IsAt w at seen) (world program made) (GivesAs unit (Some ty)) o (λ at. looked (length_held at)) h (λ more at s typed is.
      let w : World = after (world program made) more in
      ends_looked (GivesAs unit (Some ty)) w (length_held at) s typed
      (finds_more (IsHeld w (Number host.Integer)) (IsValueOf w sort) (length_held at s.store) (λ v held. as_ordinal w sort host.Integer v (definition sort) gives held)
      (length_held_found w agreed s.store typed.store at seen is string)))

  -- ---- a call

  pub standard_ends : (closed : HasClasses program) (made : List Made) (unit : TypedUnit) (n : ℕ) (slots : List Slot) (outcome : Result) (ty : Option TypeId) (args : Arguments) (o : Outcome (List Operand)) → IsStandard n slots outcome
      → IsGiven unit.types.types outcome ty args → ((sort : Sort) → option_map (sort_in unit) ty ≡ Some sort → IsKnown program sort) → Ends (world program made) (FilledBy unit slots args) o
      → Ends (world program made) (GivesAs unit ty) (and_then o (λ xs. known (standard n) >>= λ one. standard_done program (option_map (sort_in unit) ty) xs one))
  standard_ends closed made unit n slots outcome ty args o std gives ks h =
      let result : Option Sort = option_map (sort_in unit) ty in
      ends_bind (FilledBy unit slots args) (world program made) (GivesAs unit ty) o (λ xs. known (standard n) >>= λ one. standard_done program (option_map (sort_in unit) ty) xs one) h (λ more xs s typed are.
      let w : World = world program (made ++ more) in
      let given : GivesResult outcome result xs = gives_result w unit outcome ty args xs gives are.1 in
      let call : IsSoundCall w s.store n result xs = standard_laws w agreed closed s.store typed.store n slots outcome result xs std are.0 given in
      subst (λ (x : Option Standard). Ends w (GivesAs unit ty) ((known x >>= λ one. standard_done program result xs one) s)) (sym call.is)
      (effect_ends (made ++ more) result (effect_of program call.one result xs) s (λ pointer e same. (maker w n slots outcome result xs std given call.one call.is pointer e same, ks pointer same)) typed call.sound))
