-- Each standard routine.
use Rattle.std.proofs.Common.{◌≡◌, List, [], ◌∷◌, Some, None, refl, sym, ap, subst}
use Rattle.std.specs.Prelude.{Option}
use Rattle.std.proofs.lemmas.List.Elements.{All-cons}
use Rattle.tp_meaning.specs.type_layout.declared.definitions.Host.{Host}
use Rattle.tp_meaning.specs.typed_tree.Standard as routine
use Rattle.tp_meaning.specs.typed_tree.type_fits.Fits.{stored_as, IsSome}
use Rattle.tp_meaning.specs.typed_tree.type_fits.Standard.{Slot, Integer, Ordinal as OrdinalSlot, Char, Text as TextSlot, Pointer, IntegerVariable, OrdinalVariable, TextVariable, PointerVariable, Variable, IsText as IsTextSlot, abs, sqr, odd, ord, chr, succ, pred, inc, inc_by, dec, dec_by, hi, lo, swap, size, up_case, length_of, copy, delete, insert, concat, position, text, text_in, number, end_of_file, end_of_line, new, new_block, dispose}
use Rattle.tp_meaning.specs.Store.{Store}
use Rattle.tp_meaning.specs.Programs.{Sort, definition}
use Rattle.tp_meaning.specs.Standard.{Operand, Given, Named}
use Rattle.store_typing.specs.types.Agreement.{AreConsistent}
use Rattle.store_typing.specs.stores.Worlds.{World}
use Rattle.store_typing.specs.stores.Stores.{IsTypedStore}
use Rattle.store_typing.specs.standard.Operands.{IsOperand, AreOperands, HoldsNumber, IsLikeNumber}
use Rattle.store_typing.specs.standard.Laws.{HasClasses, IsSoundCall, StandardLaws}
use Rattle.store_typing.proofs.standard.Functions.{abs_call, sqr_call, swap_call, odd_call, ord_call, chr_call, succ_call, pred_call, hi_call, lo_call, up_case_call, length_call, copy_call, position_call, concat_call, eof_call, eoln_call}
use Rattle.store_typing.proofs.standard.Procedures.{inc_call, inc_by_call, dec_call, dec_by_call, delete_call, insert_call, text_call, text_in_call, number_call}
use Rattle.store_typing.proofs.standard.Blocks.{new_call, new_block_call, dispose_call}
use Rattle.store_typing.proofs.standard.Sizes.{size_call}

some_host : (s : Option Host) → IsSome s → (h : Host) × (s ≡ Some h)
some_host (Some h) is = (h, refl)
some_host None is = absurd is

like_host : (w : World) (result : Sort) (x : Operand) → IsOperand w OrdinalSlot x → IsLikeNumber result (x ∷ []) → (h : Host) × (stored_as (definition result) ≡ Some h)
like_host w result (Given sort v) is like = some_host (stored_as (definition result)) like.ordinal
like_host w result (Named at) is like = absurd like

-- ---- as many arguments as a routine takes

none_given : (w : World) (xs : List Operand) → AreOperands w [] xs → xs ≡ []
none_given w [] are = refl
none_given w (x ∷ xs) are = absurd are

record OneGiven (w : World) (a : Slot) (xs : List Operand) : Type 0 where
  x : Operand
  is : xs ≡ x ∷ []
  fits : IsOperand w a x

one_given : (w : World) (a : Slot) (xs : List Operand) → AreOperands w (a ∷ []) xs → OneGiven w a xs
one_given w a [] are = absurd are
one_given w a (x ∷ []) are = record { x = x; is = refl; fits = are.0 }
one_given w a (x ∷ y ∷ xs) are = absurd are.1

record TwoGiven (w : World) (a b : Slot) (xs : List Operand) : Type 0 where
  x : Operand
  y : Operand
  is : xs ≡ x ∷ y ∷ []
  first : IsOperand w a x
  second : IsOperand w b y

two_given : (w : World) (a b : Slot) (xs : List Operand) → AreOperands w (a ∷ b ∷ []) xs → TwoGiven w a b xs
two_given w a b [] are = absurd are
two_given w a b (x ∷ xs) are = let one = one_given w b xs are.1 in record { x = x; y = one.x; is = ap (λ (l : List Operand). x ∷ l) one.is; first = are.0; second = one.fits }

record ThreeGiven (w : World) (a b c : Slot) (xs : List Operand) : Type 0 where
  x : Operand
  y : Operand
  z : Operand
  is : xs ≡ x ∷ y ∷ z ∷ []
  first : IsOperand w a x
  second : IsOperand w b y
  third : IsOperand w c z

three_given : (w : World) (a b c : Slot) (xs : List Operand) → AreOperands w (a ∷ b ∷ c ∷ []) xs → ThreeGiven w a b c xs
three_given w a b c [] are = absurd are
three_given w a b c (x ∷ xs) are = let two = two_given w b c xs are.1 in record { x = x; y = two.x; z = two.y; is = ap (λ (l : List Operand). x ∷ l) two.is; first = are.0; second = two.first; third = two.second }

module _ (w : World) (agreed : AreConsistent w.program) (closed : HasClasses w.program) (store : Store) (typed : IsTypedStore w store) where
  pub standard_laws : StandardLaws w store
  standard_laws _ _ _ None xs abs are gives = absurd gives
  standard_laws _ _ _ (Some r) xs abs are gives =
      let a = one_given w Integer xs are in
      subst (IsSoundCall w store routine.abs (Some r)) (sym a.is) (abs_call w store r a.x a.fits gives)
  standard_laws _ _ _ None xs sqr are gives = absurd gives
  standard_laws _ _ _ (Some r) xs sqr are gives =
      let a = one_given w Integer xs are in
      subst (IsSoundCall w store routine.sqr (Some r)) (sym a.is) (sqr_call w store r a.x a.fits gives)
  standard_laws _ _ _ None xs odd are gives = absurd gives
  standard_laws _ _ _ (Some r) xs odd are gives =
      let a = one_given w Integer xs are in
      subst (IsSoundCall w store routine.odd (Some r)) (sym a.is) (odd_call w store r a.x a.fits gives)
  standard_laws _ _ _ None xs ord are gives = absurd gives
  standard_laws _ _ _ (Some r) xs ord are gives =
      let a = one_given w OrdinalSlot xs are in
      subst (IsSoundCall w store routine.ord (Some r)) (sym a.is) (ord_call w store r a.x a.fits gives.0 (subst (HoldsNumber (stored_as (definition r))) a.is gives.1))
  standard_laws _ _ _ None xs chr are gives = absurd gives
  standard_laws _ _ _ (Some r) xs chr are gives =
      let a = one_given w Integer xs are in
      subst (IsSoundCall w store routine.chr (Some r)) (sym a.is) (chr_call w store r a.x a.fits gives)
  standard_laws _ _ _ None xs succ are gives = absurd gives
  standard_laws _ _ _ (Some r) xs succ are gives =
      let a = one_given w OrdinalSlot xs are in
      let h = like_host w r a.x a.fits (subst (IsLikeNumber r) a.is gives) in
      subst (IsSoundCall w store routine.succ (Some r)) (sym a.is) (succ_call w store r a.x a.fits h.0 h.1)
  standard_laws _ _ _ None xs pred are gives = absurd gives
  standard_laws _ _ _ (Some r) xs pred are gives =
      let a = one_given w OrdinalSlot xs are in
      let h = like_host w r a.x a.fits (subst (IsLikeNumber r) a.is gives) in
      subst (IsSoundCall w store routine.pred (Some r)) (sym a.is) (pred_call w store r a.x a.fits h.0 h.1)
  standard_laws _ _ _ None xs hi are gives = absurd gives
  standard_laws _ _ _ (Some r) xs hi are gives =
      let a = one_given w Integer xs are in
      subst (IsSoundCall w store routine.hi (Some r)) (sym a.is) (hi_call w store r a.x a.fits gives)
  standard_laws _ _ _ None xs lo are gives = absurd gives
  standard_laws _ _ _ (Some r) xs lo are gives =
      let a = one_given w Integer xs are in
      subst (IsSoundCall w store routine.lo (Some r)) (sym a.is) (lo_call w store r a.x a.fits gives)
  standard_laws _ _ _ None xs swap are gives = absurd gives
  standard_laws _ _ _ (Some r) xs swap are gives =
      let a = one_given w Integer xs are in
      subst (IsSoundCall w store routine.swap (Some r)) (sym a.is) (swap_call w store r a.x a.fits gives)
  standard_laws _ _ _ None xs size are gives = absurd gives
  standard_laws _ _ _ (Some r) xs size are gives =
      let a = one_given w Variable xs are in
      subst (IsSoundCall w store routine.size_of (Some r)) (sym a.is) (size_call w agreed closed store typed a.x r a.fits gives)
  standard_laws _ _ _ None xs up_case are gives = absurd gives
  standard_laws _ _ _ (Some r) xs up_case are gives =
      let a = one_given w Char xs are in
      subst (IsSoundCall w store routine.up_case (Some r)) (sym a.is) (up_case_call w store r a.x a.fits gives)
  standard_laws _ _ _ None xs length_of are gives = absurd gives
  standard_laws _ _ _ (Some r) xs length_of are gives =
      let a = one_given w TextSlot xs are in
      subst (IsSoundCall w store routine.length (Some r)) (sym a.is) (length_call w store r a.x a.fits gives)
  standard_laws _ _ _ None xs copy are gives = absurd gives
  standard_laws _ _ _ (Some r) xs copy are gives =
      let a = three_given w TextSlot Integer Integer xs are in
      subst (IsSoundCall w store routine.copy (Some r)) (sym a.is) (copy_call w store r a.x a.y a.z a.first a.second a.third gives)
  standard_laws _ _ _ None xs (concat more each) are gives = absurd gives
  standard_laws _ _ _ (Some r) xs (concat more each) are gives = concat_call w store r (TextSlot ∷ more) xs (All-cons IsTextSlot TextSlot more refl each) are gives
  standard_laws _ _ _ None xs position are gives = absurd gives
  standard_laws _ _ _ (Some r) xs position are gives =
      let a = two_given w TextSlot TextSlot xs are in
      subst (IsSoundCall w store routine.pos (Some r)) (sym a.is) (position_call w store r a.x a.y a.first a.second gives)
  standard_laws _ _ _ None xs end_of_file are gives = absurd gives
  standard_laws _ _ _ (Some r) xs end_of_file are gives = subst (IsSoundCall w store routine.eof (Some r)) (sym (none_given w xs are)) (eof_call w store r gives)
  standard_laws _ _ _ None xs end_of_line are gives = absurd gives
  standard_laws _ _ _ (Some r) xs end_of_line are gives = subst (IsSoundCall w store routine.eoln (Some r)) (sym (none_given w xs are)) (eoln_call w store r gives)
  standard_laws _ _ _ None xs new_block are gives = absurd gives
  standard_laws _ _ _ (Some r) xs new_block are gives = subst (IsSoundCall w store routine.new (Some r)) (sym (none_given w xs are)) (new_block_call w agreed store typed r)
  standard_laws _ _ _ (Some r) xs inc are gives = absurd gives
  standard_laws _ _ _ None xs inc are gives =
      let a = one_given w OrdinalVariable xs are in
      subst (IsSoundCall w store routine.inc None) (sym a.is) (inc_call w agreed store typed a.x a.fits)
  standard_laws _ _ _ (Some r) xs inc_by are gives = absurd gives
  standard_laws _ _ _ None xs inc_by are gives =
      let a = two_given w OrdinalVariable Integer xs are in
      subst (IsSoundCall w store routine.inc None) (sym a.is) (inc_by_call w agreed store typed a.x a.y a.first a.second)
  standard_laws _ _ _ (Some r) xs dec are gives = absurd gives
  standard_laws _ _ _ None xs dec are gives =
      let a = one_given w OrdinalVariable xs are in
      subst (IsSoundCall w store routine.dec None) (sym a.is) (dec_call w agreed store typed a.x a.fits)
  standard_laws _ _ _ (Some r) xs dec_by are gives = absurd gives
  standard_laws _ _ _ None xs dec_by are gives =
      let a = two_given w OrdinalVariable Integer xs are in
      subst (IsSoundCall w store routine.dec None) (sym a.is) (dec_by_call w agreed store typed a.x a.y a.first a.second)
  standard_laws _ _ _ (Some r) xs delete are gives = absurd gives
  standard_laws _ _ _ None xs delete are gives =
      let a = three_given w TextVariable Integer Integer xs are in
      subst (IsSoundCall w store routine.delete None) (sym a.is) (delete_call w agreed store typed a.x a.y a.z a.first a.second a.third)
  standard_laws _ _ _ (Some r) xs insert are gives = absurd gives
  standard_laws _ _ _ None xs insert are gives =
      let a = three_given w TextSlot TextVariable Integer xs are in
      subst (IsSoundCall w store routine.insert None) (sym a.is) (insert_call w agreed store typed a.x a.y a.z a.first a.second a.third)
  standard_laws _ _ _ (Some r) xs text are gives = absurd gives
  standard_laws _ _ _ None xs text are gives =
      let a = two_given w Integer TextVariable xs are in
      subst (IsSoundCall w store routine.str None) (sym a.is) (text_call w agreed store typed a.x a.y a.first a.second)
  standard_laws _ _ _ (Some r) xs text_in are gives = absurd gives
  standard_laws _ _ _ None xs text_in are gives =
      let a = three_given w Integer Integer TextVariable xs are in
      subst (IsSoundCall w store routine.str None) (sym a.is) (text_in_call w agreed store typed a.x a.y a.z a.first a.second a.third)
  standard_laws _ _ _ (Some r) xs number are gives = absurd gives
  standard_laws _ _ _ None xs number are gives =
      let a = three_given w TextSlot IntegerVariable IntegerVariable xs are in
      subst (IsSoundCall w store routine.val None) (sym a.is) (number_call w agreed store typed a.x a.y a.z a.first a.second a.third)
  standard_laws _ _ _ (Some r) xs new are gives = absurd gives
  standard_laws _ _ _ None xs new are gives =
      let a = one_given w PointerVariable xs are in
      subst (IsSoundCall w store routine.new None) (sym a.is) (new_call w agreed store typed a.x a.fits)
  standard_laws _ _ _ (Some r) xs dispose are gives = absurd gives
  standard_laws _ _ _ None xs dispose are gives =
      let a = one_given w Pointer xs are in
      subst (IsSoundCall w store routine.dispose None) (sym a.is) (dispose_call w agreed store typed a.x a.fits)
