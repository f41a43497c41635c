-- Operators on values of their types.
use Rattle.std.proofs.Common.{◌≡◌, ℕ, zero, suc, ◌+◌, ◌<◌, ◌≤◌, Bool, true, false, List, [], ◌∷◌, ◌++◌, length, take, Some, None, refl, sym, ap, subst, ◌∙◌, arith}
use Rattle.std.proofs.Common.{⊎_elim}
use Rattle.std.specs.Prelude.{◌⊎◌, ℤ, neg_ℤ, ◌-ℤ◌, pos, negsuc, ◌==◌, not, nat_lt, int_lt, filter, All, Option, Ok, Err, if◌then◌else◌}
use Rattle.std.specs.declared.cmp.Ordering.{Ordering}
use Rattle.std.specs.Ordering.{int_eq, int_cmp}
use Rattle.std.proofs.lemmas.List.Elements.{All-nil, All-cons, All-append, All-filter, All-take}
use Rattle.std.proofs.lemmas.Bool.Decides.{nat_tests}
use Rattle.std.proofs.lemmas.Option.{same_Some}
use Rattle.tp_meaning.specs.common_values.integers.Words.{word_of}
use Rattle.tp_meaning.specs.type_layout.declared.definitions.Host.{Host}
use Rattle.tp_meaning.specs.type_layout.declared.definitions.Host.TheVariants as host
use Rattle.tp_meaning.specs.type_layout.declared.definitions.TypeDef.{TypeDef}
use Rattle.tp_meaning.specs.type_layout.declared.definitions.TypeDef.TheVariants as type
use Rattle.tp_meaning.specs.type_layout.Storage.{storage_of}
use Rattle.tp_meaning.specs.typed_tree.declared.expressions.UnaryOp.{UnaryOp}
use Rattle.tp_meaning.specs.typed_tree.declared.expressions.UnaryOp.TheVariants.{Plus, Minus, Not}
use Rattle.tp_meaning.specs.typed_tree.declared.expressions.BinaryOp.{BinaryOp}
use Rattle.tp_meaning.specs.typed_tree.declared.expressions.BinaryOp.TheVariants.{Add, Subtract, Multiply, Divide, Modulo, ShiftLeft, ShiftRight, And, Or, Xor, Equal, NotEqual, Less, LessOrEqual, Greater, GreaterOrEqual, In}
use Rattle.tp_meaning.specs.common_values.Ordinals.{width_of, quotient, remainder, shift_count}
use Rattle.tp_meaning.specs.common_values.Strings.{longest, joined}
use Rattle.tp_meaning.specs.common_values.Sets.{contains, is_member, union, difference, intersection, with_range}
use Rattle.tp_meaning.specs.typed_tree.type_fits.Fits.{stored_as, family_of, IsSome, IsBoolean, IsChar, AreStoredAlike, IsString, IsSet, IsPointer}
use Rattle.tp_meaning.specs.typed_tree.type_fits.Operators.{IsArithmetic, FitsUnary, AreNumbers, AreSets, AreStrings, AreTruths, IsShift, AreOrdered, AreSetsBoth, ArePointers, FitsBinary, MayBeEarly, IsConversion}
use Rattle.tp_meaning.specs.Trees.{Key, Value, Ordinal, Text, Elements, Nil, Block}
use Rattle.tp_meaning.specs.Found.{Found, Act, Error, ◌>>=◌}
use Rattle.tp_meaning.specs.Shapes.{stored_among}
use Rattle.tp_meaning.specs.Store.{Object, Store, object_at, if_there}
use Rattle.tp_meaning.specs.Programs.{Sort, definition}
use Rattle.tp_meaning.specs.Operators.{truth, is_true, is_boolean, unary_number, unary, arithmetic, logic, computed_as, computed, relation, related_or, on_ordinals, on_texts, on_sets, same_pointer, equality, binary, decided, converted, is_between, within, ranged, element_of, spanned}
use Rattle.store_typing.specs.types.Forms.{Number, Link}
use Rattle.store_typing.specs.stores.Worlds.{World, LiesWithin, IsHeld}
use Rattle.store_typing.specs.stores.Places.{IsText, IsValueBy, IsValueOf}
use Rattle.store_typing.specs.stores.Stores.{Finds}
use Rattle.store_typing.proofs.stores.Paths.{finds_bind}
use Rattle.store_typing.proofs.operators.Ranges.{kept_held, meant_held, and_word, or_word, xor_word, shifted_word, number_word}
use Rattle.store_typing.specs.operators.Laws.{OperatorLaws}
use Rattle.store_typing.proofs.stores.Sets.{more_lies}
use Rattle.store_typing.proofs.operators.OperandKinds.{number_value, ordinal_value, truth_held, truth_value, text_value, of_text, IsAny, set_value, as_set}
use Rattle.store_typing.proofs.operators.Stored.{wide, some_stored, ordinal_of_family, ordinal_if_integer}

module _ (w : World) where
  -- ---- one operand

  complement_held : (h : Host) (z : ℤ) → IsHeld w (Number h) (Ordinal z) → (op : UnaryOp) → IsHeld w (Number h) (Ordinal (unary_number op h z))
  complement_held h z held Plus = held
  complement_held h z held Minus = kept_held h (neg_ℤ z)
  complement_held host.Boolean z held Not = truth_held w (not (is_true z))
  complement_held host.ShortInt z held Not = kept_held host.ShortInt (neg_ℤ z -ℤ pos 1)
  complement_held host.Byte z held Not = kept_held host.Byte (neg_ℤ z -ℤ pos 1)
  complement_held host.Integer z held Not = kept_held host.Integer (neg_ℤ z -ℤ pos 1)
  complement_held host.Word z held Not = kept_held host.Word (neg_ℤ z -ℤ pos 1)
  complement_held host.LongInt z held Not = kept_held host.LongInt (neg_ℤ z -ℤ pos 1)
  complement_held host.Char z held Not = kept_held host.Char (neg_ℤ z -ℤ pos 1)
  complement_held host.Enumeration z held Not = kept_held host.Enumeration (neg_ℤ z -ℤ pos 1)

  unary_stored : (sort of : Sort) (op : UnaryOp) (v : Value) (h : Host) → stored_as (definition sort) ≡ Some h → stored_as (definition of) ≡ Some h → IsValueOf w of v
      → Finds (IsValueOf w sort) (unary op (stored_as (definition sort)) v)
  unary_stored sort of op v h e e' is =
      let n = number_value w of h v e' is in
      subst (λ (s : Option Host). Finds (IsValueOf w sort) (unary op s v)) (sym e)
      (subst (λ (x : Value). Finds (IsValueOf w sort) (unary op (Some h) x)) (sym n.is) (ordinal_value w sort h (unary_number op h n.z) e (complement_held h n.z n.held op)))

  unary_arithmetic : (sort of : Sort) (op : UnaryOp) (v : Value) → IsArithmetic (definition sort) (definition of) → IsValueOf w of v → Finds (IsValueOf w sort) (unary op (stored_as (definition sort)) v)
  unary_arithmetic sort of op v fits is = let s = wide (definition sort) fits.0 in unary_stored sort of op v s.stored s.is (fits.1 ∙ s.is) is

  unary_finds : (sort of : Sort) (op : UnaryOp) (v : Value) → FitsUnary op (definition sort) (definition of) → IsValueOf w of v → Finds (IsValueOf w sort) (unary op (stored_as (definition sort)) v)
  unary_finds sort of Plus v fits is = unary_arithmetic sort of Plus v fits is
  unary_finds sort of Minus v fits is = unary_arithmetic sort of Minus v fits is
  unary_finds sort of Not v fits is =
      ⊎_elim (λ f. unary_arithmetic sort of Not v f is) (λ f. unary_stored sort of Not v host.Boolean f.0 f.1 is) fits

  -- ---- two operands

  abbrev IsNumber : Host → ℤ → Type 0
  IsNumber h z = IsHeld w (Number h) (Ordinal z)

  divided_finds : (h : Host) (z : ℤ) (is_zero : Bool) → IsNumber h z → Finds (IsNumber h) (if is_zero then Err (Error 200) else Ok z)
  divided_finds h z true is = tt
  divided_finds h z false is = is

  -- operators that compute a number
  abbrev Computes : BinaryOp → Type 0
  Computes op = (h : Host) (x y : ℤ) → Finds (IsNumber h) (arithmetic op (stored_among h) x y)

  add : Computes Add
  add h x y = kept_held h _

  subtract : Computes Subtract
  subtract h x y = kept_held h _

  multiply : Computes Multiply
  multiply h x y = kept_held h _

  divide : Computes Divide
  divide h x y = divided_finds h (quotient (stored_among h) x y) (int_eq y (pos 0)) (kept_held h _)

  modulo : Computes Modulo
  modulo h x y = divided_finds h (remainder (stored_among h) x y) (int_eq y (pos 0)) (kept_held h _)

  shift_left : Computes ShiftLeft
  shift_left h x y = kept_held h _

  shift_right : Computes ShiftRight
  shift_right h x y = let t = stored_among h in meant_held h _ (shifted_word t (word_of (width_of t) x) (shift_count y) (number_word t x))

  and_bits : Computes And
  and_bits h x y = let t = stored_among h in meant_held h _ (and_word t (word_of (width_of t) x) (word_of (width_of t) y) (number_word t x))

  or_bits : Computes Or
  or_bits h x y = let t = stored_among h in meant_held h _ (or_word t (word_of (width_of t) x) (word_of (width_of t) y) (number_word t x) (number_word t y))

  xor_bits : Computes Xor
  xor_bits h x y = let t = stored_among h in meant_held h _ (xor_word t (word_of (width_of t) x) (word_of (width_of t) y) (number_word t x) (number_word t y))

  module _ (sort left right : Sort) (a b : Value) (store : Store) (is_a : IsValueOf w left a) (is_b : IsValueOf w right b) where
    abbrev Goal : BinaryOp → Type 0
    Goal op = Finds (IsValueOf w sort) (binary op (stored_as (definition sort)) a b store)

    -- both operands are known
    with_both : (op : BinaryOp) (x y : Value) → a ≡ x → b ≡ y → Finds (IsValueOf w sort) (binary op (stored_as (definition sort)) x y store) → Goal op
    with_both op x y e e' h =
        subst (λ (v : Value). Finds (IsValueOf w sort) (binary op (stored_as (definition sort)) v b store)) (sym e)
        (subst (λ (v : Value). Finds (IsValueOf w sort) (binary op (stored_as (definition sort)) x v store)) (sym e') h)

    related_finds : (op : BinaryOp) (o : Option Bool) (other : Found Value) → o ≡ None → Finds (IsValueOf w sort) other → Finds (IsValueOf w sort) (related_or o other)
    related_finds op None other e h = h
    related_finds op (Some b) other e h = absurd cc

    computed_numbers : (op : BinaryOp) → Computes op → (h : Host) (never : is_boolean h ≡ false) (x y : ℤ) → stored_as (definition sort) ≡ Some h → Finds (IsValueOf w sort) (computed op (stored_as (definition sort)) x y)
    computed_numbers op computes h never x y e =
        let made = finds_bind (IsNumber h) (IsValueOf w sort) (arithmetic op (stored_among h) x y) (λ z. Ok (Ordinal z)) (computes h x y) (λ z held. ordinal_value w sort h z e held) in
        subst (λ (s : Option Host). Finds (IsValueOf w sort) (computed op s x y)) (sym e)
        (subst (λ (t : Bool). Finds (IsValueOf w sort) (computed_as t op h x y)) (sym never) made)

    two_ordinals : (op : BinaryOp) → ((o : Ordering) → relation op o ≡ None) → (h h' : Host) → stored_as (definition left) ≡ Some h → stored_as (definition right) ≡ Some h'
        → ((x y : ℤ) → Finds (IsValueOf w sort) (computed op (stored_as (definition sort)) x y)) → Goal op
    two_ordinals op none h h' e e' computes =
        let x = number_value w left h a e is_a in
        let y = number_value w right h' b e' is_b in
        with_both op (Ordinal x.z) (Ordinal y.z) x.is y.is
        (related_finds op (relation op (int_cmp x.z y.z)) (computed op (stored_as (definition sort)) x.z y.z) (none (int_cmp x.z y.z)) (computes x.z y.z))

    numbers : (op : BinaryOp) → Computes op → ((o : Ordering) → relation op o ≡ None) → AreNumbers (definition sort) (definition left) (definition right) → Goal op
    numbers op computes none fits =
        let s = wide (definition sort) (fits.0).0 in
        two_ordinals op none s.stored s.stored ((fits.0).1 ∙ s.is) ((fits.1).1 ∙ s.is) (λ x y. computed_numbers op computes s.stored s.no_boolean x y s.is)

    shifts : (op : BinaryOp) → Computes op → ((o : Ordering) → relation op o ≡ None) → IsShift (definition sort) (definition left) (definition right) → Goal op
    shifts op computes none fits =
        let s = wide (definition sort) (fits.0).0 in
        let r = ordinal_if_integer (definition right) fits.1 in
        two_ordinals op none s.stored r.0 ((fits.0).1 ∙ s.is) r.1 (λ x y. computed_numbers op computes s.stored s.no_boolean x y s.is)

    truths : (op : BinaryOp) → ((x y : Bool) → (c : Bool) × (logic op x y ≡ Ok c)) → ((o : Ordering) → relation op o ≡ None) → AreTruths (definition sort) (definition left) (definition right) → Goal op
    truths op decides none fits =
        let e : IsBoolean (definition sort) = (fits.0).0 in
        two_ordinals op none host.Boolean host.Boolean (fits.0).1 (fits.1).1 (λ x y.
        subst (λ (s : Option Host). Finds (IsValueOf w sort) (computed op s x y)) (sym e)
        (let c = decides (is_true x) (is_true y) in
        subst (λ (f : Found Bool). Finds (IsValueOf w sort) (f >>= λ d. Ok (truth d))) (sym c.1) (truth_value w sort c.0 e)))

    sets : (op : BinaryOp) → ((x y : List ℕ) → IsAny x → IsAny y → (set : List ℕ) × (on_sets op x y ≡ Ok (Elements set)) × IsAny set) → AreSets (definition sort) (definition left) (definition right) → Goal op
    sets op gives fits =
        let x = set_value w left a fits.1 is_a in
        let y = set_value w right b fits.2 is_b in
        let c = gives x.0 y.0 x.2 y.2 in
        with_both op (Elements x.0) (Elements y.0) x.1 y.1 (subst (Finds (IsValueOf w sort)) (sym c.1) (as_set w sort (definition sort) c.0 fits.0 c.2))

    either_set : (x y : List ℕ) → IsAny x → IsAny y → IsAny (union x y)
    either_set x y p q = All-append (LiesWithin 0 32) x (filter (λ e. not (contains x e)) y) p (All-filter (λ e. not (contains x e)) (LiesWithin 0 32) y q)

    without_set : (x y : List ℕ) → IsAny x → IsAny (difference x y)
    without_set x y p = All-filter (λ e. not (contains y e)) (LiesWithin 0 32) x p

    both_set : (x y : List ℕ) → IsAny x → IsAny (intersection x y)
    both_set x y p = All-filter (λ e. contains y e) (LiesWithin 0 32) x p

    length_taken : (k : ℕ) (bytes : List ℕ) → length (take k bytes) ≤ k
    length_taken zero [] = omega arith
    length_taken zero (byte ∷ bytes) = omega arith
    length_taken (suc k) [] = omega arith
    length_taken (suc k) (byte ∷ bytes) = omega (arith, length_taken k bytes)

    joined_text : (x y : List ℕ) → IsText x → IsText y → IsText (joined x y)
    joined_text x y is_x is_y = record {
      each = All-take (λ b. b < 256) longest (x ++ y) (All-append (λ b. b < 256) x y is_x.each is_y.each);
      short = length_taken longest (x ++ y);
    }

    strings : AreStrings (definition sort) (definition left) (definition right) → Goal Add
    strings fits =
        let x = text_value w left a fits.1 is_a in
        let y = text_value w right b fits.2 is_b in
        with_both Add (Text x.bytes) (Text y.bytes) x.is y.is (of_text w sort (joined x.bytes y.bytes) fits.0 (joined_text x.bytes y.bytes x.text y.text))

    -- ---- relations

    told : IsBoolean (definition sort) → (f : Found Value) (c : Bool) → f ≡ Ok (truth c) → Finds (IsValueOf w sort) f
    told e f c is = subst (Finds (IsValueOf w sort)) (sym is) (truth_value w sort c e)

    abbrev Relates : BinaryOp → Type 0
    Relates op = (o : Ordering) → (c : Bool) × (relation op o ≡ Some c)

    ordered : (op : BinaryOp) → Relates op → ((x y : List ℕ) → (c : Bool) × (on_texts op x y ≡ Ok (truth c))) → IsBoolean (definition sort) → AreOrdered (definition left) (definition right) → Goal op
    ordered op relates texts e fits = ⊎_elim alike both fits where
      alike : AreStoredAlike (definition left) (definition right) → Goal op
      alike f =
          let s = some_stored (stored_as (definition left)) f.ordinal in
          let x = number_value w left s.0 a s.1 is_a in
          let y = number_value w right s.0 b (sym f.same ∙ s.1) is_b in
          let c = relates (int_cmp x.z y.z) in
          with_both op (Ordinal x.z) (Ordinal y.z) x.is y.is (told e (on_ordinals op (stored_as (definition sort)) x.z y.z) c.0 (ap (λ (o : Option Bool). related_or o (computed op (stored_as (definition sort)) x.z y.z)) c.1))

      both : (IsString (definition left) × IsString (definition right)) → Goal op
      both f =
          let x = text_value w left a f.0 is_a in
          let y = text_value w right b f.1 is_b in
          let c = texts x.bytes y.bytes in
          with_both op (Text x.bytes) (Text y.bytes) x.is y.is (told e (on_texts op x.bytes y.bytes) c.0 c.1)

    set_relation : (op : BinaryOp) → ((x y : List ℕ) → (c : Bool) × (on_sets op x y ≡ Ok (truth c))) → IsBoolean (definition sort) → AreSetsBoth (definition left) (definition right) → Goal op
    set_relation op tells e fits =
        let x = set_value w left a fits.0 is_a in
        let y = set_value w right b fits.1 is_b in
        let c = tells x.0 y.0 in
        with_both op (Elements x.0) (Elements y.0) x.1 y.1 (told e (on_sets op x.0 y.0) c.0 c.1)

    member : IsBoolean (definition sort) → IsSome (family_of (definition left)) → IsSet (definition right) → Goal In
    member e is s =
        let o = ordinal_of_family (definition left) is in
        let x = number_value w left o.0 a o.1 is_a in
        let y = set_value w right b s is_b in
        with_both In (Ordinal x.z) (Elements y.0) x.is y.1 (truth_value w sort (is_member y.0 x.z) e)

    there : (o : Option Object) (serial : ℕ) → Finds (λ (n : ℕ). Unit {0}) (if_there o serial)
    there None serial = tt
    there (Some object) serial = tt

    both_blocks : (x y : ℕ) → Finds (λ (c : Bool). Unit {0}) (same_pointer store (Block x) (Block y))
    both_blocks x y =
        finds_bind (λ (n : ℕ). Unit {0}) (λ (c : Bool). Unit {0}) (if_there (object_at store x) x) (λ x. if_there (object_at store y) y >>= λ y. Ok (x == y)) (there (object_at store x) x) (λ x _.
        finds_bind (λ (n : ℕ). Unit {0}) (λ (c : Bool). Unit {0}) (if_there (object_at store y) y) (λ y. Ok (x == y)) (there (object_at store y) y) (λ y _. tt))

    compared_pointers : (op : BinaryOp) → ((x : Bool) → (c : Bool) × (equality op x ≡ Ok (truth c))) → IsBoolean (definition sort) → (f : Found Bool) → Finds (λ (c : Bool). Unit {0}) f → Finds (IsValueOf w sort) (f >>= equality op)
    compared_pointers op tells e f is =
        finds_bind (λ (c : Bool). Unit {0}) (IsValueOf w sort) f (equality op) is (λ x _. let c = tells x in told e (equality op x) c.0 c.1)

    pointer_values : (op : BinaryOp) → ((x : Bool) → (c : Bool) × (equality op x ≡ Ok (truth c))) → IsBoolean (definition sort) → (k l : Option Key) (x y : Value) → IsHeld w (Link k) x → IsHeld w (Link l) y
        → Finds (IsValueOf w sort) (binary op (stored_as (definition sort)) x y store)
    pointer_values op tells e k l Nil Nil is is' = compared_pointers op tells e (same_pointer store Nil Nil) tt
    pointer_values op tells e k l Nil (Block y) is is' = compared_pointers op tells e (same_pointer store Nil (Block y)) tt
    pointer_values op tells e k l (Block x) Nil is is' = compared_pointers op tells e (same_pointer store (Block x) Nil) tt
    pointer_values op tells e k l (Block x) (Block y) is is' = compared_pointers op tells e (same_pointer store (Block x) (Block y)) (both_blocks x y)
    pointer_values op tells e k l Nil y is is' = absurd is'
    pointer_values op tells e k l (Block x) y is is' = absurd is'
    pointer_values op tells e k l x y is is' = absurd is

    link_of : (s : Sort) (o : Option TypeDef) (v : Value) → IsPointer o → IsValueBy w s o v → (k : Option Key) × IsHeld w (Link k) v
    link_of s (Some (type.PointerTo target)) v p is = (_, is)
    link_of s o v p is = absurd p

    pointers : (op : BinaryOp) → ((x : Bool) → (c : Bool) × (equality op x ≡ Ok (truth c))) → IsBoolean (definition sort) → ArePointers (definition left) (definition right) → Goal op
    pointers op tells e fits =
        let x = link_of left (definition left) a fits.0 is_a in
        let y = link_of right (definition right) b fits.1 is_b in
        pointer_values op tells e x.0 y.0 a b x.1 y.1

    -- ---- each operator

    binary_finds : (op : BinaryOp) → FitsBinary op (definition sort) (definition left) (definition right) → Goal op
    binary_finds Add fits = ⊎_elim (numbers Add add (λ o. refl)) (⊎_elim (sets Add (λ x y p q. (union x y, refl, either_set x y p q))) strings) fits
    binary_finds Subtract fits = ⊎_elim (numbers Subtract subtract (λ o. refl)) (sets Subtract (λ x y p q. (difference x y, refl, without_set x y p))) fits
    binary_finds Multiply fits = ⊎_elim (numbers Multiply multiply (λ o. refl)) (sets Multiply (λ x y p q. (intersection x y, refl, both_set x y p))) fits
    binary_finds Divide fits = numbers Divide divide (λ o. refl) fits
    binary_finds Modulo fits = numbers Modulo modulo (λ o. refl) fits
    binary_finds ShiftLeft fits = shifts ShiftLeft shift_left (λ o. refl) fits
    binary_finds ShiftRight fits = shifts ShiftRight shift_right (λ o. refl) fits
    binary_finds And fits = ⊎_elim (numbers And and_bits (λ o. refl)) (truths And (λ x y. (_, refl)) (λ o. refl)) fits
    binary_finds Or fits = ⊎_elim (numbers Or or_bits (λ o. refl)) (truths Or (λ x y. (_, refl)) (λ o. refl)) fits
    binary_finds Xor fits = ⊎_elim (numbers Xor xor_bits (λ o. refl)) (truths Xor (λ x y. (_, refl)) (λ o. refl)) fits
    binary_finds Equal fits =
        ⊎_elim (ordered Equal (λ o. (_, refl)) (λ x y. (_, refl)) fits.0) (⊎_elim (set_relation Equal (λ x y. (_, refl)) fits.0) (pointers Equal (λ x. (_, refl)) fits.0)) fits.1
    binary_finds NotEqual fits =
        ⊎_elim (ordered NotEqual (λ o. (_, refl)) (λ x y. (_, refl)) fits.0) (⊎_elim (set_relation NotEqual (λ x y. (_, refl)) fits.0) (pointers NotEqual (λ x. (_, refl)) fits.0)) fits.1
    binary_finds Less fits = ordered Less (λ o. (_, refl)) (λ x y. (_, refl)) fits.0 fits.1
    binary_finds LessOrEqual fits = ⊎_elim (ordered LessOrEqual (λ o. (_, refl)) (λ x y. (_, refl)) fits.0) (set_relation LessOrEqual (λ x y. (_, refl)) fits.0) fits.1
    binary_finds Greater fits = ordered Greater (λ o. (_, refl)) (λ x y. (_, refl)) fits.0 fits.1
    binary_finds GreaterOrEqual fits = ⊎_elim (ordered GreaterOrEqual (λ o. (_, refl)) (λ x y. (_, refl)) fits.0) (set_relation GreaterOrEqual (λ x y. (_, refl)) fits.0) fits.1
    binary_finds In fits = member fits.0 fits.1 fits.2

  -- ---- what the left side decides

  decided_if : (sort : Sort) (test : Bool) (v : Value) → IsBoolean (definition sort) → (if test then None else Some (truth false)) ≡ Some v → IsValueOf w sort v
  decided_if sort true v e is = absurd cc
  decided_if sort false v e is = subst (IsValueOf w sort) (same_Some (truth false) v is) (truth_value w sort false e)

  decided_or : (sort : Sort) (test : Bool) (v : Value) → IsBoolean (definition sort) → (if test then Some (truth true) else None) ≡ Some v → IsValueOf w sort v
  decided_or sort true v e is = subst (IsValueOf w sort) (same_Some (truth true) v is) (truth_value w sort true e)
  decided_or sort false v e is = absurd cc

  decided_value : (sort : Sort) (op : BinaryOp) (early : Bool) (a v : Value) → MayBeEarly op early (definition sort) → decided op early a ≡ Some v → IsValueOf w sort v
  decided_value sort And true (Ordinal z) v e is = decided_if sort (is_true z) v e is
  decided_value sort Or true (Ordinal z) v e is = decided_or sort (is_true z) v e is
  decided_value sort op early a v e is = absurd cc

  -- ---- conversions and tests

  char_text : (sort : Sort) (max : ℕ) (z : ℤ) → IsHeld w (Number host.Char) (Ordinal z) → Finds (IsValueBy w sort (Some (type.Str max))) (converted (Some (type.Str max)) (Ordinal z))
  char_text sort max (pos byte) held = record { each = All-cons (λ b. b < 256) byte [] (grind (arith, nat_tests)) (All-nil (λ b. b < 256)); short = omega arith }
  char_text sort max (negsuc n) held = absurd cc

  converted_string : (sort : Sort) (o : Option TypeDef) (z : ℤ) → IsString o → IsHeld w (Number host.Char) (Ordinal z) → Finds (IsValueBy w sort o) (converted o (Ordinal z))
  converted_string sort (Some (type.Str max)) z s held = char_text sort max z held
  converted_string sort o z s held = absurd s

  converted_ordinal : (sort : Sort) (o : Option TypeDef) (z : ℤ) → IsSome (stored_as o) → Finds (IsValueBy w sort o) (converted o (Ordinal z))
  converted_ordinal sort (Some (type.Ordinal host low high)) z s = kept_held (storage_of host low high) z
  converted_ordinal sort o z s = absurd s

  converted_finds : (sort of : Sort) (v : Value) → IsConversion (definition sort) (definition of) → IsValueOf w of v → Finds (IsValueOf w sort) (converted (definition sort) v)
  converted_finds sort of v fits is = ⊎_elim ordinal string fits where
    ordinal : (IsSome (stored_as (definition sort)) × IsSome (stored_as (definition of))) → Finds (IsValueOf w sort) (converted (definition sort) v)
    ordinal f =
        let s = some_stored (stored_as (definition of)) f.1 in
        let n = number_value w of s.0 v s.1 is in
        subst (λ (x : Value). Finds (IsValueOf w sort) (converted (definition sort) x)) (sym n.is) (converted_ordinal sort (definition sort) n.z f.0)

    string : (IsString (definition sort) × IsChar (definition of)) → Finds (IsValueOf w sort) (converted (definition sort) v)
    string f =
        let n = number_value w of host.Char v f.1 is in
        subst (λ (x : Value). Finds (IsValueOf w sort) (converted (definition sort) x)) (sym n.is) (converted_string sort (definition sort) n.z f.0 n.held)

  pub within_finds : (P : ℤ → Type 0) (low high z : ℤ) → P z → Finds P (within low high z)
  within_finds P low high z is = tested (is_between low high z) where
    tested : (t : Bool) → Finds P (if t then Ok z else Err (Error 201))
    tested true = is
    tested false = tt

  ranged_finds : (sort : Sort) (low high : ℤ) (v : Value) → IsSome (stored_as (definition sort)) → IsValueOf w sort v → Finds (IsValueOf w sort) (ranged low high v)
  ranged_finds sort low high v s is =
      let h = some_stored (stored_as (definition sort)) s in
      let n = number_value w sort h.0 v h.1 is in
      subst (λ (x : Value). Finds (IsValueOf w sort) (ranged low high x)) (sym n.is)
      (finds_bind (IsNumber h.0) (IsValueOf w sort) (within low high n.z) (λ z. Ok (Ordinal z)) (within_finds (IsNumber h.0) low high n.z n.held) (λ z held. ordinal_value w sort h.0 z h.1 held))

  element_number : (z : ℤ) → Finds (λ (n : ℕ). n < 256) (element_of (Ordinal z))
  element_number (negsuc n) = tt
  element_number (pos n) = tested (nat_lt n 256) refl where
    small : nat_lt n 256 ≡ true → n < 256
    small e = grind (arith, nat_tests, e)

    tested : (t : Bool) → nat_lt n 256 ≡ t → Finds (λ (n : ℕ). n < 256) (if t then Ok n else Err (Act 3))
    tested true e = small e
    tested false e = tt

  element_finds : (of : Sort) (v : Value) → IsSome (family_of (definition of)) → IsValueOf w of v → Finds (λ (n : ℕ). n < 256) (element_of v)
  element_finds of v s is =
      let h = ordinal_of_family (definition of) s in
      let n = number_value w of h.0 v h.1 is in
      subst (λ (x : Value). Finds (λ (n : ℕ). n < 256) (element_of x)) (sym n.is) (element_number n.z)

  abbrev AreSmall : List ℕ → Type 0
  AreSmall more = All (LiesWithin 0 32) more

  spanned_numbers : (set : List ℕ) (first last : ℤ) → AreSmall set → Finds AreSmall (spanned set (Ordinal first) (Ordinal last))
  spanned_numbers set first last are = tested (int_lt last first) where
    tested : (t : Bool) → Finds AreSmall (if t then Ok set else (element_of (Ordinal first) >>= λ m. element_of (Ordinal last) >>= λ n. Ok (with_range set m n)))
    tested true = are
    tested false =
        finds_bind (λ (m : ℕ). m < 256) AreSmall (element_of (Ordinal first)) (λ m. element_of (Ordinal last) >>= λ n. Ok (with_range set m n)) (element_number first) (λ m h.
        finds_bind (λ (n : ℕ). n < 256) AreSmall (element_of (Ordinal last)) (λ n. Ok (with_range set m n)) (element_number last) (λ n h'. more_lies set m n are h'))

  spanned_finds : (of to : Sort) (set : List ℕ) (v x : Value) → AreSmall set → IsSome (family_of (definition of)) → IsSome (family_of (definition to)) → IsValueOf w of v → IsValueOf w to x → Finds AreSmall (spanned set v x)
  spanned_finds of to set v x are s t is is' =
      let h = ordinal_of_family (definition of) s in
      let k = ordinal_of_family (definition to) t in
      let m = number_value w of h.0 v h.1 is in
      let n = number_value w to k.0 x k.1 is' in
      subst (λ (y : Value). Finds AreSmall (spanned set y x)) (sym m.is)
      (subst (λ (y : Value). Finds AreSmall (spanned set (Ordinal m.z) y)) (sym n.is) (spanned_numbers set m.z n.z are))

  pub operator_laws : OperatorLaws w
  operator_laws = record {
    unary = unary_finds;
    binary = λ sort left right op a b store fits is_a is_b. binary_finds sort left right a b store is_a is_b op fits;
    decided = decided_value;
    converted = converted_finds;
    ranged = ranged_finds;
    element = element_finds;
    spanned = spanned_finds;
  }
