-- What arguments are, by what a standard routine takes.
use Rattle.std.proofs.Common.{◌≡◌, ℕ, zero, suc, ◌<◌, ◌≤◌, List, [], ◌∷◌, length, take, drop, Some, None, refl, ap, arith}
use Rattle.std.specs.Prelude.{ℤ, Option}
use Rattle.std.proofs.lemmas.List.Elements.{All-take, All-drop}
use Rattle.tp_meaning.specs.type_layout.declared.definitions.Host.{Host}
use Rattle.tp_meaning.specs.type_layout.declared.definitions.Host.TheVariants as host
use Rattle.tp_meaning.specs.type_layout.declared.definitions.TypeDef.{TypeDef}
use Rattle.tp_meaning.specs.typed_tree.type_fits.Fits.{stored_as, IsSome, IsInteger, IsString, IsPointer}
use Rattle.tp_meaning.specs.typed_tree.type_fits.Standard.{Integer, Ordinal as OrdinalSlot, Char, Text as TextSlot, IntegerVariable, OrdinalVariable, TextVariable, PointerVariable, Variable}
use Rattle.tp_meaning.specs.Trees.{Value, Ordinal, Text}
use Rattle.tp_meaning.specs.Programs.{Sort, definition}
use Rattle.tp_meaning.specs.Activations.{Reached}
use Rattle.tp_meaning.specs.Standard.{Operand, Given, Named}
use Rattle.store_typing.specs.types.Forms.{Number}
use Rattle.store_typing.specs.stores.Worlds.{World, IsHeld}
use Rattle.store_typing.specs.stores.Places.{IsAt, IsText, IsValueOf}
use Rattle.store_typing.proofs.operators.Stored.{ordinal_if_integer}
use Rattle.store_typing.proofs.operators.OperandKinds.{number_value, text_value}
use Rattle.store_typing.specs.standard.Operands.{IsOperand}

some_stored : (s : Option Host) → IsSome s → (h : Host) × (s ≡ Some h)
some_stored (Some h) is = (h, refl)
some_stored None is = absurd is

module _ (w : World) where
  -- a number that is given, and how its type is stored
  pub record NumberGiven (x : Operand) : Type 0 where
    pub sort : Sort
    pub stored : Host
    pub of : stored_as (definition sort) ≡ Some stored
    pub z : ℤ
    pub is : x ≡ Given sort (Ordinal z)
    pub held : IsHeld w (Number stored) (Ordinal z)

  number_given : (sort : Sort) (v : Value) (h : Host) → stored_as (definition sort) ≡ Some h → IsValueOf w sort v → NumberGiven (Given sort v)
  number_given sort v h e is =
      let n = number_value w sort h v e is in
      record { sort = sort; stored = h; of = e; z = n.z; is = ap (Given sort) n.is; held = n.held }

  pub integer_given : (x : Operand) → IsOperand w Integer x → NumberGiven x
  integer_given (Given sort v) is = let h = ordinal_if_integer (definition sort) is.0 in number_given sort v h.0 h.1 is.1
  integer_given (Named at) is = absurd is.2

  pub ordinal_given : (x : Operand) → IsOperand w OrdinalSlot x → NumberGiven x
  ordinal_given (Given sort v) is = let h = some_stored (stored_as (definition sort)) is.0 in number_given sort v h.0 h.1 is.1
  ordinal_given (Named at) is = absurd is.2

  pub char_given : (x : Operand) → IsOperand w Char x → NumberGiven x
  char_given (Given sort v) is = number_given sort v host.Char is.0 is.1
  char_given (Named at) is = absurd is.2

  pub record TextGiven (x : Operand) : Type 0 where
    pub sort : Sort
    pub bytes : List ℕ
    pub is : x ≡ Given sort (Text bytes)
    pub text : IsText bytes

  pub text_given : (x : Operand) → IsOperand w TextSlot x → TextGiven x
  text_given (Given sort v) is =
      let t = text_value w sort v is.0 is.1 in
      record { sort = sort; bytes = t.bytes; is = ap (Given sort) t.is; text = t.text }
  text_given (Named at) is = absurd is.2

  -- a place that is named, of a type that is asked
  pub record PlaceNamed (Asked : Option TypeDef → Type 0) (x : Operand) : Type 0 where
    pub at : Reached
    pub is : x ≡ Named at
    pub seen : Sort
    pub place : IsAt w at seen
    pub fits : Asked (definition seen)

  pub integer_named : (x : Operand) → IsOperand w IntegerVariable x → PlaceNamed IsInteger x
  integer_named (Given sort v) is = absurd is.0
  integer_named (Named at) is = record { at = at; is = refl; seen = is.0; place = is.1; fits = is.2 }

  pub ordinal_named : (x : Operand) → IsOperand w OrdinalVariable x → PlaceNamed (λ one. IsSome (stored_as one)) x
  ordinal_named (Given sort v) is = absurd is.0
  ordinal_named (Named at) is = record { at = at; is = refl; seen = is.0; place = is.1; fits = is.2 }

  pub text_named : (x : Operand) → IsOperand w TextVariable x → PlaceNamed IsString x
  text_named (Given sort v) is = absurd is.0
  text_named (Named at) is = record { at = at; is = refl; seen = is.0; place = is.1; fits = is.2 }

  pub pointer_named : (x : Operand) → IsOperand w PointerVariable x → PlaceNamed IsPointer x
  pointer_named (Given sort v) is = absurd is.0
  pointer_named (Named at) is = record { at = at; is = refl; seen = is.0; place = is.1; fits = is.2 }

  pub variable_named : (x : Operand) → IsOperand w Variable x → PlaceNamed IsSome x
  variable_named (Given sort v) is = absurd is.0
  variable_named (Named at) is = record { at = at; is = refl; seen = is.0; place = is.1; fits = is.2 }

-- ---- texts

length_take : (k : ℕ) (bytes : List ℕ) → length (take k bytes) ≤ length bytes
length_take zero [] = omega arith
length_take zero (byte ∷ bytes) = omega arith
length_take (suc k) [] = omega arith
length_take (suc k) (byte ∷ bytes) = omega (arith, length_take k bytes)

length_drop : (k : ℕ) (bytes : List ℕ) → length (drop k bytes) ≤ length bytes
length_drop zero bytes = omega arith
length_drop (suc k) [] = omega arith
length_drop (suc k) (byte ∷ bytes) = omega (arith, length_drop k bytes)

pub taken_text : (k : ℕ) (bytes : List ℕ) → IsText bytes → IsText (take k bytes)
taken_text k bytes is = record { each = All-take (λ b. b < 256) k bytes is.each; short = omega (arith, is.short, length_take k bytes) }

pub dropped_text : (k : ℕ) (bytes : List ℕ) → IsText bytes → IsText (drop k bytes)
dropped_text k bytes is = record { each = All-drop (λ b. b < 256) k bytes is.each; short = omega (arith, is.short, length_drop k bytes) }
