-- Arguments of standard routines that are as the routine takes them, and results as it gives them.
use Rattle.std.specs.Prelude.{◌≡◌, IsTrue, List, [], ◌∷◌, Option, Some, None}
use Rattle.tp_meaning.specs.type_layout.declared.definitions.Host.{Host}
use Rattle.tp_meaning.specs.type_layout.declared.definitions.Host.TheVariants as host
use Rattle.tp_meaning.specs.type_layout.Storage.{holds}
use Rattle.tp_meaning.specs.typed_tree.type_fits.Fits.{stored_as, IsBoolean, IsChar, AreStoredAlike, IsWide, IsString, IsPointer}
use Rattle.tp_meaning.specs.typed_tree.type_fits.Standard.{Slot, FitsValue, FitsVariable, Outcome, Nothing, Wide, Holding, Alike, Truth, Letter, Byte, Small, Size, Line, Link}
use Rattle.tp_meaning.specs.Trees.{Value, Ordinal, Void}
use Rattle.tp_meaning.specs.Programs.{Sort, definition}
use Rattle.tp_meaning.specs.Standard.{Operand, Given, Named}
use Rattle.store_typing.specs.stores.Worlds.{World}
use Rattle.store_typing.specs.stores.Places.{IsAt, IsValueOf}

-- a value of a type that fits, or a place
abbrev pub IsOperand : World → Slot → Operand → Type 0
IsOperand w slot (Given sort v) = FitsValue slot (definition sort) × IsValueOf w sort v
IsOperand w slot (Named at) = (seen : Sort) × IsAt w at seen × FitsVariable slot (definition seen)

abbrev pub AreOperands : World → List Slot → List Operand → Type 0
AreOperands w [] [] = Unit {0}
AreOperands w (slot ∷ slots) (x ∷ xs) = IsOperand w slot x × AreOperands w slots xs
AreOperands w _ _ = ⊥

-- the first argument is a number that is held so
abbrev pub HoldsNumber : Option Host → List Operand → Type 0
HoldsNumber (Some stored) (Given sort (Ordinal z) ∷ rest) = IsTrue (holds stored z z)
HoldsNumber _ _ = ⊥

abbrev pub IsLikeNumber : Sort → List Operand → Type 0
IsLikeNumber result (Given sort v ∷ rest) = AreStoredAlike (definition result) (definition sort)
IsLikeNumber result _ = ⊥

-- a result of the type
abbrev pub GivesResult : Outcome → Option Sort → List Operand → Type 0
GivesResult Nothing None xs = Unit {0}
GivesResult Wide (Some result) xs = IsWide (stored_as (definition result))
GivesResult Holding (Some result) xs = IsWide (stored_as (definition result)) × HoldsNumber (stored_as (definition result)) xs
GivesResult Alike (Some result) xs = IsLikeNumber result xs
GivesResult Truth (Some result) xs = IsBoolean (definition result)
GivesResult Letter (Some result) xs = IsChar (definition result)
GivesResult Byte (Some result) xs = stored_as (definition result) ≡ Some host.Byte
GivesResult Small (Some result) xs = stored_as (definition result) ≡ Some host.Integer
GivesResult Size (Some result) xs = stored_as (definition result) ≡ Some host.Word
GivesResult Line (Some result) xs = IsString (definition result)
GivesResult Link (Some result) xs = IsPointer (definition result)
GivesResult outcome result xs = ⊥

-- what a call gives: a value of the type, or nothing
abbrev pub IsResult : World → Option Sort → Value → Type 0
IsResult w None Void = Unit {0}
IsResult w None v = ⊥
IsResult w (Some sort) v = IsValueOf w sort v
