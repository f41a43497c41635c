-- Values by their kinds: numbers, truth values, strings and sets.
use Rattle.std.proofs.Common.{◌≡◌, ℕ, Bool, true, false, List, Some, refl}
use Rattle.std.specs.Prelude.{ℤ, All, Option}
use Rattle.tp_meaning.specs.type_layout.declared.definitions.Host.{Host}
use Rattle.tp_meaning.specs.type_layout.declared.definitions.Host.TheVariants as host
use Rattle.tp_meaning.specs.type_layout.declared.definitions.TypeDef.{TypeDef}
use Rattle.tp_meaning.specs.type_layout.declared.definitions.TypeDef.TheVariants as type
use Rattle.tp_meaning.specs.typed_tree.type_fits.Fits.{stored_as, IsBoolean, IsString, IsSet}
use Rattle.tp_meaning.specs.Trees.{Value, Ordinal, Text, Elements}
use Rattle.tp_meaning.specs.Programs.{Sort, definition}
use Rattle.tp_meaning.specs.Operators.{truth}
use Rattle.store_typing.specs.types.Forms.{Number, all_members}
use Rattle.store_typing.specs.stores.Worlds.{World, LiesWithin, IsHeld}
use Rattle.store_typing.specs.stores.Places.{IsText, IsValueBy, IsValueOf}
use Rattle.store_typing.proofs.stores.Steps.{as_ordinal, of_ordinal}

-- a set, whose elements are below 256
abbrev pub IsAny : List ℕ → Type 0
IsAny set = All (LiesWithin 0 32) set

module _ (w : World) where
  pub record NumberAt (h : Host) (v : Value) : Type 0 where
    pub z : ℤ
    pub is : v ≡ Ordinal z
    pub held : IsHeld w (Number h) (Ordinal z)

  pub number_at : (h : Host) (v : Value) → IsHeld w (Number h) v → NumberAt h v
  number_at h (Ordinal z) held = record { z = z; is = refl; held = held }
  number_at h v held = absurd held

  pub number_value : (sort : Sort) (h : Host) (v : Value) → stored_as (definition sort) ≡ Some h → IsValueOf w sort v → NumberAt h v
  number_value sort h v e is = number_at h v (of_ordinal w sort h v (definition sort) e is)

  pub ordinal_value : (sort : Sort) (h : Host) (z : ℤ) → stored_as (definition sort) ≡ Some h → IsHeld w (Number h) (Ordinal z) → IsValueOf w sort (Ordinal z)
  ordinal_value sort h z e held = as_ordinal w sort h (Ordinal z) (definition sort) e held

  pub truth_held : (b : Bool) → IsHeld w (Number host.Boolean) (truth b)
  truth_held true = refl
  truth_held false = refl

  pub truth_value : (sort : Sort) (b : Bool) → IsBoolean (definition sort) → IsValueOf w sort (truth b)
  truth_value sort b e = as_ordinal w sort host.Boolean (truth b) (definition sort) e (truth_held b)

  pub record TextAt (v : Value) : Type 0 where
    pub bytes : List ℕ
    pub is : v ≡ Text bytes
    pub text : IsText bytes

  text_by : (sort : Sort) (max : ℕ) (v : Value) → IsValueBy w sort (Some (type.Str max)) v → TextAt v
  text_by sort max (Text bytes) is = record { bytes = bytes; is = refl; text = is }
  text_by sort max v is = absurd is

  text_at : (sort : Sort) (o : Option TypeDef) (v : Value) → IsString o → IsValueBy w sort o v → TextAt v
  text_at sort (Some (type.Str max)) v string is = text_by sort max v is
  text_at sort o v string is = absurd string

  pub text_value : (sort : Sort) (v : Value) → IsString (definition sort) → IsValueOf w sort v → TextAt v
  text_value sort v string is = text_at sort (definition sort) v string is

  as_text : (sort : Sort) (o : Option TypeDef) (bytes : List ℕ) → IsString o → IsText bytes → IsValueBy w sort o (Text bytes)
  as_text sort (Some (type.Str max)) bytes string is = is
  as_text sort o bytes string is = absurd string

  pub of_text : (sort : Sort) (bytes : List ℕ) → IsString (definition sort) → IsText bytes → IsValueOf w sort (Text bytes)
  of_text sort bytes string is = as_text sort (definition sort) bytes string is

  set_by : (v : Value) → IsHeld w all_members v → (set : List ℕ) × (v ≡ Elements set) × IsAny set
  set_by (Elements set) is = (set, refl, is)
  set_by v is = absurd is

  set_at : (sort : Sort) (o : Option TypeDef) (v : Value) → IsSet o → IsValueBy w sort o v → (set : List ℕ) × (v ≡ Elements set) × IsAny set
  set_at sort (Some (type.SetOf base)) v s is = set_by v is
  set_at sort o v s is = absurd s

  pub set_value : (sort : Sort) (v : Value) → IsSet (definition sort) → IsValueOf w sort v → (set : List ℕ) × (v ≡ Elements set) × IsAny set
  set_value sort v s is = set_at sort (definition sort) v s is

  pub as_set : (sort : Sort) (o : Option TypeDef) (set : List ℕ) → IsSet o → IsAny set → IsValueBy w sort o (Elements set)
  as_set sort (Some (type.SetOf base)) set s is = is
  as_set sort o set s is = absurd s
