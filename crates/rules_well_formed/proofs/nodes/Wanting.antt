-- Values where a type is wanted are typed, and are stored as the type asks.
use Rattle.std.proofs.Common.{◌≡◌, ◌⊎◌, inl, inr, ℕ, ◌<◌, ◌≤◌, Bool, true, false, cond, List, [], ◌∷◌, Option, Some, None, refl, sym, ap, ◌∙◌, subst, arith, rules}
use Rattle.std.proofs.Math.IntN.{ℤ}
use Rattle.std.proofs.lemmas.Int.{ints}
use Rattle.std.specs.Option.{option_and_then}
use Rattle.std.specs.Prelude.{unsigned_abs}
use Rattle.std.proofs.lemmas.List.Elements.{All-nil, All-cons}
use Rattle.std.proofs.lemmas.Option.{slice_get_past}
use denote.Enum.Bare.{same_true}
use Rattle.well_formed.specs.type_layout.contracts.definitions.Host.{the_type}
use Rattle.well_formed.specs.type_layout.declared.definitions.TypeId.{TypeId}
use Rattle.well_formed.specs.type_layout.declared.definitions.Host.{Host}
use Rattle.well_formed.specs.type_layout.declared.definitions.Host.TheVariants as host
use Rattle.well_formed.specs.type_layout.declared.definitions.TypeDef.{TypeDef}
use Rattle.well_formed.specs.type_layout.declared.definitions.TypeDef.TheVariants as type
use Rattle.well_formed.specs.type_layout.Storage.{storage_of, holds}
use Rattle.well_formed.specs.typed_tree.declared.expressions.Value.TheVariants as value
use Rattle.well_formed.specs.typed_tree.Expressions.{Expression, Const, Convert, type_of}
use Rattle.well_formed.specs.typed_tree.type_fits.Fits.{definition, stored_as, IsSome, IsChar, IsString, IsPointer, IsValue}
use Rattle.well_formed.specs.Scopes.{Scope}
use Rattle.well_formed.specs.Typed.{IsTyped}
use Rattle.well_formed.specs.typed_tree.type_fits.Standard.{sort_of}
use Rattle.call_rules.specs.typing_rules.Sorts.{string}
use Rattle.call_rules.specs.typing_rules.Wanted.{same_host, predefined, stored_of_type, stored_of, converted, as_ordinal, as_text, as_pointer, wanted_by, wanted, wanted_in, untyped, nil}
use Rattle.rules_well_formed.specs.nodes.Tables.{IsSound}
use Rattle.rules_well_formed.proofs.nodes.Ordinals.{within, value_held, IsStoredAs, predefined_stored, text_type}

stored_by : (types : List TypeDef) (o : Option TypeId) → stored_of_type types o ≡ stored_as (option_and_then (definition types) o)
stored_by types None = refl
stored_by types (Some ty) = refl

-- the rules and the trees agree on how a value is stored
pub same_stored : (types : List TypeDef) (e : Expression) → stored_of types e ≡ stored_as (sort_of types e)
same_stored types e = stored_by types (type_of e)

pub same_of : (one other : Host) → same_host one other ≡ true → one ≡ other
same_of one other e = same_true the_type (search rules) one other e

pub some_of : (o : Option Host) (w : Host) → o ≡ Some w → IsSome o
some_of o w e = subst (λ (x : Option Host). IsSome x) (sym e) tt

-- a typed ordinal that is stored so
abbrev pub IsOrdinal : Scope → Host → Expression → Type 0
IsOrdinal s w e = IsTyped s e × (stored_as (sort_of s.types e) ≡ Some w)

module _ (s : Scope) (sound : IsSound s.types) (ty : TypeId) (w : Host) (at : IsStoredAs s.types ty w) where
  convert_by : (e : Expression) (stored : Host) → Some stored ≡ stored_as (sort_of s.types e) → IsTyped s e → (b : Bool) → same_host stored w ≡ b
      → IsOrdinal s w (cond b e (Convert (predefined w ty) e))
  convert_by e stored same typed true eq = (typed, sym same ∙ ap (λ (x : Host). Some x) (same_of stored w eq))
  convert_by e stored same typed false eq =
      let to = predefined_stored s.types sound w ty at in
      ((typed, inl (some_of (stored_as (definition s.types (predefined w ty))) w to, some_of (stored_as (sort_of s.types e)) stored (sym same))), to)

  pub convert : (e : Expression) (stored : Option Host) → stored ≡ stored_as (sort_of s.types e) → IsSome stored → IsTyped s e
      → IsOrdinal s w (converted ty w stored e)
  convert e None same some typed = absurd some
  convert e (Some stored) same some typed = convert_by e stored same typed (same_host stored w) refl

  constant_by : (own : TypeId) (n : ℤ) (stored : Option Host) → IsOrdinal s w (converted ty w stored (Const own (value.Number n))) → (b : Bool) → holds w n n ≡ b
      → IsOrdinal s w (cond b (Const ty (value.Number n)) (converted ty w stored (Const own (value.Number n))))
  constant_by own n stored h true eq = (value_held s.types (definition s.types ty) w n at eq, at)
  constant_by own n stored h false eq = h

  ordinal_by : (stored : Option Host) (e : Expression) → IsOrdinal s w (converted ty w stored e) → IsOrdinal s w (as_ordinal ty w stored e)
  ordinal_by stored (Const own (value.Number n)) h = constant_by own n stored h (holds w n n) refl
  ordinal_by stored e h = h

  want_by : (e : Expression) → IsSome (stored_as (sort_of s.types e)) → IsTyped s e → (one : Option TypeDef) → stored_as one ≡ Some w
      → IsOrdinal s w (wanted_by ty one (stored_of s.types e) e)
  want_by e some typed (Some (type.Ordinal host low high)) h =
      let same : storage_of host low high ≡ w = cc in
      let stored = stored_of s.types e in
      let it : IsSome stored = subst (λ (o : Option Host). IsSome o) (sym (same_stored s.types e)) some in
      subst (λ (x : Host). IsOrdinal s w (as_ordinal ty x stored e)) (sym same) (ordinal_by stored e (convert e stored (same_stored s.types e) it typed))
  want_by e some typed one h = let bad : ⊥ = cc in absurd bad

  -- an ordinal in the type is stored as the type
  pub wanted_ordinal : (e : Expression) → IsSome (stored_as (sort_of s.types e)) → IsTyped s e → IsOrdinal s w (wanted s.types ty e)
  unfolding wanted
  wanted_ordinal e some typed = want_by e some typed (definition s.types ty) at

-- ---- texts

-- a typed string
abbrev pub IsText : Scope → Expression → Type 0
IsText s e = IsTyped s e × IsString (sort_of s.types e)

-- a Char is a byte
byte_of : (n : ℤ) → holds host.Char n n ≡ true → unsigned_abs n < 256
byte_of n h =
    let bounds = within host.Char n h in
    let low = bounds.0 in
    let high = bounds.1 in
    omega (arith, ints)

string_by : (stored : Option Host) (one : Option TypeDef) → stored ≡ stored_as one → IsChar one ⊎ IsString one → (stored ≡ Some host.Char → ⊥) → IsString one
string_by stored one same (inl c) differs = absurd (differs (same ∙ c))
string_by stored one same (inr h) differs = h

module _ (s : Scope) (sound : IsSound s.types) where
  pub string_type : IsString (definition s.types string)
  string_type = subst (λ (o : Option TypeDef). IsString o) (sym (text_type s.types sound)) tt

  one_byte : (c : ℕ) → c < 256 → IsValue s.types (value.Chars (c ∷ [])) (definition s.types string)
  one_byte c below =
      let short : 1 ≤ 255 = omega arith in
      subst (λ (o : Option TypeDef). IsValue s.types (value.Chars (c ∷ [])) o) (sym (text_type s.types sound)) (short, All-cons (λ (byte : ℕ). byte < 256) c [] below (All-nil (λ (byte : ℕ). byte < 256)))

  converted_text : (e : Expression) → IsTyped s e → IsChar (sort_of s.types e) → IsText s (Convert string e)
  converted_text e typed c = ((typed, inr (string_type, c)), string_type)

  char_by : (own : TypeId) (n : ℤ) → IsText s (Convert string (Const own (value.Number n))) → (b : Bool) → holds host.Char n n ≡ b
      → IsText s (cond b (Const string (value.Chars (unsigned_abs n ∷ []))) (Convert string (Const own (value.Number n))))
  char_by own n h true holding = (one_byte (unsigned_abs n) (byte_of n holding), string_type)
  char_by own n h false holding = h

  char_text : (e : Expression) → IsText s (Convert string e) → IsText s (as_text (Some host.Char) e)
  char_text (Const own (value.Number n)) h = char_by own n h (holds host.Char n n) refl
  char_text e h = h

  -- a Char or a string as a string
  pub text_typed : (stored : Option Host) (e : Expression) → stored ≡ stored_as (sort_of s.types e) → IsTyped s e
      → IsChar (sort_of s.types e) ⊎ IsString (sort_of s.types e) → IsText s (as_text stored e)
  text_typed (Some host.Char) e same typed h = char_text e (converted_text e typed (sym same))
  text_typed None e same typed h = (typed, string_by None (sort_of s.types e) same h (λ q. cc))
  text_typed (Some host.ShortInt) e same typed h = (typed, string_by (Some host.ShortInt) (sort_of s.types e) same h (λ q. cc))
  text_typed (Some host.Byte) e same typed h = (typed, string_by (Some host.Byte) (sort_of s.types e) same h (λ q. cc))
  text_typed (Some host.Integer) e same typed h = (typed, string_by (Some host.Integer) (sort_of s.types e) same h (λ q. cc))
  text_typed (Some host.Word) e same typed h = (typed, string_by (Some host.Word) (sort_of s.types e) same h (λ q. cc))
  text_typed (Some host.LongInt) e same typed h = (typed, string_by (Some host.LongInt) (sort_of s.types e) same h (λ q. cc))
  text_typed (Some host.Boolean) e same typed h = (typed, string_by (Some host.Boolean) (sort_of s.types e) same h (λ q. cc))
  text_typed (Some host.Enumeration) e same typed h = (typed, string_by (Some host.Enumeration) (sort_of s.types e) same h (λ q. cc))

  pub wanted_text : (e : Expression) → IsTyped s e → IsChar (sort_of s.types e) ⊎ IsString (sort_of s.types e) → IsText s (wanted s.types string e)
  unfolding wanted
  wanted_text e typed h =
      subst (λ (o : Option TypeDef). IsText s (wanted_by string o (stored_of s.types e) e)) (sym (text_type s.types sound))
      (text_typed (stored_of s.types e) e (same_stored s.types e) typed h)

-- ---- pointers

-- a typed pointer; or nil, which no type is known for yet
abbrev pub IsLink : Scope → Expression → Type 0
IsLink s e = IsTyped s e × IsPointer (sort_of s.types e)

abbrev pub IsAddress : Scope → Expression → Type 0
IsAddress s e = IsLink s e ⊎ (e ≡ nil)

nil_value : (types : List TypeDef) (one : Option TypeDef) → IsPointer one → IsValue types value.Nil one
nil_value types (Some (type.PointerTo target)) h = tt
nil_value types one h = absurd h

module _ (s : Scope) (sound : IsSound s.types) where
  pub no_type : definition s.types untyped ≡ None
  no_type = slice_get_past s.types 4294967295 (omega (arith, sound.room))

  pub pointer_typed : (ty : TypeId) → IsPointer (definition s.types ty) → (e : Expression) → IsLink s e → IsLink s (as_pointer ty e)
  pointer_typed ty p (Const own value.Nil) h = (nil_value s.types (definition s.types ty) p, p)
  pointer_typed ty p e h = h

  pub address_typed : (ty : TypeId) → IsPointer (definition s.types ty) → (e : Expression) → IsAddress s e → IsLink s (as_pointer ty e)
  address_typed ty p e (inl h) = pointer_typed ty p e h
  address_typed ty p e (inr h) =
      subst (λ (x : Expression). IsLink s (as_pointer ty x)) (sym h) (nil_value s.types (definition s.types ty) p, p)

  link_by : (ty : TypeId) (one : Option TypeDef) (e : Expression) → IsPointer one → IsLink s (as_pointer ty e) → IsLink s (wanted_by ty one (stored_of s.types e) e)
  link_by ty (Some (type.PointerTo target)) e p h = h
  link_by ty one e p h = absurd p

  -- in the type of a pointer
  pub wanted_link : (ty : TypeId) → IsPointer (definition s.types ty) → (e : Expression) → IsAddress s e → IsLink s (wanted s.types ty e)
  unfolding wanted
  wanted_link ty p e h = link_by ty (definition s.types ty) e p (address_typed ty p e h)

  wanted_untyped : (e : Expression) → wanted s.types untyped e ≡ e
  unfolding wanted
  wanted_untyped e = ap (λ (o : Option TypeDef). wanted_by untyped o (stored_of s.types e) e) no_type

  in_type : (o : Option TypeId) → IsPointer (option_and_then (definition s.types) o) → (e : Expression) → IsAddress s e → IsLink s (wanted_in s.types o e)
  in_type None p e h = absurd p
  in_type (Some ty) p e h = wanted_link ty p e h

  -- in the type of the other side, where not both are nil
  pub beside : (e other : Expression) → IsAddress s e → IsAddress s other → (e ≡ nil → other ≡ nil → ⊥) → IsLink s (wanted_in s.types (type_of other) e)
  beside e other h (inl o) apart = in_type (type_of other) o.1 e h
  beside e other (inl h) (inr o) apart =
      subst (λ (x : Expression). IsLink s (wanted_in s.types (type_of x) e)) (sym o) (subst (λ (x : Expression). IsLink s x) (sym (wanted_untyped e)) h)
  beside e other (inr h) (inr o) apart = absurd (apart h o)
