-- Arguments of standard routines, as they are asked for.
use Rattle.std.proofs.Common.{◌≡◌, true, List, Option, Some, None, refl, sym, subst, ◌∙◌}
use Rattle.well_formed.specs.type_layout.declared.definitions.Host.{Host}
use Rattle.well_formed.specs.type_layout.declared.definitions.Host.TheVariants as host
use Rattle.well_formed.specs.type_layout.declared.definitions.TypeDef.{TypeDef}
use Rattle.well_formed.specs.typed_tree.Expressions.{Expression}
use Rattle.well_formed.specs.typed_tree.type_fits.Fits.{stored_as, family_of, IsSome, IsInteger, IsChar, IsString}
use Rattle.well_formed.specs.Scopes.{Scope}
use Rattle.well_formed.specs.Typed.{IsTyped}
use Rattle.well_formed.specs.typed_tree.type_fits.Standard.{sort_of}
use Rattle.call_rules.specs.typing_rules.declared.sorts.Sort.{Sort}
use Rattle.call_rules.specs.typing_rules.declared.sorts.Sort.TheVariants as sort
use Rattle.call_rules.specs.typing_rules.Sorts as sorts
use Rattle.call_rules.specs.typing_rules.Wanted.{stored_of, as_text}
use Rattle.call_rules.specs.typing_rules.Plans as plans
use Rattle.call_rules.specs.Casts as casts
use Rattle.call_rules.specs.standard_rules.Standard.{IsShort, as_taken}
use Rattle.call_rules.specs.standard_rules.Standard as rules
use Rattle.rules_well_formed.specs.nodes.Tables.{IsSound}
use Rattle.rules_well_formed.specs.nodes.Laws.{IsOperand}
use Rattle.rules_well_formed.proofs.nodes.Sorted.{Shows, shows}
use Rattle.rules_well_formed.proofs.nodes.Wanting.{same_stored, text_typed}
use Rattle.rules_well_formed.proofs.nodes.Combined.{IsNone, not_nil, integer_one, text_one}
use Rattle.rules_well_formed.proofs.nodes.Indexed.{family_stored, integer_shown}
use Rattle.rules_well_formed.proofs.nodes.Joined.{text_of}
use Rattle.rules_well_formed.proofs.calls.Casts.{ordinal_some, ordinal_stored}

-- ---- arguments as they are

char_some : (x : Sort) → rules.IsChar x → IsNone x
char_some sort.Char h = tt
char_some x h = absurd h

char_shown : (types : List TypeDef) (x : Sort) (one : Option TypeDef) → rules.IsChar x → Shows types x one → IsChar one
char_shown types sort.Char one k h = h
char_shown types x one k h = absurd k

short_integer : (x : Sort) → IsShort x → plans.IsInteger x
short_integer (sort.Integer r) h = tt
short_integer x h = absurd h

module _ (s : Scope) (e : Expression) (oe : IsOperand s e) where
  pub integer_given : plans.IsInteger (sorts.sort_of s.types e) → IsTyped s e × IsInteger (sort_of s.types e)
  integer_given k =
      let typed = not_nil s e (integer_one (sorts.sort_of s.types e) k) oe in
      (typed, integer_shown s.types (sorts.sort_of s.types e) (sort_of s.types e) k (shows s e typed))

  pub short_given : IsShort (sorts.sort_of s.types e) → IsTyped s e × IsInteger (sort_of s.types e)
  short_given k = integer_given (short_integer (sorts.sort_of s.types e) k)

  pub ordinal_given : casts.IsOrdinal (sorts.sort_of s.types e) → IsTyped s e × IsSome (stored_as (sort_of s.types e))
  ordinal_given k =
      let typed = not_nil s e (ordinal_some (sorts.sort_of s.types e) k) oe in
      (typed, ordinal_stored s.types (sorts.sort_of s.types e) (sort_of s.types e) k (shows s e typed))

  pub char_given : rules.IsChar (sorts.sort_of s.types e) → IsTyped s e × IsChar (sort_of s.types e)
  char_given k =
      let typed = not_nil s e (char_some (sorts.sort_of s.types e) k) oe in
      (typed, char_shown s.types (sorts.sort_of s.types e) (sort_of s.types e) k (shows s e typed))

-- ---- arguments where strings are asked for

-- what is no Char stays as it is
kept_by : (stored : Option Host) (e : Expression) → (stored ≡ Some host.Char → ⊥) → as_text stored e ≡ e
kept_by (Some host.Char) e other = absurd (other refl)
kept_by None e other = refl
kept_by (Some host.ShortInt) e other = refl
kept_by (Some host.Byte) e other = refl
kept_by (Some host.Integer) e other = refl
kept_by (Some host.Word) e other = refl
kept_by (Some host.LongInt) e other = refl
kept_by (Some host.Boolean) e other = refl
kept_by (Some host.Enumeration) e other = refl

no_char : (one : Option TypeDef) → IsInteger one → stored_as one ≡ Some host.Char → ⊥
no_char one i c =
    let e : family_of one ≡ Some host.Char = family_stored one host.Char c (λ n. n) in
    cc

module _ (s : Scope) (sound : IsSound s.types) (e : Expression) (oe : IsOperand s e) where
  pub text_taken : plans.IsText (sorts.sort_of s.types e) → IsTyped s (as_taken s.types true e) × IsString (sort_of s.types (as_taken s.types true e))
  text_taken k =
      let typed = not_nil s e (text_one (sorts.sort_of s.types e) k) oe in
      text_typed s sound (stored_of s.types e) e (same_stored s.types e) typed (text_of s.types (sorts.sort_of s.types e) (sort_of s.types e) k (shows s e typed))

  pub integer_taken : plans.IsInteger (sorts.sort_of s.types e) → IsTyped s (as_taken s.types true e) × IsInteger (sort_of s.types (as_taken s.types true e))
  integer_taken k =
      let it = integer_given s e oe k in
      let same : as_text (stored_of s.types e) e ≡ e = kept_by (stored_of s.types e) e (λ c. no_char (sort_of s.types e) it.1 (sym (same_stored s.types e) ∙ c)) in
      subst (λ (x : Expression). IsTyped s x × IsInteger (sort_of s.types x)) (sym same) it
