-- Signed numbers, truth values, numbers that may be absent, and names: what is read is spelled so, and again.
use Rattle.std.proofs.Common.{◌≡◌, ℕ, zero, suc, ◌+◌, ◌<◌, ◌≤◌, Bool, true, false, List, [], ◌∷◌, length, Option, Some, None, Ok, refl, sym, ap, subst, ◌∙◌, arith, Fits}
use Rattle.std.specs.Prelude.{IsTrue, nat_lt, nat_le, not, ◌&&◌, ◌==◌}
use Rattle.std.specs.Int.{w32, cast_signed, cast_unsigned}
use Rattle.std.specs.List.{flat_map, list_all}
use Rattle.std.proofs.Math.Facts.{sfits_to_z, Fits-of_z}
use Rattle.std.proofs.lemmas.Bool.Decides.{nat_tests}
use Rattle.std.proofs.lemmas.Int.{to_z-of_z, of_z-to_z}
use Rattle.std.proofs.lemmas.List.Concat.{flat_map-cons}
use Rattle.type_layout.specs.Words.{is_name_byte, is_digit, IsName}
use Rattle.object_file.specs.file_parts.Spelling.{long_text, signed_text, truth_text, name_text, option_text, FitInTurn, IsLong, IsSigned, IsLongOption}
use Rattle.object_file.specs.file_parts.Parts.{ruled, byte_at, signed_at, truth_at, option_of, option_at, is_name_length, stands_in_name, name_bytes, name_at}
use Rattle.object_file.proofs.file_parts.Laws.{IsBytes, Meets, fits_as, text_as, ruled_meets, MadeOf, made_meets}
use Rattle.object_file.proofs.file_parts.PartLaws.{byte_text, IsByte, byte_meets, long_meets, in_turn_meets, counted}

pub signed_meets : Meets signed_at signed_text IsSigned
unfolding signed_at
signed_meets =
    made_meets (cast_signed w32) signed_text IsSigned long_meets
    (λ number fits. let word : Fits w32 number = omega (arith, fits) in (ap long_text (of_z-to_z w32 number fits), sfits_to_z word))
    (λ number fits. let word : Fits w32 (cast_unsigned w32 number) = Fits-of_z fits in record { parts = cast_unsigned w32 number; is_made = to_z-of_z w32 number fits; fits = omega (arith, word) })

-- a truth value
truth_made : (byte : ℕ) → IsByte byte × IsTrue (nat_le byte 1) → (truth_text (byte == 1) ≡ byte_text byte) × Unit {0}
truth_made zero fits = (refl, tt)
truth_made (suc zero) fits = (refl, tt)
truth_made (suc (suc byte)) fits = absurd (grind (arith, nat_tests, fits.1))

truth_parts : (truth : Bool) → Unit {0} → MadeOf (λ byte. byte == 1) (λ byte. IsByte byte × IsTrue (nat_le byte 1)) truth
truth_parts false fits = record { parts = 0; is_made = refl; fits = (omega arith, refl) }
truth_parts true fits = record { parts = 1; is_made = refl; fits = (omega arith, refl) }

pub truth_meets : Meets truth_at truth_text (λ _. Unit {0})
unfolding truth_at
truth_meets = made_meets (λ byte. byte == 1) truth_text (λ _. Unit {0}) (ruled_meets (λ byte. nat_le byte 1) byte_meets) truth_made truth_parts

-- a number that may be absent
option_made : (number : ℕ) → IsLong number → (option_text (option_of number) ≡ long_text number) × IsLongOption (option_of number)
option_made zero fits = (refl, tt)
option_made (suc number) fits = let next : number + 1 ≡ suc number = omega arith in (ap long_text next, omega arith)

option_parts : (number : Option ℕ) → IsLongOption number → MadeOf option_of IsLong number
option_parts None fits = record { parts = 0; is_made = refl; fits = omega arith }
option_parts (Some number) fits = record { parts = suc number; is_made = refl; fits = omega (arith, fits) }

pub option_meets : Meets option_at option_text IsLongOption
unfolding option_at
option_meets = made_meets option_of option_text IsLongOption long_meets option_made option_parts

-- names
pub both : (a b : Bool) → IsTrue (a && b) → IsTrue a × IsTrue b
both true true holds = (refl, refl)
both true false holds = absurd cc
both false b holds = absurd cc

pub and : (a b : Bool) → IsTrue a → IsTrue b → IsTrue (a && b)
and a b first second = rw (first, second) refl

abbrev StandsInName : ℕ → ℕ → Type 0
StandsInName k byte = IsByte byte × IsTrue (stands_in_name k byte)

abbrev StandFrom : ℕ → List ℕ → Type 0
StandFrom k name = FitInTurn StandsInName (λ k _. k + 1) k name

all_stand : (k : ℕ) (text : List ℕ) → StandFrom k text → IsTrue (list_all is_name_byte text)
all_stand k [] stands = refl
all_stand k (byte ∷ text) stands = and (is_name_byte byte) (list_all is_name_byte text) (both (is_name_byte byte) (not (k == 0 && is_digit byte)) stands.0.1).0 (all_stand (k + 1) text stands.1)

is_byte : (byte : ℕ) → IsTrue (is_name_byte byte) → IsByte byte
is_byte byte holds = grind (arith, nat_tests, holds)

later_stand : (k : ℕ) (text : List ℕ) → 0 < k → IsTrue (list_all is_name_byte text) → StandFrom k text
later_stand k [] some all = tt
later_stand k (byte ∷ text) some all =
    let parts = both (is_name_byte byte) (list_all is_name_byte text) all in
    let not_first : (k == 0) ≡ false = grind (arith, nat_tests) in
    ((is_byte byte parts.0, and (is_name_byte byte) (not (k == 0 && is_digit byte)) parts.0 (rw not_first refl)), later_stand (k + 1) text (omega arith) parts.1)

abbrev IsNameSize : ℕ → Type 0
IsNameSize size = IsByte size × IsTrue (is_name_length size)

name-from_parts : (text : List ℕ) → IsNameSize (length text) × StandFrom 0 text → IsName text
name-from_parts [] fits = absurd (let no = fits.0.1 in cc)
name-from_parts (byte ∷ text) fits =
    let sizes = both (nat_lt 0 (suc (length text))) (nat_le (suc (length text)) 63) fits.0.1 in
    let first = both (is_name_byte byte) (not (is_digit byte)) fits.1.0.1 in
    rw (sizes.0, sizes.1, first.1) (all_stand 0 (byte ∷ text) fits.1)

parts-from_name : (text : List ℕ) → IsName text → IsNameSize (length text) × StandFrom 0 text
parts-from_name [] name = absurd cc
parts-from_name (byte ∷ text) name =
    let whole = both (nat_lt 0 (suc (length text)) && nat_le (suc (length text)) 63 && not (is_digit byte)) (list_all is_name_byte (byte ∷ text)) name in
    let front = both (nat_lt 0 (suc (length text)) && nat_le (suc (length text)) 63) (not (is_digit byte)) whole.0 in
    let sizes = both (nat_lt 0 (suc (length text))) (nat_le (suc (length text)) 63) front.0 in
    let bytes = both (is_name_byte byte) (list_all is_name_byte text) whole.1 in
    let few : suc (length text) ≤ 63 = grind (arith, nat_tests, sizes.1) in
    ((omega (arith, few), front.0), ((is_byte byte bytes.0, and (is_name_byte byte) (not (is_digit byte)) bytes.0 front.1), later_stand 1 text (omega arith) bytes.1))

itself : (text : List ℕ) → text ≡ flat_map byte_text text
itself [] = refl
itself (byte ∷ text) = ap (λ (rest : List ℕ). byte ∷ rest) (itself text) ∙ sym (flat_map-cons byte_text byte text)

name_bytes_meets : (count : ℕ) → Meets (name_bytes count) (λ text. text) (λ text. (length text ≡ count) × StandFrom 0 text)
unfolding name_bytes
name_bytes_meets count = text_as (λ text. text) (in_turn_meets {F = StandsInName} (λ k _. k + 1) (λ k. ruled_meets (stands_in_name k) byte_meets) count 0) itself

pub name_meets : Meets name_at name_text IsName
unfolding name_at
name_meets = fits_as IsName (counted name_bytes (λ text. text) length (λ text. StandFrom 0 text) (ruled_meets is_name_length byte_meets) name_bytes_meets) name-from_parts parts-from_name

-- the bytes of a name that were read are one
pub is_name-from_read : (bytes : List ℕ) (size : ℕ) (behind text rest : List ℕ) → IsBytes bytes → ruled is_name_length byte_at bytes ≡ Ok (size, behind) → name_bytes size behind ≡ Ok (text, rest) → IsName text
is_name-from_read bytes size behind text rest fits sized read =
    let s = (ruled_meets is_name_length byte_meets).takes bytes (size, behind) fits sized in
    let t = (name_bytes_meets size).takes behind (text, rest) s.rest_fits read in
    name-from_parts text (subst IsNameSize (sym t.fits.0) s.fits, t.fits.1)
