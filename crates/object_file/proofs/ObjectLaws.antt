-- What is read of an object unit is spelled so, and what is spelled so is read again.
use Rattle.std.proofs.Common.{◌≡◌, ℕ, zero, suc, ◌+◌, List, [], ◌∷◌, ◌++◌, length, Result, Ok, Err, refl, arith, Bor}
use Rattle.std.specs.Prelude.{IsTrue, IfOk, nat_lt, nat_le}
use Rattle.std.proofs.lemmas.Bool.Decides.{nat_tests}
use Rattle.object_file.specs.declared.object_unit.object.RefKind.{RefKind}
use Rattle.object_file.specs.declared.object_unit.object.RefKind.TheVariants.{FarRoutine, NearRoutine, DataOffset, DataSegment, Vmt, Runtime}
use Rattle.object_file.specs.declared.object_unit.object.ObjectUnit.{ObjectUnit}
use Rattle.object_file.specs.object_unit.Widths.{width_of}
use Rattle.object_file.specs.declared.file_parts.error.PartError.{PartError}
use Rattle.object_file.specs.file_parts.Spelling.{list_text, IsLong}
use Rattle.object_file.specs.file_parts.Parts.{any, Gives}
use Rattle.object_file.proofs.file_parts.Laws.{IsBytes, Meets, MadeOf, fits_as, ruled_meets, followed_meets, then_meets, made_meets, record_meets, spelled_once}
use Rattle.object_file.proofs.file_parts.PartLaws.{byte_text, IsByte, byte_meets, long_meets, bytes_meets, list_meets}
use Rattle.object_file.proofs.file_parts.ValueLaws.{both, and, truth_meets, name_meets}
use Rattle.object_file.specs.Text.{kind_number, ref_text, datum_text, code_text, object_text, ref_end, room_behind, IsRef, AreRefs, IsDatum, IsCode, AreData, AreCodes, IsObjectUnit, IsObjectFor}
use Rattle.object_file.specs.Reading.{kind_of, kind_at, ref_of, ref_at, refs_at, datum_of, is_first_count, datum_at, code_of, is_code_count, code_at, data_at, codes_at, object_of, object_at}

kind_made : (number : ℕ) → IsByte number × IsTrue (nat_lt number 6) → (kind_number (kind_of number) ∷ [] ≡ byte_text number) × Unit {0}
kind_made zero fits = (refl, tt)
kind_made (suc zero) fits = (refl, tt)
kind_made (suc (suc zero)) fits = (refl, tt)
kind_made (suc (suc (suc zero))) fits = (refl, tt)
kind_made (suc (suc (suc (suc zero)))) fits = (refl, tt)
kind_made (suc (suc (suc (suc (suc zero))))) fits = (refl, tt)
kind_made (suc (suc (suc (suc (suc (suc number)))))) fits = absurd (grind (arith, nat_tests, fits.1))

kind_parts : (kind : RefKind) → Unit {0} → MadeOf kind_of (λ number. IsByte number × IsTrue (nat_lt number 6)) kind
kind_parts FarRoutine fits = record { parts = 0; is_made = refl; fits = (omega arith, refl) }
kind_parts NearRoutine fits = record { parts = 1; is_made = refl; fits = (omega arith, refl) }
kind_parts DataOffset fits = record { parts = 2; is_made = refl; fits = (omega arith, refl) }
kind_parts DataSegment fits = record { parts = 3; is_made = refl; fits = (omega arith, refl) }
kind_parts Vmt fits = record { parts = 4; is_made = refl; fits = (omega arith, refl) }
kind_parts Runtime fits = record { parts = 5; is_made = refl; fits = (omega arith, refl) }

kind_meets : Meets kind_at (λ kind. kind_number kind ∷ []) (λ _. Unit {0})
unfolding kind_at
kind_meets = made_meets kind_of (λ kind. kind_number kind ∷ []) (λ _. Unit {0}) (ruled_meets (λ (number : ℕ). nat_lt number 6) byte_meets) kind_made kind_parts

ref_meets : (size least : ℕ) → Meets (ref_at size least) ref_text (IsRef size least)
unfolding ref_at ref_text
ref_meets size least =
    fits_as (IsRef size least)
    (record_meets ref_of (λ one. (one.offset, (one.kind, (one.unit, one.number)))) (λ one. refl) (λ parts. refl)
    (followed_meets (ruled_meets (λ (offset : ℕ). nat_le least offset) long_meets) (λ offset. then_meets (ruled_meets (λ (kind : RefKind). nat_le (offset + width_of kind) size) kind_meets) (then_meets name_meets long_meets))))
    (λ one fits. record { behind = grind (arith, nat_tests, fits.0.1); inside = grind (arith, nat_tests, fits.1.0.1); unit = fits.1.1.0; offset = fits.0.0; number = fits.1.1.1 })
    (λ one fits. ((fits.offset, grind (arith, nat_tests, fits.behind)), ((tt, grind (arith, nat_tests, fits.inside)), (fits.unit, fits.number))))

refs_meets : (size : ℕ) → Meets (refs_at size) (list_text ref_text) (AreRefs size)
unfolding refs_at
refs_meets size = fits_as (AreRefs size) (list_meets any (λ _ one. ref_end one) 0 (ref_meets size)) (λ refs fits. (fits.0.0, fits.1)) (λ refs fits. ((fits.0, refl), fits.1))

first_is_long : (size count : ℕ) → IsLong size → IsTrue (is_first_count size count) → IsLong count
first_is_long size count long holds = grind (arith, nat_tests, holds, long)

datum_meets : Meets datum_at datum_text IsDatum
unfolding datum_at datum_text
datum_meets =
    fits_as IsDatum
    (record_meets datum_of (λ datum. (datum.size, (datum.first, datum.refs))) (λ datum. refl) (λ parts. refl)
    (followed_meets long_meets (λ size. followed_meets (bytes_meets (is_first_count size)) (λ first. refs_meets (length first)))))
    (λ datum fits. record { size = fits.0; first = fits.1.0.1; refs = fits.1.1 })
    (λ datum fits. (fits.size, ((first_is_long datum.size (length datum.first) fits.size fits.first, fits.first), fits.refs)))

code_meets : (room : ℕ) → Meets (code_at room) code_text (IsCode room)
unfolding code_at code_text
code_meets room =
    fits_as (IsCode room)
    (record_meets code_of (λ routine. (routine.name, (routine.far, (routine.frame, (routine.code, routine.refs))))) (λ routine. refl) (λ parts. refl)
    (then_meets name_meets (then_meets truth_meets (then_meets long_meets (followed_meets (bytes_meets (is_code_count room)) (λ code. refs_meets (length code)))))))
    (λ routine fits.
    let sizes = both (nat_le 6 (length routine.code)) (nat_le (length routine.code) room) fits.1.1.1.0.1 in
    record { name = fits.0; frame = fits.1.1.0; count = fits.1.1.1.0.0; some = grind (arith, nat_tests, sizes.0); few = grind (arith, nat_tests, sizes.1); refs = fits.1.1.1.1 })
    (λ routine fits.
    let some : IsTrue (nat_le 6 (length routine.code)) = grind (arith, nat_tests, fits.some) in
    let few : IsTrue (nat_le (length routine.code) room) = grind (arith, nat_tests, fits.few) in
    (fits.name, (tt, (fits.frame, ((fits.count, and (nat_le 6 (length routine.code)) (nat_le (length routine.code) room) some few), fits.refs)))))

data_meets : (least : ℕ) → Meets (data_at least) (list_text datum_text) (λ data_list. AreData data_list × IsTrue (nat_le least (length data_list)))
unfolding data_at
data_meets least =
    fits_as (λ data_list. AreData data_list × IsTrue (nat_le least (length data_list))) (list_meets (λ count. nat_le least count) (λ (state : Unit {0}) _. state) tt (λ _. datum_meets))
    (λ data_list fits. ((fits.0.0, fits.1), fits.0.1)) (λ data_list fits. ((fits.0.0, fits.1), fits.0.1))

codes_meets : (least : ℕ) → Meets (codes_at least) (list_text code_text) (λ routines. AreCodes routines × IsTrue (nat_le least (length routines)))
unfolding codes_at
codes_meets least =
    fits_as (λ routines. AreCodes routines × IsTrue (nat_le least (length routines))) (list_meets (λ count. nat_le least count) room_behind 65520 code_meets)
    (λ routines fits. ((fits.0.0, fits.1), fits.0.1)) (λ routines fits. ((fits.0.0, fits.1), fits.0.1))

pub object_meets : (globals routines : ℕ) → Meets (object_at globals routines) object_text (IsObjectFor globals routines)
unfolding object_at object_text
object_meets globals routines =
    fits_as (IsObjectFor globals routines)
    (record_meets object_of (λ object. (object.globals, (object.vmts, object.routines))) (λ object. refl) (λ parts. refl)
    (then_meets (data_meets globals) (then_meets (data_meets 0) (codes_meets routines))))
    (λ object fits. record { object_unit = record { globals = fits.0.0; vmts = fits.1.0.0; routines = fits.1.1.0 }; globals_count = grind (arith, nat_tests, fits.0.1); routines_count = grind (arith, nat_tests, fits.1.1.1) })
    (λ object fits.
    let enough : IsTrue (nat_le globals (length object.globals)) = grind (arith, nat_tests, fits.globals_count) in
    let enough_too : IsTrue (nat_le routines (length object.routines)) = grind (arith, nat_tests, fits.routines_count) in
    let none : IsTrue (nat_le 0 (length object.vmts)) = grind (arith, nat_tests) in
    ((fits.object_unit.globals, enough), ((fits.object_unit.vmts, none), (fits.object_unit.routines, enough_too))))

-- what a function read
pub object-found : (globals routines : ℕ) (bytes : List ℕ) (r : Result (ObjectUnit × Bor (List ℕ)) PartError) → IsBytes bytes → Gives (λ (x : ObjectUnit × Bor (List ℕ)). (x.0, x.1.now)) r (object_at globals routines bytes)
    → IfOk r (λ x. IsObjectFor globals routines x.0 × (bytes ≡ object_text x.0 ++ x.1.now))
object-found globals routines bytes (Ok x) fits given = let t = (object_meets globals routines).takes bytes (x.0, x.1.now) fits given in (t.fits, t.parts)
object-found globals routines bytes (Err e) fits given = tt

as_asked : (object : ObjectUnit) → IsObjectUnit object → IsObjectFor 0 0 object
as_asked object fits = record { object_unit = fits; globals_count = omega arith; routines_count = omega arith }

pub one_spelling-law : (object other : ObjectUnit) (x y : List ℕ) → IsObjectUnit object → IsObjectUnit other → object_text object ++ x ≡ object_text other ++ y → object ≡ other
one_spelling-law object other x y fits fits_too same = spelled_once (object_meets 0 0) object other x y (as_asked object fits) (as_asked other fits_too) same
