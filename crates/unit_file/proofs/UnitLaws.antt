-- Unit files: what is read is spelled so, and what is spelled so is read again.
use Rattle.std.proofs.Common.{◌≡◌, ℕ, ◌<◌, ◌≤◌, Bool, true, false, List, [], ◌∷◌, ◌++◌, length, Option, Some, None, Result, Ok, Err, refl, sym, ap, ◌∙◌, arith, append-nil}
use Rattle.std.specs.Prelude.{All, IsTrue, IfSome, IsSome, IfOk, nat_le, ◌==◌}
use Rattle.std.proofs.lemmas.Bool.{eqb-true}
use Rattle.std.proofs.lemmas.Bool.Decides.{nat_tests}
use Rattle.type_layout.specs.Words.{IsName}
use Rattle.object_file.specs.declared.object_unit.object.ObjectUnit.{ObjectUnit}
use Rattle.unit_interface.specs.declared.interfaces.Interface.{Interface}
use Rattle.object_file.specs.file_parts.Spelling.{word_text, long_text, truth_text, name_text, option_text, list_text, FitEach, IsLong, IsLongOption}
use Rattle.object_file.proofs.file_parts.Laws.{IsBytes, Meets, MadeOf, fits_as, ruled_meets, followed_meets, then_meets, made_meets, record_meets, spelled_once}
use Rattle.object_file.proofs.file_parts.PartLaws.{byte_text, IsByte, IsWord, byte_meets, word_meets, long_meets}
use Rattle.object_file.proofs.file_parts.ValueLaws.{both, and, truth_meets, option_meets, name_meets}
use Rattle.unit_file.proofs.type_file.HeaderLaws.{list_of_meets}
use Rattle.object_file.specs.Text.{object_text, IsObjectUnit}
use Rattle.object_file.proofs.ObjectLaws.{object_meets}
use Rattle.unit_file.specs.interface_file.Text.{interface_text, IsInterface}
use Rattle.unit_file.proofs.interface_file.ItemLaws.{interface_meets}
use Rattle.unit_file.specs.declared.error.UnitFileError.{UnitFileError}
use Rattle.unit_file.specs.declared.tail.Tail.{Tail}
use Rattle.unit_file.specs.declared.unit.UnitRecord.{UnitRecord}
use Rattle.unit_file.specs.Format.{front, tail_text, spelling, IsNumbered, IsUnit}
use Rattle.unit_file.specs.Reading.{letter, is_version, version_of, front_at, is_stack, is_heap, globals_asked, routines_asked, most, is_start, code_at, tail_of, tail_at, unit_of, unit_at, whole, reading, Gives}
use Rattle.unit_file.proofs.AskedLaws.{numbered-from_counts, counts-from_numbered}

-- the letters and the version
abbrev IsLetter : ℕ → ℕ → Type 0
IsLetter code byte = IsByte byte × IsTrue (byte == code)

letter_meets : (code : ℕ) → Meets (letter code) byte_text (IsLetter code)
letter_meets code = ruled_meets (λ (byte : ℕ). byte == code) byte_meets

abbrev Front : Type 0
Front = ℕ × (ℕ × (ℕ × (ℕ × ℕ)))

-- the versions that there are
record IsVersion (version : ℕ) : Type 0 where
  least : 1 ≤ version
  most : version ≤ 2

version_to : (version : ℕ) → IsTrue (is_version version) → IsVersion version
version_to version holds =
    let parts = both (nat_le 1 version) (nat_le version 2) holds in
    record { least = grind (arith, nat_tests, parts.0); most = grind (arith, nat_tests, parts.1) }

version_from : (version : ℕ) → IsVersion version → IsTrue (is_version version)
version_from version fits =
    let least : IsTrue (nat_le 1 version) = grind (arith, nat_tests, fits.least) in
    let greatest : IsTrue (nat_le version 2) = grind (arith, nat_tests, fits.most) in
    and (nat_le 1 version) (nat_le version 2) least greatest

abbrev FitsFront : Front → Type 0
FitsFront parts = IsLetter 0x54 parts.0 × (IsLetter 0x50 parts.1.0 × (IsLetter 0x57 parts.1.1.0 × (IsLetter 0x31 parts.1.1.1.0 × (IsWord parts.1.1.1.1 × IsTrue (is_version parts.1.1.1.1)))))

abbrev front_text : Front → List ℕ
front_text parts = byte_text parts.0 ++ (byte_text parts.1.0 ++ (byte_text parts.1.1.0 ++ (byte_text parts.1.1.1.0 ++ word_text parts.1.1.1.1)))

front_made : (parts : Front) → FitsFront parts → (front (version_of parts) ≡ front_text parts) × IsVersion (version_of parts)
front_made parts fits =
    let t = eqb-true parts.0 0x54 fits.0.1 in
    let p = eqb-true parts.1.0 0x50 fits.1.0.1 in
    let w = eqb-true parts.1.1.0 0x57 fits.1.1.0.1 in
    let one = eqb-true parts.1.1.1.0 0x31 fits.1.1.1.0.1 in
    (rw (t, p, w, one) refl, version_to parts.1.1.1.1 fits.1.1.1.1.1)

front_parts : (version : ℕ) → IsVersion version → MadeOf version_of FitsFront version
front_parts version fits = record {
  parts = (0x54, (0x50, (0x57, (0x31, version))));
  is_made = refl;
  fits = ((omega arith, refl), ((omega arith, refl), ((omega arith, refl), ((omega arith, refl), (omega (arith, fits.most), version_from version fits)))));
}

front_meets : Meets front_at front IsVersion
unfolding front_at
front_meets =
    made_meets version_of front IsVersion
    (then_meets (letter_meets 0x54) (then_meets (letter_meets 0x50) (then_meets (letter_meets 0x57) (then_meets (letter_meets 0x31) (ruled_meets is_version word_meets)))))
    front_made front_parts

-- the object unit and the start
record IsStarted (program : Bool) (object : ObjectUnit) (start : Option ℕ) : Type 0 where
  within : IfSome start (λ number. number < length object.routines)
  started : program ≡ true → IsSome start

started_to : (program : Bool) (object : ObjectUnit) (start : Option ℕ) → IsTrue (is_start program object start) → IsStarted program object start
started_to true object None holds = absurd cc
started_to false object None holds = record { within = tt; started = λ h. absurd cc }
started_to program object (Some number) holds = record { within = grind (arith, nat_tests, holds); started = λ h. refl }

started_from : (program : Bool) (object : ObjectUnit) (start : Option ℕ) → IsStarted program object start → IsTrue (is_start program object start)
started_from true object None fits = absurd (let none = fits.started refl in cc)
started_from false object None fits = refl
started_from program object (Some number) fits = let within = fits.within in grind (arith, nat_tests, within)

long_start : (object : ObjectUnit) (start : Option ℕ) → IsLong (length object.routines) → IfSome start (λ number. number < length object.routines) → IsLongOption start
long_start object None few within = tt
long_start object (Some number) few within = omega (arith, few, within)

record IsCode (program : Bool) (interface : Interface) (parts : ObjectUnit × Option ℕ) : Type 0 where
  object : IsObjectUnit parts.0
  numbered : All (IsNumbered parts.0) interface.items
  start : IsStarted program parts.0 parts.1

code_meets : (program : Bool) (interface : Interface) → Meets (code_at program interface) (λ parts. object_text parts.0 ++ option_text parts.1) (IsCode program interface)
unfolding code_at
code_meets program interface =
    fits_as (IsCode program interface)
    (followed_meets (object_meets (most globals_asked interface.items) (most routines_asked interface.items)) (λ object. ruled_meets (is_start program object) option_meets))
    (λ parts fits. record { object = fits.0.object_unit; numbered = numbered-from_counts parts.0 interface.items fits.0.globals_count fits.0.routines_count; start = started_to program parts.0 parts.1 fits.1.1 })
    (λ parts fits.
    let counts = counts-from_numbered parts.0 interface.items fits.numbered in (
      record { object_unit = fits.object; globals_count = counts.0; routines_count = counts.1 },
      (long_start parts.0 parts.1 fits.object.routines.0 fits.start.within, started_from program parts.0 parts.1 fits.start),
    ))

-- what stands behind the interface
record IsTail (program : Bool) (interface : Interface) (tail : Tail) : Type 0 where
  overlaid : IsLong (length tail.overlaid)
  each_overlaid : FitEach IsName tail.overlaid
  stack_least : 1024 ≤ tail.stack
  stack_most : tail.stack ≤ 65520
  heap : tail.heap ≤ 196608
  imports : IsLong (length tail.imports)
  each_import : FitEach IsInterface tail.imports
  code : IsCode program interface (tail.object, tail.start)

text_of_tail : Tail → List ℕ
text_of_tail tail =
    list_text name_text tail.overlaid ++ (long_text tail.stack ++ (long_text tail.heap ++ (list_text interface_text tail.imports ++ (object_text tail.object ++ option_text tail.start))))

tail_meets : (program : Bool) (interface : Interface) → Meets (tail_at program interface) text_of_tail (IsTail program interface)
unfolding tail_at text_of_tail
tail_meets program interface =
    fits_as (IsTail program interface)
    (record_meets tail_of (λ tail. (tail.overlaid, (tail.stack, (tail.heap, (tail.imports, (tail.object, tail.start)))))) (λ tail. refl) (λ parts. refl)
    (then_meets (list_of_meets name_meets) (then_meets (ruled_meets is_stack long_meets) (then_meets (ruled_meets is_heap long_meets) (then_meets (list_of_meets interface_meets) (code_meets program interface))))))
    (λ tail fits.
    let stack = both (nat_le 1024 tail.stack) (nat_le tail.stack 65520) fits.1.0.1 in
    record {
      overlaid = fits.0.0;
      each_overlaid = fits.0.1;
      stack_least = grind (arith, nat_tests, stack.0);
      stack_most = grind (arith, nat_tests, stack.1);
      heap = grind (arith, nat_tests, fits.1.1.0.1);
      imports = fits.1.1.1.0.0;
      each_import = fits.1.1.1.0.1;
      code = fits.1.1.1.1;
    })
    (λ tail fits.
    let least : IsTrue (nat_le 1024 tail.stack) = grind (arith, nat_tests, fits.stack_least) in
    let greatest : IsTrue (nat_le tail.stack 65520) = grind (arith, nat_tests, fits.stack_most) in
    let heap : IsTrue (nat_le tail.heap 196608) = grind (arith, nat_tests, fits.heap) in (
      (fits.overlaid, fits.each_overlaid),
      ((omega (arith, fits.stack_most), and (nat_le 1024 tail.stack) (nat_le tail.stack 65520) least greatest), ((omega (arith, fits.heap), heap), ((fits.imports, fits.each_import), fits.code))),
    ))

-- the unit
abbrev Parts : Type 0
Parts = ℕ × (Bool × (Bool × (Interface × Tail)))

abbrev FitsParts : Parts → Type 0
FitsParts parts = IsVersion parts.0 × (Unit {0} × (Unit {0} × (IsInterface parts.1.1.1.0 × IsTail parts.1.0 parts.1.1.1.0 parts.1.1.1.1)))

abbrev parts_text : Parts → List ℕ
parts_text parts = front parts.0 ++ (truth_text parts.1.0 ++ (truth_text parts.1.1.0 ++ (interface_text parts.1.1.1.0 ++ text_of_tail parts.1.1.1.1)))

unit_made : (parts : Parts) → FitsParts parts → (spelling (unit_of parts) ≡ parts_text parts) × IsUnit (unit_of parts)
unfolding spelling tail_text text_of_tail
unit_made parts fits =
    let tail = fits.1.1.1.1 in (
      refl,
      record {
        version_least = fits.0.least;
        version_most = fits.0.most;
        name = refl;
        interface = fits.1.1.1.0;
        overlaid = tail.overlaid;
        each_overlaid = tail.each_overlaid;
        stack_least = tail.stack_least;
        stack_most = tail.stack_most;
        heap = tail.heap;
        imports = tail.imports;
        each_import = tail.each_import;
        object = tail.code.object;
        numbered = tail.code.numbered;
        start = tail.code.start.within;
        started = tail.code.start.started;
      },
    )

abbrev parts_of : UnitRecord → Parts
parts_of unit =
    (unit.version, (unit.program, (unit.overlayable, (unit.interface, record { overlaid = unit.overlaid; stack = unit.stack; heap = unit.heap; imports = unit.imports; object = unit.object; start = unit.start }))))

named : UnitRecord → List ℕ → UnitRecord
named unit name = record {
  version = unit.version;
  name = name;
  program = unit.program;
  overlayable = unit.overlayable;
  interface = unit.interface;
  overlaid = unit.overlaid;
  stack = unit.stack;
  heap = unit.heap;
  imports = unit.imports;
  object = unit.object;
  start = unit.start;
}

unit_parts : (unit : UnitRecord) → IsUnit unit → MadeOf unit_of FitsParts unit
unfolding named
unit_parts unit fits = record {
  parts = parts_of unit;
  is_made = ap (named unit) (sym fits.name);
  fits = (
    record { least = fits.version_least; most = fits.version_most },
    (
      tt,
      (
        tt,
        (
          fits.interface,
          record {
            overlaid = fits.overlaid;
            each_overlaid = fits.each_overlaid;
            stack_least = fits.stack_least;
            stack_most = fits.stack_most;
            heap = fits.heap;
            imports = fits.imports;
            each_import = fits.each_import;
            code = record { object = fits.object; numbered = fits.numbered; start = record { within = fits.start; started = fits.started } };
          },
        ),
      ),
    ),
  );
}

unit_meets : Meets unit_at spelling IsUnit
unfolding unit_at
unit_meets =
    made_meets unit_of spelling IsUnit
    (then_meets front_meets (followed_meets truth_meets (λ program. then_meets truth_meets (followed_meets interface_meets (λ interface. tail_meets program interface)))))
    unit_made unit_parts

-- the whole file
whole_ok : (size : ℕ) (r : Result (UnitRecord × List ℕ) ℕ) (unit : UnitRecord) → whole size r ≡ Ok unit → r ≡ Ok (unit, [])
whole_ok size (Ok (read, [])) unit is = cc
whole_ok size (Ok (read, byte ∷ rest)) unit is = absurd cc
whole_ok size (Err left) unit is = absurd cc

pub unit-found : (bytes : List ℕ) (r : Result UnitRecord UnitFileError) → IsBytes bytes → Gives r (reading bytes) → IfOk r (λ unit. IsUnit unit × (bytes ≡ spelling unit))
unfolding reading
unit-found bytes (Ok unit) fits given =
    let t = unit_meets.takes bytes (unit, []) fits (whole_ok (length bytes) (unit_at bytes) unit given) in
    (t.fits, t.parts ∙ append-nil (spelling unit))
unit-found bytes (Err e) fits given = tt

pub unit-read : (unit : UnitRecord) → IsUnit unit → reading (spelling unit) ≡ Ok unit
unfolding reading
unit-read unit fits =
    ap (λ (text : List ℕ). whole (length (spelling unit)) (unit_at text)) (sym (append-nil (spelling unit))) ∙ ap (whole (length (spelling unit))) (unit_meets.again unit [] fits)

pub one_spelling-law : (unit other : UnitRecord) (x y : List ℕ) → IsUnit unit → IsUnit other → spelling unit ++ x ≡ spelling other ++ y → unit ≡ other
one_spelling-law unit other x y fits fits_too same = spelled_once unit_meets unit other x y fits fits_too same

-- what can be written
pub start-long : (unit : UnitRecord) → IsUnit unit → IsLongOption unit.start
start-long unit fits = long_start unit.object unit.start fits.object.routines.0 fits.start
