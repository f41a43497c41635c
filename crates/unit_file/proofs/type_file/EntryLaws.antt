-- Tables of types: what is read is spelled so, and what is spelled so is read again.
use Rattle.std.proofs.Common.{◌≡◌, ℕ, suc, ◌+◌, ◌<◌, ◌≤◌, Bool, true, false, cond, List, [], ◌∷◌, ◌++◌, length, get_or, Option, Some, None, Result, Ok, Err, refl, sym, ap, subst, ◌∙◌, arith, append_assoc, append-nil, length-append, Bor}
use Rattle.std.specs.Prelude.{All, IfOk, nat_lt, position}
use Rattle.std.specs.List.{flat_map, AllByRecursion}
use Rattle.std.specs.Cmp.Lexicographic.{bytes_decides}
use Rattle.std.proofs.Math.Seq.{get_or-append_seam}
use Rattle.std.proofs.lemmas.Bool.Decides.{nat_tests}
use Rattle.std.proofs.lemmas.List.{get_or_append_left}
use Rattle.std.proofs.lemmas.List.Elements.{All-push, All-weaker, All-from_recursion}
use Rattle.std.proofs.lemmas.List.Quantifiers.{position-Some}
use Rattle.type_layout.specs.declared.definitions.Field.{Field}
use Rattle.type_layout.specs.declared.definitions.TypeDef.{TypeDef}
use Rattle.type_layout.specs.declared.definitions.TypeDef.TheVariants.{Ordinal, Str, SetOf, ArrayOf, RecordOf, PointerTo, ObjectOf, Procedural}
use Rattle.type_layout.specs.declared.definitions.Origin.{Origin}
use Rattle.type_layout.specs.Words.{same_bytes, IsName}
use Rattle.type_layout.specs.Table.{Table, IsDefinedOver, HasMethodsOf, IsAddable, place_of, with_unit}
use Rattle.type_layout.specs.Layouts.{size_over}
use Rattle.object_file.specs.file_parts.Spelling.{FitInTurn, FitEach, IsLong}
use Rattle.object_file.specs.declared.file_parts.error.PartError.{PartError}
use Rattle.object_file.specs.file_parts.Parts.{Reader, ◌>>=◌, ◌▷◌, made, followed, long_at, name_at, Gives}
use Rattle.object_file.proofs.file_parts.Laws.{IsBytes, Takes, Meets, MadeOf, bind_ok, fits_as, followed_meets, then_meets, made_meets, record_meets}
use Rattle.object_file.proofs.file_parts.PartLaws.{long_meets, in_turn_meets, counted}
use Rattle.object_file.proofs.file_parts.ValueLaws.{name_meets}
use Rattle.unit_file.specs.declared.type_file.entry.TypeEntry.{TypeEntry}
use Rattle.unit_file.specs.type_file.Text.{entry_with, entry_text, entries_from, entries_of, empty_table, with_entry, table_of, types_text, IsField, IsMethod, AreFields, IsType, IsEntry, AreTypes}
use Rattle.unit_file.specs.type_file.Reading.{type_at, entry_of, entry_at, entries_at, types_at}
use Rattle.unit_file.proofs.type_file.TypeLaws.{type_meets}

-- the entries of a table that entries made

entries_from-more : (units more : List (List ℕ)) (types : List TypeDef) (origins : List Origin)
    → All (λ (origin : Origin). origin.unit < length units) origins → entries_from (units ++ more) types origins ≡ entries_from units types origins
entries_from-more units more [] origins known = refl
entries_from-more units more (one ∷ types) [] known = refl
entries_from-more units more (one ∷ types) (origin ∷ origins) known =
    let name : get_or (units ++ more) origin.unit [] ≡ get_or units origin.unit [] = get_or_append_left units more [] origin.unit (known 0 origin (omega arith)) in
    let rest : All (λ (o : Origin). o.unit < length units) origins = λ k d h. known (suc k) d (omega arith) in
    rw (name, entries_from-more units more types origins rest) refl

abbrev entry_in : List (List ℕ) → TypeDef → Origin → TypeEntry
entry_in units one origin = entry_with (get_or units origin.unit []) origin.number one

entries_from-push : (units : List (List ℕ)) (types : List TypeDef) (origins : List Origin) (one : TypeDef) (origin : Origin)
    → length origins ≡ length types
    → entries_from units (types ++ one ∷ []) (origins ++ origin ∷ []) ≡ entries_from units types origins ++ entry_in units one origin ∷ []
entries_from-push units [] [] one origin paired = refl
entries_from-push units [] (o ∷ origins) one origin paired = absurd (omega arith)
entries_from-push units (t ∷ types) [] one origin paired = absurd (omega arith)
entries_from-push units (t ∷ types) (o ∷ origins) one origin paired =
    ap (λ (rest : List TypeEntry). entry_in units t o ∷ rest) (entries_from-push units types origins one origin (omega arith))

-- the units after one was found or added
record IsPlaced (units : List (List ℕ)) (unit : List ℕ) : Type 0 where
  more : List (List ℕ)
  grows : with_unit units unit ≡ units ++ more
  within : place_of units unit < length (with_unit units unit)
  named : get_or (with_unit units unit) (place_of units unit) [] ≡ unit

placed : (units : List (List ℕ)) (unit : List ℕ) → IsPlaced units unit
placed units unit = by (position (same_bytes unit) units) refl
  where
    by : (o : Option ℕ) → position (same_bytes unit) units ≡ o → IsPlaced units unit
    by None e = record {
      more = unit ∷ [];
      grows = rw e refl;
      within = rw e (omega (arith, length-append units (unit ∷ [])));
      named = rw e (get_or-append_seam units unit [] []);
    }
    by (Some i) e =
        let found = position-Some (same_bytes unit) units i [] e in
        record {
          more = [];
          grows = rw e (sym (append-nil units));
          within = rw e found.0;
          named = rw e (sym ((bytes_decides unit (get_or units i [])).0 found.1));
        }

-- a table whose origins name its units
record IsPaired (table : Table) : Type 0 where
  paired : length table.origins ≡ length table.types
  known : All (λ (origin : Origin). origin.unit < length table.units) table.origins

paired-with_entry : (table : Table) (entry : TypeEntry) → IsPaired table → IsPaired (with_entry table entry)
paired-with_entry table entry h =
    let p = placed table.units entry.origin in
    let o : Origin = record { unit = place_of table.units entry.origin; number = entry.number } in
    let more : length table.units ≤ length (with_unit table.units entry.origin) = omega (arith, ap length p.grows, length-append table.units p.more) in
    record {
      paired = omega (arith, h.paired, length-append table.origins (o ∷ []), length-append table.types (entry.one ∷ []));
      known = All-push (λ (x : Origin). x.unit < length (with_unit table.units entry.origin)) table.origins o
          (All-weaker (λ (x : Origin). x.unit < length table.units) (λ (x : Origin). x.unit < length (with_unit table.units entry.origin))
          (λ x k. omega (arith, more)) table.origins h.known)
          p.within;
    }

entries-with_entry : (table : Table) (entry : TypeEntry) → IsPaired table → entries_of (with_entry table entry) ≡ entries_of table ++ entry ∷ []
entries-with_entry table entry h =
    let p = placed table.units entry.origin in
    let o : Origin = record { unit = place_of table.units entry.origin; number = entry.number } in
    let pushed = entries_from-push (with_unit table.units entry.origin) table.types table.origins entry.one o h.paired in
    let more : entries_from (with_unit table.units entry.origin) table.types table.origins ≡ entries_from table.units table.types table.origins =
    rw p.grows (entries_from-more table.units p.more table.types table.origins h.known) in
    pushed ∙ ap (λ (l : List TypeEntry). l ++ entry_in (with_unit table.units entry.origin) entry.one o ∷ []) more
    ∙ ap (λ (n : List ℕ). entries_of table ++ entry_with n entry.number entry.one ∷ []) p.named

entries-table_of : (table : Table) (entries : List TypeEntry) → IsPaired table → entries_of (table_of table entries) ≡ entries_of table ++ entries
entries-table_of table [] h = sym (append-nil (entries_of table))
entries-table_of table (entry ∷ entries) h =
    entries-table_of (with_entry table entry) entries (paired-with_entry table entry h)
    ∙ ap (λ (front : List TypeEntry). front ++ entries) (entries-with_entry table entry h) ∙ append_assoc (entries_of table) (entry ∷ []) entries

empty_paired : IsPaired empty_table
empty_paired = record { paired = refl; known = λ k d h. absurd (omega arith) }

entries_back : (entries : List TypeEntry) → entries_of (table_of empty_table entries) ≡ entries
entries_back entries = entries-table_of empty_table entries empty_paired

count_of-table_of : (table : Table) (entries : List TypeEntry) → length (table_of table entries).types ≡ length table.types + length entries
count_of-table_of table [] = omega arith
count_of-table_of table (entry ∷ entries) = omega (arith, count_of-table_of (with_entry table entry) entries, length-append table.types (entry.one ∷ []))

-- an entry

guard_ok : {A : Type 0} (b : Bool) (left : ℕ) (x y : A) → cond b (Err left) (Ok x) ≡ Ok y → (b ≡ false) × (x ≡ y)
guard_ok true left x y same = absurd cc
guard_ok false left x y same = (refl, cc)

guard_again : {A : Type 0} (b : Bool) (left : ℕ) (x : A) → b ≡ false → cond b (Err left) (Ok x) ≡ (let done : Result A ℕ = Ok x in done)
guard_again b left x holds = rw holds refl

limited_meets : {A : Type 0} {read : Reader A} {text : A → List ℕ} {F : A → Type 0} (passes : A → Bool) → Meets read text F
    → Meets (λ bytes. read bytes >>= λ x. cond (passes x.0) (Err (length x.1 + 4)) (Ok x)) text (λ a. F a × (passes a ≡ false))
limited_meets {A = A} {read = read} {text = text} {F = F} passes meets = record {
  takes = λ bytes x fits e.
      let b = bind_ok (read bytes) (λ x. cond (passes x.0) (Err (length x.1 + 4)) (Ok x)) x e in
      let g = guard_ok (passes b.0.0) (length b.0.1 + 4) b.0 x b.2 in
      let t = meets.takes bytes b.0 fits b.1 in
      subst (λ (y : A × List ℕ). Takes text (λ a. F a × (passes a ≡ false)) bytes y) g.1 (record { parts = t.parts; rest_fits = t.rest_fits; fits = (t.fits, g.0) });
  again = λ a rest fits.
      ap (λ r. r >>= λ x. cond (passes x.0) (Err (length x.1 + 4)) (Ok x)) (meets.again a rest fits.0) ∙ guard_again (passes a) (length rest + 4) (a, rest) fits.1;
}

abbrev passes_limit : Table → TypeEntry → Bool
passes_limit table entry = nat_lt 65520 (size_over table.types entry.one)

abbrev FitsParts : ℕ → Table → TypeEntry → Type 0
FitsParts count table entry = IsName entry.origin × (IsLong entry.number × IsType count table.types (place_of table.units entry.origin) entry.one)

parts_of_entry_meet : (count : ℕ) (table : Table) → Meets (made entry_of (followed name_at (λ origin. long_at ▷ type_at count table.types (place_of table.units origin)))) entry_text (FitsParts count table)
unfolding entry_text
parts_of_entry_meet count table =
    record_meets entry_of (λ entry. (entry.origin, (entry.number, entry.one))) (λ entry. refl) (λ parts. refl)
    (followed_meets name_meets (λ origin. then_meets long_meets (type_meets count table.types (place_of table.units origin))))

pub entry_meets : (count : ℕ) (table : Table) → Meets (entry_at count table) entry_text (IsEntry count table)
unfolding entry_at
entry_meets count table =
    fits_as (IsEntry count table) (limited_meets (passes_limit table) (parts_of_entry_meet count table))
    (λ entry fits. record { origin = fits.0.0; number = fits.0.1.0; sound = fits.0.1.1; limit = grind (arith, nat_tests, fits.1) })
    (λ entry fits. ((fits.origin, (fits.number, fits.sound)), grind (arith, nat_tests, fits.limit)))

-- a table

abbrev FitsTable : Table → Type 0
FitsTable table = FitInTurn (IsEntry (length (entries_of table))) with_entry empty_table (entries_of table) × (table ≡ table_of empty_table (entries_of table))

abbrev FitsEntries : ℕ → List TypeEntry → Type 0
FitsEntries count entries = (length entries ≡ count) × FitInTurn (IsEntry count) with_entry empty_table entries

entries_meet : (count : ℕ) → Meets (entries_at count count empty_table) (flat_map entry_text) (FitsEntries count)
unfolding entries_at
entries_meet count = in_turn_meets with_entry (entry_meets count) count empty_table

table_to : (count : ℕ) (entries : List TypeEntry) → FitsEntries count entries
    → (flat_map entry_text (entries_of (table_of empty_table entries)) ≡ flat_map entry_text entries) × ((length (entries_of (table_of empty_table entries)) ≡ count) × FitsTable (table_of empty_table entries))
table_to count entries fits =
    let back = entries_back entries in (
      ap (flat_map entry_text) back,
      (
        ap length back ∙ fits.0,
        (
          subst (λ (es : List TypeEntry). FitInTurn (IsEntry (length es)) with_entry empty_table es) (sym back) (subst (λ (n : ℕ). FitInTurn (IsEntry n) with_entry empty_table entries) (sym fits.0) fits.1),
          ap (table_of empty_table) (sym back),
        ),
      ),
    )

table_from : (count : ℕ) (table : Table) → (length (entries_of table) ≡ count) × FitsTable table → MadeOf (table_of empty_table) (FitsEntries count) table
table_from count table fits = record {
  parts = entries_of table;
  is_made = sym fits.1.1;
  fits = (fits.0, subst (λ (n : ℕ). FitInTurn (IsEntry n) with_entry empty_table (entries_of table)) fits.0 fits.1.0);
}

pub count_is : (table : Table) → table ≡ table_of empty_table (entries_of table) → length table.types ≡ length (entries_of table)
count_is table is_made =
    let counted : length (table_of empty_table (entries_of table)).types ≡ length (entries_of table) = omega (arith, count_of-table_of empty_table (entries_of table)) in
    ap (λ (t : Table). length t.types) is_made ∙ counted

pub types_meets : Meets types_at types_text AreTypes
unfolding types_at types_text
types_meets =
    fits_as AreTypes
    (counted (λ count. made (table_of empty_table) (entries_at count count empty_table)) (λ table. flat_map entry_text (entries_of table)) (λ table. length (entries_of table)) FitsTable long_meets
    (λ count. made_meets (table_of empty_table) (λ table. flat_map entry_text (entries_of table)) (λ table. (length (entries_of table) ≡ count) × FitsTable table) (entries_meet count) (table_to count) (table_from count)))
    (λ table fits.
    let count = count_is table fits.1.1 in
    record { count = subst IsLong (sym count) fits.0; entries = subst (λ (n : ℕ). FitInTurn (IsEntry n) with_entry empty_table (entries_of table)) (sym count) fits.1.0; is_made = fits.1.1 })
    (λ table fits.
    let count = count_is table fits.is_made in
    (subst IsLong count fits.count, (subst (λ (n : ℕ). FitInTurn (IsEntry n) with_entry empty_table (entries_of table)) count fits.entries, fits.is_made)))

-- what a function read
pub types-found : (bytes : List ℕ) (r : Result (Table × Bor (List ℕ)) PartError) → IsBytes bytes → Gives (λ (x : Table × Bor (List ℕ)). (x.0, x.1.now)) r (types_at bytes) → IfOk r (λ x. AreTypes x.0 × (bytes ≡ types_text x.0 ++ x.1.now))
types-found bytes (Ok x) fits given = let t = types_meets.takes bytes (x.0, x.1.now) fits given in (t.fits, t.parts)
types-found bytes (Err e) fits given = tt

-- what was read can be added

recursion-from_each : {A : Type 0} (F P : A → Type 0) → ((a : A) → F a → P a) → (items : List A) → FitEach F items → AllByRecursion P items
recursion-from_each F P weaker [] fits = tt
recursion-from_each F P weaker (item ∷ items) fits = (weaker item fits.0, recursion-from_each F P weaker items fits.1)

pub all-from_each : {A : Type 0} (F P : A → Type 0) → ((a : A) → F a → P a) → (items : List A) → FitEach F items → All P items
all-from_each F P weaker items fits = All-from_recursion P items (recursion-from_each F P weaker items fits)

fields_below : (count : ℕ) (fields : List Field) → AreFields count fields → All (λ field. field.ty.0 < count) fields
fields_below count fields fits = all-from_each (IsField count) (λ field. field.ty.0 < count) (λ field f. f.1.1) fields fits.1

defined-from_type : (count : ℕ) (types : List TypeDef) (place : ℕ) (one : TypeDef) → IsType count types place one → IsDefinedOver types one
defined-from_type count types place (Ordinal host low high) fits = (fits.0, fits.1, fits.2)
defined-from_type count types place (Str max) fits = fits.0
defined-from_type count types place (SetOf base) fits = fits.0
defined-from_type count types place (ArrayOf index element) fits = (fits.0, fits.2.1)
defined-from_type count types place (RecordOf fields) fits = fields_below (length types) fields fits
defined-from_type count types place (PointerTo target) fits = tt
defined-from_type count types place (ObjectOf parent dynamic fields methods) fits = (fits.0, fields_below (length types) fields fits.2)
defined-from_type count types place (Procedural header) fits = tt

methods-from_type : (count : ℕ) (types : List TypeDef) (place : ℕ) (one : TypeDef) → IsType count types place one → HasMethodsOf place one
methods-from_type count types place (ObjectOf parent dynamic fields methods) fits = all-from_each (IsMethod count place) (λ method. method.routine.unit ≡ place) (λ method f. f.unit) methods fits.3.1
methods-from_type count types place (Ordinal host low high) fits = tt
methods-from_type count types place (Str max) fits = tt
methods-from_type count types place (SetOf base) fits = tt
methods-from_type count types place (ArrayOf index element) fits = tt
methods-from_type count types place (RecordOf fields) fits = tt
methods-from_type count types place (PointerTo target) fits = tt
methods-from_type count types place (Procedural header) fits = tt

pub addable-from_read : (count : ℕ) (table : Table) (bytes : List ℕ) (entry : TypeEntry) (rest : List ℕ) → IsBytes bytes
    → made entry_of (followed name_at (λ origin. long_at ▷ type_at count table.types (place_of table.units origin))) bytes ≡ Ok (entry, rest) → IsAddable table entry.origin entry.one
addable-from_read count table bytes entry rest fits read =
    let t = (parts_of_entry_meet count table).takes bytes (entry, rest) fits read in
    record {
      defined = defined-from_type count table.types (place_of table.units entry.origin) entry.one t.fits.1.1;
      methods = methods-from_type count table.types (place_of table.units entry.origin) entry.one t.fits.1.1;
    }
