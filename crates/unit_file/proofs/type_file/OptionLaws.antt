-- Writing a table of types: the numbers in them have their four bytes, and its entries follow one another.
use Rattle.std.proofs.Common.{◌≡◌, ℕ, ◌+◌, ◌<◌, List, [], ◌∷◌, ◌++◌, length, get_or, drop, Some, refl, sym, ap, subst, ◌∙◌, append_assoc, arith}
use Rattle.std.specs.Prelude.{All, slice_get}
use Rattle.std.specs.List.{flat_map}
use Rattle.std.proofs.lemmas.List.{at_drop_more, get_or_default}
use Rattle.std.proofs.lemmas.List.Concat.{flat_map-cons}
use Rattle.std.proofs.lemmas.List.Elements.{All-push}
use Rattle.std.proofs.lemmas.Option.{slice_get_within, get_or_from_slice_get}
use Rattle.type_layout.specs.declared.definitions.Method.{Method}
use Rattle.type_layout.specs.declared.definitions.TypeDef.{TypeDef}
use Rattle.type_layout.specs.declared.definitions.TypeDef.TheVariants.{Ordinal, Str, SetOf, ArrayOf, RecordOf, PointerTo, ObjectOf, Procedural}
use Rattle.type_layout.specs.declared.definitions.Origin.{Origin}
use Rattle.type_layout.specs.Table.{Table, IsWellFormed, place_of}
use Rattle.object_file.specs.file_parts.Spelling.{long_text, FitInTurn}
use Rattle.unit_file.specs.declared.type_file.entry.TypeEntry.{TypeEntry}
use Rattle.unit_file.specs.type_file.Text.{entry_with, entry_text, types_text, entries_from, entries_of, empty_table, with_entry, table_of, IsMethod, IsType, IsEntry, AreTypes, HasResult, HasOptions}
use Rattle.unit_file.proofs.type_file.EntryLaws.{all-from_each, count_is}

options-from_type : (count : ℕ) (types : List TypeDef) (place : ℕ) (one : TypeDef) → IsType count types place one → HasOptions one
options-from_type count types place (ObjectOf parent dynamic fields methods) fits = (fits.1, all-from_each (IsMethod count place) (λ (method : Method). HasResult method.header) (λ method f. f.header.result.0) methods fits.3.1)
options-from_type count types place (Procedural header) fits = fits.result.0
options-from_type count types place (Ordinal host low high) fits = tt
options-from_type count types place (Str max) fits = tt
options-from_type count types place (SetOf base) fits = tt
options-from_type count types place (ArrayOf index element) fits = tt
options-from_type count types place (RecordOf fields) fits = tt
options-from_type count types place (PointerTo target) fits = tt

options-table_of : (count : ℕ) (table : Table) (entries : List TypeEntry) → FitInTurn (IsEntry count) with_entry table entries → All HasOptions table.types → All HasOptions (table_of table entries).types
options-table_of count table [] fits all = all
options-table_of count table (entry ∷ entries) fits all =
    let sound = fits.0.sound in
    options-table_of count (with_entry table entry) entries fits.1 (All-push HasOptions table.types entry.one all (options-from_type count table.types (place_of table.units entry.origin) entry.one sound))

no_options : All HasOptions empty_table.types
no_options = λ k one h. absurd (omega arith)

options-from_types : (table : Table) → AreTypes table → All HasOptions table.types
options-from_types table fits = subst (λ (t : Table). All HasOptions t.types) (sym fits.is_made) (options-table_of (length table.types) empty_table (entries_of table) fits.entries no_options)

pub options-at : (table : Table) (k : ℕ) (one : TypeDef) → AreTypes table → slice_get table.types k ≡ Some one → HasOptions one
options-at table k one fits is = subst HasOptions (get_or_from_slice_get table.types k one one is) (options-from_types table fits k one (slice_get_within table.types k one is))

-- the entries from a place on
entries_from-drop : (units : List (List ℕ)) (types : List TypeDef) (origins : List Origin) (k : ℕ) (one : TypeDef) (origin : Origin) → slice_get types k ≡ Some one → slice_get origins k ≡ Some origin
    → entries_from units (drop k types) (drop k origins) ≡ entry_with (get_or units origin.unit []) origin.number one ∷ entries_from units (drop (k + 1) types) (drop (k + 1) origins)
entries_from-drop units types origins k one origin at from =
    let t : drop k types ≡ one ∷ drop (k + 1) types = drop_at types k one at in
    let o : drop k origins ≡ origin ∷ drop (k + 1) origins = drop_at origins k origin from in
    rw (t, o) refl
  where
    drop_at : {A : Type 0} (items : List A) (k : ℕ) (item : A) → slice_get items k ≡ Some item → drop k items ≡ item ∷ drop (k + 1) items
    drop_at {A = A} items k item is = at_drop_more (λ (l : List A). l) items k item (slice_get_within items k item is) ∙ ap (λ (x : A). x ∷ drop (k + 1) items) (get_or_from_slice_get items k item item is)

-- the origin of a type names a unit of the table
known_at : (table : Table) (k : ℕ) (origin : Origin) → IsWellFormed table → slice_get table.origins k ≡ Some origin → origin.unit < length table.units
known_at table k origin well is =
    subst (λ (o : Origin). o.unit < length table.units) (get_or_from_slice_get table.origins k origin origin is) (well.known k origin (slice_get_within table.origins k origin is))

abbrev text_from : Table → ℕ → List ℕ
text_from table k = flat_map entry_text (entries_from table.units (drop k table.types) (drop k table.origins))

pub entries-next : (table : Table) (units : List (List ℕ)) (k : ℕ) (one : TypeDef) (origin : Origin) (name bytes new total : List ℕ) → IsWellFormed table → units ≡ table.units
    → slice_get table.types k ≡ Some one → slice_get table.origins k ≡ Some origin → name ≡ get_or units origin.unit name → new ≡ bytes ++ entry_text (entry_with name origin.number one)
    → bytes ++ text_from table k ≡ total → new ++ text_from table (k + 1) ≡ total
entries-next table units k one origin name bytes new total well same at from is written so_far =
    let here : name ≡ get_or table.units origin.unit name = is ∙ ap (λ (us : List (List ℕ)). get_or us origin.unit name) same in
    let named : name ≡ get_or table.units origin.unit [] = here ∙ get_or_default table.units origin.unit name [] (known_at table k origin well from) in
    let rest : List TypeEntry = entries_from table.units (drop (k + 1) table.types) (drop (k + 1) table.origins) in
    ap (λ (front : List ℕ). front ++ flat_map entry_text rest) written
    ∙ append_assoc bytes (entry_text (entry_with name origin.number one)) (flat_map entry_text rest)
    ∙ ap (λ (n : List ℕ). bytes ++ (entry_text (entry_with n origin.number one) ++ flat_map entry_text rest)) named
    ∙ ap (λ (text : List ℕ). bytes ++ text) (sym (flat_map-cons entry_text (entry_with (get_or table.units origin.unit []) origin.number one) rest))
    ∙ ap (λ (es : List TypeEntry). bytes ++ flat_map entry_text es) (sym (entries_from-drop table.units table.types table.origins k one origin at from))
    ∙ so_far

-- the count and the entries
pub types-written : (table : Table) (count : ℕ) (old middle new : List ℕ) → AreTypes table → count ≡ length table.types → middle ≡ old ++ long_text count → new ≡ middle ++ flat_map entry_text (entries_of table) → new ≡ old ++ types_text table
unfolding types_text
types-written table count old middle new fits counted written behind =
    behind ∙ ap (λ (front : List ℕ). front ++ flat_map entry_text (entries_of table)) written
    ∙ append_assoc old (long_text count) (flat_map entry_text (entries_of table))
    ∙ ap (λ (n : ℕ). old ++ (long_text n ++ flat_map entry_text (entries_of table))) (counted ∙ count_is table fits.is_made)
