-- Reading types into a table one after another, as a loop does.
use Rattle.std.proofs.Common.{◌≡◌, ℕ, suc, ◌+◌, ◌-◌, ◌<◌, ◌≤◌, List, ◌∷◌, Result, Ok, Err, refl, sym, ap, ◌∙◌, arith}
use Rattle.type_layout.specs.Table.{Table}
use Rattle.object_file.specs.declared.file_parts.error.PartError.{PartError}
use Rattle.object_file.specs.declared.file_parts.error.PartError.TheVariants as error
use Rattle.object_file.specs.file_parts.Parts.{◌>>=◌, made, in_turn, Fails}
use Rattle.unit_file.specs.declared.type_file.entry.TypeEntry.{TypeEntry}
use Rattle.unit_file.specs.type_file.Text.{with_entry, table_of}
use Rattle.unit_file.specs.type_file.Reading.{entry_at, entries_at}

-- the table once so many more types are read
abbrev pub finished : ℕ → ℕ → Table → List ℕ → Result (Table × List ℕ) ℕ
finished count left table bytes = made (table_of table) (entries_at count left table) bytes

-- the table with the next type
abbrev pub one_more : ℕ → Table → List ℕ → Result (Table × List ℕ) ℕ
one_more count table bytes = made (with_entry table) (entry_at count table) bytes

-- what is made of what was read
abbrev with_first : TypeEntry → List TypeEntry × List ℕ → Result (List TypeEntry × List ℕ) ℕ
with_first entry others = Ok (entry ∷ others.0, others.1)

abbrev tabled : Table → List TypeEntry × List ℕ → Result (Table × List ℕ) ℕ
tabled table entries = Ok (table_of table entries.0, entries.1)

abbrev added : Table → TypeEntry × List ℕ → Result (Table × List ℕ) ℕ
added table entry = Ok (with_entry table entry.0, entry.1)

behind : (table : Table) (entry : TypeEntry) (others : Result (List TypeEntry × List ℕ) ℕ) → ((others >>= with_first entry) >>= tabled table) ≡ (others >>= tabled (with_entry table entry))
behind table entry (Ok es) = refl
behind table entry (Err left) = refl

by_first : (count left : ℕ) (table : Table) (first : Result (TypeEntry × List ℕ) ℕ)
    → ((first >>= λ x. in_turn (entry_at count) with_entry left (with_entry table x.0) x.1 >>= with_first x.0) >>= tabled table)
    ≡ ((first >>= added table) >>= λ y. made (table_of y.0) (in_turn (entry_at count) with_entry left y.0) y.1)
by_first count left table (Ok x) = behind table x.0 (in_turn (entry_at count) with_entry left (with_entry table x.0) x.1)
by_first count left table (Err at) = refl

step : (count k : ℕ) (table : Table) (bytes : List ℕ) → k < count
    → finished count (count - k) table bytes ≡ (one_more count table bytes >>= λ y. finished count (count - (k + 1)) y.0 y.1)
unfolding in_turn entries_at
step count k table bytes below =
    let left : count - k ≡ suc (count - (k + 1)) = omega arith in
    rw left (by_first count (count - (k + 1)) table (entry_at count table bytes))

pub table-next : (count k : ℕ) (table next : Table) (bytes rest : List ℕ) (total : Result (Table × List ℕ) ℕ) → k < count → one_more count table bytes ≡ Ok (next, rest)
    → finished count (count - k) table bytes ≡ total → finished count (count - (k + 1)) next rest ≡ total
table-next count k table next bytes rest total below is so_far =
    sym (step count k table bytes below ∙ ap (λ r. r >>= λ y. finished count (count - (k + 1)) y.0 y.1) is) ∙ so_far

pub table-stop : (e : PartError) (count k : ℕ) (table : Table) (bytes : List ℕ) (total : Result (Table × List ℕ) ℕ) → k < count → Fails e (one_more count table bytes)
    → finished count (count - k) table bytes ≡ total → Fails e total
table-stop error.NoMemory count k table bytes total below fails so_far = tt
table-stop (error.Damaged left) count k table bytes total below fails so_far =
    sym so_far ∙ step count k table bytes below ∙ ap (λ r. r >>= λ y. finished count (count - (k + 1)) y.0 y.1) fails

pub table-end : (count k : ℕ) (table : Table) (bytes : List ℕ) (total : Result (Table × List ℕ) ℕ) → count ≤ k
    → finished count (count - k) table bytes ≡ total → total ≡ Ok (table, bytes)
unfolding in_turn entries_at
table-end count k table bytes total all so_far =
    let none : count - k ≡ 0 = omega arith in
    let one : finished count (count - k) table bytes ≡ Ok (table, bytes) = rw none refl in
    sym so_far ∙ one
