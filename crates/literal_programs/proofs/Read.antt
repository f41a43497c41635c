-- Reading from left to right gives what is said, where that is small.
use Rattle.std.proofs.Common.{◌≡◌, ℕ, suc, ◌+◌, ◌≤◌, ◌==◌, Bool, true, false, List, [], ◌∷◌, ◌++◌, length, Some, None, refl, sym, ap, ◌∙◌, arith, append-nil, append_assoc, length-append}
use Rattle.std.specs.Prelude.{◌&&◌, nat_le, if◌then◌else◌, slice_get, Option, is_none, option_and_then}
use Rattle.std.proofs.lemmas.Bool.Decides.{nat_tests}
use Rattle.std.proofs.lemmas.List.Sums.{sum_by-append}
use Rattle.type_layout.specs.declared.definitions.TypeDef.{TypeDef}
use Rattle.typed_tree.specs.declared.units.Routine.{Routine}
use Rattle.typed_tree.specs.declared.units.Unit.{Unit as TypedUnit}
use Rattle.typed_tree.specs.declared.units.Program.{Program}
use Rattle.typed_tree.specs.Statements as typed
use Rattle.typed_tree.specs.Statements.{Written, Assign, CopyAll, Run, If, While, Repeat, Block, Case, For, With, WriteItems, ReadItems, Halt, Exit, Unmake, Statements, NoStatements, Then, view_stmt}
use Rattle.typed_tree.specs.Frames.{frame_of, even}
use Rattle.literal_programs.specs.literal_code.Statement.{Statement, text_size, size_of}
use Rattle.literal_programs.specs.Literals.{item_text, joined, text_said, items_said, line_said, end_code, halt_said, said, all_said, IsSmall, IsMain, Says}
use Rattle.literal_programs.specs.Reading.{is_small, with_text, with_items, with_line, with_end, with_statement, with_statements, unit_alone, is_plain, has_room, if_main, main_part, said_in, said_by}
use Rattle.literal_programs.proofs.Played.{none_some}

-- ---- what is said behind something, where all of it is small

abbrev if_small : List Statement → Option (List Statement)
if_small xs = if is_small xs then Some xs else None

abbrev bounded : Option (List Statement) → List Statement → Option (List Statement)
bounded (Some xs) before = if_small (before ++ xs)
bounded None before = None

large_numbers : (n m c d : ℕ) → (nat_le n 8192 && nat_le c 4096) ≡ false → n ≤ m → c ≤ d → (nat_le m 8192 && nat_le d 4096) ≡ false
large_numbers n m c d large more longer = grind (arith, nat_tests)

-- what is large stays so
large_grows : (xs ys : List Statement) → is_small xs ≡ false → is_small (xs ++ ys) ≡ false
large_grows xs ys large =
    let size : size_of (xs ++ ys) ≡ size_of xs + size_of ys = sum_by-append text_size xs ys in
    let count : length (xs ++ ys) ≡ length xs + length ys = length-append xs ys in
    large_numbers (size_of xs) (size_of (xs ++ ys)) (length xs) (length (xs ++ ys)) large (omega (arith, size)) (omega (arith, count))

bounded_nothing : (before : List Statement) → is_small before ≡ true → Some before ≡ bounded (Some []) before
bounded_nothing before small = rw (append-nil before, small) refl

bounded_behind : (b : Option (List Statement)) (xs before : List Statement) → bounded b (before ++ xs) ≡ bounded (joined (Some xs) b) before
bounded_behind None xs before = refl
bounded_behind (Some ys) xs before = ap if_small (append_assoc before xs ys)

large_is_none : (b : Option (List Statement)) (xs before : List Statement) → is_small (before ++ xs) ≡ false → None ≡ bounded (joined (Some xs) b) before
large_is_none None xs before large = refl
large_is_none (Some ys) xs before large =
    let all : is_small (before ++ (xs ++ ys)) ≡ false = ap is_small (sym (append_assoc before xs ys)) ∙ large_grows (before ++ xs) ys large in
    rw all refl

-- the second part comes behind a first one that is small
continued_by : (k : List Statement → Option (List Statement)) (b : Option (List Statement)) (xs before : List Statement)
    → ((now : List Statement) → is_small now ≡ true → k now ≡ bounded b now) → (small : Bool) → is_small (before ++ xs) ≡ small
    → option_and_then k (if small then Some (before ++ xs) else None) ≡ bounded (joined (Some xs) b) before
continued_by k b xs before same true e = same (before ++ xs) e ∙ bounded_behind b xs before
continued_by k b xs before same false e = large_is_none b xs before e

continued : (k : List Statement → Option (List Statement)) (a b : Option (List Statement)) (before : List Statement)
    → ((now : List Statement) → is_small now ≡ true → k now ≡ bounded b now) → option_and_then k (bounded a before) ≡ bounded (joined a b) before
continued k None b before same = refl
continued k (Some xs) b before same = continued_by k b xs before same (is_small (before ++ xs)) refl

-- ---- statements

text_read : (text : Option (List ℕ)) (before : List Statement) → with_text text before ≡ bounded (text_said text) before
text_read (Some bytes) before = refl
text_read None before = refl

end_read : (code : Option ℕ) (before : List Statement) → with_end code before ≡ bounded (halt_said code) before
end_read (Some code) before = refl
end_read None before = refl

line_read : (line : Bool) (before : List Statement) → is_small before ≡ true → with_line line before ≡ bounded (Some (line_said line)) before
line_read true before small = refl
line_read false before small = bounded_nothing before small

items_read : (types : List TypeDef) (items : List Written) (before : List Statement) → is_small before ≡ true → with_items types items before ≡ bounded (items_said types items) before
items_read types [] before small = bounded_nothing before small
items_read types (item ∷ items) before small =
    let text = item_text types item.value item.width in
    ap (option_and_then (with_items types items)) (text_read text before)
    ∙ continued (with_items types items) (text_said text) (items_said types items) before (λ now fits. items_read types items now fits)

mutual
  pub statement_read : (types : List TypeDef) (one : typed.Statement) (before : List Statement) → is_small before ≡ true → with_statement types one before ≡ bounded (said types one) before
  statement_read types (Block parts) before small = statements_read types parts before small
  statement_read types (WriteItems items line) before small =
      ap (option_and_then (with_line line)) (items_read types items before small)
      ∙ continued (with_line line) (items_said types items) (Some (line_said line)) before (λ now fits. line_read line now fits)
  statement_read types (Halt code) before small = end_read (end_code code) before
  statement_read types (Assign to from) before small = refl
  statement_read types (CopyAll to from) before small = refl
  statement_read types (Run call) before small = refl
  statement_read types (If test taken other) before small = refl
  statement_read types (While test body) before small = refl
  statement_read types (Repeat body test) before small = refl
  statement_read types (Case selector arms other) before small = refl
  statement_read types (For variable ty from to down checked body) before small = refl
  statement_read types (With of body) before small = refl
  statement_read types (ReadItems items line) before small = refl
  statement_read types Exit before small = refl
  statement_read types (Unmake pointer with args) before small = refl

  pub statements_read : (types : List TypeDef) (parts : Statements) (before : List Statement) → is_small before ≡ true → with_statements types parts before ≡ bounded (all_said types parts) before
  statements_read types NoStatements before small = bounded_nothing before small
  statements_read types (Then one rest) before small =
      ap (option_and_then (with_statements types rest)) (statement_read types one before small)
      ∙ continued (with_statements types rest) (said types one) (all_said types rest) before (λ now fits. statements_read types rest now fits)

-- ---- tests

both_hold : (a b : Bool) → (a && b) ≡ true → (a ≡ true) × (b ≡ true)
both_hold true b e = (refl, e)
both_hold false b e = cc

taken : {A : Type 0} (test : Bool) (x y : A) → (if test then Some x else None) ≡ Some y → (test ≡ true) × (x ≡ y)
taken true x y e = (refl, cc)
taken false x y e = none_some e

is_zero : (n : ℕ) → (n == 0) ≡ true → n ≡ 0
is_zero n e = grind (arith, nat_tests)

is_empty : {A : Type 0} (xs : List A) → (length xs == 0) ≡ true → xs ≡ []
is_empty [] e = refl
is_empty (x ∷ xs) e = let none : suc (length xs) ≡ 0 = is_zero (suc (length xs)) e in absurd (omega (arith, none))

is_nothing : {A : Type 0} (x : Option A) → is_none x ≡ true → x ≡ None
is_nothing None e = refl
is_nothing (Some x) e = cc

at_most : (n m : ℕ) → nat_le n m ≡ true → n ≤ m
at_most n m e = grind (arith, nat_tests)

is_at_most : (n m : ℕ) → n ≤ m → nat_le n m ≡ true
is_at_most n m h = grind (arith, nat_tests)

pub record IsBound {A B : Type 0} (f : A → Option B) (o : Option A) (y : B) : Type 0 where
  pub x : A
  pub is : o ≡ Some x
  pub gives : f x ≡ Some y

bound : {A B : Type 0} (f : A → Option B) (o : Option A) (y : B) → option_and_then f o ≡ Some y → IsBound f o y
bound f (Some x) y e = record { x = x; is = refl; gives = e }
bound f None y e = none_some e

-- ---- programs

small_is : (xs : List Statement) → IsSmall xs → is_small xs ≡ true
small_is xs small = rw (is_at_most (size_of xs) 8192 small.bytes, is_at_most (length xs) 4096 small.count) refl

is_small_so : (xs : List Statement) → is_small xs ≡ true → IsSmall xs
is_small_so xs small =
    let tests = both_hold (nat_le (size_of xs) 8192) (nat_le (length xs) 4096) small in
    record { bytes = at_most (size_of xs) 8192 tests.0; count = at_most (length xs) 4096 tests.1 }

abbrev IsAlone : ℕ → List TypedUnit → TypedUnit → Type 0
IsAlone start units unit = (units ≡ unit ∷ []) × (start ≡ 0) × (unit.overlaid ≡ [])

alone_is : (start : ℕ) (units : List TypedUnit) (unit : TypedUnit) → unit_alone start units ≡ Some unit → IsAlone start units unit
alone_is start [] unit e = none_some e
alone_is start (one ∷ other ∷ others) unit e = none_some e
alone_is start (one ∷ []) unit e =
    let found = taken (start == 0 && length one.overlaid == 0) one unit e in
    let tests = both_hold (start == 0) (length one.overlaid == 0) found.0 in
    let plain : one.overlaid ≡ [] = is_empty one.overlaid tests.1 in
    (ap (λ (u : TypedUnit). u ∷ []) found.1, is_zero start tests.0, rw found.1 at plain)

main_is : (unit : TypedUnit) (routine : Routine) → main_part unit ≡ Some routine → IsMain unit routine
main_is unit routine e =
    let found = bound (if_main unit) (option_and_then (slice_get unit.routines) unit.initial) routine e in
    let numbered = bound (slice_get unit.routines) unit.initial found.x found.is in
    let tested = taken (is_plain found.x && has_room unit found.x) found.x routine found.gives in
    let tests = both_hold (is_plain found.x) (has_room unit found.x) tested.0 in
    let plain : is_plain routine ≡ true = rw tested.1 at tests.0 in
    let room = both_hold (nat_le unit.stack 65520) (nat_le (frame_of unit.types.types routine + 512) (even unit.stack)) (rw tested.1 at tests.1) in
    let first = both_hold (length routine.header.params == 0 && is_none routine.header.result && is_none routine.owner) (is_none routine.outer) plain in
    let second = both_hold (length routine.header.params == 0 && is_none routine.header.result) (is_none routine.owner) first.0 in
    let third = both_hold (length routine.header.params == 0) (is_none routine.header.result) second.0 in
    record {
      number = numbered.x;
      initial = numbered.is;
      there = numbered.gives ∙ ap Some tested.1;
      params = is_empty routine.header.params third.0;
      result = is_nothing routine.header.result third.1;
      owner = is_nothing routine.owner second.1;
      outer = is_nothing routine.outer first.1;
      stack = at_most unit.stack 65520 room.0;
      room = at_most (frame_of unit.types.types routine + 512) (even unit.stack) room.1;
    }

main_found : (unit : TypedUnit) (routine : Routine) → IsMain unit routine → main_part unit ≡ Some routine
main_found unit routine main =
    let plain : is_plain routine ≡ true = rw (main.params, main.result, main.owner, main.outer) refl in
    let room : has_room unit routine ≡ true =
    rw (is_at_most unit.stack 65520 main.stack, is_at_most (frame_of unit.types.types routine + 512) (even unit.stack) main.room) refl in
    ap (λ (initial : Option ℕ). option_and_then (if_main unit) (option_and_then (slice_get unit.routines) initial)) main.initial
    ∙ ap (option_and_then (if_main unit)) main.there
    ∙ ap (λ (plain : Bool). if plain && has_room unit routine then Some routine else None) plain
    ∙ ap (λ (room : Bool). if room then Some routine else None) room

abbrev IsAllSaid : Option (List Statement) → List Statement → Type 0
IsAllSaid read xs = (read ≡ Some xs) × IsSmall xs

bounded_is : (read : Option (List Statement)) (xs : List Statement) → bounded read [] ≡ Some xs → IsAllSaid read xs
bounded_is (Some ys) xs e =
    let found = taken (is_small ys) ys xs e in
    let small : is_small xs ≡ true = rw found.1 at found.0 in
    (ap Some found.1, is_small_so xs small)
bounded_is None xs e = none_some e

-- What is read is what the program says.
pub says_from_read : (program : Program) (statements : List Statement) → said_by program ≡ Some statements → Says program statements
says_from_read program statements e =
    let only = bound said_in (unit_alone program.start program.units) statements e in
    let unit = only.x in
    let alone = alone_is program.start program.units unit only.is in
    let begun = bound (λ (routine : Routine). with_statement unit.types.types (view_stmt routine.body) []) (main_part unit) statements only.gives in
    let routine = begun.x in
    let read = bounded_is (said unit.types.types (view_stmt routine.body)) statements (sym (statement_read unit.types.types (view_stmt routine.body) [] refl) ∙ begun.gives) in
    record {
      unit = unit;
      alone = alone.0;
      start = alone.1;
      plain = alone.2;
      routine = routine;
      main = main_is unit routine begun.is;
      says = read.0;
      small = read.1;
    }

-- What a program says is read.
pub read_from_says : (program : Program) (statements : List Statement) → Says program statements → said_by program ≡ Some statements
read_from_says program statements says =
    let unit = says.unit in
    let routine = says.routine in
    let only : unit_alone program.start program.units ≡ Some unit = rw (says.alone, says.start, says.plain) refl in
    let body : with_statement unit.types.types (view_stmt routine.body) [] ≡ Some statements =
    statement_read unit.types.types (view_stmt routine.body) [] refl ∙ ap (λ r. bounded r []) says.says
    ∙ ap (λ (small : Bool). if small then Some statements else None) (small_is statements says.small) in
    let inner : said_in unit ≡ Some statements =
    ap (option_and_then (λ (routine : Routine). with_statement unit.types.types (view_stmt routine.body) [])) (main_found unit routine says.main) ∙ body in
    ap (option_and_then said_in) only ∙ inner
