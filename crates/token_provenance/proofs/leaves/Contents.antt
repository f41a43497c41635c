-- What names, numbers and string constants of sources hold.
use Rattle.std.proofs.Common.{◌≡◌, ℕ, ◌<◌, ◌≤◌, Bool, true, false, cond, ◌&&◌, ◌||◌, ◌==◌, not, nat_le, IsTrue, List, [], ◌∷◌, ◌++◌, length, slice_index, Option, Some, None, unwrap_or, refl, arith, length-take}
use Rattle.std.specs.List.{All, list_all}
use Rattle.std.specs.Int.{w32, cast_signed}
use Rattle.std.specs.Char.{is_ascii_digit, is_ascii_hexdigit}
use Rattle.std.specs.Option.{option_and_then}
use Rattle.std.proofs.lemmas.Bool.Decides.{nat_tests}
use Rattle.std.proofs.lemmas.List.Elements.{All-nil, All-cons, All-head, All-tail, All-push, All-take}
use Rattle.source_graph.specs.type_layout.declared.definitions.Host.TheVariants as host
use Rattle.source_graph.specs.type_layout.Storage.{holds}
use Rattle.source_graph.specs.type_layout.Words.{is_digit, is_name_byte, has_name_length, is_name, spelled_by}
use Rattle.source_graph.specs.tp_lexer.declared.constant.Part.{Part}
use Rattle.source_graph.specs.tp_lexer.declared.constant.Part.TheVariants as p
use Rattle.source_graph.specs.tp_lexer.declared.constant.Added.{Added}
use Rattle.source_graph.specs.tp_lexer.declared.constant.Added.TheVariants as g
use Rattle.source_graph.specs.tp_lexer.Contents.{byte_of, finished, gives, code_after, kept, joined, content_from, content_of}
use Rattle.source_graph.specs.tp_lexer.Shapes.{next_part}
use Rattle.source_graph.specs.tp_lexer.Words.{name_of}
use Rattle.source_graph.proofs.tp_lexer_proofs.Prefixes.{and_left, and_right}
use Rattle.units_well_formed.specs.bodies_well_formed.expressions.Literals.{IsText}

abbrev pub IsByte : ℕ → Type 0
IsByte byte = byte < 256

abbrev pub IsTextOrNone : Option (List ℕ) → Type 0
IsTextOrNone None = Unit {0}
IsTextOrNone (Some bytes) = IsText bytes

-- ---- names

name_byte : (c : ℕ) → is_name_byte c ≡ true → c < 256
name_byte c is = grind (arith, nat_tests)

name_bytes : (xs : List ℕ) → list_all is_name_byte xs ≡ true → All IsByte xs
name_bytes [] all = All-nil IsByte
name_bytes (x ∷ xs) all =
    All-cons IsByte x xs (name_byte x (and_left (is_name_byte x) (list_all is_name_byte xs) all)) (name_bytes xs (and_right (is_name_byte x) (list_all is_name_byte xs) all))

name_short : (bytes : List ℕ) → has_name_length bytes ≡ true → length bytes ≤ 255
name_short bytes is = grind (arith, nat_tests)

name_text : (bytes : List ℕ) → is_name bytes ≡ true → IsText bytes
name_text bytes is =
    let most = has_name_length bytes && not (is_digit (slice_index bytes 0)) in
    let first : most ≡ true = and_left most (list_all is_name_byte bytes) is in
    record {
      short = name_short bytes (and_left (has_name_length bytes) (not (is_digit (slice_index bytes 0))) first);
      each = name_bytes bytes (and_right most (list_all is_name_byte bytes) is);
    }

pub name_of_text : (bytes : List ℕ) → IsTextOrNone (name_of bytes)
name_of_text bytes = by (is_name (spelled_by bytes)) (name_text (spelled_by bytes))
  where
    by : (b : Bool) → (b ≡ true → IsText (spelled_by bytes)) → IsTextOrNone (cond b (Some (spelled_by bytes)) None)
    by true is = is refl
    by false is = tt

-- ---- numbers

pub number_held : (n : ℕ) → IsTrue (holds host.LongInt (cast_signed w32 n) (cast_signed w32 n))
number_held n = grind (arith, nat_tests)

-- ---- string constants

abbrev AddsByte : Added → Type 0
AddsByte g.Nothing = Unit {0}
AddsByte (g.Byte c) = c < 256
AddsByte g.BadCode = Unit {0}

code_byte : (code : ℕ) → AddsByte (byte_of code)
code_byte code = by (nat_le code 255) (λ is. grind (arith, nat_tests))
  where
    by : (b : Bool) → (b ≡ true → code < 256) → AddsByte (cond b (g.Byte code) g.BadCode)
    by true is = is refl
    by false is = tt

finished_byte : (part : Part) (code : ℕ) → AddsByte (finished part code)
finished_byte p.Code code = tt
finished_byte p.Dollar code = tt
finished_byte p.Decimal code = code_byte code
finished_byte p.Hexadecimal code = code_byte code
finished_byte part code = tt

either : (b : Bool) (x y : Added) → AddsByte x → AddsByte y → AddsByte (cond b x y)
either true x y left right = left
either false x y left right = right

quote : 39 < 256
quote = omega arith

given_byte : (part : Part) (code c : ℕ) → c < 256 → AddsByte (gives part code c)
given_byte p.Inside code c small = either (c == 39) g.Nothing (g.Byte c) tt small
given_byte p.Closed code c small = either (c == 39) (g.Byte 39) g.Nothing quote tt
given_byte p.Code code c small = either (c == 36 || is_ascii_digit c) g.Nothing g.BadCode tt tt
given_byte p.Dollar code c small = either (is_ascii_hexdigit c) g.Nothing g.BadCode tt tt
given_byte p.Decimal code c small = either (is_ascii_digit c) g.Nothing (byte_of code) tt (code_byte code)
given_byte p.Hexadecimal code c small = either (is_ascii_hexdigit c) g.Nothing (byte_of code) tt (code_byte code)
given_byte part code c small = tt

kept_text : (text : List ℕ) (c : ℕ) → c < 256 → IsText text → IsText (kept text c)
kept_text text c small is = record {
  short = omega (arith, length-take 255 (text ++ c ∷ []));
  each = All-take IsByte 255 (text ++ c ∷ []) (All-push IsByte text c is.each small);
}

joined_text : (text : List ℕ) (added : Added) → IsText text → AddsByte added → IsTextOrNone (joined text added)
joined_text text g.Nothing is small = is
joined_text text (g.Byte c) is small = kept_text text c small is
joined_text text g.BadCode is small = tt

then_text : (f : List ℕ → Option (List ℕ)) (x : Option (List ℕ)) → IsTextOrNone x → ((text : List ℕ) → IsText text → IsTextOrNone (f text)) → IsTextOrNone (option_and_then f x)
then_text f None is next = tt
then_text f (Some text) is next = next text is

content_from_text : (bytes : List ℕ) (part : Part) (code : ℕ) (text : List ℕ) → All IsByte bytes → IsText text → IsTextOrNone (content_from part code text bytes)
content_from_text [] part code text all is = joined_text text (finished part code) is (finished_byte part code)
content_from_text (c ∷ cs) part code text all is =
    let next = unwrap_or (next_part part c) p.Start in
    then_text (λ more. content_from next (code_after next code c) more cs) (joined text (gives part code c)) (joined_text text (gives part code c) is (given_byte part code c (All-head IsByte c cs all)))
    (λ more so. content_from_text cs next (code_after next code c) more (All-tail IsByte c cs all) so)

pub content_text : (bytes : List ℕ) → All IsByte bytes → IsTextOrNone (content_of bytes)
content_text bytes all = content_from_text bytes p.Start 0 [] all (record { short = omega arith; each = All-nil IsByte })
