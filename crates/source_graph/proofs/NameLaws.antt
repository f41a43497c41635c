-- The names of files of sources are ASCII.
use Rattle.std.proofs.Common.{◌≡◌, ℕ, ◌<◌, List, [], ◌∷◌, map, codes, arith, true}
use Rattle.std.specs.List.{list_all}
use Rattle.std.specs.Str.{IsAscii}
use Rattle.std.specs.Char.{to_ascii_lowercase}
use Rattle.std.proofs.lemmas.Str.{IsAscii-append}
use Rattle.std.proofs.lemmas.Str.Ascii.{IsAscii-map, IsAscii-nil, IsAscii-cons}
use Rattle.std.proofs.lemmas.Bool.{and_parts}
use Rattle.std.proofs.lemmas.Bool.Decides.{nat_tests}
use Rattle.type_layout.specs.Words.{IsName, is_name_byte}
use Rattle.source_graph.specs.Files.{source_file}

lower_ascii : (c : ℕ) → c < 128 → to_ascii_lowercase c < 128
lower_ascii c h = grind (arith, nat_tests)

byte_ascii : (c : ℕ) → is_name_byte c ≡ true → c < 128
byte_ascii c h = grind (arith, nat_tests)

bytes_ascii : (bytes : List ℕ) → list_all is_name_byte bytes ≡ true → IsAscii bytes
bytes_ascii [] h = IsAscii-nil
bytes_ascii (b ∷ bs) h =
    let both = and_parts (is_name_byte b) (list_all is_name_byte bs) h in
    IsAscii-cons b bs (byte_ascii b both.0) (bytes_ascii bs both.1)

extension_ascii : IsAscii (codes ".pas")
extension_ascii =
    IsAscii-cons 46 (codes "pas") (omega arith) (IsAscii-cons 112 (codes "as") (omega arith)
    (IsAscii-cons 97 (codes "s") (omega arith) (IsAscii-cons 115 [] (omega arith) IsAscii-nil)))

pub file_ascii : (name : List ℕ) → IsName name → IsAscii (source_file name)
file_ascii name h =
    IsAscii-append (map to_ascii_lowercase name) (codes ".pas") (IsAscii-map to_ascii_lowercase name lower_ascii (bytes_ascii name (grind arith))) extension_ascii
