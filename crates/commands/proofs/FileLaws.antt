-- The names of files are ASCII.
use Rattle.std.proofs.Common.{◌≡◌, ℕ, ◌<◌, List, [], ◌∷◌, map, arith, true}
use Rattle.std.specs.List.{list_all}
use Rattle.std.specs.Str.{IsAscii}
use Rattle.std.specs.Char.{to_ascii_lowercase}
use Rattle.std.proofs.lemmas.Str.{IsAscii-append}
use Rattle.std.proofs.lemmas.Str.Ascii.{IsAscii-map, IsAscii-nil, IsAscii-cons}
use Rattle.std.proofs.lemmas.Bool.{and_parts}
use Rattle.std.proofs.lemmas.Bool.Decides.{nat_tests}
use Rattle.commands.specs.declared.names.FileKind.{FileKind}
use Rattle.commands.specs.declared.names.FileKind.TheVariants.{Source, Executable, Overlays}
use Rattle.type_layout.specs.Words.{IsName, is_name_byte}
use Rattle.commands.specs.Files.{file_of, extension}

lower_ascii : (c : ℕ) → c < 128 → to_ascii_lowercase c < 128
lower_ascii c h = grind (arith, nat_tests)

byte_ascii : (c : ℕ) → is_name_byte c ≡ true → c < 128
byte_ascii c h = grind (arith, nat_tests)

bytes_ascii : (bytes : List ℕ) → list_all is_name_byte bytes ≡ true → IsAscii bytes
bytes_ascii [] h = IsAscii-nil
bytes_ascii (b ∷ bs) h =
    let both = and_parts (is_name_byte b) (list_all is_name_byte bs) h in
    IsAscii-cons b bs (byte_ascii b both.0) (bytes_ascii bs both.1)

four_ascii : (a b c d : ℕ) → a < 128 → b < 128 → c < 128 → d < 128 → IsAscii (a ∷ b ∷ c ∷ d ∷ [])
four_ascii a b c d ha hb hc hd =
    IsAscii-cons a (b ∷ c ∷ d ∷ []) ha (IsAscii-cons b (c ∷ d ∷ []) hb (IsAscii-cons c (d ∷ []) hc (IsAscii-cons d [] hd IsAscii-nil)))

extension_ascii : (kind : FileKind) → IsAscii (extension kind)
extension_ascii Source = four_ascii 46 112 97 115 (omega arith) (omega arith) (omega arith) (omega arith)
extension_ascii Executable = four_ascii 46 101 120 101 (omega arith) (omega arith) (omega arith) (omega arith)
extension_ascii Overlays = four_ascii 46 111 118 114 (omega arith) (omega arith) (omega arith) (omega arith)

pub file_name_ascii : (name : List ℕ) (kind : FileKind) → IsName name → IsAscii (file_of name kind)
file_name_ascii name kind h =
    IsAscii-append (map to_ascii_lowercase name) (extension kind) (IsAscii-map to_ascii_lowercase name lower_ascii (bytes_ascii name (grind arith))) (extension_ascii kind)
