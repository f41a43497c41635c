-- The names of overlay files are ASCII.
use Rattle.std.proofs.Common.{◌≡◌, ℕ, ◌<◌, List, [], ◌∷◌, ◌++◌, codes, arith, true}
use Rattle.std.specs.List.{list_all}
use Rattle.std.specs.Str.{IsAscii}
use Rattle.std.proofs.lemmas.Str.{IsAscii-append}
use Rattle.std.proofs.lemmas.Str.Ascii.{IsAscii-nil, IsAscii-cons}
use Rattle.std.proofs.lemmas.Bool.{and_parts}
use Rattle.std.proofs.lemmas.Bool.Decides.{nat_tests}
use Rattle.type_layout.specs.Words.{IsName, is_name_byte}

byte-ascii : (c : ℕ) → is_name_byte c ≡ true → c < 128
byte-ascii c h = grind (arith, nat_tests)

bytes-ascii : (bytes : List ℕ) → list_all is_name_byte bytes ≡ true → IsAscii bytes
bytes-ascii [] h = IsAscii-nil
bytes-ascii (b ∷ bs) h =
    let both = and_parts (is_name_byte b) (list_all is_name_byte bs) h in
    IsAscii-cons b bs (byte-ascii b both.0) (bytes-ascii bs both.1)

extension-ascii : IsAscii (codes ".OVR")
extension-ascii =
    IsAscii-cons 46 (79 ∷ 86 ∷ 82 ∷ []) (omega arith) (IsAscii-cons 79 (86 ∷ 82 ∷ []) (omega arith) (IsAscii-cons 86 (82 ∷ []) (omega arith) (IsAscii-cons 82 [] (omega arith) IsAscii-nil)))

pub overlay_ascii : (name : List ℕ) → IsName name → IsAscii (name ++ codes ".OVR")
overlay_ascii name h = IsAscii-append name (codes ".OVR") (bytes-ascii name (grind arith)) extension-ascii
