-- The texts that words ask for.
use Rattle.std.specs.Prelude.{◌≡◌, ◌⊎◌, ℕ, List, ◌++◌, codes}
use Rattle.command_line.specs.Words.{IsHelp, IsVersion}

unfoldable pub help_text : List ℕ
help_text =
    codes "Usage: tp go NAME [--buffer P] [--limit N] [--retry P]\n"
    ++ codes "       tp mean NAME [--turns N]\n"
    ++ codes "       tp run NAME [--buffer P] [--limit N] [--retry P]\n"
    ++ codes "       tp --help\n"
    ++ codes "       tp --version\n\n"
    ++ codes "go   reads name.pas and its units, writes name.exe, with name.ovr if it has\n"
    ++ codes "     overlays, and runs it\n"
    ++ codes "mean reads name.pas and its units, and shows what the program means\n"
    ++ codes "run  runs name.exe, with name.ovr if it has overlays\n\n"
    ++ codes "The program reads standard input, which Ctrl-D ends at a terminal; mean\n"
    ++ codes "reads it to its end before the program begins.\n\n"
    ++ codes "--buffer P  the overlay buffer in paragraphs of 16 bytes, up to 40960\n"
    ++ codes "            (default: as large as the largest overlay)\n"
    ++ codes "--limit N   stop after N instructions (default: 1000000000)\n"
    ++ codes "--turns N   stop after N turns of loops and calls (default: 1000000)\n"
    ++ codes "--retry P   keep up to P paragraphs of overlays in use (default: 0)\n\n"
    ++ codes "The exit status is that of the program. Where it did not end by itself,\n"
    ++ codes "a line on standard error says why, and the status is 249 for an act that\n"
    ++ codes "the language leaves open, 250 and 251 at the limits, 252 for a refusal,\n"
    ++ codes "253 where the machine stopped, 254 for a fault of a file or a stream, and\n"
    ++ codes "255 for want of memory.\n\n"
    ++ codes "docs/usage.md says what each line means and what helps, docs/language.md\n"
    ++ codes "what the language is, and examples/ has programs.\n"

unfoldable pub version_text : List ℕ
version_text = codes "tp 0.1, proved and built by rattle-kit-13f\n"

-- The words ask for this text.
abbrev pub IsTextOf : List (List ℕ) → List ℕ → Type 0
IsTextOf words text = (IsHelp words × (text ≡ help_text)) ⊎ (IsVersion words × (text ≡ version_text))
