-- What a comment that begins with `$` says.
use Rattle.std.specs.Prelude.{ℕ, Bool, true, false, not, ◌&&◌, ◌||◌, ◌==◌, nat_lt, nat_le, if◌then◌else◌, List, [], ◌∷◌, ◌++◌, codes, nat_eq, length, map, take, drop, slice_index, Option, Some, None}
use Rattle.std.specs.List.{prefix_len, before_first, after_first, list_any, list_all}
use Rattle.std.specs.Option.{option_and_then, option_map, option_map_or}
use Rattle.std.specs.Char.{to_ascii_lowercase, to_ascii_uppercase}
use Rattle.std.specs.Str.{is_utf8}
use Rattle.std.specs.Cmp.Lexicographic.{pointwise}
use Rattle.std.specs.Map.{lookup}
use Rattle.tp_lexer.specs.Characters.{is_blank}
use Rattle.tp_lexer.specs.Words.{name_of}
use Rattle.tp_lexer.specs.Numbers.{number_of}
use Rattle.tp_lexer.specs.declared.directive.Letter.{Letter}
use Rattle.tp_lexer.specs.declared.directive.Letter.TheVariants as l
use Rattle.tp_lexer.specs.declared.directive.Changes.{Changes}
use Rattle.tp_lexer.specs.declared.directive.Test.{Test}
use Rattle.tp_lexer.specs.declared.directive.Test.TheVariants as q
use Rattle.tp_lexer.specs.declared.directive.Directive.{Directive}
use Rattle.tp_lexer.specs.declared.directive.Directive.TheVariants as d
use Rattle.tp_lexer.specs.declared.directive.Keyword.{Keyword}
use Rattle.tp_lexer.specs.declared.directive.Keyword.TheVariants as k
use Rattle.tp_lexer.specs.declared.piece.Fault.TheVariants as f
use Rattle.tp_lexer.specs.declared.piece.Piece.{Piece}
use Rattle.tp_lexer.specs.declared.piece.Piece.TheVariants as p

-- the bytes up to the first blank
abbrev pub word_at : List ℕ → List ℕ
word_at bytes = take (prefix_len (λ c. not (is_blank c)) bytes) bytes

abbrev pub without_blanks : List ℕ → List ℕ
without_blanks bytes = drop (prefix_len is_blank bytes) bytes

-- what stands behind the word
abbrev pub after_word : List ℕ → List ℕ
after_word bytes = drop (prefix_len (λ c. not (is_blank c)) bytes) bytes

-- the next word; what stands behind it is a remark
abbrev pub argument : List ℕ → List ℕ
argument bytes = word_at (without_blanks bytes)

abbrev pub letters : List (ℕ × Letter)
letters = (65, l.A) ∷ (66, l.B) ∷ (68, l.D) ∷ (69, l.E) ∷ (70, l.F) ∷ (73, l.I) ∷ (76, l.L)
    ∷ (78, l.N) ∷ (79, l.O) ∷ (82, l.R) ∷ (83, l.S) ∷ (86, l.V) ∷ []

abbrev pub letter_of : ℕ → Option Letter
letter_of c = lookup (nat_eq (to_ascii_uppercase c)) letters

abbrev pub sign_of : ℕ → Option Bool
sign_of c = if c == 43 then Some true else (if c == 45 then Some false else None)

abbrev pub no_changes : Changes
no_changes = record { r = None; b = None; f = None; o = None; left_out = false }

-- I, V and N have one state that the profile has; the letters apart from these and R, B, F and O have no effect
abbrev pub changed : Changes → Letter → Bool → Changes
changed changes l.R on = record changes { r = Some on }
changed changes l.B on = record changes { b = Some on }
changed changes l.F on = record changes { f = Some on }
changed changes l.O on = record changes { o = Some on }
changed changes l.I on = record changes { left_out = changes.left_out || not on }
changed changes l.V on = record changes { left_out = changes.left_out || not on }
changed changes l.N on = record changes { left_out = changes.left_out || on }
changed changes letter on = changes

-- a letter and a sign
abbrev pub switched : Changes → ℕ → ℕ → Option Changes
switched changes c s = option_and_then (λ letter. option_map (changed changes letter) (sign_of s)) (letter_of c)

-- letters with their signs, with commas between them
abbrev pub changes_from : Changes → List ℕ → Option Changes
changes_from changes [] = None
changes_from changes (c ∷ []) = None
changes_from changes (c ∷ s ∷ []) = switched changes c s
changes_from changes (c ∷ s ∷ comma ∷ rest) =
    if comma == 44 then option_and_then (λ next. changes_from next rest) (switched changes c s) else None

-- a letter and a sign alone
abbrev pub option_of : List ℕ → Option Test
option_of bytes = if length bytes == 2
    then option_and_then (λ letter. option_map (q.Switched letter) (sign_of (slice_index bytes 1))) (letter_of (slice_index bytes 0))
    else None

-- the sizes of {$M}: the stack's, and the least and the greatest of the heap's
abbrev pub has_sizes : ℕ → ℕ → ℕ → Bool
has_sizes stack low high = nat_le 1024 stack && nat_le stack 65520 && nat_le low high && nat_le high 655360

abbrev pub sized : Option ℕ → Option ℕ → Option ℕ → Option Directive
sized (Some stack) (Some low) (Some high) =
    if has_sizes stack low high then Some (d.Memory stack high) else None
sized stack low high = None

abbrev pub is_comma : ℕ → Bool
is_comma c = c == 44

-- the word that stands alone between blanks, or nothing
abbrev pub lone : List ℕ → List ℕ
lone bytes = if list_all is_blank (after_word (without_blanks bytes)) then argument bytes else []

abbrev pub memory_of : List ℕ → Option Directive
memory_of bytes = sized (number_of (lone (before_first is_comma bytes)))
    (number_of (lone (before_first is_comma (after_first is_comma bytes))))
    (number_of (argument (after_first is_comma (after_first is_comma bytes))))

abbrev pub lower_case : List ℕ → List ℕ
lower_case bytes = map to_ascii_lowercase bytes

abbrev pub named : List ℕ → Option (List ℕ)
named text = if is_utf8 text && nat_le (length text) 80 then Some text else None

abbrev pub extension : List ℕ → List ℕ
extension bytes = if list_any (λ c. c == 46) bytes then [] else codes ".pas"

-- a file's name, in lower case, with .pas where it has no dot: text of at most 80 bytes
abbrev pub file_name_of : List ℕ → Option (List ℕ)
file_name_of bytes = if nat_lt 0 (length bytes) then named (lower_case bytes ++ extension bytes) else None

abbrev pub keywords : List (List ℕ × Keyword)
keywords = (codes "M", k.Memory) ∷ (codes "O", k.Overlaid) ∷ (codes "I", k.Include) ∷ (codes "L", k.Link)
    ∷ (codes "DEFINE", k.Define) ∷ (codes "UNDEF", k.Undefine) ∷ (codes "IFDEF", k.IfDefined)
    ∷ (codes "IFNDEF", k.IfUndefined) ∷ (codes "IFOPT", k.IfOption) ∷ (codes "ELSE", k.Else)
    ∷ (codes "ENDIF", k.EndIf) ∷ []

abbrev pub keyword_of : List ℕ → Option Keyword
keyword_of word = option_and_then (λ name. lookup (pointwise nat_eq name) keywords) (name_of word)

-- a directive by its word and by what stands behind it
abbrev pub keyed : Keyword → List ℕ → Option Directive
keyed k.Memory rest = memory_of rest
keyed k.Overlaid rest = option_map d.Overlaid (name_of (argument rest))
keyed k.Include rest = option_map d.Include (file_name_of (argument rest))
keyed k.Link rest = None
keyed k.Define rest = option_map d.Define (name_of (argument rest))
keyed k.Undefine rest = option_map d.Undefine (name_of (argument rest))
keyed k.IfDefined rest = option_map (λ n. d.If (q.Defined n)) (name_of (argument rest))
keyed k.IfUndefined rest = option_map (λ n. d.If (q.Undefined n)) (name_of (argument rest))
keyed k.IfOption rest = option_map d.If (option_of (argument rest))
keyed k.Else rest = Some d.Else
keyed k.EndIf rest = Some d.EndIf

abbrev pub or_bad : Option Directive → Piece
or_bad None = p.Fault f.BadDirective
or_bad (Some directive) = p.Directive directive

abbrev pub switches_piece : Changes → Piece
switches_piece changes = if changes.left_out then p.Fault f.LeftOut else p.Directive (d.Switches changes)

-- a file that is to be linked: where one is named, the profile leaves that out
abbrev pub link_piece : List ℕ → Piece
link_piece name = p.Fault (if nat_lt 0 (length name) then f.LeftOut else f.BadDirective)

abbrev pub keyword_piece : Option Keyword → List ℕ → Piece
keyword_piece None rest = p.Fault f.BadDirective
keyword_piece (Some k.Link) rest = link_piece (argument rest)
keyword_piece (Some keyword) rest = or_bad (keyed keyword rest)

-- the directive whose text, between `$` and the closer, this is
abbrev pub directive_piece : List ℕ → Piece
directive_piece body = option_map_or switches_piece (changes_from no_changes (word_at body))
    (keyword_piece (keyword_of (word_at body)) (after_word body))
